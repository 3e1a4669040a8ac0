-- A port does what a stage asks of it: call by call.
use Rattle.std.proofs.Common.{◌++◌, ◌<◌, ◌∙◌, ◌∷◌, ◌≡◌, Bool, List, [], ap, false, inl, inr}
use Rattle.std.proofs.Common.{length, refl, subst, suc, sym, true, ℕ}
use Rattle.std.proofs.lemmas.List.Folds.{list_any-append}
use Rattle.std.specs.List.{list_any}
use Rattle.std.specs.Prelude.{◌||◌}
use Rattle.packet_entry.specs.declared.letter.Letter.{Letter}
use Rattle.packet_entry.specs.declared.packet.Card.{Card}
use Rattle.netlink_codec.specs.Messages.{NetlinkMessage}
use Rattle.nfqa_msgs.specs.RequestReading.{AskedFits, decoded}
use Rattle.nfqa_msgs.specs.declared.request.Decoded.{Decoded}
use Rattle.nfqa_msgs.specs.declared.request.Decoded.TheVariants.{Asked, Nothing, Refused}
use Rattle.hook_chain.specs.declared.chain.Decision.{Decision}
use Rattle.queue_core.specs.declared.event.Event.{Event}
use Rattle.queue_core.specs.declared.event.Event.TheVariants.{Arrive, Ask, DeviceDown, PortClosed}
use Rattle.histories.specs.declared.entry.Entry.{Entry}
use Rattle.histories.specs.declared.log.AskWords.{AskWords}
use Rattle.histories.specs.declared.log.Did.{Did}
use Rattle.histories.specs.Logs.{is_received}
use Rattle.packet_moves.specs.Calls.{next_call}
use Rattle.script_lines.specs.declared.ask.Ask.TheVariants.{Words}
use Rattle.inspector_script.specs.Scripts.{ScriptValue}
use Rattle.run_parts.specs.Datagrams.{AsksWell, bytes_of, messages_in}
use Rattle.run_parts.specs.Log.{Begun, Due, Got, Message, Note, Spoke, Still, Turned, all_due}
use Rattle.run_parts.specs.Log.{answer_to, is_pool}
use Rattle.nfqa_msgs.specs.NoticeTexts.{fits, told_exactly}
use Rattle.run_parts.specs.Notices.{heard}
use Rattle.run_parts.specs.Order.{Ends, Opens, kind_at, kind_by}
use Rattle.run_parts.specs.Ports.{place_in}
use Rattle.live_runs.specs.Calls.{IsHandedOn, IsLaterEvent, asked, found_by, handed_by, place_of}
use Rattle.live_runs.specs.Doing.{HasHeard, IsAnswering, IsDoing, IsQuiet}
use Rattle.live_runs.specs.Owners.{IsAskingEvent, IsAskingOf}
use Rattle.live_runs.specs.Passes.{CarriesOut, Pass, Receives, Speaks}
use Rattle.live_runs.specs.Ports.{IsPort}
use Rattle.live_runs.specs.Seen.{Grows, IsNone, Seen, Shares}
use Rattle.live_runs.specs.Stages.{Ending, IsRanked, MaySpeak, Opening, Stage, Working, early_of}
use Rattle.live_runs.specs.Stages.{late_of}
use Rattle.live_runs.specs.Stands.{AtEnd, Now, Side, Stand, answering, cut_side, cut_then, full}
use Rattle.live_runs.specs.Stands.{side}
use Rattle.live_runs.proofs.StageNotes.{adds_nothing, adds_quiet, adds_spoke}
use Rattle.live_runs.proofs.LowerLaws.{ClosingLaws, Conserve, LogLaws}
use Rattle.live_runs.proofs.Marks.{grows_as, grows_on, none_is, same_grows, turn_grows}
use Rattle.live_runs.proofs.OnePlace.{here_and_elsewhere}
use Rattle.live_runs.proofs.PortNotes.{begins, gets, speaks, turns}
use Rattle.live_runs.proofs.StageEntries.{answers_here, ends_here, opens_here}
use Rattle.live_runs.proofs.EmptyQueues.{quiet_asks, quiet_grows, quiet_same}

-- ---- what it appends

later_asking : (port : ℕ) (event : Event) → IsLaterEvent event → IsAskingEvent port event
later_asking port (Arrive card bypass room) later = later
later_asking port (Ask by call r) later = absurd later
later_asking port (PortClosed closed) later = absurd later
later_asking port (DeviceDown device) later = absurd later

handed_asking : (port : ℕ) (hs : List (Card × Decision)) (e : Entry) → IsHandedOn hs e →
    IsAskingOf port e
handed_asking port [] e on = absurd on
handed_asking port (h ∷ hs) e on = later_asking port e.event on

carried_grows : (places port call errno : ℕ) (d : Decoded) (old new : Shares) → AskedFits d →
    CarriesOut places port call d errno old new → (k : ℕ) →
    Grows (IsAskingOf port) (old k) (new k)
carried_grows places port call errno Nothing old new fits c k =
    same_grows (IsAskingOf port) (old k) (new k) (c.1 k)
carried_grows places port call errno (Refused refusal) old new fits c k =
    same_grows (IsAskingOf port) (old k) (new k) (c.1 k)
carried_grows places port call errno (Asked r) old new fits c k =
    here_and_elsewhere (λ j. Grows (IsAskingOf port) (old j) (new j)) here
    (grows_on (IsAskingOf port) (old here) c.between (new here)
    (turn_grows (IsAskingOf port) c.others (asked port call r es ∷ []) (old here) c.between c.turn
    ((refl, fits), tt))
    (handed c.between (new here) c.here))
    (λ j other. handed (old j) (new j) (c.elsewhere j other)) k
  where
    here : ℕ
    here = place_of places r

    es : List Entry
    es = found_by places r old c.others

    handed : (xs ys : List Seen) → Grows (IsHandedOn (handed_by port call r es)) xs ys →
        Grows (IsAskingOf port) xs ys
    handed xs ys = grows_as (IsHandedOn (handed_by port call r es)) (IsAskingOf port)
        (handed_asking port (handed_by port call r es)) xs ys

carried_quiet : Conserve → (places port call errno : ℕ) (d : Decoded) (old mid new : Shares) →
    0 < places → IsQuiet places old mid → CarriesOut places port call d errno mid new →
    IsQuiet places old new
carried_quiet conserve places port call errno Nothing old mid new some o c =
    quiet_grows places old mid new o (λ k. same_grows IsNone (mid k) (new k) (c.1 k))
carried_quiet conserve places port call errno (Refused refusal) old mid new some o c =
    quiet_grows places old mid new o (λ k. same_grows IsNone (mid k) (new k) (c.1 k))
carried_quiet conserve places port call errno (Asked r) old mid new some o c =
    quiet_asks conserve places port call errno r old mid new some o c

-- ---- what it has heard

or_so : (b c : Bool) → b ≡ true → (b || c) ≡ true
or_so true c is = refl
or_so false c is = absurd (cc)

or_last : (b : Bool) → (b || true) ≡ true
or_last true = refl
or_last false = refl

or_none : (b c : Bool) → b ≡ false → c ≡ false → (b || c) ≡ false
or_none true c one two = absurd (cc)
or_none false c one two = two

heard_then : (stage : Stage) → IsAnswering stage → (t : Stand) (dids : List Did) →
    list_any is_received dids ≡ true → HasHeard stage t dids
heard_then (Opening place) answers t dids is = absurd answers
heard_then Working answers t dids is = inr is
heard_then (Ending place) answers t dids is = inr is

-- the kind of a message that it may send
kind_due : (stage : Stage) (ports : List ℕ) (port : ℕ) (x : Side) (m : NetlinkMessage)
    (ds : List Due) (fresh : Bool) (dids : List Did) → MaySpeak ports port stage x →
    HasHeard stage (cut_side x (Message m ∷ ds) fresh) dids →
    IsRanked ports (early_of ports stage) (late_of stage) port
    (kind_at (full dids (cut_side x (Message m ∷ ds) fresh)))
kind_due (Opening place) ports port (Now groups ends) m ds fresh dids may is =
    subst (λ b. IsRanked ports place 0 port (kind_by (Message m ∷ ds) b)) (sym is)
    (subst (λ n. IsRanked ports n 0 port Opens) (sym may) (opens_here ports port))
kind_due (Opening place) ports port (AtEnd groups) m ds fresh dids may is = absurd may
kind_due Working ports port (Now groups ends) m ds fresh dids may (inl none) =
    let wrong = none.0 in absurd (cc)
kind_due Working ports port (Now groups ends) m ds fresh dids may (inr is) =
    subst (λ b. IsRanked ports (length ports) 0 port (kind_by (Message m ∷ ds) b)) (sym is)
    (answers_here ports 0 port)
kind_due Working ports port (AtEnd groups) m ds fresh dids may is = absurd may
kind_due (Ending place) ports port (Now groups ends) m ds fresh dids may (inl none) =
    let wrong = none.0 in absurd (cc)
kind_due (Ending place) ports port (Now groups ends) m ds fresh dids may (inr is) =
    subst (λ b. IsRanked ports (length ports) (suc place) port (kind_by (Message m ∷ ds) b))
    (sym is) (answers_here ports (suc place) port)
kind_due (Ending place) ports port (AtEnd groups) m ds fresh dids may is =
    subst (λ n. IsRanked ports (length ports) (suc n) port Ends) (sym may) (ends_here ports port)

-- it has sent a message: what it has heard stays
heard_sent : (stage : Stage) (x : Side) (m : NetlinkMessage) (ds : List Due) (fresh : Bool)
    (dids more : List Did) → list_any is_received more ≡ false →
    HasHeard stage (cut_side x (Message m ∷ ds) fresh) dids → (ports : List ℕ) (port : ℕ) →
    MaySpeak ports port stage x → HasHeard stage (side x ds) (dids ++ more)
heard_sent (Opening place) x m ds fresh dids more none is ports port may =
    list_any-append is_received dids more ∙ or_none (list_any is_received dids) _ is none
heard_sent Working (Now groups ends) m ds fresh dids more none (inl wrong) ports port may =
    let no_way = wrong.0 in absurd (cc)
heard_sent Working (Now groups ends) m ds fresh dids more none (inr is) ports port may =
    inr (list_any-append is_received dids more ∙ or_so (list_any is_received dids) _ is)
heard_sent Working (AtEnd groups) m ds fresh dids more none is ports port may = absurd may
heard_sent (Ending place) (Now groups ends) m ds fresh dids more none (inl wrong) ports port may =
    let no_way = wrong.0 in absurd (cc)
heard_sent (Ending place) (Now groups ends) m ds fresh dids more none (inr is) ports port may =
    inr (list_any-append is_received dids more ∙ or_so (list_any is_received dids) _ is)
heard_sent (Ending place) (AtEnd groups) m ds fresh dids more none (inl idle_so) ports port may =
    inl idle_so
heard_sent (Ending place) (AtEnd groups) m ds fresh dids more none (inr is) ports port may =
    inr (list_any-append is_received dids more ∙ or_so (list_any is_received dids) _ is)

heard_begun : (stage : Stage) (x : Side) (words : AskWords) (ms : List NetlinkMessage)
    (ds : List Due) (dids : List Did) →
    HasHeard stage (side x (Still (Words words) ∷ ds)) dids →
    HasHeard stage (cut_then x ms ds) dids
heard_begun (Opening place) x words ms ds dids is = is
heard_begun Working (Now groups ends) words ms ds dids (inl wrong) =
    let no_way = wrong.0 in absurd (cc)
heard_begun Working (Now groups ends) words ms ds dids (inr is) = inr is
heard_begun Working (AtEnd groups) words ms ds dids (inl none) = inl none
heard_begun Working (AtEnd groups) words ms ds dids (inr is) = inr is
heard_begun (Ending place) (Now groups ends) words ms ds dids (inl wrong) =
    let no_way = wrong.0 in absurd (cc)
heard_begun (Ending place) (Now groups ends) words ms ds dids (inr is) = inr is
heard_begun (Ending place) (AtEnd groups) words ms ds dids (inl none) = inl none
heard_begun (Ending place) (AtEnd groups) words ms ds dids (inr is) = inr is

heard_turned : (stage : Stage) (group : List Due) (groups : List (List Due)) (ends : List Due)
    (dids : List Did) → HasHeard stage (side (Now (group ∷ groups) ends) []) dids →
    HasHeard stage (side (Now groups ends) group) dids
heard_turned (Opening place) group groups ends dids is = is
heard_turned Working group groups ends dids (inl wrong) = let no_way = wrong.1 in absurd (cc)
heard_turned Working group groups ends dids (inr is) = inr is
heard_turned (Ending place) group groups ends dids (inl wrong) =
    let no_way = wrong.1 in absurd (cc)
heard_turned (Ending place) group groups ends dids (inr is) = inr is

module _ (logs : LogLaws) (laws : ClosingLaws) (conserve : Conserve) (workers : ℕ)
    (script : ScriptValue) (places : ℕ) (stage : Stage) (port : ℕ) (was : List Note)
    (start_at : Pass) where
  abbrev place : ℕ
  place = place_in port script.ports

  abbrev early : ℕ
  early = early_of script.ports stage

  abbrev late : ℕ
  late = late_of stage

  abbrev At : Stand → Pass → Type 0
  At t pass = IsDoing workers script places stage port was start_at t pass

  -- from a meeting on
  pub begins_doing : (t : Stand) → HasHeard stage t start_at.dids →
      IsPort workers script places port was t start_at → At t start_at
  begins_doing t heard is = record {
    notes = was;
    is = is;
    adds = adds_nothing workers script early late port was;
    has_heard = heard;
    grows = λ k. same_grows (IsAskingOf port) (start_at.shares k) (start_at.shares k) refl;
    quiet = quiet_same places start_at.shares start_at.shares (λ k. refl);
  }

  on : (old new : Pass) → ((k : ℕ) → Grows (IsAskingOf port) (old.shares k) (new.shares k)) →
      ((k : ℕ) → Grows (IsAskingOf port) (start_at.shares k) (old.shares k)) → (k : ℕ) →
      Grows (IsAskingOf port) (start_at.shares k) (new.shares k)
  on old new one two k =
      grows_on (IsAskingOf port) (start_at.shares k) (old.shares k) (new.shares k) (two k) (one k)

  -- a notice is received
  pub doing_gets : (groups : List (List Due)) (ends : List Due) (l : Letter) (old new : Pass) →
      IsAnswering stage → Receives l old new → At (side (Now groups ends) []) old →
      At (answering workers groups ends
      (all_due (answer_to script place new.dids (told_exactly l.bytes)))) new
  doing_gets groups ends l old new answers r a = record {
    notes = a.notes ++ Got l ∷ [];
    is = gets logs laws workers script places port a.notes groups ends l old new r a.is;
    adds = adds_quiet workers script early late port was a.notes (Got l) (λ queue. refl) a.adds;
    has_heard = heard_then stage answers _ new.dids (ap (list_any is_received) r.logged
        ∙ list_any-append is_received old.dids _ ∙ or_last (list_any is_received old.dids));
    grows = on old new (λ k. grows_as IsNone (IsAskingOf port) (none_is (IsAskingOf port))
        (old.shares k) (new.shares k) (r.shares k)) a.grows;
    quiet = quiet_grows places start_at.shares old.shares new.shares a.quiet r.shares;
  }

  -- it turns to the answers that wait first
  pub doing_turns : (group : List Due) (groups : List (List Due)) (ends : List Due)
      (pass : Pass) → is_pool workers ≡ true → At (side (Now (group ∷ groups) ends) []) pass →
      At (side (Now groups ends) group) pass
  doing_turns group groups ends pass pool a = record {
    notes = a.notes ++ Turned ∷ [];
    is = turns logs laws workers script places port a.notes group groups ends pass pool a.is;
    adds = adds_quiet workers script early late port was a.notes Turned (λ queue. refl) a.adds;
    has_heard = heard_turned stage group groups ends pass.dids a.has_heard;
    grows = a.grows;
    quiet = a.quiet;
  }

  -- an ask is taken up
  pub doing_begins : (x : Side) (words : AskWords) (ds : List Due) (pass : Pass) →
      At (side x (Still (Words words) ∷ ds)) pass →
      At (cut_then x (messages_in (bytes_of port (next_call pass.dids) words)) ds) pass
  doing_begins x words ds pass a = record {
    notes = a.notes ++ Begun ∷ [];
    is = begins logs laws workers script places port a.notes x words ds pass a.is;
    adds = adds_quiet workers script early late port was a.notes Begun (λ queue. refl) a.adds;
    has_heard = heard_begun stage x words
        (messages_in (bytes_of port (next_call pass.dids) words)) ds pass.dids a.has_heard;
    grows = a.grows;
    quiet = a.quiet;
  }

  -- a message is sent
  pub doing_speaks : (x : Side) (m : NetlinkMessage) (errno : ℕ) (ds : List Due) (fresh : Bool)
      (old new : Pass) → 0 < places → AsksWell m → MaySpeak script.ports port stage x →
      Speaks places port m errno old new → At (cut_side x (Message m ∷ ds) fresh) old →
      At (side x ds) new
  doing_speaks x m errno ds fresh old new some fits may s a = record {
    notes = a.notes ++ Spoke (next_call old.dids) m errno ∷ [];
    is = speaks logs laws workers script places port a.notes x m errno ds fresh old new s a.is;
    adds = adds_spoke workers script early late port was a.notes
        (Spoke (next_call old.dids) m errno)
        (kind_at (full old.dids (cut_side x (Message m ∷ ds) fresh)))
        (ap kind_at a.is.stands)
        (kind_due stage script.ports port x m ds fresh old.dids may a.has_heard) a.adds;
    has_heard = subst (HasHeard stage (side x ds)) (sym s.logged)
        (heard_sent stage x m ds fresh old.dids _ refl a.has_heard script.ports port may);
    grows = on old new (carried_grows places port (next_call old.dids) errno (decoded m)
        old.shares new.shares fits s.carried) a.grows;
    quiet = carried_quiet conserve places port (next_call old.dids) errno (decoded m)
        start_at.shares old.shares new.shares some a.quiet s.carried;
  }
