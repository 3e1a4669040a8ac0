-- A port does what is next: call by call.
use Rattle.std.proofs.Common.{◌++◌, ◌<◌, ◌∙◌, ◌∷◌, ◌≡◌, Bool, List, [], ap, append-nil}
use Rattle.std.proofs.Common.{false, refl, subst, sym, true, ℕ}
use Rattle.std.proofs.Math.Nat.{mod-lt}
use Rattle.std.proofs.lemmas.List.Concat.{flat_map-append}
use Rattle.std.specs.Prelude.{flat_map, if◌then◌else◌, map, not}
use Rattle.packet_entry.specs.declared.letter.Letter.{Letter}
use Rattle.packet_entry.specs.declared.packet.Card.{Card}
use Rattle.netlink_codec.specs.Messages.{NetlinkMessage}
use Rattle.nfqa_msgs.specs.RequestReading.{decoded}
use Rattle.nfqa_msgs.specs.declared.request.Decoded.{Decoded}
use Rattle.nfqa_msgs.specs.declared.request.Decoded.TheVariants.{Asked, Nothing, Refused}
use Rattle.hook_chain.specs.declared.chain.Decision.{Decision}
use Rattle.histories.specs.declared.entry.Entry.{Entry}
use Rattle.histories.specs.declared.log.AskWords.{AskWords}
use Rattle.histories.specs.declared.log.Did.{Did}
use Rattle.histories.specs.Places.{place_for}
use Rattle.packet_moves.specs.Calls.{next_call}
use Rattle.script_lines.specs.declared.ask.Ask.TheVariants.{Close, Words}
use Rattle.inspector_script.specs.Scripts.{ScriptValue}
use Rattle.run_parts.specs.Datagrams.{bytes_of, messages_in}
use Rattle.run_parts.specs.Log.{Begun, Due, Got, IsNext, Message, Note, Shut, Spoke, Still, Turned}
use Rattle.run_parts.specs.Log.{after, all_due, answer_to, dids_by, is_pool, start}
use Rattle.nfqa_msgs.specs.NoticeTexts.{told_exactly}
use Rattle.run_parts.specs.Notices.{heard, heard_by}
use Rattle.run_parts.specs.Ports.{place_in}
use Rattle.run_parts.specs.Requests.{AreErrnos, IsErrno, pleas_told}
use Rattle.live_runs.specs.Calls.{IsHandedOn, asked, found_by, handed_by, place_of}
use Rattle.live_runs.specs.Owners.{AreEven, IsNotBy, IsShutting}
use Rattle.live_runs.specs.Passes.{CarriesOut, Pass, Receives, Shuts, Speaks}
use Rattle.live_runs.specs.Ports.{IsPort}
use Rattle.live_runs.specs.Seen.{Grows, IsNone, Seen, Shares, all_theirs}
use Rattle.live_runs.specs.Stands.{AtEnd, Now, Side, Stand, answering, cut_side, cut_then, full}
use Rattle.live_runs.specs.Stands.{shut_stand, side}
use Rattle.live_runs.proofs.Closings.{asks_shutting, grown_shutting, shuts_shutting}
use Rattle.live_runs.proofs.LowerLaws.{ClosingLaws, LogLaws}
use Rattle.live_runs.proofs.Marks.{grows_as, met_grows, none_is, same_grows}
use Rattle.live_runs.proofs.OnePlace.{here_and_elsewhere}
use Rattle.live_runs.proofs.RequestCounts.{asks_even, grown_even, handed_not_by, one_told}
use Rattle.live_runs.proofs.RequestCounts.{shuts_even}

-- a note that asks nothing
quiet_even : (places port : ℕ) (old new : Shares) (notes : List Note) (n : Note) →
    ((queue : ℕ) → pleas_told queue n ≡ []) → ((k : ℕ) → Grows (IsNotBy port) (old k) (new k)) →
    AreEven places port old notes → AreEven places port new (notes ++ n ∷ [])
quiet_even places port old new notes n none grows is = record {
  each = λ queue. record {
    even = λ guard. (grown_even port queue (old (place_for queue places))
        (new (place_for queue places)) notes
        (grows (place_for queue places)) (is.each queue)).even guard
        ∙ sym (append-nil (flat_map (pleas_told queue) notes))
        ∙ ap (λ ps. flat_map (pleas_told queue) notes ++ ps) (sym (none queue))
        ∙ sym (one_told queue notes n);
  };
}

one_heard : (notes : List Note) (n : Note) → heard (notes ++ n ∷ []) ≡ heard notes ++ heard_by n
one_heard notes n = flat_map-append heard_by notes (n ∷ [])
    ∙ ap (λ ls. heard notes ++ ls) (append-nil (heard_by n))

one_errno : (notes : List Note) (n : Note) → AreErrnos notes → AreErrnos (n ∷ []) →
    AreErrnos (notes ++ n ∷ [])
one_errno [] n are one = one
one_errno (Got l ∷ notes) n are one = one_errno notes n are one
one_errno (Turned ∷ notes) n are one = one_errno notes n are one
one_errno (Begun ∷ notes) n are one = one_errno notes n are one
one_errno (Spoke call m errno ∷ notes) n are one = (are.0, one_errno notes n are.1 one)
one_errno (Shut ∷ notes) n are one = one_errno notes n are one

module _ (logs : LogLaws) (laws : ClosingLaws) (workers : ℕ) (script : ScriptValue)
    (places port : ℕ) where
  abbrev place : ℕ
  place = place_in port script.ports

  -- it does one thing more
  push : (notes : List Note) (t u : Stand) (old new : Pass) (n : Note) →
      IsPort workers script places port notes t old → IsNext workers (full old.dids t) n →
      after workers script place port (full old.dids t) n ≡ full new.dids u →
      old.letters ++ heard_by n ≡ new.letters → AreErrnos (n ∷ []) →
      AreEven places port new.shares (notes ++ n ∷ []) →
      ((k : ℕ) → k < places → IsShutting port (not u.is_open) (new.shares k)) →
      IsPort workers script places port (notes ++ n ∷ []) u new
  push notes t u old new n is may leads letters errno even shutting = record {
    next = logs.next workers script place port (start script place) notes n is.next
        (subst (λ v. IsNext workers v n) (sym is.stands) may);
    stands = logs.stands workers script place port (start script place) notes n
        ∙ ap (λ v. after workers script place port v n) is.stands ∙ leads;
    heard_so = one_heard notes n ∙ ap (λ ls. ls ++ heard_by n) is.heard_so ∙ letters;
    errnos = one_errno notes n is.errnos errno;
    even = even;
    shutting = shutting;
  }

  -- a note that asks nothing, of a call that appends nothing
  same_even : (notes : List Note) (n : Note) → ((queue : ℕ) → pleas_told queue n ≡ []) →
      (pass : Pass) → AreEven places port pass.shares notes →
      AreEven places port pass.shares (notes ++ n ∷ [])
  same_even notes n none pass even =
      quiet_even places port pass.shares pass.shares notes n none
      (λ k. same_grows (IsNotBy port) (pass.shares k) (pass.shares k) refl) even

  -- ---- a notice is received, and its answers are due or wait

  answers_to : List Did → Letter → List Due
  answers_to dids l = all_due (answer_to script place dids (told_exactly l.bytes))

  answering_open : (groups : List (List Due)) (ends answers : List Due) →
      (answering workers groups ends answers).is_open ≡ true
  answering_open groups ends answers = by (is_pool workers)
    where
      by : (c : Bool) → (if c then side (Now (groups ++ answers ∷ []) ends) []
          else side (Now groups ends) answers).is_open ≡ true
      by true = refl
      by false = refl

  got_leads : (groups : List (List Due)) (ends : List Due) (l : Letter) (old new : Pass) →
      Receives l old new →
      after workers script place port (full old.dids (side (Now groups ends) [])) (Got l)
      ≡ full new.dids (answering workers groups ends (answers_to new.dids l))
  unfolding answers_to
  got_leads groups ends l old new r =
      subst (λ ds. after workers script place port (full old.dids (side (Now groups ends) []))
      (Got l) ≡ full ds (answering workers groups ends
      (all_due (answer_to script place ds (told_exactly l.bytes)))))
      (sym r.logged) (by (is_pool workers))
    where
      u : List Did
      u = old.dids ++ dids_by port (Got l)

      due : List Due
      due = all_due (answer_to script place u (told_exactly l.bytes))

      by : (c : Bool) →
          (if c
          then record (full u (side (Now groups ends) [])) { pending = groups ++ due ∷ [] }
          else record (full u (side (Now groups ends) [])) { owed = due })
          ≡ full u (if c then side (Now (groups ++ due ∷ []) ends) []
          else side (Now groups ends) due)
      by true = refl
      by false = refl

  pub gets : (notes : List Note) (groups : List (List Due)) (ends : List Due) (l : Letter)
      (old new : Pass) → Receives l old new →
      IsPort workers script places port notes (side (Now groups ends) []) old →
      IsPort workers script places port (notes ++ Got l ∷ [])
      (answering workers groups ends
      (all_due (answer_to script place new.dids (told_exactly l.bytes)))) new
  unfolding answers_to
  gets notes groups ends l old new r is = push notes (side (Now groups ends) [])
      (answering workers groups ends
      (all_due (answer_to script place new.dids (told_exactly l.bytes)))) old new
      (Got l) is (refl, refl, refl) (got_leads groups ends l old new r) (sym r.letters) tt
      (quiet_even places port old.shares new.shares notes (Got l) (λ queue. refl)
      (λ k. quiet k) is.even)
      (λ k below. subst (λ b. IsShutting port (not b) (new.shares k))
      (sym (answering_open groups ends
      (all_due (answer_to script place new.dids (told_exactly l.bytes)))))
      (grown_shutting laws port false (old.shares k) (new.shares k) (quiet k)
      (is.shutting k below)))
    where
      quiet : (k : ℕ) → Grows (IsNotBy port) (old.shares k) (new.shares k)
      quiet k = grows_as IsNone (IsNotBy port) (none_is (IsNotBy port)) (old.shares k)
          (new.shares k) (r.shares k)

  -- ---- it turns to the answers that wait first

  pub turns : (notes : List Note) (group : List Due) (groups : List (List Due))
      (ends : List Due) (pass : Pass) → is_pool workers ≡ true →
      IsPort workers script places port notes (side (Now (group ∷ groups) ends) []) pass →
      IsPort workers script places port (notes ++ Turned ∷ []) (side (Now groups ends) group) pass
  turns notes group groups ends pass pool is =
      push notes (side (Now (group ∷ groups) ends) []) (side (Now groups ends) group) pass pass
      Turned is (pool, refl, refl, refl, refl) refl (append-nil pass.letters) tt
      (same_even notes Turned (λ queue. refl) pass is.even) is.shutting

  begun_leads : (dids : List Did) (x : Side) (words : AskWords) (ds : List Due) →
      after workers script place port (full dids (side x (Still (Words words) ∷ ds))) Begun
      ≡ full dids (cut_then x (messages_in (bytes_of port (next_call dids) words)) ds)
  begun_leads dids (Now groups ends) words ds = refl
  begun_leads dids (AtEnd groups) words ds = refl

  begun_may : (dids : List Did) (x : Side) (words : AskWords) (ds : List Due) →
      IsNext workers (full dids (side x (Still (Words words) ∷ ds))) Begun
  begun_may dids (Now groups ends) words ds = (refl, tt)
  begun_may dids (AtEnd groups) words ds = (refl, tt)

  is_open_so : (x : Side) (ds : List Due) → (side x ds).is_open ≡ true
  is_open_so (Now groups ends) ds = refl
  is_open_so (AtEnd groups) ds = refl

  -- an ask is taken up
  pub begins : (notes : List Note) (x : Side) (words : AskWords) (ds : List Due) (pass : Pass) →
      IsPort workers script places port notes (side x (Still (Words words) ∷ ds)) pass →
      IsPort workers script places port (notes ++ Begun ∷ [])
      (cut_then x (messages_in (bytes_of port (next_call pass.dids) words)) ds) pass
  begins notes x words ds pass is =
      push notes (side x (Still (Words words) ∷ ds))
      (cut_then x (messages_in (bytes_of port (next_call pass.dids) words)) ds) pass pass Begun is
      (begun_may pass.dids x words ds) (begun_leads pass.dids x words ds)
      (append-nil pass.letters) tt (same_even notes Begun (λ queue. refl) pass is.even)
      (λ k below. subst (λ b. IsShutting port (not b) (pass.shares k))
      (is_open_so x (Still (Words words) ∷ ds)
      ∙ sym (is_open_so x (map Message (messages_in (bytes_of port (next_call pass.dids) words))
      ++ ds))) (is.shutting k below))

  spoke_leads : (old new : Pass) (m : NetlinkMessage) (errno : ℕ) (x : Side) (ds : List Due)
      (fresh : Bool) → Speaks places port m errno old new →
      after workers script place port (full old.dids (cut_side x (Message m ∷ ds) fresh))
      (Spoke (next_call old.dids) m errno) ≡ full new.dids (side x ds)
  spoke_leads old new m errno (Now groups ends) ds fresh s =
      ap (λ d. full d (side (Now groups ends) ds)) (sym s.logged)
  spoke_leads old new m errno (AtEnd groups) ds fresh s =
      ap (λ d. full d (side (AtEnd groups) ds)) (sym s.logged)

  spoke_may : (dids : List Did) (x : Side) (m : NetlinkMessage) (ds : List Due) (errno : ℕ)
      (fresh : Bool) →
      IsNext workers (full dids (cut_side x (Message m ∷ ds) fresh))
      (Spoke (next_call dids) m errno)
  spoke_may dids (Now groups ends) m ds errno fresh = (refl, refl, refl)
  spoke_may dids (AtEnd groups) m ds errno fresh = (refl, refl, refl)

  errno_so : (call errno : ℕ) (d : Decoded) (old new : Shares) →
      CarriesOut places port call d errno old new → IsErrno d errno
  errno_so call errno Nothing old new c = c.0
  errno_so call errno (Refused refusal) old new c = c.0
  errno_so call errno (Asked r) old new c = tt

  carried_even : (call errno : ℕ) (m : NetlinkMessage) (d : Decoded) (old new : Shares)
      (notes : List Note) → decoded m ≡ d → CarriesOut places port call d errno old new →
      AreEven places port old notes →
      AreEven places port new (notes ++ Spoke call m errno ∷ [])
  carried_even call errno m Nothing old new notes is c even =
      quiet_even places port old new notes (Spoke call m errno) (λ queue. rw is refl)
      (λ k. same_grows (IsNotBy port) (old k) (new k) (c.1 k)) even
  carried_even call errno m (Refused refusal) old new notes is c even =
      quiet_even places port old new notes (Spoke call m errno) (λ queue. rw is refl)
      (λ k. same_grows (IsNotBy port) (old k) (new k) (c.1 k)) even
  carried_even call errno m (Asked r) old new notes is c even =
      asks_even places port call errno r notes old new c even m is

  carried_shutting : (call errno : ℕ) (d : Decoded) (old new : Shares) →
      CarriesOut places port call d errno old new → (k : ℕ) → IsShutting port false (old k) →
      IsShutting port false (new k)
  carried_shutting call errno Nothing old new c k is =
      subst (IsShutting port false) (sym (c.1 k)) is
  carried_shutting call errno (Refused refusal) old new c k is =
      subst (IsShutting port false) (sym (c.1 k)) is
  carried_shutting call errno (Asked r) old new c k is =
      here_and_elsewhere (λ j. IsShutting port false (old j) → IsShutting port false (new j)) here
      (λ was. grown_shutting laws port false c.between (new here)
      (others c.between (new here) c.here)
      (asks_shutting laws port c.others (asked port call r es) (old here) c.between c.turn refl
      was))
      (λ j other. grown_shutting laws port false (old j) (new j) (others (old j) (new j)
      (c.elsewhere j other))) k is
    where
      here : ℕ
      here = place_of places r

      es : List Entry
      es = found_by places r old c.others

      hs : List (Card × Decision)
      hs = handed_by port call r es

      others : (xs ys : List Seen) → Grows (IsHandedOn hs) xs ys → Grows (IsNotBy port) xs ys
      others xs ys g = grows_as (IsHandedOn hs) (IsNotBy port) (handed_not_by port hs) xs ys g

  -- a message is sent
  pub speaks : (notes : List Note) (x : Side) (m : NetlinkMessage) (errno : ℕ) (ds : List Due)
      (fresh : Bool) (old new : Pass) → Speaks places port m errno old new →
      IsPort workers script places port notes (cut_side x (Message m ∷ ds) fresh) old →
      IsPort workers script places port (notes ++ Spoke (next_call old.dids) m errno ∷ [])
      (side x ds) new
  speaks notes x m errno ds fresh old new s is =
      push notes (cut_side x (Message m ∷ ds) fresh) (side x ds) old new
      (Spoke (next_call old.dids) m errno) is
      (spoke_may old.dids x m ds errno fresh) (spoke_leads old new m errno x ds fresh s)
      (append-nil old.letters ∙ sym s.letters)
      (errno_so (next_call old.dids) errno (decoded m) old.shares new.shares s.carried, tt)
      (carried_even (next_call old.dids) errno m (decoded m) old.shares new.shares notes refl
      s.carried is.even)
      (λ k below. subst (λ b. IsShutting port (not b) (new.shares k)) (sym (is_open_so x ds))
      (carried_shutting (next_call old.dids) errno (decoded m) old.shares new.shares s.carried k
      (subst (λ b. IsShutting port (not b) (old.shares k)) (is_open_so x (Message m ∷ ds))
      (is.shutting k below))))

  -- it closes
  pub shuts : (notes : List Note) (old new : Pass) → Shuts places port old new → 0 < places →
      IsPort workers script places port notes (side (AtEnd []) (Still Close ∷ [])) old →
      IsPort workers script places port (notes ++ Shut ∷ []) shut_stand new
  shuts notes old new s some is =
      push notes (side (AtEnd []) (Still Close ∷ [])) shut_stand old new Shut is
      (refl, refl, refl) (ap (λ d. full d shut_stand) (sym s.logged))
      (append-nil old.letters ∙ sym s.letters) tt
      (record {
        each = λ queue. shuts_even port queue (old.shares (place_for queue places))
            (new.shares (place_for queue places)) notes
            (s.shuts (place_for queue places) (mod-lt queue some))
            (is.even.each queue);
      })
      (λ k below. shuts_shutting laws port (old.shares k) (new.shares k) (s.shuts k below)
      (is.shutting k below))

  -- it meets the other passes
  pub meets : (notes : List Note) (t : Stand) (old new : Pass) (rest : ℕ → List Entry) →
      ((k : ℕ) → new.shares k ≡ old.shares k ++ all_theirs (rest k)) → new.dids ≡ old.dids →
      new.letters ≡ old.letters → IsPort workers script places port notes t old →
      IsPort workers script places port notes t new
  meets notes t old new rest longer dids letters is = record {
    next = is.next;
    stands = is.stands ∙ ap (λ ds. full ds t) (sym dids);
    heard_so = is.heard_so ∙ sym letters;
    errnos = is.errnos;
    even = record {
      each = λ queue. grown_even port queue (old.shares (place_for queue places))
          (new.shares (place_for queue places)) notes
          (met_grows (IsNotBy port) (old.shares (place_for queue places))
          (new.shares (place_for queue places))
          (rest (place_for queue places)) (longer (place_for queue places))) (is.even.each queue);
    };
    shutting = λ k below. grown_shutting laws port (not t.is_open) (old.shares k) (new.shares k)
        (met_grows (IsNotBy port) (old.shares k) (new.shares k) (rest k) (longer k))
        (is.shutting k below);
  }
