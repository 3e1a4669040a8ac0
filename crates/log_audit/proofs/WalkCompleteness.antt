-- However it is told what a port did, the walk goes along with it.
use Rattle.std.proofs.Common.{◌≡◌, ◌∙◌, ℕ, List, [], ◌∷◌, ◌++◌, refl, sym, ap, subst}
use Rattle.std.proofs.Common.{Bool, true, false, Option, Some, None, inl, inr, append_assoc}
use Rattle.std.proofs.Common.{append-nil}
use Rattle.std.specs.Prelude.{map, ◌⊎◌, IsSome, unwrap_or}
use Rattle.std.specs.List.{AllByRecursion, list_any}
use Rattle.packet_entry.specs.declared.letter.Letter.{Letter}
use Rattle.netlink_codec.specs.Messages.{NetlinkMessage}
use Rattle.nfqa_msgs.specs.RequestReading.{decoded}
use Rattle.histories.specs.Logs.{is_received}
use Rattle.histories.specs.declared.log.AskWords.{AskWords}
use Rattle.histories.specs.declared.log.Did.{Did}
use Rattle.histories.specs.declared.log.Did.TheVariants.{Received, Sent, Closed}
use Rattle.packet_moves.specs.Calls.{next_call, after_this}
use Rattle.packet_moves.specs.Messages.{words_of, answered}
use Rattle.script_lines.specs.declared.ask.Ask.TheVariants.{Close}
use Rattle.inspector_script.specs.Scripts.{ScriptValue, next_count}
use Rattle.nfqa_msgs.specs.NoticeTexts.{told_exactly}
use Rattle.run_parts.specs.Notices.{heard}
use Rattle.run_parts.specs.Log.{Note, Got, Turned, Begun, Spoke, Shut, Due, Still, Message}
use Rattle.run_parts.specs.Log.{Standing}
use Rattle.run_parts.specs.Log.{first_due, owed_then, ends_then, messages_of, is_some_due, all_due}
use Rattle.run_parts.specs.Log.{answer_to, received_count, AreNextFrom, standing_from, logged}
use Rattle.run_parts.specs.Order.{Kind, Ends, kind_by, kinds_from}
use Rattle.run_parts.specs.Requests.{Plea, plea_of}
use Rattle.log_audit.specs.Telling.{IsKnown}
use Rattle.log_audit.specs.Walking.{Known, Walk, Timed, settled, ends_at, asks_by, timed_of}
use Rattle.log_audit.specs.Walking.{timed_by}
use Rattle.log_audit.specs.Walking.{IsLoggedAs, sent_on, walked, GoesOn, AllGoOn, walked_all}
use Rattle.log_audit.specs.Walking.{IsDone}
use Rattle.log_audit.specs.Walking.{kinds_at}
use Rattle.log_audit.proofs.WalkCounts.{call_fits, call_sent, call_received, call_closed}
use Rattle.log_audit.proofs.WalkCounts.{count_sent, count_received, count_closed, heard_sent}
use Rattle.log_audit.proofs.WalkCounts.{heard_received, heard_closed, kinds_more}
use Rattle.log_audit.proofs.DueSettlement.{Lasts, IsTakenUp, IsAlike, alike_begun}

same_Some : {A : Type 0} {x y : A} → Some x ≡ Some y → x ≡ y
same_Some {A} {x} {y} same = ap (λ (o : Option A). unwrap_or o x) same

some_kind : (d e : Due) (ds es : List Due) (h : Bool) → kind_by (d ∷ ds) h ≡ kind_by (e ∷ es) h
some_kind d e ds es true = refl
some_kind d e ds es false = refl

none_is_some : (d : Due) → None ≡ Some d → ⊥
none_is_some d same = cc

none_and_some : (d : Due) (ds es : List Due) → es ≡ [] → es ≡ d ∷ ds → ⊥
none_and_some d ds es none some = let same : [] ≡ d ∷ ds = sym none ∙ some in cc

close_and_message : (m : NetlinkMessage) (ds es : List Due) → es ≡ Still Close ∷ [] →
    es ≡ Message m ∷ ds → ⊥
close_and_message m ds es close some =
    let same : Still Close ∷ [] ≡ Message m ∷ ds = sym close ∙ some in cc

true_and_false : (b : Bool) → b ≡ true → b ≡ false → ⊥
true_and_false b yes_ no_ = let same : true ≡ false = sym yes_ ∙ no_ in cc

-- where it is told that a port stands, and where the walk is there
abbrev pub stand : List Did → List Due → List (List Due) → List Due → Bool → Bool → Standing
stand dids owed pending ends is_open is_fresh =
    record {
      dids = dids;
      owed = owed;
      pending = pending;
      ends = ends;
      is_open = is_open;
      is_fresh = is_fresh;
    }

abbrev pub walk_by : ℕ → ℕ → Bool → Bool → List Due → List Due → List Timed → Walk
walk_by call received heard is_open owed ends timed =
    record {
      owed = owed;
      ends = ends;
      call = call;
      received = received;
      heard = heard;
      is_open = is_open;
      timed = timed;
    }

abbrev pub walk_at : List Did → Bool → List Due → List Due → List Timed → Walk
walk_at dids is_open owed ends timed =
    walk_by (next_call dids) (received_count dids) (list_any is_received dids) is_open owed ends
    timed

-- the same counts
counted : (dids : List Did) (call received : ℕ) (heard is_open : Bool) (owed ends : List Due)
    (timed : List Timed) → next_call dids ≡ call → received_count dids ≡ received →
    list_any is_received dids ≡ heard →
    walk_by call received heard is_open owed ends timed ≡ walk_at dids is_open owed ends timed
counted dids call received heard is_open owed ends timed calls counts hears =
    sym (ap (λ n. walk_by n (received_count dids) (list_any is_received dids) is_open owed ends
    timed) calls
    ∙ ap (λ n. walk_by call n (list_any is_received dids) is_open owed ends timed) counts
    ∙ ap (λ b. walk_by call received b is_open owed ends timed) hears)

module _ (known : Known) (script : ScriptValue) (place port : ℕ) where
  -- the walk goes on to the end, and its requests are sent at these times
  pub record GoesSo (w : Walk) (dids : List Did) (kinds : ℕ → List Kind) : Type 0 where
    pub goes : AllGoOn known script place port w dids
    pub done : IsDone port (walked_all known script place port w dids)
    pub at : (queue : ℕ) →
        kinds_at queue (walked_all known script place port w dids).timed ≡ kinds queue

  onward : (w u : Walk) (d : Did) (ds : List Did) (kinds : ℕ → List Kind) →
      GoesOn known port w d → walked known script place port w d ≡ u → GoesSo u ds kinds →
      GoesSo w (d ∷ ds) kinds
  onward w u d ds kinds is same rest =
      let so : GoesSo (walked known script place port w d) ds kinds =
      subst (λ v. GoesSo v ds kinds) (sym same) rest in
      record { goes = (is, so.goes); done = so.done; at = so.at }

  told_so : (w : Walk) (ds : List Did) (kinds others : ℕ → List Kind) →
      ((queue : ℕ) → kinds queue ≡ others queue) → GoesSo w ds kinds → GoesSo w ds others
  told_so w ds kinds others same so =
      record { goes = so.goes; done = so.done; at = λ queue. so.at queue ∙ same queue }

  -- ---- notices

  pub got_walk : (dids : List Did) (is_open : Bool) (my_owed my_ends : List Due)
      (timed : List Timed) (l : Letter) → IsKnown known l →
      walked known script place port (walk_at dids is_open my_owed my_ends timed)
      (Received l.queue l.number l.visit)
      ≡ walk_at (dids ++ Received l.queue l.number l.visit ∷ []) is_open
      (all_due (answer_to script place (dids ++ Received l.queue l.number l.visit ∷ [])
      (told_exactly l.bytes))) my_ends timed
  got_walk dids is_open my_owed my_ends timed l is =
      let next = dids ++ Received l.queue l.number l.visit ∷ [] in
      ap (λ o. walk_by (next_call dids) (next_count (received_count dids)) true is_open
      (all_due (asks_by script place (next_count (received_count dids)) o)) my_ends timed) is
      ∙ ap (λ n. walk_by (next_call dids) (next_count (received_count dids)) true is_open
      (all_due (asks_by script place n (Some l))) my_ends timed)
      (sym (count_received dids l.queue l.number l.visit))
      ∙ counted next (next_call dids) (next_count (received_count dids)) true is_open
      (all_due (answer_to script place next (told_exactly l.bytes))) my_ends timed
      (call_received dids l.queue l.number l.visit)
      (count_received dids l.queue l.number l.visit)
      (heard_received dids l.queue l.number l.visit)

  -- ---- messages

  module _ (dids : List Did) (is_open : Bool) (my_owed my_ends : List Due) (timed : List Timed)
      (m : NetlinkMessage) (call : ℕ) (ask : AskWords) (answer : Option ℕ) where
    abbrev sent_dids : List Did
    sent_dids = dids ++ Sent call ask answer ∷ []

    abbrev sent_so : Kind → List Due → List Due → Walk
    sent_so kind owed ends =
        walk_by (after_this (next_call dids)) (received_count dids) (list_any is_received dids)
        is_open owed ends (timed ++ timed_by kind (decoded m))

    sent_counted : (kind : Kind) (owed ends : List Due) →
        sent_so kind owed ends
        ≡ walk_at sent_dids is_open owed ends (timed ++ timed_by kind (decoded m))
    sent_counted kind owed ends =
        counted sent_dids (after_this (next_call dids)) (received_count dids)
        (list_any is_received dids) is_open owed ends (timed ++ timed_by kind (decoded m))
        (call_sent dids call ask answer) (count_sent dids call ask answer)
        (heard_sent dids call ask answer)

    -- it is the first of what is owed
    pub owed_walk : (e : Due) (ds : List Due) →
        settled port (next_call dids) my_owed ≡ Message m ∷ ds →
        sent_on port (walk_at dids is_open my_owed my_ends timed)
        ≡ walk_at sent_dids is_open ds my_ends
        (timed ++ timed_by (kind_by (e ∷ ds) (list_any is_received dids)) (decoded m))
    owed_walk e ds so =
        ap (λ o. walk_by (after_this (next_call dids)) (received_count dids)
        (list_any is_received dids) is_open (owed_then [] o)
        (ends_then [] o (ends_at port (next_call dids) o my_ends))
        (timed ++ timed_of (kind_by o (list_any is_received dids))
        (first_due o (ends_at port (next_call dids) o my_ends)))) so
        ∙ ap (λ k. sent_so k ds my_ends)
        (some_kind (Message m) e ds ds (list_any is_received dids))
        ∙ sent_counted (kind_by (e ∷ ds) (list_any is_received dids)) ds my_ends

    -- it is the first of the end
    pub ends_walk : (es : List Due) → settled port (next_call dids) my_owed ≡ [] →
        settled port (next_call dids) my_ends ≡ Message m ∷ es →
        sent_on port (walk_at dids is_open my_owed my_ends timed)
        ≡ walk_at sent_dids is_open [] es (timed ++ timed_by Ends (decoded m))
    ends_walk es none so =
        ap (λ o. walk_by (after_this (next_call dids)) (received_count dids)
        (list_any is_received dids) is_open (owed_then [] o)
        (ends_then [] o (ends_at port (next_call dids) o my_ends))
        (timed ++ timed_of (kind_by o (list_any is_received dids))
        (first_due o (ends_at port (next_call dids) o my_ends)))) none
        ∙ ap (λ o. walk_by (after_this (next_call dids)) (received_count dids)
        (list_any is_received dids) is_open [] (ends_then [] [] o)
        (timed ++ timed_of Ends (first_due [] o))) so
        ∙ sent_counted Ends [] es

    owed_goes : (ds : List Due) → is_open ≡ true → call ≡ next_call dids →
        words_of port call m.whole (decoded m) ≡ ask →
        settled port (next_call dids) my_owed ≡ Message m ∷ ds →
        GoesOn known port (walk_at dids is_open my_owed my_ends timed) (Sent call ask answer)
    owed_goes ds opened number words so =
        let P : List Due → Type 0 = λ o.
        IsLoggedAs port call ask (first_due o (ends_at port (next_call dids) o my_ends)) in
        (opened, number, subst P (sym so) words)

    ends_go : (es : List Due) → is_open ≡ true → call ≡ next_call dids →
        words_of port call m.whole (decoded m) ≡ ask →
        settled port (next_call dids) my_owed ≡ [] →
        settled port (next_call dids) my_ends ≡ Message m ∷ es →
        GoesOn known port (walk_at dids is_open my_owed my_ends timed) (Sent call ask answer)
    ends_go es opened number words none so =
        let P : List Due → Type 0 = λ o.
        IsLoggedAs port call ask (first_due o (ends_at port (next_call dids) o my_ends)) in
        let Q : List Due → Type 0 = λ o. IsLoggedAs port call ask (first_due [] o) in
        (opened, number, subst P (sym none) (subst Q (sym so) words))

  -- ---- a closing

  pub shut_walk : (dids : List Did) (is_open : Bool) (my_owed my_ends : List Due)
      (timed : List Timed) →
      walked known script place port (walk_at dids is_open my_owed my_ends timed) Closed
      ≡ walk_at (dids ++ Closed ∷ []) false [] [] timed
  shut_walk dids is_open my_owed my_ends timed =
      counted (dids ++ Closed ∷ []) (next_call dids) (received_count dids)
      (list_any is_received dids) false [] [] timed (call_closed dids) (count_closed dids)
      (heard_closed dids)

  -- ---- all together

  ends_same : (dids : List Did) (my_ends owed ends others : List Due) (is_fresh : Bool) →
      ((m : NetlinkMessage) (ds : List Due) → ends ≡ Message m ∷ ds → ⊥) → ends ≡ others →
      Lasts port my_ends ends ⊎ IsTakenUp port (next_call dids) my_ends owed ends is_fresh →
      settled port (next_call dids) my_ends ≡ settled port (next_call dids) others
  ends_same dids my_ends owed ends others is_fresh not same ending =
      elim ending [
        | inl lasts ↦ lasts (next_call dids) (call_fits dids)
            ∙ ap (settled port (next_call dids)) same
        | inr taken ↦ absurd (not taken.message taken.others taken.due)
      ]

  ends_first : (dids : List Did) (my_ends : List Due) (e : Due) (es : List Due) (is_fresh : Bool)
      (m : NetlinkMessage) → e ≡ Message m →
      Lasts port my_ends (e ∷ es)
      ⊎ IsTakenUp port (next_call dids) my_ends [] (e ∷ es) is_fresh →
      settled port (next_call dids) my_ends ≡ Message m ∷ es
  ends_first dids my_ends e es is_fresh m is ending =
      elim ending [
        | inl lasts ↦ lasts (next_call dids) (call_fits dids)
            ∙ ap (λ x. settled port (next_call dids) (x ∷ es)) is
        | inr taken ↦ taken.same ∙ sym taken.due ∙ ap (λ x. x ∷ es) is
      ]

  lasting : (call : ℕ) (my_ends owed ends : List Due) (is_fresh : Bool) →
      (owed ≡ [] → is_fresh ≡ true → ⊥) →
      Lasts port my_ends ends ⊎ IsTakenUp port call my_ends owed ends is_fresh →
      Lasts port my_ends ends
  lasting call my_ends owed ends is_fresh never ending =
      elim ending [
        | inl lasts ↦ lasts
        | inr taken ↦ absurd (never taken.none taken.fresh)
      ]

  pub along : (ns : List Note) (dids : List Did) (owed : List Due) (pending : List (List Due))
      (ends : List Due) (is_open is_fresh : Bool) (my_owed my_ends : List Due)
      (timed : List Timed) →
      IsAlike port (next_call dids) my_owed my_ends owed ends is_fresh →
      AreNextFrom 1 script place port (stand dids owed pending ends is_open is_fresh) ns →
      (standing_from 1 script place port (stand dids owed pending ends is_open is_fresh) ns).owed
      ≡ [] →
      (standing_from 1 script place port (stand dids owed pending ends is_open is_fresh) ns).ends
      ≡ [] →
      AllByRecursion (IsKnown known) (heard ns) →
      GoesSo (walk_at dids is_open my_owed my_ends timed) (logged port ns)
      (λ queue. kinds_at queue timed
      ++ kinds_from 1 script place queue port (stand dids owed pending ends is_open is_fresh) ns)
  along [] dids owed pending ends is_open is_fresh my_owed my_ends timed alike next none done are =
      record {
        goes = tt;
        done = (
          alike.owing ∙ ap (settled port (next_call dids)) none,
          ends_same dids my_ends owed ends [] is_fresh
              (λ m ds. none_and_some (Message m) ds ends done)
              done alike.ending,
        );
        at = λ queue. sym (append-nil (kinds_at queue timed));
      }
  along (Got l ∷ ns) dids owed pending ends is_open is_fresh my_owed my_ends timed alike next none
      done are =
      let more = dids ++ Received l.queue l.number l.visit ∷ [] in
      let answers = all_due (answer_to script place more (told_exactly l.bytes)) in
      let lasts = lasting (next_call dids) my_ends owed ends is_fresh
      (λ o f. true_and_false is_fresh f next.0.2) alike.ending in
      onward (walk_at dids is_open my_owed my_ends timed)
      (walk_at more is_open answers my_ends timed) (Received l.queue l.number l.visit)
      (logged port ns) _ (
        next.0.0,
        alike.owing ∙ ap (settled port (next_call dids)) next.0.1,
        subst (λ (o : Option Letter). IsSome o) (sym are.0) refl,
      )
      (got_walk dids is_open my_owed my_ends timed l are.0)
      (along ns more answers pending ends is_open is_fresh answers my_ends timed
      (record { owing = refl; ending = inl lasts; even = alike.even }) next.1 none done are.1)
  along (Turned ∷ ns) dids owed pending ends is_open is_fresh my_owed my_ends timed alike next none
      done are =
      absurd (true_and_false false next.0.0 refl)
  along (Begun ∷ ns) dids owed pending ends is_open is_fresh my_owed my_ends timed alike next none
      done are =
      let messages = messages_of port dids (first_due owed ends) in
      along ns dids (owed_then messages owed) pending (ends_then messages owed ends) is_open
      (is_some_due messages) my_owed my_ends timed
      (alike_begun port dids my_owed my_ends owed ends is_fresh next.0.1 alike) next.1 none done are
  along (Spoke call m errno ∷ ns) dids (e ∷ ds) pending ends is_open is_fresh my_owed my_ends timed
      alike next none done are =
      let is : e ≡ Message m = same_Some next.0.1 in
      let so = alike.owing ∙ ap (λ x. settled port (next_call dids) (x ∷ ds)) is in
      let ask = words_of port call m.whole (decoded m) in
      let kind = kind_by (e ∷ ds) (list_any is_received dids) in
      let lasts = lasting (next_call dids) my_ends (e ∷ ds) ends is_fresh
      (λ o f. none_and_some e ds (e ∷ ds) o refl) alike.ending in
      onward (walk_at dids is_open my_owed my_ends timed)
      (walk_at (dids ++ Sent call ask (answered m errno) ∷ []) is_open ds my_ends
      (timed ++ timed_by kind (decoded m))) (Sent call ask (answered m errno)) (logged port ns) _
      (owed_goes dids is_open my_owed my_ends timed m call ask (answered m errno) ds next.0.0
      next.0.2 refl so)
      (owed_walk dids is_open my_owed my_ends timed m call ask (answered m errno) e ds so)
      (told_so _ (logged port ns) _ _
      (λ queue. ap (λ ks. ks ++ kinds_from 1 script place queue port
      (stand (dids ++ Sent call ask (answered m errno) ∷ []) ds pending ends is_open false) ns)
      (kinds_more queue kind (decoded m) call errno timed)
      ∙ append_assoc (kinds_at queue timed)
      (map (λ (x : Plea). kind) (plea_of queue call errno (decoded m)))
      (kinds_from 1 script place queue port
      (stand (dids ++ Sent call ask (answered m errno) ∷ []) ds pending ends is_open false) ns))
      (along ns (dids ++ Sent call ask (answered m errno) ∷ []) ds pending ends is_open false ds
      my_ends (timed ++ timed_by kind (decoded m))
      (record { owing = refl; ending = inl lasts; even = alike.even }) next.1 none done are))
  along (Spoke call m errno ∷ ns) dids [] pending (e ∷ es) is_open is_fresh my_owed my_ends timed
      alike next none done are =
      let is : e ≡ Message m = same_Some next.0.1 in
      let so = ends_first dids my_ends e es is_fresh m is alike.ending in
      let ask = words_of port call m.whole (decoded m) in
      onward (walk_at dids is_open my_owed my_ends timed)
      (walk_at (dids ++ Sent call ask (answered m errno) ∷ []) is_open [] es
      (timed ++ timed_by Ends (decoded m))) (Sent call ask (answered m errno)) (logged port ns) _
      (ends_go dids is_open my_owed my_ends timed m call ask (answered m errno) es next.0.0
      next.0.2 refl alike.owing so)
      (ends_walk dids is_open my_owed my_ends timed m call ask (answered m errno) es alike.owing so)
      (told_so _ (logged port ns) _ _
      (λ queue. ap (λ ks. ks ++ kinds_from 1 script place queue port
      (stand (dids ++ Sent call ask (answered m errno) ∷ []) [] pending es is_open false) ns)
      (kinds_more queue Ends (decoded m) call errno timed)
      ∙ append_assoc (kinds_at queue timed)
      (map (λ (x : Plea). Ends) (plea_of queue call errno (decoded m)))
      (kinds_from 1 script place queue port
      (stand (dids ++ Sent call ask (answered m errno) ∷ []) [] pending es is_open false) ns))
      (along ns (dids ++ Sent call ask (answered m errno) ∷ []) [] pending es is_open false []
      es (timed ++ timed_by Ends (decoded m))
      (record { owing = refl; ending = inl (λ n f. refl); even = alike.even.1 }) next.1 none done
      are))
  along (Spoke call m errno ∷ ns) dids [] pending [] is_open is_fresh my_owed my_ends timed alike
      next none done are =
      absurd (none_is_some (Message m) next.0.1)
  along (Shut ∷ ns) dids owed pending ends is_open is_fresh my_owed my_ends timed alike next none
      done are =
      onward (walk_at dids is_open my_owed my_ends timed)
      (walk_at (dids ++ Closed ∷ []) false [] [] timed) Closed (logged port ns) _ (
        next.0.0,
        alike.owing ∙ ap (settled port (next_call dids)) next.0.1,
        ends_same dids my_ends owed ends (Still Close ∷ []) is_fresh
            (λ m ds. close_and_message m ds ends next.0.2) next.0.2 alike.ending,
      )
      (shut_walk dids is_open my_owed my_ends timed)
      (along ns (dids ++ Closed ∷ []) owed pending [] false is_fresh [] [] timed
      (record {
        owing = sym (ap (settled port (next_call (dids ++ Closed ∷ []))) next.0.1);
        ending = inl (λ n f. refl);
        even = tt;
      }) next.1 none done are)
