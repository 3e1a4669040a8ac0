-- A log that can be walked is told in full: what stands in it, one entry after the other.
use Rattle.std.proofs.Common.{◌≡◌, ◌∙◌, ℕ, List, [], ◌∷◌, ◌++◌, refl, sym, ap, subst}
use Rattle.std.proofs.Common.{Bool, true, false, Option, Some, None}
use Rattle.std.specs.Prelude.{map, IsSome}
use Rattle.std.specs.List.{AllByRecursion, list_any}
use Rattle.packet_entry.specs.declared.letter.Letter.{Letter}
use Rattle.netlink_codec.specs.Messages.{NetlinkMessage}
use Rattle.nfqa_msgs.specs.RequestReading.{decoded}
use Rattle.histories.specs.Logs.{is_received}
use Rattle.histories.specs.declared.log.AskWords.{AskWords}
use Rattle.histories.specs.declared.log.Did.{Did}
use Rattle.histories.specs.declared.log.Did.TheVariants.{Received, Sent, Closed}
use Rattle.packet_moves.specs.Calls.{next_call}
use Rattle.packet_moves.specs.Messages.{words_of, answered}
use Rattle.script_lines.specs.declared.ask.Ask.TheVariants.{Close}
use Rattle.inspector_script.specs.Scripts.{IsScript, ScriptValue, opening, closing}
use Rattle.nfqa_msgs.specs.NoticeTexts.{told_exactly}
use Rattle.run_parts.specs.Log.{Note, Got, Spoke, Shut, Due, Still, Message, all_due, first_due}
use Rattle.run_parts.specs.Log.{answer_to, received_count, AreNextFrom, start, standing}
use Rattle.run_parts.specs.Log.{unanswered, Standing, IsNext, after}
use Rattle.run_parts.specs.Order.{Ends, kind_by}
use Rattle.log_audit.specs.Telling.{IsKnown, IsKeyed, IsMessage, IsToldBy, told_errno}
use Rattle.log_audit.specs.Walking.{Known, Timed, settled, ends_at, timed_by, sent_on}
use Rattle.log_audit.specs.Walking.{IsLoggedAs, IsWalked, walked, AllGoOn, walked_all, IsDone}
use Rattle.log_audit.proofs.WalkCompleteness.{stand, walk_at, got_walk, owed_walk, ends_walk}
use Rattle.log_audit.proofs.WalkCompleteness.{shut_walk}
use Rattle.port_audit.specs.AskLengths.{answer_good, opening_asks, closing_asks}
use Rattle.log_audit.proofs.Witness.{AskWell, IsFine, fine_asks, fine_settled, close_silent, Rest}
use Rattle.log_audit.proofs.Witness.{settle_owed, settle_ends, settle_none}

module _ (known : Known) (script : ScriptValue) (place port : ℕ) where
  abbrev Told : List Did → List Due → List (List Due) → List Due → Bool → Bool → List Did → Type 0
  Told dids owed pending ends is_open is_fresh rest =
      Rest known script place port (stand dids owed pending ends is_open is_fresh) rest

  -- the walk goes on to the end
  abbrev Walks : List Did → Bool → List Due → List Due → List Timed → List Did → Type 0
  Walks dids is_open owed ends timed rest =
      AllGoOn known script place port (walk_at dids is_open owed ends timed) rest
      × IsDone port
      (walked_all known script place port (walk_at dids is_open owed ends timed) rest)

  -- ---- notices

  got_rest : (dids : List Did) (pending : List (List Due)) (ends : List Due) (rest : List Did)
      (l : Letter) → IsKnown known l →
      Told (dids ++ Received l.queue l.number l.visit ∷ [])
      (all_due (answer_to script place (dids ++ Received l.queue l.number l.visit ∷ [])
      (told_exactly l.bytes))) pending ends true false rest →
      Told dids [] pending ends true false (Received l.queue l.number l.visit ∷ rest)
  got_rest dids pending ends rest l is more = (
    Got l ∷ more.0,
    record {
      next = ((refl, refl, refl), more.1.next);
      noted = ap (λ ds. Received l.queue l.number l.visit ∷ ds) more.1.noted;
      owed = more.1.owed;
      ended = more.1.ended;
      letters = (is, more.1.letters);
      messages = (tt, more.1.messages);
      errnos = more.1.errnos;
    },
  )

  received_rest : IsKeyed known → (dids : List Did) (owed : List Due) (pending : List (List Due))
      (ends : List Due) (timed : List Timed) (queue number visit : ℕ) (rest : List Did) →
      ((l : Letter) →
      let next = dids ++ Received l.queue l.number l.visit ∷ [] in
      let answers = all_due (answer_to script place next (told_exactly l.bytes)) in
      Walks next true answers ends timed rest → Told next answers pending ends true false rest) →
      (o : Option Letter) → known queue number visit ≡ o → IsSome o →
      settled port (next_call dids) owed ≡ [] →
      AllGoOn known script place port
      (walked known script place port (walk_at dids true owed ends timed)
      (Received queue number visit)) rest →
      IsDone port (walked_all known script place port
      (walked known script place port (walk_at dids true owed ends timed)
      (Received queue number visit)) rest) →
      Told dids owed pending ends true false (Received queue number visit ∷ rest)
  received_rest keyed dids owed pending ends timed queue number visit rest more None is some none
      goes done =
      let wrong : false ≡ true = some in absurd cc
  received_rest keyed dids owed pending ends timed queue number visit rest more (Some l) is some
      none goes done =
      let key = keyed queue number visit l is in
      let same : Received l.queue l.number l.visit ≡ Received queue number visit =
      ap (λ x. Received x l.number l.visit) key.0 ∙ ap (λ x. Received queue x l.visit) key.1
      ∙ ap (λ x. Received queue number x) key.2 in
      let own : IsKnown known l =
      ap (λ x. known x l.number l.visit) key.0 ∙ ap (λ x. known queue x l.visit) key.1
      ∙ ap (known queue number) key.2 ∙ is in
      let at = ap (walked known script place port (walk_at dids true owed ends timed)) (sym same)
      ∙ got_walk known script place port dids true owed ends timed l own in
      subst (λ d. Told dids owed pending ends true false (d ∷ rest)) same
      (settle_none known script place port dids pending
      (Received l.queue l.number l.visit ∷ rest) owed ends none
      (got_rest dids pending ends rest l own
      (more l (
        subst (λ w. AllGoOn known script place port w rest) at goes,
        subst (λ w. IsDone port (walked_all known script place port w rest)) at done,
      ))))

  -- ---- messages

  module _ (dids : List Did) (pending : List (List Due)) (ask : AskWords) (call : ℕ)
      (answer : Option ℕ) (rest : List Did) (m : NetlinkMessage) (number : call ≡ next_call dids)
      (words : words_of port call m.whole (decoded m) ≡ ask) (is : IsMessage m) (f : Bool) where
    abbrev next_dids : List Did
    next_dids = dids ++ Sent call (words_of port call m.whole (decoded m))
        (answered m (told_errno answer)) ∷ []

    -- it is told wherever it is next
    spoke : (t : Standing) → IsNext 1 t (Spoke call m (told_errno answer)) →
        Rest known script place port
        (after 1 script place port t (Spoke call m (told_errno answer))) rest →
        Rest known script place port t (Sent call ask answer ∷ rest)
    spoke t next more = (
      Spoke call m (told_errno answer) ∷ more.0,
      record {
        next = (next, more.1.next);
        noted = ap (λ w. Sent call w None ∷ map unanswered rest) (sym words)
            ∙ ap (λ ds. Sent call (words_of port call m.whole (decoded m)) None ∷ ds)
            more.1.noted;
        owed = more.1.owed;
        ended = more.1.ended;
        letters = more.1.letters;
        messages = (is, more.1.messages);
        errnos = ap (λ ns. told_errno answer ∷ ns) more.1.errnos;
      },
    )

    spoke_owed : (os ends : List Due) → Told next_dids os pending ends true false rest →
        Told dids (Message m ∷ os) pending ends true f (Sent call ask answer ∷ rest)
    spoke_owed os ends =
        spoke (stand dids (Message m ∷ os) pending ends true f) (refl, refl, number)

    spoke_ends : (es : List Due) → Told next_dids [] pending es true false rest →
        Told dids [] pending (Message m ∷ es) true f (Sent call ask answer ∷ rest)
    spoke_ends es = spoke (stand dids [] pending (Message m ∷ es) true f) (refl, refl, number)

  module _ (well : AskWell) (dids : List Did) (owed : List Due) (pending : List (List Due))
      (ends : List Due) (timed : List Timed) (call : ℕ) (ask : AskWords) (answer : Option ℕ)
      (rest : List Did) (fine_owed : AllByRecursion IsFine owed)
      (fine_ends : AllByRecursion IsFine ends) (number : call ≡ next_call dids)
      (goes : AllGoOn known script place port
      (sent_on port (walk_at dids true owed ends timed)) rest)
      (done : IsDone port (walked_all known script place port
      (sent_on port (walk_at dids true owed ends timed)) rest))
      (more : (next : List Did) (os es : List Due) (times : List Timed) →
      AllByRecursion IsFine os → AllByRecursion IsFine es → Walks next true os es times rest →
      Told next os pending es true false rest) where
    by_ends : (f : Bool) (es : List Due) → settled port (next_call dids) owed ≡ [] →
        settled port (next_call dids) ends ≡ es → AllByRecursion IsFine es →
        IsLoggedAs port call ask (first_due [] es) →
        Told dids [] pending es true f (Sent call ask answer ∷ rest)
    by_ends f [] none so fine is = absurd is
    by_ends f (Still other ∷ es) none so fine is = absurd is
    by_ends f (Message m ∷ es) none so fine is =
        let sent = words_of port call m.whole (decoded m) in
        let errno = answered m (told_errno answer) in
        let at = ends_walk known script place port dids true owed ends timed m call sent errno es
        none so in
        spoke_ends dids pending ask call answer rest m number is fine.0 f es
        (more (dids ++ Sent call sent errno ∷ []) [] es (timed ++ timed_by Ends (decoded m)) tt
        fine.1 (
          subst (λ w. AllGoOn known script place port w rest) at goes,
          subst (λ w. IsDone port (walked_all known script place port w rest)) at done,
        ))

    by_owed : (os : List Due) → settled port (next_call dids) owed ≡ os →
        AllByRecursion IsFine os →
        IsLoggedAs port call ask (first_due os (ends_at port (next_call dids) os ends)) →
        Told dids owed pending ends true false (Sent call ask answer ∷ rest)
    by_owed [] so fine is =
        settle_none known script place port dids pending (Sent call ask answer ∷ rest) owed ends so
        (settle_ends known script place port dids pending (Sent call ask answer ∷ rest) ends
        (λ f fresh. by_ends f (settled port (next_call dids) ends) so refl
        (fine_settled well port (next_call dids) ends fine_ends) is))
    by_owed (Still other ∷ os) so fine is = absurd is
    by_owed (Message m ∷ os) so fine is =
        let sent = words_of port call m.whole (decoded m) in
        let errno = answered m (told_errno answer) in
        let at = owed_walk known script place port dids true owed ends timed m call sent errno
        (Message m) os so in
        settle_owed known script place port dids pending (Sent call ask answer ∷ rest) owed ends
        (λ f fresh.
        subst (λ o. Told dids o pending ends true f (Sent call ask answer ∷ rest)) (sym so)
        (spoke_owed dids pending ask call answer rest m number is fine.0 f os ends
        (more (dids ++ Sent call sent errno ∷ []) os ends
        (timed ++ timed_by (kind_by (Message m ∷ os) (list_any is_received dids)) (decoded m))
        fine.1 fine_ends (
          subst (λ w. AllGoOn known script place port w rest) at goes,
          subst (λ w. IsDone port (walked_all known script place port w rest)) at done,
        ))))

    sent_rest : IsLoggedAs port call ask (first_due (settled port (next_call dids) owed)
        (ends_at port (next_call dids) (settled port (next_call dids) owed) ends)) →
        Told dids owed pending ends true false (Sent call ask answer ∷ rest)
    sent_rest is =
        by_owed (settled port (next_call dids) owed) refl
        (fine_settled well port (next_call dids) owed fine_owed) is

  -- ---- a closing

  shut_rest : (dids : List Did) (pending : List (List Due)) (rest : List Did) →
      Told (dids ++ Closed ∷ []) [] pending [] false false rest →
      Told dids [] pending (Still Close ∷ []) true false (Closed ∷ rest)
  shut_rest dids pending rest more = (
    Shut ∷ more.0,
    record {
      next = ((refl, refl, refl), more.1.next);
      noted = ap (λ ds. Closed ∷ ds) more.1.noted;
      owed = more.1.owed;
      ended = more.1.ended;
      letters = more.1.letters;
      messages = (tt, more.1.messages);
      errnos = more.1.errnos;
    },
  )

  closed_rest : (dids : List Did) (owed : List Due) (pending : List (List Due)) (ends : List Due)
      (rest : List Did) → settled port (next_call dids) owed ≡ [] →
      settled port (next_call dids) ends ≡ Still Close ∷ [] →
      Told (dids ++ Closed ∷ []) [] pending [] false false rest →
      Told dids owed pending ends true false (Closed ∷ rest)
  closed_rest dids owed pending ends rest none last more =
      settle_none known script place port dids pending (Closed ∷ rest) owed ends none
      (settle_ends known script place port dids pending (Closed ∷ rest) ends (λ f fresh.
      let is : f ≡ false = fresh (close_silent (settled port (next_call dids) ends) last) in
      subst (λ g. Told dids [] pending (settled port (next_call dids) ends) true g (Closed ∷ rest))
      (sym is)
      (subst (λ e. Told dids [] pending e true false (Closed ∷ rest)) (sym last)
      (shut_rest dids pending rest more))))

  -- ---- all together

  nothing_more : (dids : List Did) (pending : List (List Due)) (is_open is_fresh : Bool) →
      Told dids [] pending [] is_open is_fresh []
  nothing_more dids pending is_open is_fresh = (
    [],
    record {
      next = tt;
      noted = refl;
      owed = refl;
      ended = refl;
      letters = tt;
      messages = tt;
      errnos = refl;
    },
  )

  pub tell : IsScript script → IsKeyed known → AskWell → (rest dids : List Did) (owed : List Due)
      (pending : List (List Due)) (ends : List Due) (is_open : Bool) (timed : List Timed) →
      AllByRecursion IsFine owed → AllByRecursion IsFine ends →
      (is_open ≡ false → (owed ≡ []) × (ends ≡ [])) → Walks dids is_open owed ends timed rest →
      Told dids owed pending ends is_open false rest
  tell is keyed well [] dids owed pending ends true timed fine_owed fine_ends shut walks =
      settle_none known script place port dids pending [] owed ends walks.1.0
      (settle_ends known script place port dids pending [] ends (λ f fresh.
      subst (λ e. Told dids [] pending e true f []) (sym walks.1.1)
      (nothing_more dids pending true f)))
  tell is keyed well [] dids owed pending ends false timed fine_owed fine_ends shut walks =
      let none = shut refl in
      subst (λ o. Told dids o pending ends false false []) (sym none.0)
      (subst (λ e. Told dids [] pending e false false []) (sym none.1)
      (nothing_more dids pending false false))
  tell is keyed well (Received queue number visit ∷ rest) dids owed pending ends true timed
      fine_owed fine_ends shut walks =
      received_rest keyed dids owed pending ends timed queue number visit rest
      (λ l goes. tell is keyed well rest (dids ++ Received l.queue l.number l.visit ∷ [])
      (all_due (answer_to script place (dids ++ Received l.queue l.number l.visit ∷ [])
      (told_exactly l.bytes))) pending ends true timed
      (fine_asks _ (answer_good script is place
      (received_count (dids ++ Received l.queue l.number l.visit ∷ []))
      (told_exactly l.bytes))) fine_ends
      (λ closed. let wrong : true ≡ false = closed in absurd cc) goes)
      (known queue number visit) refl walks.0.0.2 walks.0.0.1 walks.0.1 walks.1
  tell is keyed well (Received queue number visit ∷ rest) dids owed pending ends false timed
      fine_owed fine_ends shut walks =
      let wrong : false ≡ true = walks.0.0.0 in absurd cc
  tell is keyed well (Sent call ask answer ∷ rest) dids owed pending ends true timed fine_owed
      fine_ends shut walks =
      sent_rest well dids owed pending ends timed call ask answer rest fine_owed fine_ends
      walks.0.0.1 walks.0.1 walks.1
      (λ next os es times fine_os fine_es goes.
      tell is keyed well rest next os pending es true times fine_os fine_es
      (λ closed. let wrong : true ≡ false = closed in absurd cc) goes) walks.0.0.2
  tell is keyed well (Sent call ask answer ∷ rest) dids owed pending ends false timed fine_owed
      fine_ends shut walks =
      let wrong : false ≡ true = walks.0.0.0 in absurd cc
  tell is keyed well (Closed ∷ rest) dids owed pending ends true timed fine_owed fine_ends shut
      walks =
      let at = shut_walk known script place port dids true owed ends timed in
      closed_rest dids owed pending ends rest walks.0.0.1 walks.0.0.2
      (tell is keyed well rest (dids ++ Closed ∷ []) [] pending [] false timed tt tt
      (λ closed. (refl, refl)) (
        subst (λ w. AllGoOn known script place port w rest) at walks.0.1,
        subst (λ w. IsDone port (walked_all known script place port w rest)) at walks.1,
      ))
  tell is keyed well (Closed ∷ rest) dids owed pending ends false timed fine_owed fine_ends shut
      walks =
      let wrong : false ≡ true = walks.0.0.0 in absurd cc

  pub tell_whole : IsScript script → IsKeyed known → AskWell →
      ((notes : List Note) → AreNextFrom 1 script place port (start script place) notes →
      (standing 1 script place port notes).pending ≡ []) →
      (dids : List Did) → IsWalked known script place port dids →
      (notes : List Note) × IsToldBy known script place port dids notes
  tell_whole is keyed well waits dids walks =
      let told = tell is keyed well dids [] (all_due (opening script place)) []
      (all_due (closing script place)) true [] (fine_asks _ (opening_asks script is place))
      (fine_asks _ (closing_asks script is place))
      (λ closed. let wrong : true ≡ false = closed in absurd cc) (walks.goes, walks.done) in (
        told.0,
        record {
          log = record {
            noted = told.1.noted;
            next = told.1.next;
            owed = told.1.owed;
            answered = waits told.0 told.1.next;
            ended = told.1.ended;
          };
          letters = told.1.letters;
          messages = told.1.messages;
          errnos = told.1.errnos;
        },
      )
