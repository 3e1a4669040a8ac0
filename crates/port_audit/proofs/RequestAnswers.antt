-- Logs whose messages are told in full: their requests and their answers.
use Rattle.std.proofs.Common.{◌≡◌, ℕ, List, [], ◌∷◌, ◌++◌, Option, Some, None, Bool, true, false}
use Rattle.std.proofs.Common.{refl, sym, ap, ◌∙◌, subst, inl, inr, cond, map, true≢false}
use Rattle.std.specs.Prelude.{◌==◌, ◌&&◌, not, flat_map, is_some, bit_and}
use Rattle.std.specs.List.{list_all, AllByRecursion}
use Rattle.std.proofs.lemmas.Bool.{cases_Bool, eq-eqb, eqb-true, and_parts, and_from}
use Rattle.netlink_codec.specs.Messages.{NetlinkMessage}
use Rattle.netlink_codec.specs.Numbers.{ack_flag}
use Rattle.netlink_codec.specs.Acknowledgements.{is_unanswered}
use Rattle.nfqa_msgs.specs.declared.request.Decoded.{Decoded}
use Rattle.nfqa_msgs.specs.declared.request.Decoded.TheVariants.{Nothing, Refused, Asked}
use Rattle.nfqa_msgs.specs.RequestReading.{decoded}
use Rattle.histories.specs.declared.log.AskWords.{AskWords}
use Rattle.histories.specs.declared.log.Did.{Did}
use Rattle.histories.specs.declared.log.Did.TheVariants.{Received, Sent, Closed}
use Rattle.histories.specs.declared.histories.Histories.{Histories}
use Rattle.histories.specs.History.{history}
use Rattle.inspector_script.specs.Scripts.{ScriptValue}
use Rattle.packet_moves.specs.Messages.{words_of, answered}
use Rattle.run_parts.specs.Log.{Note, Got, Turned, Begun, Spoke, Shut, logged, unanswered}
use Rattle.run_parts.specs.Ports.{is_port, log_of}
use Rattle.run_parts.specs.Requests.{pleas_told, plea_of, AreErrnos, IsErrno, AreAnswers, answer_in}
use Rattle.run_parts.specs.Run.{RequestsHold}
use Rattle.port_audit.specs.Dealing.{AreMet}
use Rattle.port_audit.specs.Pleading.{told_by_words, IsToldByWords, AreToldByWords, errno_told}
use Rattle.port_audit.specs.Pleading.{errnos_by, HaveErrnos, is_answer, is_errno, judged_in}
use Rattle.port_audit.specs.Pleading.{judged}
use Rattle.port_audit.specs.Pleading.{is_good, AllGood, pleas_by_did, pleas_in_log, pleas_brought}
use Rattle.port_audit.specs.Pleading.{pleas_judged}
use Rattle.port_audit.specs.Told.{AreTold, dids_of, dids_in}
use Rattle.port_audit.proofs.ToldRequests.{pleas_all}

-- ---- a log, told note by note

abbrev pub IsToldAs : ℕ → List Did → List Note → Type 0
IsToldAs port ds [] = ds ≡ []
IsToldAs port ds (Got l ∷ ns) =
    (rest : List Did) × (ds ≡ Received l.queue l.number l.visit ∷ rest) × IsToldAs port rest ns
IsToldAs port ds (Turned ∷ ns) = IsToldAs port ds ns
IsToldAs port ds (Begun ∷ ns) = IsToldAs port ds ns
IsToldAs port ds (Spoke call m errno ∷ ns) =
    (answer : Option ℕ) × (rest : List Did)
    × (ds ≡ Sent call (words_of port call m.whole (decoded m)) answer ∷ rest)
    × IsToldAs port rest ns
IsToldAs port ds (Shut ∷ ns) =
    (rest : List Did) × (ds ≡ Closed ∷ rest) × IsToldAs port rest ns

first_did : {d e : Did} {ds es : List Did} → d ∷ ds ≡ e ∷ es → d ≡ e
first_did h = cc

other_dids : {d e : Did} {ds es : List Did} → d ∷ ds ≡ e ∷ es → ds ≡ es
other_dids h = cc

sent_as : (c d : ℕ) (a b : AskWords) (x : Option ℕ) → Sent c a None ≡ Sent d b None →
    Sent c a x ≡ Sent d b x
sent_as c d a b x h = cc

pub told_as : (port : ℕ) (ds : List Did) (ns : List Note) →
    map unanswered ds ≡ map unanswered (logged port ns) → IsToldAs port ds ns
told_as port [] [] h = refl
told_as port (d ∷ ds) [] h = absurd (cc)
told_as port [] (Got l ∷ ns) h = absurd (cc)
told_as port (Received queue number visit ∷ ds) (Got l ∷ ns) h =
    (ds, ap (λ d. d ∷ ds) (first_did h), told_as port ds ns (other_dids h))
told_as port (Sent call ask answer ∷ ds) (Got l ∷ ns) h =
    absurd (let wrong : Sent call ask None ≡ Received l.queue l.number l.visit = first_did h in cc)
told_as port (Closed ∷ ds) (Got l ∷ ns) h =
    absurd (let wrong : Closed ≡ Received l.queue l.number l.visit = first_did h in cc)
told_as port ds (Turned ∷ ns) h = told_as port ds ns h
told_as port ds (Begun ∷ ns) h = told_as port ds ns h
told_as port [] (Spoke call m errno ∷ ns) h = absurd (cc)
told_as port (Received queue number visit ∷ ds) (Spoke call m errno ∷ ns) h =
    absurd (let wrong : Received queue number visit
    ≡ Sent call (words_of port call m.whole (decoded m)) None = first_did h in cc)
told_as port (Sent other ask answer ∷ ds) (Spoke call m errno ∷ ns) h = (
  answer,
  ds,
  ap (λ d. d ∷ ds) (sent_as other call ask (words_of port call m.whole (decoded m)) answer
      (first_did h)),
  told_as port ds ns (other_dids h),
)
told_as port (Closed ∷ ds) (Spoke call m errno ∷ ns) h =
    absurd (let wrong : Closed ≡ Sent call (words_of port call m.whole (decoded m)) None =
    first_did h in cc)
told_as port [] (Shut ∷ ns) h = absurd (cc)
told_as port (Received queue number visit ∷ ds) (Shut ∷ ns) h =
    absurd (let wrong : Received queue number visit ≡ Closed = first_did h in cc)
told_as port (Sent call ask answer ∷ ds) (Shut ∷ ns) h =
    absurd (let wrong : Sent call ask None ≡ Closed = first_did h in cc)
told_as port (Closed ∷ ds) (Shut ∷ ns) h =
    (ds, refl, told_as port ds ns (other_dids h))

-- ---- one message

-- it has the errno that its answer tells
errno_of : (m : NetlinkMessage) (errno : ℕ) → errno_told (answered m errno) ≡ errno
errno_of m errno = by (is_unanswered m errno) refl
  where
    by : (b : Bool) → is_unanswered m errno ≡ b → errno_told (cond b None (Some errno)) ≡ errno
    by true none = sym (eqb-true errno 0 (and_parts (errno == 0) (bit_and m.flags ack_flag == 0)
        none).0)
    by false some = refl

answer_is : (m : NetlinkMessage) (errno : ℕ) → is_answer m (answered m errno) ≡ true
answer_is m errno = by (is_unanswered m errno) refl
  where
    by : (b : Bool) → is_unanswered m errno ≡ b → is_answer m (cond b None (Some errno)) ≡ true
    by true none =
        let both = and_parts (errno == 0) (bit_and m.flags ack_flag == 0) none in
        subst (λ n. is_unanswered m n ≡ true) (eqb-true errno 0 both.0) none
    by false some = ap not some

is_answered : (m : NetlinkMessage) (answer : Option ℕ) → is_answer m answer ≡ true →
    answer ≡ answered m (errno_told answer)
is_answered m None is = sym (ap (λ b. cond b None (Some 0)) is)
is_answered m (Some errno) is = by (is_unanswered m errno) is
  where
    by : (b : Bool) → not b ≡ true → Some errno ≡ cond b None (Some errno)
    by true h = absurd (true≢false (sym h))
    by false h = refl

errno_is : (d : Decoded) (errno : ℕ) → IsErrno d errno → is_errno d errno ≡ true
errno_is Nothing errno is = eq-eqb errno 0 is
errno_is (Refused refusal) errno is = eq-eqb errno refusal is
errno_is (Asked request) errno is = refl

is_errno_of : (d : Decoded) (errno : ℕ) → is_errno d errno ≡ true → IsErrno d errno
is_errno_of Nothing errno is = eqb-true errno 0 is
is_errno_of (Refused refusal) errno is = eqb-true errno refusal is
is_errno_of (Asked request) errno is = tt

-- it is judged well exactly where both hold
judged_well : (m : NetlinkMessage) (answer : Option ℕ) → is_answer m answer ≡ true →
    is_errno (decoded m) (errno_told answer) ≡ true → judged answer m ≡ Some (decoded m)
judged_well m answer is errno =
    ap (λ b. cond b (Some (decoded m)) None)
    (and_from (is_answer m answer) (is_errno (decoded m) (errno_told answer)) is errno)

well_judged : (m : NetlinkMessage) (answer : Option ℕ) → is_some (judged answer m) ≡ true →
    (is_answer m answer ≡ true) × (is_errno (decoded m) (errno_told answer) ≡ true)
well_judged m answer some =
    and_parts (is_answer m answer) (is_errno (decoded m) (errno_told answer))
    (by (is_answer m answer && is_errno (decoded m) (errno_told answer)) some)
  where
    by : (b : Bool) → is_some (cond b (Some (decoded m)) None) ≡ true → b ≡ true
    by true h = refl
    by false h = absurd (true≢false (sym h))

-- ---- a whole log

-- the errnos are those that the answers tell, and each message is answered well
pub record AreAnswered (port : ℕ) (ds : List Did) (ns : List Note) : Type 0 where
  pub errnos : flat_map errnos_by ns ≡ map errno_told (flat_map answer_in ds)
  pub good : list_all (is_good port) ds ≡ true

first_option : {a b : Option ℕ} {xs ys : List (Option ℕ)} → a ∷ xs ≡ b ∷ ys → a ≡ b
first_option h = cc

other_options : {a b : Option ℕ} {xs ys : List (Option ℕ)} → a ∷ xs ≡ b ∷ ys → xs ≡ ys
other_options h = cc

first_number : {a b : ℕ} {xs ys : List ℕ} → a ∷ xs ≡ b ∷ ys → a ≡ b
first_number h = cc

other_numbers : {a b : ℕ} {xs ys : List ℕ} → a ∷ xs ≡ b ∷ ys → xs ≡ ys
other_numbers h = cc

pub answered_if : (port : ℕ) (ds : List Did) (ns : List Note) → IsToldAs port ds ns →
    AllByRecursion (IsToldByWords port) ns → AreErrnos ns →
    flat_map answer_in ds ≡ flat_map answer_in (logged port ns) → AreAnswered port ds ns
answered_if port ds [] told words errnos answers =
    record {
      errnos = ap (λ (es : List Did). map errno_told (flat_map answer_in es)) (sym told);
      good = ap (list_all (is_good port)) told;
    }
answered_if port ds (Got l ∷ ns) (rest, are, told) words errnos answers =
    let same : flat_map answer_in rest ≡ flat_map answer_in ds =
    ap (flat_map answer_in) (sym are) in
    let next = answered_if port rest ns told words.1 errnos (same ∙ answers) in
    record {
      errnos = next.errnos ∙ ap (map errno_told) same;
      good = ap (list_all (is_good port)) are ∙ next.good;
    }
answered_if port ds (Turned ∷ ns) told words errnos answers =
    let next = answered_if port ds ns told words.1 errnos answers in
    record { errnos = next.errnos; good = next.good }
answered_if port ds (Begun ∷ ns) told words errnos answers =
    let next = answered_if port ds ns told words.1 errnos answers in
    record { errnos = next.errnos; good = next.good }
answered_if port ds (Spoke call m errno ∷ ns) (answer, rest, are, told) words errnos answers =
    let same : answer ∷ flat_map answer_in rest ≡ flat_map answer_in ds =
    ap (flat_map answer_in) (sym are) in
    let both : answer ∷ flat_map answer_in rest
    ≡ answered m errno ∷ flat_map answer_in (logged port ns) = same ∙ answers in
    let own : answer ≡ answered m errno = first_option both in
    let tells : errno_told answer ≡ errno = ap errno_told own ∙ errno_of m errno in
    let next = answered_if port rest ns told words.1 errnos.1 (other_options both) in
    let well : judged answer m ≡ Some (decoded m) = judged_well m answer
    (ap (is_answer m) own ∙ answer_is m errno)
    (ap (is_errno (decoded m)) tells ∙ errno_is (decoded m) errno errnos.0) in
    record {
      errnos = ap (λ n. n ∷ flat_map errnos_by ns) (sym tells)
          ∙ ap (λ ks. errno_told answer ∷ ks) next.errnos
          ∙ ap (map errno_told) same;
      good = ap (list_all (is_good port)) are
          ∙ ap (λ o. is_some (judged_in answer o) && list_all (is_good port) rest) words.0
          ∙ ap (λ o. is_some o && list_all (is_good port) rest) well
          ∙ next.good;
    }
answered_if port ds (Shut ∷ ns) (rest, are, told) words errnos answers =
    let same : flat_map answer_in rest ≡ flat_map answer_in ds =
    ap (flat_map answer_in) (sym are) in
    let next = answered_if port rest ns told words.1 errnos (same ∙ answers) in
    record {
      errnos = next.errnos ∙ ap (map errno_told) same;
      good = ap (list_all (is_good port)) are ∙ next.good;
    }

-- what follows of a log that is answered well
pub record IsWell (port : ℕ) (ds : List Did) (ns : List Note) : Type 0 where
  pub errnos : AreErrnos ns
  pub answers : flat_map answer_in ds ≡ flat_map answer_in (logged port ns)
  pub pleas : (queue : ℕ) →
      flat_map (pleas_by_did port queue) ds ≡ flat_map (pleas_told queue) ns

pub well_if : (port : ℕ) (ds : List Did) (ns : List Note) → IsToldAs port ds ns →
    AllByRecursion (IsToldByWords port) ns →
    flat_map errnos_by ns ≡ map errno_told (flat_map answer_in ds) →
    list_all (is_good port) ds ≡ true → IsWell port ds ns
well_if port ds [] told words errnos good =
    record {
      errnos = tt;
      answers = ap (flat_map answer_in) told;
      pleas = λ queue. ap (flat_map (pleas_by_did port queue)) told;
    }
well_if port ds (Got l ∷ ns) (rest, are, told) words errnos good =
    let next = well_if port rest ns told words.1
    (errnos ∙ ap (λ (es : List Did). map errno_told (flat_map answer_in es)) are)
    (sym (ap (list_all (is_good port)) are) ∙ good) in
    record {
      errnos = next.errnos;
      answers = ap (flat_map answer_in) are ∙ next.answers;
      pleas = λ queue. ap (flat_map (pleas_by_did port queue)) are ∙ next.pleas queue;
    }
well_if port ds (Turned ∷ ns) told words errnos good =
    let next = well_if port ds ns told words.1 errnos good in
    record { errnos = next.errnos; answers = next.answers; pleas = next.pleas }
well_if port ds (Begun ∷ ns) told words errnos good =
    let next = well_if port ds ns told words.1 errnos good in
    record { errnos = next.errnos; answers = next.answers; pleas = next.pleas }
well_if port ds (Spoke call m errno ∷ ns) (answer, rest, are, told) words errnos good =
    let numbers : errno ∷ flat_map errnos_by ns
    ≡ errno_told answer ∷ map errno_told (flat_map answer_in rest) =
    errnos ∙ ap (λ (es : List Did). map errno_told (flat_map answer_in es)) are in
    let tells : errno ≡ errno_told answer = first_number numbers in
    let goods = and_parts (is_some (judged_in answer (told_by_words port call
    (words_of port call m.whole (decoded m))))) (list_all (is_good port) rest)
    (sym (ap (list_all (is_good port)) are) ∙ good) in
    let both = well_judged m answer
    (sym (ap (λ o. is_some (judged_in answer o)) words.0) ∙ goods.0) in
    let next = well_if port rest ns told words.1 (other_numbers numbers) goods.1 in
    let judged_is : judged_in answer (told_by_words port call
    (words_of port call m.whole (decoded m))) ≡ Some (decoded m) =
    ap (judged_in answer) words.0 ∙ judged_well m answer both.0 both.1 in
    record {
      errnos = (
        is_errno_of (decoded m) errno
            (subst (λ n. is_errno (decoded m) n ≡ true) (sym tells) both.1),
        next.errnos,
      );
      answers = ap (flat_map answer_in) are
          ∙ ap (λ o. o ∷ flat_map answer_in rest)
          (is_answered m answer both.0 ∙ ap (answered m) (sym tells))
          ∙ ap (λ os. answered m errno ∷ os) next.answers;
      pleas = λ queue. ap (flat_map (pleas_by_did port queue)) are
          ∙ ap (λ o. pleas_judged queue call (errno_told answer) o
          ++ flat_map (pleas_by_did port queue) rest) judged_is
          ∙ ap (λ n. plea_of queue call n (decoded m)
          ++ flat_map (pleas_by_did port queue) rest) (sym tells)
          ∙ ap (λ ps. plea_of queue call errno (decoded m) ++ ps) (next.pleas queue);
    }
well_if port ds (Shut ∷ ns) (rest, are, told) words errnos good =
    let next = well_if port rest ns told words.1
    (errnos ∙ ap (λ (es : List Did). map errno_told (flat_map answer_in es)) are)
    (sym (ap (list_all (is_good port)) are) ∙ good) in
    record {
      errnos = next.errnos;
      answers = ap (flat_map answer_in) are ∙ next.answers;
      pleas = λ queue. ap (flat_map (pleas_by_did port queue)) are ∙ next.pleas queue;
    }

-- ---- what is judged

nothing_logged : (ds : List Did) → [] ≡ map unanswered ds → ds ≡ []
nothing_logged [] h = refl
nothing_logged (d ∷ ds) h = absurd (cc)

module _ (script : ScriptValue) (h : Histories) (notes : ℕ → List Note)
    (told : AreTold script h notes) (words : AreToldByWords script notes) where
  telling : (p : ℕ) → is_port script p ≡ true → IsToldAs p (dids_of p h.logs) (notes p)
  telling p is = told_as p (dids_of p h.logs) (notes p) (told p is)

  module _ (good : AllGood script.ports h.logs) (errnos : HaveErrnos script h notes)
      (met : AreMet script.ports (pleas_in_log h.logs) pleas_brought h.entries) where
    well : (p : ℕ) → is_port script p ≡ true → IsWell p (dids_of p h.logs) (notes p)
    well p is =
        well_if p (dids_of p h.logs) (notes p) (telling p is) (words p is) (errnos p is) (good p is)

    pub requests_if : RequestsHold script h notes
    requests_if = record {
      each = λ p is queue.
          sym (pleas_all p None (history queue h.entries)) ∙ sym (met p queue)
          ∙ ap (λ b. cond b (pleas_in_log h.logs p queue) []) is ∙ (well p is).pleas queue;
      nobody = λ p isnt queue.
          sym (pleas_all p None (history queue h.entries)) ∙ sym (met p queue)
          ∙ ap (λ b. cond b (pleas_in_log h.logs p queue) []) isnt;
      errnos = λ p is. (well p is).errnos;
      answers = λ p dids is log. subst (λ ds. AreAnswers p (notes p) ds) (ap dids_in log)
          (well p is).answers;
    }

  module _ (holds : RequestsHold script h notes) where
    answers_of : (p : ℕ) → is_port script p ≡ true →
        flat_map answer_in (dids_of p h.logs) ≡ flat_map answer_in (logged p (notes p))
    answers_of p is = by (log_of p h.logs) refl
      where
        by : (o : Option (List Did)) → log_of p h.logs ≡ o →
            flat_map answer_in (dids_of p h.logs) ≡ flat_map answer_in (logged p (notes p))
        by None none =
            ap (λ (x : Option (List Did)). flat_map answer_in (dids_in x)) none
            ∙ sym (ap (flat_map answer_in) (nothing_logged (logged p (notes p))
            (sym (ap (λ (x : Option (List Did)). map unanswered (dids_in x)) none) ∙ told p is)))
        by (Some dids) log =
            ap (λ (x : Option (List Did)). flat_map answer_in (dids_in x)) log
            ∙ holds.answers p dids is log

    answered_all : (p : ℕ) → is_port script p ≡ true →
        AreAnswered p (dids_of p h.logs) (notes p)
    answered_all p is =
        answered_if p (dids_of p h.logs) (notes p) (telling p is) (words p is) (holds.errnos p is)
        (answers_of p is)

    pub good_if : AllGood script.ports h.logs
    good_if p is = (answered_all p is).good

    pub pleas_met_if : AreMet script.ports (pleas_in_log h.logs) pleas_brought h.entries
    pleas_met_if p queue = elim (cases_Bool (is_port script p)) [
      | inl is ↦ ap (λ b. cond b (pleas_in_log h.logs p queue) []) is
          ∙ (well_if p (dids_of p h.logs) (notes p) (telling p is) (words p is)
          (answered_all p is).errnos (answered_all p is).good).pleas queue
          ∙ sym (holds.each p is queue)
          ∙ sym (pleas_all p None (history queue h.entries))
      | inr isnt ↦ ap (λ b. cond b (pleas_in_log h.logs p queue) []) isnt
          ∙ sym (holds.nobody p isnt queue)
          ∙ sym (pleas_all p None (history queue h.entries))
    ]
