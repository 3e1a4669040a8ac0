-- The examples that are written out.
use Rattle.std.specs.Prelude.{Bool, ◌==◌, ◌||◌, nat_eq, filter, flat_map, if◌then◌else◌}
use Rattle.std.specs.List.{list_any}
use Rattle.packet_entry.specs.declared.letter.Letter.{Letter}
use Rattle.run_parts.specs.Run.{IsMadeBy}
use Rattle.run_parts.specs.Requests.{pleas_told}
use Rattle.run_parts.specs.Notices.{heard}
use Rattle.run_parts.specs.Closing.{is_closed}
use Rattle.run_parts.specs.Order.{kinds_told}
use Rattle.run_parts.specs.Log.{logged}
use Rattle.run_parts.specs.Examples.{run_of_7, silence_of_7, notes_of_7, notes_by_7, logging}
use Rattle.std.proofs.Common.{ℕ, ◌≡◌, List, [], ◌∷◌, true, refl, ◌++◌, false}
use Rattle.std.proofs.Common.{Some, None, sym, ap, ◌∙◌, subst}
use Rattle.std.proofs.lemmas.Bool.{eqb-true}
use Rattle.netlink_codec.specs.Messages.{first_message}
use Rattle.nfqa_msgs.specs.RequestReading.{decoded}
use Rattle.inspector_script.specs.Scripts.{ScriptValue}
use Rattle.histories.specs.declared.log.AskWords.TheVariants.{Raw}
use Rattle.packet_moves.specs.Messages.{answered}
use Rattle.run_parts.specs.Ports.{log_of, place_in}
use Rattle.run_parts.specs.Requests.{AreErrnos, AreAnswers, answer_in}
use Rattle.run_parts.specs.Run.{LogHolds, PortsHold, RequestsHold}
use Rattle.run_parts.specs.LoggedExamples.{header, message, no_logs, opening_script}
use Rattle.nfqa_msgs.specs.declared.request.Request.{Request}
use Rattle.histories.specs.declared.log.Did.{Did}
use Rattle.histories.specs.declared.log.Did.TheVariants.{Sent, Closed}
use Rattle.histories.specs.Letters.{is_from}
use Rattle.run_parts.specs.Log.{Note, Got, Turned, Begun, Spoke, Shut, IsLog}
use Rattle.run_parts.specs.Requests.{AreRequests}
use Rattle.run_parts.specs.Closing.{IsClosing}
use Rattle.run_parts.specs.Examples.{closing_script, one_request, two_closings, another_asks}
use Rattle.run_parts.specs.Examples.{one_closing}
use Rattle.queue_core.specs.declared.event.Event.TheVariants.{Ask}
use Rattle.queue_core.specs.declared.event.Reply.TheVariants.{Answer}
use Rattle.run_parts.specs.Requests.{pleas_in}

pub only_closing : IsLog 1 closing_script 0 7 (Shut ∷ []) (Closed ∷ [])
only_closing =
    record {
      noted = refl;
      next = ((refl, refl, refl), tt);
      owed = refl;
      answered = refl;
      ended = refl;
    }

no_turn : false ≡ true → ⊥
no_turn wrong = cc

pub not_empty : (notes : List Note) → IsLog 1 closing_script 0 7 notes [] → ⊥
not_empty [] is = let wrong = is.ended in cc
not_empty (Got l ∷ ns) is = let wrong = is.noted in cc
not_empty (Turned ∷ ns) is = no_turn is.next.0.0
not_empty (Begun ∷ ns) is = is.next.0.1
not_empty (Spoke call m errno ∷ ns) is = let wrong = is.noted in cc
not_empty (Shut ∷ ns) is = let wrong = is.noted in cc

pub nothing_behind : (did : Did) (notes : List Note) →
    IsLog 1 closing_script 0 7 notes (Closed ∷ did ∷ []) → ⊥
nothing_behind did [] is = let wrong = is.noted in cc
nothing_behind did (Got l ∷ ns) is = let wrong = is.noted in cc
nothing_behind did (Turned ∷ ns) is = no_turn is.next.0.0
nothing_behind did (Begun ∷ ns) is = is.next.0.1
nothing_behind did (Spoke call m errno ∷ ns) is = let wrong = is.noted in cc
nothing_behind did (Shut ∷ []) is = let wrong = is.noted in cc
nothing_behind did (Shut ∷ Got l ∷ ns) is = let wrong = is.next.1.0.0 in cc
nothing_behind did (Shut ∷ Turned ∷ ns) is = no_turn is.next.1.0.0
nothing_behind did (Shut ∷ Begun ∷ ns) is = is.next.1.0.1
nothing_behind did (Shut ∷ Spoke call m errno ∷ ns) is = let wrong = is.next.1.0.0 in cc
nothing_behind did (Shut ∷ Shut ∷ ns) is = let wrong = is.next.1.0.0 in cc

pub no_request : (request : Request) → AreRequests (one_request request) 7 [] → ⊥
no_request request are = let wrong = are 3 in cc

pub of_another : (request : Request) → AreRequests (one_request request) 9 []
of_another request = λ queue. by (3 == queue)
  where
    by : (c : Bool) →
        pleas_in 9 (if c then record { queue = 3; event = Ask 7 1 request; reply = Answer 0 0 } ∷ []
        else []) ≡ []
    by true = refl
    by false = refl

pub may_ask : IsClosing 7 true another_asks
may_ask = record { last = refl; unbound = refl }

pub not_unclosed : IsClosing 7 false one_closing → ⊥
not_unclosed is = let wrong = is in cc

pub another_closed : IsClosing 9 false one_closing
another_closed = refl

pub no_second : IsClosing 7 true two_closings → ⊥
no_second is = let wrong = is.last in cc

-- ---- a whole run

module _ (port : ℕ) where
  -- whatever holds of a port that shut and of one that did nothing
  either_of_7 : (P : List Note → Type 0) → P (Shut ∷ []) → P [] → P (notes_of_7 port)
  either_of_7 P one two = by (port == 7)
    where
      by : (c : Bool) → P (if c then Shut ∷ [] else [])
      by true = one
      by false = two

others_of_7 : (notes : List Note) (port : ℕ) → list_any (nat_eq port) (7 ∷ []) ≡ false →
    notes_by_7 notes port ≡ []
others_of_7 notes port out = by (port == 7) out
  where
    by : (c : Bool) → (c || false) ≡ false → (if c then notes else []) ≡ []
    by true wrong = absurd (cc)
    by false is = refl

-- of histories in which port 7 alone has a log
log_of_7 : (script : ScriptValue) (notes : List Note) (wrote : List Did) → script.ports ≡ 7 ∷ [] →
    IsLog 1 script 0 7 notes wrote → LogHolds 1 script (logging wrote) (notes_by_7 notes)
log_of_7 script notes wrote only is = record {
  each = λ port dids i there.
      own port dids (is_7 port (ap (list_any (nat_eq port)) (sym only) ∙ i)) there;
  others = λ port out. others_of_7 notes port (ap (list_any (nat_eq port)) (sym only) ∙ out);
}
  where
    is_7 : (port : ℕ) → (nat_eq port 7 || false) ≡ true → port ≡ 7
    is_7 port i = eqb-true port 7 (by (nat_eq port 7) i)
      where
        by : (b : Bool) → (b || false) ≡ true → b ≡ true
        by true i = refl
        by false wrong = absurd (cc)

    own : (port : ℕ) (dids : List Did) → port ≡ 7 →
        log_of port (logging wrote).logs ≡ Some dids →
        IsLog 1 script (place_in port script.ports) port (notes_by_7 notes port) dids
    own port dids same there =
        subst (λ p. log_of p (logging wrote).logs ≡ Some dids →
        IsLog 1 script (place_in p script.ports) p (notes_by_7 notes p) dids) (sym same)
        (λ at. let here : wrote ≡ dids = cc in
        subst (λ ps. IsLog 1 script (place_in 7 ps) 7 notes dids) (sym only)
        (subst (IsLog 1 script 0 7 notes) here is)) there

pub run_made : IsMadeBy 1 1 closing_script 0 run_of_7 notes_of_7 (λ port. [])
run_made = record {
  log = log_of_7 closing_script (Shut ∷ []) (Closed ∷ []) refl only_closing;
  requests = record {
    each = λ port i queue.
        either_of_7 port (λ ns. [] ≡ flat_map (pleas_told queue) ns) refl refl;
    nobody = λ port out queue. refl;
    errnos = λ port i. either_of_7 port AreErrnos tt tt;
    answers = λ port dids i there. answers_of_7 port dids (port == 7) there;
  };
  notices = λ port i queue.
      either_of_7 port (λ ns. filter (is_from queue) (heard ns ++ []) ≡ []) refl refl;
  closing = λ port i queue below.
      either_of_7 port (λ ns. IsClosing port (list_any is_closed (logged port ns)) [])
      (record { last = refl; unbound = refl }) refl;
  feeder = λ queue below. record {
    items = [];
    entries = refl;
    lines = λ feeder one. refl;
    each = tt;
    times = λ feeder one. tt;
  };
  order = λ queue below. record {
    marks = [];
    entries = refl;
    kinds = λ port. either_of_7 port
        (λ ns. [] ≡ kinds_told 1 closing_script queue port ns) refl refl;
    early = tt;
    late = tt;
  };
  room = λ port i queue wrong. absurd (cc);
  ports = refl;
}
  where
    answers_of_7 : (port : ℕ) (dids : List Did) (c : Bool) →
        (if c then Some (Closed ∷ []) else None) ≡ Some dids →
        AreAnswers port (if c then Shut ∷ [] else []) dids
    answers_of_7 port dids true there =
        let here : Closed ∷ [] ≡ dids = cc in
        subst (λ ds. flat_map answer_in ds ≡ []) here refl
    answers_of_7 port dids false wrong = absurd (cc)

pub silence_not_made : (notes : ℕ → List Note) (left : ℕ → List Letter) →
    IsMadeBy 1 1 closing_script 0 silence_of_7 notes left → ⊥
silence_not_made notes left is = not_empty (notes 7) (is.log.each 7 [] refl refl)

-- ---- one part alone

pub no_log_missing : PortsHold closing_script no_logs → ⊥
no_log_missing is = cc

pub no_log_holds : LogHolds 1 closing_script no_logs (λ port. [])
no_log_holds =
    record { each = λ port dids i wrong. absurd (cc); others = λ port out. refl }

pub wrong_answered : (errno : ℕ) →
    RequestsHold opening_script (logging (Sent 1 (Raw (header 1)) (Some 16) ∷ []))
    (notes_by_7 (Begun ∷ Spoke 1 (message 1) errno ∷ [])) → ⊥
unfolding decoded
wrong_answered errno is =
    let none : errno ≡ 0 = (is.errnos 7 refl).0 in
    let told = is.answers 7 (Sent 1 (Raw (header 1)) (Some 16) ∷ []) refl refl in
    let wrong : Some 16 ∷ [] ≡ answered (message 1) 0 ∷ [] =
    told ∙ ap (λ n. answered (message 1) n ∷ []) none in
    cc

pub wrong_answer_logged : (errno : ℕ) →
    LogHolds 1 opening_script (logging (Sent 1 (Raw (header 1)) (Some 16) ∷ []))
    (notes_by_7 (Begun ∷ Spoke 1 (message 1) errno ∷ []))
unfolding first_message decoded
wrong_answer_logged errno =
    log_of_7 opening_script (Begun ∷ Spoke 1 (message 1) errno ∷ [])
    (Sent 1 (Raw (header 1)) (Some 16) ∷ []) refl (record {
      noted = refl;
      next = ((refl, tt), ((refl, refl, refl), tt));
      owed = refl;
      answered = refl;
      ended = refl;
    })
