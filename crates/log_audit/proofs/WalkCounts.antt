-- What a walk counts: messages, notices, and when requests are sent.
use Rattle.std.proofs.Common.{◌≡◌, ◌∙◌, ◌<◌, ◌^◌, ◌+◌, ◌%◌, ℕ, Bool, true, false, cond, List, []}
use Rattle.std.proofs.Common.{Option, ◌∷◌, ◌++◌, refl, ap, arith}
use Rattle.std.specs.Prelude.{◌||◌, ◌==◌, map, filter, count_by, min, if◌then◌else◌}
use Rattle.std.specs.List.{list_any}
use Rattle.std.proofs.lemmas.List.{map-append}
use Rattle.std.proofs.lemmas.List.Elements.{filter-append}
use Rattle.std.proofs.lemmas.List.Folds.{list_any-append}
use Rattle.std.proofs.lemmas.List.Sums.{sum_by_push}
use Rattle.nfqa_msgs.specs.declared.request.Decoded.{Decoded}
use Rattle.nfqa_msgs.specs.declared.request.Decoded.TheVariants.{Nothing, Refused, Asked}
use Rattle.queue_core.specs.Numbers.{largest_count}
use Rattle.histories.specs.Happenings.{queue_of}
use Rattle.histories.specs.Logs.{is_received}
use Rattle.histories.specs.declared.log.AskWords.{AskWords}
use Rattle.histories.specs.declared.log.Did.{Did}
use Rattle.histories.specs.declared.log.Did.TheVariants.{Received, Sent, Closed}
use Rattle.packet_moves.specs.Calls.{is_sent, next_call, after_this}
use Rattle.inspector_script.specs.Scripts.{next_count}
use Rattle.run_parts.specs.Log.{received_count}
use Rattle.run_parts.specs.Order.{Kind}
use Rattle.run_parts.specs.Requests.{Plea, plea_of}
use Rattle.log_audit.specs.Walking.{Timed, timed_by, is_at, kinds_at}

-- ---- numbers of messages

pub call_fits : (dids : List Did) → next_call dids < 2 ^ 32
call_fits dids = omega arith

next_number : (n : ℕ) → ((n + 1) % 4294967296 + 1) % 4294967296
    ≡ ((n % 4294967296 + 1) % 4294967296 + 1) % 4294967296
next_number n = omega arith

same_number : (n : ℕ) → ((n + 0) % 4294967296 + 1) % 4294967296
    ≡ (n % 4294967296 + 1) % 4294967296
same_number n = omega arith

pub call_sent : (dids : List Did) (call : ℕ) (ask : AskWords) (answer : Option ℕ) →
    next_call (dids ++ Sent call ask answer ∷ []) ≡ after_this (next_call dids)
call_sent dids call ask answer =
    ap (λ n. (n % 4294967296 + 1) % 4294967296)
    (sum_by_push (λ d. cond (is_sent d) 1 0) dids (Sent call ask answer))
    ∙ next_number (count_by is_sent dids)

pub call_received : (dids : List Did) (queue number visit : ℕ) →
    next_call (dids ++ Received queue number visit ∷ []) ≡ next_call dids
call_received dids queue number visit =
    ap (λ n. (n % 4294967296 + 1) % 4294967296)
    (sum_by_push (λ d. cond (is_sent d) 1 0) dids (Received queue number visit))
    ∙ same_number (count_by is_sent dids)

pub call_closed : (dids : List Did) → next_call (dids ++ Closed ∷ []) ≡ next_call dids
call_closed dids =
    ap (λ n. (n % 4294967296 + 1) % 4294967296)
    (sum_by_push (λ d. cond (is_sent d) 1 0) dids Closed)
    ∙ same_number (count_by is_sent dids)

-- ---- notices

one_more : (n : ℕ) → min (n + 1) largest_count ≡ min (min n largest_count + 1) largest_count
one_more n = omega arith

no_more : (n : ℕ) → min (n + 0) largest_count ≡ min n largest_count
no_more n = omega arith

pub count_received : (dids : List Did) (queue number visit : ℕ) →
    received_count (dids ++ Received queue number visit ∷ []) ≡ next_count (received_count dids)
count_received dids queue number visit =
    ap (λ n. min n largest_count)
    (sum_by_push (λ d. cond (is_received d) 1 0) dids (Received queue number visit))
    ∙ one_more (count_by is_received dids)

pub count_sent : (dids : List Did) (call : ℕ) (ask : AskWords) (answer : Option ℕ) →
    received_count (dids ++ Sent call ask answer ∷ []) ≡ received_count dids
count_sent dids call ask answer =
    ap (λ n. min n largest_count)
    (sum_by_push (λ d. cond (is_received d) 1 0) dids (Sent call ask answer))
    ∙ no_more (count_by is_received dids)

pub count_closed : (dids : List Did) → received_count (dids ++ Closed ∷ []) ≡ received_count dids
count_closed dids =
    ap (λ n. min n largest_count) (sum_by_push (λ d. cond (is_received d) 1 0) dids Closed)
    ∙ no_more (count_by is_received dids)

or_true : (b : Bool) → (b || true) ≡ true
or_true true = refl
or_true false = refl

or_false : (b : Bool) → (b || false) ≡ b
or_false true = refl
or_false false = refl

pub heard_received : (dids : List Did) (queue number visit : ℕ) →
    list_any is_received (dids ++ Received queue number visit ∷ []) ≡ true
heard_received dids queue number visit =
    list_any-append is_received dids (Received queue number visit ∷ [])
    ∙ or_true (list_any is_received dids)

pub heard_sent : (dids : List Did) (call : ℕ) (ask : AskWords) (answer : Option ℕ) →
    list_any is_received (dids ++ Sent call ask answer ∷ []) ≡ list_any is_received dids
heard_sent dids call ask answer =
    list_any-append is_received dids (Sent call ask answer ∷ [])
    ∙ or_false (list_any is_received dids)

pub heard_closed : (dids : List Did) →
    list_any is_received (dids ++ Closed ∷ []) ≡ list_any is_received dids
heard_closed dids =
    list_any-append is_received dids (Closed ∷ []) ∙ or_false (list_any is_received dids)

-- ---- when requests are sent

one_kind : (queue : ℕ) (kind : Kind) (d : Decoded) (call errno : ℕ) →
    kinds_at queue (timed_by kind d) ≡ map (λ (x : Plea). kind) (plea_of queue call errno d)
one_kind queue kind Nothing call errno = refl
one_kind queue kind (Refused refusal) call errno = refl
one_kind queue kind (Asked request) call errno = by (queue_of request == queue)
  where
    by : (b : Bool) →
        map (λ (t : Timed). t.kind)
        (cond b (record { queue = queue_of request; kind = kind } ∷ []) [])
        ≡ map (λ (x : Plea). kind)
        (if b then record { call = call; request = request; errno = errno } ∷ [] else [])
    by true = refl
    by false = refl

pub kinds_more : (queue : ℕ) (kind : Kind) (d : Decoded) (call errno : ℕ) (timed : List Timed) →
    kinds_at queue (timed ++ timed_by kind d)
    ≡ kinds_at queue timed ++ map (λ (x : Plea). kind) (plea_of queue call errno d)
kinds_more queue kind d call errno timed =
    ap (map (λ (t : Timed). t.kind)) (filter-append (is_at queue) timed (timed_by kind d))
    ∙ map-append (λ (t : Timed). t.kind) (filter (is_at queue) timed)
    (filter (is_at queue) (timed_by kind d))
    ∙ ap (λ ks. kinds_at queue timed ++ ks) (one_kind queue kind d call errno)
