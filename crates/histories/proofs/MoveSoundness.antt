-- Soundness, move by move.
use Rattle.std.proofs.Common.{◌≡◌, ◌≢◌, ℕ, ◌+◌, List, [], ◌∷◌, ◌++◌, Bool, refl, sym, ap, ◌∙◌}
use Rattle.std.proofs.Common.{arith, cond, append-nil, append_assoc}
use Rattle.std.specs.Prelude.{count_by, ◌==◌}
use Rattle.std.proofs.lemmas.Bool.{ne_eqb}
use Rattle.std.proofs.lemmas.List.Sums.{sum_by-append, sum_by-cons, sum_by_push}
use Rattle.packet_entry.specs.declared.packet.Card.{Card}
use Rattle.hook_chain.specs.Rules.{RuleTables}
use Rattle.histories.specs.declared.histories.Lost.{Lost}
use Rattle.histories.specs.declared.entry.Entry.{Entry}
use Rattle.histories.specs.Moves.{Move, move_after, moves_after, moves}
use Rattle.histories.specs.Journeys.{Arrival, entering, asks, came, visit_of}
use Rattle.histories.specs.Journeys.{IsSoundBut}

-- 1 where the test passes
abbrev pub once : Bool → ℕ
once b = cond b 1 0

-- one entry more is one move more
pub moves_on : (es : List Entry) (e : Entry) →
    moves (es ++ e ∷ []) ≡ moves es ++ move_after es e ∷ []
moves_on es e = after [] es
  where
    after : (before es : List Entry) → moves_after before (es ++ e ∷ [])
        ≡ moves_after before es ++ move_after (before ++ es) e ∷ []
    after before [] = ap (λ b. move_after b e ∷ []) (sym (append-nil before))
    after before (d ∷ es) =
        ap (λ ms. move_after before d ∷ ms)
        (after (before ++ d ∷ []) es
        ∙ ap (λ b. moves_after (before ++ d ∷ []) es ++ move_after b e ∷ [])
        (append_assoc before (d ∷ []) es))

-- nothing has happened
pub nothing_yet : (tables : RuleTables) (key : ℕ) → IsSoundBut tables key [] [] [] []
nothing_yet tables key = record {
  asked = λ test. omega arith;
  met = λ test. refl;
  first = refl;
}

-- a packet enters, and its first arrival is owed
pub enters : (tables : RuleTables) (key : ℕ) (card : Card) (owed : List Arrival)
    (entered : List Card) (ms : List Move) (lost : List Lost) →
    IsSoundBut tables key owed entered ms lost →
    IsSoundBut tables key (entering tables key card ++ owed) (entered ++ card ∷ []) ms lost
enters tables key card owed entered ms lost is = record {
  asked = λ test. omega (
    arith,
    is.asked test,
    both test,
    sum_by_push (λ c. count_by test (entering tables key c)) entered card,
  );
  met = λ test. omega (
    arith,
    is.met test,
    both (λ a. test (visit_of a)),
    sum_by_push (λ c. count_by (λ a. test (visit_of a)) (entering tables key c)) entered card,
  );
  first = is.first;
}
  where
    both : (test : Arrival → Bool) → count_by test (entering tables key card ++ owed)
        ≡ count_by test (entering tables key card) + count_by test owed
    both test = sum_by-append _ (entering tables key card) owed

-- an owed arrival comes, and what its move asks for is owed
pub moves_one : (tables : RuleTables) (key : ℕ) (m : Move) (owed : List Arrival)
    (entered : List Card) (ms : List Move) (lost : List Lost) →
    IsSoundBut tables key (came m ++ owed) entered ms lost →
    IsSoundBut tables key (asks tables key m ++ owed) entered (ms ++ m ∷ []) lost
moves_one tables key m owed entered ms lost is = record {
  asked = λ test. omega (
    arith,
    is.asked test,
    came_both test,
    asks_both test,
    sum_by_push (λ n. count_by test (came n)) ms m,
    sum_by_push (λ n. count_by test (asks tables key n)) ms m,
  );
  met = λ test. omega (
    arith,
    is.met test,
    came_both (λ a. test (visit_of a)),
    asks_both (λ a. test (visit_of a)),
    sum_by_push (λ n. count_by (λ a. test (visit_of a)) (came n)) ms m,
    sum_by_push (λ n. count_by (λ a. test (visit_of a)) (asks tables key n)) ms m,
  );
  first = is.first;
}
  where
    came_both : (test : Arrival → Bool) → count_by test (came m ++ owed)
        ≡ count_by test (came m) + count_by test owed
    came_both test = sum_by-append _ (came m) owed

    asks_both : (test : Arrival → Bool) → count_by test (asks tables key m ++ owed)
        ≡ count_by test (asks tables key m) + count_by test owed
    asks_both test = sum_by-append _ (asks tables key m) owed

-- an owed arrival that isn't a first one is lost
pub loses : (tables : RuleTables) (key : ℕ) (a : Arrival) (owed : List Arrival)
    (entered : List Card) (ms : List Move) (lost : List Lost) → a.card.visit ≢ 1 →
    IsSoundBut tables key (a ∷ owed) entered ms lost →
    IsSoundBut tables key owed entered ms (lost ++ visit_of a ∷ [])
loses tables key a owed entered ms lost later is = record {
  asked = λ test. omega (arith, is.asked test, first_of test);
  met = λ test. omega (
    arith,
    is.met test,
    first_of (λ b. test (visit_of b)),
    sum_by_push (λ (l : Lost). once (test l)) lost (visit_of a),
  );
  first = omega (
    arith,
    sum_by_push (λ (l : Lost). once (l.visit == 1)) lost (visit_of a),
    is.first,
    ap once (ne_eqb a.card.visit 1 later),
  );
}
  where
    first_of : (test : Arrival → Bool) → count_by test (a ∷ owed)
        ≡ once (test a) + count_by test owed
    first_of test = sum_by-cons _ a owed
