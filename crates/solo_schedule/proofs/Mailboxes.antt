-- How many letters are in the mailboxes of some ports.
use Rattle.std.proofs.Common.{◌≡◌, ◌≤◌, ◌⊎◌, ◌∙◌, ◌+◌, ℕ, suc, List, [], ◌∷◌, length}
use Rattle.std.proofs.Common.{Option, Some, None, true, false, refl, sym, ap, inl, inr, arith}
use Rattle.std.proofs.Common.{length-append}
use Rattle.std.specs.Prelude.{◌==◌, nat_eq, option_map}
use Rattle.std.specs.List.{list_any}
use Rattle.std.proofs.lemmas.Bool.{cases_Bool, eq-eqb, eqb-true, ne_eqb}
use Rattle.packet_entry.specs.declared.letter.Letter.{Letter}
use Rattle.packet_moves.specs.World.{Port, changed_at, delivered, received, received_from}
use Rattle.run_parts.specs.Ports.{AreApart}
use Rattle.solo_schedule.specs.Schedule.{letters_at}

abbrev pub in_box : (ℕ → Option Port) → ℕ → ℕ
in_box ports p = length (letters_at (ports p))

abbrev pub in_boxes : (ℕ → Option Port) → List ℕ → ℕ
in_boxes ports [] = 0
in_boxes ports (p ∷ ps) = in_box ports p + in_boxes ports ps

pub boxes_same : (old new : ℕ → Option Port) (ps : List ℕ) →
    ((p : ℕ) → letters_at (new p) ≡ letters_at (old p)) → in_boxes new ps ≡ in_boxes old ps
boxes_same old new [] same = refl
boxes_same old new (p ∷ ps) same =
    omega (arith, ap length (same p), boxes_same old new ps same)

-- a port that isn't one of these changes
boxes_away : (port : ℕ) (g : Port → Port) (ports : ℕ → Option Port) (ps : List ℕ) →
    list_any (nat_eq port) ps ≡ false → in_boxes (changed_at port g ports) ps ≡ in_boxes ports ps
boxes_away port g ports [] out = refl
boxes_away port g ports (p ∷ ps) out =
    by (cases_Bool (nat_eq port p)) (boxes_away port g ports ps)
  where
    by : (nat_eq port p ≡ true) ⊎ (nat_eq port p ≡ false) →
        (list_any (nat_eq port) ps ≡ false →
        in_boxes (changed_at port g ports) ps ≡ in_boxes ports ps) →
        in_boxes (changed_at port g ports) (p ∷ ps) ≡ in_boxes ports (p ∷ ps)
    by (inl h) so =
        let wrong : list_any (nat_eq port) (p ∷ ps) ≡ true = rw h refl in
        let no : true ≡ false = sym wrong ∙ out in
        absurd (cc)
    by (inr h) so =
        let other : (p == port) ≡ false =
        ne_eqb p port (λ same.
        let yes : nat_eq port p ≡ true = eq-eqb port p (sym same) in
        let no : true ≡ false = sym yes ∙ h in absurd (cc)) in
        let rest : list_any (nat_eq port) ps ≡ false = rw h at out in
        let here : in_box (changed_at port g ports) p ≡ in_box ports p = rw other refl in
        omega (arith, here, so rest)

-- a port changes, to a box of so many letters more or less
boxes_then : (port : ℕ) (g : Port → Port) (ports : ℕ → Option Port) (ps : List ℕ) (n m : ℕ) →
    AreApart ps →
    n + length (letters_at (option_map g (ports port))) ≤ m + in_box ports port →
    list_any (nat_eq port) ps ≡ true →
    n + in_boxes (changed_at port g ports) ps ≤ m + in_boxes ports ps
boxes_then port g ports [] n m apart moves wrong = absurd (cc)
boxes_then port g ports (p ∷ ps) n m apart moves within =
    by (cases_Bool (p == port)) (boxes_then port g ports ps n m apart.1 moves)
  where
    by : ((p == port) ≡ true) ⊎ ((p == port) ≡ false) →
        (list_any (nat_eq port) ps ≡ true →
        n + in_boxes (changed_at port g ports) ps ≤ m + in_boxes ports ps) →
        n + in_boxes (changed_at port g ports) (p ∷ ps) ≤ m + in_boxes ports (p ∷ ps)
    by (inl h) so =
        let same : p ≡ port = eqb-true p port h in
        let out : list_any (nat_eq port) ps ≡ false =
        ap (λ k. list_any (nat_eq k) ps) (sym same) ∙ apart.0 in
        let here : in_box (changed_at port g ports) p
        ≡ length (letters_at (option_map g (ports p))) = rw h refl in
        let there : length (letters_at (option_map g (ports p)))
        ≡ length (letters_at (option_map g (ports port))) =
        ap (λ k. length (letters_at (option_map g (ports k)))) same in
        let was : in_box ports p ≡ in_box ports port = ap (in_box ports) same in
        omega (arith, moves, here, there, was, boxes_away port g ports ps out)
    by (inr h) so =
        let other : nat_eq port p ≡ false =
        ne_eqb port p (λ same.
        let yes : (p == port) ≡ true = eq-eqb p port (sym same) in
        let no : true ≡ false = sym yes ∙ h in absurd (cc)) in
        let rest : list_any (nat_eq port) ps ≡ true = rw other at within in
        let here : in_box (changed_at port g ports) p ≡ in_box ports p = rw h refl in
        omega (arith, here, so rest)

-- a notice comes
pub boxes_more : (port : ℕ) (letter : Letter) (ports : ℕ → Option Port) (ps : List ℕ) →
    AreApart ps →
    in_boxes (changed_at port (delivered letter) ports) ps ≤ 1 + in_boxes ports ps
boxes_more port letter ports ps apart = by (cases_Bool (list_any (nat_eq port) ps))
  where
    moves : (o : Option Port) →
        0 + length (letters_at (option_map (delivered letter) o)) ≤ 1 + length (letters_at o)
    moves None = omega arith
    moves (Some p) = omega (arith, length-append p.letters (letter ∷ []))

    by : (list_any (nat_eq port) ps ≡ true) ⊎ (list_any (nat_eq port) ps ≡ false) →
        in_boxes (changed_at port (delivered letter) ports) ps ≤ 1 + in_boxes ports ps
    by (inl h) =
        omega (
          arith,
          boxes_then port (delivered letter) ports ps 0 1 apart (moves (ports port)) h,
        )
    by (inr h) = omega (arith, boxes_away port (delivered letter) ports ps h)

-- one is received
pub boxes_less : (port : ℕ) (ports : ℕ → Option Port) (ps : List ℕ) (l : Letter)
    (ls : List Letter) → AreApart ps → list_any (nat_eq port) ps ≡ true →
    letters_at (ports port) ≡ l ∷ ls →
    suc (in_boxes (changed_at port received ports) ps) ≤ in_boxes ports ps
boxes_less port ports ps l ls apart within some =
    omega (
      arith,
      boxes_then port received ports ps 1 0 apart (moves (ports port) some) within,
    )
  where
    moves : (o : Option Port) → letters_at o ≡ l ∷ ls →
        1 + length (letters_at (option_map received o)) ≤ 0 + length (letters_at o)
    moves None wrong = absurd (cc)
    moves (Some p) is = from p.letters is
      where
        from : (ms : List Letter) → ms ≡ l ∷ ls →
            1 + length (received_from ms p).letters ≤ 0 + length ms
        from [] wrong = absurd (cc)
        from (m ∷ ms) is = omega arith
