-- The lines of a share, frame by frame.
use Rattle.std.proofs.Common.{◌%◌, ◌*◌, ◌++◌, ◌+◌, ◌-◌, ◌/◌, ◌<◌, ◌∙◌, ◌∷◌, ◌≡◌, ◌≤◌, ◌⊎◌}
use Rattle.std.proofs.Common.{List, [], ap, append-nil, append_assoc, arith, false, inl, inr, refl}
use Rattle.std.proofs.Common.{suc, sym, true, zero, ℕ}
use Rattle.std.proofs.Math.Nat.{mul-le-mul_right}
use Rattle.std.proofs.lemmas.Bool.{cases_Bool, eqb-true, ltb-false, ltb-true, ne_eqb}
use Rattle.std.proofs.lemmas.List.Elements.{filter-append}
use Rattle.std.proofs.lemmas.Nat.{div-add-mod', mod-mul-add}
use Rattle.std.specs.Prelude.{◌==◌, filter, nat_lt}
use Rattle.script_lines.specs.declared.line.Down.{Down}
use Rattle.inspector_script.specs.Scripts.{ScriptValue}
use Rattle.run_parts.specs.Feeder.{downs_after, downs_from, is_after, is_line_of, is_share}
use Rattle.shared_feeding.specs.Lines.{share_downs}
use Rattle.shared_feeding.specs.Sights.{IsFrameOf, IsThis}
use Rattle.shared_feeding.proofs.FeederJoin.{shared}

-- ---- frames of a share

rest_is : (q w b n : ℕ) → n ≡ q * w + b → b < w → n % w ≡ b
rest_is q w b n is few = ap (λ k. k % w) is ∙ mod-mul-add q w b few

pub first_frame : (feeders feeder : ℕ) → feeder < feeders →
    IsFrameOf feeders (IsThis feeder) (feeder + 1)
first_frame feeders feeder below = record {
  counted = omega arith;
  own = rest_is 0 feeders feeder (feeder + 1 - 1) (omega arith) below;
}

row_more : (q w : ℕ) → suc q * w ≡ q * w + w
row_more q w = omega arith

pub next_frame : (feeders feeder number : ℕ) → feeder < feeders →
    IsFrameOf feeders (IsThis feeder) number → IsFrameOf feeders (IsThis feeder) (number + feeders)
next_frame feeders feeder number below is =
    let q = (number - 1) / feeders in
    let all = div-add-mod' (number - 1) feeders in
    let own : (number - 1) % feeders ≡ feeder = is.own in
    record {
      counted = omega (arith, is.counted);
      own = rest_is (suc q) feeders feeder (number + feeders - 1)
          (omega (arith, is.counted, all, own, row_more q feeders)) below;
    }

-- two numbers less than a row apart have another rest
apart : (w f n x : ℕ) → n % w ≡ f → n < x → x < n + w → x % w ≡ f → ⊥
apart w f n x one less few two = by (cases_Bool (nat_lt (n / w) (x / w)))
  where
    all_n : n / w * w + n % w ≡ n
    all_n = div-add-mod' n w

    all_x : x / w * w + x % w ≡ x
    all_x = div-add-mod' x w

    by : (nat_lt (n / w) (x / w) ≡ true) ⊎ (nat_lt (n / w) (x / w) ≡ false) → ⊥
    by (inl h) =
        let more : suc (n / w) * w ≤ x / w * w =
        mul-le-mul_right w (ltb-true (n / w) (x / w) h) in
        absurd (omega (arith, all_n, all_x, one, two, few, more, row_more (n / w) w))
    by (inr h) =
        let least : x / w * w ≤ n / w * w = mul-le-mul_right w (ltb-false (n / w) (x / w) h) in
        absurd (omega (arith, all_n, all_x, one, two, less, least))

other_frame : (feeders feeder n : ℕ) → 1 ≤ n → ((n - 1) % feeders ≡ feeder → ⊥) →
    is_share feeders feeder n ≡ false
other_frame feeders feeder n counted away =
    rw (ne_eqb n 0 (λ none. absurd (omega (arith, none, counted))))
    (ne_eqb ((n - 1) % feeders) feeder away)

-- ---- lines

-- those of frames that follow on others
lines_split : (script : ScriptValue) (n a b c : ℕ) → c ≡ a + b →
    downs_from script n c ≡ downs_from script n a ++ downs_from script (n + a) b
lines_split script n zero b c is =
    let none : n + 0 ≡ n = omega arith in
    let same : c ≡ b = omega (arith, is) in
    ap (downs_from script n) same ∙ ap (λ m. downs_from script m b) (sym none)
lines_split script n (suc a) b c is =
    let more : c ≡ suc (a + b) = omega (arith, is) in
    let at : n + 1 + a ≡ n + suc a = omega arith in
    ap (downs_from script n) more
    ∙ ap (λ ds. downs_after script n ++ ds) (lines_split script (n + 1) a b (a + b) refl
    ∙ ap (λ m. downs_from script (n + 1) a ++ downs_from script m b) at)
    ∙ sym (append_assoc (downs_after script n) (downs_from script (n + 1) a)
    (downs_from script (n + suc a) b))

module _ (feeders feeder : ℕ) where
  abbrev mine : List Down → List Down
  mine ds = filter (is_line_of feeders feeder) ds

  own_after : (n : ℕ) (ds : List Down) → is_share feeders feeder n ≡ true →
      mine (filter (is_after n) ds) ≡ filter (is_after n) ds
  own_after n [] is = refl
  own_after n (d ∷ ds) is = by (cases_Bool (d.after == n)) (own_after n ds is)
    where
      by : ((d.after == n) ≡ true) ⊎ ((d.after == n) ≡ false) →
          mine (filter (is_after n) ds) ≡ filter (is_after n) ds →
          mine (filter (is_after n) (d ∷ ds)) ≡ filter (is_after n) (d ∷ ds)
      by (inl at) rest =
          let share : is_share feeders feeder d.after ≡ true =
          ap (is_share feeders feeder) (eqb-true d.after n at) ∙ is in
          rw at (rw share (ap (λ es. d ∷ es) rest))
      by (inr other) rest = rw other rest

  none_after : (n : ℕ) (ds : List Down) → is_share feeders feeder n ≡ false →
      mine (filter (is_after n) ds) ≡ []
  none_after n [] is = refl
  none_after n (d ∷ ds) is = by (cases_Bool (d.after == n)) (none_after n ds is)
    where
      by : ((d.after == n) ≡ true) ⊎ ((d.after == n) ≡ false) →
          mine (filter (is_after n) ds) ≡ [] → mine (filter (is_after n) (d ∷ ds)) ≡ []
      by (inl at) rest =
          let share : is_share feeders feeder d.after ≡ false =
          ap (is_share feeders feeder) (eqb-true d.after n at) ∙ is in
          rw at (rw share rest)
      by (inr other) rest = rw other rest

  -- none of these frames is of the share
  none_from : (script : ScriptValue) (n count : ℕ) →
      ((m : ℕ) → n ≤ m → m < n + count → is_share feeders feeder m ≡ false) →
      mine (downs_from script n count) ≡ []
  none_from script n zero none = refl
  none_from script n (suc count) none =
      filter-append (is_line_of feeders feeder) (downs_after script n)
      (downs_from script (n + 1) count)
      ∙ ap (λ ds. ds ++ mine (downs_from script (n + 1) count))
      (none_after n script.downs (none n (omega arith) (omega arith)))
      ∙ none_from script (n + 1) count
      (λ m least most. none m (omega (arith, least)) (omega (arith, most)))

pub no_lines : (script : ScriptValue) (feeders feeder : ℕ) → feeder < feeders →
    share_downs script feeders feeder feeder ≡ []
no_lines script feeders feeder below = none_from feeders feeder script 1 feeder
    (λ m least most. other_frame feeders feeder m least (λ same. before m least most same))
  where
    before : (m : ℕ) → 1 ≤ m → m < 1 + feeder → (m - 1) % feeders ≡ feeder → ⊥
    before m least most same =
        let itself : (m - 1) % feeders ≡ m - 1 =
        rest_is 0 feeders (m - 1) (m - 1) (omega arith) (omega (arith, most, below)) in
        absurd (omega (arith, itself, same, least, most))

-- between two frames of the share there is no other
between : (feeders feeder passed m : ℕ) → IsFrameOf feeders (IsThis feeder) (passed + 1) →
    passed + 2 ≤ m → m < passed + 1 + feeders → is_share feeders feeder m ≡ false
between feeders feeder passed m is least most =
    let itself : passed + 1 - 1 ≡ passed = omega arith in
    let own : passed % feeders ≡ feeder = ap (λ n. n % feeders) (sym itself) ∙ is.own in
    other_frame feeders feeder m (omega (arith, least))
    (λ same. apart feeders feeder passed (m - 1) own (omega (arith, least))
    (omega (arith, most, least)) same)

pub more_lines : (script : ScriptValue) (feeders feeder passed : ℕ) → feeder < feeders →
    IsFrameOf feeders (IsThis feeder) (passed + 1) →
    share_downs script feeders feeder passed ++ downs_after script (passed + 1)
    ≡ share_downs script feeders feeder (passed + feeders)
more_lines script feeders feeder passed below is = sym (
    ap (mine feeders feeder) (lines_split script 1 passed feeders (passed + feeders) refl)
    ∙ filter-append (is_line_of feeders feeder) (downs_from script 1 passed)
    (downs_from script (1 + passed) feeders)
    ∙ ap (λ ds. share_downs script feeders feeder passed ++ ds)
    (ap (λ n. mine feeders feeder (downs_from script n feeders)) turned ∙ row feeders below refl))
  where
    turned : 1 + passed ≡ passed + 1
    turned = omega arith

    row : (count : ℕ) → feeder < count → count ≡ feeders →
        mine feeders feeder (downs_from script (passed + 1) count)
        ≡ downs_after script (passed + 1)
    row zero wrong same = absurd (omega (arith, wrong))
    row (suc count) some same =
        filter-append (is_line_of feeders feeder) (downs_after script (passed + 1))
        (downs_from script (passed + 1 + 1) count)
        ∙ ap (λ ds. mine feeders feeder (downs_after script (passed + 1)) ++ ds)
        (none_from feeders feeder script (passed + 1 + 1) count
        (λ m least most. between feeders feeder passed m is (omega (arith, least))
        (omega (arith, most, same))))
        ∙ append-nil (mine feeders feeder (downs_after script (passed + 1)))
        ∙ own_after feeders feeder (passed + 1) script.downs
        (shared feeders feeder (passed + 1) is)

pub all_passed : (script : ScriptValue) (feeders feeder passed frames : ℕ) → feeder < feeders →
    IsFrameOf feeders (IsThis feeder) (passed + 1) → frames ≤ passed → passed < frames + feeders →
    share_downs script feeders feeder passed ≡ share_downs script feeders feeder frames
all_passed script feeders feeder passed frames below is least few =
    ap (mine feeders feeder) (lines_split script 1 frames (passed - frames) passed
    (omega (arith, least)))
    ∙ filter-append (is_line_of feeders feeder) (downs_from script 1 frames)
    (downs_from script (1 + frames) (passed - frames))
    ∙ ap (λ ds. share_downs script feeders feeder frames ++ ds)
    (none_from feeders feeder script (1 + frames) (passed - frames)
    (λ m more most. other_frame feeders feeder m (omega (arith, more))
    (λ same. apart feeders feeder (m - 1) passed same (omega (arith, more, most, least))
    (omega (arith, more, few)) own)))
    ∙ append-nil (share_downs script feeders feeder frames)
  where
    itself : passed + 1 - 1 ≡ passed
    itself = omega arith

    own : passed % feeders ≡ feeder
    own = ap (λ n. n % feeders) (sym itself) ∙ is.own
