-- Each kind of step keeps the rule of the word that counts letters, and tells what it says.
use Rattle.std.proofs.Common.{◌≡◌, ℕ, ◌+◌, ◌-◌, ◌<◌, ◌≤◌, ◌⊎◌, inl, inr, ⊎_elim, ◌==◌, true}
use Rattle.std.proofs.Common.{false}
use Rattle.std.proofs.Common.{List, [], ◌∷◌, ◌++◌, get_or, set, refl, sym, ap, ◌∙◌}
use Rattle.std.proofs.Common.{arith, true≢false, le_refl, sum_by}
use mathlib.Core.Option.{none, some}
use mathlib.Core.Logic.{dite}
use native.Mathlib.Decide.{ℕ_discrete, dec_lt}
use lib.ListN.{get_elem?}
use prog.Atomic.{either}
use Rattle.atomic_table.specs.Table.{State, Me, step, keeps, stepped, opening, Allows, Splits}
use Rattle.atomic_table.specs.Table.{Joins}
use Rattle.atomic_table.proofs.Lists.{exchanged}
use Rattle.table_seats.specs.Seats.{each_first, each_set, each_split, each_joined, was_there}
use Rattle.table_seats.specs.Sums.{sum_set, sum_more, sum_joined, sum_of_one}
use Rattle.mailbox.specs.declared.view.Role.{Role}
use Rattle.mailbox.specs.declared.view.Fill.{Fill}
use Rattle.mailbox.specs.Roles.{HasAll}
use Rattle.mailbox.specs.Fills.{Counting, Counts, first_fill, sending_fill, receiving_fill}
use Rattle.mailbox.specs.Fills.{spent_fill, parent_fill, child_fill, joined_fill, claiming, freeing}
use Rattle.mailbox.specs.Fills.{full_look, empty_look, LooksForRoom, LooksForLetters, Claims, Frees}
use Rattle.mailbox.specs.Fills.{Learns}
use Rattle.mailbox.proofs.EndRoles.{opens, stays, cuts, splits, joins, alone}

abbrev role_of : Fill → Role
role_of v = v.role

abbrev claims_of : Fill → ℕ
claims_of v = v.claims

abbrev freed_of : Fill → ℕ
freed_of v = v.freed

-- a new word, and the first end
pub fill_opens : (cap : ℕ) → Counts cap (opening (0 ∷ []) [] (first_fill cap))
fill_opens cap = record {
  ends = opens role_of (first_fill cap) refl;
  word = 0;
  words = refl;
  bound = omega arith;
  counted = refl;
  was_full = each_first
      (λ id (v : Fill). 0 < v.full → cap ≤ sum_by claims_of (first_fill cap ∷ [])) (first_fill cap)
      (λ h. absurd (omega arith));
  each = each_first (λ id v. Counting cap v) (first_fill cap)
      (record { sends = λ _. refl; gets = λ _. refl; quiet = λ _. refl; idle = λ _ _. refl });
}

-- the word becomes n, and one end's view w
moved : (cap : ℕ) (s : State ℕ Fill) (r : Counts cap s) (me : ℕ) (cs : List (ℕ × ℕ)) (v w : Fill)
    (n : ℕ) → get_elem? s.views me ≡ some v → w.role ≡ v.role → (Counting cap v → Counting cap w)
    → n ≤ cap → n + (w.freed + v.claims) ≡ r.word + (v.freed + w.claims) → v.claims ≤ w.claims
    → (0 < w.full → (0 < v.full) ⊎ (cap ≤ r.word)) → Counts cap (stepped s 0 n me cs w keeps)
moved cap s r me cs v w n at same know low balance more full =
    let p = sum_set claims_of s.views me v w at in
    let q = sum_set freed_of s.views me v w at in
    let c = r.counted in
    let bigger : sum_by claims_of s.views ≤ sum_by claims_of (set s.views me w) = omega arith in
    record {
      ends = stays role_of s.views r.ends me v w at same;
      word = n;
      words = ap (λ (ws : List ℕ). set ws 0 n) r.words;
      bound = low;
      counted = omega arith;
      was_full =
          each_set (λ id (u : Fill). 0 < u.full → cap ≤ sum_by claims_of (set s.views me w)) s.views
          me w
          (λ h. ⊎_elim (λ (l : 0 < v.full). let b = r.was_full me v at l in omega arith)
          (λ (l : cap ≤ r.word). omega arith) (full h))
          (λ i u ne at_u h. let b = r.was_full i u at_u h in omega arith);
      each = each_set (λ id u. Counting cap u) s.views me w (know (r.each me v at))
          (λ i u ne at_u. r.each i u at_u);
    }

-- a look that changes nothing
looked : (cap : ℕ) (s : State ℕ Fill) (r : Counts cap s) (me : ℕ) (cs : List (ℕ × ℕ)) (v : Fill)
    (n : ℕ) → get_elem? s.views me ≡ some v → n ≡ r.word
    → Counts cap (stepped s 0 n me cs v keeps)
looked cap s r me cs v n at now =
    let b = r.bound in
    moved cap s r me cs v v n at refl (λ k. k) (omega arith) (omega arith) (le_refl v.claims)
    (λ h. inl h)

pub looks_for_room : (cap slots id : ℕ) (m : Me ℕ Fill) → m.0.role.sends ≡ true
    → Allows (Counts cap) slots id m 0 (λ n. n) (LooksForRoom (step slots 0 0 0 none) m)
looks_for_room cap slots id m sends s r _ at _ =
    let n : ℕ = get_or s.words 0 0 in
    let now : n ≡ r.word = ap (λ (ws : List ℕ). get_or ws 0 0) r.words in
    let own : m.0.capacity ≡ cap = (r.each id m.0 at).sends sends in
    let b = r.bound in
    let low : n ≤ m.0.capacity = omega arith in
    dite (ℕ_discrete n m.0.capacity)
    (λ hit. (
      full_look m.0,
      keeps,
      tt,
      moved cap s r id m.1 m.0 (full_look m.0) n at refl
          (λ k. record { sends = k.sends; gets = k.gets; quiet = k.quiet; idle = k.idle })
          (omega arith) (omega arith) (le_refl m.0.claims) (λ _. inr (omega arith)),
      (low, (λ _. refl), λ miss. absurd (miss hit)),
    ))
    (λ miss. (
      m.0,
      keeps,
      tt,
      looked cap s r id m.1 m.0 n at now,
      (low, (λ hit. absurd (miss hit)), λ _. refl),
    ))

-- once all senders are joined, the receiver knows all that was claimed and freed
all_claims : (cap : ℕ) (s : State ℕ Fill) (r : Counts cap s) (me : ℕ) (v : Fill)
    → get_elem? s.views me ≡ some v → v.role.gets ≡ true → HasAll v.role.made v.role.joined
    → sum_by claims_of s.views ≡ v.claims
all_claims cap s r me v at gets has =
    sum_of_one claims_of s.views me v at
    (λ i u ne at_u. let a = alone role_of s.views r.ends me v at gets has i u ne at_u in
    (r.each i u at_u).idle a.0 a.1)

all_freed : (cap : ℕ) (s : State ℕ Fill) (r : Counts cap s) (me : ℕ) (v : Fill)
    → get_elem? s.views me ≡ some v → v.role.gets ≡ true → HasAll v.role.made v.role.joined
    → sum_by freed_of s.views ≡ v.freed
all_freed cap s r me v at gets has =
    sum_of_one freed_of s.views me v at
    (λ i u ne at_u. let a = alone role_of s.views r.ends me v at gets has i u ne at_u in
    (r.each i u at_u).quiet a.1)

pub looks_for_letters : (cap slots id : ℕ) (m : Me ℕ Fill) → m.0.role.gets ≡ true
    → Allows (Counts cap) slots id m 0 (λ n. n) (LooksForLetters (step slots 0 0 0 none) m)
looks_for_letters cap slots id m gets s r _ at _ =
    let n : ℕ = get_or s.words 0 0 in
    let now : n ≡ r.word = ap (λ (ws : List ℕ). get_or ws 0 0) r.words in
    let b = r.bound in
    let c = r.counted in
    dite (ℕ_discrete n 0)
    (λ hit. (
      empty_look m.0,
      keeps,
      tt,
      moved cap s r id m.1 m.0 (empty_look m.0) n at refl
          (λ k. record { sends = k.sends; gets = k.gets; quiet = k.quiet; idle = k.idle })
          (omega arith) (omega arith) (le_refl m.0.claims) (λ h. inl h),
      (
        (λ _. (
          refl,
          λ has. let p = all_claims cap s r id m.0 at gets has in
              let q = all_freed cap s r id m.0 at gets has in omega arith,
        )),
        λ miss. absurd (miss hit),
      ),
    ))
    (λ miss. (
      m.0,
      keeps,
      tt,
      looked cap s r id m.1 m.0 n at now,
      ((λ hit. absurd (miss hit)), λ _. refl),
    ))

pub claims : (cap slots id : ℕ) (m : Me ℕ Fill) (from : ℕ) → m.0.role.sends ≡ true
    → from < m.0.capacity
    → Allows (Counts cap) slots id m 0 (λ n. either (n == from) (from + 1) n)
    (Claims (step slots 0 from (from + 1) none) m)
claims cap slots id m from sends room s r _ at _ =
    let n : ℕ = get_or s.words 0 0 in
    let now : n ≡ r.word = ap (λ (ws : List ℕ). get_or ws 0 0) r.words in
    let own : m.0.capacity ≡ cap = (r.each id m.0 at).sends sends in
    let w : Fill = claiming m.0 in
    dite (ℕ_discrete n from)
    (λ hit. (
      w,
      keeps,
      tt,
      exchanged n from (from + 1) (λ (x : ℕ). Counts cap (stepped s 0 x id m.1 w keeps))
          (λ _. moved cap s r id m.1 m.0 w (from + 1) at refl
          (λ k. record {
            sends = k.sends;
            gets = k.gets;
            quiet = k.quiet;
            idle = λ h. absurd (true≢false (sym sends ∙ h));
          })
          (omega arith) (omega arith) (omega arith) (λ h. inl h))
          (λ miss. absurd (miss hit)),
      ((λ _. refl), λ miss. absurd (miss hit)),
    ))
    (λ miss. (
      m.0,
      keeps,
      tt,
      exchanged n from (from + 1) (λ (x : ℕ). Counts cap (stepped s 0 x id m.1 m.0 keeps))
          (λ hit. absurd (miss hit)) (λ _. looked cap s r id m.1 m.0 n at now),
      ((λ hit. absurd (miss hit)), λ _. refl),
    ))

pub frees : (cap slots id : ℕ) (m : Me ℕ Fill) (from : ℕ) → m.0.role.gets ≡ true → 0 < from
    → Allows (Counts cap) slots id m 0 (λ n. either (n == from) (from - 1) n)
    (Frees (step slots 0 from (from - 1) none) m)
frees cap slots id m from gets some_there s r _ at _ =
    let n : ℕ = get_or s.words 0 0 in
    let now : n ≡ r.word = ap (λ (ws : List ℕ). get_or ws 0 0) r.words in
    let b = r.bound in
    let w : Fill = freeing m.0 in
    dite (ℕ_discrete n from)
    (λ hit. (
      w,
      keeps,
      tt,
      exchanged n from (from - 1) (λ (x : ℕ). Counts cap (stepped s 0 x id m.1 w keeps))
          (λ _. moved cap s r id m.1 m.0 w (from - 1) at refl
          (λ k. record {
            sends = k.sends;
            gets = k.gets;
            quiet = λ h. absurd (true≢false (sym gets ∙ h));
            idle = k.idle;
          })
          (omega arith) (omega arith) (le_refl m.0.claims) (λ h. inl h))
          (λ miss. absurd (miss hit)),
      ((λ _. refl), λ miss. absurd (miss hit)),
    ))
    (λ miss. (
      m.0,
      keeps,
      tt,
      exchanged n from (from - 1) (λ (x : ℕ). Counts cap (stepped s 0 x id m.1 m.0 keeps))
          (λ hit. absurd (miss hit)) (λ _. looked cap s r id m.1 m.0 n at now),
      ((λ hit. absurd (miss hit)), λ _. refl),
    ))

pub learns : (cap slots id : ℕ) (m : Me ℕ Fill) → m.0.role.gets ≡ true
    → Allows (Counts cap) slots id m 0 (λ n. n) (Learns (step slots 0 0 0 none) m)
learns cap slots id m gets s r _ at _ =
    let n : ℕ = get_or s.words 0 0 in
    let now : n ≡ r.word = ap (λ (ws : List ℕ). get_or ws 0 0) r.words in
    let own : m.0.capacity ≡ cap = (r.each id m.0 at).gets gets in (
      m.0,
      keeps,
      tt,
      looked cap s r id m.1 m.0 n at now,
      (
        refl,
        λ has full. let p = all_claims cap s r id m.0 at gets has in
            let q = r.was_full id m.0 at full in omega arith,
      ),
    )

-- ---- ends that come and go
pub fill_cuts : (cap id : ℕ) (v : Fill) → v ≡ first_fill cap
    → Splits (Counts cap) id v (sending_fill v.capacity) (receiving_fill v.capacity)
fill_cuts cap id v is s r at =
    let l : Fill = sending_fill v.capacity in
    let w : Fill = receiving_fill v.capacity in
    let p = sum_more claims_of s.views id v l w at (sym (ap claims_of is)) refl in
    let q = sum_more freed_of s.views id v l w at (sym (ap freed_of is)) refl in
    let own : v.capacity ≡ cap = ap (λ (u : Fill). u.capacity) is in
    let c = r.counted in
    let all : ℕ = sum_by claims_of (set s.views id l ++ w ∷ []) in record {
      ends = cuts role_of s.views r.ends id v l w at (ap role_of is) refl refl;
      word = r.word;
      words = r.words;
      bound = r.bound;
      counted = omega arith;
      was_full = each_split (λ i (u : Fill). 0 < u.full → cap ≤ all) s.views id l w
          (λ h. absurd (omega arith)) (λ h. absurd (omega arith))
          (λ i u ne at_u h. let b = r.was_full i u at_u h in omega arith);
      each = each_split (λ i u. Counting cap u) s.views id l w
          (record { sends = λ _. own; gets = λ _. own; quiet = λ _. refl; idle = λ _ _. refl })
          (record { sends = λ _. own; gets = λ _. own; quiet = λ _. refl; idle = λ _ _. refl })
          (λ i u ne at_u. r.each i u at_u);
    }

pub fill_splits : (cap id : ℕ) (v : Fill) → v.role.sends ≡ true → v.role.gets ≡ false
    → v.role.number ≡ 0 → Splits (Counts cap) id v (parent_fill v) (child_fill v)
fill_splits cap id v sends gets is_zero s r at =
    let l : Fill = parent_fill v in
    let w : Fill = child_fill v in
    let p = sum_more claims_of s.views id v l w at refl refl in
    let q = sum_more freed_of s.views id v l w at refl refl in
    let k = r.each id v at in
    let own : v.capacity ≡ cap = k.sends sends in
    let c = r.counted in
    let all : ℕ = sum_by claims_of (set s.views id l ++ w ∷ []) in record {
      ends = splits role_of s.views r.ends id v l w at sends gets is_zero refl refl;
      word = r.word;
      words = r.words;
      bound = r.bound;
      counted = omega arith;
      was_full = each_split (λ i (u : Fill). 0 < u.full → cap ≤ all) s.views id l w
          (λ h. let b = r.was_full id v at h in omega arith) (λ h. absurd (omega arith))
          (λ i u ne at_u h. let b = r.was_full i u at_u h in omega arith);
      each = each_split (λ i u. Counting cap u) s.views id l w
          (record { sends = k.sends; gets = k.gets; quiet = k.quiet; idle = k.idle })
          (record { sends = λ _. own; gets = λ _. own; quiet = λ _. refl; idle = λ _ _. refl })
          (λ i u ne at_u. r.each i u at_u);
    }

pub fill_joins : (cap id other : ℕ) (v w : Fill) → v.role.sends ≡ false → v.role.gets ≡ true
    → w.role.sends ≡ true → w.role.gets ≡ false
    → Joins (Counts cap) id v other w (joined_fill v w) spent_fill
fill_joins cap id other v w sends gets sends_w gets_w s r at ne at_o =
    let b : Fill = joined_fill v w in
    let at_w = was_there s.views id other b w ne at_o in
    let p = sum_joined claims_of s.views id other v w b spent_fill at at_o in
    let q = sum_joined freed_of s.views id other v w b spent_fill at at_o in
    let k = r.each id v at in
    let k_w = r.each other w at_w in
    let none : w.freed ≡ 0 = k_w.quiet gets_w in
    let c = r.counted in
    let vs : List Fill = set (set s.views id b) other spent_fill in
    let all : ℕ = sum_by claims_of vs in record {
      ends = joins role_of s.views r.ends id other v w b spent_fill at at_w ne sends gets sends_w
          refl refl;
      word = r.word;
      words = r.words;
      bound = r.bound;
      counted = omega arith;
      was_full = each_joined (λ i (u : Fill). 0 < u.full → cap ≤ all) s.views id other b spent_fill
          (λ h. dite (dec_lt 0 v.full) (λ l. let a = r.was_full id v at l in omega arith)
          (λ l. let a = r.was_full other w at_w (omega arith) in omega arith))
          (λ h. absurd (omega arith))
          (λ i u ne_id ne_o at_u h. let a = r.was_full i u at_u h in omega arith);
      each = each_joined (λ i u. Counting cap u) s.views id other b spent_fill
          (record {
            sends = k.sends;
            gets = k.gets;
            quiet = k.quiet;
            idle = λ _ h. absurd (true≢false (sym gets ∙ h));
          })
          (record {
            sends = λ h. absurd (true≢false (sym h));
            gets = λ h. absurd (true≢false (sym h));
            quiet = λ _. refl;
            idle = λ _ _. refl;
          })
          (λ i u ne_id ne_o at_u. r.each i u at_u);
    }
