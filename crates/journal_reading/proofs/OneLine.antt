-- A text has one first line that is refused, if it has any.
use Rattle.std.proofs.Common.{◌≡◌, ℕ, ◌+◌, ◌<◌, true, false, eqb, ltb, inl, inr, List}
use Rattle.std.proofs.Common.{[], ◌∷◌, ◌++◌, length, None, ◌∙◌, refl, sym, ap, subst}
use Rattle.std.proofs.Common.{arith, Result, Ok, Err, append_assoc}
use Rattle.std.specs.Prelude.{filter}
use Rattle.std.proofs.lemmas.Bool.{ltb-false, ltb-true}
use Rattle.std.proofs.lemmas.Option.{none-some}
use Rattle.text_lines.specs.Words.{cut_at}
use Rattle.histories.specs.declared.histories.Histories.{Histories}
use Rattle.journals.specs.declared.version.Version.{Version}
use Rattle.journal_reading.specs.declared.fault.JournalFault.{JournalFault}
use Rattle.journal_reading.specs.declared.fault.JournalFault.TheVariants.{Bad}
use Rattle.journal_reading.specs.declared.fault.JournalFault.TheVariants as fault
use Rattle.journal_reading.specs.JournalFile.{BeginsJournal, IsAnswer}
use Rattle.journal_reading.specs.JournalFile.{IsFirstRefused, IsJournal, IsRefusedAt, line_ends}
use Rattle.journal_reading.proofs.FirstRefusal.{ends_append, line_is_whole, never_both, no_ends}
use Rattle.journal_reading.proofs.WordCuts.{chosen, cut_some, map_none, passed}

same_head : (x y : ℕ) (xs ys : List ℕ) → x ∷ xs ≡ y ∷ ys → x ≡ y
same_head x y xs ys e = cc

same_tail : (x y : ℕ) (xs ys : List ℕ) → x ∷ xs ≡ y ∷ ys → xs ≡ ys
same_tail x y xs ys e = cc

-- what ends a line of a text holds the whole of the text's first line
in_line : (line later front rest : List ℕ) → cut_at 10 line ≡ None →
    line ++ 10 ∷ later ≡ front ++ rest → 0 < line_ends front →
    (z : List ℕ) × (front ≡ (line ++ 10 ∷ []) ++ z)
in_line [] later [] rest none e less = absurd (omega (arith, less))
in_line [] later (c ∷ cs) rest none e less =
    (cs, ap (λ b. b ∷ cs) (sym (same_head 10 c later (cs ++ rest) e)))
in_line (b ∷ bs) later [] rest none e less = absurd (omega (arith, less))
in_line (b ∷ bs) later (c ∷ cs) rest none e less =
    let head = same_head b c (bs ++ 10 ∷ later) (cs ++ rest) e in
    elim (chosen (eqb b 10) _ _ None none) [
      | inl h ↦ absurd (none-some ([], bs) (sym h.1))
      | inr h ↦
          let fewer : line_ends (c ∷ cs) ≡ line_ends cs =
          ap length (passed (eqb c 10) _ (filter (λ (d : ℕ). eqb d 10) cs)
          (ap (λ d. eqb d 10) (sym head) ∙ h.0)) in
          let more = in_line bs later cs rest (map_none _ (cut_at 10 bs) h.1)
          (same_tail b c (bs ++ 10 ∷ later) (cs ++ rest) e) (omega (arith, less, fewer)) in
          (more.0, ap (λ d. d ∷ cs) (sym head) ∙ ap (λ ds. b ∷ ds) more.1)
    ]

-- a front with more lines holds the line behind a front with fewer
holds_line : (a line later b rest : List ℕ) → cut_at 10 line ≡ None →
    a ++ (line ++ 10 ∷ later) ≡ b ++ rest → line_ends a < line_ends b →
    (z : List ℕ) × (b ≡ (a ++ (line ++ 10 ∷ [])) ++ z)
holds_line [] line later b rest none e less = in_line line later b rest none e less
holds_line (x ∷ xs) line later [] rest none e less = absurd (omega (arith, less))
holds_line (x ∷ xs) line later (y ∷ ys) rest none e less =
    let head = same_head x y (xs ++ (line ++ 10 ∷ later)) (ys ++ rest) e in
    let more = holds_line xs line later ys rest none
    (same_tail x y (xs ++ (line ++ 10 ∷ later)) (ys ++ rest) e)
    (omega (
      arith,
      less,
      ends_append (x ∷ []) xs,
      ends_append (y ∷ []) ys,
      ap (λ d. line_ends (d ∷ [])) head,
    )) in
    (more.0, ap (λ d. d ∷ ys) (sym head) ∙ ap (λ ds. x ∷ ds) more.1)

-- what both kinds of refusal say of the text before
record Before (v : Version) (text : List ℕ) (n : ℕ) : Type 0 where
  pub front : List ℕ
  pub rest : List ℕ
  pub text_is : text ≡ front ++ rest
  pub count : line_ends front + 1 ≡ n
  pub begins : BeginsJournal v front

before : (v : Version) (text : List ℕ) (n : ℕ) → IsFirstRefused v text n → Before v text n
before v text n (inl h) = record {
  front = h.front;
  rest = h.rest;
  text_is = h.text_is;
  count = h.count;
  begins = h.begins;
}
before v text n (inr h) = record {
  front = h.front;
  rest = h.piece;
  text_is = h.text_is;
  count = h.count;
  begins = h.begins;
}

not_before : (v : Version) (text : List ℕ) (a b : ℕ) → IsFirstRefused v text a → Before v text b →
    a < b → ⊥
not_before v text a b (inl bad) h less =
    let held = holds_line bad.front bad.line bad.later h.front h.rest
    (line_is_whole bad.rest (bad.line, bad.later) bad.line_is)
    (ap (λ z. bad.front ++ z) (sym (cut_some 10 bad.rest (bad.line, bad.later) bad.line_is))
    ∙ sym bad.text_is ∙ h.text_is) (omega (arith, less, bad.count, h.count)) in
    let more = h.begins in
    bad.refused (
      held.0 ++ more.0,
      more.1,
      subst (λ (z : List ℕ). IsJournal v z more.1)
          (ap (λ z. z ++ more.0) held.1
          ∙ append_assoc (bad.front ++ (bad.line ++ 10 ∷ [])) held.0 more.0) more.2,
    )
not_before v text a b (inr early) h less =
    omega (
      arith,
      less,
      early.count,
      h.count,
      ends_append early.front early.piece,
      ends_append h.front h.rest,
      no_ends early.piece early.no_line,
      ap line_ends (sym early.text_is ∙ h.text_is),
    )

pub same_line : (v : Version) (text : List ℕ) (a b : ℕ) → IsFirstRefused v text a →
    IsFirstRefused v text b → a ≡ b
same_line v text a b x y =
    elim (ltb a b) as (λ c. ltb a b ≡ c → a ≡ b) [
      | true ↦ λ e. absurd (not_before v text a b x (before v text b y) (ltb-true a b e))
      | false ↦ λ e. elim (ltb b a) as (λ c. ltb b a ≡ c → a ≡ b) [
        | true ↦ λ f. absurd (not_before v text b a y (before v text a x) (ltb-true b a f))
        | false ↦ λ f. omega (arith, ltb-false a b e, ltb-false b a f)
      ] refl
    ] refl

pub stuck_by : (v : Version) (r : Result Histories JournalFault) (text : List ℕ) →
    IsAnswer v r text →
    (line : ℕ) → IsFirstRefused v text line → IsRefusedAt r line
stuck_by v (Ok h) text a line refused = never_both v text h line a.0 refused
stuck_by v (Err (Bad n)) text a line refused = same_line v text n line a refused
stuck_by v (Err fault.NoMemory) text a line refused = tt
