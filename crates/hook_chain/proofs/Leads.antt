-- What the lines of a file do to a reader: they lead it from one place to another, or stop it.
use Rattle.std.proofs.Common.{◌≡◌, ℕ, ◌+◌, true, cond, List, [], ◌∷◌, ◌++◌, length, Option, Some}
use Rattle.std.proofs.Common.{None, Result, Ok, Err, ◌∙◌, refl, sym, ap, subst, arith}
use Rattle.std.specs.Prelude.{IsTrue, is_none, is_some}
use Rattle.std.specs.Option.{option_map_or}
use Rattle.std.proofs.lemmas.Option.{same_Some}
use Rattle.hook_chain.specs.declared.rule.Rule.{Rule}
use Rattle.hook_chain.specs.Line.{Says, says}
use Rattle.hook_chain.specs.RulesFile.{Place, after, line_leads_to, tables_from}
use Rattle.hook_chain.specs.Grammar.{IsLine}
use Rattle.hook_chain.proofs.RuleForm.{bind_some}
use Rattle.hook_chain.proofs.LineForm.{says_some, says_again}
use Rattle.hook_chain.proofs.Bounds.{tables_from-on}

-- these lines lead from one place to another: each has a form that is allowed in its place
abbrev pub Leads : Place → List (List ℕ) → Place → Type 0
Leads p [] q = p ≡ q
Leads p (line ∷ rest) q =
    (said : Says) × (next : Place) × IsLine line said × (after p said ≡ Some next)
    × Leads next rest q

-- no form of this line is allowed here
abbrev pub IsRefused : Place → List ℕ → Type 0
IsRefused p line = (said : Says) (next : Place) → IsLine line said → after p said ≡ Some next → ⊥

-- the first of these lines may not stand here, or the file may not end here
abbrev pub IsStuck : Place → List (List ℕ) → Type 0
IsStuck p [] = IsTrue (is_some p.inside)
IsStuck p (line ∷ rest) = IsRefused p line

-- the place after a line, by the line's form
pub leads_by : (p q : Place) (line : List ℕ) (said : Says) → IsLine line said →
    after p said ≡ Some q → line_leads_to p line ≡ Some q
leads_by p q line said form e = rw (says_again line said form) e

not_both : {A : Type 0} (o : Option A) (x : A) → o ≡ None → o ≡ Some x → ⊥
not_both o x e f = cc

pub two_answers : (tables : List (List Rule)) (line : ℕ) →
    ◌≡◌ {A = Result (List (List Rule)) ℕ} (Ok tables) (Err line) → ⊥
two_answers tables line e = cc

ended : (p : Place) (tables : List (List Rule)) (inside : Option (List Rule)) (line_number : ℕ) →
    p.inside ≡ inside → cond (is_none inside) (Ok p.closed) (Err line_number) ≡ Ok tables →
    p ≡ record { names = p.names; closed = tables; inside = None }
ended p tables None line_number is e =
    let closed : p.closed ≡ tables = cc in
    ap (λ (inside : Option (List Rule)). let q : Place =
    record { names = p.names; closed = p.closed; inside = inside } in q) is
    ∙ ap (λ (tables : List (List Rule)). let q : Place =
    record { names = p.names; closed = tables; inside = None } in q) closed
ended p tables (Some rules) line_number is e = absurd (two_answers tables line_number (sym e))

-- lines with an answer lead to a place outside of tables
pub leads_on : (line_number : ℕ) (p : Place) (ls : List (List ℕ)) (tables : List (List Rule)) →
    tables_from line_number p ls ≡ Ok tables →
    (names : List (List ℕ)) × Leads p ls (record { names = names; closed = tables; inside = None })
unfolding tables_from
leads_on line_number p [] tables e = (p.names, ended p tables p.inside line_number refl e)
leads_on line_number p (line ∷ ls) tables e =
    elim (line_leads_to p line) as
    (λ o. line_leads_to p line ≡ o →
    option_map_or (λ q. tables_from (line_number + 1) q ls) o (Err line_number) ≡ Ok tables →
    (names : List (List ℕ)) × Leads p (line ∷ ls)
    (record { names = names; closed = tables; inside = None })) [
      | None ↦ λ is f. absurd (two_answers tables line_number (sym f))
      | Some q ↦ λ is f.
          let said = bind_some (says line) (after p) q is in
          let rest = leads_on (line_number + 1) q ls tables f in
          (rest.0, (said.0, q, says_some line said.0 said.1, said.2, rest.1))
    ] refl e

-- lines that lead to a place outside of tables have its tables for an answer
pub answer_of : (line_number : ℕ) (p q : Place) (ls : List (List ℕ)) → Leads p ls q →
    q.inside ≡ None →
    tables_from line_number p ls ≡ Ok q.closed
unfolding tables_from
answer_of line_number p q [] e outside = rw (e, outside) refl
answer_of line_number p q (line ∷ ls) h outside =
    tables_from-on line_number p h.1 line ls (leads_by p h.1 line h.0 h.2 h.3)
    ∙ answer_of (line_number + 1) h.1 q ls h.4 outside

-- lines without an answer are stuck after a front
abbrev pub Stops : Place → List (List ℕ) → ℕ → Type 0
Stops p ls count =
    (front : List (List ℕ)) × (rest : List (List ℕ)) × (place : Place) × (ls ≡ front ++ rest)
    × (length front ≡ count) × Leads p front place × IsStuck place rest

inside_of : (o : Option (List Rule)) (tables : List (List Rule)) (line_number line : ℕ) →
    cond (is_none o) (Ok tables) (Err line_number) ≡ Err line →
    (is_some o ≡ true) × (line_number ≡ line)
inside_of None tables line_number line e = absurd (two_answers tables line e)
inside_of (Some rules) tables line_number line e =
    (refl, let same : line_number ≡ line = cc in same)

refused_if_none : (p : Place) (line : List ℕ) → line_leads_to p line ≡ None → IsRefused p line
refused_if_none p line none said next form e =
    not_both (line_leads_to p line) next none (leads_by p next line said form e)

pub stops_at : (line_number line : ℕ) (p : Place) (ls : List (List ℕ)) →
    tables_from line_number p ls ≡ Err line →
    (count : ℕ) × (line_number + count ≡ line) × Stops p ls count
unfolding tables_from
stops_at line_number line p [] e =
    let inside = inside_of p.inside p.closed line_number line e in
    (0, omega (arith, inside.1), ([], [], p, refl, refl, refl, inside.0))
stops_at line_number line p (first ∷ ls) e =
    elim (line_leads_to p first) as
    (λ o. line_leads_to p first ≡ o →
    option_map_or (λ q. tables_from (line_number + 1) q ls) o (Err line_number) ≡ Err line →
    (count : ℕ) × (line_number + count ≡ line) × Stops p (first ∷ ls) count) [
      | None ↦ λ is f. let same : line_number ≡ line =
          cc in (0, omega arith, ([], first ∷ ls, p, refl, refl, refl, refused_if_none p first is))
      | Some q ↦ λ is f.
          let said = bind_some (says first) (after p) q is in
          let later = stops_at (line_number + 1) line q ls f in
          let stop = later.2 in (
            later.0 + 1,
            omega (arith, later.1),
            (
              first ∷ stop.0,
              stop.1,
              stop.2,
              ap (λ ms. first ∷ ms) stop.3,
              omega (arith, stop.4),
              (said.0, q, says_some first said.0 said.1, said.2, stop.5),
              stop.6,
            ),
          )
    ] refl e

stuck_answer : (line_number : ℕ) (p : Place) (rest : List (List ℕ)) → IsStuck p rest →
    tables_from line_number p rest ≡ Err line_number
unfolding tables_from
stuck_answer line_number p [] h =
    elim p.inside as (λ o. is_some o ≡ true →
    cond (is_none o) (Ok p.closed) (Err line_number) ≡ Err line_number)
    [ None ↦ λ e. absurd (let never : ⊥ = cc e in never) | Some rules ↦ λ e. refl ] h
stuck_answer line_number p (line ∷ rest) h =
    elim (line_leads_to p line) as
    (λ o. line_leads_to p line ≡ o →
    option_map_or (λ q. tables_from (line_number + 1) q rest) o (Err line_number)
    ≡ Err line_number) [
      | None ↦ λ is. refl
      | Some q ↦ λ is. let said =
          bind_some (says line) (after p) q is in
          absurd (h said.0 q (says_some line said.0 said.1) said.2)
    ] refl

pub fault_of_front : (line_number : ℕ) (p place : Place) (front rest : List (List ℕ)) →
    Leads p front place → IsStuck place rest →
    tables_from line_number p (front ++ rest) ≡ Err (line_number + length front)
fault_of_front line_number p place [] rest e h =
    rw e (stuck_answer line_number place rest h
    ∙ ap (λ n. Err n) (let same : line_number ≡ line_number + 0 = omega arith in same))
fault_of_front line_number p place (line ∷ front) rest l h =
    tables_from-on line_number p l.1 line (front ++ rest) (leads_by p l.1 line l.0 l.2 l.3)
    ∙ fault_of_front (line_number + 1) l.1 place front rest l.4 h
    ∙ ap (λ n. Err n) (let same : line_number + 1 + length front
    ≡ line_number + length (line ∷ front) = omega arith in same)

pub leads_append : (p q r : Place) (xs ys : List (List ℕ)) → Leads p xs q → Leads q ys r →
    Leads p (xs ++ ys) r
leads_append p q r [] ys h g = subst (λ (s : Place). Leads s ys r) (sym h) g
leads_append p q r (x ∷ xs) ys h g = (h.0, h.1, h.2, h.3, leads_append h.1 q r xs ys h.4 g)

pub leads_split : (p r : Place) (xs ys : List (List ℕ)) → Leads p (xs ++ ys) r →
    (q : Place) × Leads p xs q × Leads q ys r
leads_split p r [] ys h = (p, refl, h)
leads_split p r (x ∷ xs) ys h =
    let later = leads_split h.1 r xs ys h.4 in
    (later.0, (h.0, h.1, h.2, h.3, later.1), later.2)

-- lines lead to one place at most
pub leads_same : (p q r : Place) (xs : List (List ℕ)) → Leads p xs q → Leads p xs r → q ≡ r
leads_same p q r [] h g = sym h ∙ g
leads_same p q r (x ∷ xs) h g =
    let next : h.1 ≡ g.1 =
    same_Some h.1 g.1 (sym (leads_by p h.1 x h.0 h.2 h.3) ∙ leads_by p g.1 x g.0 g.2 g.3) in
    leads_same g.1 q r xs (subst (λ (s : Place). Leads s xs q) next h.4) g.4
