-- What the lines of a file do to a reader: they lead it from one place to another, or stop it.
use Rattle.std.proofs.Common.{◌≡◌, ℕ, ◌+◌, List, [], ◌∷◌, ◌++◌, length, Option, Some, None, Result}
use Rattle.std.proofs.Common.{Ok, Err, ◌∙◌, refl, sym, ap, subst, arith}
use Rattle.std.specs.Prelude.{◌↔◌}
use Rattle.std.specs.Option.{option_map_or}
use Rattle.std.proofs.lemmas.Option.{none-some, same_Some}
use Rattle.text_lines.specs.Words.{◌>>=◌}
use Rattle.script_lines.specs.declared.line.Line.{Line}
use Rattle.script_lines.specs.Line.{says}
use Rattle.script_lines.specs.Grammar.{Says}
use Rattle.inspector_script.specs.declared.block.Block.{Block}
use Rattle.inspector_script.specs.Scripts.{ScriptValue}
use Rattle.inspector_script.specs.ScriptFile.{Place, after, line_leads_to, script_at, script_from}
use Rattle.inspector_script.proofs.ReaderState.{script_from-on}

-- what is read of a line is what it says
abbrev pub Spelling : Type 0
Spelling = (text : List ℕ) (line : Line) → (says text ≡ Some line) ↔ Says text line

-- these lines lead from one place to another: each says something that is allowed in its place
abbrev pub Leads : Place → List (List ℕ) → Place → Type 0
Leads p [] q = p ≡ q
Leads p (line ∷ rest) q =
    (said : Line) × (next : Place) × Says line said × (after p said ≡ Some next)
    × Leads next rest q

-- nothing that this line says is allowed here
abbrev pub IsRefused : Place → List ℕ → Type 0
IsRefused p line = (said : Line) (next : Place) → Says line said → after p said ≡ Some next → ⊥

-- the first of these lines may not stand here, or the file may not end here
abbrev pub IsStuck : Place → List (List ℕ) → Type 0
IsStuck p [] = p.last ≡ None
IsStuck p (line ∷ rest) = IsRefused p line

pub bind_some : {A B : Type 0} (o : Option A) (f : A → Option B) (y : B) → (o >>= f) ≡ Some y →
    (x : A) × (o ≡ Some x) × (f x ≡ Some y)
bind_some None f y e = absurd (none-some y e)
bind_some (Some x) f y e = (x, refl, e)

-- the place after a line, by what it says
pub leads_by : Spelling → (p q : Place) (line : List ℕ) (said : Line) → Says line said →
    after p said ≡ Some q → line_leads_to p line ≡ Some q
leads_by law p q line said form e = rw ((law line said).1 form) e

pub two_answers : (s : ScriptValue) (line : ℕ) →
    ◌≡◌ {A = Result ScriptValue ℕ} (Ok s) (Err line) → ⊥
two_answers s line e = cc

pub same_Ok : (s t : ScriptValue) → ◌≡◌ {A = Result ScriptValue ℕ} (Ok s) (Ok t) → s ≡ t
same_Ok s t e = cc

pub same_Err : (m n : ℕ) → ◌≡◌ {A = Result ScriptValue ℕ} (Err m) (Err n) → m ≡ n
same_Err m n e = cc

-- an end inside of a block
abbrev pub EndsIn : Place → ScriptValue → Type 0
EndsIn p s = (b : Block) × (p.last ≡ Some b) × (script_at p b ≡ s)

ended : (p : Place) (s : ScriptValue) (last : Option Block) (line_number : ℕ) → p.last ≡ last →
    option_map_or (λ b. Ok (script_at p b)) last (Err line_number) ≡ Ok s → EndsIn p s
ended p s None line_number is e = absurd (two_answers s line_number (sym e))
ended p s (Some b) line_number is e = (b, is, same_Ok (script_at p b) s e)

-- lines with an answer lead to a place in a block
pub leads_on : Spelling → (line_number : ℕ) (p : Place) (ls : List (List ℕ)) (s : ScriptValue) →
    script_from line_number p ls ≡ Ok s → (q : Place) × Leads p ls q × EndsIn q s
unfolding script_from
leads_on law line_number p [] s e = (p, refl, ended p s p.last line_number refl e)
leads_on law line_number p (line ∷ ls) s e =
    elim (line_leads_to p line) as
    (λ o. line_leads_to p line ≡ o →
    option_map_or (λ q. script_from (line_number + 1) q ls) o (Err line_number) ≡ Ok s →
    (q : Place) × Leads p (line ∷ ls) q × EndsIn q s) [
      | None ↦ λ is f. absurd (two_answers s line_number (sym f))
      | Some next ↦ λ is f.
          let said = bind_some (says line) (after p) next is in
          let rest = leads_on law (line_number + 1) next ls s f in (
            rest.0,
            (said.0, next, (law line said.0).0 said.1, said.2, rest.1),
            rest.2,
          )
    ] refl e

-- lines that lead to a place in a block have its script for an answer
pub answer_of : Spelling → (line_number : ℕ) (p q : Place) (ls : List (List ℕ))
    (s : ScriptValue) → Leads p ls q → EndsIn q s → script_from line_number p ls ≡ Ok s
unfolding script_from
answer_of law line_number p q [] s e end = rw (e, end.1) (ap (λ t. Ok t) end.2)
answer_of law line_number p q (line ∷ ls) s h end =
    script_from-on line_number p h.1 line ls (leads_by law p h.1 line h.0 h.2 h.3)
    ∙ answer_of law (line_number + 1) h.1 q ls s h.4 end

-- lines without an answer are stuck after a front
abbrev pub Stops : Place → List (List ℕ) → ℕ → Type 0
Stops p ls count =
    (front : List (List ℕ)) × (rest : List (List ℕ)) × (place : Place) × (ls ≡ front ++ rest)
    × (length front ≡ count) × Leads p front place × IsStuck place rest

no_port : (o : Option Block) (p : Place) (line_number line : ℕ) →
    option_map_or (λ b. Ok (script_at p b)) o (Err line_number) ≡ Err line →
    (o ≡ None) × (line_number ≡ line)
no_port None p line_number line e = (refl, same_Err line_number line e)
no_port (Some b) p line_number line e = absurd (two_answers (script_at p b) line e)

refused_if_none : Spelling → (p : Place) (line : List ℕ) → line_leads_to p line ≡ None →
    IsRefused p line
refused_if_none law p line none said next form e =
    none-some next (sym none ∙ leads_by law p next line said form e)

pub stops_at : Spelling → (line_number line : ℕ) (p : Place) (ls : List (List ℕ)) →
    script_from line_number p ls ≡ Err line →
    (count : ℕ) × (line_number + count ≡ line) × Stops p ls count
unfolding script_from
stops_at law line_number line p [] e =
    let outside = no_port p.last p line_number line e in
    (0, omega (arith, outside.1), ([], [], p, refl, refl, refl, outside.0))
stops_at law line_number line p (first ∷ ls) e =
    elim (line_leads_to p first) as
    (λ o. line_leads_to p first ≡ o →
    option_map_or (λ q. script_from (line_number + 1) q ls) o (Err line_number) ≡ Err line →
    (count : ℕ) × (line_number + count ≡ line) × Stops p (first ∷ ls) count) [
      | None ↦ λ is f. let same : line_number ≡ line = same_Err line_number line f in (
        0,
        omega (arith, same),
        ([], first ∷ ls, p, refl, refl, refl, refused_if_none law p first is),
      )
      | Some next ↦ λ is f.
          let said = bind_some (says first) (after p) next is in
          let later = stops_at law (line_number + 1) line next ls f in
          let stop = later.2 in (
            later.0 + 1,
            omega (arith, later.1),
            (
              first ∷ stop.0,
              stop.1,
              stop.2,
              ap (λ ms. first ∷ ms) stop.3,
              omega (arith, stop.4),
              (said.0, next, (law first said.0).0 said.1, said.2, stop.5),
              stop.6,
            ),
          )
    ] refl e

stuck_answer : Spelling → (line_number : ℕ) (p : Place) (rest : List (List ℕ)) →
    IsStuck p rest → script_from line_number p rest ≡ Err line_number
unfolding script_from
stuck_answer law line_number p [] h = rw h refl
stuck_answer law line_number p (line ∷ rest) h =
    elim (line_leads_to p line) as
    (λ o. line_leads_to p line ≡ o →
    option_map_or (λ q. script_from (line_number + 1) q rest) o (Err line_number)
    ≡ Err line_number) [
      | None ↦ λ is. refl
      | Some next ↦ λ is. let said = bind_some (says line) (after p) next is in
          absurd (h said.0 next ((law line said.0).0 said.1) said.2)
    ] refl

pub fault_of_front : Spelling → (line_number : ℕ) (p place : Place)
    (front rest : List (List ℕ)) → Leads p front place → IsStuck place rest →
    script_from line_number p (front ++ rest) ≡ Err (line_number + length front)
fault_of_front law line_number p place [] rest e h =
    rw e (stuck_answer law line_number place rest h
    ∙ ap (λ n. Err n) (let same : line_number ≡ line_number + 0 = omega arith in same))
fault_of_front law line_number p place (line ∷ front) rest l h =
    script_from-on line_number p l.1 line (front ++ rest) (leads_by law p l.1 line l.0 l.2 l.3)
    ∙ fault_of_front law (line_number + 1) l.1 place front rest l.4 h
    ∙ ap (λ n. Err n) (let same : line_number + 1 + length front
    ≡ line_number + length (line ∷ front) = omega arith in same)

pub leads_append : (p q r : Place) (xs ys : List (List ℕ)) → Leads p xs q → Leads q ys r →
    Leads p (xs ++ ys) r
leads_append p q r [] ys h g = subst (λ (s : Place). Leads s ys r) (sym h) g
leads_append p q r (x ∷ xs) ys h g = (h.0, h.1, h.2, h.3, leads_append h.1 q r xs ys h.4 g)

pub leads_split : (p r : Place) (xs ys : List (List ℕ)) → Leads p (xs ++ ys) r →
    (q : Place) × Leads p xs q × Leads q ys r
leads_split p r [] ys h = (p, refl, h)
leads_split p r (x ∷ xs) ys h =
    let later = leads_split h.1 r xs ys h.4 in
    (later.0, (h.0, h.1, h.2, h.3, later.1), later.2)

-- lines lead to one place at most
pub leads_same : Spelling → (p q r : Place) (xs : List (List ℕ)) → Leads p xs q →
    Leads p xs r → q ≡ r
leads_same law p q r [] h g = sym h ∙ g
leads_same law p q r (x ∷ xs) h g =
    let next : h.1 ≡ g.1 = same_Some h.1 g.1 (sym (leads_by law p h.1 x h.0 h.2 h.3)
    ∙ leads_by law p g.1 x g.0 g.2 g.3) in
    leads_same law g.1 q r xs (subst (λ (s : Place). Leads s xs q) next h.4) g.4
