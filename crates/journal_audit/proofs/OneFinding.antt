-- Just one thing is found of histories, and nothing of a run.
use Rattle.std.proofs.Common.{◌≡◌, ◌<◌, ℕ, List, ◌++◌, length, take, drop, refl, sym, subst}
use Rattle.std.proofs.Common.{ap, arith, inl, inr, None, Some, ◌∙◌}
use Rattle.std.proofs.lemmas.List.{take-append-drop}
use Rattle.std.proofs.lemmas.Bool.{cases_Bool, leb-true, leb-false}
use Rattle.std.specs.Prelude.{nat_le, Option, ◌↔◌, IfSome, slice_get}
use Rattle.hook_chain.specs.Rules.{RuleTables}
use Rattle.inspector_script.specs.Scripts.{ScriptValue}
use Rattle.pcap_io.specs.declared.capture.Capture.{Capture}
use Rattle.packet_entry.specs.declared.packet.Card.{Card}
use Rattle.histories.specs.declared.entry.Entry.{Entry as AnEntry}
use Rattle.histories.specs.declared.histories.Histories.{Histories}
use Rattle.histories.specs.History.{history, IsLegal}
use Rattle.journey_audit.specs.Unmet.{IsLeastUnmet}
use Rattle.journal_audit.specs.declared.first_illegal.Place1.{Place1}
use Rattle.journal_audit.specs.Illegal.{IsFirstIllegal, IsFirstPlace}
use Rattle.journal_audit.specs.declared.finding.Finding.{Finding}
use Rattle.journal_audit.specs.declared.finding.Finding.TheVariants.{Entry, Record, Makers, Order}
use Rattle.journal_audit.specs.declared.part.Part.{Part}
use Rattle.journal_audit.specs.Parts.{every_part, Holds, IsFirstWrong, IsMakersAnswer}
use Rattle.journal_audit.specs.Findings.{IsAnswer, IsFound, IsRunOf}

-- ---- least numbers

-- two numbers of which neither is less are the same
same_number : (n m : ℕ) → (n < m → ⊥) → (m < n → ⊥) → n ≡ m
same_number n m not_less not_more = elim (cases_Bool (nat_le n m)) [
  | inl less ↦ elim (cases_Bool (nat_le m n)) [
    | inl more ↦ omega (arith, leb-true n m less, leb-true m n more)
    | inr fewer ↦ absurd (not_less (leb-false m n fewer))
  ]
  | inr more ↦ absurd (not_more (leb-false n m more))
]

-- ---- places

-- each front of a legal history is legal
abbrev FrontsAreLegal : Type 0
FrontsAreLegal = (es fs : List AnEntry) → IsLegal (es ++ fs) → IsLegal es

beginning : FrontsAreLegal → (n : ℕ) (es : List AnEntry) → IsLegal es → IsLegal (take n es)
beginning fronts n es legal =
    fronts (take n es) (drop n es) (subst IsLegal (sym (take-append-drop n es)) legal)

same_queue : FrontsAreLegal → (es : List AnEntry) (p q : Place1) → IsFirstPlace es p →
    IsFirstPlace es q → p.queue < q.queue → ⊥
same_queue fronts es p q first other less =
    first.first.illegal
    (beginning fronts p.at (history p.queue es) (other.before p.queue less))

same_at : (h : List AnEntry) (n m : ℕ) → IsFirstIllegal h n → IsFirstIllegal h m → n < m → ⊥
same_at h n m first other less = first.illegal (other.shortest n less)

abbrev place : ℕ → ℕ → Place1
place queue at = record { queue = queue; at = at }

place_is : (p q : Place1) → p.queue ≡ q.queue → p.at ≡ q.at → p ≡ q
place_is p q queue at = ap (λ n. place n p.at) queue ∙ ap (λ n. place q.queue n) at

one_place : FrontsAreLegal → (es : List AnEntry) (p q : Place1) → IsFirstPlace es p →
    IsFirstPlace es q → p ≡ q
one_place fronts es p q first other =
    let queue = same_number p.queue q.queue (same_queue fronts es p q first other)
    (same_queue fronts es q p other first) in
    let there = subst (λ (n : ℕ). IsFirstIllegal (history n es) q.at) (sym queue) other.first in
    place_is p q queue
    (same_number p.at q.at (same_at (history p.queue es) p.at q.at first.first there)
    (same_at (history p.queue es) q.at p.at there first.first))

-- ---- numbers of packets

one_number : (tables : RuleTables) (key : ℕ) (entered : List Card) (es : List AnEntry) (n m : ℕ) →
    IsLeastUnmet tables key entered es n → IsLeastUnmet tables key entered es m → n ≡ m
one_number tables key entered es n m first other =
    same_number n m (λ less. first.unmet (other.before n less))
    (λ less. other.unmet (first.before m less))

-- ---- parts

part_before : (script : ScriptValue) (frames : ℕ) (h : Histories) (p q : Part)
    (first : IsFirstWrong script frames h p) (other : IsFirstWrong script frames h q) →
    first.before.place < other.before.place → ⊥
part_before script frames h p q first other less =
    first.fails other.notes
    record {
      place = first.before.place;
      is = first.before.is;
      hold = λ k before. other.before.hold k (omega (arith, before, less));
    }
    (subst (λ o. IfSome o (Holds script frames h other.notes)) first.before.is
    (other.before.hold first.before.place less))

one_part : (script : ScriptValue) (frames : ℕ) (h : Histories) (p q : Part) →
    IsFirstWrong script frames h p → IsFirstWrong script frames h q → p ≡ q
one_part script frames h p q first other =
    let place = same_number first.before.place other.before.place
    (part_before script frames h p q first other) (part_before script frames h q p other first) in
    let same : Some p ≡ Some q =
    sym first.before.is ∙ ap (slice_get every_part) place ∙ other.before.is in cc

-- ---- findings

-- no histories are made by a script and amiss in a part
abbrev NeverBoth : Type 0
NeverBoth = (script : ScriptValue) (frames : ℕ) (h : Histories) (part : Part) →
    IsMakersAnswer script frames h None → IsMakersAnswer script frames h (Some part) → ⊥

-- no two different things are found of the same histories
pub only : FrontsAreLegal → NeverBoth → (tables : RuleTables) (script : ScriptValue)
    (c : Capture) (h : Histories) (f g : Finding) → IsFound tables script c h f →
    IsFound tables script c h g → f ≡ g
only fronts never tables script c h (Entry p) (Entry q) first other =
    ap Entry (one_place fronts h.entries p q first.1 other.1)
only fronts never tables script c h (Entry p) (Record m) first other = absurd (first.0 other.0)
only fronts never tables script c h (Entry p) (Makers m) first other = absurd (first.0 other.0)
only fronts never tables script c h (Entry p) Order first other = absurd (first.0 other.0)
only fronts never tables script c h (Record n) (Entry q) first other = absurd (other.0 first.0)
only fronts never tables script c h (Record n) (Record m) first other =
    ap Record (one_number tables script.key _ h.entries n m first.2 other.2)
only fronts never tables script c h (Record n) (Makers m) first other = absurd (first.1 other.1)
only fronts never tables script c h (Record n) Order first other = absurd (first.1 other.1)
only fronts never tables script c h (Makers n) (Entry q) first other = absurd (other.0 first.0)
only fronts never tables script c h (Makers n) (Record m) first other = absurd (other.1 first.1)
only fronts never tables script c h (Makers n) (Makers m) first other =
    ap Makers (one_part script (length c.frames) h n m first.2 other.2)
only fronts never tables script c h (Makers n) Order first other =
    absurd (never script (length c.frames) h n other.3 first.2)
only fronts never tables script c h Order (Entry q) first other = absurd (other.0 first.0)
only fronts never tables script c h Order (Record m) first other = absurd (other.1 first.1)
only fronts never tables script c h Order (Makers m) first other =
    absurd (never script (length c.frames) h m first.3 other.2)
only fronts never tables script c h Order Order first other = refl

-- nothing is found of a run
pub nothing : NeverBoth → (tables : RuleTables) (script : ScriptValue) (c : Capture)
    (h : Histories) (f : Finding) → IsRunOf tables script c h → IsFound tables script c h f → ⊥
nothing never tables script c h (Entry p) run found = found.0 run.legal
nothing never tables script c h (Record n) run found = found.1 run.sound
nothing never tables script c h (Makers n) run found =
    never script (length c.frames) h n (run.notes, run.made) found.2
nothing never tables script c h Order run found = found.4 run.order

-- so what is answered is nothing exactly of a run
pub none_of_runs : (tables : RuleTables) (script : ScriptValue) (c : Capture) (h : Histories)
    (found : Option Finding) → ((f : Finding) → IsRunOf tables script c h →
    IsFound tables script c h f → ⊥) → IsAnswer tables script c h found →
    (found ≡ None) ↔ IsRunOf tables script c h
none_of_runs tables script c h None no_finding is = (λ same. is, λ run. refl)
none_of_runs tables script c h (Some f) no_finding is =
    (λ same. let no : ⊥ = cc in absurd no, λ run. absurd (no_finding f run is))
