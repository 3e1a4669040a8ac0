-- Blocks of lines lead a reader to their tables, and lines that lead it to tables are blocks.
use Rattle.std.proofs.Common.{◌≡◌, ℕ, ◌+◌, ◌<◌, ◌≤◌, inl, inr, false, List, [], ◌∷◌, ◌++◌, length}
use Rattle.std.proofs.Common.{get_or, map, length-append, append_assoc, append-nil, Option, Some}
use Rattle.std.proofs.Common.{None, ◌∙◌, refl, sym, ap, subst, arith}
use Rattle.std.specs.Prelude.{◌≢◌, All, AllPairs, flat_map, bytes_eq}
use Rattle.std.specs.List.{list_any}
use Rattle.std.proofs.Math.Seq.{get_or-append_seam}
use Rattle.std.proofs.lemmas.Bool.{lt-ltb, false_from_ne_true}
use Rattle.std.proofs.lemmas.List.{get_or_append_left}
use Rattle.std.proofs.lemmas.List.Elements.{All-head, All-tail}
use Rattle.std.proofs.lemmas.List.Folds.{list_any_none}
use Rattle.hook_chain.specs.declared.rule.Rule.{Rule}
use Rattle.hook_chain.specs.Numbers.{most_tables, most_rules}
use Rattle.hook_chain.specs.Line.{Says, Nothing, Opens, Policy, Adds, Closes}
use Rattle.hook_chain.specs.RulesFile.{Place, start, after}
use Rattle.hook_chain.specs.Grammar.{IsLine, AreSilent, IsTableLine, AreTableLines, Block, lines_of}
use Rattle.hook_chain.specs.Grammar.{IsBlock, AreFileLines}
use Rattle.hook_chain.proofs.RuleForm.{same_word}
use Rattle.hook_chain.proofs.Leads.{Leads, leads_append}

abbrev pub place : List (List ℕ) → List (List Rule) → Option (List Rule) → Place
place names closed inside = record { names = names; closed = closed; inside = inside }

abbrev pub names_of : List Block → List (List ℕ)
names_of blocks = map (λ (b : Block). b.name) blocks

abbrev pub tables_in : List Block → List (List Rule)
tables_in blocks = map (λ (b : Block). b.rules) blocks

-- lines that say nothing lead nowhere else
pub leads_silent : (p : Place) (silent : List (List ℕ)) → AreSilent silent → Leads p silent p
unfolding after
leads_silent p [] h = refl
leads_silent p (line ∷ more) h = (
  Nothing,
  p,
  All-head (λ l. IsLine l Nothing) line more h,
  refl,
  leads_silent p more (All-tail (λ l. IsLine l Nothing) line more h),
)

leads_line : (names : List (List ℕ)) (closed : List (List Rule)) (done own : List Rule)
    (line : List ℕ) → IsTableLine line own → length done + length own ≤ most_rules →
    (said : Says) × IsLine line said
    × (after (place names closed (Some done)) said ≡ Some (place names closed (Some (done ++ own))))
unfolding after
leads_line names closed done [] line (inl h) few = (Nothing, h, rw (append-nil done) refl)
leads_line names closed done [] line (inr h) few = (Policy, h, rw (append-nil done) refl)
leads_line names closed done (rule ∷ []) line h few =
    (Adds rule, h, rw (lt-ltb (length done) most_rules (omega arith)) refl)
leads_line names closed done (rule ∷ other ∷ rules) line h few = absurd h

-- the lines of a table lead to its rules
leads_inside : (names : List (List ℕ)) (closed : List (List Rule)) (done rules : List Rule)
    (ls : List (List ℕ)) → AreTableLines ls rules → length done + length rules ≤ most_rules →
    Leads (place names closed (Some done)) ls (place names closed (Some (done ++ rules)))
leads_inside names closed done rules [] h few = rw (h, append-nil done) refl
leads_inside names closed done rules (line ∷ ls) h few =
    let sum : length rules ≡ length h.0 + length h.1 = ap length h.4 ∙ length-append h.0 h.1 in
    let step = leads_line names closed done h.0 line h.2 (omega (arith, sum)) in
    let both : length (done ++ h.0) + length h.1 ≤ most_rules =
    omega (arith, sum, length-append done h.0) in
    let later = leads_inside names closed (done ++ h.0) h.1 ls h.3 both in
    let all : (done ++ h.0) ++ h.1 ≡ done ++ rules =
    append_assoc done h.0 h.1 ∙ ap (λ rs. done ++ rs) (sym h.4) in (
      step.0,
      place names closed (Some (done ++ h.0)),
      step.1,
      step.2,
      subst (λ rs. Leads (place names closed (Some (done ++ h.0))) ls
          (place names closed (Some rs))) all later,
    )

opens : (names : List (List ℕ)) (closed : List (List Rule)) (name : List ℕ) →
    length closed < most_tables → list_any (λ known. bytes_eq known name) names ≡ false →
    after (place names closed None) (Opens name)
    ≡ Some (place (names ++ name ∷ []) closed (Some []))
unfolding after
opens names closed name room new = rw (lt-ltb (length closed) most_tables room, new) refl

closes : (names : List (List ℕ)) (closed : List (List Rule)) (rules : List Rule) →
    after (place names closed (Some rules)) Closes ≡ Some (place names (closed ++ rules ∷ []) None)
unfolding after
closes names closed rules = refl

-- the lines of a block lead to its table
leads_block : (names : List (List ℕ)) (closed : List (List Rule)) (b : Block) → IsBlock b →
    length closed < most_tables → list_any (λ known. bytes_eq known b.name) names ≡ false →
    length b.rules ≤ most_rules →
    Leads (place names closed None) (lines_of b)
    (place (names ++ b.name ∷ []) (closed ++ b.rules ∷ []) None)
leads_block names closed b is room new few =
    let outside = place names closed None in
    let opened = place (names ++ b.name ∷ []) closed (Some []) in
    let full = place (names ++ b.name ∷ []) closed (Some b.rules) in
    let end = place (names ++ b.name ∷ []) (closed ++ b.rules ∷ []) None in
    let inside : Leads opened b.inside full =
    leads_inside (names ++ b.name ∷ []) closed [] b.rules b.inside is.inside (omega arith) in
    let closing : Leads full (b.closing ∷ []) end =
    (Closes, end, is.closing, closes (names ++ b.name ∷ []) closed b.rules, refl) in
    leads_append outside outside end b.silent (b.opening ∷ (b.inside ++ b.closing ∷ []))
    (leads_silent outside b.silent is.silent) (
      Opens b.name,
      opened,
      is.opening,
      opens names closed b.name room new,
      leads_append opened full end b.inside (b.closing ∷ []) inside closing,
    )

-- a name that differs from those before it isn't known
new_name : (names more : List (List ℕ)) (name : List ℕ) →
    AllPairs (λ a b. a ≢ b) (names ++ name ∷ more) →
    list_any (λ known. bytes_eq known name) names ≡ false
new_name names more name differ =
    list_any_none (λ known. bytes_eq known name) names
    (λ k d h. false_from_ne_true (bytes_eq (get_or names k d) name)
    (λ same. differ k (length names) d h (omega (arith, length-append names (name ∷ more)))
    (get_or_append_left names (name ∷ more) d k h ∙ same_word (get_or names k d) name same
    ∙ sym (get_or-append_seam names name more d))))

-- the lines of blocks lead to their tables
leads_blocks : (names : List (List ℕ)) (closed : List (List Rule)) (blocks : List Block) →
    All IsBlock blocks → length closed + length blocks ≤ most_tables →
    All (λ b. length b.rules ≤ most_rules) blocks →
    AllPairs (λ a b. a ≢ b) (names ++ names_of blocks) →
    Leads (place names closed None) (flat_map lines_of blocks)
    (place (names ++ names_of blocks) (closed ++ tables_in blocks) None)
leads_blocks names closed [] are room few differ = rw (append-nil names, append-nil closed) refl
leads_blocks names closed (b ∷ bs) are room few differ =
    let names_are = append_assoc names (b.name ∷ []) (names_of bs) in
    let tables_are = append_assoc closed (b.rules ∷ []) (tables_in bs) in
    let new = new_name names (names_of bs) b.name differ in
    let first =
    leads_block names closed b (All-head IsBlock b bs are) (omega arith) new
    (All-head (λ b. length b.rules ≤ most_rules) b bs few) in
    let fits : length (closed ++ b.rules ∷ []) + length bs ≤ most_tables =
    omega (arith, length-append closed (b.rules ∷ [])) in
    let apart : AllPairs (λ a b. a ≢ b) ((names ++ b.name ∷ []) ++ names_of bs) =
    subst (AllPairs (λ a b. a ≢ b)) (sym names_are) differ in
    let later =
    leads_blocks (names ++ b.name ∷ []) (closed ++ b.rules ∷ []) bs (All-tail IsBlock b bs are)
    fits (All-tail (λ b. length b.rules ≤ most_rules) b bs few) apart in
    leads_append (place names closed None)
    (place (names ++ b.name ∷ []) (closed ++ b.rules ∷ []) None)
    (place (names ++ names_of (b ∷ bs)) (closed ++ tables_in (b ∷ bs)) None) (lines_of b)
    (flat_map lines_of bs) first
    (subst (λ ns. Leads (place (names ++ b.name ∷ []) (closed ++ b.rules ∷ []) None)
    (flat_map lines_of bs) (place ns (closed ++ tables_in (b ∷ bs)) None)) names_are
    (subst (λ ts. Leads (place (names ++ b.name ∷ []) (closed ++ b.rules ∷ []) None)
    (flat_map lines_of bs) (place ((names ++ b.name ∷ []) ++ names_of bs) ts None)) tables_are
    later))

-- the lines of a rules file lead to its tables
pub leads_of_file : (ls : List (List ℕ)) (tables : List (List Rule)) → AreFileLines ls tables →
    (names : List (List ℕ)) × Leads start ls (place names tables None)
leads_of_file ls tables h =
    let end = place (names_of h.blocks) (tables_in h.blocks) None in
    let blocks =
    leads_blocks [] [] h.blocks h.blocks_are (omega (arith, h.few_tables)) h.few_rules
    h.names_differ in
    let all =
    leads_append start end end (flat_map lines_of h.blocks) h.last blocks
    (leads_silent end h.last h.last_are) in
    (names_of h.blocks, rw (h.lines_are, h.tables_are) all)
