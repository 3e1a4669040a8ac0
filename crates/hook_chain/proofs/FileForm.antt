-- A file is read exactly where it is in the grammar, and else refused at the first line that may
-- not stand in its place.
use Rattle.std.proofs.Common.{◌≡◌, ℕ, ◌+◌, ◌≤◌, inl, inr, true, cond, ltb, not, ◌&&◌, List, [], ◌∷◌}
use Rattle.std.proofs.Common.{◌++◌, length, get_or, append-nil, Some, None, Result, Ok, Err, ◌∙◌}
use Rattle.std.proofs.Common.{refl, sym, ap, subst, arith}
use Rattle.std.specs.Prelude.{◌≢◌, ◌⊎◌, All, AllPairs, bytes_eq, codes, is_none, is_some}
use Rattle.std.specs.List.{list_any}
use Rattle.std.specs.Str.Lines.{lines}
use Rattle.std.proofs.lemmas.Bool.{and_parts, false≢true}
use Rattle.std.proofs.lemmas.List.{length-map}
use Rattle.std.proofs.lemmas.List.Elements.{All-nil, All-cons, All-head, All-tail}
use Rattle.std.proofs.lemmas.List.Folds.{list_any_at}
use Rattle.std.proofs.lemmas.List.Quantifiers.{all_pairs_push}
use Rattle.std.proofs.lemmas.Option.{cond_some, same_Some}
use Rattle.hook_chain.specs.declared.rule.Rule.{Rule}
use Rattle.text_lines.specs.declared.fault.LineFault.{LineFault}
use Rattle.text_lines.specs.declared.fault.LineFault.TheVariants.{Bad}
use Rattle.hook_chain.specs.Numbers.{most_tables, most_rules}
use Rattle.text_lines.specs.Words.{◌>>=◌, words_of}
use Rattle.hook_chain.specs.Line.{Says, Nothing, Opens, Policy, Adds, Closes}
use Rattle.hook_chain.specs.Rules.{IsTable}
use Rattle.hook_chain.specs.Reading.{IsSound}
use Rattle.hook_chain.specs.RulesFile.{Answers, Place, start, may_open, after, tables_from}
use Rattle.hook_chain.specs.RulesFile.{rules_of}
use Rattle.text_lines.specs.Refusals.{BeginFile, IsBadLine, EndsEarly}
use Rattle.hook_chain.specs.Grammar.{IsLine, Block, AreFileLines}
use Rattle.hook_chain.specs.Grammar.{IsFileOf, IsFirstRefused}
use Rattle.hook_chain.proofs.RuleForm.{word_is}
use Rattle.hook_chain.proofs.OptionForm.{no_value}
use Rattle.hook_chain.proofs.Bounds.{sound_start, sound_after_line}
use Rattle.hook_chain.proofs.Leads.{Leads, IsStuck, IsRefused, leads_by, leads_append, leads_split}
use Rattle.hook_chain.proofs.Leads.{leads_same, leads_on, answer_of, stops_at, fault_of_front}
use Rattle.hook_chain.proofs.Leads.{two_answers}
use Rattle.hook_chain.proofs.Blocks.{place, tables_in, leads_of_file}
use Rattle.hook_chain.proofs.BlocksFound.{blocks_found}

-- what every place that lines lead to keeps: the bounds, and names that differ
pub record IsReached (p : Place) : Type 0 where
  pub sound : IsSound p
  pub differ : AllPairs (λ a b. a ≢ b) p.names

reached_start : IsReached start
reached_start = record { sound = sound_start; differ = λ i j d less within. absurd (omega arith) }

other_name : (names : List (List ℕ)) (name : List ℕ) → AllPairs (λ a b. a ≢ b) names →
    not (list_any (λ known. bytes_eq known name) names) ≡ true →
    AllPairs (λ a b. a ≢ b) (names ++ name ∷ [])
other_name names name differ new =
    all_pairs_push (λ a b. a ≢ b) names name differ
    (λ k d h same.
    let known : list_any (λ known. bytes_eq known name) names ≡ true =
    list_any_at (λ known. bytes_eq known name) names k d h
    (word_is (get_or names k d) name same) in
    false≢true (ap not (sym known) ∙ new))

differ_after : (p q : Place) (said : Says) → AllPairs (λ a b. a ≢ b) p.names →
    after p said ≡ Some q → AllPairs (λ a b. a ≢ b) q.names
unfolding after
differ_after p q Nothing h e =
    subst (λ (s : Place). AllPairs (λ a b. a ≢ b) s.names) (same_Some p q e) h
differ_after p q (Opens name) h e =
    let opened : Place = record p { names = p.names ++ name ∷ []; inside = Some [] } in
    let parts = cond_some (may_open p name) opened q e in
    let new =
    and_parts (is_none p.inside && ltb (length p.closed) most_tables)
    (not (list_any (λ known. bytes_eq known name) p.names)) parts.0 in
    subst (λ (s : Place). AllPairs (λ a b. a ≢ b) s.names) parts.1 (other_name p.names name h new.1)
differ_after p q Policy h e =
    elim p.inside as (λ o. cond (is_none o) None (Some p) ≡ Some q →
    AllPairs (λ a b. a ≢ b) q.names) [
      | None ↦ λ f. absurd (no_value q f)
      | Some rules ↦ λ f. subst (λ (s : Place). AllPairs (λ a b. a ≢ b) s.names) (same_Some p q f) h
    ] e
differ_after p q (Adds rule) h e =
    elim p.inside as
    (λ o. (o >>= λ rules. cond (ltb (length rules) most_rules)
    (Some (record p { inside = Some (rules ++ rule ∷ []) })) None) ≡ Some q →
    AllPairs (λ a b. a ≢ b) q.names) [
      | None ↦ λ f. absurd (no_value q f)
      | Some rules ↦ λ f.
          let added : Place = record p { inside = Some (rules ++ rule ∷ []) } in
          subst (λ (s : Place). AllPairs (λ a b. a ≢ b) s.names)
          (cond_some (ltb (length rules) most_rules) added q f).1 h
    ] e
differ_after p q Closes h e =
    elim p.inside as
    (λ o. (o >>= λ rules. Some (record p { closed = p.closed ++ rules ∷ []; inside = None }))
    ≡ Some q → AllPairs (λ a b. a ≢ b) q.names) [
      | None ↦ λ f. absurd (no_value q f)
      | Some rules ↦ λ f.
          let closed : Place = record p { closed = p.closed ++ rules ∷ []; inside = None } in
          subst (λ (s : Place). AllPairs (λ a b. a ≢ b) s.names) (same_Some closed q f) h
    ] e

reached : (p q : Place) (ls : List (List ℕ)) → IsReached p → Leads p ls q → IsReached q
reached p q [] r h = subst IsReached h r
reached p q (line ∷ ls) r h =
    let next : IsReached h.1 = record {
      sound = sound_after_line p h.1 line r.sound (leads_by p h.1 line h.0 h.2 h.3);
      differ = differ_after p h.1 h.0 r.differ h.3;
    } in reached h.1 q ls next h.4

few_of : (blocks : List Block) (tables : List (List Rule)) → tables ≡ tables_in blocks →
    length tables ≤ most_tables → length blocks ≤ most_tables
few_of blocks tables e few = omega (arith, ap length e, length-map blocks (λ (b : Block). b.rules))

few_rules_of : (blocks : List Block) → All IsTable (tables_in blocks) →
    All (λ b. length b.rules ≤ most_rules) blocks
few_rules_of [] h = All-nil (λ (b : Block). length b.rules ≤ most_rules)
few_rules_of (b ∷ bs) h =
    All-cons (λ (b : Block). length b.rules ≤ most_rules) b bs
    (All-head IsTable b.rules (tables_in bs) h).length
    (few_rules_of bs (All-tail IsTable b.rules (tables_in bs) h))

-- lines that lead to a place outside of tables are those of a rules file of its tables
file_of_leads : (ls : List (List ℕ)) (q : Place) → Leads start ls q → q.inside ≡ None →
    AreFileLines ls q.closed
file_of_leads ls q h out =
    let found = blocks_found start q ls h out in
    let end = reached start q ls reached_start h in record {
      blocks = found.blocks;
      last = found.last;
      lines_are = found.lines_are;
      blocks_are = found.blocks_are;
      last_are = found.last_are;
      tables_are = found.tables_are;
      few_tables = few_of found.blocks q.closed found.tables_are end.sound.tables.length;
      few_rules =
          few_rules_of found.blocks (subst (All IsTable) found.tables_are end.sound.tables.each);
      names_differ = subst (AllPairs (λ a b. a ≢ b)) found.names_are end.differ;
    }

-- what is read of a file is in the grammar
pub file_found : (text : List ℕ) (tables : List (List Rule)) → rules_of text ≡ Ok tables →
    IsFileOf text tables
unfolding rules_of
file_found text tables e =
    let led = leads_on 1 start (lines text) tables e in
    file_of_leads (lines text) (place led.0 tables None) led.1 refl

-- what is in the grammar is read
pub file_read : (text : List ℕ) (tables : List (List Rule)) → IsFileOf text tables →
    rules_of text ≡ Ok tables
unfolding rules_of
file_read text tables h =
    let led = leads_of_file (lines text) tables h in
    answer_of 1 start (place led.0 tables None) (lines text) led.1 refl

-- lines that begin a rules file lead somewhere
begin_leads : (ls : List (List ℕ)) → BeginFile AreFileLines ls → (p : Place) × Leads start ls p
begin_leads ls h =
    let all = leads_of_file (ls ++ h.0) h.1 h.2 in
    let front = leads_split start (place all.0 h.1 None) ls h.0 all.1 in
    (front.0, front.1)

commit_line : IsLine (codes "COMMIT") Closes
unfolding words_of
commit_line = (refl, refl)

commits : (p : Place) (rules : List Rule) → p.inside ≡ Some rules →
    after p Closes ≡ Some (place p.names (p.closed ++ rules ∷ []) None)
unfolding after
commits p rules e = rw e refl

-- and lines that lead somewhere begin one: the line `COMMIT` completes them inside of a table
leads_begin : (ls : List (List ℕ)) (p : Place) → Leads start ls p → BeginFile AreFileLines ls
leads_begin ls p h =
    elim p.inside as (λ o. p.inside ≡ o → BeginFile AreFileLines ls) [
      | None ↦ λ out. (
        [],
        p.closed,
        subst (λ ms. AreFileLines ms p.closed) (sym (append-nil ls))
            (file_of_leads ls p h out),
      )
      | Some rules ↦ λ in_one.
          let end : Place = place p.names (p.closed ++ rules ∷ []) None in
          let last : Leads p (codes "COMMIT" ∷ []) end =
          (Closes, end, commit_line, commits p rules in_one, refl) in (
            codes "COMMIT" ∷ [],
            end.closed,
            file_of_leads (ls ++ codes "COMMIT" ∷ []) end
                (leads_append start p end ls (codes "COMMIT" ∷ []) h last) refl,
          )
    ] refl

one_more_leads : (p next : Place) (front : List (List ℕ)) (line : List ℕ) (said : Says) →
    Leads start front p → IsLine line said → after p said ≡ Some next →
    BeginFile AreFileLines (front ++ line ∷ [])
one_more_leads p next front line said h is e =
    leads_begin (front ++ line ∷ []) next
    (leads_append start p next front (line ∷ []) h (said, next, is, e, refl))

not_begun : (p : Place) (front : List (List ℕ)) (line : List ℕ) → Leads start front p →
    IsRefused p line → BeginFile AreFileLines (front ++ line ∷ []) → ⊥
not_begun p front line h refused begin =
    let all = begin_leads (front ++ line ∷ []) begin in
    let parts = leads_split start all.0 front (line ∷ []) all.1 in
    let same : parts.0 ≡ p = leads_same start parts.0 p front parts.1 h in
    let last = subst (λ (s : Place). Leads s (line ∷ []) all.0) same parts.2 in
    refused last.0 last.1 last.2 last.3

refused_where : (text : List ℕ) (line_number : ℕ) (front rest : List (List ℕ)) (p : Place) →
    rules_of text ≡ Err line_number → lines text ≡ front ++ rest → length front + 1 ≡ line_number →
    Leads start front p → IsStuck p rest → IsFirstRefused text line_number
refused_where text line_number front [] p answer e count h stuck =
    let whole : lines text ≡ front = e ∙ append-nil front in
    inr (record {
      count = omega (arith, ap length whole, count);
      begin = subst (BeginFile AreFileLines) (sym whole) (leads_begin front p h);
      unfinished =
          λ tables file. two_answers tables line_number (sym (file_read text tables file) ∙ answer);
    })
refused_where text line_number front (line ∷ rest) p answer e count h stuck =
    inl (record {
      front = front;
      line = line;
      rest = rest;
      lines_are = e;
      count = count;
      begin = leads_begin front p h;
      refused = not_begun p front line h stuck;
    })

-- what is refused is refused at the first line that may not stand
pub file_refused : (text : List ℕ) (line : ℕ) → rules_of text ≡ Err line → IsFirstRefused text line
unfolding rules_of
file_refused text line e =
    let found = stops_at 1 line start (lines text) e in
    let stop = found.2 in
    refused_where text line stop.0 stop.1 stop.2 e stop.3 (omega (arith, found.1, stop.4)) stop.5
    stop.6

bad_line : (text : List ℕ) (line_number : ℕ) → IsBadLine AreFileLines text line_number →
    rules_of text ≡ Err line_number
unfolding rules_of
bad_line text line_number h =
    let led = begin_leads h.front h.begin in
    let stuck : IsStuck led.0 (h.line ∷ h.rest) =
    λ said next is e. h.refused (one_more_leads led.0 next h.front h.line said led.1 is e) in
    let same : 1 + length h.front ≡ line_number = omega (arith, h.count) in
    rw h.lines_are (fault_of_front 1 start led.0 h.front (h.line ∷ h.rest) led.1 stuck
    ∙ ap (λ n. Err n) same)

stuck_inside : (text : List ℕ) (line_number : ℕ) (p : Place) →
    EndsEarly AreFileLines text line_number → Leads start (lines text) p → IsStuck p []
stuck_inside text line_number p h led =
    elim p.inside as (λ o. p.inside ≡ o → is_some o ≡ true) [
      | None ↦ λ out. absurd (h.unfinished p.closed (file_of_leads (lines text) p led out))
      | Some rules ↦ λ in_one. refl
    ] refl

ends_early : (text : List ℕ) (line_number : ℕ) → EndsEarly AreFileLines text line_number →
    rules_of text ≡ Err line_number
unfolding rules_of
ends_early text line_number h =
    let led = begin_leads (lines text) h.begin in
    let same : 1 + length (lines text) ≡ line_number = omega (arith, h.count) in
    let all =
    fault_of_front 1 start led.0 (lines text) [] led.1 (stuck_inside text line_number led.0 h led.1)
    ∙ ap (λ n. Err n) same in
    subst (λ ls. tables_from 1 start ls ≡ Err line_number) (append-nil (lines text)) all

-- what has such a line is refused there
pub file_stuck : (text : List ℕ) (line : ℕ) → IsFirstRefused text line → rules_of text ≡ Err line
file_stuck text line (inl h) = bad_line text line h
file_stuck text line (inr h) = ends_early text line h

-- the same of an answer
pub refused_by : (r : Result (List (List Rule)) LineFault) (text : List ℕ) (line : ℕ) →
    Answers r (rules_of text) → r ≡ Err (Bad line) → IsFirstRefused text line
refused_by r text line h e =
    file_refused text line
    (subst (λ (s : Result (List (List Rule)) LineFault). Answers s (rules_of text)) e h)

pub same_tables : (text : List ℕ) (a b : List (List Rule)) → IsFileOf text a →
    IsFileOf text b → a ≡ b
same_tables text a b h g =
    let both : ◌≡◌ {A = Result (List (List Rule)) ℕ} (Ok a) (Ok b) =
    sym (file_read text a h) ∙ file_read text b g in
    cc

pub same_line : (text : List ℕ) (a b : ℕ) → IsFirstRefused text a → IsFirstRefused text b → a ≡ b
same_line text a b h g =
    let both : ◌≡◌ {A = Result (List (List Rule)) ℕ} (Err a) (Err b) =
    sym (file_stuck text a h) ∙ file_stuck text b g in
    cc

pub never_both : (text : List ℕ) (tables : List (List Rule)) (line : ℕ) → IsFileOf text tables →
    IsFirstRefused text line → ⊥
never_both text tables line h g =
    two_answers tables line (sym (file_read text tables h) ∙ file_stuck text line g)

pub one_of_two : (text : List ℕ) →
    ((tables : List (List Rule)) × IsFileOf text tables)
    ⊎ ((line : ℕ) × IsFirstRefused text line)
one_of_two text =
    elim (rules_of text) as (λ r. rules_of text ≡ r →
    ((tables : List (List Rule)) × IsFileOf text tables)
    ⊎ ((line : ℕ) × IsFirstRefused text line)) [
      | Ok tables ↦ λ e. inl (tables, file_found text tables e)
      | Err line ↦ λ e. inr (line, file_refused text line e)
    ] refl
