-- What a reader has read: the answer that is left, the bounds, and how many lines.
use Rattle.std.proofs.Common.{◌≡◌, ℕ, ◌+◌, ◌<◌, ◌≤◌, true, false, cond, ◌&&◌, ltb, List, [], ◌∷◌}
use Rattle.std.proofs.Common.{◌++◌, length, length-append, Option, Some, None, Result, Err, ◌∙◌}
use Rattle.std.proofs.Common.{refl, sym, ap, subst, arith}
use Rattle.std.specs.Prelude.{IfSome, is_none}
use Rattle.std.specs.List.{list_any}
use Rattle.std.specs.Option.{option_map_or}
use Rattle.std.specs.Str.Lines.{lines}
use Rattle.std.proofs.lemmas.Bool.{ltb-true, and_parts, or_parts, true≢false, true_from_ne_false}
use Rattle.std.proofs.lemmas.List.Elements.{All-nil, All-push}
use Rattle.hook_chain.specs.declared.rule.Rule.{Rule}
use Rattle.text_lines.specs.Words.{◌>>=◌}
use Rattle.hook_chain.specs.Numbers.{most_tables, most_rules}
use Rattle.hook_chain.specs.Rules.{IsPick, IsTable}
use Rattle.hook_chain.specs.Line.{Says, Nothing, Opens, Policy, Adds, Closes, says}
use Rattle.std.proofs.lemmas.Option.{none-some, same_Some}
use Rattle.text_lines.specs.declared.fault.LineFault.{LineFault}
use Rattle.text_lines.specs.declared.fault.LineFault.TheVariants.{Bad}
use Rattle.text_lines.specs.declared.fault.LineFault.TheVariants as fault
use Rattle.text_lines.specs.declared.stop.Stop.{Stop}
use Rattle.text_lines.specs.declared.stop.Stop.TheVariants.{Refused, NoMemory}
use Rattle.text_lines.specs.Refusals.{fault_of}
use Rattle.hook_chain.specs.Reading.{IsSound, Moves, opens, opens_table, takes_memory}
use Rattle.hook_chain.specs.RulesFile.{Answers, Place, start, may_open, after, line_leads_to}
use Rattle.hook_chain.specs.RulesFile.{tables_from, rules_of}
use Rattle.hook_chain.proofs.Picks.{SaysPick, says_if}

pub record IsRead (text : List ℕ) (line_number : ℕ) (p : Place) (rest : List ℕ) : Type 0 where
  pub answer : rules_of text ≡ tables_from line_number p (lines rest)
  pub sound : IsSound p
  pub count : line_number + length rest ≤ length text + 1
  pub plain : list_any opens_table (lines text) ≡ false →
      (p.inside ≡ None) × (list_any opens_table (lines rest) ≡ false)

pub tables_from-on : (line_number : ℕ) (p q : Place) (line : List ℕ) (rest : List (List ℕ)) →
    line_leads_to p line ≡ Some q →
    tables_from line_number p (line ∷ rest) ≡ tables_from (line_number + 1) q rest
unfolding tables_from
tables_from-on line_number p q line rest e = rw e refl

pub tables_from-off : (line_number : ℕ) (p : Place) (line : List ℕ) (rest : List (List ℕ)) →
    line_leads_to p line ≡ None → tables_from line_number p (line ∷ rest) ≡ Err line_number
unfolding tables_from
tables_from-off line_number p line rest e = rw e refl

no_rules : IsTable []
no_rules = record { length = omega arith; picks = All-nil (λ r. IsPick r.pick) }

pub sound_start : IsSound start
sound_start =
    record {
      tables = record { length = omega arith; each = All-nil IsTable };
      table = tt;
      room = tt;
    }

one_more : (rules : List Rule) (rule : Rule) → IsTable rules → IsPick rule.pick →
    length rules < most_rules → IsTable (rules ++ rule ∷ [])
one_more rules rule t p room = record {
  length = omega (arith, length-append rules (rule ∷ []));
  picks = All-push (λ r. IsPick r.pick) rules rule t.picks p;
}

-- what a line leads to keeps the bounds
sound_opens : (p : Place) (name : List ℕ) → IsSound p → IfSome (after p (Opens name)) IsSound
unfolding after
sound_opens p name s =
    elim (may_open p name) as (λ b. b ≡ may_open p name →
    IfSome (cond b (Some (record p { names = p.names ++ name ∷ []; inside = Some [] })) None)
    IsSound) [
      | true ↦ λ e.
          let first = and_parts (is_none p.inside && ltb (length p.closed) most_tables) _ (sym e) in
          let second = and_parts (is_none p.inside) (ltb (length p.closed) most_tables) first.0 in
          record {
            tables = s.tables;
            table = no_rules;
            room = ltb-true (length p.closed) most_tables second.1;
          }
      | false ↦ λ e. tt
    ] refl

sound_adds : (p : Place) (rule : Rule) (inside : Option (List Rule)) → IsSound p →
    IfSome inside IsTable → IfSome inside (λ _. length p.closed < most_tables) → IsPick rule.pick →
    IfSome (inside >>= λ rules. cond (ltb (length rules) most_rules)
    (Some (record p { inside = Some (rules ++ rule ∷ []) })) None) IsSound
sound_adds p rule None s table room pick = tt
sound_adds p rule (Some rules) s table room pick =
    elim (ltb (length rules) most_rules) as
    (λ b. b ≡ ltb (length rules) most_rules →
    IfSome (cond b (Some (record p { inside = Some (rules ++ rule ∷ []) })) None) IsSound) [
      | true ↦ λ e. record {
        tables = s.tables;
        table = one_more rules rule table pick (ltb-true (length rules) most_rules (sym e));
        room = room;
      }
      | false ↦ λ e. tt
    ] refl

sound_closes : (p : Place) (inside : Option (List Rule)) → IsSound p → IfSome inside IsTable →
    IfSome inside (λ _. length p.closed < most_tables) →
    IfSome (inside >>= λ rules. Some (record p { closed = p.closed ++ rules ∷ []; inside = None }))
    IsSound
sound_closes p None s table room = tt
sound_closes p (Some rules) s table room = record {
  tables =
      record {
        length = omega (arith, length-append p.closed (rules ∷ []));
        each = All-push IsTable p.closed rules s.tables.each table;
      };
  table = tt;
  room = tt;
}

sound_after : (p : Place) (said : Says) → IsSound p → SaysPick said → IfSome (after p said) IsSound
unfolding after
sound_after p Nothing s pick = s
sound_after p (Opens name) s pick = sound_opens p name s
sound_after p Policy s pick =
    elim (is_none p.inside) as (λ b. IfSome (cond b None (Some p)) IsSound)
    [ true ↦ tt | false ↦ s ]
sound_after p (Adds rule) s pick = sound_adds p rule p.inside s s.table s.room pick
sound_after p Closes s pick = sound_closes p p.inside s s.table s.room

sound_line : (p : Place) (said : Option Says) → IsSound p → IfSome said SaysPick →
    IfSome (said >>= after p) IsSound
sound_line p None s pick = tt
sound_line p (Some said) s pick = sound_after p said s pick

pub sound_after_line : (p q : Place) (line : List ℕ) → IsSound p → line_leads_to p line ≡ Some q →
    IsSound q
sound_after_line p q line s e =
    subst (λ (o : Option Place). IfSome o IsSound) e (sound_line p (says line) s (says_if line))

pub is_read_first : (text : List ℕ) (p : Place) → p ≡ start → IsRead text 1 p text
unfolding rules_of
is_read_first text p e =
    rw e (record {
      answer = refl;
      sound = sound_start;
      count = omega arith;
      plain = λ h. (refl, h);
    })

plain_line : (p q : Place) (said : Says) → p.inside ≡ None → opens said ≡ false →
    after p said ≡ Some q → q.inside ≡ None
unfolding after
plain_line p q Nothing out plain e = ap (λ (s : Place). s.inside) (sym (same_Some p q e)) ∙ out
plain_line p q (Opens name) out plain e = absurd (true≢false plain)
plain_line p q Policy out plain e = absurd (none-some q (rw out at e))
plain_line p q (Adds rule) out plain e = absurd (none-some q (rw out at e))
plain_line p q Closes out plain e = absurd (none-some q (rw out at e))

plain_by : (p q : Place) (said : Option Says) → p.inside ≡ None →
    option_map_or opens said false ≡ false → said >>= after p ≡ Some q → q.inside ≡ None
plain_by p q None out plain e = absurd (none-some q e)
plain_by p q (Some said) out plain e = plain_line p q said out plain e

-- lines that begin no table leave no table open
plain_next : (p q : Place) (rest line later : List ℕ) → lines rest ≡ line ∷ lines later →
    line_leads_to p line ≡ Some q →
    (p.inside ≡ None) × (list_any opens_table (lines rest) ≡ false) →
    (q.inside ≡ None) × (list_any opens_table (lines later) ≡ false)
plain_next p q rest line later first e h =
    let parts =
    or_parts (opens_table line) (list_any opens_table (lines later))
    (ap (list_any opens_table) (sym first) ∙ h.1) in
    (plain_by p q (says line) h.0 parts.0 e, parts.1)

pub is_read_next : (text : List ℕ) (line_number : ℕ) (p q : Place) (rest line later : List ℕ) →
    IsRead text line_number p rest → lines rest ≡ line ∷ lines later → length later < length rest →
    line_leads_to p line ≡ Some q → IsRead text (line_number + 1) q later
is_read_next text line_number p q rest line later r first shorter e = record {
  answer = rw (r.answer, first) (tables_from-on line_number p q line (lines later) e);
  sound = sound_after_line p q line r.sound e;
  count = omega (arith, r.count);
  plain = λ h. plain_next p q rest line later first e (r.plain h);
}

pub is_refused : (text : List ℕ) (line_number : ℕ) (p : Place) (rest line later : List ℕ) →
    IsRead text line_number p rest → lines rest ≡ line ∷ lines later → line_leads_to p line ≡ None →
    rules_of text ≡ Err line_number
is_refused text line_number p rest line later r first e =
    rw (r.answer, first) (tables_from-off line_number p line (lines later) e)

pub is_fault : (stop : Stop) (text : List ℕ) (line_number : ℕ) (p q : Place)
    (rest line later : List ℕ) →
    IsRead text line_number p rest → lines rest ≡ line ∷ lines later →
    Moves {A = Unit {0}} (takes_memory p (says line)) (Err stop) (line_leads_to p line) q →
    Answers (Err (fault_of stop line_number)) (rules_of text)
is_fault Refused text line_number p q rest line later r first e =
    is_refused text line_number p rest line later r first e
is_fault NoMemory text line_number p q rest line later r first e = tt

pub same_fault : {T : Type 0} (x y : LineFault) → ◌≡◌ {A = Result T LineFault} (Err x) (Err y) →
    x ≡ y
same_fault x y e = cc

bad_is_no_memory : (line_number : ℕ) → ◌≡◌ {A = LineFault} (Bad line_number) fault.NoMemory → ⊥
bad_is_no_memory line_number e = cc

takes_none : (p : Place) (said : Option Says) → p.inside ≡ None →
    option_map_or opens said false ≡ false → takes_memory p said ≡ false
takes_none p said out plain = rw (out, plain) refl

-- memory ran out: some line begins a table
pub is_taken : (stop : Stop) (text : List ℕ) (line_number : ℕ) (p q : Place)
    (rest line later : List ℕ) →
    IsRead text line_number p rest → lines rest ≡ line ∷ lines later →
    Moves {A = Unit {0}} (takes_memory p (says line)) (Err stop) (line_leads_to p line) q →
    fault_of stop line_number ≡ fault.NoMemory → list_any opens_table (lines text) ≡ true
is_taken Refused text line_number p q rest line later r first e is =
    absurd (bad_is_no_memory line_number is)
is_taken NoMemory text line_number p q rest line later r first e is =
    true_from_ne_false (list_any opens_table (lines text))
    (λ none.
    let plain = r.plain none in
    let parts =
    or_parts (opens_table line) (list_any opens_table (lines later))
    (ap (list_any opens_table) (sym first) ∙ plain.1) in
    true≢false (sym e ∙ takes_none p (says line) plain.0 parts.0))
