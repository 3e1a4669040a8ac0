-- Lines that lead a reader to a place outside of tables are blocks, and lines that say nothing.
use Rattle.std.proofs.Common.{◌≡◌, ℕ, inl, inr, ltb, List, [], ◌∷◌, ◌++◌, length, append_assoc}
use Rattle.std.proofs.Common.{append-nil, Option, Some, None, ◌∙◌, refl, sym, ap, subst}
use Rattle.std.specs.Prelude.{All, flat_map}
use Rattle.std.proofs.lemmas.List.Elements.{All-nil, All-cons, All-head, All-tail}
use Rattle.std.proofs.lemmas.Option.{cond_some, same_Some}
use Rattle.hook_chain.specs.declared.rule.Rule.{Rule}
use Rattle.hook_chain.specs.Numbers.{most_rules}
use Rattle.hook_chain.specs.Line.{Says, Nothing, Opens, Policy, Adds, Closes}
use Rattle.hook_chain.specs.RulesFile.{Place, may_open, after}
use Rattle.hook_chain.specs.Grammar.{IsLine, AreSilent, IsTableLine, AreTableLines, Block, lines_of}
use Rattle.hook_chain.specs.Grammar.{IsBlock}
use Rattle.hook_chain.proofs.OptionForm.{no_value}
use Rattle.hook_chain.proofs.Leads.{Leads}
use Rattle.hook_chain.proofs.Blocks.{place, names_of, tables_in}

-- blocks that lead from one place outside of tables to another
pub record FromOutside (names : List (List ℕ)) (closed : List (List Rule)) (q : Place)
    (ls : List (List ℕ)) : Type 0 where
  pub blocks : List Block
  pub last : List (List ℕ)
  pub lines_are : ls ≡ flat_map lines_of blocks ++ last
  pub blocks_are : All IsBlock blocks
  pub last_are : AreSilent last
  pub names_are : q.names ≡ names ++ names_of blocks
  pub tables_are : q.closed ≡ closed ++ tables_in blocks

-- the rest of an open table, and blocks after it
pub record FromInside (done : List Rule) (names : List (List ℕ)) (closed : List (List Rule))
    (q : Place) (ls : List (List ℕ)) : Type 0 where
  pub inside : List (List ℕ)
  pub closing : List ℕ
  pub rules : List Rule
  pub rest : List (List ℕ)
  pub lines_are : ls ≡ inside ++ closing ∷ rest
  pub inside_are : AreTableLines inside rules
  pub closing_is : IsLine closing Closes
  pub after : FromOutside names (closed ++ (done ++ rules) ∷ []) q rest

abbrev pub From : Option (List Rule) → List (List ℕ) → List (List Rule) → Place → List (List ℕ) →
    Type 0
From None names closed q ls = FromOutside names closed q ls
From (Some done) names closed q ls = FromInside done names closed q ls

abbrev pub FromPlace : Place → Place → List (List ℕ) → Type 0
FromPlace p q ls = From p.inside p.names p.closed q ls

-- one more line that says nothing, before the first block or after the last
silent_more : (names : List (List ℕ)) (closed : List (List Rule)) (q : Place) (line : List ℕ)
    (ls : List (List ℕ)) (blocks : List Block) (last : List (List ℕ)) → IsLine line Nothing →
    ls ≡ flat_map lines_of blocks ++ last → All IsBlock blocks → AreSilent last →
    q.names ≡ names ++ names_of blocks → q.closed ≡ closed ++ tables_in blocks →
    FromOutside names closed q (line ∷ ls)
silent_more names closed q line ls [] last is e are silent ns ts = record {
  blocks = [];
  last = line ∷ last;
  lines_are = ap (λ ms. line ∷ ms) e;
  blocks_are = are;
  last_are = All-cons (λ l. IsLine l Nothing) line last is silent;
  names_are = ns;
  tables_are = ts;
}
silent_more names closed q line ls (b ∷ bs) last is e are silent ns ts =
    let first = All-head IsBlock b bs are in
    let more : Block = record b { silent = line ∷ b.silent } in
    let more_is : IsBlock more = record {
      silent = All-cons (λ l. IsLine l Nothing) line b.silent is first.silent;
      opening = first.opening;
      inside = first.inside;
      closing = first.closing;
    } in record {
      blocks = more ∷ bs;
      last = last;
      lines_are = ap (λ ms. line ∷ ms) e;
      blocks_are = All-cons IsBlock more bs more_is (All-tail IsBlock b bs are);
      last_are = silent;
      names_are = ns;
      tables_are = ts;
    }

silent_outside : (names : List (List ℕ)) (closed : List (List Rule)) (q : Place) (line : List ℕ)
    (ls : List (List ℕ)) → IsLine line Nothing → FromOutside names closed q ls →
    FromOutside names closed q (line ∷ ls)
silent_outside names closed q line ls is h =
    silent_more names closed q line ls h.blocks h.last is h.lines_are h.blocks_are h.last_are
    h.names_are h.tables_are

-- one more line inside of a table
line_inside : (done own : List Rule) (names : List (List ℕ)) (closed : List (List Rule)) (q : Place)
    (line : List ℕ) (ls : List (List ℕ)) → IsTableLine line own →
    FromInside (done ++ own) names closed q ls → FromInside done names closed q (line ∷ ls)
line_inside done own names closed q line ls is h = record {
  inside = line ∷ h.inside;
  closing = h.closing;
  rules = own ++ h.rules;
  rest = h.rest;
  lines_are = ap (λ ms. line ∷ ms) h.lines_are;
  inside_are = (own, h.rules, is, h.inside_are, refl);
  closing_is = h.closing_is;
  after = subst (λ rs. FromOutside names (closed ++ rs ∷ []) q h.rest)
      (append_assoc done own h.rules) h.after;
}

-- the line that opens a table
opening_line : (names : List (List ℕ)) (closed : List (List Rule)) (q : Place) (line name : List ℕ)
    (ls : List (List ℕ)) → IsLine line (Opens name) →
    FromInside [] (names ++ name ∷ []) closed q ls → FromOutside names closed q (line ∷ ls)
opening_line names closed q line name ls is h =
    let b : Block =
    record {
      silent = [];
      opening = line;
      inside = h.inside;
      closing = h.closing;
      name = name;
      rules = h.rules;
    } in
    let b_is : IsBlock b =
    record {
      silent = All-nil (λ l. IsLine l Nothing);
      opening = is;
      inside = h.inside_are;
      closing = h.closing_is;
    } in
    let more = h.after in
    let regrouped : h.inside ++ h.closing ∷ (flat_map lines_of more.blocks ++ more.last)
    ≡ ((h.inside ++ h.closing ∷ []) ++ flat_map lines_of more.blocks) ++ more.last =
    sym (append_assoc (h.inside ++ h.closing ∷ []) (flat_map lines_of more.blocks) more.last
    ∙ append_assoc h.inside (h.closing ∷ []) (flat_map lines_of more.blocks ++ more.last))
    in record {
      blocks = b ∷ more.blocks;
      last = more.last;
      lines_are =
          ap (λ ms. line ∷ ms) (h.lines_are ∙ ap (λ ms. h.inside ++ h.closing ∷ ms) more.lines_are
          ∙ regrouped);
      blocks_are = All-cons IsBlock b more.blocks b_is more.blocks_are;
      last_are = more.last_are;
      names_are = more.names_are ∙ append_assoc names (name ∷ []) (names_of more.blocks);
      tables_are = more.tables_are ∙ append_assoc closed (h.rules ∷ []) (tables_in more.blocks);
    }

-- the line that ends a table
closing_line : (done : List Rule) (names : List (List ℕ)) (closed : List (List Rule)) (q : Place)
    (line : List ℕ) (ls : List (List ℕ)) → IsLine line Closes →
    FromOutside names (closed ++ done ∷ []) q ls → FromInside done names closed q (line ∷ ls)
closing_line done names closed q line ls is h = record {
  inside = [];
  closing = line;
  rules = [];
  rest = ls;
  lines_are = refl;
  inside_are = refl;
  closing_is = is;
  after = subst (λ rs. FromOutside names (closed ++ rs ∷ []) q ls) (sym (append-nil done)) h;
}

-- a place that a line leads to is this one
moved : (p next q : Place) (ls : List (List ℕ)) → ◌≡◌ {A = Option Place} (Some p) (Some next) →
    FromPlace next q ls → FromPlace p q ls
moved p next q ls e h = subst (λ s. FromPlace s q ls) (sym (same_Some p next e)) h

one_line : (names : List (List ℕ)) (closed : List (List Rule)) (inside : Option (List Rule))
    (line : List ℕ) (said : Says) (next q : Place) (ls : List (List ℕ)) → IsLine line said →
    after (place names closed inside) said ≡ Some next → FromPlace next q ls →
    From inside names closed q (line ∷ ls)
unfolding after
one_line names closed None line Nothing next q ls is e h =
    silent_outside names closed q line ls is (moved (place names closed None) next q ls e h)
one_line names closed (Some done) line Nothing next q ls is e h =
    line_inside done [] names closed q line ls (inl is)
    (subst (λ rs. FromInside rs names closed q ls) (sym (append-nil done))
    (moved (place names closed (Some done)) next q ls e h))
one_line names closed None line (Opens name) next q ls is e h =
    let opened : Place = place (names ++ name ∷ []) closed (Some []) in
    let parts = cond_some (may_open (place names closed None) name) opened next e in
    opening_line names closed q line name ls is (subst (λ s. FromPlace s q ls) (sym parts.1) h)
one_line names closed (Some done) line (Opens name) next q ls is e h = absurd (no_value next e)
one_line names closed None line Policy next q ls is e h = absurd (no_value next e)
one_line names closed (Some done) line Policy next q ls is e h =
    line_inside done [] names closed q line ls (inr is)
    (subst (λ rs. FromInside rs names closed q ls) (sym (append-nil done))
    (moved (place names closed (Some done)) next q ls e h))
one_line names closed None line (Adds rule) next q ls is e h = absurd (no_value next e)
one_line names closed (Some done) line (Adds rule) next q ls is e h =
    let added : Place = place names closed (Some (done ++ rule ∷ [])) in
    let parts = cond_some (ltb (length done) most_rules) added next e in
    line_inside done (rule ∷ []) names closed q line ls is
    (subst (λ s. FromPlace s q ls) (sym parts.1) h)
one_line names closed None line Closes next q ls is e h = absurd (no_value next e)
one_line names closed (Some done) line Closes next q ls is e h =
    closing_line done names closed q line ls is
    (moved (place names (closed ++ done ∷ []) None) next q ls e h)

no_lines : (names : List (List ℕ)) (closed : List (List Rule)) (inside : Option (List Rule))
    (q : Place) → place names closed inside ≡ q → q.inside ≡ None → From inside names closed q []
no_lines names closed None q e out = record {
  blocks = [];
  last = [];
  lines_are = refl;
  blocks_are = All-nil IsBlock;
  last_are = All-nil (λ l. IsLine l Nothing);
  names_are = ap (λ (p : Place). p.names) (sym e) ∙ sym (append-nil names);
  tables_are = ap (λ (p : Place). p.closed) (sym e) ∙ sym (append-nil closed);
}
no_lines names closed (Some done) q e out =
    let some : ◌≡◌ {A = Option (List Rule)} (Some done) None =
    ap (λ (p : Place). p.inside) e ∙ out in
    absurd (no_value done (sym some))

-- the lines from a place to one outside of tables
pub blocks_found : (p q : Place) (ls : List (List ℕ)) → Leads p ls q → q.inside ≡ None →
    FromPlace p q ls
blocks_found p q [] h out = no_lines p.names p.closed p.inside q h out
blocks_found p q (line ∷ ls) h out =
    one_line p.names p.closed p.inside line h.0 h.1 q ls h.2 h.3 (blocks_found h.1 q ls h.4 out)
