-- The rules file of generated inputs is in the grammar.
use Rattle.std.proofs.Common.{[], ◌∷◌, length, refl, lit≤, arith}
use Rattle.std.specs.Prelude.{codes}
use Rattle.std.proofs.lemmas.List.Elements.{All-nil, All-cons}
use Rattle.std.specs.Prelude.{◌≤◌}
use Rattle.text_lines.specs.Words.{words_of}
use Rattle.text_lines.specs.Digits.{decimal, digits_onto, number}
use Rattle.hook_chain.specs.Numbers.{most_rules}
use Rattle.hook_chain.specs.RuleLine.{pick_of, range_of}
use Rattle.hook_chain.specs.Line.{Nothing}
use Rattle.hook_chain.specs.Grammar.{Block, IsBlock, IsLine, IsRulesFile, IsRuleLine}
use Rattle.generated.specs.Texts.{rules_text}
use Rattle.generated.specs.Values as values

only_block : Block
only_block = record {
  silent = [];
  opening = codes "*filter";
  inside = codes "-A FORWARD -j NFQUEUE --queue-balance 0:7" ∷ [];
  closing = codes "COMMIT";
  name = codes "filter";
  rules = values.rule ∷ [];
}

words_are : IsRuleLine (codes "-A" ∷ codes "FORWARD" ∷ codes "-j" ∷ codes "NFQUEUE"
    ∷ codes "--queue-balance" ∷ codes "0:7" ∷ []) values.rule
unfolding pick_of range_of decimal number digits_onto
words_are = record {
  protocol = [];
  mark = [];
  options = codes "--queue-balance" ∷ codes "0:7" ∷ [];
  protocol_is = refl;
  mark_is = refl;
  options_are = refl;
  line = refl;
}

block_is : IsBlock only_block
unfolding only_block words_of
block_is = record {
  silent = All-nil (λ l. IsLine l Nothing);
  opening = (refl, (refl, refl));
  inside = (values.rule ∷ [], [], (refl, words_are), refl, refl);
  closing = (refl, refl);
}

pub rules_file : IsRulesFile rules_text values.tables
unfolding rules_text only_block
rules_file = (
  record {
    blocks = only_block ∷ [];
    last = [];
    lines_are = refl;
    blocks_are = All-cons IsBlock only_block [] block_is (All-nil IsBlock);
    last_are = All-nil (λ l. IsLine l Nothing);
    tables_are = refl;
    few_tables = lit≤ tt;
    few_rules = All-cons (λ b. length b.rules ≤ most_rules) only_block [] (lit≤ tt)
        (All-nil (λ (b : Block). length b.rules ≤ most_rules));
    names_differ = λ i j d less within. absurd (omega arith);
  },
  refl,
)
