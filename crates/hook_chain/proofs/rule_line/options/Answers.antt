use Rattle.std.proofs.Common.{◌≡◌, false, Some, None, ◌∙◌, refl, sym, arith}
use Rattle.std.specs.Prelude.{is_none}
use Rattle.text_lines.specs.Words.{◌>>=◌, words_of}
use Rattle.hook_chain.specs.RuleLine.{options_after, pick_of}
use Rattle.hook_chain.proofs.Options.{options_after-bypass, options_after-fanout}
use Rattle.hook_chain.proofs.Options.{options_after-pick, options_after-lone, options_after-picked}
use Rattle.hook_chain.proofs.rule_line.options.Goals as goal
use Rattle.hook_chain.proofs.rule_line.options.Goals.{After-pick_of}

pub loop-option-preserved-then-is_first : goal.loop-option-preserved-then-is_first
loop-option-preserved-then-is_first c =
    c.loop-option.invariant
    ∙ options_after-bypass c.loop-option.pick c.loop-option.bypass c.loop-option.fanout
    c.in-Some.option.now (words_of c.in-Some.rest.now) (words_of c.loop-option.line.now)
    c.in-Some.ensures.word (sym c.is_first.ensures ∙ c.if-is_first.true)

pub loop-option-preserved-then-is_first-2 : goal.loop-option-preserved-then-is_first-2
loop-option-preserved-then-is_first-2 c =
    c.loop-option.invariant
    ∙ options_after-fanout c.loop-option.pick c.loop-option.bypass c.loop-option.fanout
    c.in-Some.option.now (words_of c.in-Some.rest.now) (words_of c.loop-option.line.now)
    c.in-Some.ensures.word (sym c.is_first.ensures ∙ c.if-is_first.false)
    (sym c.is_first-else-is_first.ensures ∙ c.if-is_first-2.true)

pub returns-in_err-value : goal.returns-in_err-value
returns-in_err-value c =
    c.from_residual.ensures
    ∙ sym
    (c.loop-option.invariant
    ∙ options_after-lone c.loop-option.pick c.loop-option.bypass c.loop-option.fanout
    c.in-Some.option.now (words_of c.in-Some.rest.now) (words_of c.loop-option.line.now)
    c.in-Some.ensures.word c.in_err-value.ensures.word
    (sym c.is_first.ensures ∙ c.if-is_first.false)
    (sym c.is_first-else-is_first.ensures ∙ c.if-is_first-2.false))

-- what the words from this option on say, where it is one that names a queue
with_pick : (c : After-pick_of) →
    options_after c.loop-option.pick c.loop-option.bypass c.loop-option.fanout
    (words_of c.loop-option.line.now)
    ≡ (pick_of c.in-Some.option.now c.in_ok-value.value.now >>= λ p.
    options_after (Some p) c.loop-option.bypass c.loop-option.fanout
    (words_of c.in_ok-value.rest.now))
with_pick c =
    let none : c.loop-option.pick ≡ None = grind arith in
    rw none
    (options_after-pick c.loop-option.bypass c.loop-option.fanout c.in-Some.option.now
    c.in_ok-value.value.now (words_of c.in-Some.rest.now) (words_of c.in_ok-value.rest.now)
    (words_of c.loop-option.line.now) c.in-Some.ensures.word c.in_ok-value.ensures.word
    (sym c.is_first.ensures ∙ c.if-is_first.false)
    (sym c.is_first-else-is_first.ensures ∙ c.if-is_first-2.false))

pub returns-in_err-pick_of : goal.returns-in_err-pick_of
returns-in_err-pick_of c =
    c.from_residual-in_err-pick_of.ensures
    ∙ sym
    (c.loop-option.invariant ∙ with_pick (goal.at.returns-in_err-pick_of c).After-pick_of
    ∙ rw (← c.in_err-pick_of.ensures) refl)

pub loop-option-preserved : goal.loop-option-preserved
loop-option-preserved c =
    c.loop-option.invariant ∙ with_pick (goal.at.loop-option-preserved c).After-pick_of
    ∙ rw (← c.in_ok-pick_of.ensures) refl

pub returns-else-is_none : goal.returns-else-is_none
returns-else-is_none c =
    let picked : is_none c.loop-option.pick ≡ false = grind arith in
    sym
    (c.loop-option.invariant
    ∙ options_after-picked c.loop-option.pick c.loop-option.bypass c.loop-option.fanout
    c.in-Some.option.now (words_of c.in-Some.rest.now) (words_of c.loop-option.line.now)
    picked c.in-Some.ensures.word
    (sym c.is_first.ensures ∙ c.if-is_first.false)
    (sym c.is_first-else-is_first.ensures ∙ c.if-is_first-2.false))
