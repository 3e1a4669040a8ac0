use Rattle.std.proofs.Common.{◌≡◌, ◌∙◌, ◌+◌, ◌++◌, ◌∷◌, [], ℕ, List, ap, arith, subst, suc, sym}
use Rattle.std.specs.Prelude.{All, take}
use Rattle.std.proofs.lemmas.List.Elements.{All-append, All-cons, All-nil}
use Rattle.script_lines.specs.declared.ask.Ask.{Ask}
use Rattle.script_lines.specs.Limits.{IsAsk}
use Rattle.inspector_pool.specs.Answers.{answers}
use Rattle.inspector_pool.proofs.NoticeAnswers.{answers_further}
use Rattle.inspector_pool.proofs.desk.Desk.answers.Goals as goal

pub loop-at-preserved : goal.loop-at-preserved
loop-at-preserved g c =
    let s = c.args.self.now.script.now in
    let place = c.args.self.now.place in
    let ns = c.args.notices.now in
    let at = c.loop-at.at in
    let asks = c.in_ok-asks.asks in
    let next : suc at ≡ at + 1 = omega arith in
    let pushed = c.in_ok-push.ensures.items in
    let more = answers_further s place c.args.counted ns at c.saturating_add-before.result
    c.in-Some.notice.now asks (sym c.in-Some.ensures.value) c.saturating_add-before.ensures
    c.in_ok-asks.ensures in (
      pushed
          ∙ ap (λ (l : List (List Ask)). l ++ asks ∷ []) c.loop-at.invariant.0
          ∙ more
          ∙ ap (λ (k : ℕ). answers s place c.args.counted (take k ns)) next,
      subst (λ (l : List (List Ask)). All (All IsAsk) l) (sym pushed)
          (All-append (All IsAsk) c.loop-at.given.items (asks ∷ []) c.loop-at.invariant.1
          (All-cons (All IsAsk) asks [] c.in_ok-asks.ensures.fit (All-nil (All IsAsk)))),
    )
