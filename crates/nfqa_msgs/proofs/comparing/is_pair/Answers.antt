use Rattle.std.proofs.Common.{List, ℕ, ◌++◌, ap, sym, ◌∙◌}
use Rattle.std.proofs.lemmas.List.{append_cancel_left}
use Rattle.nfqa_msgs.proofs.comparing.is_pair.Goals as goal

pub returns-in-None : goal.returns-in-None
returns-in-None c = (λ no. absurd cc, λ is. absurd (c.in-None.ensures c.args.tail.now is))

pub returns-in-Some : goal.returns-in-Some
returns-in-Some c =
    let middle : List ℕ = c.args.middle.now in
    let same = c.same_bytes.ensures in (
      λ yes. c.in-Some.ensures ∙ ap (λ xs. middle ++ xs) (same.0 yes),
      λ is. same.1 (append_cancel_left middle c.in-Some.rest.now c.args.tail.now (sym c.in-Some.ensures ∙ is)),
    )
