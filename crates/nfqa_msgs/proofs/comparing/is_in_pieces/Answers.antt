use Rattle.std.proofs.Common.{List, ℕ, ◌++◌, ap, sym, ◌∙◌, append_assoc}
use Rattle.std.proofs.lemmas.List.{append_cancel_left}
use Rattle.nfqa_msgs.proofs.comparing.is_in_pieces.Goals as goal

pub returns-in-None : goal.returns-in-None
returns-in-None c =
    let front : List ℕ = c.args.front.now in
    let middle : List ℕ = c.args.middle.now in
    let tail : List ℕ = c.args.tail.now in (
      λ no. absurd cc,
      λ is. absurd (c.in-None.ensures (middle ++ tail) (is ∙ append_assoc front middle tail)),
    )

pub returns-in-Some : goal.returns-in-Some
returns-in-Some c =
    let front : List ℕ = c.args.front.now in
    let middle : List ℕ = c.args.middle.now in
    let tail : List ℕ = c.args.tail.now in
    let rest : List ℕ = c.in-Some.rest.now in (
      λ yes. c.in-Some.ensures ∙ ap (λ xs. front ++ xs) (c.is_pair.ensures.0 yes)
          ∙ sym (append_assoc front middle tail),
      λ is. c.is_pair.ensures.1
          (append_cancel_left front rest (middle ++ tail)
          (sym c.in-Some.ensures ∙ is ∙ append_assoc front middle tail)),
    )
