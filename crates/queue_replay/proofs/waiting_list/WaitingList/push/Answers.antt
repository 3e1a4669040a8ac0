use Rattle.std.proofs.Common.{ℕ, List, [], ◌∷◌, ◌++◌, length, ap, ◌∙◌, arith, length-append}
use Rattle.std.specs.Map.{keys_of}
use Rattle.packet_entry.specs.declared.packet.Card.{Card}
use Rattle.queue_core.specs.Ids.{is_among}
use Rattle.queue_replay.proofs.Cards.{pushed}
use Rattle.queue_replay.proofs.waiting_list.WaitingList.push.Goals as goal

pub invariant_of-self-2 : goal.invariant_of-self-2
invariant_of-self-2 c =
    let after = pushed c.self.inside.cards c.put.new.self c.demote.new.self c.args.id c.args.card
    c.self.invariant.0 c.self.invariant.1
    (ap (λ (ws : List (ℕ × Card)). is_among (keys_of ws) c.args.id) c.self.view_is
    ∙ c.requires.free) c.in_ok-put.ensures.entries c.demote.ensures.entries in (
      after.1,
      omega (
        arith,
        ap (λ (ws : List (ℕ × Card)). length ws) after.0,
        length-append c.self.inside.cards.entries ((c.args.id, c.args.card) ∷ []),
        ap (λ (ws : List (ℕ × Card)). length ws) c.self.view_is,
        c.len.ensures,
        c.if-len.false,
        c.self.invariant.1,
      ),
    )

pub returns : goal.returns
returns c =
    let after = pushed c.self.inside.cards c.put.new.self c.demote.new.self c.args.id c.args.card
    c.self.invariant.0 c.self.invariant.1
    (ap (λ (ws : List (ℕ × Card)). is_among (keys_of ws) c.args.id) c.self.view_is
    ∙ c.requires.free) c.in_ok-put.ensures.entries c.demote.ensures.entries in
    after.0
    ∙ ap (λ (ws : List (ℕ × Card)). ws ++ (c.args.id, c.args.card) ∷ []) c.self.view_is
