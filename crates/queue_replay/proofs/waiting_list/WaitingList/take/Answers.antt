use Rattle.std.proofs.Common.{ℕ, length, ap, ◌∙◌, arith}
use Rattle.lru.specs.LruCache.{LruCache}
use Rattle.packet_entry.specs.declared.packet.Card.{Card}
use Rattle.queue_replay.proofs.Cards.{no_more}
use Rattle.queue_replay.proofs.waiting_list.WaitingList.take.Goals as goal

pub invariant_of-self : goal.invariant_of-self
invariant_of-self c = (
  ap (λ (d : LruCache ℕ Card). d.cap) c.pop.ensures.entries ∙ c.self.invariant.0,
  omega (
    arith,
    ap (λ (d : LruCache ℕ Card). length d.entries) c.pop.ensures.entries,
    no_more c.args.id c.self.inside.cards.entries,
    c.self.invariant.1,
  ),
)
