use Rattle.std.proofs.Common.{refl, ap, ◌∙◌}
use Rattle.fate_ledger.specs.Following.{noted_all}
use Rattle.fate_ledger.proofs.Queues.{followed_by, told_is}
use Rattle.fate_ledger.proofs.followed_queues.FollowedQueues.follow.Goals as goal

pub returns-clause-queues : goal.returns-clause-queues
returns-clause-queues c =
    followed_by c.args.self.now c.turn_to.new.self c.args.entry.now c.in_ok-turn_to.ensures _ refl
    refl c.in_ok-follow.ensures.at c.in_ok-follow.ensures.waiting

pub returns-clause-kept : goal.returns-clause-kept
returns-clause-kept c =
    c.in_ok-follow.ensures.kept
    ∙ ap (λ hs. noted_all hs c.args.kept.now)
    (told_is c.args.self.now c.turn_to.new.self c.args.entry.now c.in_ok-turn_to.ensures)
