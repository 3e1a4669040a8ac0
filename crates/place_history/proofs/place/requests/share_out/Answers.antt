use Rattle.std.proofs.Common.{◌<◌, Some}
use Rattle.nfqa_msgs.specs.declared.request.Request.TheVariants.{Batch}
use Rattle.queue_core.specs.Calls.{hands_out, batch_handed, ways_of}
use Rattle.histories.specs.Numbers.{queue_count}
use Rattle.histories.specs.Happenings.{all_handed}
use Rattle.place_history.proofs.QueueStep.{ahead}
use Rattle.place_history.proofs.RequestEntries.{served_makes, served_enters, asked_step}
use Rattle.place_history.proofs.place.requests.share_out.Goals as goal

pub append-requires-clause-ahead : goal.append-requires-clause-ahead
append-requires-clause-ahead c =
    let number : c.args.asker.queue < queue_count = search in
    let changes = c.in_ok-taken.ensures.taken in
    let request = Batch c.args.asker.queue (Some c.args.head) c.args.mark c.args.priority in
    let hs = batch_handed changes.before.state c.args.head c.args.mark c.args.priority in
    rw (c.answered.ensures, c.errno_of-errno.ensures, changes.by.1, c.requires.no_offer)
    (ahead c.args.held.now c.take_share.new.queues _ c.requires.replayed
    (rw c.requires.no_offer tt) number changes
    (served_makes changes.before changes.after c.args.asker request hs changes.by.0
    (asked_step c.args.held.now c.args.asker changes.before c.requires.allowed.0 request
    (hands_out changes.after.state hs)
    c.requires.replayed changes.was c.requires.allowed.1 c.requires.allowed.2
    (changes.by.3 c.args.asker.queue c.args.asker.call))))

pub returns-clause-entered : goal.returns-clause-entered
returns-clause-entered c =
    let changes = c.in_ok-taken.ensures.taken in
    let request = Batch c.args.asker.queue (Some c.args.head) c.args.mark c.args.priority in
    let hs = batch_handed changes.before.state c.args.head c.args.mark c.args.priority in
    let appended = rw (c.answered.ensures, c.errno_of-errno.ensures, changes.by.1)
    at c.append.ensures.entries in
    rw (c.errno_of-errno.ensures, changes.by.1) (record {
      handed = all_handed (ways_of hs);
      entered = served_enters c.args.held.now c.append.new.held changes.before changes.after
          c.args.asker request hs c.requires.replayed changes.was
          (asked_step c.args.held.now c.args.asker changes.before c.requires.allowed.0 request
          (hands_out changes.after.state hs) c.requires.replayed changes.was
          c.requires.allowed.1 c.requires.allowed.2
          (changes.by.3 c.args.asker.queue c.args.asker.call)) appended;
      appended = changes.by.2;
    })
