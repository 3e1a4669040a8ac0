use Rattle.place_history.proofs.EntryReplay.{replayed, enough}
use Rattle.place_history.proofs.place.held.append.Goals as goal

pub waiting_after-held-requires-clause-enough : goal.waiting_after-held-requires-clause-enough
waiting_after-held-requires-clause-enough c =
    enough c.args.held.now c.args.entry c.requires.ahead (
      c.each_packet_stays_or_leaves.ensures _ c.args.entry.event,
      c.replies_tell_how_many_left.ensures _ c.args.entry.event,
    )

pub returns-clause-replayed : goal.returns-clause-replayed
returns-clause-replayed c =
    rw (c.waiting_after-held.ensures, c.push.ensures.items)
    (replayed c.a_legal_history_goes_on.ensures.all c.args.held.now c.args.entry
    c.push.new.self.room c.requires.ahead (
      c.each_packet_stays_or_leaves.ensures _ c.args.entry.event,
      c.replies_tell_how_many_left.ensures _ c.args.entry.event,
    ))
