use Rattle.solo_plane.proofs.closing.histories.Goals as goal

pub returns-clause-sound : goal.returns-clause-sound
returns-clause-sound c s has =
    let grouped = rw (c.into_entries-entries.ensures.value, c.leave_waiting.ensures.state)
    at c.in_ok-entries.ensures in
    rw c.into_sequence.ensures
    (c.soundness_is_of_each_queue.ensures s.tables s.key c.args.held.fed.items
    c.args.held.place.entries c.in_ok-entries.entries c.args.held.lost.items grouped.same has.sound)
