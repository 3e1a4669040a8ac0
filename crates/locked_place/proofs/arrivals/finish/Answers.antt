use Rattle.locked_place.specs.Views.{senders_of}
use Rattle.locked_place.proofs.ArrivalNotices.{at_some_time}
use Rattle.locked_place.proofs.FinishedArrivals.{came_back, offered_to, settled_so}
use Rattle.locked_place.proofs.arrivals.finish.Goals as goal

pub returns-in-Back-clause-arrived : goal.returns-in-Back-clause-arrived
returns-in-Back-clause-arrived g c a before begun =
    let was = rw c.in-Back.is at begun in
    let senders = senders_of c.args.senders.now in
    came_back a c.args.time before c.args.place.now senders c.in-Back.outcome c.in-Back.packet was
    (c.senders_keep_up.ensures.turned_away before.entries a _ _ senders was.notified was.begins.1)
    (c.mails_keep_up.ensures.turned_away before.entries a _ _ c.args.time senders was.begins.1)

pub send-room-requires-clause-there : goal.send-room-requires-clause-there
send-room-requires-clause-there g c =
    let was = rw c.in-Offered.is at c.requires.begun.2 in
    c.senders_keep_up.ensures.has_sender c.requires.begun.1.entries c.requires.begun.0
    c.in-Offered.port c.in-Offered.letter (senders_of c.args.senders.now) was.notified was.begins

pub returns-in-Offered-clause-arrived : goal.returns-in-Offered-clause-arrived
returns-in-Offered-clause-arrived g c a before begun =
    let was = rw c.in-Offered.is at begun in
    let es = before.entries in
    let olds = senders_of c.args.senders.now in
    let news = senders_of c.send-room.new.senders in
    let port = c.in-Offered.port in
    let letter = c.in-Offered.letter in
    let room = c.send-room.result in
    let sent = c.send-room.ensures in
    let there =
    c.senders_keep_up.ensures.has_sender es a port letter olds was.notified was.begins in
    settled_so a c.args.time before c.args.place.now olds port letter was room
    c.settle.new.self news c.as_settled.result
    (rw was.now_so at c.settle.ensures.state)
    (c.as_settled.ensures.places a room es
    (offered_to a c.args.time before c.args.place.now olds port letter was)
    (rw was.now_so at c.settle.ensures.settled))
    (c.as_settled.ensures.sender olds there)
    (c.senders_keep_up.ensures.offered es a room port letter olds news was.notified was.begins
    (λ yes_. at_some_time letter c.args.time (olds port) (news port) (sent.put yes_))
    sent.back sent.others)
    (c.mails_keep_up.ensures.offered es a room port letter c.args.time olds news there was.begins
    sent.put sent.back sent.others)
