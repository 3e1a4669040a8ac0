use Rattle.std.proofs.Common.{ℕ, List, subst, sym}
use Rattle.std.specs.Prelude.{slice_index_or}
use Rattle.plane.specs.Passes.{PortView}
use Rattle.plane.specs.Planes.{order_of, places_of}
use Rattle.nfq_live.specs.Crews.{AreReceived, HaveMinds, IsReceived, OneShuts, OthersStay}
use Rattle.nfq_live.specs.Endings.{EndsTo, HasStopped}
use Rattle.nfq_live.specs.Sizes.{Size}
use Rattle.live_work.proofs.SentAsks.{on_ok}
use Rattle.nfq_live.proofs.WholeRun.{at_any}
use Rattle.nfq_live.proofs.PortEnd.{a_port, both_long, end_shuts, end_stops, its_still, others_here}
use Rattle.nfq_live.proofs.PortEnd.{others_shut, received_here, received_shut_here, still_within}
use Rattle.nfq_live.proofs.crew.Crew.end_at.Goals as goal

pub returns-then-not-closes-clause-stopped : goal.returns-then-not-closes-clause-stopped
returns-then-not-closes-clause-stopped g c = λ size e.
    end_stops c.args.stage.now.plane.now c.args.stage.now.script.now c.args.place c.args.at
    c.requires.ends.order
    c.a_port_goes_through_a_stage.ensures.goes size c.args.asks c.args.self.now
    c.say_end.new.self c.in_ok-closes.closes c.if-not-closes.true c.in_ok-closes.ensures.said e

pub returns-then-not-closes-clause-its : goal.returns-then-not-closes-clause-its
returns-then-not-closes-clause-its g c = λ d.
    received_here c.args.stage.now.script.now.ports (places_of c.args.stage.now.plane.now) c.args.at
    c.args.self.now
    c.say_end.new.self d c.requires.ends.within c.in_ok-closes.ensures.alone
    c.in_ok-closes.ensures.received

pub returns-then-not-closes-clause-others : goal.returns-then-not-closes-clause-others
returns-then-not-closes-clause-others g c = λ d.
    others_here c.args.self.now c.say_end.new.self
    (slice_index_or c.args.self.now.ports.items c.args.at d).port c.in_ok-closes.ensures.alone

pub close_at-requires-clause-within : goal.close_at-requires-clause-within
close_at-requires-clause-within g c =
    still_within c.args.stage.now.plane.now c.args.stage.now.script.now c.args.place c.args.at
    c.requires.ends.order
    c.args.self.now c.say_end.new.self c.in_ok-closes.ensures.alone c.requires.ends.within

pub close_at-requires-clause-both : goal.close_at-requires-clause-both
close_at-requires-clause-both g c =
    both_long c.args.stage.now.script.now c.say_end.new.self c.in_ok-closes.ensures.minds

pub returns-clause-minds : goal.returns-clause-minds
returns-clause-minds g c =
    at_any c.close_at.result (HaveMinds c.args.stage.now.script.now c.close_at.new.self)
    (c.close_at.ensures.minds c.args.stage.now.script.now c.in_ok-closes.ensures.minds)

pub returns-clause-stopped : goal.returns-clause-stopped
returns-clause-stopped g c =
    let less = still_within c.args.stage.now.plane.now c.args.stage.now.script.now c.args.place
    c.args.at
    c.requires.ends.order c.args.self.now c.say_end.new.self c.in_ok-closes.ensures.alone
    c.requires.ends.within in
    let places = places_of c.args.stage.now.plane.now in
    on_ok c.close_at.result
    ((d : PortView) → OneShuts (places_of c.args.stage.now.plane.now)
    (slice_index_or c.say_end.new.self.ports.items c.args.at d).port c.say_end.new.self
    c.close_at.new.self)
    ((size : Size) →
    EndsTo c.args.stage.now.script.now places size c.args.place c.args.asks c.args.self.now →
    HasStopped c.args.stage.now.script.now places size c.args.place c.close_at.new.self)
    (λ shut size e.
    end_shuts c.args.stage.now.plane.now c.args.stage.now.script.now c.args.place c.args.at
    c.requires.ends.order
    c.a_port_goes_through_a_stage.ensures.goes c.a_port_goes_through_a_stage.ensures.closes
    c.a_port_goes_through_a_stage.ensures.closed size c.args.asks c.args.self.now
    c.say_end.new.self c.close_at.new.self c.in_ok-closes.closes
    (a_port c.say_end.new.self c.args.at less) c.if-not-closes.false c.say_end.ensures.crew less
    (its_still c.args.stage.now.plane.now c.args.stage.now.script.now c.args.place c.args.at
    c.requires.ends.order
    c.args.self.now c.say_end.new.self c.requires.ends.within c.in_ok-closes.ensures.alone
    c.requires.ends.its) (shut (a_port c.say_end.new.self c.args.at less))
    c.in_ok-closes.ensures.said
    e) c.close_at.ensures.shuts

pub returns-clause-received : goal.returns-clause-received
returns-clause-received g c =
    let places = places_of c.args.stage.now.plane.now in
    on_ok c.close_at.result
    (AreReceived (order_of c.args.stage.now.plane.now) places c.close_at.new.self)
    (AreReceived c.args.stage.now.script.now.ports places c.close_at.new.self)
    (λ was. subst (λ (l : List ℕ). AreReceived l places c.close_at.new.self) c.requires.ends.order
    was)
    (c.close_at.ensures.received
    (subst (λ (l : List ℕ). AreReceived l places c.say_end.new.self) (sym c.requires.ends.order)
    c.in_ok-closes.ensures.received))

pub returns-clause-its : goal.returns-clause-its
returns-clause-its g c =
    let places = places_of c.args.stage.now.plane.now in
    on_ok c.close_at.result
    ((d : PortView) → OneShuts (places_of c.args.stage.now.plane.now)
    (slice_index_or c.say_end.new.self.ports.items c.args.at d).port c.say_end.new.self
    c.close_at.new.self)
    ((d : PortView) → IsReceived c.args.stage.now.script.now.ports places c.close_at.new.self
    (slice_index_or c.args.self.now.ports.items c.args.at d).port)
    (λ shut d.
    received_shut_here c.meetings_and_closings_send_nothing.ensures.closes
    c.meetings_and_closings_send_nothing.ensures.all c.args.stage.now.script.now.ports places
    c.args.at
    c.args.self.now c.say_end.new.self c.close_at.new.self d c.requires.ends.within
    c.in_ok-closes.ensures.alone c.in_ok-closes.ensures.received (shut d)) c.close_at.ensures.shuts

pub returns-clause-others : goal.returns-clause-others
returns-clause-others g c =
    let places = places_of c.args.stage.now.plane.now in
    on_ok c.close_at.result
    ((d : PortView) → OneShuts (places_of c.args.stage.now.plane.now)
    (slice_index_or c.say_end.new.self.ports.items c.args.at d).port c.say_end.new.self
    c.close_at.new.self)
    ((d : PortView) → OthersStay (slice_index_or c.args.self.now.ports.items c.args.at d).port
    c.args.self.now c.close_at.new.self)
    (λ shut d.
    others_shut places c.args.at c.args.self.now c.say_end.new.self c.close_at.new.self d
    c.requires.ends.within c.in_ok-closes.ensures.alone (shut d)) c.close_at.ensures.shuts
