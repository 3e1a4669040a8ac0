use Rattle.std.proofs.Common.{◌≡◌, suc, List, Option, ap, sym, subst, arith, length}
use Rattle.packet_entry.specs.declared.packet.Card.{Card}
use Rattle.hook_chain.specs.declared.chain.Decision.{Decision}
use Rattle.hook_chain.specs.declared.chain.Next.{Next}
use Rattle.packet_moves.specs.HandedOn.{AreInTime}
use Rattle.place_turns.specs.Departures.{HaveSeenAll}
use Rattle.place_turns.specs.Messages.{CarriesAll}
use Rattle.place_turns.specs.Moving.{Carries}
use Rattle.place_turns.specs.Places.{places_of, setting_of}
use Rattle.place_turns.proofs.RequestBalance.{rest_in_time}
use Rattle.place_turns.proofs.Departures.{seen_all_on}
use Rattle.place_turns.proofs.asking.hand_on.Goals as goal

pub loop-packet-preserved : goal.loop-packet-preserved
loop-packet-preserved g c = record {
  in_time = rest_in_time (c.in-Some.packet, c.in-Some.decision) c.take.new.self.items
      (subst AreInTime c.in-Some.ensures.first c.loop-packet.invariant.in_time);
  room = (let one : length c.loop-packet.handed.items ≡ suc (length c.take.new.self.items) =
      ap length c.in-Some.ensures.first in
      omega (arith, one, c.loop-packet.invariant.room, c.carry.ensures.room));
  of = c.carry.ensures.of;
  on = λ after rest.
      c.loop-packet.invariant.on after
      (subst (λ (hs : List (Card × Decision)). CarriesAll (places_of c.args.turns.now.places.now)
      (setting_of c.args.turns.now.places.now) hs c.loop-packet.passes.trail after)
      (sym c.in-Some.ensures.first)
      (record {
        memory = c.carry.ensures.carried.memory;
        between = c.carry.new.passes.trail;
        ended = c.carry.result;
        first = subst (λ (r : Option Next). Carries c.carry.ensures.carried.memory
            (places_of c.args.turns.now.places.now) (setting_of c.args.turns.now.places.now)
            c.loop-packet.passes.trail c.in-Some.packet r c.carry.new.passes.trail c.carry.result)
            c.onward-route.ensures.exact c.carry.ensures.carried.moved;
        rest = rest;
      }));
  seen = λ start.
      let all =
      subst (HaveSeenAll c.loop-packet.passes.timed) c.in-Some.ensures.first
      (c.loop-packet.invariant.seen start) in
      seen_all_on c.loop-packet.passes.timed c.carry.new.passes.timed c.carry.ensures.on
      c.take.new.self.items all.1;
  timely = λ h start is.
      let all =
      subst (HaveSeenAll c.loop-packet.passes.timed) c.in-Some.ensures.first
      (c.loop-packet.invariant.seen start) in
      c.carry.ensures.timely h all.0 (c.loop-packet.invariant.timely h start is);
}
