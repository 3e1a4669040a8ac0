use Rattle.std.proofs.Common.{◌≡◌, false, true, ap, sym, ◌∙◌}
use Rattle.place_history.specs.PlaceState.{PlaceState, AreHere}
use Rattle.place_history.proofs.QueuesOfPlace.{begun_here}
use Rattle.place_history.proofs.place.Place.begin.Goals as goal
use Rattle.histories.specs.Places.{place_for}

pub invariant_of-self-2 : goal.invariant_of-self-2
invariant_of-self-2 c =
    let stands : c.self.inside.is_left ≡ false =
    ap (λ (k : PlaceState). k.is_left) c.self.view_is ∙ c.requires.standing in
    let before : AreHere c.self.inside.places c.self.inside.number
    c.make_room.new.held.entries.items =
    rw c.make_room.ensures.entries c.self.invariant.here in
    let here : place_for c.args.queue c.self.inside.places ≡ c.self.inside.number =
    rw (← c.self.view_is) at c.requires.here in
    let both = begun_here (λ q. place_for q c.self.inside.places ≡ c.self.inside.number)
    c.begin.result _
    c.make_room.new.held c.begin.new.held c.begin.ensures.after c.begin.ensures.entries
    c.begin.ensures.no_offer before here in
    record {
      among = c.self.invariant.among;
      few_places = c.self.invariant.few_places;
      replayed = λ _. c.begin.ensures.replayed;
      room = λ _. c.begin.ensures.room;
      given_up = λ left. let wrong : true ≡ false = sym left ∙ stands in cc;
      legal = c.begin.ensures.replayed.legal;
      here = both.0;
      offer_here = both.1;
    }
