use Rattle.std.proofs.Common.{◌≡◌, false, true, ap, sym, ◌∙◌}
use Rattle.place_history.specs.PlaceState.{PlaceState}
use Rattle.place_history.proofs.QueuesOfPlace.{at_downs}
use Rattle.place_history.proofs.place.Place.device_down.Goals as goal
use Rattle.histories.specs.Places.{place_for}

pub invariant_of-self-2 : goal.invariant_of-self-2
invariant_of-self-2 c =
    let stands : c.self.inside.is_left ≡ false =
    ap (λ (k : PlaceState). k.is_left) c.self.view_is ∙ c.requires.standing in
    record {
      among = c.self.invariant.among;
      few_places = c.self.invariant.few_places;
      replayed = λ _. c.device_down.ensures.replayed;
      room = λ _. c.device_down.ensures.room;
      given_up = λ left. let wrong : true ≡ false = sym left ∙ stands in cc;
      legal = c.device_down.ensures.replayed.legal;
      here = rw (c.device_down.ensures.entries, c.make_room.ensures.entries)
          (at_downs (λ q. place_for q c.self.inside.places ≡ c.self.inside.number) c.args.device
          c.self.inside.held.entries.items c.self.invariant.here);
      offer_here = rw c.device_down.ensures.no_offer tt;
    }
