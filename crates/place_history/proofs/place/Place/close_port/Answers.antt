use Rattle.std.proofs.Common.{◌≡◌, false, true, ap, sym, ◌∙◌}
use Rattle.place_history.specs.PlaceState.{PlaceState}
use Rattle.place_history.proofs.QueuesOfPlace.{at_closings}
use Rattle.place_history.proofs.place.Place.close_port.Goals as goal
use Rattle.histories.specs.Places.{place_for}

pub invariant_of-self : goal.invariant_of-self
invariant_of-self c =
    let stands : c.self.inside.is_left ≡ false =
    ap (λ (k : PlaceState). k.is_left) c.self.view_is ∙ c.requires.standing in
    record {
      among = c.self.invariant.among;
      few_places = c.self.invariant.few_places;
      replayed = λ _. c.close_port.ensures.replayed;
      room = λ _. c.close_port.ensures.room;
      given_up = λ left. let wrong : true ≡ false = sym left ∙ stands in cc;
      legal = c.close_port.ensures.replayed.legal;
      here = rw c.close_port.ensures.entries
          (at_closings (λ q. place_for q c.self.inside.places ≡ c.self.inside.number) c.args.port
          c.self.inside.held.entries.items c.self.invariant.here);
      offer_here = rw c.close_port.ensures.no_offer tt;
    }
