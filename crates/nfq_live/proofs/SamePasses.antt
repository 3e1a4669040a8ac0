-- Where each pass stays its port's, with its parts of the locks, they stay all passes of the plane.
use Rattle.std.proofs.Common.{◌≡◌, ◌+◌, ◌∙◌, ◌++◌, ◌∷◌, [], ℕ, List, ap, map, refl}
use Rattle.std.proofs.Common.{subst, sym}
use Rattle.std.specs.List.{AllZip}
use Rattle.std.specs.Prelude.{if◌then◌else◌, nat_eq}
use Rattle.turn_lock.specs.Parts.{Tree}
use Rattle.place_rows.specs.Lists.{Every}
use Rattle.plane.specs.declared.plane.Plane.{Plane}
use Rattle.plane.specs.Opening.{all_rows, known_in}
use Rattle.plane.specs.Passes.{FeederView, IsPortOf, PortView}
use Rattle.plane.specs.Planes.{places_of}
use Rattle.plane.specs.Remaining.{times_in}
use Rattle.place_turns.specs.Trails.{parts_of}
use Rattle.live_passes.specs.Numbered.{AreAll, StaysFeeder, StaysPort, numbers_of}
use Rattle.nfq_live.specs.declared.crew.Crew.{Crew}
use Rattle.nfq_live.specs.Crews.{IsCrewOf}
use Rattle.live_work.specs.Feeding.{IsFeedingOf}
use Rattle.nfq_live.proofs.AllPasses.{WholeLaw}
use Rattle.nfq_live.proofs.PortNumbers.{is_once, times_more}

pub numbers_stay : (plane : Plane) (old new : List PortView) → AllZip (StaysPort plane) old new →
    numbers_of new ≡ numbers_of old
numbers_stay plane [] [] stay = refl
numbers_stay plane [] (q ∷ qs) stay = absurd stay
numbers_stay plane (p ∷ ps) [] stay = absurd stay
numbers_stay plane (p ∷ ps) (q ∷ qs) stay =
    ap (λ (n : ℕ). n ∷ numbers_of qs) stay.0.port
    ∙ ap (λ (ns : List ℕ). p.port ∷ ns) (numbers_stay plane ps qs stay.1)

every_stays : (plane : Plane) (old new : List PortView) → AllZip (StaysPort plane) old new →
    Every (IsPortOf plane) new
every_stays plane [] [] stay = tt
every_stays plane [] (q ∷ qs) stay = absurd stay
every_stays plane (p ∷ ps) [] stay = absurd stay
every_stays plane (p ∷ ps) (q ∷ qs) stay = (stay.0.of, every_stays plane ps qs stay.1)

times_stay : (plane : Plane) (port : ℕ) (old new closed : List PortView) →
    AllZip (StaysPort plane) old new →
    times_in port (new ++ closed) ≡ times_in port (old ++ closed)
times_stay plane port [] [] closed stay = refl
times_stay plane port [] (q ∷ qs) closed stay = absurd stay
times_stay plane port (p ∷ ps) [] closed stay = absurd stay
times_stay plane port (p ∷ ps) (q ∷ qs) closed stay =
    let same : is_once port q ≡ is_once port p =
    ap (λ (n : ℕ). if nat_eq n port then 1 else 0) stay.0.port in
    times_more port q (qs ++ closed)
    ∙ ap (λ (n : ℕ). n + times_in port (qs ++ closed)) same
    ∙ ap (λ (n : ℕ). is_once port p + n) (times_stay plane port ps qs closed stay.1)
    ∙ sym (times_more port p (ps ++ closed))

abbrev parts_in : PortView → List Tree
parts_in p = parts_of (known_in p)

parts_stay : (plane : Plane) (old new closed : List PortView) → AllZip (StaysPort plane) old new →
    map parts_of (map known_in new ++ map known_in closed)
    ≡ map parts_of (map known_in old ++ map known_in closed)
parts_stay plane [] [] closed stay = refl
parts_stay plane [] (q ∷ qs) closed stay = absurd stay
parts_stay plane (p ∷ ps) [] closed stay = absurd stay
parts_stay plane (p ∷ ps) (q ∷ qs) closed stay =
    ap (λ (t : List Tree). t ∷ map parts_of (map known_in qs ++ map known_in closed)) stay.0.parts
    ∙ ap (λ (ts : List (List Tree)). parts_in p ∷ ts) (parts_stay plane ps qs closed stay.1)

rows_stay : (plane : Plane) (fed feeds : FeederView) (old new closed : List PortView) →
    StaysFeeder plane fed feeds → AllZip (StaysPort plane) old new →
    map parts_of (all_rows feeds new closed) ≡ map parts_of (all_rows fed old closed)
rows_stay plane fed feeds old new closed feeder stay =
    ap (λ (t : List Tree). t ∷ map parts_of (map known_in new ++ map known_in closed)) feeder.parts
    ∙ ap (λ (ts : List (List Tree)). parts_of fed.trail.known ∷ ts)
    (parts_stay plane old new closed stay)

pub all_passes_stay : WholeLaw → (plane : Plane) (fed feeds : FeederView)
    (old new closed : List PortView) → StaysFeeder plane fed feeds →
    AllZip (StaysPort plane) old new → AreAll plane fed old closed →
    AreAll plane feeds new closed
all_passes_stay law plane fed feeds old new closed feeder stay all = record {
  set_up = all.set_up;
  feeds = feeder.of;
  speak = every_stays plane old new stay;
  spoke = all.spoke;
  each = λ port is. times_stay plane port old new closed stay ∙ all.each port is;
  nobody = λ port no. times_stay plane port old new closed stay ∙ all.nobody port no;
  whole = law (places_of plane) (all_rows fed old closed) (all_rows feeds new closed)
      (rows_stay plane fed feeds old new closed feeder stay) all.whole;
}

-- so it is of a crew of which nobody closed
pub crew_stays : WholeLaw → (plane : Plane) (old new : Crew) →
    StaysFeeder plane old.feeding.pass new.feeding.pass → IsFeedingOf plane new.feeding →
    AllZip (StaysPort plane) old.ports.items new.ports.items →
    new.closed.items ≡ old.closed.items → IsCrewOf plane old → IsCrewOf plane new
crew_stays law plane old new feeder looks stay closed crew = record {
  all = subst (λ (l : List PortView). AreAll plane new.feeding.pass new.ports.items l) (sym closed)
      (all_passes_stay law plane old.feeding.pass new.feeding.pass old.ports.items new.ports.items
      old.closed.items feeder stay crew.all);
  looks = looks;
}
