use Rattle.run_parts.proofs.PortPlaces.{have_places}
use Rattle.run_parts.proofs.laws.each_port_has_its_place.Goals as goal

pub returns : goal.returns
returns c = have_places
