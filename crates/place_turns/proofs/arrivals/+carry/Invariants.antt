use Rattle.packet_moves.specs.OnTheWay.{arrivals_left}
use Rattle.place_turns.proofs.arrivals.+carry.Given as goal

abbrev pub decreases-carry : goal.decreases-carry
decreases-carry g l = arrivals_left l.came
