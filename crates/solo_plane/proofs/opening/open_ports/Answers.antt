use Rattle.std.proofs.Common.{◌∙◌, ℕ, List, ap, sym, length}
use Rattle.packet_moves.specs.Planes.{opened_ports}
use Rattle.solo_plane.proofs.OpenPorts.{all_opened}
use Rattle.solo_plane.proofs.opening.open_ports.Goals as goal

pub returns : goal.returns
returns c =
    let given = c.in_ok-numbers.ensures in
    all_opened c.in_ok-numbers.numbers.all.items c.in_ok-states.states.items
    (c.in_ok-states.ensures.as_many ∙ sym (ap (λ (ns : List ℕ). length ns) given))
    c.in_ok-states.ensures.opened ∙ ap opened_ports given
