-- What passes that were joined into one fed and lost, in order.
use Rattle.std.specs.Prelude.{List, [], ◌++◌}
use Rattle.packet_entry.specs.declared.packet.Card.{Card}
use Rattle.histories.specs.declared.histories.Lost.{Lost}
use Rattle.place_turns.specs.Trails.{Trail}
use Rattle.plane.specs.declared.past.Past.{Past}
use Rattle.plane.specs.declared.past.Past.TheVariants.{Nothing, Joined'}

abbrev pub fed_by : Past → List Card
fed_by Nothing = []
fed_by (Joined' p front fed lost back) = fed_by front ++ (fed.items ++ fed_by back)

abbrev pub lost_by : Past → List Lost
lost_by Nothing = []
lost_by (Joined' p front fed lost back) = lost_by front ++ (lost.items ++ lost_by back)

-- what was done, where these packets were lost before
abbrev pub after_lost : List Lost → Trail → Trail
after_lost front t = record { known = t.known; lost = front ++ t.lost }
