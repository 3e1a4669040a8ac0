-- The bytes of a cut are the same part of the buffer, counted from the buffer's front.
use Rattle.std.proofs.Common.{◌≡◌, ◌+◌, ◌-◌, ◌≤◌, drop, subst, sym, ◌∙◌, ap, arith}
use Rattle.std.specs.Prelude.{slice_range}
use Rattle.std.specs.Arc.{arc_value}
use Rattle.std.proofs.lemmas.List.{length-take}
use Rattle.std.specs.Prelude.{length, IfOk}
use Rattle.packet_entry.specs.SharedBytes.{bytes_of}
use Rattle.packet_entry.proofs.Cuts.{cut_of_cut}
use Rattle.packet_entry.proofs.bytes.Bytes.cut.Goals as goal

pub returns-in-Part : goal.returns-in-Part
returns-in-Part c =
    let from = c.in-Part.first in
    let to = from + c.in-Part.length in
    let buffer = (arc_value c.in-Part.buffer).items in
    let whole : slice_range buffer from to ≡ c.args.self.now =
    subst (λ form. bytes_of form ≡ c.args.self.now) c.in-Part.is c.self.view_is in
    let within : c.args.end ≤ to - from =
    omega (arith, c.requires.within, length-take (to - from) (drop from buffer), ap length whole) in
    let same : slice_range buffer (from + c.args.start) (from + c.args.end)
    ≡ slice_range c.args.self.now c.args.start c.args.end =
    sym (cut_of_cut buffer from to c.args.start c.args.end c.requires.order within)
    ∙ ap (λ bytes. slice_range bytes c.args.start c.args.end) whole in
    subst (λ xs. IfOk c.part_of-in-Part.result (λ bytes. bytes ≡ xs)) same c.part_of-in-Part.ensures
