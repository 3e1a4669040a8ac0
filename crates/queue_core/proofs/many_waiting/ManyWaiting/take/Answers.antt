use Rattle.std.proofs.Common.{None, option_map, ap, sym, ◌∙◌}
use Rattle.std.specs.Map.{lookup, remove_entry}
use Rattle.queue_core.specs.declared.linked.Linked.{Linked}
use Rattle.queue_core.specs.Ids.{is_id}
use Rattle.queue_core.proofs.Links.{packet_linked, viewed, whole}
use Rattle.queue_core.proofs.MapChanges.{gone_by, taken_out}
use Rattle.queue_core.proofs.many_waiting.ManyWaiting.take.Goals as goal

pub invariant_of-self : goal.invariant_of-self
invariant_of-self c =
    rw c.in_err-packet.ensures.unchanged c.self.invariant

pub returns-in_err-packet-clause-packet : goal.returns-in_err-packet-clause-packet
returns-in_err-packet-clause-packet c =
    c.from_residual.ensures
    ∙ ap (option_map (λ (e : Linked). e.packet))
    (c.in_err-packet.ensures.value ∙ c.self.invariant.each c.args.id)
    ∙ packet_linked None _ c.args.id ∙ ap (lookup (is_id c.args.id)) c.self.view_is

pub returns-in_err-packet-clause-unchanged : goal.returns-in_err-packet-clause-unchanged
returns-in_err-packet-clause-unchanged c =
    rw (c.from_residual.ensures, c.in_err-packet.ensures.unchanged) c.self.view_is

pub invariant_of-self-2 : goal.invariant_of-self-2
invariant_of-self-2 c =
    whole _ _ _ _
    (taken_out c.self.inside.by_id.entries c.remove.new.self.entries
    c.name_younger.new.by_id.entries c.name_older.new.by_id.entries c.self.inside.oldest
    c.self.inside.youngest c.name_younger.new.oldest c.name_older.new.youngest _ c.args.id
    c.in_ok-packet.field-0 c.self.invariant (sym c.in_ok-packet.ensures.value)
    (gone_by c.self.inside.by_id c.remove.new.self c.args.id c.remove.ensures.updates)
    c.in_ok-packet.ensures.len c.name_younger.ensures.each c.name_younger.ensures.as_many
    c.name_younger.ensures.oldest c.name_older.ensures.each c.name_older.ensures.as_many
    c.name_older.ensures.youngest)

pub returns-clause-packet : goal.returns-clause-packet
returns-clause-packet c =
    ap (option_map (λ (e : Linked). e.packet))
    (c.in_ok-packet.ensures.value ∙ c.self.invariant.each c.args.id)
    ∙ packet_linked None _ c.args.id ∙ ap (lookup (is_id c.args.id)) c.self.view_is

pub returns-clause-others : goal.returns-clause-others
returns-clause-others c =
    viewed _ _ _ _
    (taken_out c.self.inside.by_id.entries c.remove.new.self.entries
    c.name_younger.new.by_id.entries c.name_older.new.by_id.entries c.self.inside.oldest
    c.self.inside.youngest c.name_younger.new.oldest c.name_older.new.youngest _ c.args.id
    c.in_ok-packet.field-0 c.self.invariant (sym c.in_ok-packet.ensures.value)
    (gone_by c.self.inside.by_id c.remove.new.self c.args.id c.remove.ensures.updates)
    c.in_ok-packet.ensures.len c.name_younger.ensures.each c.name_younger.ensures.as_many
    c.name_younger.ensures.oldest c.name_older.ensures.each c.name_older.ensures.as_many
    c.name_older.ensures.youngest)
    ∙ ap (remove_entry (is_id c.args.id)) c.self.view_is
