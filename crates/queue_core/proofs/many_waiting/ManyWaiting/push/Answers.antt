use Rattle.std.proofs.Common.{List, ℕ, [], ◌∷◌, ◌++◌, None, ap, ◌∙◌}
use Rattle.std.specs.Map.{keys_of}
use Rattle.packet_entry.specs.declared.packet.Card.{Card}
use Rattle.queue_core.specs.Ids.{is_among}
use Rattle.queue_core.proofs.Links.{none_linked, viewed, whole}
use Rattle.queue_core.proofs.MapChanges.{pushed}
use Rattle.queue_core.proofs.many_waiting.ManyWaiting.push.Goals as goal

pub put_youngest-requires : goal.put_youngest-requires
put_youngest-requires c = record {
  free = c.self.invariant.each c.args.id
      ∙ none_linked None _ c.args.id
      (ap (λ (ws : List (ℕ × Card)). is_among (keys_of ws) c.args.id) c.self.view_is
      ∙ c.requires.free);
}

pub invariant_of-self-2 : goal.invariant_of-self-2
invariant_of-self-2 c =
    whole _ _ _ _
    (pushed c.self.inside.by_id.entries c.put_youngest.new.by_id.entries
    c.name_younger.new.by_id.entries c.self.inside.oldest c.self.inside.youngest
    c.name_younger.new.oldest _ c.args.id c.args.packet c.self.invariant
    (ap (λ (ws : List (ℕ × Card)). is_among (keys_of ws) c.args.id) c.self.view_is
    ∙ c.requires.free)
    c.in_ok-put_youngest.ensures.each c.in_ok-put_youngest.ensures.one_more
    c.name_younger.ensures.each c.name_younger.ensures.as_many c.name_younger.ensures.oldest)

pub returns-clause-ok : goal.returns-clause-ok
returns-clause-ok c =
    viewed _ _ _ _
    (pushed c.self.inside.by_id.entries c.put_youngest.new.by_id.entries
    c.name_younger.new.by_id.entries c.self.inside.oldest c.self.inside.youngest
    c.name_younger.new.oldest _ c.args.id c.args.packet c.self.invariant
    (ap (λ (ws : List (ℕ × Card)). is_among (keys_of ws) c.args.id) c.self.view_is
    ∙ c.requires.free)
    c.in_ok-put_youngest.ensures.each c.in_ok-put_youngest.ensures.one_more
    c.name_younger.ensures.each c.name_younger.ensures.as_many c.name_younger.ensures.oldest)
    ∙ ap (λ (ws : List (ℕ × Card)). ws ++ (c.args.id, c.args.packet) ∷ []) c.self.view_is
