use Rattle.std.proofs.Common.{rules, List, subst, sym}
use Rattle.std.proofs.lemmas.List.Sorted.{answers_always}
use Rattle.histories.specs.declared.entry.Entry.{Entry}
use Rattle.histories.specs.Grouping.{IsGrouped}
use Rattle.histories.proofs.QueueOrder.{Ascends, grouped_already, number_of}
use Rattle.histories.proofs.grouping.grouped.Goals as goal

-- where the numbers don't descend already
pub returns-then-is_sorted_by_key : goal.returns-then-is_sorted_by_key
returns-then-is_sorted_by_key c =
    let list : List Entry = c.into_vec-list.result.items in
    subst (λ (gs : List Entry). IsGrouped c.args.entries gs) (sym c.from_vec.ensures)
    (subst (λ (es : List Entry). IsGrouped es list) c.into_vec-list.ensures
    (grouped_already list
    (subst (λ (es : List Entry). Ascends es) c.deref.ensures.value
    (c.if-is_sorted_by_key.ensures.cases number_of
    (answers_always _ _ _ (λ f a r g called. search rules))))))
