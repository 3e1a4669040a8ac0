-- The lists of all places have times for all steps, and so one order.
use Rattle.std.proofs.Common.{◌<◌, ℕ, List, sym, ◌∙◌, arith}
use Rattle.histories.specs.declared.histories.Histories.{Histories}
use Rattle.histories.specs.Places.{place_for}
use Rattle.total_order.specs.Orders.{EachIs, Pairs, untimed, earlier, MayBeEarlier}
use Rattle.total_order.specs.Steps.{Step}
use Rattle.total_order.specs.TotalOrder.{queue_of, IsCaused, InLogOrder, HasClocks, HasTotalOrder}
use Rattle.total_order.specs.Places.{Lists, IsKnownAs, AreTimedLists}
use Rattle.total_order.proofs.Lists.{each_map, each_by_position, pairs_by_position}
use Rattle.total_order.proofs.Persistence.{order_of}
use Rattle.total_order.proofs.Joined.{joined, each_joined, pairs_joined, AreHere, history_of_all}
use Rattle.total_order.proofs.Joined.{rise_joined}
use Rattle.total_order.proofs.Knowledge.{known_causes}

module _ (has_place : (queue places : ℕ) → 0 < places → place_for queue places < places)
    (places : ℕ) (lists : Lists) (h : Histories) (timed : AreTimedLists places lists h) where
  -- all steps, place by place
  abbrev all : List (Step × ℕ)
  all = joined lists places

  -- each queue is at one of the places
  within : (queue : ℕ) → place_for queue places < places
  within queue = has_place queue places timed.some

  -- each step is at its place
  here : AreHere places lists places
  here k l = (timed.each k l).here

  abbrev May : Step × ℕ → Step × ℕ → Type 0
  May x y = MayBeEarlier queue_of (IsCaused h.logs) InLogOrder x y

  abbrev Either : Step × ℕ → Step × ℕ → Type 0
  Either x y = May x y × May y x

  -- each is caused by those that are earlier
  caused : EachIs (λ x. IsCaused h.logs (untimed (earlier x.1 all)) x.0) all
  caused = each_joined (λ x. IsCaused h.logs (untimed (earlier x.1 all)) x.0) lists places
      (λ k l. each_map (λ x. IsKnownAs places lists h.logs x.1 x.0.at x.0.entry.event)
      (λ x. IsCaused h.logs (untimed (earlier x.1 all)) x.0) (lists k)
      (λ x known. known_causes places lists within here x.1 h.logs x.0.at x.0.entry.event
      known) (timed.known k l))

  -- and of each two, whichever isn't later may come before the other
  kept : Pairs Either all
  kept = pairs_joined Either lists places
      (λ k l. pairs_by_position Either (lists k) (λ i m x y e f less. (
        timed.kept k k i m x y l l e f (λ s. let same = s.1 in omega (arith, same)),
        timed.kept k k m i y x l l f e (λ s. let same = s.1 in omega (arith, same)),
      )))
      (λ k j less l. each_by_position (λ x. EachIs (Either x) (lists j)) (lists k)
      (λ i x e. each_by_position (Either x) (lists j) (λ m y f. (
        timed.kept k j i m x y (omega arith) l e f
            (λ s. let same = s.0 in omega (arith, same)),
        timed.kept j k m i y x l (omega arith) f e
            (λ s. let same = s.0 in omega (arith, same)),
      ))))

  -- so the times are those of clocks
  pub lists_have_clocks : HasClocks h
  lists_have_clocks = (
    all,
    record {
      same = λ queue.
          history_of_all places lists queue (within queue) here ∙ sym (timed.same queue);
      times = record {
        rise = rise_joined places lists here (λ k l. (timed.each k l).rise);
        caused = caused;
        kept = kept;
      };
    },
  )

  -- and there is one order
  pub lists_have_order : HasTotalOrder h
  lists_have_order = order_of h lists_have_clocks
