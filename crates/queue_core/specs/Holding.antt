-- What holds of the packets that arrive, and stays where a request edits them, holds of those that
-- wait and of those that leave.
use Rattle.std.proofs.Common.{subst}
use Rattle.std.specs.Prelude.{ℕ, zero, suc, List, [], ◌∷◌, ◌++◌, length, map, drop}
use Rattle.std.specs.Prelude.{Option, Some, None, Bool, IfSome}
use Rattle.std.specs.List.{AllByRecursion}
use Rattle.std.specs.Map.{lookup, remove_entry}
use Rattle.packet_entry.specs.declared.packet.Card.{Card}
use Rattle.nfqa_headers.specs.declared.verdict_header.Head.{Head}
use Rattle.nfqa_msgs.specs.declared.request.Request.{Request}
use Rattle.nfqa_msgs.specs.declared.request.Request.TheVariants.{Config, Verdict, Batch}
use Rattle.queue_core.specs.declared.event.Event.{Event}
use Rattle.queue_core.specs.declared.event.Event.TheVariants.{Arrive, Ask, PortClosed, DeviceDown}
use Rattle.queue_core.specs.Ids.{after, is_id}
use Rattle.queue_core.specs.Decision.{Edit, edited}
use Rattle.queue_core.specs.State.{Bound}
use Rattle.queue_core.specs.Share.{share}
use Rattle.queue_core.specs.Step.{Stepped, Way, Gone, batch_edit, leaving, step}
use Rattle.queue_core.specs.Walk.{either, Shapes, walk_by_shape}

-- something that is known of packets
abbrev pub Property : Type 1
Property = Card → Type 0

-- an edit keeps it
abbrev pub IsKept : Property → Edit → Type 0
IsKept F edit = (c : Card) → F c → F (edited edit c)

-- what a request makes of packets keeps it
abbrev pub AskKeeps : Property → Request → Type 0
AskKeeps F (Config queue command params maximum flags mask) = Unit {0}
AskKeeps F (Verdict queue head mark payload priority) =
    IsKept F (record { mark = mark; payload = payload; priority = priority })
AskKeeps F (Batch queue head mark priority) = IsKept F (batch_edit mark priority)

-- it holds of the packet that arrives, and what is asked keeps it
abbrev pub Keeps : Property → Event → Type 0
Keeps F (Arrive card bypass room) = F card
Keeps F (Ask port call asked) = AskKeeps F asked
Keeps F (PortClosed port) = Unit {0}
Keeps F (DeviceDown device) = Unit {0}

-- it holds of all that waits, and of all that leaves
abbrev pub AllWait : Property → List (ℕ × Card) → Type 0
AllWait F ws = AllByRecursion (λ (w : ℕ × Card). F w.1) ws

abbrev pub AllLeave : Property → List (Card × Way) → Type 0
AllLeave F ls = AllByRecursion (λ (l : Card × Way). F l.0) ls

abbrev pub HoldsIn : Property → Option Bound → Type 0
HoldsIn F None = Unit {0}
HoldsIn F (Some q) = AllWait F q.waiting

abbrev pub HoldsAfter : Property → Stepped → Type 0
HoldsAfter F s = HoldsIn F s.state × AllLeave F s.left

module _ (F : Property) where
  -- ---- lists of what waits

  push_all : (ws : List (ℕ × Card)) (w : ℕ × Card) → AllWait F ws → F w.1 →
      AllWait F (ws ++ w ∷ [])
  push_all [] w all one = (one, tt)
  push_all (v ∷ vs) w all one = (all.0, push_all vs w all.1 one)

  gone_all : (ws : List (ℕ × Card)) → AllWait F ws →
      AllLeave F (map (λ (w : ℕ × Card). (w.1, Gone)) ws)
  gone_all [] all = tt
  gone_all (w ∷ ws) all = (all.0, gone_all ws all.1)

  found_all : (test : ℕ → Bool) (ws : List (ℕ × Card)) → AllWait F ws → IfSome (lookup test ws) F
  found_all test [] all = tt
  found_all test (w ∷ ws) all =
      either (λ (o : Option Card). IfSome o F) (test w.0) (Some w.1) (lookup test ws)
      (λ is. all.0) (λ no. found_all test ws all.1)

  rest_all : (test : ℕ → Bool) (ws : List (ℕ × Card)) → AllWait F ws →
      AllWait F (remove_entry test ws)
  rest_all test [] all = tt
  rest_all test (w ∷ ws) all =
      either (AllWait F) (test w.0) ws (w ∷ remove_entry test ws) (λ is. all.1)
      (λ no. (all.0, rest_all test ws all.1))

  share_all : (ws : List (ℕ × Card)) (maximum : ℕ) → AllWait F ws → AllWait F (share ws maximum)
  share_all [] maximum all = tt
  share_all (w ∷ ws) maximum all =
      either (AllWait F) (after w.0 maximum) [] (w ∷ share ws maximum) (λ is. tt)
      (λ no. (all.0, share_all ws maximum all.1))

  drop_all : (n : ℕ) (ws : List (ℕ × Card)) → AllWait F ws → AllWait F (drop n ws)
  drop_all zero ws all = all
  drop_all (suc n) [] all = tt
  drop_all (suc n) (w ∷ ws) all = drop_all n ws all.1

  leave_all : (head : Head) (edit : Edit) → IsKept F edit → (ws : List (ℕ × Card)) →
      AllWait F ws → AllLeave F (map (λ (v : ℕ × Card). leaving head edit v.1) ws)
  leave_all head edit kept [] all = tt
  leave_all head edit kept (w ∷ ws) all =
      (kept w.1 all.0, leave_all head edit kept ws all.1)

  -- ---- steps

  abbrev P : Option Bound → Event → Stepped → Type 0
  P q e s = Keeps F e → HoldsIn F q → HoldsAfter F s

  shapes : Shapes P
  shapes = record {
    leaves = λ q card bypass room o stays timely keeps held. (held, (keeps, tt));
    counts = λ b last dropped user_dropped card bypass room o stays timely keeps held.
        (held, (keeps, tt));
    joins = λ b card bypass room early had keeps held. (push_all b.waiting _ held keeps, tt);
    answered = λ q port call asked errno keeps held. (held, tt);
    ends = λ b port call queue a own keeps held. (tt, gone_all b.waiting held);
    binds = λ port call queue a settings keeps held. (tt, tt);
    sets_up = λ b port call queue a settings own keeps held. (held, tt);
    decides = λ b port call queue head edit card own found keeps held. (
      rest_all (is_id head.id) b.waiting held,
      (
        keeps card (subst (λ (o : Option Card). IfSome o F) found
            (found_all (is_id head.id) b.waiting held)),
        tt,
      ),
    );
    shares = λ b port call queue head mark priority w ws own is keeps held. (
      drop_all (length (w ∷ ws)) b.waiting held,
      leave_all head (batch_edit mark priority) keeps (w ∷ ws)
          (subst (AllWait F) is (share_all b.waiting head.id held)),
    );
    none_closed = λ port keeps held. (tt, tt);
    closes = λ b port keeps held. (tt, gone_all b.waiting held);
    none_down = λ q device keeps held. (held, tt);
    flushes = λ b device keeps held. (tt, gone_all b.waiting held);
  }

  pub holds_after : (q : Option Bound) (e : Event) → Keeps F e → HoldsIn F q →
      HoldsAfter F (step q e)
  holds_after = walk_by_shape P shapes
