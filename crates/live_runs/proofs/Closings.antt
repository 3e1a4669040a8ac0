-- Closings: each call of a port's pass keeps what stands in the histories of a port that closes.
use Rattle.std.proofs.Common.{◌++◌, ◌<◌, ◌∷◌, ◌≡◌, Bool, List, [], false, refl, subst, sym, true, ℕ}
use Rattle.queue_core.specs.declared.event.Event.{Event}
use Rattle.queue_core.specs.declared.event.Event.TheVariants.{Arrive, Ask, DeviceDown, PortClosed}
use Rattle.histories.specs.Happenings.{closings}
use Rattle.histories.specs.History.{history}
use Rattle.histories.specs.Numbers.{queue_count}
use Rattle.histories.specs.declared.entry.Entry.{Entry}
use Rattle.run_parts.specs.Closing.{IsClosing, closes, is_by, is_closing_of}
use Rattle.run_parts.specs.Underway.{AreOthers}
use Rattle.live_runs.specs.Calls.{IsTurn, ShutsAt}
use Rattle.live_runs.specs.Owners.{IsNotBy, IsShutting}
use Rattle.live_runs.specs.Seen.{EachIs, Grows, Seen, TheirsAre, entries}
use Rattle.live_runs.proofs.LowerLaws.{ClosingLaws}
use Rattle.live_runs.proofs.Marks.{each_of_both, entries_append, theirs_front, theirs_rest}
use Rattle.live_runs.proofs.Marks.{turn_entries, turn_guard, turn_others}

no_closing : (p : ℕ) (event : Event) → is_by p event ≡ false → closes p event ≡ false
no_closing p (Arrive card bypass room) is = refl
no_closing p (Ask by call request) is = refl
no_closing p (PortClosed closed) is = is
no_closing p (DeviceDown device) is = refl

others_of : (p : ℕ) (es : List Entry) → EachIs (IsNotBy p) es → AreOthers p es
others_of p [] are = tt
others_of p (e ∷ es) are = (are.0, no_closing p e.event are.0, others_of p es are.1)

pub grown_shutting : ClosingLaws → (port : ℕ) (b : Bool) (xs ys : List Seen) →
    Grows (IsNotBy port) xs ys → IsShutting port b xs → IsShutting port b ys
grown_shutting laws port b xs ys g is = record {
  closing = λ guard queue below.
      let so = subst (TheirsAre (IsNotBy port)) g.is guard in
      subst (λ (zs : List Seen). IsClosing port b (history queue (entries zs))) (sym g.is)
      (subst (λ es. IsClosing port b (history queue es)) (sym (entries_append xs g.more))
      (laws.others port queue b (entries xs) (entries g.more)
      (others_of port (entries g.more) (each_of_both (IsNotBy port) g.more g.ours
      (theirs_rest (IsNotBy port) xs g.more so)))
      (is.closing (theirs_front (IsNotBy port) xs g.more so) queue below)));
}

turn_shutting : ClosingLaws → (port : ℕ) (b c : Bool) (others mine : List Entry)
    (xs ys : List Seen) → IsTurn others mine xs ys →
    ((queue : ℕ) → queue < queue_count → IsClosing port b (history queue (entries xs ++ others)) →
    IsClosing port c (history queue ((entries xs ++ others) ++ mine))) →
    IsShutting port b xs → IsShutting port c ys
turn_shutting laws port b c others mine xs ys turn goes is = record {
  closing = λ guard queue below.
      subst (λ es. IsClosing port c (history queue es))
      (sym (turn_entries others mine xs ys turn))
      (goes queue below (laws.others port queue b (entries xs) others
      (others_of port others (turn_others (IsNotBy port) others mine xs ys turn guard))
      (is.closing (turn_guard (IsNotBy port) others mine xs ys turn guard) queue below)));
}

-- a request of a port that is open
pub asks_shutting : ClosingLaws → (port : ℕ) (others : List Entry) (e : Entry)
    (xs ys : List Seen) → IsTurn others (e ∷ []) xs ys → is_closing_of port e ≡ false →
    IsShutting port false xs →
    IsShutting port false ys
asks_shutting laws port others e xs ys turn quiet is =
    turn_shutting laws port false false others (e ∷ []) xs ys turn
    (λ queue below closing. laws.own port queue (entries xs ++ others) e quiet closing) is

-- it closes
pub shuts_shutting : ClosingLaws → (port : ℕ) (xs ys : List Seen) → ShutsAt port xs ys →
    IsShutting port false xs → IsShutting port true ys
shuts_shutting laws port xs ys s is =
    turn_shutting laws port false true s.others (closings port (entries xs ++ s.others)) xs ys
    s.turn
    (λ queue below closing. laws.closed port queue (entries xs ++ s.others) below closing) is
