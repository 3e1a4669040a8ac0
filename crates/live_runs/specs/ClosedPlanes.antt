-- What a closed plane says of its passes: one list for each place, and what comes of it.
use Rattle.std.specs.Prelude.{◌≡◌, ◌<◌, ◌≤◌, ◌+◌, ℕ, zero, suc, Bool, true, List, [], ◌∷◌}
use Rattle.std.specs.Prelude.{◌++◌, length, map, filter, nat_eq, sum_by, Some, None, slice_get}
use Rattle.std.specs.List.{list_any}
use Rattle.histories.specs.declared.entry.Entry.{Entry}
use Rattle.histories.specs.declared.histories.Histories.{Histories}
use Rattle.histories.specs.declared.log.PortLog.{PortLog}
use Rattle.histories.specs.History.{history}
use Rattle.histories.specs.States.{state_of}
use Rattle.histories.specs.Numbers.{queue_count}
use Rattle.histories.specs.Letters.{letters_under, is_from}
use Rattle.histories.specs.Places.{place_for}
use Rattle.run_parts.specs.Notices.{letters_from}
use Rattle.run_parts.specs.Room.{some_lacks}
use Rattle.live_runs.specs.Seen.{Seen, Ours, Theirs, Shares, entries, EachIs}
use Rattle.live_runs.specs.Passes.{Pass, is_pass, pass_numbers, seen_at}

-- each of these entries is some pass's own
pub record AreOwned (count : ℕ → Bool) (all : ℕ → List Seen) (es : List Entry) : Type 0 where
  pub owned : (i : ℕ) (e : Entry) → slice_get es i ≡ Some e →
      (p : ℕ) × (count p ≡ true) × (slice_get (all p) i ≡ Some (Ours e))

-- the list of a place goes on from what each pass has seen there, and each of its entries is some
-- pass's own
pub record IsCovered (count : ℕ → Bool) (all : ℕ → List Seen) (whole : List Entry) : Type 0 where
  pub rest : ℕ → List Entry
  pub begins : (p : ℕ) → count p ≡ true → whole ≡ entries (all p) ++ rest p
  pub owned : AreOwned count all whole

-- ---- how many notices were sent

-- to a port, by a pass, where it has seen these and then what follows: its own entries that the
-- port's queues took
abbrev pub own_taken : ℕ → List Entry → List Seen → ℕ
own_taken port before [] = 0
own_taken port before (Ours e ∷ xs) =
    length (letters_under port (state_of before e.queue) e) + own_taken port (before ++ e ∷ []) xs
own_taken port before (Theirs e ∷ xs) = own_taken port (before ++ e ∷ []) xs

-- at so many places
abbrev pub sent_at : ℕ → Shares → ℕ → ℕ
sent_at port shares zero = 0
sent_at port shares (suc places) = own_taken port [] (shares places) + sent_at port shares places

-- by all passes
abbrev pub sent_by_all : List ℕ → ℕ → (ℕ → Pass) → ℕ → ℕ
sent_by_all ports places passes port =
    sum_by (λ p. sent_at port (passes p).shares places) (pass_numbers ports)

-- ---- the closed plane

-- the log of a port, as its pass says
abbrev pub log_by : (ℕ → Pass) → ℕ → PortLog
log_by passes p = record { port = p; dids = (passes p).dids }

-- Histories that a plane with these ports gives when it is closed, with all passes: they are those
-- of the places' lists, and the logs those of the passes. A port that received as many notices as
-- all passes sent to it has received all notices of its queues' arrivals; where one of these found
-- no room, its mailbox's worth was sent.
pub record IsClosedPlane (ports : List ℕ) (mail places : ℕ) (passes : ℕ → Pass) (h : Histories)
    : Type 0 where
  pub whole : ℕ → List Entry
  pub covered : (k : ℕ) → k < places → IsCovered (is_pass ports) (seen_at passes k) (whole k)
  pub queues : (k : ℕ) → k < places → EachIs (λ e. e.queue < queue_count) (whole k)
  pub same : (queue : ℕ) → history queue h.entries ≡ history queue (whole (place_for queue places))
  pub logs : h.logs ≡ map (log_by passes) ports
  pub all : (port queue : ℕ) → list_any (nat_eq port) ports ≡ true →
      sent_by_all ports places passes port ≡ length (passes port).letters →
      letters_from port None (history queue h.entries)
      ≡ filter (is_from queue) (passes port).letters
  pub room : (port queue : ℕ) → list_any (nat_eq port) ports ≡ true →
      some_lacks port None (history queue h.entries) ≡ true →
      mail ≤ sent_by_all ports places passes port
