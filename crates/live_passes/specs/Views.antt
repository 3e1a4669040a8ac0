-- The passes of a plane as a run with threads knows them: what each has seen, place by place, each
-- entry marked as its own or not.
use Rattle.std.specs.Prelude.{◌≡◌, ◌++◌, ℕ, List, [], map, slice_get, Option, Some, None}
use Rattle.packet_entry.specs.declared.letter.Letter.{Letter}
use Rattle.mailbox.specs.declared.view.Post.{Post}
use Rattle.histories.specs.declared.entry.Entry.{Entry}
use Rattle.histories.specs.History.{AreLegal}
use Rattle.histories.specs.declared.log.Did.{Did}
use Rattle.turn_lock.specs.Views.{HasSeenOwn}
use Rattle.place_rows.specs.Rows.{Known}
use Rattle.plane.specs.Passes.{FeederView, PortView}
use Rattle.live_runs.specs.Locks.{marked}
use Rattle.live_runs.specs.Passes.{Pass}
use Rattle.live_runs.specs.Seen.{Seen, Shares, all_theirs, entries}

-- what is known of a place; nothing of one that there isn't
abbrev pub seen_of : Option Known → List Seen
seen_of None = []
seen_of (Some v) = marked v.own v.seen

abbrev pub shares_of : List Known → Shares
shares_of known k = seen_of (slice_get known k)

-- the pass of a port that did this and received these
abbrev pub pass_with : List Did → List Letter → List Known → Pass
pass_with dids letters known =
    record { dids = dids; letters = letters; shares = shares_of known }

abbrev pub port_pass : PortView → Pass
port_pass p =
    pass_with p.dids (map (λ (post : Post). post.letter) p.receiver.received) p.trail.known

-- the feeder's pass did nothing that is logged, and received nothing
abbrev pub feeder_pass : FeederView → Pass
feeder_pass p = pass_with [] [] p.trail.known

-- a pass's own entries are where its places say it, and what it has seen is legal
pub record HaveSeenOwn (known : List Known) : Type 0 where
  pub placed : (k : ℕ) (v : Known) → slice_get known k ≡ Some v → HasSeenOwn v
  pub legal : (k : ℕ) (v : Known) → slice_get known k ≡ Some v → AreLegal v.seen

-- A pass has met others at a place: it has seen this list, and what is new of it isn't its own.
pub record HasMetAt (k : ℕ) (list : List Entry) (old new : List Known) : Type 0 where
  pub rest : List Entry
  pub longer : shares_of new k ≡ shares_of old k ++ all_theirs rest
  pub met : entries (shares_of new k) ≡ list
