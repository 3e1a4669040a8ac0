-- Where a port stands: what it owes and what its end has, beside the log that its pass has.
use Rattle.std.specs.Prelude.{◌≡◌, ℕ, Bool, true, false, List, [], ◌∷◌, ◌++◌, map, if◌then◌else◌}
use Rattle.netlink_codec.specs.Messages.{NetlinkMessage}
use Rattle.histories.specs.declared.log.Did.{Did}
use Rattle.inspector_script.specs.Scripts.{ScriptValue, opening, closing}
use Rattle.run_parts.specs.Log.{Due, Message, Standing, all_due, is_pool, is_some_due}
use Rattle.run_parts.specs.Ports.{place_in}

-- what the port owes now, the answers that wait behind a pool, what its end has, whether it is
-- open,
-- and whether it has just taken up an ask and sent none of its messages
pub record Stand : Type 0 where
  pub owed : List Due
  pub pending : List (List Due)
  pub ends : List Due
  pub is_open : Bool
  pub is_fresh : Bool

-- the same, with what the port did
abbrev pub full : List Did → Stand → Standing
full dids t = record {
  dids = dids;
  owed = t.owed;
  pending = t.pending;
  ends = t.ends;
  is_open = t.is_open;
  is_fresh = t.is_fresh;
}

-- Where what is due belongs: it is owed now, with these groups of answers waiting and this end
-- still to come; or it is of the end, while these groups wait.
pub data Side : Type 0 where
  Now : List (List Due) → List Due → Side
  AtEnd : List (List Due) → Side

-- an open port with this due
abbrev pub side : Side → List Due → Stand
side (Now groups ends) due = record {
  owed = due;
  pending = groups;
  ends = ends;
  is_open = true;
  is_fresh = false;
}
side (AtEnd groups) due = record {
  owed = [];
  pending = groups;
  ends = due;
  is_open = true;
  is_fresh = false;
}

-- the same, where an ask has just been taken up or not
abbrev pub cut_side : Side → List Due → Bool → Stand
cut_side x due fresh = record (side x due) { is_fresh = fresh }

-- it has just taken up an ask of these messages, and these are due behind them
abbrev pub cut_then : Side → List NetlinkMessage → List Due → Stand
cut_then x ms due = cut_side x (map Message ms ++ due) (is_some_due (map Message ms))

-- an open port that owes nothing, of which no answers wait
abbrev pub idle : List Due → Stand
idle ends = side (Now [] ends) []

-- a port that owed nothing and received a notice with these answers: it owes them now, and behind a
-- pool they wait
abbrev pub answering : ℕ → List (List Due) → List Due → List Due → Stand
answering workers groups ends answers =
    if is_pool workers
    then side (Now (groups ++ answers ∷ []) ends) []
    else side (Now groups ends) answers

-- a port that closed
abbrev pub shut_stand : Stand
shut_stand = record { owed = []; pending = []; ends = []; is_open = false; is_fresh = false }

-- the script's port before it opens, and once it has opened
abbrev pub unopened : ScriptValue → ℕ → Stand
unopened script port =
    let place = place_in port script.ports in
    side (Now [] (all_due (closing script place))) (all_due (opening script place))

abbrev pub opened : ScriptValue → ℕ → Stand
opened script port = idle (all_due (closing script (place_in port script.ports)))

-- nothing is left to do
pub record IsDone (t : Stand) : Type 0 where
  pub owed : t.owed ≡ []
  pub pending : t.pending ≡ []
  pub ends : t.ends ≡ []
