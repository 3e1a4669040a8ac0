-- For proofs alone: the walk along a port's log, as the code holds it.
use Rattle.std.specs.Prelude.{◌≡◌, ◌++◌, ℕ, Bool, true, false, List, map, Option, Some, None}
use Rattle.std.specs.Prelude.{option_map}
use Rattle.packet_entry.specs.declared.letter.Letter.{Letter}
use Rattle.nfqa_msgs.specs.declared.notice.Notice.{Notice}
use Rattle.nfqa_msgs.specs.NoticeMeaning.{notice_of}
use Rattle.histories.specs.declared.log.Did.{Did}
use Rattle.inspector_script.specs.Scripts.{ScriptValue}
use Rattle.nfqa_msgs.specs.NoticeTexts.{told_exactly}
use Rattle.port_audit.specs.Kinds.{kind_of}
use Rattle.packet_moves.specs.Calls.{after_this}
use Rattle.nfqa_msgs.specs.declared.request.Decoded.{Decoded}
use Rattle.run_parts.specs.Order.{Kind, Opens, Answers}
use Rattle.log_audit.specs.Walking.{Known, Walk, Timed, GoesOn, walked, IsWalked, ended, timed_by}
use Rattle.log_audit.specs.Walking.{AllGoOn, walked_all}
use Rattle.log_audit.specs.Dues.{AreHeld, dues_of}
use Rattle.log_audit.specs.declared.port_walk.PortWalk.{PortWalk}
use Rattle.port_audit.specs.declared.kinds.KindAt.{KindAt}

abbrev pub timed_of : KindAt → Timed
timed_of k = record { queue = k.queue; kind = kind_of k.kind }

-- where the walk is
abbrev pub walk_of : PortWalk → Walk
walk_of w =
    record {
      owed = dues_of w.owed;
      ends = dues_of w.ends;
      call = w.call;
      received = w.received;
      heard = w.heard;
      is_open = w.is_open;
      timed = map timed_of w.timed.items;
    }

pub record IsHeld (w : PortWalk) : Type 0 where
  pub owed : AreHeld w.owed
  pub ends : AreHeld w.ends

-- a notice that is told is the one that is known
abbrev pub IsTold : Option Letter → Option Notice → Type 0
IsTold None None = Unit {0}
IsTold None (Some notice) = ⊥
IsTold (Some l) None = ⊥
IsTold (Some l) (Some notice) = option_map notice_of (told_exactly l.bytes) ≡ Some notice

-- the walk goes on over an entry; or the port couldn't do that next
abbrev pub Steps : Known → ScriptValue → ℕ → ℕ → Did → Walk → Walk → Bool → Type 0
Steps known script place port did old new true =
    GoesOn known port old did × (new ≡ walked known script place port old did)
Steps known script place port did old new false = GoesOn known port old did → ⊥

-- the log can be walked, with these requests; or it can't
abbrev pub IsWalkedWith : Known → ScriptValue → ℕ → ℕ → List Did → Option (List KindAt) → Type 0
IsWalkedWith known script place port dids None = IsWalked known script place port dids → ⊥
IsWalkedWith known script place port dids (Some kinds) =
    IsWalked known script place port dids
    × (map timed_of kinds ≡ (ended known script place port dids).timed)

-- the walk goes on over all of these entries; or the port couldn't do one of them
abbrev pub GoesOver : Known → ScriptValue → ℕ → ℕ → List Did → Walk → Walk → Bool → Type 0
GoesOver known script place port dids old new true =
    AllGoOn known script place port old dids
    × (new ≡ walked_all known script place port old dids)
GoesOver known script place port dids old new false =
    AllGoOn known script place port old dids → ⊥

-- when a message is sent that is owed
abbrev pub owed_kind : Bool → Kind
owed_kind true = Answers
owed_kind false = Opens

-- a message is counted that was sent then, and is kept where it is a request
pub record Counts (kind : Kind) (d : Decoded) (old new : PortWalk) : Type 0 where
  pub owed : new.owed ≡ old.owed
  pub ends : new.ends ≡ old.ends
  pub call : new.call ≡ after_this old.call
  pub received : new.received ≡ old.received
  pub heard : new.heard ≡ old.heard
  pub is_open : new.is_open ≡ old.is_open
  pub timed : map timed_of new.timed.items ≡ map timed_of old.timed.items ++ timed_by kind d
