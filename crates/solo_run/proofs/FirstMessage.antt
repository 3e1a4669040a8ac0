-- The first message of some bytes, once it is sent.
use Rattle.std.proofs.Common.{◌≡◌, ◌<◌, ◌≤◌, ℕ, List, [], ◌∷◌, length, Option, Some, None}
use Rattle.std.proofs.Common.{refl, sym, ap, subst, arith}
use Rattle.std.proofs.lemmas.Bool.Decides.{nat_tests}
use Rattle.netlink_codec.specs.Messages.{NetlinkMessage, first_message}
use Rattle.nfqa_msgs.specs.declared.request.Request.{Request}
use Rattle.nfqa_msgs.specs.RequestWriting.{spelled}
use Rattle.histories.specs.declared.histories.Lost.{Lost}
use Rattle.inspector_script.specs.Scripts.{ScriptValue}
use Rattle.packet_moves.specs.declared.setting.Setting.{Setting}
use Rattle.packet_moves.specs.World.{World}
use Rattle.packet_moves.specs.Messages.{call_at}
use Rattle.packet_moves.specs.Soundness.{IsSound}
use Rattle.solo_run.specs.RunState.{IsGoing, Keeps, SendsFirst, request_sent}
use Rattle.solo_run.specs.declared.inspector.Inspector.{Inspector}
use Rattle.solo_run.proofs.Minds.{Leaves, leaves_it, sent_leaves}
use Rattle.solo_run.proofs.RunProgress.{goes_same}

-- ---- what it uses

-- a message uses a byte at least, and no more than there are
pub first_uses : (bytes : List ℕ) (m : NetlinkMessage) (n : ℕ) →
    first_message bytes ≡ Some (m, n) → (0 < n) × (n ≤ length bytes)
unfolding first_message
first_uses bytes m n is = grind (arith, nat_tests, is)

-- where no byte is left, none stands there
pub none_first : (s : Setting) (port : ℕ) (bytes : List ℕ) (front : Option (NetlinkMessage × ℕ))
    (w : World) → first_message bytes ≡ front → length bytes ≡ 0 → SendsFirst s port front w w 0
none_first s port bytes None w is none = (refl, refl)
none_first s port bytes (Some (m, n)) w is none =
    let uses = first_uses bytes m n is in absurd (omega (arith, uses.0, uses.1, none))

-- ---- what it leaves

sends_leave : (s : Setting) (port : ℕ) (front : Option (NetlinkMessage × ℕ)) (old new : World)
    (used : ℕ) → SendsFirst s port front old new used → Leaves old new
sends_leave s port None old new used is =
    subst (λ (v : World). Leaves old v) (sym is.1) (leaves_it old)
sends_leave s port (Some (m, n)) old new used is =
    subst (λ (v : World). Leaves old v) (sym is.1) (sent_leaves s port m old)

pub leaves_open : (old new : World) → Leaves old new → Keeps old new
leaves_open old new leaves = record {
  fed = leaves.fed;
  open_ports = λ p. ap (λ (i : Inspector). i.is_open) (leaves.minds 0 p);
}

pub sends_keep : (s : Setting) (port : ℕ) (front : Option (NetlinkMessage × ℕ)) (old new : World)
    (used : ℕ) → SendsFirst s port front old new used → Keeps old new
sends_keep s port front old new used is =
    leaves_open old new (sends_leave s port front old new used is)

pub sends_go : (script : ScriptValue) (s : Setting) (old new : World) (minds : List Inspector)
    (port : ℕ) (front : Option (NetlinkMessage × ℕ)) (used : ℕ) →
    SendsFirst s port front old new used → new.lost ≡ [] → IsSound s [] new →
    IsGoing script s old minds → IsGoing script s new minds
sends_go script s old new minds port front used sends whole sound going =
    goes_same script s old new minds going whole sound
    (sends_leave s port front old new used sends).minds

-- ---- a request

pub request_keeps : (s : Setting) (port : ℕ) (request : Request) (old new : World) →
    new ≡ request_sent s port request old → Keeps old new
request_keeps s port request old new is =
    let m = spelled port (call_at (old.ports port)) request in
    sends_keep s port (Some (m, 0)) old new 0 (refl, is)

pub request_goes : (script : ScriptValue) (s : Setting) (old new : World) (minds : List Inspector)
    (port : ℕ) (request : Request) → new ≡ request_sent s port request old → new.lost ≡ [] →
    IsSound s [] new → IsGoing script s old minds → IsGoing script s new minds
request_goes script s old new minds port request is whole sound going =
    let m = spelled port (call_at (old.ports port)) request in
    sends_go script s old new minds port (Some (m, 0)) 0 (refl, is) whole sound going

-- ---- nothing is lost

pub none_lost : (xs : List Lost) (n : ℕ) → n ≡ length xs → n ≤ 0 → xs ≡ []
none_lost [] n is none = refl
none_lost (x ∷ xs) n is none = absurd (omega (arith, is, none))
