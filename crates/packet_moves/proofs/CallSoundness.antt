-- Each call keeps histories legal and sound.
use Rattle.std.proofs.Common.{◌≡◌, ◌+◌, ℕ, suc, List, [], ◌++◌, Option, Some, None}
use Rattle.std.proofs.Common.{sym, ap, subst, arith}
use Rattle.packet_entry.specs.declared.packet.Card.{Card}
use Rattle.netlink_codec.specs.Messages.{NetlinkMessage}
use Rattle.nfqa_msgs.specs.declared.request.Decoded.{Decoded}
use Rattle.nfqa_msgs.specs.declared.request.Decoded.TheVariants.{Nothing, Refused, Asked}
use Rattle.nfqa_msgs.specs.RequestReading.{decoded}
use Rattle.queue_core.specs.declared.event.Event.TheVariants.{Ask}
use Rattle.histories.specs.States.{state_of}
use Rattle.histories.specs.Happenings.{queue_of}
use Rattle.histories.specs.Journeys.{Arrival, asked_by}
use Rattle.histories.specs.Moves.{moves}
use Rattle.hook_chain.specs.Route.{next}
use Rattle.packet_moves.specs.declared.fed.Fed.{Fed}
use Rattle.packet_moves.specs.declared.setting.Setting.{Setting}
use Rattle.packet_moves.specs.World.{World}
use Rattle.packet_moves.specs.Moving.{Carried}
use Rattle.packet_moves.specs.Planes.{IsFed, entered}
use Rattle.packet_moves.specs.Messages.{CarriesOut, IsSent, Sends, call_at}
use Rattle.packet_moves.specs.Soundness.{IsSound}
use Rattle.packet_moves.proofs.LowerLaws.{Laws}
use Rattle.packet_moves.proofs.OnwardCounts.{handed_in_time}
use Rattle.packet_moves.proofs.MoveSoundness.{carry_keeps}
use Rattle.packet_moves.proofs.RequestSoundness.{asked_keeps}
use Rattle.packet_moves.proofs.VisitNumbers.{wait_in_time}

pub fed_keeps : Laws → (s : Setting) (old new : World) (card : Card) (fed : Fed) →
    card.visit ≡ 0 → IsFed s old card new fed → IsSound s [] old → IsSound s [] new
fed_keeps laws s old new card fed fresh is sound =
    let route = next s.tables s.key card 1 in
    let first : asked_by route card 1 ≡ asked_by route card (card.visit + 1) =
    ap (λ n. asked_by route card (n + 1)) (sym fresh) in
    let owes : IsSound s (asked_by route card 1 ++ []) (entered old card) = record {
      legal = sound.legal;
      sound = laws.enters s.tables s.key card [] old.fed (moves old.entries) old.lost sound.sound;
    } in
    subst (λ (c : Carried). IsSound s [] c.world) is.moved
    (carry_keeps laws s (suc is.memory) (entered old card) card route [] (omega (arith, fresh))
    (omega arith) (subst (λ (l : List Arrival). IsSound s (l ++ []) (entered old card)) first owes))

out_keeps : Laws → (s : Setting) (port call : ℕ) (d : Decoded) (old between : World)
    (errno : ℕ) → CarriesOut s port call d old between errno → IsSound s [] old →
    IsSound s [] between
out_keeps laws s port call Nothing old between errno (is, same) sound =
    subst (λ (w : World). IsSound s [] w) (sym same) sound
out_keeps laws s port call (Refused refusal) old between errno (is, same) sound =
    subst (λ (w : World). IsSound s [] w) (sym same) sound
out_keeps laws s port call (Asked request) old between errno asked sound =
    asked_keeps laws s port call request old between errno
    (handed_in_time (state_of old.entries (queue_of request)) port call request
    (laws.conserves (state_of old.entries (queue_of request)) (Ask port call request))
    (wait_in_time laws old.entries sound.legal (queue_of request))) asked sound

sent_keeps : Laws → (s : Setting) (port : ℕ) (m : NetlinkMessage) (old new : World)
    (before after : List ℕ) → IsSent s port m old new before after → IsSound s [] old →
    IsSound s [] new
sent_keeps laws s port m old new before after is sound =
    let out = out_keeps laws s port (call_at (old.ports port)) (decoded m) old is.between is.errno
    is.carried_out sound in
    subst (λ (w : World). IsSound s [] w) (sym is.logged)
    (record { legal = out.legal; sound = out.sound })

pub sends_keep : Laws → (s : Setting) (port : ℕ) (front : Option (NetlinkMessage × ℕ))
    (old new : World) (before after : List ℕ) (used : ℕ) →
    Sends s port front old new before after used → IsSound s [] old → IsSound s [] new
sends_keep laws s port None old new before after used is sound =
    subst (λ (w : World). IsSound s [] w) (sym is.1) sound
sends_keep laws s port (Some (m, n)) old new before after used is sound =
    sent_keeps laws s port m old new before after is.1 sound
