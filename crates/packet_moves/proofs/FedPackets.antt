-- No call but feeding adds to the packets that were fed.
use Rattle.std.proofs.Common.{◌≡◌, ℕ, zero, suc, List, []}
use Rattle.std.proofs.Common.{◌∷◌, ◌++◌, Option, Some, None, refl, sym}
use Rattle.std.proofs.Common.{ap, ◌∙◌}
use Rattle.packet_entry.specs.declared.packet.Card.{Card}
use Rattle.netlink_codec.specs.Messages.{NetlinkMessage}
use Rattle.nfqa_msgs.specs.declared.request.Decoded.{Decoded}
use Rattle.nfqa_msgs.specs.declared.request.Decoded.TheVariants.{Nothing, Refused, Asked}
use Rattle.nfqa_msgs.specs.RequestReading.{decoded}
use Rattle.hook_chain.specs.Route.{next, onward_of}
use Rattle.hook_chain.specs.declared.chain.Decision.{Decision}
use Rattle.hook_chain.specs.declared.chain.Next.{Next}
use Rattle.hook_chain.specs.declared.chain.Next.TheVariants.{Released, To}
use Rattle.queue_core.specs.Step.{Way}
use Rattle.histories.specs.Happenings.{all_handed}
use Rattle.packet_moves.specs.declared.fed.Fed.{Fed}
use Rattle.packet_moves.specs.declared.setting.Setting.{Setting}
use Rattle.packet_moves.specs.World.{World}
use Rattle.packet_moves.specs.Moving.{Carried, arrival_to, arrived, turned_away, route_after}
use Rattle.packet_moves.specs.Moving.{settled}
use Rattle.packet_moves.specs.Moving.{carry, carry_on, CarriesAll}
use Rattle.packet_moves.specs.Planes.{IsFed, entered}
use Rattle.packet_moves.specs.Messages.{CarriesOut, Sends, call_at, asking, with_ask}

abbrev pub Same : Setting → ℕ → Type 0
Same s memory = (w : World) (card : Card) (route : Next) →
    (carry memory s w card route).world.fed ≡ w.fed

on_same : (s : Setting) (memory : ℕ) → Same s memory → (w : World) (card : Card)
    (route : Option Next) → (carry_on memory s w card route).world.fed ≡ w.fed
on_same s memory same w card None = refl
on_same s memory same w card (Some route) = same w card route

settled_same : (s : Setting) (memory : ℕ) → Same s memory → (w : World)
    (left : List (Card × Way)) → (settled (carry memory s) s w left).world.fed ≡ w.fed
settled_same s memory same w [] = refl
settled_same s memory same w (l ∷ ls) = on_same s memory same w l.0 (route_after s l)

carry_same : (s : Setting) (memory : ℕ) → Same s memory
carry_same s zero w card Released = refl
carry_same s zero w card (To queue bypass table) = refl
carry_same s (suc memory) w card Released = refl
carry_same s (suc memory) w card (To queue bypass table) =
    let a = arrival_to queue bypass table card in
    settled_same s memory (carry_same s memory) (arrived s w a) (turned_away s w a)

all_same : (s : Setting) (hs : List (Card × Decision)) (w after : World) →
    CarriesAll s hs w after → after.fed ≡ w.fed
all_same s [] w after carries = ap (λ (v : World). v.fed) carries
all_same s (h ∷ hs) w after (memory, carries) =
    let route = onward_of s.tables s.key h.0 h.1 in
    all_same s hs (carry_on memory s w h.0 route).world after carries
    ∙ on_same s memory (carry_same s memory) w h.0 route

pub fed_one : (s : Setting) (old new : World) (card : Card) (fed : Fed) →
    IsFed s old card new fed → new.fed ≡ old.fed ++ card ∷ []
fed_one s old new card fed is =
    sym (ap (λ (c : Carried). c.world.fed) is.moved)
    ∙ carry_same s (suc is.memory) (entered old card) card (next s.tables s.key card 1)

out_same : (s : Setting) (port call : ℕ) (d : Decoded) (old between : World) (errno : ℕ) →
    CarriesOut s port call d old between errno → between.fed ≡ old.fed
out_same s port call Nothing old between errno (is, same) = ap (λ (v : World). v.fed) same
out_same s port call (Refused refusal) old between errno (is, same) =
    ap (λ (v : World). v.fed) same
out_same s port call (Asked request) old between errno asked =
    all_same s (all_handed (asking old port call request).left) (with_ask old port call request)
    between asked.moved

pub sent_none : (s : Setting) (port : ℕ) (front : Option (NetlinkMessage × ℕ)) (old new : World)
    (before after : List ℕ) (used : ℕ) → Sends s port front old new before after used →
    new.fed ≡ old.fed
sent_none s port None old new before after used is = ap (λ (v : World). v.fed) is.1
sent_none s port (Some (m, n)) old new before after used (u, is) =
    ap (λ (v : World). v.fed) is.logged
    ∙ out_same s port (call_at (old.ports port)) (decoded m) old is.between is.errno is.carried_out
