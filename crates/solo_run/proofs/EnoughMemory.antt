-- Memory that is enough: where no packet is lost, all is as with memory for 33 arrivals.
use Rattle.std.proofs.Common.{◌≡◌, ◌≢◌, ◌≤◌, ◌<◌, ◌⊎◌, ◌+◌, ◌∙◌, ℕ, zero, suc, List, [], ◌∷◌, ◌++◌}
use Rattle.std.proofs.Common.{Option, Some, None, Bool, true, false, refl, sym, ap, subst, inl, inr}
use Rattle.std.proofs.Common.{arith, cond}
use Rattle.std.proofs.lemmas.Bool.Decides.{nat_tests}
use Rattle.std.proofs.lemmas.List.Sums.{sum_by-cons}
use Rattle.packet_entry.specs.declared.packet.Card.{Card}
use Rattle.packet_entry.specs.Numbers.{last_visit}
use Rattle.netlink_codec.specs.Messages.{NetlinkMessage}
use Rattle.hook_chain.specs.declared.chain.Decision.{Decision}
use Rattle.hook_chain.specs.declared.chain.Next.{Next}
use Rattle.hook_chain.specs.declared.chain.Next.TheVariants.{Released, To}
use Rattle.hook_chain.specs.Route.{onward_of}
use Rattle.nfqa_msgs.specs.declared.request.Decoded.{Decoded}
use Rattle.nfqa_msgs.specs.declared.request.Decoded.TheVariants.{Nothing, Refused, Asked}
use Rattle.nfqa_msgs.specs.RequestReading.{decoded}
use Rattle.nfqa_msgs.specs.RequestWriting.{spelled}
use Rattle.queue_core.specs.State.{Bound}
use Rattle.nfqa_msgs.specs.declared.request.Request.{Request}
use Rattle.queue_core.specs.declared.event.Event.TheVariants.{Arrive, Ask}
use Rattle.queue_core.specs.Step.{Way, Gone, Open, step}
use Rattle.queue_core.specs.Laws.{times, waiting_in}
use Rattle.histories.specs.declared.histories.Lost.{Lost}
use Rattle.histories.specs.declared.log.Did.TheVariants.{Sent}
use Rattle.histories.specs.States.{state_of}
use Rattle.histories.specs.Happenings.{all_handed, queue_of}
use Rattle.packet_moves.specs.declared.setting.Setting.{Setting}
use Rattle.packet_moves.specs.World.{World, at_port, having_done}
use Rattle.packet_moves.specs.Moving.{Carried, carry, carry_on, settled, goes_on, route_after}
use Rattle.packet_moves.specs.Moving.{arrival_to, arrived, turned_away, room_for, CarriesAll}
use Rattle.packet_moves.specs.Messages.{CarriesOut, IsSent, Sends, call_at, words_of, answered}
use Rattle.packet_moves.specs.Messages.{asking, with_ask}
use Rattle.packet_moves.specs.HandedOn.{is_out_of_time, AreInTime, LeavesAlone, WaitInTime}
use Rattle.solo_schedule.specs.Numbers.{enough_arrivals}
use Rattle.solo_schedule.specs.Sending.{all_moved, carried_out, errno_of, sent}
use Rattle.run_parts.specs.Requests.{errno_in}
use Rattle.solo_plane.specs.Requests.{SendsRequest}
use Rattle.solo_run.specs.RunState.{SendsFirst, request_sent}

-- ---- what is lost stays lost

no_more : (xs : List Lost) (x : Lost) → xs ++ x ∷ [] ≡ [] → ⊥
no_more [] x is = cc
no_more (y ∷ ys) x is = cc

abbrev IsKept : (World → Card → Next → Carried) → Type 0
IsKept on = (w : World) (card : Card) (route : Next) → (on w card route).world.lost ≡ [] →
    w.lost ≡ []

on_kept : (on : World → Card → Next → Carried) → IsKept on → (w : World) (card : Card)
    (route : Option Next) → (goes_on (on w card) w route).world.lost ≡ [] → w.lost ≡ []
on_kept on kept w card None is = is
on_kept on kept w card (Some route) is = kept w card route is

settled_kept : (on : World → Card → Next → Carried) → IsKept on → (s : Setting) (w : World)
    (left : List (Card × Way)) → (settled on s w left).world.lost ≡ [] → w.lost ≡ []
settled_kept on kept s w [] is = is
settled_kept on kept s w (l ∷ ls) is = on_kept on kept w l.0 (route_after s l) is

carry_kept : (memory : ℕ) (s : Setting) → IsKept (carry memory s)
carry_kept zero s w card Released is = is
carry_kept zero s w card (To queue bypass table) is = absurd (no_more w.lost _ is)
carry_kept (suc memory) s w card Released is = is
carry_kept (suc memory) s w card (To queue bypass table) is =
    let a = arrival_to queue bypass table card in
    settled_kept (carry memory s) (carry_kept memory s) s (arrived s w a) (turned_away s w a) is

-- ---- enough memory

-- what may go on goes on alike
abbrev AreAlike : (on more : World → Card → Next → Carried) → World → Card → Type 0
AreAlike on more w card = (route : Next) → card.visit < last_visit →
    (on w card route).world.lost ≡ [] → on w card route ≡ more w card route

on_alike : (on more : World → Card → Next → Carried) (w : World) (card : Card)
    (route : Option Next) → AreAlike on more w card → card.visit < last_visit →
    (goes_on (on w card) w route).world.lost ≡ [] →
    goes_on (on w card) w route ≡ goes_on (more w card) w route
on_alike on more w card None alike early is = refl
on_alike on more w card (Some route) alike early is = alike route early is

settled_alike : (on more : World → Card → Next → Carried) (s : Setting) (w : World) (card : Card)
    (left : List (Card × Way)) → card.visit ≤ last_visit →
    (left ≡ []) ⊎ ((way : Way) × (left ≡ (card, way) ∷ [])
    × ((way ≡ Gone) ⊎ ((way ≡ Open) × (card.visit ≢ last_visit)))) →
    AreAlike on more w card → (settled on s w left).world.lost ≡ [] →
    settled on s w left ≡ settled more s w left
settled_alike on more s w card left last (inl none) alike is =
    ap (settled on s w) none ∙ sym (ap (settled more s w) none)
settled_alike on more s w card left last (inr (way, one, how)) alike is =
    ap (settled on s w) one ∙ by_way way how (subst (λ (l : List (Card × Way)).
    (settled on s w l).world.lost ≡ []) one is)
    ∙ sym (ap (settled more s w) one)
  where
    by_way : (way : Way) → (way ≡ Gone) ⊎ ((way ≡ Open) × (card.visit ≢ last_visit)) →
        (goes_on (on w card) w (route_after s (card, way))).world.lost ≡ [] →
        goes_on (on w card) w (route_after s (card, way))
        ≡ goes_on (more w card) w (route_after s (card, way))
    by_way way (inl gone) is =
        ap (λ (y : Way). goes_on (on w card) w (route_after s (card, y))) gone
        ∙ sym (ap (λ (y : Way). goes_on (more w card) w (route_after s (card, y))) gone)
    by_way way (inr (opened, apart)) is =
        on_alike on more w card (route_after s (card, way)) alike (omega (arith, apart, last)) is

-- what the plane's law says of what goes on (`what_goes_on_is_in_time`)
pub record GoesOnInTime : Type 0 where
  pub arrival : (q : Option Bound) (card : Card) (bypass room : Bool) →
      LeavesAlone card (step q (Arrive card bypass room))
  pub request : (q : Option Bound) (port call : ℕ) (request : Request) →
      times (λ number visit. is_out_of_time visit) (waiting_in q) ≡ 0 →
      AreInTime (all_handed (step q (Ask port call request)).left)

pub carry_enough : GoesOnInTime → (memory more : ℕ) (s : Setting) (w : World)
    (card : Card) (route : Next) →
    card.visit < last_visit → last_visit ≤ card.visit + more →
    (carry memory s w card route).world.lost ≡ [] →
    carry memory s w card route ≡ carry more s w card route
carry_enough laws zero zero s w card route early enough is = absurd (omega (arith, early, enough))
carry_enough laws (suc memory) zero s w card route early enough is =
    absurd (omega (arith, early, enough))
carry_enough laws zero (suc more) s w card Released early enough is = refl
carry_enough laws zero (suc more) s w card (To queue bypass table) early enough is =
    absurd (no_more w.lost _ is)
carry_enough laws (suc memory) (suc more) s w card Released early enough is = refl
carry_enough laws (suc memory) (suc more) s w card (To queue bypass table) early enough is =
    let a = arrival_to queue bypass table card in
    settled_alike (carry memory s) (carry more s) s (arrived s w a) a.card (turned_away s w a)
    (omega (arith, early))
    (laws.arrival (state_of w.entries queue) a.card bypass (room_for s w a))
    (λ next sooner whole.
    carry_enough laws memory more s (arrived s w a) a.card next sooner
    (omega (arith, enough)) whole)
    is

-- ---- packets that a request lets go on

abbrev once : Bool → ℕ
once b = cond b 1 0

once_0 : (b : Bool) → once b ≡ 0 → b ≡ false
once_0 true is = absurd (omega (arith, is))
once_0 false is = refl

visit_in_time : (visit : ℕ) → is_out_of_time visit ≡ false → visit < last_visit
visit_in_time visit is = grind (arith, nat_tests)

one_alike : GoesOnInTime → (memory : ℕ) (s : Setting) (w : World)
    (card : Card) (route : Option Next) →
    card.visit < last_visit → (carry_on memory s w card route).world.lost ≡ [] →
    carry_on memory s w card route ≡ carry_on enough_arrivals s w card route
one_alike laws memory s w card route early is =
    on_alike (carry memory s) (carry enough_arrivals s) w card route
    (λ next sooner whole.
    carry_enough laws memory enough_arrivals s w card next sooner (omega arith) whole)
    early is

pub all_enough : GoesOnInTime → (s : Setting) (hs : List (Card × Decision))
    (w after : World) → AreInTime hs →
    CarriesAll s hs w after → after.lost ≡ [] → (w.lost ≡ []) × (after ≡ all_moved s hs w)
all_enough laws s [] w after in_time carries whole =
    (ap (λ (v : World). v.lost) (sym carries) ∙ whole, carries)
all_enough laws s (h ∷ hs) w after in_time (memory, carries) whole =
    let both = sum_by-cons (λ (g : Card × Decision). once (is_out_of_time g.0.visit)) h hs in
    let first : once (is_out_of_time h.0.visit) ≡ 0 = omega (arith, both, in_time) in
    let rest : AreInTime hs = omega (arith, both, in_time) in
    let early = visit_in_time h.0.visit (once_0 _ first) in
    let route = onward_of s.tables s.key h.0 h.1 in
    let mid = carry_on memory s w h.0 route in
    let later = all_enough laws s hs mid.world after rest carries whole in (
      on_kept (carry memory s) (carry_kept memory s) w h.0 route later.0,
      later.1 ∙ ap (λ (c : Carried). all_moved s hs c.world)
          (one_alike laws memory s w h.0 route early later.0),
    )

-- ---- messages

out_enough : (s : Setting) (port call : ℕ) (d : Decoded) (old between : World) (errno : ℕ) →
    GoesOnInTime → WaitInTime old.entries →
    CarriesOut s port call d old between errno → between.lost ≡ [] →
    (between ≡ carried_out s port call d old) × (errno ≡ errno_of port call d old)
out_enough s port call Nothing old between errno laws wait is whole = (is.1, is.0)
out_enough s port call (Refused refusal) old between errno laws wait is whole = (is.1, is.0)
out_enough s port call (Asked request) old between errno laws wait is whole =
    let q = state_of old.entries (queue_of request) in (
      (all_enough laws s (all_handed (asking old port call request).left)
          (with_ask old port call request) between
          (laws.request q port call request (wait (queue_of request))) is.moved whole).1,
      sym (ap errno_in is.reply),
    )

sent_enough : (s : Setting) (port : ℕ) (m : NetlinkMessage) (old new : World)
    (before after : List ℕ) → GoesOnInTime →
    WaitInTime old.entries → IsSent s port m old new before after → new.lost ≡ [] →
    new ≡ sent s port m old
sent_enough s port m old new before after laws wait is whole =
    let call = call_at (old.ports port) in
    let d = decoded m in
    let out = out_enough s port call d old is.between is.errno laws wait is.carried_out
    (ap (λ (v : World). v.lost) (sym is.logged) ∙ whole) in
    is.logged
    ∙ ap (λ (errno : ℕ). at_port port (having_done (Sent call (words_of port call m.whole d)
    (answered m errno))) is.between) out.1
    ∙ ap (at_port port (having_done (Sent call (words_of port call m.whole d)
    (answered m (errno_of port call d old))))) out.0

pub sends_enough : (s : Setting) (port : ℕ) (front : Option (NetlinkMessage × ℕ))
    (old new : World) (before after : List ℕ) (used : ℕ) →
    GoesOnInTime → WaitInTime old.entries →
    Sends s port front old new before after used → new.lost ≡ [] →
    SendsFirst s port front old new used
sends_enough s port None old new before after used laws wait is whole = (is.0, is.1)
sends_enough s port (Some (m, n)) old new before after used laws wait is whole =
    (is.0, sent_enough s port m old new before after laws wait is.1 whole)

pub request_enough : (s : Setting) (port : ℕ) (request : Request) (old new : World)
    (before : List ℕ) → GoesOnInTime → WaitInTime old.entries →
    SendsRequest s port request old new → new.lost ≡ [] → new ≡ request_sent s port request old
request_enough s port request old new before laws wait is whole =
    sent_enough s port (spelled port (call_at (old.ports port)) request) old new before
    (is before).0 laws wait (is before).1 whole
