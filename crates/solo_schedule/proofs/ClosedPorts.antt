-- Closings: each move keeps what stands in the histories of ports that closed.
use Rattle.std.proofs.Common.{◌≡◌, ◌⊎◌, ◌∙◌, ◌<◌, ℕ, List, [], ◌∷◌, ◌++◌, Option, Some, None}
use Rattle.std.proofs.Common.{Bool, true, false, refl, sym, ap, subst, inl, inr}
use Rattle.std.specs.Prelude.{◌==◌, not, if◌then◌else◌, option_map}
use Rattle.std.proofs.lemmas.Bool.{cases_Bool, eqb-true}
use Rattle.packet_entry.specs.declared.letter.Letter.{Letter}
use Rattle.packet_entry.specs.declared.packet.Card.{Card}
use Rattle.nfqa_msgs.specs.declared.request.Decoded.{Decoded}
use Rattle.nfqa_msgs.specs.declared.request.Decoded.TheVariants.{Nothing, Refused, Asked}
use Rattle.nfqa_msgs.specs.RequestReading.{decoded}
use Rattle.queue_core.specs.State.{Bound}
use Rattle.queue_core.specs.Step.{Way}
use Rattle.queue_core.specs.declared.event.Event.TheVariants.{Ask}
use Rattle.histories.specs.declared.entry.Entry.{Entry}
use Rattle.histories.specs.declared.log.Did.TheVariants.{Sent}
use Rattle.histories.specs.Numbers.{queue_count}
use Rattle.histories.specs.History.{history}
use Rattle.histories.specs.Journeys.{Arrival}
use Rattle.histories.specs.States.{entry_of, state_of, every_number}
use Rattle.histories.specs.Happenings as happening
use Rattle.packet_moves.specs.declared.setting.Setting.{Setting}
use Rattle.packet_moves.specs.World.{World, Port, received, received_from, having_done, closed}
use Rattle.packet_moves.specs.World.{changed_at, delivered}
use Rattle.packet_moves.specs.Moving.{arrived, room_for, with_notice, left_at_once}
use Rattle.packet_moves.specs.Messages.{asking, with_ask, words_of, answered}
use Rattle.solo_schedule.specs.Sending.{carried_out, errno_of}
use Rattle.solo_schedule.specs.Schedule.{is_open_port}
use Rattle.run_parts.specs.Closing.{IsClosing, is_closing_of}
use Rattle.solo_schedule.proofs.OnwardPackets.{all_moved_keeps}
use Rattle.solo_schedule.proofs.DueMessages.{Keeps}
use Rattle.run_parts.specs.Underway.{AreOthers}
use Rattle.solo_schedule.proofs.Closings.{Laws, others_all, closing_others, down_others}

-- whether a port is there and has closed
abbrev pub is_shut : Option Port → Bool
is_shut None = false
is_shut (Some p) = p.is_closed

pub record AreShut (es : List Entry) (ports : ℕ → Option Port) : Type 0 where
  pub each : (p queue : ℕ) → queue < queue_count →
      IsClosing p (is_shut (ports p)) (history queue es)

same_shut : (o : Option Port) (g : Port → Port) →
    ((held : Port) → (g held).is_closed ≡ held.is_closed) → is_shut (option_map g o) ≡ is_shut o
same_shut None g same = refl
same_shut (Some p) g same = same p

pub not_shut : (o : Option Port) → is_open_port o ≡ true → is_shut o ≡ false
not_shut None is = refl
not_shut (Some p) is = by p.is_closed is
  where
    by : (c : Bool) → not c ≡ true → c ≡ false
    by true wrong = sym wrong
    by false is = refl

-- a port does something that leaves it open or closed
pub ports_then : (es : List Entry) (ports : ℕ → Option Port) (port : ℕ) (g : Port → Port) →
    ((held : Port) → (g held).is_closed ≡ held.is_closed) → AreShut es ports →
    AreShut es (changed_at port g ports)
ports_then es ports port g same is = record {
  each = λ p queue below. subst (λ b. IsClosing p b (history queue es)) (by p (p == port))
      (is.each p queue below);
}
  where
    by : (p : ℕ) (c : Bool) →
        is_shut (ports p) ≡ is_shut (if c then option_map g (ports p) else ports p)
    by p true = sym (same_shut (ports p) g same)
    by p false = refl

others_shut : Laws → (es fs : List Entry) (ports : ℕ → Option Port) → ((p : ℕ) → AreOthers p fs) →
    AreShut es ports → AreShut (es ++ fs) ports
others_shut laws es fs ports others is = record {
  each = λ p queue below. laws.others p queue (is_shut (ports p)) es fs (others p)
      (is.each p queue below);
}

notice_shut : (es : List Entry) (o : Option Bound) (a : Arrival) (left : List (Card × Way))
    (ports : ℕ → Option Port) → AreShut es ports → AreShut es (with_notice o a left ports)
notice_shut es None a left ports is = is
notice_shut es (Some b) a (l ∷ ls) ports is = is
notice_shut es (Some b) a [] ports is =
    ports_then es ports b.port (delivered _) (λ held. refl) is

arrival_shut : Laws → (s : Setting) (w : World) (a : Arrival) → AreShut w.entries w.ports →
    AreShut (arrived s w a).entries (arrived s w a).ports
arrival_shut laws s w a is =
    let room = room_for s w a in
    let e = entry_of w.entries a.queue (happening.arrive a room) in
    notice_shut (w.entries ++ e ∷ []) (state_of w.entries a.queue) a (left_at_once w a room) w.ports
    (others_shut laws w.entries (e ∷ []) w.ports (λ p. (refl, refl, tt)) is)

-- a request of an open port
pub asked_shut : Laws → (es : List Entry) (ports : ℕ → Option Port) (port : ℕ) (e : Entry) →
    is_open_port (ports port) ≡ true → ((p : ℕ) → is_closing_of p e ≡ false) →
    ((p : ℕ) → (p == port) ≡ false → AreOthers p (e ∷ [])) → AreShut es ports →
    AreShut (es ++ e ∷ []) ports
asked_shut laws es ports port e op quiet others is = record {
  each = λ p queue below. by p queue (is.each p queue below) (cases_Bool (p == port));
}
  where
    by : (p queue : ℕ) → IsClosing p (is_shut (ports p)) (history queue es) →
        ((p == port) ≡ true) ⊎ ((p == port) ≡ false) →
        IsClosing p (is_shut (ports p)) (history queue (es ++ e ∷ []))
    by p queue so (inl h) =
        let not : is_shut (ports p) ≡ false =
        not_shut (ports p) (ap (λ k. is_open_port (ports k)) (eqb-true p port h) ∙ op) in
        subst (λ b. IsClosing p b (history queue (es ++ e ∷ []))) (sym not)
        (laws.own p queue es e (quiet p) (subst (λ b. IsClosing p b (history queue es)) not so))
    by p queue so (inr h) = laws.others p queue (is_shut (ports p)) es (e ∷ []) (others p h) so

carried_shut : Laws → (s : Setting) (w : World) (port call : ℕ) (d : Decoded) →
    is_open_port (w.ports port) ≡ true → AreShut w.entries w.ports →
    AreShut (carried_out s port call d w).entries (carried_out s port call d w).ports
carried_shut laws s w port call Nothing op is = is
carried_shut laws s w port call (Refused errno) op is = is
carried_shut laws s w port call (Asked r) op is =
    all_moved_keeps s (λ es ports. AreShut es ports) (λ v a is. arrival_shut laws s v a is)
    (happening.all_handed (asking w port call r).left) (with_ask w port call r)
    (asked_shut laws w.entries w.ports port
    (entry_of w.entries (happening.queue_of r) (Ask port call r)) op (λ p. refl)
    (λ p other. (other, refl, tt)) is)

-- a port closes
closes_shut : Laws → (w : World) (port : ℕ) → is_open_port (w.ports port) ≡ true →
    AreShut w.entries w.ports →
    AreShut (w.entries ++ happening.closings port w.entries) (changed_at port closed w.ports)
closes_shut laws w port op is = record {
  each = λ p queue below. by p queue below (is.each p queue below) (cases_Bool (p == port));
}
  where
    gone : (o : Option Port) → is_open_port o ≡ true → is_shut (option_map closed o) ≡ true
    gone None wrong = wrong
    gone (Some p) is = refl

    by : (p queue : ℕ) → queue < queue_count →
        IsClosing p (is_shut (w.ports p)) (history queue w.entries) →
        ((p == port) ≡ true) ⊎ ((p == port) ≡ false) →
        IsClosing p (is_shut (changed_at port closed w.ports p))
        (history queue (w.entries ++ happening.closings port w.entries))
    by p queue below so (inl h) =
        let same : p ≡ port = eqb-true p port h in
        let its : is_open_port (w.ports p) ≡ true = ap (λ k. is_open_port (w.ports k)) same ∙ op in
        let not : is_shut (w.ports p) ≡ false = not_shut (w.ports p) its in
        let then_shut : is_shut (changed_at port closed w.ports p) ≡ true =
        rw h (gone (w.ports p) its) in
        subst (λ b. IsClosing p b (history queue (w.entries ++ happening.closings port w.entries)))
        (sym then_shut)
        (subst (λ k. IsClosing p true (history queue (w.entries ++ happening.closings k w.entries)))
        same
        (laws.closed p queue w.entries below
        (subst (λ b. IsClosing p b (history queue w.entries)) not so)))
    by p queue below so (inr h) =
        let other : is_shut (w.ports p) ≡ is_shut (changed_at port closed w.ports p) = rw h refl in
        subst (λ b. IsClosing p b (history queue (w.entries ++ happening.closings port w.entries)))
        other
        (laws.others p queue (is_shut (w.ports p)) w.entries (happening.closings port w.entries)
        (others_all p (λ k. happening.closing_of port k (state_of w.entries k))
        (λ k. closing_others p port k (state_of w.entries k) h) every_number) so)

pub received_stays : (held : Port) → (received held).is_closed ≡ held.is_closed
received_stays held = by held.letters
  where
    by : (ls : List Letter) → (received_from ls held).is_closed ≡ held.is_closed
    by [] = refl
    by (l ∷ ls) = refl

pub shut_kept : Laws → (s : Setting) → Keeps s (λ es ports notes. AreShut es ports)
shut_kept laws s = record {
  arrives = λ w notes a is. arrival_shut laws s w a is;
  begins = λ es ports notes port is. is;
  speaks = λ w notes port call m op is.
      let errno = errno_of port call (decoded m) w in
      let between = carried_out s port call (decoded m) w in
      ports_then between.entries between.ports port
      (having_done (Sent call (words_of port call m.whole (decoded m)) (answered m errno)))
      (λ held. refl) (carried_shut laws s w port call (decoded m) op is);
  gets = λ w notes port held l ls op there mail is.
      ports_then w.entries w.ports port received received_stays is;
  closes = λ w notes port op is. closes_shut laws w port op is;
  falls = λ w notes device is.
      others_shut laws w.entries (happening.downs device w.entries) w.ports
      (λ p. others_all p (λ k. happening.down_of device k (state_of w.entries k))
      (λ k. down_others p device k (state_of w.entries k)) every_number) is;
}
