-- What a message makes of the queues, where what is handed on comes to a later visit.
use Rattle.std.proofs.Common.{◌≡◌, ◌≤◌, ◌⊎◌, ◌+◌, ◌*◌, suc, length, ℕ, List, [], ◌∷◌, ◌++◌}
use Rattle.std.proofs.Common.{Bool, true, false, refl, sym, subst, inl, inr, arith}
use Rattle.std.specs.Prelude.{◌==◌}
use Rattle.std.proofs.lemmas.Bool.{ne_eqb}
use Rattle.packet_entry.specs.declared.packet.Card.{Card}
use Rattle.hook_chain.specs.declared.chain.Decision.{Decision}
use Rattle.nfqa_msgs.specs.declared.request.Request.{Request}
use Rattle.nfqa_msgs.specs.declared.request.Decoded.TheVariants.{Asked}
use Rattle.histories.specs.declared.entry.Entry.{Entry}
use Rattle.queue_core.specs.Laws.{times}
use Rattle.histories.specs.States.{entry_of, state_of, every_number}
use Rattle.histories.specs.History.{is_of}
use Rattle.histories.specs.Journeys.{Arrival}
use Rattle.histories.specs.Happenings as happening
use Rattle.inspector_script.specs.Scripts.{ScriptValue}
use Rattle.packet_moves.specs.declared.setting.Setting.{Setting}
use Rattle.packet_moves.specs.World.{World}
use Rattle.packet_moves.specs.Moving.{arrived, room_for}
use Rattle.packet_moves.specs.Messages.{asking, with_ask}
use Rattle.queue_core.specs.declared.event.Event.TheVariants.{Ask}
use Rattle.script_lines.specs.declared.line.Down.{Down}
use Rattle.run_parts.specs.Feeder.{IsFed, IsFedBy, IsNoDown, times_of_event}
use Rattle.run_parts.specs.Order.{early_rank, IsOrdered, Kind, kinds_of, late_ranks, Marked}
use Rattle.run_parts.specs.Ports.{place_in}
use Rattle.run_parts.specs.Underway.{AllFed, AllOrdered, Fed, IsNow, Ordered, Told, unasked}
use Rattle.solo_schedule.specs.Sending.{carried_out, all_moved}
use Rattle.solo_schedule.proofs.OnwardPackets.{Known, Of}
use Rattle.solo_schedule.proofs.DueMessages.{Stage, IsOver, MayArrive, MaySpeak}
use Rattle.solo_schedule.proofs.RunSteps.{LogLaws}
use Rattle.solo_schedule.proofs.Departures.{HaveLeft, handed_left, left_by}
use Rattle.solo_schedule.proofs.LaterVisits.{LeaveAlone, MayGo, moved_later}
use Rattle.solo_schedule.proofs.EmptyStart.{Conserve, NoneWaits, Brings, barred, test, none_less}
use Rattle.solo_schedule.proofs.EmptyStart.{none_then, one_free}
use Rattle.solo_schedule.proofs.EmptyStart.{request_free, none_go, all_later, bring_all}
use Rattle.solo_schedule.proofs.EmptyStart.{closing_brings}
use Rattle.solo_schedule.proofs.EmptyStart.{down_brings}

-- how histories that were fed go on
pub record FedLaws : Type 0 where
  pub none : Fed 0 [] []
  pub later : (time later : ℕ) (fallen more : List Down) (es : List Entry) → time ≤ later →
      fallen ≡ more → AllFed time fallen es → AllFed later more es
  pub first : (time number : ℕ) (fallen : List Down) (es : List Entry) (e : Entry) →
      IsNoDown e.event → times_of_event e.event ≡ 2 * number ∷ (2 * number + 1) ∷ [] →
      time ≤ 2 * number → AllFed time fallen es → AllFed (2 * number + 1) fallen (es ++ e ∷ [])
  pub entry : (time : ℕ) (fallen : List Down) (es : List Entry) (e : Entry) →
      IsNoDown e.event → IsNow time (times_of_event e.event) → AllFed time fallen es →
      AllFed time fallen (es ++ e ∷ [])
  pub closing : (time : ℕ) (fallen : List Down) (port : ℕ) (es : List Entry) →
      AllFed time fallen es → AllFed time fallen (es ++ happening.closings port es)
  pub line : (time : ℕ) (fallen : List Down) (d : Down) (es : List Entry) →
      time ≤ 2 * d.after + 1 → AllFed time fallen es →
      AllFed (2 * d.after + 1) (fallen ++ d ∷ []) (es ++ happening.downs d.device es)
  pub fed : (time : ℕ) (fallen : List Down) (h : List Entry) → Fed time fallen h → IsFed fallen h
  pub alone : (downs : List Down) (h : List Entry) → IsFed downs h → IsFedBy 1 downs h

-- how histories that are in order go on
pub record OrderedLaws : Type 0 where
  pub later : (ports : List ℕ) (early up late on : ℕ) (told more : Told) (es : List Entry) →
      early ≤ up → late ≤ on → ((queue port : ℕ) → told queue port ≡ more queue port) →
      AllOrdered ports early late told es → AllOrdered ports up on more es
  pub entry : (ports : List ℕ) (early late : ℕ) (told more : Told) (es : List Entry)
      (m : Marked) → early_rank ports m ≡ early → IsNow late (late_ranks ports m) →
      ((queue port : ℕ) → is_of queue m.entry ≡ false → told queue port ≡ more queue port) →
      ((queue port : ℕ) → is_of queue m.entry ≡ true →
      told queue port ++ kinds_of port m ≡ more queue port) →
      AllOrdered ports early late told es → AllOrdered ports early late more (es ++ m.entry ∷ [])
  pub other : (ports : List ℕ) (early late : ℕ) (told : Told) (es : List Entry) (e : Entry) →
      early_rank ports (unasked e) ≡ early → IsNow late (late_ranks ports (unasked e)) →
      ((port : ℕ) → kinds_of port (unasked e) ≡ []) → AllOrdered ports early late told es →
      AllOrdered ports early late told (es ++ e ∷ [])
  pub closing : (ports : List ℕ) (late port : ℕ) (told : Told) (es : List Entry) →
      late ≡ suc (place_in port ports) → AllOrdered ports (length ports) late told es →
      AllOrdered ports (length ports) late told (es ++ happening.closings port es)
  pub devices : (ports : List ℕ) (device : ℕ) (told : Told) (es : List Entry) →
      AllOrdered ports (length ports) 0 told es →
      AllOrdered ports (length ports) 0 told (es ++ happening.downs device es)
  pub ordered : (ports : List ℕ) (early late : ℕ) (told : ℕ → List Kind) (h : List Entry) →
      Ordered ports early late told h → IsOrdered ports told h

-- how each step and each log goes on
pub record StepLaws : Type 0 where
  pub leaves : LeaveAlone
  pub conserve : Conserve
  pub log : LogLaws

-- the laws of the crates below on which these parts stand
pub record Below : Type 0 where
  pub steps : StepLaws
  pub fed : FedLaws
  pub ordered : OrderedLaws

visited : (card : Card) → 1 ≤ card.visit → times (test true) (card ∷ []) ≡ 0
visited card least =
    let none : (card.visit == 0) ≡ false =
    ne_eqb card.visit 0 (λ same. absurd (omega (arith, same, least))) in
    one_free true card none

module _ (laws : StepLaws) (s : Setting) (script : ScriptValue) (st : Stage) where
  pub arrival_none : (w : World) (a : Arrival) → st.is_over ≡ true → 1 ≤ a.card.visit →
      NoneWaits st.is_over w.entries → NoneWaits st.is_over (arrived s w a).entries
  arrival_none w a over least is =
      let e = entry_of w.entries a.queue (happening.arrive a (room_for s w a)) in
      none_then laws.conserve st.is_over w.entries (e ∷ [])
      (subst (λ b. Brings b e.event) (sym over) (visited a.card least), tt) is

  pub ask_none : (w : World) (port call : ℕ) (r : Request) → NoneWaits st.is_over w.entries →
      NoneWaits st.is_over (with_ask w port call r).entries
  ask_none w port call r is =
      none_then laws.conserve st.is_over w.entries
      (entry_of w.entries (happening.queue_of r) (Ask port call r) ∷ []) (refl, tt) is

  pub closings_none : (port : ℕ) (es : List Entry) → NoneWaits st.is_over es →
      NoneWaits st.is_over (es ++ happening.closings port es)
  closings_none port es is =
      none_then laws.conserve st.is_over es (happening.closings port es)
      (bring_all st.is_over (λ k. happening.closing_of port k (state_of es k))
      (λ k. closing_brings st.is_over port k (state_of es k)) every_number) is

  pub downs_none : (device : ℕ) (es : List Entry) → NoneWaits st.is_over es →
      NoneWaits st.is_over (es ++ happening.downs device es)
  downs_none device es is =
      none_then laws.conserve st.is_over es (happening.downs device es)
      (bring_all st.is_over (λ k. happening.down_of device k (state_of es k))
      (λ k. down_brings st.is_over device k (state_of es k)) every_number) is

  -- once all ports have opened
  pub opens_none : (es : List Entry) → NoneWaits st.is_over es → NoneWaits true es
  opens_none es is = by st.is_over is
    where
      by : (b : Bool) → NoneWaits b es → NoneWaits true es
      by true is = is
      by false is = none_less false es laws.conserve is refl

  -- ports have opened, or not
  pub either_so : (place : ℕ) (at_end : Bool) → MaySpeak script st place at_end →
      IsOver script st ⊎ (st.is_over ≡ false)
  either_so place true may = inl may.0
  either_so place false (inl over) = inl over
  either_so place false (inr not_yet) = inr not_yet.0

  -- a message is carried out
  module _ (Q : Known) (move : (w : World) (a : Arrival) → MayArrive script st w.entries a →
      Of Q w → Of Q (arrived s w a)) where
    moved_so : (hs : List (Card × Decision)) (w : World) →
        IsOver script st ⊎ (st.is_over ≡ false) →
        MayGo (λ v. barred st.is_over v ≡ false) hs → HaveLeft w.entries hs → Of Q w →
        Of Q (all_moved s hs w)
    moved_so hs w (inl over) may left q =
        moved_later laws.leaves s Q (MayArrive script st)
        (λ es a later come. record { over = over; visit = later; come = come })
        move hs w (all_later hs (subst (λ b. MayGo (λ v. barred b v ≡ false) hs) over.0 may)) left
        q
    moved_so hs w (inr not_yet) may left q =
        subst (λ gs. Of Q (all_moved s gs w))
        (sym (none_go hs (subst (λ b. MayGo (λ v. barred b v ≡ false) hs) not_yet may))) q

    pub asked_so : (w : World) (port call : ℕ) (r : Request) →
        IsOver script st ⊎ (st.is_over ≡ false) → NoneWaits st.is_over w.entries →
        Of Q (with_ask w port call r) → Of Q (carried_out s port call (Asked r) w)
    asked_so w port call r either none q =
        moved_so (happening.all_handed (asking w port call r).left) (with_ask w port call r) either
        (request_free laws.conserve st.is_over (state_of w.entries (happening.queue_of r)) port call
        r (none.none (happening.queue_of r)))
        (handed_left (with_ask w port call r).entries (asking w port call r).left
        (left_by w.entries (happening.queue_of r) (Ask port call r))) q
