-- The feeder: a run keeps the lines that can be put into each queue's history.
use Rattle.std.proofs.Common.{◌≡◌, ◌⊎◌, ◌*◌, ℕ, List, [], ◌∷◌, Bool}
use Rattle.std.proofs.Common.{◌≤◌, ◌+◌, arith}
use Rattle.std.proofs.Common.{true, false, refl, sym, subst, inl}
use Rattle.std.specs.Prelude.{◌==◌}
use Rattle.std.proofs.lemmas.Bool.{ne_eqb, eq-eqb}
use Rattle.nfqa_msgs.specs.declared.request.Decoded.{Decoded}
use Rattle.nfqa_msgs.specs.declared.request.Decoded.TheVariants.{Nothing, Refused, Asked}
use Rattle.nfqa_msgs.specs.RequestReading.{decoded}
use Rattle.queue_core.specs.declared.event.Event.TheVariants.{Ask}
use Rattle.histories.specs.declared.entry.Entry.{Entry}
use Rattle.histories.specs.States.{entry_of}
use Rattle.histories.specs.Journeys.{Arrival}
use Rattle.histories.specs.Happenings as happening
use Rattle.inspector_script.specs.Scripts.{ScriptValue}
use Rattle.packet_moves.specs.declared.setting.Setting.{Setting}
use Rattle.packet_moves.specs.World.{World}
use Rattle.packet_moves.specs.Moving.{arrived, room_for}
use Rattle.run_parts.specs.Underway.{AllFed, IsNow}
use Rattle.solo_schedule.specs.Sending.{carried_out}
use Rattle.run_parts.specs.Feeder.{times_of_event}
use Rattle.solo_schedule.proofs.DueMessages.{Stage, IsOver, MayArrive, Goes, MayEnter, with_fed}
use Rattle.solo_schedule.proofs.EmptyStart.{NoneWaits}
use Rattle.solo_schedule.proofs.MessageEffects.{Below, arrival_none, ask_none, closings_none}
use Rattle.solo_schedule.proofs.MessageEffects.{downs_none}
use Rattle.solo_schedule.proofs.MessageEffects.{either_so, asked_so, opens_none}

pub record FedSo (st : Stage) (es : List Entry) : Type 0 where
  pub none : NoneWaits st.is_over es
  pub fed : AllFed st.time st.fallen es

-- an arrival of a later visit takes up no time, and one of the first that of its frame
later_now : (time : ℕ) (a : Arrival) (room : Bool) → 2 ≤ a.card.visit →
    IsNow time (times_of_event (happening.arrive a room))
later_now time a room later =
    let no : (a.card.visit == 1) ≡ false =
    ne_eqb a.card.visit 1 (λ same. absurd (omega (arith, same, later))) in
    rw no (inl refl)

first_now : (a : Arrival) (room : Bool) → a.card.visit ≡ 1 →
    times_of_event (happening.arrive a room) ≡ 2 * a.card.number ∷ (2 * a.card.number + 1) ∷ []
first_now a room is =
    let so : (a.card.visit == 1) ≡ true = eq-eqb a.card.visit 1 is in
    rw so refl

module _ (laws : Below) (s : Setting) (script : ScriptValue) (f : ℕ → ℕ) where
  arrival_fed : (st : Stage) (w : World) (a : Arrival) → MayArrive script st w.entries a →
      FedSo st w.entries → FedSo st (arrived s w a).entries
  arrival_fed st w a may is =
      let room = room_for s w a in
      record {
        none = arrival_none laws.steps s script st w a may.over.0 (omega (arith, may.visit)) is.none;
        fed = laws.fed.entry st.time st.fallen w.entries
            (entry_of w.entries a.queue (happening.arrive a room)) tt
            (later_now st.time a room may.visit) is.fed;
      }

  enter_fed : (st : Stage) (w : World) (a : Arrival) → MayEnter script st a →
      FedSo st w.entries → FedSo (with_fed st a.card.number) (arrived s w a).entries
  enter_fed st w a may is =
      let room = room_for s w a in
      record {
        none = arrival_none laws.steps s script st w a may.over.0 (omega (arith, may.visit)) is.none;
        fed = laws.fed.first st.time a.card.number st.fallen w.entries
            (entry_of w.entries a.queue (happening.arrive a room)) tt
            (first_now a room may.visit) may.time is.fed;
      }

  carried_fed : (st : Stage) (w : World) (port call : ℕ) (d : Decoded) →
      IsOver script st ⊎ (st.is_over ≡ false) → FedSo st w.entries →
      FedSo st (carried_out s port call d w).entries
  carried_fed st w port call Nothing either is = is
  carried_fed st w port call (Refused errno) either is = is
  carried_fed st w port call (Asked r) either is =
      asked_so laws.steps s script st (λ es ports. FedSo st es) (λ v a may is. arrival_fed st v a may is)
      w port call r either is.none (record {
        none = ask_none laws.steps s script st w port call r is.none;
        fed = laws.fed.entry st.time st.fallen w.entries
            (entry_of w.entries (happening.queue_of r) (Ask port call r)) tt (inl refl) is.fed;
      })

  pub fed_goes : Goes s script f (λ st es ports notes. FedSo st es)
  fed_goes = record {
    log = laws.steps.log;
    arrives = λ st w notes a may is. arrival_fed st w a may is;
    enters = λ st w notes a may is. enter_fed st w a may is;
    begins = λ st es ports notes port i is. is;
    speaks = λ st w notes port call m at_end i op may due is.
        carried_fed st w port call (decoded m)
        (either_so laws.steps s script st (f port) at_end may) is;
    gets = λ st w notes port held l ls i op over there mail is. is;
    closes = λ st w notes port i op may is. record {
      none = closings_none laws.steps s script st port w.entries is.none;
      fed = laws.fed.closing st.time st.fallen port w.entries is.fed;
    };
    falls = λ st w notes d over late time is. record {
      none = downs_none laws.steps s script st d.device w.entries is.none;
      fed = laws.fed.line st.time st.fallen d w.entries time is.fed;
    };
    goes_on = λ st u es ports notes follows same is. record {
      none = subst (λ b. NoneWaits b es) same is.none;
      fed = laws.fed.later st.time u.time st.fallen u.fallen es follows.time follows.fallen is.fed;
    };
    opens_up = λ st u es ports notes follows over idle is. record {
      none = subst (λ b. NoneWaits b es) (sym over.0)
          (opens_none laws.steps s script st es is.none);
      fed = laws.fed.later st.time u.time st.fallen u.fallen es follows.time follows.fallen is.fed;
    };
  }
