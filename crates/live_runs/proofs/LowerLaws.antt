-- What lower crates say of histories and logs that go on, as the clauses of their laws.
use Rattle.std.proofs.Common.{◌*◌, ◌++◌, ◌+◌, ◌<◌, ◌∷◌, ◌≡◌, ◌≤◌, Bool, List, Option, [], false}
use Rattle.std.proofs.Common.{map, true, ℕ}
use Rattle.std.specs.List.{list_any}
use Rattle.std.specs.Prelude.{not}
use Rattle.queue_core.specs.Laws.{IsConserving}
use Rattle.queue_core.specs.State.{Bound}
use Rattle.queue_core.specs.Step.{step}
use Rattle.queue_core.specs.declared.event.Event.{Event}
use Rattle.histories.specs.Happenings.{closings, downs}
use Rattle.histories.specs.History.{history}
use Rattle.histories.specs.Numbers.{queue_count}
use Rattle.histories.specs.declared.entry.Entry.{Entry}
use Rattle.script_lines.specs.declared.line.Down.{Down}
use Rattle.inspector_script.specs.Scripts.{ScriptValue}
use Rattle.run_parts.specs.Closing.{IsClosing, is_bound_to, is_by, is_closed, is_closing_of}
use Rattle.run_parts.specs.Feeder.{IsFed, IsNoDown, times_of_event}
use Rattle.run_parts.specs.Log.{AreNextFrom, IsNext, Note, Standing, after, logged, standing_from}
use Rattle.run_parts.specs.Order.{kind_at, kinds_from}
use Rattle.run_parts.specs.Requests.{Plea, pleas_told}
use Rattle.run_parts.specs.Underway.{AllFed, AreOthers, Fed, IsNow}

-- of closings
abbrev pub ClosingLaws : Type 0
ClosingLaws = record {
  others : (port queue : ℕ) (closed : Bool) (es fs : List Entry) → AreOthers port fs →
      IsClosing port closed (history queue es) →
      IsClosing port closed (history queue (es ++ fs));
  own : (port queue : ℕ) (es : List Entry) (e : Entry) → is_closing_of port e ≡ false →
      IsClosing port false (history queue es) →
      IsClosing port false (history queue (es ++ e ∷ []));
  closed : (port queue : ℕ) (es : List Entry) → queue < queue_count →
      IsClosing port false (history queue es) →
      IsClosing port true (history queue (es ++ closings port es));
  frees : (port : ℕ) (q : Option Bound) (e : Event) → is_by port e ≡ false →
      is_bound_to port q ≡ false → is_bound_to port (step q e).state ≡ false;
}

-- of the feeder
abbrev pub FeedingLaws : Type 0
FeedingLaws = record {
  none : Fed 0 [] [];
  later : (time later : ℕ) (fallen more : List Down) (es : List Entry) →
      time ≤ later → fallen ≡ more → AllFed time fallen es → AllFed later more es;
  first : (time number : ℕ) (fallen : List Down) (es : List Entry) (e : Entry) →
      IsNoDown e.event → times_of_event e.event ≡ 2 * number ∷ (2 * number + 1) ∷ [] →
      time ≤ 2 * number → AllFed time fallen es → AllFed (2 * number + 1) fallen (es ++ e ∷ []);
  entry : (time : ℕ) (fallen : List Down) (es : List Entry) (e : Entry) →
      IsNoDown e.event → IsNow time (times_of_event e.event) → AllFed time fallen es →
      AllFed time fallen (es ++ e ∷ []);
  closing : (time : ℕ) (fallen : List Down) (port : ℕ) (es : List Entry) →
      AllFed time fallen es → AllFed time fallen (es ++ closings port es);
  line : (time : ℕ) (fallen : List Down) (d : Down) (es : List Entry) →
      time ≤ 2 * d.after + 1 → AllFed time fallen es →
      AllFed (2 * d.after + 1) (fallen ++ d ∷ []) (es ++ downs d.device es);
  fed : (time : ℕ) (fallen : List Down) (h : List Entry) → Fed time fallen h → IsFed fallen h;
}

-- of logs
abbrev pub LogLaws : Type 0
LogLaws = record {
  next : (workers : ℕ) (script : ScriptValue) (place port : ℕ) (t : Standing)
      (notes : List Note) (n : Note) → AreNextFrom workers script place port t notes →
      IsNext workers (standing_from workers script place port t notes) n →
      AreNextFrom workers script place port t (notes ++ n ∷ []);
  stands : (workers : ℕ) (script : ScriptValue) (place port : ℕ) (t : Standing)
      (notes : List Note) (n : Note) →
      standing_from workers script place port t (notes ++ n ∷ [])
      ≡ after workers script place port (standing_from workers script place port t notes) n;
  logged : (workers : ℕ) (script : ScriptValue) (place port : ℕ) (t : Standing)
      (notes : List Note) →
      (standing_from workers script place port t notes).dids ≡ t.dids ++ logged port notes;
  closed : (workers : ℕ) (script : ScriptValue) (place port : ℕ) (t : Standing)
      (notes : List Note) → list_any is_closed t.dids ≡ not t.is_open →
      list_any is_closed (standing_from workers script place port t notes).dids
      ≡ not (standing_from workers script place port t notes).is_open;
  kinds : (workers : ℕ) (script : ScriptValue) (place port queue : ℕ) (t : Standing)
      (notes : List Note) (n : Note) →
      kinds_from workers script place queue port t (notes ++ n ∷ [])
      ≡ kinds_from workers script place queue port t notes
      ++ map (λ (x : Plea). kind_at (standing_from workers script place port t notes))
      (pleas_told queue n);
}

-- how every step conserves packets
abbrev pub Conserve : Type 0
Conserve = (q : Option Bound) (e : Event) → IsConserving q e
