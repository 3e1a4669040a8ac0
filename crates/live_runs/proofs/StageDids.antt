-- What a port did from one meeting to the next, once its stage is over.
use Rattle.std.proofs.Common.{◌++◌, ◌<◌, ◌∷◌, ◌≡◌, ◌≤◌, ◌⊎◌, Bool, List, None, Option, Some, []}
use Rattle.std.proofs.Common.{arith, false, inl, inr, length, refl, suc, true, ℕ}
use Rattle.std.proofs.lemmas.Bool.{cases_Bool}
use Rattle.std.proofs.lemmas.Bool.Decides.{nat_tests}
use Rattle.std.specs.Prelude.{◌==◌, flat_map, if◌then◌else◌, nat_lt}
use Rattle.queue_core.specs.State.{Bound}
use Rattle.queue_core.specs.declared.event.Event.{Event}
use Rattle.queue_core.specs.declared.event.Event.TheVariants.{Arrive, Ask, DeviceDown, PortClosed}
use Rattle.histories.specs.Happenings.{closing_of, closings}
use Rattle.histories.specs.States.{entry_in, every_number, state_of}
use Rattle.histories.specs.declared.entry.Entry.{Entry}
use Rattle.script_lines.specs.declared.ask.Ask.TheVariants.{Close}
use Rattle.inspector_script.specs.Scripts.{ScriptValue}
use Rattle.run_parts.specs.Log.{Note, Shut, Still}
use Rattle.run_parts.specs.Ports.{place_in}
use Rattle.live_runs.specs.Calls.{ShutsAt}
use Rattle.live_runs.specs.Doing.{IsAnswering, IsDoing}
use Rattle.live_runs.specs.Owners.{IsAskingEvent, IsAskingOf, IsEventOf, IsOf}
use Rattle.live_runs.specs.Passes.{Pass, Shuts}
use Rattle.live_runs.specs.Ports.{IsPort}
use Rattle.live_runs.specs.Seen.{Grows, OursAre, Seen, Shares, all_ours, entries}
use Rattle.live_runs.specs.Stages.{Ending, IsPlain, Opening, Stage, Went, Working, early_of}
use Rattle.live_runs.specs.Stages.{late_of}
use Rattle.live_runs.specs.Stands.{AtEnd, Stand, shut_stand, side}
use Rattle.live_runs.proofs.StageNotes.{adds_nothing, adds_quiet}
use Rattle.live_runs.proofs.LowerLaws.{ClosingLaws, LogLaws}
use Rattle.live_runs.proofs.Marks.{grows_as, grows_on, same_grows, turn_grows}
use Rattle.live_runs.proofs.PortNotes.{shuts}
use Rattle.live_runs.proofs.StageEntries.{asked_is_plain, ending_is_plain}

pub asking_of : (port : ℕ) (e : Entry) → IsAskingOf port e → IsOf port e
asking_of port e is = by e.event is
  where
    by : (event : Event) → IsAskingEvent port event → IsEventOf port event
    by (Arrive card bypass room) is = is
    by (Ask asking call r) is = is
    by (PortClosed closed) wrong = absurd wrong
    by (DeviceDown device) wrong = absurd wrong

-- an own entry, at a stage behind the openings
asked_own : (ports : List ℕ) (stage : Stage) (port : ℕ) → IsAnswering stage → (e : Entry) →
    IsAskingOf port e →
    IsOf port e × IsPlain ports (early_of ports stage) (late_of stage) e
asked_own ports (Opening place) port answers e is = absurd answers
asked_own ports Working port answers e is =
    (asking_of port e is, asked_is_plain ports 0 port e is)
asked_own ports (Ending place) port answers e is =
    (asking_of port e is, asked_is_plain ports (suc place) port e is)

module _ (workers : ℕ) (script : ScriptValue) (places port : ℕ) where
  -- a port that did nothing
  pub went_nowhere : (stage : Stage) (was : List Note) (shares : Shares) →
      Went workers script stage port was was shares shares
  went_nowhere stage was shares = record {
    adds = adds_nothing workers script (early_of script.ports stage) (late_of stage) port was;
    grows = λ k. same_grows _ (shares k) (shares k) refl;
  }

  -- a port that sent and received
  pub went_on : (stage : Stage) (was : List Note) (start_at : Pass) (t : Stand) (pass : Pass) →
      IsAnswering stage → (a : IsDoing workers script places stage port was start_at t pass) →
      Went workers script stage port was a.notes start_at.shares pass.shares
  went_on stage was start_at t pass answers a = record {
    adds = a.adds;
    grows = λ k. grows_as (IsAskingOf port) _ (asked_own script.ports stage port answers)
        (start_at.shares k) (pass.shares k) (a.grows k);
  }

  one_closed : (k : ℕ) (o : Option Bound) → OursAre (IsOf port) (all_ours (closing_of port k o))
  one_closed k None = tt
  one_closed k (Some b) = by (b.port == port)
    where
      by : (c : Bool) → OursAre (IsOf port)
          (all_ours (if c then entry_in k (Some b) (PortClosed port) ∷ [] else []))
      by true = (refl, tt)
      by false = tt

  more_closed : (xs ys : List Entry) → OursAre (IsOf port) (all_ours xs) →
      OursAre (IsOf port) (all_ours ys) → OursAre (IsOf port) (all_ours (xs ++ ys))
  more_closed [] ys one two = two
  more_closed (x ∷ xs) ys one two = (one.0, more_closed xs ys one.1 two)

  all_closed : (es : List Entry) (ks : List ℕ) →
      OursAre (IsOf port) (all_ours (flat_map (λ k. closing_of port k (state_of es k)) ks))
  all_closed es [] = tt
  all_closed es (k ∷ ks) = more_closed (closing_of port k (state_of es k)) _
      (one_closed k (state_of es k)) (all_closed es ks)

  pub shuts_grows : (xs ys : List Seen) → ShutsAt port xs ys → Grows (IsOf port) xs ys
  shuts_grows xs ys s = turn_grows (IsOf port) s.others
      (closings port (entries xs ++ s.others)) xs ys s.turn
      (all_closed (entries xs ++ s.others) every_number)

module _ (logs : LogLaws) (laws : ClosingLaws) (workers : ℕ) (script : ScriptValue)
    (places port : ℕ) (was : List Note) (start_at mid new : Pass) where
  abbrev place : ℕ
  place = place_in port script.ports

  abbrev last : Stand
  last = side (AtEnd []) (Still Close ∷ [])

  -- a port that closed; at places that there aren't nothing happened
  pub went_shut : (a : IsDoing workers script places (Ending place) port was start_at last mid) →
      Shuts places port mid new → ((k : ℕ) → places ≤ k → new.shares k ≡ mid.shares k) →
      Went workers script (Ending place) port was (a.notes ++ Shut ∷ []) start_at.shares new.shares
  went_shut a s none = record {
    adds = adds_quiet workers script (length script.ports) (suc place) port was a.notes Shut
        (λ queue. refl) a.adds;
    grows = λ k. grows_on _ (start_at.shares k) (mid.shares k) (new.shares k)
        (grows_as (IsAskingOf port) _ (asked_own script.ports (Ending place) port tt)
        (start_at.shares k) (mid.shares k) (a.grows k))
        (grows_as (IsOf port) _ (λ e is. (is, ending_is_plain script.ports port e is))
        (mid.shares k) (new.shares k) (shut_at k (cases_Bool (nat_lt k places))));
  }
    where
      shut_at : (k : ℕ) → ((nat_lt k places ≡ true) ⊎ (nat_lt k places ≡ false)) →
          Grows (IsOf port) (mid.shares k) (new.shares k)
      shut_at k (inl h) = shuts_grows workers script places port (mid.shares k) (new.shares k)
          (s.shuts k (grind (arith, nat_tests, h)))
      shut_at k (inr h) = same_grows (IsOf port) (mid.shares k) (new.shares k)
          (none k (grind (arith, nat_tests, h)))

  pub port_shut : 0 < places →
      (a : IsDoing workers script places (Ending place) port was start_at last mid) →
      Shuts places port mid new →
      IsPort workers script places port (a.notes ++ Shut ∷ []) shut_stand new
  port_shut some a s = shuts logs laws workers script places port a.notes mid new s some a.is
