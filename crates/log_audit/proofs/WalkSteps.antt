-- The walk along a port's log, step by step.
use Rattle.std.proofs.Common.{◌≡◌, ◌∙◌, ℕ, List, [], ◌++◌, sym, ap, subst, Bool, true}
use Rattle.std.proofs.Common.{false}
use Rattle.std.proofs.Common.{Option, Result, Ok, Err}
use Rattle.std.specs.Prelude.{IfOk}
use Rattle.histories.specs.declared.log.AskWords.{AskWords}
use Rattle.histories.specs.declared.log.Did.{Did}
use Rattle.histories.specs.declared.log.Did.TheVariants.{Sent}
use Rattle.packet_moves.specs.Calls.{after_this}
use Rattle.inspector_script.specs.Scripts.{ScriptValue}
use Rattle.run_parts.specs.Log.{Due, first_due, owed_then, ends_then}
use Rattle.run_parts.specs.Order.{kind_by}
use Rattle.log_audit.specs.Walking.{Known, Walk, AllGoOn, IsLoggedAs, ends_at, settled}
use Rattle.log_audit.specs.Walking.{timed_of}
use Rattle.log_audit.specs.Walking.{walked_all}
use Rattle.log_audit.specs.PortWalks.{Steps}
use Rattle.log_audit.specs.PortWalks as port_walks

-- ---- a port that owes nothing sends a message of its end

module _ (known : Known) (script : ScriptValue) (place port : ℕ) (w new : Walk) (owed : List Due)
    (call : ℕ) (ask : AskWords) (answer : Option ℕ) (is : owed ≡ settled port w.call w.owed)
    (none : owed ≡ []) where
  same_settled : settled port w.call owed ≡ settled port w.call w.owed
  same_settled = ap (settled port w.call) none ∙ sym none ∙ is

  abbrev goes_by : List Due → Type 0
  goes_by o =
      (w.is_open ≡ true) × (call ≡ w.call)
      × IsLoggedAs port call ask (first_due o (ends_at port w.call o w.ends))

  abbrev sent_by : List Due → Walk
  sent_by o =
      record w {
        owed = owed_then [] o;
        ends = ends_then [] o (ends_at port w.call o w.ends);
        call = after_this w.call;
        timed = w.timed ++ timed_of (kind_by o w.heard)
            (first_due o (ends_at port w.call o w.ends));
      }

  nothing_owed : (b : Bool) →
      Steps known script place port (Sent call ask answer) (record w { owed = owed }) new b →
      Steps known script place port (Sent call ask answer) w new b
  nothing_owed true steps =
      (subst goes_by same_settled steps.0, steps.1 ∙ ap sent_by same_settled)
  nothing_owed false stops = λ goes. stops (subst goes_by (sym same_settled) goes)

  pub sent_at_end : {E : Type 0} (r : Result Bool E) →
      IfOk r (Steps known script place port (Sent call ask answer) (record w { owed = owed }) new) →
      IfOk r (Steps known script place port (Sent call ask answer) w new)
  sent_at_end {E} (Ok b) steps = nothing_owed b steps
  sent_at_end {E} (Err e) steps = tt

-- ---- entry by entry

module _ (known : Known) (script : ScriptValue) (place port : ℕ) where
  -- the walk goes on over all of these, as it does over the rest from here
  pub record IsGoingOver (start now : Walk) (all rest : List Did) : Type 0 where
    pub on : AllGoOn known script place port start all → AllGoOn known script place port now rest
    pub back : AllGoOn known script place port now rest → AllGoOn known script place port start all
    pub leads : walked_all known script place port start all
        ≡ walked_all known script place port now rest

  pub over_begun : (start : Walk) (all rest : List Did) → rest ≡ all →
      IsGoingOver start start all rest
  over_begun start all rest same = record {
    on = subst (AllGoOn known script place port start) (sym same);
    back = subst (AllGoOn known script place port start) same;
    leads = ap (walked_all known script place port start) (sym same);
  }
  -- ---- a whole log
