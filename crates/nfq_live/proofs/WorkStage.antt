-- The stage in which the workers work: all passes stand where they stood, and have met.
use Rattle.std.proofs.Common.{◌≡◌, ◌∙◌, ◌++◌, ◌∷◌, [], ℕ, Bool, List, ap, arith}
use Rattle.std.proofs.Common.{false, length, refl, subst, sym, true}
use Rattle.std.proofs.lemmas.Bool.{eqb-true}
use Rattle.std.specs.List.{AllZip, list_any}
use Rattle.std.specs.Prelude.{◌==◌, if◌then◌else◌, nat_eq}
use Rattle.pcap_io.specs.declared.capture.Capture.{Capture}
use Rattle.inspector_script.specs.Scripts.{ScriptValue, closing}
use Rattle.run_parts.specs.Feeder.{downs_after, downs_in_effect, falling_time}
use Rattle.run_parts.specs.Log.{Due, Note, all_due}
use Rattle.run_parts.specs.Ports.{is_port, place_in}
use Rattle.plane.specs.declared.plane.Plane.{Plane}
use Rattle.plane.specs.Passes.{FeederView, PortView}
use Rattle.plane.specs.Planes.{order_of, places_of}
use Rattle.live_runs.specs.Doing.{GoesOn, IsAnswering}
use Rattle.live_runs.specs.Meetings.{IsMeeting, IsOpenTo}
use Rattle.live_runs.specs.Owners.{IsFeeders}
use Rattle.live_runs.specs.Passes.{AreMet, Pass, feeder_number}
use Rattle.live_runs.specs.Ports.{IsPort}
use Rattle.live_runs.specs.Seen.{Grows, Shares}
use Rattle.live_runs.specs.Stages.{Stage, Went, WentFeeding, Working}
use Rattle.live_runs.specs.Stands.{Stand, idle, opened}
use Rattle.live_passes.specs.Numbered.{numbers_of, pass_among, passes_in}
use Rattle.live_passes.specs.Views.{feeder_pass, port_pass}
use Rattle.nfq_live.specs.declared.crew.Crew.{Crew}
use Rattle.nfq_live.specs.Crews.{IsCrewOf, all_ports, passes_of}
use Rattle.nfq_live.specs.Endings.{IsAtMeeting}
use Rattle.live_work.specs.Feeding.{FedOn, shares_in}
use Rattle.nfq_live.specs.Openings.{AreReady}
use Rattle.nfq_live.specs.Feeders.{HaveAllFed}
use Rattle.nfq_live.specs.Sizes.{size_of}
use Rattle.nfq_live.specs.Workers.{HaveWorked, WentOn}
use Rattle.nfq_live.proofs.FedPlaces.{FedMeetsLaw, fed_at_meeting}
use Rattle.live_runs.specs.Laws.{EndsStage}
use Rattle.live_work.proofs.FeederCalls.{grows_both}
use Rattle.live_work.proofs.UnchangedPass.{some_place}
use Rattle.live_work.proofs.MailboxLooks.{NoLookLaw}

-- ---- the laws

abbrev pub AllOpenLaw : Type 0
AllOpenLaw = (workers : ℕ) (script : ScriptValue) (places : ℕ) (passes : ℕ → Pass)
    (notes : ℕ → List Note) (stands : ℕ → Stand) →
    IsOpenTo workers script places (length script.ports) passes notes stands →
    IsMeeting workers script places Working passes notes stands

abbrev pub EachOpenLaw : Type 0
EachOpenLaw = (workers : ℕ) (script : ScriptValue) (places : ℕ) (passes : ℕ → Pass)
    (notes : ℕ → List Note) (stands : ℕ → Stand) →
    IsOpenTo workers script places (length script.ports) passes notes stands → (port : ℕ) →
    is_port script port ≡ true → stands port ≡ opened script port

abbrev pub LooksLaw : Type 0
LooksLaw = (workers : ℕ) (script : ScriptValue) (places port : ℕ) (stage : Stage)
    (was : List Note) (ends : List Due) (old new : Pass) → IsAnswering stage →
    GoesOn workers script places port old new →
    IsPort workers script places port was (idle ends) old →
    (now : List Note) × IsPort workers script places port now (idle ends) new
    × Went workers script stage port was now old.shares new.shares

abbrev pub FeederWentLaw : Type 0
FeederWentLaw = (script : ScriptValue) (old new : Shares) →
    ((k : ℕ) → Grows IsFeeders (old k) (new k)) → WentFeeding script Working old new

pub record WorkLaws : Type 0 where
  pub all : AllOpenLaw
  pub each : EachOpenLaw
  pub no_look : NoLookLaw
  pub looks : LooksLaw
  pub meeting : EndsStage
  pub feeder : FeederWentLaw
  pub meets : FedMeetsLaw

-- ---- passes by number

-- the feeder's number is no port's
no_feeder : (script : ScriptValue) (p : ℕ) (b : Bool) → (p == feeder_number) ≡ b →
    is_port script feeder_number ≡ false → is_port script p ≡ true → b ≡ false
no_feeder script p false e none is = refl
no_feeder script p true e none is =
    let zero_is : p ≡ feeder_number = eqb-true p feeder_number e in
    let wrong : true ≡ false = sym is ∙ ap (λ (n : ℕ). is_port script n) zero_is ∙ none in
    absurd (cc wrong)

pass_of_port : (feeder : FeederView) (ports : List PortView) (p : ℕ) →
    (p == feeder_number) ≡ false → passes_in feeder ports p ≡ pass_among ports p
pass_of_port feeder ports p other =
    ap (λ (b : Bool). if b then feeder_pass feeder else pass_among ports p) other

-- the port's pass among those of several that went on, or another of which the same is known
goes_one : (workers : ℕ) (script : ScriptValue) (places p : ℕ) (o q : PortView) (a b : Pass)
    (t : Bool) →
    (o.port == p) ≡ t → WentOn workers script places o q → GoesOn workers script places p a b →
    GoesOn workers script places p (if o.port == p then port_pass o else a)
    (if q.port == p then port_pass q else b)
goes_one workers script places p o q a b true is went rest =
    let here : o.port ≡ p = eqb-true o.port p is in
    let there : (q.port == p) ≡ true = ap (λ (n : ℕ). n == p) went.port ∙ is in
    subst (λ (s : Bool). GoesOn workers script places p (if s then port_pass o else a)
    (if q.port == p then port_pass q else b)) (sym is)
    (subst (λ (s : Bool). GoesOn workers script places p (port_pass o)
    (if s then port_pass q else b)) (sym there)
    (subst (λ (n : ℕ). GoesOn workers script places n (port_pass o) (port_pass q)) here
    went.looked.on))
goes_one workers script places p o q a b false is went rest =
    let there : (q.port == p) ≡ false = ap (λ (n : ℕ). n == p) went.port ∙ is in
    subst (λ (s : Bool). GoesOn workers script places p (if s then port_pass o else a)
    (if q.port == p then port_pass q else b)) (sym is)
    (subst (λ (s : Bool). GoesOn workers script places p a (if s then port_pass q else b))
    (sym there) rest)

pub goes_among : NoLookLaw → (workers : ℕ) (script : ScriptValue) (places p : ℕ)
    (old new closed : List PortView) → AllZip (WentOn workers script places) old new →
    GoesOn workers script places p (pass_among (old ++ closed) p)
    (pass_among (new ++ closed) p)
goes_among law workers script places p [] [] closed went =
    law workers script places p (pass_among closed p)
goes_among law workers script places p [] (q ∷ qs) closed went = absurd went
goes_among law workers script places p (o ∷ os) [] closed went = absurd went
goes_among law workers script places p (o ∷ os) (q ∷ qs) closed went =
    goes_one workers script places p o q (pass_among (os ++ closed) p) (pass_among (qs ++ closed) p)
    (o.port == p) refl went.0 (goes_among law workers script places p os qs closed went.1)

pub numbers_went : (workers : ℕ) (script : ScriptValue) (places : ℕ) (old new : List PortView) →
    AllZip (WentOn workers script places) old new → numbers_of new ≡ numbers_of old
numbers_went workers script places [] [] went = refl
numbers_went workers script places [] (q ∷ qs) went = absurd went
numbers_went workers script places (p ∷ ps) [] went = absurd went
numbers_went workers script places (p ∷ ps) (q ∷ qs) went =
    ap (λ (n : ℕ). n ∷ numbers_of qs) went.0.port
    ∙ ap (λ (ns : List ℕ). p.port ∷ ns) (numbers_went workers script places ps qs went.1)

-- a port's pass from the meeting before: the feeder fed since, and the port went on
goes_since : NoLookLaw → (workers : ℕ) (script : ScriptValue) (places p : ℕ) (met old new : Crew) →
    (p == feeder_number) ≡ false → old.ports.items ≡ met.ports.items →
    old.closed.items ≡ met.closed.items → new.closed.items ≡ old.closed.items →
    AllZip (WentOn workers script places) old.ports.items new.ports.items →
    GoesOn workers script places p (passes_of met p) (passes_of new p)
goes_since law workers script places p met old new other ports closed shut went =
    let was : passes_of met p ≡ pass_among (old.ports.items ++ old.closed.items) p =
    pass_of_port met.feeding.pass (all_ports met) p other
    ∙ sym (ap (λ (l : List PortView). pass_among (l ++ met.closed.items) p) ports)
    ∙ sym (ap (λ (l : List PortView). pass_among (old.ports.items ++ l) p) closed) in
    let now : passes_of new p ≡ pass_among (new.ports.items ++ old.closed.items) p =
    pass_of_port new.feeding.pass (all_ports new) p other
    ∙ ap (λ (l : List PortView). pass_among (new.ports.items ++ l) p) shut in
    subst (λ (a : Pass). GoesOn workers script places p a (passes_of new p)) (sym was)
    (subst (λ (b : Pass). GoesOn workers script places p
    (pass_among (old.ports.items ++ old.closed.items) p) b) (sym now)
    (goes_among law workers script places p old.ports.items new.ports.items old.closed.items went))

-- ---- one number in the stage

-- what was noted of a number, where it is a port's; and nothing, where it isn't
record IsThrough (workers : ℕ) (script : ScriptValue) (places p : ℕ) (was : List Note) (t : Stand)
    (old new : Pass) : Type 0 where
  pub now : List Note
  pub is : is_port script p ≡ true → IsPort workers script places p now t new
  pub went : is_port script p ≡ true →
      Went workers script Working p was now old.shares new.shares
  pub none : is_port script p ≡ false → now ≡ []

through_port : LooksLaw → (workers : ℕ) (script : ScriptValue) (places p : ℕ) (was : List Note)
    (t : Stand) (old new : Pass) → is_port script p ≡ true → t ≡ opened script p →
    GoesOn workers script places p old new → IsPort workers script places p was t old →
    IsThrough workers script places p was t old new
through_port law workers script places p was t old new port stood goes is =
    let gone = law workers script places p Working was
    (all_due (closing script (place_in p script.ports))) old new tt goes
    (subst (λ (s : Stand). IsPort workers script places p was s old) stood is) in
    record {
      now = gone.0;
      is = λ yes. subst (λ (s : Stand). IsPort workers script places p gone.0 s new)
          (sym stood) gone.1;
      went = λ yes. gone.2;
      none = λ no. let wrong : true ≡ false = sym port ∙ no in absurd (cc wrong);
    }

through : LooksLaw → (workers : ℕ) (script : ScriptValue) (places p : ℕ) (was : List Note)
    (t : Stand) (old new : Pass) (b : Bool) → is_port script p ≡ b →
    (is_port script p ≡ true → t ≡ opened script p) →
    (is_port script p ≡ true → GoesOn workers script places p old new) →
    (is_port script p ≡ true → IsPort workers script places p was t old) →
    IsThrough workers script places p was t old new
through law workers script places p was t old new true port stood goes is =
    through_port law workers script places p was t old new port (stood port) (goes port) (is port)
through law workers script places p was t old new false other stood goes is = record {
  now = [];
  is = λ yes. let wrong : true ≡ false = sym yes ∙ other in absurd (cc wrong);
  went = λ yes. let wrong : true ≡ false = sym yes ∙ other in absurd (cc wrong);
  none = λ no. refl;
}

-- ---- the stage

-- what the feeders did since the meeting before
grown_since : (feeders : ℕ) (script : ScriptValue) (capture : Capture) (places : ℕ)
    (met old new : FeederView) →
    FedOn places 0 (falling_time 0) (downs_after script 0) (shares_in met) (shares_in old) →
    HaveAllFed feeders script capture places old new → (k : ℕ) →
    Grows IsFeeders (shares_in met k) (shares_in new k)
grown_since feeders script capture places met old new fell fed k =
    grows_both IsFeeders (shares_in met k) (shares_in old k) (shares_in new k) (fell.grows k)
    (fed.grows k)

pub worked : WorkLaws → (workers feeders : ℕ) (script : ScriptValue) (capture : Capture)
    (plane : Plane) (old mid new : Crew) → order_of plane ≡ script.ports → IsCrewOf plane old →
    AreReady script (places_of plane) old →
    HaveWorked workers feeders script capture (places_of plane) old mid →
    AreMet (order_of plane) (passes_of mid) (passes_of new) →
    numbers_of new.ports.items ≡ numbers_of mid.ports.items →
    IsAtMeeting script (places_of plane) (size_of workers feeders capture) 0 new
worked laws workers feeders script capture plane old mid new order crew ready did meets numbers =
    let places = places_of plane in
    let frames = length capture.frames in
    let met = ready.met in
    let opened_all = ready.opened in
    let with_all = opened_all.opened workers in
    let met_all : AreMet script.ports (passes_of mid) (passes_of new) =
    subst (λ (l : List ℕ). AreMet l (passes_of mid) (passes_of new)) order meets in
    let none : is_port script feeder_number ≡ false =
    sym (ap (λ (l : List ℕ). list_any (nat_eq feeder_number) l) order)
    ∙ crew.all.set_up.no_feeder in
    let before = laws.all workers script places (passes_of met) with_all.notes with_all.stands
    with_all.open_to in
    let stood = laws.each workers script places (passes_of met) with_all.notes with_all.stands
    with_all.open_to in
    let at_port : (p : ℕ) → IsThrough workers script places p (with_all.notes p)
    (with_all.stands p) (passes_of met p) (passes_of mid p) =
    λ p. through laws.looks workers script places p (with_all.notes p) (with_all.stands p)
    (passes_of met p) (passes_of mid p) (is_port script p) refl (stood p)
    (λ is. goes_since laws.no_look workers script places p met old mid
    (no_feeder script p (p == feeder_number) refl none is) ready.ports ready.closed did.closed
    did.went_on) (before.are.ports p) in
    let order_is : numbers_of new.ports.items ≡ script.ports =
    numbers ∙ numbers_went workers script places old.ports.items mid.ports.items did.went_on
    ∙ ap (λ (l : List PortView). numbers_of l) ready.ports ∙ opened_all.in_order in
    record {
      notes = λ p. (at_port p).now;
      stands = with_all.stands;
      ended = record {
        meeting = laws.meeting workers script places Working Working (passes_of met)
            (passes_of mid) (passes_of new) with_all.notes (λ p. (at_port p).now)
            with_all.stands with_all.stands (some_place plane) (omega arith, omega arith)
            before (λ p. (at_port p).is) (λ p. (at_port p).went) (λ p. (at_port p).none)
            (laws.feeder script (shares_in met.feeding.pass) (shares_in mid.feeding.pass)
            (grown_since feeders script capture places met.feeding.pass old.feeding.pass
            mid.feeding.pass ready.fell did.fed)) met_all;
        fed = fed_at_meeting laws.meets script feeders places (downs_in_effect script frames)
            (passes_of mid) (passes_of new) met_all
            (did.fed.on (ready.fell.on 0 [] (omega arith) opened_all.early));
        before = λ port is sooner. absurd (omega (arith, sooner));
        behind = λ port is later. stood port is;
        sums = λ port is shut.
            let wrong : true ≡ false =
            sym (ap (λ (t : Stand). t.is_open) (stood port is)) ∙ shut in absurd (cc wrong);
      };
      are_open = λ port is. ap (λ (l : List ℕ). list_any (nat_eq port) l) order_is ∙ is
          ∙ sym (ap (λ (t : Stand). t.is_open) (stood port is));
    }
