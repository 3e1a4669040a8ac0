-- The ports of a run open, one after the other, and behind each all passes meet.
use Rattle.std.proofs.Common.{◌≡◌, ◌<◌, ◌≤◌, ◌⊎◌, ◌+◌, ◌∙◌, ◌++◌, ◌∷◌, [], ℕ, zero, suc, List, true}
use Rattle.std.proofs.Common.{false, ap, arith, inl, inr, length, refl, subst, sym}
use Rattle.std.specs.Prelude.{◌==◌, IfSome, Option, if◌then◌else◌, slice_index, slice_index_or}
use Rattle.std.proofs.lemmas.Bool.{cases_Bool, eqb-false, eqb-true}
use Rattle.std.proofs.lemmas.List.{length-map}
use Rattle.glance.specs.Views.{PassView}
use Rattle.histories.specs.declared.entry.Entry.{Entry}
use Rattle.script_lines.specs.declared.ask.Ask.{Ask}
use Rattle.script_lines.specs.declared.line.Down.{Down}
use Rattle.inspector_script.specs.Scripts.{IsScript, ScriptValue, closing, opening}
use Rattle.run_parts.specs.Log.{Note, all_due}
use Rattle.run_parts.specs.Ports.{ArePlaced, is_port, place_in}
use Rattle.plane.specs.declared.plane.Plane.{Plane}
use Rattle.plane.specs.Passes.{FeederView, PortView}
use Rattle.plane.specs.Planes.{board_of}
use Rattle.live_runs.specs.Laws.{OpensNext}
use Rattle.live_runs.specs.Doing.{IsDoing}
use Rattle.live_runs.specs.Meetings.{IsOpenTo}
use Rattle.live_runs.specs.Owners.{IsFeeding}
use Rattle.live_runs.specs.Passes.{AreMet, Pass, feeder_number, seen_at, with_pass}
use Rattle.live_runs.specs.Seen.{Seen, Shares, all_theirs}
use Rattle.live_runs.specs.Stages.{Opening}
use Rattle.live_runs.specs.Stands.{Now, Stand, opened, unopened}
use Rattle.live_passes.specs.Numbered.{AreAll, StaysFeeder, numbers_of, passes_in}
use Rattle.live_passes.specs.Views.{feeder_pass, port_pass}
use Rattle.nfq_live.specs.declared.crew.Crew.{Crew}
use Rattle.live_work.specs.declared.feeding.Feeding.{Feeding}
use Rattle.nfq_live.specs.Crews.{IsCrewOf, OnePass, passes_of}
use Rattle.live_work.specs.Feeding.{AreFeeding, FedOn}
use Rattle.nfq_live.specs.Openings.{HaveOpened, IsOpenedBy}
use Rattle.live_work.specs.Sending.{SaysTo}
use Rattle.nfq_live.proofs.AllPasses.{GoesOnAt, WholeLaw, feeder_goes_on}
use Rattle.nfq_live.proofs.PortNumbers.{number_at}

-- ---- the laws of openings

abbrev pub BeginsLaw : Type 0
BeginsLaw = (workers : ℕ) (script : ScriptValue) (places port : ℕ) (passes : ℕ → Pass)
    (notes : ℕ → List Note) (stands : ℕ → Stand) → is_port script port ≡ true →
    IsOpenTo workers script places (place_in port script.ports) passes notes stands →
    IsDoing workers script places (Opening (place_in port script.ports)) port (notes port)
    (passes port) (unopened script port) (passes port)

abbrev pub MeetsLaw : Type 0
MeetsLaw = (time : ℕ) (fallen : List Down) (xs : List Seen) (es : List Entry) →
    IsFeeding time fallen xs → IsFeeding time fallen (xs ++ all_theirs es)

-- ---- where a port stands in a script

pub placed_at : (script : ScriptValue) (f : ℕ → ℕ) (first : ℕ) (ports : List ℕ) (i : ℕ) →
    ArePlaced script f first ports → i < length ports →
    (f (slice_index ports i) ≡ first + i) × (is_port script (slice_index ports i) ≡ true)
placed_at script f first [] i placed less = absurd (omega (arith, less))
placed_at script f first (p ∷ ports) zero placed less = (omega (arith, placed.0), placed.1)
placed_at script f first (p ∷ ports) (suc i) placed less =
    let more : suc i < suc (length ports) = less in
    let rest = placed_at script f (first + 1) ports i placed.2 (omega (arith, more)) in
    (omega (arith, rest.0), rest.1)

-- the open ports stand in the script's order
pub as_long : (script : ScriptValue) (ports : List PortView) → numbers_of ports ≡ script.ports →
    length ports ≡ length script.ports
as_long script ports same =
    sym (length-map ports (λ (p : PortView). p.port)) ∙ ap (λ (l : List ℕ). length l) same

pub within_ports : (script : ScriptValue) (ports : List PortView) (place : ℕ) →
    numbers_of ports ≡ script.ports → place < length script.ports → place < length ports
within_ports script ports place same less = omega (arith, less, as_long script ports same)

-- ---- a port opens

pub no_ports : (ps : List PortView) → numbers_of ps ≡ [] → ps ≡ []
no_ports [] is = refl
no_ports (p ∷ ps) is = absurd (cc)

-- one pass went on, and the others are what they were
with_one : (c m : Crew) (port : ℕ) → OnePass port c m → (p : ℕ) →
    passes_of m p ≡ with_pass port (passes_of m port) (passes_of c) p
with_one c m port one p = by (cases_Bool (p == port))
  where
    by : ((p == port) ≡ true) ⊎ ((p == port) ≡ false) →
        passes_of m p ≡ with_pass port (passes_of m port) (passes_of c) p
    by (inl h) = rw h (ap (λ (q : ℕ). passes_of m q) (eqb-true p port h))
    by (inr h) = rw h (one.others p (eqb-false p port h))

pub passes_with : (c m : Crew) (port : ℕ) → OnePass port c m →
    passes_of m ≡ with_pass port (passes_of m port) (passes_of c)
passes_with c m port one = λ j p. with_one c m port one p j

-- the port did what its opening asks for
pub has_opened : BeginsLaw → (workers : ℕ) (script : ScriptValue) (places port : ℕ) (c m : Crew)
    (notes : ℕ → List Note) (stands : ℕ → Stand) → is_port script port ≡ true →
    IsOpenTo workers script places (place_in port script.ports) (passes_of c) notes stands →
    SaysTo script places port (opening script (place_in port script.ports)) []
    (passes_of c port) (passes_of m port) →
    IsDoing workers script places (Opening (place_in port script.ports)) port (notes port)
    (passes_of c port) (opened script port) (passes_of m port)
has_opened law workers script places port c m notes stands is was says =
    (says.each workers).on (Opening (place_in port script.ports)) (notes port)
    (passes_of c port) (Now [] (all_due (closing script (place_in port script.ports)))) refl
    (law workers script places port (passes_of c) notes stands is was)

-- the feeder's places stay as they were
pub feeds_still : MeetsLaw → (script : ScriptValue) (places time : ℕ) (fallen : List Down)
    (m n : Crew) → AreMet script.ports (passes_of m) (passes_of n) →
    AreFeeding places time fallen (λ k. seen_at (passes_of m) k feeder_number) →
    AreFeeding places time fallen (λ k. seen_at (passes_of n) k feeder_number)
feeds_still law script places time fallen m n met was k less =
    subst (λ (xs : List Seen). IsFeeding time fallen xs) (sym (met.longer k feeder_number refl))
    (law time fallen (seen_at (passes_of m) k feeder_number) (met.rest k feeder_number)
    (was k less))

pub same_feeder : (c m : Crew) → m.feeding ≡ c.feeding →
    passes_of m feeder_number ≡ passes_of c feeder_number
same_feeder c m same = ap (λ (f : Feeding). feeder_pass f.pass) same

-- so it has with so many workers
opened_next : BeginsLaw → OpensNext → (workers : ℕ) (script : ScriptValue) (places place port : ℕ)
    (c m n : Crew) → 0 < places → IsScript script → is_port script port ≡ true →
    place_in port script.ports ≡ place → suc (place_in port script.ports) ≡ place + 1 →
    IsOpenedBy workers script places place c →
    SaysTo script places port (opening script (place_in port script.ports)) []
    (passes_of c port) (passes_of m port) →
    AreMet script.ports (with_pass port (passes_of m port) (passes_of c)) (passes_of n) →
    IsOpenedBy workers script places (place + 1) n
opened_next begins next workers script places place port c m n some facts is here up was says
    moved =
    let open_to : IsOpenTo workers script places (place_in port script.ports) (passes_of c)
    was.notes was.stands =
    subst (λ (k : ℕ). IsOpenTo workers script places k (passes_of c) was.notes was.stands)
    (sym here) was.open_to in
    let does = has_opened begins workers script places port c m was.notes was.stands is open_to
    says in
    record {
      notes = λ p. if p == port then does.notes else was.notes p;
      stands = λ p. if p == port then opened script port else was.stands p;
      open_to = subst (λ (k : ℕ). IsOpenTo workers script places k (passes_of n)
          (λ p. if p == port then does.notes else was.notes p)
          (λ p. if p == port then opened script port else was.stands p)) up
          (next workers script places port (passes_of c) (passes_of n) was.notes was.stands
          (passes_of m port) some facts is open_to does moved);
    }

pub opens_next : BeginsLaw → OpensNext → MeetsLaw → (script : ScriptValue) (places place port : ℕ)
    (c m n : Crew) → 0 < places → IsScript script → is_port script port ≡ true →
    place_in port script.ports ≡ place → HaveOpened script places place c →
    OnePass port c m → SaysTo script places port (opening script (place_in port script.ports)) []
    (passes_of c port) (passes_of m port) → AreMet script.ports (passes_of m) (passes_of n) →
    numbers_of n.ports.items ≡ numbers_of m.ports.items →
    numbers_of n.closed.items ≡ numbers_of m.closed.items →
    n.feeding.pass.fed ≡ m.feeding.pass.fed → HaveOpened script places (place + 1) n
opens_next begins next meets script places place port c m n some facts is here was one says met
    numbers closed fed =
    let moved : AreMet script.ports (with_pass port (passes_of m port) (passes_of c))
    (passes_of n) =
    subst (λ (ps : ℕ → Pass). AreMet script.ports ps (passes_of n)) (passes_with c m port one)
    met in
    let up : suc (place_in port script.ports) ≡ place + 1 = omega (arith, here) in
    record {
      opened = λ workers. opened_next begins next workers script places place port c m n some facts
          is here up (was.opened workers) says moved;
      early = feeds_still meets script places 0 [] m n met (λ k less.
          subst (λ (p : Pass). IsFeeding 0 [] (p.shares k))
          (sym (same_feeder c m one.alone.feeding)) (was.early k less));
      none_fed = fed ∙ ap (λ (f : Feeding). f.pass.fed) one.alone.feeding ∙ was.none_fed;
      in_order = numbers ∙ one.alone.numbers ∙ was.in_order;
      none_closed = no_ports n.closed.items
          (closed ∙ ap numbers_of (one.alone.closed ∙ was.none_closed));
    }

-- the port at a place of the script said what its opening asks for
pub says_opening : (plane : Plane) (script : ScriptValue) (places port : ℕ)
    (feeder : FeederView) (ports news closed : List PortView) (old new : PortView)
    (asks : List Ask) → GoesOnAt plane feeder ports news closed old new → port ≡ old.port →
    asks ≡ opening script (place_in old.port script.ports) →
    SaysTo script places old.port asks [] (port_pass old) (port_pass new) →
    SaysTo script places port (opening script (place_in port script.ports)) []
    (passes_in feeder (ports ++ closed) port) (passes_in feeder (news ++ closed) port)
says_opening plane script places port feeder ports news closed old new asks goes same are says =
    subst (λ (q : ℕ). SaysTo script places q (opening script (place_in q script.ports)) []
    (passes_in feeder (ports ++ closed) q) (passes_in feeder (news ++ closed) q)) (sym same)
    (subst (λ (l : List Ask). SaysTo script places old.port l []
    (passes_in feeder (ports ++ closed) old.port) (passes_in feeder (news ++ closed) old.port)) are
    (subst (λ (p : Pass). SaysTo script places old.port asks [] p
    (passes_in feeder (news ++ closed) old.port)) (sym goes.had)
    (subst (λ (p : Pass). SaysTo script places old.port asks [] (port_pass old) p) (sym goes.has)
    says)))

-- it is the one at that place among the open ones
pub opening_port : (script : ScriptValue) (ports : List PortView) (place : ℕ) (x : PortView) →
    numbers_of ports ≡ script.ports → place < length ports → x ≡ slice_index_or ports place x →
    slice_index script.ports place ≡ x.port
opening_port script ports place x order less is =
    ap (λ (l : List ℕ). slice_index l place) (sym order) ∙ number_at ports place x less
    ∙ ap (λ (p : PortView). p.port) (sym is)

-- ---- the feeder goes on alone

pub feeder_crew : WholeLaw → (plane : Plane) (c n : Crew) → n.ports.items ≡ c.ports.items →
    n.closed.items ≡ c.closed.items → StaysFeeder plane c.feeding.pass n.feeding.pass →
    n.feeding.gauge ≡ c.feeding.gauge → IsCrewOf plane c → IsCrewOf plane n
feeder_crew law plane c n ports closed stays gauge crew = record {
  all = subst (λ (l : List PortView). AreAll plane n.feeding.pass l n.closed.items) (sym ports)
      (subst (λ (l : List PortView). AreAll plane n.feeding.pass c.ports.items l) (sym closed)
      (feeder_goes_on law plane c.feeding.pass n.feeding.pass c.ports.items c.closed.items stays
      crew.all));
  looks = record {
    looks = subst (λ (seen : Option PassView).
        IfSome seen (λ (g : PassView). g.board ≡ board_of plane)) (sym gauge) crew.looks.looks;
  };
}

pub earlier : (places sooner early late : ℕ) (lines : List Down) (old new : Shares) →
    sooner ≤ early → FedOn places early late lines old new →
    FedOn places sooner late lines old new
earlier places sooner early late lines old new less on = record {
  on = λ time fallen within were. on.on time fallen (omega (arith, within, less)) were;
  grows = on.grows;
}
