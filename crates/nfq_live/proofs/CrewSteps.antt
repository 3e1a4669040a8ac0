-- A crew goes on: one of its ports looks or sends, closes, or all its passes meet.
use Rattle.std.proofs.Common.{◌≡◌, ◌≢◌, ◌<◌, ◌≤◌, ◌⊎◌, ◌∙◌, ◌++◌, ◌∷◌, [], ℕ, List, true, false, ap}
use Rattle.std.proofs.Common.{arith}
use Rattle.std.proofs.Common.{inl, inr}
use Rattle.std.proofs.Common.{length, refl, subst, sym}
use Rattle.std.specs.Prelude.{◌==◌, nat_eq, slice_index, slice_index_or}
use Rattle.std.specs.List.{list_any, remove}
use Rattle.std.proofs.lemmas.Bool.{cases_Bool, eqb-false, eqb-true}
use Rattle.std.proofs.lemmas.List.{length-map}
use Rattle.packet_entry.specs.declared.letter.Letter.{Letter}
use Rattle.histories.specs.declared.entry.Entry.{Entry}
use Rattle.inspector_script.specs.Scripts.{ScriptValue}
use Rattle.run_parts.specs.Ports.{is_port}
use Rattle.plane.specs.declared.plane.Plane.{Plane}
use Rattle.plane.specs.Passes.{IsPortOf, PortView}
use Rattle.place_rows.specs.Rows.{id_of}
use Rattle.plane.specs.Planes.{order_of, places_of}
use Rattle.live_runs.specs.Calls.{ShutsAll}
use Rattle.live_runs.specs.ClosedPlanes.{sent_at, sent_by_all}
use Rattle.live_runs.specs.Doing.{GoesOn}
use Rattle.live_runs.specs.Passes.{AreMet, Pass, Shuts, is_pass}
use Rattle.live_runs.specs.Seen.{Shares, all_theirs}
use Rattle.live_passes.specs.Numbered.{AreAll, StaysPort, numbers_of, passes_in}
use Rattle.live_passes.specs.Views.{port_pass}
use Rattle.nfq_live.specs.declared.crew.Crew.{Crew}
use Rattle.live_work.specs.declared.feeding.Feeding.{Feeding}
use Rattle.nfq_live.specs.Crews.{AllLookOn, AreReceived, HaveMinds, IsCrewOf, OneShuts}
use Rattle.nfq_live.specs.Crews.{PortsAlone, is_open_in, passes_of}
use Rattle.live_work.specs.Feeding.{IsFeedingOf}
use Rattle.live_work.specs.declared.mind.Mind.{Mind}
use Rattle.live_work.specs.Minds.{IsMind}
use Rattle.live_work.specs.Looking.{LooksOn}
use Rattle.nfq_live.proofs.AllPasses.{GoesOnAt, closes_at, in_order}
use Rattle.live_work.proofs.MailboxLooks.{NextLookLaw, NoLookLaw}
use Rattle.nfq_live.proofs.PortNumbers.{its_number, number_at, zip_at}
use Rattle.nfq_live.proofs.WholeLocks.{UnionLaws, every_index}

-- a port's pass has a pass of each place's lock
pub port_long : (plane : Plane) (p : PortView) → IsPortOf plane p →
    places_of plane ≡ length p.trail.known
port_long plane p of =
    sym (of.of.as_many ∙ ap length of.of.locks_are ∙ length-map plane.shared.locks.items id_of
    ∙ plane.shared.sized)

-- ---- the same crew

-- a crew with this feeder, these open ports and these closed ones
pub record IsMadeOf (c : Crew) (feeding : Feeding) (ports closed : List PortView) : Type 0 where
  pub feeding_is : c.feeding ≡ feeding
  pub ports_are : c.ports.items ≡ ports
  pub closed_are : c.closed.items ≡ closed

pub crew_of : (plane : Plane) (c : Crew) (feeding : Feeding) (ports closed : List PortView) →
    IsMadeOf c feeding ports closed → AreAll plane feeding.pass ports closed →
    IsFeedingOf plane feeding → IsCrewOf plane c
crew_of plane c feeding ports closed made all looks = record {
  all = subst (λ (f : Feeding). AreAll plane f.pass c.ports.items c.closed.items)
      (sym made.feeding_is)
      (subst (λ (l : List PortView). AreAll plane feeding.pass l c.closed.items)
      (sym made.ports_are)
      (subst (λ (l : List PortView). AreAll plane feeding.pass ports l) (sym made.closed_are)
      all));
  looks = subst (λ (f : Feeding). IsFeedingOf plane f) (sym made.feeding_is) looks;
}

pub passes_made : (c : Crew) (feeding : Feeding) (ports closed : List PortView) →
    IsMadeOf c feeding ports closed → (port : ℕ) →
    passes_of c port ≡ passes_in feeding.pass (ports ++ closed) port
passes_made c feeding ports closed made port =
    ap (λ (f : Feeding). passes_in f.pass (c.ports.items ++ c.closed.items) port) made.feeding_is
    ∙ ap (λ (l : List PortView). passes_in feeding.pass (l ++ c.closed.items) port) made.ports_are
    ∙ ap (λ (l : List PortView). passes_in feeding.pass (ports ++ l) port) made.closed_are

-- ---- the port at an index

pub port_in_script : (plane : Plane) (script : ScriptValue) (c : Crew) (at : ℕ) (d : PortView) →
    IsCrewOf plane c → order_of plane ≡ script.ports → at < length c.ports.items →
    is_port script (slice_index_or c.ports.items at d).port ≡ true
port_in_script plane script c at d crew order less =
    subst (λ (l : List ℕ). list_any (nat_eq (slice_index_or c.ports.items at d).port) l ≡ true)
    order (in_order plane c.feeding.pass c.ports.items c.closed.items at d less crew.all)

-- its pass, and what is kept beside it
pub port_there : (plane : Plane) (c : Crew) (at : ℕ) (x : PortView) → IsCrewOf plane c →
    at < length c.ports.items → x ≡ slice_index_or c.ports.items at x → IsPortOf plane x
port_there plane c at x crew less is =
    subst (λ (p : PortView). IsPortOf plane p) (sym is)
    (every_index (IsPortOf plane) c.ports.items at x crew.all.speak less)

pub mind_there : (script : ScriptValue) (c : Crew) (at : ℕ) (x : PortView) (y : Mind) →
    HaveMinds script c → at < length c.ports.items → x ≡ slice_index_or c.ports.items at x →
    y ≡ slice_index_or c.minds.items at y → IsMind script x y
mind_there script c at x y minds less is kept =
    subst (λ (p : PortView). IsMind script p y) (sym is)
    (subst (λ (m : Mind). IsMind script (slice_index_or c.ports.items at x) m) (sym kept)
    (zip_at (IsMind script) c.ports.items c.minds.items at x y minds less))

-- where at most passes of open ports went on it is the same
pub as_many_still : (a b : Crew) → PortsAlone a b → length b.ports.items ≡ length a.ports.items
as_many_still a b alone =
    sym (length-map b.ports.items (λ (p : PortView). p.port))
    ∙ ap (λ (l : List ℕ). length l) alone.numbers
    ∙ length-map a.ports.items (λ (p : PortView). p.port)

pub number_still : (a b : Crew) (at : ℕ) (d e : PortView) → PortsAlone a b →
    at < length a.ports.items →
    (slice_index_or b.ports.items at e).port ≡ (slice_index_or a.ports.items at d).port
number_still a b at d e alone less =
    sym (number_at b.ports.items at e (omega (arith, less, as_many_still a b alone)))
    ∙ ap (λ (l : List ℕ). slice_index l at) alone.numbers
    ∙ number_at a.ports.items at d less

-- ---- looks

pub alone_none : (c : Crew) → PortsAlone c c
alone_none c = record { numbers = refl; closed = refl; feeding = refl }

pub alone_both : (a b c : Crew) → PortsAlone a b → PortsAlone b c → PortsAlone a c
alone_both a b c one two = record {
  numbers = two.numbers ∙ one.numbers;
  closed = two.closed ∙ one.closed;
  feeding = two.feeding ∙ one.feeding;
}

pub still_open : (a b : Crew) → PortsAlone a b → (port : ℕ) →
    is_open_in b port ≡ is_open_in a port
still_open a b alone port = ap (λ (l : List ℕ). list_any (nat_eq port) l) alone.numbers

pub none_look : NoLookLaw → (script : ScriptValue) (places : ℕ) (c : Crew) →
    AllLookOn script places c c
none_look law script places c = record {
  alone = alone_none c;
  each = λ workers port is. law workers script places port (passes_of c port);
}

pub all_look_on : NextLookLaw → (script : ScriptValue) (places : ℕ) (a b c : Crew) →
    AllLookOn script places a b → AllLookOn script places b c → AllLookOn script places a c
all_look_on law script places a b c one two = record {
  alone = alone_both a b c one.alone two.alone;
  each = λ workers port is. law workers script places port (passes_of a port) (passes_of b port)
      (passes_of c port) (one.each workers port is)
      (two.each workers port (still_open a b one.alone port ∙ is));
}

-- one more port looked
pub list_looks : NextLookLaw → (workers : ℕ) (plane : Plane) (script : ScriptValue) (places : ℕ)
    (start c : Crew) (news : List PortView) (old new : PortView) →
    GoesOnAt plane c.feeding.pass c.ports.items news c.closed.items old new →
    LooksOn workers script places old new → (port : ℕ) →
    GoesOn workers script places port (passes_of start port) (passes_of c port) →
    GoesOn workers script places port (passes_of start port)
    (passes_in c.feeding.pass (news ++ c.closed.items) port)
list_looks law workers plane script places start c news old new goes looks port was =
    by (cases_Bool (port == old.port))
  where
    its : GoesOn workers script places old.port (passes_of c old.port)
        (passes_in c.feeding.pass (news ++ c.closed.items) old.port)
    its = subst (λ (p : Pass). GoesOn workers script places old.port p
        (passes_in c.feeding.pass (news ++ c.closed.items) old.port)) (sym goes.had)
        (subst (λ (p : Pass). GoesOn workers script places old.port (port_pass old) p)
        (sym goes.has) looks.on)

    by : ((port == old.port) ≡ true) ⊎ ((port == old.port) ≡ false) →
        GoesOn workers script places port (passes_of start port)
        (passes_in c.feeding.pass (news ++ c.closed.items) port)
    by (inl h) =
        law workers script places port (passes_of start port) (passes_of c port)
        (passes_in c.feeding.pass (news ++ c.closed.items) port) was
        (subst (λ (q : ℕ). GoesOn workers script places q (passes_of c q)
        (passes_in c.feeding.pass (news ++ c.closed.items) q)) (sym (eqb-true port old.port h))
        its)
    by (inr h) =
        subst (λ (p : Pass). GoesOn workers script places port (passes_of start port) p)
        (sym (goes.others port (eqb-false port old.port h))) was

-- ---- a port closes

pub record CrewCloses (plane : Plane) (places : ℕ) (c n : Crew) (old : PortView) : Type 0 where
  pub crew : IsCrewOf plane n
  pub shuts : OneShuts places old.port c n

pub crew_closes : UnionLaws → (plane : Plane) (places : ℕ) (c n : Crew) (at : ℕ)
    (old new : PortView) →
    IsMadeOf n c.feeding (remove c.ports.items at) (c.closed.items ++ new ∷ []) →
    at < length c.ports.items → old ≡ slice_index_or c.ports.items at old → IsCrewOf plane c →
    StaysPort plane old new → Shuts places old.port (port_pass old) (port_pass new) →
    ((k : ℕ) → places ≤ k → (port_pass new).shares k ≡ (port_pass old).shares k) →
    CrewCloses plane places c n old
crew_closes laws plane places c n at old new made less is crew stays shuts beyond =
    let ports = remove c.ports.items at in
    let closed = c.closed.items ++ new ∷ [] in
    let g = closes_at plane c.feeding.pass c.closed.items laws c.ports.items at old new less is
    crew.all stays in
    record {
      crew = crew_of plane n c.feeding ports closed made g.all crew.looks;
      shuts = record {
        shuts = subst (λ (p : Pass). Shuts places old.port p (passes_of n old.port)) (sym g.had)
            (subst (λ (p : Pass). Shuts places old.port (port_pass old) p)
            (sym (passes_made n c.feeding ports closed made old.port ∙ g.has)) shuts);
        beyond = λ k most.
            ap (λ (p : Pass). p.shares k)
            (passes_made n c.feeding ports closed made old.port ∙ g.has)
            ∙ beyond k most ∙ ap (λ (p : Pass). p.shares k) (sym g.had);
        others = λ p other. passes_made n c.feeding ports closed made p ∙ g.others p other;
        gone = ap (λ (l : List PortView). list_any (nat_eq old.port) (numbers_of l))
            made.ports_are ∙ g.gone;
        stay = λ p other. ap (λ (l : List PortView). list_any (nat_eq p) (numbers_of l))
            made.ports_are ∙ g.stay p other;
        feeding = made.feeding_is;
      };
    }

pub shut_at : (plane : Plane) (places at : ℕ) (c n : Crew) (old d : PortView) →
    at < length c.ports.items → old ≡ slice_index_or c.ports.items at old →
    CrewCloses plane places c n old →
    OneShuts places (slice_index_or c.ports.items at d).port c n
shut_at plane places at c n old d less is closes =
    subst (λ (p : ℕ). OneShuts places p c n) (sym (its_number c.ports.items at d old less is))
    closes.shuts

-- ---- what was received

abbrev pub MeetsNothingLaw : Type 0
MeetsNothingLaw = (port places : ℕ) (old new : Shares) (rest : ℕ → List Entry) →
    ((k : ℕ) → new k ≡ old k ++ all_theirs (rest k)) →
    sent_at port new places ≡ sent_at port old places

abbrev pub ClosesNothingLaw : Type 0
ClosesNothingLaw = (port other places : ℕ) (old new : Shares) → ShutsAll places other old new →
    sent_at port new places ≡ sent_at port old places

abbrev pub SumLaw : Type 0
SumLaw = (ports : List ℕ) (port places : ℕ) (old new : ℕ → Pass) →
    ((p : ℕ) → is_pass ports p ≡ true →
    sent_at port (new p).shares places ≡ sent_at port (old p).shares places) →
    sent_by_all ports places new port ≡ sent_by_all ports places old port

pub received_met : MeetsNothingLaw → SumLaw → (ports : List ℕ) (places : ℕ) (old new : Crew) →
    AreMet ports (passes_of old) (passes_of new) →
    numbers_of new.ports.items ≡ numbers_of old.ports.items → AreReceived ports places old →
    AreReceived ports places new
received_met meets sums ports places old new met numbers was = record {
  all = λ port is.
      sums ports port places (passes_of old) (passes_of new) (λ p in_ports.
      meets port places (passes_of old p).shares (passes_of new p).shares (λ k. met.rest k p)
      (λ k. met.longer k p in_ports))
      ∙ was.all port (sym (ap (λ (l : List ℕ). list_any (nat_eq port) l) numbers) ∙ is)
      ∙ ap (λ (l : List Letter). length l) (sym (met.letters port));
}

pub received_shut : ClosesNothingLaw → SumLaw → (ports : List ℕ) (places closes : ℕ)
    (old new : Crew) → OneShuts places closes old new → AreReceived ports places old →
    AreReceived ports places new
received_shut law sums ports places closes old new shut was = record {
  all = λ port is.
      sums ports port places (passes_of old) (passes_of new)
      (λ p in_ports. each port p (cases_Bool (p == closes)))
      ∙ was.all port (sym (shut.stay port (apart port is)) ∙ is)
      ∙ ap (λ (p : Pass). length p.letters) (sym (shut.others port (apart port is)));
}
  where
    apart : (port : ℕ) → is_open_in new port ≡ true → port ≢ closes
    apart port is same =
        let wrong : true ≡ false =
        sym is ∙ ap (λ (q : ℕ). is_open_in new q) same ∙ shut.gone in
        absurd (cc)

    each : (port p : ℕ) → ((p == closes) ≡ true) ⊎ ((p == closes) ≡ false) →
        sent_at port (passes_of new p).shares places
        ≡ sent_at port (passes_of old p).shares places
    each port p (inl h) =
        subst (λ (q : ℕ). sent_at port (passes_of new q).shares places
        ≡ sent_at port (passes_of old q).shares places) (sym (eqb-true p closes h))
        (law port closes places (passes_of old closes).shares (passes_of new closes).shares
        shut.shuts.shuts)
    each port p (inr h) =
        ap (λ (q : Pass). sent_at port q.shares places) (shut.others p (eqb-false p closes h))
