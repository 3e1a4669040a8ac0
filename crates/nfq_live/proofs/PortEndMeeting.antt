-- A port has ended, and all passes meet: what is known then, and how the next port begins its end.
use Rattle.std.proofs.Common.{◌≡◌, ◌≢◌, ◌<◌, ◌≤◌, ◌⊎◌, ◌∙◌, ◌++◌, ◌∷◌, [], ℕ, zero, suc, List}
use Rattle.std.proofs.Common.{true, false, ap, arith, inl, inr, length, refl, subst, sym}
use Rattle.std.specs.Prelude.{◌==◌}
use Rattle.std.proofs.lemmas.Bool.{cases_Bool, cases_lt, eqb-false, eqb-true}
use Rattle.std.proofs.lemmas.Bool.Decides.{eqb_tells}
use Rattle.packet_entry.specs.declared.letter.Letter.{Letter}
use Rattle.script_lines.specs.declared.ask.Ask.TheVariants.{Close}
use Rattle.inspector_script.specs.Scripts.{ScriptValue, closing}
use Rattle.run_parts.specs.Feeder.{downs_in_effect}
use Rattle.run_parts.specs.Log.{Due, Note, Shut, Still, all_due}
use Rattle.run_parts.specs.Ports.{is_port, place_in}
use Rattle.live_runs.specs.Laws.{EndsStage}
use Rattle.live_runs.specs.ClosedPlanes.{sent_at, sent_by_all}
use Rattle.live_runs.specs.Doing.{HasHeard, IsAnswering, IsDoing}
use Rattle.live_runs.specs.Meetings.{IsMeeting}
use Rattle.live_runs.specs.Owners.{IsFedByAll}
use Rattle.live_runs.specs.Passes.{AreMet, Pass, Shuts, feeder_number, seen_at}
use Rattle.live_runs.specs.Ports.{IsPort}
use Rattle.live_runs.specs.Seen.{Shares}
use Rattle.live_runs.specs.Stages.{Ending, Follows, Stage, Went, WentFeeding}
use Rattle.live_runs.specs.Stands.{AtEnd, IsDone, Stand, idle, shut_stand, side}
use Rattle.live_runs.specs.Sums.{WasSent}
use Rattle.nfq_live.specs.declared.crew.Crew.{Crew}
use Rattle.nfq_live.specs.Crews.{IsReceived, OneShuts, is_open_in, passes_of}
use Rattle.nfq_live.specs.Endings.{EndsTo, HasEnded, HasStopped, HaveEnded, IsAtMeeting}
use Rattle.nfq_live.specs.Endings.{stage_before}
use Rattle.nfq_live.specs.Sizes.{Size}
use Rattle.nfq_live.proofs.CrewSteps.{ClosesNothingLaw, MeetsNothingLaw, SumLaw}
use Rattle.nfq_live.proofs.FedPlaces.{FedMeetsLaw, fed_still}
use Rattle.nfq_live.proofs.PortEndStage.{apart_if_shut, same_place}

-- ---- laws

abbrev pub GoesLaw : Type 0
GoesLaw = (workers : ℕ) (script : ScriptValue) (places : ℕ) (stage : Stage) (port : ℕ)
    (was : List Note) (start : Pass) (t : Stand) (pass : Pass) → IsAnswering stage →
    (a : IsDoing workers script places stage port was start t pass) →
    Went workers script stage port was a.notes start.shares pass.shares

abbrev pub ClosesLaw : Type 0
ClosesLaw = (workers : ℕ) (script : ScriptValue) (places port : ℕ) (was : List Note)
    (start mid new : Pass) →
    (a : IsDoing workers script places (Ending (place_in port script.ports)) port was start
    (side (AtEnd []) (Still Close ∷ [])) mid) → Shuts places port mid new →
    ((k : ℕ) → places ≤ k → new.shares k ≡ mid.shares k) →
    Went workers script (Ending (place_in port script.ports)) port was
    (a.notes ++ Shut ∷ []) start.shares new.shares

abbrev pub ClosedLaw : Type 0
ClosedLaw = (workers : ℕ) (script : ScriptValue) (places port : ℕ) (was : List Note)
    (start mid new : Pass) → 0 < places →
    (a : IsDoing workers script places (Ending (place_in port script.ports)) port was start
    (side (AtEnd []) (Still Close ∷ [])) mid) → Shuts places port mid new →
    IsPort workers script places port (a.notes ++ Shut ∷ []) shut_stand new

abbrev pub RestsFeedingLaw : Type 0
RestsFeedingLaw = (script : ScriptValue) (stage : Stage) (shares : Shares) →
    WentFeeding script stage shares shares

abbrev pub ClosedSumLaw : Type 0
ClosedSumLaw = (workers : ℕ) (script : ScriptValue) (places port : ℕ) (stage : Stage)
    (passes : ℕ → Pass) (notes : ℕ → List Note) (stands : ℕ → Stand) →
    IsMeeting workers script places stage passes notes stands →
    (stands port).is_open ≡ false →
    WasSent workers script places port (sent_by_all script.ports places passes port) passes

abbrev pub StageSumLaw : Type 0
StageSumLaw = (workers : ℕ) (script : ScriptValue) (places port sum : ℕ) (stage : Stage)
    (old mid new : ℕ → Pass) (was now : ℕ → List Note) → is_port script port ≡ true →
    ((p : ℕ) → is_port script p ≡ true →
    Went workers script stage p (was p) (now p) (old p).shares (mid p).shares) →
    WentFeeding script stage (old feeder_number).shares (mid feeder_number).shares →
    ((k : ℕ) → seen_at mid k port ≡ seen_at old k port) → AreMet script.ports mid new →
    WasSent workers script places port sum old → WasSent workers script places port sum new

abbrev pub BeginsDoingLaw : Type 0
BeginsDoingLaw = (workers : ℕ) (script : ScriptValue) (places : ℕ) (stage : Stage) (port : ℕ)
    (was : List Note) (start : Pass) (t : Stand) → HasHeard stage t start.dids →
    IsPort workers script places port was t start →
    IsDoing workers script places stage port was start t start

-- ---- stages

pub follows_before : (ports : List ℕ) (place : ℕ) →
    Follows ports (stage_before place) (Ending place)
follows_before ports zero = (omega arith, omega arith)
follows_before ports (suc place) = (omega arith, omega arith)

-- ---- what was received of one port

pub still_received : MeetsNothingLaw → SumLaw → (ports : List ℕ) (places port : ℕ)
    (old new : Crew) → AreMet ports (passes_of old) (passes_of new) →
    IsReceived ports places old port → IsReceived ports places new port
still_received meets sums ports places port old new met was =
    sums ports port places (passes_of old) (passes_of new) (λ p in_ports.
    meets port places (passes_of old p).shares (passes_of new p).shares (λ k. met.rest k p)
    (λ k. met.longer k p in_ports))
    ∙ was ∙ ap (λ (l : List Letter). length l) (sym (met.letters port))

pub closed_received : ClosesNothingLaw → SumLaw → (ports : List ℕ) (places port : ℕ)
    (old new : Crew) → OneShuts places port old new → IsReceived ports places old port →
    IsReceived ports places new port
closed_received law sums ports places port old new shut was =
    sums ports port places (passes_of old) (passes_of new)
    (λ p in_ports. each p (cases_Bool (p == port)))
    ∙ was ∙ ap (λ (l : List Letter). length l) (sym shut.shuts.letters)
  where
    each : (p : ℕ) → ((p == port) ≡ true) ⊎ ((p == port) ≡ false) →
        sent_at port (passes_of new p).shares places
        ≡ sent_at port (passes_of old p).shares places
    each p (inl h) =
        subst (λ (q : ℕ). sent_at port (passes_of new q).shares places
        ≡ sent_at port (passes_of old q).shares places) (sym (eqb-true p port h))
        (law port port places (passes_of old port).shares (passes_of new port).shares
        shut.shuts.shuts)
    each p (inr h) =
        ap (λ (q : Pass). sent_at port q.shares places) (shut.others p (eqb-false p port h))

-- ---- how a port has ended

-- one port of them
pub record StopsAs (workers : ℕ) (script : ScriptValue) (places place p : ℕ) (was : List Note)
    (met : Pass) (stood : Stand) (c : Crew) : Type 0 where
  pub now : List Note
  pub stand : Stand
  pub port : is_port script p ≡ true → IsPort workers script places p now stand (passes_of c p)
  pub went : is_port script p ≡ true →
      Went workers script (Ending place) p was now met.shares (passes_of c p).shares
  pub none : is_port script p ≡ false → now ≡ []
  pub other : is_port script p ≡ true → place_in p script.ports ≢ place → stand ≡ stood
  pub mine : is_port script p ≡ true → place_in p script.ports ≡ place → HasEnded stand
  pub is_open : is_port script p ≡ true → is_open_in c p ≡ stand.is_open

no_port : {X : Type 0} (script : ScriptValue) (p : ℕ) → is_port script p ≡ false →
    is_port script p ≡ true → X
no_port script p not is = let wrong : true ≡ false = sym is ∙ not in absurd (cc)

-- no port of the script
stops_none : (workers : ℕ) (script : ScriptValue) (places place p : ℕ) (was : List Note)
    (met : Pass) (stood : Stand) (c : Crew) → is_port script p ≡ false →
    StopsAs workers script places place p was met stood c
stops_none workers script places place p was met stood c not = record {
  now = [];
  stand = stood;
  port = λ is. no_port script p not is;
  went = λ is. no_port script p not is;
  none = λ is. refl;
  other = λ is apart. refl;
  mine = λ is there. no_port script p not is;
  is_open = λ is. no_port script p not is;
}

-- one that another's end left as it was
stops_other : GoesLaw → (workers : ℕ) (script : ScriptValue) (places place p : ℕ) (was : List Note)
    (met : Pass)
    (stood : Stand) (c : Crew) → is_port script p ≡ true → place_in p script.ports ≢ place →
    IsDoing workers script places (Ending place) p was met stood (passes_of c p) →
    is_open_in c p ≡ stood.is_open → StopsAs workers script places place p was met stood c
stops_other law workers script places place p was met stood c is apart does opens = record {
  now = does.notes;
  stand = stood;
  port = λ yes. does.is;
  went = λ yes. law workers script places (Ending place) p was met stood (passes_of c p) tt
      does;
  none = λ not. no_port script p not is;
  other = λ yes differ. refl;
  mine = λ yes there. absurd (apart there);
  is_open = λ yes. opens;
}

-- the one that ended, and is open still
stops_open : GoesLaw → (workers : ℕ) (script : ScriptValue) (places place p : ℕ) (was : List Note)
    (met : Pass)
    (stood : Stand) (c : Crew) → is_port script p ≡ true → place_in p script.ports ≡ place →
    IsDoing workers script places (Ending place) p was met (side (AtEnd []) [])
    (passes_of c p) → is_open_in c p ≡ true → StopsAs workers script places place p was met stood c
stops_open law workers script places place p was met stood c is here does opens = record {
  now = does.notes;
  stand = idle [];
  port = λ yes. does.is;
  went = λ yes. law workers script places (Ending place) p was met (side (AtEnd []) [])
      (passes_of c p) tt does;
  none = λ not. no_port script p not is;
  other = λ yes apart. absurd (apart here);
  mine = λ yes there. inl refl;
  is_open = λ yes. opens;
}

-- the one that ended, and closed
stops_shut : ClosesLaw → ClosedLaw → (workers : ℕ) (script : ScriptValue) (places place p : ℕ)
    (was : List Note) (met : Pass) (stood : Stand) (c m : Crew) → 0 < places →
    is_port script p ≡ true → place_in p script.ports ≡ place →
    IsDoing workers script places (Ending place) p was met
    (side (AtEnd []) (Still Close ∷ [])) (passes_of c p) →
    Shuts places p (passes_of c p) (passes_of m p) →
    ((k : ℕ) → places ≤ k → (passes_of m p).shares k ≡ (passes_of c p).shares k) →
    is_open_in m p ≡ false → StopsAs workers script places place p was met stood m
stops_shut closes closed workers script places place p was met stood c m some is here does
    shuts beyond
    gone =
    let a : IsDoing workers script places (Ending (place_in p script.ports)) p was met
    (side (AtEnd []) (Still Close ∷ [])) (passes_of c p) =
    subst (λ (k : ℕ). IsDoing workers script places (Ending k) p was met
    (side (AtEnd []) (Still Close ∷ [])) (passes_of c p)) (sym here) does in
    record {
      now = a.notes ++ Shut ∷ [];
      stand = shut_stand;
      port = λ yes. closed workers script places p was met (passes_of c p) (passes_of m p) some
          a shuts;
      went = λ yes. subst (λ (k : ℕ). Went workers script (Ending k) p was
          (a.notes ++ Shut ∷ []) met.shares (passes_of m p).shares) here
          (closes workers script places p was met (passes_of c p) (passes_of m p) a shuts
          beyond);
      none = λ not. no_port script p not is;
      other = λ yes apart. absurd (apart here);
      mine = λ yes there. inr refl;
      is_open = λ yes. gone;
    }

-- of all of them
stopped : (script : ScriptValue) (places : ℕ) (size : Size) (place : ℕ) (met : ℕ → Pass)
    (was : ℕ → List Note) (stood : ℕ → Stand) (c : Crew) →
    HaveEnded script places size place met was stood →
    passes_of c feeder_number ≡ met feeder_number →
    ((p : ℕ) → is_port script p ≡ true → (stood p).is_open ≡ false → passes_of c p ≡ met p) →
    ((p : ℕ) → StopsAs size.workers script places place p (was p) (met p) (stood p) c) →
    HasStopped script places size place c
stopped script places size place met was stood c ended feeder shut each = record {
  met = met;
  was = was;
  stood = stood;
  ended = ended;
  now = λ p. (each p).now;
  stands = λ p. (each p).stand;
  ports = λ p is. (each p).port is;
  went = λ p is. (each p).went is;
  none = λ p not. (each p).none not;
  feeder = feeder;
  others = λ p is apart. (each p).other is apart;
  mine = λ p is there. (each p).mine is there;
  shut = shut;
  are_open = λ p is. (each p).is_open is;
}

-- what holds of the port at a place, of each other one, and of each that the script hasn't
each_port : (script : ScriptValue) (place : ℕ) (P : ℕ → Type 0) →
    ((p : ℕ) → is_port script p ≡ false → P p) →
    ((p : ℕ) → is_port script p ≡ true → place_in p script.ports ≡ place → P p) →
    ((p : ℕ) → is_port script p ≡ true → place_in p script.ports ≢ place → P p) → (p : ℕ) → P p
each_port script place P none this others p =
    by (cases_Bool (is_port script p)) (eqb_tells (place_in p script.ports) place)
  where
    by : (is_port script p ≡ true) ⊎ (is_port script p ≡ false) →
        (((place_in p script.ports == place) ≡ true) × (place_in p script.ports ≡ place))
        ⊎ (((place_in p script.ports == place) ≡ false) × (place_in p script.ports ≢ place)) → P p
    by (inr not) there = none p not
    by (inl is) (inl here) = this p is here.1
    by (inl is) (inr apart) = others p is apart.1

-- the port is open still
pub stops_so : GoesLaw → (script : ScriptValue) (places : ℕ) (size : Size) (place : ℕ) (c : Crew) →
    EndsTo script places size place [] c → HasStopped script places size place c
stops_so law script places size place c e =
    stopped script places size place e.met e.notes e.stands c e.ended e.feeder e.shut
    (each_port script place
    (λ p. StopsAs size.workers script places place p (e.notes p) (e.met p) (e.stands p) c)
    (λ p not. stops_none size.workers script places place p (e.notes p) (e.met p) (e.stands p) c
    not)
    (λ p is here. stops_open law size.workers script places place p (e.notes p) (e.met p)
    (e.stands p) c is here (e.this p is here) (e.is_open p is here))
    (λ p is apart. stops_other law size.workers script places place p (e.notes p) (e.met p)
    (e.stands p) c is apart (e.others p is apart) (e.are_open p is apart)))

-- the port has closed
pub shuts_so : GoesLaw → ClosesLaw → ClosedLaw → (script : ScriptValue)
    (places : ℕ) (size : Size) (place port : ℕ) (c m : Crew) → 0 < places →
    is_port script port ≡ true → place_in port script.ports ≡ place → EndsTo script places size
    place (Close ∷ []) c → OneShuts places port c m →
    ((k : ℕ) → places ≤ k → (passes_of m port).shares k ≡ (passes_of c port).shares k) →
    passes_of m feeder_number ≡ passes_of c feeder_number →
    HasStopped script places size place m
shuts_so goes closes closed script places size place port c m some is_in at_place e shut beyond
    feeder =
    stopped script places size place e.met e.notes e.stands m e.ended (feeder ∙ e.feeder)
    (λ p is gone. shut.others p (differs p gone) ∙ e.shut p is gone)
    (each_port script place
    (λ p. StopsAs size.workers script places place p (e.notes p) (e.met p) (e.stands p) m)
    (λ p not. stops_none size.workers script places place p (e.notes p) (e.met p) (e.stands p) m
    not)
    (λ p is here. let i = its p (same_place p port script.ports is is_in (here ∙ sym at_place)) in
    stops_shut closes closed size.workers script places place p (e.notes p) (e.met p) (e.stands p)
    c m some is here (e.this p is here) i.0 i.1 i.2)
    (λ p is apart. let other : p ≢ port =
    λ same. apart (ap (λ (q : ℕ). place_in q script.ports) same ∙ at_place) in
    stops_other goes size.workers script places place p (e.notes p) (e.met p) (e.stands p) m is
    apart (subst (λ (q : Pass). IsDoing size.workers script places (Ending place) p (e.notes p)
    (e.met p) (e.stands p) q) (sym (shut.others p other)) (e.others p is apart))
    (shut.stay p other ∙ e.are_open p is apart)))
  where
    differs : (p : ℕ) → (e.stands p).is_open ≡ false → p ≢ port
    differs p gone =
        apart_if_shut script places size place e.met e.notes e.stands e.ended port p is_in
        (omega (arith, at_place)) gone

    its : (q : ℕ) → q ≡ port →
        Shuts places q (passes_of c q) (passes_of m q)
        × ((k : ℕ) → places ≤ k → (passes_of m q).shares k ≡ (passes_of c q).shares k)
        × (is_open_in m q ≡ false)
    its q same =
        subst (λ (n : ℕ). Shuts places n (passes_of c n) (passes_of m n)
        × ((k : ℕ) → places ≤ k → (passes_of m n).shares k ≡ (passes_of c n).shares k)
        × (is_open_in m n ≡ false)) (sym same) (shut.shuts, beyond, shut.gone)

-- ---- the meeting behind an end

pub record MeetingLaws : Type 0 where
  pub meeting : EndsStage
  pub rests : RestsFeedingLaw
  pub meets : FedMeetsLaw
  pub closed : ClosedSumLaw
  pub stage : StageSumLaw

pub at_meeting : MeetingLaws → (script : ScriptValue) (places : ℕ) (size : Size) (place port : ℕ)
    (c n : Crew) → 0 < places → is_port script port ≡ true → place_in port script.ports ≡ place →
    HasStopped script places size place c → AreMet script.ports (passes_of c) (passes_of n) →
    ((p : ℕ) → is_open_in n p ≡ is_open_in c p) → IsReceived script.ports places n port →
    IsAtMeeting script places size (suc place) n
at_meeting laws script places size place port c n some is_in at_place s met opens received =
    record {
      notes = s.now;
      stands = s.stands;
      ended = record {
        meeting = meeting;
        fed = fed_still laws.meets script size.feeders places (downs_in_effect script size.frames)
            c n met (λ k less. subst (λ (p : Pass). IsFedByAll size.feeders
            (downs_in_effect script size.frames) (p.shares k)) (sym s.feeder) (s.ended.fed k less));
        before = λ p is less. by p is (cases_Bool (place_in p script.ports == place)) less;
        behind = λ p is most. s.others p is (λ same. absurd (omega (arith, same, most)))
            ∙ s.ended.behind p is (omega (arith, most));
        sums = λ p is gone. sum p is gone (cases_Bool (place_in p script.ports == place));
      };
      are_open = λ p is. opens p ∙ s.are_open p is;
    }
  where
    feeding : WentFeeding script (Ending place) (s.met feeder_number).shares
        (passes_of c feeder_number).shares
    feeding = subst (λ (p : Pass). WentFeeding script (Ending place)
        (s.met feeder_number).shares p.shares) (sym s.feeder)
        (laws.rests script (Ending place) (s.met feeder_number).shares)

    meeting : IsMeeting size.workers script places (Ending place) (passes_of n) s.now s.stands
    meeting = laws.meeting size.workers script places (stage_before place) (Ending place) s.met
        (passes_of c) (passes_of n) s.was s.now s.stood s.stands some
        (follows_before script.ports place) s.ended.meeting s.ports s.went s.none feeding met

    by : (p : ℕ) → is_port script p ≡ true →
        ((place_in p script.ports == place) ≡ true)
        ⊎ ((place_in p script.ports == place) ≡ false) →
        place_in p script.ports < suc place → HasEnded (s.stands p)
    by p is (inl h) less = s.mine p is (eqb-true (place_in p script.ports) place h)
    by p is (inr h) less =
        let apart = eqb-false (place_in p script.ports) place h in
        subst (λ (t : Stand). HasEnded t) (sym (s.others p is apart))
        (s.ended.before p is (omega (arith, apart, less)))

    mine : (p : ℕ) → p ≡ port → (s.stands p).is_open ≡ false →
        WasSent size.workers script places p (length (passes_of n p).letters) (passes_of n)
    mine p same gone =
        subst (λ (sum : ℕ). WasSent size.workers script places p sum (passes_of n))
        (subst (λ (q : ℕ). IsReceived script.ports places n q) (sym same) received)
        (laws.closed size.workers script places p (Ending place) (passes_of n) s.now s.stands
        meeting gone)

    theirs : (p : ℕ) → is_port script p ≡ true → place_in p script.ports ≢ place →
        (s.stands p).is_open ≡ false →
        WasSent size.workers script places p (length (passes_of n p).letters) (passes_of n)
    theirs p is apart gone =
        let was : (s.stood p).is_open ≡ false =
        ap (λ (t : Stand). t.is_open) (sym (s.others p is apart)) ∙ gone in
        let same : passes_of c p ≡ s.met p = s.shut p is was in
        subst (λ (sum : ℕ). WasSent size.workers script places p sum (passes_of n))
        (ap (λ (q : Pass). length q.letters) (sym same)
        ∙ ap (λ (l : List Letter). length l) (sym (met.letters p)))
        (laws.stage size.workers script places p (length (s.met p).letters) (Ending place) s.met
        (passes_of c) (passes_of n) s.was s.now is s.went feeding
        (λ k. ap (λ (q : Pass). q.shares k) same) met (s.ended.sums p is was))

    sum : (p : ℕ) → is_port script p ≡ true → (s.stands p).is_open ≡ false →
        ((place_in p script.ports == place) ≡ true)
        ⊎ ((place_in p script.ports == place) ≡ false) →
        WasSent size.workers script places p (length (passes_of n p).letters) (passes_of n)
    sum p is gone (inl h) =
        mine p (same_place p port script.ports is is_in
        (eqb-true (place_in p script.ports) place h ∙ sym at_place)) gone
    sum p is gone (inr h) = theirs p is (eqb-false (place_in p script.ports) place h) gone

-- ---- a port begins its end

owes_nothing : (ends : List Due) (t : Stand) → t ≡ idle ends → (t.owed ≡ []) × (t.pending ≡ [])
owes_nothing ends t is = (ap (λ (u : Stand). u.owed) is, ap (λ (u : Stand). u.pending) is)

-- no port owes an answer where all have met
pub owes_none : (script : ScriptValue) (places : ℕ) (size : Size) (place : ℕ) (met : ℕ → Pass)
    (notes : ℕ → List Note) (stands : ℕ → Stand) →
    HaveEnded script places size place met notes stands → (port : ℕ) →
    is_port script port ≡ true → ((stands port).owed ≡ []) × ((stands port).pending ≡ [])
owes_none script places size place met notes stands ended port is =
    by (cases_lt (place_in port script.ports) place)
  where
    before : HasEnded (stands port) → ((stands port).owed ≡ []) × ((stands port).pending ≡ [])
    before (inl h) = owes_nothing [] (stands port) h
    before (inr h) = (ap (λ (u : Stand). u.owed) h, ap (λ (u : Stand). u.pending) h)

    by : (place_in port script.ports < place) ⊎ (place ≤ place_in port script.ports) →
        ((stands port).owed ≡ []) × ((stands port).pending ≡ [])
    by (inl less) = before (ended.before port is less)
    by (inr most) =
        owes_nothing (all_due (closing script (place_in port script.ports))) (stands port)
        (ended.behind port is most)

pub ends_begin : BeginsDoingLaw → (script : ScriptValue) (places : ℕ) (size : Size) (place : ℕ)
    (c : Crew) → IsAtMeeting script places size place c →
    EndsTo script places size place (closing script place) c
ends_begin law script places size place c m = record {
  met = passes_of c;
  notes = m.notes;
  stands = m.stands;
  ended = m.ended;
  this = λ p is here.
      subst (λ (t : Stand). IsDoing size.workers script places (Ending place) p (m.notes p)
      (passes_of c p) t (passes_of c p)) (stands_so p is here) (begun p is);
  others = λ p is apart. begun p is;
  feeder = refl;
  shut = λ p is gone. refl;
  are_open = λ p is apart. m.are_open p is;
  is_open = λ p is here. m.are_open p is
      ∙ ap (λ (t : Stand). t.is_open) (stands_so p is here);
}
  where
    stands_so : (p : ℕ) → is_port script p ≡ true → place_in p script.ports ≡ place →
        m.stands p ≡ side (AtEnd []) (all_due (closing script place))
    stands_so p is here = m.ended.behind p is (omega (arith, here))
        ∙ ap (λ (k : ℕ). idle (all_due (closing script k))) here

    begun : (p : ℕ) → is_port script p ≡ true →
        IsDoing size.workers script places (Ending place) p (m.notes p) (passes_of c p) (m.stands p)
        (passes_of c p)
    begun p is =
        law size.workers script places (Ending place) p (m.notes p) (passes_of c p) (m.stands p)
        (inl (owes_none script places size place (passes_of c) m.notes m.stands m.ended p is))
        (m.ended.meeting.are.ports p is)

-- ---- all have ended

pub all_done : (script : ScriptValue) (places : ℕ) (size : Size) (c : Crew)
    (m : IsAtMeeting script places size (length script.ports) c) → (port : ℕ) →
    is_port script port ≡ true → place_in port script.ports < length script.ports →
    IsDone (m.stands port)
all_done script places size c m port is less = by (m.ended.before port is less)
  where
    by : HasEnded (m.stands port) → IsDone (m.stands port)
    by (inl h) = record {
      owed = ap (λ (t : Stand). t.owed) h;
      pending = ap (λ (t : Stand). t.pending) h;
      ends = ap (λ (t : Stand). t.ends) h;
    }
    by (inr h) = record {
      owed = ap (λ (t : Stand). t.owed) h;
      pending = ap (λ (t : Stand). t.pending) h;
      ends = ap (λ (t : Stand). t.ends) h;
    }
