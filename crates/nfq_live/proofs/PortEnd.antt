-- A port that ends, by its index among the open ones.
use Rattle.std.proofs.Common.{◌≡◌, ◌≢◌, ◌<◌, ◌≤◌, ◌-◌, ◌+◌, ◌∙◌, ◌++◌, ◌⊎◌, ℕ, suc, List, Bool}
use Rattle.std.proofs.Common.{Option}
use Rattle.std.proofs.Common.{ap, arith, drop, false, inl, inr, length, refl, subst, sym, true}
use Rattle.std.specs.Prelude.{◌==◌, All, nat_eq, slice_index, slice_index_or}
use Rattle.std.specs.List.{list_any}
use Rattle.std.proofs.lemmas.Bool.{cases_Bool, eqb-false, eqb-true}
use Rattle.netlink_codec.specs.Messages.{NetlinkMessage, first_message}
use Rattle.histories.specs.declared.log.AskWords.{AskWords}
use Rattle.packet_moves.specs.Calls.{next_call}
use Rattle.script_lines.specs.declared.ask.Ask.{Ask}
use Rattle.inspector_script.specs.Scripts.{ScriptValue}
use Rattle.run_parts.specs.Datagrams.{AsksWell, bytes_of, cut_in, messages_in}
use Rattle.run_parts.specs.Ports.{HavePlaces, is_port, place_in}
use Rattle.plane.specs.declared.plane.Plane.{Plane}
use Rattle.plane.specs.Passes.{FeederView, PortView}
use Rattle.plane.specs.Planes.{order_of, places_of}
use Rattle.live_runs.specs.Passes.{Pass, SpeaksFirst}
use Rattle.live_passes.specs.Numbered.{numbers_of, passes_in}
use Rattle.live_passes.specs.Views.{port_pass}
use Rattle.nfq_live.specs.declared.crew.Crew.{Crew}
use Rattle.nfq_live.specs.Crews.{AllLookOn, AreOpenFrom, AreReceived, HaveMinds, IsCrewOf}
use Rattle.nfq_live.specs.Crews.{IsReceived, OnePass, OneShuts, OthersStay, PortsAlone, is_open_in}
use Rattle.nfq_live.specs.Crews.{passes_of}
use Rattle.nfq_live.specs.Endings.{CutsEnd, CutsEndTo, EndsTo, HasStopped, SaysEndTo, SaysOfEnd}
use Rattle.nfq_live.specs.Endings.{closing_left}
use Rattle.nfq_live.specs.Sizes.{Size}
use Rattle.live_work.specs.declared.mind.Mind.{Mind}
use Rattle.live_work.specs.Minds.{IsMind}
use Rattle.live_work.proofs.SentAsks.{TakesUpLaw}
use Rattle.nfq_live.proofs.PortEndStage.{SendsOneLaw, cuts_all, cuts_last, cuts_on, received_same}
use Rattle.nfq_live.proofs.PortEndStage.{says_of_end}
use Rattle.nfq_live.proofs.AllPasses.{GoesOnAt, pass_at}
use Rattle.live_work.proofs.UnchangedPass.{some_place}
use Rattle.live_work.proofs.PortMinds.{mind_within}
use Rattle.nfq_live.proofs.PortNumbers.{any_default, found_at, parted, zip_at, zip_long}
use Rattle.nfq_live.proofs.CrewSteps.{ClosesNothingLaw, SumLaw, alone_none, as_many_still}
use Rattle.nfq_live.proofs.CrewSteps.{number_still, port_in_script, still_open}
use Rattle.nfq_live.proofs.PortOpenings.{placed_at, same_feeder}
use Rattle.nfq_live.proofs.PortEndMeeting.{ClosedLaw, ClosesLaw, GoesLaw, closed_received, shuts_so}
use Rattle.nfq_live.proofs.PortEndMeeting.{stops_so}
use Rattle.live_work.proofs.SentMessages.{EnoughLaw, NoneLaw}

-- the one pass that may have gone on didn't
by_number : (c n : Crew) (port : ℕ) → OnePass port c n → passes_of n port ≡ passes_of c port →
    (p : ℕ) → passes_of n p ≡ passes_of c p
by_number c n port one same p = by (cases_Bool (p == port))
  where
    by : ((p == port) ≡ true) ⊎ ((p == port) ≡ false) → passes_of n p ≡ passes_of c p
    by (inl h) =
        subst (λ (q : ℕ). passes_of n q ≡ passes_of c q) (sym (eqb-true p port h)) same
    by (inr h) = one.others p (eqb-false p port h)

-- each open port has its inspector
pub both_long : (script : ScriptValue) (c : Crew) → HaveMinds script c →
    length c.minds.items ≡ length c.ports.items
both_long script c minds = zip_long (IsMind script) c.ports.items c.minds.items minds

-- some port stands there
abbrev pub a_port : (c : Crew) (at : ℕ) → at < length c.ports.items → PortView
a_port c at less = (parted c.ports.items at less).at

pub a_port_is : (c : Crew) (at : ℕ) (less : at < length c.ports.items) →
    a_port c at less ≡ slice_index_or c.ports.items at (a_port c at less)
a_port_is c at less = sym ((parted c.ports.items at less).here (a_port c at less))

module _ (plane : Plane) (script : ScriptValue) (place at : ℕ)
    (order : order_of plane ≡ script.ports) where
  -- at the index stands the port that ends
  abbrev pub IsItsPort : Crew → Type 0
  IsItsPort c = (d : PortView) →
      place_in (slice_index_or c.ports.items at d).port script.ports ≡ place

  pub its_still : (a b : Crew) → at < length a.ports.items → PortsAlone a b → IsItsPort a →
      IsItsPort b
  its_still a b less alone its d =
      ap (λ (p : ℕ). place_in p script.ports) (number_still a b at d d alone less) ∙ its d

  pub still_within : (a b : Crew) → PortsAlone a b → at < length a.ports.items →
      at < length b.ports.items
  still_within a b alone less = omega (arith, less, as_many_still a b alone)

  -- what a call that sends a message says of the port there
  pub record SpeaksAt (c n : Crew) (rest : List ℕ) (used : ℕ) : Type 0 where
    pub crew : IsCrewOf plane c
    pub within : at < length c.ports.items
    pub its : IsItsPort c
    pub speaks : (d : PortView) → SpeaksFirst (places_of plane)
        (slice_index_or c.ports.items at d).port (first_message rest)
        (passes_of c (slice_index_or c.ports.items at d).port)
        (passes_of n (slice_index_or c.ports.items at d).port) used
    pub one : (d : PortView) → OnePass (slice_index_or c.ports.items at d).port c n

  pub end_step : SendsOneLaw → (bytes : List ℕ) (count look : ℕ) (rest left : List ℕ)
      (begun c n m : Crew) (used : ℕ) → look < count → 0 < used → SpeaksAt c n rest used →
      AllLookOn script (places_of plane) n m → left ≡ drop used rest →
      CutsEndTo script (places_of plane) place bytes (cut_in (count - look) rest) begun c →
      CutsEndTo script (places_of plane) place bytes (cut_in (count - (look + 1)) left) begun m
  end_step law bytes count look rest left begun c n m used within uses s looks are so_far =
      let d = a_port c at s.within in
      let port = (slice_index_or c.ports.items at d).port in
      cuts_on script (places_of plane) place port
      (port_in_script plane script c at d s.crew order s.within) (s.its d) law bytes count look
      rest left begun c n m used (some_place plane) within uses (s.one d) looks (s.speaks d) are
      so_far

  pub end_last : NoneLaw → (bytes : List ℕ) (count look : ℕ) (rest : List ℕ) (begun c n : Crew)
      (used : ℕ) → look < count → used ≤ 0 → SpeaksAt c n rest used →
      CutsEndTo script (places_of plane) place bytes (cut_in (count - look) rest) begun c →
      CutsEnd script (places_of plane) place bytes begun n
  end_last law bytes count look rest begun c n used within none s so_far =
      let d = a_port c at s.within in
      let port = (slice_index_or c.ports.items at d).port in
      cuts_last script (places_of plane) place port
      (port_in_script plane script c at d s.crew order s.within) (s.its d) law bytes count look
      rest begun c n used (some_place plane) within none (s.one d) (s.speaks d) so_far

  pub end_received : (c n : Crew) (rest : List ℕ) (used : ℕ) (s : SpeaksAt c n rest used) →
      passes_of n (slice_index_or c.ports.items at (a_port c at s.within)).port
      ≡ passes_of c (slice_index_or c.ports.items at (a_port c at s.within)).port →
      AreReceived script.ports (places_of plane) c → AreReceived script.ports (places_of plane) n
  end_received c n rest used s same was =
      let d = a_port c at s.within in
      let port = (slice_index_or c.ports.items at d).port in
      received_same script.ports (places_of plane) c n (s.one d).alone
      (λ p. by_number c n port (s.one d) same p) was

  pub end_cut : EnoughLaw → (bytes : List ℕ) (count look : ℕ) (rest : List ℕ) (begun c : Crew) →
      IsCrewOf plane c → at < length c.ports.items → IsItsPort c → count ≤ look →
      CutsEndTo script (places_of plane) place bytes (cut_in (count - look) rest) begun c →
      CutsEnd script (places_of plane) place bytes begun c
  end_cut law bytes count look rest begun c crew less its past so_far =
      let d = a_port c at less in
      let port = (slice_index_or c.ports.items at d).port in
      cuts_all script (places_of plane) place port
      (port_in_script plane script c at d crew order less) (its d) law bytes count look rest begun
      c (some_place plane) past so_far

  pub end_words : TakesUpLaw → (words : AskWords) (bytes : List ℕ) (c n m : Crew) (d : PortView) →
      IsCrewOf plane c → at < length c.ports.items → IsItsPort c → PortsAlone c n →
      ((p : ℕ) → passes_of n p ≡ passes_of c p) →
      bytes ≡ bytes_of (slice_index_or c.ports.items at d).port
      (next_call (passes_of c (slice_index_or c.ports.items at d).port).dids) words →
      All AsksWell (messages_in (bytes_of (slice_index_or c.ports.items at d).port
      (next_call (passes_of c (slice_index_or c.ports.items at d).port).dids) words)) →
      CutsEnd script (places_of plane) place bytes n m →
      SaysOfEnd script (places_of plane) place words c m
  end_words law words bytes c n m d crew less its alone same are short cut =
      let port = (slice_index_or c.ports.items at d).port in
      says_of_end script (places_of plane) place port
      (port_in_script plane script c at d crew order less) (its d) law words bytes c n m alone same
      are short cut

  -- the words of an ask of its end, as the bytes that it sent
  pub end_says : TakesUpLaw → (words : AskWords) (bytes : List ℕ) (number call : ℕ) (c m : Crew)
      (x : PortView) → IsCrewOf plane c → at < length c.ports.items → IsItsPort c →
      x ≡ slice_index_or c.ports.items at x → number ≡ x.port → call ≡ next_call x.dids →
      bytes ≡ bytes_of number call words →
      ((p n : ℕ) → All AsksWell (messages_in (bytes_of p n words))) →
      CutsEnd script (places_of plane) place bytes c m →
      SaysOfEnd script (places_of plane) place words c m
  end_says law words bytes number call c m x crew less its is named calls are short cut =
      let port = (slice_index_or c.ports.items at x).port in
      let same : number ≡ port = named ∙ ap (λ (p : PortView). p.port) is in
      let did : call ≡ next_call (passes_of c port).dids =
      calls ∙ ap (λ (p : PortView). next_call p.dids) is
      ∙ sym (ap (λ (p : Pass). next_call p.dids)
      (pass_at plane c.feeding.pass c.closed.items c.ports.items at x less crew.all)) in
      end_words law words bytes c c m x crew less its (alone_none c) (λ p. refl)
      (are ∙ ap (λ (p : ℕ). bytes_of p call words) same
      ∙ ap (λ (n : ℕ). bytes_of port n words) did)
      (short port (next_call (passes_of c port).dids)) cut

  -- ---- its end is over

  pub end_stops : GoesLaw → (size : Size) (asks : List Ask) (c m : Crew) (closes : Bool) →
      closes ≡ false →
      SaysEndTo script (places_of plane) place asks (closing_left closes) c m →
      EndsTo script (places_of plane) size place asks c →
      HasStopped script (places_of plane) size place m
  end_stops law size asks c m closes never says e =
      stops_so law script (places_of plane) size place m
      (subst (λ (b : Bool). EndsTo script (places_of plane) size place (closing_left b) m) never
      (says.on size e))

  pub end_shuts : GoesLaw → ClosesLaw → ClosedLaw → (size : Size) (asks : List Ask)
      (c m n : Crew) (closes : Bool) (d : PortView) → closes ≡ true → IsCrewOf plane m →
      at < length m.ports.items → IsItsPort m →
      OneShuts (places_of plane) (slice_index_or m.ports.items at d).port m n →
      SaysEndTo script (places_of plane) place asks (closing_left closes) c m →
      EndsTo script (places_of plane) size place asks c →
      HasStopped script (places_of plane) size place n
  end_shuts goes closes closed size asks c m n so d told crew less its shut says e =
      let port = (slice_index_or m.ports.items at d).port in
      shuts_so goes closes closed script (places_of plane) size place port m n (some_place plane)
      (port_in_script plane script m at d crew order less) (its d)
      (subst (λ (b : Bool). EndsTo script (places_of plane) size place (closing_left b) m) told
      (says.on size e)) shut shut.beyond (same_feeder m n shut.feeding)

-- ---- what the port received

pub open_at : (c : Crew) (at : ℕ) (d : PortView) → at < length c.ports.items →
    is_open_in c (slice_index_or c.ports.items at d).port ≡ true
open_at c at d less =
    let x = slice_index_or c.ports.items at d in
    found_at c.ports.items x.port at x less (any_default c.ports.items at d x less) refl

pub received_here : (ports : List ℕ) (places at : ℕ) (c m : Crew) (d : PortView) →
    at < length c.ports.items → PortsAlone c m → AreReceived ports places m →
    IsReceived ports places m (slice_index_or c.ports.items at d).port
received_here ports places at c m d less alone received =
    let port = (slice_index_or c.ports.items at d).port in
    received.all port (still_open c m alone port ∙ open_at c at d less)

pub received_shut_here : ClosesNothingLaw → SumLaw → (ports : List ℕ) (places at : ℕ)
    (c m n : Crew) (d : PortView) → at < length c.ports.items → PortsAlone c m →
    AreReceived ports places m →
    OneShuts places (slice_index_or m.ports.items at d).port m n →
    IsReceived ports places n (slice_index_or c.ports.items at d).port
received_shut_here law sums ports places at c m n d less alone received shut =
    let port = (slice_index_or c.ports.items at d).port in
    closed_received law sums ports places port m n
    (subst (λ (q : ℕ). OneShuts places q m n) (number_still c m at d d alone less) shut)
    (received_here ports places at c m d less alone received)

pub others_here : (c m : Crew) (port : ℕ) → PortsAlone c m → OthersStay port c m
others_here c m port alone = record {
  stay = λ p other. still_open c m alone p;
  feeding = alone.feeding;
}

pub others_shut : (places at : ℕ) (c m n : Crew) (d : PortView) → at < length c.ports.items →
    PortsAlone c m → OneShuts places (slice_index_or m.ports.items at d).port m n →
    OthersStay (slice_index_or c.ports.items at d).port c n
others_shut places at c m n d less alone shut = record {
  stay = λ p other. shut.stay p (λ same. other (same ∙ number_still c m at d d alone less))
      ∙ still_open c m alone p;
  feeding = shut.feeding ∙ alone.feeding;
}

-- ---- the next ports are open

pub next_open : (script : ScriptValue) (place port : ℕ) (c m n : Crew) → HavePlaces script →
    place_in port script.ports ≡ place → AreOpenFrom script place c → OthersStay port c m →
    numbers_of n.ports.items ≡ numbers_of m.ports.items → AreOpenFrom script (suc place) n
next_open script place port c m n places here were others numbers p least less =
    let q = slice_index script.ports p in
    let its = placed_at script (λ (r : ℕ). place_in r script.ports) 0 script.ports p places.placed
    less in
    let apart : q ≢ port =
    λ same. absurd (omega (arith, its.0, ap (λ (r : ℕ). place_in r script.ports) same, here, least))
    in
    ap (λ (l : List ℕ). list_any (nat_eq q) l) numbers ∙ others.stay q apart
    ∙ were p (omega (arith, least)) less

-- ---- a message is sent

-- by its pass, whatever the default
pub says_first : (plane : Plane) (places q : ℕ) (front : Option (NetlinkMessage × ℕ))
    (feeder : FeederView) (ports news closed : List PortView) (old new : PortView) (used : ℕ) →
    GoesOnAt plane feeder ports news closed old new → q ≡ old.port →
    SpeaksFirst places old.port front (port_pass old) (port_pass new) used →
    SpeaksFirst places q front (passes_in feeder (ports ++ closed) q)
    (passes_in feeder (news ++ closed) q) used
says_first plane places q front feeder ports news closed old new used goes same speaks =
    subst (λ (p : ℕ). SpeaksFirst places p front (passes_in feeder (ports ++ closed) p)
    (passes_in feeder (news ++ closed) p) used) (sym same)
    (subst (λ (p : Pass). SpeaksFirst places old.port front p
    (passes_in feeder (news ++ closed) old.port) used) (sym goes.had)
    (subst (λ (p : Pass). SpeaksFirst places old.port front (port_pass old) p used) (sym goes.has)
    speaks))

-- ---- what its inspector asks for

pub mind_at : (script : ScriptValue) (c : Crew) (at : ℕ) (d : PortView) (m : Mind) →
    HaveMinds script c → at < length c.ports.items → m ≡ slice_index_or c.minds.items at m →
    IsMind script (slice_index_or c.ports.items at d) m
mind_at script c at d m minds less is =
    subst (λ (n : Mind). IsMind script (slice_index_or c.ports.items at d) n) (sym is)
    (zip_at (IsMind script) c.ports.items c.minds.items at d m minds less)

pub machine_within : (script : ScriptValue) (c : Crew) (at : ℕ) (m : Mind) →
    HaveMinds script c → at < length c.ports.items → m ≡ slice_index_or c.minds.items at m →
    m.machine.place < length script.ports
machine_within script c at m minds less is =
    let d = a_port c at less in
    mind_within script (slice_index_or c.ports.items at d) m
    (mind_at script c at d m minds less is)

-- the port found is that of the place
pub found_place : (script : ScriptValue) (place port : ℕ) → HavePlaces script →
    place < length script.ports → port ≡ slice_index script.ports place →
    (place_in port script.ports ≡ place) × (is_port script port ≡ true)
found_place script place port places less is =
    let its = placed_at script (λ (r : ℕ). place_in r script.ports) 0 script.ports place
    places.placed less in (
      ap (λ (r : ℕ). place_in r script.ports) is ∙ omega (arith, its.0),
      ap (λ (r : ℕ). is_port script r) is ∙ its.1,
    )

pub machine_place : (script : ScriptValue) (c : Crew) (at place : ℕ) (d : PortView) (m : Mind) →
    HaveMinds script c → at < length c.ports.items → m ≡ slice_index_or c.minds.items at m →
    place_in (slice_index_or c.ports.items at d).port script.ports ≡ place →
    m.machine.place ≡ place
machine_place script c at place d m minds less is here =
    (mind_at script c at d m minds less is).place ∙ here
