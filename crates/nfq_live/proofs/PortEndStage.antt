-- While a port ends: what is known where it sends, where all ports look, and where its asks are
-- taken up.
use Rattle.std.proofs.Common.{◌≡◌, ◌≢◌, ◌<◌, ◌≤◌, ◌-◌, ◌+◌, ◌⊎◌, ◌∙◌, ◌++◌, ◌∷◌, [], ℕ, suc, List}
use Rattle.std.proofs.Common.{Bool}
use Rattle.std.proofs.Common.{Option, Some, None, true, false, ap, arith, drop, inl, inr, length}
use Rattle.std.proofs.Common.{map, refl, subst, sym}
use Rattle.std.specs.Prelude.{◌==◌, All, nat_eq}
use Rattle.std.specs.List.{list_any}
use Rattle.std.proofs.lemmas.Bool.{cases_Bool, cases_lt, eqb-true}
use Rattle.std.proofs.lemmas.List.Elements.{All-head, All-tail}
use Rattle.netlink_codec.specs.Messages.{NetlinkMessage, first_message}
use Rattle.histories.specs.declared.log.AskWords.{AskWords}
use Rattle.packet_moves.specs.Calls.{next_call}
use Rattle.script_lines.specs.declared.ask.Ask.{Ask}
use Rattle.script_lines.specs.declared.ask.Ask.TheVariants.{Words}
use Rattle.inspector_script.specs.Scripts.{ScriptValue, closing}
use Rattle.run_parts.specs.Datagrams.{AsksWell, bytes_of, cut_in, messages_in, with_those_behind}
use Rattle.run_parts.specs.Log.{Due, Message, Note, Still, all_due, is_some_due}
use Rattle.run_parts.specs.Ports.{is_port, place_in}
use Rattle.plane.specs.Passes.{PortView}
use Rattle.live_runs.specs.Doing.{IsCutting, IsDoing}
use Rattle.live_runs.specs.Passes.{Pass, Speaks, SpeaksFirst}
use Rattle.live_runs.specs.Stages.{Ending, MaySpeak, Stage}
use Rattle.live_runs.specs.Stands.{AtEnd, Side, Stand, cut_side, cut_then, idle, side}
use Rattle.live_passes.specs.Numbered.{passes_in}
use Rattle.nfq_live.specs.declared.crew.Crew.{Crew}
use Rattle.live_work.specs.declared.feeding.Feeding.{Feeding}
use Rattle.live_runs.specs.ClosedPlanes.{sent_by_all}
use Rattle.nfq_live.specs.Crews.{AllLookOn, AreReceived, OnePass, PortsAlone, is_open_in}
use Rattle.nfq_live.specs.Crews.{passes_of}
use Rattle.nfq_live.specs.Endings.{CutsEnd, CutsEndTo, Ends, EndsCutting, HasEnded, HaveEnded}
use Rattle.nfq_live.specs.Endings.{SaysEndTo, SaysOfEnd}
use Rattle.nfq_live.specs.Sizes.{Size}
use Rattle.live_work.proofs.SentAsks.{TakesUpLaw}
use Rattle.nfq_live.proofs.PortNumbers.{among_closed, of_ports}
use Rattle.nfq_live.proofs.CrewSteps.{alone_none, still_open}
use Rattle.nfq_live.proofs.PortOpenings.{same_feeder}
use Rattle.live_work.proofs.SentMessages.{EnoughLaw, NoneLaw}

-- ---- the law of a message

abbrev pub SendsOneLaw : Type 0
SendsOneLaw = (workers : ℕ) (script : ScriptValue) (places : ℕ) (stage : Stage)
    (port : ℕ) (was : List Note) (start : Pass) (x : Side) (m : NetlinkMessage) (errno : ℕ)
    (ds : List Due) (fresh : Bool) (old new : Pass) → 0 < places → AsksWell m →
    MaySpeak script.ports port stage x → Speaks places port m errno old new →
    IsDoing workers script places stage port was start (cut_side x (Message m ∷ ds) fresh)
    old →
    IsDoing workers script places stage port was start (side x ds) new

-- ---- places of ports

first_place : (p r : ℕ) (ports : List ℕ) → (p == r) ≡ true → place_in p (r ∷ ports) ≡ 0
first_place p r ports h = rw h refl

later_place : (p r : ℕ) (ports : List ℕ) → (p == r) ≡ false →
    place_in p (r ∷ ports) ≡ suc (place_in p ports)
later_place p r ports h = rw h refl

-- ports at the same place are the same
pub same_place : (p q : ℕ) (ports : List ℕ) → list_any (nat_eq p) ports ≡ true →
    list_any (nat_eq q) ports ≡ true → place_in p ports ≡ place_in q ports → p ≡ q
same_place p q [] a b same = absurd (cc)
same_place p q (r ∷ ports) a b same =
    by (cases_Bool (p == r)) (cases_Bool (q == r))
    (λ one two three. same_place p q ports one two three)
  where
    by : ((p == r) ≡ true) ⊎ ((p == r) ≡ false) → ((q == r) ≡ true) ⊎ ((q == r) ≡ false) →
        (list_any (nat_eq p) ports ≡ true → list_any (nat_eq q) ports ≡ true →
        place_in p ports ≡ place_in q ports → p ≡ q) → p ≡ q
    by (inl h) (inl g) next = eqb-true p r h ∙ sym (eqb-true q r g)
    by (inl h) (inr g) next =
        absurd (omega (arith, same, first_place p r ports h, later_place q r ports g))
    by (inr h) (inl g) next =
        absurd (omega (arith, same, later_place p r ports h, first_place q r ports g))
    by (inr h) (inr g) next =
        next (rw h at a) (rw g at b)
        (omega (arith, same, later_place p r ports h, later_place q r ports g))

-- ---- closed ports

-- where at most open ports went on, a closed one has done nothing
pub closed_same : (c m : Crew) → PortsAlone c m → (port : ℕ) → is_open_in c port ≡ false →
    passes_of m port ≡ passes_of c port
closed_same c m alone port none =
    of_ports m.feeding.pass m.closed.items (m.ports.items ++ m.closed.items) port
    (among_closed port m.ports.items m.closed.items (still_open c m alone port ∙ none))
    ∙ ap (λ (f : Feeding). passes_in f.pass m.closed.items port) alone.feeding
    ∙ ap (λ (l : List PortView). passes_in c.feeding.pass l port) alone.closed
    ∙ sym (of_ports c.feeding.pass c.closed.items (c.ports.items ++ c.closed.items) port
    (among_closed port c.ports.items c.closed.items none))

-- ---- where ports stood at the last meeting

pub record IsIdle (t : Stand) : Type 0 where
  pub ends : List Due
  pub is : t ≡ idle ends

module _ (script : ScriptValue) (places : ℕ) (size : Size) (place : ℕ) (met : ℕ → Pass)
    (notes : ℕ → List Note) (stands : ℕ → Stand)
    (ended : HaveEnded script places size place met notes stands) where
  pub idle_if_open : (port : ℕ) → is_port script port ≡ true → (stands port).is_open ≡ true →
      IsIdle (stands port)
  idle_if_open port is opens = by (cases_lt (place_in port script.ports) place)
    where
      before : HasEnded (stands port) → IsIdle (stands port)
      before (inl h) = record { ends = []; is = h }
      before (inr h) =
          let wrong : true ≡ false = sym opens ∙ ap (λ (t : Stand). t.is_open) h in absurd (cc)

      by : (place_in port script.ports < place) ⊎ (place ≤ place_in port script.ports) →
          IsIdle (stands port)
      by (inl less) = before (ended.before port is less)
      by (inr most) = record {
        ends = all_due (closing script (place_in port script.ports));
        is = ended.behind port is most;
      }

  pub open_from : (port : ℕ) → is_port script port ≡ true → place ≤ place_in port script.ports →
      (stands port).is_open ≡ true
  open_from port is most = ap (λ (t : Stand). t.is_open) (ended.behind port is most)

  -- so whoever has closed is another one
  pub apart_if_shut : (port q : ℕ) → is_port script port ≡ true →
      place ≤ place_in port script.ports → (stands q).is_open ≡ false → q ≢ port
  apart_if_shut port q is most closed equal =
      let wrong : true ≡ false =
      sym (open_from port is most) ∙ ap (λ (p : ℕ). (stands p).is_open) (sym equal) ∙ closed in
      absurd (cc)

-- ---- the port that ends

module _ (script : ScriptValue) (places : ℕ) (size : Size) (place port : ℕ)
    (is : is_port script port ≡ true) (here : place_in port script.ports ≡ place) where
  its_own : (q : ℕ) → is_port script q ≡ true → place_in q script.ports ≡ place → q ≡ port
  its_own q in_script there = same_place q port script.ports in_script is (there ∙ sym here)

  other_than : (q : ℕ) → place_in q script.ports ≢ place → q ≢ port
  other_than q other same = other (ap (λ (p : ℕ). place_in p script.ports) same ∙ here)

  -- its pass went on
  pub ends_with : (mine later : Stand) (c m : Crew) → later.is_open ≡ mine.is_open →
      OnePass port c m → (e : Ends script places size place mine c) →
      IsDoing size.workers script places (Ending place) port (e.notes port) (e.met port) later
      (passes_of m port) → Ends script places size place later m
  ends_with mine later c m same one e does = record {
    met = e.met;
    notes = e.notes;
    stands = e.stands;
    ended = e.ended;
    this = λ q in_script there. subst (λ (p : ℕ). IsDoing size.workers script places (Ending place)
        p (e.notes p) (e.met p) later (passes_of m p)) (sym (its_own q in_script there)) does;
    others = λ q in_script other. subst (λ (p : Pass). IsDoing size.workers script places
        (Ending place) q (e.notes q) (e.met q) (e.stands q) p)
        (sym (one.others q (other_than q other))) (e.others q in_script other);
    feeder = same_feeder c m one.alone.feeding ∙ e.feeder;
    shut = λ q in_script closed. one.others q (apart q closed) ∙ e.shut q in_script closed;
    are_open = λ q in_script other.
        still_open c m one.alone q ∙ e.are_open q in_script other;
    is_open = λ q in_script there.
        still_open c m one.alone q ∙ e.is_open q in_script there ∙ sym same;
  }
    where
      apart : (q : ℕ) → (e.stands q).is_open ≡ false → q ≢ port
      apart q closed =
          apart_if_shut script places size place e.met e.notes e.stands e.ended port q is
          (omega (arith, here)) closed

  pub nothing_new : (c m : Crew) → PortsAlone c m → ((p : ℕ) → passes_of m p ≡ passes_of c p) →
      OnePass port c m
  nothing_new c m alone same = record { alone = alone; others = λ p other. same p }

  -- a message of its end was sent
  pub end_sends : SendsOneLaw → (m : NetlinkMessage) (ms : List NetlinkMessage) (errno : ℕ)
      (ds : List Due) (c n : Crew) → 0 < places → OnePass port c n →
      Speaks places port m errno (passes_of c port) (passes_of n port) →
      EndsCutting script places size place (m ∷ ms) ds c →
      Ends script places size place (side (AtEnd []) (map Message ms ++ ds)) n
  end_sends law m ms errno ds c n some one speaks e =
      ends_with (cut_side (AtEnd []) (map Message (m ∷ ms) ++ ds) e.fresh)
      (side (AtEnd []) (map Message ms ++ ds)) c n refl one e.ends
      (law size.workers script places (Ending place) port (e.ends.notes port) (e.ends.met port)
      (AtEnd []) m errno (map Message ms ++ ds) e.fresh (passes_of c port) (passes_of n port) some
      (All-head AsksWell m ms e.short) (sym here) speaks (e.ends.this port is here))

  -- and as a port's pass alone
  cuts : (ms : List NetlinkMessage) (ds : List Due) (c : Crew)
      (e : EndsCutting script places size place ms ds c) →
      IsCutting size.workers script places (Ending place) port (e.ends.notes port)
      (e.ends.met port) (AtEnd []) ms ds (passes_of c port)
  cuts ms ds c e = record {
    fresh = e.fresh;
    some = e.some;
    short = e.short;
    is = e.ends.this port is here;
  }

  -- no message stands there
  pub end_none : NoneLaw → (count look : ℕ) (rest : List ℕ) (ds : List Due) (c n : Crew)
      (used : ℕ) → 0 < places → look < count → used ≤ 0 → OnePass port c n →
      SpeaksFirst places port (first_message rest) (passes_of c port) (passes_of n port) used →
      EndsCutting script places size place (cut_in (count - look) rest) ds c →
      Ends script places size place (side (AtEnd []) ds) n
  end_none law count look rest ds c n used some within none one speaks e =
      let ms = cut_in (count - look) rest in
      ends_with (cut_side (AtEnd []) (map Message ms ++ ds) e.fresh) (side (AtEnd []) ds) c n refl
      one e.ends
      (law size.workers script places (Ending place) port (e.ends.notes port) (e.ends.met port)
      (AtEnd []) ds count look rest (passes_of c port) (passes_of n port) used some (sym here)
      within none speaks (cuts ms ds c e))

  -- there was a look for each byte
  pub end_enough : EnoughLaw → (count look : ℕ) (rest : List ℕ) (ds : List Due) (c : Crew) →
      0 < places → count ≤ look →
      EndsCutting script places size place (cut_in (count - look) rest) ds c →
      Ends script places size place (side (AtEnd []) ds) c
  end_enough law count look rest ds c some past e =
      let ms = cut_in (count - look) rest in
      ends_with (cut_side (AtEnd []) (map Message ms ++ ds) e.fresh) (side (AtEnd []) ds) c c refl
      (nothing_new c c (alone_none c) (λ p. refl)) e.ends
      (law size.workers script places (Ending place) port (e.ends.notes port) (e.ends.met port)
      (AtEnd []) ds count look rest (passes_of c port) some (sym here) past (cuts ms ds c e))

  -- an ask of its end was taken up
  pub end_takes_up : TakesUpLaw → (words : AskWords) (bytes : List ℕ) (ds : List Due)
      (c n : Crew) → PortsAlone c n → ((p : ℕ) → passes_of n p ≡ passes_of c p) →
      bytes ≡ bytes_of port (next_call (passes_of c port).dids) words →
      All AsksWell (messages_in (bytes_of port (next_call (passes_of c port).dids) words)) →
      Ends script places size place (side (AtEnd []) (Still (Words words) ∷ ds)) c →
      EndsCutting script places size place (messages_in bytes) ds n
  end_takes_up law words bytes ds c n alone same are short e =
      let ms = messages_in (bytes_of port (next_call (passes_of c port).dids) words) in
      subst (λ (l : List ℕ). EndsCutting script places size place (messages_in l) ds n) (sym are)
      (record {
        fresh = is_some_due (map Message ms);
        some = λ so. so;
        short = short;
        ends = ends_with (side (AtEnd []) (Still (Words words) ∷ ds)) (cut_then (AtEnd []) ms ds) c
            n refl (nothing_new c n alone same) e
            (subst (λ (p : Pass). IsDoing size.workers script places (Ending place) port
            (e.notes port) (e.met port) (cut_then (AtEnd []) ms ds) p) (sym (same port))
            (law size.workers script places (Ending place) port (e.notes port) (e.met port)
            (AtEnd []) words ds (passes_of c port) (e.this port is here)));
      })

-- ---- all ports look

pub ends_look : (script : ScriptValue) (places : ℕ) (size : Size) (place : ℕ) (due : List Due)
    (c m : Crew) → AllLookOn script places c m → Ends script places size place (idle due) c →
    Ends script places size place (idle due) m
ends_look script places size place due c m looks e = record {
  met = e.met;
  notes = e.notes;
  stands = e.stands;
  ended = e.ended;
  this = λ q is there. (looks.each size.workers q (e.is_open q is there)).on (Ending place)
      (e.notes q) (e.met q) due tt (e.this q is there);
  others = λ q is other. by q is other (cases_Bool (e.stands q).is_open);
  feeder = same_feeder c m looks.alone.feeding ∙ e.feeder;
  shut = λ q is closed.
      closed_same c m looks.alone q (e.are_open q is (apart q is closed) ∙ closed)
      ∙ e.shut q is closed;
  are_open = λ q is other. still_open c m looks.alone q ∙ e.are_open q is other;
  is_open = λ q is there. still_open c m looks.alone q ∙ e.is_open q is there;
}
  where
    apart : (q : ℕ) → is_port script q ≡ true → (e.stands q).is_open ≡ false →
        place_in q script.ports ≢ place
    apart q is closed there =
        let wrong : true ≡ false =
        sym (open_from script places size place e.met e.notes e.stands e.ended q is
        (omega (arith, there))) ∙ closed in
        absurd (cc)

    by : (q : ℕ) → is_port script q ≡ true → place_in q script.ports ≢ place →
        ((e.stands q).is_open ≡ true) ⊎ ((e.stands q).is_open ≡ false) →
        IsDoing size.workers script places (Ending place) q (e.notes q) (e.met q) (e.stands q)
        (passes_of m q)
    by q is other (inl opens) =
        let i = idle_if_open script places size place e.met e.notes e.stands e.ended q is opens in
        subst (λ (t : Stand). IsDoing size.workers script places (Ending place) q (e.notes q)
        (e.met q) t (passes_of m q)) (sym i.is)
        ((looks.each size.workers q (e.are_open q is other ∙ opens)).on (Ending place) (e.notes q)
        (e.met q) i.ends tt
        (subst (λ (t : Stand). IsDoing size.workers script places (Ending place) q (e.notes q)
        (e.met q) t (passes_of c q)) i.is (e.others q is other)))
    by q is other (inr closed) =
        subst (λ (p : Pass). IsDoing size.workers script places (Ending place) q (e.notes q)
        (e.met q) (e.stands q) p)
        (sym (closed_same c m looks.alone q (e.are_open q is other ∙ closed)))
        (e.others q is other)

-- ---- message by message

-- where no pass went on all is received that was
pub received_same : (ports : List ℕ) (places : ℕ) (c n : Crew) → PortsAlone c n →
    ((p : ℕ) → passes_of n p ≡ passes_of c p) → AreReceived ports places c →
    AreReceived ports places n
received_same ports places c n alone same was =
    let all : passes_of n ≡ passes_of c = λ j p. same p j in
    record {
      all = λ port is.
          subst (λ (ps : ℕ → Pass). sent_by_all ports places ps port ≡ length (ps port).letters)
          (sym all) (was.all port (sym (still_open c n alone port) ∙ is));
    }

-- before the first message
pub cuts_first : (script : ScriptValue) (places place : ℕ) (bytes : List ℕ) (c : Crew) →
    CutsEndTo script places place bytes (cut_in (length bytes - 0) bytes) c c
cuts_first script places place bytes c =
    let none : length bytes ≡ length bytes - 0 = omega arith in
    record {
      on = λ size ds e. subst (λ (k : ℕ). EndsCutting script places size place
          (cut_in k bytes) ds c) none e;
    }

cut_more : (count look : ℕ) (rest : List ℕ) → look < count →
    cut_in (count - look) rest
    ≡ with_those_behind (cut_in (count - (look + 1))) rest (first_message rest)
cut_more count look rest more =
    let one : count - look ≡ suc (count - (look + 1)) = omega (arith, more) in
    ap (λ (k : ℕ). cut_in k rest) one

-- the same script's port
module _ (script : ScriptValue) (places place port : ℕ) (is : is_port script port ≡ true)
    (here : place_in port script.ports ≡ place) where
  sent_one : SendsOneLaw → (size : Size) (ds : List Due) (cut : List ℕ → List NetlinkMessage)
      (rest : List ℕ) (c n m : Crew) (used : ℕ) (front : Option (NetlinkMessage × ℕ)) →
      0 < places → 0 < used → OnePass port c n → AllLookOn script places n m →
      SpeaksFirst places port front (passes_of c port) (passes_of n port) used →
      EndsCutting script places size place (with_those_behind cut rest front) ds c →
      EndsCutting script places size place (cut (drop used rest)) ds m
  sent_one law size ds cut rest c n m used None some uses one looks speaks e =
      absurd (omega (arith, uses, speaks.0))
  sent_one law size ds cut rest c n m used (Some (x, k)) some uses one looks speaks e =
      let ms = cut (drop k rest) in
      subst (λ (i : ℕ). EndsCutting script places size place (cut (drop i rest)) ds m)
      (sym speaks.0)
      (record {
        fresh = false;
        some = λ wrong. absurd (cc);
        short = All-tail AsksWell x ms e.short;
        ends = ends_look script places size place (map Message ms ++ ds) n m looks
            (end_sends script places size place port is here law x ms speaks.1.errno ds c n some
            one speaks.1.speaks e);
      })

  -- one more was sent, and then all looked
  pub cuts_on : SendsOneLaw → (bytes : List ℕ) (count look : ℕ) (rest left : List ℕ)
      (begun c n m : Crew) (used : ℕ) → 0 < places → look < count → 0 < used →
      OnePass port c n → AllLookOn script places n m →
      SpeaksFirst places port (first_message rest) (passes_of c port) (passes_of n port) used →
      left ≡ drop used rest →
      CutsEndTo script places place bytes (cut_in (count - look) rest) begun c →
      CutsEndTo script places place bytes (cut_in (count - (look + 1)) left) begun m
  cuts_on law bytes count look rest left begun c n m used some within uses one looks speaks are
      so_far = record {
        on = λ size ds e.
            subst (λ (l : List ℕ). EndsCutting script places size place
            (cut_in (count - (look + 1)) l) ds m) (sym are)
            (sent_one law size ds (cut_in (count - (look + 1))) rest c n m used
            (first_message rest) some uses one looks speaks
            (subst (λ (ms : List NetlinkMessage). EndsCutting script places size place ms ds c)
            (cut_more count look rest within) (so_far.on size ds e)));
      }

  -- no message stands there
  pub cuts_last : NoneLaw → (bytes : List ℕ) (count look : ℕ) (rest : List ℕ) (begun c n : Crew)
      (used : ℕ) → 0 < places → look < count → used ≤ 0 → OnePass port c n →
      SpeaksFirst places port (first_message rest) (passes_of c port) (passes_of n port) used →
      CutsEndTo script places place bytes (cut_in (count - look) rest) begun c →
      CutsEnd script places place bytes begun n
  cuts_last law bytes count look rest begun c n used some within none one speaks so_far = record {
    on = λ size ds e. end_none script places size place port is here law count look rest ds c n
        used some within none one speaks (so_far.on size ds e);
  }

  -- there was a look for each byte
  pub cuts_all : EnoughLaw → (bytes : List ℕ) (count look : ℕ) (rest : List ℕ) (begun c : Crew) →
      0 < places → count ≤ look →
      CutsEndTo script places place bytes (cut_in (count - look) rest) begun c →
      CutsEnd script places place bytes begun c
  cuts_all law bytes count look rest begun c some past so_far = record {
    on = λ size ds e. end_enough script places size place port is here law count look rest ds c
        some past (so_far.on size ds e);
  }

  -- the messages of an ask were sent
  pub says_of_end : TakesUpLaw → (words : AskWords) (bytes : List ℕ) (c n m : Crew) →
      PortsAlone c n → ((p : ℕ) → passes_of n p ≡ passes_of c p) →
      bytes ≡ bytes_of port (next_call (passes_of c port).dids) words →
      All AsksWell (messages_in (bytes_of port (next_call (passes_of c port).dids) words)) →
      CutsEnd script places place bytes n m → SaysOfEnd script places place words c m
  says_of_end law words bytes c n m alone same are short cut = record {
    on = λ size ds e. cut.on size ds
        (end_takes_up script places size place port is here law words bytes ds c n alone same are
        short e);
  }

-- ---- ask by ask

pub none_of_end : (script : ScriptValue) (places place : ℕ) (asks : List Ask) (c : Crew) →
    SaysEndTo script places place asks asks c c
none_of_end script places place asks c = record { on = λ size e. e }

pub end_said_on : (script : ScriptValue) (places place : ℕ) (asks left rest : List Ask)
    (words : AskWords) (begun c n : Crew) → left ≡ Words words ∷ rest →
    SaysEndTo script places place asks left begun c → SaysOfEnd script places place words c n →
    SaysEndTo script places place asks rest begun n
end_said_on script places place asks left rest words begun c n steps so_far says = record {
  on = λ size e. says.on size (all_due rest)
      (subst (λ (l : List Ask). Ends script places size place (side (AtEnd []) (all_due l)) c)
      steps (so_far.on size e));
}

pub end_left : (script : ScriptValue) (places place : ℕ) (asks left now : List Ask)
    (begun c : Crew) → left ≡ now → SaysEndTo script places place asks left begun c →
    SaysEndTo script places place asks now begun c
end_left script places place asks left now begun c same so_far =
    subst (λ (l : List Ask). SaysEndTo script places place asks l begun c) same so_far
