-- The ports open one after the other, and all passes meet behind each.
use Rattle.std.proofs.Common.{◌++◌, ◌<◌, ◌∙◌, ◌≡◌, ◌≢◌, ◌≤◌, ◌⊎◌, List, [], ap, append-nil}
use Rattle.std.proofs.Common.{append_assoc, arith, false, inl, inr, length, refl, subst, suc, sym}
use Rattle.std.proofs.Common.{true, ℕ}
use Rattle.std.proofs.lemmas.Bool.{cases_Bool, eq-eqb, eqb-true, ne_eqb}
use Rattle.std.specs.List.{list_any}
use Rattle.std.specs.Prelude.{◌==◌, if◌then◌else◌}
use Rattle.histories.specs.declared.entry.Entry.{Entry}
use Rattle.histories.specs.Logs.{is_received}
use Rattle.histories.specs.Places.{place_for}
use Rattle.inspector_script.specs.Scripts.{IsScript, ScriptValue}
use Rattle.run_parts.specs.Log.{Note, Standing, standing}
use Rattle.run_parts.specs.Ports.{is_port, place_in}
use Rattle.live_runs.specs.ClosedPlanes.{AreOwned}
use Rattle.live_runs.specs.Doing.{IsDoing}
use Rattle.live_runs.specs.Meetings.{ArePorts, IsAsk, IsMeeting, IsNew, IsOpenTo}
use Rattle.live_runs.specs.Owners.{IsAskingOf, IsEven, IsFeeders, IsOf, IsShutting}
use Rattle.live_runs.specs.Passes.{AreMet, Pass, feeder_number, is_pass, seen_at, with_pass}
use Rattle.live_runs.specs.Ports.{IsPort}
use Rattle.live_runs.specs.Seen.{EachIs, IsNone, OursAre, Seen, all_theirs, entries}
use Rattle.live_runs.specs.Stages.{Adds, IsSegment, Opening, Working}
use Rattle.live_runs.specs.Stands.{Stand, full, opened, unopened}
use Rattle.live_runs.proofs.PortCalls.{begins_doing}
use Rattle.live_runs.proofs.StageNotes.{adds_nothing}
use Rattle.live_runs.proofs.OpeningRequests.{asks_on, segment_asks}
use Rattle.live_runs.proofs.BetweenMeetings.{following, meeting_later, segments}
use Rattle.live_runs.proofs.LowerLaws.{ClosingLaws, Conserve, LogLaws}
use Rattle.live_runs.proofs.Marks.{grown_ours, grows_as, nothing_ours, ours_append}
use Rattle.live_runs.proofs.PortNotes.{meets}
use Rattle.live_runs.proofs.OwnEntries.{no_port_zero, port_passes}
use Rattle.live_runs.proofs.PortPlaces.{place_apart, place_below}
use Rattle.live_runs.proofs.StageEntries.{asks_are_plain}
use Rattle.live_runs.proofs.StageDids.{asking_of}

-- ---- before the first

module _ (workers : ℕ) (script : ScriptValue) (places : ℕ) (passes : ℕ → Pass)
    (are : (p : ℕ) → is_pass script.ports p ≡ true → IsNew (passes p)) where
  abbrev silent : ℕ → List Note
  silent p = []

  new_port : (port : ℕ) → is_port script port ≡ true →
      IsPort workers script places port [] (unopened script port) (passes port)
  new_port port i =
      let new = are port (port_passes script port i) in
      record {
        next = tt;
        stands = ap (λ ds. full ds (unopened script port)) (sym new.dids);
        heard_so = sym new.letters;
        errnos = tt;
        even = record {
          each = λ queue. subst (λ xs. IsEven port queue xs [])
              (sym (new.shares (place_for queue places))) (record { even = λ guard. refl });
        };
        shutting = λ k below. subst (IsShutting port false) (sym (new.shares k))
            (record { closing = λ guard queue under. refl });
      }

  new_ports : ArePorts workers script places passes silent (unopened script)
  new_ports = record {
    ports = new_port;
    others = λ port out. refl;
    ours = λ port i k. subst (OursAre (IsOf port))
        (sym ((are port (port_passes script port i)).shares k)) tt;
    feeders = λ k. subst (OursAre IsFeeders) (sym ((are feeder_number refl).shares k)) tt;
  }

  pub none_open : IsOpenTo workers script places 0 passes silent (unopened script)
  none_open = record {
    meeting = record {
      whole = λ k. [];
      are = new_ports;
      met = λ k p below is. ap entries ((are p is).shares k);
      order = λ owned. record {
        each = λ queue below. record {
          marks = [];
          entries = refl;
          kinds = λ port. refl;
          early = record { ascend = tt; last = omega arith };
          late = record { ascend = tt; last = omega arith };
        };
      };
    };
    before = λ port i less. absurd (omega (arith, less));
    behind = λ port i least. (refl, refl);
    asks = λ owned k below. tt;
  }

-- ---- the next one

pub begins_open : LogLaws → ClosingLaws → Conserve → (workers : ℕ) (script : ScriptValue)
    (places port : ℕ) (passes : ℕ → Pass) (notes : ℕ → List Note) (stands : ℕ → Stand) →
    is_port script port ≡ true →
    IsOpenTo workers script places (place_in port script.ports) passes notes stands →
    IsDoing workers script places (Opening (place_in port script.ports)) port (notes port)
    (passes port) (unopened script port) (passes port)
begins_open logs laws conserve workers script places port passes notes stands i is =
    let place = place_in port script.ports in
    let new = is.behind port i (omega arith) in
    let here = is.meeting.are.ports port i in
    begins_doing logs laws conserve workers script places (Opening place) port (notes port)
    (passes port) (unopened script port)
    (ap (list_any is_received) (sym (ap (λ (t : Standing). t.dids)
    (ap (standing workers script place port) (sym new.0) ∙ here.stands))))
    (subst (λ t. IsPort workers script places port (notes port) t (passes port)) new.1 here)

module _ (logs : LogLaws) (laws : ClosingLaws) (workers : ℕ) (script : ScriptValue)
    (places port : ℕ) (old new : ℕ → Pass) (notes : ℕ → List Note) (stands : ℕ → Stand)
    (mine : Pass) (some : 0 < places) (good : IsScript script)
    (i : is_port script port ≡ true)
    (was : IsOpenTo workers script places (place_in port script.ports) old notes stands)
    (a : IsDoing workers script places (Opening (place_in port script.ports)) port (notes port)
    (old port) (opened script port) mine)
    (met : AreMet script.ports (with_pass port mine old) new) where
  abbrev place : ℕ
  place = place_in port script.ports

  abbrev mid : ℕ → Pass
  mid = with_pass port mine old

  abbrev pub then_notes : ℕ → List Note
  then_notes p = if p == port then a.notes else notes p

  abbrev pub then_stands : ℕ → Stand
  then_stands p = if p == port then opened script port else stands p

  mid_port : (p : ℕ) → (p == port) ≡ true → mid p ≡ mine
  mid_port p h = rw h refl

  mid_other : (p : ℕ) → (p == port) ≡ false → mid p ≡ old p
  mid_other p h = rw h refl

  zero_apart : (0 == port) ≡ false
  zero_apart = ne_eqb 0 port (λ same. wrong (sym i ∙ ap (is_port script) (sym same)
      ∙ no_port_zero script good))
    where
      wrong : true ≡ false → ⊥
      wrong no_way = absurd (cc)

  ports_then : ArePorts workers script places new then_notes then_stands
  ports_then = record {
    ports = λ p is. meets logs laws workers script places p (then_notes p) (then_stands p) (mid p)
        (new p) (λ k. met.rest k p) (λ k. met.longer k p (port_passes script p is)) (met.dids p)
        (met.letters p) (one p is (cases_Bool (p == port)));
    others = λ p out. none p out (cases_Bool (p == port));
    ours = λ p is k. subst (OursAre (IsOf p)) (sym (met.longer k p (port_passes script p is)))
        (ours_append (IsOf p) (seen_at mid k p) (all_theirs (met.rest k p))
        (ours_mid p k is (cases_Bool (p == port))) (nothing_ours (IsOf p) (met.rest k p)));
    feeders = λ k. subst (OursAre IsFeeders) (sym (met.longer k feeder_number refl))
        (ours_append IsFeeders (seen_at mid k feeder_number)
        (all_theirs (met.rest k feeder_number)) (fed k)
        (nothing_ours IsFeeders (met.rest k feeder_number)));
  }
    where
      one : (p : ℕ) → is_port script p ≡ true → ((p == port) ≡ true) ⊎ ((p == port) ≡ false) →
          IsPort workers script places p (then_notes p) (then_stands p) (mid p)
      one p is (inl h) = rw h (subst (λ q. IsPort workers script places q a.notes
          (opened script port) mine) (sym (eqb-true p port h)) a.is)
      one p is (inr h) = rw h (was.meeting.are.ports p is)

      none : (p : ℕ) → is_port script p ≡ false → ((p == port) ≡ true) ⊎ ((p == port) ≡ false) →
          then_notes p ≡ []
      none p out (inl h) =
          let wrong : true ≡ false =
          sym i ∙ ap (is_port script) (sym (eqb-true p port h)) ∙ out in
          absurd (cc)
      none p out (inr h) = rw h (was.meeting.are.others p out)

      ours_mid : (p k : ℕ) → is_port script p ≡ true →
          ((p == port) ≡ true) ⊎ ((p == port) ≡ false) → OursAre (IsOf p) (seen_at mid k p)
      ours_mid p k is (inl h) = subst (λ (x : Pass). OursAre (IsOf p) (x.shares k))
          (sym (mid_port p h)) (subst (λ q. OursAre (IsOf q) (mine.shares k))
          (sym (eqb-true p port h))
          (grown_ours (IsOf port) (seen_at old k port) (mine.shares k)
          (was.meeting.are.ours port i k)
          (grows_as (IsAskingOf port) (IsOf port) (asking_of port) (seen_at old k port)
          (mine.shares k) (a.grows k))))
      ours_mid p k is (inr h) = subst (λ (x : Pass). OursAre (IsOf p) (x.shares k))
          (sym (mid_other p h)) (was.meeting.are.ours p is k)

      fed : (k : ℕ) → OursAre IsFeeders (seen_at mid k feeder_number)
      fed k = subst (λ (x : Pass). OursAre IsFeeders (x.shares k))
          (sym (mid_other feeder_number zero_apart)) (was.meeting.are.feeders k)

  -- what is new of each pass
  own : ℕ → ℕ → List Seen
  own k p = if p == port then a.quiet.more k else []

  own_port : (k : ℕ) → own k port ≡ a.quiet.more k
  unfolding own
  own_port k = rw (eq-eqb port port refl) refl

  abbrev more : ℕ → ℕ → List Seen
  more k p = own k p ++ all_theirs (met.rest k p)

  mid_is : (k p : ℕ) → ((p == port) ≡ true) ⊎ ((p == port) ≡ false) →
      seen_at mid k p ≡ seen_at old k p ++ own k p
  unfolding own
  mid_is k p (inl h) = ap (λ (x : Pass). x.shares k) (mid_port p h) ∙ a.quiet.is k
      ∙ ap (λ q. seen_at old k q ++ a.quiet.more k) (sym (eqb-true p port h))
      ∙ ap (λ b. seen_at old k p ++ (if b then a.quiet.more k else [])) (sym h)
  mid_is k p (inr h) = ap (λ (x : Pass). x.shares k) (mid_other p h)
      ∙ sym (append-nil (seen_at old k p))
      ∙ ap (λ b. seen_at old k p ++ (if b then a.quiet.more k else [])) (sym h)

  longer_so : (k p : ℕ) → is_pass script.ports p ≡ true →
      seen_at new k p ≡ seen_at old k p ++ more k p
  longer_so k p is = met.longer k p is
      ∙ ap (λ xs. xs ++ all_theirs (met.rest k p)) (mid_is k p (cases_Bool (p == port)))
      ∙ append_assoc (seen_at old k p) (own k p) (all_theirs (met.rest k p))

  told_so : (p : ℕ) → Adds workers script place 0 p (notes p) (then_notes p)
  told_so p = by (cases_Bool (p == port))
    where
      by : ((p == port) ≡ true) ⊎ ((p == port) ≡ false) →
          Adds workers script place 0 p (notes p) (then_notes p)
      by (inl h) = rw h (subst (λ q. Adds workers script place 0 q (notes q) a.notes)
          (sym (eqb-true p port h)) a.adds)
      by (inr h) = rw h (adds_nothing workers script place 0 p (notes p))

  abbrev segs : (k : ℕ) → k < places → IsSegment (is_pass script.ports) (seen_at old k)
      (seen_at new k) (was.meeting.whole k) (entries (more k feeder_number))
  segs = segments workers script places place 0 (Opening place) old new notes then_notes stands
      then_stands some (omega arith) (omega arith) was.meeting.are ports_then was.meeting.whole
      was.meeting.met was.meeting.order met.whole met.met more longer_so

  abbrev seg : ℕ → List Entry
  seg k = entries (more k feeder_number)

  idle_so : (k : ℕ) (below : k < places) (p : ℕ) → is_pass script.ports p ≡ true → p ≢ port →
      OursAre IsNone ((segs k below).more p)
  unfolding own
  idle_so k below p is other =
      rw (ne_eqb p port other) (nothing_ours IsNone (met.rest k p))

  port_more : (k : ℕ) (below : k < places) →
      (segs k below).more port ≡ a.quiet.more k ++ all_theirs (met.rest k port)
  port_more k below = ap (λ xs. xs ++ all_theirs (met.rest k port)) (own_port k)

  segment_asks_so : ((k : ℕ) → k < places →
      AreOwned (is_pass script.ports) (seen_at new k) (was.meeting.whole k ++ seg k)) →
      (k : ℕ) → k < places → EachIs IsAsk (seg k)
  segment_asks_so owned = segment_asks (is_pass script.ports) places (seen_at old) (seen_at new)
      was.meeting.whole seg port (port_passes script port i) segs mine.shares a.quiet
      (λ k below. met.rest k port) port_more idle_so was.asks owned

  asks_so : ((k : ℕ) → k < places →
      AreOwned (is_pass script.ports) (seen_at new k) (was.meeting.whole k ++ seg k)) →
      (k : ℕ) → k < places → EachIs IsAsk (was.meeting.whole k ++ seg k)
  asks_so owned = asks_on (is_pass script.ports) places (seen_at old) (seen_at new)
      was.meeting.whole seg port (port_passes script port i) segs mine.shares a.quiet
      (λ k below. met.rest k port) port_more idle_so was.asks owned

  pub open_next : IsOpenTo workers script places (suc place) new then_notes then_stands
  open_next = record {
    meeting = meeting_later workers script places (Opening place) (Opening (suc place)) new
        then_notes then_stands (omega arith, omega arith)
        (following workers script places place 0 (Opening place) old new notes then_notes stands
        then_stands some (omega arith) (omega arith) was.meeting.are ports_then was.meeting.whole
        was.meeting.met was.meeting.order met.whole met.met more longer_so told_so
        (λ owned k below. asks_are_plain script.ports place 0 (seg k)
        (segment_asks_so owned k below)));
    before = λ p is less. before_so p is less (cases_Bool (p == port));
    behind = behind_so;
    asks = asks_so;
  }
    where
      before_so : (p : ℕ) → is_port script p ≡ true → place_in p script.ports < suc place →
          ((p == port) ≡ true) ⊎ ((p == port) ≡ false) → then_stands p ≡ opened script p
      before_so p is less (inl h) = rw h (ap (opened script) (sym (eqb-true p port h)))
      before_so p is less (inr h) = rw h (was.before p is (nearer
          (λ same. no_way (eq-eqb p port (place_apart p port script.ports is same)))))
        where
          no_way : (p == port) ≡ true → ⊥
          no_way wrong = absurd (cc)

          nearer : (place_in p script.ports ≡ place → ⊥) → place_in p script.ports < place
          nearer away = omega (arith, less, away)

      behind_so : (p : ℕ) → is_port script p ≡ true → suc place ≤ place_in p script.ports →
          (then_notes p ≡ []) × (then_stands p ≡ unopened script p)
      behind_so p is least =
          let far : place < place_in p script.ports = omega (arith, least) in
          rw (ne_eqb p port (λ same. apart p least same))
          (was.behind p is (omega (arith, least)))
        where
          apart : (p : ℕ) → suc place ≤ place_in p script.ports → p ≡ port → ⊥
          apart p least same =
              let at : place_in p script.ports ≡ place = ap (λ q. place_in q script.ports) same in
              absurd (omega (arith, least, at))

-- ---- behind the last

pub all_open : (workers : ℕ) (script : ScriptValue) (places : ℕ) (passes : ℕ → Pass)
    (notes : ℕ → List Note) (stands : ℕ → Stand) →
    IsOpenTo workers script places (length script.ports) passes notes stands →
    IsMeeting workers script places Working passes notes stands
all_open workers script places passes notes stands is =
    meeting_later workers script places (Opening (length script.ports)) Working passes notes stands
    (omega arith, omega arith) is.meeting

pub each_open : (workers : ℕ) (script : ScriptValue) (places : ℕ) (passes : ℕ → Pass)
    (notes : ℕ → List Note) (stands : ℕ → Stand) →
    IsOpenTo workers script places (length script.ports) passes notes stands → (port : ℕ) →
    is_port script port ≡ true → stands port ≡ opened script port
each_open workers script places passes notes stands is port i =
    is.before port i (place_below port script.ports i)
