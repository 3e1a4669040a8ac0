-- What was sent to a closed port stays what it was, to the end of the run.
use Rattle.std.proofs.Common.{◌++◌, ◌+◌, ◌<◌, ◌∙◌, ◌≡◌, ◌⊎◌, List, Some, ap, append_assoc, arith}
use Rattle.std.proofs.Common.{false, inl, inr, length, refl, subst, sym, true, ℕ}
use Rattle.std.proofs.lemmas.Bool.{cases_Bool, eq-eqb, eqb-true}
use Rattle.std.specs.Prelude.{◌==◌, not, slice_get}
use Rattle.histories.specs.History.{history}
use Rattle.histories.specs.Numbers.{queue_count}
use Rattle.histories.specs.States.{state_of}
use Rattle.histories.specs.declared.entry.Entry.{Entry}
use Rattle.histories.specs.declared.histories.Histories.{Histories}
use Rattle.inspector_script.specs.Scripts.{ScriptValue}
use Rattle.run_parts.specs.Closing.{IsClosing, is_bound_to}
use Rattle.run_parts.specs.Log.{Note}
use Rattle.run_parts.specs.Ports.{is_port}
use Rattle.live_runs.specs.ClosedPlanes.{AreOwned, IsClosedPlane, sent_by_all}
use Rattle.live_runs.specs.Meetings.{ArePorts, IsMeeting}
use Rattle.live_runs.specs.Owners.{IsNotBy}
use Rattle.live_runs.specs.Passes.{AreMet, Pass, feeder_number, is_pass, seen_at}
use Rattle.live_runs.specs.Seen.{EachIs, Grows, IsAny, IsNone, Ours, Seen, TheirsAre, all_theirs}
use Rattle.live_runs.specs.Seen.{entries}
use Rattle.live_runs.specs.Stages.{Stage, Went, WentFeeding}
use Rattle.live_runs.specs.Stands.{Stand}
use Rattle.live_runs.specs.Sums.{WasSent}
use Rattle.live_runs.proofs.OwnInWhole.{each_by_index, ours_at, theirs_are}
use Rattle.live_runs.proofs.OwnInSegment.{behind_front, entries_length, in_front, within}
use Rattle.live_runs.proofs.LowerLaws.{ClosingLaws}
use Rattle.live_runs.proofs.Marks.{each_both, each_parts, entries_append, grows_as}
use Rattle.live_runs.proofs.Marks.{grows_on, met_grows, same_grows, theirs_front}
use Rattle.live_runs.proofs.OwnEntries.{cover, others_own, pass_cases, port_passes}
use Rattle.live_runs.proofs.NoticeSums.{AreFree, IsAway, all_same, sent_stays}

module _ (laws : ClosingLaws) (workers : ℕ) (script : ScriptValue) (places mail port : ℕ)
    (stage : Stage) (old new : ℕ → Pass) (h : Histories) (notes later : ℕ → List Note)
    (stands ends : ℕ → Stand) (i : is_port script port ≡ true)
    (meeting : IsMeeting workers script places stage old notes stands)
    (shut : (stands port).is_open ≡ false)
    (are : ArePorts workers script places new later ends)
    (grows : (k p : ℕ) → is_pass script.ports p ≡ true →
    Grows IsAny (seen_at old k p) (seen_at new k p))
    (idle_so : (k : ℕ) → Grows IsNone (seen_at old k port) (seen_at new k port))
    (closed : IsClosedPlane script.ports mail places new h) where
  whole_is : (k p : ℕ) (below : k < places) (is : is_pass script.ports p ≡ true) →
      closed.whole k ≡ meeting.whole k
      ++ (entries (grows k p is).more ++ (closed.covered k below).rest p)
  whole_is k p below is = (closed.covered k below).begins p is
      ∙ ap (λ xs. entries xs ++ (closed.covered k below).rest p) (grows k p is).is
      ∙ ap (λ es. es ++ (closed.covered k below).rest p)
      (entries_append (seen_at old k p) (grows k p is).more
      ∙ ap (λ es. es ++ entries (grows k p is).more) (meeting.met k p below is))
      ∙ append_assoc (meeting.whole k) (entries (grows k p is).more)
      ((closed.covered k below).rest p)

  long : (k p : ℕ) → k < places → is_pass script.ports p ≡ true →
      length (seen_at old k p) ≡ length (meeting.whole k)
  long k p below is =
      sym (entries_length (seen_at old k p)) ∙ ap length (meeting.met k p below is)

  owned : (k : ℕ) → k < places →
      AreOwned (is_pass script.ports) (seen_at old k) (meeting.whole k)
  owned k below = record {
    owned = λ j e is.
        let less = within (meeting.whole k) j e is in
        let o = (closed.covered k below).owned.owned j e
        (ap (λ es. slice_get es j) (whole_is k feeder_number below refl)
        ∙ in_front (meeting.whole k) _ j less ∙ is) in
        (o.0, o.1, there o.0 j e o.1 less o.2);
  }
    where
      there : (p j : ℕ) (e : Entry) → is_pass script.ports p ≡ true →
          j < length (meeting.whole k) → slice_get (seen_at new k p) j ≡ Some (Ours e) →
          slice_get (seen_at old k p) j ≡ Some (Ours e)
      there p j e is less at =
          let n = long k p below is in
          sym (in_front (seen_at old k p) (grows k p is).more j (omega (arith, less, n)))
          ∙ ap (λ xs. slice_get xs j) (sym (grows k p is).is) ∙ at

  -- its queues are gone
  free : (k p : ℕ) → k < places → is_pass script.ports p ≡ true →
      AreFree port (entries (seen_at old k p))
  free k p below is queue under =
      let c = cover workers script places old notes stands meeting.are k (meeting.whole k)
      (λ q passes_so. meeting.met k q below passes_so) (owned k below) in
      let guard = theirs_are (is_pass script.ports) (seen_at old k) (meeting.whole k) c
      (IsNotBy port) port (port_passes script port i) (λ q passes_so other.
      others_own workers script places old notes stands meeting.are port k q passes_so other) in
      let none : TheirsAre (IsNotBy port) (seen_at old k port) =
      theirs_front (IsNotBy port) (seen_at old k port) (all_theirs (c.rest port)) guard in
      let closing : IsClosing port true (history queue (entries (seen_at old k port))) =
      subst (λ b. IsClosing port (not b) (history queue (entries (seen_at old k port)))) shut
      (((meeting.are.ports port i).shutting k below).closing none queue under) in
      let same : entries (seen_at old k port) ≡ entries (seen_at old k p) =
      meeting.met k port below (port_passes script port i) ∙ sym (meeting.met k p below is) in
      ap (λ es. is_bound_to port (state_of es queue)) (sym same) ∙ closing.unbound

  -- and nobody asks for it any more
  away : (k p : ℕ) (below : k < places) (is : is_pass script.ports p ≡ true) →
      EachIs (IsAway port) (entries (grows k p is).more)
  away k p below is =
      let c = closed.covered k below in
      let rest = entries (grows k p is).more ++ c.rest p in
      (each_parts (IsAway port) (entries (grows k p is).more) (c.rest p)
      (each_both (IsNotBy port) (λ e. e.queue < queue_count) rest
      (each_by_index (IsNotBy port) rest (λ j e at.
      let o = c.owned.owned (length (meeting.whole k) + j) e
      (ap (λ es. slice_get es (length (meeting.whole k) + j)) (whole_is k p below is)
      ∙ behind_front (meeting.whole k) rest j ∙ at) in
      by o.0 j e o.1 o.2 (cases_Bool (o.0 == port))))
      (each_parts (λ e. e.queue < queue_count) (meeting.whole k) rest
      (subst (EachIs (λ e. e.queue < queue_count)) (whole_is k p below is)
      (closed.queues k below))).1)).0
    where
      by : (q j : ℕ) (e : Entry) → is_pass script.ports q ≡ true →
          slice_get (seen_at new k q) (length (meeting.whole k) + j) ≡ Some (Ours e) →
          ((q == port) ≡ true) ⊎ ((q == port) ≡ false) → IsNotBy port e
      by q j e passes_so at (inl same) =
          let g = idle_so k in
          let n = long k port below (port_passes script port i) in
          absurd (ours_at IsNone g.more g.ours j e
          (sym (behind_front (seen_at old k port) g.more j)
          ∙ ap (λ m. slice_get (seen_at old k port ++ g.more) (m + j)) n
          ∙ ap (λ xs. slice_get xs (length (meeting.whole k) + j)) (sym g.is)
          ∙ ap (λ r. slice_get (seen_at new k r) (length (meeting.whole k) + j))
          (sym (eqb-true q port same)) ∙ at))
      by q j e passes_so at (inr other) =
          ours_at (IsNotBy port) (seen_at new k q)
          (others_own workers script places new later ends are port k q passes_so
          (λ same. no_way (eq-eqb q port same))) (length (meeting.whole k) + j) e at
        where
          no_way : (q == port) ≡ true → ⊥
          no_way wrong = absurd (cc)

  sent_since : sent_by_all script.ports places new port ≡ sent_by_all script.ports places old port
  sent_since = all_same script.ports port places old new (λ p is.
      sent_stays laws port places (old p).shares (new p).shares (λ k. (grows k p is).more)
      (λ k. (grows k p is).is) (λ k below. free k p below is) (λ k below. away k p below is))

-- ---- kept from meeting to meeting

pub sent_at_meeting : (workers : ℕ) (script : ScriptValue) (places port : ℕ) (stage : Stage)
    (passes : ℕ → Pass) (notes : ℕ → List Note) (stands : ℕ → Stand) →
    IsMeeting workers script places stage passes notes stands → (stands port).is_open ≡ false →
    WasSent workers script places port (sent_by_all script.ports places passes port) passes
sent_at_meeting workers script places port stage passes notes stands meeting shut = record {
  stage = stage;
  old = passes;
  notes = notes;
  stands = stands;
  meeting = meeting;
  shut = shut;
  was_sent = refl;
  grows = λ k p is. same_grows IsAny (seen_at passes k p) (seen_at passes k p) refl;
  nothing = λ k. same_grows IsNone (seen_at passes k port) (seen_at passes k port) refl;
}

pub sent_on : (workers : ℕ) (script : ScriptValue) (places port sum : ℕ) (old new : ℕ → Pass) →
    ((k p : ℕ) → is_pass script.ports p ≡ true →
    Grows IsAny (seen_at old k p) (seen_at new k p)) →
    ((k : ℕ) → Grows IsNone (seen_at old k port) (seen_at new k port)) →
    WasSent workers script places port sum old → WasSent workers script places port sum new
sent_on workers script places port sum old new grows nothing w = record {
  stage = w.stage;
  old = w.old;
  notes = w.notes;
  stands = w.stands;
  meeting = w.meeting;
  shut = w.shut;
  was_sent = w.was_sent;
  grows = λ k p is. grows_on IsAny (seen_at w.old k p) (seen_at old k p) (seen_at new k p)
      (w.grows k p is) (grows k p is);
  nothing = λ k. grows_on IsNone (seen_at w.old k port) (seen_at old k port) (seen_at new k port)
      (w.nothing k) (nothing k);
}

any_grows : (Q : Entry → Type 0) (xs ys : List Seen) → Grows Q xs ys → Grows IsAny xs ys
any_grows Q xs ys g = grows_as Q IsAny (λ e is. tt) xs ys g

pub sent_through : (workers : ℕ) (script : ScriptValue) (places port sum : ℕ) (stage : Stage)
    (old mid new : ℕ → Pass) (was now : ℕ → List Note) → is_port script port ≡ true →
    ((p : ℕ) → is_port script p ≡ true →
    Went workers script stage p (was p) (now p) (old p).shares (mid p).shares) →
    WentFeeding script stage (old feeder_number).shares (mid feeder_number).shares →
    ((k : ℕ) → seen_at mid k port ≡ seen_at old k port) → AreMet script.ports mid new →
    WasSent workers script places port sum old → WasSent workers script places port sum new
sent_through workers script places port sum stage old mid new was now i went fed same met w =
    sent_on workers script places port sum old new
    (λ k p is. grows_on IsAny (seen_at old k p) (seen_at mid k p) (seen_at new k p)
    (first k p (pass_cases script p is))
    (met_grows IsAny (seen_at mid k p) (seen_at new k p) (met.rest k p) (met.longer k p is)))
    (λ k. grows_on IsNone (seen_at old k port) (seen_at mid k port) (seen_at new k port)
    (same_grows IsNone (seen_at old k port) (seen_at mid k port) (same k))
    (met_grows IsNone (seen_at mid k port) (seen_at new k port) (met.rest k port)
    (met.longer k port (port_passes script port i)))) w
  where
    first : (k p : ℕ) → (p ≡ feeder_number) ⊎ (is_port script p ≡ true) →
        Grows IsAny (seen_at old k p) (seen_at mid k p)
    first k p (inl at) = subst (λ q. Grows IsAny (seen_at old k q) (seen_at mid k q)) (sym at)
        (any_grows _ (seen_at old k feeder_number) (seen_at mid k feeder_number) (fed.grows k))
    first k p (inr is) =
        any_grows _ (seen_at old k p) (seen_at mid k p) ((went p is).grows k)

pub sent_at_last : ClosingLaws → (workers : ℕ) (script : ScriptValue)
    (places mail port sum : ℕ) (passes : ℕ → Pass) (h : Histories) (notes : ℕ → List Note)
    (stands : ℕ → Stand) → is_port script port ≡ true →
    ArePorts workers script places passes notes stands →
    IsClosedPlane script.ports mail places passes h →
    WasSent workers script places port sum passes →
    sent_by_all script.ports places passes port ≡ sum
sent_at_last laws workers script places mail port sum passes h notes stands i are closed w =
    sent_since laws workers script places mail port w.stage w.old passes h w.notes notes w.stands
    stands i w.meeting w.shut are w.grows w.nothing closed
    ∙ w.was_sent
