-- The histories of a closed plane are made by the script.
use Rattle.std.proofs.Common.{◌++◌, ◌<◌, ◌∙◌, ◌∷◌, ◌≡◌, ◌≢◌, ◌≤◌, ◌⊎◌, List, None, Option}
use Rattle.std.proofs.Common.{Some, [], ap, append-nil, arith, false, inl, inr, length, refl, subst}
use Rattle.std.proofs.Common.{sym, true, ℕ}
use Rattle.std.proofs.Math.Nat.{mod-lt}
use Rattle.std.proofs.lemmas.Bool.{cases_Bool, eqb-true, ne_eqb}
use Rattle.std.specs.List.{list_any}
use Rattle.std.specs.Prelude.{◌==◌, filter, flat_map, map, not}
use Rattle.histories.specs.History.{history}
use Rattle.histories.specs.Numbers.{queue_count}
use Rattle.histories.specs.declared.entry.Entry.{Entry}
use Rattle.histories.specs.declared.histories.Histories.{Histories}
use Rattle.histories.specs.declared.log.Did.{Did}
use Rattle.histories.specs.declared.log.PortLog.{PortLog}
use Rattle.histories.specs.Letters.{is_from}
use Rattle.histories.specs.Places.{place_for}
use Rattle.inspector_script.specs.Scripts.{ScriptValue}
use Rattle.run_parts.specs.Closing.{IsClosing, is_closed}
use Rattle.run_parts.specs.Feeder.{IsFedBy, downs_in_effect}
use Rattle.run_parts.specs.Log.{IsLog, Note, Standing, logged, start, unanswered}
use Rattle.run_parts.specs.Notices.{heard, letters_from}
use Rattle.run_parts.specs.Order.{IsOrdered, kinds_told}
use Rattle.run_parts.specs.Ports.{is_port, log_of, place_in}
use Rattle.run_parts.specs.Requests.{answer_in, pleas_in, pleas_told}
use Rattle.run_parts.specs.Room.{some_lacks}
use Rattle.run_parts.specs.Run.{IsMadeBy}
use Rattle.run_parts.specs.Underway.{Ordered}
use Rattle.live_runs.specs.ClosedPlanes.{IsClosedPlane, IsCovered, log_by, sent_by_all}
use Rattle.live_runs.specs.Meetings.{ArePorts}
use Rattle.live_runs.specs.Owners.{IsFedByAll, IsNotBy, IsNotFed, IsOf}
use Rattle.live_runs.specs.Passes.{Pass, feeder_number, is_pass, seen_at}
use Rattle.live_runs.specs.Seen.{OursAre, all_theirs}
use Rattle.live_runs.specs.Stages.{InOrder}
use Rattle.live_runs.specs.Stands.{IsDone, Stand}
use Rattle.live_runs.proofs.Closings.{grown_shutting}
use Rattle.live_runs.proofs.OwnInWhole.{full_entries, theirs_are}
use Rattle.live_runs.proofs.FedEntries.{met_by_all}
use Rattle.live_runs.proofs.LowerLaws.{ClosingLaws, LogLaws}
use Rattle.live_runs.proofs.Marks.{met_grows, ours_as}
use Rattle.live_runs.proofs.OwnEntries.{covered_even, other_passes, others_own, port_passes}
use Rattle.live_runs.proofs.OwnEntries.{ports_not_fed}

module _ (logs : LogLaws) (laws : ClosingLaws) (workers feeders : ℕ) (script : ScriptValue)
    (places frames : ℕ) (passes : ℕ → Pass)
    (h : Histories) (notes : ℕ → List Note) (stands : ℕ → Stand) (some : 0 < places)
    (closed : IsClosedPlane script.ports script.mail places passes h)
    (are : ArePorts workers script places passes notes stands)
    (done : (port : ℕ) → is_port script port ≡ true → IsDone (stands port))
    (feeding : (k : ℕ) → k < places →
    IsFedByAll feeders (downs_in_effect script frames) (seen_at passes k feeder_number))
    (received : (port : ℕ) → is_port script port ≡ true →
    sent_by_all script.ports places passes port ≡ length (passes port).letters) where
  abbrev at : ℕ → ℕ
  at queue = place_for queue places

  abbrev place : ℕ → ℕ
  place port = place_in port script.ports

  within : (queue : ℕ) → at queue < places
  within queue = mod-lt queue some

  covered_at : (queue : ℕ) →
      IsCovered (is_pass script.ports) (seen_at passes (at queue)) (closed.whole (at queue))
  covered_at queue = closed.covered (at queue) (within queue)

  -- ---- requests

  requests_so : (port queue : ℕ) → pleas_in port (history queue h.entries)
      ≡ flat_map (pleas_told queue) (notes port)
  requests_so port queue = ap (pleas_in port) (closed.same queue)
      ∙ covered_even workers script places passes notes stands are port queue (at queue)
      (closed.whole (at queue)) refl (covered_at queue)

  -- ---- notices and room

  all_heard : (port : ℕ) → is_port script port ≡ true →
      heard (notes port) ++ [] ≡ (passes port).letters
  all_heard port i = append-nil (heard (notes port)) ∙ (are.ports port i).heard_so

  notices_so : (port queue : ℕ) → is_port script port ≡ true →
      filter (is_from queue) (heard (notes port) ++ [])
      ≡ letters_from port None (history queue h.entries)
  notices_so port queue i = ap (filter (is_from queue)) (all_heard port i)
      ∙ sym (closed.all port queue i (received port i))

  room_so : (port queue : ℕ) → is_port script port ≡ true →
      some_lacks port None (history queue h.entries) ≡ true →
      script.mail ≤ length (heard (notes port) ++ [])
  room_so port queue i lacks =
      let least = closed.room port queue i lacks in
      let sum : length (heard (notes port) ++ [])
      ≡ sent_by_all script.ports places passes port =
      ap length (all_heard port i) ∙ sym (received port i) in
      omega (arith, least, sum)

  -- ---- logs

  dids_so : (port : ℕ) → is_port script port ≡ true →
      (passes port).dids ≡ logged port (notes port)
  dids_so port i = sym (ap (λ (t : Standing). t.dids) (are.ports port i).stands)
      ∙ logs.logged workers script (place port) port (start script (place port)) (notes port)

  some_same : (xs ys : List Did) → Some xs ≡ Some ys → ys ≡ xs
  some_same xs ys is = ap (held xs) (sym is)
    where
      held : List Did → Option (List Did) → List Did
      held zs None = zs
      held zs (Some us) = us

  -- the log of a port says what its pass did
  log_found : (port : ℕ) (dids : List Did) (ps : List ℕ) →
      log_of port (map (log_by passes) ps) ≡ Some dids → dids ≡ (passes port).dids
  log_found port dids [] is = absurd (cc)
  log_found port dids (p ∷ ps) is =
      by (cases_Bool (port == p)) (λ found. log_found port dids ps found)
    where
      by : ((port == p) ≡ true) ⊎ ((port == p) ≡ false) →
          (log_of port (map (log_by passes) ps) ≡ Some dids → dids ≡ (passes port).dids) →
          dids ≡ (passes port).dids
      by (inl same) so =
          let found : Some (passes p).dids ≡ Some dids = rw same at is in
          some_same (passes p).dids dids found
          ∙ ap (λ q. (passes q).dids) (sym (eqb-true port p same))
      by (inr other) so =
          let found : log_of port (map (log_by passes) ps) ≡ Some dids = rw other at is in
          so found

  log_is : (port : ℕ) (dids : List Did) → is_port script port ≡ true →
      log_of port h.logs ≡ Some dids → dids ≡ logged port (notes port)
  log_is port dids i found =
      log_found port dids script.ports (ap (log_of port) (sym closed.logs) ∙ found)
      ∙ dids_so port i

  log_so : (port : ℕ) (dids : List Did) → is_port script port ≡ true →
      log_of port h.logs ≡ Some dids → IsLog workers script (place port) port (notes port) dids
  log_so port dids i found =
      let one = are.ports port i in
      record {
        noted = ap (map unanswered) (log_is port dids i found);
        next = one.next;
        owed = ap (λ (t : Standing). t.owed) one.stands ∙ (done port i).owed;
        answered = ap (λ (t : Standing). t.pending) one.stands ∙ (done port i).pending;
        ended = ap (λ (t : Standing). t.ends) one.stands ∙ (done port i).ends;
      }

  ports_of : (ps : List ℕ) → map (λ (l : PortLog). l.port) (map (log_by passes) ps) ≡ ps
  ports_of [] = refl
  ports_of (p ∷ ps) = ap (λ (qs : List ℕ). p ∷ qs) (ports_of ps)

  -- ---- closings

  closings_so : (port queue : ℕ) → is_port script port ≡ true → queue < queue_count →
      IsClosing port (list_any is_closed (logged port (notes port))) (history queue h.entries)
  closings_so port queue i below =
      let one = are.ports port i in
      let shut = not (stands port).is_open in
      let k = at queue in
      let c = covered_at queue in
      let xs = seen_at passes k port in
      let whole_so = grown_shutting laws port shut xs (xs ++ all_theirs (c.rest port))
      (met_grows (IsNotBy port) xs (xs ++ all_theirs (c.rest port)) (c.rest port) refl)
      (one.shutting k (within queue)) in
      subst (λ b. IsClosing port b (history queue h.entries))
      (sym (ap (list_any is_closed) (sym (logs.logged workers script (place port) port
      (start script (place port)) (notes port)))
      ∙ logs.closed workers script (place port) port (start script (place port)) (notes port) refl
      ∙ ap (λ (t : Standing). not t.is_open) one.stands))
      (subst (IsClosing port shut) (sym (closed.same queue))
      (subst (λ es. IsClosing port shut (history queue es))
      (full_entries (is_pass script.ports) (seen_at passes k) (closed.whole k) c port
      (port_passes script port i))
      (whole_so.closing
      (theirs_are (is_pass script.ports) (seen_at passes k) (closed.whole k) c (IsNotBy port) port
      (port_passes script port i)
      (λ p passes_so other. others_own workers script places passes notes stands are port k p
      passes_so other)) queue below)))

  -- ---- the feeder

  not_fed : (k p : ℕ) → is_pass script.ports p ≡ true → p ≢ feeder_number →
      OursAre IsNotFed (seen_at passes k p)
  not_fed k p passes_so other =
      let i = other_passes script p passes_so (ne_eqb p feeder_number other) in
      ours_as (IsOf p) IsNotFed (λ e own. ports_not_fed p e.event own) (seen_at passes k p)
      (are.ours p i k)

  fed_so : (queue : ℕ) → queue < queue_count →
      IsFedBy feeders (downs_in_effect script frames) (history queue h.entries)
  fed_so queue below =
      let k = at queue in
      let c = covered_at queue in
      let fallen = downs_in_effect script frames in
      let xs = seen_at passes k feeder_number in
      let whole_so = met_by_all feeders fallen xs (c.rest feeder_number)
      (feeding k (within queue)) in
      subst (IsFedBy feeders fallen) (sym (closed.same queue))
      (subst (λ es. IsFedBy feeders fallen (history queue es))
      (full_entries (is_pass script.ports) (seen_at passes k) (closed.whole k) c feeder_number refl)
      (whole_so.fed
      (theirs_are (is_pass script.ports) (seen_at passes k) (closed.whole k) c IsNotFed
      feeder_number refl (λ p passes_so other. not_fed k p passes_so other)) queue below))

  -- ---- all of it

  pub made_so : (early late : ℕ) →
      InOrder workers script places early late closed.whole notes →
      IsMadeBy workers feeders script frames h notes (λ port. [])
  made_so early late order = record {
    log = record { each = λ port dids i found. log_so port dids i found; others = are.others };
    requests = record {
      each = λ port i queue. requests_so port queue;
      nobody = λ port out queue. requests_so port queue
          ∙ ap (flat_map (pleas_told queue)) (are.others port out);
      errnos = λ port i. (are.ports port i).errnos;
      answers = λ port dids i found. ap (flat_map answer_in) (log_is port dids i found);
    };
    notices = λ port i queue. notices_so port queue i;
    closing = λ port i queue below. closings_so port queue i below;
    feeder = fed_so;
    ports = ap (map (λ (l : PortLog). l.port)) closed.logs ∙ ports_of script.ports;
    order = λ queue below.
        subst (IsOrdered script.ports (λ port. kinds_told workers script queue port (notes port)))
        (sym (closed.same queue))
        (is_ordered queue (history queue (closed.whole (at queue))) (order.each queue below));
    room = λ port i queue lacks. room_so port queue i lacks;
  }
    where
      is_ordered : (queue : ℕ) (hs : List Entry) →
          Ordered script.ports early late (λ p. kinds_told workers script queue p (notes p)) hs →
          IsOrdered script.ports (λ p. kinds_told workers script queue p (notes p)) hs
      is_ordered queue hs is = record {
        marks = is.marks;
        entries = is.entries;
        kinds = is.kinds;
        early = is.early.ascend;
        late = is.late.ascend;
      }
