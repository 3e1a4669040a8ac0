-- The schedule's histories are made by the script.
use Rattle.std.proofs.Common.{◌≡◌, ◌∙◌, ◌≤◌, ℕ, List}
use Rattle.std.proofs.Common.{[], ◌∷◌, Option, true, false, refl, sym, ap}
use Rattle.std.proofs.Common.{subst, Bool, Some, None, ◌++◌, arith}
use Rattle.std.specs.Prelude.{length, map, filter, flat_map, nat_eq, if◌then◌else◌}
use Rattle.std.specs.Prelude.{◌==◌, ◌⊎◌}
use Rattle.std.proofs.Common.{inl, inr}
use Rattle.std.proofs.lemmas.Bool.{cases_Bool, eqb-true}
use Rattle.histories.specs.declared.log.Did.{Did}
use Rattle.std.specs.List.{list_any}
use Rattle.histories.specs.declared.entry.Entry.{Entry}
use Rattle.pcap_io.specs.declared.capture.Capture.{Capture}
use Rattle.hook_chain.specs.Rules.{RuleTables}
use Rattle.histories.specs.History.{history}
use Rattle.inspector_script.specs.Scripts.{ScriptValue}
use Rattle.packet_moves.specs.World.{Port, opened}
use Rattle.run_parts.specs.Ports.{HavePlaces}
use Rattle.solo_schedule.specs.Schedule.{run, setting_of, IsSolo, letters_at}
use Rattle.packet_moves.specs.Logs.{dids_of}
use Rattle.packet_moves.specs.Logs as logs
use Rattle.histories.specs.declared.histories.Histories.{Histories}
use Rattle.histories.specs.declared.log.PortLog.{PortLog}
use Rattle.histories.specs.Letters.{is_from}
use Rattle.packet_moves.specs.Planes.{opened_ports}
use Rattle.run_parts.specs.Closing.{IsClosing}
use Rattle.solo_schedule.proofs.ClosedPorts.{AreShut, is_shut, shut_kept}
use Rattle.solo_schedule.proofs.Closings.{Laws}
use Rattle.run_parts.specs.Room.{some_lacks}
use Rattle.solo_schedule.proofs.MailboxRoom.{AllRoomy, Roomy, lacking, roomy_kept}
use Rattle.solo_schedule.specs.LettersLeft.{left_in}
use Rattle.run_parts.specs.Notices.{heard, letters_from}
use Rattle.run_parts.specs.Log.{Note, IsLog}
use Rattle.run_parts.specs.Requests.{pleas_in, pleas_told, answer_in}
use Rattle.run_parts.specs.Ports.{log_of}
use Rattle.run_parts.specs.Run.{IsMadeBy}
use Rattle.solo_schedule.proofs.Logs.{ports_of_logs}
use Rattle.solo_schedule.proofs.DueMessages.{Kept, Staged, Stage, both_kept, always_goes, both_go}
use Rattle.solo_schedule.proofs.MessageEffects.{Below, FedLaws}
use Rattle.solo_schedule.proofs.FeederLines.{FedSo, fed_goes}
use Rattle.solo_schedule.proofs.HistoryOrder.{OrderSo, order_goes, told}
use Rattle.run_parts.specs.Feeder.{IsFedBy, downs_in_effect}
use Rattle.solo_schedule.proofs.WholeRun.{run_reached, run_dids, run_logged, closed_at, ended}
use Rattle.solo_schedule.proofs.WholeRun.{last_stage}
use Rattle.solo_schedule.proofs.RequestCounts.{AreEven, even_kept}
use Rattle.solo_schedule.proofs.Notices.{AreNoticed, Noticed, letters, noticed_kept}
use Rattle.run_parts.specs.Ports.{place_in}
use Rattle.run_parts.specs.Order.{IsOrdered, kinds_told}

-- a log is its port's
log_there : (ports : ℕ → Option Port) (port : ℕ) (dids : List Did) (ps : List ℕ) →
    log_of port (map (logs.log_of ports) ps) ≡ Some dids → dids_of (ports port) ≡ dids
log_there ports port dids [] wrong = absurd (cc)
log_there ports port dids (p ∷ ps) is =
    by (cases_Bool (port == p)) (log_there ports port dids ps)
  where
    by : ((port == p) ≡ true) ⊎ ((port == p) ≡ false) →
        (log_of port (map (logs.log_of ports) ps) ≡ Some dids →
        dids_of (ports port) ≡ dids) → dids_of (ports port) ≡ dids
    by (inl h) later =
        let own : Some (dids_of (ports p)) ≡ Some dids = rw h at is in
        let same : dids_of (ports p) ≡ dids = cc in
        ap (λ k. dids_of (ports k)) (eqb-true port p h) ∙ same
    by (inr h) later = later (rw h at is)

-- a port that is there
noticed_of : (p queue : ℕ) (es : List Entry) (o : Option Port) (held : Port) (notes : List Note) →
    o ≡ Some held → Noticed p queue es o notes →
    filter (is_from queue) (heard notes ++ letters_at o) ≡ letters p queue es
noticed_of p queue es o held notes there is =
    subst (λ (q : Option Port).
    filter (is_from queue) (heard notes ++ letters_at q) ≡ letters p queue es) (sym there)
    (subst (λ q. Noticed p queue es q notes) there is)

nothing_noticed : (p queue : ℕ) (c : Bool) → Noticed p queue [] (if c then Some opened else None) []
nothing_noticed p queue true = refl
nothing_noticed p queue false = tt

roomy_of : (mail p queue : ℕ) (es : List Entry) (o : Option Port) (held : Port)
    (notes : List Note) → o ≡ Some held → Roomy mail p queue es o notes →
    lacking p queue es ≡ true → mail ≤ length (heard notes ++ letters_at o)
roomy_of mail p queue es o held notes there is lacks =
    subst (λ (q : Option Port). mail ≤ length (heard notes ++ letters_at q)) (sym there)
    (subst (λ q. Roomy mail p queue es q notes) there is lacks)

nothing_roomy : (mail p queue : ℕ) (c : Bool) →
    Roomy mail p queue [] (if c then Some opened else None) []
nothing_roomy mail p queue true = λ wrong. absurd (cc)
nothing_roomy mail p queue false = tt

nothing_shut : (p : ℕ) (c : Bool) → IsClosing p (is_shut (if c then Some opened else None)) []
nothing_shut p true = refl
nothing_shut p false = refl

-- before anything happened
abbrev beginning_at : Stage
beginning_at = record { is_over = false; early = 0; late = 0; time = 0; fallen = [] }

nothing_fed_so : FedLaws → FedSo beginning_at []
nothing_fed_so laws = record {
  none = record { none = λ queue. refl };
  fed = record { each = λ queue below. laws.none };
}

nothing_ordered : (script : ScriptValue) → OrderSo script beginning_at [] (λ p. [])
nothing_ordered script = record {
  none = record { none = λ queue. refl };
  owe = λ p i. refl;
  order = record {
    each = λ queue below. record {
      marks = [];
      entries = refl;
      kinds = λ port. refl;
      early = record { ascend = tt; last = omega arith };
      late = record { ascend = tt; last = omega arith };
    };
  };
}

pub made_by_script : Laws → Below → (script : ScriptValue) (tables : RuleTables)
    (c : Capture) (h : Histories) → HavePlaces script → IsSolo script tables c h →
    (notes : ℕ → List Note)
    × IsMadeBy 1 1 script (length c.frames) h notes (left_in (run script tables c))
made_by_script laws laws_below script tables c h places is =
    let s = setting_of script tables in
    let f = λ (p : ℕ). place_in p script.ports in
    let Even : Kept = λ es ports notes. AreEven es notes in
    let Heard : Kept = λ es ports notes. AreNoticed es ports notes in
    let Ended : Kept = λ es ports notes. AreShut es ports in
    let Two : Kept = λ es ports notes. Even es ports notes × Heard es ports notes in
    let Roomy_so : Kept = λ es ports notes. AllRoomy s.mail es ports notes in
    let More : Kept = λ es ports notes. Ended es ports notes × Roomy_so es ports notes in
    let Old : Kept = λ es ports notes. Two es ports notes × More es ports notes in
    let kept = both_kept s Two More (both_kept s Even Heard (even_kept s) (noticed_kept s))
    (both_kept s Ended Roomy_so (shut_kept laws s) (roomy_kept s)) in
    let Fed_so : Staged = λ st es ports notes. FedSo st es in
    let In_order : Staged = λ st es ports notes. OrderSo script st es notes in
    let New : Staged = λ st es ports notes. Fed_so st es ports notes × In_order st es ports notes in
    let P : Staged = λ st es ports notes. Old es ports notes × New st es ports notes in
    let K = both_go s script f (λ st. Old) New (always_goes laws_below.steps.log s script f Old kept)
    (both_go s script f Fed_so In_order (fed_goes laws_below s script f)
    (order_goes script laws_below s)) in
    let placed = places.placed in
    let old_nothing : Old [] (opened_ports script.ports) (λ p. []) = (
      (
        record { even = λ p queue. refl; errnos = λ p. tt },
        record { each = λ p queue. nothing_noticed p queue (list_any (nat_eq p) script.ports) },
      ),
      (
        record { each = λ p queue below. nothing_shut p (list_any (nat_eq p) script.ports) },
        record {
          each = λ p queue. nothing_roomy s.mail p queue (list_any (nat_eq p) script.ports);
        },
      ),
    ) in
    let ran = run_reached script tables c f P K laws_below.steps.leaves
    (old_nothing, (nothing_fed_so laws_below.fed, nothing_ordered script)) placed in
    let r = ran.reached in
    let w = run script tables c in
    let even : (port queue : ℕ) →
    pleas_in port (history queue h.entries) ≡ flat_map (pleas_told queue) (r.notes port) =
    λ port queue. ap (pleas_in port) (is.entries.same queue) ∙ r.kept.0.0.0.even port queue in
    let own : (port : ℕ) (dids : List Did) → log_of port h.logs ≡ Some dids →
    dids_of (w.ports port) ≡ dids =
    λ port dids there. log_there w.ports port dids script.ports
    (ap (log_of port) (sym is.logs) ∙ there) in (
      r.notes,
      record {
        log = record {
          each = λ port dids i there.
              subst (IsLog 1 script (f port) port (r.notes port))
              (own port dids there) (run_logged script tables c f P K
              (last_stage script tables c f P K ran.time) r port i);
          others = r.none;
        };
        requests = record {
          each = λ port i queue. even port queue;
          nobody = λ port out queue.
              even port queue ∙ ap (flat_map (pleas_told queue)) (r.none port out);
          errnos = λ port i. r.kept.0.0.0.errnos port;
          answers = λ port dids i there.
              ap (flat_map answer_in) (sym (own port dids there)
              ∙ run_dids script tables c f P K
              (last_stage script tables c f P K ran.time) r port i);
        };
        notices = λ port i queue.
            let here = r.are.at port i in
            noticed_of port queue w.entries (w.ports port) here.held (r.notes port) here.there
            (r.kept.0.0.1.each port queue)
            ∙ ap (letters_from port None) (sym (is.entries.same queue));
        closing = λ port i queue below.
            let here = r.are.at port i in
            subst (λ b. IsClosing port b (history queue h.entries))
            (sym (closed_at laws_below.steps.log script (f port) port (r.notes port) (w.ports port)
            (ended script f port) here))
            (subst (IsClosing port (is_shut (w.ports port)))
            (sym (is.entries.same queue)) (r.kept.0.1.0.each port queue below));
        feeder = λ queue below.
            subst (IsFedBy 1 (downs_in_effect script (length c.frames)))
            (sym (is.entries.same queue))
            (laws_below.fed.alone (downs_in_effect script (length c.frames))
            (history queue w.entries)
            (laws_below.fed.fed (last_stage script tables c f P K ran.time).time
            (last_stage script tables c f P K ran.time).fallen (history queue w.entries)
            (r.kept.1.0.fed.each queue below)));
        order = λ queue below.
            subst (IsOrdered script.ports
            (λ port. kinds_told 1 script queue port (r.notes port))) (sym (is.entries.same queue))
            (laws_below.ordered.ordered script.ports
            (last_stage script tables c f P K ran.time).early
            (last_stage script tables c f P K ran.time).late
            (told script r.notes queue) (history queue w.entries)
            (r.kept.1.1.order.each queue below));
        room = λ port i queue lacks.
            let here = r.are.at port i in
            roomy_of s.mail port queue w.entries (w.ports port) here.held (r.notes port) here.there
            (r.kept.0.1.1.each port queue)
            (ap (some_lacks port None) (sym (is.entries.same queue)) ∙ lacks);
        ports = ap (λ (ls : List PortLog). map (λ (l : PortLog). l.port) ls) is.logs
            ∙ ports_of_logs w script.ports;
      },
    )
