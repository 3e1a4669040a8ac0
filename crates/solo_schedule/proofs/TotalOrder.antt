-- The run's moves are turns of one thread, one after the other: so all its events have one order.
use Rattle.std.proofs.Common.{◌≡◌, ◌≤◌, ◌⊎◌, ◌∙◌, ℕ, List, [], ◌∷◌, ◌++◌, Option, Some, None}
use Rattle.std.proofs.Common.{Bool, true, false, refl, sym, ap, subst, inl, inr, arith}
use Rattle.std.specs.Prelude.{map, nat_eq, ◌==◌, if◌then◌else◌, option_map}
use Rattle.std.specs.List.{list_any}
use Rattle.std.proofs.lemmas.Bool.{cases_Bool, eq-eqb, eqb-true}
use Rattle.packet_entry.specs.declared.letter.Letter.{Letter}
use Rattle.pcap_io.specs.declared.capture.Capture.{Capture}
use Rattle.hook_chain.specs.Rules.{RuleTables}
use Rattle.nfqa_msgs.specs.declared.request.Decoded.{Decoded}
use Rattle.nfqa_msgs.specs.declared.request.Decoded.TheVariants.{Nothing, Refused, Asked}
use Rattle.nfqa_msgs.specs.RequestReading.{decoded}
use Rattle.queue_core.specs.State.{Bound}
use Rattle.queue_core.specs.Step.{next_id}
use Rattle.queue_core.specs.WithOffer.{letter_of}
use Rattle.queue_core.specs.declared.event.Event.TheVariants.{Ask, PortClosed}
use Rattle.histories.specs.declared.entry.Entry.{Entry}
use Rattle.histories.specs.declared.histories.Histories.{Histories}
use Rattle.histories.specs.declared.log.AskWords.{AskWords}
use Rattle.histories.specs.declared.log.Did.TheVariants.{Received, Sent, Closed}
use Rattle.histories.specs.History.{history}
use Rattle.histories.specs.Happenings as happening
use Rattle.histories.specs.Journeys.{Arrival}
use Rattle.histories.specs.States.{entry_of, entry_in, state_of, every_number}
use Rattle.total_order.specs.Steps.{AreTaken, HasCome, log_of}
use Rattle.total_order.specs.TotalOrder.{HasTotalOrder, entries}
use Rattle.total_order.specs.OneThread.{Turn, Logs, and_log, silent, HasClosed, IsOpen, Runs}
use Rattle.total_order.specs.OneThread.{made, said}
use Rattle.inspector_script.specs.Scripts.{ScriptValue}
use Rattle.packet_moves.specs.declared.setting.Setting.{Setting}
use Rattle.packet_moves.specs.World.{World, Port, opened, changed_at, delivered, having_done}
use Rattle.packet_moves.specs.World.{received, received_from, closed}
use Rattle.packet_moves.specs.Logs.{dids_of}
use Rattle.packet_moves.specs.Logs as logs
use Rattle.packet_moves.specs.Moving.{arrived, room_for, left_at_once}
use Rattle.packet_moves.specs.Messages.{words_of, answered}
use Rattle.packet_moves.specs.Planes.{opened_ports}
use Rattle.run_parts.specs.Ports.{HavePlaces, place_in}
use Rattle.solo_schedule.specs.Sending.{carried_out, errno_of}
use Rattle.solo_schedule.specs.Schedule.{run, setting_of, IsSolo, letters_at, is_open_port}
use Rattle.solo_schedule.proofs.DueMessages.{Stage, IsOver, Goes, Staged, with_fed, with_fallen}
use Rattle.solo_schedule.proofs.MessageEffects.{StepLaws, arrival_none, ask_none, closings_none}
use Rattle.solo_schedule.proofs.MessageEffects.{downs_none}
use Rattle.solo_schedule.proofs.MessageEffects.{either_so, asked_so, opens_none}
use Rattle.solo_schedule.proofs.PortStates.{logs_of, notices, has_closed, IsPort, port_on}
use Rattle.solo_schedule.proofs.PortStates.{port_delivered, port_sent, port_received, port_closed}
use Rattle.solo_schedule.proofs.PortStates.{changed_so, notice_so, logs_then}
use Rattle.solo_schedule.proofs.RunSteps.{is_in}
use Rattle.solo_schedule.proofs.Takings.{taken_at}
use Rattle.solo_schedule.proofs.Turns as turns
use Rattle.solo_schedule.proofs.Turns.{AreTurned, AllEnd, end_all}
use Rattle.solo_schedule.proofs.WholeRun.{run_reached}
use Rattle.solo_schedule.proofs.EmptyStart.{NoneWaits}

-- ---- the run

module _ (laws : StepLaws) (s : Setting) (script : ScriptValue) (place : ℕ → ℕ) where
  abbrev inside : ℕ → Bool
  inside = is_in script place

  -- what a run has done so far is the turns of one thread, with these logs
  record SoFar (st : Stage) (log : Logs) (es : List Entry) (ports : ℕ → Option Port) :
      Type 0 where
    none : NoneWaits st.is_over es
    turned : AreTurned log es
    each : (p : ℕ) → IsPort es (inside p) (ports p)

  -- an arrival that may be the next
  arrives_so : (st : Stage) (log : Logs) (w : World) (a : Arrival) → st.is_over ≡ true →
      1 ≤ a.card.visit → HasCome a.card.number a.card.visit w.entries →
      SoFar st log w.entries w.ports →
      SoFar st log (arrived s w a).entries (arrived s w a).ports
  arrives_so st log w a over least come is =
      let room = room_for s w a in
      let e = entry_of w.entries a.queue (happening.arrive a room) in
      record {
        none = arrival_none laws s script st w a over least is.none;
        turned = turns.happened log w.entries e come is.turned;
        each = notice_so (λ p o. IsPort (w.entries ++ e ∷ []) (inside p) o)
            (state_of w.entries a.queue) a (left_at_once w a room) w.ports
            (λ b at stays p o so.
            port_delivered (w.entries ++ e ∷ []) (inside p)
            (letter_of a.queue b (next_id b) a.card) o
            (taken_at w.entries a room b at stays) so)
            (λ p. port_on w.entries (e ∷ []) (inside p) (w.ports p) (is.each p));
      }

  -- a notice changes neither what ports did nor which are open
  record AreSame (before : ℕ → Option Port) (p : ℕ) (o : Option Port) : Type 0 where
    dids : dids_of o ≡ dids_of (before p)
    is_open : is_open_port o ≡ is_open_port (before p)

  same_delivered : (before : ℕ → Option Port) (p : ℕ) (letter : Letter) (o : Option Port) →
      AreSame before p o → AreSame before p (option_map (delivered letter) o)
  same_delivered before p letter None is = record { dids = is.dids; is_open = is.is_open }
  same_delivered before p letter (Some held) is = record { dids = is.dids; is_open = is.is_open }

  arrival_same : (before : ℕ → Option Port) (w : World) (a : Arrival) →
      ((p : ℕ) → AreSame before p (w.ports p)) →
      (p : ℕ) → AreSame before p ((arrived s w a).ports p)
  arrival_same before w a is =
      notice_so (AreSame before) (state_of w.entries a.queue) a
      (left_at_once w a (room_for s w a)) w.ports
      (λ b at stays p o so. same_delivered before p (letter_of a.queue b (next_id b) a.card) o so)
      is

  -- so far, with the logs of these ports
  abbrev IsRun : Stage → List Entry → (ℕ → Option Port) → Type 0
  IsRun st es ports = SoFar st (logs_of ports) es ports

  with_logs : (st : Stage) (log : Logs) (es : List Entry) (ports : ℕ → Option Port) →
      ((p : ℕ) → log p ≡ logs_of ports p) → SoFar st log es ports → IsRun st es ports
  with_logs st log es ports same is = record {
    none = is.none;
    turned = turns.same_logs log (logs_of ports) es same is.turned;
    each = is.each;
  }

  arrival_run : (st : Stage) (w : World) (a : Arrival) → st.is_over ≡ true → 1 ≤ a.card.visit →
      HasCome a.card.number a.card.visit w.entries → IsRun st w.entries w.ports →
      IsRun st (arrived s w a).entries (arrived s w a).ports
  arrival_run st w a over least come is =
      with_logs st (logs_of w.ports) (arrived s w a).entries (arrived s w a).ports
      (λ p. sym (arrival_same w.ports w a (λ k. record { dids = refl; is_open = refl }) p).dids)
      (arrives_so st (logs_of w.ports) w a over least come is)

  -- ---- messages

  -- a message is carried out: these are the logs once its port has logged it, and of ports nothing
  -- is different yet but their mailboxes
  record IsOut (st : Stage) (log : Logs) (before : ℕ → Option Port) (es : List Entry)
      (ports : ℕ → Option Port) : Type 0 where
    so : SoFar st log es ports
    same : (p : ℕ) → AreSame before p (ports p)

  -- one that asks nothing of a queue
  spoke_so : (st : Stage) (w : World) (port call : ℕ) (words : AskWords) (answer : Option ℕ) →
      IsOpen (logs_of w.ports port) → IsRun st w.entries w.ports →
      IsOut st (and_log port (Sent call words answer) (logs_of w.ports)) w.ports w.entries w.ports
  spoke_so st w port call words answer op is = record {
    so = record {
      none = is.none;
      turned = turns.spoke (logs_of w.ports) w.entries port call words answer op is.turned;
      each = is.each;
    };
    same = λ p. record { dids = refl; is_open = refl };
  }

  -- any one, with the packets that it lets go on
  carried_so : (st : Stage) (w : World) (port call : ℕ) (d : Decoded) (words : AskWords)
      (answer : Option ℕ) → IsOver script st ⊎ (st.is_over ≡ false) → IsOpen (logs_of w.ports port) →
      IsRun st w.entries w.ports →
      IsOut st (and_log port (Sent call words answer) (logs_of w.ports)) w.ports
      (carried_out s port call d w).entries (carried_out s port call d w).ports
  carried_so st w port call Nothing words answer either op is =
      spoke_so st w port call words answer op is
  carried_so st w port call (Refused errno) words answer either op is =
      spoke_so st w port call words answer op is
  carried_so st w port call (Asked r) words answer either op is =
      let log = and_log port (Sent call words answer) (logs_of w.ports) in
      let e = entry_of w.entries (happening.queue_of r) (Ask port call r) in
      asked_so laws s script st (λ es ports. IsOut st log w.ports es ports)
      (λ v a may out. record {
        so = arrives_so st log v a may.over.0 (omega (arith, may.visit)) may.come out.so;
        same = arrival_same w.ports v a out.same;
      }) w port call r either is.none (record {
        so = record {
          none = ask_none laws s script st w port call r is.none;
          turned = turns.asked (logs_of w.ports) w.entries (happening.queue_of r) port call r
              e.reply words answer op is.turned;
          each = λ p. port_on w.entries (e ∷ []) (inside p) (w.ports p) (is.each p);
        };
        same = λ p. record { dids = refl; is_open = refl };
      })

  -- then its port's log has it
  sent_run : (st : Stage) (w between : World) (port call : ℕ) (words : AskWords)
      (answer : Option ℕ) → is_open_port (w.ports port) ≡ true →
      IsOut st (and_log port (Sent call words answer) (logs_of w.ports)) w.ports
      between.entries between.ports →
      IsRun st between.entries
      (changed_at port (having_done (Sent call words answer)) between.ports)
  sent_run st w between port call words answer op out =
      let did = Sent call words answer in
      let ports = changed_at port (having_done did) between.ports in
      with_logs st (and_log port did (logs_of w.ports)) between.entries ports
      (λ p. turns.and_same port did (logs_of w.ports) (logs_of between.ports)
      (λ k. sym (out.same k).dids) p
      ∙ logs_then port (having_done did) did between.ports ((out.same port).is_open ∙ op)
      (λ held there. refl) p)
      (record {
        none = out.so.none;
        turned = out.so.turned;
        each = changed_so (λ p o. IsPort between.entries (inside p) o) port (having_done did)
            between.ports
            (λ p o so. port_sent between.entries (inside p) call words answer o so) out.so.each;
      })

  -- ---- notices, closings and devices

  got_run : (st : Stage) (w : World) (port : ℕ) (held : Port) (l : Letter) (ls : List Letter) →
      is_open_port (w.ports port) ≡ true → w.ports port ≡ Some held → held.letters ≡ l ∷ ls →
      IsRun st w.entries w.ports → IsRun st w.entries (changed_at port received w.ports)
  got_run st w port held l ls op there mail is =
      let did = Received l.queue l.number l.visit in
      with_logs st (and_log port did (logs_of w.ports)) w.entries (changed_at port received w.ports)
      (logs_then port received did w.ports op
      (λ one at.
      let two : Some one ≡ Some held = sym at ∙ there in
      let same : one ≡ held = cc in
      logged one (ap (λ (q : Port). q.letters) same ∙ mail)))
      (record {
        none = is.none;
        turned = turns.heard (logs_of w.ports) w.entries port l.queue l.number l.visit
            ((is.each port).unclosed op)
            (subst (λ ms. AreTaken (notices ms) w.entries) mail
            (subst (λ o. AreTaken (notices (letters_at o)) w.entries) there
            (is.each port).mail)).0 is.turned;
        each = changed_so (λ p o. IsPort w.entries (inside p) o) port received w.ports
            (λ p o so. port_received w.entries (inside p) o so) is.each;
      })
    where
      logged : (one : Port) → one.letters ≡ l ∷ ls →
          (received one).dids ≡ one.dids ++ Received l.queue l.number l.visit ∷ []
      logged one mail =
          subst (λ ms. (received_from ms one).dids
          ≡ one.dids ++ Received l.queue l.number l.visit ∷ []) (sym mail) refl

  closing_ends : (log : Logs) (port k : ℕ) (o : Option Bound) → HasClosed (log port) →
      AllEnd log (happening.closing_of port k o)
  closing_ends log port k None has = tt
  closing_ends log port k (Some b) has = by (b.port == port)
    where
      by : (c : Bool) →
          AllEnd log (if c then entry_in k (Some b) (PortClosed port) ∷ [] else [])
      by true = (has, tt)
      by false = tt

  down_ends : (log : Logs) (device k : ℕ) (o : Option Bound) →
      AllEnd log (happening.down_of device k o)
  down_ends log device k None = tt
  down_ends log device k (Some b) = (tt, tt)

  closes_run : (st : Stage) (w : World) (port : ℕ) → is_open_port (w.ports port) ≡ true →
      IsRun st w.entries w.ports →
      IsRun st (w.entries ++ happening.closings port w.entries) (changed_at port closed w.ports)
  closes_run st w port op is =
      let ports = changed_at port closed w.ports in
      let fs = happening.closings port w.entries in
      let log = and_log port Closed (logs_of w.ports) in
      with_logs st log (w.entries ++ fs) ports
      (logs_then port closed Closed w.ports op (λ held there. refl))
      (record {
        none = closings_none laws s script st port w.entries is.none;
        turned = turns.ended log w.entries fs
            (end_all log (λ k. happening.closing_of port k (state_of w.entries k))
            (λ k. closing_ends log port k (state_of w.entries k) (shut (logs_of w.ports)))
            every_number)
            (turns.closed (logs_of w.ports) w.entries port ((is.each port).unclosed op)
            is.turned);
        each = changed_so (λ p o. IsPort (w.entries ++ fs) (inside p) o) port closed w.ports
            (λ p o so. port_closed (w.entries ++ fs) (inside p) o so)
            (λ p. port_on w.entries fs (inside p) (w.ports p) (is.each p));
      })
    where
      shut : (log : Logs) → HasClosed (and_log port Closed log port)
      shut log = rw (eq-eqb port port refl) (has_closed (log port))

  falls_run : (st : Stage) (w : World) (device : ℕ) → IsRun st w.entries w.ports →
      IsRun st (w.entries ++ happening.downs device w.entries) w.ports
  falls_run st w device is =
      let fs = happening.downs device w.entries in
      let log = logs_of w.ports in
      record {
        none = downs_none laws s script st device w.entries is.none;
        turned = turns.ended log w.entries fs
            (end_all log (λ k. happening.down_of device k (state_of w.entries k))
            (λ k. down_ends log device k (state_of w.entries k)) every_number) is.turned;
        each = λ p. port_on w.entries fs (inside p) (w.ports p) (is.each p);
      }

  -- a stage that follows
  at_stage : (st u : Stage) (es : List Entry) (ports : ℕ → Option Port) →
      NoneWaits u.is_over es → IsRun st es ports → IsRun u es ports
  at_stage st u es ports none is =
      record { none = none; turned = is.turned; each = is.each }

  run_goes : Goes s script place (λ st es ports notes. IsRun st es ports)
  run_goes = record {
    log = laws.log;
    arrives = λ st w notes a may is.
        arrival_run st w a may.over.0 (omega (arith, may.visit)) may.come is;
    enters = λ st w notes a may is.
        let so = arrival_run st w a may.over.0 (omega (arith, may.visit))
        (subst (λ v. HasCome a.card.number v w.entries) (sym may.visit) tt) is in
        at_stage st (with_fed st a.card.number) (arrived s w a).entries (arrived s w a).ports
        so.none so;
    begins = λ st es ports notes port i is. is;
    speaks = λ st w notes port call m at_end i op may due is.
        let errno = errno_of port call (decoded m) w in
        let words = words_of port call m.whole (decoded m) in
        let answer = answered m errno in
        sent_run st w (carried_out s port call (decoded m) w) port call words answer op
        (carried_so st w port call (decoded m) words answer
        (either_so laws s script st (place port) at_end may) ((is.each port).unclosed op) is);
    gets = λ st w notes port held l ls i op over there mail is.
        got_run st w port held l ls op there mail is;
    closes = λ st w notes port i op may is. closes_run st w port op is;
    falls = λ st w notes d over late time is.
        let so = falls_run st w d.device is in
        at_stage st (with_fallen st d) (w.entries ++ happening.downs d.device w.entries) w.ports
        so.none so;
    goes_on = λ st u es ports notes follows same is.
        at_stage st u es ports (subst (λ b. NoneWaits b es) same is.none) is;
    opens_up = λ st u es ports notes follows over idle is.
        at_stage st u es ports
        (subst (λ b. NoneWaits b es) (sym over.0) (opens_none laws s script st es is.none)) is;
  }

  -- nothing has happened
  run_begins : (st : Stage) → st.is_over ≡ false → IsRun st [] (opened_ports script.ports)
  run_begins st early = record {
    none = subst (λ b. NoneWaits b []) (sym early) (record { none = λ queue. refl });
    turned = turns.no_turns (logs_of (opened_ports script.ports))
        (λ p. silent_so (list_any (nat_eq p) script.ports));
    each = λ p. known (list_any (nat_eq p) script.ports);
  }
    where
      silent_so : (c : Bool) → [] ≡ dids_of (if c then Some opened else None)
      silent_so true = refl
      silent_so false = refl

      known : (c : Bool) → IsPort [] c (if c then Some opened else None)
      known true = record { mail = tt; unclosed = λ op wrong. wrong; outside = λ wrong. absurd (cc) }
      known false = record { mail = tt; unclosed = λ wrong. absurd (cc); outside = λ out. refl }

-- ---- the whole

-- the log of a port among those of all
log_there : (ports : ℕ → Option Port) (port : ℕ) (order : List ℕ) →
    (list_any (nat_eq port) order ≡ false → ports port ≡ None) →
    log_of port (map (logs.log_of ports) order) ≡ dids_of (ports port)
log_there ports port [] out = ap dids_of (sym (out refl))
log_there ports port (p ∷ ps) out =
    by (cases_Bool (port == p)) (log_there ports port ps)
  where
    by : ((port == p) ≡ true) ⊎ ((port == p) ≡ false) →
        ((list_any (nat_eq port) ps ≡ false → ports port ≡ None) →
        log_of port (map (logs.log_of ports) ps) ≡ dids_of (ports port)) →
        log_of port (map (logs.log_of ports) (p ∷ ps)) ≡ dids_of (ports port)
    by (inl h) more = rw h (ap (λ k. dids_of (ports k)) (sym (eqb-true port p h)))
    by (inr h) more = rw h (more (λ none. out (rw h none)))

-- what one thread makes has one order
abbrev pub OneThread : Type 0
OneThread = (ts : List Turn) (h : Histories) → Runs [] silent ts →
    ((queue : ℕ) → history queue h.entries ≡ history queue (entries (made silent ts))) →
    ((port : ℕ) → log_of port h.logs ≡ said silent ts port) → HasTotalOrder h

pub one_order : OneThread → StepLaws → (script : ScriptValue) (tables : RuleTables)
    (c : Capture) (h : Histories) → HavePlaces script → IsSolo script tables c h → HasTotalOrder h
one_order thread laws script tables c h places is =
    let s = setting_of script tables in
    let place = λ (p : ℕ). place_in p script.ports in
    let P : Staged = λ st es ports notes. IsRun laws s script place st es ports in
    let K = run_goes laws s script place in
    let ran = run_reached script tables c place P K laws.leaves
    (run_begins laws s script place _ refl) places.placed in
    let w = run script tables c in
    let so = ran.reached.kept in
    thread so.turned.turns h so.turned.runs
    (λ queue. is.entries.same queue ∙ ap (λ es. history queue es) (sym so.turned.steps))
    (λ port. ap (log_of port) is.logs
    ∙ log_there w.ports port script.ports (so.each port).outside
    ∙ sym (so.turned.logs_are port))
