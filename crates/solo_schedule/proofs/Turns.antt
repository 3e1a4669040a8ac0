-- The turns that one thread has taken so far: which entries and logs they make, and one turn more.
use Rattle.std.proofs.Common.{◌≡◌, ◌∙◌, ℕ, List, [], ◌∷◌, ◌++◌, Bool, true, false, Option}
use Rattle.std.proofs.Common.{refl, sym, ap, subst, append-nil, append_assoc}
use Rattle.std.specs.Prelude.{flat_map, nat_eq, if◌then◌else◌}
use Rattle.std.proofs.lemmas.List.{map-append}
use Rattle.nfqa_msgs.specs.declared.request.Request.{Request}
use Rattle.queue_core.specs.declared.event.Event.{Event}
use Rattle.queue_core.specs.declared.event.Event.TheVariants.{Arrive, Ask, PortClosed, DeviceDown}
use Rattle.queue_core.specs.declared.event.Reply.{Reply}
use Rattle.histories.specs.declared.entry.Entry.{Entry}
use Rattle.histories.specs.declared.log.AskWords.{AskWords}
use Rattle.histories.specs.declared.log.Did.{Did}
use Rattle.histories.specs.declared.log.Did.TheVariants.{Received, Sent, Closed}
use Rattle.histories.specs.History.{history}
use Rattle.total_order.specs.Steps.{Step, Has, HasCome, taken}
use Rattle.total_order.specs.TotalOrder.{entries}
use Rattle.total_order.specs.OneThread.{Turn, Happens, Asks, Speaks, Hears, Closes, Logs, silent}
use Rattle.total_order.specs.OneThread.{and_log, HasClosed, IsOpen, asking, happening, MayHappen}
use Rattle.total_order.specs.OneThread.{Runs, made, said}

-- ---- turns after turns

made_on : (logs : Logs) (ts us : List Turn) →
    made logs (ts ++ us) ≡ made logs ts ++ made (said logs ts) us
made_on logs [] us = refl
made_on logs (Happens e ∷ ts) us = ap (λ ss. happening e ∷ ss) (made_on logs ts us)
made_on logs (Asks queue port call request reply words answer ∷ ts) us =
    ap (λ ss. asking queue port call request reply logs ∷ ss)
    (made_on (and_log port (Sent call words answer) logs) ts us)
made_on logs (Speaks port call words answer ∷ ts) us =
    made_on (and_log port (Sent call words answer) logs) ts us
made_on logs (Hears port queue number visit ∷ ts) us =
    made_on (and_log port (Received queue number visit) logs) ts us
made_on logs (Closes port ∷ ts) us = made_on (and_log port Closed logs) ts us

said_on : (logs : Logs) (ts us : List Turn) → said logs (ts ++ us) ≡ said (said logs ts) us
said_on logs [] us = refl
said_on logs (Happens e ∷ ts) us = said_on logs ts us
said_on logs (Asks queue port call request reply words answer ∷ ts) us =
    said_on (and_log port (Sent call words answer) logs) ts us
said_on logs (Speaks port call words answer ∷ ts) us =
    said_on (and_log port (Sent call words answer) logs) ts us
said_on logs (Hears port queue number visit ∷ ts) us =
    said_on (and_log port (Received queue number visit) logs) ts us
said_on logs (Closes port ∷ ts) us = said_on (and_log port Closed logs) ts us

runs_on : (before : List Step) (logs : Logs) (ts us : List Turn) → Runs before logs ts →
    Runs (before ++ made logs ts) (said logs ts) us → Runs before logs (ts ++ us)
runs_on before logs [] us runs more = subst (λ ss. Runs ss logs us) (append-nil before) more
runs_on before logs (Happens e ∷ ts) us runs more = (
  runs.0,
  runs_on (before ++ happening e ∷ []) logs ts us runs.1
      (subst (λ ss. Runs ss (said logs ts) us)
      (sym (append_assoc before (happening e ∷ []) (made logs ts))) more),
)
runs_on before logs (Asks queue port call request reply words answer ∷ ts) us runs more =
    let on = and_log port (Sent call words answer) logs in
    let s = asking queue port call request reply logs in (
      runs.0,
      runs_on (before ++ s ∷ []) on ts us runs.1
          (subst (λ ss. Runs ss (said on ts) us)
          (sym (append_assoc before (s ∷ []) (made on ts))) more),
    )
runs_on before logs (Speaks port call words answer ∷ ts) us runs more =
    (runs.0, runs_on before (and_log port (Sent call words answer) logs) ts us runs.1 more)
runs_on before logs (Hears port queue number visit ∷ ts) us runs more = (
  runs.0,
  runs.1,
  runs_on before (and_log port (Received queue number visit) logs) ts us runs.2 more,
)
runs_on before logs (Closes port ∷ ts) us runs more =
    (runs.0, runs_on before (and_log port Closed logs) ts us runs.1 more)

-- ---- what turns have made

-- Turns of one thread made these entries and logs.
pub record AreTurned (logs : Logs) (es : List Entry) : Type 0 where
  pub turns : List Turn
  pub runs : Runs [] silent turns
  pub steps : entries (made silent turns) ≡ es
  pub logs_are : (port : ℕ) → said silent turns port ≡ logs port

pub no_turns : (logs : Logs) → ((port : ℕ) → [] ≡ logs port) → AreTurned logs []
no_turns logs none = record { turns = []; runs = tt; steps = refl; logs_are = none }

pub same_logs : (logs on : Logs) (es : List Entry) → ((port : ℕ) → logs port ≡ on port) →
    AreTurned logs es → AreTurned on es
same_logs logs on es same is = record {
  turns = is.turns;
  runs = is.runs;
  steps = is.steps;
  logs_are = λ port. is.logs_are port ∙ same port;
}

-- what a port did is logged, whichever way the logs are the same
pub and_same : (port : ℕ) (did : Did) (logs on : Logs) → ((p : ℕ) → logs p ≡ on p) → (p : ℕ) →
    and_log port did logs p ≡ and_log port did on p
and_same port did logs on same p = by (nat_eq p port)
  where
    by : (c : Bool) →
        (if c then logs p ++ did ∷ [] else logs p) ≡ (if c then on p ++ did ∷ [] else on p)
    by true = ap (λ ds. ds ++ did ∷ []) (same p)
    by false = same p

-- a turn that the steps and logs of those so far allow
one_more : (logs on : Logs) (es fs : List Entry) (t : Turn) →
    ((before : List Step) (so_far : Logs) → entries before ≡ es →
    ((port : ℕ) → so_far port ≡ logs port) → Runs before so_far (t ∷ [])) →
    ((so_far : Logs) → entries (made so_far (t ∷ [])) ≡ fs) →
    ((so_far : Logs) → ((port : ℕ) → so_far port ≡ logs port) →
    (port : ℕ) → said so_far (t ∷ []) port ≡ on port) →
    AreTurned logs es → AreTurned on (es ++ fs)
one_more logs on es fs t may makes says is =
    let before = made silent is.turns in
    let so_far = said silent is.turns in
    record {
      turns = is.turns ++ t ∷ [];
      runs = runs_on [] silent is.turns (t ∷ []) is.runs (may before so_far is.steps is.logs_are);
      steps = ap (λ ss. entries ss) (made_on silent is.turns (t ∷ []))
          ∙ map-append (λ (s : Step). s.entry) before (made so_far (t ∷ []))
          ∙ ap (λ gs. gs ++ entries (made so_far (t ∷ []))) is.steps
          ∙ ap (λ gs. es ++ gs) (makes so_far);
      logs_are = λ port. ap (λ (l : Logs). l port) (said_on silent is.turns (t ∷ []))
          ∙ says so_far is.logs_are port;
    }

-- ---- one turn more

-- an entry that is no request may be the next
abbrev pub MayBe : Logs → List Entry → Event → Type 0
MayBe logs es (Arrive card bypass room) = HasCome card.number card.visit es
MayBe logs es (Ask port call request) = ⊥
MayBe logs es (PortClosed port) = HasClosed (logs port)
MayBe logs es (DeviceDown device) = Unit {0}

may_happen : (before : List Step) (logs so_far : Logs) (es : List Entry) (event : Event) →
    entries before ≡ es → ((port : ℕ) → so_far port ≡ logs port) → MayBe logs es event →
    MayHappen before so_far event
may_happen before logs so_far es (Arrive card bypass room) steps same may =
    subst (λ fs. HasCome card.number card.visit fs) (sym steps) may
may_happen before logs so_far es (Ask port call request) steps same may = may
may_happen before logs so_far es (PortClosed port) steps same may =
    subst (λ ds. HasClosed ds) (sym (same port)) may
may_happen before logs so_far es (DeviceDown device) steps same may = tt

pub happened : (logs : Logs) (es : List Entry) (e : Entry) → MayBe logs es e.event →
    AreTurned logs es → AreTurned logs (es ++ e ∷ [])
happened logs es e may =
    one_more logs logs es (e ∷ []) (Happens e)
    (λ before so_far steps same.
    (may_happen before logs so_far es e.event steps same may, tt))
    (λ so_far. refl) (λ so_far same. same)

open_so : (port : ℕ) (so_far logs : Logs) → ((p : ℕ) → so_far p ≡ logs p) → IsOpen (logs port) →
    IsOpen (so_far port)
open_so port so_far logs same op = subst (λ ds. IsOpen ds) (sym (same port)) op

pub asked : (logs : Logs) (es : List Entry) (queue port call : ℕ) (request : Request)
    (reply : Reply) (words : AskWords) (answer : Option ℕ) → IsOpen (logs port) →
    AreTurned logs es →
    AreTurned (and_log port (Sent call words answer) logs)
    (es ++ record { queue = queue; event = Ask port call request; reply = reply } ∷ [])
asked logs es queue port call request reply words answer op =
    one_more logs (and_log port (Sent call words answer) logs) es _
    (Asks queue port call request reply words answer)
    (λ before so_far steps same. (open_so port so_far logs same op, tt)) (λ so_far. refl)
    (λ so_far same. and_same port (Sent call words answer) so_far logs same)

-- turns without entries
quiet : (on : Logs) (es : List Entry) → AreTurned on (es ++ []) → AreTurned on es
quiet on es is = subst (λ fs. AreTurned on fs) (append-nil es) is

pub spoke : (logs : Logs) (es : List Entry) (port call : ℕ) (words : AskWords)
    (answer : Option ℕ) → IsOpen (logs port) → AreTurned logs es →
    AreTurned (and_log port (Sent call words answer) logs) es
spoke logs es port call words answer op is =
    let on = and_log port (Sent call words answer) logs in
    quiet on es (one_more logs on es [] (Speaks port call words answer)
    (λ before so_far steps same. (open_so port so_far logs same op, tt)) (λ so_far. refl)
    (λ so_far same. and_same port (Sent call words answer) so_far logs same) is)

pub heard : (logs : Logs) (es : List Entry) (port queue number visit : ℕ) → IsOpen (logs port) →
    Has number visit (taken (history queue es)) → AreTurned logs es →
    AreTurned (and_log port (Received queue number visit) logs) es
heard logs es port queue number visit op was is =
    let on = and_log port (Received queue number visit) logs in
    quiet on es (one_more logs on es [] (Hears port queue number visit)
    (λ before so_far steps same. (
      open_so port so_far logs same op,
      subst (λ fs. Has number visit (taken (history queue fs))) (sym steps) was,
      tt,
    )) (λ so_far. refl)
    (λ so_far same. and_same port (Received queue number visit) so_far logs same) is)

pub closed : (logs : Logs) (es : List Entry) (port : ℕ) → IsOpen (logs port) →
    AreTurned logs es → AreTurned (and_log port Closed logs) es
closed logs es port op is =
    let on = and_log port Closed logs in
    quiet on es (one_more logs on es [] (Closes port)
    (λ before so_far steps same. (open_so port so_far logs same op, tt)) (λ so_far. refl)
    (λ so_far same. and_same port Closed so_far logs same) is)

-- ---- several entries

-- queues of a closed port end, and devices go down
abbrev pub Ends : Logs → Event → Type 0
Ends logs (Arrive card bypass room) = ⊥
Ends logs (Ask port call request) = ⊥
Ends logs (PortClosed port) = HasClosed (logs port)
Ends logs (DeviceDown device) = Unit {0}

abbrev pub AllEnd : Logs → List Entry → Type 0
AllEnd logs [] = Unit {0}
AllEnd logs (e ∷ es) = Ends logs e.event × AllEnd logs es

end_append : (logs : Logs) (es fs : List Entry) → AllEnd logs es → AllEnd logs fs →
    AllEnd logs (es ++ fs)
end_append logs [] fs one two = two
end_append logs (e ∷ es) fs one two = (one.0, end_append logs es fs one.1 two)

pub end_all : (logs : Logs) (g : ℕ → List Entry) → ((k : ℕ) → AllEnd logs (g k)) →
    (ks : List ℕ) → AllEnd logs (flat_map g ks)
end_all logs g each [] = tt
end_all logs g each (k ∷ ks) =
    end_append logs (g k) (flat_map g ks) (each k) (end_all logs g each ks)

may_be : (logs : Logs) (es : List Entry) (event : Event) → Ends logs event → MayBe logs es event
may_be logs es (Arrive card bypass room) ends = absurd ends
may_be logs es (Ask port call request) ends = ends
may_be logs es (PortClosed port) ends = ends
may_be logs es (DeviceDown device) ends = tt

pub ended : (logs : Logs) (es fs : List Entry) → AllEnd logs fs → AreTurned logs es →
    AreTurned logs (es ++ fs)
ended logs es [] ends is = subst (λ gs. AreTurned logs gs) (sym (append-nil es)) is
ended logs es (f ∷ fs) ends is =
    subst (λ gs. AreTurned logs gs) (append_assoc es (f ∷ []) fs)
    (ended logs (es ++ f ∷ []) fs ends.1
    (happened logs es f (may_be logs es f.event ends.0) is))
