-- What one thread makes has one order: that of its turns.
use Rattle.std.proofs.Common.{◌≡◌, ℕ, ◌<◌, ◌≤◌, Bool, true, false, List, [], ◌∷◌, ◌++◌}
use Rattle.std.proofs.Common.{refl, sym, ap, subst, ◌∙◌, arith, length, take, slice_get, nat_eq}
use Rattle.std.proofs.Common.{append_assoc, append-nil, length-append, if◌then◌else◌, Some}
use Rattle.std.proofs.lemmas.Bool.Decides.{nat_tests}
use Rattle.std.proofs.lemmas.List.{map-append}
use Rattle.std.proofs.lemmas.List.Elements.{filter-append}
use mathlib.Core.List.{IsPrefix}
use Rattle.queue_core.specs.declared.event.Event.{Event}
use Rattle.queue_core.specs.declared.event.Event.TheVariants.{Arrive, Ask, PortClosed, DeviceDown}
use Rattle.histories.specs.declared.entry.Entry.{Entry}
use Rattle.histories.specs.declared.log.Did.{Did}
use Rattle.histories.specs.declared.log.Did.TheVariants.{Received, Sent, Closed}
use Rattle.histories.specs.declared.log.PortLog.{PortLog}
use Rattle.histories.specs.declared.histories.Histories.{Histories}
use Rattle.histories.specs.History.{history, is_of}
use Rattle.total_order.specs.Orders.{EachIs, Pairs, AreCaused}
use Rattle.total_order.specs.Steps.{Step, AreTaken, IsSent, log_of, IsCausedAs, InLogOrderAs}
use Rattle.total_order.specs.TotalOrder.{entries, IsCaused, InLogOrder, HasTotalOrder}
use Rattle.total_order.specs.OneThread.{Turn, Happens, Asks, Speaks, Hears, Closes, Logs, and_log}
use Rattle.total_order.specs.OneThread.{HasClosed, IsOpen, asking, happening, MayHappen, Runs}
use Rattle.total_order.specs.OneThread.{made, said, silent}
use Rattle.total_order.proofs.Lists.{each_map, each_back, each_append}
use Rattle.total_order.proofs.Persistence.{GoOn, taken_all_on}

-- ---- logs

-- a log that goes on once more has gone on
longer : (logs : Logs) (p : ℕ) (did : Did) (ts : List Turn) (port : ℕ) →
    IsPrefix (and_log p did logs port) (said (and_log p did logs) ts port) →
    IsPrefix (logs port) (said (and_log p did logs) ts port)
longer logs p did ts port r = by (nat_eq port p) r
  where
    by : (b : Bool) → IsPrefix (if b then logs port ++ did ∷ [] else logs port)
        (said (and_log p did logs) ts port) →
        IsPrefix (logs port) (said (and_log p did logs) ts port)
    by true r = (did ∷ r.0, sym (append_assoc (logs port) (did ∷ []) r.0) ∙ r.1)
    by false r = r

-- each port's log goes on
said_on : (logs : Logs) (ts : List Turn) (port : ℕ) → IsPrefix (logs port) (said logs ts port)
said_on logs [] port = ([], append-nil (logs port))
said_on logs (Happens e ∷ ts) port = said_on logs ts port
said_on logs (Asks queue p call request reply words answer ∷ ts) port =
    longer logs p (Sent call words answer) ts port
    (said_on (and_log p (Sent call words answer) logs) ts port)
said_on logs (Speaks p call words answer ∷ ts) port =
    longer logs p (Sent call words answer) ts port
    (said_on (and_log p (Sent call words answer) logs) ts port)
said_on logs (Hears p queue number visit ∷ ts) port =
    longer logs p (Received queue number visit) ts port
    (said_on (and_log p (Received queue number visit) logs) ts port)
said_on logs (Closes p ∷ ts) port =
    longer logs p Closed ts port (said_on (and_log p Closed logs) ts port)

-- the next of a port's log, and what is before it
its_own : (logs : Logs) (port : ℕ) (did : Did) (ts : List Turn) →
    IsPrefix (logs port ++ did ∷ []) (said (and_log port did logs) ts port)
its_own logs port did ts =
    let same : nat_eq port port ≡ true = grind (arith, nat_tests) in
    subst (λ b. IsPrefix (if b then logs port ++ did ∷ [] else logs port)
    (said (and_log port did logs) ts port)) same (said_on (and_log port did logs) ts port)

take_front : {A : Type 0} (xs ys : List A) → take (length xs) (xs ++ ys) ≡ xs
take_front [] ys = refl
take_front (x ∷ xs) ys = ap (λ zs. x ∷ zs) (take_front xs ys)

get_next : {A : Type 0} (xs : List A) (y : A) (ys : List A) →
    slice_get (xs ++ y ∷ ys) (length xs) ≡ Some y
get_next [] y ys = refl
get_next (x ∷ xs) y ys = get_next xs y ys

-- ---- closed ports

-- a closed log stays so
closed_on : (ds es : List Did) → HasClosed ds → HasClosed (ds ++ es)
closed_on [] es h = absurd h
closed_on (Received queue number visit ∷ ds) es h = closed_on ds es h
closed_on (Sent call words answer ∷ ds) es h = closed_on ds es h
closed_on (Closed ∷ ds) es h = tt

-- what an open port does is in no closed log
other_log : (logs : Logs) (p : ℕ) (did : Did) (port : ℕ) → IsOpen (logs p) →
    HasClosed (logs port) → and_log p did logs port ≡ logs port
other_log logs p did port is_open closed = by (nat_eq port p) refl
  where
    by : (b : Bool) → nat_eq port p ≡ b →
        (if b then logs port ++ did ∷ [] else logs port) ≡ logs port
    by true e =
        let same : port ≡ p = grind (arith, nat_tests) in
        absurd (is_open (subst (λ q. HasClosed (logs q)) same closed))
    by false e = refl

-- a closed port does nothing more
says_no_more : (before : List Step) (logs : Logs) (ts : List Turn) (port : ℕ) →
    Runs before logs ts → HasClosed (logs port) → said logs ts port ≡ logs port
says_no_more before logs [] port runs closed = refl
says_no_more before logs (Happens e ∷ ts) port runs closed =
    says_no_more (before ++ happening e ∷ []) logs ts port runs.1 closed
says_no_more before logs (Asks queue p call request reply words answer ∷ ts) port runs closed =
    let same = other_log logs p (Sent call words answer) port runs.0 closed in
    says_no_more (before ++ asking queue p call request reply logs ∷ [])
    (and_log p (Sent call words answer) logs) ts port runs.1
    (subst (λ ds. HasClosed ds) (sym same) closed) ∙ same
says_no_more before logs (Speaks p call words answer ∷ ts) port runs closed =
    let same = other_log logs p (Sent call words answer) port runs.0 closed in
    says_no_more before (and_log p (Sent call words answer) logs) ts port runs.1
    (subst (λ ds. HasClosed ds) (sym same) closed) ∙ same
says_no_more before logs (Hears p queue number visit ∷ ts) port runs closed =
    let same = other_log logs p (Received queue number visit) port runs.0 closed in
    says_no_more before (and_log p (Received queue number visit) logs) ts port runs.2
    (subst (λ ds. HasClosed ds) (sym same) closed) ∙ same
says_no_more before logs (Closes p ∷ ts) port runs closed =
    let same = other_log logs p Closed port runs.0 closed in
    says_no_more before (and_log p Closed logs) ts port runs.1
    (subst (λ ds. HasClosed ds) (sym same) closed) ∙ same

-- ---- what holds all along

-- a request is in its port's log, and a queue ended after its port closed
abbrev IsIn : Event → ℕ → Logs → Type 0
IsIn (Arrive card bypass room) at logs = Unit {0}
IsIn (Ask port call request) at logs = at < length (logs port)
IsIn (PortClosed port) at logs = HasClosed (logs port)
IsIn (DeviceDown device) at logs = Unit {0}

-- the arrivals of all notices received were before, and each step is in the logs
record IsSo (before : List Step) (logs : Logs) : Type 0 where
  heard : (port : ℕ) → AreTaken (logs port) (entries before)
  logged : EachIs (λ s. IsIn s.entry.event s.at logs) before

entries_on : (before : List Step) (s : Step) → GoOn (entries before) (entries (before ++ s ∷ []))
entries_on before s queue = (
  history queue (s.entry ∷ []),
  sym (filter-append (is_of queue) (entries before) (s.entry ∷ []))
      ∙ ap (λ es. history queue es) (sym (map-append (λ (t : Step). t.entry) before (s ∷ []))),
)

is_in_on : (event : Event) (at port : ℕ) (did : Did) (logs : Logs) → IsIn event at logs →
    IsIn event at (and_log port did logs)
is_in_on (Arrive card bypass room) at port did logs h = tt
is_in_on (Ask other call request) at port did logs h = by (nat_eq other port)
  where
    by : (b : Bool) → at < length (if b then logs other ++ did ∷ [] else logs other)
    by true = omega (arith, h, length-append (logs other) (did ∷ []))
    by false = h
is_in_on (PortClosed other) at port did logs h = by (nat_eq other port)
  where
    by : (b : Bool) → HasClosed (if b then logs other ++ did ∷ [] else logs other)
    by true = closed_on (logs other) (did ∷ []) h
    by false = h
is_in_on (DeviceDown device) at port did logs h = tt

taken_more : (ds : List Did) (did : Did) (es : List Entry) → AreTaken ds es →
    AreTaken (did ∷ []) es → AreTaken (ds ++ did ∷ []) es
taken_more [] did es h k = k
taken_more (Received queue number visit ∷ ds) did es h k = (h.0, taken_more ds did es h.1 k)
taken_more (Sent call words answer ∷ ds) did es h k = taken_more ds did es h k
taken_more (Closed ∷ ds) did es h k = taken_more ds did es h k

-- a port did this
so_logged : (before : List Step) (logs : Logs) (port : ℕ) (did : Did) →
    AreTaken (did ∷ []) (entries before) → IsSo before logs → IsSo before (and_log port did logs)
so_logged before logs port did k so = record {
  heard = λ p. by p (nat_eq p port);
  logged = each_map (λ (s : Step). IsIn s.entry.event s.at logs)
      (λ (s : Step). IsIn s.entry.event s.at (and_log port did logs)) before
      (λ s h. is_in_on s.entry.event s.at port did logs h) so.logged;
}
  where
    by : (p : ℕ) (b : Bool) → AreTaken (if b then logs p ++ did ∷ [] else logs p) (entries before)
    by p true = taken_more (logs p) did (entries before) (so.heard p) k
    by p false = so.heard p

-- a step was taken
so_stepped : (before : List Step) (logs : Logs) (s : Step) → IsIn s.entry.event s.at logs →
    IsSo before logs → IsSo (before ++ s ∷ []) logs
so_stepped before logs s i so = record {
  heard = λ p. taken_all_on (logs p) (entries before) (entries (before ++ s ∷ []))
      (entries_on before s) (so.heard p);
  logged = each_append (λ (t : Step). IsIn t.entry.event t.at logs) before (s ∷ []) so.logged
      (i, tt);
}

-- a port asked
so_asked : (before : List Step) (logs : Logs) (queue port call : ℕ) (request : _) (reply : _)
    (words : _) (answer : _) → IsSo before logs →
    IsSo (before ++ asking queue port call request reply logs ∷ [])
    (and_log port (Sent call words answer) logs)
so_asked before logs queue port call request reply words answer so =
    so_stepped before (and_log port (Sent call words answer) logs)
    (asking queue port call request reply logs) within
    (so_logged before logs port (Sent call words answer) tt so)
  where
    within : length (logs port) < length (and_log port (Sent call words answer) logs port)
    within =
        let same : nat_eq port port ≡ true = grind (arith, nat_tests) in
        subst (λ b. length (logs port) < length (if b then logs port ++ Sent call words answer ∷ []
        else logs port)) (sym same)
        (omega (arith, length-append (logs port) (Sent call words answer ∷ [])))

-- ---- causes

may_in : (before : List Step) (logs : Logs) (event : Event) → MayHappen before logs event →
    IsIn event 0 logs
may_in before logs (Arrive card bypass room) m = tt
may_in before logs (Ask port call request) m = absurd m
may_in before logs (PortClosed port) m = m
may_in before logs (DeviceDown device) m = tt

module _ (ls : List PortLog) where
  -- these are the logs in the end
  abbrev AreSaid : Logs → List Turn → Type 0
  AreSaid logs ts = (port : ℕ) → log_of port ls ≡ said logs ts port

  happens_caused : (before : List Step) (logs : Logs) (ts : List Turn) (event : Event) →
      AreSaid logs ts → ((port : ℕ) → HasClosed (logs port) → said logs ts port ≡ logs port) →
      IsSo before logs → MayHappen before logs event → IsCausedAs ls (entries before) 0 event
  happens_caused before logs ts (Arrive card bypass room) is no_more so m = m
  happens_caused before logs ts (Ask port call request) is no_more so m = absurd m
  happens_caused before logs ts (PortClosed port) is no_more so m =
      subst (λ ds. AreTaken ds (entries before)) (sym (is port ∙ no_more port m)) (so.heard port)
  happens_caused before logs ts (DeviceDown device) is no_more so m = tt

  all_caused : (before : List Step) (logs : Logs) (ts : List Turn) → AreSaid logs ts →
      IsSo before logs → Runs before logs ts → AreCaused (IsCaused ls) before (made logs ts)
  all_caused before logs [] is so runs = tt
  all_caused before logs (Happens e ∷ ts) is so runs = (
    happens_caused before logs ts e.event is
        (λ port closed. says_no_more (before ++ happening e ∷ []) logs ts port runs.1 closed) so
        runs.0,
    all_caused (before ++ happening e ∷ []) logs ts is
        (so_stepped before logs (happening e) (may_in before logs e.event runs.0) so) runs.1,
  )
  all_caused before logs (Asks queue port call request reply words answer ∷ ts) is so runs = (
    record {
      sent = subst (λ ds. IsSent call (slice_get ds (length (logs port)))) (sym whole)
          (subst (λ o. IsSent call o)
          (sym (get_next (logs port) (Sent call words answer) own.0)) refl);
      heard = subst (λ ds. AreTaken ds (entries before))
          (sym (ap (λ ds. take (length (logs port)) ds) whole
          ∙ take_front (logs port) (Sent call words answer ∷ own.0))) (so.heard port);
    },
    all_caused (before ++ asking queue port call request reply logs ∷ [])
        (and_log port (Sent call words answer) logs) ts is
        (so_asked before logs queue port call request reply words answer so) runs.1,
  )
    where
      own : IsPrefix (logs port ++ Sent call words answer ∷ [])
          (said (and_log port (Sent call words answer) logs) ts port)
      own = its_own logs port (Sent call words answer) ts

      whole : log_of port ls ≡ logs port ++ Sent call words answer ∷ own.0
      whole = is port ∙ sym own.1 ∙ append_assoc (logs port) (Sent call words answer ∷ []) own.0
  all_caused before logs (Speaks port call words answer ∷ ts) is so runs =
      all_caused before (and_log port (Sent call words answer) logs) ts is
      (so_logged before logs port (Sent call words answer) tt so) runs.1
  all_caused before logs (Hears port queue number visit ∷ ts) is so runs =
      all_caused before (and_log port (Received queue number visit) logs) ts is
      (so_logged before logs port (Received queue number visit) (runs.1, tt) so) runs.2
  all_caused before logs (Closes port ∷ ts) is so runs =
      all_caused before (and_log port Closed logs) ts is
      (so_logged before logs port Closed tt so) runs.1

-- ---- the order of each log

-- a request that is still to be made comes after all that is logged, of a port that is open
abbrev IsLate : Event → ℕ → Logs → Type 0
IsLate (Arrive card bypass room) at logs = Unit {0}
IsLate (Ask port call request) at logs = IsOpen (logs port) × (length (logs port) ≤ at)
IsLate (PortClosed port) at logs = Unit {0}
IsLate (DeviceDown device) at logs = Unit {0}

abbrev Late : Logs → Step → Type 0
Late logs s = IsLate s.entry.event s.at logs

late_of_more : (event : Event) (at port : ℕ) (did : Did) (logs : Logs) →
    IsLate event at (and_log port did logs) → IsLate event at logs
late_of_more (Arrive card bypass room) at port did logs h = tt
late_of_more (Ask other call request) at port did logs h = by (nat_eq other port) h
  where
    by : (b : Bool) → IsOpen (if b then logs other ++ did ∷ [] else logs other)
        × (length (if b then logs other ++ did ∷ [] else logs other) ≤ at) →
        IsOpen (logs other) × (length (logs other) ≤ at)
    by true h = (
      (λ closed. h.0 (closed_on (logs other) (did ∷ []) closed)),
      omega (arith, h.1, length-append (logs other) (did ∷ [])),
    )
    by false h = h
late_of_more (PortClosed other) at port did logs h = tt
late_of_more (DeviceDown device) at port did logs h = tt

late_more : (port : ℕ) (did : Did) (logs : Logs) (ss : List Step) →
    EachIs (Late (and_log port did logs)) ss → EachIs (Late logs) ss
late_more port did logs ss h = each_map (Late (and_log port did logs)) (Late logs) ss
    (λ s l. late_of_more s.entry.event s.at port did logs l) h

may_late : (before : List Step) (logs : Logs) (event : Event) → MayHappen before logs event →
    IsLate event 0 logs
may_late before logs (Arrive card bypass room) m = tt
may_late before logs (Ask port call request) m = absurd m
may_late before logs (PortClosed port) m = tt
may_late before logs (DeviceDown device) m = tt

-- what is still to be made is late
made_late : (before : List Step) (logs : Logs) (ts : List Turn) → Runs before logs ts →
    EachIs (Late logs) (made logs ts)
made_late before logs [] runs = tt
made_late before logs (Happens e ∷ ts) runs = (
  may_late before logs e.event runs.0,
  made_late (before ++ happening e ∷ []) logs ts runs.1,
)
made_late before logs (Asks queue port call request reply words answer ∷ ts) runs = (
  (runs.0, omega arith),
  late_more port (Sent call words answer) logs
      (made (and_log port (Sent call words answer) logs) ts)
      (made_late (before ++ asking queue port call request reply logs ∷ [])
      (and_log port (Sent call words answer) logs) ts runs.1),
)
made_late before logs (Speaks port call words answer ∷ ts) runs =
    late_more port (Sent call words answer) logs
    (made (and_log port (Sent call words answer) logs) ts)
    (made_late before (and_log port (Sent call words answer) logs) ts runs.1)
made_late before logs (Hears port queue number visit ∷ ts) runs =
    late_more port (Received queue number visit) logs
    (made (and_log port (Received queue number visit) logs) ts)
    (made_late before (and_log port (Received queue number visit) logs) ts runs.2)
made_late before logs (Closes port ∷ ts) runs =
    late_more port Closed logs (made (and_log port Closed logs) ts)
    (made_late before (and_log port Closed logs) ts runs.1)

-- what is in the logs comes before what is late
in_order : (logs : Logs) (e f : Event) (at later : ℕ) → IsIn e at logs → IsLate f later logs →
    InLogOrderAs e at f later
in_order logs (Ask port call request) (Ask other number asked) at later i l = λ e.
    let same = ap (λ p. length (logs p)) e in omega (arith, i, l.1, same)
in_order logs (PortClosed port) (Ask other number asked) at later i l = λ e.
    l.0 (subst (λ p. HasClosed (logs p)) e i)
in_order logs e f at later i l = tt

each_in_order : (logs : Logs) (s : Step) (ss : List Step) → IsIn s.entry.event s.at logs →
    EachIs (Late logs) ss → EachIs (InLogOrder s) ss
each_in_order logs s ss i h = each_map (Late logs) (InLogOrder s) ss
    (λ y l. in_order logs s.entry.event y.entry.event s.at y.at i l) h

all_in_order : (before : List Step) (logs : Logs) (ts : List Turn) → IsSo before logs →
    Runs before logs ts → Pairs InLogOrder (made logs ts)
all_in_order before logs [] so runs = tt
all_in_order before logs (Happens e ∷ ts) so runs =
    let i = may_in before logs e.event runs.0 in (
      each_in_order logs (happening e) (made logs ts) i
          (made_late (before ++ happening e ∷ []) logs ts runs.1),
      all_in_order (before ++ happening e ∷ []) logs ts
          (so_stepped before logs (happening e) i so) runs.1,
    )
all_in_order before logs (Asks queue port call request reply words answer ∷ ts) so runs =
    let more = so_asked before logs queue port call request reply words answer so in
    let step = asking queue port call request reply logs in
    let on = and_log port (Sent call words answer) logs in (
      each_in_order on step (made on ts)
          (each_back (λ (s : Step). IsIn s.entry.event s.at on) before (step ∷ []) more.logged).0
          (made_late (before ++ step ∷ []) on ts runs.1),
      all_in_order (before ++ step ∷ []) on ts more runs.1,
    )
all_in_order before logs (Speaks port call words answer ∷ ts) so runs =
    all_in_order before (and_log port (Sent call words answer) logs) ts
    (so_logged before logs port (Sent call words answer) tt so) runs.1
all_in_order before logs (Hears port queue number visit ∷ ts) so runs =
    all_in_order before (and_log port (Received queue number visit) logs) ts
    (so_logged before logs port (Received queue number visit) (runs.1, tt) so) runs.2
all_in_order before logs (Closes port ∷ ts) so runs =
    all_in_order before (and_log port Closed logs) ts (so_logged before logs port Closed tt so)
    runs.1

pub one_thread : (ts : List Turn) (h : Histories) → Runs [] silent ts →
    ((queue : ℕ) → history queue h.entries ≡ history queue (entries (made silent ts))) →
    ((port : ℕ) → log_of port h.logs ≡ said silent ts port) → HasTotalOrder h
one_thread ts h runs same is = (
  made silent ts,
  record {
    same = λ queue. sym (same queue);
    caused = all_caused h.logs [] silent ts is none runs;
    kept = all_in_order [] silent ts none runs;
  },
)
  where
    none : IsSo [] silent
    none = record { heard = λ port. tt; logged = tt }
