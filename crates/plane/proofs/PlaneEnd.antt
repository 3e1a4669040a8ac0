-- A plane that closes: its ports' passes, joined one after the other, and what is left of them.
use Rattle.std.proofs.Common.{◌≡◌, ◌≢◌, ◌<◌, ◌≤◌, ◌+◌, ℕ, zero, suc, List, [], ◌∷◌, ◌++◌, length}
use Rattle.std.proofs.Common.{refl, sym, ap, ◌∙◌, subst, arith, inl, inr, take, get_or}
use Rattle.std.proofs.Common.{append_assoc, append-nil, Bool, true, false, drop}
use Rattle.std.specs.Prelude.{map, flat_map, slice_set, if◌then◌else◌, ◌&&◌, ◌==◌}
use Rattle.std.specs.Prelude.{Result, Ok, Err, OnOk, is_ok, slice_get, Option, Some, option_map}
use Rattle.std.specs.Prelude.{IfSome}
use Rattle.std.specs.Bool.{then_some}
use Rattle.std.proofs.lemmas.Bool.{cases_Bool, eqb-true, eqb-false}
use Rattle.std.proofs.lemmas.List.{length-map, map-append, drop_all, drop_more, take_more}
use Rattle.std.proofs.lemmas.Option.{slice_get-map}
use Rattle.histories.specs.declared.entry.Entry.{Entry}
use Rattle.histories.specs.declared.histories.Lost.{Lost}
use Rattle.histories.specs.declared.log.Did.{Did}
use Rattle.histories.specs.declared.log.PortLog.{PortLog}
use Rattle.mailbox.specs.Roles.{AreDistinct, In}
use Rattle.mailbox.specs.Views.{ReceiverView}
use Rattle.packet_entry.specs.declared.no_memory.NoMemory.{NoMemory}
use Rattle.turn_lock.specs.declared.storied.Storied.{Ghosts}
use Rattle.turn_lock.specs.declared.pass.Pass.{Pass}
use Rattle.turn_lock.specs.Parts.{Whole}
use Rattle.turn_lock.specs.Passes.{view_of}
use Rattle.place_rows.specs.declared.ending.PortReceiver.{PortReceiver}
use Rattle.place_rows.specs.Lists.{Every}
use Rattle.place_rows.specs.Rows.{Known, TimedKnown, known_of}
use Rattle.place_rows.specs.Joining.{AllJoined, AreWhole, RowJoined}
use Rattle.place_rows.specs.Ended.{AreAllEntries}
use Rattle.place_rows.specs.Ending.{all_fed, all_lost, rows_of, AreBalanced}
use Rattle.place_rows.specs.Hearing as row
use Rattle.plane.specs.declared.finish.Remains.{Remains}
use Rattle.plane.specs.declared.plane.Plane.{Plane}
use Rattle.plane.specs.Passes.{FeederView, PortView, IsPortOf, IsFeederOf}
use Rattle.plane.specs.Planes.{locks_of, order_of, outlets_of, places_of, setting_of}
use Rattle.locked_place.specs.Times.{plain_view}
use Rattle.locked_place.specs.Views.{LockedView, PlaceLabel, label_of}
use Rattle.place_rows.specs.Rows as rows
use Rattle.plane.specs.Closings.{feeder_holds, port_holds, receiver_of, all_holders, IsClosed}
use Rattle.plane.specs.Closings.{dids_among, log_among}
use Rattle.plane.specs.Opening.{all_rows, known_in}
use Rattle.plane.specs.Remaining.{log_left, lost_in, dids_in, log_in, IsRowOf}
use Rattle.plane.specs.Remaining.{IsAdded, AreAdded, JoinTimely, TimelyPass, AreAllIn, AreLeft}
use Rattle.plane.proofs.RowSplits.{as_many}
use Rattle.plane.proofs.TimelyPorts.{none_timely, one_timely}

-- what is known of rows that are joined
pub record Laws : Type 0 where
  pub one : (rows : List (List Known)) (into before from after : List Known) →
      AllJoined rows into before → RowJoined 0 before from after →
      AllJoined (rows ++ from ∷ []) into after
  pub one_timed : (rows : List (List TimedKnown)) (into before from after : List TimedKnown) →
      AllJoined rows into before → RowJoined 0 before from after →
      AllJoined (rows ++ from ∷ []) into after

flat_both : {X Y : Type 0} (f : X → List Y) (xs ys : List X) →
    flat_map f (xs ++ ys) ≡ flat_map f xs ++ flat_map f ys
flat_both f [] ys = refl
flat_both f (x ∷ xs) ys =
    ap (λ (l : List _). f x ++ l) (flat_both f xs ys)
    ∙ sym (append_assoc (f x) (flat_map f xs) (flat_map f ys))

-- the first of some ports were joined, and what is left of them was added
pub record JoinedSo (intos afters : List TimedKnown) (kept : Bool) (old now : Remains)
    (ports rest : List PortView) : Type 0 where
  pub done : List PortView
  pub split : ports ≡ done ++ rest
  pub joined : (rows : List (List Known)) (first : List Known) →
      AllJoined rows first (known_of intos) →
      AllJoined (rows ++ map known_in done) first (known_of afters)
  pub timely : JoinTimely done intos afters
  pub added : kept ≡ true → AreAdded done old now

pub none_so : (intos : List TimedKnown) (old : Remains) (ports : List PortView) →
    JoinedSo intos intos true old old ports ports
none_so intos old ports = record {
  done = [];
  split = refl;
  joined = λ rows first is.
      subst (λ (l : List (List Known)). AllJoined l first (known_of intos))
      (sym (append-nil rows)) is;
  timely = none_timely intos;
  added = λ kept. record {
    receivers = sym (append-nil old.receivers.items);
    logs = sym (append-nil old.logs.items);
    lost_too = sym (append-nil old.lost.items);
  };
}

pub one_so : Laws → (intos afters next : List TimedKnown) (kept still : Bool)
    (old now then_ : Remains) (ports left rest : List PortView) (t : TimelyPass) →
    JoinedSo intos afters kept old now ports left → left ≡ t.port ∷ rest →
    RowJoined 0 (known_of afters) t.port.trail.known (known_of next) →
    RowJoined 0 afters t.row next →
    (still ≡ true → (kept ≡ true)
    × IsAdded t.port.port t.port.receiver t.port.dids t.port.trail.lost now then_) →
    JoinedSo intos next still old then_ ports rest
one_so laws intos afters next kept still old now then_ ports left rest t s first row timed goes =
    let p = t.port in record {
      done = s.done ++ p ∷ [];
      split = s.split ∙ ap (λ (l : List PortView). s.done ++ l) first
          ∙ sym (append_assoc s.done (p ∷ []) rest);
      joined = λ rows first is.
          subst (λ (l : List (List Known)). AllJoined l first (known_of next))
          (append_assoc rows (map known_in s.done) (p.trail.known ∷ [])
          ∙ ap (λ (l : List (List Known)). rows ++ l) (sym (map-append known_in s.done (p ∷ []))))
          (laws.one (rows ++ map known_in s.done) first (known_of afters) p.trail.known
          (known_of next) (s.joined rows first is) row);
      timely = one_timely laws.one_timed s.done intos afters next t s.timely timed;
      added = λ is_still.
          let both = goes is_still in
          let was = s.added both.0 in
          record {
            receivers = both.1.receivers
                ∙ ap (λ (l : List PortReceiver). l ++ receiver_of p ∷ []) was.receivers
                ∙ append_assoc old.receivers.items (map receiver_of s.done) (receiver_of p ∷ [])
                ∙ ap (λ (l : List PortReceiver). old.receivers.items ++ l)
                (sym (map-append receiver_of s.done (p ∷ [])));
            logs = both.1.logs
                ∙ ap (λ (l : List PortLog). l ++ log_left p ∷ []) was.logs
                ∙ append_assoc old.logs.items (map log_left s.done) (log_left p ∷ [])
                ∙ ap (λ (l : List PortLog). old.logs.items ++ l)
                (sym (map-append log_left s.done (p ∷ [])));
            lost_too = both.1.lost_too
                ∙ ap (λ (l : List Lost). l ++ p.trail.lost) was.lost_too
                ∙ append_assoc old.lost.items (flat_map lost_in s.done) p.trail.lost
                ∙ ap (λ (l : List Lost). old.lost.items ++ l)
                (ap (λ (l : List Lost). flat_map lost_in s.done ++ l) (sym (append-nil p.trail.lost))
                ∙ sym (flat_both lost_in s.done (p ∷ [])));
          };
    }

-- all of them were
pub record JoinedAll (intos afters : List TimedKnown) (kept : Bool) (old now : Remains)
    (ports : List PortView) : Type 0 where
  pub joined : (rows : List (List Known)) (first : List Known) →
      AllJoined rows first (known_of intos) →
      AllJoined (rows ++ map known_in ports) first (known_of afters)
  pub timely : JoinTimely ports intos afters
  pub added : kept ≡ true → AreAdded ports old now

pub all_so : (intos afters : List TimedKnown) (kept : Bool) (old now : Remains)
    (ports rest : List PortView) → rest ≡ [] → JoinedSo intos afters kept old now ports rest →
    JoinedAll intos afters kept old now ports
all_so intos afters kept old now ports rest none s =
    let all : s.done ≡ ports =
    sym (s.split ∙ ap (λ (l : List PortView). s.done ++ l) none ∙ append-nil s.done) in
    record {
      joined = λ rows first is.
          subst (λ (l : List PortView). AllJoined (rows ++ map known_in l) first (known_of afters))
          all (s.joined rows first is);
      timely = subst (λ (l : List PortView). JoinTimely l intos afters) all s.timely;
      added = λ is_kept. subst (λ (l : List PortView). AreAdded l old now) all (s.added is_kept);
    }

-- the pass at hand
behind : {X : Type 0} (P : X → Type 0) (xs ys : List X) → Every P (xs ++ ys) → Every P ys
behind P [] ys all = all
behind P (x ∷ xs) ys all = behind P xs ys all.1

pub at_hand : (P : PortView → Type 0) (intos afters : List TimedKnown) (kept : Bool)
    (old now : Remains) (ports left rest : List PortView) (p : PortView) → Every P ports →
    JoinedSo intos afters kept old now ports left → left ≡ p ∷ rest → P p
at_hand P intos afters kept old now ports left rest p all s first =
    (behind P s.done (p ∷ rest)
    (subst (Every P) (s.split ∙ ap (λ (l : List PortView). s.done ++ l) first) all)).0

pub both_true : (a b : Bool) → (a && b) ≡ true → (a ≡ true) × (b ≡ true)
both_true true b h = (refl, h)
both_true false b h = absurd (cc h)

-- a port that was added where there was memory, as there was before
pub added_too : (kept room : Bool) (port : ℕ) (receiver : ReceiverView) (given dids : List Did)
    (gone lost : List Lost) (now then_ : Remains) (r : Result Unit NoMemory) →
    OnOk r (IsAdded port receiver given gone now then_) → given ≡ dids → gone ≡ lost →
    room ≡ is_ok r → (kept && room) ≡ true →
    (kept ≡ true) × IsAdded port receiver dids lost now then_
added_too kept room port receiver given dids gone lost now then_ r adds same also is all =
    let both = both_true kept room all in (
      both.0,
      subst (λ (l : List Lost). IsAdded port receiver dids l now then_) also
          (subst (λ (l : List Did). IsAdded port receiver l gone now then_) same
          (when_ok r (IsAdded port receiver given gone now then_) adds (sym is ∙ both.1))),
    )
  where
    when_ok : (o : Result Unit NoMemory) (P : Type 0) → OnOk o P → is_ok o ≡ true → P
    when_ok (Ok x) P h ok = h
    when_ok (Err e) P h ok = absurd (cc ok)

-- ---- all passes

pub every_both : {X : Type 0} (P : X → Type 0) (xs ys : List X) → Every P xs → Every P ys →
    Every P (xs ++ ys)
every_both P [] ys one two = two
every_both P (x ∷ xs) ys one two = (one.0, every_both P xs ys one.1 two)

pub rows_of_ports : (plane : Plane) (ps : List PortView) → Every (IsPortOf plane) ps →
    Every (IsRowOf (locks_of plane) (rows.label_at (outlets_of plane))) ps
rows_of_ports plane [] all = tt
rows_of_ports plane (p ∷ ps) all = (
  record {
    locks_are = all.0.of.locks_are;
    as_many = all.0.of.as_many;
    known_so = all.0.of.known_so;
  },
  rows_of_ports plane ps all.1,
)

pub balanced_all : (plane : Plane) (feeder : FeederView) (ps : List PortView) →
    IsFeederOf plane feeder → Every (IsPortOf plane) ps →
    AreBalanced (setting_of plane) (feeder_holds feeder ∷ map port_holds ps)
balanced_all plane feeder ps is all = (is.balanced, go ps all)
  where
    go : (qs : List PortView) → Every (IsPortOf plane) qs →
        AreBalanced (setting_of plane) (map port_holds qs)
    go [] each = tt
    go (q ∷ qs) each = (each.0.balanced, go qs each.1)

pub mailboxes_all : (plane : Plane) (ps : List PortView) → Every (IsPortOf plane) ps →
    Every (row.HasMailbox (outlets_of plane).mailboxes) (map receiver_of ps)
mailboxes_all plane [] all = tt
mailboxes_all plane (p ∷ ps) all = (
  record {
    mailbox = all.0.mailbox;
    none_joined = all.0.alone.0;
    none_mailed = all.0.unmailed;
    none_back = all.0.alone.1;
  },
  mailboxes_all plane ps all.1,
)

pub rows_are : (ps : List PortView) → rows_of (map port_holds ps) ≡ map known_in ps
rows_are [] = refl
rows_are (p ∷ ps) = ap (λ (l : List (List Known)). p.trail.known ∷ l) (rows_are ps)

pub none_fed : (ps : List PortView) → all_fed (map port_holds ps) ≡ []
none_fed [] = refl
none_fed (p ∷ ps) = none_fed ps

-- what is left of all passes, where nothing was before
pub left_so : (p : FeederView) (ports closed : List PortView) (old now last : Remains) →
    old.receivers.items ≡ [] → old.logs.items ≡ [] → old.lost.items ≡ p.trail.lost →
    AreAdded ports old now → AreAdded closed now last → AreLeft p (ports ++ closed) last
left_so p ports closed old now last none none_logged was one two = record {
  receivers = two.receivers
      ∙ ap (λ (l : List PortReceiver). l ++ map receiver_of closed)
      (one.receivers ∙ ap (λ (l : List PortReceiver). l ++ map receiver_of ports) none)
      ∙ sym (map-append receiver_of ports closed);
  logs = two.logs
      ∙ ap (λ (l : List PortLog). l ++ map log_left closed)
      (one.logs ∙ ap (λ (l : List PortLog). l ++ map log_left ports) none_logged)
      ∙ sym (map-append log_left ports closed);
  lost_too = two.lost_too
      ∙ ap (λ (l : List Lost). l ++ flat_map lost_in closed)
      (one.lost_too ∙ ap (λ (l : List Lost). l ++ flat_map lost_in ports) was)
      ∙ append_assoc p.trail.lost (flat_map lost_in ports) (flat_map lost_in closed)
      ∙ ap (λ (l : List Lost). p.trail.lost ++ l) (sym (flat_both lost_in ports closed));
}

-- there is something where a test says so
pub some_where : {X : Type 0} (P : X → Type 0) (b : Bool) (x : X) (o : Option X) →
    o ≡ then_some b x → (b ≡ true → P x) → IfSome o P
some_where P true x o is so = rw is (so refl)
some_where P false x o is so = rw is tt

pub lost_are : (ps : List PortView) → flat_map lost_in ps ≡ all_lost (map port_holds ps)
lost_are [] = refl
lost_are (p ∷ ps) = ap (λ (l : List Lost). p.trail.lost ++ l) (lost_are ps)

-- ---- logs

-- none of the first logs is this port's
pub record NoneBefore (port n : ℕ) (logs : List PortLog) : Type 0 where
  pub split : dids_in logs port ≡ dids_in (drop n logs) port

takes : (l : PortLog) (logs : List PortLog) (port : ℕ) → l.port ≡ port →
    dids_in (l ∷ logs) port ≡ l.dids
takes l logs port same =
    elim (cases_Bool (l.port == port)) [
      | inl h ↦ rw h refl
      | inr h ↦ absurd (eqb-false l.port port h same)
    ]

skips : (l : PortLog) (logs : List PortLog) (port : ℕ) → l.port ≢ port →
    dids_in (l ∷ logs) port ≡ dids_in logs port
skips l logs port differ =
    elim (cases_Bool (l.port == port)) [
      | inl h ↦ absurd (differ (eqb-true l.port port h))
      | inr h ↦ rw h refl
    ]

-- the logs from this place on, of which the first is at hand
from_here : (logs : List PortLog) (n : ℕ) (l : PortLog) → n < length logs → l ≡ get_or logs n l →
    drop n logs ≡ l ∷ drop (n + 1) logs
from_here logs n l few is =
    drop_more logs n l few ∙ ap (λ (x : PortLog). x ∷ drop (n + 1) logs) (sym is)

-- what was read twice at one place is the same
pub same_at : (logs : List PortLog) (n : ℕ) (l m : PortLog) → n < length logs →
    l ≡ get_or logs n l → m ≡ get_or logs n m → m ≡ l
same_at [] n l m few is also = absurd (omega (arith, few))
same_at (x ∷ logs) zero l m few is also = also ∙ sym is
same_at (x ∷ logs) (suc n) l m few is also = same_at logs n l m (omega (arith, few)) is also

pub one_before : (port n : ℕ) (logs : List PortLog) (l : PortLog) → NoneBefore port n logs →
    n < length logs → l ≡ get_or logs n l → l.port ≢ port → NoneBefore port (n + 1) logs
one_before port n logs l so few is differ = record {
  split = so.split ∙ ap (λ (ls : List PortLog). dids_in ls port) (from_here logs n l few is)
      ∙ skips l (drop (n + 1) logs) port differ;
}

pub found_here : (port n : ℕ) (logs : List PortLog) (l : PortLog) → NoneBefore port n logs →
    n < length logs → l ≡ get_or logs n l → l.port ≡ port → l.dids ≡ dids_in logs port
found_here port n logs l so few is same =
    sym (so.split ∙ ap (λ (ls : List PortLog). dids_in ls port) (from_here logs n l few is)
    ∙ takes l (drop (n + 1) logs) port same)

pub found_nowhere : (port n : ℕ) (logs : List PortLog) → NoneBefore port n logs →
    length logs ≤ n → [] ≡ dids_in logs port
found_nowhere port n logs so most =
    sym (so.split ∙ ap (λ (ls : List PortLog). dids_in ls port) (drop_all n logs most))

-- a log that changed is no other port's
pub others_kept : (logs : List PortLog) (n : ℕ) (l new : PortLog) → n < length logs →
    l ≡ get_or logs n l → new.port ≡ l.port → (q : ℕ) → q ≢ l.port →
    dids_in (slice_set logs n new) q ≡ dids_in logs q
others_kept [] n l new few is same q differ = absurd (omega (arith, few))
others_kept (x ∷ logs) zero l new few is same q differ =
    skips new logs q (λ e. differ (sym e ∙ same))
    ∙ sym (skips x logs q (λ e. differ (sym e ∙ ap (λ (y : PortLog). y.port) (sym is))))
others_kept (x ∷ logs) (suc n) l new few is same q differ =
    ap (λ (d : List Did). if x.port == q then x.dids else d)
    (others_kept logs n l new (omega (arith, few)) is same q differ)

-- the logs of the first ports were taken in their order, and those of the others are there
pub record OrderedSo (n : ℕ) (order : List ℕ) (olds logs ordered : List PortLog) : Type 0 where
  pub done : ordered ≡ map (log_in olds) (take n order)
  pub rest : (q : ℕ) → In q (drop n order) → dids_in logs q ≡ dids_in olds q
  pub apart : AreDistinct (drop n order)

pub none_ordered : (order : List ℕ) (logs ordered : List PortLog) → AreDistinct order →
    ordered ≡ [] → OrderedSo 0 order logs logs ordered
none_ordered order logs ordered apart none = record {
  done = none;
  rest = λ q is. refl;
  apart = apart;
}

pub one_ordered : (n port : ℕ) (order : List ℕ) (olds logs then_ ordered next : List PortLog)
    (dids : List Did) → OrderedSo n order olds logs ordered → n < length order →
    port ≡ get_or order n 0 → dids ≡ dids_in logs port →
    ((q : ℕ) → q ≢ port → dids_in then_ q ≡ dids_in logs q) →
    next ≡ ordered ++ record { port = port; dids = dids } ∷ [] →
    OrderedSo (n + 1) order olds then_ next
one_ordered n port order olds logs then_ ordered next dids so few is taken others pushed =
    let split : drop n order ≡ port ∷ drop (n + 1) order =
    drop_more order n 0 few ∙ ap (λ p. p ∷ drop (n + 1) order) (sym is) in
    let apart = subst AreDistinct split so.apart in
    let at : In port (drop n order) = subst (λ (l : List ℕ). In port l) (sym split) (inl refl) in
    record {
      done = pushed
          ∙ ap (λ (l : List PortLog). l ++ record { port = port; dids = dids } ∷ []) so.done
          ∙ ap (λ (d : List Did). map (log_in olds) (take n order)
          ++ record { port = port; dids = d } ∷ []) (taken ∙ so.rest port at)
          ∙ sym (map-append (log_in olds) (take n order) (port ∷ []))
          ∙ ap (λ (l : List ℕ). map (log_in olds) l)
          (ap (λ p. take n order ++ p ∷ []) is ∙ sym (take_more order n 0 few));
      rest = λ q there.
          others q (λ same. apart.0 (subst (λ p. In p (drop (n + 1) order)) same there))
          ∙ so.rest q (subst (λ (l : List ℕ). In q l) (sym split) (inr there));
      apart = apart.1;
    }

-- a port's log among those that are left is its log among the ports
dids_same : (ps : List PortView) (port : ℕ) → dids_in (map log_left ps) port ≡ dids_among ps port
dids_same [] port = refl
dids_same (p ∷ ps) port =
    ap (λ (d : List Did). if p.port == port then p.dids else d) (dids_same ps port)

pub logs_same : (ps : List PortView) (order : List ℕ) →
    map (log_in (map log_left ps)) order ≡ map (log_among ps) order
logs_same ps [] = refl
logs_same ps (port ∷ order) =
    ap (λ (d : List Did). record { port = port; dids = d } ∷ map (log_in (map log_left ps)) order)
    (dids_same ps port)
    ∙ ap (λ (l : List PortLog). log_among ps port ∷ l) (logs_same ps order)

-- the logs that were left, in the order of the ports
pub closed_logs : (ps : List PortView) (order : List ℕ) (left logs : List PortLog) →
    left ≡ map log_left ps → logs ≡ map (log_in left) order → logs ≡ map (log_among ps) order
closed_logs ps order left logs are logged =
    logged ∙ ap (λ (l : List PortLog). map (log_in l) order) are ∙ logs_same ps order

-- ---- all of it

pub rows_joined : (ps : List PortView) (first last : List Known) →
    AllJoined (map known_in ps) first last → AllJoined (rows_of (map port_holds ps)) first last
rows_joined ps first last joined =
    subst (λ (l : List (List Known)). AllJoined l first last) (sym (rows_are ps)) joined

pub closed_so : (plane : Plane) (p : FeederView) (ps : List PortView) (r : Remains)
    (es : List Entry) (logs : List PortLog) (lost : List Lost) → AreLeft p ps r →
    AreAllEntries (setting_of plane) (places_of plane) (all_holders p ps) r.receivers.items es →
    logs ≡ map (log_in r.logs.items) (order_of plane) → lost ≡ r.lost.items →
    IsClosed plane p ps (record { entries = es; logs = logs; lost = lost })
closed_so plane p ps r es logs lost left entries logged gone = record {
  entries = subst (λ (rs : List PortReceiver). AreAllEntries (setting_of plane)
      (places_of plane) (all_holders p ps) rs es) left.receivers entries;
  lost = gone ∙ left.lost_too ∙ ap (λ (l : List Lost). p.trail.lost ++ l) (lost_are ps);
  logs = closed_logs ps (order_of plane) r.logs.items logs left.logs logged;
}

pub all_in : {g : Ghosts LockedView (Entry × ℕ)} (plane : Plane) (feeder : FeederView)
    (ports closed : List PortView) (start now last : List (Pass LockedView (Entry × ℕ) g)) →
    ((named : ℕ → PlaceLabel) (row : List TimedKnown) →
    rows.AreKnown label_of named (known_of row) → rows.AreKnown label_of named row) →
    ((into : List Known) → AllJoined [] into into) →
    ((places : ℕ) (into after : List Known) (others : List (List Known)) →
    AllJoined others into after → length after ≡ places → AreWhole places (into ∷ others) →
    (k : ℕ) (v : Known) → slice_get after k ≡ Some v → v.part ≡ Whole) →
    IsFeederOf plane feeder → map rows.lock_of start ≡ feeder.locks →
    known_of (map view_of start) ≡ feeder.trail.known →
    ((named : ℕ → PlaceLabel) → rows.ArePasses label_of named plane.shared.locks.items start →
    rows.ArePasses label_of named plane.shared.locks.items now) →
    ((named : ℕ → PlaceLabel) → rows.ArePasses label_of named plane.shared.locks.items now →
    rows.ArePasses label_of named plane.shared.locks.items last) →
    ((others : List (List Known)) (first : List Known) →
    AllJoined others first (known_of (map view_of start)) →
    AllJoined (others ++ map known_in ports) first (known_of (map view_of now))) →
    ((others : List (List Known)) (first : List Known) →
    AllJoined others first (known_of (map view_of now)) →
    AllJoined (others ++ map known_in closed) first (known_of (map view_of last))) →
    AreWhole (places_of plane) (all_rows feeder ports closed) →
    AreAllIn plane feeder (ports ++ closed) last
all_in plane feeder ports closed start now last timed none whole feeds locks known keeps also one
    two all = record {
      passes = passes;
      joined = subst (λ (l : List (List Known)). AllJoined l feeder.trail.known
          (known_of (map view_of last))) (sym (map-append known_in ports closed)) joined;
      whole = λ k v there.
          whole (places_of plane) feeder.trail.known (known_of (map view_of last))
          (map known_in ports ++ map known_in closed) joined
          (length-map (map view_of last) plain_view ∙ length-map last view_of
          ∙ as_many label_of (rows.label_at (outlets_of plane)) plane.shared.locks.items last passes
          ∙ plane.shared.sized)
          all k (plain_view v)
          (slice_get-map plain_view (map view_of last) k ∙ ap (option_map plain_view) there);
    }
  where
    passes : rows.ArePasses label_of (rows.label_at (outlets_of plane)) plane.shared.locks.items last
    passes =
        also (rows.label_at (outlets_of plane))
        (keeps (rows.label_at (outlets_of plane)) (record {
          locks_are = locks ∙ feeds.of.locks_are;
          known = timed (rows.label_at (outlets_of plane)) (map view_of start)
              (subst (λ (l : List Known). rows.AreKnown label_of
              (rows.label_at (outlets_of plane)) l) (sym known) feeds.of.known_so);
        }))

    joined : AllJoined (map known_in ports ++ map known_in closed) feeder.trail.known
        (known_of (map view_of last))
    joined =
        two (map known_in ports) feeder.trail.known
        (one [] feeder.trail.known
        (subst (λ (l : List Known). AllJoined [] feeder.trail.known l) (sym known)
        (none feeder.trail.known)))
