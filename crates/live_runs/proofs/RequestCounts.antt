-- Requests: each call of a port's pass keeps its requests and its messages even.
use Rattle.std.proofs.Common.{◌++◌, ◌∙◌, ◌∷◌, ◌≡◌, ◌≢◌, ◌⊎◌, Bool, List, None, Option, Some}
use Rattle.std.proofs.Common.{[], ap, append-nil, false, inl, inr, refl, subst, sym, true, ℕ}
use Rattle.std.proofs.lemmas.Bool.{cases_Bool, eq-eqb, eqb-true, ne_eqb}
use Rattle.std.proofs.lemmas.List.Concat.{flat_map-append}
use Rattle.std.proofs.lemmas.List.Elements.{filter-append}
use Rattle.std.specs.Prelude.{◌==◌, flat_map, if◌then◌else◌}
use Rattle.packet_entry.specs.declared.packet.Card.{Card}
use Rattle.netlink_codec.specs.Messages.{NetlinkMessage}
use Rattle.nfqa_msgs.specs.RequestReading.{decoded}
use Rattle.nfqa_msgs.specs.declared.request.Decoded.TheVariants.{Asked}
use Rattle.nfqa_msgs.specs.declared.request.Request.{Request}
use Rattle.hook_chain.specs.declared.chain.Decision.{Decision}
use Rattle.queue_core.specs.State.{Bound}
use Rattle.queue_core.specs.declared.event.Event.{Event}
use Rattle.queue_core.specs.declared.event.Event.TheVariants.{Arrive, Ask, DeviceDown, PortClosed}
use Rattle.queue_core.specs.declared.event.Reply.{Reply}
use Rattle.histories.specs.Happenings.{closing_of, closings, queue_of}
use Rattle.histories.specs.History.{history, is_of}
use Rattle.histories.specs.States.{entry_in, every_number, state_of}
use Rattle.histories.specs.declared.entry.Entry.{Entry}
use Rattle.histories.specs.Places.{place_for}
use Rattle.run_parts.specs.Closing.{is_by}
use Rattle.run_parts.specs.Log.{Note, Shut, Spoke}
use Rattle.run_parts.specs.Requests.{Plea, errno_in, plea_of, pleas_by, pleas_in, pleas_of}
use Rattle.run_parts.specs.Requests.{pleas_told}
use Rattle.live_runs.specs.Calls.{Asks, IsHandedOn, IsLaterEvent, IsTurn, ShutsAt, asked, found_by}
use Rattle.live_runs.specs.Calls.{handed_by, place_of}
use Rattle.live_runs.specs.Owners.{AreEven, IsEven, IsNotBy}
use Rattle.live_runs.specs.Seen.{EachIs, Grows, Seen, Shares, TheirsAre, entries}
use Rattle.live_runs.proofs.Marks.{each_of_both, entries_append, grows_as, theirs_front}
use Rattle.live_runs.proofs.Marks.{theirs_rest, turn_entries, turn_guard, turn_others}

abbrev pub pleas : ℕ → ℕ → List Entry → List Plea
pleas p queue es = pleas_in p (history queue es)

pub pleas_append : (p queue : ℕ) (es fs : List Entry) →
    pleas p queue (es ++ fs) ≡ pleas p queue es ++ pleas p queue fs
pleas_append p queue es fs =
    ap (pleas_in p) (filter-append (is_of queue) es fs)
    ∙ flat_map-append (pleas_of p) (history queue es) (history queue fs)

by_none : (p : ℕ) (event : Event) (reply : Reply) → is_by p event ≡ false →
    pleas_by p event reply ≡ []
by_none p (Arrive card bypass room) reply is = refl
by_none p (Ask by call request) reply is = rw is refl
by_none p (PortClosed closed) reply is = refl
by_none p (DeviceDown device) reply is = refl

-- entries of others have no request of the port
pub no_pleas : (p queue : ℕ) (es : List Entry) → EachIs (IsNotBy p) es → pleas p queue es ≡ []
no_pleas p queue [] are = refl
no_pleas p queue (e ∷ es) are = by (is_of queue e) (no_pleas p queue es are.1)
  where
    by : (c : Bool) → pleas p queue es ≡ [] →
        pleas_in p (if c then e ∷ history queue es else history queue es) ≡ []
    by true more = ap (λ ps. ps ++ pleas p queue es) (by_none p e.event e.reply are.0) ∙ more
    by false more = more

pub pleas_stay : (p queue : ℕ) (es fs : List Entry) → EachIs (IsNotBy p) fs →
    pleas p queue (es ++ fs) ≡ pleas p queue es
pleas_stay p queue es fs are =
    pleas_append p queue es fs ∙ ap (λ ps. pleas p queue es ++ ps) (no_pleas p queue fs are)
    ∙ append-nil (pleas p queue es)

later_not_by : (p : ℕ) (event : Event) → IsLaterEvent event → is_by p event ≡ false
later_not_by p (Arrive card bypass room) later = refl
later_not_by p (Ask by call request) later = absurd later
later_not_by p (PortClosed closed) later = absurd later
later_not_by p (DeviceDown device) later = absurd later

pub handed_not_by : (p : ℕ) (left : List (Card × Decision)) (e : Entry) → IsHandedOn left e →
    IsNotBy p e
handed_not_by p [] e on = absurd on
handed_not_by p (l ∷ ls) e on = later_not_by p e.event on

-- a pass that goes on with no request of its port
pub grown_pleas : (p queue : ℕ) (xs ys : List Seen) → Grows (IsNotBy p) xs ys →
    TheirsAre (IsNotBy p) ys → pleas p queue (entries ys) ≡ pleas p queue (entries xs)
grown_pleas p queue xs ys g guard =
    let rest = theirs_rest (IsNotBy p) xs g.more (subst (TheirsAre (IsNotBy p)) g.is guard) in
    ap (λ (zs : List Seen). pleas p queue (entries zs)) g.is
    ∙ ap (pleas p queue) (entries_append xs g.more)
    ∙ pleas_stay p queue (entries xs) (entries g.more)
    (each_of_both (IsNotBy p) g.more g.ours rest)

pub grown_even : (p queue : ℕ) (xs ys : List Seen) (notes : List Note) → Grows (IsNotBy p) xs ys →
    IsEven p queue xs notes → IsEven p queue ys notes
grown_even p queue xs ys notes g is = record {
  even = λ guard. grown_pleas p queue xs ys g guard
      ∙ is.even (theirs_front (IsNotBy p) xs g.more (subst (TheirsAre (IsNotBy p)) g.is guard));
}

-- the request's own turn
asked_one : (p queue call : ℕ) (r : Request) (before : List Entry) →
    pleas p queue (asked p call r before ∷ [])
    ≡ plea_of queue call (errno_in (asked p call r before).reply) (Asked r)
asked_one p queue call r before = pull (queue_of r == queue)
    ∙ by (queue_of r == queue) (p == p) (eq-eqb p p refl)
  where
    e : Entry
    e = asked p call r before

    x : Plea
    x = record { call = call; request = r; errno = errno_in e.reply }

    pull : (a : Bool) → pleas_in p (if a then e ∷ [] else [])
        ≡ (if a then pleas_of p e ++ [] else [])
    pull true = refl
    pull false = refl

    by : (a b : Bool) → b ≡ true →
        (if a then (if b then x ∷ [] else []) ++ [] else []) ≡ (if a then x ∷ [] else [])
    by true true is = refl
    by true false is = absurd (cc)
    by false b is = refl

pub turn_pleas : (p queue : ℕ) (others mine : List Entry) (xs ys : List Seen) →
    IsTurn others mine xs ys → TheirsAre (IsNotBy p) ys →
    pleas p queue (entries ys) ≡ pleas p queue (entries xs) ++ pleas p queue mine
turn_pleas p queue others mine xs ys t guard =
    ap (pleas p queue) (turn_entries others mine xs ys t)
    ∙ pleas_append p queue (entries xs ++ others) mine
    ∙ ap (λ ps. ps ++ pleas p queue mine) (pleas_stay p queue (entries xs) others
    (turn_others (IsNotBy p) others mine xs ys t guard))

pub one_told : (queue : ℕ) (notes : List Note) (n : Note) →
    flat_map (pleas_told queue) (notes ++ n ∷ [])
    ≡ flat_map (pleas_told queue) notes ++ pleas_told queue n
one_told queue notes n =
    flat_map-append (pleas_told queue) notes (n ∷ [])
    ∙ ap (λ ps. flat_map (pleas_told queue) notes ++ ps) (append-nil (pleas_told queue n))

-- a request of another queue is none of this one's
elsewhere_none : (queue call errno : ℕ) (r : Request) → queue_of r ≢ queue →
    plea_of queue call errno (Asked r) ≡ []
elsewhere_none queue call errno r differ = rw (ne_eqb (queue_of r) queue differ) refl

module _ (places port call errno : ℕ) (r : Request) (notes : List Note) (old new : Shares)
    (is : Asks places port call r errno old new) (even : AreEven places port old notes) where
  abbrev here : ℕ
  here = place_of places r

  abbrev es : List Entry
  es = found_by places r old is.others

  abbrev handed : List (Card × Decision)
  handed = handed_by port call r es

  others : (xs ys : List Seen) → Grows (IsHandedOn handed) xs ys → Grows (IsNotBy port) xs ys
  others xs ys g =
      grows_as (IsHandedOn handed) (IsNotBy port) (handed_not_by port handed) xs ys g

  at_queue : (queue : ℕ) → place_for queue places ≡ here →
      TheirsAre (IsNotBy port) (new (place_for queue places)) →
      pleas port queue (entries (new (place_for queue places)))
      ≡ flat_map (pleas_told queue) notes ++ plea_of queue call errno (Asked r)
  at_queue queue at guard =
      let so : TheirsAre (IsNotBy port) (new here) =
      subst (λ k. TheirsAre (IsNotBy port) (new k)) at guard in
      let mid = theirs_front (IsNotBy port) is.between is.here.more
      (subst (TheirsAre (IsNotBy port)) is.here.is so) in
      let mine = asked port call r es ∷ [] in
      ap (λ k. pleas port queue (entries (new k))) at
      ∙ grown_pleas port queue is.between (new here) (others is.between (new here) is.here) so
      ∙ turn_pleas port queue is.others mine (old here) is.between is.turn mid
      ∙ ap (λ ps. ps ++ pleas port queue mine)
      (ap (λ k. pleas port queue (entries (old k))) (sym at)
      ∙ (even.each queue).even (subst (λ k. TheirsAre (IsNotBy port) (old k)) (sym at)
      (turn_guard (IsNotBy port) is.others mine (old here) is.between is.turn mid)))
      ∙ ap (λ ps. flat_map (pleas_told queue) notes ++ ps)
      (asked_one port queue call r es
      ∙ ap (λ n. plea_of queue call n (Asked r)) (sym is.errno_is))

  away : (queue : ℕ) → place_for queue places ≢ here → TheirsAre (IsNotBy port)
      (new (place_for queue places)) →
      pleas port queue (entries (new (place_for queue places)))
      ≡ flat_map (pleas_told queue) notes ++ plea_of queue call errno (Asked r)
  away queue differ guard =
      (grown_even port queue (old (place_for queue places)) (new (place_for queue places)) notes
      (others (old (place_for queue places)) (new (place_for queue places))
      (is.elsewhere (place_for queue places) differ)) (even.each queue)).even guard
      ∙ sym (append-nil (flat_map (pleas_told queue) notes))
      ∙ ap (λ ps. flat_map (pleas_told queue) notes ++ ps)
      (sym (elsewhere_none queue call errno r (λ same. differ
      (ap (λ q. place_for q places) (sym same)))))

  pub asks_even : (m : NetlinkMessage) → decoded m ≡ Asked r →
      AreEven places port new (notes ++ Spoke call m errno ∷ [])
  asks_even m says = record {
    each = λ queue. record {
      even = λ guard. by queue guard (cases_Bool ((place_for queue places) == here))
          ∙ ap (λ d. flat_map (pleas_told queue) notes ++ plea_of queue call errno d) (sym says)
          ∙ sym (one_told queue notes (Spoke call m errno));
    };
  }
    where
      by : (queue : ℕ) → TheirsAre (IsNotBy port) (new (place_for queue places)) →
          (((place_for queue places) == here) ≡ true) ⊎
          (((place_for queue places) == here) ≡ false) →
          pleas port queue (entries (new (place_for queue places)))
          ≡ flat_map (pleas_told queue) notes ++ plea_of queue call errno (Asked r)
      by queue guard (inl h) = at_queue queue (eqb-true (place_for queue places) here h) guard
      by queue guard (inr h) = away queue (λ same. differ
          (eq-eqb (place_for queue places) here same)) guard
        where
          differ : ((place_for queue places) == here) ≡ true → ⊥
          differ it_is = absurd (cc)

-- ---- a closing asks for nothing

one_none : (p queue k port : ℕ) (o : Option Bound) → pleas p queue (closing_of port k o) ≡ []
one_none p queue k port None = refl
one_none p queue k port (Some b) = by (b.port == port)
  where
    e : Entry
    e = entry_in k (Some b) (PortClosed port)

    own : (c : Bool) → pleas_in p (if c then e ∷ [] else []) ≡ []
    own true = refl
    own false = refl

    by : (c : Bool) → pleas p queue (if c then entry_in k (Some b) (PortClosed port) ∷ [] else [])
        ≡ []
    by true = own (is_of queue e)
    by false = refl

all_none : (p queue port : ℕ) (before : List Entry) (ks : List ℕ) →
    pleas p queue (flat_map (λ k. closing_of port k (state_of before k)) ks) ≡ []
all_none p queue port before [] = refl
all_none p queue port before (k ∷ ks) =
    pleas_append p queue (closing_of port k (state_of before k))
    (flat_map (λ k. closing_of port k (state_of before k)) ks)
    ∙ ap (λ ps. ps ++ pleas p queue (flat_map (λ k. closing_of port k (state_of before k)) ks))
    (one_none p queue k port (state_of before k)) ∙ all_none p queue port before ks

pub shuts_even : (port queue : ℕ) (xs ys : List Seen) (notes : List Note) → ShutsAt port xs ys →
    IsEven port queue xs notes → IsEven port queue ys (notes ++ Shut ∷ [])
shuts_even port queue xs ys notes s is = record {
  even = λ guard.
      let es = entries xs ++ s.others in
      turn_pleas port queue s.others (closings port es) xs ys s.turn guard
      ∙ ap (λ ps. pleas port queue (entries xs) ++ ps) (all_none port queue port es every_number)
      ∙ append-nil (pleas port queue (entries xs))
      ∙ is.even (turn_guard (IsNotBy port) s.others (closings port es) xs ys s.turn guard)
      ∙ sym (append-nil (flat_map (pleas_told queue) notes)) ∙ sym (one_told queue notes Shut);
}
