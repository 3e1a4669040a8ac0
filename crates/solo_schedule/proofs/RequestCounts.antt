-- Requests: each move keeps the entries of a port's requests and its messages even.
use Rattle.std.proofs.Common.{◌≡◌, ◌∙◌, ℕ, List, [], ◌∷◌, ◌++◌, Option, Some, None, Bool}
use Rattle.std.proofs.Common.{true, false, refl, sym, ap, append-nil}
use Rattle.std.specs.Prelude.{flat_map, ◌==◌, if◌then◌else◌}
use Rattle.std.proofs.lemmas.List.Elements.{filter-append}
use Rattle.std.proofs.lemmas.List.Concat.{flat_map-append}
use Rattle.nfqa_msgs.specs.declared.request.Request.{Request}
use Rattle.nfqa_msgs.specs.declared.request.Decoded.{Decoded}
use Rattle.nfqa_msgs.specs.declared.request.Decoded.TheVariants.{Nothing, Refused, Asked}
use Rattle.nfqa_msgs.specs.RequestReading.{decoded}
use Rattle.queue_core.specs.State.{Bound}
use Rattle.queue_core.specs.declared.event.Event.TheVariants.{Ask, PortClosed}
use Rattle.histories.specs.declared.entry.Entry.{Entry}
use Rattle.histories.specs.History.{history, is_of}
use Rattle.histories.specs.Journeys.{Arrival}
use Rattle.histories.specs.States.{entry_of, entry_in, state_of, every_number}
use Rattle.histories.specs.Happenings as happening
use Rattle.packet_moves.specs.declared.setting.Setting.{Setting}
use Rattle.packet_moves.specs.World.{World}
use Rattle.packet_moves.specs.Moving.{arrived, room_for}
use Rattle.packet_moves.specs.Messages.{asking, with_ask}
use Rattle.solo_schedule.specs.Sending.{carried_out, errno_of}
use Rattle.run_parts.specs.Log.{Note, Got, Turned, Begun, Spoke, Shut}
use Rattle.run_parts.specs.Requests.{Plea, pleas_of, pleas_in, plea_of, pleas_told}
use Rattle.run_parts.specs.Requests.{IsErrno, AreErrnos}
use Rattle.solo_schedule.proofs.OnwardPackets.{all_moved_keeps}
use Rattle.solo_schedule.proofs.RunSteps.{noted}
use Rattle.solo_schedule.proofs.DueMessages.{Keeps}

-- the requests of a port at a queue
abbrev pub pleas : ℕ → ℕ → List Entry → List Plea
pleas p queue es = pleas_in p (history queue es)

pleas_append : (p queue : ℕ) (es fs : List Entry) →
    pleas p queue (es ++ fs) ≡ pleas p queue es ++ pleas p queue fs
pleas_append p queue es fs =
    ap (pleas_in p) (filter-append (is_of queue) es fs)
    ∙ flat_map-append (pleas_of p) (history queue es) (history queue fs)

-- entries without requests change nothing
pleas_stay : (p queue : ℕ) (es fs : List Entry) → pleas p queue fs ≡ [] →
    pleas p queue (es ++ fs) ≡ pleas p queue es
pleas_stay p queue es fs none =
    pleas_append p queue es fs ∙ ap (λ ps. pleas p queue es ++ ps) none
    ∙ append-nil (pleas p queue es)

no_pleas : (p queue : ℕ) (g : ℕ → List Entry) → ((k : ℕ) → pleas p queue (g k) ≡ []) →
    (ks : List ℕ) → pleas p queue (flat_map g ks) ≡ []
no_pleas p queue g none [] = refl
no_pleas p queue g none (k ∷ ks) =
    pleas_append p queue (g k) (flat_map g ks)
    ∙ ap (λ ps. ps ++ pleas p queue (flat_map g ks)) (none k) ∙ no_pleas p queue g none ks

-- one entry that is no request
no_plea : (p queue : ℕ) (e : Entry) → pleas_of p e ≡ [] → pleas p queue (e ∷ []) ≡ []
no_plea p queue e none = by (is_of queue e)
  where
    by : (c : Bool) → pleas_in p (if c then e ∷ [] else []) ≡ []
    by true = ap (λ ps. ps ++ []) none
    by false = refl

arrival_stays : (s : Setting) (w : World) (a : Arrival) (p queue : ℕ) →
    pleas p queue (arrived s w a).entries ≡ pleas p queue w.entries
arrival_stays s w a p queue =
    let e = entry_of w.entries a.queue (happening.arrive a (room_for s w a)) in
    pleas_stay p queue w.entries (e ∷ []) (no_plea p queue e refl)

closing_none : (p queue port k : ℕ) (o : Option Bound) →
    pleas p queue (happening.closing_of port k o) ≡ []
closing_none p queue port k None = refl
closing_none p queue port k (Some b) = by (b.port == port)
  where
    by : (c : Bool) →
        pleas p queue (if c then entry_in k (Some b) (PortClosed port) ∷ [] else []) ≡ []
    by true = no_plea p queue (entry_in k (Some b) (PortClosed port)) refl
    by false = refl

down_none : (p queue device k : ℕ) (o : Option Bound) →
    pleas p queue (happening.down_of device k o) ≡ []
down_none p queue device k None = refl
down_none p queue device k (Some b) = no_plea p queue _ refl

-- ---- a message

abbrev pub own_plea : ℕ → ℕ → ℕ → ℕ → ℕ → Decoded → List Plea
own_plea p queue port call errno d =
    if p == port then plea_of queue call errno d else []

nothing_more : (c : Bool) (ps : List Plea) → ps ≡ ps ++ (if c then [] else [])
nothing_more true ps = sym (append-nil ps)
nothing_more false ps = sym (append-nil ps)

asked_one : (w : World) (p queue port call : ℕ) (r : Request) →
    pleas p queue (entry_of w.entries (happening.queue_of r) (Ask port call r) ∷ [])
    ≡ own_plea p queue port call (errno_of port call (Asked r) w) (Asked r)
asked_one w p queue port call r =
    pull (happening.queue_of r == queue) ∙ by (happening.queue_of r == queue) (p == port)
  where
    e : Entry
    e = entry_of w.entries (happening.queue_of r) (Ask port call r)

    x : Plea
    x = record { call = call; request = r; errno = errno_of port call (Asked r) w }

    pull : (a : Bool) → pleas_in p (if a then e ∷ [] else [])
        ≡ (if a then pleas_of p e ++ [] else [])
    pull true = refl
    pull false = refl

    by : (a b : Bool) → (if a then (if b then x ∷ [] else []) ++ [] else [])
        ≡ (if b then (if a then x ∷ [] else []) else [])
    by true true = refl
    by true false = refl
    by false true = refl
    by false false = refl

carried_pleas : (s : Setting) (w : World) (p queue port call : ℕ) (d : Decoded) →
    pleas p queue (carried_out s port call d w).entries
    ≡ pleas p queue w.entries ++ own_plea p queue port call (errno_of port call d w) d
carried_pleas s w p queue port call Nothing = nothing_more (p == port) (pleas p queue w.entries)
carried_pleas s w p queue port call (Refused errno) =
    nothing_more (p == port) (pleas p queue w.entries)
carried_pleas s w p queue port call (Asked r) =
    let so = pleas p queue w.entries
    ++ own_plea p queue port call (errno_of port call (Asked r) w) (Asked r) in
    all_moved_keeps s (λ es ports. pleas p queue es ≡ so)
    (λ v a h. arrival_stays s v a p queue ∙ h)
    (happening.all_handed (asking w port call r).left) (with_ask w port call r)
    (pleas_append p queue w.entries
    (entry_of w.entries (happening.queue_of r) (Ask port call r) ∷ [])
    ∙ ap (λ ps. pleas p queue w.entries ++ ps) (asked_one w p queue port call r))

-- ---- errnos

errno_is : (port call : ℕ) (d : Decoded) (w : World) → IsErrno d (errno_of port call d w)
errno_is port call Nothing w = refl
errno_is port call (Refused errno) w = refl
errno_is port call (Asked request) w = tt

errnos_push : (ns : List Note) (n : Note) → AreErrnos (n ∷ []) → AreErrnos ns →
    AreErrnos (ns ++ n ∷ [])
errnos_push [] n is all = is
errnos_push (Got l ∷ ns) n is all = errnos_push ns n is all
errnos_push (Turned ∷ ns) n is all = errnos_push ns n is all
errnos_push (Begun ∷ ns) n is all = errnos_push ns n is all
errnos_push (Spoke call m errno ∷ ns) n is all = (all.0, errnos_push ns n is all.1)
errnos_push (Shut ∷ ns) n is all = errnos_push ns n is all

errnos_then : (port : ℕ) (n : Note) (notes : ℕ → List Note) → AreErrnos (n ∷ []) →
    ((p : ℕ) → AreErrnos (notes p)) → (p : ℕ) → AreErrnos (noted port n notes p)
errnos_then port n notes is all p = by (p == port)
  where
    by : (c : Bool) → AreErrnos (if c then notes p ++ n ∷ [] else notes p)
    by true = errnos_push (notes p) n is (all p)
    by false = all p

-- ---- what is kept

-- entries and messages are even, and messages have their errnos
pub record AreEven (es : List Entry) (notes : ℕ → List Note) : Type 0 where
  pub even : (p queue : ℕ) → pleas p queue es ≡ flat_map (pleas_told queue) (notes p)
  pub errnos : (p : ℕ) → AreErrnos (notes p)

told_then : (queue port p : ℕ) (n : Note) (notes : ℕ → List Note) →
    flat_map (pleas_told queue) (noted port n notes p)
    ≡ flat_map (pleas_told queue) (notes p) ++ (if p == port then pleas_told queue n else [])
told_then queue port p n notes = by (p == port)
  where
    by : (c : Bool) → flat_map (pleas_told queue) (if c then notes p ++ n ∷ [] else notes p)
        ≡ flat_map (pleas_told queue) (notes p) ++ (if c then pleas_told queue n else [])
    by true = flat_map-append (pleas_told queue) (notes p) (n ∷ [])
        ∙ ap (λ ps. flat_map (pleas_told queue) (notes p) ++ ps) (append-nil (pleas_told queue n))
    by false = sym (append-nil (flat_map (pleas_told queue) (notes p)))

-- a note that is no message
quiet : (es : List Entry) (notes : ℕ → List Note) (port : ℕ) (n : Note) →
    ((queue : ℕ) → pleas_told queue n ≡ []) → AreErrnos (n ∷ []) → AreEven es notes →
    AreEven es (noted port n notes)
quiet es notes port n none errno is = record {
  even = λ p queue. is.even p queue
      ∙ nothing_more (p == port) (flat_map (pleas_told queue) (notes p))
      ∙ ap (λ ps. flat_map (pleas_told queue) (notes p) ++ (if p == port then ps else []))
      (sym (none queue))
      ∙ sym (told_then queue port p n notes);
  errnos = errnos_then port n notes errno is.errnos;
}

pub even_kept : (s : Setting) → Keeps s (λ es ports notes. AreEven es notes)
even_kept s = record {
  arrives = λ w notes a is. record {
    even = λ p queue. arrival_stays s w a p queue ∙ is.even p queue;
    errnos = is.errnos;
  };
  begins = λ es ports notes port is. quiet es notes port Begun (λ queue. refl) tt is;
  speaks = λ w notes port call m op is. record {
    even = λ p queue. carried_pleas s w p queue port call (decoded m)
        ∙ ap (λ ps. ps ++ own_plea p queue port call (errno_of port call (decoded m) w) (decoded m))
        (is.even p queue)
        ∙ sym (told_then queue port p (Spoke call m (errno_of port call (decoded m) w)) notes);
    errnos = errnos_then port (Spoke call m (errno_of port call (decoded m) w)) notes
        (errno_is port call (decoded m) w, tt) is.errnos;
  };
  gets = λ w notes port held l ls op there letters is.
      quiet w.entries notes port (Got l) (λ queue. refl) tt is;
  closes = λ w notes port op is.
      quiet (w.entries ++ happening.closings port w.entries) notes port Shut
      (λ queue. refl) tt (record {
        even = λ p queue. pleas_stay p queue w.entries (happening.closings port w.entries)
            (no_pleas p queue (λ k. happening.closing_of port k (state_of w.entries k))
            (λ k. closing_none p queue port k (state_of w.entries k)) every_number)
            ∙ is.even p queue;
        errnos = is.errnos;
      });
  falls = λ w notes device is. record {
    even = λ p queue. pleas_stay p queue w.entries (happening.downs device w.entries)
        (no_pleas p queue (λ k. happening.down_of device k (state_of w.entries k))
        (λ k. down_none p queue device k (state_of w.entries k)) every_number)
        ∙ is.even p queue;
    errnos = is.errnos;
  };
}
