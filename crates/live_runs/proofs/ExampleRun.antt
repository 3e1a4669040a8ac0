-- The run that is written out is one, whatever is fed in between.
use Rattle.std.proofs.Common.{◌%◌, ◌++◌, ◌<◌, ◌∙◌, ◌∷◌, ◌≡◌, ◌⊎◌, Bool, List, None, Some, [], ap}
use Rattle.std.proofs.Common.{append-nil, arith, false, inl, inr, length, refl, subst, suc, sym}
use Rattle.std.proofs.Common.{true, zero, ℕ}
use Rattle.std.proofs.Math.Nat.{mod-one}
use Rattle.std.proofs.lemmas.Bool.{cases_Bool, eqb-true}
use Rattle.std.proofs.lemmas.List.Concat.{flat_map-append}
use Rattle.std.specs.List.{list_any}
use Rattle.std.specs.Prelude.{◌==◌, ◌||◌, filter, flat_map, if◌then◌else◌, map, nat_eq, option_map}
use Rattle.std.specs.Prelude.{slice_get}
use Rattle.netlink_codec.specs.Attributes.{attributes, attributes_up_to}
use Rattle.netlink_codec.specs.Messages.{first_message}
use Rattle.nfqa_msgs.specs.RequestReading.{decoded, request_in}
use Rattle.nfqa_msgs.specs.declared.request.Decoded.TheVariants.{Asked}
use Rattle.queue_core.specs.declared.event.Event.{Event}
use Rattle.queue_core.specs.declared.event.Event.TheVariants.{Arrive, Ask, DeviceDown, PortClosed}
use Rattle.queue_core.specs.declared.event.Reply.{Reply}
use Rattle.histories.specs.History.{history, is_of}
use Rattle.histories.specs.Numbers.{queue_count}
use Rattle.histories.specs.declared.entry.Entry.{Entry}
use Rattle.histories.specs.Letters.{is_from}
use Rattle.run_parts.specs.Closing.{IsClosing}
use Rattle.run_parts.specs.Datagrams.{messages_in}
use Rattle.run_parts.specs.FedExamples.{arrives, binds, falls, opens_7, shuts}
use Rattle.run_parts.specs.Feeder.{Fell, Passed, Was, downs_in_effect}
use Rattle.run_parts.specs.Notices.{letters_from}
use Rattle.run_parts.specs.Order.{Kind, Opens, kinds_told}
use Rattle.run_parts.specs.Ports.{is_port}
use Rattle.run_parts.specs.Requests.{IsErrno, Plea, plea_of, pleas_by, pleas_in, pleas_of}
use Rattle.run_parts.specs.Requests.{pleas_told}
use Rattle.run_parts.specs.Room.{some_lacks}
use Rattle.run_parts.specs.Underway.{Fed, Ordered}
use Rattle.live_runs.specs.ByHand.{AreFedTo3, around, binding, bytes, fed_by_one, histories_with}
use Rattle.live_runs.specs.ByHand.{message, notes, notes_of_7, pass_of_7, pass_of_feeder, passes}
use Rattle.live_runs.specs.ByHand.{passes_with, script, stands}
use Rattle.live_runs.specs.ClosedPlanes.{IsClosedPlane, IsCovered, sent_by_all}
use Rattle.live_runs.specs.Meetings.{ArePorts, IsMeeting}
use Rattle.live_runs.specs.Owners.{IsEven, IsFeeders, IsFeedersEvent, IsFeeding, IsOf, IsShutting}
use Rattle.live_runs.specs.Passes.{feeder_number, is_pass, seen_at}
use Rattle.live_runs.specs.Ports.{IsPort}
use Rattle.live_runs.specs.Seen.{EachIs, Ours, OursAre, Theirs, all_ours, all_theirs, entries}
use Rattle.live_runs.specs.Stages.{Ending, InOrder, IsPlain}
use Rattle.live_runs.specs.Stands.{IsDone, shut_stand}
use Rattle.live_runs.proofs.DueRanks.{ordered_later}
use Rattle.live_runs.proofs.Marks.{each_append, each_as, entries_append, entries_ours}
use Rattle.live_runs.proofs.Marks.{entries_theirs, nothing_ours, ours_append, ours_each}
use Rattle.live_runs.proofs.Segments.{segment_ordered}
use Rattle.live_runs.proofs.StageEntries.{fed_is_plain}

pub cut_so : messages_in bytes ≡ message ∷ []
unfolding first_message
cut_so = refl

pub asked_so : decoded message ≡ Asked binding
unfolding decoded request_in attributes attributes_up_to
asked_so = refl

-- ---- one place, one port, one queue

first_place : (k : ℕ) → k < 1 → 0 ≡ k
first_place k below = omega (arith, below)

one_port : (p : ℕ) → is_port script p ≡ true → 7 ≡ p
one_port p is = sym (eqb-true p 7 (by (p == 7) is))
  where
    by : (c : Bool) → (c || false) ≡ true → c ≡ true
    by true so = refl
    by false so = so

-- what holds at place 0 holds where a queue is
at_any : (Q : ℕ → Type 0) (queue : ℕ) → Q 0 → Q (queue % 1)
at_any Q queue is = subst Q (sym (mod-one queue)) is

-- entries of queue 3, at a queue, whichever it is
abbrev all_if : Bool → List Entry → List Entry
all_if c es = if c then es else []

all_so : (queue : ℕ) (es : List Entry) → EachIs (λ e. e.queue ≡ 3) es →
    history queue es ≡ all_if (3 == queue) es
all_so queue [] are = by (3 == queue)
  where
    by : (c : Bool) → [] ≡ all_if c []
    by true = refl
    by false = refl
all_so queue (e ∷ es) are = by (is_of queue e) (3 == queue) (ap (λ q. q == queue) are.0)
    (all_so queue es are.1)
  where
    by : (b c : Bool) → b ≡ c → history queue es ≡ all_if c es →
        (if b then e ∷ history queue es else history queue es) ≡ all_if c (e ∷ es)
    by true true same rest = ap (λ fs. e ∷ fs) rest
    by true false same rest = absurd (cc)
    by false true same rest = absurd (cc)
    by false false same rest = rest

-- ---- what is fed asks for nothing

no_plea : (port : ℕ) (event : Event) (reply : Reply) → IsFeedersEvent event →
    pleas_by port event reply ≡ []
no_plea port (Arrive card bypass room) reply is = refl
no_plea port (Ask by call request) reply is = absurd is
no_plea port (PortClosed closed) reply is = absurd is
no_plea port (DeviceDown device) reply is = refl

none_asked : (port : ℕ) (es : List Entry) → EachIs IsFeeders es → pleas_in port es ≡ []
none_asked port [] are = refl
none_asked port (e ∷ es) are =
    ap (λ ps. ps ++ pleas_in port es) (no_plea port e.event e.reply are.0)
    ∙ none_asked port es are.1

-- the kinds of what asks something of a queue: the port's opening, or none
abbrev told_if : Bool → ℕ → List Kind
told_if c port = if c then opens_7 port else []

told_so : (queue : ℕ) → kinds_told 1 script queue 7 notes_of_7
    ≡ map (λ (x : Plea). Opens) (plea_of queue 1 0 (decoded message)) ++ []
unfolding first_message
told_so queue = refl

kinds_so : (queue port : ℕ) →
    told_if (3 == queue) port ≡ kinds_told 1 script queue port (notes port)
kinds_so queue port = by (cases_Bool (port == 7))
  where
    own : (c : Bool) → told_if c 7
        ≡ map (λ (x : Plea). Opens)
        (if c then record { call = 1; request = binding; errno = 0 } ∷ [] else []) ++ []
    own true = refl
    own false = refl

    by : ((port == 7) ≡ true) ⊎ ((port == 7) ≡ false) →
        told_if (3 == queue) port ≡ kinds_told 1 script queue port (notes port)
    by (inl h) = subst (λ p. told_if (3 == queue) p ≡ kinds_told 1 script queue p (notes p))
        (sym (eqb-true port 7 h))
        (own (3 == queue)
        ∙ ap (λ d. map (λ (x : Plea). Opens) (plea_of queue 1 0 d) ++ []) (sym asked_so)
        ∙ sym (told_so queue))
    by (inr h) = rw h (quiet (3 == queue))
      where
        quiet : (c : Bool) → told_if c 0 ≡ []
        quiet true = refl
        quiet false = refl

-- before anything is fed
bound_so : Ordered (7 ∷ []) 1 0 opens_7 (binds ∷ [])
bound_so = record {
  marks = record { entry = binds; kind = Opens } ∷ [];
  entries = refl;
  kinds = λ port. own (port == 7);
  early = record { ascend = (omega arith, tt); last = omega arith };
  late = record { ascend = tt; last = omega arith };
}
  where
    own : (c : Bool) → map (λ (x : Plea). Opens)
        (if c then record { call = 1; request = binding; errno = 0 } ∷ [] else []) ++ []
        ≡ (if c then Opens ∷ [] else [])
    own true = refl
    own false = refl

module _ (fed : List Entry) (is_fed : AreFedTo3 fed) where
  -- ---- the histories

  here_so : EachIs (λ e. e.queue ≡ 3) (around fed)
  here_so = (refl, each_append (λ e. e.queue ≡ 3) fed (shuts 7 ∷ []) is_fed.here (refl, tt))

  pub history_so : (queue : ℕ) → history queue (around fed) ≡ all_if (3 == queue) (around fed)
  history_so queue = all_so queue (around fed) here_so

  -- what holds of the queue's entries, and of none, holds of each history
  each_history_so : (Q : List Entry → Type 0) → Q (around fed) → Q [] → (queue : ℕ) →
      Q (history queue (around fed))
  each_history_so Q all none queue = subst Q (sym (history_so queue)) (by (3 == queue))
    where
      by : (c : Bool) → Q (all_if c (around fed))
      by true = all
      by false = none

  -- ---- the closed plane

  abbrev at_place : ℕ → List Entry
  at_place k = if k == 0 then around fed else []

  seen_by_7 : entries ((pass_of_7 fed).shares 0) ≡ around fed
  seen_by_7 = ap (λ es. binds ∷ es) (entries_append (all_theirs fed) (Ours (shuts 7) ∷ [])
      ∙ ap (λ es. es ++ shuts 7 ∷ []) (entries_theirs fed))

  seen_by_feeder : entries ((pass_of_feeder fed).shares 0) ≡ around fed
  seen_by_feeder = ap (λ es. binds ∷ es) (entries_append (all_ours fed) (Theirs (shuts 7) ∷ [])
      ∙ ap (λ es. es ++ shuts 7 ∷ []) (entries_ours fed))

  seen_so : (p : ℕ) → entries (seen_at (passes_with fed) 0 p) ≡ around fed
  seen_so p = by (p == 7)
    where
      by : (c : Bool) →
          entries ((if c then pass_of_7 fed else pass_of_feeder fed).shares 0) ≡ around fed
      by true = seen_by_7
      by false = seen_by_feeder

  -- each entry behind the binding is the port's or the feeder's
  owned_behind : (es : List Entry) (i : ℕ) (e : Entry) →
      slice_get (es ++ shuts 7 ∷ []) i ≡ Some e →
      (slice_get (all_theirs es ++ Ours (shuts 7) ∷ []) i ≡ Some (Ours e))
      ⊎ (slice_get (all_ours es ++ Theirs (shuts 7) ∷ []) i ≡ Some (Ours e))
  owned_behind [] zero e is = inl (ap (option_map Ours) is)
  owned_behind [] (suc i) e is = let wrong : None ≡ Some e = is in absurd (cc)
  owned_behind (x ∷ es) zero e is = inr (ap (option_map Ours) is)
  owned_behind (x ∷ es) (suc i) e is = owned_behind es i e is

  owned_so : (i : ℕ) (e : Entry) → slice_get (around fed) i ≡ Some e → (p : ℕ)
      × (is_pass (7 ∷ []) p ≡ true)
      × (slice_get (seen_at (passes_with fed) 0 p) i ≡ Some (Ours e))
  owned_so zero e is = (7, refl, ap (option_map Ours) is)
  owned_so (suc i) e is =
      elim (owned_behind fed i e is) [
        | inl own ↦ (7, refl, own)
        | inr own ↦ (0, refl, own)
      ]

  covered_so : IsCovered (is_pass (7 ∷ [])) (seen_at (passes_with fed) 0) (around fed)
  covered_so = record {
    rest = λ p. [];
    begins = λ p is. sym (append-nil (entries (seen_at (passes_with fed) 0 p)) ∙ seen_so p);
    owned = record { owned = owned_so };
  }

  pub closed_so : IsClosedPlane (7 ∷ []) 1 1 (passes_with fed) (histories_with fed)
  closed_so = record {
    whole = at_place;
    covered = λ k below. subst (λ j. IsCovered (is_pass (7 ∷ [])) (seen_at (passes_with fed) j)
        (at_place j)) (first_place k below) covered_so;
    queues = λ k below. subst (λ j. EachIs (λ e. e.queue < queue_count) (at_place j))
        (first_place k below) (each_as (λ e. e.queue ≡ 3) (λ e. e.queue < queue_count)
        (λ e is. omega (arith, is)) (around fed) here_so);
    same = λ queue. at_any (λ k. history queue (around fed) ≡ history queue (at_place k)) queue
        refl;
    logs = refl;
    all = λ port queue i sums. subst (λ p. letters_from p None (history queue (around fed))
        ≡ filter (is_from queue) (passes_with fed p).letters) (one_port port i)
        (each_history_so (λ es. letters_from 7 None es ≡ []) is_fed.letters refl queue);
    room = λ port queue i lacks. absurd (no_lack port queue i lacks);
  }
    where
      no_lack : (port queue : ℕ) → list_any (nat_eq port) (7 ∷ []) ≡ true →
          some_lacks port None (history queue (around fed)) ≡ true → ⊥
      no_lack port queue i lacks =
          let none : some_lacks port None (history queue (around fed)) ≡ false =
          subst (λ p. some_lacks p None (history queue (around fed)) ≡ false) (one_port port i)
          (each_history_so (λ es. some_lacks 7 None es ≡ false) is_fed.room refl queue) in
          let wrong : true ≡ false = sym lacks ∙ none in
          absurd (cc)

  -- ---- the port

  pleas_so : (queue : ℕ) →
      pleas_in 7 (history queue (around fed)) ≡ flat_map (pleas_told queue) notes_of_7
  pleas_so queue = ap (pleas_in 7) (history_so queue) ∙ by (3 == queue)
      ∙ ap (λ d. plea_of queue 1 0 d ++ []) (sym asked_so)
    where
      behind : pleas_in 7 (fed ++ shuts 7 ∷ []) ≡ []
      behind = flat_map-append (pleas_of 7) fed (shuts 7 ∷ [])
          ∙ ap (λ ps. ps ++ []) (none_asked 7 fed is_fed.feeders)

      by : (c : Bool) → pleas_in 7 (all_if c (around fed))
          ≡ (if c then record { call = 1; request = binding; errno = 0 } ∷ [] else []) ++ []
      by true = ap (λ ps. record { call = 1; request = binding; errno = 0 } ∷ ps) behind
      by false = refl

  shut_so : (queue : ℕ) → IsClosing 7 true (history queue (around fed))
  shut_so queue = each_history_so (IsClosing 7 true) is_fed.closing
      (record { last = refl; unbound = refl }) queue

  port_so : IsPort 1 script 1 7 notes_of_7 shut_stand (pass_of_7 fed)
  unfolding first_message
  port_so = record {
    next = ((refl, tt), ((refl, refl, refl), ((refl, refl, refl), tt)));
    stands = refl;
    heard_so = refl;
    errnos = (errno_so, tt);
    even = record {
      each = λ queue. at_any (λ k. IsEven 7 queue ((pass_of_7 fed).shares k) notes_of_7) queue
          (record {
            even = λ guard. ap (λ es. pleas_in 7 (history queue es)) seen_by_7 ∙ pleas_so queue;
          });
    };
    shutting = λ k below. subst (λ j. IsShutting 7 true ((pass_of_7 fed).shares j))
        (first_place k below) (record {
          closing = λ guard queue under. subst (λ es. IsClosing 7 true (history queue es))
              (sym seen_by_7) (shut_so queue);
        });
  }
    where
      errno_so : IsErrno (decoded message) 0
      errno_so = subst (λ d. IsErrno d 0) (sym asked_so) tt

  ports_so : ArePorts 1 script 1 (passes_with fed) notes stands
  ports_so = record {
    ports = λ port i. subst (λ p. IsPort 1 script 1 p (notes p) (stands p) (passes_with fed p))
        (one_port port i) port_so;
    others = λ port out. none (port == 7) out;
    ours = λ port i k. subst (λ p. OursAre (IsOf p) (seen_at (passes_with fed) k p))
        (one_port port i) (own (k == 0));
    feeders = λ k. feeding (k == 0);
  }
    where
      none : (c : Bool) → (c || false) ≡ false → (if c then notes_of_7 else []) ≡ []
      none true wrong = absurd (cc)
      none false is = refl

      own : (c : Bool) →
          OursAre (IsOf 7) (if c then Ours binds ∷ all_theirs fed ++ Ours (shuts 7) ∷ [] else [])
      own true = (
        (refl, tt),
        ours_append (IsOf 7) (all_theirs fed) (Ours (shuts 7) ∷ []) (nothing_ours (IsOf 7) fed)
            (refl, tt),
      )
      own false = tt

      feeding : (c : Bool) → OursAre IsFeeders
          (if c then Theirs binds ∷ all_ours fed ++ Theirs (shuts 7) ∷ [] else [])
      feeding true = ours_append IsFeeders (all_ours fed) (Theirs (shuts 7) ∷ [])
          (ours_each IsFeeders fed is_fed.feeders) tt
      feeding false = tt

  -- ---- order

  ordered_so : (c : Bool) → Ordered (7 ∷ []) 1 1 (told_if c) (all_if c (around fed))
  ordered_so true =
      ordered_later (7 ∷ []) 1 1 1 1 (λ p. (opens_7 p ++ []) ++ []) opens_7 (around fed)
      (omega arith) (omega arith) (λ p. append-nil (opens_7 p ++ []) ∙ append-nil (opens_7 p))
      (segment_ordered (7 ∷ []) 1 1 (shuts 7 ∷ []) (λ p. []) (λ p. opens_7 p ++ []) (binds ∷ fed)
      (λ p. refl) (λ p. tt) ((refl, inr refl), tt)
      (ordered_later (7 ∷ []) 1 1 0 1 (λ p. opens_7 p ++ []) (λ p. opens_7 p ++ []) (binds ∷ fed)
      (omega arith) (omega arith) (λ p. refl)
      (segment_ordered (7 ∷ []) 1 0 fed (λ p. []) opens_7 (binds ∷ [])
      (λ p. ap length (sym (none_asked p fed is_fed.feeders))) (λ p. tt)
      (each_as IsFeeders (IsPlain (7 ∷ []) 1 0) (fed_is_plain (7 ∷ [])) fed is_fed.feeders)
      bound_so)))
  ordered_so false = record {
    marks = [];
    entries = refl;
    kinds = λ port. refl;
    early = record { ascend = tt; last = omega arith };
    late = record { ascend = tt; last = omega arith };
  }

  order_so : InOrder 1 script 1 1 1 at_place notes
  order_so = record {
    each = λ queue below. at_any (λ k. Ordered (7 ∷ []) 1 1
        (λ p. kinds_told 1 script queue p (notes p)) (history queue (at_place k))) queue
        (subst (Ordered (7 ∷ []) 1 1 (λ p. kinds_told 1 script queue p (notes p)))
        (sym (history_so queue)) (ordered_later (7 ∷ []) 1 1 1 1 (told_if (3 == queue))
        (λ p. kinds_told 1 script queue p (notes p)) (all_if (3 == queue) (around fed))
        (omega arith) (omega arith) (kinds_so queue) (ordered_so (3 == queue))));
  }

  pub met_so : IsMeeting 1 script 1 (Ending 0) (passes_with fed) notes stands
  met_so = record {
    whole = at_place;
    are = ports_so;
    met = λ k p below is. subst (λ j. entries (seen_at (passes_with fed) j p) ≡ at_place j)
        (first_place k below) (seen_so p);
    order = λ owned. order_so;
  }

  -- ---- nothing is left

  pub received_so : (port : ℕ) → is_port script port ≡ true →
      sent_by_all script.ports 1 (passes_with fed) port ≡ length (passes_with fed port).letters
  received_so port i = subst (λ p. sent_by_all script.ports 1 (passes_with fed) p
      ≡ length (passes_with fed p).letters) (one_port port i) is_fed.sent

pub done_so : (port : ℕ) → is_port script port ≡ true → IsDone (stands port)
done_so port i = record { owed = refl; pending = refl; ends = refl }

-- ---- frame 1 and a device

pub one_is_fed : AreFedTo3 fed_by_one
one_is_fed = record {
  here = (refl, (refl, tt));
  feeders = (tt, (tt, tt));
  letters = refl;
  sent = refl;
  room = refl;
  closing = record { last = refl; unbound = refl };
}

fed_one : (c : Bool) → Fed 3 (downs_in_effect script 1) (all_if c (around fed_by_one))
fed_one true = record {
  items = Was binds ∷ Was (arrives 1) ∷ Fell (record { device = 5; after = 1 }) (falls 5)
      ∷ Was (shuts 7) ∷ [];
  entries = refl;
  lines = refl;
  each = (tt, (tt, (refl, (tt, tt))));
  times = record {
    ascend = (omega arith, (omega arith, (omega arith, tt)));
    last = omega arith;
  };
}
fed_one false = record {
  items = Passed (record { device = 5; after = 1 }) ∷ [];
  entries = refl;
  lines = refl;
  each = (refl, tt);
  times = record { ascend = (omega arith, tt); last = omega arith };
}

pub fed_so : (k : ℕ) → k < 1 →
    IsFeeding 3 (downs_in_effect script 1) (seen_at passes k feeder_number)
fed_so k below = subst (λ j. IsFeeding 3 (downs_in_effect script 1)
    (seen_at passes j feeder_number)) (first_place k below) (record {
      fed = λ guard. record {
        each = λ queue under. subst (Fed 3 (downs_in_effect script 1))
            (sym (history_so fed_by_one one_is_fed queue)) (fed_one (3 == queue));
      };
    })
