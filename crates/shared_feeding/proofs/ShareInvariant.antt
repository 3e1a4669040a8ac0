-- Each call of a feeder keeps its share at each place.
use Rattle.std.proofs.Common.{◌*◌, ◌++◌, ◌+◌, ◌<◌, ◌∙◌, ◌∷◌, ◌≡◌, ◌≤◌, ◌⊎◌, Bool, List, Option}
use Rattle.std.proofs.Common.{None, [], ap, append-nil, append_assoc, arith, false, inl, inr, refl}
use Rattle.std.proofs.Common.{subst, sym, true, ℕ}
use Rattle.std.proofs.Math.Nat.{mod-lt}
use Rattle.std.proofs.lemmas.Bool.{cases_Bool, eq-eqb, eqb-true, ne_eqb}
use Rattle.std.proofs.lemmas.List.Elements.{filter-append}
use Rattle.std.specs.Prelude.{◌==◌, if◌then◌else◌}
use Rattle.packet_entry.specs.declared.packet.Card.{Card}
use Rattle.hook_chain.specs.declared.chain.Next.{Next}
use Rattle.hook_chain.specs.declared.chain.Next.TheVariants.{Released, To}
use Rattle.queue_core.specs.State.{Bound}
use Rattle.queue_core.specs.declared.event.Event.{Event}
use Rattle.queue_core.specs.declared.event.Event.TheVariants.{Arrive, Ask, DeviceDown, PortClosed}
use Rattle.histories.specs.Happenings.{down_of, downs}
use Rattle.histories.specs.History.{history, is_of, replay, replay_from}
use Rattle.histories.specs.Numbers.{queue_count}
use Rattle.histories.specs.States.{entry_of, state_of}
use Rattle.histories.specs.declared.entry.Entry.{Entry}
use Rattle.histories.specs.Places.{place_for}
use Rattle.script_lines.specs.declared.line.Down.{Down}
use Rattle.run_parts.specs.Feeder.{IsNoDown, times_of_event}
use Rattle.live_runs.specs.Calls.{Enters, FallsAt, Feeds, IsLater, IsLaterEvent, entering}
use Rattle.live_runs.specs.Owners.{IsNotFed}
use Rattle.live_runs.specs.Seen.{Grows, Ours, OursAre, Seen, Shares, Theirs, all_ours, all_theirs}
use Rattle.live_runs.specs.Seen.{entries, entry}
use Rattle.shared_feeding.specs.Sights.{AreSharing, IsEventOf, IsFrameOf, IsShareOf, IsSharing}
use Rattle.shared_feeding.specs.Sights.{IsThis}
use Rattle.shared_feeding.specs.Sights.{front_time, history_seen, is_seen_of}
use Rattle.shared_feeding.proofs.ShareGrowth.{down_share, first_share, quiet_share}
use Rattle.histories.specs.QueueHistories.{replay_on}
use Rattle.shared_feeding.proofs.ShareGrowth.{share_later}

-- ---- lists

pub entries_append : (xs ys : List Seen) → entries (xs ++ ys) ≡ entries xs ++ entries ys
entries_append [] ys = refl
entries_append (x ∷ xs) ys = ap (λ es. entry x ∷ es) (entries_append xs ys)

pub entries_theirs : (es : List Entry) → entries (all_theirs es) ≡ es
entries_theirs [] = refl
entries_theirs (e ∷ es) = ap (λ fs. e ∷ fs) (entries_theirs es)

nothing_ours : (Q : Entry → Type 0) (es : List Entry) → OursAre Q (all_theirs es)
nothing_ours Q [] = tt
nothing_ours Q (e ∷ es) = nothing_ours Q es

-- the entries of what is seen of a queue are its history
pub entries_seen : (queue : ℕ) (xs : List Seen) →
    entries (history_seen queue xs) ≡ history queue (entries xs)
entries_seen queue [] = refl
entries_seen queue (x ∷ xs) = by (is_of queue (entry x)) (entries_seen queue xs)
  where
    by : (c : Bool) → entries (history_seen queue xs) ≡ history queue (entries xs) →
        entries (if c then x ∷ history_seen queue xs else history_seen queue xs)
        ≡ (if c then entry x ∷ history queue (entries xs) else history queue (entries xs))
    by true rest = ap (λ es. entry x ∷ es) rest
    by false rest = rest

-- what is seen of one's own is one's own of what is seen
seen_ours : (queue : ℕ) (es : List Entry) →
    history_seen queue (all_ours es) ≡ all_ours (history queue es)
seen_ours queue [] = refl
seen_ours queue (e ∷ es) = by (is_of queue e) (seen_ours queue es)
  where
    by : (c : Bool) → history_seen queue (all_ours es) ≡ all_ours (history queue es) →
        (if c then Ours e ∷ history_seen queue (all_ours es)
        else history_seen queue (all_ours es))
        ≡ all_ours (if c then e ∷ history queue es else history queue es)
    by true rest = ap (λ xs. Ours e ∷ xs) rest
    by false rest = rest

-- the state behind what was seen
state_is : (queue : ℕ) (front more xs : List Seen) → xs ≡ front ++ more →
    replay_from (replay (history queue (entries front))) (entries (history_seen queue more))
    ≡ state_of (entries xs) queue
state_is queue front more xs is =
    ap (replay_from (replay (history queue (entries front)))) (entries_seen queue more)
    ∙ sym (replay_on None (history queue (entries front)) (history queue (entries more)))
    ∙ ap replay (sym (filter-append (is_of queue) (entries front) (entries more)))
    ∙ ap (λ es. state_of es queue) (sym (entries_append front more) ∙ ap entries (sym is))

-- ---- a place

module _ (feeders feeder : ℕ) (front : List Seen) where
  abbrev Sharing : ℕ → List Down → List Seen → Type 0
  Sharing time fallen xs = IsSharing feeders feeder time fallen front xs

  abbrev at_front : ℕ → Option Bound
  at_front queue = replay (history queue (entries front))

  pub begins : Sharing front_time [] front
  begins = record {
    more = [];
    is = sym (append-nil front);
    each = λ queue below. record {
      sights = [];
      seen = refl;
      each = tt;
      own = tt;
      lines = refl;
      times = record { ascend = tt; last = omega arith };
    };
  }

  pub waits : (time later : ℕ) (fallen : List Down) (xs : List Seen) → time ≤ later →
      Sharing time fallen xs → Sharing later fallen xs
  waits time later fallen xs less is = record {
    more = is.more;
    is = is.is;
    each = λ queue below. share_later feeders feeder (at_front queue) time later fallen
        (history_seen queue is.more) less (is.each queue below);
  }

  -- what each queue goes on with, the place does
  on : (time later : ℕ) (fallen lines : List Down) (xs ys : List Seen)
      (is : Sharing time fallen xs) → ((queue : ℕ) → queue < queue_count →
      IsShareOf feeders feeder later (at_front queue) lines
      (history_seen queue is.more ++ history_seen queue ys)) → Sharing later lines (xs ++ ys)
  on time later fallen lines xs ys is goes = record {
    more = is.more ++ ys;
    is = ap (λ zs. zs ++ ys) is.is ∙ append_assoc front is.more ys;
    each = λ queue below.
        subst (IsShareOf feeders feeder later (at_front queue) lines)
        (sym (filter-append (is_seen_of queue) is.more ys)) (goes queue below);
  }

  pub grows : (time : ℕ) (fallen : List Down) (xs ys : List Seen) → Grows IsNotFed xs ys →
      Sharing time fallen xs → Sharing time fallen ys
  grows time fallen xs ys g is =
      subst (Sharing time fallen) (sym g.is)
      (on time time fallen fallen xs g.more is (λ queue below.
      quiet_share feeders feeder (at_front queue) queue time fallen (history_seen queue is.more)
      g.more g.ours (is.each queue below)))

  pub meets : (time : ℕ) (fallen : List Down) (xs : List Seen) (es : List Entry) →
      Sharing time fallen xs → Sharing time fallen (xs ++ all_theirs es)
  meets time fallen xs es is = grows time fallen xs (xs ++ all_theirs es)
      (record { more = all_theirs es; is = refl; ours = nothing_ours IsNotFed es }) is

  -- the first arrival of a frame of the share
  pub arrives : (time number : ℕ) (fallen : List Down) (xs : List Seen) (e : Entry) →
      IsNoDown e.event →
      IsEventOf (IsFrameOf feeders (IsThis feeder)) e.event →
      times_of_event e.event ≡ 2 * number ∷ (2 * number + 1) ∷ [] → time ≤ 2 * number →
      Sharing time fallen xs → Sharing (2 * number + 1) fallen (xs ++ Ours e ∷ [])
  arrives time number fallen xs e plain of at less is =
      on time (2 * number + 1) fallen fallen xs (Ours e ∷ []) is (λ queue below.
      first_share feeders feeder (at_front queue) queue time number fallen
      (history_seen queue is.more) e plain of at less (is.each queue below))

  -- a device goes down
  pub downs_at : ((device queue : ℕ) (es : List Entry) → queue < queue_count →
      history queue (downs device es) ≡ down_of device queue (state_of es queue)) →
      (time : ℕ) (fallen : List Down) (d : Down) (xs ys : List Seen) → FallsAt d.device xs ys →
      IsFrameOf feeders (IsThis feeder) d.after → time ≤ 2 * d.after + 1 →
      Sharing time fallen xs → Sharing (2 * d.after + 1) (fallen ++ d ∷ []) ys
  downs_at law time fallen d xs ys falls of less is =
      subst (Sharing (2 * d.after + 1) (fallen ++ d ∷ [])) (sym falls.turn.is)
      (on time (2 * d.after + 1) fallen (fallen ++ d ∷ []) mid (all_ours (downs d.device es)) was
      (λ queue below.
      subst (λ hs. IsShareOf feeders feeder (2 * d.after + 1) (at_front queue) (fallen ++ d ∷ [])
      (history_seen queue was.more ++ hs))
      (sym (seen_ours queue (downs d.device es) ∙ ap all_ours (law d.device queue es below)))
      (down_share feeders feeder (at_front queue) queue time fallen d
      (history_seen queue was.more) (state_of es queue)
      (state_is queue front was.more mid was.is ∙ ap (λ fs. state_of fs queue) mid_is)
      of less (was.each queue below))))
    where
      es : List Entry
      es = entries xs ++ falls.others

      mid : List Seen
      mid = xs ++ all_theirs falls.others

      mid_is : entries mid ≡ es
      mid_is = entries_append xs (all_theirs falls.others)
          ∙ ap (λ fs. entries xs ++ fs) (entries_theirs falls.others)

      was : Sharing time fallen mid
      was = meets time fallen xs falls.others is

-- ---- all places

later_event : (event : Event) → IsLaterEvent event → IsNoDown event × (times_of_event event ≡ [])
later_event (Arrive card bypass room) later =
    (tt, rw (ne_eqb card.visit 1 (λ same. absurd (omega (arith, same, later)))) refl)
later_event (Ask port call request) later = absurd later
later_event (PortClosed port) later = absurd later
later_event (DeviceDown device) later = absurd later

ours_as : (P Q : Entry → Type 0) → ((e : Entry) → P e → Q e) → (xs : List Seen) →
    OursAre P xs → OursAre Q xs
ours_as P Q so [] are = tt
ours_as P Q so (Ours e ∷ xs) are = (so e are.0, ours_as P Q so xs are.1)
ours_as P Q so (Theirs e ∷ xs) are = ours_as P Q so xs are

grows_later : (xs ys : List Seen) → Grows IsLater xs ys → Grows IsNotFed xs ys
grows_later xs ys g = record {
  more = g.more;
  is = g.is;
  ours = ours_as IsLater IsNotFed (λ e later. later_event e.event later) g.more g.ours;
}

module _ (places feeders feeder : ℕ) (front : Shares) where
  abbrev Kept : ℕ → List Down → Shares → Type 0
  Kept time fallen shares = AreSharing places feeders feeder time fallen front shares

  -- a packet of the share enters
  enters : (queue table time : ℕ) (bypass : Bool) (fallen : List Down) (card : Card)
      (old new : Shares) → 0 < places → time ≤ 2 * card.number →
      IsFrameOf feeders (IsThis feeder) card.number →
      Enters places queue table bypass card old new → Kept time fallen old →
      Kept (2 * card.number + 1) fallen new
  enters queue table time bypass fallen card old new some less of is are k within =
      by (cases_Bool (k == (place_for queue places)))
    where
      here : ℕ
      here = place_for queue places

      e : Entry
      e = entry_of (entries (old here) ++ is.others) queue
          (entering table bypass card is.room)

      by : ((k == here) ≡ true) ⊎ ((k == here) ≡ false) →
          IsSharing feeders feeder (2 * card.number + 1) fallen (front k) (new k)
      by (inl h) = subst (λ j. IsSharing feeders feeder (2 * card.number + 1) fallen (front j)
          (new j)) (sym (eqb-true k here h))
          (grows feeders feeder (front here) (2 * card.number + 1) fallen is.between (new here)
          (grows_later is.between (new here) is.here)
          (subst (IsSharing feeders feeder (2 * card.number + 1) fallen (front here))
          (sym is.turn.is)
          (arrives feeders feeder (front here) time card.number fallen
          (old here ++ all_theirs is.others) e tt (λ first. of) refl less
          (meets feeders feeder (front here) time fallen (old here) is.others
          (are here (mod-lt queue some))))))
      by (inr h) = grows feeders feeder (front k) (2 * card.number + 1) fallen (old k) (new k)
          (grows_later (old k) (new k) (is.elsewhere k (λ same. differ (eq-eqb k here same))))
          (waits feeders feeder (front k) time (2 * card.number + 1) fallen (old k)
          (omega (arith, less)) (are k within))
        where
          differ : (k == here) ≡ true → ⊥
          differ it_is = absurd (cc)

  pub feeds : (time : ℕ) (route : Next) (fallen : List Down) (card : Card) (old new : Shares) →
      0 < places → time ≤ 2 * card.number → IsFrameOf feeders (IsThis feeder) card.number →
      Feeds places route card old new → Kept time fallen old →
      Kept (2 * card.number + 1) fallen new
  feeds time Released fallen card old new some less of is are k within =
      subst (IsSharing feeders feeder (2 * card.number + 1) fallen (front k)) (sym (is k))
      (waits feeders feeder (front k) time (2 * card.number + 1) fallen (old k)
      (omega (arith, less)) (are k within))
  feeds time (To queue bypass table) fallen card old new some less of is are k within =
      enters queue table time bypass fallen card old new some less of is are k within

  pub falls : ((device queue : ℕ) (es : List Entry) → queue < queue_count →
      history queue (downs device es) ≡ down_of device queue (state_of es queue)) →
      (time : ℕ) (fallen : List Down) (d : Down) (old new : Shares) → time ≤ 2 * d.after + 1 →
      IsFrameOf feeders (IsThis feeder) d.after →
      ((k : ℕ) → k < places → FallsAt d.device (old k) (new k)) →
      Kept time fallen old → Kept (2 * d.after + 1) (fallen ++ d ∷ []) new
  falls law time fallen d old new less of is are k within =
      downs_at feeders feeder (front k) law time fallen d (old k) (new k) (is k within) of
      less (are k within)
