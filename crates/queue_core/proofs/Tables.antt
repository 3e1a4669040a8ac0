-- What holds of every step, each by a list of leaves: what it is of each shape of outcome.
use Rattle.std.proofs.Common.{◌≡◌, ◌≢◌, ◌<◌, ℕ, ◌+◌, List, [], ◌∷◌, ◌++◌, length, map, drop}
use Rattle.std.proofs.Common.{Option, Some, None, Bool, true, false, cond, refl, sym, ap, ◌∙◌}
use Rattle.std.proofs.Common.{arith}
use Rattle.std.proofs.Common.{inl, inr, subst}
use Rattle.std.specs.Prelude.{nat_eq, not, All}
use Rattle.std.specs.Map.{lookup, remove_entry, keys_of}
use Rattle.std.specs.List.{IsDistinct, AllByRecursion}
use Rattle.std.specs.Cmp.{nat_eq_equiv}
use Rattle.std.proofs.lemmas.Bool.{cases_Bool, ne_eqb}
use Rattle.std.proofs.lemmas.List.Sums.{sum_by-append, sum_by-cons}
use Rattle.std.proofs.lemmas.List.{map_push, length-map, take-append-drop}
use Rattle.std.proofs.lemmas.List.Elements.{All-nil, All-from_recursion}
use Rattle.std.proofs.lemmas.Map.Keys.{IsDistinct-push}
use Rattle.std.proofs.lemmas.Map.Entries.{length-keys_of}
use Rattle.packet_entry.specs.declared.packet.Card.{Card}
use Rattle.nfqa_headers.specs.declared.verdict_header.Head.{Head}
use Rattle.nfqa_msgs.specs.declared.request.Request.{Request}
use Rattle.nfqa_msgs.specs.declared.request.Request.TheVariants as request
use Rattle.queue_core.specs.declared.event.Event.{Event}
use Rattle.queue_core.specs.declared.event.Event.TheVariants as event
use Rattle.queue_core.specs.Numbers.{id_count}
use Rattle.queue_core.specs.Ids.{is_id}
use Rattle.queue_core.specs.State.{Bound}
use Rattle.queue_core.specs.Share.{share}
use Rattle.queue_core.specs.Step.{Stepped, Way, Gone, step, config, ConfigAsk, unchanged, leaving}
use Rattle.queue_core.specs.Step.{batch_edit, next_id, port_closed, device_down, all_gone, taken}
use Rattle.queue_core.specs.Laws.{waiting_in, arriving, leaving_in, times, IsConserving, Tells}
use Rattle.queue_core.specs.Laws.{AllAreGone, IsUntouched, AreApart, HasIds}
use Rattle.queue_core.specs.Walk.{Known, Shapes, walk_by_shape, asks_config, IsOwn}
use Rattle.queue_core.proofs.FreeIds.{fresh_is_free}
use Rattle.queue_core.proofs.WaitingList.{apart_without, apart_dropped}
use Rattle.queue_core.proofs.Shares.{share_first}

-- ---- each packet stays or leaves

-- 1 where the test passes
abbrev once : Bool → ℕ
once b = cond b 1 0

times_on : (test : ℕ → ℕ → Bool) (xs ys : List Card) →
    times test (xs ++ ys) ≡ times test xs + times test ys
times_on test xs ys = sum_by-append _ xs ys

-- the first of some packets, and the others
times_first : (test : ℕ → ℕ → Bool) (c : Card) (cs : List Card) →
    times test (c ∷ cs) ≡ once (test c.number c.visit) + times test cs
times_first test c cs = sum_by-cons _ c cs

gone_cards : (ws : List (ℕ × Card)) →
    map (λ (l : Card × Way). l.0) (map (λ (w : ℕ × Card). (w.1, Gone)) ws)
    ≡ map (λ (w : ℕ × Card). w.1) ws
gone_cards [] = refl
gone_cards (w ∷ ws) = ap (λ cs. w.1 ∷ cs) (gone_cards ws)

kept_gone : (test : ℕ → ℕ → Bool) (q : Bound) →
    times test (map (λ (l : Card × Way). l.0) (all_gone q))
    ≡ times test (map (λ (w : ℕ × Card). w.1) q.waiting)
kept_gone test q = ap (times test) (gone_cards q.waiting)

kept_waits : (q : Bound) (id : ℕ) (card : Card) (test : ℕ → ℕ → Bool) →
    times test (map (λ (w : ℕ × Card). w.1) (q.waiting ++ (id, card) ∷ [])) + 0
    ≡ times test (map (λ (w : ℕ × Card). w.1) q.waiting) + times test (card ∷ [])
kept_waits q id card test =
    let pushed : times test (map (λ (w : ℕ × Card). w.1) (q.waiting ++ (id, card) ∷ [])) ≡ _ =
    ap (times test) (map_push (λ (w : ℕ × Card). w.1) q.waiting (id, card))
    ∙ times_on test (map (λ (w : ℕ × Card). w.1) q.waiting) (card ∷ []) in
    omega (arith, pushed)

-- what is found under an id, and the others, are all
found_and_others : (id : ℕ) (ws : List (ℕ × Card)) (card : Card) (test : ℕ → ℕ → Bool) →
    lookup (is_id id) ws ≡ Some card →
    times test (map (λ (w : ℕ × Card). w.1) (remove_entry (is_id id) ws)) + times test (card ∷ [])
    ≡ times test (map (λ (w : ℕ × Card). w.1) ws)
found_and_others id [] card test h = absurd (cc)
found_and_others id (w ∷ ws) card test h = elim (cases_Bool (is_id id w.0)) [
  | inl e ↦ (let same : w.1 ≡ card = found_here (rw e at h) in
      rw (e, same) (omega (
        arith,
        times_first test card (map (λ (v : ℕ × Card). v.1) ws),
        times_first test card [],
      )))
  | inr e ↦ (let rest = found_and_others id ws card test (rw e at h) in
      rw e (omega (
        arith,
        rest,
        times_first test w.1 (map (λ (v : ℕ × Card). v.1) ws),
        times_first test w.1 (map (λ (v : ℕ × Card). v.1) (remove_entry (is_id id) ws)),
      )))
]
  where
    found_here : Some w.1 ≡ Some card → w.1 ≡ card
    found_here e = cc

-- a packet that leaves by a batch keeps its number
left_alike : (head : Head) (mark priority : Option ℕ) (ws : List (ℕ × Card)) (test : ℕ → ℕ → Bool) →
    times test (map (λ (l : Card × Way). l.0)
    (map (λ (v : ℕ × Card). leaving head (batch_edit mark priority) v.1) ws))
    ≡ times test (map (λ (w : ℕ × Card). w.1) ws)
left_alike head mark priority [] test = refl
left_alike head mark priority (w ∷ ws) test =
    times_first test (leaving head (batch_edit mark priority) w.1).0 (map (λ (l : Card × Way). l.0)
    (map (λ (v : ℕ × Card). leaving head (batch_edit mark priority) v.1) ws))
    ∙ ap (λ k. once (test w.1.number w.1.visit) + k) (left_alike head mark priority ws test)
    ∙ sym (times_first test w.1 (map (λ (v : ℕ × Card). v.1) ws))

mapped_on : (xs ys : List (ℕ × Card)) →
    map (λ (w : ℕ × Card). w.1) (xs ++ ys)
    ≡ map (λ (w : ℕ × Card). w.1) xs ++ map (λ (w : ℕ × Card). w.1) ys
mapped_on [] ys = refl
mapped_on (x ∷ xs) ys = ap (λ cs. x.1 ∷ cs) (mapped_on xs ys)

kept_share : (q : Bound) (head : Head) (mark priority : Option ℕ) (ws : List (ℕ × Card))
    (test : ℕ → ℕ → Bool) → ws ++ drop (length ws) q.waiting ≡ q.waiting →
    times test (map (λ (w : ℕ × Card). w.1) (drop (length ws) q.waiting))
    + times test (map (λ (l : Card × Way). l.0)
    (map (λ (v : ℕ × Card). leaving head (batch_edit mark priority) v.1) ws))
    ≡ times test (map (λ (w : ℕ × Card). w.1) q.waiting)
kept_share q head mark priority ws test all =
    let parts : times test (map (λ (v : ℕ × Card). v.1) q.waiting) ≡ _ =
    ap (λ vs. times test (map (λ (v : ℕ × Card). v.1) vs)) (sym all)
    ∙ ap (times test) (mapped_on ws (drop (length ws) q.waiting))
    ∙ times_on test (map (λ (v : ℕ × Card). v.1) ws)
    (map (λ (v : ℕ × Card). v.1) (drop (length ws) q.waiting)) in
    omega (arith, parts, left_alike head mark priority ws test)

share_and_others : (ws : List (ℕ × Card)) (m : ℕ) → share ws m ++ drop (length (share ws m)) ws ≡ ws
share_and_others ws m =
    ap (λ vs. vs ++ drop (length (share ws m)) ws) (sym (share_first ws m))
    ∙ take-append-drop (length (share ws m)) ws

-- the packets with a number that wait afterwards or leave are those that waited or arrived
abbrev Conserves : Known
Conserves q e s =
    (test : ℕ → ℕ → Bool) → times test (waiting_in s.state) + times test (leaving_in s)
    ≡ times test (waiting_in q) + times test (arriving e)

conserves : Shapes Conserves
conserves = record {
  leaves = λ q card bypass room o stays timely test. refl;
  counts = λ b last dropped user_dropped card bypass room o stays timely test. refl;
  joins = λ b card bypass room early had. kept_waits b (next_id b) card;
  answered = λ q port call asked errno test. refl;
  ends = λ b port call queue a own test. omega (arith, kept_gone test b);
  binds = λ port call queue a settings test. refl;
  sets_up = λ b port call queue a settings own test. refl;
  decides = λ b port call queue head edit card own found test.
      omega (arith, found_and_others head.id b.waiting card test found);
  shares = λ b port call queue head mark priority w ws own is test.
      omega (
        arith,
        kept_share b head mark priority (w ∷ ws) test
            (subst (λ vs. vs ++ drop (length vs) b.waiting ≡ b.waiting) is
            (share_and_others b.waiting head.id)),
      );
  none_closed = λ port test. refl;
  closes = λ b port test. omega (arith, kept_gone test b);
  none_down = λ q device test. refl;
  flushes = λ b device test. omega (arith, kept_gone test b);
}

pub conserving : (q : Option Bound) (e : Event) → IsConserving q e
conserving = walk_by_shape Conserves conserves

-- ---- how many left

as_many_gone : (q : Bound) → length q.waiting ≡ length (all_gone q)
as_many_gone q = sym (length-map q.waiting (λ (w : ℕ × Card). (w.1, Gone)))

abbrev Counts : Known
Counts q e s = Tells e s.reply (length s.left)

counts_each : Shapes Counts
counts_each = record {
  leaves = λ q card bypass room o stays timely. ap (λ n. n + 1) stays;
  counts = λ b last dropped user_dropped card bypass room o stays timely. ap (λ n. n + 1) stays;
  joins = λ b card bypass room early had. refl;
  answered = λ q port call asked errno. refl;
  ends = λ b port call queue a own. as_many_gone b;
  binds = λ port call queue a settings. refl;
  sets_up = λ b port call queue a settings own. refl;
  decides = λ b port call queue head edit card own found. refl;
  shares = λ b port call queue head mark priority w ws own is.
      sym (length-map (w ∷ ws) (λ (v : ℕ × Card). leaving head (batch_edit mark priority) v.1));
  none_closed = λ port. refl;
  closes = λ b port. as_many_gone b;
  none_down = λ q device. refl;
  flushes = λ b device. as_many_gone b;
}

pub counting : (q : Option Bound) (e : Event) →
    Tells e (step q e).reply (length (step q e).left)
counting = walk_by_shape Counts counts_each

-- ---- what no verdict decided

all_are_gone : (q : Bound) → All (λ (l : Card × Way). l.1 ≡ Gone) (all_gone q)
all_are_gone q = All-from_recursion _ (all_gone q) (each q.waiting)
  where
    each : (ws : List (ℕ × Card)) → AllByRecursion (λ (l : Card × Way). l.1 ≡ Gone)
        (map (λ (w : ℕ × Card). (w.1, Gone)) ws)
    each [] = tt
    each (w ∷ ws) = (refl, each ws)

none_leaves : All (λ (l : Card × Way). l.1 ≡ Gone) []
none_leaves = All-nil _

-- what leaves by a config request, a closed port or a device is destroyed
abbrev AskDestroys : Request → Stepped → Type 0
AskDestroys (request.Config queue command params maximum flags mask) s = AllAreGone s
AskDestroys (request.Verdict queue head mark payload priority) s = Unit {0}
AskDestroys (request.Batch queue head mark priority) s = Unit {0}

abbrev Destroys : Known
Destroys q (event.Arrive card bypass room) s = Unit {0}
Destroys q (event.Ask port call asked) s = AskDestroys asked s
Destroys q (event.PortClosed port) s = AllAreGone s
Destroys q (event.DeviceDown device) s = AllAreGone s

answer_destroys : (q : Option Bound) (asked : Request) (errno : ℕ) →
    AskDestroys asked (unchanged q errno)
answer_destroys q (request.Config queue command params maximum flags mask) errno = none_leaves
answer_destroys q (request.Verdict queue head mark payload priority) errno = tt
answer_destroys q (request.Batch queue head mark priority) errno = tt

destroys : Shapes Destroys
destroys = record {
  leaves = λ q card bypass room o stays timely. tt;
  counts = λ b last dropped user_dropped card bypass room o stays timely. tt;
  joins = λ b card bypass room early had. tt;
  answered = λ q port call asked errno. answer_destroys q asked errno;
  ends = λ b port call queue a own. all_are_gone b;
  binds = λ port call queue a settings. none_leaves;
  sets_up = λ b port call queue a settings own. none_leaves;
  decides = λ b port call queue head edit card own found. tt;
  shares = λ b port call queue head mark priority w ws own is. tt;
  none_closed = λ port. none_leaves;
  closes = λ b port. all_are_gone b;
  none_down = λ q device. none_leaves;
  flushes = λ b device. all_are_gone b;
}

pub config_destroys : (q : Option Bound) (port : ℕ) (a : ConfigAsk) → AllAreGone (config q port a)
config_destroys q port a = walk_by_shape Destroys destroys q (asks_config port 0 0 a)

pub port_destroys : (q : Option Bound) → AllAreGone (port_closed q)
port_destroys q = walk_by_shape Destroys destroys q (event.PortClosed 0)

pub device_destroys : (q : Option Bound) (device : ℕ) → AllAreGone (device_down q device)
device_destroys q device = walk_by_shape Destroys destroys q (event.DeviceDown device)

-- ---- another port

-- the queue is bound to another port
abbrev IsOthers : Option Bound → ℕ → Type 0
IsOthers None port = ⊥
IsOthers (Some q) port = port ≢ q.port

abbrev Untouched : Known
Untouched q (event.Ask port call asked) s = IsOthers q port → IsUntouched q s
Untouched q e s = Unit {0}

not_own : (b : Bound) (port : ℕ) → IsOwn b port → port ≢ b.port → ⊥
not_own b port own other =
    let wrong : false ≡ true = sym own ∙ ap not (ne_eqb b.port port (λ e. other (sym e))) in cc

untouched : Shapes Untouched
untouched = record {
  leaves = λ q card bypass room o stays timely. tt;
  counts = λ b last dropped user_dropped card bypass room o stays timely. tt;
  joins = λ b card bypass room early had. tt;
  answered = λ q port call asked errno other. record { state = refl; left = refl };
  ends = λ b port call queue a own other. absurd (not_own b port own other);
  binds = λ port call queue a settings other. absurd other;
  sets_up = λ b port call queue a settings own other.
      absurd (not_own b port own other);
  decides = λ b port call queue head edit card own found other.
      absurd (not_own b port own other);
  shares = λ b port call queue head mark priority w ws own is other.
      absurd (not_own b port own other);
  none_closed = λ port. tt;
  closes = λ b port. tt;
  none_down = λ q device. tt;
  flushes = λ b device. tt;
}

pub another_port : (q : Bound) (port call : ℕ) (asked : Request) → port ≢ q.port →
    IsUntouched (Some q) (step (Some q) (event.Ask port call asked))
another_port q port call asked =
    walk_by_shape Untouched untouched (Some q) (event.Ask port call asked)

-- ---- ids that differ

abbrev Apart : List (ℕ × Card) → Type 0
Apart ws = IsDistinct nat_eq (keys_of ws)

apart_taken : (q : Bound) (card : Card) → q.last < id_count → length q.waiting < id_count →
    Apart q.waiting → Apart (taken q (next_id q) card).waiting
apart_taken q card last few apart =
    rw (map_push (λ (w : ℕ × Card). w.0) q.waiting (next_id q, card))
    (IsDistinct-push nat_eq_equiv (keys_of q.waiting) (next_id q) apart
    (fresh_is_free q.last (keys_of q.waiting) last (omega (arith, length-keys_of q.waiting, few))))

abbrev StayApart : Known
StayApart q e s = HasIds q → AreApart q → AreApart s.state

stays_apart : Shapes StayApart
unfolding IsDistinct
stays_apart = record {
  leaves = λ q card bypass room o stays timely ids apart. apart;
  counts = λ b last dropped user_dropped card bypass room o stays timely ids apart. apart;
  joins = λ b card bypass room early had ids apart. apart_taken b card ids.0 ids.1 apart;
  answered = λ q port call asked errno ids apart. apart;
  ends = λ b port call queue a own ids apart. tt;
  binds = λ port call queue a settings ids apart. tt;
  sets_up = λ b port call queue a settings own ids apart. apart;
  decides = λ b port call queue head edit card own found ids apart.
      apart_without head.id b.waiting apart;
  shares = λ b port call queue head mark priority w ws own is ids apart.
      apart_dropped (length (w ∷ ws)) b.waiting apart;
  none_closed = λ port ids apart. tt;
  closes = λ b port ids apart. tt;
  none_down = λ q device ids apart. apart;
  flushes = λ b device ids apart. tt;
}

pub stay_apart : (q : Option Bound) (e : Event) → HasIds q → AreApart q → AreApart (step q e).state
stay_apart = walk_by_shape StayApart stays_apart
