-- While ports open there are requests alone: nothing waits, and so nothing is handed on.
use Rattle.std.proofs.Common.{◌++◌, ◌+◌, ◌<◌, ◌∙◌, ◌∷◌, ◌≡◌, ◌⊎◌, List, None, Option, [], ap}
use Rattle.std.proofs.Common.{append-nil, append_assoc, arith, false, inl, inr, refl, subst, sym}
use Rattle.std.proofs.Common.{true, ℕ}
use Rattle.std.proofs.Math.Nat.{mod-lt}
use Rattle.std.proofs.lemmas.Bool.{cases_Bool, eq-eqb, eqb-true}
use Rattle.std.proofs.lemmas.List.Sums.{sum_by-cons}
use Rattle.std.specs.Prelude.{◌==◌, map}
use Rattle.packet_entry.specs.declared.packet.Card.{Card}
use Rattle.nfqa_msgs.specs.declared.request.Request.{Request}
use Rattle.hook_chain.specs.declared.chain.Decision.{Decision}
use Rattle.queue_core.specs.Laws.{arriving, times, waiting_in}
use Rattle.queue_core.specs.State.{Bound}
use Rattle.queue_core.specs.Step.{Way, step}
use Rattle.queue_core.specs.declared.event.Event.{Event}
use Rattle.queue_core.specs.declared.event.Event.TheVariants.{Arrive, Ask, DeviceDown, PortClosed}
use Rattle.histories.specs.Happenings.{all_handed, queue_of}
use Rattle.histories.specs.History.{history, replay_from}
use Rattle.histories.specs.States.{state_of}
use Rattle.histories.specs.declared.entry.Entry.{Entry}
use Rattle.run_parts.specs.Entering.{cards}
use Rattle.live_runs.specs.Calls.{Asks, IsHandedOn, asked, found_by, handed_by, place_of}
use Rattle.live_runs.specs.Doing.{IsQuiet}
use Rattle.live_runs.specs.Meetings.{IsAsk, IsAskEvent}
use Rattle.live_runs.specs.Seen.{EachIs, Grows, IsNone, OursAre, Seen, Shares, TheirsAre, all_ours}
use Rattle.live_runs.specs.Seen.{all_theirs, entries}
use Rattle.live_runs.proofs.LowerLaws.{Conserve}
use Rattle.live_runs.proofs.Marks.{each_append, each_history, each_of_both, each_theirs}
use Rattle.live_runs.proofs.Marks.{entries_append, none_is, ours_append, ours_as, theirs_as}
use Rattle.live_runs.proofs.Marks.{theirs_front, theirs_rest, theirs_then}

-- ---- nothing waits

-- how many of these there are
abbrev count : List Card → ℕ
count cards = times (λ number visit. true) cards

count_more : (card : Card) (cards : List Card) → count (card ∷ cards) ≡ 1 + count cards
count_more card cards = sum_by-cons _ card cards

asks_bring_none : (event : Event) → IsAskEvent event → count (arriving event) ≡ 0
asks_bring_none (Arrive card bypass room) wrong = absurd wrong
asks_bring_none (Ask port call request) is = refl
asks_bring_none (PortClosed port) wrong = absurd wrong
asks_bring_none (DeviceDown device) wrong = absurd wrong

module _ (conserve : Conserve) where
  none_waits : (q : Option Bound) (es : List Entry) → EachIs IsAsk es →
      count (waiting_in q) ≡ 0 → count (waiting_in (replay_from q es)) ≡ 0
  none_waits q [] are none = none
  none_waits q (e ∷ es) are none =
      let brings = asks_bring_none e.event are.0 in
      none_waits (step q e.event).state es are.1
      (omega (arith, conserve q e.event (λ number visit. true), brings, none))

  none_left : (left : List (Card × Way)) → count (map (λ l. l.0) left) ≡ 0 → left ≡ []
  none_left [] none = refl
  none_left (l ∷ left) none =
      let more = count_more l.0 (map (λ l. l.0) left) in absurd (omega (arith, none, more))

  -- behind requests alone a request hands nothing on
  pub none_handed : (es : List Entry) (port call : ℕ) (r : Request) → EachIs IsAsk es →
      handed_by port call r es ≡ []
  none_handed es port call r are =
      let q = state_of es (queue_of r) in
      let none = none_waits None (history (queue_of r) es)
      (each_history IsAsk (queue_of r) es are) refl in
      ap all_handed (none_left (step q (Ask port call r)).left
      (omega (arith, conserve q (Ask port call r) (λ number visit. true), none)))

-- ---- the passes of ports that open

pub quiet_same : (places : ℕ) (old new : Shares) → ((k : ℕ) → new k ≡ old k) →
    IsQuiet places old new
quiet_same places old new same = record {
  more = λ k. [];
  is = λ k. same k ∙ sym (append-nil (old k));
  quiet = λ asks nobody k below. tt;
}

-- a pass that goes on with nothing of its own
pub quiet_grows : (places : ℕ) (old mid new : Shares) → IsQuiet places old mid →
    ((k : ℕ) → Grows IsNone (mid k) (new k)) → IsQuiet places old new
quiet_grows places old mid new o g = record {
  more = λ k. o.more k ++ (g k).more;
  is = λ k. (g k).is ∙ ap (λ xs. xs ++ (g k).more) (o.is k)
      ∙ append_assoc (old k) (o.more k) (g k).more;
  quiet = λ asks nobody k below. ours_append IsAsk (o.more k) (g k).more
      (o.quiet asks (λ j in_it. theirs_front IsNone (o.more j) (g j).more (nobody j in_it)) k
      below)
      (ours_as IsNone IsAsk (none_is IsAsk) (g k).more (g k).ours);
}

module _ (conserve : Conserve) (places port call errno : ℕ) (r : Request)
    (old mid new : Shares) (some : 0 < places) (o : IsQuiet places old mid)
    (is : Asks places port call r errno mid new) where
  abbrev here : ℕ
  here = place_of places r

  abbrev es : List Entry
  es = found_by places r mid is.others

  abbrev handed : List (Card × Decision)
  handed = handed_by port call r es

  abbrev mine : List Seen
  mine = all_ours (asked port call r es ∷ [])

  abbrev turned : List Seen
  turned = all_theirs is.others ++ mine

  -- what is new at a place
  at : (k : ℕ) → ((k == here) ≡ true) ⊎ ((k == here) ≡ false) →
      (more : List Seen) × (new k ≡ mid k ++ more)
      × (((k == here) ≡ true) → more ≡ turned ++ is.here.more)
      × (((k == here) ≡ false) → OursAre (IsHandedOn handed) more)
  at k (inl h) = (
    turned ++ is.here.more,
    subst (λ j. new j ≡ mid j ++ (turned ++ is.here.more)) (sym (eqb-true k here h))
        (is.here.is ∙ ap (λ xs. xs ++ is.here.more) (is.turn.is
        ∙ append_assoc (mid here) (all_theirs is.others) mine)
        ∙ append_assoc (mid here) turned is.here.more),
    λ same. refl,
    λ wrong. absurd (no_way wrong),
  )
    where
      no_way : (k == here) ≡ false → ⊥
      no_way wrong = absurd (cc)
  at k (inr h) =
      let g = is.elsewhere k (λ same. no_way (eq-eqb k here same)) in
      (g.more, g.is, λ wrong. absurd (no_way wrong), λ same. g.ours)
    where
      no_way : (k == here) ≡ true → ⊥
      no_way wrong = absurd (cc)

  abbrev new_at : ℕ → List Seen
  new_at k = (at k (cases_Bool (k == here))).0

  pub quiet_asks : IsQuiet places old new
  quiet_asks = record {
    more = λ k. o.more k ++ new_at k;
    is = λ k. (at k (cases_Bool (k == here))).1 ∙ ap (λ xs. xs ++ new_at k) (o.is k)
        ∙ append_assoc (old k) (o.more k) (new_at k);
    quiet = λ asks nobody k below.
        let before : (j : ℕ) → j < places → OursAre IsAsk (o.more j) = o.quiet asks
        (λ j in_it. theirs_front IsNone (o.more j) (new_at j) (nobody j in_it)) in
        let all_asks : (j : ℕ) → j < places → EachIs IsAsk (entries (mid j)) = λ j in_it.
        subst (EachIs IsAsk) (sym (ap entries (o.is j) ∙ entries_append (old j) (o.more j)))
        (each_append IsAsk (entries (old j)) (entries (o.more j)) (asks j in_it)
        (each_of_both IsAsk (o.more j) (before j in_it)
        (theirs_as IsNone IsAsk (none_is IsAsk) (o.more j)
        (theirs_front IsNone (o.more j) (new_at j) (nobody j in_it))))) in
        ours_append IsAsk (o.more k) (new_at k) (before k below)
        (at_k k all_asks
        (λ j in_it. theirs_rest IsNone (o.more j) (new_at j) (nobody j in_it))
        (cases_Bool (k == here)));
  }
    where
      nothing : handed ≡ [] → (e : Entry) → IsHandedOn handed e → IsAsk e
      nothing none e on = absurd (subst (λ hs. IsHandedOn hs e) none on)

      within : here < places
      within = mod-lt (queue_of r) some

      others_ask : ((j : ℕ) → j < places → TheirsAre IsNone (new_at j)) → EachIs IsAsk is.others
      others_ask nobody =
          let h : (here == here) ≡ true = eq-eqb here here refl in
          let so = (at here (cases_Bool (here == here))).2 h in
          each_theirs IsAsk is.others
          (theirs_as IsNone IsAsk (none_is IsAsk) (all_theirs is.others)
          (theirs_front IsNone (all_theirs is.others) mine
          (theirs_front IsNone turned is.here.more
          (subst (TheirsAre IsNone) so (nobody here within)))))

      at_k : (k : ℕ) → ((j : ℕ) → j < places → EachIs IsAsk (entries (mid j))) →
          ((j : ℕ) → j < places → TheirsAre IsNone (new_at j)) →
          ((k == here) ≡ true) ⊎ ((k == here) ≡ false) → OursAre IsAsk (new_at k)
      at_k k asks nobody either =
          let none = none_handed conserve es port call r
          (each_append IsAsk (entries (mid here)) is.others (asks here within) (others_ask nobody))
          in
          by either none
        where
          by : ((k == here) ≡ true) ⊎ ((k == here) ≡ false) → handed ≡ [] →
              OursAre IsAsk (new_at k)
          by (inl h) none = subst (OursAre IsAsk) (sym ((at k (cases_Bool (k == here))).2 h))
              (ours_append IsAsk turned is.here.more
              (theirs_then IsAsk is.others (asked port call r es ∷ []) (tt, tt))
              (ours_as (IsHandedOn handed) IsAsk (nothing none) is.here.more is.here.ours))
          by (inr h) none = ours_as (IsHandedOn handed) IsAsk (nothing none) (new_at k)
              ((at k (cases_Bool (k == here))).3 h)
