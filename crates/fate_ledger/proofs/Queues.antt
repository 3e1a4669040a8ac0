-- Queues that are followed, of which one is at hand.
use Rattle.std.proofs.Common.{◌≡◌, ℕ, [], Some, None, Bool, true, false, cond, refl, sym, ap}
use Rattle.std.proofs.Common.{◌∙◌, subst, Option, inl, inr}
use Rattle.std.specs.Prelude.{◌==◌}
use Rattle.std.specs.BTreeMap.{BTreeMap, get, is_at}
use Rattle.std.specs.Ordering.{nat_cmp}
use Rattle.std.specs.Cmp.{unsigned_ties}
use Rattle.std.proofs.lemmas.Bool.{cases_Bool, eq-eqb, eqb-true, ne_eqb}
use Rattle.histories.specs.declared.entry.Entry.{Entry}
use Rattle.fate_ledger.specs.declared.following.Followed.{Followed}
use Rattle.fate_ledger.specs.declared.followed_queues.FollowedQueues.{FollowedQueues}
use Rattle.fate_ledger.specs.Following.{followed, at_in, waiting_in, IsSameQueue, AreNew, TurnsTo}
use Rattle.fate_ledger.specs.Following.{Follows, place_after, waiting_after, told, told_by}

same_place : (place q : ℕ) → is_at (nat_cmp place) q ≡ (place == q)
same_place place q = sym (unsigned_ties place q)

same_of : (old new : Option Followed) → new ≡ old → IsSameQueue old new
same_of old new is = record { at = ap at_in is; waiting = ap waiting_in is }

at_hand_is : (queues : FollowedQueues) (q : ℕ) → (queues.number == q) ≡ true →
    followed queues q ≡ Some queues.at_hand
at_hand_is queues q own = ap (λ b. cond b (Some queues.at_hand) (get nat_cmp queues.others q)) own

other_is : (queues : FollowedQueues) (q : ℕ) → (queues.number == q) ≡ false →
    followed queues q ≡ get nat_cmp queues.others q
other_is queues q other =
    ap (λ b. cond b (Some queues.at_hand) (get nat_cmp queues.others q)) other

pub new_is : (queues : FollowedQueues) → queues.at_hand.at ≡ 0 → queues.at_hand.waiting ≡ [] →
    ((q : ℕ) → get nat_cmp queues.others q ≡ None) → AreNew queues
new_is queues at waiting none q =
    elim (queues.number == q) as (λ b.
    IsSameQueue None (cond b (Some queues.at_hand) (get nat_cmp queues.others q))) [
      | true ↦ record { at = at; waiting = waiting }
      | false ↦ same_of None (get nat_cmp queues.others q) (none q)
    ]

-- the queue that is at hand stays there
pub stays : (queues : FollowedQueues) (queue : ℕ) → queues.number ≡ queue →
    TurnsTo queues queues queue
stays queues queue is = record {
  number = is;
  same = λ q. same_of (followed queues q) (followed queues q) refl;
}

-- another one is taken out of the others, among which it is put
turned : (old new : FollowedQueues) (left : BTreeMap ℕ Followed) (queue : ℕ) →
    (old.number == queue) ≡ false →
    IsSameQueue (get nat_cmp old.others queue) (Some new.at_hand) →
    ((q : ℕ) → is_at (nat_cmp queue) q ≡ false → get nat_cmp left q ≡ get nat_cmp old.others q) →
    ((q : ℕ) → get nat_cmp new.others q
    ≡ cond (is_at (nat_cmp old.number) q) (Some old.at_hand) (get nat_cmp left q)) →
    new.number ≡ queue → TurnsTo old new queue
turned old new left queue another taken others put number = record {
  number = number;
  same = λ q. elim (cases_Bool (queue == q)) [
    | inl own ↦ this q own
    | inr other ↦ that q other
  ];
}
  where
    numbered : (q : ℕ) → (new.number == q) ≡ (queue == q)
    numbered q = ap (λ n. n == q) number

    this : (q : ℕ) → (queue == q) ≡ true → IsSameQueue (followed old q) (followed new q)
    this q own =
        let same : queue ≡ q = eqb-true queue q own in
        let before : followed old q ≡ get nat_cmp old.others queue =
        other_is old q (subst (λ n. (old.number == n) ≡ false) same another)
        ∙ ap (get nat_cmp old.others) (sym same) in
        let after : followed new q ≡ Some new.at_hand = at_hand_is new q (numbered q ∙ own) in
        record {
          at = ap at_in after ∙ taken.at ∙ sym (ap at_in before);
          waiting = ap waiting_in after ∙ taken.waiting ∙ sym (ap waiting_in before);
        }

    by : (q : ℕ) (b : Bool) → (old.number == q) ≡ b → (queue == q) ≡ false →
        cond b (Some old.at_hand) (get nat_cmp left q)
        ≡ cond b (Some old.at_hand) (get nat_cmp old.others q)
    by q true own other = refl
    by q false own other = others q (same_place queue q ∙ other)

    that : (q : ℕ) → (queue == q) ≡ false → IsSameQueue (followed old q) (followed new q)
    that q other =
        same_of (followed old q) (followed new q)
        (other_is new q (numbered q ∙ other) ∙ put q
        ∙ ap (λ b. cond b (Some old.at_hand) (get nat_cmp left q)) (same_place old.number q)
        ∙ by q (old.number == q) refl other)

pub turned_to : (old new : FollowedQueues) (left : BTreeMap ℕ Followed) (queue : ℕ)
    (last next : Followed) → (old.number ≡ queue → ⊥) → last ≡ old.at_hand →
    new.at_hand ≡ next → IsSameQueue (get nat_cmp old.others queue) (Some next) →
    ((q : ℕ) → is_at (nat_cmp queue) q ≡ false → get nat_cmp left q ≡ get nat_cmp old.others q) →
    ((q : ℕ) → get nat_cmp new.others q
    ≡ cond (is_at (nat_cmp old.number) q) (Some last) (get nat_cmp left q)) →
    new.number ≡ queue → TurnsTo old new queue
turned_to old new left queue last next another last_is next_is taken others put number =
    turned old new left queue (ne_eqb old.number queue another)
    (subst (λ f. IsSameQueue (get nat_cmp old.others queue) (Some f)) (sym next_is) taken) others
    (λ q.
    put q ∙ ap (λ f. cond (is_at (nat_cmp old.number) q) (Some f) (get nat_cmp left q)) last_is)
    number

module _ (old mid : FollowedQueues) (e : Entry) (turns : TurnsTo old mid e.queue) where
  here : (queues : FollowedQueues) → queues.number ≡ mid.number →
      followed queues e.queue ≡ Some queues.at_hand
  here queues is =
      at_hand_is queues e.queue (eq-eqb queues.number e.queue (is ∙ turns.number))

  -- what was known of the queue of the entry
  pub at_is : mid.at_hand.at ≡ at_in (followed old e.queue)
  at_is = sym (ap at_in (here mid refl)) ∙ (turns.same e.queue).at

  pub waiting_is : mid.at_hand.waiting ≡ waiting_in (followed old e.queue)
  waiting_is = sym (ap waiting_in (here mid refl)) ∙ (turns.same e.queue).waiting

  pub told_is : told e.queue (place_after mid.at_hand.at) e.event e.reply mid.at_hand.waiting
      ≡ told_by old e
  told_is =
      ap (λ at. told e.queue (place_after at) e.event e.reply mid.at_hand.waiting) at_is
      ∙ ap (told e.queue (place_after (at_in (followed old e.queue))) e.event e.reply) waiting_is

  pub followed_by : (new : FollowedQueues) → new.number ≡ mid.number → new.others ≡ mid.others →
      new.at_hand.at ≡ place_after mid.at_hand.at →
      new.at_hand.waiting ≡ waiting_after e.event e.reply mid.at_hand.waiting →
      Follows old new e
  followed_by new number others at waiting = record {
    at = ap at_in (here new number) ∙ at ∙ ap place_after at_is;
    waiting = ap waiting_in (here new number) ∙ waiting
        ∙ ap (waiting_after e.event e.reply) waiting_is;
    others = λ q other.
        let unlike : (mid.number == q) ≡ false = ap (λ n. n == q) turns.number ∙ other in
        let is : followed new q ≡ followed mid q =
        other_is new q (ap (λ n. n == q) number ∙ unlike)
        ∙ ap (λ (m : BTreeMap ℕ Followed). get nat_cmp m q) others
        ∙ sym (other_is mid q unlike) in
        record {
          at = ap at_in is ∙ (turns.same q).at;
          waiting = ap waiting_in is ∙ (turns.same q).waiting;
        };
  }
