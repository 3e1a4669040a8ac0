-- What a feeder's calls do behind what passes that were joined into it fed and lost before.
use Rattle.std.proofs.Common.{◌≡◌, ◌<◌, ◌≤◌, ◌+◌, ℕ, zero, suc, List, [], ◌∷◌, ◌++◌, length}
use Rattle.std.proofs.Common.{sym, ap, ◌∙◌, arith, append_assoc, Option, Some, None, inl, inr}
use Rattle.std.specs.Prelude.{Result, Ok, Err, IfOk, OnOk, OnErr, min}
use Rattle.std.proofs.lemmas.List.{length-append}
use Rattle.packet_entry.specs.ListWithRoom.{ListWithRoom}
use Rattle.packet_entry.specs.declared.packet.Card.{Card}
use Rattle.hook_chain.specs.declared.chain.Next.{Next}
use Rattle.hook_chain.specs.declared.chain.Next.TheVariants.{Released, To}
use Rattle.hook_chain.specs.Route.{next}
use Rattle.queue_core.specs.Step.{Way}
use Rattle.histories.specs.declared.entry.Entry.{Entry}
use Rattle.histories.specs.declared.histories.Lost.{Lost}
use Rattle.histories.specs.Happenings.{arrive}
use Rattle.histories.specs.Journeys.{visit_of}
use Rattle.histories.specs.States.{step_of}
use Rattle.packet_moves.specs.declared.fed.Fed.{Fed}
use Rattle.packet_moves.specs.declared.fed.Refused.{Refused}
use Rattle.packet_moves.specs.declared.setting.Setting.{Setting}
use Rattle.packet_moves.specs.Moving.{arrival_to, route_after}
use Rattle.place_turns.specs.Trails.{Trail, StepsAt, MayLook}
use Rattle.place_turns.specs.Moving.{Goes, Settles, Carries, IsFed}
use Rattle.plane.specs.Feeders.{count_of}
use Rattle.plane.specs.Numbers.{most_fed}
use Rattle.plane.specs.declared.past.Past.{Past}
use Rattle.plane.specs.Past.{after_lost, fed_by, lost_by}

module _ (front : List Lost) where
  -- whatever is lost, is lost behind these
  abbrev IsFramed : Goes → Type 0
  IsFramed on = (t u : Trail) (card : Card) (route : Option Next) (f : Fed) →
      on t card route u f → on (after_lost front t) card route (after_lost front u) f

  steps_after : (place : ℕ) (t u : Trail) (found then_ : List Entry) →
      StepsAt place t u found then_ →
      StepsAt place (after_lost front t) (after_lost front u) found then_
  steps_after place t u found then_ is =
      record { turn = is.turn; same = ap (λ (l : List Lost). front ++ l) is.same }

  settles_after : (on : Goes) → IsFramed on → (s : Setting) (t u : Trail) (f : Fed)
      (left : List (Card × Way)) → Settles on s t left u f →
      Settles on s (after_lost front t) left (after_lost front u) f
  settles_after on framed s t u f [] is = (ap (λ (x : Trail). after_lost front x) is.0, is.1)
  settles_after on framed s t u f (l ∷ ls) is = framed t u l.0 (route_after s l) f is

  carries_after : (memory places : ℕ) (s : Setting) → IsFramed (Carries memory places s)
  carries_after memory places s t u card None f is =
      (ap (λ (x : Trail). after_lost front x) is.0, is.1)
  carries_after memory places s t u card (Some Released) f is =
      (ap (λ (x : Trail). after_lost front x) is.0, is.1)
  carries_after zero places s t u card (Some (To queue bypass table)) f is = record {
    found = is.found;
    between = after_lost front is.between;
    looked = steps_after _ t is.between is.found is.found is.looked;
    lost = ap (λ (x : Trail). after_lost front x) is.lost
        ∙ ap (λ (l : List Lost). record { known = is.between.known; lost = l })
        (sym (append_assoc front is.between.lost
        (visit_of (arrival_to queue bypass table card) ∷ [])));
    is = is.is;
  }
  carries_after (suc memory) places s t u card (Some (To queue bypass table)) f is = record {
    found = is.found;
    room = is.room;
    between = after_lost front is.between;
    turn = steps_after _ t is.between is.found _ is.turn;
    settles = settles_after (Carries memory places s) (carries_after memory places s) s
        is.between u f
        (step_of is.found (arrival_to queue bypass table card).queue
        (arrive (arrival_to queue bypass table card) is.room)).left is.settles;
  }

  -- ---- feeding

  pub fed_after : (places : ℕ) (s : Setting) (old new : Trail) (card : Card)
      (r : Result Fed Refused) → IfOk r (IsFed places s old card new) →
      IfOk r (IsFed places s (after_lost front old) card (after_lost front new))
  fed_after places s old new card (Ok f) fed = record {
    memory = fed.memory;
    moved = carries_after (suc fed.memory) places s old new card
        (Some (next s.tables s.key card 1)) f fed.moved;
  }
  fed_after places s old new card (Err e) fed = tt

  pub looks_after : {A B : Type 0} (old new : Trail) (r : Result A B) →
      OnErr r (MayLook old new) → OnErr r (MayLook (after_lost front old) (after_lost front new))
  looks_after old new (Ok x) looked = tt
  looks_after old new (Err e) (inl same) = inl (ap (λ (x : Trail). after_lost front x) same)
  looks_after old new (Err e) (inr look) =
      inr (ap (λ (l : List Lost). front ++ l) look.0, look.1)

-- ---- the packets that were fed

module _ (front was fed : List Card) (card : Card) (r : Result Fed Refused) where
  pub more_fed : OnOk r (fed ≡ was ++ card ∷ []) →
      OnOk r (front ++ fed ≡ (front ++ was) ++ card ∷ [])
  more_fed = inner r
    where
      inner : (q : Result Fed Refused) → OnOk q (fed ≡ was ++ card ∷ []) →
          OnOk q (front ++ fed ≡ (front ++ was) ++ card ∷ [])
      inner (Ok f) is =
          ap (λ (l : List Card). front ++ l) is ∙ sym (append_assoc front was (card ∷ []))
      inner (Err e) is = tt

  pub none_fed : OnErr r (fed ≡ was) → OnErr r (front ++ fed ≡ front ++ was)
  none_fed = inner r
    where
      inner : (q : Result Fed Refused) → OnErr q (fed ≡ was) → OnErr q (front ++ fed ≡ front ++ was)
      inner (Ok f) is = tt
      inner (Err e) is = ap (λ (l : List Card). front ++ l) is

  pub few_fed : length (front ++ was) < most_fed → OnOk r (fed ≡ was ++ card ∷ []) →
      OnErr r (fed ≡ was) → length fed ≤ most_fed
  few_fed few = inner r
    where
      inner : (q : Result Fed Refused) → OnOk q (fed ≡ was ++ card ∷ []) → OnErr q (fed ≡ was) →
          length fed ≤ most_fed
      inner (Ok f) is none = omega (
        arith,
        few,
        length-append front was,
        ap length is,
        length-append was (card ∷ []),
      )
      inner (Err e) is none = omega (arith, few, length-append front was, ap length none)

-- how many were fed in all
pub counted_on : (before own : List Card) (count n : ℕ) → count ≡ count_of before →
    n ≡ length own → min (count + n) most_fed ≡ count_of (before ++ own)
counted_on before own count n is many = omega (arith, is, many, length-append before own)

-- and by two
pub counted_both : (front own back : List Card) (one n two : ℕ) → one ≡ count_of front →
    n ≡ length own → two ≡ count_of back →
    min (one + n + two) most_fed ≡ count_of (front ++ (own ++ back))
counted_both front own back one n two is many also =
    omega (arith, is, many, also, length-append front (own ++ back), length-append own back)

-- three lists and a fourth, put together by twos
by_twos : {X : Type 0} (front own back more : List X) →
    (front ++ (own ++ back)) ++ more ≡ (front ++ own) ++ (back ++ more)
by_twos front own back more =
    append_assoc front (own ++ back) more
    ∙ ap (λ (l : List _). front ++ l) (append_assoc own back more)
    ∙ sym (append_assoc front own (back ++ more))

put_so : {X : Type 0} (front own back more past rest : List X) →
    past ≡ front ++ (own ++ back) → rest ≡ more → past ++ rest ≡ (front ++ own) ++ (back ++ more)
put_so front own back more past rest is also =
    ap (λ (l : List _). l ++ rest) is
    ∙ ap (λ (l : List _). (front ++ (own ++ back)) ++ l) also
    ∙ by_twos front own back more

-- what a pass fed and lost, behind which another's lists were put
pub both_put : (front back past : Past) (own fed then_ : ListWithRoom Card)
    (lost was gone left : List Lost) → fed_by past ≡ fed_by front ++ (own.items ++ fed_by back) →
    lost_by past ≡ lost_by front ++ (lost ++ lost_by back) → then_ ≡ fed →
    (left ≡ gone) × (lost ≡ was) →
    (fed_by past ++ then_.items ≡ (fed_by front ++ own.items) ++ (fed_by back ++ fed.items))
    × (lost_by past ++ left ≡ (lost_by front ++ was) ++ (lost_by back ++ gone))
both_put front back past own fed then_ lost was gone left all_fed all_lost same rest = (
  put_so (fed_by front) own.items (fed_by back) fed.items (fed_by past) then_.items all_fed
      (ap (λ (s : ListWithRoom Card). s.items) same),
  put_so (lost_by front) lost (lost_by back) gone (lost_by past) left all_lost rest.0
      ∙ ap (λ (l : List Lost). (lost_by front ++ l) ++ (lost_by back ++ gone)) rest.1,
)
