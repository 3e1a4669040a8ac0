-- The packets of a share, frame by frame.
use Rattle.std.proofs.Common.{◌≡◌, ◌≤◌, ◌<◌, ◌+◌, ◌-◌, ◌∙◌, ◌++◌, ◌∷◌, [], ℕ, zero, suc, List}
use Rattle.std.proofs.Common.{Option}
use Rattle.std.proofs.Common.{Some, None, true, false, ap, append_assoc, append-nil, arith}
use Rattle.std.proofs.Common.{drop, length, refl, subst, sym}
use Rattle.std.specs.Prelude.{filter, option_to_list, slice_get}
use Rattle.std.proofs.lemmas.List.{length-append}
use Rattle.std.proofs.lemmas.List.Elements.{filter-append}
use Rattle.packet_entry.specs.declared.packet.Card.{Card}
use Rattle.pcap_io.specs.declared.capture.Capture.{Capture}
use Rattle.pcap_io.specs.declared.capture.Frame.{Frame}
use Rattle.script_lines.specs.declared.line.Down.{Down}
use Rattle.inspector_script.specs.Scripts.{ScriptValue}
use Rattle.run_parts.specs.Entering.{card_of, cards_from}
use Rattle.run_parts.specs.Feeder.{downs_after, is_share}
use Rattle.plane.specs.declared.plane.Plane.{Plane}
use Rattle.plane.specs.Passes.{FeederView}
use Rattle.feeder_set.specs.declared.share.Share.{Share}
use Rattle.feeder_set.specs.Shares.{FeederState, IsNextOf}
use Rattle.feeder_set.specs.Steps.{AllFall, Feeds, PassesNext}
use Rattle.live_work.specs.Sharing.{is_of_share, share_cards}
use Rattle.live_work.proofs.FeederCalls.{card_is}

-- ---- the laws of shares

abbrev pub OwnLaw : Type 0
OwnLaw = (s : Share) (next : ℕ) → IsNextOf s next → is_share s.feeders s.number next ≡ true

abbrev pub BeforeLaw : Type 0
BeforeLaw = (s : Share) (n : ℕ) → s.number < s.feeders → 1 ≤ n → n ≤ s.number →
    is_share s.feeders s.number n ≡ false

abbrev pub BetweenLaw : Type 0
BetweenLaw = (s : Share) (next n : ℕ) → IsNextOf s next → next < n → n < next + s.feeders →
    is_share s.feeders s.number n ≡ false

-- ---- lists

drop_both : {X : Type 0} (n m : ℕ) (xs : List X) → drop m (drop n xs) ≡ drop (n + m) xs
drop_both zero m xs = let none : zero + m ≡ m = omega arith in
    ap (λ k. drop k xs) (sym none)
drop_both (suc n) zero [] = let all : suc n + 0 ≡ suc n = omega arith in
    ap (λ k. drop k []) (sym all)
drop_both (suc n) (suc m) [] = let all : suc n + suc m ≡ suc (n + suc m) = omega arith in
    ap (λ k. drop k []) (sym all)
drop_both (suc n) m (x ∷ xs) = let all : suc n + m ≡ suc (n + m) = omega arith in
    drop_both n m xs ∙ ap (λ k. drop k (x ∷ xs)) (sym all)

drop_at : {X : Type 0} (xs : List X) (i : ℕ) (x : X) → slice_get xs i ≡ Some x →
    drop i xs ≡ x ∷ drop (i + 1) xs
drop_at [] i x is = absurd (cc)
drop_at (y ∷ xs) zero x is = let same : y ≡ x = cc in ap (λ z. z ∷ xs) same
drop_at (y ∷ xs) (suc i) x is = let more : suc i + 1 ≡ suc (i + 1) = omega arith in
    drop_at xs i x is ∙ ap (λ k. x ∷ drop k (y ∷ xs)) (sym more)

-- ---- packets

-- that of a frame of the share, and of another frame
own_card : (s : Share) (c : Capture) (number : ℕ) (f : Frame) (o : Option Card) →
    o ≡ card_of c number f → is_share s.feeders s.number number ≡ true →
    filter (is_of_share s) (option_to_list o) ≡ option_to_list o
own_card s c number f None is own = refl
own_card s c number f (Some card) is own =
    let named = (card_is c number f card is).1 in
    let mine : is_of_share s card ≡ true =
    ap (λ (n : ℕ). is_share s.feeders s.number n) named ∙ own in
    rw mine refl

no_card : (s : Share) (c : Capture) (number : ℕ) (f : Frame) (o : Option Card) →
    o ≡ card_of c number f → is_share s.feeders s.number number ≡ false →
    filter (is_of_share s) (option_to_list o) ≡ []
no_card s c number f None is other = refl
no_card s c number f (Some card) is other =
    let named = (card_is c number f card is).1 in
    let theirs : is_of_share s card ≡ false =
    ap (λ (n : ℕ). is_share s.feeders s.number n) named ∙ other in
    rw theirs refl

-- frames of other shares are passed over
passed_over : (s : Share) (c : Capture) (number count : ℕ) (fs : List Frame) →
    ((n : ℕ) → number ≤ n → n < number + count → is_share s.feeders s.number n ≡ false) →
    filter (is_of_share s) (cards_from c number fs)
    ≡ filter (is_of_share s) (cards_from c (number + count) (drop count fs))
passed_over s c number zero fs others =
    let none : number + 0 ≡ number = omega arith in
    ap (λ (n : ℕ). filter (is_of_share s) (cards_from c n fs)) (sym none)
passed_over s c number (suc count) [] others = refl
passed_over s c number (suc count) (f ∷ fs) others =
    let more : number + 1 + count ≡ number + suc count = omega arith in
    filter-append (is_of_share s) (option_to_list (card_of c number f))
    (cards_from c (number + 1) fs)
    ∙ ap (λ (l : List Card). l ++ filter (is_of_share s) (cards_from c (number + 1) fs))
    (no_card s c number f (card_of c number f) refl (others number (omega arith) (omega arith)))
    ∙ passed_over s c (number + 1) count fs
    (λ n least most. others n (omega (arith, least)) (omega (arith, most)))
    ∙ ap (λ (n : ℕ). filter (is_of_share s) (cards_from c n (drop count fs))) more

-- those that are left from this frame on
abbrev pub left_cards : Share → Capture → ℕ → List Card
left_cards s c next = filter (is_of_share s) (cards_from c next (drop (next - 1) c.frames))

pub left_first : BeforeLaw → (s : Share) (c : Capture) → s.number < s.feeders →
    left_cards s c (s.number + 1) ≡ share_cards s c
left_first law s c below =
    let up : 1 + s.number ≡ s.number + 1 = omega arith in
    let down : s.number + 1 - 1 ≡ s.number = omega arith in
    sym (passed_over s c 1 s.number c.frames
    (λ n least most. law s n below least (omega (arith, most)))
    ∙ ap (λ (n : ℕ). filter (is_of_share s) (cards_from c n (drop s.number c.frames))) up
    ∙ ap (λ (n : ℕ). filter (is_of_share s) (cards_from c (s.number + 1) (drop n c.frames)))
    (sym down))

-- where the next frame is one of the share
left_next : OwnLaw → BetweenLaw → (s : Share) (c : Capture) (next : ℕ) (f : Frame) →
    IsNextOf s next → slice_get c.frames (next - 1) ≡ Some f →
    left_cards s c next ≡ option_to_list (card_of c next f) ++ left_cards s c (next + s.feeders)
left_next own between s c next f is there =
    let P = is_of_share s in
    let fs = c.frames in
    let count = s.feeders - 1 in
    let here : next - 1 + 1 ≡ next = omega (arith, is.counted) in
    let far : next + 1 + count ≡ next + s.feeders = omega (arith, is.some) in
    let rest : next + count ≡ next + s.feeders - 1 = omega (arith, is.some) in
    ap (λ (l : List Frame). filter P (cards_from c next l))
    (drop_at fs (next - 1) f there ∙ ap (λ (n : ℕ). f ∷ drop n fs) here)
    ∙ filter-append P (option_to_list (card_of c next f)) (cards_from c (next + 1) (drop next fs))
    ∙ ap (λ (l : List Card). l ++ filter P (cards_from c (next + 1) (drop next fs)))
    (own_card s c next f (card_of c next f) refl (own s next is))
    ∙ ap (λ (l : List Card). option_to_list (card_of c next f) ++ l)
    (passed_over s c (next + 1) count (drop next fs)
    (λ n least most. between s next n is (omega (arith, least)) (omega (arith, most, far)))
    ∙ ap (λ (l : List Frame). filter P (cards_from c (next + 1 + count) l))
    (drop_both next count fs ∙ ap (λ (n : ℕ). drop n fs) rest)
    ∙ ap (λ (n : ℕ). filter P (cards_from c n (drop (next + s.feeders - 1) fs))) far)

-- ---- what a step feeds

fed_by_one : (plane : Plane) (o : Option Card) (old new : FeederView) → Feeds plane o old new →
    new.fed ≡ old.fed ++ option_to_list o
fed_by_one plane None old new is = ap (λ (p : FeederView). p.fed) is ∙ sym (append-nil old.fed)
fed_by_one plane (Some card) old new is = is.fed

fed_by_none : (plane : Plane) (ds : List Down) (old new : FeederView) →
    AllFall plane ds old new → new.fed ≡ old.fed
fed_by_none plane [] old new is = ap (λ (p : FeederView). p.fed) is
fed_by_none plane (d ∷ ds) old new is = fed_by_none plane ds is.0 new is.1.1 ∙ is.1.0.fed

fed_by_step : (plane : Plane) (script : ScriptValue) (c : Capture) (was now : FeederState)
    (old new : FeederView) (p : PassesNext plane script c was now old new) →
    new.fed ≡ old.fed ++ option_to_list (card_of c was.next p.frame)
fed_by_step plane script c was now old new p =
    fed_by_none plane (downs_after script was.next) p.between new p.fell
    ∙ fed_by_one plane (card_of c was.next p.frame) old p.between p.fed

-- what was fed and what is left are all of the share
pub fed_next : OwnLaw → BetweenLaw → (plane : Plane) (script : ScriptValue) (c : Capture)
    (s : Share) (was now : FeederState) (old new : FeederView) → was.share ≡ s →
    IsNextOf was.share was.next → PassesNext plane script c was now old new →
    old.fed ++ left_cards s c was.next ≡ share_cards s c →
    new.fed ++ left_cards s c now.next ≡ share_cards s c
fed_next own between plane script c s was now old new share is p so_far =
    let further : now.next ≡ was.next + s.feeders =
    ap (λ (f : FeederState). f.next) p.on
    ∙ ap (λ (t : Share). was.next + t.feeders) share in
    let here : IsNextOf s was.next = subst (λ (t : Share). IsNextOf t was.next) share is in
    let card = option_to_list (card_of c was.next p.frame) in
    ap (λ (n : ℕ). new.fed ++ left_cards s c n) further
    ∙ ap (λ (l : List Card). l ++ left_cards s c (was.next + s.feeders))
    (fed_by_step plane script c was now old new p)
    ∙ append_assoc old.fed card (left_cards s c (was.next + s.feeders))
    ∙ ap (λ (l : List Card). old.fed ++ l)
    (sym (left_next own between s c was.next p.frame here p.there))
    ∙ so_far

option_length : {X : Type 0} (o : Option X) → length (option_to_list o) ≤ 1
option_length None = omega arith
option_length (Some x) = omega arith

pub few_more : (plane : Plane) (script : ScriptValue) (c : Capture) (was now : FeederState)
    (old new : FeederView) (count : ℕ) → PassesNext plane script c was now old new →
    length old.fed ≤ count → length new.fed ≤ count + 1
few_more plane script c was now old new count p few =
    let card = option_to_list (card_of c was.next p.frame) in
    let all : length new.fed ≡ length (old.fed ++ card) =
    ap (λ (l : List Card). length l) (fed_by_step plane script c was now old new p) in
    omega (
      arith,
      all,
      length-append old.fed card,
      option_length (card_of c was.next p.frame),
      few,
    )

-- no frame is left
pub fed_all : (s : Share) (c : Capture) (next : ℕ) (fed : List Card) →
    length c.frames < next → fed ++ left_cards s c next ≡ share_cards s c →
    fed ≡ share_cards s c
fed_all s c next fed past so_far =
    sym (append-nil fed)
    ∙ ap (λ (l : List Frame). fed ++ filter (is_of_share s) (cards_from c next l))
    (sym (none (next - 1) c.frames (omega (arith, past))))
    ∙ so_far
  where
    none : (n : ℕ) (fs : List Frame) → length fs ≤ n → drop n fs ≡ []
    none zero [] few = refl
    none zero (f ∷ fs) few = absurd (omega (arith, few))
    none (suc n) [] few = refl
    none (suc n) (f ∷ fs) few =
        let more : suc (length fs) ≤ suc n = few in none n fs (omega (arith, more))

-- ---- the state of a feeder

-- the frame that comes next is further on, and one that is there is within the capture
pub next_within : (plane : Plane) (script : ScriptValue) (c : Capture) (was now : FeederState)
    (s : Share) (old new : FeederView) → was.share ≡ s →
    PassesNext plane script c was now old new → IsNextOf was.share was.next →
    (now.share ≡ s) × (was.next ≤ length c.frames) × (now.next ≡ was.next + s.feeders)
next_within plane script c was now s old new share p is = (
  ap (λ (f : FeederState). f.share) p.on ∙ share,
  within (length c.frames) (there c.frames (was.next - 1) p.frame p.there),
  ap (λ (f : FeederState). f.next) p.on ∙ ap (λ (t : Share). was.next + t.feeders) share,
)
  where
    there : (fs : List Frame) (i : ℕ) (f : Frame) → slice_get fs i ≡ Some f → i < length fs
    there [] i f at = absurd (cc)
    there (g ∷ fs) zero f at = omega arith
    there (g ∷ fs) (suc i) f at = omega (arith, there fs i f at)

    within : (n : ℕ) → was.next - 1 < n → was.next ≤ n
    within n less = omega (arith, less, is.counted)
