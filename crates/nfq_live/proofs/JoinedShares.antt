-- The shares of all feeders, joined: what is known of the place then, and which packets were fed.
use Rattle.std.proofs.Common.{◌≡◌, ◌<◌, ◌≤◌, ◌+◌, ◌-◌, ◌%◌, ◌∙◌, ◌++◌, ◌∷◌, ◌⊎◌, [], ℕ, suc, List}
use Rattle.std.proofs.Common.{Bool}
use Rattle.std.proofs.Common.{Option, Some, None, true, false, ap, arith, inl, inr, length, refl}
use Rattle.std.proofs.Common.{subst, sym, zero}
use Rattle.std.specs.Prelude.{◌==◌, ◌||◌, filter, if◌then◌else◌, option_to_list, sum_by}
use Rattle.std.proofs.lemmas.Bool.{cases_Bool, eqb-false, eqb-true, ne_eqb}
use Rattle.std.proofs.lemmas.Nat.{mod_below}
use Rattle.std.proofs.lemmas.List.Sums.{sum_by-append, sum_by-cons}
use Rattle.packet_entry.specs.declared.packet.Card.{Card}
use Rattle.pcap_io.specs.declared.capture.Capture.{Capture}
use Rattle.script_lines.specs.declared.line.Down.{Down}
use Rattle.inspector_script.specs.Scripts.{ScriptValue}
use Rattle.pcap_io.specs.declared.capture.Frame.{Frame}
use Rattle.run_parts.specs.Entering.{card_of, cards, cards_from}
use Rattle.run_parts.specs.Feeder.{downs_after, downs_in_effect}
use Rattle.plane.specs.declared.plane.Plane.{Plane}
use Rattle.plane.specs.Passes.{FeederView}
use Rattle.plane.specs.Planes.{places_of}
use Rattle.live_runs.specs.Owners.{IsFedByAll, IsFeeders, IsFeeding}
use Rattle.live_runs.specs.Seen.{Grows, Seen, Shares, all_theirs, entries}
use Rattle.shared_feeding.specs.Joining.{AreJoined, IsJoinedOf}
use Rattle.shared_feeding.specs.Lines.{share_downs}
use Rattle.shared_feeding.specs.Sights.{IsSharing, front_time}
use Rattle.feeder_set.specs.declared.share.Share.{Share}
use Rattle.live_work.specs.declared.feeding.Feeding.{Feeding}
use Rattle.live_work.specs.Feeding.{shares_in}
use Rattle.live_work.specs.Sharing.{SharePasses, is_of_share, share_cards}
use Rattle.live_work.proofs.FeederCalls.{card_is}
use Rattle.nfq_live.specs.Feeders.{AllFeed, AllJoin, AreTheSame, HaveAllFed, IsHelper, fed_by}
use Rattle.nfq_live.specs.Feeders.{share_of}
use Rattle.place_rows.specs.Lists.{Every}

-- ---- the laws

abbrev pub OneLaw : Type 0
OneLaw = (feeders time : ℕ) (fallen : ℕ → List Down) (front xs : List Seen) →
    IsSharing feeders 0 time (fallen 0) front xs → AreJoined feeders 1 fallen front xs

abbrev pub MoreLaw : Type 0
MoreLaw = (feeders count time : ℕ) (fallen : ℕ → List Down) (front xs ys zs : List Seen) →
    AreJoined feeders count fallen front xs →
    IsSharing feeders count time (fallen count) (all_theirs (entries front)) ys →
    IsJoinedOf xs ys zs → AreJoined feeders (count + 1) fallen front zs

abbrev pub AllLaw : Type 0
AllLaw = (feeders frames : ℕ) (script : ScriptValue) (fallen : ℕ → List Down)
    (front xs : List Seen) → IsFeeding front_time (downs_after script 0) front →
    AreJoined feeders feeders fallen front xs →
    ((feeder : ℕ) → feeder < feeders →
    fallen feeder ≡ share_downs script feeders feeder frames) →
    IsFedByAll feeders (downs_in_effect script frames) xs

abbrev pub AppendLaw : Type 0
AppendLaw = (front xs ys zs : List Seen) → Grows IsFeeders front xs →
    Grows IsFeeders (all_theirs (entries front)) ys → IsJoinedOf xs ys zs →
    Grows IsFeeders front zs

pub record JoinLaws : Type 0 where
  pub one : OneLaw
  pub more : MoreLaw
  pub all : AllLaw
  pub append : AppendLaw

-- ---- what each fed

-- a feeder with a number went through its share, behind what all had seen
pub record HasShared (script : ScriptValue) (capture : Capture) (places feeders number : ℕ)
    (front : Shares) (h : Feeding) : Type 0 where
  pub passes : SharePasses script places (share_of feeders number) (length capture.frames) front
      (shares_in h.pass)
  pub fed : h.pass.fed ≡ share_cards (share_of feeders number) capture

abbrev pub AllShared : ScriptValue → Capture → ℕ → ℕ → ℕ → Shares → List Feeding → Type 0
AllShared script capture places feeders number front [] = Unit {0}
AllShared script capture places feeders number front (h ∷ hs) =
    HasShared script capture places feeders number front h
    × AllShared script capture places feeders (number + 1) front hs

-- what the others have seen before
abbrev pub theirs_of : Shares → Shares
theirs_of front k = all_theirs (entries (front k))

passes_from : (script : ScriptValue) (places : ℕ) (s : Share) (frames : ℕ) (a b now : Shares) →
    ((k : ℕ) → a k ≡ b k) → SharePasses script places s frames a now →
    SharePasses script places s frames b now
passes_from script places s frames a b now same p = record {
  time = p.time;
  sharing = λ k here. subst (λ (xs : List Seen). IsSharing s.feeders s.number p.time
      (share_downs script s.feeders s.number frames) xs (now k)) (same k) (p.sharing k here);
  grows = λ k. subst (λ (xs : List Seen). Grows IsFeeders xs (now k)) (same k) (p.grows k);
}

-- none of them failed
abbrev pub EachWell : List Feeding → Type 0
EachWell [] = Unit {0}
EachWell (h ∷ hs) = (h.failed ≡ false) × EachWell hs

pub all_shared : (script : ScriptValue) (capture : Capture) (plane : Plane) (feeders number : ℕ)
    (front : Shares) (olds news : List Feeding) → Every (IsHelper plane front) olds →
    AllFeed script capture plane feeders number olds news →
    EachWell news → AllShared script capture (places_of plane) feeders number (theirs_of front) news
all_shared script capture plane feeders number front [] [] helpers all well = tt
all_shared script capture plane feeders number front [] (n ∷ news) helpers all well = absurd all
all_shared script capture plane feeders number front (o ∷ olds) [] helpers all well = absurd all
all_shared script capture plane feeders number front (o ∷ olds) (n ∷ news) helpers all well = (
  record {
    passes = passes_from script (places_of plane) (share_of feeders number)
        (length capture.frames) (shares_in o.pass) (theirs_of front) (shares_in n.pass)
        helpers.0.seen (all.0.on well.0);
    fed = all.0.fed well.0;
  },
  all_shared script capture plane feeders (number + 1) front olds news helpers.1 all.1 well.1,
)

-- ---- what is known of a place

abbrev lines_of : ScriptValue → Capture → ℕ → ℕ → List Down
lines_of script capture feeders feeder =
    share_downs script feeders feeder (length capture.frames)

module _ (laws : JoinLaws) (script : ScriptValue) (capture : Capture) (places feeders : ℕ)
    (front : Shares) where
  joined_on : (k count : ℕ) → k < places → (hs : List Feeding) (first all : Shares) →
      AreJoined feeders count (lines_of script capture feeders) (front k) (first k) →
      AllShared script capture places feeders count (theirs_of front) hs →
      AllJoin first hs all →
      AreJoined feeders (count + length hs) (lines_of script capture feeders) (front k) (all k)
  joined_on k count here [] first all are shared join =
      let none : count + 0 ≡ count = omega arith in
      subst (λ (n : ℕ). AreJoined feeders n (lines_of script capture feeders) (front k) (all k))
      (sym none)
      (subst (λ (xs : List Seen). AreJoined feeders count (lines_of script capture feeders)
      (front k) xs) (sym (join k)) are)
  joined_on k count here (h ∷ hs) first all are shared join =
      let more : (count + 1) + length hs ≡ count + length (h ∷ hs) = omega arith in
      let mid = join.0 in
      subst (λ (n : ℕ). AreJoined feeders n (lines_of script capture feeders) (front k) (all k))
      more
      (joined_on k (count + 1) here hs mid all
      (laws.more feeders count shared.0.passes.time (lines_of script capture feeders) (front k)
      (first k) (shares_in h.pass k) (mid k) are (shared.0.passes.sharing k here) (join.1.0 k))
      shared.1 join.1.1)

  grown_on : (k number : ℕ) (hs : List Feeding) (first all : Shares) →
      Grows IsFeeders (front k) (first k) →
      AllShared script capture places feeders number (theirs_of front) hs →
      AllJoin first hs all → Grows IsFeeders (front k) (all k)
  grown_on k number [] first all grows shared join =
      subst (λ (xs : List Seen). Grows IsFeeders (front k) xs) (sym (join k)) grows
  grown_on k number (h ∷ hs) first all grows shared join =
      grown_on k (number + 1) hs join.0 all
      (laws.append (front k) (first k) (shares_in h.pass k) (join.0 k) grows
      (shared.0.passes.grows k) (join.1.0 k)) shared.1 join.1.1

-- ---- which packets were fed

-- none has the number 0, which is before all frames
abbrev pub AreCounted : List Card → Type 0
AreCounted [] = Unit {0}
AreCounted (c ∷ cs) = (1 ≤ c.number) × AreCounted cs

counted_with : (o : Option Card) (cs : List Card) →
    ((card : Card) → o ≡ Some card → 1 ≤ card.number) → AreCounted cs →
    AreCounted (option_to_list o ++ cs)
counted_with None cs one rest = rest
counted_with (Some card) cs one rest = (one card refl, rest)

counted_from : (capture : Capture) (number : ℕ) (fs : List Frame) → 1 ≤ number →
    AreCounted (cards_from capture number fs)
counted_from capture number [] least = tt
counted_from capture number (f ∷ fs) least =
    counted_with (card_of capture number f) (cards_from capture (number + 1) fs)
    (λ card is. omega (arith, least, (card_is capture number f card (sym is)).1))
    (counted_from capture (number + 1) fs (omega (arith, least)))

module _ (f : Card → ℕ) where
  abbrev picked : (Card → Bool) → Card → ℕ
  picked p c = if p c then f c else 0

  filter_sum : (p : Card → Bool) (cs : List Card) →
      sum_by f (filter p cs) ≡ sum_by (picked p) cs
  filter_sum p [] = refl
  filter_sum p (c ∷ cs) = by (p c) refl (filter_sum p cs)
    where
      by : (b : Bool) → p c ≡ b → sum_by f (filter p cs) ≡ sum_by (picked p) cs →
          sum_by f (filter p (c ∷ cs)) ≡ sum_by (picked p) (c ∷ cs)
      by true is rest =
          let here : picked p c ≡ f c = rw is refl in
          ap (sum_by f) (ap (λ (b : Bool). if b then c ∷ filter p cs else filter p cs) is)
          ∙ sum_by-cons f c (filter p cs) ∙ ap (λ (n : ℕ). f c + n) rest
          ∙ ap (λ (n : ℕ). n + sum_by (picked p) cs) (sym here) ∙ sym (sum_by-cons (picked p) c cs)
      by false is rest =
          let none : sum_by (picked p) cs ≡ 0 + sum_by (picked p) cs = omega arith in
          let here : picked p c ≡ 0 = rw is refl in
          ap (sum_by f) (ap (λ (b : Bool). if b then c ∷ filter p cs else filter p cs) is)
          ∙ rest ∙ none
          ∙ ap (λ (n : ℕ). n + sum_by (picked p) cs) (sym here) ∙ sym (sum_by-cons (picked p) c cs)

  -- what the shares before a number have of a packet
  taken : ℕ → ℕ → Card → ℕ
  taken feeders zero c = 0
  taken feeders (suc n) c = taken feeders n c + picked (is_of_share (share_of feeders n)) c

  share_is : (feeders n : ℕ) (c : Card) → 1 ≤ c.number →
      is_of_share (share_of feeders n) c ≡ ((c.number - 1) % feeders == n)
  share_is feeders n c least =
      ap (λ (b : Bool). b || ((c.number - 1) % feeders == n))
      (ne_eqb c.number 0 (λ same. absurd (omega (arith, same, least))))

  abbrev IsTaken : ℕ → ℕ → Card → ℕ → Type 0
  IsTaken feeders n c r = (r < n → taken feeders n c ≡ f c) × (n ≤ r → taken feeders n c ≡ 0)

  taken_next : (feeders n : ℕ) (c : Card) (r : ℕ) → r ≡ (c.number - 1) % feeders →
      1 ≤ c.number → ((r == n) ≡ true) ⊎ ((r == n) ≡ false) → IsTaken feeders n c r →
      IsTaken feeders (suc n) c r
  unfolding taken
  taken_next feeders n c r is least (inl h) so =
      let same = eqb-true r n h in
      let here : picked (is_of_share (share_of feeders n)) c ≡ f c =
      ap (λ (b : Bool). if b then f c else 0)
      (share_is feeders n c least ∙ ap (λ (k : ℕ). k == n) (sym is) ∙ h) in (
        λ less. omega (arith, here, so.1 (omega (arith, same))),
        λ most. absurd (omega (arith, most, same)),
      )
  taken_next feeders n c r is least (inr h) so =
      let apart = eqb-false r n h in
      let here : picked (is_of_share (share_of feeders n)) c ≡ 0 =
      ap (λ (b : Bool). if b then f c else 0)
      (share_is feeders n c least ∙ ap (λ (k : ℕ). k == n) (sym is) ∙ h) in (
        λ less. omega (arith, here, so.0 (omega (arith, less, apart))),
        λ most. omega (arith, here, so.1 (omega (arith, most))),
      )

  taken_so : (feeders n : ℕ) (c : Card) → 1 ≤ c.number →
      IsTaken feeders n c ((c.number - 1) % feeders)
  unfolding taken
  taken_so feeders zero c least = (λ less. absurd (omega (arith, less)), λ most. refl)
  taken_so feeders (suc n) c least =
      taken_next feeders n c ((c.number - 1) % feeders) refl least
      (cases_Bool ((c.number - 1) % feeders == n)) (taken_so feeders n c least)

  -- what the shares before a number have of all packets
  sum_before : ℕ → ℕ → List Card → ℕ
  sum_before feeders zero cs = 0
  sum_before feeders (suc n) cs =
      sum_before feeders n cs + sum_by f (filter (is_of_share (share_of feeders n)) cs)

  sums_add : (g h : Card → ℕ) (cs : List Card) →
      sum_by g cs + sum_by h cs ≡ sum_by (λ c. g c + h c) cs
  sums_add g h [] = refl
  sums_add g h (c ∷ cs) =
      omega (
        arith,
        sum_by-cons g c cs,
        sum_by-cons h c cs,
        sum_by-cons (λ (d : Card). g d + h d) c cs,
        sums_add g h cs,
      )

  no_sum : (cs : List Card) → 0 ≡ sum_by (λ (c : Card). 0) cs
  no_sum [] = refl
  no_sum (c ∷ cs) = omega (arith, sum_by-cons (λ (d : Card). 0) c cs, no_sum cs)

  before_is : (feeders n : ℕ) (cs : List Card) →
      sum_before feeders n cs ≡ sum_by (taken feeders n) cs
  unfolding taken sum_before
  before_is feeders zero cs = no_sum cs
  before_is feeders (suc n) cs =
      ap (λ (k : ℕ). k + sum_by f (filter (is_of_share (share_of feeders n)) cs))
      (before_is feeders n cs)
      ∙ ap (λ (k : ℕ). sum_by (taken feeders n) cs + k)
      (filter_sum (is_of_share (share_of feeders n)) cs)
      ∙ sums_add (taken feeders n) (picked (is_of_share (share_of feeders n))) cs

  all_taken : (feeders : ℕ) (cs : List Card) → 0 < feeders → AreCounted cs →
      sum_by (taken feeders feeders) cs ≡ sum_by f cs
  all_taken feeders [] some counted = refl
  all_taken feeders (c ∷ cs) some counted =
      omega (
        arith,
        sum_by-cons (taken feeders feeders) c cs,
        sum_by-cons f c cs,
        (taken_so feeders feeders c counted.0).0 (mod_below (c.number - 1) feeders some),
        all_taken feeders cs some counted.1,
      )

  helpers_fed : (script : ScriptValue) (capture : Capture) (places feeders number : ℕ)
      (front : Shares) (hs : List Feeding) →
      AllShared script capture places feeders number front hs →
      sum_before feeders number (cards capture) + sum_by f (fed_by hs)
      ≡ sum_before feeders (number + length hs) (cards capture)
  unfolding sum_before
  helpers_fed script capture places feeders number front [] shared =
      let none : number + 0 ≡ number = omega arith in
      let same = ap (λ (n : ℕ). sum_before feeders n (cards capture)) none in omega (arith, same)
  helpers_fed script capture places feeders number front (h ∷ hs) shared =
      let more : number + length (h ∷ hs) ≡ suc number + length hs = omega arith in
      let next : number + 1 ≡ suc number = omega arith in
      let same = ap (λ (n : ℕ). sum_before feeders n (cards capture)) more in
      let rest = helpers_fed script capture places feeders (suc number) front hs
      (subst (λ (n : ℕ). AllShared script capture places feeders n front hs) next shared.1) in
      let mine = ap (sum_by f) shared.0.fed in
      omega (arith, sum_by-append f h.pass.fed (fed_by hs), same, rest, mine)

-- all packets were fed by all
pub all_cards : (script : ScriptValue) (capture : Capture) (places feeders : ℕ) (front : Shares)
    (first new : List Card) (hs : List Feeding) → 0 < feeders → 1 + length hs ≡ feeders →
    first ≡ share_cards (share_of feeders 0) capture → new ≡ first ++ fed_by hs →
    AllShared script capture places feeders 1 front hs → AreTheSame new (cards capture)
unfolding sum_before
all_cards script capture places feeders front first new hs some count is all shared f =
    let cs = cards capture in
    let one : sum_before f feeders 1 cs ≡ 0 + sum_by f first =
    ap (λ (l : List Card). 0 + sum_by f l) (sym is) in
    let many = ap (λ (n : ℕ). sum_before f feeders n cs) count in
    omega (
      arith,
      ap (sum_by f) all,
      sum_by-append f first (fed_by hs),
      helpers_fed f script capture places feeders 1 front hs shared,
      one,
      many,
      before_is f feeders feeders cs,
      all_taken f feeders cs some (counted_from capture 1 capture.frames (omega arith)),
    )

-- ---- all of it

pub have_all_fed : JoinLaws → (script : ScriptValue) (capture : Capture) (plane : Plane)
    (feeders : ℕ) (old split worked new : FeederView) (olds news : List Feeding) → 0 < feeders →
    length olds + 1 ≡ feeders → length news ≡ length olds →
    ((k : ℕ) → shares_in split k ≡ shares_in old k) →
    SharePasses script (places_of plane) (share_of feeders 0) (length capture.frames)
    (shares_in split) (shares_in worked) →
    worked.fed ≡ share_cards (share_of feeders 0) capture →
    Every (IsHelper plane (shares_in old)) olds →
    AllFeed script capture plane feeders 1 olds news → EachWell news →
    AllJoin (shares_in worked) news (shares_in new) → new.fed ≡ worked.fed ++ fed_by news →
    HaveAllFed feeders script capture (places_of plane) old new
have_all_fed laws script capture plane feeders old split worked new olds news some many same seen
    passed fed helpers all well join joined_fed =
    let places = places_of plane in
    let frames = length capture.frames in
    let front = shares_in old in
    let lines = lines_of script capture feeders in
    let count : 1 + length news ≡ feeders = omega (arith, many, same) in
    let shared = all_shared script capture plane feeders 1 front olds news helpers all well in
    let first = passes_from script places (share_of feeders 0) frames (shares_in split) front
    (shares_in worked) seen passed in
    record {
      on = λ before k here.
          laws.all feeders frames script lines (front k) (shares_in new k) (before k here)
          (subst (λ (n : ℕ). AreJoined feeders n lines (front k) (shares_in new k)) count
          (joined_on laws script capture places feeders front k 1 here news (shares_in worked)
          (shares_in new)
          (laws.one feeders first.time lines (front k) (shares_in worked k) (first.sharing k here))
          shared join))
          (λ feeder less. refl);
      grows = λ k. grown_on laws script capture places feeders front k 1 news (shares_in worked)
          (shares_in new) (first.grows k) shared join;
      cards = all_cards script capture places feeders (theirs_of front) worked.fed new.fed news
          some count fed joined_fed shared;
    }
