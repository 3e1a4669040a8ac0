-- The feeders' passes have together the parts of the locks that the first one's had alone, while
-- they are split, while they feed, and while they are joined.
use Rattle.std.proofs.Common.{◌≡◌, ◌<◌, ◌+◌, ◌∙◌, ◌++◌, ◌∷◌, [], ℕ, zero, suc, List, ap}
use Rattle.std.proofs.Common.{append_assoc, arith, false, length, map, refl, subst, sym, true}
use Rattle.std.specs.Prelude.{◌&&◌, ◌||◌, All, Bool, not, slice_get, slice_index_or}
use Rattle.std.proofs.lemmas.List.{map-append}
use Rattle.std.proofs.lemmas.List.Elements.{All-head, All-tail}
use Rattle.turn_lock.specs.Parts.{Tree, is_normal, union}
use Rattle.turn_lock.specs.Views.{kept_view, split_view}
use Rattle.place_rows.specs.Joining.{RowJoined, part_in, together_at}
use Rattle.place_rows.specs.Lists.{Every}
use Rattle.place_rows.specs.Rows.{Known}
use Rattle.place_turns.specs.Trails.{parts_of}
use Rattle.pcap_io.specs.declared.capture.Capture.{Capture}
use Rattle.inspector_script.specs.Scripts.{ScriptValue}
use Rattle.packet_entry.specs.declared.packet.Card.{Card}
use Rattle.plane.specs.declared.plane.Plane.{Plane}
use Rattle.plane.specs.Feeders.{IsJoined, IsSplitOff}
use Rattle.plane.specs.Passes.{FeederView, IsFeederOf}
use Rattle.live_runs.specs.Seen.{Seen, Shares, all_theirs, entries}
use Rattle.live_passes.specs.Numbered.{StaysFeeder}
use Rattle.live_passes.specs.Views.{HaveSeenOwn, shares_of}
use Rattle.shared_feeding.specs.Joining.{IsJoinedOf}
use Rattle.live_work.specs.declared.feeding.Feeding.{Feeding}
use Rattle.live_work.specs.Feeding.{HasFed, IsFeedingOf, shares_in}
use Rattle.live_work.proofs.UnchangedPass.{feeder_owns}
use Rattle.live_work.proofs.FallenDevices.{feeder_long}
use Rattle.nfq_live.specs.Feeders.{AllFeed, AllJoin, HaveItsParts, IsFresh, IsHelper, fed_by}
use Rattle.nfq_live.specs.Feeders.{rows_of, share_of}
use Rattle.nfq_live.proofs.JoinedShares.{EachWell}
use Rattle.nfq_live.proofs.WorkerSeats.{all_well}
use Rattle.nfq_live.proofs.WholeLocks.{UnionLaws, feeder_normal, part_at, same_part, turned_round}

-- ---- the laws

abbrev pub KeptLaw : Type 0
KeptLaw = (known : List Known) (k : ℕ) → shares_of (map kept_view known) k ≡ shares_of known k

abbrev pub SplitLaw : Type 0
SplitLaw = (known : List Known) (k : ℕ) →
    shares_of (map split_view known) k ≡ all_theirs (entries (shares_of known k))

abbrev pub JoinedLaw : Type 0
JoinedLaw = (intos froms afters : List Known) → HaveSeenOwn intos → HaveSeenOwn froms →
    RowJoined 0 intos froms afters → (k : ℕ) →
    IsJoinedOf (shares_of intos k) (shares_of froms k) (shares_of afters k)

-- ---- rows in another order

abbrev IsNormalRow : ℕ → List Known → Type 0
IsNormalRow k known = is_normal (part_at k known) ≡ true

module _ (laws : UnionLaws) (k : ℕ) where
  -- a row may stand behind others
  behind : (t : Tree) (front : List (List Known)) (x : List Known) (rest : List (List Known)) →
      is_normal t ≡ true → Every (IsNormalRow k) front → IsNormalRow k x →
      together_at k t (front ++ x ∷ rest) ≡ together_at k t (x ∷ (front ++ rest))
  behind t [] x rest normal all is = refl
  behind t (p ∷ front) x rest normal all is =
      behind (union t (part_at k p)) front x rest
      (laws.normal t (part_at k p) normal all.0) all.1 is
      ∙ ap (λ (u : Tree). together_at k u (front ++ rest))
      (turned_round laws k t (part_at k p) (part_at k x) normal all.0 is)

-- ---- split

normal_rows : (plane : Plane) (k : ℕ) (front : Shares) (helpers : List Feeding) →
    Every (IsHelper plane front) helpers → Every (IsNormalRow k) (rows_of helpers)
normal_rows plane k front [] are = tt
normal_rows plane k front (h ∷ helpers) are =
    (feeder_normal plane k h.pass are.0.fresh.of, normal_rows plane k front helpers are.1)

-- none was split off yet
pub none_split : (pass : FeederView) → HaveItsParts pass [] pass
none_split pass k rows = refl

-- one more was
pub split_one : UnionLaws → (plane : Plane) (front : Shares) (alone old new : FeederView)
    (made : Feeding) (helpers : List Feeding) → IsFeederOf plane new →
    IsFeederOf plane made.pass → IsSplitOff old new made.pass →
    Every (IsHelper plane front) helpers → HaveItsParts old helpers alone →
    HaveItsParts new (helpers ++ made ∷ []) alone
split_one laws plane front alone old new made helpers of made_of split are parts k rows =
    let x = made.pass.trail.known in
    let t = part_at k new.trail.known in
    ap (λ (l : List (List Known)). together_at k t (l ++ rows))
    (map-append (λ (h : Feeding). h.pass.trail.known) helpers (made ∷ []))
    ∙ ap (λ (l : List (List Known)). together_at k t l)
    (append_assoc (rows_of helpers) (x ∷ []) rows)
    ∙ behind laws k t (rows_of helpers) x rows (feeder_normal plane k new of)
    (normal_rows plane k front helpers are) (feeder_normal plane k made.pass made_of)
    ∙ split.parts k (rows_of helpers ++ rows)
    ∙ parts k rows

-- what it has seen and fed
pub helper_made : SplitLaw → (plane : Plane) (front : Shares) (old new : FeederView)
    (made : Feeding) → ((k : ℕ) → shares_in old k ≡ front k) → IsFeedingOf plane made →
    IsFeederOf plane made.pass → IsSplitOff old new made.pass → IsHelper plane front made
helper_made law plane front old new made same looks of split = record {
  fresh = record {
    of = of;
    looks = looks;
    none = ap (λ (p : FeederView). p.fed) split.made_so;
  };
  seen = λ k. ap (λ (p : FeederView). shares_in p k) split.made_so
      ∙ law old.trail.known k
      ∙ ap (λ (xs : List Seen). all_theirs (entries xs)) (same k);
}

pub still_seen : KeptLaw → (old new : FeederView) (made : Feeding) →
    IsSplitOff old new made.pass → (k : ℕ) → shares_in new k ≡ shares_in old k
still_seen law old new made split k =
    ap (λ (p : FeederView). shares_in p k) split.kept ∙ law old.trail.known k

pub still_fed : (old new : FeederView) (made : Feeding) → IsSplitOff old new made.pass →
    new.fed ≡ old.fed
still_fed old new made split = ap (λ (p : FeederView). p.fed) split.kept

pub one_more_helper : (plane : Plane) (front : Shares) (helpers : List Feeding) (h : Feeding) →
    Every (IsHelper plane front) helpers → IsHelper plane front h →
    Every (IsHelper plane front) (helpers ++ h ∷ [])
one_more_helper plane front [] h are is = (is, tt)
one_more_helper plane front (o ∷ helpers) h are is =
    (are.0, one_more_helper plane front helpers h are.1 is)

-- ---- while they feed

pub all_fresh : (plane : Plane) (front : Shares) (helpers : List Feeding) →
    Every (IsHelper plane front) helpers → All (λ (h : Feeding). IsFresh plane h) helpers
all_fresh plane front [] are i d less = absurd (omega (arith, less))
all_fresh plane front (h ∷ helpers) are zero d less = are.0.fresh
all_fresh plane front (h ∷ helpers) are (suc i) d less =
    let more : suc i < suc (length helpers) = less in
    all_fresh plane front helpers are.1 i d (omega (arith, more))

pub helpers_of : (plane : Plane) (front : Shares) (helpers : List Feeding) →
    Every (IsHelper plane front) helpers →
    Every (λ (h : Feeding). IsFeederOf plane h.pass) helpers
helpers_of plane front [] are = tt
helpers_of plane front (h ∷ helpers) are =
    (are.0.fresh.of, helpers_of plane front helpers are.1)

module _ (script : ScriptValue) (capture : Capture) (plane : Plane) (feeders : ℕ) where
  -- what holds at each index, which counts from 0
  pub all_feed : (number : ℕ) (olds news : List Feeding) → length news ≡ length olds →
      ((i : ℕ) (d : Feeding) → i < length olds →
      HasFed script capture plane (share_of feeders (i + number)) (slice_index_or olds i d)
      (slice_index_or news i d)) → AllFeed script capture plane feeders number olds news
  all_feed number [] [] same each = tt
  all_feed number [] (n ∷ news) same each = absurd (omega (arith, same))
  all_feed number (o ∷ olds) [] same each = absurd (omega (arith, same))
  all_feed number (o ∷ olds) (n ∷ news) same each =
      let none : 0 + number ≡ number = omega arith in (
        subst (λ (k : ℕ). HasFed script capture plane (share_of feeders k) o n) none
            (each 0 o (omega arith)),
        all_feed (number + 1) olds news (omega (arith, same)) (λ i d less.
            let next : suc i + number ≡ i + (number + 1) = omega arith in
            subst (λ (k : ℕ). HasFed script capture plane (share_of feeders k)
            (slice_index_or olds i d) (slice_index_or news i d)) next
            (each (suc i) d (omega (arith, less)))),
      )

  pub fed_of : (number : ℕ) (olds news : List Feeding) →
      AllFeed script capture plane feeders number olds news →
      Every (λ (h : Feeding). IsFeederOf plane h.pass) news
  fed_of number [] [] all = tt
  fed_of number [] (n ∷ news) all = absurd all
  fed_of number (o ∷ olds) [] all = absurd all
  fed_of number (o ∷ olds) (n ∷ news) all =
      (all.0.stays.of, fed_of (number + 1) olds news all.1)

  pub as_many_fed : (number : ℕ) (olds news : List Feeding) →
      AllFeed script capture plane feeders number olds news → length news ≡ length olds
  as_many_fed number [] [] all = refl
  as_many_fed number [] (n ∷ news) all = absurd all
  as_many_fed number (o ∷ olds) [] all = absurd all
  as_many_fed number (o ∷ olds) (n ∷ news) all =
      ap suc (as_many_fed (number + 1) olds news all.1)

  rows_fed : (k number : ℕ) (t : Tree) (olds news : List Feeding) (rows : List (List Known)) →
      AllFeed script capture plane feeders number olds news →
      together_at k t (rows_of news ++ rows) ≡ together_at k t (rows_of olds ++ rows)
  rows_fed k number t [] [] rows all = refl
  rows_fed k number t [] (n ∷ news) rows all = absurd all
  rows_fed k number t (o ∷ olds) [] rows all = absurd all
  rows_fed k number t (o ∷ olds) (n ∷ news) rows all =
      rows_fed k (number + 1) (union t (part_at k n.pass.trail.known)) olds news rows all.1
      ∙ ap (λ (u : Tree). together_at k (union t u) (rows_of olds ++ rows))
      (same_part o.pass.trail.known n.pass.trail.known k all.0.stays.parts)

  -- they have the same parts
  pub parts_fed : (old new alone : FeederView) (olds news : List Feeding) →
      StaysFeeder plane old new → AllFeed script capture plane feeders 1 olds news →
      HaveItsParts old olds alone → HaveItsParts new news alone
  parts_fed old new alone olds news stays all parts k rows =
      ap (λ (u : Tree). together_at k u (rows_of news ++ rows))
      (same_part old.trail.known new.trail.known k stays.parts)
      ∙ rows_fed k 1 (part_at k old.trail.known) olds news rows all
      ∙ parts k rows

-- ---- joined

-- one pass was joined, and then the others
pub join_parts : (into after all : FeederView) (h : Feeding) (hs : List Feeding) →
    IsJoined into h.pass after → HaveItsParts after hs all → HaveItsParts into (h ∷ hs) all
join_parts into after all h hs joined rest k rows =
    joined.parts k (rows_of hs ++ rows) ∙ rest k rows

pub join_on : JoinedLaw → (plane : Plane) (into after : FeederView) (h : Feeding)
    (hs : List Feeding) (all : Shares) → IsFeederOf plane into → IsFeederOf plane h.pass →
    IsJoined into h.pass after → AllJoin (shares_in after) hs all →
    AllJoin (shares_in into) (h ∷ hs) all
join_on law plane into after h hs all of other joined rest = (
  shares_in after,
  (
    λ k. law into.trail.known h.pass.trail.known after.trail.known (feeder_owns plane into of)
        (feeder_owns plane h.pass other) joined.rows k,
    rest,
  ),
)

pub join_fed : (into after : FeederView) (h : Feeding) (hs : List Feeding) (all : List Card) →
    IsJoined into h.pass after → all ≡ after.fed ++ fed_by hs →
    all ≡ into.fed ++ fed_by (h ∷ hs)
join_fed into after h hs all joined rest =
    rest ∙ ap (λ (l : List Card). l ++ fed_by hs) joined.fed
    ∙ append_assoc into.fed h.pass.fed (fed_by hs)

-- ---- again alone

same_parts : (xs ys : List Known) → length xs ≡ length ys →
    ((k : ℕ) → part_in (slice_get xs k) ≡ part_in (slice_get ys k)) → parts_of xs ≡ parts_of ys
same_parts [] [] same each = refl
same_parts [] (y ∷ ys) same each = absurd (omega (arith, same))
same_parts (x ∷ xs) [] same each = absurd (omega (arith, same))
same_parts (x ∷ xs) (y ∷ ys) same each =
    ap (λ (t : Tree). t ∷ parts_of xs) (each 0)
    ∙ ap (λ (ts : List Tree). y.part ∷ ts)
    (same_parts xs ys (omega (arith, same)) (λ k. each (suc k)))

-- who had its parts has them again
pub has_again : (plane : Plane) (old mid new : FeederView) (helpers : List Feeding) →
    IsFeederOf plane old → IsFeederOf plane new → HaveItsParts mid helpers old →
    HaveItsParts mid helpers new → StaysFeeder plane old new
has_again plane old mid new helpers was is before after = record {
  of = is;
  parts = same_parts new.trail.known old.trail.known
      (feeder_long plane new is ∙ sym (feeder_long plane old was))
      (λ k. sym (after k []) ∙ before k []);
}

-- ---- whether all went well

pub each_well : (hs : List Feeding) → All (λ (h : Feeding). h.failed ≡ false) hs → EachWell hs
each_well [] all = tt
each_well (h ∷ hs) all = (
  All-head (λ (g : Feeding). g.failed ≡ false) h hs all,
  each_well hs (All-tail (λ (g : Feeding). g.failed ≡ false) h hs all),
)

-- nothing failed
pub neither : (a b : Bool) → (a || not b) ≡ false → (a ≡ false) × (b ≡ true)
neither true b is = let wrong : true ≡ false = is in absurd (cc wrong)
neither false true is = (refl, refl)
neither false false is = let wrong : true ≡ false = is in absurd (cc wrong)

-- ---- joined one after the other

-- The feeders' passes before these were joined into the first one's, which was this at first:
-- what the rest makes with it, all of them make with the first. Whether none of them failed.
pub record IsJoining (plane : Plane) (begun : FeederView) (helpers : List Feeding)
    (into : FeederView) (rest : List Feeding) (well : Bool) : Type 0 where
  pub of : IsFeederOf plane into
  pub others : Every (λ (h : Feeding). IsFeederOf plane h.pass) rest
  pub parts : (all : FeederView) → HaveItsParts into rest all → HaveItsParts begun helpers all
  pub fed : (all : List Card) → all ≡ into.fed ++ fed_by rest → all ≡ begun.fed ++ fed_by helpers
  pub joined : (all : Shares) → AllJoin (shares_in into) rest all →
      AllJoin (shares_in begun) helpers all
  pub none_failed : well ≡ true → All (λ (h : Feeding). h.failed ≡ false) rest →
      All (λ (h : Feeding). h.failed ≡ false) helpers

pub joining_first : (plane : Plane) (begun : FeederView) (helpers : List Feeding) →
    IsFeederOf plane begun → Every (λ (h : Feeding). IsFeederOf plane h.pass) helpers →
    IsJoining plane begun helpers begun helpers true
joining_first plane begun helpers of others = record {
  of = of;
  others = others;
  parts = λ all parts. parts;
  fed = λ all fed. fed;
  joined = λ all joined. joined;
  none_failed = λ yes_ all. all;
}

pub joining_next : JoinedLaw → (plane : Plane) (begun : FeederView)
    (helpers was rest : List Feeding) (into after : FeederView) (h : Feeding) (well : Bool) →
    was ≡ h ∷ rest →
    IsFeederOf plane after → IsJoined into h.pass after →
    IsJoining plane begun helpers into was well →
    IsJoining plane begun helpers after rest (well && not h.failed)
joining_next law plane begun helpers was rest into after h well steps of joins j =
    let here : IsJoining plane begun helpers into (h ∷ rest) well =
    subst (λ (l : List Feeding). IsJoining plane begun helpers into l well) steps j in
    record {
      of = of;
      others = here.others.1;
      parts = λ all parts. here.parts all (join_parts into after all h rest joins parts);
      fed = λ all fed. here.fed all (join_fed into after h rest all joins fed);
      joined = λ all join. here.joined all
          (join_on law plane into after h rest all here.of here.others.0 joins join);
      none_failed = all_well (λ (g : Feeding). g.failed) well (h ∷ rest) rest helpers h refl
          here.none_failed;
    }

pub nothing_left : {X : Type 0} (xs : List X) → length xs ≡ 0 → xs ≡ []
nothing_left [] none = refl
nothing_left (x ∷ xs) none = absurd (omega (arith, none))
