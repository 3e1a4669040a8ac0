-- Passes that meet: the feeder's hears the ports' one after the other, and then tells them.
use Rattle.std.proofs.Common.{◌≡◌, ◌<◌, ◌+◌, ℕ, zero, suc, List, [], ◌∷◌, ◌++◌, length, refl}
use Rattle.std.proofs.Common.{sym, ap}
use Rattle.std.proofs.Common.{◌∙◌, subst, arith, append-nil}
use Rattle.std.specs.Prelude.{map, slice_get, slice_set, option_map, Some}
use Rattle.std.specs.List.{AllZip}
use Rattle.std.proofs.lemmas.List.{map-set, length-map, length-append}
use Rattle.std.proofs.lemmas.Option.{slice_get-map, slice_get_within}
use Rattle.atomic_table.specs.Seated.{TableId}
use Rattle.place_rows.specs.Lists.{Every}
use Rattle.histories.specs.declared.histories.Lost.{Lost}
use Rattle.place_rows.specs.Meeting.{AreNormal, TellsFirst, TellsRow, HasGathered, HasSpread}
use Rattle.place_rows.specs.Meeting.{HaveMet}
use Rattle.place_rows.specs.Rows.{Known, id_of}
use Rattle.place_rows.specs.Shares.{IsBalanced}
use Rattle.plane.specs.declared.meeting.Direction.{Direction}
use Rattle.plane.specs.declared.meeting.Direction.TheVariants.{ToFeeder, ToPorts}
use Rattle.plane.specs.declared.plane.Plane.{Plane}
use Rattle.plane.specs.Meetings.{KeepsAll, FeederKeepsAll, Meets, with_known}
use Rattle.plane.specs.Opening.{known_in}
use Rattle.plane.specs.Passes.{FeederView, PortView, IsFeederOf, IsPortOf}
use Rattle.plane.specs.Planes.{places_of, setting_of}
use Rattle.plane.specs.Tellings.{HaveTold, TellEach, Told}
use Rattle.place_turns.specs.Passes.{AreOf}
use Rattle.place_turns.specs.Trails.{Trail}
use Rattle.plane.proofs.RowSplits.{some_same}

-- ---- an item in the middle of a list

module _ {X : Type 0} where
  get_middle : (front xs back : List X) (i : ℕ) (x : X) → slice_get xs i ≡ Some x →
      slice_get (front ++ (xs ++ back)) (length front + i) ≡ Some x
  get_middle [] xs back i x at =
      let on : 0 + i ≡ i = omega arith in
      ap (slice_get (xs ++ back)) on ∙ in_front xs i at
    where
      in_front : (ys : List X) (j : ℕ) → slice_get ys j ≡ Some x →
          slice_get (ys ++ back) j ≡ Some x
      in_front [] j is = absurd (cc is)
      in_front (y ∷ ys) zero is = is
      in_front (y ∷ ys) (suc j) is = in_front ys j is
  get_middle (f ∷ front) xs back i x at =
      let on : length (f ∷ front) + i ≡ suc (length front + i) = omega arith in
      ap (slice_get (f ∷ (front ++ (xs ++ back)))) on ∙ get_middle front xs back i x at

  set_middle : (front xs back : List X) (i : ℕ) (x : X) → i < length xs →
      slice_set (front ++ (xs ++ back)) (length front + i) x
      ≡ front ++ (slice_set xs i x ++ back)
  set_middle [] xs back i x few =
      let on : 0 + i ≡ i = omega arith in
      ap (λ n. slice_set (xs ++ back) n x) on ∙ in_front xs i few
    where
      in_front : (ys : List X) (j : ℕ) → j < length ys →
          slice_set (ys ++ back) j x ≡ slice_set ys j x ++ back
      in_front [] j less = absurd (omega (arith, less))
      in_front (y ∷ ys) zero less = refl
      in_front (y ∷ ys) (suc j) less =
          ap (λ (l : List X). y ∷ l) (in_front ys j (omega (arith, less)))
  set_middle (f ∷ front) xs back i x few =
      let on : length (f ∷ front) + i ≡ suc (length front + i) = omega arith in
      ap (λ n. slice_set (f ∷ (front ++ (xs ++ back))) n x) on
      ∙ ap (λ (l : List X). f ∷ l) (set_middle front xs back i x few)

  pub every_set : (P : X → Type 0) (xs : List X) (i : ℕ) (x : X) → Every P xs → P x →
      Every P (slice_set xs i x)
  every_set P [] i x all new = tt
  every_set P (y ∷ xs) zero x all new = (new, all.1)
  every_set P (y ∷ xs) (suc i) x all new = (all.0, every_set P xs i x all.1 new)

  zip_set : (R : X → X → Type 0) (xs ys : List X) (i : ℕ) (y z : X) → AllZip R xs ys →
      slice_get ys i ≡ Some y → ((x : X) → R x y → R x z) → AllZip R xs (slice_set ys i z)
  zip_set R [] [] i y z zip at goes = absurd (cc at)
  zip_set R [] (w ∷ ys) i y z zip at goes = absurd zip
  zip_set R (x ∷ xs) [] i y z zip at goes = absurd zip
  zip_set R (x ∷ xs) (w ∷ ys) zero y z zip at goes =
      (goes x (subst (R x) (some_same w y at) zip.0), zip.1)
  zip_set R (x ∷ xs) (w ∷ ys) (suc i) y z zip at goes =
      (zip.0, zip_set R xs ys i y z zip.1 at goes)

  zip_self : (R : X → X → Type 0) (xs : List X) → ((x : X) → R x x) → AllZip R xs xs
  zip_self R [] each = tt
  zip_self R (x ∷ xs) each = (each x, zip_self R xs each)

  zip_long : (R : X → X → Type 0) (xs ys : List X) → AllZip R xs ys → length ys ≡ length xs
  zip_long R [] [] zip = refl
  zip_long R [] (y ∷ ys) zip = absurd zip
  zip_long R (x ∷ xs) [] zip = absurd zip
  zip_long R (x ∷ xs) (y ∷ ys) zip = omega (arith, zip_long R xs ys zip.1)

  zip_trans : (R : X → X → Type 0) → ((x y z : X) → R x y → R y z → R x z) →
      (xs ys zs : List X) → AllZip R xs ys → AllZip R ys zs → AllZip R xs zs
  zip_trans R trans [] [] [] one two = tt
  zip_trans R trans [] [] (z ∷ zs) one two = absurd two
  zip_trans R trans [] (y ∷ ys) zs one two = absurd one
  zip_trans R trans (x ∷ xs) [] zs one two = absurd one
  zip_trans R trans (x ∷ xs) (y ∷ ys) [] one two = absurd two
  zip_trans R trans (x ∷ xs) (y ∷ ys) (z ∷ zs) one two =
      (trans x y z one.0 two.0, zip_trans R trans xs ys zs one.1 two.1)

-- ---- what stays of a pass

keeps_trans : (a b c : PortView) → KeepsAll a b → KeepsAll b c → KeepsAll a c
keeps_trans a b c one two =
    two ∙ ap (λ (m : PortView). record m { trail = with_known m.trail c.trail.known }) one

feeder_keeps_trans : (a b c : FeederView) → FeederKeepsAll a b → FeederKeepsAll b c →
    FeederKeepsAll a c
feeder_keeps_trans a b c one two =
    two ∙ ap (λ (m : FeederView). record m { trail = with_known m.trail c.trail.known }) one

keeps_self : (a : PortView) → KeepsAll a a
keeps_self a = refl

-- a port's pass that told the feeder's, or was told
pub port_told : (plane : Plane) (old : PortView) (locks : List TableId) (trail : Trail) →
    IsPortOf plane old → AreOf plane.shared locks trail.known → locks ≡ old.locks →
    trail.lost ≡ old.trail.lost →
    (IsBalanced (setting_of plane) [] old.trail.known old.trail.lost →
    IsBalanced (setting_of plane) [] trail.known old.trail.lost) →
    IsPortOf plane (record old { locks = locks; trail = trail })
    × KeepsAll old (record old { locks = locks; trail = trail })
port_told plane old locks trail is of same lost keeps = (
  record {
    of = of;
    balanced = subst (λ (l : List Lost). IsBalanced (setting_of plane) [] trail.known l) (sym lost)
        (keeps is.balanced);
    mailbox = is.mailbox;
    alone = is.alone;
    unmailed = is.unmailed;
  },
  ap (λ ls. record old { locks = ls; trail = trail }) same
      ∙ ap (λ l. record old { trail = record { known = trail.known; lost = l } }) lost,
)

-- and the feeder's
pub feeder_told : (plane : Plane) (old : FeederView) (locks : List TableId) (trail : Trail) →
    IsFeederOf plane old → AreOf plane.shared locks trail.known → locks ≡ old.locks →
    trail.lost ≡ old.trail.lost →
    (IsBalanced (setting_of plane) old.fed old.trail.known old.trail.lost →
    IsBalanced (setting_of plane) old.fed trail.known old.trail.lost) →
    IsFeederOf plane (record old { locks = locks; trail = trail })
    × FeederKeepsAll old (record old { locks = locks; trail = trail })
feeder_told plane old locks trail is of same lost keeps = (
  record {
    of = of;
    balanced = subst (λ (l : List Lost). IsBalanced (setting_of plane) old.fed trail.known l)
        (sym lost) (keeps is.balanced);
  },
  ap (λ ls. record old { locks = ls; trail = trail }) same
      ∙ ap (λ l. record old { trail = record { known = trail.known; lost = l } }) lost,
)

-- ---- the ports before port n told the feeder, or were told by it

-- one row more, by its number
abbrev pub Steps : Direction → ℕ → Type 0
Steps direction places =
    (n : ℕ) (first before after : List Known) (rows olds news : List (List Known))
    (row row_then : List Known) → HaveTold direction places n first before rows olds →
    slice_get olds n ≡ Some row → news ≡ slice_set olds n row_then →
    Told direction places row before row_then after →
    HaveTold direction places (n + 1) first after rows news

-- so the laws of rows say
pub one_more : ((places n : ℕ) (first before after : List Known)
    (rows olds news : List (List Known)) → HasGathered places n first before rows olds →
    TellsFirst places n before after olds news →
    HasGathered places (n + 1) first after rows news) →
    ((places n : ℕ) (first before after : List Known)
    (rows olds news : List (List Known)) → HasSpread places n first before rows olds →
    TellsRow places n before after olds news → HasSpread places (n + 1) first after rows news) →
    (direction : Direction) (places : ℕ) → Steps direction places
one_more gathers spreads ToFeeder places n first before after rows olds news row row_then so had has
    told =
    gathers places n first before after rows olds news so
    (record { row = row; row_then = row_then; had = had; has = has; told = told })
one_more gathers spreads ToPorts places n first before after rows olds news row row_then so had has
    told =
    spreads places n first before after rows olds news so
    (record { row = row; row_then = row_then; had = had; has = has; told = told })

module _ (direction : Direction) (plane : Plane) where
  abbrev Has : ℕ → List Known → List Known → List (List Known) → List (List Known) → Type 0
  Has = HaveTold direction (places_of plane)

  pub record MetSo (n : ℕ) (feeder feeder_then : FeederView) (olds ports : List PortView) : Type 0
    where
      pub ports_are : Every (IsPortOf plane) ports
      pub feeder_is : IsFeederOf plane feeder_then
      pub same : AllZip KeepsAll olds ports
      pub feeder_same : FeederKeepsAll feeder feeder_then
      pub met : (first : List Known) (rows front back : List (List Known)) →
          Has (length front) first feeder.trail.known rows
          (front ++ (map known_in olds ++ back)) →
          Has (length front + n) first feeder_then.trail.known rows
          (front ++ (map known_in ports ++ back))

  pub none_met : (feeder : FeederView) (ports : List PortView) →
      Every (IsPortOf plane) ports → IsFeederOf plane feeder →
      MetSo 0 feeder feeder ports ports
  none_met feeder ports all is = record {
    ports_are = all;
    feeder_is = is;
    same = zip_self KeepsAll ports keeps_self;
    feeder_same = refl;
    met = λ first rows front back so.
        subst (λ n. Has n first feeder.trail.known rows (front ++ (map known_in ports ++ back)))
        (omega arith) so;
  }

  pub one_met : Steps direction (places_of plane) → (n : ℕ) (feeder before after : FeederView)
      (olds ports nexts : List PortView) (pass then_ : PortView) →
      MetSo n feeder before olds ports → slice_get ports n ≡ Some pass →
      nexts ≡ slice_set ports n then_ → IsPortOf plane then_ × KeepsAll pass then_ →
      IsFeederOf plane after × FeederKeepsAll before after →
      Told direction (places_of plane) pass.trail.known before.trail.known then_.trail.known
      after.trail.known →
      MetSo (n + 1) feeder after olds nexts
  one_met steps n feeder before after olds ports nexts pass then_ so at pushed is feeds tells =
      subst (λ (ps : List PortView). MetSo (n + 1) feeder after olds ps) (sym pushed)
      (record {
        ports_are = every_set (IsPortOf plane) ports n then_ so.ports_are is.0;
        feeder_is = feeds.0;
        same = zip_set KeepsAll olds ports n pass then_ so.same at
            (λ old one. keeps_trans old pass then_ one is.1);
        feeder_same = feeder_keeps_trans feeder before after so.feeder_same feeds.1;
        met = λ first rows front back begun.
            let within : n < length (map known_in ports) =
            omega (arith, length-map ports known_in, slice_get_within ports n pass at) in
            subst (λ m. Has m first after.trail.known rows
            (front ++ (map known_in (slice_set ports n then_) ++ back))) (omega arith)
            (steps (length front + n) first before.trail.known after.trail.known rows
            (front ++ (map known_in ports ++ back))
            (front ++ (map known_in (slice_set ports n then_) ++ back))
            pass.trail.known then_.trail.known (so.met first rows front back begun)
            (get_middle front (map known_in ports) back n pass.trail.known
            (slice_get-map known_in ports n ∙ ap (option_map known_in) at))
            (ap (λ (l : List (List Known)). front ++ (l ++ back))
            (map-set known_in ports n then_)
            ∙ sym (set_middle front (map known_in ports) back n then_.trail.known within))
            tells);
      })

  pub all_met : (n : ℕ) (feeder after : FeederView) (olds ports : List PortView) →
      MetSo n feeder after olds ports → n ≡ length olds →
      TellEach direction (places_of plane) feeder after olds ports
  all_met n feeder after olds ports so all first rows front back begun =
      subst (λ m. Has (length front + m) first after.trail.known rows
      (front ++ (map known_in ports ++ back))) all (so.met first rows front back begun)

-- ---- all of it

-- so it is of what each port knows
every_row : (plane : Plane) (P : List Known → Type 0) →
    ((p : PortView) → IsPortOf plane p → P p.trail.known) → (ps more : List PortView) →
    Every (IsPortOf plane) ps → Every (IsPortOf plane) more →
    Every P (map known_in ps ++ map known_in more)
every_row plane P is [] [] one two = tt
every_row plane P is [] (q ∷ more) one two =
    (is q two.0, every_row plane P is [] more tt two.1)
every_row plane P is (p ∷ ps) more one two =
    (is p one.0, every_row plane P is ps more one.1 two)

-- there is one pass for each place
row_long : (plane : Plane) (locks : List TableId) (known : List Known) →
    AreOf plane.shared locks known → length known ≡ places_of plane
row_long plane locks known is =
    is.as_many ∙ ap length is.locks_are ∙ length-map plane.shared.locks.items id_of
    ∙ plane.shared.sized

row_normal : (plane : Plane) (locks : List TableId) (known : List Known) →
    AreOf plane.shared locks known → AreNormal known
row_normal plane locks known is = λ k v at. (is.known_so k v at).normal

-- the open ports and then the closed ones told the feeder, or it told them
both_told : (direction : Direction) (places : ℕ) (first : List Known) (rows : List (List Known))
    (f f1 f2 : FeederView) (ports p1 closed c1 : List PortView) → length p1 ≡ length ports →
    TellEach direction places f f1 ports p1 → TellEach direction places f1 f2 closed c1 →
    HaveTold direction places 0 first f.trail.known rows
    (map known_in ports ++ map known_in closed) →
    HaveTold direction places (length ports + length closed) first f2.trail.known rows
    (map known_in p1 ++ map known_in c1)
both_told direction places first rows f f1 f2 ports p1 closed c1 many one two begun =
    let many_rows = length-map p1 known_in in
    let halfway : HaveTold direction places (length (map known_in p1)) first f1.trail.known rows
    (map known_in p1 ++ map known_in closed) =
    subst (λ n. HaveTold direction places n first f1.trail.known rows
    (map known_in p1 ++ map known_in closed)) (omega (arith, many_rows, many))
    (one first rows [] (map known_in closed) begun) in
    subst (λ n. HaveTold direction places n first f2.trail.known rows
    (map known_in p1 ++ map known_in c1)) (omega (arith, many_rows, many))
    (subst (λ (l : List (List Known)). HaveTold direction places
    (length (map known_in p1) + length closed) first f2.trail.known rows (map known_in p1 ++ l))
    (append-nil (map known_in c1))
    (two first rows (map known_in p1) []
    (subst (λ (l : List (List Known)). HaveTold direction places (length (map known_in p1)) first
    f1.trail.known rows (map known_in p1 ++ l)) (sym (append-nil (map known_in closed)))
    halfway)))

-- what is known of rows that meet
pub record Laws : Type 0 where
  pub begins : (places : ℕ) (first : List Known) (rows : List (List Known)) →
      Every (λ (known : List Known). length known ≡ places) (first ∷ rows) →
      Every AreNormal (first ∷ rows) → HasGathered places 0 first first rows rows
  pub turns : (places : ℕ) (first after : List Known) (rows news : List (List Known)) →
      HasGathered places (length rows) first after rows news →
      HasSpread places 0 first after rows news
  pub met : (places : ℕ) (first after : List Known) (rows news : List (List Known)) →
      HasSpread places (length rows) first after rows news →
      HaveMet places (first ∷ rows) (after ∷ news)

pub meet_so : Laws → (plane : Plane) (feeder f1 f2 f3 f4 : FeederView)
    (ports p1 p2 closed c1 c2 : List PortView) → IsFeederOf plane feeder →
    Every (IsPortOf plane) ports → Every (IsPortOf plane) closed →
    AllZip KeepsAll ports p1 × FeederKeepsAll feeder f1 →
    AllZip KeepsAll closed c1 × FeederKeepsAll f1 f2 →
    AllZip KeepsAll p1 p2 × FeederKeepsAll f2 f3 →
    AllZip KeepsAll c1 c2 × FeederKeepsAll f3 f4 →
    TellEach ToFeeder (places_of plane) feeder f1 ports p1 →
    TellEach ToFeeder (places_of plane) f1 f2 closed c1 →
    TellEach ToPorts (places_of plane) f2 f3 p1 p2 →
    TellEach ToPorts (places_of plane) f3 f4 c1 c2 →
    Meets (places_of plane) feeder f4 ports p2 closed c2
meet_so laws plane feeder f1 f2 f3 f4 ports p1 p2 closed c1 c2 feeds opens shut k1 k2 k3 k4 g1 g2
    s1 s2 =
    let places = places_of plane in
    let first = feeder.trail.known in
    let rows : List (List Known) = map known_in ports ++ map known_in closed in
    let long : length rows ≡ length ports + length closed =
    omega (
      arith,
      length-append (map known_in ports) (map known_in closed),
      length-map ports known_in,
      length-map closed known_in,
    ) in
    let many : length p1 ≡ length ports = zip_long KeepsAll ports p1 k1.0 in
    let shut_many : length c1 ≡ length closed = zip_long KeepsAll closed c1 k2.0 in
    let more : length p2 ≡ length p1 = zip_long KeepsAll p1 p2 k3.0 in
    let heard : HasGathered places (length rows) first f2.trail.known rows
    (map known_in p1 ++ map known_in c1) =
    subst (λ n. HasGathered places n first f2.trail.known rows
    (map known_in p1 ++ map known_in c1)) (sym long)
    (both_told ToFeeder places first rows feeder f1 f2 ports p1 closed c1 many g1 g2
    (laws.begins places first rows (
      row_long plane feeder.locks first feeds.of,
      every_row plane (λ (known : List Known). length known ≡ places)
          (λ p is. row_long plane p.locks p.trail.known is.of) ports closed opens shut,
    ) (
      row_normal plane feeder.locks first feeds.of,
      every_row plane AreNormal (λ p is. row_normal plane p.locks p.trail.known is.of) ports closed
          opens shut,
    ))) in
    let told : HasSpread places (length rows) first f4.trail.known rows
    (map known_in p2 ++ map known_in c2) =
    subst (λ n. HasSpread places n first f4.trail.known rows
    (map known_in p2 ++ map known_in c2)) (omega (arith, long, many, shut_many))
    (both_told ToPorts places first rows f2 f3 f4 p1 p2 c1 c2 more s1 s2
    (laws.turns places first f2.trail.known rows (map known_in p1 ++ map known_in c1) heard)) in
    record {
      rows = laws.met places first f4.trail.known rows (map known_in p2 ++ map known_in c2) told;
      feeder_keeps = feeder_keeps_trans feeder f1 f4 k1.1
          (feeder_keeps_trans f1 f2 f4 k2.1 (feeder_keeps_trans f2 f3 f4 k3.1 k4.1));
      each_port = zip_trans KeepsAll keeps_trans ports p1 p2 k1.0 k3.0;
      each_closed = zip_trans KeepsAll keeps_trans closed c1 c2 k2.0 k4.0;
    }
