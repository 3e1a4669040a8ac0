-- Passes take their seats as workers and leave them: what is known of all of them.
use Rattle.std.proofs.Common.{◌≡◌, ◌<◌, ◌≤◌, ◌+◌, ◌∙◌, ◌++◌, ◌∷◌, [], ℕ, Bool, List, ap}
use Rattle.std.proofs.Common.{append-nil, append_assoc, arith, drop_of_length-le, false, length}
use Rattle.std.proofs.Common.{refl, subst, suc, sym, take_all, true, zero}
use Rattle.std.proofs.lemmas.List.{length-append, length-map}
use Rattle.std.specs.List.{AllZip}
use Rattle.std.specs.Prelude.{◌&&◌, All, drop, not, slice_index_or, take}
use Rattle.std.proofs.lemmas.List.Elements.{All-head, All-tail}
use Rattle.inspector_script.specs.Scripts.{ScriptValue}
use Rattle.place_rows.specs.Lists.{Every}
use Rattle.plane.specs.declared.plane.Plane.{Plane}
use Rattle.plane.specs.Passes.{IsPortOf, PortView}
use Rattle.plane.specs.Planes.{places_of}
use Rattle.live_passes.specs.Numbered.{StaysPort}
use Rattle.live_work.specs.declared.mind.Mind.{Mind}
use Rattle.nfq_live.specs.declared.workers.Inspector.{Inspector}
use Rattle.live_work.specs.Minds.{IsMind}
use Rattle.nfq_live.specs.Workers.{IsInspected, IsSeated, WentOn, minds_at, passes_at}
use Rattle.live_passes.specs.Views.{port_pass}
use Rattle.live_work.proofs.UnchangedPass.{port_here}
use Rattle.live_work.proofs.MailboxLooks.{NoLookLaw}
use Rattle.nfq_live.proofs.PortNumbers.{zip_long}
use Rattle.nfq_live.proofs.WholeLocks.{every_index}

-- ---- lists

-- what holds at each index of two lists holds item by item
pub all_zip : {X : Type 0} (R : X → X → Type 0) (xs ys : List X) → length ys ≡ length xs →
    ((i : ℕ) (d : X) → i < length xs → R (slice_index_or xs i d) (slice_index_or ys i d)) →
    AllZip R xs ys
all_zip R [] [] same each = tt
all_zip R [] (y ∷ ys) same each = absurd (omega (arith, same))
all_zip R (x ∷ xs) [] same each = absurd (omega (arith, same))
all_zip R (x ∷ xs) (y ∷ ys) same each = (
  each 0 x (omega arith),
  all_zip R xs ys (omega (arith, same)) (λ i d within. each (suc i) d (omega (arith, within))),
)

-- ---- who takes a seat

every_seated : (script : ScriptValue) (plane : Plane) (seats : List Inspector) →
    Every (IsPortOf plane) (passes_at seats) →
    AllZip (IsMind script) (passes_at seats) (minds_at seats) →
    Every (IsSeated script plane) seats
every_seated script plane [] of minds = tt
every_seated script plane (s ∷ ss) of minds = (
  record { pass = of.0; mind = minds.0 },
  every_seated script plane ss of.1 minds.1,
)

-- the workers at seats to which all passes went, with what is kept of their ports
pub all_seated : (script : ScriptValue) (plane : Plane) (seats : List Inspector) →
    Every (IsPortOf plane) (passes_at seats) →
    AllZip (IsMind script) (passes_at seats) (minds_at seats) → All (IsSeated script plane) seats
all_seated script plane seats of minds =
    λ i d less. every_index (IsSeated script plane) seats i d
    (every_seated script plane seats of minds) less

-- ---- none worked

-- a worker that did nothing
pub none_inspected : NoLookLaw → (workers : ℕ) (script : ScriptValue) (plane : Plane)
    (seats : List Inspector) → All (λ (i : Inspector). IsSeated script plane i) seats →
    AllZip (IsInspected workers script plane) seats seats
none_inspected law workers script plane [] seated = tt
none_inspected law workers script plane (s ∷ ss) seated =
    let one = All-head (λ (i : Inspector). IsSeated script plane i) s ss seated in (
      record {
        stays = port_here plane s.pass one.pass;
        mind = λ well. one.mind;
        on = λ well. record {
          on = law workers script (places_of plane) s.pass.port (port_pass s.pass);
        };
      },
      none_inspected law workers script plane ss
          (All-tail (λ (i : Inspector). IsSeated script plane i) s ss seated),
    )

-- ---- what they did

pub all_stay : (workers : ℕ) (script : ScriptValue) (plane : Plane) (old new : List Inspector) →
    AllZip (IsInspected workers script plane) old new →
    AllZip (StaysPort plane) (passes_at old) (passes_at new)
all_stay workers script plane [] [] did = tt
all_stay workers script plane [] (n ∷ ns) did = absurd did
all_stay workers script plane (o ∷ os) [] did = absurd did
all_stay workers script plane (o ∷ os) (n ∷ ns) did =
    (did.0.stays, all_stay workers script plane os ns did.1)

abbrev IsWell : Inspector → Type 0
IsWell i = i.failed ≡ false

pub all_went_on : (workers : ℕ) (script : ScriptValue) (plane : Plane) (old new : List Inspector) →
    AllZip (IsInspected workers script plane) old new →
    All (λ (i : Inspector). i.failed ≡ false) new →
    AllZip (WentOn workers script (places_of plane)) (passes_at old) (passes_at new)
all_went_on workers script plane [] [] did well = tt
all_went_on workers script plane [] (n ∷ ns) did well = absurd did
all_went_on workers script plane (o ∷ os) [] did well = absurd did
all_went_on workers script plane (o ∷ os) (n ∷ ns) did well = (
  record { port = did.0.stays.port; looked = did.0.on (All-head IsWell n ns well) },
  all_went_on workers script plane os ns did.1 (All-tail IsWell n ns well),
)

pub all_have_minds : (workers : ℕ) (script : ScriptValue) (plane : Plane)
    (old new : List Inspector) →
    AllZip (IsInspected workers script plane) old new →
    All (λ (i : Inspector). i.failed ≡ false) new →
    AllZip (IsMind script) (passes_at new) (minds_at new)
all_have_minds workers script plane [] [] did well = tt
all_have_minds workers script plane [] (n ∷ ns) did well = absurd did
all_have_minds workers script plane (o ∷ os) [] did well = absurd did
all_have_minds workers script plane (o ∷ os) (n ∷ ns) did well = (
  did.0.mind (All-head IsWell n ns well),
  all_have_minds workers script plane os ns did.1 (All-tail IsWell n ns well),
)

-- ---- a list that was lent

-- what is behind a list's slice that was lent and came back as long
pub refilled : {X : Type 0} (n : ℕ) (new old : List X) → length old ≡ n → length new ≡ n →
    take n (new ++ drop (length new) old) ≡ new
refilled {X} n new old was is =
    let none : drop (length new) old ≡ [] = drop_of_length-le old (omega (arith, was, is)) in
    ap (λ (l : List X). take n (new ++ l)) none ∙ ap (λ (l : List X). take n l) (append-nil new)
    ∙ take_all n new (omega (arith, is))

-- what is known of the part that was lent and what came back is known of the whole list
pub lent_back : {X : Type 0} (R : List X → List X → Type 0) (n : ℕ) (lent old new : List X) →
    lent ≡ old → length old ≡ n → length new ≡ n → R lent new →
    R old (take n (new ++ drop (length new) old))
lent_back {X} R n lent old new same is was r =
    subst (λ (l : List X). R old l) (sym (refilled n new old is was))
    (subst (λ (l : List X). R l new) same r)

-- ---- the way to the seats and back

-- all passes went to the seats, of which none was taken before
pub passes_taken : (seats old : List Inspector) (ports all : List PortView) → old ≡ [] →
    passes_at seats ≡ passes_at old ++ ports → ports ≡ all → passes_at seats ≡ all
passes_taken seats old ports all none is same =
    is ∙ ap (λ (l : List Inspector). passes_at l ++ ports) none ∙ same

pub minds_taken : (seats old : List Inspector) (minds all : List Mind) → old ≡ [] →
    minds_at seats ≡ minds_at old ++ minds → minds ≡ all → minds_at seats ≡ all
minds_taken seats old minds all none is same =
    is ∙ ap (λ (l : List Inspector). minds_at l ++ minds) none ∙ same

pub seated_from : (script : ScriptValue) (plane : Plane) (seats : List Inspector)
    (ports : List PortView) (minds : List Mind) → passes_at seats ≡ ports →
    minds_at seats ≡ minds → Every (IsPortOf plane) ports → AllZip (IsMind script) ports minds →
    All (IsSeated script plane) seats
seated_from script plane seats ports minds passes_are minds_are of kept =
    all_seated script plane seats
    (subst (λ (l : List PortView). Every (IsPortOf plane) l) (sym passes_are) of)
    (subst (λ (l : List PortView). AllZip (IsMind script) l (minds_at seats)) (sym passes_are)
    (subst (λ (l : List Mind). AllZip (IsMind script) ports l) (sym minds_are) kept))

pub as_many_seats : (workers : ℕ) (script : ScriptValue) (plane : Plane)
    (before after : List Inspector)
    (ports : List PortView) → AllZip (IsInspected workers script plane) before after →
    passes_at before ≡ ports → length after ≡ length ports
as_many_seats workers script plane before after ports did are =
    let all : length (passes_at before) ≡ length ports =
    ap (λ (l : List PortView). length l) are in
    omega (
      arith,
      zip_long (IsInspected workers script plane) before after did,
      all,
      length-map before (λ (i : Inspector). i.pass),
    )

-- who left a seat went back to an empty list
pub went_back : {X : Type 0} (back none items : List X) → none ≡ [] → back ≡ none ++ items →
    items ≡ back
went_back {X} back none items empty is =
    sym (is ∙ ap (λ (l : List X). l ++ items) empty)

pub stay_at_seats : (workers : ℕ) (script : ScriptValue) (plane : Plane)
    (before after : List Inspector)
    (ports back : List PortView) → passes_at before ≡ ports → passes_at after ≡ back →
    AllZip (IsInspected workers script plane) before after → AllZip (StaysPort plane) ports back
stay_at_seats workers script plane before after ports back were are did =
    subst (λ (l : List PortView). AllZip (StaysPort plane) l back) were
    (subst (λ (l : List PortView). AllZip (StaysPort plane) (passes_at before) l) are
    (all_stay workers script plane before after did))

pub went_at_seats : (workers : ℕ) (script : ScriptValue) (plane : Plane)
    (before after : List Inspector)
    (ports back : List PortView) → passes_at before ≡ ports → passes_at after ≡ back →
    AllZip (IsInspected workers script plane) before after →
    All (λ (i : Inspector). i.failed ≡ false) after →
    AllZip (WentOn workers script (places_of plane)) ports back
went_at_seats workers script plane before after ports back were are did well =
    subst (λ (l : List PortView). AllZip (WentOn workers script (places_of plane)) l back) were
    (subst (λ (l : List PortView). AllZip (WentOn workers script (places_of plane))
    (passes_at before) l) are (all_went_on workers script plane before after did well))

pub minds_from_seats : (workers : ℕ) (script : ScriptValue) (plane : Plane)
    (before after : List Inspector)
    (ports : List PortView) (minds : List Mind) → passes_at after ≡ ports →
    minds_at after ≡ minds → AllZip (IsInspected workers script plane) before after →
    All (λ (i : Inspector). i.failed ≡ false) after → AllZip (IsMind script) ports minds
minds_from_seats workers script plane before after ports minds passes_are minds_are did well =
    subst (λ (l : List PortView). AllZip (IsMind script) l minds) passes_are
    (subst (λ (l : List Mind). AllZip (IsMind script) (passes_at after) l) minds_are
    (all_have_minds workers script plane before after did well))

-- ---- seat by seat

pub pushed_fits : {X : Type 0} (old new : List X) (x : X) (was rest : List Inspector)
    (seat : Inspector) (cap cap_then : ℕ) → new ≡ old ++ x ∷ [] → was ≡ seat ∷ rest →
    cap_then ≡ cap → length old + length was ≤ cap → length new + length rest ≤ cap_then
pushed_fits {X} old new x was rest seat cap cap_then is steps same fits =
    let longer : length new ≡ length (old ++ x ∷ []) = ap (λ (l : List X). length l) is in
    let shorter : length was ≡ length (seat ∷ rest) =
    ap (λ (l : List Inspector). length l) steps in
    omega (arith, longer, shorter, length-append old (x ∷ []), same, fits)

pub pass_left : (old new : List PortView) (was rest : List Inspector) (seat : Inspector) →
    new ≡ old ++ seat.pass ∷ [] → was ≡ seat ∷ rest →
    new ++ passes_at rest ≡ old ++ passes_at was
pass_left old new was rest seat is steps =
    ap (λ (l : List PortView). l ++ passes_at rest) is
    ∙ append_assoc old (seat.pass ∷ []) (passes_at rest)
    ∙ ap (λ (l : List Inspector). old ++ passes_at l) (sym steps)

pub mind_left : (old new : List Mind) (was rest : List Inspector) (seat : Inspector) →
    new ≡ old ++ seat.mind ∷ [] → was ≡ seat ∷ rest →
    new ++ minds_at rest ≡ old ++ minds_at was
mind_left old new was rest seat is steps =
    ap (λ (l : List Mind). l ++ minds_at rest) is
    ∙ append_assoc old (seat.mind ∷ []) (minds_at rest)
    ∙ ap (λ (l : List Inspector). old ++ minds_at l) (sym steps)

pub both_true : (a b : Bool) → (a && b) ≡ true → (a ≡ true) × (b ≡ true)
both_true true b is = (refl, is)
both_true false b is = let wrong : false ≡ true = is in absurd (cc wrong)

pub is_not_true : (b : Bool) → not b ≡ true → b ≡ false
is_not_true true is = let wrong : false ≡ true = is in absurd (cc wrong)
is_not_true false is = refl

one_more_well : {X : Type 0} (failed : X → Bool) (x : X) (xs : List X) → failed x ≡ false →
    All (λ (i : X). failed i ≡ false) xs → All (λ (i : X). failed i ≡ false) (x ∷ xs)
one_more_well {X} failed x xs is are zero d within = is
one_more_well {X} failed x xs is are (suc i) d within = are i d (omega (arith, within))

-- whether none failed, of those behind one that was looked at
pub all_well : {X : Type 0} (failed : X → Bool) (well : Bool) (was rest all : List X) (x : X) →
    was ≡ x ∷ rest → (well ≡ true → All (λ (i : X). failed i ≡ false) was →
    All (λ (i : X). failed i ≡ false) all) → (well && not (failed x)) ≡ true →
    All (λ (i : X). failed i ≡ false) rest → All (λ (i : X). failed i ≡ false) all
all_well {X} failed well was rest all x steps so both are =
    let parts = both_true well (not (failed x)) both in
    so parts.0 (subst (λ (l : List X). All (λ (i : X). failed i ≡ false) l) (sym steps)
    (one_more_well failed x rest (is_not_true (failed x) parts.1) are))
