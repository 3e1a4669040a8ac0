-- Rows that are split off one another: their counts, and their parts of the locks.
use Rattle.std.proofs.Common.{◌≡◌, ◌≢◌, ℕ, zero, suc, List, [], ◌∷◌, ◌++◌, length}
use Rattle.std.proofs.Common.{refl, sym, ap, ◌∙◌, subst, inl, inr, append-nil, append_assoc}
use Rattle.std.proofs.Common.{true, false}
use Rattle.std.specs.Prelude.{map, slice_get, Option, Some, None, option_map, IfSome, IsSome}
use Rattle.std.specs.Prelude.{nat_eq, sum_by}
use Rattle.std.specs.BTreeMap.{BTreeMap, get, is_at, IsEmpty}
use Rattle.std.specs.Map.{lookup}
use Rattle.std.specs.Ordering.{nat_cmp}
use Rattle.std.proofs.lemmas.List.{map-append, length-map}
use Rattle.std.proofs.lemmas.Option.{slice_get-map}
use Rattle.std.proofs.lemmas.Bool.{cases_Bool, eqb-true, eqb-false}
use Rattle.atomic_table.specs.Seated.{TableId}
use Rattle.mailbox.specs.Roles.{In}
use Rattle.turn_lock.specs.declared.storied.Storied.{Ghosts}
use Rattle.turn_lock.specs.declared.pass.Pass.{Pass}
use Rattle.turn_lock.specs.declared.lock.TurnLock.{TurnLock}
use Rattle.turn_lock.specs.Parts.{Tree, Empty, union, void, cut, kept, is_normal}
use Rattle.turn_lock.specs.Views.{kept_view, split_view}
use Rattle.locked_place.specs.declared.outlets.Outlets.{Outlets}
use Rattle.locked_place.specs.Points.{points}
use Rattle.locked_place.specs.Views.{PlaceLabel, label_of}
use Rattle.place_rows.specs.declared.ending.PortReceiver.{PortReceiver}
use Rattle.place_rows.specs.Joining.{part_in, together_at, AreWhole}
use Rattle.place_rows.specs.Lists.{Every}
use Rattle.place_rows.specs.Meeting.{AreNormal}
use Rattle.place_rows.specs.Rows.{Known, AreKnown, ArePasses, IsKnown, id_of, label_at, lock_of}
use Rattle.place_rows.specs.Rows.{sender_made}
use Rattle.place_rows.specs.Shares.{at_places, notices_at, sent_at}
use Rattle.plane.specs.declared.opened.Unfilled.{Unfilled}
use Rattle.plane.specs.Closings.{receiver_of}
use Rattle.place_turns.specs.Counts.{IsCounted, AreCounted, count_of, most_entries}
use Rattle.turn_lock.specs.Places.{Ascends}
use Rattle.plane.specs.Filling.{AreZero, AreFor, HasDoneNothing, HasUnused, IsFilled, receiver_in}
use Rattle.plane.specs.Opening.{IsUnused, known_in}
use Rattle.plane.specs.Passes.{PortView}
use Rattle.plane.specs.Remaining.{IsRowOf}

-- ---- facts of each item

pub some_same : {X : Type 0} (x y : X) → Some x ≡ Some y → x ≡ y
some_same x y e = cc

module _ {X : Type 0} (P : X → Type 0) where
  pub every_get : (xs : List X) (i : ℕ) (x : X) → Every P xs → slice_get xs i ≡ Some x → P x
  every_get [] i x all at = absurd (cc at)
  every_get (y ∷ xs) zero x all at = subst P (some_same y x at) all.0
  every_get (y ∷ xs) (suc i) x all at = every_get xs i x all.1 at

  pub every_more : (xs : List X) (x : X) → Every P xs → P x → Every P (xs ++ x ∷ [])
  every_more [] x all is = (is, tt)
  every_more (y ∷ xs) x all is = (all.0, every_more xs x all.1 is)

-- ---- a row of passes

-- it has one of each lock
pub as_many : {S E : Type 0} {g : Ghosts S E} {L : Type 0} (label : S → L) (named : ℕ → L)
    (locks : List (TurnLock S E)) (row : List (Pass S E g)) → ArePasses label named locks row →
    length row ≡ length locks
as_many label named locks row all =
    sym (length-map row lock_of) ∙ ap length all.locks_are ∙ length-map locks id_of

-- ---- counts that say nothing

none_in : (port : ℕ) (o : Option ℕ) → o ≡ None → IsSome o → In port []
none_in port None none some = absurd (cc)
none_in port (Some n) none some = absurd (cc)

pub none_counted : (counts : BTreeMap ℕ ℕ) → IsEmpty counts → AreZero [] counts
none_counted counts empty = record {
  none = λ port.
      ap (λ (es : List (ℕ × ℕ)). count_of (lookup (is_at (nat_cmp port)) es)) empty;
  each = λ port is. absurd is;
  only = λ port some.
      none_in port (get nat_cmp counts port)
      (ap (λ (es : List (ℕ × ℕ)). lookup (is_at (nat_cmp port)) es) empty) some;
}

not_last : (p port : ℕ) (ports : List ℕ) → p ≢ port → In p (ports ++ port ∷ []) → In p ports
not_last p port [] differ (inl e) = differ e
not_last p port [] differ (inr h) = h
not_last p port (q ∷ ports) differ (inl e) = inl e
not_last p port (q ∷ ports) differ (inr h) = inr (not_last p port ports differ h)

last_in : (p port : ℕ) (ports : List ℕ) → p ≡ port → In p (ports ++ port ∷ [])
last_in p port [] same = inl same
last_in p port (q ∷ ports) same = inr (last_in p port ports same)

still_in : (p port : ℕ) (ports : List ℕ) → In p ports → In p (ports ++ port ∷ [])
still_in p port [] is = absurd is
still_in p port (q ∷ ports) (inl e) = inl e
still_in p port (q ∷ ports) (inr h) = inr (still_in p port ports h)

pub one_zero_more : (ports : List ℕ) (port : ℕ) (old new : BTreeMap ℕ ℕ) → AreZero ports old →
    get nat_cmp new port ≡ Some 0 →
    ((p : ℕ) → p ≢ port → get nat_cmp new p ≡ get nat_cmp old p) →
    AreZero (ports ++ port ∷ []) new
one_zero_more ports port old new was own others = record {
  none = λ p. elim (cases_Bool (nat_eq p port)) [
    | inl same ↦ ap (λ q. count_of (get nat_cmp new q)) (eqb-true p port same) ∙ ap count_of own
    | inr other ↦ ap count_of (others p (eqb-false p port other)) ∙ was.none p
  ];
  each = λ p is. elim (cases_Bool (nat_eq p port)) [
    | inl same ↦ subst (λ (o : Option ℕ). IsSome o)
        (sym (ap (get nat_cmp new) (eqb-true p port same) ∙ own)) refl
    | inr other ↦ (let differ = eqb-false p port other in
        subst (λ (o : Option ℕ). IsSome o) (sym (others p differ))
        (was.each p (not_last p port ports differ is)))
  ];
  only = λ p some. elim (cases_Bool (nat_eq p port)) [
    | inl same ↦ last_in p port ports (eqb-true p port same)
    | inr other ↦ still_in p port ports (was.only p
        (subst (λ (o : Option ℕ). IsSome o) (others p (eqb-false p port other)) some))
  ];
}

-- a pass that was split off another has appended nothing
split_own : (olds : List Known) (k : ℕ) (v : Known) → slice_get (map split_view olds) k ≡ Some v →
    v.own ≡ []
split_own [] k v at = absurd (cc at)
split_own (u ∷ olds) zero v at =
    ap (λ (w : Known). w.own) (sym (some_same (split_view u) v at))
split_own (u ∷ olds) (suc k) v at = split_own olds k v at

none_own_sent : (port : ℕ) (v : Known) → v.own ≡ [] → sent_at port v ≡ 0
none_own_sent port v none =
    ap (λ (ks : List ℕ). sum_by (notices_at port) (at_places (points v.seen) ks)) none

some_below : {A B : Type 0} (f : A → B) (o : Option A) → IsSome (option_map f o) → IsSome o
some_below f None some = absurd (cc)
some_below f (Some x) some = refl

some_above : {A B : Type 0} (f : A → B) (o : Option A) → IsSome o → IsSome (option_map f o)
some_above f None some = absurd (cc)
some_above f (Some x) some = refl

-- a pass with no entry of its own, by counts that say 0
zero_is_counted : (outlets : Outlets) (ports : List ℕ) (k : ℕ) (v : Known)
    (counts : BTreeMap ℕ ℕ) → AreFor outlets ports →
    IsKnown label_of (label_at outlets k) v → v.own ≡ [] → AreZero ports counts →
    IsCounted v counts
zero_is_counted outlets ports k v counts for known none zeros = record {
  many = λ port. none_own_sent port v none ∙ sym (zeros.none port);
  there = λ named is port some.
      let same : named ≡ label_at outlets k =
      some_same named (label_at outlets k) (sym is ∙ known.named_so) in
      zeros.each port
      ((for port).0
      (some_below (sender_made outlets.board.places k) (get nat_cmp outlets.mailboxes port)
      (subst (λ (l : PlaceLabel). IsSome (l.senders port)) same some)));
  only = λ named is port some.
      let same : named ≡ label_at outlets k =
      some_same named (label_at outlets k) (sym is ∙ known.named_so) in
      subst (λ (l : PlaceLabel). IsSome (l.senders port)) (sym same)
      (some_above (sender_made outlets.board.places k) (get nat_cmp outlets.mailboxes port)
      ((for port).1 (zeros.only port some)));
  few = subst (Ascends 0 most_entries) (sym none) tt;
}

-- and so of a row
pub zero_counted : (outlets : Outlets) (ports : List ℕ) (known : List Known)
    (sent : List (BTreeMap ℕ ℕ)) → AreFor outlets ports →
    AreKnown label_of (label_at outlets) known →
    ((k : ℕ) (v : Known) → slice_get known k ≡ Some v → v.own ≡ []) →
    length sent ≡ length known → Every (AreZero ports) sent → AreCounted known sent
zero_counted outlets ports known sent for are none many zeros = record {
  as_many = many;
  each = λ k v at. inner k v at (slice_get sent k) refl;
}
  where
    inner : (k : ℕ) (v : Known) → slice_get known k ≡ Some v → (o : Option (BTreeMap ℕ ℕ)) →
        slice_get sent k ≡ o → IfSome o (IsCounted v)
    inner k v at None is = tt
    inner k v at (Some counts) is =
        zero_is_counted outlets ports k v counts for (are k v at) (none k v at)
        (every_get (AreZero ports) sent k counts zeros is)

pub split_none : (olds known : List Known) → known ≡ map split_view olds → (k : ℕ) (v : Known) →
    slice_get known k ≡ Some v → v.own ≡ []
split_none olds known is k v at =
    split_own olds k v (ap (λ (l : List Known). slice_get l k) (sym is) ∙ at)

-- a row that did nothing has appended nothing, and seen nothing
pub both_none : (known : List Known) → Every IsUnused known → (k : ℕ) (v : Known) →
    slice_get known k ≡ Some v → (v.seen ≡ []) × (v.own ≡ [])
both_none known all k v at =
    let is = every_get IsUnused known k v all at in (is.seen, is.own)

pub unused_own : (known : List Known) → Every IsUnused known → (k : ℕ) (v : Known) →
    slice_get known k ≡ Some v → v.own ≡ []
unused_own known all k v at = (both_none known all k v at).1

-- ---- a row that was split has seen no more

pub kept_unused : (known : List Known) → Every IsUnused known → Every IsUnused (map kept_view known)
kept_unused [] all = tt
kept_unused (v ∷ known) all =
    (record { seen = all.0.seen; own = all.0.own }, kept_unused known all.1)

pub split_unused : (known : List Known) → Every IsUnused known →
    Every IsUnused (map split_view known)
split_unused [] all = tt
split_unused (v ∷ known) all =
    (record { seen = all.0.seen; own = refl }, split_unused known all.1)

-- ---- parts

-- what is known of parts
pub record Laws : Type 0 where
  pub sides : (p q : Tree) → is_normal p ≡ true → is_normal q ≡ true → union p q ≡ union q p
  pub order : (p q r : Tree) → is_normal p ≡ true → is_normal q ≡ true → is_normal r ≡ true →
      union (union p q) r ≡ union p (union q r)
  pub back : (p : Tree) → is_normal p ≡ true → void p ≡ false → union (kept p) (cut p) ≡ p
  pub both : (p q : Tree) → is_normal p ≡ true → is_normal q ≡ true →
      is_normal (union p q) ≡ true
  pub pieces : (p : Tree) → is_normal p ≡ true → void p ≡ false →
      (is_normal (kept p) ≡ true) × (is_normal (cut p) ≡ true)

part_normal : (k : ℕ) (known : List Known) → AreNormal known →
    is_normal (part_in (slice_get known k)) ≡ true
part_normal k known normal = inner (slice_get known k) (normal k)
  where
    inner : (o : Option Known) → ((v : Known) → o ≡ Some v → is_normal v.part ≡ true) →
        is_normal (part_in o) ≡ true
    inner None h = refl
    inner (Some v) h = h v refl

module _ (laws : Laws) where
  last_two : (p q r : Tree) → is_normal p ≡ true → is_normal q ≡ true → is_normal r ≡ true →
      union (union p q) r ≡ union (union p r) q
  last_two p q r a b c =
      laws.order p q r a b c ∙ ap (union p) (laws.sides q r b c) ∙ sym (laws.order p r q a c b)

  -- a part put to the first of several is put to all together
  put_to_all : (k : ℕ) (t p : Tree) (rows : List (List Known)) → is_normal t ≡ true →
      is_normal p ≡ true → Every AreNormal rows →
      together_at k (union t p) rows ≡ union (together_at k t rows) p
  put_to_all k t p [] a b all = refl
  put_to_all k t p (row ∷ rows) a b all =
      let q = part_in (slice_get row k) in
      let c = part_normal k row all.0 in
      ap (λ u. together_at k u rows) (last_two t p q a b c)
      ∙ put_to_all k (union t q) p rows (laws.both t q a c) b all.1

  one_last : (k : ℕ) (t : Tree) (rows : List (List Known)) (row : List Known) →
      together_at k t (rows ++ row ∷ []) ≡ union (together_at k t rows) (part_in (slice_get row k))
  one_last k t [] row = refl
  one_last k t (r ∷ rows) row = one_last k (union t (part_in (slice_get r k))) rows row

  -- a row that was split has, with the row that was split off, what it had
  split_at : (k : ℕ) (o : Option Known) (rows : List (List Known)) (row : List Known) →
      ((v : Known) → o ≡ Some v → (is_normal v.part ≡ true) × (void v.part ≡ false)) →
      Every AreNormal rows → slice_get row k ≡ option_map split_view o →
      together_at k (part_in (option_map kept_view o)) (rows ++ row ∷ [])
      ≡ together_at k (part_in o) rows
  split_at k None rows row known all is =
      one_last k Empty rows row
      ∙ ap (λ (r : Option Known). union (together_at k Empty rows) (part_in r)) is
      ∙ sym (put_to_all k Empty Empty rows refl refl all)
  split_at k (Some v) rows row known all is =
      let known_v = known v refl in
      let halves = laws.pieces v.part known_v.0 known_v.1 in
      one_last k (kept v.part) rows row
      ∙ ap (λ (r : Option Known). union (together_at k (kept v.part) rows) (part_in r)) is
      ∙ sym (put_to_all k (kept v.part) (cut v.part) rows halves.0 halves.1 all)
      ∙ ap (λ u. together_at k u rows) (laws.back v.part known_v.0 known_v.1)

  pub split_whole : (places : ℕ) (named : ℕ → PlaceLabel) (first first_then made : List Known)
      (rows : List (List Known)) → AreKnown label_of named first → Every AreNormal rows →
      first_then ≡ map kept_view first → made ≡ map split_view first →
      AreWhole places (first ∷ rows) → AreWhole places (first_then ∷ (rows ++ made ∷ []))
  split_whole places named first first_then made rows known all kept_is split_is whole = λ k few.
      ap (λ (o : Option Known). together_at k (part_in o) (rows ++ made ∷ []))
      (ap (λ (l : List Known). slice_get l k) kept_is ∙ slice_get-map kept_view first k)
      ∙ split_at k (slice_get first k) rows made
      (λ v is. let so = known k v is in (so.normal, so.live)) all
      (ap (λ (l : List Known). slice_get l k) split_is ∙ slice_get-map split_view first k)
      ∙ whole k few

-- ---- ports' passes, one after the other

pub record FilledSo (olds news : List Known) (unfilled rest : List Unfilled)
    (passes : List PortView) : Type 0 where
  pub receivers : map receiver_of passes ++ map receiver_in rest ≡ map receiver_in unfilled
  pub nothing : Every HasDoneNothing passes
  pub whole : (places : ℕ) → AreWhole places (olds ∷ []) →
      AreWhole places (news ∷ map known_in passes)
  pub unused : Every IsUnused olds → Every IsUnused news × Every HasUnused passes

pub none_filled : (olds : List Known) (unfilled : List Unfilled) (passes : List PortView) →
    passes ≡ [] → FilledSo olds olds unfilled unfilled passes
none_filled olds unfilled passes none =
    subst (λ (ps : List PortView). FilledSo olds olds unfilled unfilled ps) (sym none) (record {
      receivers = refl;
      nothing = tt;
      whole = λ places is. is;
      unused = λ all. (all, tt);
    })

-- the parts of rows of these locks are in normal form
pub rows_normal : (locks : List TableId) (named : ℕ → PlaceLabel) (ps : List PortView) →
    Every (IsRowOf locks named) ps → Every AreNormal (map known_in ps)
rows_normal locks named [] all = tt
rows_normal locks named (p ∷ ps) all =
    ((λ k v at. (all.0.known_so k v at).normal), rows_normal locks named ps all.1)

pub one_filled : Laws → (named : ℕ → PlaceLabel) (olds news afters : List Known)
    (unfilled rest more : List Unfilled) (u : Unfilled) (passes nexts : List PortView)
    (p : PortView) → FilledSo olds news unfilled rest passes → rest ≡ u ∷ more →
    AreKnown label_of named news → Every AreNormal (map known_in passes) →
    afters ≡ map kept_view news → p.trail.known ≡ map split_view news → IsFilled u p →
    nexts ≡ passes ++ p ∷ [] → FilledSo olds afters unfilled more nexts
one_filled laws named olds news afters unfilled rest more u passes nexts p so first known normal
    kept_is split_is filled pushed =
    subst (λ (ps : List PortView). FilledSo olds afters unfilled more ps) (sym pushed) (record {
      receivers =
          ap (λ (l : List PortReceiver). l ++ map receiver_in more)
          (map-append receiver_of passes (p ∷ []))
          ∙ append_assoc (map receiver_of passes) (receiver_of p ∷ []) (map receiver_in more)
          ∙ ap (λ (r : PortReceiver). map receiver_of passes ++ r ∷ map receiver_in more)
          filled.same
          ∙ ap (λ (l : List Unfilled). map receiver_of passes ++ map receiver_in l) (sym first)
          ∙ so.receivers;
      nothing = every_more HasDoneNothing passes p so.nothing filled.nothing;
      whole = λ places is.
          subst (λ (l : List (List Known)). AreWhole places (afters ∷ l))
          (sym (map-append known_in passes (p ∷ [])))
          (split_whole laws places named news afters p.trail.known (map known_in passes) known
          normal kept_is split_is (so.whole places is));
      unused = λ all.
          let was = so.unused all in (
            subst (Every IsUnused) (sym kept_is) (kept_unused news was.0),
            every_more HasUnused passes p was.1
                (subst (Every IsUnused) (sym split_is) (split_unused news was.0)),
          );
    })

pub all_filled : (olds news : List Known) (unfilled rest : List Unfilled)
    (passes : List PortView) → FilledSo olds news unfilled rest passes → rest ≡ [] →
    map receiver_of passes ≡ map receiver_in unfilled
all_filled olds news unfilled rest passes so none =
    sym (append-nil (map receiver_of passes))
    ∙ ap (λ (l : List Unfilled). map receiver_of passes ++ map receiver_in l) (sym none)
    ∙ so.receivers

-- ---- what is made ready

pub one_prepared : (all next : List Unfilled) (u : Unfilled) (r : PortReceiver)
    (rest more olds : List PortReceiver) → map receiver_in all ++ rest ≡ olds → rest ≡ r ∷ more →
    receiver_in u ≡ r → next ≡ all ++ u ∷ [] → map receiver_in next ++ more ≡ olds
one_prepared all next u r rest more olds was first same pushed =
    ap (λ (l : List Unfilled). map receiver_in l ++ more) pushed
    ∙ ap (λ (l : List PortReceiver). l ++ more) (map-append receiver_in all (u ∷ []))
    ∙ append_assoc (map receiver_in all) (receiver_in u ∷ []) more
    ∙ ap (λ (x : PortReceiver). map receiver_in all ++ x ∷ more) same
    ∙ ap (λ (l : List PortReceiver). map receiver_in all ++ l) (sym first)
    ∙ was
