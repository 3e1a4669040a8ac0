-- All passes that meet, by number: each has then seen one list at each place, and none of what is
-- new is its own.
use Rattle.std.proofs.Common.{◌++◌, ◌<◌, ◌∙◌, ◌∷◌, ◌≡◌, ◌≤◌, ◌⊎◌, List, Some, [], ap}
use Rattle.std.proofs.Common.{append-nil, arith, false, inl, inr, length, map, refl}
use Rattle.std.proofs.Common.{subst, suc, sym, true, zero, ℕ}
use Rattle.std.proofs.lemmas.Bool.{cases_Bool, cases_lt}
use Rattle.std.proofs.lemmas.List.{length-map, map-append}
use Rattle.std.proofs.lemmas.Option.{slice_get_past}
use Rattle.std.specs.List.{AllZip, list_any}
use Rattle.std.specs.Prelude.{◌==◌, nat_eq, slice_get}
use Rattle.atomic_table.specs.Seated.{TableId}
use Rattle.mailbox.specs.declared.view.Post.{Post}
use Rattle.packet_entry.specs.declared.packet.Card.{Card}
use Rattle.histories.specs.declared.histories.Lost.{Lost}
use Rattle.packet_moves.specs.declared.setting.Setting.{Setting}
use Rattle.histories.specs.declared.entry.Entry.{Entry}
use Rattle.place_rows.specs.Joining.{Begins}
use Rattle.place_rows.specs.Lists.{Every}
use Rattle.place_rows.specs.Meeting.{Sees, SharesAlone}
use Rattle.place_rows.specs.Rows.{Known, id_of}
use Rattle.place_rows.specs.Shares.{IsBalanced}
use Rattle.plane.specs.Meetings.{KeepsAll, Meets}
use Rattle.plane.specs.Opening.{all_rows, known_in}
use Rattle.place_turns.specs.Passes.{AreOf}
use Rattle.plane.specs.Passes.{FeederView, IsFeederOf, IsPortOf, PortView}
use Rattle.plane.specs.Planes.{order_of, places_of, setting_of}
use Rattle.plane.specs.Remaining.{times_in}
use Rattle.plane.specs.declared.plane.Plane.{Plane}
use Rattle.live_runs.specs.Passes.{AreMet, Pass, feeder_number, is_pass, seen_at}
use Rattle.live_runs.specs.Seen.{all_theirs, entries}
use Rattle.live_passes.specs.Numbered.{AreAll, pass_among, passes_in, rows_in}
use Rattle.live_passes.specs.Views.{HasMetAt, HaveSeenOwn, feeder_pass, port_pass, seen_of}
use Rattle.live_passes.specs.Views.{shares_of}
use Rattle.live_passes.proofs.PortOccurrences.{found}
use Rattle.live_passes.proofs.NewPasses.{port_number}

-- the law of one pass
abbrev pub MetLaw : Type 0
MetLaw = (k : ℕ) (list : List Entry) (old new : List Known) (v w : Known) →
    slice_get old k ≡ Some v → slice_get new k ≡ Some w → SharesAlone old new → Sees k list new →
    Begins k list old → HaveSeenOwn old → HasMetAt k list old new

-- ---- lists of passes

pub zip_append : {X : Type 0} (R : X → X → Type 0) (xs ys zs us : List X) → AllZip R xs ys →
    AllZip R zs us → AllZip R (xs ++ zs) (ys ++ us)
zip_append R [] [] zs us one two = two
zip_append R [] (y ∷ ys) zs us one two = absurd one
zip_append R (x ∷ xs) [] zs us one two = absurd one
zip_append R (x ∷ xs) (y ∷ ys) zs us one two = (one.0, zip_append R xs ys zs us one.1 two)

pub every_append : {X : Type 0} (P : X → Type 0) (xs ys : List X) → Every P xs → Every P ys →
    Every P (xs ++ ys)
every_append P [] ys one two = two
every_append P (x ∷ xs) ys one two = (one.0, every_append P xs ys one.1 two)

pub item_at : {X : Type 0} (xs : List X) (k : ℕ) → k < length xs →
    (x : X) × (slice_get xs k ≡ Some x)
item_at [] k h = absurd (omega arith)
item_at (x ∷ xs) zero h = (x, refl)
item_at (x ∷ xs) (suc k) h = item_at xs k (omega arith)

-- what a port's pass, or the feeder's, is to the plane
abbrev pub IsKnownOf : Plane → List Known → Type 0
IsKnownOf plane known = HaveSeenOwn known × (length known ≡ places_of plane)

module _ (law : MetLaw) (plane : Plane) (k : ℕ) where
  -- at a place that there is
  pub row_met : (list : List Entry) (old new : List Known) → k < places_of plane →
      IsKnownOf plane old → SharesAlone old new → Begins k list old → Sees k list new →
      HasMetAt k list old new
  row_met list old new less known alone begins sees =
      let v = item_at old k (omega (arith, less, known.1)) in
      let w = item_at new k (omega (arith, less, known.1, alone.as_many)) in
      law k list old new v.0 w.0 v.1 w.1 alone sees begins known.0

  -- and at one that there isn't
  pub row_beyond : (old new : List Known) → places_of plane ≤ k → IsKnownOf plane old →
      SharesAlone old new → HasMetAt k [] old new
  row_beyond old new most known alone =
      let had : shares_of old k ≡ [] =
      ap seen_of (slice_get_past old k (omega (arith, most, known.1))) in
      let has : shares_of new k ≡ [] =
      ap seen_of (slice_get_past new k (omega (arith, most, known.1, alone.as_many))) in
      record {
        rest = [];
        longer = has ∙ sym had ∙ sym (append-nil (shares_of old k));
        met = ap entries has;
      }

  -- ports that met, with what holds of each
  abbrev pub Speaks : List Entry → PortView → PortView → Type 0
  Speaks list o n = HasMetAt k list o.trail.known n.trail.known

  pub ports_met : (list : List Entry) (olds news : List PortView) → k < places_of plane →
      Every (λ (p : PortView). IsKnownOf plane p.trail.known) olds →
      AllZip SharesAlone (map known_in olds) (map known_in news) →
      Every (Begins k list) (map known_in olds) → Every (Sees k list) (map known_in news) →
      AllZip (Speaks list) olds news
  ports_met list [] [] less known alone begins sees = tt
  ports_met list [] (n ∷ news) less known alone begins sees = absurd alone
  ports_met list (o ∷ olds) [] less known alone begins sees = absurd alone
  ports_met list (o ∷ olds) (n ∷ news) less known alone begins sees = (
    row_met list o.trail.known n.trail.known less known.0 alone.0 begins.0 sees.0,
    ports_met list olds news less known.1 alone.1 begins.1 sees.1,
  )

  pub ports_beyond : (olds news : List PortView) → places_of plane ≤ k →
      Every (λ (p : PortView). IsKnownOf plane p.trail.known) olds →
      AllZip SharesAlone (map known_in olds) (map known_in news) →
      AllZip (Speaks []) olds news
  ports_beyond [] [] most known alone = tt
  ports_beyond [] (n ∷ news) most known alone = absurd alone
  ports_beyond (o ∷ olds) [] most known alone = absurd alone
  ports_beyond (o ∷ olds) (n ∷ news) most known alone = (
    row_beyond o.trail.known n.trail.known most known.0 alone.0,
    ports_beyond olds news most known.1 alone.1,
  )

-- both of two facts of each
pub zip_both : {X : Type 0} (R S : X → X → Type 0) (xs ys : List X) → AllZip R xs ys →
    AllZip S xs ys → AllZip (λ x y. R x y × S x y) xs ys
zip_both R S [] [] one two = tt
zip_both R S [] (y ∷ ys) one two = absurd one
zip_both R S (x ∷ xs) [] one two = absurd one
zip_both R S (x ∷ xs) (y ∷ ys) one two = ((one.0, two.0), zip_both R S xs ys one.1 two.1)

-- what doesn't change of any
pub kept_among : {X : Type 0} (f : Pass → X) →
    ((o n : PortView) → KeepsAll o n → f (port_pass n) ≡ f (port_pass o)) →
    (olds news : List PortView) → AllZip KeepsAll olds news → (port : ℕ) →
    f (pass_among news port) ≡ f (pass_among olds port)
kept_among f same [] [] all port = refl
kept_among f same [] (n ∷ news) all port = absurd all
kept_among f same (o ∷ olds) [] all port = absurd all
kept_among f same (o ∷ olds) (n ∷ news) all port =
    by (cases_Bool (o.port == port)) (kept_among f same olds news all.1 port)
  where
    number : n.port ≡ o.port
    number = ap (λ (p : PortView). p.port) all.0

    by : ((o.port == port) ≡ true) ⊎ ((o.port == port) ≡ false) →
        f (pass_among news port) ≡ f (pass_among olds port) →
        f (pass_among (n ∷ news) port) ≡ f (pass_among (o ∷ olds) port)
    by (inl h) rest =
        rw (h, ap (λ q. q == port) number ∙ h) (same o n all.0)
    by (inr h) rest = rw (h, ap (λ q. q == port) number ∙ h) rest

-- a number is the feeder's, or a port's
pub of_feeder : (feeder : FeederView) (ps : List PortView) (p : ℕ) →
    (p == feeder_number) ≡ true → passes_in feeder ps p ≡ feeder_pass feeder
of_feeder feeder ps p h = rw h refl

pub of_port : (feeder : FeederView) (ps : List PortView) (p : ℕ) →
    (p == feeder_number) ≡ false → passes_in feeder ps p ≡ pass_among ps p
of_port feeder ps p h = rw h refl

-- a row of the plane has as many passes as there are places
pub row_length : (plane : Plane) (locks : List TableId) (known : List Known) →
    AreOf plane.shared locks known → length known ≡ places_of plane
row_length plane locks known of =
    of.as_many ∙ ap length of.locks_are ∙ length-map plane.shared.locks.items id_of
    ∙ plane.shared.sized

abbrev pub all_own : (s : Setting) (fed : List Card) (known : List Known) (lost : List Lost) →
    IsBalanced s fed known lost → HaveSeenOwn known
all_own s fed known lost is = record { placed = is.placed; legal = is.legal }

pub port_known : (plane : Plane) (p : PortView) → IsPortOf plane p →
    IsKnownOf plane p.trail.known
port_known plane p is = (
  all_own (setting_of plane) [] p.trail.known p.trail.lost is.balanced,
  row_length plane p.locks p.trail.known is.of,
)

pub feeder_known : (plane : Plane) (p : FeederView) → IsFeederOf plane p →
    IsKnownOf plane p.trail.known
feeder_known plane p is = (
  all_own (setting_of plane) p.fed p.trail.known p.trail.lost is.balanced,
  row_length plane p.locks p.trail.known is.of,
)

pub ports_known : (plane : Plane) (ps : List PortView) → Every (IsPortOf plane) ps →
    Every (λ (p : PortView). IsKnownOf plane p.trail.known) ps
ports_known plane [] all = tt
ports_known plane (p ∷ ps) all = (port_known plane p all.0, ports_known plane ps all.1)

module _ (law : MetLaw) (plane : Plane) (feeder feeder_then : FeederView)
    (ports ports_then closed closed_then : List PortView)
    (all : AreAll plane feeder ports closed)
    (meets : Meets (places_of plane) feeder feeder_then ports ports_then closed closed_then) where
  olds : List PortView
  olds = ports ++ closed

  news : List PortView
  news = ports_then ++ closed_then

  rows_are : all_rows feeder ports closed ≡ rows_in feeder olds
  unfolding olds
  rows_are = ap (λ (rows : List (List Known)). feeder.trail.known ∷ rows)
      (sym (map-append known_in ports closed))

  rows_then : all_rows feeder_then ports_then closed_then ≡ rows_in feeder_then news
  unfolding news
  rows_then = ap (λ (rows : List (List Known)). feeder_then.trail.known ∷ rows)
      (sym (map-append known_in ports_then closed_then))

  keep : AllZip KeepsAll olds news
  unfolding olds news
  keep = zip_append KeepsAll ports ports_then closed closed_then meets.each_port meets.each_closed

  known : Every (λ (p : PortView). IsKnownOf plane p.trail.known) olds
  unfolding olds
  known = ports_known plane (ports ++ closed)
      (every_append (IsPortOf plane) ports closed all.speak all.spoke)

  shares : AllZip SharesAlone (rows_in feeder olds) (rows_in feeder_then news)
  shares = subst (λ rows. AllZip SharesAlone (rows_in feeder olds) rows) rows_then
      (subst (λ rows. AllZip SharesAlone rows (all_rows feeder_then ports_then closed_then))
      rows_are meets.rows.shares)

  -- the list that all have then seen at a place
  record MetAt (k : ℕ) : Type 0 where
    list : List Entry
    feeds : HasMetAt k list feeder.trail.known feeder_then.trail.known
    speak : AllZip (Speaks law plane k list) olds news

  met_at : (k : ℕ) → MetAt k
  met_at k = elim (cases_lt k (places_of plane)) [
    | inl less ↦ (let m = meets.rows.each k less in
        let begins = subst (Every (Begins k m.longest)) rows_are m.behind in
        let sees = subst (Every (Sees k m.longest)) rows_then m.seen in
        record {
          list = m.longest;
          feeds = row_met law plane k m.longest feeder.trail.known feeder_then.trail.known less
              (feeder_known plane feeder all.feeds) shares.0 begins.0 sees.0;
          speak = ports_met law plane k m.longest olds news less known shares.1 begins.1 sees.1;
        })
    | inr most ↦ record {
      list = [];
      feeds = row_beyond law plane k feeder.trail.known feeder_then.trail.known most
          (feeder_known plane feeder all.feeds) shares.0;
      speak = ports_beyond law plane k olds news most known shares.1;
    }
  ]

  -- one pass, by its number
  record PassMet (k p : ℕ) (list : List Entry) : Type 0 where
    rest : List Entry
    longer : seen_at (passes_in feeder_then news) k p
        ≡ seen_at (passes_in feeder olds) k p ++ all_theirs rest
    met : entries (seen_at (passes_in feeder_then news) k p) ≡ list

  at_least : (p : ℕ) → list_any (nat_eq p) (order_of plane) ≡ true → times_in p olds ≡ 1
  unfolding olds
  at_least p is = all.each p is

  port_met : (k p : ℕ) → list_any (nat_eq p) (order_of plane) ≡ true →
      (p == feeder_number) ≡ false → PassMet k p (met_at k).list
  port_met k p is other =
      let m = met_at k in
      let f = found (λ o n. KeepsAll o n × Speaks law plane k m.list o n)
      (λ o n so. ap (λ (q : PortView). q.port) so.0) p olds news
      (zip_both KeepsAll (Speaks law plane k m.list) olds news keep m.speak)
      (omega (arith, at_least p is)) in
      let had = of_port feeder olds p other ∙ f.had in
      let has = of_port feeder_then news p other ∙ f.has in
      record {
        rest = f.so.1.rest;
        longer = ap (λ (q : Pass). q.shares k) has ∙ f.so.1.longer
            ∙ ap (λ (q : Pass). q.shares k ++ all_theirs f.so.1.rest) (sym had);
        met = ap (λ (q : Pass). entries (q.shares k)) has ∙ f.so.1.met;
      }

  pass_met : (k p : ℕ) → is_pass (order_of plane) p ≡ true → PassMet k p (met_at k).list
  pass_met k p is = elim (cases_Bool (p == feeder_number)) [
    | inl h ↦ (let m = met_at k in
        let had = of_feeder feeder olds p h in
        let has = of_feeder feeder_then news p h in
        record {
          rest = m.feeds.rest;
          longer = ap (λ (q : Pass). q.shares k) has ∙ m.feeds.longer
              ∙ ap (λ (q : Pass). q.shares k ++ all_theirs m.feeds.rest) (sym had);
          met = ap (λ (q : Pass). entries (q.shares k)) has ∙ m.feeds.met;
        })
    | inr h ↦ port_met k p (port_number (order_of plane) p is h) h
  ]

  rest_by : (k p : ℕ) → (is_pass (order_of plane) p ≡ true) ⊎ (is_pass (order_of plane) p ≡ false) →
      List Entry
  rest_by k p (inl h) = (pass_met k p h).rest
  rest_by k p (inr h) = []

  longer_by : (k p : ℕ) (x : (is_pass (order_of plane) p ≡ true)
      ⊎ (is_pass (order_of plane) p ≡ false)) → is_pass (order_of plane) p ≡ true →
      seen_at (passes_in feeder_then news) k p
      ≡ seen_at (passes_in feeder olds) k p ++ all_theirs (rest_by k p x)
  unfolding rest_by
  longer_by k p (inl h) is = (pass_met k p h).longer
  longer_by k p (inr differ) is = absurd (cc (sym is ∙ differ))

  same_of : {X : Type 0} (f : Pass → X) → f (feeder_pass feeder_then) ≡ f (feeder_pass feeder) →
      ((o n : PortView) → KeepsAll o n → f (port_pass n) ≡ f (port_pass o)) → (p : ℕ) →
      f (passes_in feeder_then news p) ≡ f (passes_in feeder olds p)
  same_of f first each p = elim (cases_Bool (p == feeder_number)) [
    | inl h ↦ ap f (of_feeder feeder_then news p h) ∙ first
        ∙ ap f (sym (of_feeder feeder olds p h))
    | inr h ↦ ap f (of_port feeder_then news p h) ∙ kept_among f each olds news keep p
        ∙ ap f (sym (of_port feeder olds p h))
  ]

  pub all_met : AreMet (order_of plane) (passes_in feeder (ports ++ closed))
      (passes_in feeder_then (ports_then ++ closed_then))
  unfolding olds news
  all_met = record {
    whole = λ k. (met_at k).list;
    rest = λ k p. rest_by k p (cases_Bool (is_pass (order_of plane) p));
    longer = λ k p is. longer_by k p (cases_Bool (is_pass (order_of plane) p)) is;
    met = λ k p is. (pass_met k p is).met;
    dids = same_of (λ (q : Pass). q.dids) refl (λ o n so. ap (λ (q : PortView). q.dids) so);
    letters = same_of (λ (q : Pass). q.letters) refl
        (λ o n so. ap (λ (q : PortView). map (λ (post : Post). post.letter) q.receiver.received)
        so);
  }
