-- All passes of a plane stay all its passes: where one goes on, where a port closes, and where all
-- of them meet.
use Rattle.std.proofs.Common.{◌≡◌, ◌≢◌, ◌<◌, ◌≤◌, ◌⊎◌, ◌∙◌, ◌++◌, ◌∷◌, [], ℕ, List, true, false, ap}
use Rattle.std.proofs.Common.{append-nil, append_assoc, arith, inl, inr, length, map, refl, subst}
use Rattle.std.proofs.Common.{sym}
use Rattle.std.specs.Prelude.{nat_eq, slice_index_or, slice_set}
use Rattle.std.specs.List.{AllZip, list_any, remove}
use Rattle.std.proofs.lemmas.Bool.{cases_Bool}
use Rattle.turn_lock.specs.Parts.{Tree}
use Rattle.place_rows.specs.Joining.{AreWhole}
use Rattle.place_rows.specs.Lists.{Every}
use Rattle.place_rows.specs.Rows.{Known}
use Rattle.inspector_script.specs.Scripts.{ScriptValue}
use Rattle.plane.specs.declared.plane.Plane.{Plane}
use Rattle.plane.specs.Meetings.{KeepsAll, Meets}
use Rattle.plane.specs.Opening.{all_rows, known_in}
use Rattle.plane.specs.Passes.{FeederView, IsFeederOf, IsPortOf, PortView}
use Rattle.plane.specs.Planes.{order_of, places_of}
use Rattle.plane.specs.Remaining.{times_in}
use Rattle.place_turns.specs.Trails.{parts_of}
use Rattle.live_runs.specs.Passes.{feeder_number}
use Rattle.live_passes.specs.Numbered.{AreAll, StaysFeeder, StaysPort, numbers_of, pass_among}
use Rattle.live_passes.specs.Numbered.{passes_in}
use Rattle.live_passes.specs.Views.{port_pass}
use Rattle.live_work.specs.declared.mind.Mind.{Mind}
use Rattle.live_work.specs.Minds.{IsMind}
use Rattle.nfq_live.proofs.PortNumbers.{among_others, among_own, is_once, not_among, of_port}
use Rattle.nfq_live.proofs.PortNumbers.{of_ports, others_stay, parted, there_once, times_apart}
use Rattle.nfq_live.proofs.PortNumbers.{times_both, times_more, times_moved, times_own, times_put}
use Rattle.nfq_live.proofs.PortNumbers.{zip_out}
use Rattle.nfq_live.proofs.WholeLocks.{IsNormalAt, UnionLaws, every_at, every_both, every_front}
use Rattle.nfq_live.proofs.WholeLocks.{every_out, every_put, every_so, feeder_normal, moved_whole}
use Rattle.nfq_live.proofs.WholeLocks.{port_normal, same_part}

abbrev pub WholeLaw : Type 0
WholeLaw = (places : ℕ) (olds news : List (List Known)) →
    map parts_of news ≡ map parts_of olds → AreWhole places olds → AreWhole places news

-- ---- each once

pub at_most_once : (plane : Plane) (feeder : FeederView) (ports closed : List PortView) →
    AreAll plane feeder ports closed → (port : ℕ) → times_in port (ports ++ closed) ≤ 1
at_most_once plane feeder ports closed all port =
    by (cases_Bool (list_any (nat_eq port) (order_of plane)))
  where
    by : (list_any (nat_eq port) (order_of plane) ≡ true)
        ⊎ (list_any (nat_eq port) (order_of plane) ≡ false) →
        times_in port (ports ++ closed) ≤ 1
    by (inl h) = omega (arith, all.each port h)
    by (inr h) = omega (arith, all.nobody port h)

-- no port has the feeder's number
pub not_feeder : (plane : Plane) (feeder : FeederView) (front : List PortView) (x : PortView)
    (back closed : List PortView) → AreAll plane feeder (front ++ x ∷ back) closed →
    x.port ≢ feeder_number
not_feeder plane feeder front x back closed all same =
    let here : 1 ≤ times_in feeder_number (front ++ x ∷ back) =
    subst (λ (q : ℕ). 1 ≤ times_in q (front ++ x ∷ back)) same (there_once front x back) in
    absurd (omega (
      arith,
      here,
      all.nobody feeder_number all.set_up.no_feeder,
      times_both feeder_number (front ++ x ∷ back) closed,
    ))

in_order_of : (plane : Plane) (feeder : FeederView) (ports closed : List PortView) (port : ℕ) →
    1 ≤ times_in port ports → AreAll plane feeder ports closed →
    list_any (nat_eq port) (order_of plane) ≡ true
in_order_of plane feeder ports closed port there all =
    by (cases_Bool (list_any (nat_eq port) (order_of plane)))
  where
    by : (list_any (nat_eq port) (order_of plane) ≡ true)
        ⊎ (list_any (nat_eq port) (order_of plane) ≡ false) →
        list_any (nat_eq port) (order_of plane) ≡ true
    by (inl h) = h
    by (inr h) = absurd (omega (arith, there, all.nobody port h, times_both port ports closed))

-- each is one of the plane's
pub in_order : (plane : Plane) (feeder : FeederView) (ports closed : List PortView) (at : ℕ)
    (d : PortView) → at < length ports → AreAll plane feeder ports closed →
    list_any (nat_eq (slice_index_or ports at d).port) (order_of plane) ≡ true
in_order plane feeder ports closed at d less all =
    in_order_of plane feeder ports closed (slice_index_or ports at d).port
    (let p = parted ports at less in
    subst (λ (x : PortView). 1 ≤ times_in x.port ports) (sym (p.here d))
    (subst (λ (l : List PortView). 1 ≤ times_in p.at.port l) (sym p.is)
    (there_once p.front p.at p.back))) all

-- ---- one pass goes on

numbers_put : (front : List PortView) (x y : PortView) (back : List PortView) →
    y.port ≡ x.port → numbers_of (front ++ y ∷ back) ≡ numbers_of (front ++ x ∷ back)
numbers_put [] x y back same = ap (λ (q : ℕ). q ∷ numbers_of back) same
numbers_put (p ∷ front) x y back same =
    ap (λ (l : List ℕ). p.port ∷ l) (numbers_put front x y back same)

parts_put : (front : List PortView) (x y : PortView) (back : List PortView)
    (more : List (List Known)) → parts_of y.trail.known ≡ parts_of x.trail.known →
    map parts_of (map known_in (front ++ y ∷ back) ++ more)
    ≡ map parts_of (map known_in (front ++ x ∷ back) ++ more)
parts_put [] x y back more same =
    ap (λ (l : List Tree). l ∷ map parts_of (map known_in back ++ more)) same
parts_put (p ∷ front) x y back more same =
    ap (λ (l : List (List Tree)). parts_of p.trail.known ∷ l)
    (parts_put front x y back more same)

-- A port's pass went on, as a pass of its port and its plane.
pub record GoesOnAt (plane : Plane) (feeder : FeederView) (ports news closed : List PortView)
    (old new : PortView) : Type 0 where
  pub all : AreAll plane feeder news closed
  pub numbers : numbers_of news ≡ numbers_of ports
  pub had : passes_in feeder (ports ++ closed) old.port ≡ port_pass old
  pub has : passes_in feeder (news ++ closed) old.port ≡ port_pass new
  pub others : (p : ℕ) → p ≢ old.port →
      passes_in feeder (news ++ closed) p ≡ passes_in feeder (ports ++ closed) p

-- A port closed.
pub record ClosesAt (plane : Plane) (feeder : FeederView)
    (ports news closed closed_then : List PortView) (old new : PortView) : Type 0 where
  pub all : AreAll plane feeder news closed_then
  pub had : passes_in feeder (ports ++ closed) old.port ≡ port_pass old
  pub has : passes_in feeder (news ++ closed_then) old.port ≡ port_pass new
  pub others : (p : ℕ) → p ≢ old.port →
      passes_in feeder (news ++ closed_then) p ≡ passes_in feeder (ports ++ closed) p
  pub gone : list_any (nat_eq old.port) (numbers_of news) ≡ false
  pub stay : (p : ℕ) → p ≢ old.port →
      list_any (nat_eq p) (numbers_of news) ≡ list_any (nat_eq p) (numbers_of ports)

module _ (plane : Plane) (feeder : FeederView) (closed : List PortView) where
  own_pass : (front : List PortView) (x : PortView) (back : List PortView) →
      AreAll plane feeder (front ++ x ∷ back) closed →
      passes_in feeder ((front ++ x ∷ back) ++ closed) x.port ≡ port_pass x
  own_pass front x back all =
      let ps = (front ++ x ∷ back) ++ closed in
      of_port feeder ps x.port (not_feeder plane feeder front x back closed all)
      ∙ ap (λ (l : List PortView). pass_among l x.port) (append_assoc front (x ∷ back) closed)
      ∙ among_own front x (back ++ closed)
      (subst (λ (l : List PortView). times_in x.port l ≤ 1) (append_assoc front (x ∷ back) closed)
      (at_most_once plane feeder (front ++ x ∷ back) closed all x.port))

  -- the pass at an index, by its number
  pub pass_at : (ports : List PortView) (at : ℕ) (d : PortView) → at < length ports →
      AreAll plane feeder ports closed →
      passes_in feeder (ports ++ closed) (slice_index_or ports at d).port
      ≡ port_pass (slice_index_or ports at d)
  pass_at ports at d less all =
      let p = parted ports at less in
      subst (λ (x : PortView). passes_in feeder (ports ++ closed) x.port ≡ port_pass x)
      (sym (p.here d))
      (subst (λ (l : List PortView). passes_in feeder (l ++ closed) p.at.port ≡ port_pass p.at)
      (sym p.is) (own_pass p.front p.at p.back
      (subst (λ (l : List PortView). AreAll plane feeder l closed) p.is all)))

  goes_on_apart : WholeLaw → (front : List PortView) (x y : PortView) (back : List PortView) →
      AreAll plane feeder (front ++ x ∷ back) closed → StaysPort plane x y →
      GoesOnAt plane feeder (front ++ x ∷ back) (front ++ y ∷ back) closed x y
  goes_on_apart law front x y back all stays = record {
    all = now;
    numbers = numbers_put front x y back stays.port;
    had = own_pass front x back all;
    has = subst (λ (q : ℕ). passes_in feeder ((front ++ y ∷ back) ++ closed) q ≡ port_pass y)
        stays.port (own_pass front y back now);
    others = λ p other. of_ports feeder ((front ++ x ∷ back) ++ closed)
        ((front ++ y ∷ back) ++ closed) p
        (ap (λ (l : List PortView). pass_among l p) (append_assoc front (y ∷ back) closed)
        ∙ among_others p front y (back ++ closed) (λ same. other (same ∙ stays.port))
        ∙ sym (among_others p front x (back ++ closed) other)
        ∙ ap (λ (l : List PortView). pass_among l p) (sym (append_assoc front (x ∷ back) closed)));
  }
    where
      same_times : (p : ℕ) → times_in p ((front ++ y ∷ back) ++ closed)
          ≡ times_in p ((front ++ x ∷ back) ++ closed)
      same_times p =
          ap (λ (l : List PortView). times_in p l) (append_assoc front (y ∷ back) closed)
          ∙ times_put p front x y (back ++ closed) stays.port
          ∙ ap (λ (l : List PortView). times_in p l) (sym (append_assoc front (x ∷ back) closed))

      now : AreAll plane feeder (front ++ y ∷ back) closed
      now = record {
        set_up = all.set_up;
        feeds = all.feeds;
        speak = every_put (IsPortOf plane) front x y back stays.of all.speak;
        spoke = all.spoke;
        each = λ p is. same_times p ∙ all.each p is;
        nobody = λ p none. same_times p ∙ all.nobody p none;
        whole = law (places_of plane) (all_rows feeder (front ++ x ∷ back) closed)
            (all_rows feeder (front ++ y ∷ back) closed)
            (ap (λ (l : List (List Tree)). parts_of feeder.trail.known ∷ l)
            (parts_put front x y back (map known_in closed) stays.parts)) all.whole;
      }

  pub goes_on_at : WholeLaw → (ports : List PortView) (at : ℕ) (old new : PortView) →
      at < length ports → old ≡ slice_index_or ports at old → AreAll plane feeder ports closed →
      StaysPort plane old new →
      GoesOnAt plane feeder ports (slice_set ports at new) closed old new
  goes_on_at law ports at old new less is all stays =
      let p = parted ports at less in
      let here : old ≡ p.at = is ∙ p.here old in
      subst (λ (x : PortView). GoesOnAt plane feeder ports (slice_set ports at new) closed x new)
      (sym here)
      (subst (λ (l : List PortView). GoesOnAt plane feeder l (slice_set ports at new) closed p.at
      new) (sym p.is)
      (subst (λ (l : List PortView). GoesOnAt plane feeder (p.front ++ p.at ∷ p.back) l closed p.at
      new) (sym (p.put new))
      (goes_on_apart law p.front p.at new p.back
      (subst (λ (l : List PortView). AreAll plane feeder l closed) p.is all)
      (subst (λ (x : PortView). StaysPort plane x new) here stays))))

  closes_apart : UnionLaws → (front : List PortView) (x y : PortView) (back : List PortView) →
      AreAll plane feeder (front ++ x ∷ back) closed → StaysPort plane x y →
      ClosesAt plane feeder (front ++ x ∷ back) (front ++ back) closed (closed ++ y ∷ []) x y
  closes_apart laws front x y back all stays = record {
    all = record {
      set_up = all.set_up;
      feeds = all.feeds;
      speak = speak;
      spoke = every_both (IsPortOf plane) closed (y ∷ []) all.spoke (stays.of, tt);
      each = λ p is. times_moved p front x y back closed stays.port ∙ all.each p is;
      nobody = λ p none. times_moved p front x y back closed stays.port ∙ all.nobody p none;
      whole = λ k less. moved_whole laws k feeder front x y back closed
          (feeder_normal plane k feeder all.feeds)
          (normal k front (every_front (IsPortOf plane) front (x ∷ back) all.speak))
          (normal k ((front ++ back) ++ closed)
          (every_both (IsPortOf plane) (front ++ back) closed speak all.spoke))
          (port_normal plane k x (every_at (IsPortOf plane) front x back all.speak))
          (port_normal plane k y stays.of)
          (same_part x.trail.known y.trail.known k stays.parts) ∙ all.whole k less;
    };
    had = own_pass front x back all;
    has = of_port feeder ((front ++ back) ++ (closed ++ y ∷ [])) x.port
        (not_feeder plane feeder front x back closed all)
        ∙ ap (λ (l : List PortView). pass_among l x.port)
        (sym (append_assoc (front ++ back) closed (y ∷ [])))
        ∙ subst (λ (q : ℕ). pass_among (((front ++ back) ++ closed) ++ y ∷ []) q ≡ port_pass y)
        stays.port (among_own ((front ++ back) ++ closed) y []
        (subst (λ (l : List PortView). times_in y.port l ≤ 1)
        (sym (append_assoc (front ++ back) closed (y ∷ [])))
        (omega (
          arith,
          times_moved y.port front x y back closed stays.port,
          at_most_once plane feeder (front ++ x ∷ back) closed all y.port,
        ))));
    others = λ p other. of_ports feeder ((front ++ x ∷ back) ++ closed)
        ((front ++ back) ++ (closed ++ y ∷ [])) p
        (ap (λ (l : List PortView). pass_among l p)
        (sym (append_assoc (front ++ back) closed (y ∷ [])))
        ∙ among_others p ((front ++ back) ++ closed) y [] (λ same. other (same ∙ stays.port))
        ∙ ap (λ (l : List PortView). pass_among l p)
        (append-nil ((front ++ back) ++ closed) ∙ append_assoc front back closed)
        ∙ sym (among_others p front x (back ++ closed) other)
        ∙ ap (λ (l : List PortView). pass_among l p) (sym (append_assoc front (x ∷ back) closed)));
    gone = not_among x.port (front ++ back) (omega (
      arith,
      times_apart x.port front x back,
      times_own x.port x refl,
      times_both x.port (front ++ x ∷ back) closed,
      at_most_once plane feeder (front ++ x ∷ back) closed all x.port,
    ));
    stay = λ p other. others_stay p front x back other;
  }
    where
      speak : Every (IsPortOf plane) (front ++ back)
      speak = every_out (IsPortOf plane) front x back all.speak

      normal : (k : ℕ) (ps : List PortView) → Every (IsPortOf plane) ps → Every (IsNormalAt k) ps
      normal k ps are = every_so (IsPortOf plane) (IsNormalAt k) (port_normal plane k) ps are

  pub closes_at : UnionLaws → (ports : List PortView) (at : ℕ) (old new : PortView) →
      at < length ports → old ≡ slice_index_or ports at old → AreAll plane feeder ports closed →
      StaysPort plane old new →
      ClosesAt plane feeder ports (remove ports at) closed (closed ++ new ∷ []) old new
  closes_at laws ports at old new less is all stays =
      let p = parted ports at less in
      let here : old ≡ p.at = is ∙ p.here old in
      let closed_then = closed ++ new ∷ [] in
      subst (λ (x : PortView). ClosesAt plane feeder ports (remove ports at) closed closed_then x
      new) (sym here)
      (subst (λ (l : List PortView). ClosesAt plane feeder l (remove ports at) closed closed_then
      p.at new) (sym p.is)
      (subst (λ (l : List PortView). ClosesAt plane feeder (p.front ++ p.at ∷ p.back) l closed
      closed_then p.at new) (sym p.out)
      (closes_apart laws p.front p.at new p.back
      (subst (λ (l : List PortView). AreAll plane feeder l closed) p.is all)
      (subst (λ (x : PortView). StaysPort plane x new) here stays))))

-- ---- the feeder's pass goes on

pub feeder_goes_on : WholeLaw → (plane : Plane) (old new : FeederView)
    (ports closed : List PortView) → StaysFeeder plane old new → AreAll plane old ports closed →
    AreAll plane new ports closed
feeder_goes_on law plane old new ports closed stays all = record {
  set_up = all.set_up;
  feeds = stays.of;
  speak = all.speak;
  spoke = all.spoke;
  each = all.each;
  nobody = all.nobody;
  whole = law (places_of plane) (all_rows old ports closed) (all_rows new ports closed)
      (ap (λ (l : List Tree). l ∷ map parts_of (map known_in ports ++ map known_in closed))
      stays.parts) all.whole;
}

-- ---- all passes meet

pub numbers_kept : (olds news : List PortView) → AllZip KeepsAll olds news →
    numbers_of news ≡ numbers_of olds
numbers_kept [] [] all = refl
numbers_kept [] (n ∷ news) all = absurd all
numbers_kept (o ∷ olds) [] all = absurd all
numbers_kept (o ∷ olds) (n ∷ news) all =
    ap (λ (p : PortView). p.port ∷ numbers_of news) all.0
    ∙ ap (λ (l : List ℕ). o.port ∷ l) (numbers_kept olds news all.1)

times_kept : (port : ℕ) (olds news : List PortView) → AllZip KeepsAll olds news →
    times_in port news ≡ times_in port olds
times_kept port [] [] all = refl
times_kept port [] (n ∷ news) all = absurd all
times_kept port (o ∷ olds) [] all = absurd all
times_kept port (o ∷ olds) (n ∷ news) all =
    omega (
      arith,
      times_more port o olds,
      times_more port n news,
      ap (λ (p : PortView). is_once port p) all.0,
      times_kept port olds news all.1,
    )

pub all_meet : (plane : Plane) (feeder feeder_then : FeederView)
    (ports ports_then closed closed_then : List PortView) → AreAll plane feeder ports closed →
    IsFeederOf plane feeder_then → Every (IsPortOf plane) ports_then →
    Every (IsPortOf plane) closed_then →
    Meets (places_of plane) feeder feeder_then ports ports_then closed closed_then →
    AreAll plane feeder_then ports_then closed_then
all_meet plane feeder feeder_then ports ports_then closed closed_then all feeds speak spoke meets =
    record {
      set_up = all.set_up;
      feeds = feeds;
      speak = speak;
      spoke = spoke;
      each = λ p is. same_times p ∙ all.each p is;
      nobody = λ p none. same_times p ∙ all.nobody p none;
      whole = λ k less. (meets.rows.each k less).parts ∙ all.whole k less;
    }
  where
    same_times : (p : ℕ) →
        times_in p (ports_then ++ closed_then) ≡ times_in p (ports ++ closed)
    same_times p =
        omega (
          arith,
          times_both p ports_then closed_then,
          times_both p ports closed,
          times_kept p ports ports_then meets.each_port,
          times_kept p closed closed_then meets.each_closed,
        )

-- of lists that are the same
pub meets_of : (plane : Plane) (feeder feeder_then : FeederView)
    (olds ports news later closed_olds closed closed_news closed_later : List PortView) →
    olds ≡ ports → later ≡ news → closed_olds ≡ closed → closed_later ≡ closed_news →
    Meets (places_of plane) feeder feeder_then olds news closed_olds closed_news →
    Meets (places_of plane) feeder feeder_then ports later closed closed_later
meets_of plane feeder feeder_then olds ports news later closed_olds closed closed_news closed_later
    same then_same closed_same closed_then meets =
    subst (λ (l : List PortView). Meets (places_of plane) feeder feeder_then l later closed
    closed_later) same
    (subst (λ (l : List PortView). Meets (places_of plane) feeder feeder_then olds l closed
    closed_later) (sym then_same)
    (subst (λ (l : List PortView). Meets (places_of plane) feeder feeder_then olds news l
    closed_later) closed_same
    (subst (λ (l : List PortView). Meets (places_of plane) feeder feeder_then olds news closed_olds
    l) (sym closed_then) meets)))

-- what is kept beside the ports' passes is their own still
mind_kept : (script : ScriptValue) (old new : PortView) (m : Mind) → IsMind script old m →
    KeepsAll old new → IsMind script new m
mind_kept script old new m is keeps =
    subst (λ (p : PortView). IsMind script p m) (sym keeps)
    (record { port = is.port; place = is.place; counted = is.counted; heard = is.heard })

pub minds_kept : (script : ScriptValue) (olds news : List PortView) (ms : List Mind) →
    AllZip KeepsAll olds news → AllZip (IsMind script) olds ms → AllZip (IsMind script) news ms
minds_kept script [] [] ms all are = are
minds_kept script [] (n ∷ news) ms all are = absurd all
minds_kept script (o ∷ olds) [] ms all are = absurd all
minds_kept script (o ∷ olds) (n ∷ news) [] all are = absurd are
minds_kept script (o ∷ olds) (n ∷ news) (m ∷ ms) all are =
    (mind_kept script o n m are.0 all.0, minds_kept script olds news ms all.1 are.1)

pub minds_out : (script : ScriptValue) (ports news : List PortView) (ms ns : List Mind)
    (at : ℕ) → news ≡ remove ports at → ns ≡ remove ms at → AllZip (IsMind script) ports ms →
    AllZip (IsMind script) news ns
minds_out script ports news ms ns at same minds are =
    subst (λ (l : List PortView). AllZip (IsMind script) l ns) (sym same)
    (subst (λ (l : List Mind). AllZip (IsMind script) (remove ports at) l) (sym minds)
    (zip_out (IsMind script) ports ms at are))
