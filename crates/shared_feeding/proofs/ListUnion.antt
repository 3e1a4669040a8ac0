-- What two passes saw and did at a queue is put into one list, where their lists are joined.
use Rattle.std.proofs.Common.{◌++◌, ◌∙◌, ◌∷◌, ◌≡◌, List, Option, [], ap, refl, subst, sym, ℕ}
use Rattle.std.specs.Prelude.{flat_map}
use Rattle.queue_core.specs.State.{Bound}
use Rattle.histories.specs.History.{replay_from}
use Rattle.histories.specs.declared.entry.Entry.{Entry}
use Rattle.script_lines.specs.declared.line.Down.{Down}
use Rattle.run_parts.specs.Feeder.{Fell, IsItem, Passed, Was}
use Rattle.live_runs.specs.Seen.{Ours, Seen, Theirs, entry}
use Rattle.shared_feeding.specs.Joining.{IsJoinedOf, IsOneMark}
use Rattle.shared_feeding.specs.Sights.{AreSightsFrom, IsSight, Own, OwnAreOf, Saw}
use Rattle.shared_feeding.specs.Sights.{Sight, seen_of}
use Rattle.shared_feeding.proofs.ShareGrowth.{under}

-- a function of what is one's own says nothing of others' entries
abbrev pub IsBlank : {X : Type 0} → (Sight → List X) → Type 0
IsBlank g = (e : Entry) → g (Saw e) ≡ []

-- it says nothing of any of these
abbrev pub SaysNone : {X : Type 0} → (Sight → List X) → List Sight → Type 0
SaysNone g [] = Unit {0}
SaysNone g (s ∷ ss) = (g s ≡ []) × SaysNone g ss

pub says_none : {X : Type 0} (g : Sight → List X) (ss : List Sight) → SaysNone g ss →
    flat_map g ss ≡ []
says_none g [] none = refl
says_none g (s ∷ ss) none = ap (λ l. l ++ flat_map g ss) none.0 ∙ says_none g ss none.1

-- what says nothing of the one list says of both what it says of the other
abbrev pub Leaves : Type 0 → List Sight → List Sight → List Sight → Type 0
Leaves X ss ts us =
    (g : Sight → List X) → IsBlank g → SaysNone g ts → flat_map g us ≡ flat_map g ss

-- both lists in one
pub record Both (Frame : ℕ → Type 0) (q : Option Bound) (ss ts : List Sight) (zs : List Seen)
    : Type 0 where
  pub sights : List Sight
  pub seen : flat_map seen_of sights ≡ zs
  pub each : AreSightsFrom q sights
  pub own : OwnAreOf Frame sights
  pub lines_one : Leaves Down ss ts sights
  pub lines_two : Leaves Down ts ss sights
  pub times_one : Leaves ℕ ss ts sights
  pub times_two : Leaves ℕ ts ss sights

abbrev IsTheirs : Seen → Type 0
IsTheirs (Ours e) = ⊥
IsTheirs (Theirs e) = Unit {0}

-- a sight that is an entry, with this mark
record IsAt (s : Sight) (m : Seen) : Type 0 where
  pub seen : seen_of s ≡ m ∷ []
  pub under_it : under s ≡ entry m ∷ []
  pub saw : IsTheirs m → s ≡ Saw (entry m)

saw_at : (e : Entry) → IsAt (Saw e) (Theirs e)
saw_at e = record { seen = refl; under_it = refl; saw = λ is. refl }

was_at : (e : Entry) → IsAt (Own (Was e)) (Ours e)
was_at e = record { seen = refl; under_it = refl; saw = λ wrong. absurd wrong }

fell_at : (d : Down) (e : Entry) → IsAt (Own (Fell d e)) (Ours e)
fell_at d e = record { seen = refl; under_it = refl; saw = λ wrong. absurd wrong }

own_first : (Frame : ℕ → Type 0) (s : Sight) (ss : List Sight) → OwnAreOf Frame (s ∷ []) →
    OwnAreOf Frame ss → OwnAreOf Frame (s ∷ ss)
own_first Frame (Saw e) ss one are = are
own_first Frame (Own i) ss one are = (one.0, are)

module _ (Frame : ℕ → Type 0) where
  -- which of the two lists is called the first is the same
  exchanged : (q : Option Bound) (ss ts : List Sight) (zs : List Seen) → Both Frame q ss ts zs →
      Both Frame q ts ss zs
  exchanged q ss ts zs is = record {
    sights = is.sights;
    seen = is.seen;
    each = is.each;
    own = is.own;
    lines_one = is.lines_two;
    lines_two = is.lines_one;
    times_one = is.times_two;
    times_two = is.times_one;
  }

  -- ---- one sight more in front

  -- a line of the one passes first, or of the other
  one_passes : (q : Option Bound) (d : Down) (ss ts : List Sight) (zs : List Seen) →
      IsItem q (Passed d) → Frame d.after → Both Frame q ss ts zs →
      Both Frame q (Own (Passed d) ∷ ss) ts zs
  one_passes q d ss ts zs here of is = record {
    sights = Own (Passed d) ∷ is.sights;
    seen = is.seen;
    each = (here, is.each);
    own = (of, is.own);
    lines_one = λ g blank none. ap (λ l. g (Own (Passed d)) ++ l) (is.lines_one g blank none);
    lines_two = λ g blank none. ap (λ l. l ++ flat_map g is.sights) none.0
        ∙ is.lines_two g blank none.1;
    times_one = λ g blank none. ap (λ l. g (Own (Passed d)) ++ l) (is.times_one g blank none);
    times_two = λ g blank none. ap (λ l. l ++ flat_map g is.sights) none.0
        ∙ is.times_two g blank none.1;
  }

  two_passes : (q : Option Bound) (d : Down) (ss ts : List Sight) (zs : List Seen) →
      IsItem q (Passed d) → Frame d.after → Both Frame q ss ts zs →
      Both Frame q ss (Own (Passed d) ∷ ts) zs
  two_passes q d ss ts zs here of is =
      exchanged q (Own (Passed d) ∷ ts) ss zs
      (one_passes q d ts ss zs here of (exchanged q ss ts zs is))

  right : {X : Type 0} (g : Sight → List X) (x y : Sight) (ts us : List Sight) → g x ≡ [] →
      g y ≡ [] → flat_map g us ≡ flat_map g ts → g x ++ flat_map g us ≡ g y ++ flat_map g ts
  right g x y ts us none_x none_y rest =
      ap (λ l. l ++ flat_map g us) (none_x ∙ sym none_y) ∙ ap (λ l. g y ++ l) rest

  blank_at : {X : Type 0} (g : Sight → List X) (s : Sight) (e : Entry) → IsBlank g →
      s ≡ Saw e → g s ≡ []
  blank_at g s e blank is = ap g is ∙ blank e

  -- the first one's sight is kept
  keep_one : (q : Option Bound) (x y : Sight) (e : Entry) (m z : Seen) (ss ts : List Sight)
      (zs : List Seen) → IsAt x m → y ≡ Saw e → z ≡ m → IsSight q x → OwnAreOf Frame (x ∷ []) →
      Both Frame (replay_from q (entry m ∷ [])) ss ts zs →
      Both Frame q (x ∷ ss) (y ∷ ts) (z ∷ zs)
  keep_one q x y e m z ss ts zs at saw mark here of is = record {
    sights = x ∷ is.sights;
    seen = ap (λ l. l ++ flat_map seen_of is.sights) at.seen ∙ ap (λ l. m ∷ l) is.seen
        ∙ ap (λ w. w ∷ zs) (sym mark);
    each = (
      here,
      subst (λ es. AreSightsFrom (replay_from q es) is.sights) (sym at.under_it)
          is.each,
    );
    own = own_first Frame x is.sights of is.own;
    lines_one = λ g blank none. ap (λ l. g x ++ l) (is.lines_one g blank none.1);
    lines_two = λ g blank none. right g x y ts is.sights none.0 (blank_at g y e blank saw)
        (is.lines_two g blank none.1);
    times_one = λ g blank none. ap (λ l. g x ++ l) (is.times_one g blank none.1);
    times_two = λ g blank none. right g x y ts is.sights none.0 (blank_at g y e blank saw)
        (is.times_two g blank none.1);
  }

  -- the second one's is
  keep_two : (q : Option Bound) (x y : Sight) (e : Entry) (n z : Seen) (ss ts : List Sight)
      (zs : List Seen) → IsAt y n → x ≡ Saw e → z ≡ n → IsSight q y → OwnAreOf Frame (y ∷ []) →
      Both Frame (replay_from q (entry n ∷ [])) ss ts zs →
      Both Frame q (x ∷ ss) (y ∷ ts) (z ∷ zs)
  keep_two q x y e n z ss ts zs at saw mark here of is =
      exchanged q (y ∷ ts) (x ∷ ss) (z ∷ zs)
      (keep_one q y x e n z ts ss zs at saw mark here of
      (exchanged (replay_from q (entry n ∷ [])) ss ts zs is))

  -- two sights of one entry; what follows is in the state behind it
  pair : (q : Option Bound) (x y : Sight) (m n z : Seen) (ss ts : List Sight) (zs : List Seen) →
      IsAt x m → IsAt y n → IsOneMark m n z → IsSight q x → IsSight q y →
      OwnAreOf Frame (x ∷ []) → OwnAreOf Frame (y ∷ []) →
      AreSightsFrom (replay_from q (entry n ∷ [])) ts →
      (AreSightsFrom (replay_from q (entry m ∷ [])) ts →
      Both Frame (replay_from q (entry m ∷ [])) ss ts zs) →
      Both Frame q (x ∷ ss) (y ∷ ts) (z ∷ zs)
  pair q x y (Ours e) (Ours f) z ss ts zs at_x at_y mark here_x here_y of_x of_y after rest =
      absurd mark
  pair q x y (Ours e) (Theirs f) z ss ts zs at_x at_y mark here_x here_y of_x of_y after rest =
      keep_one q x y f (Ours e) z ss ts zs at_x (at_y.saw tt) mark.1 here_x of_x
      (rest (subst (λ h. AreSightsFrom (replay_from q (h ∷ [])) ts) (sym mark.0) after))
  pair q x y (Theirs e) (Ours f) z ss ts zs at_x at_y mark here_x here_y of_x of_y after rest =
      keep_two q x y e (Ours f) z ss ts zs at_y (at_x.saw tt) (mark.1 ∙ ap Ours mark.0) here_y
      of_y (subst (λ h. Both Frame (replay_from q (h ∷ [])) ss ts zs) mark.0
      (rest (subst (λ h. AreSightsFrom (replay_from q (h ∷ [])) ts) (sym mark.0) after)))
  pair q x y (Theirs e) (Theirs f) z ss ts zs at_x at_y mark here_x here_y of_x of_y after rest =
      keep_one q x y f (Theirs e) z ss ts zs at_x (at_y.saw tt) mark.1 here_x of_x
      (rest (subst (λ h. AreSightsFrom (replay_from q (h ∷ [])) ts) (sym mark.0) after))

  -- ---- an entry of the one list, and all that the other has

  beside : (q : Option Bound) (x : Sight) (m : Seen) (ss ts : List Sight) (zs : List Seen) →
      IsAt x m → IsSight q x → OwnAreOf Frame (x ∷ []) →
      AreSightsFrom (replay_from q (entry m ∷ [])) ss → OwnAreOf Frame ss →
      ((us : List Sight) (ws : List Seen) →
      IsJoinedOf (flat_map seen_of ss) (flat_map seen_of us) ws →
      AreSightsFrom (replay_from q (entry m ∷ [])) us → OwnAreOf Frame us →
      Both Frame (replay_from q (entry m ∷ [])) ss us ws) →
      IsJoinedOf (m ∷ flat_map seen_of ss) (flat_map seen_of ts) zs →
      AreSightsFrom q ts → OwnAreOf Frame ts → Both Frame q (x ∷ ss) ts zs
  beside q x m ss [] zs at here of after of_rest rest is are of_two = record {
    sights = x ∷ ss;
    seen = ap (λ l. l ++ flat_map seen_of ss) at.seen ∙ sym is;
    each = (here, subst (λ es. AreSightsFrom (replay_from q es) ss) (sym at.under_it) after);
    own = own_first Frame x ss of of_rest;
    lines_one = λ g blank none. refl;
    lines_two = λ g blank none. says_none g (x ∷ ss) none;
    times_one = λ g blank none. refl;
    times_two = λ g blank none. says_none g (x ∷ ss) none;
  }
  beside q x m ss (Own (Passed d) ∷ ts) zs at here of after of_rest rest is are of_two =
      two_passes q d (x ∷ ss) ts zs are.0 of_two.0
      (beside q x m ss ts zs at here of after of_rest rest is are.1 of_two.1)
  beside q x m ss (Saw f ∷ ts) [] at here of after of_rest rest is are of_two = absurd is
  beside q x m ss (Saw f ∷ ts) (z ∷ zs) at here of after of_rest rest is are of_two =
      pair q x (Saw f) m (Theirs f) z ss ts zs at (saw_at f) is.0 here are.0 of tt are.1
      (λ behind. rest ts zs is.1 behind of_two)
  beside q x m ss (Own (Was f) ∷ ts) [] at here of after of_rest rest is are of_two = absurd is
  beside q x m ss (Own (Was f) ∷ ts) (z ∷ zs) at here of after of_rest rest is are of_two =
      pair q x (Own (Was f)) m (Ours f) z ss ts zs at (was_at f) is.0 here are.0 of
      (of_two.0, tt) are.1 (λ behind. rest ts zs is.1 behind of_two.1)
  beside q x m ss (Own (Fell d f) ∷ ts) [] at here of after of_rest rest is are of_two =
      absurd is
  beside q x m ss (Own (Fell d f) ∷ ts) (z ∷ zs) at here of after of_rest rest is are of_two =
      pair q x (Own (Fell d f)) m (Ours f) z ss ts zs at (fell_at d f) is.0 here are.0 of
      (of_two.0, tt) are.1 (λ behind. rest ts zs is.1 behind of_two.1)

  pub both : (q : Option Bound) (ss ts : List Sight) (zs : List Seen) →
      IsJoinedOf (flat_map seen_of ss) (flat_map seen_of ts) zs → AreSightsFrom q ss →
      AreSightsFrom q ts → OwnAreOf Frame ss → OwnAreOf Frame ts → Both Frame q ss ts zs
  both q [] ts zs is one two of_one of_two = record {
    sights = ts;
    seen = sym is;
    each = two;
    own = of_two;
    lines_one = λ g blank none. says_none g ts none;
    lines_two = λ g blank none. refl;
    times_one = λ g blank none. says_none g ts none;
    times_two = λ g blank none. refl;
  }
  both q (Own (Passed d) ∷ ss) ts zs is one two of_one of_two =
      one_passes q d ss ts zs one.0 of_one.0 (both q ss ts zs is one.1 two of_one.1 of_two)
  both q (Saw e ∷ ss) ts zs is one two of_one of_two =
      beside q (Saw e) (Theirs e) ss ts zs (saw_at e) tt tt one.1 of_one
      (λ us ws so are of. both (replay_from q (e ∷ [])) ss us ws so one.1 are of_one of) is two
      of_two
  both q (Own (Was e) ∷ ss) ts zs is one two of_one of_two =
      beside q (Own (Was e)) (Ours e) ss ts zs (was_at e) one.0 (of_one.0, tt) one.1 of_one.1
      (λ us ws so are of. both (replay_from q (e ∷ [])) ss us ws so one.1 are of_one.1 of) is two
      of_two
  both q (Own (Fell d e) ∷ ss) ts zs is one two of_one of_two =
      beside q (Own (Fell d e)) (Ours e) ss ts zs (fell_at d e) one.0 (of_one.0, tt) one.1
      of_one.1
      (λ us ws so are of. both (replay_from q (e ∷ [])) ss us ws so one.1 are of_one.1 of) is two
      of_two
