-- Rows that are dealt from one port's log.
use Rattle.std.proofs.Common.{◌≡◌, ℕ, List, [], ◌∷◌, ◌++◌, Bool, true}
use Rattle.std.proofs.Common.{false, refl, sym, ap, ◌∙◌, subst, cond, append_assoc}
use Rattle.std.proofs.Common.{append-nil}
use Rattle.std.specs.Prelude.{◌==◌, flat_map}
use Rattle.std.proofs.lemmas.Grind.{flat_map-append}
use Rattle.port_audit.specs.Dealing.{RowMap, row_at, AreKept, GrowsBy}
use Rattle.port_audit.specs.Dealing.{side}

module _ {T : Type 0} where
  grows_none : (port : ℕ) (rows : RowMap T) → GrowsBy port (λ queue. []) rows rows
  grows_none port rows p queue = by (p == port)
    where
      by : (b : Bool) →
          row_at rows (side p queue) ≡ row_at rows (side p queue) ++ cond b [] []
      by true = sym (append-nil (row_at rows (side p queue)))
      by false = sym (append-nil (row_at rows (side p queue)))

  both_rows : (b : Bool) (xs ys : List T) → cond b xs [] ++ cond b ys [] ≡ cond b (xs ++ ys) []
  both_rows true xs ys = refl
  both_rows false xs ys = refl

  grows_more : (port : ℕ) (f g : ℕ → List T) (old between new : RowMap T) →
      GrowsBy port f old between → GrowsBy port g between new →
      GrowsBy port (λ queue. f queue ++ g queue) old new
  grows_more port f g old between new one two p queue =
      two p queue
      ∙ ap (λ xs. xs ++ cond (p == port) (g queue) []) (one p queue)
      ∙ append_assoc (row_at old (side p queue)) (cond (p == port) (f queue) [])
      (cond (p == port) (g queue) [])
      ∙ ap (λ xs. row_at old (side p queue) ++ xs) (both_rows (p == port) (f queue) (g queue))

  pub grows_as : (port : ℕ) (f g : ℕ → List T) (old new : RowMap T) →
      ((queue : ℕ) → f queue ≡ g queue) → GrowsBy port f old new → GrowsBy port g old new
  grows_as port f g old new same grows p queue =
      grows p queue
      ∙ ap (λ xs. row_at old (side p queue) ++ cond (p == port) xs []) (same queue)

-- these are still to be dealt
pub record IsGrowing {T D : Type 0} (port : ℕ) (f : ℕ → D → List T) (all rest : List D)
    (old now : RowMap T) : Type 0 where
  pub done : List D
  pub split : all ≡ done ++ rest
  pub grown : GrowsBy port (λ queue. flat_map (f queue) done) old now
  pub kept : AreKept old → AreKept now

module _ {T D : Type 0} (port : ℕ) (f : ℕ → D → List T) where
  pub growing_begun : (all rest : List D) (rows : RowMap T) → rest ≡ all →
      IsGrowing port f all rest rows rows
  growing_begun all rest rows same = record {
    done = [];
    split = sym same;
    grown = grows_none port rows;
    kept = λ k. k;
  }

  pub growing_on : (all rest others : List D) (d : D) (old now new : RowMap T) →
      rest ≡ d ∷ others → GrowsBy port (λ queue. f queue d) now new →
      (AreKept now → AreKept new) → IsGrowing port f all rest old now →
      IsGrowing port f all others old new
  growing_on all rest others d old now new front grows kept so_far = record {
    done = so_far.done ++ d ∷ [];
    split = so_far.split ∙ ap (λ ds. so_far.done ++ ds) front
        ∙ sym (append_assoc so_far.done (d ∷ []) others);
    grown = grows_as port (λ queue. flat_map (f queue) so_far.done ++ f queue d)
        (λ queue. flat_map (f queue) (so_far.done ++ d ∷ [])) old new
        (λ queue. ap (λ xs. flat_map (f queue) so_far.done ++ xs)
        (sym (append-nil (f queue d)))
        ∙ sym (flat_map-append (f queue) so_far.done (d ∷ [])))
        (grows_more port (λ queue. flat_map (f queue) so_far.done) (λ queue. f queue d) old now new
        so_far.grown grows);
    kept = λ k. kept (so_far.kept k);
  }

  pub growing_done : (all rest : List D) (old now : RowMap T) → rest ≡ [] →
      IsGrowing port f all rest old now →
      GrowsBy port (λ queue. flat_map (f queue) all) old now
  growing_done all rest old now none so_far =
      subst (λ ds. GrowsBy port (λ queue. flat_map (f queue) ds) old now)
      (sym (so_far.split ∙ ap (λ ds. so_far.done ++ ds) none ∙ append-nil so_far.done))
      so_far.grown
