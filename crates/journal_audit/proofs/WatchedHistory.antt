-- One history that is watched, one entry more.
use Rattle.std.proofs.Common.{◌≡◌, ◌+◌, List, [], ◌∷◌, ◌++◌, length, true, false, sym, ap, ◌∙◌}
use Rattle.std.proofs.Common.{arith, length-append, true≢false}
use Rattle.histories.specs.declared.entry.Entry.{Entry}
use Rattle.histories.specs.History.{replay, IsStep}
use Rattle.histories.proofs.LegalHistories.{legal_on}
use Rattle.journal_audit.specs.declared.watched.Watched.{Watched}
use Rattle.journal_audit.specs.Illegal.{IsFirstIllegal}
use Rattle.journal_audit.specs.Watching.{IsWatched}
use Rattle.journal_audit.proofs.Beginnings.{stays_illegal, ends_here, first_here}

module _ (so_far : List Entry) (e : Entry) (w v : Watched) (is : IsWatched so_far w)
    (longer : v.length ≡ w.length + 1) where
  length_on : v.length ≡ length (so_far ++ e ∷ [])
  length_on = omega (arith, longer, is.length_is, length-append so_far (e ∷ []))

  -- the history wasn't legal, and isn't
  pub still_illegal : w.is_legal ≡ false → v.is_legal ≡ false → IsWatched (so_far ++ e ∷ []) v
  still_illegal was now = record {
    length_is = length_on;
    legal = λ h. absurd (true≢false (sym h ∙ now));
    illegal = λ h. stays_illegal so_far e (is.illegal was);
  }

  -- the history is legal, and goes on so
  pub goes_on : w.is_legal ≡ true → v.is_legal ≡ true → IsStep (replay so_far) e →
      IsWatched (so_far ++ e ∷ []) v
  goes_on was now one = record {
    length_is = length_on;
    legal = λ h. legal_on so_far e (is.legal was) one;
    illegal = λ h. absurd (true≢false (sym now ∙ h));
  }

  -- the history is legal so far, and ends to be so
  pub ends : v.is_legal ≡ false → (IsStep (replay so_far) e → ⊥) → IsWatched (so_far ++ e ∷ []) v
  ends now no_step = record {
    length_is = length_on;
    legal = λ h. absurd (true≢false (sym h ∙ now));
    illegal = λ h. ends_here so_far e no_step;
  }

  pub found_here : w.is_legal ≡ true → (IsStep (replay so_far) e → ⊥) →
      IsFirstIllegal (so_far ++ e ∷ []) v.length
  found_here was no_step =
      first_here so_far e v.length (longer ∙ ap (λ n. n + 1) is.length_is) (is.legal was) no_step
