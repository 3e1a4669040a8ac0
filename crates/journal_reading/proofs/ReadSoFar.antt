-- How far the text of a journal has been read.
use Rattle.std.proofs.Common.{◌≡◌, ℕ, ◌+◌, ◌<◌, ◌≤◌, List, [], ◌∷◌, ◌++◌, length, length-append}
use Rattle.std.proofs.Common.{Some, ◌∙◌, refl, sym, ap, arith, append_assoc, append-nil, codes}
use Rattle.std.proofs.Common.{Ok, false, true}
use Rattle.std.specs.Prelude.{bytes_eq}
use Rattle.text_lines.specs.Words.{cut_at}
use Rattle.journals.specs.declared.version.Version.{Version}
use Rattle.journals.specs.declared.version.Version.TheVariants.{First, Second}
use Rattle.journals.specs.Format as text
use Rattle.journal_reading.specs.JournalFile.{FollowsText, IsSound, Place, line_ends, so_far, start}
use Rattle.journal_reading.proofs.RestOfJournal.{IsFront, front_more, front_start}
use Rattle.journal_reading.proofs.FirstRefusal.{line_is_whole, one_line_more}
use Rattle.journal_reading.proofs.ReaderInvariant.{sound_start}
use Rattle.journal_reading.proofs.WordCuts.{Laws, cut_some, same_word}

pub record IsUnderway (v : Version) (bytes : List ℕ) (p : Place) (rest : List ℕ)
    (line_number : ℕ) : Type 0 where
  pub sound : IsSound v p
  pub text_is : bytes ≡ so_far v p ++ rest
  pub count : line_number + length rest ≤ length bytes + 1
  pub front : IsFront v p
  pub ends : line_ends (so_far v p) + 1 ≡ line_number

pub heading_is : (v : Version) (bytes line rest : List ℕ) → cut_at 10 bytes ≡ Some (line, rest) →
    bytes_eq line (text.title v) ≡ true → bytes ≡ text.heading v ++ rest
heading_is v bytes line rest e f =
    cut_some 10 bytes (line, rest) e
    ∙ ap (λ z. z ++ 10 ∷ rest) (same_word line (text.title v) f)
    ∙ sym (append_assoc (text.title v) (10 ∷ []) rest)

start_ends : (v : Version) → line_ends (so_far v start) + 1 ≡ 2
start_ends First = refl
start_ends Second = refl

pub begins : (v : Version) (bytes rest : List ℕ) (p : Place) → p ≡ start →
    bytes ≡ text.heading v ++ rest → IsUnderway v bytes p rest 2
begins v bytes rest p e h = record {
  sound = sound_start v p e;
  text_is = h ∙ ap (λ z. z ++ rest) (sym (append-nil (text.heading v)))
      ∙ ap (λ (q : Place). so_far v q ++ rest) (sym e);
  count = omega (arith, ap length h, length-append (text.version_number v ++ 10 ∷ []) rest);
  front = front_start v p e;
  ends = ap (λ (q : Place). line_ends (so_far v q) + 1) e ∙ start_ends v;
}

pub shorter : (rest line later : List ℕ) → cut_at 10 rest ≡ Some (line, later) →
    length later < length rest
shorter rest line later e =
    omega (arith, ap length (cut_some 10 rest (line, later) e), length-append line (10 ∷ later))

pub goes_on : (v : Version) → Laws → (bytes rest line later : List ℕ) (p q : Place)
    (line_number : ℕ) →
    IsUnderway v bytes p rest line_number → cut_at 10 rest ≡ Some (line, later) → IsSound v q →
    so_far v q ≡ so_far v p ++ (line ++ codes "\n") → FollowsText v (Ok false) p q line →
    IsUnderway v bytes q later (line_number + 1)
goes_on v laws bytes rest line later p q line_number h e sound more follows = record {
  sound = sound;
  text_is = h.text_is ∙ ap (λ z. so_far v p ++ z) (cut_some 10 rest (line, later) e
      ∙ sym (append_assoc line (10 ∷ []) later))
      ∙ sym (append_assoc (so_far v p) (line ++ 10 ∷ []) later)
      ∙ ap (λ z. z ++ later) (sym more);
  count = omega (arith, h.count, shorter rest line later e);
  front = front_more v laws p q line h.front (line_is_whole rest (line, later) e) more follows;
  ends = omega (
    arith,
    ap line_ends more,
    h.ends,
    one_line_more (so_far v p) line (line_is_whole rest (line, later) e),
  );
}

pub at_end : (v : Version) (bytes rest line later : List ℕ) (p q : Place) (line_number : ℕ) →
    IsUnderway v bytes p rest line_number → cut_at 10 rest ≡ Some (line, later) →
    line ≡ codes "end" → q ≡ p → bytes ≡ so_far v q ++ codes "end\n" ++ later
at_end v bytes rest line later p q line_number h e named same =
    h.text_is ∙ ap (λ z. so_far v p ++ z) (cut_some 10 rest (line, later) e
    ∙ ap (λ z. z ++ 10 ∷ later) named)
    ∙ sym (append_assoc (so_far v p) (codes "end\n") later)
    ∙ ap (λ (r : Place). so_far v r ++ codes "end\n" ++ later) (sym same)
