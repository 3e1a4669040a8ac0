-- Each text is a journal, or has a first line that is refused.
use Rattle.std.proofs.Common.{◌≡◌, ℕ, zero, suc, ◌+◌, ◌<◌, true, false, ◌⊎◌, inl, inr, List}
use Rattle.std.proofs.Common.{[], ◌∷◌, ◌++◌, length, Some, None, ◌∙◌, refl, sym, ap, subst}
use Rattle.std.proofs.Common.{arith, codes, Ok, Err, append_assoc, append-nil}
use Rattle.std.specs.Prelude.{bytes_eq}
use Rattle.std.proofs.lemmas.Option.{none-some}
use Rattle.text_lines.specs.Words.{cut_at}
use Rattle.histories.specs.declared.histories.Histories.{Histories}
use Rattle.journal_reading.specs.declared.fault.JournalFault.TheVariants.{Bad}
use Rattle.journal_reading.specs.declared.line.Line.{Line}
use Rattle.text_lines.specs.declared.stop.Stop.TheVariants.{Refused}
use Rattle.journals.specs.declared.version.Version.{Version}
use Rattle.journals.specs.Format.{heading, title}
use Rattle.journal_reading.specs.Lines.{IsLine, line_text}
use Rattle.journal_reading.specs.Reading.{line_in}
use Rattle.journal_reading.specs.JournalFile.{Follows, IsFirstRefused, IsJournal, IsSound, Place}
use Rattle.journal_reading.specs.JournalFile.{after}
use Rattle.journal_reading.specs.JournalFile.{histories_of, is_end, line_ends, so_far, start}
use Rattle.journal_reading.proofs.RestOfJournal.{IsFront, front_more, front_start}
use Rattle.journal_reading.proofs.FirstRefusal.{closed_by, line_is_whole, no_heading, no_line}
use Rattle.journal_reading.proofs.FirstRefusal.{stopped}
use Rattle.journal_reading.proofs.FirstRefusal.{stopped_early}
use Rattle.journal_reading.proofs.ReaderAnswers.{end_is, not_end, text_by}
use Rattle.journal_reading.proofs.Growth.{grows}
use Rattle.journal_reading.proofs.LineForm.{line_word}
use Rattle.journal_reading.proofs.OneValue.{same_said}
use Rattle.journal_reading.proofs.ReaderInvariant.{sound_start, stays_sound}
use Rattle.journal_reading.proofs.ReadSoFar.{heading_is, shorter}
use Rattle.journal_reading.proofs.WordCuts.{Laws, cut_some}

abbrev pub Judged : Version → List ℕ → Type 0
Judged v text =
    ((h : Histories) × IsJournal v text h) ⊎ ((line : ℕ) × IsFirstRefused v text line)

-- behind the line `end`
at_end : (v : Version) → Laws → (p : Place) (text behind : List ℕ) → IsSound v p → IsFront v p →
    text ≡ (so_far v p ++ codes "end\n") ++ behind → Judged v text
at_end v laws p text [] sound front t =
    inl (
      histories_of p,
      (closed_by v laws (Ok (histories_of p)) p text []
          (line_ends (so_far v p) + 1) sound front t refl (refl, refl)).0,
    )
at_end v laws p text (b ∷ bs) sound front t =
    let n = line_ends (so_far v p) + 1 in
    inr (
      n + 1,
      closed_by v laws (Err (Bad (n + 1))) p text (b ∷ bs) n sound front t refl
          (λ e. absurd (omega (arith, ap length e)), refl),
    )

judge : (v : Version) → Laws → (n : ℕ) (p : Place) (text rest : List ℕ) → length rest < n →
    IsSound v p →
    IsFront v p → text ≡ so_far v p ++ rest → Judged v text
judge v laws zero p text rest less sound front t = absurd (omega (arith, less))
judge v laws (suc n) p text rest less sound front t =
    elim (cut_at 10 rest) as (λ o. cut_at 10 rest ≡ o → Judged v text) [
      | None ↦ λ e.
          inr (
            line_ends (so_far v p) + 1,
            stopped_early v p text rest (line_ends (so_far v p) + 1)
                sound front t refl e,
          )
      | Some parts ↦ λ e.
          let n1 = line_ends (so_far v p) + 1 in
          let whole = line_is_whole rest parts e in
          let stop : ((said : Line) → IsLine v parts.0 said → Follows (Err Refused) p p said) →
          Judged v text =
          λ f. inr (
            n1,
            stopped v laws Refused p p text rest parts.0 parts.1 n1 sound front t refl e
                f,
          ) in
          elim (line_in v parts.0) as (λ o. line_in v parts.0 ≡ o → Judged v text) [
            | None ↦ λ f. stop (λ said is. absurd (none-some said (sym f ∙ ap (line_in v) is.1
                ∙ (line_word v laws).again said is.0)))
            | Some l ↦ λ f.
                let is : IsLine v parts.0 l = (line_word v laws).spelled parts.0 l f in
                elim (is_end l) as (λ b. is_end l ≡ b → Judged v text) [
                  | true ↦ λ g.
                      at_end v laws p text parts.1 sound front
                      (t ∙ ap (λ z. so_far v p ++ z) (cut_some 10 rest parts e
                      ∙ ap (λ z. z ++ 10 ∷ parts.1) (is.1 ∙ ap (line_text v) (end_is l g)))
                      ∙ sym (append_assoc (so_far v p) (codes "end\n") parts.1))
                  | false ↦ λ g.
                      elim (after p l) as (λ o. after p l ≡ o → Judged v text) [
                        | None ↦ λ k. stop (text_by v (Err Refused) p p l parts.0
                            (λ said there. same_said v laws parts.0 said l there is)
                            (not_end l g, k))
                        | Some q ↦ λ k.
                            let more = grows v p q l sound.bare k
                            ∙ ap (λ z. so_far v p ++ (z ++ codes "\n")) (sym is.1) in
                            let go : (said : Line) → IsLine v parts.0 said → after p said ≡ Some q =
                            λ said there. subst (λ (m : Line). after p m ≡ Some q)
                            (sym (same_said v laws parts.0 said l there is)) k in
                            judge v laws n q text parts.1
                            (omega (arith, less, shorter rest parts.0 parts.1 e))
                            (stays_sound v p q l sound is.0 k)
                            (front_more v laws p q parts.0 front whole more go)
                            (t ∙ ap (λ z. so_far v p ++ z) (cut_some 10 rest parts e
                            ∙ sym (append_assoc parts.0 (10 ∷ []) parts.1))
                            ∙ sym (append_assoc (so_far v p) (parts.0 ++ 10 ∷ []) parts.1)
                            ∙ ap (λ z. z ++ parts.1) (sym more))
                      ] refl
                ] refl
          ] refl
    ] refl

pub each_text : (v : Version) → Laws → (text : List ℕ) → Judged v text
each_text v laws text =
    elim (cut_at 10 text) as (λ o. cut_at 10 text ≡ o → Judged v text) [
      | None ↦ λ e. inr (1, no_line v text e)
      | Some parts ↦ λ e.
          elim (bytes_eq parts.0 (title v)) as
          (λ b. bytes_eq parts.0 (title v) ≡ b → Judged v text) [
            | false ↦ λ f. inr (1, no_heading v text parts.0 parts.1 e f)
            | true ↦ λ f.
                judge v laws (suc (length parts.1)) start text parts.1 (omega arith)
                (sound_start v start refl) (front_start v start refl)
                (heading_is v text parts.0 parts.1 e f
                ∙ ap (λ z. z ++ parts.1) (sym (append-nil (heading v))))
          ] refl
    ] refl
