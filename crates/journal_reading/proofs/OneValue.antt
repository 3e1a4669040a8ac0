-- A journal belongs to one value, and begins no other journal.
use Rattle.std.proofs.Common.{◌≡◌, ℕ, zero, suc, ◌<◌, inl, inr, List, [], ◌++◌, length}
use Rattle.std.proofs.Common.{Some, None, ◌∙◌, refl, sym, ap, subst, arith, codes}
use Rattle.std.proofs.Common.{append_assoc, append-nil}
use Rattle.std.proofs.lemmas.Option.{none-some, same_Some}
use Rattle.text_lines.specs.Words.{cut_at}
use Rattle.histories.specs.declared.histories.Histories.{Histories}
use Rattle.journal_reading.specs.declared.line.Line.{Line}
use Rattle.journals.specs.declared.version.Version.{Version}
use Rattle.journals.specs.Format as text
use Rattle.journal_reading.specs.Lines.{IsLine}
use Rattle.journal_reading.specs.Reading.{line_in}
use Rattle.journals.specs.Formed.{IsWellFormedIn}
use Rattle.journal_reading.specs.JournalFile.{IsJournal, IsSound, Place, after, histories_of}
use Rattle.journal_reading.specs.JournalFile.{so_far}
use Rattle.journal_reading.specs.JournalFile.{start}
use Rattle.journal_reading.proofs.RestOfJournal.{Ahead, IsFront, front_more, front_start, next}
use Rattle.journal_reading.proofs.FirstRefusal.{ends_here, line_is_whole, tail_of, uncut_tail}
use Rattle.journal_reading.proofs.Growth.{grows}
use Rattle.journal_reading.proofs.LineForm.{line_word}
use Rattle.journal_reading.proofs.ReaderInvariant.{sound_start, stays_sound}
use Rattle.journal_reading.proofs.ReadSoFar.{shorter}
use Rattle.journal_reading.proofs.WordCuts.{Laws}

-- a line says one thing
pub same_said : (v : Version) → Laws → (line : List ℕ) (a b : Line) → IsLine v line a →
    IsLine v line b → a ≡ b
same_said v laws line a b x y =
    same_Some a b (sym ((line_word v laws).again a x.0) ∙ ap (line_in v) (sym x.1 ∙ y.1)
    ∙ (line_word v laws).again b y.0)

-- a place that holds these histories, and to which only their own text leads
pub record Reached (v : Version) (h : Histories) : Type 0 where
  pub place : Place
  pub front : IsFront v place
  pub all : h ≡ histories_of place

reach : (v : Version) → Laws → (n : ℕ) (p : Place) (h : Histories) (rest : List ℕ) →
    length rest < n →
    IsWellFormedIn v h → IsSound v p → IsFront v p → Ahead v p h rest → Reached v h
reach v laws zero p h rest less wf sound front a = absurd (omega (arith, less))
reach v laws (suc n) p h rest less wf sound front a =
    elim (cut_at 10 rest) as (λ o. cut_at 10 rest ≡ o → Reached v h) [
      | None ↦ λ e.
          let tail = tail_of v p h rest a in
          absurd (none-some (codes "end", [])
          (sym (uncut_tail tail.0 (codes "end\n") (sym (ap (cut_at 10) tail.1) ∙ e))))
      | Some parts ↦ λ e.
          elim (next v laws p h rest parts.0 parts.1 wf a e) [
            | inl on ↦
                let whole = line_is_whole rest parts e in
                let go : (said : Line) → IsLine v parts.0 said → after p said ≡ Some on.place =
                λ said is. subst (λ (l : Line). after p l ≡ Some on.place)
                (same_said v laws parts.0 on.said said on.is is) on.after_is in
                let more = grows v p on.place on.said sound.bare on.after_is
                ∙ ap (λ z. so_far v p ++ (z ++ codes "\n")) (sym on.is.1) in
                reach v laws n on.place h parts.1
                (omega (arith, less, shorter rest parts.0 parts.1 e)) wf
                (stays_sound v p on.place on.said sound on.is.0 on.after_is)
                (front_more v laws p on.place parts.0 front whole more go) on.ahead
            | inr end ↦ record { place = p; front = front; all = end.all }
          ]
    ] refl

reached : (v : Version) → Laws → (h : Histories) → IsWellFormedIn v h → Reached v h
reached v laws h wf =
    let rest = text.histories v h ++ codes "end\n" in
    let front = front_start v start refl in
    reach v laws (suc (length rest)) start h rest (omega arith) wf (sound_start v start refl) front
    (front h rest wf (ap (λ z. z ++ rest) (append-nil (text.heading v))
    ∙ sym (append_assoc (text.heading v) (text.histories v h) (codes "end\n"))))

-- a journal that begins with a journal is that journal
pub same_journal : (v : Version) → Laws → (text rest : List ℕ) (a b : Histories) →
    IsJournal v text a →
    IsJournal v (text ++ rest) b → (rest ≡ []) × (b ≡ a)
same_journal v laws t rest a b j k =
    let at = reached v laws a j.well_formed in
    let e : t ++ rest ≡ so_far v at.place ++ (codes "end\n" ++ rest) =
    ap (λ z. z ++ rest) (j.text_is ∙ ap (text.journal_in v) at.all)
    ∙ append_assoc (so_far v at.place) (codes "end\n") rest in
    let end = ends_here v laws at.place b rest at.front
    (subst (λ (z : List ℕ). IsJournal v z b) e k) in
    (end.0, end.1 ∙ sym at.all)

pub one_value : (v : Version) → Laws → (text : List ℕ) (a b : Histories) → IsJournal v text a →
    IsJournal v text b →
    a ≡ b
one_value v laws t a b j k =
    sym (same_journal v laws t [] a b j
    (subst (λ (z : List ℕ). IsJournal v z b) (sym (append-nil t)) k)).1
