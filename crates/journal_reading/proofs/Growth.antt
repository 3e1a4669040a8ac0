-- How a journal's text grows, line by line.
use Rattle.std.proofs.Common.{◌≡◌, ℕ, Bool, true, false, leb, List, []}
use Rattle.std.proofs.Common.{◌∷◌, ◌++◌, Option, Some, None, ◌∙◌, sym, ap}
use Rattle.std.proofs.Common.{subst, append_assoc, append-nil, inl, inr}
use Rattle.std.specs.Prelude.{codes, option_to_list}
use Rattle.std.specs.List.{list_any}
use Rattle.std.proofs.lemmas.Option.{none-some, same_Some}
use Rattle.histories.specs.declared.entry.Entry.{Entry}
use Rattle.histories.specs.declared.log.Did.{Did}
use Rattle.histories.specs.declared.log.PortLog.{PortLog}
use Rattle.journal_reading.specs.declared.line.Line.{Line}
use Rattle.journal_reading.specs.declared.line.Line.TheVariants.{Heading, EntryLine, PortLine}
use Rattle.journal_reading.specs.declared.line.Line.TheVariants.{DidLine}
use Rattle.journal_reading.specs.declared.line.Line.TheVariants.{End}
use Rattle.journals.specs.declared.version.Version.{Version}
use Rattle.journals.specs.Format as text
use Rattle.journal_reading.specs.Lines.{line_text}
use Rattle.journal_reading.specs.JournalFile.{Place, after, so_far, is_port}
use Rattle.journal_reading.specs.JournalFile.{IsBare}
use Rattle.journal_reading.proofs.WordCuts.{chosen}

entries_more : (v : Version) (es : List Entry) (e : Entry) →
    text.entries v (es ++ e ∷ []) ≡ text.entries v es ++ text.entry v e
entries_more v [] e = append-nil (text.entry v e)
entries_more v (x ∷ es) e =
    ap (λ z. text.entry v x ++ z) (entries_more v es e)
    ∙ sym (append_assoc (text.entry v x) (text.entries v es) (text.entry v e))

dids_more : (v : Version) (ds : List Did) (d : Did) →
    text.dids v (ds ++ d ∷ []) ≡ text.dids v ds ++ text.did v d
dids_more v [] d = append-nil (text.did v d)
dids_more v (x ∷ ds) d =
    ap (λ z. text.did v x ++ z) (dids_more v ds d)
    ∙ sym (append_assoc (text.did v x) (text.dids v ds) (text.did v d))

logs_more : (v : Version) (ls : List PortLog) (l : PortLog) →
    text.logs v (ls ++ l ∷ []) ≡ text.logs v ls ++ text.log v l
logs_more v [] l = append-nil (text.log v l)
logs_more v (x ∷ ls) l =
    ap (λ z. text.log v x ++ z) (logs_more v ls l)
    ∙ sym (append_assoc (text.log v x) (text.logs v ls) (text.log v l))

-- ---- the text

after_heading : (v : Version) (old more : List ℕ) {new : List ℕ} → new ≡ old ++ more →
    text.heading v ++ new ≡ (text.heading v ++ old) ++ more
after_heading v old more e =
    ap (λ z. text.heading v ++ z) e ∙ sym (append_assoc (text.heading v) old more)

grows_entry : (v : Version) (es : List Entry) (ls : List PortLog) (e : Entry) → ls ≡ [] →
    text.heading v ++ (text.entries v (es ++ e ∷ []) ++ text.logs v ls)
    ≡ (text.heading v ++ (text.entries v es ++ text.logs v ls)) ++ text.entry v e
grows_entry v es ls e none =
    after_heading v (text.entries v es ++ text.logs v ls) (text.entry v e)
    (ap (λ (l : List PortLog). text.entries v (es ++ e ∷ []) ++ text.logs v l) none
    ∙ append-nil (text.entries v (es ++ e ∷ [])) ∙ entries_more v es e
    ∙ ap (λ z. z ++ text.entry v e) (sym (append-nil (text.entries v es))
    ∙ ap (λ (l : List PortLog). text.entries v es ++ text.logs v l) (sym none)))

grows_logs : (v : Version) (es : List Entry) (before : List PortLog) (l : PortLog) (more : List ℕ)
    (k : PortLog) → text.log v k ≡ text.log v l ++ more →
    text.heading v ++ (text.entries v es ++ text.logs v (before ++ k ∷ []))
    ≡ (text.heading v ++ (text.entries v es ++ text.logs v (before ++ l ∷ []))) ++ more
grows_logs v es before l more k e =
    after_heading v (text.entries v es ++ text.logs v (before ++ l ∷ [])) more
    (ap (λ z. text.entries v es ++ z) (logs_more v before k ∙ ap (λ z. text.logs v before ++ z) e
    ∙ sym (append_assoc (text.logs v before) (text.log v l) more)
    ∙ ap (λ z. z ++ more) (sym (logs_more v before l)))
    ∙ sym (append_assoc (text.entries v es) (text.logs v (before ++ l ∷ [])) more))

grows_port : (v : Version) (es : List Entry) (before : List PortLog) (k : PortLog) →
    text.heading v ++ (text.entries v es ++ text.logs v (before ++ k ∷ []))
    ≡ (text.heading v ++ (text.entries v es ++ text.logs v before)) ++ text.log v k
grows_port v es before k =
    after_heading v (text.entries v es ++ text.logs v before) (text.log v k)
    (ap (λ z. text.entries v es ++ z) (logs_more v before k)
    ∙ sym (append_assoc (text.entries v es) (text.logs v before) (text.log v k)))

place : List Entry → ℕ → List PortLog → Option PortLog → Bool → Place
place es n ls o s = record { entries = es; queue = n; logs = ls; last = o; shut = s }

log_more : (v : Version) (l : PortLog) (d : Did) →
    text.log v (record { port = l.port; dids = l.dids ++ d ∷ [] }) ≡ text.log v l ++ text.did v d
log_more v l d =
    ap (λ z. (text.port_line l.port ++ codes "\n") ++ z) (dids_more v l.dids d)
    ∙ sym (append_assoc (text.port_line l.port ++ codes "\n") (text.dids v l.dids) (text.did v d))

grows_by : (v : Version) (es : List Entry) (n : ℕ) (ls : List PortLog) (o : Option PortLog)
    (s : Bool) (q : Place) (l : Line) → IsBare ls o → after (place es n ls o s) l ≡ Some q →
    so_far v q ≡ so_far v (place es n ls o s) ++ (line_text v l ++ codes "\n")
unfolding after place
grows_by v es n ls o s q Heading bare e = absurd (none-some q e)
grows_by v es n ls o s q End bare e = absurd (none-some q e)
grows_by v es n ls None s q (EntryLine x) bare e =
    elim (chosen (leb n x.queue) _ None (Some q) e) [
      | inl h ↦ subst (λ (r : Place). so_far v r ≡ so_far v (place es n ls None s)
          ++ (text.entry_line v x ++ codes "\n")) (same_Some _ q h.1)
          (grows_entry v es (ls ++ []) x (append-nil ls ∙ bare))
      | inr h ↦ absurd (none-some q h.1)
    ]
grows_by v es n ls (Some l) s q (EntryLine x) bare e = absurd (none-some q e)
grows_by v es n ls o s q (PortLine port) bare e =
    elim (chosen (list_any (is_port port) (ls ++ option_to_list o)) None _ (Some q) e) [
      | inl h ↦ absurd (none-some q h.1)
      | inr h ↦ subst (λ (r : Place). so_far v r ≡ so_far v (place es n ls o s)
          ++ (text.port_line port ++ codes "\n")) (same_Some _ q h.1)
          (grows_port v es (ls ++ option_to_list o) (record { port = port; dids = [] })
          ∙ ap (λ z. so_far v (place es n ls o s) ++ z)
          (append-nil (text.port_line port ++ codes "\n")))
    ]
grows_by v es n ls None true q (DidLine d) bare e = absurd (none-some q e)
grows_by v es n ls None false q (DidLine d) bare e = absurd (none-some q e)
grows_by v es n ls (Some l) true q (DidLine d) bare e = absurd (none-some q e)
grows_by v es n ls (Some l) false q (DidLine d) bare e =
    subst (λ (r : Place). so_far v r ≡ so_far v (place es n ls (Some l) false)
    ++ (text.did_line v d ++ codes "\n")) (same_Some _ q e)
    (grows_logs v es ls l (text.did v d) (record { port = l.port; dids = l.dids ++ d ∷ [] })
    (log_more v l d))

-- what was read grows by the line
pub grows : (v : Version) (p q : Place) (l : Line) → IsBare p.logs p.last → after p l ≡ Some q →
    so_far v q ≡ so_far v p ++ (line_text v l ++ codes "\n")
unfolding place
grows v p q l bare e = grows_by v p.entries p.queue p.logs p.last p.shut q l bare e
