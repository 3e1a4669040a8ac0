-- That a text which the reader refuses is no journal, and which of its lines is the first that
-- can't stand in one.
use Rattle.std.proofs.Common.{◌≡◌, ℕ, ◌+◌, Bool, false, eqb, inl, inr}
use Rattle.std.proofs.Common.{List, [], ◌∷◌, ◌++◌, length, Option, Some, None, ◌∙◌, refl, sym, ap}
use Rattle.std.proofs.Common.{length-append, subst, arith, codes, Result, Ok, Err, IfOk}
use Rattle.std.proofs.Common.{append_assoc, append-nil}
use Rattle.std.specs.Prelude.{◌≢◌, bytes_eq, filter, option_map}
use Rattle.std.proofs.lemmas.Bool.{false≢true}
use Rattle.std.proofs.lemmas.List.Elements.{filter-append}
use Rattle.std.proofs.lemmas.Option.{none-some, same_Some}
use Rattle.text_lines.specs.Words.{cut_at}
use Rattle.histories.specs.declared.histories.Histories.{Histories}
use Rattle.histories.specs.declared.log.PortLog.{PortLog}
use Rattle.journal_reading.specs.declared.fault.JournalFault.{JournalFault}
use Rattle.journal_reading.specs.declared.fault.JournalFault.TheVariants.{Bad}
use Rattle.journal_reading.specs.declared.fault.JournalFault.TheVariants as fault
use Rattle.journal_reading.specs.declared.line.Line.{Line}
use Rattle.journal_reading.specs.declared.line.Line.TheVariants.{End}
use Rattle.text_lines.specs.declared.stop.Stop.{Stop}
use Rattle.text_lines.specs.declared.stop.Stop.TheVariants.{Refused, NoMemory}
use Rattle.journals.specs.declared.version.Version.{Version}
use Rattle.journals.specs.Format as text
use Rattle.journal_reading.specs.Lines.{IsLine}
use Rattle.journal_reading.specs.Reading.{line_in}
use Rattle.journals.specs.Formed.{IsWellFormedIn}
use Rattle.histories.specs.declared.entry.Entry.{Entry}
use Rattle.journal_reading.specs.JournalFile.{Answers, BeginsJournal, Closes, FollowsText}
use Rattle.journal_reading.specs.JournalFile.{IsAnswer, IsFirstRefused, IsJournal, IsSound}
use Rattle.journal_reading.specs.JournalFile.{Place, after, fault_of, histories_of, line_ends}
use Rattle.journal_reading.specs.JournalFile.{so_far}
use Rattle.journal_reading.specs.JournalFile.{start}
use Rattle.journal_reading.proofs.RestOfJournal.{Ahead, AheadOf, IsFront, line_before, next}
use Rattle.journal_reading.proofs.LineForm.{line_word, title_whole}
use Rattle.journal_reading.proofs.ReaderInvariant.{sound_start, well_formed}
use Rattle.journal_reading.proofs.WordCuts.{Laws, chosen, cut_front, cut_some, map_none, map_some}
use Rattle.journal_reading.proofs.WordCuts.{passed}
use Rattle.journal_reading.proofs.WordCuts.{word_is}

-- ---- line ends

pub ends_append : (a b : List ℕ) → line_ends (a ++ b) ≡ line_ends a + line_ends b
ends_append a b =
    omega (
      arith,
      ap length (filter-append (λ (c : ℕ). eqb c 10) a b),
      length-append (filter (λ (c : ℕ). eqb c 10) a) (filter (λ (c : ℕ). eqb c 10) b),
    )

pub no_ends : (line : List ℕ) → cut_at 10 line ≡ None → line_ends line ≡ 0
no_ends [] none = refl
no_ends (b ∷ bs) none =
    elim (chosen (eqb b 10) _ _ None none) [
      | inl h ↦ absurd (none-some ([], bs) (sym h.1))
      | inr h ↦ ap length (passed (eqb b 10) _ (filter (λ (c : ℕ). eqb c 10) bs) h.0)
          ∙ no_ends bs (map_none _ (cut_at 10 bs) h.1)
    ]

-- what stands before the first line's end has none
pub line_is_whole : (rest : List ℕ) (parts : List ℕ × List ℕ) → cut_at 10 rest ≡ Some parts →
    cut_at 10 parts.0 ≡ None
line_is_whole [] parts e = absurd (none-some parts e)
line_is_whole (b ∷ bs) parts e =
    elim (chosen (eqb b 10) _ _ (Some parts) e) [
      | inl h ↦ subst (λ (x : List ℕ × List ℕ). cut_at 10 x.0 ≡ None) (same_Some _ parts h.1) refl
      | inr h ↦ let more = map_some _ (cut_at 10 bs) parts h.1 in
          subst (λ (x : List ℕ × List ℕ). cut_at 10 x.0 ≡ None) more.2
          (passed (eqb b 10) _ _ h.0
          ∙ ap (λ o. option_map (λ (x : List ℕ × List ℕ). (b ∷ x.0, x.1)) o)
          (line_is_whole bs more.0 more.1))
    ]

pub one_line_more : (front line : List ℕ) → cut_at 10 line ≡ None →
    line_ends (front ++ (line ++ codes "\n")) ≡ line_ends front + 1
one_line_more front line none =
    omega (
      arith,
      ends_append front (line ++ 10 ∷ []),
      ends_append line (10 ∷ []),
      no_ends line none,
    )

pub uncut_tail : (front rest : List ℕ) → cut_at 10 (front ++ rest) ≡ None → cut_at 10 rest ≡ None
uncut_tail [] rest e = e
uncut_tail (b ∷ bs) rest e =
    elim (chosen (eqb b 10) _ _ None e) [
      | inl h ↦ absurd (none-some ([], bs ++ rest) (sym h.1))
      | inr h ↦ uncut_tail bs rest (map_none _ (cut_at 10 (bs ++ rest)) h.1)
    ]

-- ---- places

pub begins_at : (v : Version) (p : Place) → IsSound v p → BeginsJournal v (so_far v p)
begins_at v p h =
    (codes "end\n", histories_of p, record { well_formed = well_formed v p h; text_is = refl })

begins_ended : (v : Version) (p : Place) → IsSound v p →
    BeginsJournal v (so_far v p ++ codes "end\n")
begins_ended v p sound = (
  [],
  histories_of p,
  record {
    well_formed = well_formed v p sound;
    text_is = append-nil (so_far v p ++ codes "end\n");
  },
)

pub begins_nothing : (v : Version) → BeginsJournal v []
begins_nothing v = (
  text.journal_in v (histories_of start),
  histories_of start,
  record {
    well_formed = well_formed v start (sound_start v start refl);
    text_is = refl;
  },
)

-- a line that says nothing that may stand at this place
pub not_begun : (v : Version) → Laws → (p : Place) (line : List ℕ) → IsFront v p →
    cut_at 10 line ≡ None →
    ((said : Line) → IsLine v line said → (said ≢ End) × (after p said ≡ None)) →
    BeginsJournal v (so_far v p ++ (line ++ codes "\n")) → ⊥
not_begun v laws p line front none refused begun =
    let rest = begun.0 in
    let h = begun.1 in
    let j = begun.2 in
    let ahead = front h (line ++ 10 ∷ rest) j.well_formed
    (sym (line_before (so_far v p) line rest) ∙ j.text_is) in
    elim (next v laws p h (line ++ 10 ∷ rest) line rest j.well_formed ahead
    (cut_front 10 line rest none)) [
      | inl on ↦ none-some on.place (sym (refused on.said on.is).1 ∙ on.after_is)
      | inr end ↦ (refused End (tt, end.is)).0 refl
    ]

-- behind the end of a journal stands nothing, and it is of what was read
pub ends_here : (v : Version) → Laws → (p : Place) (h : Histories) (rest : List ℕ) → IsFront v p →
    IsJournal v (so_far v p ++ (codes "end\n" ++ rest)) h → (rest ≡ []) × (h ≡ histories_of p)
unfolding after
ends_here v laws p h rest front j =
    elim (next v laws p h (codes "end\n" ++ rest) (codes "end") rest j.well_formed
    (front h (codes "end\n" ++ rest) j.well_formed j.text_is)
    (cut_front 10 (codes "end") rest refl)) [
      | inl on ↦
          let says_end : Some End ≡ Some on.said =
          sym ((line_word v laws).again End tt) ∙ ap (line_in v) on.is.1
          ∙ (line_word v laws).again on.said on.is.0 in
          absurd (none-some on.place (subst (λ (l : Line). after p l ≡ Some on.place)
          (sym (same_Some End on.said says_end)) on.after_is))
      | inr end ↦ (end.nothing, end.all)
    ]

pub tail_of : (v : Version) (p : Place) (h : Histories) (rest : List ℕ) → Ahead v p h rest →
    (front : List ℕ) × (rest ≡ front ++ codes "end\n")
tail_of v p h rest a = tail_by v p.entries p.queue p.logs p.last p.shut h rest a
  where
    tail_by : (v : Version) (es : List Entry) (n : ℕ) (ls : List PortLog) (o : Option PortLog)
        (s : Bool) (h : Histories) (rest : List ℕ) → AheadOf v es n ls o s h rest →
        (front : List ℕ) × (rest ≡ front ++ codes "end\n")
    tail_by v es n ls None s h rest a = (
      text.entries v a.left ++ text.logs v h.logs,
      a.text_is
          ∙ sym (append_assoc (text.entries v a.left) (text.logs v h.logs) (codes "end\n")),
    )
    tail_by v es n ls (Some l) s h rest a = (
      text.dids v a.dids ++ text.logs v a.more,
      a.text_is
          ∙ sym (append_assoc (text.dids v a.dids) (text.logs v a.more) (codes "end\n")),
    )

-- a text without a further line's end is none
pub unfinished : (v : Version) (p : Place) (h : Histories) (rest : List ℕ) → IsFront v p →
    cut_at 10 rest ≡ None → IsJournal v (so_far v p ++ rest) h → ⊥
unfinished v p h rest front none j =
    let tail = tail_of v p h rest (front h rest j.well_formed j.text_is) in
    none-some (codes "end", [])
    (sym (uncut_tail tail.0 (codes "end\n") (sym (ap (cut_at 10) tail.1) ∙ none)))

-- ---- answers

-- at a line
pub stopped : (v : Version) → Laws → (stop : Stop) (p q : Place) (bytes rest line later : List ℕ)
    (n : ℕ) →
    IsSound v p → IsFront v p → bytes ≡ so_far v p ++ rest → line_ends (so_far v p) + 1 ≡ n →
    cut_at 10 rest ≡ Some (line, later) → FollowsText v (Err stop) p q line →
    IsAnswer v (Err (fault_of stop n)) bytes
stopped v laws NoMemory p q bytes rest line later n sound front t count cut refused = tt
stopped v laws Refused p q bytes rest line later n sound front t count cut refused =
    inl (record {
      front = so_far v p;
      rest = rest;
      line = line;
      later = later;
      text_is = t;
      line_is = cut;
      count = count;
      begins = begins_at v p sound;
      refused = not_begun v laws p line front (line_is_whole rest (line, later) cut) refused;
    })

-- where the lines end
pub stopped_early : (v : Version) (p : Place) (bytes rest : List ℕ) (n : ℕ) → IsSound v p →
    IsFront v p →
    bytes ≡ so_far v p ++ rest → line_ends (so_far v p) + 1 ≡ n → cut_at 10 rest ≡ None →
    IsFirstRefused v bytes n
stopped_early v p bytes rest n sound front t count none =
    inr (record {
      front = so_far v p;
      piece = rest;
      text_is = t;
      no_line = none;
      count = count;
      begins = begins_at v p sound;
      unfinished = λ h j.
          unfinished v p h rest front none (subst (λ (z : List ℕ). IsJournal v z h) t j);
    })

-- behind the end
behind_end : (v : Version) → Laws → (p : Place) (bytes behind : List ℕ) (n : ℕ) → IsSound v p →
    IsFront v p →
    bytes ≡ (so_far v p ++ codes "end\n") ++ behind → line_ends (so_far v p) + 1 ≡ n → behind ≢ [] →
    (o : Option (List ℕ × List ℕ)) → cut_at 10 behind ≡ o → IsFirstRefused v bytes (n + 1)
behind_end v laws p bytes behind n sound front t count some None cut =
    inr (record {
      front = so_far v p ++ codes "end\n";
      piece = behind;
      text_is = t;
      no_line = cut;
      count = omega (arith, count, one_line_more (so_far v p) (codes "end") refl);
      begins = begins_ended v p sound;
      unfinished = λ h j. some (ends_here v laws p h behind front
          (subst (λ (z : List ℕ). IsJournal v z h)
          (t ∙ append_assoc (so_far v p) (codes "end\n") behind) j)).0;
    })
behind_end v laws p bytes behind n sound front t count some (Some parts) cut =
    inl (record {
      front = so_far v p ++ codes "end\n";
      rest = behind;
      line = parts.0;
      later = parts.1;
      text_is = t;
      line_is = cut;
      count = omega (arith, count, one_line_more (so_far v p) (codes "end") refl);
      begins = begins_ended v p sound;
      refused = λ begun.
          let none = (ends_here v laws p begun.1 ((parts.0 ++ 10 ∷ []) ++ begun.0) front
          (subst (λ (z : List ℕ). IsJournal v z begun.1)
          (append_assoc (so_far v p ++ codes "end\n") (parts.0 ++ 10 ∷ []) begun.0
          ∙ append_assoc (so_far v p) (codes "end\n") ((parts.0 ++ 10 ∷ []) ++ begun.0)) begun.2)).0
          in
          not_nothing parts.0 begun.0 none;
    })
  where
    not_nothing : (line rest : List ℕ) → (line ++ 10 ∷ []) ++ rest ≡ [] → ⊥
    not_nothing [] rest e = omega (arith, ap length e)
    not_nothing (b ∷ bs) rest e = omega (arith, ap length e)

pub closed_by : (v : Version) → Laws → (r : Result Histories JournalFault) (p : Place)
    (bytes behind : List ℕ)
    (n : ℕ) → IsSound v p → IsFront v p → bytes ≡ (so_far v p ++ codes "end\n") ++ behind →
    line_ends (so_far v p) + 1 ≡ n → Closes r p behind n → IsAnswer v r bytes
closed_by v laws (Ok h) p bytes behind n sound front t count e = (
  record {
    well_formed = subst (IsWellFormedIn v) (sym e.1) (well_formed v p sound);
    text_is = t ∙ ap (λ z. (so_far v p ++ codes "end\n") ++ z) e.0
        ∙ append-nil (so_far v p ++ codes "end\n")
        ∙ ap (text.journal_in v) (sym e.1);
  },
  λ g j. e.1 ∙ sym (ends_here v laws p g behind front (subst (λ (z : List ℕ). IsJournal v z g)
      (t ∙ append_assoc (so_far v p) (codes "end\n") behind) j)).1,
)
closed_by v laws (Err (Bad line)) p bytes behind n sound front t count e =
    subst (λ (m : ℕ). IsFirstRefused v bytes m) (sym e.1)
    (behind_end v laws p bytes behind n sound front t count e.0 (cut_at 10 behind) refl)
closed_by v laws (Err fault.NoMemory) p bytes behind n sound front t count e = tt

first_line : (v : Version) (h : Histories) →
    cut_at 10 (text.journal_in v h) ≡ Some (text.title v, text.histories v h ++ codes "end\n")
first_line v h =
    ap (cut_at 10) (append_assoc (text.heading v) (text.histories v h) (codes "end\n")
    ∙ append_assoc (text.title v) (10 ∷ []) (text.histories v h ++ codes "end\n"))
    ∙ cut_front 10 (text.title v) (text.histories v h ++ codes "end\n") (title_whole v)

pub no_heading : (v : Version) (bytes line later : List ℕ) → cut_at 10 bytes ≡ Some (line, later) →
    bytes_eq line (text.title v) ≡ false → IsFirstRefused v bytes 1
no_heading v bytes line later cut other =
    inl (record {
      front = [];
      rest = bytes;
      line = line;
      later = later;
      text_is = refl;
      line_is = cut;
      count = refl;
      begins = begins_nothing v;
      refused = λ begun.
          let first : Some (line, begun.0)
          ≡ Some (text.title v, text.histories v begun.1 ++ codes "end\n") =
          sym (cut_front 10 line begun.0 (line_is_whole bytes (line, later) cut))
          ∙ sym (ap (cut_at 10) (append_assoc line (10 ∷ []) begun.0))
          ∙ ap (cut_at 10) begun.2.text_is ∙ first_line v begun.1 in
          let same : line ≡ text.title v =
          ap (λ (x : List ℕ × List ℕ). x.0) (same_Some _ _ first) in
          false≢true (sym other ∙ word_is line (text.title v) same);
    })

pub no_line : (v : Version) (bytes : List ℕ) → cut_at 10 bytes ≡ None → IsFirstRefused v bytes 1
no_line v bytes none =
    inr (record {
      front = [];
      piece = bytes;
      text_is = refl;
      no_line = none;
      count = refl;
      begins = begins_nothing v;
      unfinished = λ h j. none-some (text.title v, text.histories v h ++ codes "end\n")
          (sym none ∙ ap (cut_at 10) j.text_is ∙ first_line v h);
    })

-- ---- what an answer says

pub never_both : (v : Version) (text : List ℕ) (h : Histories) (line : ℕ) → IsJournal v text h →
    IsFirstRefused v text line → ⊥
never_both v text h n j (inl bad) =
    bad.refused (
      bad.later,
      h,
      record {
        well_formed = j.well_formed;
        text_is = line_before bad.front bad.line bad.later
            ∙ ap (λ z. bad.front ++ z)
            (sym (cut_some 10 bad.rest (bad.line, bad.later) bad.line_is))
            ∙ sym bad.text_is ∙ j.text_is;
      },
    )
never_both v text h n j (inr early) = early.unfinished h j

pub found_by : (v : Version) (r : Result Histories JournalFault) (text : List ℕ) →
    IsAnswer v r text →
    IfOk r (IsJournal v text)
found_by v (Ok h) text a = a.0
found_by v (Err e) text a = tt

pub only_by : (v : Version) (r : Result Histories JournalFault) (text : List ℕ) →
    IsAnswer v r text →
    (h : Histories) → IsJournal v text h → Answers r h
only_by v (Ok g) text a h j = a.1 h j
only_by v (Err (Bad line)) text a h j = absurd (never_both v text h line j a)
only_by v (Err fault.NoMemory) text a h j = tt

pub refused_by : (v : Version) (r : Result Histories JournalFault) (text : List ℕ) →
    IsAnswer v r text →
    (line : ℕ) → r ≡ Err (Bad line) → IsFirstRefused v text line
refused_by v r text a line e = subst (λ (s : Result Histories JournalFault). IsAnswer v s text) e a
