-- Each kind of step keeps the rule of the words, and tells what it says.
use Rattle.std.proofs.Common.{◌≡◌, ℕ, ◌+◌, ◌<◌, ◌≤◌, true, false, List, [], ◌∷◌, ◌++◌, length}
use Rattle.std.proofs.Common.{get_or, set, refl, sym, ap, ◌∙◌, subst, arith, true≢false, le_refl}
use Rattle.std.proofs.Common.{get_or-set_same, get_or-set_other, length-set}
use Rattle.std.proofs.lemmas.List.{set-get_or}
use mathlib.Core.Option.{none}
use mathlib.Core.Logic.{dite}
use native.Mathlib.Decide.{ℕ_discrete}
use Rattle.atomic_table.specs.Table.{State, Me, step, keeps, stepped, opening, Allows, Splits}
use Rattle.atomic_table.specs.Table.{Joins}
use Rattle.table_seats.specs.Seats.{each_first, each_set, each_split, each_joined, was_there}
use Rattle.table_seats.specs.Numbered.{at_number, at_same, at_other}
use Rattle.glance.specs.declared.totals.Totals.{Totals}
use Rattle.glance.specs.declared.view.Reading.{Reading}
use Rattle.glance.specs.declared.view.View.{View}
use Rattle.glance.specs.Words.{totals_of}
use Rattle.glance.specs.Views as views
use Rattle.glance.specs.Views.{latest, NeverDescend, readings_of, shown_of, AreBeginnings}
use Rattle.glance.specs.Rule.{Fits, Shows, first_view, maker_view, writer_view, reader_view}
use Rattle.glance.specs.Rule.{published_view, read_view, told_view, clear_view}
use Rattle.glance.specs.Rule.{Publishes, Reads, Compares}
use Rattle.glance.proofs.Readings.{read_rise, rise_longer, last_longer, one_more, none_more}
use Rattle.glance.proofs.Readings.{reading}
use Rattle.glance.proofs.Readings.{grown_longer, grown_more, read_off_beginnings}

-- words that all are 0, and the first seat
pub opens : (places : ℕ) (ws : List ℕ) → length ws ≡ places → ((k : ℕ) → get_or ws k 0 ≡ 0)
    → Shows places (opening ws [] first_view)
opens places ws sized zeros = record {
  published = λ _. [];
  writer = λ _. 0;
  made = 0;
  sized = sized;
  shown = λ k. ap totals_of (zeros k);
  unmade = λ _ _. refl;
  rise = λ _. tt;
  each = each_first (λ id v. Fits (λ _. []) (λ _. 0) 0 id v) first_view
      (record {
        makes = λ _. (refl, refl);
        writes = λ h. absurd (true≢false (sym h));
        reads = λ _. ([], refl);
      });
}

-- the first seat makes the next Writer
pub makes_writer : (places id : ℕ) (v : View) → v.makes ≡ true → v.writes ≡ false
    → Splits (Shows places) id v (maker_view v) (writer_view v.place)
makes_writer places id v makes writes s r at =
    let f = r.each id v at in
    let here = f.makes makes in
    let is = here.1 in
    let n : ℕ = length (set s.views id (maker_view v)) in
    let seats : ℕ → ℕ = at_number v.place n r.writer in
    let F : ℕ → View → Type 0 = λ i u. Fits r.published seats (v.place + 1) i u in record {
      published = r.published;
      writer = seats;
      made = v.place + 1;
      sized = r.sized;
      shown = r.shown;
      unmade = λ k h. r.unmade k (omega arith);
      rise = r.rise;
      each = each_split F s.views id (maker_view v) (writer_view v.place)
          (record {
            makes = λ _. (here.0, refl);
            writes = λ h. absurd (true≢false (sym h ∙ writes));
            reads = f.reads;
          })
          (record {
            makes = λ h. absurd (true≢false (sym h));
            writes = λ _. (
              at_same v.place v.place n r.writer refl,
              omega arith,
              sym (r.unmade v.place (omega arith)),
            );
            reads = λ j. (r.published j, refl);
          })
          (λ i u ne at_u. let g = r.each i u at_u in record {
            makes = λ h. absurd (ne ((g.makes h).0 ∙ sym here.0));
            writes = λ h. let w = g.writes h in
                let low = w.1 in (
                  at_other v.place u.place n r.writer (λ e. omega arith) ∙ w.0,
                  omega arith,
                  w.2,
                );
            reads = g.reads;
          });
    }

-- what is known of any place, once totals more are published for the place k
reads_longer : (published : ℕ → List Totals) (k j : ℕ) (t : Totals) (lists : List (List Totals))
    → AreBeginnings lists (published j)
    → AreBeginnings lists (at_number k (published k ++ t ∷ []) published j)
reads_longer published k j t lists h =
    dite (ℕ_discrete j k)
    (λ e. subst (AreBeginnings lists)
    (sym (at_same k j (published k ++ t ∷ []) published e))
    (grown_longer (published k) [] lists t
    (subst (λ i. AreBeginnings lists (published i)) e h)))
    (λ ne. subst (AreBeginnings lists)
    (sym (at_other k j (published k ++ t ∷ []) published ne)) h)

-- a Writer publishes
pub publishes : (places slots id : ℕ) (m : Me ℕ View) (k n : ℕ) → m.0.writes ≡ true
    → m.0.place ≡ k → k < places
    → (latest m.0.published).events ≤ (totals_of n).events
    → Allows (Shows places) slots id m k (λ _. n) (λ _. Publishes (step slots k n 0 none) m n)
publishes places slots id m k n writes place below later s r _ at _ =
    let t : Totals = totals_of n in
    let w : View = published_view m.0 t in
    let f = r.each id m.0 at in
    let own = f.writes writes in
    let same : m.0.published ≡ r.published k = own.2 ∙ ap r.published place in
    let low : m.0.place < r.made = own.1 in
    let list : List Totals = r.published k ++ t ∷ [] in
    let grown : ℕ → List Totals = at_number k list r.published in
    let F : ℕ → View → Type 0 = λ i u. Fits grown r.writer r.made i u in
    let long = r.sized in (
      w,
      keeps,
      tt,
      record {
        published = grown;
        writer = r.writer;
        made = r.made;
        sized = length-set s.words k n ∙ r.sized;
        shown = λ j. dite (ℕ_discrete j k)
            (λ e. ap totals_of (ap (λ i. get_or (set s.words k n) i 0) e
            ∙ get_or-set_same s.words k n 0 (omega arith))
            ∙ sym (ap latest (at_same k j list r.published e)
            ∙ last_longer views.opening (r.published k) t))
            (λ ne. ap totals_of (get_or-set_other s.words k j n 0 ne) ∙ r.shown j
            ∙ sym (ap latest (at_other k j list r.published ne)));
        unmade = λ j h. at_other k j list r.published (λ e. omega arith) ∙ r.unmade j h;
        rise = λ j. dite (ℕ_discrete j k)
            (λ e. subst NeverDescend (sym (at_same k j list r.published e))
            (rise_longer views.opening (r.published k) t (r.rise k)
            (subst (λ (ps : List Totals). (latest ps).events ≤ t.events) same later)))
            (λ ne. subst NeverDescend (sym (at_other k j list r.published ne)) (r.rise j));
        each = each_set F s.views id w
            (record {
              makes = f.makes;
              writes = λ _. (
                own.0,
                own.1,
                ap (λ (ps : List Totals). ps ++ t ∷ []) same
                    ∙ sym (at_same k m.0.place list r.published place),
              );
              reads = λ j. reads_longer r.published k j t (shown_of j m.0.readings) (f.reads j);
            })
            (λ i u ne at_u. let g = r.each i u at_u in record {
              makes = g.makes;
              writes = λ h. let p = g.writes h in (
                p.0,
                p.1,
                p.2 ∙ sym (at_other k u.place list r.published
                    (λ e. ne (sym p.0 ∙ ap r.writer (e ∙ sym place) ∙ own.0))),
              );
              reads = λ j. reads_longer r.published k j t (shown_of j u.readings) (g.reads j);
            });
      },
      refl,
    )

-- the rule, where a word is found as it is and one seat's view changes
looked : (places : ℕ) (s : State ℕ View) (r : Shows places s) (id k : ℕ) (cs : List (ℕ × ℕ))
    (w : View) → Fits r.published r.writer r.made id w
    → Shows places (stepped s k (get_or s.words k 0) id cs w keeps)
looked places s r id k cs w fits =
    let same : set s.words k (get_or s.words k 0) ≡ s.words = set-get_or s.words k 0 in record {
      published = r.published;
      writer = r.writer;
      made = r.made;
      sized = ap length same ∙ r.sized;
      shown = λ j. ap (λ (ws : List ℕ). totals_of (get_or ws j 0)) same ∙ r.shown j;
      unmade = r.unmade;
      rise = r.rise;
      each = each_set (λ i u. Fits r.published r.writer r.made i u) s.views id w fits
          (λ i u ne at_u. r.each i u at_u);
    }

-- what is known of any place, once the place k is read
reads_one : (published : ℕ → List Totals) (k j : ℕ) (rs : List Reading)
    → AreBeginnings (shown_of j rs) (published j)
    → AreBeginnings (shown_of j (rs ++ reading k (published k) ∷ [])) (published j)
reads_one published k j rs h =
    dite (ℕ_discrete k j)
    (λ e. subst (λ (lists : List (List Totals)). AreBeginnings lists (published j))
    (sym (one_more j rs k (published k) e
    ∙ ap (λ i. shown_of j rs ++ published i ∷ []) e))
    (grown_more (published j) [] (shown_of j rs) h))
    (λ ne. subst (λ (lists : List (List Totals)). AreBeginnings lists (published j))
    (sym (none_more j rs k (published k) ne)) h)

-- a place is read
pub reads : (places slots id : ℕ) (m : Me ℕ View) (k : ℕ)
    → Allows (Shows places) slots id m k (λ n. n) (Reads (step slots k 0 0 none) m)
reads places slots id m k s r _ at _ =
    let w : View = read_view m.0 k (r.published k) in
    let f = r.each id m.0 at in
    let fits : Fits r.published r.writer r.made id w = record {
      makes = f.makes;
      writes = f.writes;
      reads = λ j. reads_one r.published k j m.0.readings (f.reads j);
    } in (
      w,
      keeps,
      tt,
      looked places s r id k m.1 w fits,
      record {
        published = r.published k;
        read = refl;
        last = r.shown k;
        grows = f.reads k;
        rise = read_rise 0 (views.opening ∷ r.published k) (readings_of k w.readings)
            (le_refl 0, r.rise k)
            (read_off_beginnings (r.published k) (shown_of k w.readings) (fits.reads k));
      },
    )

-- a note is cut off
pub notes : (places id : ℕ) (v : View)
    → Splits (Shows places) id v v (reader_view v.readings)
notes places id v s r at =
    let F : ℕ → View → Type 0 = λ i u. Fits r.published r.writer r.made i u in record {
      published = r.published;
      writer = r.writer;
      made = r.made;
      sized = r.sized;
      shown = r.shown;
      unmade = r.unmade;
      rise = r.rise;
      each = each_split F s.views id v (reader_view v.readings) (r.each id v at)
          (record {
            makes = λ h. absurd (true≢false (sym h));
            writes = λ h. absurd (true≢false (sym h));
            reads = (r.each id v at).reads;
          })
          (λ i u ne at_u. r.each i u at_u);
    }

-- a note is taken
pub takes_note : (places id other : ℕ) (v w : View)
    → Joins (Shows places) id v other w (told_view v w) (reader_view [])
takes_note places id other v w s r at ne at_o =
    let b : View = told_view v w in
    let F : ℕ → View → Type 0 = λ i u. Fits r.published r.writer r.made i u in
    let f = r.each id v at in
    let g = r.each other w (was_there s.views id other b w ne at_o) in record {
      published = r.published;
      writer = r.writer;
      made = r.made;
      sized = r.sized;
      shown = r.shown;
      unmade = r.unmade;
      rise = r.rise;
      each = each_joined F s.views id other b (reader_view [])
          (record { makes = f.makes; writes = f.writes; reads = g.reads })
          (record {
            makes = λ h. absurd (true≢false (sym h));
            writes = λ h. absurd (true≢false (sym h));
            reads = λ j. (r.published j, refl);
          })
          (λ i u ne_id ne_o at_u. r.each i u at_u);
    }

-- a Writer compares
pub compares : (places slots id : ℕ) (m : Me ℕ View) (k : ℕ) → m.0.writes ≡ true
    → Allows (Shows places) slots id m k (λ n. n) (Compares (step slots k 0 0 none) m)
compares places slots id m k writes s r _ at _ =
    let f = r.each id m.0 at in
    let own = f.writes writes in
    let lists : List (List Totals) = shown_of m.0.place m.0.readings in
    let shown : AreBeginnings lists m.0.published =
    subst (AreBeginnings lists) (sym own.2) (f.reads m.0.place) in (
      clear_view m.0,
      keeps,
      tt,
      looked places s r id k m.1 (clear_view m.0)
          (record { makes = f.makes; writes = f.writes; reads = λ j. (r.published j, refl) }),
      record {
        clear = refl;
        shown = shown;
        read_off = read_off_beginnings m.0.published lists shown;
      },
    )
