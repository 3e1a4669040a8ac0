-- What a reader of a journal keeps, line by line.
use Rattle.std.proofs.Common.{◌≡◌, ℕ, zero, suc, ◌<◌, ◌≤◌, Bool, true, false, leb, eqb}
use Rattle.std.proofs.Common.{◌||◌, List, [], ◌∷◌, ◌++◌, length, get_or, Option, Some, None, ◌∙◌}
use Rattle.std.proofs.Common.{refl, sym, ap, subst, arith, All, inl, inr, map, eq-eqb}
use Rattle.std.specs.Prelude.{◌≢◌, AllPairs, IfSome, option_to_list}
use Rattle.std.specs.List.{list_any}
use Rattle.std.proofs.lemmas.Bool.{leb-true, false≢true}
use Rattle.std.proofs.lemmas.Option.{none-some, same_Some}
use Rattle.std.proofs.lemmas.List.{map_push}
use Rattle.std.proofs.Common.{append-nil}
use Rattle.std.proofs.lemmas.List.Elements.{All-nil, All-push}
use Rattle.std.proofs.lemmas.List.Quantifiers.{all_pairs_push}
use Rattle.histories.specs.declared.entry.Entry.{Entry}
use Rattle.histories.specs.declared.log.Did.{Did}
use Rattle.histories.specs.declared.log.Did.TheVariants.{Received, Sent, Closed}
use Rattle.histories.specs.declared.log.PortLog.{PortLog}
use Rattle.journal_reading.specs.declared.line.Line.{Line}
use Rattle.journal_reading.specs.declared.line.Line.TheVariants.{Heading, EntryLine, PortLine}
use Rattle.journal_reading.specs.declared.line.Line.TheVariants.{DidLine}
use Rattle.journal_reading.specs.declared.line.Line.TheVariants.{End}
use Rattle.journal_reading.specs.Lines.{FitsLine}
use Rattle.journals.specs.declared.version.Version.{Version}
use Rattle.journals.specs.Formed.{FitsDid, IsEntry, IsLog, IsWide, IsWellFormedIn}
use Rattle.journal_reading.specs.JournalFile.{IsSound, Place, after, histories_of, is_closing}
use Rattle.journal_reading.specs.JournalFile.{is_port}
use Rattle.journal_reading.specs.JournalFile.{start}
use Rattle.journal_reading.proofs.WordCuts.{chosen}

differs : (port : ℕ) (ls : List PortLog) (k d : ℕ) → list_any (is_port port) ls ≡ false →
    k < length (map (λ (l : PortLog). l.port) ls) →
    get_or (map (λ (l : PortLog). l.port) ls) k d ≡ port → ⊥
differs port [] k d none less same = absurd (omega arith)
differs port (l ∷ ls) zero d none less same =
    false≢true (sym none ∙ ap (λ b. b || list_any (is_port port) ls) (eq-eqb l.port port same))
differs port (l ∷ ls) (suc k) d none less same =
    differs port ls k d (later (eqb l.port port) (list_any (is_port port) ls) none) (omega arith)
    same
  where
    later : (a b : Bool) → (a || b) ≡ false → b ≡ false
    later true b e = absurd (false≢true (sym e))
    later false b e = e

new_differs : (ls : List PortLog) (l : PortLog) → list_any (is_port l.port) ls ≡ false →
    AllPairs (λ a b. a ≢ b) (map (λ (x : PortLog). x.port) ls) →
    AllPairs (λ a b. a ≢ b) (map (λ (x : PortLog). x.port) (ls ++ l ∷ []))
new_differs ls l none h =
    subst (AllPairs (λ (a b : ℕ). a ≢ b)) (sym (map_push (λ (x : PortLog). x.port) ls l))
    (all_pairs_push (λ (a b : ℕ). a ≢ b) (map (λ (x : PortLog). x.port) ls) l.port h
    (λ k d less same. differs l.port ls k d none less same))

same_differ : (ls : List PortLog) (l m : PortLog) → l.port ≡ m.port →
    AllPairs (λ a b. a ≢ b) (map (λ (x : PortLog). x.port) (ls ++ l ∷ [])) →
    AllPairs (λ a b. a ≢ b) (map (λ (x : PortLog). x.port) (ls ++ m ∷ []))
same_differ ls l m e h =
    subst (AllPairs (λ (a b : ℕ). a ≢ b)) (map_push (λ (x : PortLog). x.port) ls l
    ∙ ap (λ p. map (λ (x : PortLog). x.port) ls ++ p ∷ []) e
    ∙ sym (map_push (λ (x : PortLog). x.port) ls m)) h

all_logs : (v : Version) (ls : List PortLog) (o : Option PortLog) → All (IsLog v) ls →
    IfSome o (IsLog v) → All (IsLog v) (ls ++ option_to_list o)
all_logs v ls None h g = subst (All (IsLog v)) (sym (append-nil ls)) h
all_logs v ls (Some l) h g = All-push (IsLog v) ls l h g

not_closed : (d : Did) → is_closing d ≡ false → d ≢ Closed
not_closed (Received q n v) e same = absurd (cc)
not_closed (Sent c a o) e same = absurd (cc)
not_closed Closed e same = false≢true (sym e)

place : List Entry → ℕ → List PortLog → Option PortLog → Bool → Place
place es n ls o s = record { entries = es; queue = n; logs = ls; last = o; shut = s }

entry_sound : (v : Version) (es : List Entry) (n : ℕ) (ls : List PortLog) (s : Bool) (x : Entry) →
    IsSound v (place es n ls None s) → IsEntry v x → n ≤ x.queue →
    IsSound v (place (es ++ x ∷ []) x.queue ls None s)
unfolding place
entry_sound v es n ls s x h fits le = record {
  entries = All-push (IsEntry v) es x h.entries fits;
  ascend = all_pairs_push (λ (a b : Entry). a.queue ≤ b.queue) es x h.ascend
      (λ k d less. let b : (get_or es k d).queue ≤ n = h.below k d less in omega arith);
  below = All-push (λ (e : Entry). e.queue ≤ x.queue) es x
      (λ k d less. let b : (get_or es k d).queue ≤ n = h.below k d less in omega arith)
      (omega arith);
  logs = h.logs;
  last = tt;
  bare = h.bare;
  unclosed = h.unclosed;
  differ = h.differ;
}

port_sound : (v : Version) (es : List Entry) (n : ℕ) (ls : List PortLog) (o : Option PortLog)
    (s : Bool) (port : ℕ) → IsSound v (place es n ls o s) → IsWide port →
    list_any (is_port port) (ls ++ option_to_list o) ≡ false →
    IsSound v (place es n (ls ++ option_to_list o) (Some (record { port = port; dids = [] })) false)
unfolding place
port_sound v es n ls o s port h fits none = record {
  entries = h.entries;
  ascend = h.ascend;
  below = h.below;
  logs = all_logs v ls o h.logs h.last;
  last = record {
    port = fits;
    dids = All-nil (FitsDid v);
    closed_last = λ i j d less within. absurd (omega arith);
  };
  bare = tt;
  unclosed = λ e. All-nil (λ (d : Did). d ≢ Closed);
  differ = new_differs (ls ++ option_to_list o) (record { port = port; dids = [] }) none h.differ;
}

did_sound : (v : Version) (es : List Entry) (n : ℕ) (ls : List PortLog) (l : PortLog) (d : Did) →
    IsSound v (place es n ls (Some l) false) → FitsDid v d →
    IsSound v (place es n ls (Some (record { port = l.port; dids = l.dids ++ d ∷ [] }))
    (is_closing d))
unfolding place
did_sound v es n ls l d h fits = record {
  entries = h.entries;
  ascend = h.ascend;
  below = h.below;
  logs = h.logs;
  last = record {
    port = h.last.port;
    dids = All-push (FitsDid v) l.dids d h.last.dids fits;
    closed_last = all_pairs_push (λ (a b : Did). a ≢ Closed) l.dids d h.last.closed_last
        (λ k x less. h.unclosed refl k x less);
  };
  bare = tt;
  unclosed = λ e. All-push (λ (x : Did). x ≢ Closed) l.dids d (h.unclosed refl) (not_closed d e);
  differ = same_differ ls l (record { port = l.port; dids = l.dids ++ d ∷ [] }) refl h.differ;
}

sound_by : (v : Version) (es : List Entry) (n : ℕ) (ls : List PortLog) (o : Option PortLog)
    (s : Bool) (q : Place) (l : Line) → IsSound v (place es n ls o s) → FitsLine v l →
    after (place es n ls o s) l ≡ Some q → IsSound v q
unfolding after place
sound_by v es n ls o s q Heading h fits e = absurd (none-some q e)
sound_by v es n ls o s q End h fits e = absurd (none-some q e)
sound_by v es n ls None s q (EntryLine x) h fits e =
    elim (chosen (leb n x.queue) _ None (Some q) e) [
      | inl g ↦ subst (IsSound v) (same_Some _ q g.1)
          (entry_sound v es n ls s x h fits (leb-true n x.queue g.0))
      | inr g ↦ absurd (none-some q g.1)
    ]
sound_by v es n ls (Some l) s q (EntryLine x) h fits e = absurd (none-some q e)
sound_by v es n ls o s q (PortLine port) h fits e =
    elim (chosen (list_any (is_port port) (ls ++ option_to_list o)) None _ (Some q) e) [
      | inl g ↦ absurd (none-some q g.1)
      | inr g ↦ subst (IsSound v) (same_Some _ q g.1) (port_sound v es n ls o s port h fits g.0)
    ]
sound_by v es n ls None true q (DidLine d) h fits e = absurd (none-some q e)
sound_by v es n ls None false q (DidLine d) h fits e = absurd (none-some q e)
sound_by v es n ls (Some l) true q (DidLine d) h fits e = absurd (none-some q e)
sound_by v es n ls (Some l) false q (DidLine d) h fits e =
    subst (IsSound v) (same_Some _ q e) (did_sound v es n ls l d h fits)

pub stays_sound : (v : Version) (p q : Place) (l : Line) → IsSound v p → FitsLine v l →
    after p l ≡ Some q →
    IsSound v q
unfolding place
stays_sound v p q l h fits e =
    sound_by v p.entries p.queue p.logs p.last p.shut q l h fits e

pub sound_start : (v : Version) (p : Place) → p ≡ start → IsSound v p
sound_start v p e = subst (IsSound v) (sym e) (record {
  entries = All-nil (IsEntry v);
  ascend = λ i j d less within. absurd (omega arith);
  below = All-nil (λ (x : Entry). x.queue ≤ 0);
  logs = All-nil (IsLog v);
  last = tt;
  bare = refl;
  unclosed = λ f. tt;
  differ = λ i j d less within. absurd (omega arith);
})

pub well_formed : (v : Version) (p : Place) → IsSound v p → IsWellFormedIn v (histories_of p)
well_formed v p h = record {
  nothing_lost = refl;
  entries = h.entries;
  queues_ascend = h.ascend;
  logs = all_logs v p.logs p.last h.logs h.last;
  ports_differ = h.differ;
}
