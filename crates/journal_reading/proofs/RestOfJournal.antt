-- What of well formed histories is still to come behind a place of their journal, and that the
-- reader goes on along it.
use Rattle.std.proofs.Common.{◌≡◌, ℕ, zero, suc, ◌≤◌, Bool, true, false, leb, eqb}
use Rattle.std.proofs.Common.{◌||◌, ◌⊎◌, inl, inr, List, [], ◌∷◌, ◌++◌, length, Option, Some}
use Rattle.std.proofs.Common.{None, ◌∙◌, refl, sym, ap, subst, arith, All, map, codes}
use Rattle.std.proofs.Common.{append_assoc, append-nil}
use Rattle.std.specs.Prelude.{◌≢◌, AllPairs, option_to_list}
use Rattle.std.specs.List.{list_any}
use Rattle.std.proofs.lemmas.Bool.{eqb-true, false_from_ne_true, false≢true, le-leb}
use Rattle.std.proofs.lemmas.List.{append_cancel_left}
use Rattle.std.proofs.lemmas.List.Elements.{All-head, All-tail}
use Rattle.std.proofs.lemmas.Option.{none-some, same_Some}
use Rattle.text_lines.specs.Words.{cut_at}
use Rattle.histories.specs.declared.entry.Entry.{Entry}
use Rattle.histories.specs.declared.histories.Histories.{Histories}
use Rattle.histories.specs.declared.histories.Lost.{Lost}
use Rattle.histories.specs.declared.log.Did.{Did}
use Rattle.histories.specs.declared.log.Did.TheVariants.{Received, Sent, Closed}
use Rattle.histories.specs.declared.log.PortLog.{PortLog}
use Rattle.journal_reading.specs.declared.line.Line.{Line}
use Rattle.journal_reading.specs.declared.line.Line.TheVariants.{EntryLine, PortLine, DidLine, End}
use Rattle.journals.specs.declared.version.Version.{Version}
use Rattle.journals.specs.Format as text
use Rattle.journal_reading.specs.Lines.{IsLine}
use Rattle.journals.specs.Formed.{FitsDid, IsEntry, IsLog, IsWellFormedIn}
use Rattle.journal_reading.specs.JournalFile.{Place, after, histories_of, is_closing, is_port}
use Rattle.journal_reading.specs.JournalFile.{so_far}
use Rattle.journal_reading.specs.JournalFile.{start}
use Rattle.journal_reading.proofs.LineForm.{line_word}
use Rattle.journal_reading.proofs.WordCuts.{Laws, cut_front, passed, taken}

-- ---- lists

pairs_tail : {X : Type 0} (R : X → X → Type 0) (x : X) (xs : List X) → AllPairs R (x ∷ xs) →
    AllPairs R xs
pairs_tail R x xs h = λ i j d less within. h (suc i) (suc j) d (omega arith) (omega arith)

pairs_head : {X : Type 0} (R : X → X → Type 0) (x : X) (xs : List X) → AllPairs R (x ∷ xs) →
    All (R x) xs
pairs_head R x xs h = λ k d less. h zero (suc k) d (omega arith) (omega arith)

behind : (P : ℕ → Type 0) (xs : List PortLog) (m : PortLog) (ms : List PortLog) →
    All P (map (λ (l : PortLog). l.port) (xs ++ m ∷ ms)) → P m.port
behind P [] m ms h = All-head P m.port (map (λ (l : PortLog). l.port) ms) h
behind P (x ∷ xs) m ms h =
    behind P xs m ms (All-tail P x.port (map (λ (l : PortLog). l.port) (xs ++ m ∷ ms)) h)

-- a later log's port is none of the earlier ones'
fresh : (xs : List PortLog) (m : PortLog) (ms : List PortLog) →
    AllPairs (λ a b. a ≢ b) (map (λ (l : PortLog). l.port) (xs ++ m ∷ ms)) →
    list_any (is_port m.port) xs ≡ false
fresh [] m ms h = refl
fresh (x ∷ xs) m ms h =
    let ports = map (λ (l : PortLog). l.port) (xs ++ m ∷ ms) in
    let apart : x.port ≢ m.port = behind (λ b. x.port ≢ b) xs m ms
    (pairs_head (λ (a b : ℕ). a ≢ b) x.port ports h) in
    ap (λ b. b || list_any (is_port m.port) xs) (false_from_ne_true (eqb x.port m.port)
    (λ same. apart (eqb-true x.port m.port same)))
    ∙ fresh xs m ms (pairs_tail (λ (a b : ℕ). a ≢ b) x.port ports h)

closing_is : (d : Did) → is_closing d ≡ true → d ≡ Closed
closing_is (Received q n v) e = absurd (false≢true e)
closing_is (Sent c a o) e = absurd (false≢true e)
closing_is Closed e = refl

-- behind a closing stands nothing
ends_there : (d : Did) (ds : List Did) → AllPairs (λ a b. a ≢ Closed) (d ∷ ds) →
    is_closing d ≡ true → ds ≡ []
ends_there d [] h e = refl
ends_there d (x ∷ xs) h e =
    absurd (All-head (λ (b : Did). d ≢ Closed) x xs
    (pairs_head (λ (a b : Did). a ≢ Closed) d (x ∷ xs) h) (closing_is d e))

-- ---- what is still to come

abbrev pub whole : PortLog → List Did → PortLog
whole l dids = record { port = l.port; dids = l.dids ++ dids }

-- among the entries: those that are left, and all logs
pub record AtEntries (v : Version) (es : List Entry) (n : ℕ) (ls : List PortLog) (h : Histories)
    (rest : List ℕ) : Type 0 where
  pub left : List Entry
  pub entries : h.entries ≡ es ++ left
  pub bare : ls ≡ []
  pub above : All (λ (e : Entry). n ≤ e.queue) left
  pub ascend : AllPairs (λ (a b : Entry). a.queue ≤ b.queue) left
  pub fit : All (IsEntry v) left
  pub text_is : rest ≡ text.entries v left ++ (text.logs v h.logs ++ codes "end\n")

-- in a log: what is left of it, and the logs behind it
pub record InLog (v : Version) (es : List Entry) (ls : List PortLog) (l : PortLog) (s : Bool)
    (h : Histories) (rest : List ℕ) : Type 0 where
  pub dids : List Did
  pub more : List PortLog
  pub entries : h.entries ≡ es
  pub logs : h.logs ≡ ls ++ whole l dids ∷ more
  pub shut : s ≡ true → dids ≡ []
  pub closed_last : AllPairs (λ (a b : Did). a ≢ Closed) dids
  pub fit : All (FitsDid v) dids
  pub logs_fit : All (IsLog v) more
  pub text_is : rest ≡ text.dids v dids ++ (text.logs v more ++ codes "end\n")

abbrev pub AheadOf : Version → List Entry → ℕ → List PortLog → Option PortLog → Bool → Histories →
    List ℕ →
    Type 0
AheadOf v es n ls None s h rest = AtEntries v es n ls h rest
AheadOf v es n ls (Some l) s h rest = InLog v es ls l s h rest

abbrev pub Ahead : Version → Place → Histories → List ℕ → Type 0
Ahead v p h rest = AheadOf v p.entries p.queue p.logs p.last p.shut h rest

-- the next line says something with which the reader goes on
pub record GoesOn (v : Version) (p : Place) (h : Histories) (line later : List ℕ) : Type 0 where
  pub said : Line
  pub place : Place
  pub is : IsLine v line said
  pub after_is : after p said ≡ Some place
  pub ahead : Ahead v place h later

-- or it is the last one, and all was read
pub record Ends (p : Place) (h : Histories) (line later : List ℕ) : Type 0 where
  pub is : line ≡ codes "end"
  pub nothing : later ≡ []
  pub all : h ≡ histories_of p

abbrev pub Next : Version → Place → Histories → List ℕ → List ℕ → Type 0
Next v p h line later = GoesOn v p h line later ⊎ Ends p h line later

-- ---- line by line

place_at : List Entry → ℕ → List PortLog → Option PortLog → Bool → Place
place_at es n ls o s = record { entries = es; queue = n; logs = ls; last = o; shut = s }

split : (word tail rest line later : List ℕ) → cut_at 10 word ≡ None →
    rest ≡ (word ++ codes "\n") ++ tail → cut_at 10 rest ≡ Some (line, later) →
    (line ≡ word) × (later ≡ tail)
split word tail rest line later none e cut =
    let same : (line, later) ≡ (word, tail) = same_Some (line, later) (word, tail)
    (sym cut ∙ ap (cut_at 10) (e ∙ append_assoc word (10 ∷ []) tail)
    ∙ cut_front 10 word tail none) in
    (ap (λ (x : List ℕ × List ℕ). x.0) same, ap (λ (x : List ℕ × List ℕ). x.1) same)

made : List Entry → List PortLog → List Lost → Histories
made entries logs lost = record { entries = entries; logs = logs; lost = lost }

same_histories : (h g : Histories) → h.entries ≡ g.entries → h.logs ≡ g.logs → h.lost ≡ g.lost →
    h ≡ g
unfolding made
same_histories h g a b c =
    ap (λ (x : List Entry). made x h.logs h.lost) a
    ∙ ap (λ (x : List PortLog). made g.entries x h.lost) b
    ∙ ap (λ (x : List Lost). made g.entries g.logs x) c

ended : (v : Version) (es : List Entry) (n : ℕ) (ls : List PortLog) (o : Option PortLog) (s : Bool)
    (h : Histories) (rest line later : List ℕ) → IsWellFormedIn v h → h.entries ≡ es →
    h.logs ≡ ls ++ option_to_list o → rest ≡ codes "end\n" →
    cut_at 10 rest ≡ Some (line, later) → Ends (place_at es n ls o s) h line later
unfolding place_at
ended v es n ls o s h rest line later wf e f t cut =
    let at = split (codes "end") [] rest line later refl t cut in
    record {
      is = at.0;
      nothing = at.1;
      all = same_histories h (histories_of (place_at es n ls o s)) e f wf.nothing_lost;
    }

-- a log begins
begins : (v : Version) → Laws → (es : List Entry) (n : ℕ) (ls : List PortLog) (o : Option PortLog)
    (s : Bool) (h : Histories) (rest line later : List ℕ) (m : PortLog) (ms : List PortLog) →
    h.entries ≡ es → h.logs ≡ (ls ++ option_to_list o) ++ m ∷ ms →
    list_any (is_port m.port) (ls ++ option_to_list o) ≡ false → All (IsLog v) (m ∷ ms) →
    rest ≡ text.logs v (m ∷ ms) ++ codes "end\n" → cut_at 10 rest ≡ Some (line, later) →
    GoesOn v (place_at es n ls o s) h line later
unfolding after place_at
begins v laws es n ls o s h rest line later m ms e f new fit t cut =
    let log = All-head (IsLog v) m ms fit in
    let at = split (text.port_line m.port)
    (text.dids v m.dids ++ (text.logs v ms ++ codes "end\n")) rest line later
    ((line_word v laws).one_line (PortLine m.port) log.port)
    (t ∙ append_assoc ((text.port_line m.port ++ codes "\n") ++ text.dids v m.dids) (text.logs v ms)
    (codes "end\n")
    ∙ append_assoc (text.port_line m.port ++ codes "\n") (text.dids v m.dids)
    (text.logs v ms ++ codes "end\n")) cut in
    record {
      said = PortLine m.port;
      place =
          place_at es n (ls ++ option_to_list o) (Some (record { port = m.port; dids = [] })) false;
      is = (log.port, at.0);
      after_is = passed (list_any (is_port m.port) (ls ++ option_to_list o)) None _ new;
      ahead = record {
        dids = m.dids;
        more = ms;
        entries = e;
        logs = f;
        shut = λ g. absurd (false≢true g);
        closed_last = log.closed_last;
        fit = log.dids;
        logs_fit = All-tail (IsLog v) m ms fit;
        text_is = at.1;
      };
    }

at_logs : (v : Version) → Laws → (es : List Entry) (n : ℕ) (ls : List PortLog) (s : Bool)
    (h : Histories) (rest line later : List ℕ) (logs : List PortLog) → IsWellFormedIn v h →
    h.logs ≡ logs →
    h.entries ≡ es → ls ≡ [] → rest ≡ text.logs v logs ++ codes "end\n" → All (IsLog v) logs →
    cut_at 10 rest ≡ Some (line, later) → Next v (place_at es n ls None s) h line later
at_logs v laws es n ls s h rest line later [] wf f e bare t fit cut =
    inr (ended v es n ls None s h rest line later wf e
    (f ∙ ap (λ (k : List PortLog). k ++ []) (sym bare)) t cut)
at_logs v laws es n ls s h rest line later (m ∷ ms) wf f e bare t fit cut =
    inl (begins v laws es n ls None s h rest line later m ms e
    (f ∙ ap (λ (k : List PortLog). (k ++ []) ++ m ∷ ms) (sym bare))
    (ap (λ (k : List PortLog). list_any (is_port m.port) (k ++ [])) bare) fit t cut)

at_entries : (v : Version) → Laws → (es : List Entry) (n : ℕ) (ls : List PortLog) (s : Bool)
    (h : Histories) (rest line later : List ℕ) (left : List Entry) → IsWellFormedIn v h →
    h.entries ≡ es ++ left →
    ls ≡ [] → All (λ (e : Entry). n ≤ e.queue) left →
    AllPairs (λ (a b : Entry). a.queue ≤ b.queue) left → All (IsEntry v) left →
    rest ≡ text.entries v left ++ (text.logs v h.logs ++ codes "end\n") →
    cut_at 10 rest ≡ Some (line, later) → Next v (place_at es n ls None s) h line later
unfolding after place_at
at_entries v laws es n ls s h rest line later [] wf e bare above ascend fit t cut =
    at_logs v laws es n ls s h rest line later h.logs wf refl (e ∙ append-nil es) bare t wf.logs cut
at_entries v laws es n ls s h rest line later (x ∷ xs) wf e bare above ascend fit t cut =
    let entry = All-head (IsEntry v) x xs fit in
    let at = split (text.entry_line v x)
    (text.entries v xs ++ (text.logs v h.logs ++ codes "end\n")) rest line later
    ((line_word v laws).one_line (EntryLine x) entry)
    (t ∙ append_assoc (text.entry v x) (text.entries v xs) (text.logs v h.logs ++ codes "end\n"))
    cut in
    inl (record {
      said = EntryLine x;
      place = place_at (es ++ x ∷ []) x.queue ls None s;
      is = (entry, at.0);
      after_is = taken (leb n x.queue) _ None
          (le-leb n x.queue (All-head (λ (e : Entry). n ≤ e.queue) x xs above));
      ahead = record {
        left = xs;
        entries = e ∙ sym (append_assoc es (x ∷ []) xs);
        bare = bare;
        above = pairs_head (λ (a b : Entry). a.queue ≤ b.queue) x xs ascend;
        ascend = pairs_tail (λ (a b : Entry). a.queue ≤ b.queue) x xs ascend;
        fit = All-tail (IsEntry v) x xs fit;
        text_is = at.1;
      };
    })

behind_log : (v : Version) → Laws → (es : List Entry) (n : ℕ) (ls : List PortLog) (l : PortLog)
    (s : Bool) (h : Histories) (rest line later : List ℕ) (more : List PortLog) →
    IsWellFormedIn v h →
    h.entries ≡ es → h.logs ≡ ls ++ l ∷ more → All (IsLog v) more →
    rest ≡ text.logs v more ++ codes "end\n" → cut_at 10 rest ≡ Some (line, later) →
    Next v (place_at es n ls (Some l) s) h line later
behind_log v laws es n ls l s h rest line later [] wf e f fit t cut =
    inr (ended v es n ls (Some l) s h rest line later wf e f t cut)
behind_log v laws es n ls l s h rest line later (m ∷ ms) wf e f fit t cut =
    let logs : h.logs ≡ (ls ++ l ∷ []) ++ m ∷ ms = f ∙ sym (append_assoc ls (l ∷ []) (m ∷ ms)) in
    inl (begins v laws es n ls (Some l) s h rest line later m ms e logs
    (fresh (ls ++ l ∷ []) m ms (subst (λ (k : List PortLog).
    AllPairs (λ a b. a ≢ b) (map (λ (x : PortLog). x.port) k)) logs wf.ports_differ)) fit t cut)

in_log : (v : Version) → Laws → (es : List Entry) (n : ℕ) (ls : List PortLog) (l : PortLog)
    (s : Bool) (h : Histories) (rest line later : List ℕ) (dids : List Did) (more : List PortLog) →
    IsWellFormedIn v h → h.entries ≡ es → h.logs ≡ ls ++ whole l dids ∷ more →
    (s ≡ true → dids ≡ []) → AllPairs (λ (a b : Did). a ≢ Closed) dids → All (FitsDid v) dids →
    All (IsLog v) more → rest ≡ text.dids v dids ++ (text.logs v more ++ codes "end\n") →
    cut_at 10 rest ≡ Some (line, later) → Next v (place_at es n ls (Some l) s) h line later
unfolding after place_at
in_log v laws es n ls l s h rest line later [] more wf e f shut closed fit logs_fit t cut =
    behind_log v laws es n ls l s h rest line later more wf e
    (f ∙ ap (λ (ds : List Did). ls ++ record { port = l.port; dids = ds } ∷ more)
    (append-nil l.dids)) logs_fit t cut
in_log v laws es n ls l true h rest line later (d ∷ ds) more wf e f shut closed fit logs_fit t cut =
    absurd (omega (arith, ap length (shut refl)))
in_log v laws es n ls l false h rest line later (d ∷ ds)
    more wf e f shut closed fit logs_fit t cut =
    let one = All-head (FitsDid v) d ds fit in
    let at = split (text.did_line v d)
    (text.dids v ds ++ (text.logs v more ++ codes "end\n")) rest line
    later ((line_word v laws).one_line (DidLine d) one)
    (t ∙ append_assoc (text.did v d) (text.dids v ds) (text.logs v more ++ codes "end\n")) cut in
    inl (record {
      said = DidLine d;
      place = place_at es n ls (Some (whole l (d ∷ []))) (is_closing d);
      is = (one, at.0);
      after_is = refl;
      ahead = record {
        dids = ds;
        more = more;
        entries = e;
        logs = f ∙ ap (λ (k : List Did). ls ++ record { port = l.port; dids = k } ∷ more)
            (sym (append_assoc l.dids (d ∷ []) ds));
        shut = ends_there d ds closed;
        closed_last = pairs_tail (λ (a b : Did). a ≢ Closed) d ds closed;
        fit = All-tail (FitsDid v) d ds fit;
        logs_fit = logs_fit;
        text_is = at.1;
      };
    })

next_by : (v : Version) → Laws → (es : List Entry) (n : ℕ) (ls : List PortLog) (o : Option PortLog)
    (s : Bool) (h : Histories) (rest line later : List ℕ) → IsWellFormedIn v h →
    AheadOf v es n ls o s h rest →
    cut_at 10 rest ≡ Some (line, later) → Next v (place_at es n ls o s) h line later
next_by v laws es n ls None s h rest line later wf a cut =
    at_entries v laws es n ls s h rest line later a.left wf a.entries a.bare a.above a.ascend a.fit
    a.text_is cut
next_by v laws es n ls (Some l) s h rest line later wf a cut =
    in_log v laws es n ls l s h rest line later a.dids a.more wf a.entries a.logs a.shut
    a.closed_last a.fit a.logs_fit a.text_is cut

-- behind a place of a journal its next line stands
pub next : (v : Version) → Laws → (p : Place) (h : Histories) (rest line later : List ℕ) →
    IsWellFormedIn v h →
    Ahead v p h rest → cut_at 10 rest ≡ Some (line, later) → Next v p h line later
unfolding place_at
next v laws p h rest line later wf a cut =
    next_by v laws p.entries p.queue p.logs p.last p.shut h rest line later wf a cut

-- ---- places to which only their own text leads

-- each journal that begins as this place's text has what the place holds, and goes on behind it
abbrev pub IsFront : Version → Place → Type 0
IsFront v p =
    (h : Histories) (rest : List ℕ) → IsWellFormedIn v h →
    so_far v p ++ rest ≡ text.journal_in v h → Ahead v p h rest

pub front_start : (v : Version) (p : Place) → p ≡ start → IsFront v p
front_start v p e = subst (IsFront v) (sym e) (λ h rest wf t. record {
  left = h.entries;
  entries = refl;
  bare = refl;
  above = λ k d less. omega arith;
  ascend = wf.queues_ascend;
  fit = wf.entries;
  text_is = append_cancel_left (text.heading v) rest
      ((text.entries v h.entries ++ text.logs v h.logs) ++ codes "end\n")
      (sym (ap (λ z. z ++ rest) (append-nil (text.heading v))) ∙ t
      ∙ append_assoc (text.heading v) (text.histories v h) (codes "end\n"))
      ∙ append_assoc (text.entries v h.entries) (text.logs v h.logs) (codes "end\n");
})

pub line_before : (front line rest : List ℕ) →
    (front ++ (line ++ codes "\n")) ++ rest ≡ front ++ (line ++ 10 ∷ rest)
line_before front line rest =
    append_assoc front (line ++ codes "\n") rest
    ∙ ap (λ z. front ++ z) (append_assoc line (10 ∷ []) rest)

pub front_more : (v : Version) → Laws → (p q : Place) (line : List ℕ) → IsFront v p →
    cut_at 10 line ≡ None →
    so_far v q ≡ so_far v p ++ (line ++ codes "\n") →
    ((said : Line) → IsLine v line said → after p said ≡ Some q) → IsFront v q
unfolding after
front_more v laws p q line front whole more go h rest wf t =
    let ahead = front h (line ++ 10 ∷ rest) wf
    (sym (ap (λ z. z ++ rest) more ∙ line_before (so_far v p) line rest) ∙ t) in
    elim (next v laws p h (line ++ 10 ∷ rest) line rest wf ahead (cut_front 10 line rest whole)) [
      | inl on ↦ subst (λ (r : Place). Ahead v r h rest)
          (same_Some on.place q (sym on.after_is ∙ go on.said on.is)) on.ahead
      | inr end ↦ absurd (none-some q (go End (tt, end.is)))
    ]
