-- Answers of a pool: the groups that wait grow notice by notice, and are sent one after the other.
use Rattle.std.proofs.Common.{◌≡◌, ◌≤◌, ◌<◌, ◌+◌, ◌∙◌, ◌++◌, ◌∷◌, ◌⊎◌, [], ℕ, zero, suc, List}
use Rattle.std.proofs.Common.{Option}
use Rattle.std.proofs.Common.{Some, None, Bool, true, false, ap, arith, inl, inr, length, map, refl}
use Rattle.std.proofs.Common.{subst, sym}
use Rattle.std.specs.Prelude.{◌==◌, All, nat_eq, option_map}
use Rattle.std.specs.Prelude.{slice_index_or, take}
use Rattle.std.specs.List.{list_any}
use Rattle.std.proofs.lemmas.Bool.{cases_Bool, eq-eqb}
use Rattle.std.proofs.lemmas.List.{append-nil, map-append}
use Rattle.std.proofs.lemmas.List.Elements.{All-append, All-cons, All-nil}
use Rattle.packet_entry.specs.declared.letter.Letter.{Letter}
use Rattle.nfqa_msgs.specs.declared.notice.Notice.{Notice}
use Rattle.nfqa_msgs.specs.NoticeMeaning.{notice_of}
use Rattle.nfqa_msgs.specs.NoticeWriting.{Told}
use Rattle.script_lines.specs.declared.ask.Ask.{Ask}
use Rattle.inspector_script.specs.Scripts.{Machine, ScriptValue, answer, next_count}
use Rattle.inspector_pool.specs.Answers.{answers}
use Rattle.run_parts.specs.Log.{Due, all_due, answer_to, asks_for, is_pool, received_count}
use Rattle.nfqa_msgs.specs.NoticeTexts.{told_exactly}
use Rattle.run_parts.specs.Ports.{place_in}
use Rattle.port_scripts.specs.Words.{AreWords}
use Rattle.plane.specs.Passes.{PortView}
use Rattle.live_runs.specs.Doing.{GoesOn, HasAsked, LeavesWaiting}
use Rattle.live_runs.specs.Passes.{Pass, Receives}
use Rattle.live_passes.specs.Views.{port_pass}
use Rattle.live_work.specs.Looking.{LooksOn}
use Rattle.live_work.specs.Pooling.{HasReceived, LeavesAnswers, groups, unread_group}
use Rattle.live_work.specs.Sending.{SaysTo}

-- ---- the laws

abbrev pub HearsLaw : Type 0
HearsLaw = (workers : ℕ) (script : ScriptValue) (places port : ℕ) (l : Letter)
    (groups : List (List Due)) (old mid new : Pass) → is_pool workers ≡ true →
    LeavesWaiting workers script places port groups old mid → Receives l mid new →
    LeavesWaiting workers script places port
    (groups ++ all_due (answer_to script (place_in port script.ports) new.dids
    (told_exactly l.bytes)) ∷ []) old new

abbrev pub AnswersLaw : Type 0
AnswersLaw = (workers : ℕ) (script : ScriptValue) (places port : ℕ) (asks : List Ask)
    (groups : List (List Due)) (old mid new : Pass) → is_pool workers ≡ true →
    LeavesWaiting workers script places port (all_due asks ∷ groups) old mid →
    HasAsked workers script places port asks [] mid new →
    LeavesWaiting workers script places port groups old new

abbrev pub NoneLaw : Type 0
NoneLaw = (workers : ℕ) (script : ScriptValue) (places port : ℕ) (pass : Pass) →
    LeavesWaiting workers script places port [] pass pass

abbrev pub DoneLaw : Type 0
DoneLaw = (workers : ℕ) (script : ScriptValue) (places port : ℕ) (old new : Pass) →
    LeavesWaiting workers script places port [] old new →
    GoesOn workers script places port old new

abbrev pub NoAskLaw : Type 0
NoAskLaw = (workers : ℕ) (script : ScriptValue) (places port : ℕ) (asks : List Ask)
    (pass : Pass) → HasAsked workers script places port asks asks pass pass

-- ---- a notice more

next_same : (a n : ℕ) → next_count (a + 1 + n) ≡ next_count (a + suc n)
next_same a n = omega arith

-- the answers to these notices, and to one behind them
pub answers_more : (s : ScriptValue) (place counted : ℕ) (ns : List Notice) (n : Notice) →
    answers s place counted (ns ++ n ∷ [])
    ≡ answers s place counted ns ++ answer s place (next_count (counted + length ns)) n ∷ []
answers_more s place counted [] n =
    ap (λ (k : ℕ). answer s place k n ∷ [])
    (let same : next_count counted ≡ next_count (counted + 0) = omega arith in same)
answers_more s place counted (m ∷ ns) n =
    ap (λ (rest : List (List Ask)). answer s place (next_count counted) m ∷ rest)
    (answers_more s place (counted + 1) ns n
    ∙ ap (λ (k : ℕ). answers s place (counted + 1) ns ++ answer s place k n ∷ [])
    (next_same counted (length ns)))

-- what is asked for in answer to a notice that was read
pub asked_so : (s : ScriptValue) (place k : ℕ) (n : Notice) (told : Option Told) →
    Some n ≡ option_map notice_of told → asks_for s place k told ≡ answer s place k n
asked_so s place k n None is = absurd (cc)
asked_so s place k n (Some told) is =
    let same : n ≡ notice_of told = cc in ap (λ (x : Notice). answer s place k x) (sym same)

-- and to one that wasn't
pub unasked_so : (s : ScriptValue) (place k : ℕ) (told : Option Told) →
    None ≡ option_map notice_of told → asks_for s place k told ≡ []
unasked_so s place k None is = refl
unasked_so s place k (Some told) is = absurd (cc)

-- it was received as the next one
pub hears_next : HearsLaw → (script : ScriptValue) (places : ℕ) (m : Machine) (l : Letter)
    (ns : List Notice) (n : Notice) (start mid new : PortView) →
    m.place ≡ place_in start.port script.ports →
    next_count (m.received + length ns) ≡ received_count new.dids →
    Some n ≡ option_map notice_of (told_exactly l.bytes) → new.port ≡ mid.port →
    Receives l (port_pass mid) (port_pass new) →
    HasReceived script places m ns false start mid →
    HasReceived script places m (ns ++ n ∷ []) false start new
hears_next law script places m l ns n start mid new placed counted told port receives was =
    record {
      port = port ∙ was.port;
      waits = λ workers pool.
          subst (λ (gs : List (List Due)). LeavesWaiting workers script places start.port gs
          (port_pass start) (port_pass new)) more
          (law workers script places start.port l
          (map all_due (answers script m.place m.received ns)) (port_pass start) (port_pass mid)
          (port_pass new) pool (was.waits workers pool) receives);
    }
  where
    before : List (List Ask)
    before = answers script m.place m.received ns

    asks : List Ask
    asks = answer_to script (place_in start.port script.ports) new.dids (told_exactly l.bytes)

    same : asks ≡ answer script m.place (next_count (m.received + length ns)) n
    same =
        asked_so script (place_in start.port script.ports) (received_count new.dids) n
        (told_exactly l.bytes) told
        ∙ ap (λ (k : ℕ). answer script (place_in start.port script.ports) k n) (sym counted)
        ∙ ap (λ (p : ℕ). answer script p (next_count (m.received + length ns)) n) (sym placed)

    more : map all_due before ++ all_due asks ∷ []
        ≡ map all_due (answers script m.place m.received (ns ++ n ∷ []))
    more =
        sym (map-append all_due before (asks ∷ []))
        ∙ ap (λ (a : List Ask). map all_due (before ++ a ∷ [])) same
        ∙ ap (λ (all : List (List Ask)). map all_due all)
        (sym (answers_more script m.place m.received ns n))

-- one that can't be read was received behind them
pub hears_unread : HearsLaw → (script : ScriptValue) (places : ℕ) (m : Machine) (l : Letter)
    (ns : List Notice) (start mid new : PortView) →
    None ≡ option_map notice_of (told_exactly l.bytes) → new.port ≡ mid.port →
    Receives l (port_pass mid) (port_pass new) →
    HasReceived script places m ns false start mid → HasReceived script places m ns true start new
hears_unread law script places m l ns start mid new told port receives was = record {
  port = port ∙ was.port;
  waits = λ workers pool.
      subst (λ (asks : List Ask). LeavesWaiting workers script places start.port
      (map all_due (answers script m.place m.received ns) ++ all_due asks ∷ [])
      (port_pass start) (port_pass new))
      (unasked_so script (place_in start.port script.ports) (received_count new.dids)
      (told_exactly l.bytes) told)
      (law workers script places start.port l
      (map all_due (answers script m.place m.received ns)) (port_pass start) (port_pass mid)
      (port_pass new) pool (was.waits workers pool) receives);
}

-- its answer closes nothing, as those before it
pub words_more : (s : ScriptValue) (m : Machine) (ns : List Notice) (n : Notice) →
    All AreWords (answers s m.place m.received ns) →
    AreWords (answer s m.place (next_count (m.received + length ns)) n) →
    All AreWords (answers s m.place m.received (ns ++ n ∷ []))
words_more s m ns n all one =
    subst (λ (xs : List (List Ask)). All AreWords xs)
    (sym (answers_more s m.place m.received ns n))
    (All-append AreWords (answers s m.place m.received ns)
    (answer s m.place (next_count (m.received + length ns)) n ∷ []) all
    (All-cons AreWords _ [] one (All-nil AreWords)))

pub words_one : (s : ScriptValue) (m : Machine) (l : Letter) (ns : List Notice) (n : Notice)
    (start new : PortView) → m.place ≡ place_in start.port s.ports →
    next_count (m.received + length ns) ≡ received_count new.dids →
    Some n ≡ option_map notice_of (told_exactly l.bytes) →
    AreWords (answer_to s (place_in start.port s.ports) new.dids (told_exactly l.bytes)) →
    AreWords (answer s m.place (next_count (m.received + length ns)) n)
words_one s m l ns n start new placed counted told words =
    subst (λ (asks : List Ask). AreWords asks)
    (asked_so s (place_in start.port s.ports) (received_count new.dids) n (told_exactly l.bytes)
    told
    ∙ ap (λ (k : ℕ). answer s (place_in start.port s.ports) k n) (sym counted)
    ∙ ap (λ (p : ℕ). answer s p (next_count (m.received + length ns)) n) (sym placed)) words

-- ---- answers that wait are sent

pub sends_first : AnswersLaw → (script : ScriptValue) (places : ℕ) (all left rest : List (List Ask))
    (asks : List Ask) (start mid new : PortView) → left ≡ asks ∷ rest → mid.port ≡ start.port →
    SaysTo script places mid.port asks [] (port_pass mid) (port_pass new) →
    LeavesAnswers script places all left start mid → LeavesAnswers script places all rest start new
sends_first law script places all left rest asks start mid new first port says was = record {
  on = λ workers behind begin pool same waits.
      law workers script places begin.port asks (map all_due rest ++ behind) (port_pass begin)
      (port_pass mid) (port_pass new) pool
      (subst (λ (l : List (List Ask)). LeavesWaiting workers script places begin.port
      (map all_due l ++ behind) (port_pass begin) (port_pass mid)) first
      (was.on workers behind begin pool same waits))
      ((subst (λ (p : ℕ). SaysTo script places p asks [] (port_pass mid) (port_pass new))
      (port ∙ same) says).each workers);
}

-- ---- a look

pub pool_is : (workers : ℕ) → 2 ≤ workers → is_pool workers ≡ true
pool_is workers some = search (arith, some)

split_groups : (script : ScriptValue) (m : Machine) (ns : List Notice) (b : Bool) →
    groups script m ns b
    ≡ map all_due (answers script m.place m.received ns) ++ unread_group b
split_groups script m ns true = refl
split_groups script m ns false =
    sym (append-nil (map all_due (answers script m.place m.received ns)))

-- what is left behind the answers to notices that were read
rest_sent : AnswersLaw → NoAskLaw → (workers : ℕ) (script : ScriptValue) (places port : ℕ)
    (b : Bool) (old new : Pass) → is_pool workers ≡ true →
    LeavesWaiting workers script places port (unread_group b) old new →
    LeavesWaiting workers script places port [] old new
rest_sent law none workers script places port true old new pool waits =
    law workers script places port [] [] old new new pool waits
    (none workers script places port [] new)
rest_sent law none workers script places port false old new pool waits = waits

pub looked_so : AnswersLaw → NoAskLaw → DoneLaw → (workers : ℕ) (script : ScriptValue)
    (places : ℕ) (m : Machine) (ns : List Notice) (b : Bool) (all : List (List Ask))
    (start mid new : PortView) → is_pool workers ≡ true →
    all ≡ answers script m.place m.received ns →
    HasReceived script places m ns b start mid → LeavesAnswers script places all [] mid new →
    LooksOn workers script places start new
looked_so law none done workers script places m ns b all start mid new pool same was sent =
    record {
      on = done workers script places start.port (port_pass start) (port_pass new)
          (rest_sent law none workers script places start.port b (port_pass start)
          (port_pass new) pool
          (sent.on workers (unread_group b) start pool was.port
          (subst (λ (gs : List (List Due)). LeavesWaiting workers script places start.port gs
          (port_pass start) (port_pass mid))
          (split_groups script m ns b
          ∙ ap (λ (xs : List (List Ask)). map all_due xs ++ unread_group b) (sym same))
          (was.waits workers pool))));
    }

pub looked_in_vain : DoneLaw → (workers : ℕ) (script : ScriptValue) (places : ℕ) (m : Machine)
    (ns : List Notice) (b : Bool) (start new : PortView) → is_pool workers ≡ true →
    ns ≡ [] → b ≡ false → HasReceived script places m ns b start new →
    LooksOn workers script places start new
looked_in_vain done workers script places m ns b start new pool none read was = record {
  on = done workers script places start.port (port_pass start) (port_pass new)
      (subst (λ (gs : List (List Due)). LeavesWaiting workers script places start.port gs
      (port_pass start) (port_pass new))
      (ap (λ (l : List Notice). groups script m l b) none
      ∙ ap (λ (x : Bool). groups script m [] x) read) (was.waits workers pool));
}

-- ---- where a port is

place_then : (port q : ℕ) (qs : List ℕ) (at : ℕ) →
    (list_any (nat_eq port) (take at qs) ≡ false → at ≡ place_in port qs) →
    list_any (nat_eq port) (q ∷ take at qs) ≡ false →
    ((port == q) ≡ true) ⊎ ((port == q) ≡ false) → suc at ≡ place_in port (q ∷ qs)
place_then port q qs at further apart (inl h) =
    absurd (let wrong : true ≡ false = rw h at apart in cc)
place_then port q qs at further apart (inr h) =
    let rest : list_any (nat_eq port) (take at qs) ≡ false = rw h at apart in
    rw h (ap suc (further rest))

pub found_place : (port : ℕ) (ports : List ℕ) (at d : ℕ) → at < length ports →
    list_any (nat_eq port) (take at ports) ≡ false → slice_index_or ports at d ≡ port →
    at ≡ place_in port ports
found_place port [] at d within apart is = absurd (omega (arith, within))
found_place port (q ∷ qs) zero d within apart is =
    let same : (port == q) ≡ true = rw is (eq-eqb port port refl) in rw same refl
found_place port (q ∷ qs) (suc at) d within apart is =
    place_then port q qs at (λ rest. found_place port qs at d (omega (arith, within)) rest is) apart
    (cases_Bool (port == q))
