-- How a command ends: facts by cases on why it stopped, and over a longer time.
use Rattle.std.proofs.Common.{◌≡◌, ◌≤◌, ◌⊎◌, ◌∙◌, ℕ, List, Option, Some, None, Result, Ok, Err}
use Rattle.std.proofs.Common.{OnOk, OnErr, refl, sym, ap, subst, inl, inr, arith, [], ◌∷◌, map}
use Rattle.std.specs.Prelude.{IfErr, IfSome, IsErrAnd, IsSomeAnd, IsTrue}
use Rattle.std.proofs.lemmas.Result.{IfErr-at_err, on_ok_weaker}
use Rattle.host_io.specs.Host.{Rises, SameFiles}
use Rattle.run_files.specs.declared.refusal.Refusal.{Refusal}
use Rattle.run_files.specs.declared.refusal.Refusal.TheVariants as refusal
use Rattle.run_files.specs.declared.stop.Stop.{Stop}
use Rattle.run_files.specs.declared.stop.Stop.TheVariants as stop
use Rattle.command_line.specs.Arguments.{Audits, Call, Generates, inputs, Lists, Lives, Migrates}
use Rattle.command_line.specs.Arguments.{PlayFiles, Plays, ReadFiles, Tries}
use Rattle.journal_audit.specs.declared.finding.Finding.{Finding}
use Rattle.run_files.specs.Causes.{AreRead, AreTaken, IsAnswered, IsRefused, IsTurnedDown}
use Rattle.run_files.specs.Files.{AreWritten, Contents, Counts, IsPrinted, IsStoppedAfter, Stay}
use Rattle.run_files.specs.Files.{Text}
use Rattle.commands.specs.Ending.{IsEnded, Span}
use Rattle.commands.specs.Headline.{Account, IsCutShort, IsDone, IsFoundBy, IsWritten, run_texts}
use Rattle.commands.specs.Headline.{texts_as}
use Rattle.hook_chain.specs.Rules.{RuleTables}
use Rattle.inspector_script.specs.Scripts.{ScriptValue}
use Rattle.pcap_io.specs.declared.capture.Capture.{Capture}
use Rattle.histories.specs.declared.histories.Histories.{Histories}
use Rattle.run_files.specs.Printed.{line_of}
use Rattle.run_files.specs.Statuses.{IfRefused, IfStopRefuses, IsStopFor, status_of}
use Rattle.run_files.specs.Statuses.{status_of_refusal, IsOfRefusal}

-- ---- one outcome

pub on_ok_both : {T E : Type 0} (A B : Type 0) (r : Result T E) → OnOk r A → OnOk r B →
    OnOk r (A × B)
on_ok_both A B (Ok x) a b = (a, b)
on_ok_both A B (Err e) a b = tt

pub same_inputs : (o : Option ReadFiles) (i named : ReadFiles) → o ≡ Some i →
    o ≡ Some named → i ≡ named
same_inputs o i named is_i is_named = cc

-- what was made isn't refused
pub made_is_not_refused : {T E : Type 0} {x : T} {e : E} → ◌≡◌ {A = Result T E} (Err e) (Ok x) → ⊥
made_is_not_refused same = IfErr-at_err (λ _. ⊥) (sym same) tt

-- so the inputs that it was made from aren't refused
pub none_is_refused : {T : Type 0} {x : T} (i named : ReadFiles) (old : Contents)
    (why : Refusal) → Some i ≡ Some named → IsRefused named old why →
    (IsRefused i old why → ◌≡◌ {A = Result T Refusal} (Err why) (Ok x)) → ⊥
none_is_refused i named old why is refused exact =
    made_is_not_refused (exact (subst (λ (o : ReadFiles). IsRefused o old why)
    (same_inputs (Some i) named i is refl) refused))

-- a call that fails in one way alone did nothing in any other
pub in_no_other_way : {T : Type 0} (P : Type 0) (r : Result T Stop) (s : Stop) →
    OnErr r (r ≡ Err s) → OnErr r ((r ≡ Err s → ⊥) → P)
in_no_other_way P (Ok x) s only = tt
in_no_other_way P (Err e) s only = λ other. absurd (other only)

pub by_this_alone : {T : Type 0} (P : Type 0) (r : Result T Stop) (s : Stop) →
    IsErrAnd r (λ e. e ≡ s) → OnErr r ((r ≡ Err s → ⊥) → P)
by_this_alone P (Ok x) s only = tt
by_this_alone P (Err e) s only = λ other. absurd (other (ap Err only))

abbrev IsThere : {A : Type 0} → Option A → Type 0
IsThere (Some x) = Unit {0}
IsThere None = ⊥

pub some_is_no_none : {A : Type 0} (x : A) → Some x ≡ None → ⊥
some_is_no_none {A} x same = subst (λ (o : Option A). IsThere o) same tt

pub none_read : (o : Option ReadFiles) (i : ReadFiles) → o ≡ Some i → o ≡ None → ⊥
none_read (Some j) i is_i is_none = some_is_no_none j is_none
none_read None i is_i is_none = some_is_no_none i (sym is_i)

-- ---- why it stopped

-- what holds of a refusal holds of it where it is handed on
pub refused_by : {T : Type 0} (P : Refusal → Type 0) (r : Result T Stop) (s : Stop) →
    IsErrAnd r (λ e. e ≡ s) → IfStopRefuses s P → IfRefused r P
refused_by P (Ok x) s is h = tt
refused_by P (Err e) s is h = subst (λ (x : Stop). IfStopRefuses x P) (sym is) h

-- a refusal is no other stop
pub is_refusal : {T : Type 0} (w : Refusal) (s : Stop) → IfStopRefuses s (λ v. ⊥) →
    ◌≡◌ {A = Result T Stop} (Err (stop.Refused w)) (Err s) → ⊥
is_refusal {T} w s other is =
    subst (λ (r : Result T Stop). IfRefused r (λ v. ⊥)) (sym is) other

-- what is printed of a refusal doesn't change how the command ended
pub refused_still : {T : Type 0} (c : Call) (before after : Span) (why : Refusal) →
    before.tells ≡ after.tells → before.old ≡ after.old →
    IsEnded {T = T} c before (Err (stop.Refused why)) →
    IsEnded {T = T} c after (Err (stop.Refused why))
refused_still c before after why same_tells same_old ended =
    record {
      done = tt;
      refused = λ t. subst (λ (k : Contents). IsSomeAnd (inputs c) (λ i. IsRefused i k why))
          same_old (ended.refused (rw same_tells t));
      exact = λ i other is_i t refused. ended.exact i other is_i (rw same_tells t)
          (subst (λ (k : Contents). IsRefused i k other) (sym same_old) refused);
      only = λ t taken. ended.only (rw same_tells t)
          (subst (λ (k : Contents). IfSome (inputs c) (λ i. AreTaken i k)) (sym same_old) taken);
      kind = ended.kind;
      read_fault = λ is. absurd (is_refusal why stop.ReadFault tt is);
      unread = λ is. absurd (is_refusal why stop.ReadFault tt is);
      write_fault = λ is. absurd (is_refusal why stop.WriteFault tt is);
      stopped = λ is. absurd (is_refusal why stop.WriteFault tt is);
      cut_short = λ is. absurd (is_refusal why stop.WriteFault tt is);
    }

-- only an audit finds anything, and it writes nothing
audit_writes_nothing : (c : Call) (old before after : Contents) (f : Finding) →
    IsFoundBy c old (Some f) → IsDone c before after
audit_writes_nothing (Plays p) old before after f found = absurd (some_is_no_none f found)
audit_writes_nothing (Lists l) old before after f found = absurd (some_is_no_none f found)
audit_writes_nothing (Generates g) old before after f found = absurd (some_is_no_none f found)
audit_writes_nothing (Tries s) old before after f found = absurd (some_is_no_none f found)
audit_writes_nothing (Migrates m) old before after f found = absurd (some_is_no_none f found)
audit_writes_nothing (Lives l) old before after f found = absurd (some_is_no_none f found)
audit_writes_nothing (Audits a) old before after f found = tt

-- what is printed of a finding doesn't change how the command ended
pub found_still : (c : Call) (before after : Span) (f : Finding) →
    before.tells ≡ after.tells → before.old ≡ after.old →
    (IsTrue before.tells → IsFoundBy c before.old (Some f)) →
    IsEnded {T = Option Finding} c before (Ok (Some f)) →
    IsEnded {T = Option Finding} c after (Ok (Some f))
found_still c before after f same_tells same_old found ended =
    record {
      done = λ t. audit_writes_nothing c before.old after.old after.new f
          (found (rw same_tells t));
      refused = tt;
      exact = λ i other is_i t refused. ended.exact i other is_i (rw same_tells t)
          (subst (λ (k : Contents). IsRefused i k other) (sym same_old) refused);
      only = λ t taken. tt;
      kind = ended.kind;
      read_fault = λ is. absurd (made_is_not_refused (sym is));
      unread = λ is. absurd (made_is_not_refused (sym is));
      write_fault = λ is. absurd (made_is_not_refused (sym is));
      stopped = λ is. absurd (made_is_not_refused (sym is));
      cut_short = λ is. absurd (made_is_not_refused (sym is));
    }

-- a call that fails in writing or for want of memory alone ..
abbrev pub WritesOnly : {T : Type 0} → Result T Stop → Type 0
WritesOnly r = OnErr r ((r ≡ Err stop.WriteFault) ⊎ (r ≡ Err stop.NoMemory))

-- .. refuses nothing, whatever is asked of a refusal, ..
pub writing_only_refuses_nothing : {T : Type 0} (P : Refusal → Type 0) (r : Result T Stop) →
    WritesOnly r → IfRefused r P
writing_only_refuses_nothing P (Ok x) only = tt
writing_only_refuses_nothing P (Err stop.ReadFault) only = tt
writing_only_refuses_nothing P (Err stop.WriteFault) only = tt
writing_only_refuses_nothing P (Err (stop.Refused w)) (inl is) =
    absurd (is_refusal w stop.WriteFault tt is)
writing_only_refuses_nothing P (Err (stop.Refused w)) (inr is) =
    absurd (is_refusal w stop.NoMemory tt is)
writing_only_refuses_nothing P (Err stop.NoMemory) only = tt

abbrev IfReads : Stop → Type 0
IfReads stop.ReadFault = ⊥
IfReads stop.WriteFault = Unit {0}
IfReads (stop.Refused w) = Unit {0}
IfReads stop.NoMemory = Unit {0}

no_read : {T : Type 0} (s : Stop) → IfReads s →
    ◌≡◌ {A = Result T Stop} (Err stop.ReadFault) (Err s) → ⊥
no_read {T} s other is =
    subst (λ (r : Result T Stop). IfErr r IfReads) (sym is) other

-- .. has no fault in reading ..
pub writing_only_reads_nothing : {T : Type 0} (r : Result T Stop) → WritesOnly r →
    r ≡ Err stop.ReadFault → ⊥
writing_only_reads_nothing (Ok x) only is = IfErr-at_err (λ _. ⊥) is tt
writing_only_reads_nothing (Err stop.ReadFault) (inl is_w) is = no_read stop.WriteFault tt is_w
writing_only_reads_nothing (Err stop.ReadFault) (inr is_n) is = no_read stop.NoMemory tt is_n
writing_only_reads_nothing (Err stop.WriteFault) only is = no_read stop.WriteFault tt (sym is)
writing_only_reads_nothing (Err (stop.Refused w)) only is = no_read (stop.Refused w) tt (sym is)
writing_only_reads_nothing (Err stop.NoMemory) only is = no_read stop.NoMemory tt (sym is)

-- .. and leaves the files as they were, if it did so for want of memory
pub writing_only_leaves : {T : Type 0} (P : Type 0) (r : Result T Stop) → WritesOnly r →
    (r ≡ Err stop.NoMemory → P) → OnErr r ((r ≡ Err stop.WriteFault → ⊥) → P)
writing_only_leaves P (Ok x) only same = tt
writing_only_leaves P (Err e) (inl is) same = λ other. absurd (other is)
writing_only_leaves P (Err e) (inr is) same = λ other. same is

-- a call that fails in writing alone refuses nothing, whatever is asked of a refusal
pub writing_refuses_nothing : {T : Type 0} (P : Refusal → Type 0) (r : Result T Stop) →
    OnErr r (r ≡ Err stop.WriteFault) → IfRefused r P
writing_refuses_nothing P (Ok x) only = tt
writing_refuses_nothing P (Err stop.ReadFault) only = tt
writing_refuses_nothing P (Err stop.WriteFault) only = tt
writing_refuses_nothing P (Err (stop.Refused w)) only =
    absurd (is_refusal w stop.WriteFault tt only)
writing_refuses_nothing P (Err stop.NoMemory) only = tt

-- what holds of a refusal where the host tells its contents, which it does
pub once_told : (s : Stop) (Tells : Type 0) (P : Refusal → Type 0) →
    IfStopRefuses s (λ w. Tells → P w) → Tells → IfStopRefuses s P
once_told (stop.Refused w) Tells P h t = h t
once_told stop.ReadFault Tells P h t = tt
once_told stop.WriteFault Tells P h t = tt
once_told stop.NoMemory Tells P h t = tt

is_no_3 : (w : Refusal) → status_of_refusal w ≡ 3 → ⊥
is_no_3 (refusal.Capture f) is = omega (arith, is)
is_no_3 (refusal.Rules n) is = omega (arith, is)
is_no_3 (refusal.Script n) is = omega (arith, is)
is_no_3 (refusal.TooLarge l) is = omega (arith, is)
is_no_3 (refusal.Journal n) is = omega (arith, is)

pub is_write_fault : (s : Stop) → status_of s ≡ 3 → s ≡ stop.WriteFault
is_write_fault stop.ReadFault is = absurd (omega (arith, is))
is_write_fault stop.WriteFault is = refl
is_write_fault (stop.Refused w) is = absurd (is_no_3 w is)
is_write_fault stop.NoMemory is = absurd (omega (arith, is))

never_11 : (w : Refusal) → status_of_refusal w ≡ 11 → ⊥
never_11 (refusal.Capture f) is = omega (arith, is)
never_11 (refusal.Rules n) is = omega (arith, is)
never_11 (refusal.Script n) is = omega (arith, is)
never_11 (refusal.TooLarge l) is = omega (arith, is)
never_11 (refusal.Journal n) is = omega (arith, is)

-- what stops a command is no finding
pub stops_never_with_11 : (s : Stop) → status_of s ≡ 11 → ⊥
stops_never_with_11 stop.ReadFault is = omega (arith, is)
stops_never_with_11 stop.WriteFault is = omega (arith, is)
stops_never_with_11 (stop.Refused w) is = never_11 w is
stops_never_with_11 stop.NoMemory is = omega (arith, is)

by_refusal : (o : Option ReadFiles) (w : Refusal) (old_count new_count : Counts)
    (old new : Contents) → IsSomeAnd o (λ i. IsRefused i old w) →
    IsPrinted (line_of w) old_count new_count new →
    IsSomeAnd o (λ i. IsTurnedDown i (status_of_refusal w) old_count new_count old new)
by_refusal (Some i) w old_count new_count old new refused printed =
    record {
      why = w;
      refused = refused;
      answered = record { status_is = refl; printed = printed };
    }
by_refusal None w old_count new_count old new refused printed = refused

no_refusal : (status : ℕ) → IsOfRefusal status → ((4 ≤ status) × (status ≤ 7) → ⊥) →
    (status ≡ 10 → ⊥) → ⊥
no_refusal status (inl both) not_early not_ten = not_early both
no_refusal status (inr ten) not_early not_ten = not_ten ten

pub turned_down : (o : Option ReadFiles) (s : Stop) (old_count new_count : Counts)
    (old new : Contents) → IsOfRefusal (status_of s) →
    IfStopRefuses s (λ why. IsSomeAnd o (λ i. IsRefused i old why)) →
    IfStopRefuses s (λ why. IsPrinted (line_of why) old_count new_count new) →
    IsSomeAnd o (λ i. IsTurnedDown i (status_of s) old_count new_count old new)
turned_down o stop.ReadFault old_count new_count old new of refused printed =
    absurd (no_refusal 2 of (λ both. omega (arith, both)) (λ is. omega (arith, is)))
turned_down o stop.WriteFault old_count new_count old new of refused printed =
    absurd (no_refusal 3 of (λ both. omega (arith, both)) (λ is. omega (arith, is)))
turned_down o (stop.Refused w) old_count new_count old new of refused printed =
    by_refusal o w old_count new_count old new refused printed
turned_down o stop.NoMemory old_count new_count old new of refused printed =
    absurd (no_refusal 8 of (λ both. omega (arith, both)) (λ is. omega (arith, is)))

pub answered : (why : Refusal) (s : Stop) (old_count new_count : Counts) (new : Contents)
    (Unread : Type 0) → IsStopFor why s →
    IfStopRefuses s (λ w. IsPrinted (line_of w) old_count new_count new) →
    (s ≡ stop.ReadFault → Unread) →
    IsAnswered why (status_of s) old_count new_count new ⊎ (status_of s ≡ 8)
    ⊎ ((status_of s ≡ 2) × Unread)
answered why stop.ReadFault old_count new_count new Unread stops printed unread =
    inr (inr (refl, unread refl))
answered why stop.WriteFault old_count new_count new Unread stops printed unread = absurd stops
answered why (stop.Refused w) old_count new_count new Unread stops printed unread =
    inl (record {
      status_is = ap status_of_refusal stops;
      printed = subst (λ (x : Refusal). IsPrinted (line_of x) old_count new_count new) stops
          printed;
    })
answered why stop.NoMemory old_count new_count new Unread stops printed unread = inr (inl refl)

-- ---- over a longer time

pub rises_since : (before old new : ℕ) → before ≤ old → Rises old new → Rises before new
rises_since before old new early rises = omega arith

stay_since : (ts : List Text) (k0 k1 k2 : Contents) → SameFiles k0 k1 →
    Stay (map (λ (u : Text). u.name) ts) k1 k2 → Stay (map (λ (u : Text). u.name) ts) k0 k2
stay_since [] k0 k1 k2 same stay = tt
stay_since (t ∷ ts) k0 k1 k2 same stay =
    (stay.0 ∙ same t.name, stay_since ts k0 k1 k2 same stay.1)

since : (ts : List Text) (c0 c1 c2 : Counts) (k0 k1 k2 : Contents) →
    ((n : List ℕ) → c0 n ≤ c1 n) → SameFiles k0 k1 →
    IsStoppedAfter ts c1 c2 k1 k2 → IsStoppedAfter ts c0 c2 k0 k2
since [] c0 c1 c2 k0 k1 k2 early same none = none
since (t ∷ ts) c0 c1 c2 k0 k1 k2 early same (inl (rises, stay)) =
    inl (rises_since _ _ _ (early t.name) rises, stay_since ts k0 k1 k2 same stay)
since (t ∷ ts) c0 c1 c2 k0 k1 k2 early same (inr (whole, rest)) =
    inr (whole, since ts c0 c1 c2 k0 k1 k2 early same rest)

-- What a run gives is what its command says, where the reading of its inputs and its account are
-- known ..
pub written_of : {T E : Type 0} (Known : Account) (f : PlayFiles) (r : Result T E)
    (Before Tells : Type 0) (old new : Contents) (tables : RuleTables) (script : ScriptValue)
    (capture : Capture) (h : Histories) → (Before → Tells) →
    (Before → AreRead f.inputs old tables script capture) → Known tables script capture h →
    OnOk r (Tells → AreWritten (run_texts f capture h) new) →
    OnOk r (Before → IsWritten Known f old new)
written_of Known f r Before Tells old new tables script capture h tells inputs account written =
    on_ok_weaker r
    (λ w t.
    let all = w (tells t) in
    record {
      tables = tables;
      script = script;
      capture = capture;
      histories = h;
      inputs = inputs t;
      account = account;
      output_is = all.0;
      ledger_is = all.1.0;
      journal_is = all.1.1.0;
    })
    written

-- .. and where its writing stopped, which began after the reading
pub cut_of : (Known : Account) (f : PlayFiles) (c0 c1 c2 : Counts) (k0 k1 k2 : Contents)
    (tables : RuleTables) (script : ScriptValue) (capture : Capture) (h : Histories) →
    AreRead f.inputs k0 tables script capture → Known tables script capture h →
    ((n : List ℕ) → c0 n ≤ c1 n) → SameFiles k0 k1 →
    IsStoppedAfter (run_texts f capture h) c1 c2 k1 k2 → IsCutShort Known f c0 c2 k0 k2
cut_of Known f c0 c1 c2 k0 k1 k2 tables script capture h inputs account early same stopped =
    record {
      tables = tables;
      script = script;
      capture = capture;
      histories = h;
      inputs = inputs;
      account = account;
      stopped = since (run_texts f capture h) c0 c1 c2 k0 k1 k2 early same stopped;
    }

pub same_texts : (f : PlayFiles) (o l j p m k : List ℕ) → o ≡ p → l ≡ m → j ≡ k →
    texts_as f o l j ≡ texts_as f p m k
same_texts f o l j p m k is_o is_l is_j = cc
