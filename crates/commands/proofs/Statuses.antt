-- What a status says of a command, from how the command ended; and each fact of it.
use Rattle.std.proofs.Common.{◌≡◌, ◌≤◌, ◌⊎◌, ℕ, Option, Some, None, Result, Ok, Err, refl}
use Rattle.std.proofs.Common.{Bool, List, inl, inr, ap, arith, sym, subst, ◌∙◌}
use Rattle.std.specs.Prelude.{IfErr, IfSome, IsSomeAnd, IsTrue}
use Rattle.host_io.specs.Host.{ChangesOnly, IsLater, SameFiles}
use Rattle.command_line.specs.Arguments.{AuditFiles, Audits, Call, Generates, inputs, Lists}
use Rattle.command_line.specs.Arguments.{LiveFiles, Lives, Migrates, outputs, Plays, ReadFiles}
use Rattle.command_line.specs.Arguments.{standard_output, ToldRun, Tries}
use Rattle.run_files.specs.declared.refusal.Refusal.{Refusal}
use Rattle.run_files.specs.declared.refusal.Refusal.TheVariants as refusal
use Rattle.run_files.specs.declared.stop.Stop.{Stop}
use Rattle.run_files.specs.declared.stop.Stop.TheVariants as stop
use Rattle.run_files.specs.Causes.{IsUnread}
use Rattle.run_files.specs.Files.{Contents, Counts, IsPrinted, OthersStay}
use Rattle.run_files.specs.Printed.{line_of, usage_line}
use Rattle.run_files.specs.Statuses.{IfStopRefuses, IsOfInputs, IsOfRefusal, status_of}
use Rattle.run_files.specs.Statuses.{status_of_refusal}
use Rattle.journal_audit.specs.declared.finding.Finding.{Finding}
use Rattle.journal_audit.specs.Printed as finding
use Rattle.commands.specs.Ending.{IfAudit, IsAnswer, IsEnded, IsOut, IsSaid, IsStatusOf}
use Rattle.commands.specs.Ending.{IsToldFinding, IsToldStop, MayEndWith, Span, span, UnlessJournal}
use Rattle.commands.specs.Headline.{Finds, IsAtEnd, IsAudited, IsFoundBy, IsOnlyFoundBy}
use Rattle.commands.specs.Headline.{IsOnlyJudged, MayFind, status_at_end}
use Rattle.commands.proofs.AuditAnswers.{amiss_at_11, at_end_or, audited_at_0, complete_at_end}
use Rattle.commands.proofs.AuditAnswers.{finds_at_end, none_at_0, one_of_two}
use Rattle.commands.proofs.AuditAnswers.{passes_at_end, stops, taken, touched_at_11}
use Rattle.commands.proofs.Commands.{IsLiveAlone}
use Rattle.commands.proofs.Endings.{answered, found_still, is_refusal, is_write_fault, once_told}
use Rattle.commands.proofs.Endings.{refused_still, rises_since, some_is_no_none}
use Rattle.commands.proofs.Endings.{stops_never_with_11, turned_down}
use Rattle.commands.proofs.StopCauses.{no_memory_or_a_fault}

-- ---- which statuses stop a command

refused_with : (w : Refusal) → ((4 ≤ status_of_refusal w) × (status_of_refusal w ≤ 7))
    ⊎ (status_of_refusal w ≡ 10)
refused_with (refusal.Capture f) = inl (omega arith, omega arith)
refused_with (refusal.Rules n) = inl (omega arith, omega arith)
refused_with (refusal.Script n) = inl (omega arith, omega arith)
refused_with (refusal.TooLarge l) = inl (omega arith, omega arith)
refused_with (refusal.Journal n) = inr refl

-- a refusal is none of the others
not_refused : (n : ℕ) → ((4 ≤ n) × (n ≤ 7)) ⊎ (n ≡ 10) → (n ≡ 0) ⊎ (n ≡ 1) ⊎ (n ≡ 2) ⊎ (n ≡ 8) → ⊥
not_refused n (inl few) (inl is) = omega (arith, few, is)
not_refused n (inl few) (inr (inl is)) = omega (arith, few, is)
not_refused n (inl few) (inr (inr (inl is))) = omega (arith, few, is)
not_refused n (inl few) (inr (inr (inr is))) = omega (arith, few, is)
not_refused n (inr ten) (inl is) = omega (arith, ten, is)
not_refused n (inr ten) (inr (inl is)) = omega (arith, ten, is)
not_refused n (inr ten) (inr (inr (inl is))) = omega (arith, ten, is)
not_refused n (inr ten) (inr (inr (inr is))) = omega (arith, ten, is)

-- any command may end with these ..
few : (c : Call) (n : ℕ) → n ≤ 8 → MayEndWith c n
few (Plays f) n is = is
few (Lists f) n is = is
few (Generates g) n is = is
few (Tries s) n is = is
few (Migrates m) n is = inl is
few (Lives l) n is = is
few (Audits a) n is = inl is

-- .. and with no other than these three
pub in_all : (c : Call) (n : ℕ) → MayEndWith c n → (n ≤ 8) ⊎ (n ≡ 10) ⊎ (n ≡ 11)
in_all (Plays f) n may = inl may
in_all (Lists f) n may = inl may
in_all (Generates g) n may = inl may
in_all (Tries s) n may = inl may
in_all (Migrates m) n (inl is) = inl is
in_all (Migrates m) n (inr is) = inr (inl is)
in_all (Lives l) n may = inl may
in_all (Audits a) n may = may

-- a journal is refused by those that read one
refuses_with : (c : Call) (w : Refusal) → UnlessJournal c (IsOfInputs w) →
    MayEndWith c (status_of_refusal w)
refuses_with c (refusal.Capture f) kind = few c 4 (omega arith)
refuses_with c (refusal.Rules n) kind = few c 5 (omega arith)
refuses_with c (refusal.Script n) kind = few c 6 (omega arith)
refuses_with c (refusal.TooLarge l) kind = few c 7 (omega arith)
refuses_with (Plays f) (refusal.Journal n) kind = absurd kind
refuses_with (Lists f) (refusal.Journal n) kind = absurd kind
refuses_with (Generates g) (refusal.Journal n) kind = absurd kind
refuses_with (Tries s) (refusal.Journal n) kind = absurd kind
refuses_with (Migrates m) (refusal.Journal n) kind = inr refl
refuses_with (Lives l) (refusal.Journal n) kind = absurd kind
refuses_with (Audits a) (refusal.Journal n) kind = inr (inl refl)

stops_with : (c : Call) (e : Stop) → UnlessJournal c (IfStopRefuses e (λ why. IsOfInputs why)) →
    MayEndWith c (status_of e)
stops_with c stop.ReadFault kind = few c 2 (omega arith)
stops_with c stop.WriteFault kind = few c 3 (omega arith)
stops_with c (stop.Refused w) kind = refuses_with c w kind
stops_with c stop.NoMemory kind = few c 8 (omega arith)

never_0 : (e : Stop) → status_of e ≡ 0 → ⊥
never_0 stop.ReadFault is = omega (arith, is)
never_0 stop.WriteFault is = omega (arith, is)
never_0 (stop.Refused w) is = not_refused (status_of_refusal w) (refused_with w) (inl is)
never_0 stop.NoMemory is = omega (arith, is)

never_1 : (e : Stop) → status_of e ≡ 1 → ⊥
never_1 stop.ReadFault is = omega (arith, is)
never_1 stop.WriteFault is = omega (arith, is)
never_1 (stop.Refused w) is = not_refused (status_of_refusal w) (refused_with w) (inr (inl is))
never_1 stop.NoMemory is = omega (arith, is)

is_read_fault : (e : Stop) → status_of e ≡ 2 → e ≡ stop.ReadFault
is_read_fault stop.ReadFault is = refl
is_read_fault stop.WriteFault is = absurd (omega (arith, is))
is_read_fault (stop.Refused w) is =
    absurd (not_refused (status_of_refusal w) (refused_with w) (inr (inr (inl is))))
is_read_fault stop.NoMemory is = absurd (omega (arith, is))

is_no_memory : (e : Stop) → status_of e ≡ 8 → e ≡ stop.NoMemory
is_no_memory stop.ReadFault is = absurd (omega (arith, is))
is_no_memory stop.WriteFault is = absurd (omega (arith, is))
is_no_memory (stop.Refused w) is =
    absurd (not_refused (status_of_refusal w) (refused_with w) (inr (inr (inr is))))
is_no_memory stop.NoMemory is = refl

-- a write fault ends with 3
with_3 : {T : Type 0} (e : Stop) → ◌≡◌ {A = Result T Stop} (Err e) (Err stop.WriteFault) →
    status_of e ≡ 3
with_3 {T} e is =
    subst (λ (r : Result T Stop). IfErr r (λ x. status_of x ≡ 3)) (sym is) refl

-- ---- a command that came to its end

-- only an audit ends with what it found
ends_with : (c : Call) (found : Option Finding) (n : ℕ) → n ≡ status_at_end found →
    MayFind c found → MayEndWith c n
ends_with c None n is may = few c n (omega (arith, is))
ends_with (Plays p) (Some f) n is may = absurd (some_is_no_none f may)
ends_with (Lists l) (Some f) n is may = absurd (some_is_no_none f may)
ends_with (Generates g) (Some f) n is may = absurd (some_is_no_none f may)
ends_with (Tries s) (Some f) n is may = absurd (some_is_no_none f may)
ends_with (Migrates m) (Some f) n is may = absurd (some_is_no_none f may)
ends_with (Lives l) (Some f) n is may = absurd (some_is_no_none f may)
ends_with (Audits a) (Some f) n is may = inr (inr is)

no_end : {n : ℕ} {P : Type 0} → (n ≡ 0) ⊎ (n ≡ 11) → (n ≡ 1) ⊎ (n ≡ 2) ⊎ (n ≡ 3) ⊎ (n ≡ 8) → P
no_end (inl end) (inl is) = absurd (omega (arith, end, is))
no_end (inl end) (inr (inl is)) = absurd (omega (arith, end, is))
no_end (inl end) (inr (inr (inl is))) = absurd (omega (arith, end, is))
no_end (inl end) (inr (inr (inr is))) = absurd (omega (arith, end, is))
no_end (inr end) (inl is) = absurd (omega (arith, end, is))
no_end (inr end) (inr (inl is)) = absurd (omega (arith, end, is))
no_end (inr end) (inr (inr (inl is))) = absurd (omega (arith, end, is))
no_end (inr end) (inr (inr (inr is))) = absurd (omega (arith, end, is))

end_is_no_refusal : {n : ℕ} {P : Type 0} → (n ≡ 0) ⊎ (n ≡ 11) → IsOfRefusal n → P
end_is_no_refusal (inl end) (inl few) = absurd (omega (arith, end, few))
end_is_no_refusal (inl end) (inr ten) = absurd (omega (arith, end, ten))
end_is_no_refusal (inr end) (inl few) = absurd (omega (arith, end, few))
end_is_no_refusal (inr end) (inr ten) = absurd (omega (arith, end, ten))

loud : {n : ℕ} {P : Type 0} → (n ≡ 0) ⊎ (n ≡ 11) → (n ≡ 2) ⊎ (n ≡ 8) → P
loud end (inl is) = no_end end (inr (inl is))
loud end (inr is) = no_end end (inr (inr (inr is)))

if_audited : (c : Call) (old : Contents) (found : Option Finding) (n : ℕ) →
    n ≡ status_at_end found → n ≡ 0 → IsFoundBy c old found → IfAudit c (λ a. IsAudited a old)
if_audited (Plays f) old found n is is_0 by = tt
if_audited (Lists f) old found n is is_0 by = tt
if_audited (Generates g) old found n is is_0 by = tt
if_audited (Tries s) old found n is is_0 by = tt
if_audited (Migrates m) old found n is is_0 by = tt
if_audited (Lives l) old found n is is_0 by = tt
if_audited (Audits a) old found n is is_0 by = audited_at_0 a old found n is is_0 by

-- what holds of each audit holds of a command where it is one
of_audit : (c : Call) (P Q : AuditFiles → Type 0) → ((a : AuditFiles) → P a → Q a) →
    IfAudit c P → IfAudit c Q
of_audit (Plays f) P Q all given = tt
of_audit (Lists f) P Q all given = tt
of_audit (Generates g) P Q all given = tt
of_audit (Tries s) P Q all given = tt
of_audit (Migrates m) P Q all given = tt
of_audit (Lives l) P Q all given = tt
of_audit (Audits a) P Q all given = all a given

-- what an audit finds is the only thing
only_found : (c : Call) (old : Contents) (found : Option Finding) → IsOnlyFoundBy c old found →
    IfAudit c (λ a. IsOnlyJudged a old found)
only_found (Plays f) old found only = tt
only_found (Lists f) old found only = tt
only_found (Generates g) old found only = tt
only_found (Tries s) old found only = tt
only_found (Migrates m) old found only = tt
only_found (Lives l) old found only = tt
only_found (Audits a) old found only = only

end_status : (c : Call) (s : Span) (found : Option Finding) (n : ℕ) →
    n ≡ status_at_end found → MayFind c found → IsEnded {T = Option Finding} c s (Ok found) →
    (IsTrue s.tells → IsFoundBy c s.old found) →
    (IsTrue s.tells → IsOnlyFoundBy c s.old found) →
    IfSome found (λ f. IsTrue s.tells →
    IsPrinted (finding.line_of f) s.old_write_faults s.new_write_faults s.new) →
    IfSome found (λ _. ChangesOnly standard_output s.old s.new) →
    (found ≡ None → OthersStay (outputs c) s.old s.new) → IsStatusOf c s n
end_status c s found n is may ended by only printed touched others =
    let end = one_of_two found n is in
    record {
      statuses = ends_with c found n is may;
      command = λ is_1. no_end end (inl is_1);
      read_fault = λ is_2. no_end end (inr (inl is_2));
      write_fault = λ is_3. no_end end (inr (inr (inl is_3)));
      unread = λ is_2 t. no_end end (inr (inl is_2));
      stopped = λ is_3. no_end end (inr (inr (inl is_3)));
      cut_short = λ is_3 t. no_end end (inr (inr (inl is_3)));
      refused = λ of t. end_is_no_refusal end of;
      exact = λ i why is_i t refused. absurd (ended.exact i why is_i t refused);
      done = λ is_0 t. ended.done t;
      audited = λ is_0 t. if_audited c s.old found n is is_0 (by t);
      amiss = λ is_11 t. amiss_at_11 c s.old_write_faults s.new_write_faults s.old s.new
          (IsTrue s.tells) found n is is_11 (by t) printed t;
      passes = λ t. of_audit c _ _ (λ a it audited.
          inl (passes_at_end a s.old found n is it audited)) (only_found c s.old found (only t));
      finds = λ t. of_audit c _ _ (λ a it f finds.
          inl (finds_at_end a s.old_write_faults s.new_write_faults s.old s.new (IsTrue s.tells)
          found f n is it printed t finds)) (only_found c s.old found (only t));
      complete = λ t taken. inl (complete_at_end c s.old found n is (by t));
      untouched = λ not_0 not_3. touched_at_11 _ found n is not_0 touched;
      quiet = λ which. loud end which;
      others = λ ends. others (none_at_0 found n is ends);
    }

-- `live`, which finds nothing
pub at_its_end_alone : {T : Type 0} {x : T} (l : LiveFiles) (s : Span) (n : ℕ) → n ≡ 0 →
    IsEnded {T = T} (Lives l) s (Ok x) → OthersStay (outputs (Lives l)) s.old s.new →
    IsStatusOf (Lives l) s n
at_its_end_alone {T} {x} l s n is ended others =
    record {
      statuses = omega (arith, is);
      command = λ is_1. omega (arith, is, is_1);
      read_fault = λ is_2. no_end (inl is) (inr (inl is_2));
      write_fault = λ is_3. no_end (inl is) (inr (inr (inl is_3)));
      unread = λ is_2 t. no_end (inl is) (inr (inl is_2));
      stopped = λ is_3. no_end (inl is) (inr (inr (inl is_3)));
      cut_short = λ is_3 t. no_end (inl is) (inr (inr (inl is_3)));
      refused = λ of t. end_is_no_refusal (inl is) of;
      exact = λ i why is_i t refused. absurd (ended.exact i why is_i t refused);
      done = λ is_0 t. ended.done t;
      audited = λ is_0 t. tt;
      amiss = λ is_11 t. omega (arith, is, is_11);
      passes = λ t. tt;
      finds = λ t. tt;
      complete = λ t taken. inl is;
      untouched = λ not_0 not_3. absurd (not_0 is);
      quiet = λ which. loud (inl is) which;
      others = λ ends. others;
    }

-- ---- a command that was stopped

passed_or_stopped : (c : Call) (s : Span) (e : Stop) → IsTrue s.tells →
    IsEnded {T = Option Finding} c s (Err e) → IfAudit c (λ a. IsAudited a s.old →
    (status_of e ≡ 0) ⊎ (status_of e ≡ 8)
    ⊎ ((status_of e ≡ 2) × IsUnread (ToldRun a) s.old_read_faults s.new_read_faults s.old))
passed_or_stopped (Plays f) s e t ended = tt
passed_or_stopped (Lists f) s e t ended = tt
passed_or_stopped (Generates g) s e t ended = tt
passed_or_stopped (Tries p) s e t ended = tt
passed_or_stopped (Migrates m) s e t ended = tt
passed_or_stopped (Lives l) s e t ended = tt
passed_or_stopped (Audits a) s e t ended = λ audited.
    inr (stops a s e t (taken a s.old audited.tables audited.script audited.capture
    audited.histories audited.told) ended)

found_or_stopped : (c : Call) (s : Span) (e : Stop) → IsTrue s.tells →
    IsEnded {T = Option Finding} c s (Err e) →
    IfAudit c (λ a. (f : Finding) → Finds a s.old f →
    ((status_of e ≡ 11)
    × IsPrinted (finding.line_of f) s.old_write_faults s.new_write_faults s.new)
    ⊎ (status_of e ≡ 8)
    ⊎ ((status_of e ≡ 2) × IsUnread (ToldRun a) s.old_read_faults s.new_read_faults s.old))
found_or_stopped (Plays f) s e t ended = tt
found_or_stopped (Lists f) s e t ended = tt
found_or_stopped (Generates g) s e t ended = tt
found_or_stopped (Tries p) s e t ended = tt
found_or_stopped (Migrates m) s e t ended = tt
found_or_stopped (Lives l) s e t ended = tt
found_or_stopped (Audits a) s e t ended = λ f finds.
    inr (stops a s e t (taken a s.old finds.tables finds.script finds.capture finds.histories
    finds.told) ended)

-- how it ended doesn't depend on what it would have answered
any_answer : {T U : Type 0} (c : Call) (s : Span) (e : Stop) → IsEnded {T = T} c s (Err e) →
    IsEnded {T = U} c s (Err e)
any_answer {T} {U} c s e ended =
    let there : (f : Stop) → ◌≡◌ {A = Result U Stop} (Err e) (Err f) →
    ◌≡◌ {A = Result T Stop} (Err e) (Err f) =
    λ f is. subst (λ (r : Result U Stop). IfErr r (λ x. ◌≡◌ {A = Result T Stop} (Err e) (Err x)))
    is refl in
    record {
      done = tt;
      refused = ended.refused;
      exact = ended.exact;
      only = ended.only;
      kind = ended.kind;
      read_fault = λ is. ended.read_fault (there stop.ReadFault is);
      unread = λ is. ended.unread (there stop.ReadFault is);
      write_fault = λ is. ended.write_fault (there stop.WriteFault is);
      stopped = λ is. ended.stopped (there stop.WriteFault is);
      cut_short = λ is. ended.cut_short (there stop.WriteFault is);
    }

by_its_stop : {T : Type 0} (c : Call) (s : Span) (e : Stop) → IsEnded {T = T} c s (Err e) →
    IfStopRefuses e (λ why. IsTrue s.tells →
    IsPrinted (line_of why) s.old_write_faults s.new_write_faults s.new) →
    ((◌≡◌ {A = Result T Stop} (Err e) (Err stop.WriteFault) → ⊥) →
    ChangesOnly standard_output s.old s.new) →
    (◌≡◌ {A = Result T Stop} (Err e) (Err stop.ReadFault)
    ⊎ ◌≡◌ {A = Result T Stop} (Err e) (Err stop.NoMemory) → SameFiles s.old s.new) →
    (◌≡◌ {A = Result T Stop} (Err e) (Err stop.WriteFault) →
    OthersStay (outputs c) s.old s.new) → IsStatusOf c s (status_of e)
by_its_stop {T} c s e ended printed touched quiet others =
    record {
      statuses = stops_with c e ended.kind;
      command = never_1 e;
      read_fault = λ is_2. ended.read_fault (ap Err (is_read_fault e is_2));
      write_fault = λ is_3. ended.write_fault (ap Err (is_write_fault e is_3));
      unread = λ is_2 t. ended.unread (ap Err (is_read_fault e is_2)) t;
      stopped = λ is_3. ended.stopped (ap Err (is_write_fault e is_3));
      cut_short = λ is_3 t. ended.cut_short (ap Err (is_write_fault e is_3)) t;
      refused = λ of t. turned_down (inputs c) e s.old_write_faults s.new_write_faults s.old s.new
          of (once_told e _ _ ended.refused t) (once_told e _ _ printed t);
      exact = λ i why is_i t refused. answered why e s.old_write_faults s.new_write_faults s.new
          (IsUnread i s.old_read_faults s.new_read_faults s.old)
          (ended.exact i why is_i t refused) (once_told e _ _ printed t)
          (λ is. subst (λ (o : Option ReadFiles). IsSomeAnd o (λ j.
          IsUnread j s.old_read_faults s.new_read_faults s.old)) is_i
          (ended.unread (ap Err is) t));
      done = λ is_0. absurd (never_0 e is_0);
      audited = λ is_0. absurd (never_0 e is_0);
      amiss = λ is_11. absurd (stops_never_with_11 e is_11);
      passes = λ t. passed_or_stopped c s e t (any_answer c s e ended);
      finds = λ t. found_or_stopped c s e t (any_answer c s e ended);
      complete = λ t taken. at_end_or c (status_of e) _
          (no_memory_or_a_fault e (status_of e) _ _ refl (ended.only t taken)
          (λ is. ended.read_fault (ap Err is)) (λ is. ended.write_fault (ap Err is)));
      untouched = λ not_0 not_3. touched (λ is. not_3 (with_3 e is));
      quiet = quietly e quiet;
      others = then_others e others;
    }
  where
    quietly : (e : Stop) → (◌≡◌ {A = Result T Stop} (Err e) (Err stop.ReadFault)
        ⊎ ◌≡◌ {A = Result T Stop} (Err e) (Err stop.NoMemory) → SameFiles s.old s.new) →
        (status_of e ≡ 2) ⊎ (status_of e ≡ 8) → SameFiles s.old s.new
    quietly e quiet (inl is) = quiet (inl (ap Err (is_read_fault e is)))
    quietly e quiet (inr is) = quiet (inr (ap Err (is_no_memory e is)))

    then_others : (e : Stop) → (◌≡◌ {A = Result T Stop} (Err e) (Err stop.WriteFault) →
        OthersStay (outputs c) s.old s.new) → (status_of e ≡ 0) ⊎ (status_of e ≡ 3) →
        OthersStay (outputs c) s.old s.new
    then_others e others (inl is) = absurd (never_0 e is)
    then_others e others (inr is) = others (ap Err (is_write_fault e is))

-- ---- arguments that are a command, and others

pub of_command : (o : Option Call) (c : Call) (s : Span) (n : ℕ) → o ≡ Some c →
    IsStatusOf c s n → IsAnswer o s n
of_command o c s n is status = subst (λ (p : Option Call). IsAnswer p s n) (sym is) status

pub no_command : (o : Option Call) (s : Span) → o ≡ None →
    (IsTrue s.tells → IsPrinted usage_line s.old_write_faults s.new_write_faults s.new) →
    ChangesOnly standard_output s.old s.new → IsAnswer o s 1
no_command o s is printed files =
    subst (λ (p : Option Call). IsAnswer p s 1) (sym is)
    (record { is = refl; printed = printed; files = files })

pub of_other : (o p : Option Call) (s : Span) (n : ℕ) → o ≡ p → IsAnswer o s n → IsAnswer p s n
of_other o p s n same answer = subst (λ (q : Option Call). IsAnswer q s n) same answer

-- where they are, each fact of its status holds
pub of_call : (o : Option Call) (s : Span) (n : ℕ) (c : Call) → o ≡ Some c → IsAnswer o s n →
    IsStatusOf c s n
of_call o s n c is answer = subst (λ (p : Option Call). IsAnswer p s n) is answer

-- ---- facts of any arguments

pub which_statuses : (o : Option Call) (s : Span) (n : ℕ) → IsAnswer o s n →
    (n ≤ 8) ⊎ (n ≡ 10) ⊎ (n ≡ 11)
which_statuses None s n answer = inl (omega (arith, answer.is))
which_statuses (Some c) s n answer = in_all c n answer.statuses

pub usage_comes : (o : Option Call) (s : Span) (n : ℕ) → IsAnswer o s n → n ≡ 1 → o ≡ None
usage_comes None s n answer is_1 = refl
usage_comes (Some c) s n answer is_1 = absurd (answer.command is_1)

pub usage_is : (o : Option Call) (s : Span) (n : ℕ) → IsAnswer o s n → o ≡ None → n ≡ 1
usage_is None s n answer none = answer.is
usage_is (Some c) s n answer none = absurd (some_is_no_none c none)

pub usage_is_printed : (o : Option Call) (s : Span) (n : ℕ) → IsAnswer o s n → n ≡ 1 →
    IsTrue s.tells → IsPrinted usage_line s.old_write_faults s.new_write_faults s.new
usage_is_printed None s n answer is_1 t = answer.printed t
usage_is_printed (Some c) s n answer is_1 t = absurd (answer.command is_1)

pub only_printed : (o : Option Call) (s : Span) (n : ℕ) → IsAnswer o s n → (n ≡ 0 → ⊥) →
    (n ≡ 3 → ⊥) → ChangesOnly standard_output s.old s.new
only_printed None s n answer not_0 not_3 = answer.files
only_printed (Some c) s n answer not_0 not_3 = answer.untouched not_0 not_3

one_is_loud : {n : ℕ} {P : Type 0} → n ≡ 1 → (n ≡ 2) ⊎ (n ≡ 8) → P
one_is_loud is_1 (inl is) = absurd (omega (arith, is_1, is))
one_is_loud is_1 (inr is) = absurd (omega (arith, is_1, is))

pub quietly_ended : (o : Option Call) (s : Span) (n : ℕ) → IsAnswer o s n →
    (n ≡ 2) ⊎ (n ≡ 8) → SameFiles s.old s.new
quietly_ended None s n answer which = one_is_loud answer.is which
quietly_ended (Some c) s n answer which = answer.quiet which

-- ---- of `live`

pub live_statuses : (o : Option Call) (s : Span) (n : ℕ) → IsLiveAlone o → IsAnswer o s n → n ≤ 8
live_statuses None s n alone answer = omega (arith, answer.is)
live_statuses (Some (Plays f)) s n alone answer = absurd alone
live_statuses (Some (Lists f)) s n alone answer = absurd alone
live_statuses (Some (Generates g)) s n alone answer = absurd alone
live_statuses (Some (Tries p)) s n alone answer = absurd alone
live_statuses (Some (Migrates m)) s n alone answer = absurd alone
live_statuses (Some (Lives l)) s n alone answer = answer.statuses
live_statuses (Some (Audits a)) s n alone answer = absurd alone

pub live_ends : (c : Call) (n : ℕ) (Other : Type 0) → IsLiveAlone (Some c) →
    IsAtEnd c n ⊎ Other → (n ≡ 0) ⊎ Other
live_ends (Plays f) n Other alone end = absurd alone
live_ends (Lists f) n Other alone end = absurd alone
live_ends (Generates g) n Other alone end = absurd alone
live_ends (Tries p) n Other alone end = absurd alone
live_ends (Migrates m) n Other alone end = absurd alone
live_ends (Lives l) n Other alone end = end
live_ends (Audits a) n Other alone end = absurd alone

-- ---- where memory ran out before anything was done

out_is_8 : {n : ℕ} {P : Type 0} → n ≡ 8 → (n ≡ 0) ⊎ (n ≡ 1) ⊎ (n ≡ 2) ⊎ (n ≡ 3) ⊎ (n ≡ 11) → P
out_is_8 is (inl other) = absurd (omega (arith, is, other))
out_is_8 is (inr (inl other)) = absurd (omega (arith, is, other))
out_is_8 is (inr (inr (inl other))) = absurd (omega (arith, is, other))
out_is_8 is (inr (inr (inr (inl other)))) = absurd (omega (arith, is, other))
out_is_8 is (inr (inr (inr (inr other)))) = absurd (omega (arith, is, other))

out_is_no_refusal : {n : ℕ} {P : Type 0} → n ≡ 8 → IsOfRefusal n → P
out_is_no_refusal is (inl few) = absurd (omega (arith, is, few))
out_is_no_refusal is (inr ten) = absurd (omega (arith, is, ten))

no_end_here : {n : ℕ} {P : Type 0} → n ≡ 8 → (n ≡ 0) ⊎ (n ≡ 3) → P
no_end_here is (inl other) = out_is_8 is (inl other)
no_end_here is (inr other) = out_is_8 is (inr (inr (inr (inl other))))

-- of an audit this holds where it holds of all
of_all : (c : Call) (P : AuditFiles → Type 0) → ((a : AuditFiles) → P a) → IfAudit c P
of_all (Plays f) P all = tt
of_all (Lists f) P all = tt
of_all (Generates g) P all = tt
of_all (Tries s) P all = tt
of_all (Migrates m) P all = tt
of_all (Lives l) P all = tt
of_all (Audits a) P all = all a

pub out_of_memory : (c : Call) (s : Span) (n : ℕ) → IsOut s n → IsStatusOf c s n
out_of_memory c s n out =
    record {
      statuses = few c n (omega (arith, out.is));
      command = λ is_1. out_is_8 out.is (inr (inl is_1));
      read_fault = λ is_2. out_is_8 out.is (inr (inr (inl is_2)));
      write_fault = λ is_3. out_is_8 out.is (inr (inr (inr (inl is_3))));
      unread = λ is_2 t. out_is_8 out.is (inr (inr (inl is_2)));
      stopped = λ is_3. out_is_8 out.is (inr (inr (inr (inl is_3))));
      cut_short = λ is_3 t. out_is_8 out.is (inr (inr (inr (inl is_3))));
      refused = λ of t. out_is_no_refusal out.is of;
      exact = λ i why is_i t refused. inr (inl out.is);
      done = λ is_0 t. out_is_8 out.is (inl is_0);
      audited = λ is_0 t. out_is_8 out.is (inl is_0);
      amiss = λ is_11 t. out_is_8 out.is (inr (inr (inr (inr is_11))));
      passes = λ t. of_all c _ (λ a audited. inr (inl out.is));
      finds = λ t. of_all c _ (λ a f finds. inr (inl out.is));
      complete = λ t taken. inr (inl out.is);
      untouched = λ not_0 not_3 other not_this. out.files other;
      quiet = λ which. out.files;
      others = λ ends. no_end_here out.is ends;
    }

-- ---- behind a command, what is printed

abbrev IfWrites : Stop → Type 0
IfWrites stop.WriteFault = ⊥
IfWrites other = Unit {0}

quiet_or_written : {T : Type 0} (e : Stop) → ◌≡◌ {A = Result T Stop} (Err e) (Err stop.ReadFault)
    ⊎ ◌≡◌ {A = Result T Stop} (Err e) (Err stop.NoMemory) →
    ◌≡◌ {A = Result T Stop} (Err e) (Err stop.WriteFault) → ⊥
quiet_or_written {T} e (inl is) wrote =
    subst (λ (r : Result T Stop). IfErr r IfWrites) (sym is ∙ wrote) tt
quiet_or_written {T} e (inr is) wrote =
    subst (λ (r : Result T Stop). IfErr r IfWrites) (sym is ∙ wrote) tt

no_quiet : {T : Type 0} {P : Type 0} (w : Refusal) →
    ◌≡◌ {A = Result T Stop} (Err (stop.Refused w)) (Err stop.ReadFault)
    ⊎ ◌≡◌ {A = Result T Stop} (Err (stop.Refused w)) (Err stop.NoMemory) → P
no_quiet w (inl is) = absurd (is_refusal w stop.ReadFault tt is)
no_quiet w (inr is) = absurd (is_refusal w stop.NoMemory tt is)

module _ {H : Type 0} (tells : H → Bool) (content : H → Contents) (reads writes : H → Counts)
    (old between new : H) (later : IsLater tells reads writes old between) (c : Call) where
  abbrev before : Span
  before = span tells content reads writes old between

  abbrev behind : Span
  behind = span tells content reads writes between new

  abbrev whole : Span
  whole = span tells content reads writes old new

  -- a line that was printed then was printed over the whole time
  printed_since : (line : List ℕ) → IsSaid behind line → IsTrue (tells old) →
      IsPrinted line (writes old) (writes new) (content new)
  printed_since line said t = by (said.printed (later.tells_same ∙ t))
    where
      by : IsPrinted line (writes between) (writes new) (content new) →
          IsPrinted line (writes old) (writes new) (content new)
      by (inl is) = inl is
      by (inr rises) = inr (rises_since _ _ _ (later.write_faults_stay standard_output) rises)

  changes_since : (line : List ℕ) → SameFiles (content old) (content between) →
      IsSaid behind line → ChangesOnly standard_output (content old) (content new)
  changes_since line same said other not_this = said.files other not_this ∙ same other

  out_since : (n : ℕ) → SameFiles (content old) (content between) → IsOut behind n →
      IsStatusOf c whole n
  out_since n same out =
      out_of_memory c whole n
      (record { is = out.is; files = λ name. out.files name ∙ same name })

  -- where the host is the same, what is known of the time before is known of the whole
  still : (n : ℕ) → new ≡ between → IsStatusOf c before n → IsStatusOf c whole n
  still n same status =
      subst (λ (h : H). IsStatusOf c (span tells content reads writes old h) n) (sym same) status

  pub at_its_end : (found : Option Finding) (n : ℕ) → MayFind c found →
      IsEnded {T = Option Finding} c before (Ok found) →
      (IsTrue (tells old) → IsFoundBy c (content old) found) →
      (IsTrue (tells old) → IsOnlyFoundBy c (content old) found) →
      IfSome found (λ _. SameFiles (content old) (content between)) →
      OthersStay (outputs c) (content old) (content between) →
      IsToldFinding (new ≡ between) behind found n → IsStatusOf c whole n
  at_its_end None n may ended by only same others told =
      still n told.1
      (end_status c before None n told.0 may ended by only tt tt (λ none. others))
  at_its_end (Some f) n may ended by only same others (inl told) =
      end_status c whole (Some f) n told.0 may
      (found_still c before whole f refl refl by ended) by only
      (printed_since (finding.line_of f) told.1) (changes_since (finding.line_of f) same told.1)
      (λ none. absurd (some_is_no_none f none))
  at_its_end (Some f) n may ended by only same others (inr out) = out_since n same out

  -- a stop of which nothing is printed
  silent_stop : {T : Type 0} (e : Stop) (n : ℕ) → IsEnded {T = T} c before (Err e) →
      IfStopRefuses e (λ why. IsTrue (tells old) →
      IsPrinted (line_of why) (writes old) (writes between) (content between)) →
      ((◌≡◌ {A = Result T Stop} (Err e) (Err stop.WriteFault) → ⊥) →
      SameFiles (content old) (content between)) →
      OthersStay (outputs c) (content old) (content between) →
      (n ≡ status_of e) × (new ≡ between) → IsStatusOf c whole n
  silent_stop {T} e n ended printed same others told =
      still n told.1
      (subst (λ (k : ℕ). IsStatusOf c before k) (sym told.0)
      (by_its_stop {T = T} c before e ended printed
      (λ not_written other not_this. same not_written other)
      (λ which. same (quiet_or_written {T = T} e which)) (λ wrote. others)))

  pub at_a_stop : {T : Type 0} (e : Stop) (n : ℕ) → IsEnded {T = T} c before (Err e) →
      ((◌≡◌ {A = Result T Stop} (Err e) (Err stop.WriteFault) → ⊥) →
      SameFiles (content old) (content between)) →
      OthersStay (outputs c) (content old) (content between) →
      IsToldStop (new ≡ between) behind e n → IsStatusOf c whole n
  at_a_stop {T} stop.ReadFault n ended same others told =
      silent_stop {T = T} stop.ReadFault n ended tt same others told
  at_a_stop {T} stop.WriteFault n ended same others told =
      silent_stop {T = T} stop.WriteFault n ended tt same others told
  at_a_stop {T} stop.NoMemory n ended same others told =
      silent_stop {T = T} stop.NoMemory n ended tt same others told
  at_a_stop {T} (stop.Refused w) n ended same others (inl told) =
      subst (λ (k : ℕ). IsStatusOf c whole k) (sym told.0)
      (by_its_stop {T = T} c whole (stop.Refused w)
      (refused_still {T = T} c before whole w refl refl ended) (printed_since (line_of w) told.1)
      (λ not_written. changes_since (line_of w) (same not_written) told.1)
      (no_quiet {T = T} w) (λ wrote. absurd (is_refusal w stop.WriteFault tt wrote)))
  at_a_stop {T} (stop.Refused w) n ended same others (inr out) =
      out_since n (same (is_refusal {T = T} w stop.WriteFault tt)) out

-- ---- of a program's arguments, which may not be had

pub of_any : (o : Option Call) (s : Span) (n : ℕ) (c : Call) → o ≡ Some c →
    IsAnswer o s n ⊎ IsOut s n → IsStatusOf c s n
of_any o s n c is (inl answer) = of_call o s n c is answer
of_any o s n c is (inr out) = out_of_memory c s n out

pub any_statuses : (o : Option Call) (s : Span) (n : ℕ) → IsAnswer o s n ⊎ IsOut s n →
    (n ≤ 8) ⊎ (n ≡ 10) ⊎ (n ≡ 11)
any_statuses o s n (inl answer) = which_statuses o s n answer
any_statuses o s n (inr out) = inl (omega (arith, out.is))

pub any_usage : (o : Option Call) (s : Span) (n : ℕ) → IsAnswer o s n ⊎ IsOut s n → n ≡ 1 →
    o ≡ None
any_usage o s n (inl answer) is_1 = usage_comes o s n answer is_1
any_usage o s n (inr out) is_1 = out_is_8 out.is (inr (inl is_1))

pub any_no_command : (o : Option Call) (s : Span) (n : ℕ) → IsAnswer o s n ⊎ IsOut s n →
    o ≡ None → (n ≡ 1) ⊎ (n ≡ 8)
any_no_command o s n (inl answer) none = inl (usage_is o s n answer none)
any_no_command o s n (inr out) none = inr out.is

pub any_usage_printed : (o : Option Call) (s : Span) (n : ℕ) → IsAnswer o s n ⊎ IsOut s n →
    n ≡ 1 → IsTrue s.tells → IsPrinted usage_line s.old_write_faults s.new_write_faults s.new
any_usage_printed o s n (inl answer) is_1 t = usage_is_printed o s n answer is_1 t
any_usage_printed o s n (inr out) is_1 t = out_is_8 out.is (inr (inl is_1))

pub any_only_printed : (o : Option Call) (s : Span) (n : ℕ) → IsAnswer o s n ⊎ IsOut s n →
    (n ≡ 0 → ⊥) → (n ≡ 3 → ⊥) → ChangesOnly standard_output s.old s.new
any_only_printed o s n (inl answer) not_0 not_3 = only_printed o s n answer not_0 not_3
any_only_printed o s n (inr out) not_0 not_3 = λ other not_this. out.files other

pub any_quietly : (o : Option Call) (s : Span) (n : ℕ) → IsAnswer o s n ⊎ IsOut s n →
    (n ≡ 2) ⊎ (n ≡ 8) → SameFiles s.old s.new
any_quietly o s n (inl answer) which = quietly_ended o s n answer which
any_quietly o s n (inr out) which = out.files
