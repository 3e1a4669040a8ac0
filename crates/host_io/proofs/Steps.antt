-- What the machine's steps do to what it tells.
use Rattle.std.proofs.Common.{◌≡◌, ◌≢◌, ℕ, ◌-◌, ◌<◌, ◌≤◌, List, [], ◌∷◌, length, take, arith, refl}
use Rattle.std.proofs.Common.{sym, ap, ◌∙◌, Option, Some, None, Bool, true, false, cond, is_some}
use Rattle.std.proofs.Common.{is_none, not, ◌&&◌, unwrap_or, if◌then◌else◌, ◌==◌}
use Rattle.std.specs.Prelude.{option_and_then, option_map, Result, Ok, Err, OnErr, IfOk, is_err}
use Rattle.std.proofs.Math.Nat.{le_refl}
use Rattle.std.specs.List.{find, list_any}
use Rattle.std.specs.Str.{bytes_eq}
use Rattle.std.proofs.lemmas.Grind.{common_steps}
use Rattle.std.proofs.lemmas.Bool.Decides.{nat_tests}
use Rattle.std.proofs.lemmas.List.{length-take, take_min}
use Rattle.std.proofs.lemmas.Slice.Eq.{bytes_eq-Decides}
use Rattle.host_io.specs.Host.{Rises, IsLater, SameFiles, ChangesOnly, written}
use Rattle.host_io.specs.Machine.{Entry, Machine, is_named, changed, raised, content_of, room_of}
use Rattle.host_io.specs.Machine.{entry_of, read_faults_of, write_faults_of, read_fails}
use Rattle.host_io.specs.Machine.{write_fails, after_read, after_write, is_next_among, taken}
use Rattle.host_io.specs.Machine.{stored, with_fault, shared_raised, count_read_fault}
use Rattle.host_io.specs.Machine.{count_write_fault}
use Rattle.host_io.specs.declared.entry.Call.TheVariants as call

-- ---- a change of the first entry of a name

-- an entry of one name has no other
apart : (name other : List ℕ) (e : Entry) → other ≢ name → is_named name e ≡ true →
    is_named other e ≡ false
apart name other e ne named =
    let step : (b : Bool) → bytes_eq e.name other ≡ b → b ≡ false =
    elim [
      | true ↦ λ same. absurd (ne (sym ((bytes_eq-Decides e.name other).0 same)
          ∙ (bytes_eq-Decides e.name name).0 named))
      | false ↦ λ _. refl
    ] in
    step (bytes_eq e.name other) refl

module _ (name : List ℕ) (change : Entry → Entry)
    (keeps : (e : Entry) → (change e).name ≡ e.name) where
  still_named : (other : List ℕ) (e : Entry) → is_named other (change e) ≡ is_named other e
  still_named other e = ap (λ n. bytes_eq n other) (keeps e)

  -- what the change leaves alone is told as before, of each name
  pub kept-changed : {X : Type 0} (tell : Option Entry → X) →
      ((e : Entry) → tell (Some (change e)) ≡ tell (Some e)) →
      (other : List ℕ) (entries : List Entry) →
      tell (find (is_named other) (changed entries name change))
      ≡ tell (find (is_named other) entries)
  kept-changed tell same other [] = refl
  kept-changed tell same other (e ∷ es) =
      elim (is_named name e) as
      (λ b. tell (find (is_named other)
      (if b then change e ∷ es else e ∷ changed es name change))
      ≡ tell (find (is_named other) (e ∷ es))) [
        | true ↦
            let step : (b : Bool) → tell (cond b (Some (change e)) (find (is_named other) es))
            ≡ tell (cond b (Some e) (find (is_named other) es)) =
            elim [ true ↦ same e | false ↦ refl ] in
            rw (still_named other e) (step (is_named other e))
        | false ↦
            let step : (b : Bool) →
            tell (cond b (Some e) (find (is_named other) (changed es name change)))
            ≡ tell (cond b (Some e) (find (is_named other) es)) =
            elim [ true ↦ refl | false ↦ kept-changed tell same other es ] in
            step (is_named other e)
      ]

  -- a number that the change doesn't lower is lowered of no name
  pub rises-changed : (tell : Option Entry → ℕ) →
      ((e : Entry) → tell (Some e) ≤ tell (Some (change e))) →
      (other : List ℕ) (entries : List Entry) →
      tell (find (is_named other) entries)
      ≤ tell (find (is_named other) (changed entries name change))
  rises-changed tell up other [] = le_refl (tell None)
  rises-changed tell up other (e ∷ es) =
      elim (is_named name e) as (λ b. tell (find (is_named other) (e ∷ es))
      ≤ tell (find (is_named other)
      (if b then change e ∷ es else e ∷ changed es name change))) [
        | true ↦
            let step : (b : Bool) → tell (cond b (Some e) (find (is_named other) es))
            ≤ tell (cond b (Some (change e)) (find (is_named other) es)) =
            elim [ true ↦ up e | false ↦ le_refl (tell (find (is_named other) es)) ] in
            rw (still_named other e) (step (is_named other e))
        | false ↦
            let step : (b : Bool) → tell (cond b (Some e) (find (is_named other) es))
            ≤ tell (cond b (Some e) (find (is_named other) (changed es name change))) =
            elim [ true ↦ le_refl (tell (Some e)) | false ↦ rises-changed tell up other es ] in
            step (is_named other e)
      ]

  -- the name's own entry is changed
  pub find-changed : (entries : List Entry) → find (is_named name) (changed entries name change)
      ≡ option_map change (find (is_named name) entries)
  find-changed [] = refl
  find-changed (e ∷ es) =
      let step : (b : Bool) → is_named name e ≡ b →
      find (is_named name) (if b then change e ∷ es else e ∷ changed es name change)
      ≡ option_map change (cond b (Some e) (find (is_named name) es)) =
      elim [
        | true ↦ λ named. rw (still_named name e ∙ named) refl
        | false ↦ λ unnamed. rw unnamed (find-changed es)
      ] in
      step (is_named name e) refl

  -- the entry of another name isn't
  pub find-changed_other : (other : List ℕ) → other ≢ name → (entries : List Entry) →
      find (is_named other) (changed entries name change) ≡ find (is_named other) entries
  find-changed_other other ne [] = refl
  find-changed_other other ne (e ∷ es) =
      let step : (b : Bool) → is_named name e ≡ b →
      find (is_named other) (if b then change e ∷ es else e ∷ changed es name change)
      ≡ find (is_named other) (e ∷ es) =
      elim [
        | true ↦ λ named. rw (still_named other e, apart name other e ne named) refl
        | false ↦ λ _. ap (λ rest. cond (is_named other e) (Some e) rest)
            (find-changed_other other ne es)
      ] in
      step (is_named name e) refl

-- ---- counts

rises-raised : (n : ℕ) → Rises n (raised n)
rises-raised n = omega arith

le-raised : (n : ℕ) → n ≤ raised n
le-raised n = omega arith

-- a name's count, of its own or shared, where both kinds may go up
counts_stay : (part : Entry → ℕ) (name : List ℕ) (change : Entry → Entry) →
    ((e : Entry) → (change e).name ≡ e.name) → ((e : Entry) → part e ≤ part (change e)) →
    (shared shared' : ℕ) → shared ≤ shared' → (other : List ℕ) (entries : List Entry) →
    unwrap_or (option_map part (find (is_named other) entries)) shared
    ≤ unwrap_or (option_map part (find (is_named other) (changed entries name change))) shared'
counts_stay part name change keeps up shared shared' le other entries =
    let own =
    rises-changed name change keeps
    (λ o. unwrap_or (option_map part o) shared) up other entries in
    let share : (o : Option Entry) → unwrap_or (option_map part o) shared
    ≤ unwrap_or (option_map part o) shared' =
    elim [ None ↦ le | Some e ↦ le_refl (part e) ] in
    let step = share (find (is_named other) (changed entries name change)) in
    omega (arith, own, step)

-- the same where the shared count stays
own_stays : (part : Entry → ℕ) (name : List ℕ) (change : Entry → Entry) →
    ((e : Entry) → (change e).name ≡ e.name) → ((e : Entry) → part e ≤ part (change e)) →
    (shared : ℕ) (other : List ℕ) (entries : List Entry) →
    unwrap_or (option_map part (find (is_named other) entries)) shared
    ≤ unwrap_or (option_map part (find (is_named other) (changed entries name change))) shared
own_stays part name change keeps up shared =
    counts_stay part name change keeps up shared shared (le_refl shared)

-- the count that a fault raises
fault-rises : (part : Entry → ℕ) (name : List ℕ) (change : Entry → Entry) →
    ((e : Entry) → (change e).name ≡ e.name) → ((e : Entry) → part (change e) ≡ raised (part e)) →
    (shared : ℕ) (entries : List Entry) →
    Rises (unwrap_or (option_map part (find (is_named name) entries)) shared)
    (unwrap_or (option_map part (find (is_named name) (changed entries name change)))
    (shared_raised (find (is_named name) entries) shared))
fault-rises part name change keeps up shared entries =
    let step : (o : Option Entry) →
    Rises (unwrap_or (option_map part o) shared)
    (unwrap_or (option_map part (option_map change o)) (shared_raised o shared)) =
    elim [ None ↦ rises-raised shared | Some e ↦ rw (up e) (rises-raised (part e)) ] in
    rw (find-changed name change keeps entries) (step (find (is_named name) entries))

shared-stays : (b : Bool) (shared : ℕ) → shared ≤ (if b then shared else raised shared)
shared-stays true shared = le_refl shared
shared-stays false shared = le-raised shared

-- what holds of both machines holds of the one that a test picks
either : (P : Machine → Type 0) (fails : Bool) (x y : Machine) → P x → P y →
    P (if fails then x else y)
either P true x y p q = p
either P false x y p q = q

-- ---- a read

module _ (m : Machine) (name : List ℕ) where
  -- the machine with the call counted
  abbrev counted_read : Machine
  counted_read = record m { calls = raised m.calls; reads = raised m.reads }

  -- what holds with a fault counted, and without, holds after the read
  by_read : (P : Machine → Type 0) → P (count_read_fault counted_read name) → P counted_read →
      P (after_read m name)
  by_read P = either P (read_fails m name) (count_read_fault counted_read name) counted_read

  pub files-after_read : SameFiles (content_of m) (content_of (after_read m name))
  files-after_read other =
      by_read (λ n. content_of n other ≡ content_of m other)
      (kept-changed name (with_fault call.Read) (λ e. refl)
      (option_and_then (λ e. e.content)) (λ e. refl) other m.entries) refl

  read_faults-after_read : (other : List ℕ) → read_faults_of m other
      ≤ read_faults_of (after_read m name) other
  read_faults-after_read other =
      by_read (λ n. read_faults_of m other ≤ read_faults_of n other)
      (counts_stay (λ e. e.read_faults) name (with_fault call.Read) (λ e. refl)
      (λ e. le-raised e.read_faults) m.other_read_faults _
      (shared-stays (is_some (entry_of m name)) m.other_read_faults) other m.entries) (le_refl _)

  write_faults-after_read : (other : List ℕ) → write_faults_of m other
      ≤ write_faults_of (after_read m name) other
  write_faults-after_read other =
      by_read (λ n. write_faults_of m other ≤ write_faults_of n other)
      (own_stays (λ e. e.write_faults) name (with_fault call.Read) (λ e. refl)
      (λ e. le_refl e.write_faults) m.other_write_faults other m.entries) (le_refl _)

  pub later-after_read : IsLater (λ _. true) read_faults_of write_faults_of m (after_read m name)
  later-after_read = record {
    tells_same = refl;
    read_faults_stay = read_faults-after_read;
    write_faults_stay = write_faults-after_read;
  }

  pub fault-after_read : read_fails m name ≡ true →
      Rises (read_faults_of m name) (read_faults_of (after_read m name) name)
  fault-after_read fails =
      rw fails (fault-rises (λ e. e.read_faults) name (with_fault call.Read) (λ e. refl)
      (λ e. refl) m.other_read_faults m.entries)

-- ---- a write

module _ (m : Machine) (name : List ℕ) (at : ℕ) (piece : List ℕ) where
  -- the machine with the call counted, and then with the bytes stored
  abbrev counted_write : Machine
  counted_write = record m { calls = raised m.calls; writes = raised m.writes }

  abbrev store : Entry → Entry
  store = stored at piece (taken m name at piece)

  abbrev with_store : Machine
  with_store = record counted_write { entries = changed m.entries name store }

  -- what holds with a fault counted, and with the bytes stored, holds after the write
  by_write : (P : Machine → Type 0) → P (count_write_fault counted_write name) → P with_store →
      P (after_write m name at piece)
  by_write P = either P (write_fails m name) (count_write_fault counted_write name) with_store

  pub files-after_write : ChangesOnly name (content_of m) (content_of (after_write m name at piece))
  files-after_write other ne =
      by_write (λ n. content_of n other ≡ content_of m other)
      (kept-changed name (with_fault call.Write) (λ e. refl)
      (option_and_then (λ e. e.content)) (λ e. refl) other m.entries)
      (ap (option_and_then (λ (e : Entry). e.content))
      (find-changed_other name store (λ e. refl) other ne m.entries))

  read_faults-after_write : (other : List ℕ) → read_faults_of m other
      ≤ read_faults_of (after_write m name at piece) other
  read_faults-after_write other =
      by_write (λ n. read_faults_of m other ≤ read_faults_of n other)
      (own_stays (λ e. e.read_faults) name (with_fault call.Write) (λ e. refl)
      (λ e. le_refl e.read_faults) m.other_read_faults other m.entries)
      (own_stays (λ e. e.read_faults) name store (λ e. refl)
      (λ e. le_refl e.read_faults) m.other_read_faults other m.entries)

  stored-stays : (bytes : List ℕ) (e : Entry) →
      e.write_faults ≤ (stored at piece bytes e).write_faults
  stored-stays bytes e =
      let step : (b : Bool) → e.write_faults
      ≤ (if b then raised e.write_faults else e.write_faults) =
      elim [ true ↦ le-raised e.write_faults | false ↦ le_refl e.write_faults ] in
      step _

  write_faults-after_write : (other : List ℕ) →
      write_faults_of m other ≤ write_faults_of (after_write m name at piece) other
  write_faults-after_write other =
      by_write (λ n. write_faults_of m other ≤ write_faults_of n other)
      (counts_stay (λ e. e.write_faults) name (with_fault call.Write) (λ e. refl)
      (λ e. le-raised e.write_faults) m.other_write_faults _
      (shared-stays (is_some (entry_of m name)) m.other_write_faults) other m.entries)
      (own_stays (λ e. e.write_faults) name store (λ e. refl)
      (stored-stays (taken m name at piece)) m.other_write_faults other m.entries)

  pub later-after_write : IsLater (λ _. true) read_faults_of write_faults_of m
      (after_write m name at piece)
  later-after_write = record {
    tells_same = refl;
    read_faults_stay = read_faults-after_write;
    write_faults_stay = write_faults-after_write;
  }

  pub fault-after_write : write_fails m name ≡ true →
      Rises (write_faults_of m name) (write_faults_of (after_write m name at piece) name)
  fault-after_write fails =
      rw fails (fault-rises (λ e. e.write_faults) name (with_fault call.Write) (λ e. refl)
      (λ e. refl) m.other_write_faults m.entries)

  -- a write that doesn't fail finds room
  has_room : write_fails m name ≡ false → is_none (room_of m name) ≡ false
  has_room works = grind (arith, common_steps)

  pub content-after_write : write_fails m name ≡ false →
      content_of (after_write m name at piece) name
      ≡ Some (written (content_of m name) at (taken m name at piece))
  content-after_write works =
      let bytes : List ℕ = taken m name at piece in
      let step : (o : Option Entry) → is_none (option_and_then (λ e. e.room) o) ≡ false →
      option_and_then (λ e. e.content) (option_map (stored at piece bytes) o)
      ≡ Some (written (option_and_then (λ e. e.content) o) at bytes) =
      elim [ None ↦ λ h. cc | Some e ↦ λ h. refl ] in
      rw (works, find-changed name (stored at piece bytes) (λ e. refl) m.entries)
      (step (find (is_named name) m.entries) (has_room works))

  -- what is taken is a prefix of the piece
  pub taken-take : take (length (taken m name at piece)) piece ≡ taken m name at piece
  taken-take =
      let room : ℕ = unwrap_or (room_of m name) 0 - at in
      elim (is_next_among m m.short) as
      (λ b. take (length (if b then [] else take room piece)) piece
      ≡ (if b then [] else take room piece)) [
        | true ↦ refl
        | false ↦ rw (length-take, take_min) refl
      ]

  pub nothing-after_write : write_fails m name ≡ false → length (taken m name at piece) ≡ 0 →
      0 < length piece → Rises (write_faults_of m name)
      (write_faults_of (after_write m name at piece) name)
  nothing-after_write works nothing some =
      let bytes : List ℕ = taken m name at piece in
      let counts : (length bytes == 0 && not (length piece == 0)) ≡ true =
      grind (arith, nat_tests) in
      let step : (o : Option Entry) → is_none (option_and_then (λ e. e.room) o) ≡ false →
      Rises (unwrap_or (option_map (λ e. e.write_faults) o) m.other_write_faults)
      (unwrap_or (option_map (λ e. e.write_faults)
      (option_map (stored at piece bytes) o)) m.other_write_faults) =
      elim [ None ↦ λ h. cc | Some e ↦ λ h. rw counts (rises-raised e.write_faults) ] in
      rw (works, find-changed name (stored at piece bytes) (λ e. refl) m.entries)
      (step (find (is_named name) m.entries) (has_room works))

-- ---- of a result

pub on_err : {T E : Type 0} {P : Type 0} (r : Result T E) → (is_err r ≡ true → P) → OnErr r P
on_err (Ok x) fact = tt
on_err (Err e) fact = fact refl

-- a call that fails exactly where a test says so doesn't where it is Ok
pub if_works : {T E : Type 0} {P Q : T → Type 0} (r : Result T E) (fails : Bool) →
    (fails ≡ true → is_err r ≡ true) → IfOk r P → ((x : T) → fails ≡ false → P x → Q x) → IfOk r Q
if_works (Ok x) true told p fact = absurd (let e : false ≡ true = told refl in cc)
if_works (Ok x) false told p fact = fact x refl p
if_works (Err e) fails told p fact = tt

-- ---- a write that does what it was asked

pub write-works : (m : Machine) (name : List ℕ) (at : ℕ) (piece : List ℕ) (call writes room : ℕ)
    (bytes : List ℕ) (entries : List Entry) → call ≡ raised m.calls → writes ≡ raised m.writes →
    Some room ≡ room_of m name → list_any (λ n. n == call) m.failing ≡ false →
    bytes ≡ (if list_any (λ n. n == call) m.short then [] else take (room - at) piece) →
    entries ≡ changed m.entries name (stored at piece bytes) →
    record m { entries = entries; calls = call; writes = writes } ≡ after_write m name at piece
write-works m name at piece call writes room bytes entries calls counts some told prefix after =
    let told' : is_next_among m m.failing ≡ false = rw calls at told in
    let works : write_fails m name ≡ false = rw (told', ← some) refl in
    let same : taken m name at piece ≡ bytes = rw (← some, ← calls) (sym prefix) in
    rw works
    (ap (λ es. record m { entries = es; calls = call; writes = writes }) (after
    ∙ ap (λ bs. changed m.entries name (stored at piece bs)) (sym same))
    ∙ ap (λ k. record m {
      entries =
          changed m.entries name (stored at piece (taken m name at piece));
      calls = k;
      writes =
          writes;
    }) calls
    ∙ ap (λ k. record m {
      entries =
          changed m.entries name (stored at piece (taken m name at piece));
      calls = raised m.calls;
      writes = k;
    }) counts)
