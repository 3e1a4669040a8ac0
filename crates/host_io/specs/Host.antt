-- What the calls of a host do to its files and to its counts of faults.
use Rattle.std.specs.Prelude.{◌≡◌, ◌≢◌, ◌⊎◌, ℕ, ◌+◌, ◌-◌, ◌^◌, ◌<◌, ◌≤◌, min, Bool, List, [], ◌++◌}
use Rattle.std.specs.Prelude.{length, take, drop, Option, unwrap_or}
use Rattle.std.proofs.Common.{arith, refl, ◌∙◌}
use Rattle.std.proofs.Math.Nat.{le_refl}

-- A count of faults rose. At 2^64 - 1, its last value, it stands still, and there it counts as
-- risen.
abbrev pub Rises : ℕ → ℕ → Type 0
Rises old new = min (old + 1) (2 ^ 64 - 1) ≤ new

-- The same host at a later moment: it tells its contents if it told them before, and no count fell.
pub record IsLater {H : Type 0} (tells : H → Bool)
    (read_faults write_faults : H → List ℕ → ℕ) (old new : H) : Type 0 where
  pub tells_same : tells new ≡ tells old
  pub read_faults_stay : (name : List ℕ) → read_faults old name ≤ read_faults new name
  pub write_faults_stay : (name : List ℕ) → write_faults old name ≤ write_faults new name

-- the bytes of a file, of which there are none where the file isn't there
abbrev pub bytes_of : Option (List ℕ) → List ℕ
bytes_of file = unwrap_or file []

-- every file holds what it held
abbrev pub SameFiles : (List ℕ → Option (List ℕ)) → (List ℕ → Option (List ℕ)) → Type 0
SameFiles old new = (name : List ℕ) → new name ≡ old name

-- every file but the named one holds what it held
abbrev pub ChangesOnly : List ℕ → (List ℕ → Option (List ℕ)) → (List ℕ → Option (List ℕ)) → Type 0
ChangesOnly name old new = (other : List ℕ) → other ≢ name → new other ≡ old other

-- A read of these bytes, from place `at` on, into a buffer gave n: so many of them now stand at the
-- buffer's start, before the rest of what it held. Where the buffer has room, n is 0 only where
-- `at` is the end of the bytes or beyond it.
pub record IsRead (bytes : List ℕ) (at n : ℕ) (old new : List ℕ) : Type 0 where
  pub there : n ≤ length bytes - at
  pub copied : new ≡ take n (drop at bytes) ++ drop n old
  pub end : n ≡ 0 → 0 < length old → length bytes ≤ at

-- a write may go on here: at the file's end, or at its start, where it is made anew
abbrev pub MayGoOn : Option (List ℕ) → ℕ → Type 0
MayGoOn file at = (at ≡ 0) ⊎ (at ≡ length (bytes_of file))

-- what a file holds after a write of the piece at place `at`: its first `at` bytes, and the piece
abbrev pub written : Option (List ℕ) → ℕ → List ℕ → List ℕ
written file at piece = take at (bytes_of file) ++ piece

pub later_now : {H : Type 0} {tells : H → Bool} {read_faults write_faults : H → List ℕ → ℕ}
    (host : H) → IsLater tells read_faults write_faults host host
later_now host =
    record {
      tells_same = refl;
      read_faults_stay = λ name. le_refl _;
      write_faults_stay = λ name. le_refl _;
    }

pub later_still : {H : Type 0} {tells : H → Bool} {read_faults write_faults : H → List ℕ → ℕ}
    {old between new : H} →
    IsLater tells read_faults write_faults old between →
    IsLater tells read_faults write_faults between new →
    IsLater tells read_faults write_faults old new
later_still first second =
    record {
      tells_same = second.tells_same ∙ first.tells_same;
      read_faults_stay =
          λ name. omega (arith, first.read_faults_stay name, second.read_faults_stay name);
      write_faults_stay =
          λ name. omega (arith, first.write_faults_stay name, second.write_faults_stay name);
    }
