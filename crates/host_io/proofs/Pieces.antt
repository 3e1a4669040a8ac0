-- A piece that is read after the bytes of a buffer, and one that is written after those of a file.
use Rattle.std.proofs.Common.{◌≡◌, ℕ, zero, suc, ◌+◌, ◌<◌, ◌≤◌, List, ◌++◌, length, take, drop, arith}
use Rattle.std.proofs.Common.{refl, sym, ap, ◌∙◌, length-append, length-drop, Option, Some}
use Rattle.std.proofs.Common.{add-zero, zero-add, inl, inr, append_assoc}
use Rattle.std.proofs.lemmas.List.{length-take-le, take_at, take_all}
use Rattle.std.proofs.Math.Seq.{take-add, length_paste_head}
use Rattle.std.specs.Io.{StartsWith}
use Rattle.host_io.specs.Host.{IsRead, MayGoOn, bytes_of, written}

-- a read that goes on after the bytes that are there
pub read_on : (file bytes old new : List ℕ) (n : ℕ) → StartsWith file bytes →
    IsRead file (length bytes) n old new → StartsWith file (bytes ++ take n new)
read_on file bytes old new n prefix read =
    let part : List ℕ = take n (drop (length bytes) file) in
    let whole : length part ≡ n =
    length-take-le n (drop (length bytes) file) (rw length-drop read.there) in
    let copied : take n new ≡ part = ap (take n) read.copied ∙ take_at part (drop n old) n whole in
    rw (copied, length-append bytes part, whole) (take-add (length bytes) n file
    ∙ ap (λ start. start ++ part) prefix)

-- where writing may go on, there are so many bytes
at_within : (file : Option (List ℕ)) (at : ℕ) → MayGoOn file at → at ≤ length (bytes_of file)
at_within file at (inl start) = omega (arith, start)
at_within file at (inr end) = omega (arith, end)

-- after `done` of these bytes the file ends behind them
written_length : (file : Option (List ℕ)) (at done : ℕ) (bytes : List ℕ) → MayGoOn file at →
    done ≤ length bytes → length (written file at (take done bytes)) ≡ at + done
written_length file at done bytes may within =
    length_paste_head (bytes_of file) at bytes done (at_within file at may) within

-- so writing may go on there
pub goes_on : (old file : Option (List ℕ)) (at done : ℕ) (bytes : List ℕ) → MayGoOn old at →
    done ≤ length bytes → (done ≡ 0 → file ≡ old) →
    (0 < done → file ≡ Some (written old at (take done bytes))) → MayGoOn file (at + done)
goes_on old file at zero bytes may within same stored = rw (same refl, add-zero) may
goes_on old file at (suc done) bytes may within same stored =
    inr (sym (ap (λ f. length (bytes_of f)) (stored (omega arith))
    ∙ written_length old at (suc done) bytes may within))

-- and with n bytes more it holds these behind the first
pub written_further : (old file : Option (List ℕ)) (at done n : ℕ) (bytes : List ℕ) →
    MayGoOn old at → done ≤ length bytes → (done ≡ 0 → file ≡ old) →
    (0 < done → file ≡ Some (written old at (take done bytes))) →
    written file (at + done) (take n (drop done bytes)) ≡ written old at (take (done + n) bytes)
written_further old file at zero n bytes may within same stored =
    rw (same refl, zero-add, add-zero) refl
written_further old file at (suc done) n bytes may within same stored =
    let before = written old at (take (suc done) bytes) in
    let whole : take (at + suc done) before ≡ before =
    take_all (at + suc done) before
    (omega (arith, written_length old at (suc done) bytes may within)) in
    ap (λ f. take (at + suc done) (bytes_of f) ++ take n (drop (suc done) bytes))
    (stored (omega arith))
    ∙ ap (λ b. b ++ take n (drop (suc done) bytes)) whole
    ∙ append_assoc (take at (bytes_of old)) (take (suc done) bytes)
    (take n (drop (suc done) bytes))
    ∙ ap (λ b. take at (bytes_of old) ++ b) (sym (take-add (suc done) n bytes))
