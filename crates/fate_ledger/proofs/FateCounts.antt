-- Fates that are counted in one pass.
use Rattle.std.proofs.Common.{◌≡◌, ◌<◌, ℕ, ◌+◌, ◌^◌, List, [], ◌∷◌, ◌++◌, length}
use Rattle.std.proofs.Common.{Bool, true, false, cond, refl, sym, ap, ◌∙◌, arith}
use Rattle.std.proofs.Math.Path.{fun_ext}
use Rattle.std.specs.Prelude.{map, bytes_eq, slice_index, slice_set}
use Rattle.std.proofs.lemmas.List.{length-append, append-nil}
use Rattle.std.proofs.Common.{append_assoc}
use Rattle.std.proofs.lemmas.List.Sums.{sum_by_push, count_by-le-length}
use Rattle.fate_ledger.specs.declared.fate.Fate.{Fate}
use Rattle.fate_ledger.specs.declared.fate.Fate.TheVariants as fate
use Rattle.fate_ledger.specs.declared.fate.FateLine.{FateLine}
use Rattle.fate_ledger.specs.Ledger.{name}
use Rattle.fate_ledger.specs.Counts.{every_fate, count_of, count_line, place, counted, lines_of}
use Rattle.fate_ledger.specs.Counts.{counts, counts_of}

-- ---- one more line

-- what a fate has is found at its place
at_place : (c : Fate → ℕ) (g : Fate) → slice_index (map c every_fate) (place g) ≡ c g
at_place c fate.Unhooked = refl
at_place c fate.Accept = refl
at_place c fate.Stop = refl
at_place c fate.Repeat = refl
at_place c fate.FailOpen = refl
at_place c fate.Bypass = refl
at_place c fate.Dropped = refl
at_place c fate.Overflow = refl
at_place c fate.UserFull = refl
at_place c fate.NoQueue = refl
at_place c fate.CopyNone = refl
at_place c fate.Loop = refl
at_place c fate.Unbind = refl
at_place c fate.PortClosed = refl
at_place c fate.DeviceDown = refl
at_place c fate.Waiting = refl
at_place c fate.NoMemory = refl

-- one more where the fate is this one
more : Fate → (Fate → ℕ) → Fate → ℕ
more g c f = cond (bytes_eq (name g) (name f)) (c f + 1) (c f)

more_at_place : (c : Fate → ℕ) (g : Fate) →
    slice_set (map c every_fate) (place g) (c g + 1) ≡ map (more g c) every_fate
unfolding more
more_at_place c fate.Unhooked = refl
more_at_place c fate.Accept = refl
more_at_place c fate.Stop = refl
more_at_place c fate.Repeat = refl
more_at_place c fate.FailOpen = refl
more_at_place c fate.Bypass = refl
more_at_place c fate.Dropped = refl
more_at_place c fate.Overflow = refl
more_at_place c fate.UserFull = refl
more_at_place c fate.NoQueue = refl
more_at_place c fate.CopyNone = refl
more_at_place c fate.Loop = refl
more_at_place c fate.Unbind = refl
more_at_place c fate.PortClosed = refl
more_at_place c fate.DeviceDown = refl
more_at_place c fate.Waiting = refl
more_at_place c fate.NoMemory = refl

one_more : (b : Bool) (n : ℕ) → n + cond b 1 0 ≡ cond b (n + 1) n
one_more true n = refl
one_more false n = omega arith

count_more : (ls : List FateLine) (l : FateLine) (f : Fate) →
    count_of f (ls ++ l ∷ []) ≡ more l.fate (λ g. count_of g ls) f
unfolding more
count_more ls l f =
    sum_by_push (λ (k : FateLine). cond (bytes_eq (name k.fate) (name f)) 1 0) ls l
    ∙ one_more (bytes_eq (name l.fate) (name f)) (count_of f ls)

counted_more : (ls : List FateLine) (l : FateLine) →
    counted (ls ++ l ∷ []) ≡ slice_set (counted ls) (place l.fate) (count_of l.fate ls + 1)
counted_more ls l =
    ap (λ (c : Fate → ℕ). map c every_fate) (fun_ext (count_more ls l))
    ∙ sym (more_at_place (λ g. count_of g ls) l.fate)

-- ---- all lines

-- the lines so far are counted, and these are still to come
pub record IsCounted (lines rest : List FateLine) (counts : List ℕ) : Type 0 where
  pub before : List FateLine
  pub split : lines ≡ before ++ rest
  pub counts_are : counts ≡ counted before

found : (g : Fate) (ls : List FateLine) (counts : List ℕ) → counts ≡ counted ls →
    slice_index counts (place g) ≡ count_of g ls
found g ls counts are =
    ap (λ (ns : List ℕ). slice_index ns (place g)) are ∙ at_place (λ f. count_of f ls) g

pub fits_on : (lines rest after : List FateLine) (l : FateLine) (counts : List ℕ) →
    length lines < 2 ^ 64 → rest ≡ l ∷ after → IsCounted lines rest counts →
    slice_index counts (place l.fate) + 1 < 2 ^ 64
fits_on lines rest after l counts few front is =
    omega (
      arith,
      few,
      found l.fate is.before counts is.counts_are,
      count_by-le-length (λ (k : FateLine). bytes_eq (name k.fate) (name l.fate)) is.before,
      ap length is.split,
      length-append is.before rest,
      ap length front,
    )

pub counted_on : (lines rest after : List FateLine) (l : FateLine) (counts more : List ℕ) →
    rest ≡ l ∷ after →
    more ≡ slice_set counts (place l.fate) (slice_index counts (place l.fate) + 1) →
    IsCounted lines rest counts → IsCounted lines after more
counted_on lines rest after l counts more front grown is = record {
  before = is.before ++ l ∷ [];
  split = is.split ∙ ap (λ (ls : List FateLine). is.before ++ ls) front
      ∙ sym (append_assoc is.before (l ∷ []) after);
  counts_are = grown
      ∙ ap (λ n. slice_set counts (place l.fate) (n + 1)) (found l.fate is.before counts is.counts_are)
      ∙ ap (λ (ns : List ℕ). slice_set ns (place l.fate) (count_of l.fate is.before + 1))
      is.counts_are
      ∙ sym (counted_more is.before l);
}

pub counted_all : (lines rest : List FateLine) (counts : List ℕ) → rest ≡ [] →
    IsCounted lines rest counts → counts ≡ counted lines
counted_all lines rest counts none is =
    is.counts_are
    ∙ ap counted (sym (is.split ∙ ap (λ (ls : List FateLine). is.before ++ ls) none
    ∙ append-nil is.before))

-- ---- lines with their counts

lines_counted : (fs : List Fate) (ls : List FateLine) →
    lines_of fs (map (λ f. count_of f ls) fs) ≡ counts_of fs ls
lines_counted [] ls = refl
lines_counted (f ∷ fs) ls =
    ap (λ (bytes : List ℕ). count_line f (count_of f ls) ++ bytes) (lines_counted fs ls)

-- the lines of all fates with the counts of all lines
pub lines_are : (ls : List FateLine) → lines_of every_fate (counted ls) ≡ counts ls
lines_are ls = lines_counted every_fate ls
