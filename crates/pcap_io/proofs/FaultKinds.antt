-- Out of memory is no fault of a text.
use Rattle.std.proofs.Common.{◌≡◌, ◌≢◌, ℕ, ◌+◌, Bool, true, false, cond, eqb, List, length, Result}
use Rattle.std.proofs.Common.{Ok, Err, refl, ap, inl, inr}
use Rattle.std.specs.Int.{w32}
use Rattle.pcap_io.specs.declared.fault.CaptureFault.{CaptureFault}
use Rattle.pcap_io.specs.declared.fault.CaptureFault.TheVariants.{Magic, Pcapng, Version, LinkType}
use Rattle.pcap_io.specs.declared.fault.CaptureFault.TheVariants.{Cut, TooLong, NoMemory}
use Rattle.pcap_io.specs.Numbers.{pcapng_block, microsecond_magic, nanosecond_magic}
use Rattle.pcap_io.specs.Numbers.{microsecond_magic_swapped, nanosecond_magic_swapped}
use Rattle.pcap_io.specs.Reading.{◌>>=◌, number_at, resolution_of, read_magic, fields_at}
use Rattle.pcap_io.specs.Reading.{read_header, read_record, IsFault}
use Rattle.pcap_io.proofs.WholeFile.{same_fault}

no_fault : {A : Type 0} (x : A) → ◌≡◌ {A = Result A CaptureFault} (Ok x) (Err NoMemory) → ⊥
no_fault x e = cc

not_chosen : {A : Type 0} (b : Bool) (x y z : A) → (x ≡ z → ⊥) → (y ≡ z → ⊥) → cond b x y ≡ z → ⊥
not_chosen true x y z p q e = p e
not_chosen false x y z p q e = q e

not_bound : {A B : Type 0} (r : Result A CaptureFault) (f : A → Result B CaptureFault)
    (fault : CaptureFault) → (r ≡ Err fault → ⊥) → ((x : A) → f x ≡ Err fault → ⊥) →
    (r >>= f) ≡ Err fault → ⊥
not_bound (Ok x) f fault p q e = q x e
not_bound {A} {B} (Err g) f fault p q e =
    let same : g ≡ fault =
    same_fault {A = B} (Err g) g fault refl e in p (ap (λ (h : CaptureFault). Err h) same)

other_fault : {A : Type 0} (f : CaptureFault) → f ≢ NoMemory →
    ◌≡◌ {A = Result A CaptureFault} (Err f) (Err NoMemory) → ⊥
other_fault {A} f ne e = ne (same_fault {A = A} (Err f) f NoMemory refl e)

fields_apart : (big nanos : Bool) (text : List ℕ) → fields_at big nanos text ≡ Err NoMemory → ⊥
unfolding fields_at
fields_apart big nanos text =
    not_chosen _ _ _ _ (other_fault (Cut 0 0) (λ e. cc))
    (not_chosen _ _ _ _ (other_fault Version (λ e. cc))
    (not_chosen _ _ _ _ (other_fault (LinkType _) (λ e. cc)) (no_fault _)))

tests_apart : (a b c d e : Bool) →
    ◌≡◌ {A = Result (Bool × Bool) CaptureFault}
    (cond a (Err Pcapng) (cond b (Ok (true, false))
    (cond c (Ok (true, true)) (cond d (Ok (false, false))
    (cond e (Ok (false, true)) (Err Magic)))))) (Err NoMemory) → ⊥
tests_apart true b c d e h = cc
tests_apart false true c d e h = cc
tests_apart false false true d e h = cc
tests_apart false false false true e h = cc
tests_apart false false false false true h = cc
tests_apart false false false false false h = cc

resolution_apart : (magic : ℕ) → resolution_of magic ≡ Err NoMemory → ⊥
resolution_apart magic =
    tests_apart (eqb magic pcapng_block) (eqb magic microsecond_magic) (eqb magic nanosecond_magic)
    (eqb magic microsecond_magic_swapped) (eqb magic nanosecond_magic_swapped)

header_apart : (text : List ℕ) → read_header text ≡ Err NoMemory → ⊥
unfolding read_header
header_apart text =
    not_bound (read_magic text) (λ magic. fields_at magic.0 magic.1 text) NoMemory
    (not_chosen _ _ _ _ (other_fault Magic (λ e. cc))
    (resolution_apart (number_at true w32 0 text))) (λ magic. fields_apart magic.0 magic.1 text)

record_apart : (big : Bool) (n place : ℕ) (text : List ℕ) →
    read_record big n place text ≡ Err NoMemory → ⊥
unfolding read_record
record_apart big n place text =
    not_chosen _ _ _ _ (other_fault (Cut n place) (λ e. cc))
    (not_chosen _ _ _ _ (other_fault (TooLong n _) (λ e. cc))
    (not_chosen _ _ _ _ (other_fault (Cut n place) (λ e. cc)) (no_fault _)))

pub memory_apart : (text : List ℕ) → IsFault text NoMemory → ⊥
memory_apart text (inl e) = header_apart text e
memory_apart text (inr b) =
    record_apart b.capture.big (length b.capture.frames + 1) (length b.before) b.rest b.broken
