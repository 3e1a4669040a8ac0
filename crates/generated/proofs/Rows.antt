-- Packets that stand one behind the other, and are cut out again.
use Rattle.std.proofs.Common.{◌≡◌, ℕ, suc, ◌+◌, ◌-◌, ◌<◌, ◌≤◌, List, ◌++◌, length, take}
use Rattle.std.proofs.Common.{drop, ap, sym, ◌∙◌, arith, append_assoc, length-append, length-drop}
use Rattle.std.specs.Prelude.{slice_range}
use Rattle.std.proofs.lemmas.List.{drop-drop, drop_at, take-append-le, take_all}
use Rattle.rand_core.specs.Stream.{next_u64}
use Rattle.rand_core.specs.Steps.{stream_of, steps_u64_high}
use Rattle.rand_xoshiro.specs.Xoshiro256.{plus_plus}
use Rattle.pcap_io.specs.declared.capture.Frame.{Frame}
use Rattle.generated.specs.Captures.{packets_from, records}
use Rattle.generated.specs.Packets.{packet, packet_length}
use Rattle.generated.specs.Stream.{word}
use Rattle.generated.proofs.Lengths.{length-packet}
use Rattle.generated.proofs.Streams.{IsBehind, next_word}

-- ---- one behind the other

-- so many packets stand there, the others still come, and the generator is behind these
pub record IsFilling (number count given : ℕ) (state bytes : List ℕ) : Type 0 where
  pub behind : IsBehind number given (stream_of (steps_u64_high plus_plus) state)
  pub so_far : bytes ++ packets_from number (given + 1) (count - given)
      ≡ packets_from number 1 count

-- the next one, and those that come after it
next : (number count given : ℕ) → given < count →
    packets_from number (given + 1) (count - given)
    ≡ packet (word number (given + 1)) ++ packets_from number (given + 1 + 1) (count - (given + 1))
next number count given within =
    let left : count - given ≡ suc (count - (given + 1)) = omega arith in
    ap (packets_from number (given + 1)) left

pub filled_on : (number count given w : ℕ) (old new : List ℕ) → given < count →
    w ≡ word number (given + 1) → new ≡ old ++ packet w →
    old ++ packets_from number (given + 1) (count - given) ≡ packets_from number 1 count →
    new ++ packets_from number (given + 1 + 1) (count - (given + 1))
    ≡ packets_from number 1 count
filled_on number count given w old new within same grown so_far =
    let after = packets_from number (given + 1 + 1) (count - (given + 1)) in
    ap (λ (bytes : List ℕ). bytes ++ after) grown
    ∙ append_assoc old (packet w) after
    ∙ ap (λ v. old ++ (packet v ++ after)) same
    ∙ ap (λ (bytes : List ℕ). old ++ bytes) (sym (next number count given within))
    ∙ so_far

-- ---- cut out again

-- so many records are cut out, and from this place on the packets of the others stand
pub record IsCutting (number count before : ℕ) (state bytes : List ℕ) (at : ℕ)
    (items : List Frame) (len capacity : ℕ) : Type 0 where
  pub behind : IsBehind number before (stream_of (steps_u64_high plus_plus) state)
  pub items_are : items ≡ records number before
  pub as_many : len ≡ before
  pub room : count ≤ capacity
  pub within : at ≤ length bytes
  pub rest : drop at bytes ≡ packets_from number (before + 1) (count - before)

-- the next word was drawn
module _ {number count before w at len capacity : ℕ} {state bytes : List ℕ} {items : List Frame}
    (is : IsCutting number count before state bytes at items len capacity) (more : before < count)
    (drawn : w ≡ (next_u64 (stream_of (steps_u64_high plus_plus) state)).0) where
  pub same : w ≡ word number (before + 1)
  same = drawn ∙ next_word number before (stream_of (steps_u64_high plus_plus) state) is.behind

  abbrev pub after : List ℕ
  after = packets_from number (before + 1 + 1) (count - (before + 1))

  front : drop at bytes ≡ packet w ++ after
  front = is.rest ∙ next number count before more ∙ ap (λ v. packet v ++ after) (sym same)

  pub cut_fits : at + packet_length w ≤ length bytes
  cut_fits = omega (
    arith,
    is.within,
    length-packet w,
    length-drop at bytes,
    ap length front,
    length-append (packet w) after,
  )

  pub cut_is : (end : ℕ) → end ≡ at + packet_length w → slice_range bytes at end ≡ packet w
  cut_is end ends =
      let long : end - at ≡ length (packet w) = omega (arith, ends, length-packet w) in
      ap (λ n. take n (drop at bytes)) long
      ∙ ap (λ (bs : List ℕ). take (length (packet w)) bs) front
      ∙ take-append-le (length (packet w)) (packet w) after (omega arith)
      ∙ take_all (length (packet w)) (packet w) (omega arith)

  pub left_is : (end : ℕ) → end ≡ at + packet_length w → drop end bytes ≡ after
  left_is end ends =
      ap (λ n. drop n bytes) ends ∙ sym (drop-drop (packet_length w) at bytes)
      ∙ ap (λ (bs : List ℕ). drop (packet_length w) bs) front
      ∙ drop_at (packet w) after (packet_length w) (length-packet w)
