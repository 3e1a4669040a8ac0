use Rattle.std.proofs.Common.{◌≡◌, ℕ, ◌+◌, ◌-◌, ◌≤◌, List, length, ap, subst, sym, ◌∙◌, arith}
use Rattle.rand_core.specs.Stream.{Stream, next_u64}
use Rattle.rand_core.specs.Steps.{stream_of, steps_u64_high}
use Rattle.rand_xoshiro.specs.Xoshiro256.{plus_plus}
use Rattle.generated.specs.Stream.{seeded}
use Rattle.generated.specs.Captures.{captured, packets_from}
use Rattle.generated.specs.Numbers.{longest_generated}
use Rattle.generated.proofs.Lengths.{packet_is_short}
use Rattle.generated.proofs.Records.{records_more}
use Rattle.generated.proofs.Rows.{cut_fits, cut_is, left_is, same}
use Rattle.generated.proofs.Streams.{IsBehind, at_start, behind_next}
use Rattle.generated.proofs.captures.cut_out.Goals as goal

pub loop-before-init : goal.loop-before-init
unfolding seeded
loop-before-init c = record {
  behind =
      let Starts : List ℕ → Type 0 = λ state.
      IsBehind c.args.number 0 (stream_of (steps_u64_high plus_plus) state) in
      subst Starts (sym c.seed_from_u64-generator.ensures) (at_start c.args.number);
  items_are = c.in_ok-frames.ensures.items;
  as_many = c.in_ok-frames.ensures.len;
  room = c.in_ok-frames.ensures.capacity;
  within = omega arith;
  rest =
      let all : c.args.count ≡ c.args.count - 0 = omega arith in
      c.requires ∙ ap (packets_from c.args.number 1) all;
}

pub cut-requires-clause-within : goal.cut-requires-clause-within
unfolding next_u64
cut-requires-clause-within c =
    let fits = cut_fits c.loop-before.invariant c.loop-before-test.true
    (ap (λ answer. answer.0) c.next_u64.ensures) in
    omega (arith, fits)

pub overflow_add-end : goal.overflow_add-end
unfolding next_u64
overflow_add-end c =
    let fits = cut_fits c.loop-before.invariant c.loop-before-test.true
    (ap (λ answer. answer.0) c.next_u64.ensures) in
    omega (arith, fits)

pub captured-requires : goal.captured-requires
unfolding next_u64
captured-requires c =
    let packet_is = cut_is c.loop-before.invariant c.loop-before-test.true
    (ap (λ answer. answer.0) c.next_u64.ensures) _ (omega arith) in
    subst (λ (bytes : List ℕ). length bytes ≤ longest_generated)
    (sym (c.in_ok-packet.ensures ∙ packet_is)) (packet_is_short c.next_u64.result)

pub loop-before-preserved : goal.loop-before-preserved
unfolding next_u64
loop-before-preserved c =
    let before = c.loop-before.before in
    let left = stream_of (steps_u64_high plus_plus) c.loop-before.generator in
    let so_far = c.loop-before.invariant in
    let more = c.loop-before-test.true in
    let drawn = ap (λ answer. answer.0) c.next_u64.ensures in
    let packet_is = cut_is so_far more drawn _ (omega arith) in
    let fits = cut_fits so_far more drawn in
    record {
      behind = subst (λ (s : Stream). IsBehind c.args.number (before + 1) s)
          (sym (ap (λ answer. answer.1) c.next_u64.ensures))
          (behind_next c.args.number before left so_far.behind);
      items_are = c.push_reserved.ensures.items
          ∙ records_more c.args.number before c.next_u64.result c.loop-before.frames.items
          c.captured.result so_far.items_are
          (c.captured.ensures
          ∙ ap (captured (before + 1)) (c.in_ok-packet.ensures ∙ packet_is))
          (same so_far more drawn);
      as_many = omega arith;
      room = omega arith;
      within = omega (arith, fits);
      rest = left_is so_far more drawn _ (omega arith);
    }
