use Rattle.std.proofs.Common.{◌≡◌, ℕ, ◌+◌, ◌-◌, List, ◌++◌, ap, subst, sym, ◌∙◌, arith}
use Rattle.rand_core.specs.Stream.{Stream, next_u64}
use Rattle.rand_core.specs.Steps.{stream_of, steps_u64_high}
use Rattle.rand_xoshiro.specs.Xoshiro256.{plus_plus}
use Rattle.generated.specs.Captures.{packets_from}
use Rattle.generated.specs.Stream.{seeded}
use Rattle.generated.proofs.Rows.{filled_on}
use Rattle.generated.proofs.Streams.{IsBehind, at_start, behind_next, next_word}
use Rattle.generated.proofs.captures.packets.Goals as goal

pub loop-init : goal.loop-init
unfolding seeded
loop-init c = record {
  behind =
      let Starts : List ℕ → Type 0 = λ state.
      IsBehind c.args.number 0 (stream_of (steps_u64_high plus_plus) state) in
      subst Starts (sym c.seed_from_u64-generator.ensures) (at_start c.args.number);
  so_far =
      let all : c.args.count - 0 ≡ c.args.count = omega arith in
      ap (λ n. c.in_ok-bytes.bytes.items ++ packets_from c.args.number 1 n) all
      ∙ ap (λ (bytes : List ℕ). bytes ++ packets_from c.args.number 1 c.args.count)
      c.in_ok-bytes.ensures.items;
}

pub loop-preserved : goal.loop-preserved
unfolding next_u64
loop-preserved c =
    let given = c.loop.counter in
    let left = stream_of (steps_u64_high plus_plus) c.loop.generator in
    let so_far = c.loop.invariant in
    record {
      behind = subst (λ (s : Stream). IsBehind c.args.number (given + 1) s)
          (sym (ap (λ answer. answer.1) c.next_u64.ensures))
          (behind_next c.args.number given left so_far.behind);
      so_far = filled_on c.args.number c.args.count given c.next_u64.result _ _ c.loop-test.true
          (ap (λ answer. answer.0) c.next_u64.ensures
          ∙ next_word c.args.number given left so_far.behind)
          c.in_ok-put_packet.ensures so_far.so_far;
    }
