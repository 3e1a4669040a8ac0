use Rattle.std.proofs.Common.{◌≡◌, ◌≤◌, ◌+◌, ◌∙◌, ◌++◌, List, length, ap, arith, subst}
use Rattle.std.proofs.lemmas.List.Elements.{All-head, All-tail}
use Rattle.packet_entry.specs.Numbers.{longest_packet}
use Rattle.pcap_io.specs.declared.capture.Frame.{Frame}
use Rattle.packet_moves.specs.declared.setting.Setting.{Setting}
use Rattle.packet_moves.specs.World.{World}
use Rattle.run_parts.specs.Entering.{cards, cards_from}
use Rattle.solo_schedule.specs.Schedule.{frame_passed, frames_passed, rounds_for}
use Rattle.solo_run.specs.RunState.{setting_of, world_of}
use Rattle.solo_run.proofs.StepSequence.{same_both, with_both}
use Rattle.solo_run.proofs.RunStages.{fed_more, few_more}
use Rattle.solo_run.proofs.parts.pass_all.Goals as goal

pub pass-requires-clause-bytes : goal.pass-requires-clause-bytes
pass-requires-clause-bytes c =
    All-head (λ (f : Frame). length f.bytes ≤ longest_packet) c.in-Some.frame.now c.next.new.self
    (rw c.in-Some.ensures.steps at c.loop-frame.invariant.bytes)

pub loop-frame-preserved : goal.loop-frame-preserved
loop-frame-preserved c =
    let capture = c.args.capture.now in
    let number = c.loop-frame.number in
    let frame = c.in-Some.frame.now in
    let rest = c.next.new.self in
    let rounds = rounds_for capture in
    let script = c.args.script.now in
    let Passes : Setting → Type 0 =
    λ s. world_of c.pass.new.run
    ≡ frame_passed rounds s script capture number frame (world_of c.loop-frame.run) in
    let Fed : List Frame → Type 0 =
    λ fs. (world_of c.loop-frame.run).fed ++ cards_from capture number fs ≡ cards capture in
    let Passed : List Frame → Type 0 =
    λ fs. frames_passed rounds (setting_of c.args.run.now) script capture number fs
    (world_of c.loop-frame.run)
    ≡ frames_passed rounds (setting_of c.args.run.now) script capture 1 capture.frames
    (world_of c.args.run.now) in
    let longer = ap (λ (fs : List Frame). length fs) c.in-Some.ensures.steps in
    record {
      going = c.in_ok-pass.ensures.going;
      made_with = with_both c.args.run.now c.loop-frame.run c.pass.new.run
          c.loop-frame.invariant.made_with c.in_ok-pass.ensures.made_with;
      open_ports = same_both (world_of c.args.run.now) (world_of c.loop-frame.run)
          (world_of c.pass.new.run) c.loop-frame.invariant.open_ports c.in_ok-pass.ensures.open;
      counted = omega arith;
      total = omega (arith, longer, c.loop-frame.invariant.total);
      few = few_more capture number frame (world_of c.loop-frame.run).fed
          (world_of c.pass.new.run).fed c.in_ok-pass.ensures.fed c.loop-frame.invariant.few;
      bytes = All-tail (λ (f : Frame). length f.bytes ≤ longest_packet) frame rest
          (rw c.in-Some.ensures.steps at c.loop-frame.invariant.bytes);
      fed = fed_more capture number frame rest (world_of c.loop-frame.run).fed
          (world_of c.pass.new.run).fed c.in_ok-pass.ensures.fed
          ∙ subst Fed c.in-Some.ensures.steps c.loop-frame.invariant.fed;
      on = ap (λ (w : World).
          frames_passed rounds (setting_of c.args.run.now) script capture (number + 1) rest w)
          (subst Passes c.loop-frame.invariant.made_with.setting c.in_ok-pass.ensures.world)
          ∙ subst Passed c.in-Some.ensures.steps c.loop-frame.invariant.on;
    }
