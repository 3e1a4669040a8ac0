use Rattle.std.proofs.Common.{◌≤◌, List, ap, ◌∙◌, subst, arith, length}
use Rattle.std.specs.List.{flat_map, AllByRecursion}
use Rattle.host_io.specs.Host.{later_still}
use Rattle.packet_entry.specs.Numbers.{longest_packet}
use Rattle.pcap_io.specs.declared.capture.Frame.{Frame}
use Rattle.pcap_io.specs.Text.{record_text}
use Rattle.run_files.proofs.TextParts.{put_into, turned}
use Rattle.run_files.proofs.capture_file.write_parts.Goals as goal

pub loop-frame-preserved : goal.loop-frame-preserved
loop-frame-preserved g c =
    let big = c.args.capture.now.big in
    let before = c.loop-frame.invariant in
    let steps = c.in-Some.ensures.steps in
    record {
      underway =
          turned _ _ _ _ _ _ _ _ _ _ _ _ _ _ _ (λ told. rw before.later.tells_same told)
          before.underway (ap (flat_map (record_text big)) steps)
          (put_into _ _ _ _ _ _ _ _ _ c.in_ok-make_room.ensures.grows c.put_record.ensures.items);
      lengths = (subst (λ (fs : List Frame).
          AllByRecursion (λ f. length f.bytes ≤ longest_packet) fs) steps before.lengths).1;
      room = omega (
        arith,
        before.room,
        c.in_ok-make_room.ensures.capacity,
        c.put_record.ensures.capacity,
      );
      files = λ other apart. c.make_room.ensures.files other apart ∙ before.files other apart;
      later = later_still before.later c.make_room.ensures.later;
    }
