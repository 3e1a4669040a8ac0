use Rattle.std.proofs.Common.{ℕ, ◌≤◌, ◌++◌, List, length, arith, sym, ap, subst}
use Rattle.std.proofs.Common.{◌∙◌, append_assoc}
use Rattle.std.specs.List.{AllByRecursion}
use Rattle.std.proofs.lemmas.List.Elements.{recursion_from_All}
use Rattle.packet_entry.specs.Numbers.{longest_packet}
use Rattle.pcap_io.specs.declared.capture.Frame.{Frame}
use Rattle.pcap_io.specs.Text.{record_text, FrameFits}
use Rattle.pcap_io.proofs.WholeFile.{records}
use Rattle.pcap_io.proofs.Room.{length-records}
use Rattle.pcap_io.proofs.writing.put_frames.Goals as goal

abbrev IsShort : Frame → Type 0
IsShort f = length f.bytes ≤ longest_packet

pub loop-frame-init : goal.loop-frame-init
loop-frame-init c =
    let same = c.into_iter-frame-iterator.ensures.into_iter_gives in
    record {
      lengths = subst (λ (fs : List Frame). AllByRecursion IsShort fs) (sym same)
          (recursion_from_All IsShort c.args.frames.now c.requires.lengths);
      fit = λ h. subst (λ (fs : List Frame). AllByRecursion FrameFits fs) same h;
      room = rw same c.requires.room;
      written = ap (λ (fs : List Frame). c.args.out.now.items ++ records c.args.big fs) same;
    }

pub put_record-requires-clause-room : goal.put_record-requires-clause-room
put_record-requires-clause-room c =
    let big = c.args.big in
    omega (
      arith,
      ap (λ (fs : List Frame). length (records big fs)) c.in-Some.ensures.steps,
      length-records big c.in-Some.frame.now c.next.new.self,
      c.loop-frame.invariant.room,
    )

pub loop-frame-preserved : goal.loop-frame-preserved
loop-frame-preserved c =
    let big = c.args.big in
    let frame = c.in-Some.frame.now in
    let rest = c.next.new.self in
    let steps = c.in-Some.ensures.steps in
    let old = c.loop-frame.invariant in
    record {
      lengths = (subst (λ (fs : List Frame). AllByRecursion IsShort fs) steps old.lengths).1;
      fit = λ h. old.fit (subst (λ (fs : List Frame). AllByRecursion FrameFits fs) (sym steps)
          (c.put_record.ensures.fits, h));
      room = omega (
        arith,
        ap (λ (fs : List Frame). length (records big fs)) steps,
        length-records big frame rest,
        old.room,
        c.put_record.ensures.len,
        c.put_record.ensures.capacity,
      );
      written =
          ap (λ (out : List ℕ). out ++ records big rest) c.put_record.ensures.items
          ∙ append_assoc c.loop-frame.out.items (record_text big frame) (records big rest)
          ∙ ap (λ (fs : List Frame). c.loop-frame.out.items ++ records big fs) (sym steps)
          ∙ old.written;
    }
