-- A bridge for proofs: what the code's view of a notice, whose bytes are borrowed, tells.
use Rattle.std.specs.Prelude.{option_map}
use Rattle.nfqa_msgs.specs.declared.notice.Telling.{Telling}
use Rattle.nfqa_msgs.specs.NoticeWriting.{Told}

abbrev pub telling : Telling → Told
telling t = record {
  queue = t.queue;
  id = t.id;
  protocol = t.protocol;
  mark = t.mark;
  priority = t.priority;
  source = option_map (λ source. source.now) t.source;
  seconds = t.seconds;
  micros = t.micros;
  cut_from = t.cut_from;
  payload = t.payload.now;
}
