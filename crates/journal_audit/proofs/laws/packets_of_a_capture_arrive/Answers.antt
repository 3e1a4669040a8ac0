use Rattle.run_parts.specs.Entering.{cards}
use Rattle.log_audit.specs.Stays.{is_packets}
use Rattle.journal_audit.proofs.Packets.{any_bytes, packets_kept, are_all, all_ask_any, are_packets}
use Rattle.journal_audit.proofs.laws.packets_of_a_capture_arrive.Goals as goal

pub returns : goal.returns
returns c = λ tables key capture es lost sound.
    are_packets es
    (c.what_edits_keep_holds_of_each_that_arrives.ensures tables key (cards capture) es lost
    is_packets any_bytes packets_kept (are_all capture 1 capture.frames) (all_ask_any es) sound)
