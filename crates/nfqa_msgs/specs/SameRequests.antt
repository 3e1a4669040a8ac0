-- Whether two requests are the same: of one kind, with the same in each field.
use Rattle.std.specs.Prelude.{Bool, false, ◌&&◌, ◌==◌, nat_eq, bytes_eq}
use Rattle.std.specs.Option.{option_eq}
use Rattle.nfqa_headers.specs.declared.params.Params.{Params}
use Rattle.nfqa_headers.specs.declared.verdict_header.Head.{Head}
use Rattle.nfqa_msgs.specs.declared.request.Request.{Request}
use Rattle.nfqa_msgs.specs.declared.request.Request.TheVariants.{Config, Verdict, Batch}

abbrev pub same_params : Params → Params → Bool
same_params p q = (p.range == q.range) && (p.mode == q.mode)

abbrev pub same_head : Head → Head → Bool
same_head p q = (p.verdict == q.verdict) && (p.id == q.id)

abbrev pub same_request : Request → Request → Bool
same_request (Config queue command params maxlen flags mask)
    (Config queue2 command2 params2 maxlen2 flags2 mask2) =
    (queue == queue2) && (option_eq nat_eq command command2
    && (option_eq same_params params params2 && (option_eq nat_eq maxlen maxlen2
    && (option_eq nat_eq flags flags2 && option_eq nat_eq mask mask2))))
same_request (Config queue command params maxlen flags mask)
    (Verdict queue2 head2 mark2 payload2 priority2) = false
same_request (Config queue command params maxlen flags mask)
    (Batch queue2 head2 mark2 priority2) = false
same_request (Verdict queue head mark payload priority)
    (Config queue2 command2 params2 maxlen2 flags2 mask2) = false
same_request (Verdict queue head mark payload priority)
    (Verdict queue2 head2 mark2 payload2 priority2) =
    (queue == queue2) && (option_eq same_head head head2 && (option_eq nat_eq mark mark2
    && (option_eq bytes_eq payload payload2 && option_eq nat_eq priority priority2)))
same_request (Verdict queue head mark payload priority) (Batch queue2 head2 mark2 priority2) =
    false
same_request (Batch queue head mark priority)
    (Config queue2 command2 params2 maxlen2 flags2 mask2) = false
same_request (Batch queue head mark priority)
    (Verdict queue2 head2 mark2 payload2 priority2) = false
same_request (Batch queue head mark priority) (Batch queue2 head2 mark2 priority2) =
    (queue == queue2) && (option_eq same_head head head2 && (option_eq nat_eq mark mark2
    && option_eq nat_eq priority priority2))
