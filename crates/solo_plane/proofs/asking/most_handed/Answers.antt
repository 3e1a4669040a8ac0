use Rattle.std.proofs.Common.{◌≡◌, arith}
use Rattle.queue_core.specs.Step.{refusal}
use Rattle.histories.specs.Happenings.{queue_of}
use Rattle.histories.specs.States.{state_of, waiting_at}
use Rattle.solo_plane.proofs.OneVerdict.{one_goes_on}
use Rattle.solo_plane.proofs.asking.most_handed.Goals as goal

pub returns-in-Verdict : goal.returns-in-Verdict
returns-in-Verdict c port call =
    let q = state_of c.args.place.now.entries c.in-Verdict.queue in
    rw c.in-Verdict.is
    (one_goes_on (refusal q port c.in-Verdict.head) q
    (record {
      mark = c.in-Verdict.mark;
      payload = c.in-Verdict.payload;
      priority = c.in-Verdict.priority;
    }))

pub returns-in_default : goal.returns-in_default
returns-in_default c port call =
    let q = state_of c.args.place.now.entries (queue_of c.args.request.now) in
    let waiting : c.waiting_in.result ≡ waiting_at q =
    rw c.queue_of.ensures at c.waiting_in.ensures in
    omega (
      arith,
      c.what_goes_on_is_in_time.ensures.few q port call c.args.request.now,
      waiting,
    )
