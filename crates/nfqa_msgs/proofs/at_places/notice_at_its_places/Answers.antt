use Rattle.std.proofs.Common.{◌≡◌, ℕ, ◌∙◌, List, ap}
use Rattle.netlink_codec.specs.Messages.{message_text}
use Rattle.nfqa_headers.specs.Kinds.{queue_kind}
use Rattle.nfqa_headers.specs.Numbers.{notice_number}
use Rattle.nfqa_msgs.specs.declared.notice.Telling.{Telling}
use Rattle.nfqa_msgs.specs.NoticeWriting.{FitsTold, notice_body, notice_text}
use Rattle.nfqa_msgs.specs.Telling.{telling}
use Rattle.nfqa_msgs.proofs.AtPlaces.{if_both}
use Rattle.nfqa_msgs.proofs.at_places.notice_at_its_places.Goals as goal

pub returns : goal.returns
unfolding notice_text
returns c =
    let bytes : List ℕ = c.args.bytes.now in
    let body : List ℕ = c.in_ok-body.body.now in
    if_both (λ (t : Telling). FitsTold (telling t) × (bytes ≡ notice_text (telling t)))
    (λ (t : Telling). FitsTold (telling t)) (λ (t : Telling). body ≡ notice_body (telling t))
    c.told_in_body.result c.told_in_body.ensures.fits c.told_in_body.ensures.text
    (λ t fits text. (
      fits,
      c.in_ok-body.ensures.found
          ∙ ap (message_text (queue_kind notice_number) 0 0 0) text,
    ))
