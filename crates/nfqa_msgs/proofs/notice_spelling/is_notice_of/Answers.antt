use Rattle.std.proofs.Common.{ap, sym, ◌∙◌}
use Rattle.std.proofs.lemmas.Option.{same_Some}
use Rattle.netlink_codec.specs.Messages.{message_text}
use Rattle.nfqa_headers.specs.Numbers.{notice_number}
use Rattle.nfqa_headers.specs.Kinds.{queue_kind}
use Rattle.nfqa_msgs.specs.NoticeWriting.{Told, notice_body, notice_text}
use Rattle.nfqa_msgs.specs.Telling.{telling}
use Rattle.nfqa_msgs.proofs.NoticeRoundTrip.{notice-fits}
use Rattle.nfqa_msgs.proofs.NoticeSpelling.{in_pieces}
use Rattle.nfqa_msgs.proofs.notice_spelling.is_notice_of.Goals as goal

pub returns-in-None : goal.returns-in-None
unfolding notice_text
returns-in-None c = (
  λ no. absurd cc,
  λ is.
      let told : Told = telling c.args.told.now in
      let fits = notice-fits c.written_attributes_are_walked.ensures.size told c.requires in
      absurd (let some = c.in-None.ensures.only (notice_body told) fits is in cc),
)

pub returns-in-Some : goal.returns-in-Some
unfolding notice_text
returns-in-Some c =
    let told : Told = telling c.args.told.now in
    let fits = notice-fits c.written_attributes_are_walked.ensures.size told c.requires in
    let body =
    in_pieces c.as_slice.result.now _ told.payload c.zeros_behind.result.now (notice_body told)
    c.as_slice.ensures.value c.zeros_behind.ensures c.front_of.ensures in (
      λ yes. c.in-Some.ensures.found
          ∙ ap (message_text (queue_kind notice_number) 0 0 0)
          (c.is_in_pieces.ensures.0 yes ∙ body),
      λ is. c.is_in_pieces.ensures.1
          (same_Some c.in-Some.body.now (notice_body told)
          (c.in-Some.ensures.only (notice_body told) fits is) ∙ sym body),
    )
