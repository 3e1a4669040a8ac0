use Rattle.std.proofs.Common.{◌≡◌, ◌∙◌, Some, ap, sym}
use Rattle.std.specs.Prelude.{option_map}
use Rattle.nfqa_msgs.specs.NoticeMeaning.{notice_of}
use Rattle.nfqa_msgs.specs.NoticeTexts.{told_exactly}
use Rattle.nfqa_msgs.specs.NoticeWriting.{Told, notice_text, told_of}
use Rattle.nfqa_msgs.specs.Telling.{telling}
use Rattle.nfqa_msgs.proofs.card_notice.notice_of_card.Goals as goal

pub returns : goal.returns
returns c =
    let told : Told = telling c.telling_of_card-told.result in
    let is : told ≡ told_of c.args.queue c.args.mode c.args.range c.args.id c.args.card.now =
    c.telling_of_card-told.ensures.value in
    ap (λ (t : Told). option_map notice_of (told_exactly (notice_text t))) (sym is)
    ∙ ap (option_map notice_of)
    (c.notices_are_told_exactly.ensures.told told c.telling_of_card-told.ensures.fits)
    ∙ ap Some (sym c.notice_with.ensures)
