use Rattle.std.proofs.Common.{◌≡◌, ℕ, List, ◌++◌, subst}
use Rattle.std.specs.Prelude.{OnOk}
use Rattle.netlink_codec.specs.Messages.{message_text}
use Rattle.nfqa_msgs.specs.NoticeWriting.{Told, notice_body, notice_text}
use Rattle.nfqa_msgs.specs.Telling.{telling}
use Rattle.nfqa_msgs.proofs.NoticeSpelling.{in_pieces}
use Rattle.nfqa_msgs.proofs.notice_writing.put_notice.Goals as goal

pub returns-clause-ok : goal.returns-clause-ok
unfolding notice_text
returns-clause-ok c =
    let told : Told = telling c.args.told.now in
    let body =
    in_pieces c.as_slice.result.now _ told.payload c.zeros_behind.result.now (notice_body told)
    c.as_slice.ensures.value c.zeros_behind.ensures c.front_of-front.ensures in
    let P : List ℕ → Type 0 =
    λ body. OnOk c.put_split_message.result
    (c.put_split_message.new.out.items ≡ c.args.out.now.items ++ message_text 768 0 0 0 body) in
    subst P body c.put_split_message.ensures.ok
