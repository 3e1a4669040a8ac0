-- What the reader of a notice is told.
use Rattle.std.specs.Prelude.{◌≡◌, ℕ, List, length, unwrap_or}
use Rattle.nfqa_msgs.specs.declared.notice.Notice.{Notice}
use Rattle.nfqa_msgs.specs.NoticeWriting.{Told, FitsTold, notice_text}

-- the length is the packet's where that is told, and else the payload's
abbrev pub notice_of : Told → Notice
notice_of told = record {
  queue = told.queue;
  id = told.id;
  protocol = told.protocol;
  mark = told.mark;
  priority = told.priority;
  length = unwrap_or told.cut_from (length told.payload);
  payload = told.payload;
}

-- the text is the notice of nothing that can be told
abbrev pub IsNoNotice : List ℕ → Type 0
IsNoNotice bytes = (told : Told) → FitsTold told → bytes ≡ notice_text told → ⊥
