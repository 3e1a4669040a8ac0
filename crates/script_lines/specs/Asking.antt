-- What an ask of a line is: in answer to a notice, and without one.
use Rattle.std.specs.Prelude.{ℕ, Option, Some, None}
use Rattle.text_lines.specs.Words.{◌>>=◌}
use Rattle.nfqa_msgs.specs.declared.notice.Notice.{Notice}
use Rattle.nfqa_headers.specs.declared.verdict_header.Head.{Head}
use Rattle.nfqa_msgs.specs.declared.request.Request.{Request}
use Rattle.nfqa_msgs.specs.declared.request.Request.TheVariants as request
use Rattle.histories.specs.declared.log.AskWords.{AskWords}
use Rattle.histories.specs.declared.log.AskWords.TheVariants as words
use Rattle.script_lines.specs.declared.ask.Ask.{Ask}
use Rattle.script_lines.specs.declared.ask.Ask.TheVariants.{Words}
use Rattle.script_lines.specs.declared.template.OrThis.{OrThis}
use Rattle.script_lines.specs.declared.template.OrThis.TheVariants.{This, Number}
use Rattle.script_lines.specs.declared.template.Settings.{Settings}
use Rattle.script_lines.specs.declared.template.Judgement.{Judgement}
use Rattle.script_lines.specs.declared.template.Template.{Template}
use Rattle.script_lines.specs.declared.template.Template.TheVariants.{Config, Verdict, Batch, Raw}

-- `this` is the notice's number
abbrev pub number_for : {A : Type 0} → A → OrThis A → A
number_for this This = this
number_for this (Number number) = number

-- a number that isn't the notice's
abbrev pub alone_of : {A : Type 0} → OrThis A → Option A
alone_of This = None
alone_of (Number number) = Some number

-- the request that sets this of a queue
abbrev pub request_of : ℕ → Settings → Request
request_of queue s = request.Config queue s.command s.params s.maxlen s.flags s.mask

-- `this` is the id that the notice's packet waits under
abbrev pub head_for : Notice → Judgement → Head
head_for n j = record { verdict = j.verdict; id = number_for n.id j.id }

abbrev pub head_alone : Judgement → Option Head
head_alone j = do
  id ← alone_of j.id
  Some (record { verdict = j.verdict; id = id })

-- each `this` is replaced by the queue or the id of the notice, and all else stays
abbrev pub asked : Notice → Template → Ask
asked n (Config queue settings) =
    Words (words.Plain (request_of (number_for n.queue queue) settings))
asked n (Verdict j payload) =
    Words (words.Plain
    (request.Verdict (number_for n.queue j.queue) (Some (head_for n j)) j.mark payload
    j.priority))
asked n (Batch j) =
    Words (words.Plain
    (request.Batch (number_for n.queue j.queue) (Some (head_for n j)) j.mark j.priority))
asked n (Raw bytes) = Words (words.Raw bytes)

-- what an ask says without a notice; none where it says `this`
abbrev pub words_alone : Template → Option AskWords
words_alone (Config queue settings) = do
  q ← alone_of queue
  Some (words.Plain (request_of q settings))
words_alone (Verdict j payload) = do
  q ← alone_of j.queue
  head ← head_alone j
  Some (words.Plain (request.Verdict q (Some head) j.mark payload j.priority))
words_alone (Batch j) = do
  q ← alone_of j.queue
  head ← head_alone j
  Some (words.Plain (request.Batch q (Some head) j.mark j.priority))
words_alone (Raw bytes) = Some (words.Raw bytes)
