use Rattle.std.proofs.Common.{◌≡◌, Some, None}
use Rattle.std.specs.Prelude.{codes}
use Rattle.std.proofs.lemmas.List.Elements.{All-push}
use Rattle.text_lines.specs.Words.{words_of}
use Rattle.script_lines.specs.AskLine.{ask_of}
use Rattle.script_lines.specs.Limits.{IsTemplate}
use Rattle.script_lines.proofs.LineParts.{ends, goes_on, last_refused, refused}
use Rattle.script_lines.proofs.on_line.read_asks.Goals as goal

pub returns-in_default-2-clause-value : goal.returns-in_default-2-clause-value
returns-in_default-2-clause-value c =
    let none : None ≡ ask_of (words_of c.in-Some.part.now) =
    rw c.in_default-2.is at c.in_ok-ask.ensures.value in
    refused ask_of (codes ";") (words_of c.args.line.now) (words_of c.loop-part.rest.now)
    (words_of c.in-Some.part.now) (words_of c.in-Some.later.now) c.loop-part.asks.items
    c.loop-part.invariant.0 c.in-Some.ensures.words none

pub loop-part-preserved : goal.loop-part-preserved
loop-part-preserved c =
    let some : Some c.in-Some-2.ask ≡ ask_of (words_of c.in-Some.part.now) =
    rw c.in-Some-2.is at c.in_ok-ask.ensures.value in
    let fit : IsTemplate c.in-Some-2.ask = rw c.in-Some-2.is at c.in_ok-ask.ensures.fit in
    rw c.in_ok-push.ensures.items (
      goes_on ask_of (codes ";") (words_of c.args.line.now) (words_of c.loop-part.rest.now)
          (words_of c.in-Some.part.now) (words_of c.in-Some.later.now) c.loop-part.asks.items
          c.in-Some-2.ask c.loop-part.invariant.0 c.in-Some.ensures.words some,
      All-push IsTemplate c.loop-part.asks.items c.in-Some-2.ask c.loop-part.invariant.1 fit,
    )

pub returns-in_default-3-clause-value : goal.returns-in_default-3-clause-value
returns-in_default-3-clause-value c =
    let none : None ≡ ask_of (words_of c.loop-part.rest.now) =
    rw c.in_default-3.is at c.in_ok-ask-2.ensures.value in
    last_refused ask_of (codes ";") (words_of c.args.line.now) (words_of c.loop-part.rest.now)
    c.loop-part.asks.items c.loop-part.invariant.0 c.in_default.ensures.words none

pub returns-clause-value : goal.returns-clause-value
returns-clause-value c =
    let some : Some c.in-Some-3.ask ≡ ask_of (words_of c.loop-part.rest.now) =
    rw c.in-Some-3.is at c.in_ok-ask-2.ensures.value in
    rw c.in_ok-push-2.ensures.items
    (ends ask_of (codes ";") (words_of c.args.line.now) (words_of c.loop-part.rest.now)
    c.loop-part.asks.items c.in-Some-3.ask c.loop-part.invariant.0 c.in_default.ensures.words some)
