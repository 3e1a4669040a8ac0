use Rattle.std.proofs.Common.{◌≡◌, ◌<◌, ◌^◌, ◌++◌, length, arith}
use Rattle.nfqa_msgs.specs.RequestWriting.{spelling}
use Rattle.histories.specs.declared.log.AskWords.TheVariants.{Plain}
use Rattle.port_scripts.proofs.Outcomes.{on_ok}
use Rattle.port_scripts.proofs.texts.put_text.Goals as goal

pub returns-clause-short : goal.returns-clause-short
returns-clause-short c =
    let request = c.args.request.now in
    let text = spelling c.args.port c.args.call request in
    let short = c.datagrams_are_short.ensures.bytes c.args.port c.args.call (Plain request)
    c.requires in
    on_ok c.encode_request.result
    (c.encode_request.new.out.items ≡ c.clear.new.self.items ++ text)
    (length c.encode_request.new.out.items < 2 ^ 31)
    (λ is. rw (is, c.clear.ensures.items) (omega (arith, short)))
    c.encode_request.ensures.ok
