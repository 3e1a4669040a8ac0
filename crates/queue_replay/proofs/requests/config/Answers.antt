use Rattle.std.proofs.Common.{sym, ap, ◌∙◌}
use Rattle.std.specs.Prelude.{option_map}
use Rattle.queue_core.specs.State.{configured}
use Rattle.queue_core.specs.Step.{Stepped}
use Rattle.queue_core.specs.declared.event.Reply.TheVariants.{Answer}
use Rattle.histories.specs.States.{waiting_at}
use Rattle.queue_replay.proofs.requests.config.Goals as goal

pub returns-in-Ends-clause-reply : goal.returns-in-Ends-clause-reply
returns-in-Ends-clause-reply c =
    let any = c.config_line.ensures c.args.queue.now c.args.params c.args.maximum
    c.port_of.ensures in
    let line = rw c.in-Ends.is at any in
    ap (λ (s : Stepped). s.reply) line.2
    ∙ ap (Answer 0) (sym (c.end.ensures.count ∙ ap waiting_at line.1))

pub returns-in-Ends-clause-state : goal.returns-in-Ends-clause-state
returns-in-Ends-clause-state c =
    let any = c.config_line.ensures c.args.queue.now c.args.params c.args.maximum
    c.port_of.ensures in
    let line = rw c.in-Ends.is at any in
    ap (λ (s : Stepped). s.state) line.2 ∙ sym c.end.ensures.absent

pub returns-in-SetsUp-clause-reply : goal.returns-in-SetsUp-clause-reply
returns-in-SetsUp-clause-reply c =
    let any = c.config_line.ensures c.args.queue.now c.args.params c.args.maximum
    c.port_of.ensures in
    let line = rw c.in-SetsUp.is at any in
    ap (λ (s : Stepped). s.reply) line.2

pub returns-in-SetsUp-clause-state : goal.returns-in-SetsUp-clause-state
returns-in-SetsUp-clause-state c =
    let any = c.config_line.ensures c.args.queue.now c.args.params c.args.maximum
    c.port_of.ensures in
    let line = rw c.in-SetsUp.is at any in
    ap (λ (s : Stepped). s.state) line.2
    ∙ sym (c.set_up.ensures
    ∙ ap (option_map (configured c.args.params c.args.maximum c.args.flags c.args.mask)) line.1)
