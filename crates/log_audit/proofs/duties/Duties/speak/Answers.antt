use Rattle.std.proofs.Common.{◌∙◌, ap, drop, refl, false, sym, subst, []}
use Rattle.std.specs.Prelude.{is_some}
use Rattle.netlink_codec.specs.Messages.{framed_of, message_of}
use Rattle.packet_moves.specs.Messages.{words_of}
use Rattle.run_parts.specs.Log.{first_due}
use Rattle.log_audit.specs.Walking.{IsLoggedAs}
use Rattle.log_audit.proofs.HeldDues.{asks_say_nothing, has_cut, said}
use Rattle.log_audit.proofs.duties.Duties.speak.Goals as goal

pub returns-in_default-clause-said : goal.returns-in_default-clause-said
returns-in_default-clause-said c =
    let has = has_cut c.datagrams_are_cut_message_by_message.ensures.first
    c.datagrams_are_cut_message_by_message.ensures.none framed_of c.args.self.now
    c.behind.result.now c.next_message.result false
    (c.behind.ensures.value ∙ ap (drop c.args.self.now.used) c.as_slice.ensures)
    c.next_message.ensures.reading (sym (ap is_some c.in_default.is)) in
    λ logged. asks_say_nothing c.args.port c.args.call c.args.ask.now c.args.self.now.asks
    (subst (λ ds. IsLoggedAs c.args.port c.args.call c.args.ask.now (first_due ds [])) has logged)

pub returns-clause-said : goal.returns-clause-said
returns-clause-said c = (
  message_of c.in-Some.message,
  said c.datagrams_are_cut_message_by_message.ensures.first c.args.self.now c.behind.result.now
      (message_of c.in-Some.message) c.in-Some.used
      (c.behind.ensures.value ∙ ap (drop c.args.self.now.used) c.as_slice.ensures)
      (sym c.in-Some.ensures.reading),
  ap (words_of c.args.port c.args.call c.in-Some.message.whole.now)
      (sym c.in_ok-decoded.ensures.value)
      ∙ c.if-not-is_logged_as.ensures.0 refl,
  c.in_ok-decoded.ensures.value,
)
