use Rattle.std.proofs.Common.{◌∙◌, ap}
use Rattle.netlink_codec.specs.Messages.{message_of}
use Rattle.packet_moves.specs.Messages.{words_of}
use Rattle.log_audit.proofs.LoggedMessages.{asks_for_it, plain_words, words_are_plain}
use Rattle.log_audit.proofs.logged.is_logged_in_words.Goals as goal

pub returns : goal.returns
returns c =
    let request = c.args.request.now in
    let whole = c.args.message.now.whole.now in (
      λ t.
          let is = c.is_spelling.ensures.0 t in
          let asked = asks_for_it c.spelling_decodes_to_its_request.ensures.front
          c.spelling_decodes_to_its_request.ensures.request c.one_message_in_front.ensures.read
          c.args.port c.args.call request (message_of c.args.message.now) c.ranges.port.fits
          c.ranges.call.fits c.numbers_fit.ensures c.requires.own is in
          ap (words_of c.args.port c.args.call whole) (c.requires.decoded ∙ asked)
          ∙ plain_words c.args.port c.args.call whole request is,
      λ e. c.is_spelling.ensures.1
          (words_are_plain c.args.port c.args.call whole c.args.decoded.now request e).1,
    )
