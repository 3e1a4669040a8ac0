use Rattle.std.proofs.Common.{◌≡◌, ℕ, List, ap, ap₂, subst, sym, ◌∙◌}
use Rattle.std.proofs.lemmas.Option.{same_Some}
use Rattle.netlink_codec.specs.Messages.{FitsHeader, message_text, message_with}
use Rattle.nfqa_headers.specs.Kinds.{queue_kind}
use Rattle.nfqa_msgs.specs.declared.request.Request.{Request}
use Rattle.nfqa_msgs.specs.RequestWriting.{flags_for, number_for, request_body, spelling}
use Rattle.nfqa_msgs.proofs.RequestRoundTrip.{spelled-fits}
use Rattle.nfqa_msgs.proofs.request_spelling.is_spelling.Goals as goal

-- a message that is the spelling, with the kind and the flags as they are computed
module _ (bytes : List ℕ) (port call : ℕ) (request : Request) where
  abbrev Stands : ℕ → ℕ → Type 0
  Stands kind flags =
      FitsHeader (message_with kind flags call port (request_body request))
      × (bytes ≡ message_text kind flags call port (request_body request))

  stands : (kind flags : ℕ) → kind ≡ queue_kind (number_for request) →
      flags ≡ flags_for request →
      Stands (queue_kind (number_for request)) (flags_for request) → Stands kind flags
  stands kind flags k f it =
      subst (λ (n : ℕ). Stands n flags) (sym k)
      (subst (λ (n : ℕ). Stands (queue_kind (number_for request)) n) (sym f) it)

pub returns-in-None : goal.returns-in-None
unfolding spelling
returns-in-None c = (
  λ no. absurd cc,
  λ is.
      let request : Request = c.args.request.now in
      let fits =
      spelled-fits c.written_attributes_are_walked.ensures.size c.args.port c.args.call request
      c.ranges.port.fits c.ranges.call.fits c.numbers_fit.ensures in
      let it =
      stands c.args.bytes.now c.args.port c.args.call request _ _ c.kind_of.ensures
      c.flags_of.ensures (fits, is) in
      absurd (let some = c.in-None.ensures.only (request_body request) it.0 it.1 in cc),
)

pub returns-in-Some : goal.returns-in-Some
unfolding spelling
returns-in-Some c =
    let request : Request = c.args.request.now in
    let body : List ℕ = c.in-Some.body.now in (
      λ yes. c.in-Some.ensures.found
          ∙ ap₂ (λ (k f : ℕ). message_text k f c.args.call c.args.port body) c.kind_of.ensures
          c.flags_of.ensures
          ∙ ap (message_text (queue_kind (number_for request)) (flags_for request) c.args.call
          c.args.port) (c.is_body_of.ensures.0 yes),
      λ is.
          let fits =
          spelled-fits c.written_attributes_are_walked.ensures.size c.args.port c.args.call request
          c.ranges.port.fits c.ranges.call.fits c.numbers_fit.ensures in
          let it =
          stands c.args.bytes.now c.args.port c.args.call request _ _ c.kind_of.ensures
          c.flags_of.ensures (fits, is) in
          c.is_body_of.ensures.1
          (same_Some body (request_body request)
          (c.in-Some.ensures.only (request_body request) it.0 it.1)),
    )
