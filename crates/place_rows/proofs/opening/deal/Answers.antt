use Rattle.std.proofs.Common.{◌≡◌, ◌≤◌, rules, ap, ◌∙◌, arith, subst, ◌+◌}
use Rattle.std.specs.Prelude.{slice_set}
use Rattle.mailbox.specs.Views.{SenderView, child_sender, opening_sender}
use Rattle.place_rows.specs.Opening.{IsGiven, AreDealt}
use Rattle.place_rows.proofs.Results.{on_ok}
use Rattle.place_rows.proofs.NewPlaces.{one_dealt, all_dealt, made_other}
use Rattle.place_rows.proofs.opening.deal.Goals as goal

pub split-requires-clause-mailbox : goal.split-requires-clause-mailbox
split-requires-clause-mailbox c =
    ap (λ (s : SenderView). s.mailbox) c.loop-place.invariant.first

pub split-requires-clause-first : goal.split-requires-clause-first
split-requires-clause-first c = ap (λ (s : SenderView). s.number) c.loop-place.invariant.first

pub split-requires-clause-most : goal.split-requires-clause-most
split-requires-clause-most c =
    let less : c.loop-place.place ≤ 64 = search rules in
    omega (arith, less, ap (λ (s : SenderView). s.made) c.loop-place.invariant.first)

pub loop-place-preserved : goal.loop-place-preserved
loop-place-preserved c =
    let inv = c.loop-place.invariant in
    let n = c.loop-place.place in
    let was = inv.first in
    record {
      first = c.in-Ok.ensures.old ∙ ap (λ (s : SenderView). record s { made = s.made + 1 }) was;
      least = omega arith;
      dealt = one_dealt c.args.places c.args.port c.args.mailbox.now c.args.senders.now.items
          c.loop-place.senders.items n c.index_mut.result.now c.give.new.senders inv.dealt
          inv.least (search rules) c.index_mut.ensures.value
          (subst (λ (s : SenderView). IsGiven c.args.port s c.index_mut.result.now
          c.give.new.senders)
          (c.in-Ok.ensures.made ∙ ap (λ (s : SenderView). child_sender s) was
          ∙ made_other c.args.places n c.args.mailbox.now inv.least)
          c.in_ok-give.ensures.given);
    }

pub returns : goal.returns
returns c =
    let inv = c.loop-place.invariant in
    let n : c.loop-place.place ≡ c.args.places = search rules in
    record {
      dealt = on_ok c.give-2.result
          (IsGiven c.args.port c.loop-place.first c.index_mut-2.result.now c.give-2.new.senders)
          (AreDealt c.args.places c.args.port c.args.mailbox.now c.args.senders.now.items
          (slice_set c.loop-place.senders.items 0 c.give-2.new.senders))
          c.give-2.ensures.given
          (λ given. all_dealt c.args.places c.args.port c.loop-place.place c.args.mailbox.now
          c.args.senders.now.items c.loop-place.senders.items c.index_mut-2.result.now
          c.give-2.new.senders inv.dealt (omega (arith, n, c.requires.senders))
          (omega (arith, inv.dealt.as_many, c.requires.senders, c.requires.places.0))
          c.index_mut-2.ensures.value
          (subst (λ (s : SenderView). IsGiven c.args.port s c.index_mut-2.result.now
          c.give-2.new.senders)
          (inv.first ∙ ap (λ m. record (opening_sender c.args.mailbox.now) { made = m }) n) given));
    }
