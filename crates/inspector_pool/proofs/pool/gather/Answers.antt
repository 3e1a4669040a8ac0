use Rattle.std.proofs.Common.{rules, sym, ◌∙◌, refl, subst, ◌≡◌, ◌++◌, ◌∷◌, []}
use Rattle.std.proofs.Common.{All}
use Rattle.script_lines.specs.Limits.{IsAsk}
use Rattle.inspector_pool.specs.Answers.{HasEachJobOnce, HasNoOther}
use Rattle.inspector_pool.specs.Work.{jobs_in}
use Rattle.inspector_pool.proofs.Steps.{merges}
use Rattle.inspector_pool.proofs.Trays.{gather_starts, gather_goes, gathered, took_if}
use Rattle.inspector_pool.proofs.Trays.{first_worked, each_once, no_other}
use Rattle.inspector_pool.proofs.pool.gather.Goals as goal

pub loop-worker-init : goal.loop-worker-init
loop-worker-init g c =
    let s = gather_starts _ c.args.assignment.now _ _ c.in_ok-tray.tray.items _ _ (search rules)
    (search rules) c.requires.parts c.requires.some c.requires.put c.requires.none
    (c.in_ok-tray.ensures.length ∙ c.len.ensures) c.in_ok-tray.ensures.fit c.requires.worked in
    (refl, c.requires.fifo, s.0, s.1, s.2, s.3, s.4, s.5, s.6)

pub absorb-requires-clause-rule : goal.absorb-requires-clause-rule
absorb-requires-clause-rule g c = merges _ _ _ _ c.loop-worker.invariant.3

pub loop-worker-preserved : goal.loop-worker-preserved
loop-worker-preserved g c =
    let i = c.loop-worker.invariant in
    let w = first_worked _ _ c.in-Some.worker _ _ c.in-Some.ensures.steps.0 i.8 in
    let t = took_if _ _ c.in-Some.worker _ c.in_ok-outcome.was w in
    let s = gather_goes _ _ _ _ _ _ _ _ _ _ c.in-Some.worker _ _ c.in-Some.ensures.steps.0 t.0 t.1
    c.absorb.ensures.rule c.in_ok-share.ensures.placed c.in_ok-share.ensures.share
    (search rules) (i.2, i.3, i.4, i.5, i.6, i.7, i.8) in (
      c.absorb.ensures.same.0.0 ∙ i.0,
      c.absorb.ensures.same.0.1 ∙ i.1,
      s.0,
      s.1,
      s.2,
      s.3,
      s.4,
      s.5,
      s.6,
    )

pub returns-clause-answers : goal.returns-clause-answers
returns-clause-answers g c =
    let i = c.loop-worker.invariant in
    let r = gathered c.args.assignment.now c.loop-worker.shares.items _ _ _ _ _ i.5 i.7
    c.in_ok-rest.ensures.each c.in_ok-rest.ensures.once c.in_ok-share-2.ensures.share
    c.in_ok-share-2.ensures.placed in
    let e : c.from_vec.result ≡ c.put-2.new.tray.items = search rules in e ∙ r.0

pub returns-clause-fit : goal.returns-clause-fit
returns-clause-fit g c =
    let i = c.loop-worker.invariant in
    let r = gathered c.args.assignment.now c.loop-worker.shares.items _ _ _ _ _ i.5 i.7
    c.in_ok-rest.ensures.each c.in_ok-rest.ensures.once c.in_ok-share-2.ensures.share
    c.in_ok-share-2.ensures.placed in
    let e : c.from_vec.result ≡ c.put-2.new.tray.items = search rules in
    subst (All (All IsAsk)) (sym e) r.1

pub returns-clause-once : goal.returns-clause-once
returns-clause-once g c =
    let i = c.loop-worker.invariant in
    let r = gathered c.args.assignment.now c.loop-worker.shares.items _ _ _ _ _ i.5 i.7
    c.in_ok-rest.ensures.each c.in_ok-rest.ensures.once c.in_ok-share-2.ensures.share
    c.in_ok-share-2.ensures.placed in
    let e : c.from_vec-2.result ≡ c.loop-worker.shares.items ++ c.in_ok-share-2.share ∷ [] =
    search rules in
    subst (HasEachJobOnce (jobs_in c.args.assignment.now)) (sym e)
    (each_once _ (c.loop-worker.shares.items ++ c.in_ok-share-2.share ∷ []) r.2)

pub returns-clause-no_other : goal.returns-clause-no_other
returns-clause-no_other g c =
    let i = c.loop-worker.invariant in
    let r = gathered c.args.assignment.now c.loop-worker.shares.items _ _ _ _ _ i.5 i.7
    c.in_ok-rest.ensures.each c.in_ok-rest.ensures.once c.in_ok-share-2.ensures.share
    c.in_ok-share-2.ensures.placed in
    let e : c.from_vec-2.result ≡ c.loop-worker.shares.items ++ c.in_ok-share-2.share ∷ [] =
    search rules in
    subst (HasNoOther (jobs_in c.args.assignment.now)) (sym e)
    (no_other _ (c.loop-worker.shares.items ++ c.in_ok-share-2.share ∷ []) r.2)
