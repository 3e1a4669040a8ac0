use Rattle.std.proofs.Common.{◌≡◌, ◌+◌, ◌++◌, List, ap, arith, false, length, subst, sym, true}
use Rattle.std.specs.Prelude.{All, drop, take}
use Rattle.std.specs.List.{AllZip}
use Rattle.live_work.specs.declared.feeding.Feeding.{Feeding}
use Rattle.live_work.specs.Feeding.{shares_in}
use Rattle.live_work.proofs.SentAsks.{went_well}
use Rattle.nfq_live.specs.declared.workers.Inspector.{Inspector}
use Rattle.nfq_live.specs.Feeders.{AllFeed, IsFresh}
use Rattle.nfq_live.specs.Workers.{IsInspected}
use Rattle.nfq_live.proofs.JoinedShares.{have_all_fed}
use Rattle.nfq_live.proofs.WorkerSeats.{all_zip, lent_back, none_inspected}
use Rattle.nfq_live.proofs.FeederParts.{all_feed, all_fresh, as_many_fed, each_well, fed_of}
use Rattle.nfq_live.proofs.FeederParts.{has_again}
use Rattle.nfq_live.proofs.FeederParts.{helpers_of, neither, parts_fed}
use Rattle.nfq_live.proofs.setup.Run.split_and_work.Goals as goal

pub join_all-well-requires-clause-helpers : goal.join_all-well-requires-clause-helpers
join_all-well-requires-clause-helpers g c =
    helpers_of c.args.self.now.stage.plane.now (shares_in c.args.feeding.now.pass)
    c.split_all-split.new.helpers.items c.split_all-split.ensures.helpers

pub returns-then-is_err-clause-fed : goal.returns-then-is_err-clause-fed
returns-then-is_err-clause-fed g c = record {
  stays = has_again c.args.self.now.stage.plane.now c.args.feeding.now.pass
      c.split_all-split.new.pass c.join_all-well.new.pass c.split_all-split.new.helpers.items
      c.requires.pass c.join_all-well.ensures.pass c.split_all-split.ensures.parts
      c.join_all-well.ensures.parts;
  looks = record { looks = c.requires.looks.looks };
  on = λ well. let wrong : true ≡ false = well in absurd (cc wrong);
}

pub returns-then-is_err-clause-each : goal.returns-then-is_err-clause-each
returns-then-is_err-clause-each g c =
    none_inspected c.what_a_port_does_adds_up.ensures.no_look c.args.self.now.pool.workers
    c.args.self.now.stage.script.now c.args.self.now.stage.plane.now c.args.seats.now.items
    c.requires.seated

pub work_beside-requires-clause-few : goal.work_beside-requires-clause-few
work_beside-requires-clause-few g c κs within =
    let count : length c.split_all-split.new.helpers.items + 1 ≡ c.args.self.now.feeders =
    went_well c.split_all-split.result _
    (length c.split_all-split.new.helpers.items + 1 ≡ c.args.self.now.feeders)
    c.is_err.ensures.value c.if-is_err.false c.split_all-split.ensures.count in
    let same = ap (λ (l : List Feeding). length l) c.as_mut_slice-others.ensures.value in
    omega (arith, count, same)

pub work_beside-requires-clause-helpers : goal.work_beside-requires-clause-helpers
work_beside-requires-clause-helpers g c κs within =
    subst (λ (l : List Feeding). All (λ (h : Feeding). IsFresh c.args.self.now.stage.plane.now h) l)
    (sym c.as_mut_slice-others.ensures.value)
    (all_fresh c.args.self.now.stage.plane.now (shares_in c.args.feeding.now.pass)
    c.split_all-split.new.helpers.items c.split_all-split.ensures.helpers)

pub join_all-well-requires-2-clause-helpers : goal.join_all-well-requires-2-clause-helpers
join_all-well-requires-2-clause-helpers g c =
    let run = c.args.self.now in
    let script = run.stage.script.now in
    let plane = run.stage.plane.now in
    let n = c.split_all-split.new.helpers.len in
    let olds = c.split_all-split.new.helpers.items in
    let lent = c.as_mut_slice-others in
    let back = c.work_beside.new.helpers in
    let same = ap (λ (l : List Feeding). length l) lent.ensures.value in
    fed_of script run.capture.now plane run.feeders 1 olds
    (take n (back ++ drop (length back) olds))
    (lent_back (AllFeed script run.capture.now plane run.feeders 1) n lent.result.now olds back
    lent.ensures.value (omega (arith, same, lent.ensures.len))
    (omega (arith, same, lent.ensures.len, c.work_beside.ensures.count))
    (all_feed script run.capture.now plane run.feeders 1 lent.result.now back
    c.work_beside.ensures.count c.work_beside.ensures.all))

pub returns-clause-each : goal.returns-clause-each
returns-clause-each g c =
    let run = c.args.self.now in
    let lent = c.as_mut_slice-inspectors in
    let same = ap (λ (l : List Inspector). length l) lent.ensures.value in
    lent_back
    (AllZip (IsInspected run.pool.workers run.stage.script.now run.stage.plane.now))
    c.args.seats.now.len lent.result.now c.args.seats.now.items c.work_beside.new.inspectors
    lent.ensures.value (omega (arith, same, lent.ensures.len))
    (omega (arith, same, lent.ensures.len, c.work_beside.ensures.len))
    (all_zip (IsInspected run.pool.workers run.stage.script.now run.stage.plane.now)
    lent.result.now c.work_beside.new.inspectors c.work_beside.ensures.len
    c.work_beside.ensures.each)

pub returns-clause-fed : goal.returns-clause-fed
returns-clause-fed g c =
    let run = c.args.self.now in
    let script = run.stage.script.now in
    let capture = run.capture.now in
    let plane = run.stage.plane.now in
    let feeders = run.feeders in
    let alone = c.args.feeding.now.pass in
    let split = c.split_all-split.new.pass in
    let n = c.split_all-split.new.helpers.len in
    let olds = c.split_all-split.new.helpers.items in
    let lent = c.as_mut_slice-others in
    let back = c.work_beside.new.helpers in
    let same = ap (λ (l : List Feeding). length l) lent.ensures.value in
    let worked = c.work_beside.new.feeding in
    let news = take n (back ++ drop (length back) olds) in
    let new = c.join_all-well-2.new.pass in
    let fed = c.work_beside.ensures.fed in
    let count : length olds + 1 ≡ feeders =
    went_well c.split_all-split.result _ (length olds + 1 ≡ feeders)
    c.is_err.ensures.value c.if-is_err.false c.split_all-split.ensures.count in
    let all : AllFeed script capture plane feeders 1 olds news =
    lent_back (AllFeed script capture plane feeders 1) n lent.result.now olds back
    lent.ensures.value (omega (arith, same, lent.ensures.len))
    (omega (arith, same, lent.ensures.len, c.work_beside.ensures.count))
    (all_feed script capture plane feeders 1 lent.result.now back c.work_beside.ensures.count
    c.work_beside.ensures.all) in
    record {
      stays = has_again plane alone worked.pass new news c.requires.pass
          c.join_all-well-2.ensures.pass
          (parts_fed script capture plane feeders split worked.pass alone olds news fed.stays all
          c.split_all-split.ensures.parts)
          c.join_all-well-2.ensures.parts;
      looks = record { looks = fed.looks.looks };
      on = λ well.
          let both = neither worked.failed c.join_all-well-2.result well in
          have_all_fed (record {
            one = c.joined_feeders_fed_the_place.ensures.one;
            more = c.joined_feeders_fed_the_place.ensures.more;
            all = c.joined_feeders_fed_the_place.ensures.all;
            append = c.joined_feeders_append_what_both_do.ensures;
          }) script capture plane feeders alone split worked.pass new olds news
          (omega (arith, count)) count
          (as_many_fed script capture plane feeders 1 olds news all)
          c.split_all-split.ensures.seen (fed.on both.0) (fed.fed both.0)
          c.split_all-split.ensures.helpers all
          (each_well news (c.join_all-well-2.ensures.went_well both.1))
          c.join_all-well-2.ensures.joined c.join_all-well-2.ensures.fed;
    }
