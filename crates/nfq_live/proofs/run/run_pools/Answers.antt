use Rattle.std.proofs.Common.{◌≡◌, ◌<◌, ◌≤◌, ◌++◌, ℕ, refl, rules, subst}
use Rattle.std.specs.Prelude.{All}
use Rattle.histories.specs.declared.entry.Entry.{Entry}
use Rattle.histories.specs.Numbers.{queue_count}
use Rattle.run_parts.specs.Entering.{cards}
use Rattle.place_rows.specs.Lists.{flat}
use Rattle.plane.specs.Closings.{IsClosed}
use Rattle.plane.specs.Planes.{places_of}
use Rattle.plane.specs.Remaining.{times_in}
use Rattle.live_runs.specs.ClosedPlanes.{IsClosedPlane}
use Rattle.nfq_live.specs.Crews.{passes_of}
use Rattle.nfq_live.specs.Run.{setting_for, tables_of}
use Rattle.nfq_live.specs.Sizes.{size_of}
use Rattle.live_work.proofs.UnchangedPass.{some_place}
use Rattle.nfq_live.proofs.WholeRun.{closed_by, closed_run, live_run, no_zero, none_opened}
use Rattle.nfq_live.proofs.WholeRun.{once_each, opened_crew}
use Rattle.nfq_live.proofs.WholeRun.{short_for, sound_for}
use Rattle.nfq_live.proofs.run.run_pools.Goals as goal
use Rattle.nfq_live.proofs.run.run_pools.Given.{Over}
use Rattle.nfq_live.proofs.run.run_pools.Goals.{In_ok-histories}

-- the plane was closed with the crew's passes
closed : (g : Over) (c : In_ok-histories g) →
    IsClosed c.args.opened.plane c.go-outcome.new.crew.feeding.pass
    (c.go-outcome.new.crew.ports.items ++ c.go-outcome.new.crew.closed.items)
    c.in_ok-histories.histories
closed g c =
    let crew = c.go-outcome.new.crew in
    let are_open : c.from_vec-ports.result ≡ crew.ports.items = search rules in
    let are_shut : c.from_vec.result ≡ crew.closed.items = search rules in
    closed_by c.args.opened.plane crew.feeding.pass c.from_vec-ports.result crew.ports.items
    c.from_vec.result crew.closed.items c.in_ok-histories.histories are_open are_shut
    c.in_ok-histories.ensures.closed

-- so all that its passes did is there
whole : (g : Over) (c : In_ok-histories g) →
    All (λ (e : Entry). e.queue < queue_count) c.in_ok-histories.histories.entries →
    IsClosedPlane c.args.script.now.ports c.args.script.now.mail (places_of c.args.opened.plane)
    (passes_of c.go-outcome.new.crew) c.in_ok-histories.histories
whole g c short =
    let script = c.args.script.now in
    closed_run c.a_closed_plane_has_all_that_its_passes_did.ensures c.args.opened.plane script
    (setting_for script (tables_of c.args.opened)) c.go-outcome.new.crew
    c.in_ok-histories.histories c.requires.opened.order_is c.requires.opened.setting refl
    c.go-outcome.ensures.crew (closed g c) short

pub go-outcome-requires-clause-crew : goal.go-outcome-requires-clause-crew
go-outcome-requires-clause-crew g c κs within =
    opened_crew c.args.script.now (setting_for c.args.script.now (tables_of c.args.opened))
    c.args.opened.plane c.args.opened.feeder c.args.opened.ports c.args.opened.gauge
    c.requires.opened c.opened_passes_are_new.ensures.all _ _
    (no_zero c.args.script.now.ports c.ports-ports.ensures.facts.port_numbers) refl refl
    (record {
      feeding_is = refl;
      ports_are = c.into_vec.ensures;
      closed_are = c.new-2.ensures.items;
    })

pub go-outcome-requires-clause-order : goal.go-outcome-requires-clause-order
go-outcome-requires-clause-order g c κs within = c.requires.opened.order_is

pub go-outcome-requires-clause-none : goal.go-outcome-requires-clause-none
go-outcome-requires-clause-none g c κs within =
    none_opened c.args.script.now (setting_for c.args.script.now (tables_of c.args.opened))
    c.args.opened.plane c.args.opened.feeder c.args.opened.ports c.args.opened.gauge
    c.requires.opened c.opened_passes_are_new.ensures.new
    c.ports_open_one_after_the_other.ensures.none c.the_feeder_keeps_its_time.ensures.begins _ _
    refl
    (record {
      feeding_is = refl;
      ports_are = c.into_vec.ensures;
      closed_are = c.new-2.ensures.items;
    })

pub close-histories-requires-clause-apart : goal.close-histories-requires-clause-apart
close-histories-requires-clause-apart g c =
    let crew = c.go-outcome.new.crew in
    let are_open : crew.ports.items ≡ c.from_vec-ports.result = search rules in
    let are_shut : crew.closed.items ≡ c.from_vec.result = search rules in
    subst (λ ports. (port : ℕ) → times_in port (ports ++ c.from_vec.result) ≤ 1) are_open
    (subst (λ closed. (port : ℕ) → times_in port (crew.ports.items ++ closed) ≤ 1) are_shut
    (once_each c.args.opened.plane crew.feeding.pass crew.ports.items crew.closed.items
    c.go-outcome.ensures.crew.all))

pub returns-clause-made : goal.returns-clause-made
returns-clause-made g c =
    let plane = c.args.opened.plane in
    live_run c.nothing_is_sent_to_a_closed_port.ensures.at_last
    c.a_run_with_threads_is_made_by_its_script.ensures.made_by_all c.args.pool c.args.feeders
    c.args.script.now (places_of plane) c.args.capture.now c.go-outcome.new.crew
    c.in_ok-histories.histories (some_place plane) c.in_ok-outcome.ensures.ended
    c.in_ok-outcome.ensures.received
    (whole g (goal.at.returns-clause-made g c).In_ok-histories c.queues_are_short.ensures)

pub returns-clause-sound : goal.returns-clause-sound
returns-clause-sound g c =
    let crew = c.go-outcome.new.crew in
    sound_for c.args.opened.plane (setting_for c.args.script.now (tables_of c.args.opened))
    crew.feeding.pass (crew.ports.items ++ crew.closed.items) c.in_ok-histories.histories
    (cards c.args.capture.now) (closed g (goal.at.returns-clause-sound g c).In_ok-histories)
    c.requires.opened.setting c.in_ok-outcome.ensures.fed

pub returns-clause-short : goal.returns-clause-short
returns-clause-short g c =
    let plane = c.args.opened.plane in
    short_for c.a_run_with_threads_is_made_by_its_script.ensures.short c.args.script.now
    (places_of plane) (size_of c.args.pool c.args.feeders c.args.capture.now)
    c.go-outcome.new.crew c.in_ok-histories.histories (some_place plane)
    c.in_ok-outcome.ensures.ended
    (whole g (goal.at.returns-clause-short g c).In_ok-histories c.queues_are_short.ensures)

pub returns-clause-grouped : goal.returns-clause-grouped
returns-clause-grouped g c =
    let is = closed g (goal.at.returns-clause-grouped g c).In_ok-histories in
    (flat is.entries.lists, is.entries.grouped)
