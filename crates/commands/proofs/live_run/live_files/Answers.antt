use Rattle.std.proofs.Common.{◌≤◌, ◌∙◌, length, rules, subst}
use Rattle.std.specs.Prelude.{All}
use Rattle.packet_entry.specs.Numbers.{longest_packet}
use Rattle.pcap_io.specs.Text.{IsHeld}
use Rattle.fate_ledger.specs.declared.fate.FateLine.{FateLine}
use Rattle.fate_ledger.specs.Released.{released}
use Rattle.run_files.specs.Outputs.{fates_of}
use Rattle.commands.proofs.Endings.{cut_of, none_is_refused, refused_by}
use Rattle.commands.proofs.Endings.{writing_only_leaves, written_of}
use Rattle.commands.proofs.Endings.{writing_only_reads_nothing, writing_only_refuses_nothing}
use Rattle.commands.specs.Headline.{IsAccountedOf}
use Rattle.command_line.specs.Arguments.{files_of, size_of}
use Rattle.hook_chain.specs.Rules.{RuleTables}
use Rattle.histories.specs.Journeys.{AreSound}
use Rattle.run_parts.specs.Entering.{cards}
use Rattle.commands.specs.Headline.{with_feeders}
use Rattle.commands.proofs.live_run.live_files.Given.{Over}
use Rattle.commands.proofs.live_run.live_files.Goals as goal
use Rattle.commands.proofs.live_run.live_files.Goals.{After-histories_fit}

-- the histories are sound for the rules of the file, which fan out by the command's feeders
sound : (g : Over) (c : After-histories_fit g) →
    AreSound (with_feeders c.args.command.now.size.feeders c.in_ok-made.made.tables)
    c.in_ok-made.made.script.key (cards c.in_ok-made.made.capture)
    c.in_ok-histories.histories.entries c.in_ok-histories.histories.lost
sound g c =
    subst (λ (t : RuleTables). AreSound t c.in_ok-made.made.script.key
    (cards c.in_ok-made.made.capture) c.in_ok-histories.histories.entries
    c.in_ok-histories.histories.lost)
    (c.in_ok-opened.ensures.tables ∙ c.with_feeders-fanned.ensures)
    c.in_ok-histories.ensures.sound

-- each packet is accounted for
account_of : (g : Over) (c : After-histories_fit g) →
    IsAccountedOf (size_of c.args.command.now.size) c.in_ok-made.made.tables
    c.in_ok-made.made.script c.in_ok-made.made.capture c.in_ok-histories.histories
account_of g c =
    let size = c.args.command.now.size in
    c.a_run_is_accounted_for.ensures size.workers size.feeders
    (with_feeders size.feeders c.in_ok-made.made.tables) c.in_ok-made.made.script
    c.in_ok-made.made.capture c.in_ok-histories.histories c.in_ok-histories.ensures.grouped.0
    c.in_ok-made.ensures.script c.histories_fit.ensures c.in_ok-histories.ensures.grouped.1
    (record {
      nothing_lost = c.in_ok-histories.ensures.whole;
      legal = c.in_ok-histories.ensures.legal;
      sound = sound g c;
      notes = c.in_ok-histories.ensures.made.notes;
      made = c.in_ok-histories.ensures.made.made;
      order = c.in_ok-histories.ensures.order;
    })

-- what is released can be written as a capture
can_be_written : (g : Over) (c : After-histories_fit g) →
    All (λ (l : FateLine). length l.payload ≤ longest_packet)
    (fates_of c.in_ok-made.made.capture c.in_ok-histories.histories)
    × IsHeld (released c.in_ok-made.made.capture
    (fates_of c.in_ok-made.made.capture c.in_ok-histories.histories))
can_be_written g c =
    let tables = with_feeders c.args.command.now.size.feeders c.in_ok-made.made.tables in
    let law = c.released_frames_can_be_written.ensures in (
      law.fit tables c.in_ok-made.made.script c.in_ok-made.made.capture
          c.in_ok-histories.histories c.in_ok-made.ensures.held c.in_ok-histories.ensures.short
          (sound g c),
      law.held tables c.in_ok-made.made.script c.in_ok-made.made.capture
          c.in_ok-histories.histories c.in_ok-made.ensures.held c.in_ok-histories.ensures.short
          (sound g c),
    )

pub write_run-requires-clause-payloads : goal.write_run-requires-clause-payloads
write_run-requires-clause-payloads g c =
    (can_be_written g (goal.at.write_run-requires-clause-payloads g c).After-histories_fit).0

pub write_run-requires-clause-held : goal.write_run-requires-clause-held
write_run-requires-clause-held g c =
    (can_be_written g (goal.at.write_run-requires-clause-held g c).After-histories_fit).1

pub returns-clause-ended : goal.returns-clause-ended
returns-clause-ended g c =
    let account = account_of g (goal.at.returns-clause-ended g c).After-histories_fit in
    record {
      done = written_of (IsAccountedOf (size_of c.args.command.now.size))
          (files_of c.args.command.now.files) c.write_run.result _ _
          (g.H.Host.content c.args.host.now) (g.H.Host.content c.write_run.new.host)
          c.in_ok-made.made.tables c.in_ok-made.made.script c.in_ok-made.made.capture
          c.in_ok-histories.histories (λ t. c.in_ok-made.ensures.later.tells_same ∙ t)
          c.in_ok-made.ensures.read account c.write_run.ensures.written;
      refused = writing_only_refuses_nothing _ c.write_run.result c.write_run.ensures.other;
      exact = λ i why is_i t refused.
          absurd (none_is_refused _ i (g.H.Host.content c.args.host.now) why is_i refused
          (λ same. c.in_ok-made.ensures.exact why t same));
      only = λ t taken.
          writing_only_refuses_nothing _ c.write_run.result c.write_run.ensures.other;
      kind = writing_only_refuses_nothing _ c.write_run.result c.write_run.ensures.other;
      read_fault = λ is.
          absurd (writing_only_reads_nothing c.write_run.result c.write_run.ensures.other is);
      unread = λ is.
          absurd (writing_only_reads_nothing c.write_run.result c.write_run.ensures.other is);
      write_fault = search rules;
      stopped = search rules;
      cut_short = λ is t.
          cut_of (IsAccountedOf (size_of c.args.command.now.size))
          (files_of c.args.command.now.files) (g.H.Host.write_faults c.args.host.now)
          (g.H.Host.write_faults c.read_inputs.new.host)
          (g.H.Host.write_faults c.write_run.new.host) (g.H.Host.content c.args.host.now)
          (g.H.Host.content c.read_inputs.new.host) (g.H.Host.content c.write_run.new.host)
          c.in_ok-made.made.tables c.in_ok-made.made.script c.in_ok-made.made.capture
          c.in_ok-histories.histories (c.in_ok-made.ensures.read t)
          account c.in_ok-made.ensures.later.write_faults_stay
          c.in_ok-made.ensures.files
          (c.write_run.ensures.cut_short is (c.in_ok-made.ensures.later.tells_same ∙ t));
    }

pub returns-clause-untouched : goal.returns-clause-untouched
returns-clause-untouched g c =
    writing_only_leaves _ c.write_run.result c.write_run.ensures.other
    (λ is name. c.write_run.ensures.untouched is name ∙ c.in_ok-made.ensures.files name)

pub returns-in_err-made-clause-ended : goal.returns-in_err-made-clause-ended
returns-in_err-made-clause-ended g c =
    record {
      done = search rules;
      refused = refused_by _ c.from_residual.result _ c.from_residual.ensures.1
          c.in_err-made.ensures.refused;
      exact = search rules;
      only = search rules;
      kind = refused_by _ c.from_residual.result _ c.from_residual.ensures.1
          c.in_err-made.ensures.kind;
      read_fault = search rules;
      unread = search rules;
      write_fault = search rules;
      stopped = search rules;
      cut_short = search rules;
    }
