-- A run with two feeders, written out: what each has seen at a place, their joined pass, and what
-- becomes of it.
use Rattle.std.specs.Prelude.{ℕ, List, [], ◌∷◌, ◌==◌, if◌then◌else◌}
use Rattle.histories.specs.declared.entry.Entry.{Entry}
use Rattle.histories.specs.declared.histories.Histories.{Histories}
use Rattle.script_lines.specs.declared.line.Down.{Down}
use Rattle.run_parts.specs.FedExamples.{arrives, binds, down_5, falls}
use Rattle.live_runs.specs.ByHand.{histories_with, passes_with}
use Rattle.live_runs.specs.Passes.{Pass}
use Rattle.live_runs.specs.Seen.{Seen, Ours, Theirs}

-- Before they start, port 7 has bound queue 3.
abbrev pub front : List Seen
front = Theirs binds ∷ []

-- Feeder 0 feeds frame 1, and then lets device 5 go down; in between feeder 1 feeds frame 2.
abbrev pub seen_by_0 : List Seen
seen_by_0 = Theirs binds ∷ Ours (arrives 1) ∷ Theirs (arrives 2) ∷ Ours (falls 5) ∷ []

abbrev pub seen_by_1 : List Seen
seen_by_1 = Theirs binds ∷ Theirs (arrives 1) ∷ Ours (arrives 2) ∷ []

abbrev pub seen_by_both : List Seen
seen_by_both = Theirs binds ∷ Ours (arrives 1) ∷ Ours (arrives 2) ∷ Ours (falls 5) ∷ []

-- the lines of each
abbrev pub fallen : ℕ → List Down
fallen feeder = if feeder == 0 then down_5 else []

-- ---- a whole run, which port 7 ends

abbrev pub fed_by_both : List Entry
fed_by_both = arrives 1 ∷ arrives 2 ∷ falls 5 ∷ []

abbrev pub passes : ℕ → Pass
passes = passes_with fed_by_both

abbrev pub histories : Histories
histories = histories_with fed_by_both
