-- What the texts of the rules file and of the script say.
use Rattle.std.specs.Prelude.{ℕ, false, List, [], ◌∷◌, map, Some, None}
use Rattle.nfqa_msgs.specs.Numbers.{command_bind, copy_packet}
use Rattle.hook_chain.specs.Numbers.{udp}
use Rattle.hook_chain.specs.declared.rule.Rule.{Rule}
use Rattle.hook_chain.specs.Rules.{RuleTables, with_one_feeder}
use Rattle.hook_chain.specs.declared.rule.Pick.TheVariants.{Balance}
use Rattle.queue_core.specs.Numbers.{verdict_accept, verdict_drop}
use Rattle.histories.specs.declared.log.AskWords.{AskWords}
use Rattle.histories.specs.declared.log.AskWords.TheVariants.{Plain}
use Rattle.script_lines.specs.declared.answering.OnLine.{OnLine}
use Rattle.script_lines.specs.declared.condition.Condition.{Condition}
use Rattle.script_lines.specs.declared.condition.Condition.TheVariants.{Any, Protocol}
use Rattle.script_lines.specs.declared.template.OrThis.TheVariants.{This}
use Rattle.script_lines.specs.declared.template.Settings.{Settings}
use Rattle.script_lines.specs.declared.template.Template.{Template}
use Rattle.script_lines.specs.declared.template.Template.TheVariants.{Verdict}
use Rattle.script_lines.specs.Asking.{request_of}
use Rattle.inspector_script.specs.declared.block.Block.{Block}
use Rattle.inspector_script.specs.Numbers.{default_mail, default_pace}
use Rattle.inspector_script.specs.Scripts.{ScriptValue, held}
use Rattle.generated.specs.Numbers.{copy_range, flow_key}
use Rattle.generated.specs.Texts.{even_queue, odd_queue, port_of}

-- ---- the rules file

-- every packet matches, and goes to one of eight queues from 0 on
abbrev pub rule : Rule
rule = record { protocol = None; mark = None; pick = Balance 0 8; bypass = false; fanout = false }

-- one table of this one rule
abbrev pub tables : RuleTables
tables = with_one_feeder ((rule ∷ []) ∷ [])

-- ---- the script

-- a queue is bound, and its notices have so many bytes of a packet at most
abbrev pub settings : Settings
settings = record {
  command = Some command_bind;
  params = Some (record { range = copy_range; mode = copy_packet });
  maxlen = None;
  flags = None;
  mask = None;
}

-- to bind this queue
abbrev pub binding : ℕ → AskWords
binding queue = Plain (request_of queue settings)

-- a verdict on the notice's packet
abbrev pub judged : ℕ → Template
judged verdict =
    Verdict (record {
      queue = This;
      verdict = verdict;
      id = This;
      mark = None;
      priority = None;
    }) None

-- a line that answers with this verdict where a condition holds
abbrev pub judging : Condition → ℕ → OnLine
judging condition verdict = record {
  conditions = condition ∷ [];
  asks = judged verdict ∷ [];
}

-- block k: the port binds its queues, drops UDP and accepts all else
abbrev pub block_of : ℕ → Block
block_of k = record {
  opening = binding (even_queue k) ∷ binding (odd_queue k) ∷ [];
  lines = judging (Protocol udp) verdict_drop ∷ judging Any verdict_accept ∷ [];
  closing = [];
  closes = false;
}

-- the places of the blocks
abbrev pub places : List ℕ
places = 0 ∷ 1 ∷ 2 ∷ 3 ∷ []

abbrev pub script : ScriptValue
script = held default_mail default_pace flow_key [] (map port_of places) (map block_of places)
