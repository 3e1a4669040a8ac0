-- Steps one after the other.
use Rattle.std.proofs.Common.{◌∙◌, ℕ}
use Rattle.std.specs.Prelude.{Result, Ok, Err, OnOk}
use Rattle.packet_moves.specs.World.{World}
use Rattle.solo_run.specs.RunState.{AreOpen, IsWith, Keeps, SameOpen, port_at}
use Rattle.inspector_script.specs.Scripts.{ScriptValue}
use Rattle.solo_run.specs.declared.run.Run.{Run}

pub with_both : (a b c : Run) → IsWith a b → IsWith b c → IsWith a c
with_both a b c first later = record {
  setting = later.setting ∙ first.setting;
  order = later.order ∙ first.order;
}

pub keeps_both : (u v w : World) → Keeps u v → Keeps v w → Keeps u w
keeps_both u v w first later = record {
  fed = later.fed ∙ first.fed;
  open_ports = λ p. later.open_ports p ∙ first.open_ports p;
}

pub same_both : (u v w : World) → SameOpen u v → SameOpen v w → SameOpen u w
same_both u v w first later p = later p ∙ first p

pub are_open_on : (script : ScriptValue) (old new : World) (from : ℕ) → AreOpen script old from →
    SameOpen old new → AreOpen script new from
are_open_on script old new from are same place later within =
    same (port_at script place) ∙ are place later within

pub on_ok : {X E : Type 0} (r : Result X E) (P Q : Type 0) → (P → Q) → OnOk r P → OnOk r Q
on_ok (Ok x) P Q then is = then is
on_ok (Err e) P Q then is = tt
