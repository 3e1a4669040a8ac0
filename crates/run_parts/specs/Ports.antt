-- The ports of a script, and their logs.
use Rattle.std.specs.Prelude.{◌≡◌, ◌+◌, true, false}
use Rattle.std.specs.Prelude.{ℕ, suc, Bool, List, [], ◌∷◌, nat_eq, ◌==◌, if◌then◌else◌}
use Rattle.std.specs.Prelude.{Option, Some, None}
use Rattle.std.specs.List.{list_any}
use Rattle.histories.specs.declared.log.Did.{Did}
use Rattle.histories.specs.declared.log.PortLog.{PortLog}
use Rattle.inspector_script.specs.Scripts.{ScriptValue}

-- whether this is the number of one of the script's ports
abbrev pub is_port : ScriptValue → ℕ → Bool
is_port script port = list_any (nat_eq port) script.ports

-- where a port stands among the script's ports
abbrev pub place_in : ℕ → List ℕ → ℕ
place_in p [] = 0
place_in p (q ∷ qs) = if p == q then 0 else suc (place_in p qs)

-- no port is one of those behind it
abbrev pub AreApart : List ℕ → Type 0
AreApart [] = Unit {0}
AreApart (p ∷ ps) = (list_any (nat_eq p) ps ≡ false) × AreApart ps

-- these ports are the script's, and stand one behind the other from this place on, as `f` says it
abbrev pub ArePlaced : ScriptValue → (ℕ → ℕ) → ℕ → List ℕ → Type 0
ArePlaced script f place [] = Unit {0}
ArePlaced script f place (p ∷ ps) =
    (f p ≡ place) × (is_port script p ≡ true) × ArePlaced script f (place + 1) ps

-- each port of a script has a place of its own
pub record HavePlaces (script : ScriptValue) : Type 0 where
  pub apart : AreApart script.ports
  pub placed : ArePlaced script (λ p. place_in p script.ports) 0 script.ports

-- what a port's log says, which is the first with its number; nothing, where it has none
abbrev pub log_of : ℕ → List PortLog → Option (List Did)
log_of port [] = None
log_of port (l ∷ ls) = if port == l.port then Some l.dids else log_of port ls
