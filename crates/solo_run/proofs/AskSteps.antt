-- What is asked for is done, one after the other.
use Rattle.std.proofs.Common.{◌≡◌, ◌∙◌, ℕ, List, [], ◌∷◌, true, sym, ap, subst}
use Rattle.script_lines.specs.declared.ask.Ask.{Ask}
use Rattle.script_lines.specs.declared.ask.Ask.TheVariants.{Words, Close}
use Rattle.packet_moves.specs.declared.setting.Setting.{Setting}
use Rattle.packet_moves.specs.World.{World}
use Rattle.solo_schedule.specs.Schedule.{is_open_port}
use Rattle.solo_schedule.specs.Sending.{all_done, done}
use Rattle.port_scripts.specs.Words.{AreWords, ClosesLast}
use Rattle.solo_run.specs.RunState.{Keeps, KeepsBut, LeavesBy}
use Rattle.solo_run.proofs.StepSequence.{keeps_both}

-- the port is open, where there is something left
abbrev pub IsOpenFor : List Ask → ℕ → World → Type 0
IsOpenFor [] port w = Unit {0}
IsOpenFor (a ∷ as_) port w = is_open_port (w.ports port) ≡ true

-- of what is asked for this is left
pub record IsDoing (then : World → World) (s : Setting) (port : ℕ) (asks : List Ask) (old : World)
    (left : List Ask) (now : World) : Type 0 where
  pub last : ClosesLast left
  pub opened : IsOpenFor left port now
  pub others : KeepsBut port old now
  pub words : AreWords asks → AreWords left × Keeps old now
  pub on : all_done then s port left now ≡ all_done then s port asks old

but_both : (port : ℕ) (u v w : World) → KeepsBut port u v → KeepsBut port v w → KeepsBut port u w
but_both port u v w first later = record {
  fed = later.fed ∙ first.fed;
  open_ports = λ p other. later.open_ports p other ∙ first.open_ports p other;
}

but_of : (port : ℕ) (old new : World) → Keeps old new → KeepsBut port old new
but_of port old new keeps = record {
  fed = keeps.fed;
  open_ports = λ p other. keeps.open_ports p;
}

still_open : (left : List Ask) (port : ℕ) (old new : World) → is_open_port (old.ports port) ≡ true →
    Keeps old new → IsOpenFor left port new
still_open [] port old new open_ keeps = tt
still_open (a ∷ left) port old new open_ keeps = keeps.open_ports port ∙ open_

nothing_left : (left : List Ask) (port : ℕ) (w : World) → left ≡ [] → IsOpenFor left port w
nothing_left [] port w none = tt
nothing_left (a ∷ left) port w none = absurd (cc)

pub does_next : (then : World → World) (s : Setting) (port : ℕ) (asks : List Ask)
    (old mid new : World)
    (ask : Ask) (left : List Ask) → IsDoing then s port asks old (ask ∷ left) mid →
    LeavesBy ask port mid new → new ≡ done then s port ask mid →
    IsDoing then s port asks old left new
does_next then s port asks old mid new (Words words) left is leaves did = record {
  last = is.last;
  opened = still_open left port mid new is.opened leaves;
  others = but_both port old mid new is.others (but_of port mid new leaves);
  words = λ all_words.
      ((is.words all_words).0, keeps_both old mid new (is.words all_words).1 leaves);
  on = ap (λ (v : World). all_done then s port left v) did ∙ is.on;
}
does_next then s port asks old mid new Close left is leaves did = record {
  last = subst (λ (l : List Ask). ClosesLast l) (sym is.last) tt;
  opened = nothing_left left port new is.last;
  others = but_both port old mid new is.others leaves;
  words = λ all_words. absurd (is.words all_words).0;
  on = ap (λ (v : World). all_done then s port left v) did ∙ is.on;
}
