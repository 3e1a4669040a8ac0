-- A place's totals as one word.
use Rattle.std.specs.Prelude.{ℕ, ◌+◌, ◌*◌, ◌/◌, ◌%◌, ◌<◌}
use Rattle.glance.specs.declared.totals.Totals.{Totals}
use Rattle.glance.specs.Numbers.{waiting_span, events_span}

-- the word that stands for totals
abbrev pub word_of : Totals → ℕ
word_of t = t.events * waiting_span + t.waiting

-- the totals that a word stands for
abbrev pub totals_of : ℕ → Totals
totals_of n = record { events = n / waiting_span; waiting = n % waiting_span }

-- they stand in one word of 64 bits
pub record FitOneWord (t : Totals) : Type 0 where
  pub events : t.events < events_span
  pub waiting : t.waiting < waiting_span
