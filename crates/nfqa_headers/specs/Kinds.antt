-- The kind of a message: its subsystem and its number in that subsystem, `NFNL_SUBSYS_ID` and
-- `NFNL_MSG_TYPE` (uapi linux/netfilter/nfnetlink.h).
use Rattle.std.specs.Prelude.{ℕ, ◌+◌, ◌*◌, ◌/◌, ◌%◌}
use Rattle.nfqa_headers.specs.Numbers.{queue_subsystem, subsystem_numbers}

abbrev pub subsystem_of : ℕ → ℕ
subsystem_of kind = kind / subsystem_numbers

abbrev pub number_of : ℕ → ℕ
number_of kind = kind % subsystem_numbers

abbrev pub queue_kind : ℕ → ℕ
queue_kind number = queue_subsystem * subsystem_numbers + number
