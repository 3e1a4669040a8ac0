-- The state of a queue.
use Rattle.std.specs.Prelude.{ℕ, ◌||◌, List, [], Option, Some, None, Bool, ◌==◌, bit_and, bit_or}
use Rattle.std.specs.Prelude.{unwrap_or, if◌then◌else◌}
use Rattle.packet_entry.specs.declared.packet.Card.{Card}
use Rattle.queue_core.specs.declared.settings.Settings.{Settings}
use Rattle.nfqa_headers.specs.declared.params.Params.{Params}
use Rattle.nfqa_msgs.specs.Numbers.{copy_none, copy_meta, copy_packet, longest_range}
use Rattle.nfqa_msgs.specs.Numbers.{flag_fail_open}
use Rattle.queue_core.specs.Numbers.{default_maximum}
use Rattle.std.specs.Int.{bit_not, w32}
use Rattle.queue_core.specs.Range.{range_of}

-- a bound queue (struct nfqnl_instance)
pub record Bound : Type 0 where
  -- the port that it is bound to
  pub port : ℕ
  -- the copy mode, and the copy range under PACKET
  pub mode : ℕ
  pub range : ℕ
  -- how many packets may wait
  pub maximum : ℕ
  pub flags : ℕ
  -- the id that was used last
  pub last : ℕ
  -- how many were destroyed because too many waited, and because the port's mailbox was full
  pub dropped : ℕ
  pub user_dropped : ℕ
  -- what waits, oldest first, each under its id
  pub waiting : List (ℕ × Card)

-- the queue of a port with these settings, counts and waiting packets
abbrev pub bound_with : ℕ → Settings → ℕ → ℕ → ℕ → List (ℕ × Card) → Bound
bound_with port s last dropped user_dropped waiting =
    record {
      port = port;
      mode = s.mode;
      range = s.range;
      maximum = s.maximum;
      flags = s.flags;
      last = last;
      dropped = dropped;
      user_dropped = user_dropped;
      waiting = waiting;
    }

-- the settings of a new queue
abbrev pub new_settings : Settings
new_settings =
    record { mode = copy_none; range = longest_range; maximum = default_maximum; flags = 0 }

-- a queue as a port binds it (instance_create)
abbrev pub bound_to : ℕ → Bound
bound_to port = bound_with port new_settings 0 0 0 []

-- the queue, where nothing waits any more
abbrev pub emptied : Bound → Bound
emptied q = record q { waiting = [] }

-- ---- how it is set up

-- a queue's settings
abbrev pub settings_of : Bound → Settings
settings_of q =
    record { mode = q.mode; range = q.range; maximum = q.maximum; flags = q.flags }

-- the queue with these settings
abbrev pub with_settings : Bound → Settings → Bound
with_settings q s =
    record q { mode = s.mode; range = s.range; maximum = s.maximum; flags = s.flags }

-- copy mode and range are set; an unknown mode changes neither (nfqnl_set_mode)
abbrev pub with_params : Params → Settings → Settings
with_params p s =
    if (p.mode == copy_none) || (p.mode == copy_meta) then record s { mode = p.mode; range = 0 }
    else if p.mode == copy_packet then record s { mode = copy_packet; range = range_of p.range }
    else s

-- the flags that the mask names are set or cleared (nfqnl_recv_config)
abbrev pub flags_with : ℕ → ℕ → ℕ → ℕ
flags_with old flags mask = bit_or (bit_and old (bit_not w32 mask)) (bit_and flags mask)

-- params, where there are any
abbrev pub params_set : Option Params → Settings → Settings
params_set None s = s
params_set (Some p) s = with_params p s

abbrev pub maximum_set : Option ℕ → Settings → Settings
maximum_set maximum s = record s { maximum = unwrap_or maximum s.maximum }

-- flags count only beside a mask, and a mask only beside flags
abbrev pub flags_set : Option ℕ → Option ℕ → Settings → Settings
flags_set (Some flags) (Some mask) s = record s { flags = flags_with s.flags flags mask }
flags_set (Some flags) None s = s
flags_set None mask s = s

-- params, maximum and flags apply, in this order
abbrev pub settings_after : Option Params → Option ℕ → Option ℕ → Option ℕ → Settings → Settings
settings_after params maximum flags mask s =
    flags_set flags mask (maximum_set maximum (params_set params s))

-- the last line of a config request
abbrev pub configured : Option Params → Option ℕ → Option ℕ → Option ℕ → Bound → Bound
configured params maximum flags mask q =
    with_settings q (settings_after params maximum flags mask (settings_of q))

-- whether these flags let packets go on where the queue, or its port's mailbox, is full
abbrev pub let_open : ℕ → Bool
let_open flags = bit_and flags flag_fail_open == flag_fail_open

-- whether a queue that is full, or whose port's mailbox is, lets packets go on
abbrev pub fails_open : Bound → Bool
fails_open q = let_open q.flags
