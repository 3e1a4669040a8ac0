-- Where a packet goes next: nf_hook_slow (core.c of the kernel's netfilter) and nf_reinject
-- (nf_queue.c, since 6.9 nfnetlink_queue.c) over the tables of one hook, and two matches: the
-- protocol of iptables(8) and the mark of iptables-extensions(8).
use Rattle.std.specs.Prelude.{ℕ, ◌+◌, ◌-◌, ◌==◌, max, Bool, true, false, not, ◌&&◌, bit_and, List}
use Rattle.std.specs.Prelude.{[], ◌∷◌, drop, find, Option, Some, None, if◌then◌else◌}
use Rattle.std.specs.Option.{option_map_or}
use Rattle.packet_entry.specs.declared.packet.Card.{Card}
use Rattle.ip_fields.specs.declared.packet.IpFields.{IpFields}
use Rattle.ip_fields.specs.Packet.{fields_of}
use Rattle.hook_chain.specs.declared.rule.Rule.{Rule}
use Rattle.hook_chain.specs.declared.rule.MarkTest.{MarkTest}
use Rattle.hook_chain.specs.declared.rule.Pick.{Pick}
use Rattle.hook_chain.specs.declared.rule.Pick.TheVariants.{Number, Balance}
use Rattle.hook_chain.specs.declared.chain.Next.{Next}
use Rattle.hook_chain.specs.declared.chain.Next.TheVariants.{Released, To}
use Rattle.hook_chain.specs.declared.chain.Decision.{Decision}
use Rattle.hook_chain.specs.declared.chain.Decision.TheVariants.{Drop, Accept, Repeat, Stop, Queue}
use Rattle.hook_chain.specs.Balance.{balanced, fanned_out}
use Rattle.hook_chain.specs.Rules.{RuleTables}

-- -p: the fields of the bytes that are there have this protocol
abbrev pub has_protocol : Option IpFields → ℕ → Bool
has_protocol fields protocol = option_map_or (λ f. f.protocol == protocol) fields false

-- -m mark --mark value/mask: the mask is laid on the packet's mark alone; `!` turns the test round
abbrev pub has_mark : ℕ → MarkTest → Bool
has_mark mark test =
    if test.negated then not (bit_and mark test.mask == test.value)
    else bit_and mark test.mask == test.value

-- a rule matches a packet of this mark and these fields where each test that it has holds
abbrev pub matches : ℕ → Option IpFields → Rule → Bool
matches mark fields r =
    option_map_or (has_protocol fields) r.protocol true && option_map_or (has_mark mark) r.mark true

-- the queue that a rule's options pick for the packet of this number with these fields; `fanout`
-- is --queue-cpu-fanout
abbrev pub queue_of : ℕ → ℕ → ℕ → Option IpFields → Pick → Bool → ℕ
queue_of feeders key number fields (Number queue) fanout = queue
queue_of feeders key number fields (Balance first total) fanout =
    if fanout then fanned_out feeders number first total else balanced key fields first total

-- In each table the first rule that matches queues the packet; after the last table it is released.
-- `table` is the number of the first of these tables.
unfoldable pub next_of : ℕ → ℕ → ℕ → ℕ → Option IpFields → ℕ → List (List Rule) → Next
next_of feeders key number mark fields table [] = Released
next_of feeders key number mark fields table (rules ∷ tables) =
    option_map_or (λ r. To (queue_of feeders key number fields r.pick r.fanout) r.bypass table)
    (find (matches mark fields) rules)
    (next_of feeders key number mark fields (table + 1) tables)

-- the tables from number `from` on; they count from 1, and 0 takes all as well
unfoldable pub next : RuleTables → ℕ → Card → ℕ → Next
next tables key c from =
    next_of tables.feeders key c.number c.mark (fields_of c.bytes) (max from 1)
    (drop (max from 1 - 1) tables.rules)

-- what a verdict's decision means for a packet that its table had queued
abbrev pub onward_of : RuleTables → ℕ → Card → Decision → Option Next
onward_of tables key c Drop = None
onward_of tables key c Accept = Some (next tables key c (c.table + 1))
onward_of tables key c Repeat = Some (next tables key c c.table)
onward_of tables key c Stop = Some Released
onward_of tables key c (Queue number bypass) = Some (To number bypass c.table)
