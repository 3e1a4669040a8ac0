-- For proofs alone: routes of what tables and verdicts look at of a packet.
use Rattle.std.specs.Prelude.{◌≡◌, ℕ, ◌+◌, ◌-◌, max, drop, Option, Some, None}
use Rattle.packet_entry.specs.declared.packet.Card.{Card}
use Rattle.ip_fields.specs.Packet.{fields_of}
use Rattle.hook_chain.specs.declared.chain.View.{View}
use Rattle.hook_chain.specs.declared.chain.Next.{Next}
use Rattle.hook_chain.specs.declared.chain.Next.TheVariants.{Released, To}
use Rattle.hook_chain.specs.declared.chain.Decision.{Decision}
use Rattle.hook_chain.specs.declared.chain.Decision.TheVariants.{Drop, Accept, Repeat, Stop, Queue}
use Rattle.hook_chain.specs.Route.{next_of}
use Rattle.hook_chain.specs.Rules.{RuleTables}

-- this is seen of the packet
pub record Shows (v : View) (c : Card) : Type 0 where
  pub number : v.number ≡ c.number
  pub table : v.table ≡ c.table
  pub mark : v.mark ≡ c.mark
  pub bytes : v.bytes.now ≡ c.bytes

-- where a packet of which this is seen goes from table `from` on
unfoldable pub next_seen : RuleTables → ℕ → View → ℕ → Next
next_seen tables key v from =
    next_of tables.feeders key v.number v.mark (fields_of v.bytes.now) (max from 1)
    (drop (max from 1 - 1) tables.rules)

-- and where a decision sends it
abbrev pub onward_seen : RuleTables → ℕ → View → Decision → Option Next
onward_seen tables key v Drop = None
onward_seen tables key v Accept = Some (next_seen tables key v (v.table + 1))
onward_seen tables key v Repeat = Some (next_seen tables key v v.table)
onward_seen tables key v Stop = Some Released
onward_seen tables key v (Queue number bypass) = Some (To number bypass v.table)
