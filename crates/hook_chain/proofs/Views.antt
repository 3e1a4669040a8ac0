-- What is seen of a packet says where it goes.
use Rattle.std.proofs.Common.{◌≡◌, ℕ, ◌+◌, max, Option, Some, None, refl, ap, ◌∙◌, arith}
use Rattle.packet_entry.specs.declared.packet.Card.{Card}
use Rattle.ip_fields.specs.Packet.{fields_of}
use Rattle.hook_chain.specs.declared.chain.View.{View}
use Rattle.hook_chain.specs.declared.chain.Next.{Next}
use Rattle.hook_chain.specs.declared.chain.Next.TheVariants.{To}
use Rattle.hook_chain.specs.declared.chain.Decision.{Decision}
use Rattle.hook_chain.specs.declared.chain.Decision.TheVariants.{Drop, Accept, Repeat, Stop, Queue}
use Rattle.hook_chain.specs.Route.{next, next_of, onward_of}
use Rattle.hook_chain.specs.Rules.{RuleTables}
use Rattle.hook_chain.specs.Views.{Shows, next_seen, onward_seen}
use Rattle.hook_chain.specs.Route as route
use Rattle.hook_chain.specs.Views as views

pub next_is : (tables : RuleTables) (key : ℕ) (v : View) (c : Card) (from : ℕ) → Shows v c →
    next_seen tables key v from ≡ next tables key c from
unfolding route.next views.next_seen
next_is tables key v c from shows = rw shows.number (rw shows.mark (rw shows.bytes refl))

pub onward_is : (tables : RuleTables) (key : ℕ) (v : View) (c : Card) (d : Decision) →
    Shows v c → onward_seen tables key v d ≡ onward_of tables key c d
onward_is tables key v c Drop shows = refl
onward_is tables key v c Accept shows =
    ap (λ t. Some (next_seen tables key v (t + 1))) shows.table
    ∙ ap (λ n. Some n) (next_is tables key v c (c.table + 1) shows)
onward_is tables key v c Repeat shows =
    ap (λ t. Some (next_seen tables key v t)) shows.table
    ∙ ap (λ n. Some n) (next_is tables key v c c.table shows)
onward_is tables key v c Stop shows = refl
onward_is tables key v c (Queue number bypass) shows =
    ap (λ t. Some (To number bypass t)) shows.table

-- the tables count from 1, and 0 takes all of them as well
pub first_is : (tables : RuleTables) (key : ℕ) (v : View) (from first : ℕ) → first ≡ max from 1 →
    next_seen tables key v first ≡ next_seen tables key v from
unfolding views.next_seen
first_is tables key v from first is =
    let same : max first 1 ≡ max from 1 = omega (arith, is) in rw same refl
