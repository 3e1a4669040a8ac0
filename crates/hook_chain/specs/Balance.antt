-- The flow hash, and the queue that it picks: `jhash_3words` of include/linux/jhash.h, and
-- `reciprocal_scale` of include/linux/math.h. The three words are the smaller address word, the
-- greater one, and the protocol, as for IPv4 in `hash_v4` of the kernel's nf_queue.h; that the
-- words of addresses are read with their highest byte first, and which words of IPv6 addresses are
-- taken, is this project's own choice. All numbers are whole numbers, and a word is one below
-- 2 ^ 32.
use Rattle.std.specs.Prelude.{ℕ, ◌+◌, ◌-◌, ◌*◌, ◌/◌, ◌%◌, ◌^◌, ◌==◌, min, max, bit_xor, Option}
use Rattle.std.specs.Prelude.{Some, None, if◌then◌else◌}
use Rattle.ip_fields.specs.Numbers.{ipv4_version}
use Rattle.hook_chain.specs.Numbers.{hash_start, hashed_bytes}
use Rattle.ip_fields.specs.declared.packet.IpFields.{IpFields}

-- sum and difference modulo 2 ^ 32
abbrev pub word_sum : ℕ → ℕ → ℕ
word_sum x y = (x + y) % 2 ^ 32

abbrev pub word_difference : ℕ → ℕ → ℕ
word_difference x y = (x + (2 ^ 32 - y)) % 2 ^ 32

-- the bits of a word, moved to the left by so many places; those that leave at the top come in
-- below
abbrev pub rotated : ℕ → ℕ → ℕ
rotated x by = (x * 2 ^ by) % 2 ^ 32 + x / 2 ^ (32 - by)

-- one line of the hash: (x xor y) - rol(y, by)
unfoldable pub mixed : ℕ → ℕ → ℕ → ℕ
mixed x y by = word_difference (bit_xor x y) (rotated y by)

-- the seven lines of the hash
unfoldable pub final_mix : ℕ → ℕ → ℕ → ℕ
final_mix a b c =
    let c1 = mixed c b 14 in
    let a1 = mixed a c1 11 in
    let b1 = mixed b a1 25 in
    let c2 = mixed c1 b1 16 in
    let a2 = mixed a1 c2 4 in
    let b2 = mixed b1 a2 14 in
    mixed c2 b2 24

-- an IPv4 address is its word; of an IPv6 address it is the exclusive or of its four words
unfoldable pub address_word : ℕ → ℕ → ℕ
address_word family address =
    if family == ipv4_version then address
    else bit_xor (bit_xor (bit_xor (address / 2 ^ 96) (address / 2 ^ 64 % 2 ^ 32))
    (address / 2 ^ 32 % 2 ^ 32)) (address % 2 ^ 32)

-- the smaller address word first, so that both directions of a flow have one hash
unfoldable pub flow_hash : ℕ → ℕ → ℕ → ℕ → ℕ
flow_hash key x y protocol =
    let seed = (key + hash_start + hashed_bytes) % 2 ^ 32 in
    final_mix (word_sum (min x y) seed) (word_sum (max x y) seed) (word_sum protocol seed)

-- without fields all three words are 0
abbrev pub packet_hash : ℕ → Option IpFields → ℕ
packet_hash key None = flow_hash key 0 0 0
packet_hash key (Some f) =
    flow_hash key (address_word f.family f.source) (address_word f.family f.destination) f.protocol

-- the queue, of `total` from `first` on
unfoldable pub balanced : ℕ → Option IpFields → ℕ → ℕ → ℕ
balanced key fields first total = first + packet_hash key fields * total / 2 ^ 32

-- --queue-cpu-fanout: the queue of the processor that a packet is on. Packets are fed by the feeders
-- in turn, and stay on the feeder's processor.
abbrev pub fanned_out : ℕ → ℕ → ℕ → ℕ → ℕ
fanned_out feeders number first total = first + (number - 1) % feeders % total
