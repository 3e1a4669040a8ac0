-- What the text of a notice tells, where it is one: exactly what its packet, its queue and its id
-- make, without a byte more or less.
use Rattle.std.specs.Prelude.{ℕ, ◌^◌, ◌&&◌, ◌||◌, ◌==◌, nat_lt, nat_le, List, length, Option, Some}
use Rattle.std.specs.Prelude.{None, Bool, true, if◌then◌else◌}
use Rattle.std.specs.Str.{bytes_eq}
use Rattle.packet_entry.specs.Numbers.{ipv4_type, ipv6_type, longest_payload}
use Rattle.nfqa_headers.specs.Numbers.{hardware_address_length}
use Rattle.nfqa_msgs.specs.NoticeWriting.{Told, notice_text}
use Rattle.nfqa_msgs.specs.NoticeReading.{told_by}

abbrev pub is_source : Option (List ℕ) → Bool
is_source None = true
is_source (Some source) = length source == hardware_address_length

-- a packet that is told in part has more bytes than are told
abbrev pub is_cut : ℕ → Option ℕ → Bool
is_cut told None = true
is_cut told (Some n) = nat_lt told n && nat_lt n (2 ^ 32)

-- each number fits its field
abbrev pub fits : Told → Bool
fits told =
    nat_lt told.queue (2 ^ 16) && (nat_lt told.id (2 ^ 32)
    && (((told.protocol == ipv4_type) || (told.protocol == ipv6_type))
    && (nat_lt told.mark (2 ^ 32)
    && (nat_lt told.priority (2 ^ 32)
    && (is_source told.source
    && (nat_lt told.seconds (2 ^ 32)
    && (nat_lt told.micros (2 ^ 32)
    && (is_cut (length told.payload) told.cut_from
    && nat_le (length told.payload) longest_payload))))))))

-- what is read, where these bytes are its text
abbrev pub where_it_is : List ℕ → Option Told → Option Told
where_it_is bytes None = None
where_it_is bytes (Some told) =
    if fits told && bytes_eq bytes (notice_text told) then Some told else None

abbrev pub told_exactly : List ℕ → Option Told
told_exactly bytes = where_it_is bytes (told_by bytes)
