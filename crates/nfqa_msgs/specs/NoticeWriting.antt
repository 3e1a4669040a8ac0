-- Notices: uapi linux/netfilter/nfnetlink_queue.h, and the kernel's `nfqnl_build_packet_message`.
-- The attributes stand in the kernel's order. This project's are the two devices, that there always
-- is a timestamp and never `NFQA_SKB_INFO`, and that the length in the message's header counts the
-- last padding.
use Rattle.std.specs.Prelude.{◌≡◌, ℕ, ◌+◌, ◌^◌, ◌<◌, ◌≤◌, Bool, ◌&&◌, ◌||◌, ◌==◌, nat_lt, IsTrue}
use Rattle.std.specs.Prelude.{if◌then◌else◌, List, [], ◌∷◌, ◌++◌, length, take, drop, Option, Some}
use Rattle.std.specs.Prelude.{None, IfSome, option_map}
use Rattle.packet_entry.specs.declared.packet.Card.{Card}
use Rattle.packet_entry.specs.Numbers.{longest_payload, ipv4_type}
use Rattle.packet_entry.specs.Fields.{IsProtocol}
use Rattle.packet_entry.specs.Card.{IsCard}
use Rattle.netlink_codec.specs.Messages.{message_text}
use Rattle.netlink_codec.specs.Attributes.{Attribute, attributes_text, zero_padding}
use Rattle.netlink_codec.specs.Numbers.{attribute_header_length}
use Rattle.nfqa_headers.specs.Numbers.{notice_number, packet_header_kind, mark_kind, timestamp_kind}
use Rattle.nfqa_headers.specs.Numbers.{input_device_kind, output_device_kind, hardware_address_kind}
use Rattle.nfqa_headers.specs.Numbers.{payload_kind, full_length_kind, ipv4_family, ipv6_family}
use Rattle.nfqa_headers.specs.Numbers.{priority_kind, hardware_address_length}
use Rattle.nfqa_msgs.specs.Numbers.{input_device, output_device, copy_meta, copy_packet}
use Rattle.nfqa_msgs.specs.Numbers.{longest_range, source_address_at}
use Rattle.nfqa_headers.specs.Kinds.{queue_kind}
use Rattle.nfqa_headers.specs.Headers.{queue_header, packet_head_content, address_content}
use Rattle.nfqa_headers.specs.Headers.{stamp_content, value_content}
use Rattle.nfqa_headers.specs.AttributeWriting.{part, value_part}

-- what a notice tells
pub record Told : Type 0 where
  pub queue : ℕ
  pub id : ℕ
  pub protocol : ℕ
  pub mark : ℕ
  pub priority : ℕ
  -- the sender's hardware address, where the packet came with an Ethernet header
  pub source : Option (List ℕ)
  pub seconds : ℕ
  pub micros : ℕ
  -- the packet's length, where the range cut the packet
  pub cut_from : Option ℕ
  pub payload : List ℕ

-- the address family of a packet
abbrev pub family_of : ℕ → ℕ
family_of protocol = if protocol == ipv4_type then ipv4_family else ipv6_family

-- a mark or priority of 0 is not told
abbrev pub nonzero_content : ℕ → Option (List ℕ)
nonzero_content n = if n == 0 then None else Some (value_content n)

-- a payload without bytes is not told
abbrev pub payload_content : List ℕ → Option (List ℕ)
payload_content [] = None
payload_content (x ∷ xs) = Some (x ∷ xs)

-- the attributes of a notice before the packet's bytes, in order
abbrev pub front_parts : Told → List Attribute
front_parts told =
    part packet_header_kind (Some (packet_head_content told.id told.protocol))
    ++ part input_device_kind (Some (value_content input_device))
    ++ part output_device_kind (Some (value_content output_device))
    ++ part mark_kind (nonzero_content told.mark)
    ++ part priority_kind (nonzero_content told.priority)
    ++ part hardware_address_kind (option_map address_content told.source)
    ++ part timestamp_kind (Some (stamp_content told.seconds told.micros))
    ++ value_part full_length_kind told.cut_from

-- the attribute of the packet's bytes
abbrev pub payload_part : List ℕ → List Attribute
payload_part payload = part payload_kind (payload_content payload)

-- the attributes of a notice, in order
abbrev pub notice_parts : Told → List Attribute
notice_parts told = front_parts told ++ payload_part told.payload

-- the body of a notice before the packet's bytes
abbrev pub notice_front : Told → List ℕ
notice_front told =
    queue_header (family_of told.protocol) told.queue ++ attributes_text (front_parts told)

abbrev pub notice_body : Told → List ℕ
notice_body told =
    queue_header (family_of told.protocol) told.queue ++ attributes_text (notice_parts told)

-- the zeros behind the packet's bytes
abbrev pub payload_padding : List ℕ → List ℕ
payload_padding payload = zero_padding (attribute_header_length + length payload)

abbrev pub padded_payload : List ℕ → List ℕ
padded_payload payload = payload ++ payload_padding payload

-- the text of a notice: flags, sequence and port are 0
unfoldable pub notice_text : Told → List ℕ
notice_text told = message_text (queue_kind notice_number) 0 0 0 (notice_body told)

-- the copy mode under which a packet's bytes are told
abbrev pub tells_bytes : ℕ → Bool
tells_bytes mode = mode == copy_packet

-- the source address in an Ethernet header
abbrev pub source_in : List ℕ → Option (List ℕ)
source_in [] = None
source_in (x ∷ link) = Some (take hardware_address_length (drop source_address_at (x ∷ link)))

-- the packet's length, where the mode is PACKET and the range cuts the packet
abbrev pub cut_of : ℕ → ℕ → List ℕ → Option ℕ
cut_of mode range bytes =
    if tells_bytes mode && nat_lt range (length bytes) then Some (length bytes) else None

-- the bytes that are told
abbrev pub told_bytes : ℕ → ℕ → List ℕ → List ℕ
told_bytes mode range bytes = if tells_bytes mode then take range bytes else []

-- what is told of a packet that waits under this id in a queue of this mode and range
abbrev pub told_of : ℕ → ℕ → ℕ → ℕ → Card → Told
told_of queue mode range id card = record {
  queue = queue;
  id = id;
  protocol = card.protocol;
  mark = card.mark;
  priority = card.priority;
  source = source_in card.link;
  seconds = card.seconds;
  micros = card.micros;
  cut_from = cut_of mode range card.bytes;
  payload = told_bytes mode range card.bytes;
}

-- the notice of a packet that waits under this id in a queue of this mode and range
abbrev pub notice : ℕ → ℕ → ℕ → ℕ → Card → List ℕ
notice queue mode range id card = notice_text (told_of queue mode range id card)

-- what a notice can tell
pub record FitsTold (told : Told) : Type 0 where
  pub queue_fits : told.queue < 2 ^ 16
  pub id_fits : told.id < 2 ^ 32
  pub protocol_fits : IsProtocol told.protocol
  pub mark_fits : told.mark < 2 ^ 32
  pub priority_fits : told.priority < 2 ^ 32
  pub source_fits : IfSome told.source (λ source. length source ≡ hardware_address_length)
  pub seconds_fit : told.seconds < 2 ^ 32
  pub micros_fit : told.micros < 2 ^ 32
  pub cut_fits : IfSome told.cut_from (λ n. (length told.payload < n) × (n < 2 ^ 32))
  pub payload_fits : length told.payload ≤ longest_payload

-- a packet that waits under this id in a queue of this mode and range, so that it has a notice
pub record IsNoticed (queue mode range id : ℕ) (card : Card) : Type 0 where
  pub queue_fits : queue < 2 ^ 16
  pub mode_tells : IsTrue ((mode == copy_meta) || (mode == copy_packet))
  pub range_fits : range ≤ longest_range
  pub id_fits : id < 2 ^ 32
  pub mark_fits : card.mark < 2 ^ 32
  pub priority_fits : card.priority < 2 ^ 32
  pub seconds_fit : card.seconds < 2 ^ 32
  pub micros_fit : card.micros < 2 ^ 32
  pub card_fits : IsCard card

-- the text is the notice of a waiting packet
pub record IsPacketNotice (text : List ℕ) : Type 0 where
  pub queue : ℕ
  pub mode : ℕ
  pub range : ℕ
  pub id : ℕ
  pub card : Card
  pub noticed : IsNoticed queue mode range id card
  pub is : text ≡ notice queue mode range id card
