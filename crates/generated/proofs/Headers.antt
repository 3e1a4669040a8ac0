-- What the headers of packets say.
use Rattle.std.proofs.Common.{◌≡◌, ℕ, ◌+◌, ◌*◌, ◌/◌, ◌%◌, ◌^◌, false, length, Some, refl, ap, sym}
use Rattle.std.proofs.Common.{◌∙◌, arith}
use Rattle.std.specs.Prelude.{◌==◌}
use Rattle.std.proofs.lemmas.Bool.{le-leb, ne_eqb}
use Rattle.packet_entry.specs.Numbers.{ipv4_type}
use Rattle.ip_fields.specs.declared.packet.IpFields.{IpFields}
use Rattle.ip_fields.specs.Frame.{cut, cut_of}
use Rattle.ip_fields.specs.Numbers.{ipv4_header_length, ipv4_version, link_raw}
use Rattle.ip_fields.specs.Numbers.{ipv4_address_length, ipv4_destination_at, ipv4_source_at}
use Rattle.ip_fields.specs.Packet.{fields_of, ipv4_fields, network_number, version_of}
use Rattle.generated.specs.Numbers.{total_length_at, total_length_width}
use Rattle.generated.specs.Packets.{fields, header, packet, packet_length}
use Rattle.generated.proofs.Lengths.{length-packet}

version_said : (w : ℕ) → version_of (packet w) ≡ ipv4_version
unfolding packet header
version_said w = refl

not_empty : (w : ℕ) → (length (packet w) == 0) ≡ false
not_empty w =
    ne_eqb (length (packet w)) 0 (λ none. absurd (omega (arith, length-packet w)))

pub packet_starts : (w : ℕ) → cut_of link_raw (packet w) ≡ cut 0 ipv4_type
unfolding cut_of
packet_starts w = rw (not_empty w, version_said w) refl

source_said : (w : ℕ) → network_number ipv4_address_length ipv4_source_at (packet w)
    ≡ 10 * 2 ^ 24 + w / 2 ^ 8 % 2 ^ 8
unfolding network_number packet header
source_said w = omega arith

destination_said : (w : ℕ) → network_number ipv4_address_length ipv4_destination_at (packet w)
    ≡ 10 * 2 ^ 24 + 2 ^ 8 + w / 2 ^ 16 % 2 ^ 8
unfolding network_number packet header
destination_said w = omega arith

four_fields : (w : ℕ) → ipv4_fields (packet w) ≡ fields w
unfolding packet header
four_fields w =
    let from = source_said w in
    let to = destination_said w in
    λ i. record {
      family = ipv4_version;
      protocol = (fields w).protocol;
      source = from i;
      destination = to i;
    }

pub packet_fields : (w : ℕ) → fields_of (packet w) ≡ Some (fields w)
unfolding fields_of
packet_fields w =
    rw (
      le-leb ipv4_header_length (length (packet w)) (omega (arith, length-packet w)),
      version_said w,
    ) (ap (λ (f : IpFields). Some f) (four_fields w))

number_said : (w : ℕ) →
    network_number total_length_width total_length_at (packet w) ≡ packet_length w
unfolding network_number packet header
number_said w = omega arith

pub total_length_said : (w : ℕ) →
    network_number total_length_width total_length_at (packet w) ≡ length (packet w)
total_length_said w = number_said w ∙ sym (length-packet w)
