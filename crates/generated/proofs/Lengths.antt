-- How long packets are.
use Rattle.std.proofs.Common.{◌≡◌, ℕ, ◌≤◌, List, ◌++◌, length, take, replicate, refl, ap, ◌∙◌}
use Rattle.std.proofs.Common.{arith, length-append, append_assoc}
use Rattle.std.proofs.lemmas.List.{length-replicate, take-replicate}
use Rattle.generated.specs.Packets.{header, packet, packet_length, payload_length}
use Rattle.ip_fields.specs.Numbers.{ipv4_header_length}
use Rattle.generated.specs.Numbers.{longest_generated}

pub length-header : (w : ℕ) → length (header w) ≡ ipv4_header_length
unfolding header
length-header w = refl

pub length-packet : (w : ℕ) → length (packet w) ≡ packet_length w
unfolding packet
length-packet w =
    length-append (header w) (replicate (payload_length w) 0)
    ∙ omega (arith, length-header w, length-replicate {A = ℕ} (payload_length w) 0)

-- a packet has 83 bytes at most
pub packet_is_short : (w : ℕ) → length (packet w) ≤ longest_generated
packet_is_short w = omega (arith, length-packet w)

-- a header and behind it as many zeros as the payload has bytes are the packet
pub put_so : (w n : ℕ) (old mid new head : List ℕ) → head ≡ header w → n ≡ payload_length w →
    mid ≡ old ++ head → new ≡ mid ++ take n (replicate {A = ℕ} 63 0) → new ≡ old ++ packet w
unfolding packet
put_so w n old mid new head is long first second =
    let zeros : take n (replicate {A = ℕ} 63 0) ≡ replicate {A = ℕ} (payload_length w) 0 =
    take-replicate n 63 0 (omega (arith, long)) ∙ ap (λ (k : ℕ). replicate {A = ℕ} k 0) long in
    second
    ∙ ap (λ (bytes : List ℕ). bytes ++ take n (replicate {A = ℕ} 63 0))
    (first ∙ ap (λ (h : List ℕ). old ++ h) is)
    ∙ ap (λ (zs : List ℕ). (old ++ header w) ++ zs) zeros
    ∙ append_assoc old (header w) (replicate {A = ℕ} (payload_length w) 0)
