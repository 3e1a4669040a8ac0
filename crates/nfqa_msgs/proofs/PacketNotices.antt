-- What is told of a waiting packet can be told, and so its notices are told apart.
use Rattle.std.proofs.Common.{◌≡◌, ℕ, ◌^◌, ◌<◌, ◌≤◌, Bool, true, false, List, [], ◌∷◌, ◌++◌, length}
use Rattle.std.proofs.Common.{take, drop, Some, None, refl, sym, ap, ◌∙◌, arith, inl, inr}
use Rattle.std.proofs.Common.{length-take, length-drop}
use Rattle.std.specs.Prelude.{IfSome, ◌==◌, ◌&&◌, nat_lt, if◌then◌else◌}
use Rattle.std.proofs.lemmas.Bool.{cases_Bool, ltb-true, eqb-true}
use Rattle.packet_entry.specs.declared.packet.Card.{Card}
use Rattle.packet_entry.specs.Numbers.{longest_payload, longest_packet, ethernet_header_length}
use Rattle.packet_entry.specs.Numbers.{tagged_header_length}
use Rattle.packet_entry.specs.Fields.{IsLinkLength}
use Rattle.nfqa_headers.specs.Numbers.{hardware_address_length}
use Rattle.nfqa_msgs.specs.Numbers.{longest_range, copy_packet, source_address_at}
use Rattle.nfqa_msgs.specs.NoticeWriting.{Told, FitsTold, IsNoticed, IsPacketNotice, told_of}
use Rattle.nfqa_msgs.specs.NoticeWriting.{source_in}
use Rattle.nfqa_msgs.proofs.Lengths.{Sizes}
use Rattle.nfqa_msgs.proofs.NoticeRoundTrip.{Fronts, apart}

-- a link header that isn't empty has room for two addresses
long-link : (n : ℕ) → IsLinkLength n → (n ≡ 0 → ⊥) → 12 ≤ n
long-link n known some =
    elim (cases_Bool (n == 0)) [
      | inl is ↦ absurd (some (eqb-true n 0 is))
      | inr filled ↦
          elim (cases_Bool (n == ethernet_header_length)) [
            | inl is ↦ let e = eqb-true n ethernet_header_length is in omega arith
            | inr other ↦
                elim (cases_Bool (n == tagged_header_length)) [
                  | inl is ↦ let e = eqb-true n tagged_header_length is in omega arith
                  | inr neither ↦ let none = rw (filled, other, neither) at known in absurd cc
                ]
          ]
    ]

source-fits : (link : List ℕ) → IsLinkLength (length link)
    → IfSome (source_in link) (λ source. length source ≡ hardware_address_length)
source-fits [] known = tt
source-fits (x ∷ link) known =
    let all : List ℕ = x ∷ link in
    let long : 12 ≤ length all = long-link (length all) known (λ e. omega arith) in
    omega (
      arith,
      length-take hardware_address_length (drop source_address_at all),
      length-drop source_address_at all,
    )

cut-by : (tells above : Bool) (range : ℕ) (bytes : List ℕ) → above ≡ nat_lt range (length bytes)
    → length bytes ≤ longest_packet
    → IfSome (if tells && above then Some (length bytes) else None)
    (λ n. (length (if tells then take range bytes else []) < n) × (n < 2 ^ 32))
cut-by true true range bytes is short =
    let above = ltb-true range (length bytes) (sym is) in
    (omega (arith, length-take range bytes), omega arith)
cut-by true false range bytes is short = tt
cut-by false above range bytes is short = tt

shown-by : (tells : Bool) (range : ℕ) (bytes : List ℕ) → range ≤ longest_range
    → length (if tells then take range bytes else []) ≤ longest_payload
shown-by true range bytes fits = omega (arith, length-take range bytes)
shown-by false range bytes fits = omega arith

pub told-fits : (queue mode range id : ℕ) (card : Card) → IsNoticed queue mode range id card
    → FitsTold (told_of queue mode range id card)
told-fits queue mode range id card fits = record {
  queue_fits = fits.queue_fits;
  id_fits = fits.id_fits;
  protocol_fits = fits.card_fits.protocol;
  mark_fits = fits.mark_fits;
  priority_fits = fits.priority_fits;
  source_fits = source-fits card.link fits.card_fits.link;
  seconds_fit = fits.seconds_fit;
  micros_fit = fits.micros_fit;
  cut_fits =
      cut-by (mode == copy_packet) (nat_lt range (length card.bytes)) range card.bytes refl
      fits.card_fits.bytes;
  payload_fits = shown-by (mode == copy_packet) range card.bytes fits.range_fits;
}

pub packets-apart : Sizes → Fronts → (text other behind rest : List ℕ) → IsPacketNotice text
    → IsPacketNotice other → text ++ behind ≡ other ++ rest → text ≡ other
packets-apart sizes fronts text other behind rest n m same =
    let a : Told = told_of n.queue n.mode n.range n.id n.card in
    let b : Told = told_of m.queue m.mode m.range m.id m.card in
    let start =
    ap (λ (xs : List ℕ). xs ++ behind) (sym n.is) ∙ same
    ∙ ap (λ (xs : List ℕ). xs ++ rest) m.is in
    n.is
    ∙ apart sizes fronts a b behind rest (told-fits n.queue n.mode n.range n.id n.card n.noticed)
    (told-fits m.queue m.mode m.range m.id m.card m.noticed) start
    ∙ sym m.is
