-- Packets that enter have their frames' bytes.
use Rattle.std.proofs.Common.{◌≡◌, ◌≤◌, ◌+◌, ℕ, zero, suc, List, [], ◌∷◌, ◌++◌}
use Rattle.std.proofs.Common.{drop, Option}
use Rattle.std.proofs.Common.{Some, None, refl, subst, arith}
use Rattle.std.specs.Prelude.{slice_get, option_map, option_to_list}
use Rattle.ip_fields.specs.declared.frame.LinkCut.{LinkCut}
use Rattle.ip_fields.specs.Frame.{cut_of}
use Rattle.std.specs.List.{AllByRecursion}
use Rattle.std.proofs.lemmas.List.Elements.{All-from_recursion}
use Rattle.pcap_io.specs.declared.capture.Capture.{Capture}
use Rattle.pcap_io.specs.declared.capture.Frame.{Frame}
use Rattle.packet_entry.specs.declared.packet.Card.{Card}
use Rattle.run_parts.specs.Entering.{card_at, card_of, cards, cards_from}
use Rattle.pcap_io.specs.FramePackets.{IsRead, AreRead}

-- of the frames from this number on
abbrev IsOwn : ℕ → ℕ → List Frame → Card → Type 0
IsOwn link number fs card =
    (number ≤ card.number) × ((place : ℕ) (f : Frame) → slice_get fs place ≡ Some f →
    card.number ≡ number + place → IsRead link f card.bytes)

first_own : (c : Capture) (number : ℕ) (g : Frame) (gs : List Frame) (o : Option LinkCut) →
    cut_of c.link g.bytes ≡ o →
    AllByRecursion (IsOwn c.link number (g ∷ gs))
    (option_to_list (option_map (card_at c number g) o))
first_own c number g gs None there = tt
first_own c number g gs (Some cut) there = ((omega arith, by), tt)
  where
    by : (place : ℕ) (f : Frame) → slice_get (g ∷ gs) place ≡ Some f → number ≡ number + place →
        IsRead c.link f (drop cut.length g.bytes)
    by zero f got same =
        let own : g ≡ f = cc in
        subst (λ (k : Frame). IsRead c.link k (drop cut.length g.bytes)) own (cut, there, refl)
    by (suc place) f got same = absurd (omega (arith, same))

later_own : (link number : ℕ) (g : Frame) (gs : List Frame) (cards : List Card) →
    AllByRecursion (IsOwn link (number + 1) gs) cards →
    AllByRecursion (IsOwn link number (g ∷ gs)) cards
later_own link number g gs [] all = tt
later_own link number g gs (card ∷ cards) all =
    ((omega (arith, all.0.0), by), later_own link number g gs cards all.1)
  where
    by : (place : ℕ) (f : Frame) → slice_get (g ∷ gs) place ≡ Some f →
        card.number ≡ number + place → IsRead link f card.bytes
    by zero f got same = absurd (omega (arith, same, all.0.0))
    by (suc place) f got same = all.0.1 place f got (omega (arith, same))

both_own : (P : Card → Type 0) (one two : List Card) → AllByRecursion P one → AllByRecursion P two →
    AllByRecursion P (one ++ two)
both_own P [] two first second = second
both_own P (card ∷ one) two first second = (first.0, both_own P one two first.1 second)

cards_own : (c : Capture) (number : ℕ) (fs : List Frame) →
    AllByRecursion (IsOwn c.link number fs) (cards_from c number fs)
cards_own c number [] = tt
cards_own c number (g ∷ gs) =
    both_own (IsOwn c.link number (g ∷ gs)) (option_to_list (card_of c number g))
    (cards_from c (number + 1) gs)
    (first_own c number g gs (cut_of c.link g.bytes) refl)
    (later_own c.link number g gs (cards_from c (number + 1) gs) (cards_own c (number + 1) gs))

read_each : (link : ℕ) (fs : List Frame) (cards : List Card) →
    AllByRecursion (IsOwn link 1 fs) cards →
    AllByRecursion (λ (card : Card). (place : ℕ) (f : Frame) → slice_get fs place ≡ Some f →
    card.number ≡ place + 1 → IsRead link f card.bytes) cards
read_each link fs [] all = tt
read_each link fs (card ∷ cards) all = (
  λ place f got same. all.0.1 place f got (omega (arith, same)),
  read_each link fs cards all.1,
)

pub cards_read : (c : Capture) → AreRead c.link c.frames (cards c)
cards_read c =
    All-from_recursion _ (cards c)
    (read_each c.link c.frames (cards c) (cards_own c 1 c.frames))
