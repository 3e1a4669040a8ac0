-- Packets of a capture have numbers of their own.
use Rattle.std.proofs.Common.{◌≡◌, ◌≤◌, ◌<◌, ◌+◌, ℕ, List, [], ◌∷◌, Option, Some, None, refl}
use Rattle.std.proofs.Common.{arith, inl, inr, subst, sym}
use Rattle.std.specs.Prelude.{cond}
use Rattle.std.proofs.lemmas.List.Sums.{sum_by-cons}
use Rattle.std.specs.Prelude.{◌==◌, count_by}
use Rattle.std.proofs.lemmas.Bool.{cases_Bool, ne_eqb, eqb-true}
use Rattle.packet_entry.specs.declared.packet.Card.{Card}
use Rattle.ip_fields.specs.declared.frame.LinkCut.{LinkCut}
use Rattle.ip_fields.specs.Frame.{cut_of}
use Rattle.pcap_io.specs.declared.capture.Capture.{Capture}
use Rattle.pcap_io.specs.declared.capture.Frame.{Frame}
use Rattle.run_parts.specs.Entering.{card_at, cards, cards_from}
use Rattle.std.specs.Prelude.{◌++◌, option_map, option_to_list}
use Rattle.fate_ledger.specs.Laws.{DifferInNumber}

-- how many of these packets have the number
abbrev pub times_of : ℕ → List Card → ℕ
times_of n cs = count_by (λ (x : Card). x.number == n) cs

-- no frame from a later number on has a packet with an earlier one
none_of : (c : Capture) (n k : ℕ) (f : Frame) (rest : List Card) (o : Option LinkCut) → n < k →
    times_of n rest ≡ 0 → times_of n (option_to_list (option_map (card_at c k f) o) ++ rest) ≡ 0
none_of c n k f rest None less none = none
none_of c n k f rest (Some cut) less none =
    rw (ne_eqb k n (λ same. omega (arith, same, less))) none

none_before : (c : Capture) (n k : ℕ) (fs : List Frame) → n < k →
    times_of n (cards_from c k fs) ≡ 0
none_before c n k [] less = refl
none_before c n k (f ∷ fs) less =
    none_of c n k f (cards_from c (k + 1) fs) (cut_of c.link f.bytes) less
    (none_before c n (k + 1) fs (omega (arith, less)))

once_of : (c : Capture) (n k : ℕ) (f : Frame) (rest : List Card) (o : Option LinkCut) →
    (k ≡ n → times_of n rest ≡ 0) → times_of n rest ≤ 1 →
    times_of n (option_to_list (option_map (card_at c k f) o) ++ rest) ≤ 1
once_of c n k f rest None none once = once
once_of c n k f rest (Some cut) none once =
    let whole = sum_by-cons (λ (x : Card). cond (x.number == n) 1 0) (card_at c k f cut) rest in
    subst (λ m. m ≤ 1) (sym whole) (elim (cases_Bool (k == n)) [
      | inl is ↦ rw is (let zero_ = none (eqb-true k n is) in omega (arith, zero_))
      | inr not_ ↦ rw not_ (omega (arith, once))
    ])

once_from : (c : Capture) (n k : ℕ) (fs : List Frame) → times_of n (cards_from c k fs) ≤ 1
once_from c n k [] = omega arith
once_from c n k (f ∷ fs) =
    once_of c n k f (cards_from c (k + 1) fs) (cut_of c.link f.bytes)
    (λ same. none_before c n (k + 1) fs (omega (arith, same))) (once_from c n (k + 1) fs)

pub cards_differ : (c : Capture) → DifferInNumber (cards c)
cards_differ c n = once_from c n 1 c.frames
