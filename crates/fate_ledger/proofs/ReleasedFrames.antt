-- Released frames, one after the other.
use Rattle.std.proofs.Common.{◌≡◌, ℕ, List, [], ◌∷◌, ◌++◌, length, true, false, cond, refl, sym, ap}
use Rattle.std.proofs.Common.{◌∙◌, append_assoc, subst, arith, ◌≤◌}
use Rattle.std.specs.Prelude.{All}
use Rattle.std.proofs.lemmas.List.Elements.{All-tail}
use Rattle.packet_entry.specs.Numbers.{longest_packet}
use Rattle.pcap_io.specs.declared.capture.Frame.{Frame}
use Rattle.fate_ledger.specs.declared.fate.FateLine.{FateLine}
use Rattle.fate_ledger.specs.Ledger.{is_release}
use Rattle.fate_ledger.specs.Released as text

-- the first frame, and those after it
one_more : (link : ℕ) (f : Frame) (fs : List Frame) (l : FateLine) (ls : List FateLine) →
    text.frames link (f ∷ fs) (l ∷ ls)
    ≡ text.frames link (f ∷ []) (l ∷ []) ++ text.frames link fs ls
one_more link f fs l ls =
    elim (is_release l.fate) as (λ b.
    cond b (text.written link f l ∷ text.frames link fs ls) (text.frames link fs ls)
    ≡ cond b (text.written link f l ∷ []) [] ++ text.frames link fs ls) [
      | true ↦ refl
      | false ↦ refl
    ]

-- what was kept and what is still to be kept are all, after one frame more
pub kept_on : (link : ℕ) (rest fs : List Frame) (f : Frame) (left ls : List FateLine) (l : FateLine)
    (old new whole : List Frame) → rest ≡ f ∷ fs → left ≡ l ∷ ls →
    new ≡ old ++ text.frames link (f ∷ []) (l ∷ []) → old ++ text.frames link rest left ≡ whole →
    new ++ text.frames link fs ls ≡ whole
kept_on link rest fs f left ls l old new whole frame line grown before =
    ap (λ (gs : List Frame). gs ++ text.frames link fs ls) grown
    ∙ append_assoc old (text.frames link (f ∷ []) (l ∷ [])) (text.frames link fs ls)
    ∙ ap (λ (gs : List Frame). old ++ gs)
    (sym (one_more link f fs l ls)
    ∙ ap (λ (gs : List Frame). text.frames link gs (l ∷ ls)) (sym frame)
    ∙ ap (λ (ks : List FateLine). text.frames link rest ks) (sym line))
    ∙ before

-- as many are left of both
pub as_many_left : {X Y : Type 0} (rest fs : List X) (f : X) (left ls : List Y) (l : Y) →
    rest ≡ f ∷ fs → left ≡ l ∷ ls → length rest ≡ length left → length fs ≡ length ls
as_many_left rest fs f left ls l frame line same =
    omega (arith, same, ap length frame, ap length line)

-- what is true of all lines is true of those that are left
pub others_fit : (left ls : List FateLine) (l : FateLine) → left ≡ l ∷ ls →
    All (λ (k : FateLine). length k.payload ≤ longest_packet) left →
    All (λ (k : FateLine). length k.payload ≤ longest_packet) ls
others_fit left ls l line fit =
    All-tail (λ (k : FateLine). length k.payload ≤ longest_packet) l ls
    (subst (All (λ (k : FateLine). length k.payload ≤ longest_packet)) line fit)
