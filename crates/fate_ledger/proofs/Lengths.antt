-- How long the payloads of lines are, and the frames that are written with them.
use Rattle.std.proofs.Common.{◌≡◌, ◌≤◌, ◌⊎◌, ◌∙◌, ℕ, zero, suc, ◌+◌, List, [], ◌∷◌, ◌++◌, length}
use Rattle.std.proofs.Common.{Option, Some, None, Bool, true, false, cond, refl, sym, ap}
use Rattle.std.proofs.Common.{subst, arith}
use Rattle.std.proofs.Common.{inl, inr, take, drop}
use Rattle.std.specs.Prelude.{All, IfSome, ◌==◌, ◌||◌, ◌&&◌, not, nat_le, slice_get}
use Rattle.std.specs.List.{AllByRecursion}
use Rattle.std.specs.Str.{bytes_eq}
use Rattle.std.proofs.lemmas.Bool.{eq-eqb, eqb-true, le-leb, leb-true}
use Rattle.std.proofs.lemmas.List.{length-append, length-drop, take-append-drop}
use Rattle.std.proofs.lemmas.List.Elements.{recursion_from_All, All-from_recursion}
use Rattle.packet_entry.specs.declared.packet.Card.{Card}
use Rattle.packet_entry.specs.Numbers.{longest_payload, longest_packet, ethernet_header_length}
use Rattle.packet_entry.specs.Numbers.{tagged_header_length}
use Rattle.pcap_io.specs.declared.capture.Capture.{Capture}
use Rattle.pcap_io.specs.declared.capture.Frame.{Frame}
use Rattle.pcap_io.specs.Text.{IsHeld}
use Rattle.ip_fields.specs.declared.frame.LinkCut.{LinkCut}
use Rattle.ip_fields.specs.Frame.{cut_of, ethernet_cut, raw_cut, ethernet_type}
use Rattle.ip_fields.specs.Frame.{tagged_type, is_ip_type}
use Rattle.ip_fields.specs.Numbers.{link_ethernet, link_raw, link_ipv4, link_ipv6, vlan_type}
use Rattle.ip_fields.specs.Numbers.{ipv4_version, ipv6_version}
use Rattle.ip_fields.specs.Packet.{version_of}
use Rattle.hook_chain.specs.Rules.{RuleTables}
use Rattle.histories.specs.declared.histories.Lost.{Lost}
use Rattle.histories.specs.declared.histories.Histories.{Histories}
use Rattle.histories.specs.Journeys.{AreSound}
use Rattle.fate_ledger.specs.declared.happening.Happening.{Happening}
use Rattle.fate_ledger.specs.declared.fate.Fate.TheVariants.{Unhooked}
use Rattle.fate_ledger.specs.declared.fate.FateLine.{FateLine}
use Rattle.fate_ledger.specs.Fates.{happenings, fates, fates_from, fate_line, is_lost, last_of}
use Rattle.fate_ledger.specs.Fates.{later_of, is_later}
use Rattle.fate_ledger.specs.Ledger.{is_release}
use Rattle.histories.specs.Lengths.{AreShort}
use Rattle.pcap_io.specs.FramePackets.{AreRead, IsRead}
use Rattle.fate_ledger.specs.Payloads.{IsPayload}
use Rattle.fate_ledger.specs.Released as text
use Rattle.fate_ledger.proofs.Payloads.{PassedBy, each_right}
use Rattle.fate_ledger.proofs.ReleasedCapture.{equal_bytes, unequal_bytes}
use Rattle.fate_ledger.proofs.Tables.{either}

-- ---- what is read with a frame, as a test

abbrev reads : Option LinkCut → List ℕ → List ℕ → Bool
reads None frame bytes = false
reads (Some cut) frame bytes = bytes_eq (drop cut.length frame) bytes

read_so : (o : Option LinkCut) (frame bytes : List ℕ) → reads o frame bytes ≡ true →
    (cut : LinkCut) × (o ≡ Some cut) × (bytes ≡ drop cut.length frame)
read_so None frame bytes is = absurd (cc)
read_so (Some cut) frame bytes is =
    (cut, refl, sym (unequal_bytes (drop cut.length frame) bytes is))

so_read : (o : Option LinkCut) (frame bytes : List ℕ) (cut : LinkCut) → o ≡ Some cut →
    bytes ≡ drop cut.length frame → reads o frame bytes ≡ true
so_read o frame bytes cut there same =
    ap (λ (p : Option LinkCut). reads p frame bytes) there
    ∙ equal_bytes (drop cut.length frame) bytes (sym same)

or_true : (b : Bool) → (b || true) ≡ true
or_true true = refl
or_true false = refl

or_also : (b c : Bool) → c ≡ true → (b || c) ≡ true
or_also b c is = ap (λ d. b || d) is ∙ or_true b

-- ---- the last event

abbrev IsLast : ℕ → (Happening → Type 0) → Option Happening → Type 0
IsLast number Q kept = IfSome kept (λ h. (h.card.number ≡ number) × Q h)

last_is : (number : ℕ) (Q : Happening → Type 0) (hs : List Happening) (kept : Option Happening) →
    AllByRecursion Q hs → IsLast number Q kept → IsLast number Q (last_of number hs kept)
last_is number Q [] kept all is = is
last_is number Q (h ∷ hs) kept all is =
    last_is number Q hs (later_of number kept h) all.1
    (by (h.card.number == number) refl (is_later kept h))
  where
    by : (b : Bool) → (h.card.number == number) ≡ b → (c : Bool) →
        IsLast number Q (cond (b && c) (Some h) kept)
    by true same true = (eqb-true h.card.number number same, all.0)
    by true same false = is
    by false other c = is

module _ (link number : ℕ) (f : Frame) where
  -- the packet with this number has short bytes, or those that it was read with
  abbrev line_test : ℕ → List ℕ → Bool
  line_test n bytes =
      nat_le (length bytes) longest_payload
      || (not (n == number) || reads (cut_of link f.bytes) f.bytes bytes)

  short_passes : (n : ℕ) (bytes : List ℕ) → length bytes ≤ longest_payload →
      line_test n bytes ≡ true
  short_passes n bytes short = rw (le-leb (length bytes) longest_payload short) refl

  read_passes : (c : Card) → (c.number ≡ number → IsRead link f c.bytes) →
      line_test c.number c.bytes ≡ true
  read_passes c is =
      or_also (nat_le (length c.bytes) longest_payload)
      (not (c.number == number) || reads (cut_of link f.bytes) f.bytes c.bytes)
      (by (c.number == number) refl)
    where
      by : (b : Bool) → (c.number == number) ≡ b →
          (not b || reads (cut_of link f.bytes) f.bytes c.bytes) ≡ true
      by true same =
          let read = is (eqb-true c.number number same) in
          so_read (cut_of link f.bytes) f.bytes c.bytes read.0 read.1 read.2
      by false other = refl

  passed : (n : ℕ) (bytes : List ℕ) → n ≡ number → line_test n bytes ≡ true →
      IsRead link f bytes ⊎ (length bytes ≤ longest_payload)
  passed n bytes own is = by (nat_le (length bytes) longest_payload) refl is
    where
      by : (b : Bool) → nat_le (length bytes) longest_payload ≡ b →
          (b || (not (n == number) || reads (cut_of link f.bytes) f.bytes bytes)) ≡ true →
          IsRead link f bytes ⊎ (length bytes ≤ longest_payload)
      by true short is = inr (leb-true (length bytes) longest_payload short)
      by false long is = inl (read_so (cut_of link f.bytes) f.bytes bytes
          (ap (λ b. not b || reads (cut_of link f.bytes) f.bytes bytes) (sym (eq-eqb n number own))
          ∙ is))

  unhooked_only : (lost : Bool) → is_release (fate_line lost number f None).fate ≡ true →
      (fate_line lost number f None).fate ≡ Unhooked
  unhooked_only true is = absurd (cc)
  unhooked_only false is = refl

  line_payload : (lost : Bool) (o : Option Happening) →
      IsLast number (PassedBy line_test short_passes) o →
      IsPayload link f (fate_line lost number f o)
  line_payload lost None is = inl (refl, unhooked_only lost)
  line_payload lost (Some h) is = inr (passed h.card.number h.card.bytes is.0 is.1)

-- ---- frame by frame

abbrev EachFrom : (ℕ → Frame → Type 0) → ℕ → List Frame → Type 0
EachFrom P number [] = Unit {0}
EachFrom P number (f ∷ fs) = P number f × EachFrom P (number + 1) fs

each_from : (P : ℕ → Frame → Type 0) (number : ℕ) (fs : List Frame) →
    ((place : ℕ) (f : Frame) → slice_get fs place ≡ Some f → P (place + number) f) →
    EachFrom P number fs
each_from P number [] each = tt
each_from P number (f ∷ fs) each = (
  subst (λ n. P n f) (let zero_in : 0 + number ≡ number = omega arith in zero_in)
      (each 0 f refl),
  each_from P (number + 1) fs (λ place g there.
      let moved : suc place + number ≡ place + (number + 1) = omega arith in
      subst (λ n. P n g) moved (each (suc place) g there)),
)

-- ---- lengths

take_short : (n : ℕ) (xs : List ℕ) → length (take n xs) ≤ n
take_short zero xs = omega arith
take_short (suc n) [] = omega arith
take_short (suc n) (x ∷ xs) = omega (arith, take_short n xs)

abbrev IsCutSmall : Option LinkCut → Type 0
IsCutSmall o = IfSome o (λ (cut : LinkCut). cut.length ≤ tagged_header_length)

cut_small : (link : ℕ) (frame : List ℕ) → IsCutSmall (cut_of link frame)
unfolding cut_of
cut_small link frame =
    either IsCutSmall (link == link_ethernet) (ethernet_cut frame) _
    (either IsCutSmall
    (nat_le ethernet_header_length (length frame) && is_ip_type (ethernet_type frame)) _ _
    (omega arith)
    (either IsCutSmall (nat_le tagged_header_length (length frame)
    && (ethernet_type frame == vlan_type) && is_ip_type (tagged_type frame)) _ _ (omega arith) tt))
    (either IsCutSmall (link == link_raw) (raw_cut frame) _
    (either IsCutSmall (length frame == 0) _ _ tt
    (either IsCutSmall (version_of frame == ipv4_version) _ _ (omega arith)
    (either IsCutSmall (version_of frame == ipv6_version) _ _ (omega arith) tt)))
    (either IsCutSmall (link == link_ipv4) _ _ (omega arith)
    (either IsCutSmall (link == link_ipv6) _ _ (omega arith) tt)))

-- a line's payload is no longer than a frame may be
payload_small : (link : ℕ) (f : Frame) (l : FateLine) → length f.bytes ≤ longest_packet →
    IsPayload link f l → length l.payload ≤ longest_packet
payload_small link f l small (inl (same, only)) = omega (arith, small, ap length same)
payload_small link f l small (inr (inl (cut, there, same))) =
    omega (arith, small, ap length same, length-drop cut.length f.bytes)
payload_small link f l small (inr (inr short)) = omega (arith, short)

-- a released frame is no longer than a frame may be
written_small : (link : ℕ) (f : Frame) (l : FateLine) → length f.bytes ≤ longest_packet →
    is_release l.fate ≡ true → IsPayload link f l →
    length (text.written link f l).bytes ≤ longest_packet
written_small link f l small release is = by (cut_of link f.bytes) refl (cut_small link f.bytes)
  where
    Goal : Option LinkCut → Type 0
    Goal o = length (text.written_cut o f l).bytes ≤ longest_packet

    behind : (cut : LinkCut) → length (take cut.length f.bytes ++ l.payload) ≤ longest_packet →
        Goal (Some cut)
    behind cut fits =
        either (λ (g : Frame). length g.bytes ≤ longest_packet)
        (text.is_unhooked l.fate || bytes_eq (drop cut.length f.bytes) l.payload) f _ small fits

    unhooked : (cut : LinkCut) → text.is_unhooked l.fate ≡ true → Goal (Some cut)
    unhooked cut so = rw so small

    by : (o : Option LinkCut) → cut_of link f.bytes ≡ o → IsCutSmall o → Goal o
    by None there cut_is = small
    by (Some cut) there cut_is = of is
      where
        of : IsPayload link f l → Goal (Some cut)
        of (inl (same, only)) = unhooked cut (ap text.is_unhooked (only release))
        of (inr (inl (other, here, same))) =
            let one : Some other ≡ Some cut = sym here ∙ there in
            let cuts : other ≡ cut = cc in
            let bytes : l.payload ≡ drop cut.length f.bytes =
            same ∙ ap (λ (c : LinkCut). drop c.length f.bytes) cuts in
            behind cut (omega (
              arith,
              small,
              ap length (ap (λ (b : List ℕ). take cut.length f.bytes ++ b) bytes
                  ∙ take-append-drop cut.length f.bytes),
            ))
        of (inr (inr short)) =
            behind cut (omega (
              arith,
              short,
              cut_is,
              length-append (take cut.length f.bytes) l.payload,
              take_short cut.length f.bytes,
            ))

-- ---- all lines

module _ (link : ℕ) (hs : List Happening) (lost : List Lost) where
  abbrev line_at : ℕ → Frame → FateLine
  line_at number f = fate_line (is_lost lost number) number f (last_of number hs None)

  abbrev IsGood : ℕ → Frame → Type 0
  IsGood number f = IsPayload link f (line_at number f)

  abbrev AreSmall : List Frame → Type 0
  AreSmall fs = AllByRecursion (λ (f : Frame). length f.bytes ≤ longest_packet) fs

  lines_small : (number : ℕ) (fs : List Frame) → AreSmall fs → EachFrom IsGood number fs →
      AllByRecursion (λ (l : FateLine). length l.payload ≤ longest_packet)
      (fates_from hs lost number fs)
  lines_small number [] small good = tt
  lines_small number (f ∷ fs) small good = (
    payload_small link f (line_at number f) small.0 good.0,
    lines_small (number + 1) fs small.1 good.1,
  )

  released_small : (number : ℕ) (fs : List Frame) → AreSmall fs → EachFrom IsGood number fs →
      AreSmall (text.frames link fs (fates_from hs lost number fs))
  released_small number [] small good = tt
  released_small number (f ∷ fs) small good =
      by (is_release (line_at number f).fate) refl
      (released_small (number + 1) fs small.1 good.1)
    where
      by : (b : Bool) → is_release (line_at number f).fate ≡ b →
          AreSmall (text.frames link fs (fates_from hs lost (number + 1) fs)) →
          AreSmall (cond b (text.written link f (line_at number f)
          ∷ text.frames link fs (fates_from hs lost (number + 1) fs))
          (text.frames link fs (fates_from hs lost (number + 1) fs)))
      by true release rest =
          (written_small link f (line_at number f) small.0 release good.0, rest)
      by false kept rest = rest

  line_good : (number : ℕ) (fs : List Frame) → EachFrom IsGood number fs → (place : ℕ) (f : Frame)
      (l : FateLine) → slice_get fs place ≡ Some f →
      slice_get (fates_from hs lost number fs) place ≡ Some l → IsPayload link f l
  line_good number [] good place f l there line = absurd (cc)
  line_good number (g ∷ fs) good zero f l there line =
      let same : g ≡ f = cc in
      let own : line_at number g ≡ l = cc in
      subst (λ (k : FateLine). IsPayload link f k) own
      (subst (λ (k : Frame). IsPayload link k (line_at number g)) same good.0)
  line_good number (g ∷ fs) good (suc place) f l there line =
      line_good (number + 1) fs good.1 place f l there line

module _ (tables : RuleTables) (key link : ℕ) (entered : List Card) (h : Histories)
    (frames : List Frame) (read : AreRead link frames entered) (short : AreShort h.entries)
    (sound : AreSound tables key entered h.entries h.lost) where
  read_of : (place : ℕ) (f : Frame) → slice_get frames place ≡ Some f → (number : ℕ) →
      number ≡ place + 1 → (cs : List Card) →
      AllByRecursion (λ (c : Card). (place : ℕ) (f : Frame) → slice_get frames place ≡ Some f →
      c.number ≡ place + 1 → IsRead link f c.bytes) cs →
      AllByRecursion (λ (c : Card). line_test link number f c.number c.bytes ≡ true) cs
  read_of place f there number is [] all = tt
  read_of place f there number is (c ∷ cs) all = (
    read_passes link number f c (λ same. all.0 place f there (same ∙ is)),
    read_of place f there number is cs all.1,
  )

  good_at : (place : ℕ) (f : Frame) → slice_get frames place ≡ Some f →
      IsGood link (happenings h.entries) h.lost (place + 1) f
  good_at place f there =
      let number = place + 1 in
      let test = line_test link number f in
      let given = short_passes link number f in
      let all : All (λ (c : Card). test c.number c.bytes ≡ true) entered =
      All-from_recursion (λ (c : Card). test c.number c.bytes ≡ true) entered
      (read_of place f there number refl entered
      (recursion_from_All (λ (c : Card). (place : ℕ) (f : Frame) → slice_get frames place ≡ Some f →
      c.number ≡ place + 1 → IsRead link f c.bytes) entered read)) in
      line_payload link number f (is_lost h.lost number)
      (last_of number (happenings h.entries) None)
      (last_is number (PassedBy test given) (happenings h.entries) None
      (each_right test given tables key entered h.entries h.lost all short sound) tt)

  all_good : EachFrom (IsGood link (happenings h.entries) h.lost) 1 frames
  all_good = each_from (IsGood link (happenings h.entries) h.lost) 1 frames good_at

  pub payloads_come : (place : ℕ) (f : Frame) (l : FateLine) → slice_get frames place ≡ Some f →
      slice_get (fates h frames) place ≡ Some l → IsPayload link f l
  payloads_come = line_good link (happenings h.entries) h.lost 1 frames all_good

  pub payloads_fit : All (λ (f : Frame). length f.bytes ≤ longest_packet) frames →
      All (λ (l : FateLine). length l.payload ≤ longest_packet) (fates h frames)
  payloads_fit small =
      All-from_recursion (λ (l : FateLine). length l.payload ≤ longest_packet) (fates h frames)
      (lines_small link (happenings h.entries) h.lost 1 frames
      (recursion_from_All (λ (f : Frame). length f.bytes ≤ longest_packet) frames small) all_good)

  pub written_fit : All (λ (f : Frame). length f.bytes ≤ longest_packet) frames →
      All (λ (f : Frame). length f.bytes ≤ longest_packet)
      (text.frames link frames (fates h frames))
  written_fit small =
      All-from_recursion (λ (f : Frame). length f.bytes ≤ longest_packet)
      (text.frames link frames (fates h frames))
      (released_small link (happenings h.entries) h.lost 1 frames
      (recursion_from_All (λ (f : Frame). length f.bytes ≤ longest_packet) frames small) all_good)

pub released_held : (tables : RuleTables) (key : ℕ) (entered : List Card) (h : Histories)
    (c : Capture) → AreRead c.link c.frames entered → AreShort h.entries →
    AreSound tables key entered h.entries h.lost → IsHeld c →
    IsHeld (text.released c (fates h c.frames))
released_held tables key entered h c read short sound held = record {
  link = held.link;
  lengths = written_fit tables key c.link entered h c.frames read short sound held.lengths;
}
