-- The message that a text begins with, and what reading finds there.
use Rattle.std.proofs.Common.{◌≡◌, ℕ, ◌+◌, ◌^◌, ◌<◌, ◌≤◌, min, List, ◌++◌, length}
use Rattle.std.proofs.Common.{take, drop, Option, Some, None, refl, sym, ap, ap₂, subst, ◌∙◌, arith}
use Rattle.std.proofs.Common.{inl, inr}
use Rattle.std.proofs.lemmas.List.{take-append-drop, take_at, length-append, length-drop}
use Rattle.std.proofs.lemmas.List.{length-take-le, take-take}
use Rattle.byteorder.specs.Endian.{little_bytes}
use Rattle.byteorder.specs.Numbers.{little_from-lt, little_number-reads_back}
use Rattle.std.specs.Prelude.{◌↔◌, option_map, IsNone, IfSome}
use Rattle.netlink_codec.specs.Fields.{told}
use Rattle.netlink_codec.specs.Numbers.{message_flags, message_header_length, message_kind}
use Rattle.netlink_codec.specs.Numbers.{message_port, message_sequence}
use Rattle.netlink_codec.specs.declared.messages.Message.{Message}
use Rattle.netlink_codec.specs.Messages.{AreBytes, message_of, framed_of, NetlinkMessage}
use Rattle.netlink_codec.specs.Messages.{FitsHeader, Front, HasNoMessage, header_text, message_text}
use Rattle.netlink_codec.specs.Messages.{message_with, told_length, told_message}
use Rattle.netlink_codec.specs.Messages.{first_message, pad}
use Rattle.netlink_codec.proofs.Bytes.{AreBytes-drop, field_behind}
use Rattle.netlink_codec.proofs.Whole.{is_whole-true, is_whole-false, whole_or_not}

-- reading what a message's parts were written as, with anything after it, finds those parts
pub first_message-text : (kind flags sequence port : ℕ) (body behind : List ℕ) →
    FitsHeader (message_with kind flags sequence port body) →
    first_message (message_text kind flags sequence port body ++ behind)
    ≡ Some (
      message_with kind flags sequence port body,
      min
          (pad (length (message_text kind flags sequence port body)))
          (length (message_text kind flags sequence port body ++ behind)),
    )
unfolding message_text first_message
first_message-text kind flags sequence port body behind fits =
    let total : ℕ = message_header_length + length body in
    let bytes : List ℕ = message_text kind flags sequence port body ++ behind in
    let last : List ℕ = little_bytes 4 port ++ body ++ behind in
    let third : List ℕ = little_bytes 4 sequence ++ last in
    let second : List ℕ = little_bytes 2 flags ++ third in
    let first : List ℕ = little_bytes 2 kind ++ second in
    let tells : told_length bytes ≡ total = little_number-reads_back 4 total first fits.length in
    let k : told message_kind bytes ≡ kind = little_number-reads_back 2 kind second fits.kind in
    let f : told message_flags bytes ≡ flags = little_number-reads_back 2 flags third fits.flags in
    let s : told message_sequence bytes ≡ sequence =
    little_number-reads_back 4 sequence last fits.sequence in
    let p : told message_port bytes ≡ port =
    little_number-reads_back 4 port (body ++ behind) fits.port in
    let size : length (message_text kind flags sequence port body) ≡ total = omega arith in
    let room : length bytes ≡ total + length behind = omega (arith, length-append body behind) in
    let w : take total bytes ≡ message_text kind flags sequence port body =
    take_at (message_text kind flags sequence port body) behind total size in
    let yes =
    is_whole-true message_header_length (told_length bytes) (length bytes) (omega arith)
    (omega arith) (omega arith) in
    rw (yes, tells, k, f, s, p, w, size) refl

-- the message that the bytes begin with is the one that reading finds
pub Front-first : (bytes : List ℕ) (m : NetlinkMessage) (used : ℕ) → Front bytes m used →
    first_message bytes ≡ Some (m, used)
Front-first bytes m used front =
    let rest : List ℕ = front.behind.0 in
    let text : List ℕ = message_text m.kind m.flags m.sequence m.port m.body in
    let is : bytes ≡ text ++ rest = front.behind.1 ∙ ap (λ (w : List ℕ). w ++ rest) front.text in
    let uses : used ≡ min (pad (length text)) (length (text ++ rest)) =
    front.uses ∙ ap₂ (λ (w b : List ℕ). min (pad (length w)) (length b)) front.text is in
    let parts : m ≡ message_with m.kind m.flags m.sequence m.port m.body =
    ap (λ (w : List ℕ). record m { whole = w }) front.text in
    let fits = subst FitsHeader parts front.fits in
    ap first_message is ∙ first_message-text m.kind m.flags m.sequence m.port m.body rest fits
    ∙ sym (ap₂ (λ (x : NetlinkMessage) (y : ℕ). Some (x, y)) parts uses)

-- sixteen bytes are the bytes of the five fields
fields : (bytes : List ℕ) → AreBytes bytes → 16 ≤ length bytes →
    header_text (told message_kind bytes) (told message_flags bytes) (told message_sequence bytes)
    (told message_port bytes) (told_length bytes) ≡ take 16 bytes
fields bytes h long =
    let B : List ℕ = little_bytes 2 (told message_kind bytes) in
    let C : List ℕ = little_bytes 2 (told message_flags bytes) in
    let D : List ℕ = little_bytes 4 (told message_sequence bytes) in
    let E : List ℕ = little_bytes 4 (told message_port bytes) in
    ap (λ (front : List ℕ). front ++ B ++ C ++ D ++ E) (field_behind 0 4 bytes h (omega arith))
    ∙ ap (λ (front : List ℕ). front ++ C ++ D ++ E) (field_behind 4 2 bytes h (omega arith))
    ∙ ap (λ (front : List ℕ). front ++ D ++ E) (field_behind 6 2 bytes h (omega arith))
    ∙ ap (λ (front : List ℕ). front ++ E) (field_behind 8 4 bytes h (omega arith))
    ∙ field_behind 12 4 bytes h (omega arith)

-- the bytes begin with a message where the test says so
pub told-Front : (bytes : List ℕ) → AreBytes bytes → message_header_length ≤ length bytes →
    message_header_length ≤ told_length bytes → told_length bytes ≤ length bytes →
    Front bytes (told_message bytes) (min (pad (told_length bytes)) (length bytes))
unfolding message_text
told-Front bytes h long least most =
    let total : ℕ = told_length bytes in
    let whole : List ℕ = take total bytes in
    let size : length whole ≡ total = length-take-le total bytes most in
    let body-size : message_header_length + length (drop 16 whole) ≡ total =
    omega (arith, length-drop 16 whole) in
    let below : total < 2 ^ 32 = little_from-lt 0 4 bytes h in
    let front : take 16 whole ≡ take 16 bytes = take-take 16 total bytes least in
    record {
      fits = record {
        kind = little_from-lt 0 2 (drop 4 bytes) (AreBytes-drop 4 bytes h);
        flags = little_from-lt 0 2 (drop 6 bytes) (AreBytes-drop 6 bytes h);
        sequence = little_from-lt 0 4 (drop 8 bytes) (AreBytes-drop 8 bytes h);
        port = little_from-lt 0 4 (drop 12 bytes) (AreBytes-drop 12 bytes h);
        length = omega arith;
      };
      text = sym (take-append-drop 16 whole) ∙ ap (λ (x : List ℕ). x ++ drop 16 whole)
          (front ∙ sym (fields bytes h long)
          ∙ ap (λ (n : ℕ). header_text (told message_kind bytes) (told message_flags bytes)
          (told message_sequence bytes) (told message_port bytes) n) (sym body-size));
      behind = (drop total bytes, sym (take-append-drop total bytes));
      uses = ap (λ (n : ℕ). min (pad n) (length bytes)) (sym size);
    }

pub first_message-none : (bytes : List ℕ) → HasNoMessage bytes → first_message bytes ≡ None
unfolding first_message
first_message-none bytes missing =
    rw (is_whole-false message_header_length (told_length bytes) (length bytes) missing) refl

pub first_message-some : (bytes : List ℕ) → message_header_length ≤ length bytes →
    message_header_length ≤ told_length bytes → told_length bytes ≤ length bytes →
    first_message bytes ≡ Some (told_message bytes, min (pad (told_length bytes)) (length bytes))
unfolding first_message
first_message-some bytes long least most =
    let yes =
    is_whole-true message_header_length (told_length bytes) (length bytes) long least most in
    rw yes refl

-- the bytes begin with what reading finds
pub first_message-Front : (bytes : List ℕ) (m : NetlinkMessage) (used : ℕ) → AreBytes bytes →
    Some (m, used) ≡ first_message bytes → Front bytes m used
first_message-Front bytes m used h e =
    elim (whole_or_not message_header_length (told_length bytes) (length bytes)) [
      | inl has ↦
          let reads : NetlinkMessage × ℕ =
          (told_message bytes, min (pad (told_length bytes)) (length bytes)) in
          let found : Some (m, used) ≡ Some reads =
          e ∙ first_message-some bytes has.long has.least has.most in
          let same : reads ≡ (m, used) = cc in
          let P : NetlinkMessage × ℕ → Type 0 = λ p. Front bytes p.0 p.1 in
          subst P same (told-Front bytes h has.long has.least has.most)
      | inr missing ↦ let none = e ∙ first_message-none bytes missing in absurd cc
    ]

-- ---- for a result that is what reading gives

pub found_stands : (bytes : List ℕ) → AreBytes bytes → (r : Option (Message × ℕ)) →
    option_map framed_of r ≡ first_message bytes →
    IfSome r (λ framed. Front bytes (message_of framed.0) framed.1)
found_stands bytes h None e = tt
found_stands bytes h (Some x) e = first_message-Front bytes (message_of x.0) x.1 h e

pub none_exactly : (bytes : List ℕ) (r : Option (Message × ℕ)) →
    option_map framed_of r ≡ first_message bytes → IsNone r ↔ HasNoMessage bytes
none_exactly bytes None e =
    elim (whole_or_not message_header_length (told_length bytes) (length bytes)) [
      | inl has ↦ let some = e ∙ first_message-some bytes has.long has.least has.most in absurd cc
      | inr missing ↦ (λ _. missing, λ _. refl)
    ]
none_exactly bytes (Some x) e =
    (λ none. absurd cc, λ missing. let none = e ∙ first_message-none bytes missing in absurd cc)

-- the text of a message is its header and its body
pub length-message_text : (kind flags sequence port : ℕ) (body : List ℕ) →
    length (message_text kind flags sequence port body) ≡ message_header_length + length body
unfolding message_text
length-message_text kind flags sequence port body = omega arith
