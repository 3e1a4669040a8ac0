-- Bytes are cut message by message.
use Rattle.std.proofs.Common.{◌≡◌, ◌∙◌, ℕ, zero, suc, ◌≤◌, List, [], ◌∷◌, refl, sym, ap}
use Rattle.std.proofs.Common.{Bool, true, false, Option, Some, None, length, drop, arith}
use Rattle.std.specs.Prelude.{min, unwrap_or, ◌&&◌, nat_le}
use Rattle.std.proofs.lemmas.Bool.{leb-true}
use Rattle.std.proofs.lemmas.List.{length-drop}
use Rattle.netlink_codec.specs.Messages.{NetlinkMessage, first_message, has_message}
use Rattle.netlink_codec.specs.Messages.{told_length, pad}
use Rattle.netlink_codec.specs.Numbers.{message_header_length}
use Rattle.run_parts.specs.Datagrams.{cut_in, messages_in, with_those_behind}
use Rattle.log_audit.proofs.MessageBytes.{framed, and_true}

-- a message uses a byte at least, and no more than there are
padded : (n : ℕ) → 16 ≤ n → 1 ≤ pad n
padded n large = omega arith

pub used_within : (bytes : List ℕ) (m : NetlinkMessage) (used : ℕ) →
    first_message bytes ≡ Some (m, used) → (1 ≤ used) × (used ≤ length bytes)
unfolding first_message
used_within bytes m used first = by (has_message bytes) refl first
  where
    by : (b : Bool) → has_message bytes ≡ b → framed b bytes ≡ Some (m, used) →
        (1 ≤ used) × (used ≤ length bytes)
    by true is same =
        let is_used : min (pad (told_length bytes)) (length bytes) ≡ used =
        ap (λ (o : Option (NetlinkMessage × ℕ)). (unwrap_or o (m, used)).1) same in
        let parts = and_true (nat_le message_header_length (length bytes))
        (nat_le message_header_length (told_length bytes)
        && nat_le (told_length bytes) (length bytes)) is in
        let more = and_true (nat_le message_header_length (told_length bytes))
        (nat_le (told_length bytes) (length bytes)) parts.1 in
        let header = leb-true message_header_length (told_length bytes) more.0 in
        let room = leb-true message_header_length (length bytes) parts.0 in
        let large = padded (told_length bytes) header in
        (omega (arith, is_used, large, room), omega (arith, is_used))
    by false is same = let wrong : None ≡ Some (m, used) = same in absurd cc

none_in_none : (looks : ℕ) (bytes : List ℕ) → length bytes ≡ 0 → cut_in looks bytes ≡ []
none_in_none zero bytes none = refl
none_in_none (suc looks) bytes none = by (first_message bytes) refl
  where
    by : (o : Option (NetlinkMessage × ℕ)) → first_message bytes ≡ o →
        with_those_behind (cut_in looks) bytes o ≡ []
    by None first = refl
    by (Some (m, used)) first =
        let uses = used_within bytes m used first in absurd (omega (arith, uses.0, uses.1, none))

behind : (one two : ℕ) (bytes : List ℕ) (o : Option (NetlinkMessage × ℕ)) →
    first_message bytes ≡ o → length bytes ≤ suc one → length bytes ≤ suc two →
    ((rest : List ℕ) → length rest ≤ one → length rest ≤ two →
    cut_in one rest ≡ cut_in two rest) →
    with_those_behind (cut_in one) bytes o ≡ with_those_behind (cut_in two) bytes o
behind one two bytes None first fit_one fit_two on = refl
behind one two bytes (Some (m, used)) first fit_one fit_two on =
    let uses = used_within bytes m used first in
    let shorter = length-drop used bytes in
    let low : 1 ≤ used = uses.0 in
    let fits_one : length (drop used bytes) ≤ one = omega (arith, shorter, low) in
    let fits_two : length (drop used bytes) ≤ two = omega (arith, shorter, low) in
    ap (λ ms. m ∷ ms) (on (drop used bytes) fits_one fits_two)

-- more looks than there are bytes change nothing
same_cut : (one two : ℕ) (bytes : List ℕ) → length bytes ≤ one → length bytes ≤ two →
    cut_in one bytes ≡ cut_in two bytes
same_cut zero two bytes fit_one fit_two =
    let none : length bytes ≡ 0 = omega arith in sym (none_in_none two bytes none)
same_cut (suc one) zero bytes fit_one fit_two =
    let none : length bytes ≡ 0 = omega arith in none_in_none (suc one) bytes none
same_cut (suc one) (suc two) bytes fit_one fit_two =
    behind one two bytes (first_message bytes) refl fit_one fit_two (same_cut one two)

pub cut_first : (bytes : List ℕ) (m : NetlinkMessage) (used : ℕ) →
    first_message bytes ≡ Some (m, used) → messages_in bytes ≡ m ∷ messages_in (drop used bytes)
cut_first bytes m used first = by (length bytes) refl
  where
    by : (n : ℕ) → length bytes ≡ n → cut_in n bytes ≡ m ∷ messages_in (drop used bytes)
    by zero is =
        let uses = used_within bytes m used first in absurd (omega (arith, uses.0, uses.1, is))
    by (suc n) is =
        let uses = used_within bytes m used first in
        let shorter = length-drop used bytes in
        let low : 1 ≤ used = uses.0 in
        let fits : length (drop used bytes) ≤ n = omega (arith, shorter, low, is) in
        let own : length (drop used bytes) ≤ length (drop used bytes) = omega arith in
        ap (with_those_behind (cut_in n) bytes) first
        ∙ ap (λ ms. m ∷ ms) (same_cut n (length (drop used bytes)) (drop used bytes) fits own)

pub cut_none : (bytes : List ℕ) → first_message bytes ≡ None → messages_in bytes ≡ []
cut_none bytes first = by (length bytes)
  where
    by : (n : ℕ) → cut_in n bytes ≡ []
    by zero = refl
    by (suc n) = ap (with_those_behind (cut_in n) bytes) first
