-- A message's own bytes begin with it.
use Rattle.std.proofs.Common.{◌≡◌, ◌∙◌, ℕ, zero, suc, ◌≤◌, ◌+◌, ◌-◌, List}
use Rattle.std.proofs.Common.{refl, sym, ap, subst, Bool, true, false, Option, Some, None}
use Rattle.std.proofs.Common.{length, take, drop, arith}
use Rattle.std.specs.Prelude.{option_map, unwrap_or, ◌&&◌, nat_le, min, if◌then◌else◌}
use Rattle.std.specs.List.{AllByRecursion}
use Rattle.std.proofs.lemmas.List.{take-take, length-take-le, drop-take}
use Rattle.std.proofs.lemmas.Bool.{leb-true, le-leb}
use Rattle.byteorder.specs.Endian.{little_number}
use Rattle.byteorder.specs.Numbers.{little_from-take}
use Rattle.netlink_codec.specs.Fields.{told}
use Rattle.netlink_codec.specs.Messages.{NetlinkMessage, first_message, has_message, told_message}
use Rattle.netlink_codec.specs.Messages.{told_length, is_whole, pad}
use Rattle.netlink_codec.specs.Numbers.{message_header_length, message_kind}
use Rattle.netlink_codec.specs.Numbers.{message_flags, message_sequence}
use Rattle.run_parts.specs.Datagrams.{cut_in, messages_in, with_those_behind}
use Rattle.log_audit.specs.Telling.{IsOwn}

-- the message in a pair
abbrev pub message_in : Option (NetlinkMessage × ℕ) → Option NetlinkMessage
message_in o = option_map (λ (f : NetlinkMessage × ℕ). f.0) o

-- a field of a header that stands before a place is told by the bytes up to there
field_take : (at width behind : ℕ) (xs : List ℕ) → width ≤ behind →
    little_number width (drop at (take (at + behind) xs)) ≡ little_number width (drop at xs)
field_take at width behind xs fits =
    ap (little_number width) (drop-take at behind xs)
    ∙ little_from-take 0 width behind (drop at xs) (omega arith)

told_take : (at width total : ℕ) (xs : List ℕ) → at + width ≤ total →
    little_number width (drop at (take total xs)) ≡ little_number width (drop at xs)
told_take at width total xs fits =
    let fit : width ≤ total - at = omega arith in
    let is : at + (total - at) ≡ total = omega arith in
    ap (λ n. little_number width (drop at (take n xs))) (sym is)
    ∙ field_take at width (total - at) xs fit

pub and_true : (a b : Bool) → (a && b) ≡ true → (a ≡ true) × (b ≡ true)
and_true true b both = (refl, both)
and_true false b both = let wrong : false ≡ true = both in absurd cc

-- what is told of a message's own bytes is the message
module _ (bytes : List ℕ) (header : message_header_length ≤ told_length bytes)
    (within : told_length bytes ≤ length bytes) where
  abbrev own : List ℕ
  own = take (told_length bytes) bytes

  same_total : told_length own ≡ told_length bytes
  same_total = told_take 0 4 (told_length bytes) bytes (omega arith)

  own_length : length own ≡ told_length bytes
  own_length = length-take-le (told_length bytes) bytes within

  own_whole : take (told_length own) own ≡ own
  own_whole =
      ap (λ n. take n own) same_total
      ∙ take-take (told_length bytes) (told_length bytes) bytes (omega arith)

  same_message : told_message own ≡ told_message bytes
  same_message =
      ap (λ n. record (told_message own) { kind = n })
      (told_take 4 2 (told_length bytes) bytes (omega arith))
      ∙ ap (λ n. record (told_message own) { kind = told message_kind bytes; flags = n })
      (told_take 6 2 (told_length bytes) bytes (omega arith))
      ∙ ap (λ n. record (told_message own) {
        kind = told message_kind bytes;
        flags = told message_flags bytes;
        sequence = n;
      }) (told_take 8 4 (told_length bytes) bytes (omega arith))
      ∙ ap (λ n. record (told_message own) {
        kind = told message_kind bytes;
        flags = told message_flags bytes;
        sequence = told message_sequence bytes;
        port = n;
      }) (told_take 12 4 (told_length bytes) bytes (omega arith))
      ∙ ap (λ xs. record (told_message bytes) {
        body = drop message_header_length xs;
        whole = xs;
      }) own_whole

  still_whole : has_message bytes ≡ true → has_message own ≡ true
  still_whole is =
      ap (λ n. is_whole message_header_length n (length own)) same_total
      ∙ ap (is_whole message_header_length (told_length bytes)) own_length
      ∙ whole
    where
      whole : is_whole message_header_length (told_length bytes) (told_length bytes) ≡ true
      whole =
          rw (le-leb message_header_length (told_length bytes) header)
          (le-leb (told_length bytes) (told_length bytes) (omega arith))

abbrev pub framed : Bool → List ℕ → Option (NetlinkMessage × ℕ)
framed b bytes =
    if b then Some (told_message bytes, min (pad (told_length bytes)) (length bytes)) else None

pub own_message : (bytes : List ℕ) (m : NetlinkMessage) (used : ℕ) →
    first_message bytes ≡ Some (m, used) → IsOwn m
unfolding first_message
own_message bytes m used first = by (has_message bytes) refl first
  where
    by : (b : Bool) → has_message bytes ≡ b →
        framed b bytes ≡ Some (m, used) →
        message_in (framed (has_message m.whole) m.whole) ≡ Some m
    by true is same =
        let is_told : told_message bytes ≡ m =
        ap (λ (o : Option (NetlinkMessage × ℕ)). (unwrap_or o (m, used)).0) same in
        let P : NetlinkMessage → Type 0 = λ x.
        message_in (framed (has_message x.whole) x.whole) ≡ Some x in
        let parts = and_true (nat_le message_header_length (length bytes))
        (nat_le message_header_length (told_length bytes)
        && nat_le (told_length bytes) (length bytes)) is in
        let more = and_true (nat_le message_header_length (told_length bytes))
        (nat_le (told_length bytes) (length bytes)) parts.1 in
        let header = leb-true message_header_length (told_length bytes) more.0 in
        let within = leb-true (told_length bytes) (length bytes) more.1 in
        let own = take (told_length bytes) bytes in
        subst P is_told
        (ap (λ b. message_in (framed b own))
        (still_whole bytes header within is)
        ∙ ap Some (same_message bytes header within))
    by false is same = let wrong : None ≡ Some (m, used) = same in absurd cc

-- so it is of each message that bytes are cut into
pub own_messages : (bytes : List ℕ) → AllByRecursion IsOwn (messages_in bytes)
own_messages bytes = cut (length bytes) bytes
  where
    behind : (looks : ℕ) → ((bs : List ℕ) → AllByRecursion IsOwn (cut_in looks bs)) →
        (bs : List ℕ) (o : Option (NetlinkMessage × ℕ)) → first_message bs ≡ o →
        AllByRecursion IsOwn (with_those_behind (cut_in looks) bs o)
    behind looks each bs None is = tt
    behind looks each bs (Some (m, used)) is = (own_message bs m used is, each (drop used bs))

    cut : (looks : ℕ) (bs : List ℕ) → AllByRecursion IsOwn (cut_in looks bs)
    cut zero bs = tt
    cut (suc looks) bs = behind looks (cut looks) bs (first_message bs) refl
