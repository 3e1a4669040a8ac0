-- A message is known by its own bytes.
use Rattle.std.proofs.Common.{◌≡◌, ◌≤◌, ◌<◌, ◌+◌, ◌-◌, ℕ, zero, suc, List, length, take, drop}
use Rattle.std.proofs.Common.{Option, Some, None, Bool, true, false, cond, refl, ap, ◌∙◌, subst}
use Rattle.std.proofs.Common.{arith, take_all}
use Rattle.std.specs.Prelude.{slice_index, min, nat_le, ◌&&◌, option_map}
use Rattle.std.specs.List.{AllByRecursion}
use Rattle.std.proofs.lemmas.Bool.{and_parts, and_from, leb-true, le-leb}
use Rattle.std.proofs.lemmas.List.{get_or-take, drop-take, length-take}
use Rattle.netlink_codec.specs.Fields.{told}
use Rattle.netlink_codec.specs.Numbers.{message_header_length, message_kind}
use Rattle.netlink_codec.specs.Numbers.{message_flags, message_sequence, message_port}
use Rattle.netlink_codec.specs.Messages.{NetlinkMessage, first_message, has_message, told_length}
use Rattle.netlink_codec.specs.Messages.{told_message, is_whole, pad}
use Rattle.run_parts.specs.Datagrams.{cut_in, with_those_behind}
use Rattle.port_audit.specs.Pleading.{message_in}

-- ---- numbers in the first bytes

read_within : (at i size : ℕ) (bytes : List ℕ) → at + i < size →
    slice_index (drop at (take size bytes)) i ≡ slice_index (drop at bytes) i
read_within at i size bytes within =
    let split : size ≡ at + (size - at) = omega (arith, within) in
    ap (λ n. slice_index (drop at (take n bytes)) i) split
    ∙ ap (λ bs. slice_index bs i) (drop-take at (size - at) bytes)
    ∙ get_or-take (size - at) (drop at bytes) i 0 (omega (arith, within))

told_two : (at size : ℕ) (bytes : List ℕ) → at + 2 ≤ size →
    told (record { at = at; width = 2 }) (take size bytes)
    ≡ told (record { at = at; width = 2 }) bytes
told_two at size bytes within =
    let a = read_within at 0 size bytes (omega (arith, within)) in
    let b = read_within at 1 size bytes (omega (arith, within)) in
    cc

told_four : (at size : ℕ) (bytes : List ℕ) → at + 4 ≤ size →
    told (record { at = at; width = 4 }) (take size bytes)
    ≡ told (record { at = at; width = 4 }) bytes
told_four at size bytes within =
    let a = read_within at 0 size bytes (omega (arith, within)) in
    let b = read_within at 1 size bytes (omega (arith, within)) in
    let c = read_within at 2 size bytes (omega (arith, within)) in
    let d = read_within at 3 size bytes (omega (arith, within)) in
    cc

-- ---- the message

-- its own bytes begin with it
abbrev pub IsKnown : NetlinkMessage → Type 0
IsKnown m = message_in m.whole ≡ Some m

module _ (bytes : List ℕ) (has : has_message bytes ≡ true) where
  abbrev size : ℕ
  size = told_length bytes

  abbrev own : List ℕ
  own = take size bytes

  header_fits : message_header_length ≤ size
  header_fits =
      let both = and_parts (nat_le message_header_length (length bytes))
      (nat_le message_header_length size && nat_le size (length bytes)) has in
      leb-true message_header_length size
      (and_parts (nat_le message_header_length size) (nat_le size (length bytes)) both.1).0

  all_there : size ≤ length bytes
  all_there =
      let both = and_parts (nat_le message_header_length (length bytes))
      (nat_le message_header_length size && nat_le size (length bytes)) has in
      leb-true size (length bytes)
      (and_parts (nat_le message_header_length size) (nat_le size (length bytes)) both.1).1

  own_length : length own ≡ size
  own_length = length-take size bytes ∙ omega (arith, all_there)

  same_size : told_length own ≡ size
  same_size = told_four 0 size bytes (omega (arith, header_fits))

  own_whole : take (told_length own) own ≡ own
  own_whole =
      ap (λ n. take n own) same_size
      ∙ take_all size own (omega (arith, own_length))

  own_has : has_message own ≡ true
  own_has =
      ap (λ n. is_whole message_header_length n (length own)) same_size
      ∙ ap (λ n. is_whole message_header_length size n) own_length
      ∙ and_from (nat_le message_header_length size)
      (nat_le message_header_length size && nat_le size size)
      (le-leb message_header_length size header_fits)
      (and_from (nat_le message_header_length size) (nat_le size size)
      (le-leb message_header_length size header_fits)
      (le-leb size size (omega arith)))

  same_message : told_message own ≡ told_message bytes
  same_message =
      let kind : told message_kind own ≡ told message_kind bytes =
      told_two 4 size bytes (omega (arith, header_fits)) in
      let flags : told message_flags own ≡ told message_flags bytes =
      told_two 6 size bytes (omega (arith, header_fits)) in
      let sequence : told message_sequence own ≡ told message_sequence bytes =
      told_four 8 size bytes (omega (arith, header_fits)) in
      let port : told message_port own ≡ told message_port bytes =
      told_four 12 size bytes (omega (arith, header_fits)) in
      let body : drop message_header_length (take (told_length own) own)
      ≡ drop message_header_length own = ap (drop message_header_length) own_whole in
      λ at. record {
        kind = kind at;
        flags = flags at;
        sequence = sequence at;
        port = port at;
        body = body at;
        whole = own_whole at;
      }

  itself : IsKnown (told_message bytes)
  unfolding first_message
  itself =
      ap (λ b. option_map (λ (f : NetlinkMessage × ℕ). f.0)
      (cond b (Some (told_message own, min (pad (told_length own)) (length own))) None)) own_has
      ∙ ap Some same_message

abbrev framed : NetlinkMessage → ℕ → Option (NetlinkMessage × ℕ)
framed m used = Some (m, used)

abbrev IsFirstKnown : Option (NetlinkMessage × ℕ) → Type 0
IsFirstKnown None = Unit {0}
IsFirstKnown (Some (m, used)) = IsKnown m

first_known : (bytes : List ℕ) (m : NetlinkMessage) (used : ℕ) →
    first_message bytes ≡ framed m used → IsKnown m
unfolding first_message
first_known bytes m used is = by (has_message bytes) refl is
  where
    by : (b : Bool) → has_message bytes ≡ b →
        cond b (framed (told_message bytes) (min (pad (told_length bytes)) (length bytes))) None
        ≡ framed m used → IsKnown m
    by true has same =
        subst IsFirstKnown same (itself bytes has)
    by false none wrong = absurd (cc)

-- so is each message that bytes are cut into
pub all_known : (looks : ℕ) (bytes : List ℕ) → AllByRecursion IsKnown (cut_in looks bytes)
all_known zero bytes = tt
all_known (suc looks) bytes =
    by (λ used. all_known looks (drop used bytes)) (first_message bytes) refl
  where
    by : ((used : ℕ) → AllByRecursion IsKnown (cut_in looks (drop used bytes))) →
        (o : Option (NetlinkMessage × ℕ)) → first_message bytes ≡ o →
        AllByRecursion IsKnown (with_those_behind (cut_in looks) bytes o)
    by others None none = tt
    by others (Some (m, used)) some = (first_known bytes m used some, others used)
