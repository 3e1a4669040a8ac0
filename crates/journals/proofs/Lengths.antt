-- How long the parts of a line are.
use Rattle.std.proofs.Common.{◌≡◌, ℕ, ◌+◌, ◌*◌, ◌≤◌, List, [], ◌∷◌, ◌++◌, length, arith}
use Rattle.std.proofs.Common.{refl, length-append, codes, decimal, Option, Some, None, IfSome}
use Rattle.std.proofs.lemmas.Fmt.{length-decimal-le}
use Rattle.std.proofs.Math.Nat.{le_refl}
use Rattle.hex.specs.Hex.{encode_with, lower_digits}
use Rattle.text_lines.specs.Hexadecimal.{hexadecimal}
use Rattle.packet_entry.specs.declared.packet.Card.{Card}
use Rattle.nfqa_headers.specs.declared.params.Params.{Params}
use Rattle.nfqa_headers.specs.declared.verdict_header.Head.{Head}
use Rattle.nfqa_msgs.specs.declared.request.Request.{Request}
use Rattle.nfqa_msgs.specs.declared.request.Request.TheVariants.{Config, Verdict, Batch}
use Rattle.histories.specs.Happenings.{payload_of}
use Rattle.journals.specs.declared.version.Version.{Version}
use Rattle.journals.specs.declared.version.Version.TheVariants.{First, Second}
use Rattle.journals.specs.Format as text
use Rattle.journals.specs.Formed.{FitsHead, FitsParams, FitsRequest, IsHalf}
use Rattle.journals.specs.Formed.{IsSmall, IsWide}

length-encode_with : (digits bytes : List ℕ) →
    length (encode_with digits bytes) ≡ length bytes * 2
unfolding encode_with
length-encode_with digits [] = refl
length-encode_with digits (b ∷ bytes) = omega (arith, length-encode_with digits bytes)

-- no bytes are a dash
pub hexadecimal_has : (bytes : List ℕ) → length bytes * 2 ≤ length (hexadecimal bytes)
hexadecimal_has [] = omega arith
hexadecimal_has (b ∷ bytes) = omega (arith, length-encode_with lower_digits (b ∷ bytes))

pub hexadecimal_within : (bytes : List ℕ) → length (hexadecimal bytes) ≤ length bytes * 2 + 1
hexadecimal_within [] = omega arith
hexadecimal_within (b ∷ bytes) = omega (arith, length-encode_with lower_digits (b ∷ bytes))

pub both_within : (xs ys : List ℕ) (m n : ℕ) → length xs ≤ m → length ys ≤ n →
    length (xs ++ ys) ≤ m + n
both_within xs ys m n a b = omega (arith, length-append xs ys, a, b)

blank : length (codes " ") ≤ 1
blank = omega arith

pub card_within : (c : Card) (bypass room : List ℕ) → length (text.journey c) ≤ 63 →
    length (bypass ++ codes " " ++ room ++ codes " ") ≤ 4 → length (text.facts Second c) ≤ 105 →
    length (text.card Second c bypass room)
    ≤ 174 + length (hexadecimal c.link) + length (hexadecimal c.bytes)
card_within c bypass room journey ways facts =
    let link = length (hexadecimal c.link) in
    let bytes = length (hexadecimal c.bytes) in
    omega (
      arith,
      both_within _ (codes " ") (172 + link + 1 + bytes) 1
          (both_within _ (hexadecimal c.bytes) (172 + link + 1) bytes
          (both_within _ (codes " ") (172 + link) 1
          (both_within _ (hexadecimal c.link) 172 link
          (both_within _ _ 67 105 (both_within _ _ 63 4 journey ways) facts)
          (le_refl link)) blank)
          (le_refl bytes)) blank,
    )

pub arrival_within : (front journey bypass room facts : List ℕ) → length front ≤ 22 →
    length journey ≤ 63 → length (bypass ++ codes " " ++ room ++ codes " ") ≤ 4 →
    length facts ≤ 105 →
    length (front ++ codes " " ++ journey ++ (bypass ++ codes " " ++ room ++ codes " ") ++ facts)
    ≤ 195
arrival_within front journey bypass room facts begun far ways known =
    both_within _ facts 90 105
    (both_within _ _ 86 4
    (both_within _ journey 23 63 (both_within front (codes " ") 22 1 begun blank) far) ways) known

-- ---- what fits its field is short

number_within : (n : ℕ) → IsWide n → length (decimal n) ≤ 10
number_within n fits =
    length-decimal-le 10 n (omega arith) (omega (arith, fits)) (omega (arith, fits))

-- a word and its number
part_within : (Fits : ℕ → Type 0) → ((n : ℕ) → Fits n → IsWide n) →
    (word : List ℕ) (most : ℕ) → length word ≤ most → (o : Option ℕ) → IfSome o Fits →
    length (text.part word o) ≤ most + 10
part_within Fits wide word most short None fits = omega arith
part_within Fits wide word most short (Some n) fits =
    both_within word (decimal n) most 10 short (number_within n (wide n fits))

wide_part_within : (word : List ℕ) (most : ℕ) → length word ≤ most → (o : Option ℕ) →
    IfSome o IsWide →
    length (text.part word o) ≤ most + 10
wide_part_within = part_within IsWide (λ n fits. fits)

params_within : (o : Option Params) → IfSome o FitsParams → length (text.params o) ≤ 29
params_within None fits = omega arith
params_within (Some p) fits =
    let mode = codes " params " ++ decimal p.mode in
    both_within (mode ++ codes " ") (decimal p.range) 19 10
    (both_within mode (codes " ") 18 1
    (both_within (codes " params ") (decimal p.mode) 8 10 (omega arith)
    (number_within p.mode (omega (arith, fits.mode)))) blank)
    (number_within p.range fits.range)

head_within : (o : Option Head) → IfSome o FitsHead → length (text.head o) ≤ 21
head_within None fits = omega arith
head_within (Some h) fits =
    both_within _ (decimal h.id) 11 10
    (both_within (decimal h.verdict) (codes " ") 10 1 (number_within h.verdict fits.verdict) blank)
    (number_within h.id fits.id)

pub new_priority_within : (v : Version) (o : Option ℕ) → IfSome o IsWide →
    length (text.new_priority v o) ≤ 20
new_priority_within First o fits = omega arith
new_priority_within Second o fits =
    wide_part_within (codes " priority ") 10 (omega arith) o fits

-- a verdict or a batch, up to its mark
abbrev pub marked_text : List ℕ → ℕ → Option Head → Option ℕ → List ℕ
marked_text word queue head mark =
    word ++ decimal queue ++ codes " " ++ text.head head ++ text.part (codes " mark ") mark

pub marked_within : (word : List ℕ) (queue : ℕ) (head : Option Head) (mark : Option ℕ) →
    length word ≤ 8 → IsHalf queue → IfSome head FitsHead → IfSome mark IsWide →
    length (marked_text word queue head mark) ≤ 56
marked_within word queue head mark short half fits wide =
    both_within _ (text.part (codes " mark ") mark) 40 16
    (both_within _ (text.head head) 19 21
    (both_within _ (codes " ") 18 1
    (both_within word (decimal queue) 8 10 short (number_within queue (omega (arith, half))))
    blank)
    (head_within head fits))
    (wide_part_within (codes " mark ") 6 (omega arith) mark wide)

pub request_within : (r : Request) → FitsRequest Second r →
    length (text.request Second r) ≤ 182 + length (text.payload (payload_of r))
request_within (Config queue command params maxlen flags mask) fits =
    let of_queue = codes "config " ++ decimal queue in
    let to_command = of_queue ++ text.part (codes " cmd ") command in
    let to_params = to_command ++ text.params params in
    let to_maxlen = to_params ++ text.part (codes " maxlen ") maxlen in
    let to_flags = to_maxlen ++ text.part (codes " flags ") flags in
    let within : length (text.request Second (Config queue command params maxlen flags mask)) ≤ 112
    = both_within to_flags (text.part (codes " mask ") mask) 96 16
    (both_within to_maxlen (text.part (codes " flags ") flags) 79 17
    (both_within to_params (text.part (codes " maxlen ") maxlen) 61 18
    (both_within to_command (text.params params) 32 29
    (both_within of_queue (text.part (codes " cmd ") command) 17 15
    (both_within (codes "config ") (decimal queue) 7 10 (omega arith)
    (number_within queue (omega (arith, fits.queue_fits))))
    (part_within IsSmall (λ n small. omega (arith, small)) (codes " cmd ") 5 (omega arith) command
    fits.command_fits))
    (params_within params fits.params_fit))
    (wide_part_within (codes " maxlen ") 8 (omega arith) maxlen fits.maxlen_fits))
    (wide_part_within (codes " flags ") 7 (omega arith) flags fits.flags_fits))
    (wide_part_within (codes " mask ") 6 (omega arith) mask fits.mask_fits) in
    omega (arith, within)
request_within (Verdict queue head mark payload priority) fits =
    let marked = marked_text (codes "verdict ") queue head mark in
    let payload_long = length (text.payload payload) in
    let within : length (text.request Second (Verdict queue head mark payload priority))
    ≤ 56 + payload_long + 20
    = both_within (marked ++ text.payload payload) (text.new_priority Second priority)
    (56 + payload_long) 20
    (both_within marked (text.payload payload) 56 payload_long
    (marked_within (codes "verdict ") queue head mark (omega arith) fits.queue_fits fits.head_fits
    fits.mark_fits)
    (le_refl payload_long))
    (new_priority_within Second priority fits.priority_fits) in
    omega (arith, within)
request_within (Batch queue head mark priority) fits =
    let marked = marked_text (codes "batch ") queue head mark in
    let within : length (text.request Second (Batch queue head mark priority)) ≤ 76
    = both_within marked (text.new_priority Second priority) 56 20
    (marked_within (codes "batch ") queue head mark (omega arith) fits.queue_fits fits.head_fits
    fits.mark_fits)
    (new_priority_within Second priority fits.priority_fits) in
    omega (arith, within)
