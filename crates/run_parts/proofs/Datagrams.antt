-- The payloads in a datagram are no longer than the datagram, and each ask's datagram is short.
use Rattle.std.proofs.Common.{◌≡◌, ◌≤◌, ◌+◌, ℕ, zero, suc, List, [], ◌∷◌, ◌++◌, length}
use Rattle.std.proofs.Common.{Option, Some}
use Rattle.std.proofs.Common.{None, Bool, true, false, cond, arith, drop, take}
use Rattle.std.specs.Prelude.{All, IfSome, option_map, ◌==◌, nat_lt, bit_and}
use Rattle.std.specs.List.{AllByRecursion, list_any}
use Rattle.std.proofs.lemmas.List.{length-append, length-drop}
use Rattle.packet_entry.specs.Numbers.{longest_payload}
use Rattle.netlink_codec.specs.Messages.{NetlinkMessage, message_text, pad, first_message}
use Rattle.netlink_codec.specs.Messages.{has_message, told_message, told_length}
use Rattle.netlink_codec.specs.Numbers.{message_header_length, attribute_header_length}
use Rattle.netlink_codec.specs.Numbers.{request_flag, least_kind}
use Rattle.netlink_codec.specs.Attributes.{Attribute, attribute_text, attributes_text, attributes}
use Rattle.netlink_codec.specs.Attributes.{attributes_up_to, has_attribute, first_attribute}
use Rattle.netlink_codec.specs.Attributes.{after_attribute, attribute_length}
use Rattle.nfqa_msgs.specs.declared.request.Request.{Request}
use Rattle.nfqa_msgs.specs.declared.request.Request.TheVariants.{Config, Verdict, Batch}
use Rattle.nfqa_headers.specs.declared.verdict_header.Head.{Head}
use Rattle.nfqa_headers.specs.declared.params.Params.{Params}
use Rattle.nfqa_headers.specs.Headers.{command_content, params_content, head_content, value_content}
use Rattle.nfqa_headers.specs.Headers.{queue_header, queue_header_length, queue_in}
use Rattle.nfqa_headers.specs.Numbers.{any_family, command_kind, params_kind, maxlen_kind}
use Rattle.nfqa_headers.specs.Numbers.{mask_kind, priority_kind}
use Rattle.nfqa_headers.specs.Numbers.{flags_kind, verdict_header_kind, mark_kind, payload_kind}
use Rattle.nfqa_headers.specs.Numbers.{config_number, verdict_number, notice_number}
use Rattle.nfqa_msgs.specs.RequestReading.{PayloadFits, AskedFits, decoded, request_in}
use Rattle.nfqa_headers.specs.AttributeReading.{later}
use Rattle.nfqa_headers.specs.AttributeReading.{last_content, is_short}
use Rattle.nfqa_msgs.specs.RequestReading.{row_in, is_foreign}
use Rattle.nfqa_msgs.specs.RequestReading.{config_in, verdict_in, batch_in}
use Rattle.nfqa_headers.specs.AttributeWriting.{part, value_part, head_part}
use Rattle.nfqa_msgs.specs.RequestWriting.{parts_of, queue_for}
use Rattle.nfqa_msgs.specs.RequestWriting.{number_for, flags_for, request_body, spelling}
use Rattle.nfqa_headers.specs.Kinds.{queue_kind, number_of}
use Rattle.histories.specs.declared.log.AskWords.{AskWords}
use Rattle.histories.specs.declared.log.AskWords.TheVariants.{Plain, Raw}
use Rattle.script_lines.specs.Limits.{IsWords, IsRequest}
use Rattle.script_lines.specs.Numbers.{most_payload_bytes}
use Rattle.run_parts.specs.Datagrams.{bytes_of, cut_in, messages_in, with_those_behind, AsksWell}
use Rattle.std.proofs.lemmas.List.Elements.{All-from_recursion}

-- ---- how long a request's text is

-- what a lower crate's laws say
pub record Sizes : Type 0 where
  pub message : (kind flags sequence port : ℕ) (body : List ℕ) →
      length (message_text kind flags sequence port body) ≡ message_header_length + length body
  pub attribute : (a : Attribute) →
      length (attribute_text a) ≡ pad (attribute_header_length + length a.content)

row_append : (xs ys : List Attribute) →
    length (attributes_text (xs ++ ys)) ≡ length (attributes_text xs) + length (attributes_text ys)
row_append [] ys = omega arith
row_append (x ∷ xs) ys =
    omega (
      arith,
      length-append (attribute_text x) (attributes_text (xs ++ ys)),
      length-append (attribute_text x) (attributes_text xs),
      row_append xs ys,
    )

part_size : Sizes → (kind n : ℕ) (o : Option (List ℕ)) → IfSome o (λ c. length c ≤ n) →
    length (attributes_text (part kind o)) ≤ n + 8
part_size sizes kind n None fits = omega arith
part_size sizes kind n (Some content) fits =
    let a : Attribute = record { kind = kind; content = content } in
    omega (arith, sizes.attribute a, length-append (attribute_text a) [], fits)

mapped : {X : Type 0} (f : X → List ℕ) (n : ℕ) (o : Option X) → ((x : X) → length (f x) ≤ n) →
    IfSome (option_map f o) (λ c. length c ≤ n)
mapped f n None each = tt
mapped f n (Some x) each = each x

command_size : (n : ℕ) → length (command_content n) ≤ 8
command_size n = omega arith

params_size : (p : Params) → length (params_content p) ≤ 8
params_size p = omega arith

value_size : (n : ℕ) → length (value_content n) ≤ 8
value_size n = omega arith

head_size : (h : Head) → length (head_content h) ≤ 8
head_size h = omega arith

header_size : (queue : ℕ) → length (queue_header any_family queue) ≤ 8
header_size queue = omega arith

beside : (a b : List Attribute) (m n : ℕ) → length (attributes_text a) ≤ m →
    length (attributes_text b) ≤ n → length (attributes_text (a ++ b)) ≤ m + n
beside a b m n for_a for_b = omega (arith, row_append a b, for_a, for_b)

at_most : (m n : ℕ) → n ≤ m → m ≤ 3000 → n ≤ 3000
at_most m n less most = omega (arith, less, most)

parts_size : Sizes → (request : Request) → IsRequest request →
    length (attributes_text (parts_of request)) ≤ 3000
parts_size sizes (Config queue command params maxlen flags mask) fits =
    at_most 80 _ (beside _ (value_part flags_kind flags) 64 16
    (beside _ (value_part mask_kind mask) 48 16
    (beside _ (value_part maxlen_kind maxlen) 32 16
    (beside (part command_kind (option_map command_content command))
    (part params_kind (option_map params_content params)) 16 16
    (part_size sizes command_kind 8 _ (mapped command_content 8 command command_size))
    (part_size sizes params_kind 8 _ (mapped params_content 8 params params_size)))
    (part_size sizes maxlen_kind 8 _ (mapped value_content 8 maxlen value_size)))
    (part_size sizes mask_kind 8 _ (mapped value_content 8 mask value_size)))
    (part_size sizes flags_kind 8 _ (mapped value_content 8 flags value_size))) (omega arith)
parts_size sizes (Verdict queue head mark payload priority) fits =
    at_most (32 + (most_payload_bytes + 8) + 16) _ (beside _ (value_part priority_kind priority)
    (32 + (most_payload_bytes + 8)) 16
    (beside _ (part payload_kind payload) 32 (most_payload_bytes + 8)
    (beside (head_part head) (value_part mark_kind mark) 16 16
    (part_size sizes verdict_header_kind 8 _ (mapped head_content 8 head head_size))
    (part_size sizes mark_kind 8 _ (mapped value_content 8 mark value_size)))
    (part_size sizes payload_kind most_payload_bytes payload fits))
    (part_size sizes priority_kind 8 _ (mapped value_content 8 priority value_size))) (omega arith)
parts_size sizes (Batch queue head mark priority) fits =
    at_most 48 _ (beside _ (value_part priority_kind priority) 32 16
    (beside (head_part head) (value_part mark_kind mark) 16 16
    (part_size sizes verdict_header_kind 8 _ (mapped head_content 8 head head_size))
    (part_size sizes mark_kind 8 _ (mapped value_content 8 mark value_size)))
    (part_size sizes priority_kind 8 _ (mapped value_content 8 priority value_size))) (omega arith)

spelling_size : Sizes → (port call : ℕ) (request : Request) → IsRequest request →
    length (spelling port call request) ≤ longest_payload
unfolding spelling
spelling_size sizes port call request fits =
    let body = length-append (queue_header any_family (queue_for request))
    (attributes_text (parts_of request)) in
    omega (
      arith,
      sizes.message (queue_kind (number_for request)) (flags_for request) call port
          (request_body request),
      body,
      header_size (queue_for request),
      parts_size sizes request fits,
    )

pub bytes_size : Sizes → (port call : ℕ) (words : AskWords) → IsWords words →
    length (bytes_of port call words) ≤ longest_payload
bytes_size sizes port call (Plain request) is = spelling_size sizes port call request is
bytes_size sizes port call (Raw bytes) is = omega (arith, is.1)

-- ---- what stands in it

take_le : (n : ℕ) (xs : List ℕ) → length (take n xs) ≤ length xs
take_le zero xs = omega arith
take_le (suc n) [] = omega arith
take_le (suc n) (x ∷ xs) = omega (arith, take_le n xs)

drop_le : (n : ℕ) (xs : List ℕ) → length (drop n xs) ≤ length xs
drop_le n xs = omega (arith, length-drop n xs)

either : {X : Type 0} (P : X → Type 0) (b : Bool) (s t : X) → P s → P t → P (cond b s t)
either P true s t h k = h
either P false s t h k = k

abbrev IsShort : Attribute → Type 0
IsShort a = length a.content ≤ longest_payload

abbrev Short : List ℕ → Type 0
Short c = length c ≤ longest_payload

first_short : (bytes : List ℕ) → length bytes ≤ longest_payload → IsShort (first_attribute bytes)
first_short bytes short =
    omega (
      arith,
      short,
      drop_le attribute_header_length (take (attribute_length bytes) bytes),
      take_le (attribute_length bytes) bytes,
    )

rows_short : (n : ℕ) (bytes : List ℕ) → length bytes ≤ longest_payload →
    AllByRecursion IsShort (attributes_up_to n bytes)
unfolding attributes_up_to
rows_short zero bytes short = tt
rows_short (suc n) bytes short =
    either (AllByRecursion IsShort) (has_attribute bytes) _ [] (
      first_short bytes short,
      rows_short n (after_attribute bytes)
          (omega (arith, short, drop_le (pad (attribute_length bytes)) bytes)),
    ) tt

row_short : (bytes : List ℕ) → length bytes ≤ longest_payload →
    AllByRecursion IsShort (attributes bytes)
unfolding attributes
row_short bytes short = rows_short (length bytes) bytes short

later_short : (second first : Option (List ℕ)) → IfSome second Short → IfSome first Short →
    IfSome (later second first) Short
later_short None first two one = one
later_short (Some c) first two one = two

last_short : (kind : ℕ) (row : List Attribute) → AllByRecursion IsShort row →
    IfSome (last_content kind row) Short
last_short kind [] all = tt
last_short kind (a ∷ row) all =
    later_short (last_content kind row) _ (last_short kind row all.1)
    (either (λ (o : Option (List ℕ)). IfSome o Short) (a.kind == kind) (Some a.content) None all.0
    tt)

request_short : (number queue : ℕ) (row : List Attribute) → AllByRecursion IsShort row →
    PayloadFits (request_in number queue row)
unfolding request_in
request_short number queue row all =
    either PayloadFits (number == config_number) (config_in queue row) _ tt
    (either PayloadFits (number == verdict_number) (verdict_in queue row) (batch_in queue row)
    (last_short payload_kind row all) tt)

message_short : (m : NetlinkMessage) → length m.body ≤ longest_payload → AskedFits (decoded m)
unfolding decoded
message_short m short =
    either AskedFits (bit_and m.flags request_flag == 0) _ _ tt
    (either AskedFits (nat_lt m.kind least_kind) _ _ tt
    (either AskedFits (nat_lt (length m.body) queue_header_length) _ _ tt
    (either AskedFits (is_foreign m) _ _ tt
    (either AskedFits (number_of m.kind == notice_number) _ _ tt
    (either AskedFits (list_any (is_short (number_of m.kind)) (row_in m.body)) _ _ tt
    (request_short (number_of m.kind) (queue_in m.body) (row_in m.body)
    (row_short (drop queue_header_length m.body)
    (omega (arith, short, drop_le queue_header_length m.body)))))))))

abbrev FirstAsksWell : Option (NetlinkMessage × ℕ) → Type 0
FirstAsksWell o = IfSome o (λ front. AskedFits (decoded front.0))

told_short : (bytes : List ℕ) → length bytes ≤ longest_payload →
    AskedFits (decoded (told_message bytes))
told_short bytes short =
    message_short (told_message bytes) (omega (
      arith,
      short,
      drop_le message_header_length (take (told_length bytes) bytes),
      take_le (told_length bytes) bytes,
    ))

front_short : (bytes : List ℕ) → length bytes ≤ longest_payload →
    FirstAsksWell (first_message bytes)
unfolding first_message
front_short bytes short =
    either FirstAsksWell (has_message bytes) (Some (told_message bytes, _)) None
    (told_short bytes short) tt

cut_short : (looks : ℕ) (bytes : List ℕ) → length bytes ≤ longest_payload →
    AllByRecursion AsksWell (cut_in looks bytes)
cut_short zero bytes short = tt
cut_short (suc looks) bytes short =
    by (first_message bytes) (front_short bytes short)
    (λ used. cut_short looks (drop used bytes) (omega (arith, short, drop_le used bytes)))
  where
    by : (o : Option (NetlinkMessage × ℕ)) → FirstAsksWell o →
        ((used : ℕ) → AllByRecursion AsksWell (cut_in looks (drop used bytes))) →
        AllByRecursion AsksWell (with_those_behind (cut_in looks) bytes o)
    by None well others = tt
    by (Some (m, used)) well others = (well, others used)

pub messages_short : (bytes : List ℕ) → length bytes ≤ longest_payload →
    All AsksWell (messages_in bytes)
messages_short bytes short =
    All-from_recursion AsksWell (messages_in bytes) (cut_short (length bytes) bytes short)

pub words_fit : Sizes → (port call : ℕ) (words : AskWords) → IsWords words →
    All AsksWell (messages_in (bytes_of port call words))
words_fit sizes port call words is =
    messages_short (bytes_of port call words) (bytes_size sizes port call words is)
