-- A spelling is decoded to its request.
use Rattle.std.proofs.Common.{◌≡◌, ℕ, ◌^◌, ◌<◌, ◌≤◌, Bool, true, false, ◌||◌, List, [], ◌∷◌, ◌++◌}
use Rattle.std.proofs.Common.{length, Option, Some, None, refl, sym, ap, ap₂, ◌∙◌, arith}
use Rattle.std.specs.Prelude.{IfSome, option_map, nat_eq, nat_lt, if◌then◌else◌, not, bit_and, ◌==◌}
use Rattle.std.specs.List.{list_any}
use Rattle.std.proofs.lemmas.Bool.{le-ltb}
use Rattle.std.proofs.lemmas.List.Folds.{list_any-append}
use Rattle.byteorder.specs.Endian.{big_bytes}
use Rattle.byteorder.specs.Numbers.{big_number-reads_back}
use Rattle.packet_entry.specs.Numbers.{longest_payload}
use Rattle.netlink_codec.specs.Messages.{NetlinkMessage, FitsHeader, pad}
use Rattle.netlink_codec.specs.Attributes.{Attribute, AllFit, attributes, attributes_text}
use Rattle.netlink_codec.specs.Numbers.{kind_limit, request_flag, least_kind}
use Rattle.nfqa_headers.specs.declared.verdict_header.Head.{Head}
use Rattle.nfqa_headers.specs.declared.params.Params.{Params}
use Rattle.nfqa_msgs.specs.declared.request.Request.{Request}
use Rattle.nfqa_msgs.specs.declared.request.Request.TheVariants.{Config, Verdict, Batch}
use Rattle.nfqa_msgs.specs.declared.request.Decoded.TheVariants.{Asked}
use Rattle.nfqa_headers.specs.Numbers.{queue_subsystem, config_number, verdict_number, batch_number}
use Rattle.nfqa_headers.specs.Numbers.{command_kind, params_kind, maxlen_kind, mask_kind}
use Rattle.nfqa_headers.specs.Numbers.{flags_kind, verdict_header_kind, mark_kind, payload_kind}
use Rattle.nfqa_headers.specs.Numbers.{priority_kind}
use Rattle.nfqa_headers.specs.Kinds.{queue_kind, subsystem_of, number_of}
use Rattle.nfqa_headers.specs.Headers.{queue_header, value_in, value_field, value_content}
use Rattle.nfqa_headers.specs.Headers.{command_in, params_in, head_in, queue_in, command_content}
use Rattle.nfqa_headers.specs.Headers.{params_content, head_content, queue_header_length}
use Rattle.nfqa_headers.specs.Headers.{command_length, params_length, verdict_header_length}
use Rattle.nfqa_headers.specs.Headers.{value_length}
use Rattle.nfqa_headers.specs.AttributeReading.{is_short, least_content, later, last_content}
use Rattle.nfqa_headers.specs.AttributeWriting.{part, value_part, head_part}
use Rattle.nfqa_msgs.specs.RequestReading.{config_in, verdict_in, batch_in, request_in, row_in}
use Rattle.nfqa_msgs.specs.RequestReading.{decoded, PayloadFits}
use Rattle.nfqa_msgs.specs.RequestWriting.{parts_of, spelled, request_body, number_for, flags_for}
use Rattle.nfqa_msgs.specs.RequestWriting.{FitsHead, FitsParams, FitsConfig, FitsVerdict}
use Rattle.nfqa_msgs.specs.RequestWriting.{FitsRequest}
use Rattle.nfqa_msgs.proofs.Lengths.{Sizes, request_body-short, padded-row}

-- ---- the last content of a kind in a row of parts

pub later-nothing : (last : Option (List ℕ)) → later last None ≡ last
later-nothing None = refl
later-nothing (Some x) = refl

later-later : (a b c : Option (List ℕ)) → later (later a b) c ≡ later a (later b c)
later-later None b c = refl
later-later (Some x) b c = refl

pub last_content-append : (kind : ℕ) (xs ys : List Attribute) →
    last_content kind (xs ++ ys) ≡ later (last_content kind ys) (last_content kind xs)
last_content-append kind [] ys = sym (later-nothing (last_content kind ys))
last_content-append kind (x ∷ xs) ys =
    ap (λ (o : Option (List ℕ)). later o (if nat_eq x.kind kind then Some x.content else None))
    (last_content-append kind xs ys)
    ∙ later-later (last_content kind ys) (last_content kind xs)
    (if nat_eq x.kind kind then Some x.content else None)

abbrev nothing : Option (List ℕ)
nothing = None

if-none : (b : Bool) → (if b then nothing else nothing) ≡ nothing
if-none true = refl
if-none false = refl

pub last_content-part : (kind k : ℕ) (content : Option (List ℕ)) →
    last_content kind (part k content) ≡ (if nat_eq k kind then content else None)
last_content-part kind k None = sym (if-none (nat_eq k kind))
last_content-part kind k (Some content) = refl

-- ---- no part is short

pub part-long : (number kind : ℕ) (content : Option (List ℕ)) →
    IfSome content (λ bytes. least_content number kind ≤ length bytes) →
    list_any (is_short number) (part kind content) ≡ false
part-long number kind None long = refl
part-long number kind (Some content) long =
    rw (le-ltb (length content) (least_content number kind) long) refl

-- ---- each part fits an attribute

pub fit-append : (xs ys : List Attribute) → AllFit xs → AllFit ys → AllFit (xs ++ ys)
fit-append [] ys fits others = others
fit-append (x ∷ xs) ys fits others = (fits.0, fit-append xs ys fits.1 others)

pub fit-part : (kind : ℕ) (content : Option (List ℕ)) → kind < kind_limit →
    IfSome content (λ bytes. length bytes ≤ longest_payload) → AllFit (part kind content)
fit-part kind None small short = tt
fit-part kind (Some content) small short = (record { kind = small; content = short }, tt)

-- ---- what a content says is what was put into it

pub said_back : {A : Type 0} (put : A → List ℕ) (say : List ℕ → A) (Fits : A → Type 0) →
    ((x : A) → Fits x → say (put x) ≡ x) → (o : Option A) → IfSome o Fits →
    option_map say (option_map put o) ≡ o
said_back put say Fits back None fits = refl
said_back put say Fits back (Some x) fits = ap Some (back x fits)

pub IfSome-put : {A : Type 0} (put : A → List ℕ) (P : List ℕ → Type 0) → ((x : A) → P (put x)) →
    (o : Option A) → IfSome (option_map put o) P
IfSome-put put P each None = tt
IfSome-put put P each (Some x) = each x

pub number-back : (o : Option ℕ) → IfSome o (λ n. n < 2 ^ 32) →
    option_map (value_in value_field) (option_map value_content o) ≡ o
number-back =
    said_back value_content (value_in value_field) (λ n. n < 2 ^ 32)
    (λ n fits. big_number-reads_back 4 n [] fits)

-- ---- the lines, for a message that is asked

pub decoded-asked : (m : NetlinkMessage) (number queue : ℕ) (row : List Attribute)
    → (bit_and m.flags request_flag == 0) ≡ false → nat_lt m.kind least_kind ≡ false →
    nat_lt (length m.body) queue_header_length ≡ false
    → (not (subsystem_of m.kind == queue_subsystem) || nat_lt batch_number (number_of m.kind))
    ≡ false
    → number_of m.kind ≡ number → (number == 0) ≡ false → queue_in m.body ≡ queue →
    row_in m.body ≡ row → list_any (is_short number) row ≡ false
    → decoded m ≡ Asked (request_in number queue row)
unfolding decoded
decoded-asked m number queue row flag kind body known is some queue-is row-is long =
    rw (flag, kind, body, known, is, some, row-is, long, queue-is) refl

-- the walk over the text of a row that was written gives the row, as the codec's law says
abbrev pub Walks : Type 0
Walks = (row : List Attribute) → AllFit row → attributes (attributes_text row) ≡ row

-- ---- each request

-- a row of parts has no short one, where neither front nor last part is short
long-append : (number : ℕ) (xs ys : List Attribute) → list_any (is_short number) xs ≡ false →
    list_any (is_short number) ys ≡ false → list_any (is_short number) (xs ++ ys) ≡ false
long-append number xs ys a b = list_any-append (is_short number) xs ys ∙ rw (a, b) refl

record Reads (number : ℕ) (row : List Attribute) : Type 0 where
  fits : AllFit row
  long : list_any (is_short number) row ≡ false

part-reads : (number kind : ℕ) (content : Option (List ℕ)) → kind < kind_limit →
    IfSome content (λ bytes. length bytes ≤ longest_payload) →
    IfSome content (λ bytes. least_content number kind ≤ length bytes) →
    Reads number (part kind content)
part-reads number kind content small short long =
    record { fits = fit-part kind content small short; long = part-long number kind content long }

both-read : (number : ℕ) (xs ys : List Attribute) → Reads number xs → Reads number ys →
    Reads number (xs ++ ys)
both-read number xs ys a b =
    record { fits = fit-append xs ys a.fits b.fits; long = long-append number xs ys a.long b.long }

command-part : (command : Option ℕ) →
    Reads config_number (part command_kind (option_map command_content command))
command-part command =
    part-reads config_number command_kind (option_map command_content command) (omega arith)
    (IfSome-put command_content (λ bytes. length bytes ≤ longest_payload) (λ x. omega arith)
    command) (IfSome-put command_content (λ bytes. command_length ≤ length bytes)
    (λ x. omega arith) command)

params-part : (params : Option Params) →
    Reads config_number (part params_kind (option_map params_content params))
params-part params =
    part-reads config_number params_kind (option_map params_content params) (omega arith)
    (IfSome-put params_content (λ bytes. length bytes ≤ longest_payload) (λ x. omega arith) params)
    (IfSome-put params_content (λ bytes. params_length ≤ length bytes) (λ x. omega arith)
    params)

number-part : (number kind : ℕ) (value : Option ℕ) → kind < kind_limit →
    least_content number kind ≤ value_length → Reads number (value_part kind value)
number-part number kind value small need =
    part-reads number kind (option_map value_content value) small
    (IfSome-put value_content (λ bytes. length bytes ≤ longest_payload) (λ x. omega arith) value)
    (IfSome-put value_content (λ bytes. least_content number kind ≤ length bytes) (λ x. need)
    value)

head-reads : (number : ℕ) (head : Option Head) →
    least_content number verdict_header_kind ≤ verdict_header_length → Reads number (head_part head)
head-reads number head need =
    part-reads number verdict_header_kind (option_map head_content head) (omega arith)
    (IfSome-put head_content (λ bytes. length bytes ≤ longest_payload) (λ x. omega arith) head)
    (IfSome-put head_content (λ bytes. least_content number verdict_header_kind ≤ length bytes)
    (λ x. need) head)

payload-part : (payload : Option (List ℕ)) →
    IfSome payload (λ bytes. length bytes ≤ longest_payload) →
    Reads verdict_number (part payload_kind payload)
payload-part None short = record { fits = tt; long = refl }
payload-part (Some bytes) short =
    part-reads verdict_number payload_kind (Some bytes) (omega arith) short (omega arith)

abbrev made_params : ℕ → ℕ → Params
made_params range mode = record { range = range; mode = mode }

abbrev made_head : ℕ → ℕ → Head
made_head verdict id = record { verdict = verdict; id = id }

command-back : (o : Option ℕ) → option_map command_in (option_map command_content o) ≡ o
command-back None = refl
command-back (Some x) = refl

params-back : (o : Option Params) → IfSome o FitsParams →
    option_map params_in (option_map params_content o) ≡ o
params-back None fits = refl
params-back (Some x) fits =
    let range =
    big_number-reads_back 4 x.range (x.mode ∷ []) fits.range in
    ap (λ (n : ℕ). Some (made_params n x.mode)) range

head-back : (o : Option Head) → IfSome o FitsHead →
    option_map head_in (option_map head_content o) ≡ o
head-back None fits = refl
head-back (Some x) fits =
    let verdict = big_number-reads_back 4 x.verdict (big_bytes 4 x.id) fits.verdict in
    let id = big_number-reads_back 4 x.id [] fits.id in
    ap₂ (λ (n m : ℕ). Some (made_head n m)) verdict id

config-reads : (command : Option ℕ) (params : Option Params) (maxlen flags mask : Option ℕ)
    (queue : ℕ) → Reads config_number (parts_of (Config queue command params maxlen flags mask))
config-reads command params maxlen flags mask queue =
    both-read config_number _ _ (both-read config_number _ _
    (both-read config_number _ _ (both-read config_number _ _ (command-part command)
    (params-part params))
    (number-part config_number maxlen_kind maxlen (omega arith) (omega arith)))
    (number-part config_number mask_kind mask (omega arith) (omega arith)))
    (number-part config_number flags_kind flags (omega arith) (omega arith))

config-back : (queue : ℕ) (command : Option ℕ) (params : Option Params)
    (maxlen flags mask : Option ℕ) → FitsConfig queue command params maxlen flags mask
    → config_in queue (parts_of (Config queue command params maxlen flags mask))
    ≡ Config queue command params maxlen flags mask
config-back queue command params maxlen flags mask fits =
    simp (last_content-append, last_content-part, later-nothing, command-back)
    (rw (
      params-back params fits.params_fit,
      number-back maxlen fits.maxlen_fits,
      number-back flags fits.flags_fit,
      number-back mask fits.mask_fits,
    ) refl)

verdict-reads : (queue : ℕ) (head : Option Head) (mark : Option ℕ) (payload : Option (List ℕ))
    (priority : Option ℕ) → FitsVerdict queue head mark payload priority →
    Reads verdict_number (parts_of (Verdict queue head mark payload priority))
verdict-reads queue head mark payload priority fits =
    both-read verdict_number _ _ (both-read verdict_number _ _ (both-read verdict_number _ _
    (head-reads verdict_number head (omega arith))
    (number-part verdict_number mark_kind mark (omega arith) (omega arith)))
    (payload-part payload fits.payload_fits))
    (number-part verdict_number priority_kind priority (omega arith) (omega arith))

verdict-back : (queue : ℕ) (head : Option Head) (mark : Option ℕ) (payload : Option (List ℕ))
    (priority : Option ℕ) → FitsVerdict queue head mark payload priority
    → verdict_in queue (parts_of (Verdict queue head mark payload priority))
    ≡ Verdict queue head mark payload priority
verdict-back queue head mark payload priority fits =
    simp (last_content-append, last_content-part, later-nothing)
    (rw (
      head-back head fits.head_fits,
      number-back mark fits.mark_fits,
      number-back priority fits.priority_fits,
    ) refl)

batch-reads : (queue : ℕ) (head : Option Head) (mark priority : Option ℕ) →
    Reads batch_number (parts_of (Batch queue head mark priority))
batch-reads queue head mark priority =
    both-read batch_number _ _ (both-read batch_number _ _
    (head-reads batch_number head (omega arith))
    (number-part batch_number mark_kind mark (omega arith) (omega arith)))
    (number-part batch_number priority_kind priority (omega arith) (omega arith))

batch-back : (queue : ℕ) (head : Option Head) (mark priority : Option ℕ)
    → FitsVerdict queue head mark None priority
    → batch_in queue (parts_of (Batch queue head mark priority)) ≡ Batch queue head mark priority
batch-back queue head mark priority fits =
    simp (last_content-append, last_content-part, later-nothing)
    (rw (
      head-back head fits.head_fits,
      number-back mark fits.mark_fits,
      number-back priority fits.priority_fits,
    ) refl)

-- a body has its queue's header
body-long : (queue : ℕ) (row : List Attribute) →
    nat_lt (length (queue_header 0 queue ++ attributes_text row)) queue_header_length ≡ false
body-long queue row = le-ltb (length (queue_header 0 queue ++ attributes_text row)) 4 (omega arith)

queue-back : (queue : ℕ) (row : List Attribute) → queue < 2 ^ 16 →
    queue_in (queue_header 0 queue ++ attributes_text row) ≡ queue
queue-back queue row fits = big_number-reads_back 2 queue (attributes_text row) fits

-- a spelling's message is decoded to its request
pub spelled-decodes : Walks → (port call : ℕ) (request : Request) → FitsRequest request →
    decoded (spelled port call request) ≡ Asked request
unfolding request_in
spelled-decodes walks port call (Config queue command params maxlen flags mask) fits =
    let row = parts_of (Config queue command params maxlen flags mask) in
    let reads = config-reads command params maxlen flags mask queue in
    decoded-asked (spelled port call (Config queue command params maxlen flags mask)) config_number
    queue row refl refl (body-long queue row) refl refl refl
    (queue-back queue row fits.queue_fits) (walks row reads.fits) reads.long
    ∙ ap Asked (config-back queue command params maxlen flags mask fits)
spelled-decodes walks port call (Verdict queue head mark payload priority) fits =
    let row = parts_of (Verdict queue head mark payload priority) in
    let reads = verdict-reads queue head mark payload priority fits in
    decoded-asked (spelled port call (Verdict queue head mark payload priority)) verdict_number
    queue row refl refl (body-long queue row) refl refl refl (queue-back queue row fits.queue_fits)
    (walks row reads.fits) reads.long
    ∙ ap Asked (verdict-back queue head mark payload priority fits)
spelled-decodes walks port call (Batch queue head mark priority) fits =
    let row = parts_of (Batch queue head mark priority) in
    let reads = batch-reads queue head mark priority in
    decoded-asked (spelled port call (Batch queue head mark priority)) batch_number queue row
    refl refl (body-long queue row) refl refl refl (queue-back queue row fits.queue_fits)
    (walks row reads.fits) reads.long
    ∙ ap Asked (batch-back queue head mark priority fits)

-- ---- a spelling's message fits its header

kind-small : (request : Request) → queue_kind (number_for request) < 2 ^ 16
kind-small (Config queue command params maxlen flags mask) = omega arith
kind-small (Verdict queue head mark payload priority) = omega arith
kind-small (Batch queue head mark priority) = omega arith

flags-small : (request : Request) → flags_for request < 2 ^ 16
flags-small (Config queue command params maxlen flags mask) = omega arith
flags-small (Verdict queue head mark payload priority) = omega arith
flags-small (Batch queue head mark priority) = omega arith

payload-fits : (request : Request) → FitsRequest request → PayloadFits request
payload-fits (Config queue command params maxlen flags mask) fits = tt
payload-fits (Verdict queue head mark payload priority) fits = fits.payload_fits
payload-fits (Batch queue head mark priority) fits = tt

pub spelled-fits : Sizes → (port call : ℕ) (request : Request) → port < 2 ^ 32 → call < 2 ^ 32 →
    FitsRequest request → FitsHeader (spelled port call request)
spelled-fits sizes port call request p q fits =
    let short = request_body-short sizes request (payload-fits request fits) in
    record {
      kind = kind-small request;
      flags = flags-small request;
      sequence = q;
      port = p;
      length = omega arith;
    }

-- a body is padded
pub request_body-padded : Sizes → (request : Request) →
    pad (length (request_body request)) ≡ length (request_body request)
request_body-padded sizes request = omega (arith, padded-row sizes (parts_of request))
