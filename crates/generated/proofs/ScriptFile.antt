-- The script of generated inputs is in the grammar.
use Rattle.std.proofs.Common.{◌≡◌, ℕ, ◌<◌, ◌^◌, inl, inr, true, false, List, [], ◌∷◌, ◌++◌}
use Rattle.std.proofs.Common.{Some, None, ◌∙◌, refl, sym, arith, lit<, lit≤}
use Rattle.std.specs.Prelude.{◌≢◌, AllPairs, codes, decimal, flat_map, map}
use Rattle.std.specs.Fmt.{digits}
use Rattle.std.specs.List.{AllByRecursion, AllZip, list_all, list_any, range_with_len}
use Rattle.std.proofs.lemmas.Bool.{false≢true}
use Rattle.std.proofs.lemmas.List.Elements.{All-nil, All-cons, All-map}
use Rattle.std.proofs.lemmas.List.Folds.{list_any_at}
use Rattle.std.proofs.lemmas.List.FromFn.{get_or-range_with_len, length-range_with_len}
use Rattle.text_lines.specs.Words.{is_printable, words_of}
use Rattle.text_lines.specs.Numerals.{IsNumeral}
use Rattle.hook_chain.specs.Numbers.{udp}
use Rattle.queue_core.specs.Numbers.{verdict_accept, verdict_drop}
use Rattle.script_lines.specs.Grammar.{IsAsk, IsConfig, IsVerdict, Says}
use Rattle.script_lines.specs.declared.condition.Condition.TheVariants.{Any, Protocol}
use Rattle.script_lines.specs.declared.line.Line.{Line}
use Rattle.script_lines.specs.declared.line.Line.TheVariants as line
use Rattle.script_lines.specs.declared.line.BlockLine.{BlockLine}
use Rattle.script_lines.specs.declared.line.BlockLine.TheVariants as block
use Rattle.script_lines.specs.declared.template.OrThis.TheVariants.{Number}
use Rattle.script_lines.specs.declared.template.Template.TheVariants as ask
use Rattle.inspector_script.specs.Grammar.{IsHead, IsInside, IsPart, IsScriptFile, Part, SayScript}
use Rattle.inspector_script.specs.Grammar.{SetsUp, is_close, is_end, lines_of}
use Rattle.generated.specs.Texts.{even_queue, odd_queue, port_of, script_text}
use Rattle.generated.specs.Values as values

-- a line of printable bytes, with these words
abbrev IsSpelled : List ℕ → List (List ℕ) → Type 0
IsSpelled text words = (list_all is_printable text ≡ true) × (words_of text ≡ words)

-- ---- the lines of a block, by its place

abbrev port_line : ℕ → List ℕ
port_line k = codes "port " ++ decimal (port_of k)

abbrev open_line : ℕ → List ℕ
open_line queue = codes "open config " ++ decimal queue ++ codes " bind params packet 64"

abbrev open_words : ℕ → List (List ℕ)
open_words queue =
    codes "config" ∷ decimal queue ∷ codes "bind" ∷ codes "params" ∷ codes "packet" ∷ codes "64"
    ∷ []

abbrev block_lines : ℕ → List (List ℕ)
block_lines k =
    port_line k ∷ open_line (even_queue k) ∷ open_line (odd_queue k)
    ∷ codes "on proto 17 do verdict this drop this" ∷ codes "on any do verdict this accept this"
    ∷ []

abbrev own_lines : ℕ → List BlockLine
own_lines k =
    block.Open (values.binding (even_queue k))
    ∷ block.Open (values.binding (odd_queue k))
    ∷ block.On (values.judging (Protocol udp) verdict_drop)
    ∷ block.On (values.judging Any verdict_accept) ∷ []

abbrev part : ℕ → Part
part k = record { port = port_of k; inside = map line.Inside (own_lines k) }

-- ---- what they say

key_says : Says (codes "hashkey 1") (line.Key 1)
unfolding digits words_of
key_says = (refl, (codes "1", record { spelled = refl; fits = lit< tt }, refl))

port_says : (k : ℕ) → k < 4 → IsSpelled (port_line k) (codes "port" ∷ decimal (port_of k) ∷ []) →
    Says (port_line k) (line.Port (port_of k))
port_says k few spelled = (
  spelled.0,
  (
    (decimal (port_of k), record { spelled = refl; fits = omega arith }, spelled.1),
    omega arith,
  ),
)

range_is : IsNumeral (codes "64") 64
unfolding digits
range_is = record { spelled = refl; fits = lit< tt }

config_is : (queue : ℕ) → queue < 2 ^ 16 → IsConfig
    (decimal queue ∷ codes "bind" ∷ codes "params" ∷ codes "packet" ∷ codes "64" ∷ [])
    (Number queue) values.settings
config_is queue few = record {
  queue_word = decimal queue;
  command = codes "bind" ∷ [];
  params = codes "params" ∷ codes "packet" ∷ codes "64" ∷ [];
  maxlen = [];
  flags = [];
  mask = [];
  queue_is = (record { spelled = refl; fits = omega arith }, few);
  command_is = inl (codes "bind", inl (refl, refl), refl);
  params_are = (
    codes "packet",
    codes "64",
    inl (inr (inr (inl (refl, refl)))),
    range_is,
    refl,
  );
  maxlen_is = refl;
  flags_are = refl;
  mask_is = refl;
  words_are = refl;
}

open_says : (queue : ℕ) → queue < 2 ^ 16 →
    IsSpelled (open_line queue) (codes "open" ∷ open_words queue) →
    Says (open_line queue) (line.Inside (block.Open (values.binding queue)))
open_says queue few spelled = (
  spelled.0,
  (
    open_words queue,
    (ask.Config (Number queue) values.settings, (_, config_is queue few, refl), refl),
    spelled.1,
  ),
)

-- a verdict on the notice's packet, by its word
judges : (word : List ℕ) (verdict : ℕ) → IsVerdict word verdict →
    IsAsk (codes "verdict" ∷ codes "this" ∷ word ∷ codes "this" ∷ []) (values.judged verdict)
judges word verdict is = (
  codes "this" ∷ word ∷ codes "this" ∷ [],
  record {
    queue = codes "this";
    verdict = word;
    id = codes "this";
    mark = [];
    payload = [];
    priority = [];
    queue_is = refl;
    verdict_is = is;
    id_is = refl;
    mark_is = refl;
    payload_is = refl;
    priority_is = refl;
    words_are = refl;
  },
  refl,
)

drop_says : Says (codes "on proto 17 do verdict this drop this")
    (line.Inside (block.On (values.judging (Protocol udp) verdict_drop)))
unfolding digits words_of
drop_says = (
  refl,
  (
    _,
    record {
      conditions = codes "proto" ∷ codes "17" ∷ [];
      asks = codes "verdict" ∷ codes "this" ∷ codes "drop" ∷ codes "this" ∷ [];
      conditions_are =
          (codes "17", (record { spelled = refl; fits = lit< tt }, lit< tt), refl);
      asks_are = judges (codes "drop") verdict_drop (inl (inl (refl, refl)));
      few_asks = lit≤ tt;
      words_are = refl;
    },
    refl,
  ),
)

accept_says : Says (codes "on any do verdict this accept this")
    (line.Inside (block.On (values.judging Any verdict_accept)))
unfolding words_of
accept_says = (
  refl,
  (
    _,
    record {
      conditions = codes "any" ∷ [];
      asks = codes "verdict" ∷ codes "this" ∷ codes "accept" ∷ codes "this" ∷ [];
      conditions_are = refl;
      asks_are = judges (codes "accept") verdict_accept (inl (inr (inl (refl, refl))));
      few_asks = lit≤ tt;
      words_are = refl;
    },
    refl,
  ),
)

-- ---- blocks

block_says : (k : ℕ) → k < 4 → IsSpelled (port_line k) (codes "port" ∷ decimal (port_of k) ∷ []) →
    IsSpelled (open_line (even_queue k)) (codes "open" ∷ open_words (even_queue k)) →
    IsSpelled (open_line (odd_queue k)) (codes "open" ∷ open_words (odd_queue k)) →
    AllZip Says (block_lines k) (lines_of (part k))
block_says k few port even odd = (
  port_says k few port,
  (
    open_says (even_queue k) (omega arith) even,
    (open_says (odd_queue k) (omega arith) odd, (drop_says, (accept_says, tt))),
  ),
)

-- where no line closes the port, none stands behind one that does
none_behind : (ls : List BlockLine) → list_any is_close ls ≡ false →
    AllPairs (λ a b. is_close a ≡ true → is_end b ≡ false) ls
none_behind ls stays =
    λ i j d less within closes.
    absurd (false≢true (sym stays ∙ list_any_at is_close ls i d (omega arith) closes))

part_is : (k : ℕ) → IsPart (part k)
part_is k = record {
  inside = All-map IsInside line.Inside (own_lines k) (λ i d within. tt);
  few_lines = lit≤ tt;
  ended_once = none_behind (own_lines k) refl;
}

-- ---- the whole file

counted_differ : (a n : ℕ) → AllPairs (λ x y. x ≢ y) (range_with_len a n)
counted_differ a n =
    λ i j d less within same.
    let before_end : j < n = omega (arith, length-range_with_len a n) in
    absurd (omega (
      arith,
      get_or-range_with_len a n i d (omega arith),
      get_or-range_with_len a n j d before_end,
    ))

says_both : (xs ys : List (List ℕ)) (ls ms : List Line) → AllZip Says xs ls → AllZip Says ys ms →
    AllZip Says (xs ++ ys) (ls ++ ms)
says_both [] ys [] ms left right = right
says_both [] ys (l ∷ ls) ms left right = absurd left
says_both (x ∷ xs) ys [] ms left right = absurd left
says_both (x ∷ xs) ys (l ∷ ls) ms left right = (left.0, says_both xs ys ls ms left.1 right)

head_is : IsHead (line.Key 1 ∷ []) None None (Some 1) []
head_is = record {
  set_up = All-cons SetsUp (line.Key 1) [] tt (All-nil SetsUp);
  mail_once = refl;
  pace_once = refl;
  key_once = refl;
  downs_are = refl;
  few_downs = lit≤ tt;
}

abbrev parts : List Part
parts = map part values.places

blocks_say : (ks : List ℕ) →
    AllByRecursion (λ k. AllZip Says (block_lines k) (lines_of (part k))) ks →
    AllZip Says (flat_map block_lines ks) (flat_map lines_of (map part ks))
blocks_say [] each = tt
blocks_say (k ∷ ks) each =
    says_both (block_lines k) (flat_map block_lines ks) (lines_of (part k))
    (flat_map lines_of (map part ks)) each.0 (blocks_say ks each.1)

all_say : AllZip Says (codes "hashkey 1" ∷ flat_map block_lines values.places)
    (line.Key 1 ∷ flat_map lines_of parts)
unfolding digits words_of
all_say = (
  key_says,
  blocks_say values.places (
    block_says 0 (lit< tt) (refl, refl) (refl, refl) (refl, refl),
    (
      block_says 1 (lit< tt) (refl, refl) (refl, refl) (refl, refl),
      (
        block_says 2 (lit< tt) (refl, refl) (refl, refl) (refl, refl),
        (block_says 3 (lit< tt) (refl, refl) (refl, refl) (refl, refl), tt),
      ),
    ),
  ),
)

script_says : SayScript (line.Key 1 ∷ flat_map lines_of parts) values.script
script_says = record {
  head = line.Key 1 ∷ [];
  parts = parts;
  mail = None;
  pace = None;
  key = Some 1;
  said_is = refl;
  head_is = head_is;
  parts_are =
      All-map IsPart part values.places (λ i d within. part_is _);
  some_port = lit≤ tt;
  few_ports = lit≤ tt;
  ports_differ = counted_differ 101 4;
  script_is = refl;
}

pub script_file : IsScriptFile script_text values.script
unfolding digits script_text
script_file = (line.Key 1 ∷ flat_map lines_of parts, all_say, script_says)
