-- The line `-A FORWARD MATCHES -j NFQUEUE OPTIONS`, by its words: `-p` of iptables(8), and the
-- match `mark` and the target NFQUEUE of iptables-extensions(8), as iptables-save(8) writes them.
use Rattle.std.specs.Prelude.{ℕ, ◌+◌, ◌-◌, ◌^◌, ◌&&◌, nat_lt, nat_le, not, Bool, true, false, List}
use Rattle.std.specs.Prelude.{[], ◌∷◌, Option, Some, None, is_some, is_none, unwrap_or, option_map}
use Rattle.std.specs.Prelude.{bytes_eq, codes, if◌then◌else◌}
use Rattle.std.specs.Option.{option_map_or}
use Rattle.hook_chain.specs.declared.rule.Rule.{Rule}
use Rattle.hook_chain.specs.declared.rule.MarkTest.{MarkTest}
use Rattle.hook_chain.specs.declared.rule.Pick.{Pick}
use Rattle.hook_chain.specs.declared.rule.Pick.TheVariants.{Number, Balance}
use Rattle.hook_chain.specs.declared.rule_line.RuleOptions.{RuleOptions}
use Rattle.text_lines.specs.Words.{◌>>=◌, byte, first_word, words_after, cut_at}
use Rattle.hook_chain.specs.Numbers.{tcp, udp, icmp, ipv6_icmp, all_bits, most_queues}
use Rattle.text_lines.specs.Digits.{decimal_below, wide}

-- a protocol by its name or its number
unfoldable pub protocol_of : List ℕ → Option ℕ
protocol_of word =
    if bytes_eq word (codes "tcp") then Some tcp
    else if bytes_eq word (codes "udp") then Some udp
    else if bytes_eq word (codes "icmp") then Some icmp
    else if bytes_eq word (codes "ipv6-icmp") then Some ipv6_icmp
    else decimal_below (2 ^ 8) word

-- at most one `-p PROTO`, and the words after it
unfoldable pub protocol_match : List (List ℕ) → Option (Option ℕ × List (List ℕ))
protocol_match words = option_map_or (λ rest. do
  word ← first_word rest
  protocol ← protocol_of word.0
  Some (Some protocol, word.1)) (words_after (codes "-p") words) (Some (None, words))

-- VALUE/MASK, or VALUE with the mask of all bits
unfoldable pub value_and_mask : List ℕ → Option (ℕ × ℕ)
value_and_mask word = option_map_or (λ parts. do
  value ← wide parts.0
  mask ← wide parts.1
  Some (value, mask)) (cut_at (byte "/") word) (option_map (λ value. (value, all_bits)) (wide word))

-- at most one `-m mark [!] --mark VALUE[/MASK]`, and the words after it
unfoldable pub mark_match : List (List ℕ) → Option (Option MarkTest × List (List ℕ))
mark_match words = option_map_or (λ rest. do
  test ← words_after (codes "mark") rest
  word ← (words_after (codes "--mark") (unwrap_or (words_after (codes "!") test) test) >>=
      first_word)
  bits ← value_and_mask word.0
  Some (
    Some (record {
      value = bits.0;
      mask = bits.1;
      negated = is_some (words_after (codes "!") test);
    }),
    word.1,
  ))
    (words_after (codes "-m") words) (Some (None, words))

-- A:B, with A below B, and not too many queues
unfoldable pub range_of : List ℕ → Option Pick
range_of word = do
  parts ← cut_at (byte ":") word
  first ← decimal_below (2 ^ 16) parts.0
  last ← decimal_below (2 ^ 16) parts.1
  if nat_lt first last && nat_le (last - first + 1) most_queues
      then Some (Balance first (last - first + 1)) else None

-- `--queue-num N` or `--queue-balance A:B`
unfoldable pub pick_of : List ℕ → List ℕ → Option Pick
pick_of option value =
    if bytes_eq option (codes "--queue-num") then option_map Number (decimal_below (2 ^ 16) value)
    else if bytes_eq option (codes "--queue-balance") then range_of value
    else None

abbrev pub is_balance : Option Pick → Bool
is_balance None = false
is_balance (Some (Number queue)) = false
is_balance (Some (Balance first total)) = true

-- what these options say together: without one that picks the queue it is 0, and the fan-out stands
-- beside a balance alone
abbrev pub options_said : Option Pick → Bool → Bool → Option RuleOptions
options_said pick bypass fanout =
    if fanout && not (is_balance pick) then None
    else Some (record { pick = unwrap_or pick (Number 0); bypass = bypass; fanout = fanout })

-- The options in any order, each at most once, and at most one that picks the queue. `pick`,
-- `bypass` and `fanout` were said before these words.
unfoldable pub options_after : Option Pick → Bool → Bool → List (List ℕ) → Option RuleOptions
options_after pick bypass fanout [] = options_said pick bypass fanout
options_after pick bypass fanout (w ∷ []) =
    if bytes_eq w (codes "--queue-bypass") && not bypass then options_said pick true fanout
    else if bytes_eq w (codes "--queue-cpu-fanout") && not fanout
    then options_said pick bypass true else None
options_after pick bypass fanout (w ∷ v ∷ ws) =
    if bytes_eq w (codes "--queue-bypass") && not bypass
    then options_after pick true fanout (v ∷ ws)
    else if bytes_eq w (codes "--queue-cpu-fanout") && not fanout
    then options_after pick bypass true (v ∷ ws)
    else if is_none pick then (pick_of w v >>= λ p. options_after (Some p) bypass fanout ws)
    else None

-- the words after `-A`
unfoldable pub rule_of : List (List ℕ) → Option Rule
rule_of words = do
  matches ← words_after (codes "FORWARD") words
  protocol ← protocol_match matches
  mark ← mark_match protocol.1
  options ← (words_after (codes "-j") mark.1 >>= words_after (codes "NFQUEUE"))
  option ← options_after None false false options
  Some (record {
    protocol = protocol.0;
    mark = mark.0;
    pick = option.pick;
    bypass = option.bypass;
    fanout = option.fanout;
  })
