-- A rule that was read picks queues that there are.
use Rattle.std.proofs.Common.{◌≡◌, ℕ, ◌+◌, ◌-◌, ◌^◌, ◌<◌, ◌≤◌, Bool, true, false, cond, not, ◌&&◌}
use Rattle.std.proofs.Common.{ltb, leb, List, [], ◌∷◌, Option, Some, None, refl, arith, lit<}
use Rattle.std.proofs.lemmas.Bool.{ltb-true, leb-true, and_parts}
use Rattle.std.specs.Prelude.{IfSome, option_map, unwrap_or, is_none, bytes_eq, codes, slice_index}
use Rattle.std.specs.Prelude.{◌==◌, length, drop}
use Rattle.std.specs.List.{list_all}
use Rattle.std.specs.Option.{option_map_or}
use Rattle.hook_chain.specs.declared.rule.Rule.{Rule}
use Rattle.hook_chain.specs.declared.rule.Pick.{Pick}
use Rattle.hook_chain.specs.declared.rule.Pick.TheVariants.{Number, Balance}
use Rattle.text_lines.specs.Words.{◌>>=◌, byte, first_word, words_after, cut_at, words_of}
use Rattle.text_lines.specs.Words.{first_said, is_printable}
use Rattle.text_lines.specs.Digits.{below, decimal, decimal_below}
use Rattle.hook_chain.specs.Numbers.{most_queues}
use Rattle.hook_chain.specs.Rules.{IsPick}
use Rattle.hook_chain.specs.RuleLine.{range_of, pick_of, options_after, rule_of, protocol_match}
use Rattle.hook_chain.specs.RuleLine.{mark_match, is_balance, options_said}
use Rattle.hook_chain.specs.declared.rule_line.RuleOptions.{RuleOptions}
use Rattle.hook_chain.specs.Line.{Says, Nothing, Opens, Policy, Adds, Closes, opening, policy}
use Rattle.hook_chain.specs.Line.{says_by, says, is_table_name, is_chain_name, is_counters}

-- what holds of all that a step gives holds after it
bind_if : {A B : Type 0} (o : Option A) (f : A → Option B) (P : B → Type 0) →
    ((x : A) → IfSome (f x) P) → IfSome (o >>= f) P
bind_if None f P h = tt
bind_if (Some x) f P h = h x

bind_from : {A B : Type 0} (o : Option A) (f : A → Option B) (Q : A → Type 0) (P : B → Type 0) →
    IfSome o Q → ((x : A) → Q x → IfSome (f x) P) → IfSome (o >>= f) P
bind_from None f Q P q h = tt
bind_from (Some x) f Q P q h = h x q

cond_if : {A : Type 0} (b : Bool) (x y : Option A) (P : A → Type 0) → (b ≡ true → IfSome x P) →
    (b ≡ false → IfSome y P) → IfSome (cond b x y) P
cond_if true x y P h g = h refl
cond_if false x y P h g = g refl

below_if : (limit n : ℕ) → IfSome (below limit n) (λ m. m < limit)
below_if limit n =
    cond_if (ltb n limit) (Some n) None (λ m. m < limit) (λ e. ltb-true n limit e) (λ e. tt)

decimal_if : (limit : ℕ) (word : List ℕ) → IfSome (decimal_below limit word) (λ m. m < limit)
decimal_if limit word =
    bind_if (decimal word) (below limit) (λ m. m < limit) (λ n. below_if limit n)

range_ends : (first last : ℕ) → first < 2 ^ 16 → last < 2 ^ 16 →
    IfSome (cond (ltb first last && leb (last - first + 1) most_queues)
    (Some (Balance first (last - first + 1))) None) IsPick
range_ends first last f l =
    cond_if (ltb first last && leb (last - first + 1) most_queues)
    (Some (Balance first (last - first + 1))) None IsPick
    (λ e.
    let parts = and_parts (ltb first last) (leb (last - first + 1) most_queues) e in
    let order : first < last = ltb-true first last parts.0 in
    let few : last - first + 1 ≤ most_queues = leb-true (last - first + 1) most_queues parts.1 in
    (omega arith, few, omega arith))
    (λ e. tt)

range_if : (word : List ℕ) → IfSome (range_of word) IsPick
unfolding range_of
range_if word =
    bind_if (cut_at (byte ":") word) _ IsPick
    (λ parts. bind_from (decimal_below (2 ^ 16) parts.0) _ (λ m. m < 2 ^ 16) IsPick
    (decimal_if (2 ^ 16) parts.0)
    (λ first f. bind_from (decimal_below (2 ^ 16) parts.1) _ (λ m. m < 2 ^ 16) IsPick
    (decimal_if (2 ^ 16) parts.1) (λ last l. range_ends first last f l)))

number_if : (o : Option ℕ) → IfSome o (λ m. m < 2 ^ 16) → IfSome (option_map Number o) IsPick
number_if None h = tt
number_if (Some n) h = h

pick_if : (option value : List ℕ) → IfSome (pick_of option value) IsPick
unfolding pick_of
pick_if option value =
    cond_if (bytes_eq option (codes "--queue-num")) _ _ IsPick
    (λ e. number_if (decimal_below (2 ^ 16) value) (decimal_if (2 ^ 16) value))
    (λ e. cond_if (bytes_eq option (codes "--queue-balance")) (range_of value) None IsPick
    (λ f. range_if value) (λ f. tt))

abbrev Picked : RuleOptions → Type 0
Picked x = IsPick x.pick

default_if : (pick : Option Pick) → IfSome pick IsPick → IsPick (unwrap_or pick (Number 0))
default_if None h = lit< tt
default_if (Some p) h = h

said_if : (pick : Option Pick) (bypass fanout : Bool) → IfSome pick IsPick →
    IfSome (options_said pick bypass fanout) Picked
said_if pick bypass fanout h =
    cond_if (fanout && not (is_balance pick)) None _ Picked (λ e. tt) (λ e. default_if pick h)

options_if : (pick : Option Pick) (bypass fanout : Bool) (words : List (List ℕ)) →
    IfSome pick IsPick → IfSome (options_after pick bypass fanout words) Picked
unfolding options_after
options_if pick bypass fanout [] h = said_if pick bypass fanout h
options_if pick bypass fanout (w ∷ []) h =
    cond_if (bytes_eq w (codes "--queue-bypass") && not bypass) _ _ Picked
    (λ e. said_if pick true fanout h)
    (λ e. cond_if (bytes_eq w (codes "--queue-cpu-fanout") && not fanout) _ None Picked
    (λ f. said_if pick bypass true h) (λ f. tt))
options_if pick bypass fanout (w ∷ v ∷ ws) h =
    cond_if (bytes_eq w (codes "--queue-bypass") && not bypass) _ _ Picked
    (λ e. options_if pick true fanout (v ∷ ws) h)
    (λ e. cond_if (bytes_eq w (codes "--queue-cpu-fanout") && not fanout) _ _ Picked
    (λ f. options_if pick bypass true (v ∷ ws) h)
    (λ f. cond_if (is_none pick) _ None Picked
    (λ g. bind_from (pick_of w v) _ IsPick Picked (pick_if w v)
    (λ p k. options_if (Some p) bypass fanout ws k)) (λ g. tt)))

rule_if : (words : List (List ℕ)) → IfSome (rule_of words) (λ r. IsPick r.pick)
unfolding rule_of
rule_if words =
    bind_if (words_after (codes "FORWARD") words) _ _ (λ matches.
    bind_if (protocol_match matches) _ _ (λ protocol.
    bind_if (mark_match protocol.1) _ _ (λ mark.
    bind_if (words_after (codes "-j") mark.1 >>= words_after (codes "NFQUEUE")) _ _ (λ options.
    bind_from (options_after None false false options) _ Picked _
    (options_if None false false options tt)
    (λ option g. g)))))

-- what a line says is a rule that picks queues that there are, if it is a rule
abbrev pub SaysPick : Says → Type 0
SaysPick Nothing = Unit {0}
SaysPick (Opens name) = Unit {0}
SaysPick Policy = Unit {0}
SaysPick (Adds rule) = IsPick rule.pick
SaysPick Closes = Unit {0}

adds_if : (o : Option Rule) → IfSome o (λ r. IsPick r.pick) → IfSome (option_map Adds o) SaysPick
adds_if None h = tt
adds_if (Some r) h = h

opening_if : (name : List ℕ) (words : List (List ℕ)) → IfSome (opening name words) SaysPick
unfolding opening
opening_if name words =
    cond_if (is_table_name name && (length words == 0)) (Some (Opens name)) None SaysPick (λ e. tt)
    (λ e. tt)

policy_if : (name : List ℕ) (words : List (List ℕ)) → IfSome (policy name words) SaysPick
unfolding policy
policy_if name words =
    bind_if (words_after (codes "ACCEPT") words) _ SaysPick
    (λ rest. bind_if (first_word rest) _ SaysPick
    (λ counters. cond_if (is_chain_name name && is_counters counters.0 && (length counters.1 == 0))
    (Some Policy) None SaysPick (λ g. tt) (λ g. tt)))

says_by_if : (word : List ℕ) (words : List (List ℕ)) → IfSome (says_by word words) SaysPick
unfolding says_by
says_by_if word words =
    cond_if (slice_index word 0 == byte "*") (opening (drop 1 word) words) _ SaysPick
    (λ f. opening_if (drop 1 word) words)
    (λ f. cond_if (slice_index word 0 == byte ":") (policy (drop 1 word) words) _ SaysPick
    (λ g. policy_if (drop 1 word) words)
    (λ g. cond_if (bytes_eq word (codes "-A")) (option_map Adds (rule_of words)) _ SaysPick
    (λ h. adds_if (rule_of words) (rule_if words))
    (λ h. cond_if (bytes_eq word (codes "COMMIT") && (length words == 0)) (Some Closes) None
    SaysPick (λ k. tt) (λ k. tt))))

first_if : (o : Option (List ℕ × List (List ℕ))) →
    IfSome (option_map_or (λ w. says_by w.0 w.1) o (Some Nothing)) SaysPick
first_if None = tt
first_if (Some w) = says_by_if w.0 w.1

pub says_if : (line : List ℕ) → IfSome (says line) SaysPick
unfolding says
says_if line =
    cond_if (list_all is_printable line) _ None SaysPick
    (λ e. first_if (first_said (words_of line))) (λ e. tt)
