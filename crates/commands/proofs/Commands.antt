-- The program's words are a `live` command or one of the others.
use Rattle.std.proofs.Common.{◌≡◌, ◌∙◌, ap, sym, subst, refl, List, Option, Some, None, drop, map}
use Rattle.std.proofs.Common.{Result, Ok, Err, String, Global, Bool, true, false}
use Rattle.std.specs.Prelude.{if◌then◌else◌, IsErr, IsOkAnd, option_map}
use Rattle.std.specs.String.{string_bytes}
use Rattle.std.specs.Vec.Iter.{into_iter_items}
use Rattle.std.specs.declared.vec.IntoIter.{IntoIter}
use Rattle.command_line.specs.Arguments.{Audits, Call, call_of_arguments, call_of_words, Generates}
use Rattle.command_line.specs.Arguments.{is_live, live_call_of_words, live_of, LiveFiles, Lists}
use Rattle.command_line.specs.Arguments.{Lives, Migrates, Plays, program_call, Tries}

pub to_live : (words : List (String Global)) → is_live (map string_bytes words) ≡ true →
    live_call_of_words words ≡ program_call words
to_live words first =
    sym (ap (λ (b : Bool). if b then live_call_of_words words else call_of_words words) first)

pub to_another : (words : List (String Global)) → is_live (map string_bytes words) ≡ false →
    call_of_words words ≡ program_call words
to_another words other =
    sym (ap (λ (b : Bool). if b then live_call_of_words words else call_of_words words) other)

-- words that are the arguments after the program's name are the command that the arguments are
pub same_arguments : {E : Type 0} (arguments : Result (IntoIter (String Global) Global) E)
    (words there : List (String Global)) → there ≡ words →
    IsOkAnd arguments (λ args. words ≡ drop 1 (into_iter_items args)) →
    program_call there ≡ call_of_arguments arguments
same_arguments (Ok args) words there here same = ap program_call (here ∙ same)
same_arguments (Err e) words there here same = absurd same

pub no_arguments : {E : Type 0} (arguments : Result (IntoIter (String Global) Global) E) →
    IsErr arguments → call_of_arguments arguments ≡ None
no_arguments (Ok args) none = absurd (cc none)
no_arguments (Err e) none = refl

-- `live` is no other command
abbrev pub IsLiveAlone : Option Call → Type 0
IsLiveAlone (Some (Plays f)) = ⊥
IsLiveAlone (Some (Lists f)) = ⊥
IsLiveAlone (Some (Generates g)) = ⊥
IsLiveAlone (Some (Tries s)) = ⊥
IsLiveAlone (Some (Migrates m)) = ⊥
IsLiveAlone (Some (Audits a)) = ⊥
IsLiveAlone (Some (Lives l)) = Unit {0}
IsLiveAlone None = Unit {0}

alone : (l : Option LiveFiles) → IsLiveAlone (option_map Lives l)
alone (Some l) = tt
alone None = tt

pub words_alone : (words : List (String Global)) → IsLiveAlone (live_call_of_words words)
words_alone words = alone (live_of (map string_bytes words))

pub live_alone : (words : List (String Global)) (k : Call) → live_call_of_words words ≡ Some k →
    IsLiveAlone (Some k)
live_alone words k is = subst IsLiveAlone is (words_alone words)
