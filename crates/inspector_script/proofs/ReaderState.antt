-- What a reader of a script has read: the answer that is left, the bounds, and how many lines.
use Rattle.std.proofs.Common.{◌≡◌, ℕ, ◌+◌, ◌<◌, ◌≤◌, List, ◌∷◌, length, Some, None, Err, refl}
use Rattle.std.proofs.Common.{arith}
use Rattle.std.specs.Str.Lines.{lines}
use Rattle.std.proofs.lemmas.List.Elements.{All-nil}
use Rattle.inspector_script.specs.Scripts.{IsBlock}
use Rattle.text_lines.specs.declared.stop.Stop.{Stop}
use Rattle.text_lines.specs.declared.stop.Stop.TheVariants.{Refused, NoMemory}
use Rattle.text_lines.specs.Refusals.{Moves, fault_of}
use Rattle.inspector_script.specs.ScriptFile.{Answers, IsSound, Place}
use Rattle.inspector_script.specs.ScriptFile.{line_leads_to, script_from, script_of, start}

pub record IsRead (text : List ℕ) (line_number : ℕ) (p : Place) (rest : List ℕ) : Type 0 where
  pub answer : script_of text ≡ script_from line_number p (lines rest)
  pub sound : IsSound p
  pub count : line_number + length rest ≤ length text + 1

pub script_from-on : (line_number : ℕ) (p q : Place) (line : List ℕ) (rest : List (List ℕ)) →
    line_leads_to p line ≡ Some q →
    script_from line_number p (line ∷ rest) ≡ script_from (line_number + 1) q rest
unfolding script_from
script_from-on line_number p q line rest e = rw e refl

script_from-off : (line_number : ℕ) (p : Place) (line : List ℕ) (rest : List (List ℕ)) →
    line_leads_to p line ≡ None → script_from line_number p (line ∷ rest) ≡ Err line_number
unfolding script_from
script_from-off line_number p line rest e = rw e refl

sound_start : IsSound start
sound_start =
    record {
      mail = tt;
      downs = omega arith;
      ports = omega arith;
      port_numbers = All-nil (λ port. 1 ≤ port);
      ports_differ = λ i j d less within. absurd (omega arith);
      blocks = refl;
      each = All-nil IsBlock;
      last = tt;
    }

pub is_read_first : (text : List ℕ) (p : Place) → p ≡ start → IsRead text 1 p text
unfolding script_of
is_read_first text p e =
    rw e (record { answer = refl; sound = sound_start; count = omega arith })

pub is_read_next : (text : List ℕ) (line_number : ℕ) (p q : Place) (rest line later : List ℕ) →
    IsRead text line_number p rest → lines rest ≡ line ∷ lines later → length later < length rest →
    line_leads_to p line ≡ Some q → IsSound q → IsRead text (line_number + 1) q later
is_read_next text line_number p q rest line later r first shorter e sound = record {
  answer = rw (r.answer, first) (script_from-on line_number p q line (lines later) e);
  sound = sound;
  count = omega (arith, r.count);
}

pub is_fault : (stop : Stop) (text : List ℕ) (line_number : ℕ) (p q : Place)
    (rest line later : List ℕ) →
    IsRead text line_number p rest → lines rest ≡ line ∷ lines later →
    Moves {A = Unit {0}} (Err stop) (line_leads_to p line) q →
    Answers (Err (fault_of stop line_number)) (script_of text)
is_fault Refused text line_number p q rest line later r first e =
    rw (r.answer, first) (script_from-off line_number p line (lines later) e)
is_fault NoMemory text line_number p q rest line later r first e = tt
