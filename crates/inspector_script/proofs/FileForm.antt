-- A script's file is read exactly where it is in the grammar, and else refused at the first line
-- that may not stand in its place.
use Rattle.std.proofs.Common.{◌≡◌, ℕ, ◌+◌, inl, inr, List, [], ◌∷◌, ◌++◌, length, length-append}
use Rattle.std.proofs.Common.{append-nil, Option}
use Rattle.std.proofs.Common.{Some, None, Result, Ok, Err, ◌∙◌, refl, sym, ap, subst, arith}
use Rattle.std.specs.Prelude.{◌≢◌, ◌⊎◌, AllPairs, IfOk, codes, unwrap_or}
use Rattle.std.specs.Str.Lines.{lines}
use Rattle.std.proofs.lemmas.List.Elements.{All-push}
use Rattle.std.proofs.lemmas.List.{flat_map_more, length-map, map-append}
use Rattle.text_lines.specs.declared.fault.LineFault.{LineFault}
use Rattle.text_lines.specs.declared.fault.LineFault.TheVariants.{Bad}
use Rattle.text_lines.specs.Words.{words_of}
use Rattle.text_lines.specs.Digits.{decimal, digits_onto, number}
use Rattle.script_lines.specs.declared.line.Down as down
use Rattle.script_lines.specs.declared.line.Line.{Line}
use Rattle.script_lines.specs.declared.line.Line.TheVariants.{Port}
use Rattle.script_lines.specs.Line.{says, says_by, set_up}
use Rattle.script_lines.specs.Grammar.{Says}
use Rattle.inspector_script.specs.declared.block.Block.{Block}
use Rattle.inspector_script.specs.Numbers.{default_key, default_mail, default_pace}
use Rattle.inspector_script.specs.Scripts.{ScriptValue, held}
use Rattle.inspector_script.specs.ScriptFile.{Answers, Place, after, script_at, script_from}
use Rattle.inspector_script.specs.ScriptFile.{script_of, start, without_lines}
use Rattle.text_lines.specs.Refusals.{BeginFile, EndsEarly, IsBadLine}
use Rattle.inspector_script.specs.Grammar.{AreScriptLines}
use Rattle.inspector_script.specs.Grammar.{IsFirstRefused, IsPart, IsScriptFile, Part, SayScript}
use Rattle.inspector_script.specs.Grammar.{block_of, blocks_of, lines_of, owns, ports_of}
use Rattle.inspector_script.proofs.LinesOfScript.{goes_script}
use Rattle.inspector_script.proofs.ReaderPath.{leads_of_say, say_of}
use Rattle.inspector_script.proofs.Leads.{EndsIn, IsRefused, IsStuck, Leads, Spelling, answer_of}
use Rattle.inspector_script.proofs.Leads.{fault_of_front, leads_append, leads_on, leads_same}
use Rattle.inspector_script.proofs.Leads.{leads_split, same_Err, same_Ok, stops_at, two_answers}
use Rattle.inspector_script.proofs.ReaderPlaces.{IsAtBy, IsOutside, IsWithin, place, reached}

-- ---- from places to the grammar

within_script : (said : List Line) (q : Place) (b : Block) → IsWithin said q b →
    SayScript said (script_at q b)
within_script said q b h =
    let parts : List Part = h.before ++ h.current ∷ [] in
    let ports_are : q.ports ≡ ports_of parts = h.ports_are
    ∙ sym (map-append (λ (part : Part). part.port) h.before (h.current ∷ [])) in
    let count : length q.ports ≡ length parts =
    ap length ports_are ∙ length-map parts (λ (part : Part). part.port) in
    let blocks_are : q.blocks ++ b ∷ [] ≡ blocks_of parts =
    ap (λ bs. bs ++ b ∷ []) h.blocks_are
    ∙ ap (λ (c : Block). blocks_of h.before ++ c ∷ []) h.last_is
    ∙ sym (map-append (λ (part : Part). block_of (owns part)) h.before (h.current ∷ [])) in record {
      head = h.head;
      parts = parts;
      mail = q.mail;
      pace = q.pace;
      key = q.key;
      said_is = h.said_is ∙ flat_map_more lines_of h.head h.before h.current;
      head_is = h.head_is;
      parts_are = All-push IsPart h.before h.current h.before_are h.current_is;
      some_port = omega (arith, length-append h.before (h.current ∷ []));
      few_ports = omega (arith, h.few_ports, count);
      ports_differ = subst (AllPairs (λ a b. a ≢ b)) ports_are h.differ;
      script_is = ap (λ (ps : List ℕ). held (unwrap_or q.mail default_mail)
          (unwrap_or q.pace default_pace) (unwrap_or q.key default_key) q.downs ps
          (q.blocks ++ b ∷ [])) ports_are
          ∙ ap (λ (bs : List Block). held (unwrap_or q.mail default_mail)
          (unwrap_or q.pace default_pace) (unwrap_or q.key default_key) q.downs (ports_of parts)
          bs) blocks_are;
    }

within_of : (said : List Line) (q : Place) (b : Block) (o : Option Block) → o ≡ Some b →
    IsAtBy said q o → IsWithin said q b
within_of said q b o e h = subst (IsAtBy said q) e h

-- lines that lead into a block are those of a script's file
file_of_leads : (ls : List (List ℕ)) (q : Place) (s : ScriptValue) → Leads start ls q →
    EndsIn q s → AreScriptLines ls s
file_of_leads ls q s h end =
    let say = say_of start q ls h in
    let within = within_of say.0 q end.0 q.last end.1 (reached say.0 q say.2) in (
      say.0,
      say.1,
      subst (SayScript say.0) end.2 (within_script say.0 q end.0 within),
    )

-- ---- and from the grammar to places

leads_of_file : (ls : List (List ℕ)) (s : ScriptValue) → AreScriptLines ls s →
    (q : Place) × Leads start ls q × EndsIn q s
leads_of_file ls s h =
    let goes = goes_script h.0 s h.2 in
    (goes.0, leads_of_say start goes.0 ls h.0 h.1 goes.1, goes.2)

-- what is read of a file is in the grammar
pub file_found : Spelling → (text : List ℕ) (s : ScriptValue) → script_of text ≡ Ok s →
    IsScriptFile text s
unfolding script_of
file_found law text s e =
    let led = leads_on law 1 start (lines text) s e in
    file_of_leads (lines text) led.0 s led.1 led.2

-- what is in the grammar is read
pub file_read : Spelling → (text : List ℕ) (s : ScriptValue) → IsScriptFile text s →
    script_of text ≡ Ok s
unfolding script_of
file_read law text s h =
    let led = leads_of_file (lines text) s h in
    answer_of law 1 start led.0 (lines text) s led.1 led.2

-- ---- the first line that is refused

begin_leads : (ls : List (List ℕ)) → BeginFile AreScriptLines ls → (p : Place) × Leads start ls p
begin_leads ls h =
    let all = leads_of_file (ls ++ h.0) h.1 h.2 in
    let front = leads_split start all.0 ls h.0 all.1 in
    (front.0, front.1)

port_line : says (codes "port 1") ≡ Some (Port 1)
unfolding says says_by set_up words_of decimal number digits_onto
port_line = refl

some_port : (m p k : Option ℕ) (d : List down.Down) (ports : List ℕ) (blocks : List Block) →
    ports ≡ [] →
    after (place m p k d ports blocks None) (Port 1)
    ≡ Some (place m p k d (ports ++ 1 ∷ []) (blocks ++ []) (Some without_lines))
unfolding after
some_port m p k d ports blocks none = rw none refl

-- lines that lead somewhere begin a script's file: the line `port 1` completes them where there is
-- no port
leads_begin_by : Spelling → (ls : List (List ℕ)) (m p k : Option ℕ) (d : List down.Down)
    (ports : List ℕ) (blocks : List Block) (last : Option Block) →
    Leads start ls (place m p k d ports blocks last) → BeginFile AreScriptLines ls
leads_begin_by law ls m p k d ports blocks (Some b) h =
    let q : Place = place m p k d ports blocks (Some b) in (
      [],
      script_at q b,
      subst (λ ms. AreScriptLines ms (script_at q b)) (sym (append-nil ls))
          (file_of_leads ls q (script_at q b) h (b, refl, refl)),
    )
leads_begin_by law ls m p k d ports blocks None h =
    let q : Place = place m p k d ports blocks None in
    let end : Place = place m p k d (ports ++ 1 ∷ []) (blocks ++ []) (Some without_lines) in
    let say = say_of start q ls h in
    let outside : IsOutside say.0 q = reached say.0 q say.2 in
    let last : Leads q (codes "port 1" ∷ []) end = (
      Port 1,
      end,
      (law (codes "port 1") (Port 1)).0 port_line,
      some_port m p k d ports blocks outside.no_ports,
      refl,
    ) in (
      codes "port 1" ∷ [],
      script_at end without_lines,
      file_of_leads (ls ++ codes "port 1" ∷ []) end (script_at end without_lines)
          (leads_append start q end ls (codes "port 1" ∷ []) h last) (without_lines, refl, refl),
    )

leads_begin : Spelling → (ls : List (List ℕ)) (p : Place) → Leads start ls p →
    BeginFile AreScriptLines ls
leads_begin law ls p h =
    leads_begin_by law ls p.mail p.pace p.key p.downs p.ports p.blocks p.last h

one_more_leads : Spelling → (p next : Place) (front : List (List ℕ)) (line : List ℕ)
    (said : Line) → Leads start front p → Says line said → after p said ≡ Some next →
    BeginFile AreScriptLines (front ++ line ∷ [])
one_more_leads law p next front line said h is e =
    leads_begin law (front ++ line ∷ []) next
    (leads_append start p next front (line ∷ []) h (said, next, is, e, refl))

not_begun : Spelling → (p : Place) (front : List (List ℕ)) (line : List ℕ) →
    Leads start front p → IsRefused p line → BeginFile AreScriptLines (front ++ line ∷ []) → ⊥
not_begun law p front line h refused begin =
    let all = begin_leads (front ++ line ∷ []) begin in
    let parts = leads_split start all.0 front (line ∷ []) all.1 in
    let same : parts.0 ≡ p = leads_same law start parts.0 p front parts.1 h in
    let last = subst (λ (s : Place). Leads s (line ∷ []) all.0) same parts.2 in
    refused last.0 last.1 last.2 last.3

refused_where : Spelling → (text : List ℕ) (line_number : ℕ) (front rest : List (List ℕ))
    (p : Place) → script_of text ≡ Err line_number → lines text ≡ front ++ rest →
    length front + 1 ≡ line_number → Leads start front p → IsStuck p rest →
    IsFirstRefused text line_number
refused_where law text line_number front [] p answer e count h stuck =
    let whole : lines text ≡ front = e ∙ append-nil front in
    inr (record {
      count = omega (arith, ap length whole, count);
      begin = subst (BeginFile AreScriptLines) (sym whole) (leads_begin law front p h);
      unfinished =
          λ s file. two_answers s line_number (sym (file_read law text s file) ∙ answer);
    })
refused_where law text line_number front (line ∷ rest) p answer e count h stuck =
    inl (record {
      front = front;
      line = line;
      rest = rest;
      lines_are = e;
      count = count;
      begin = leads_begin law front p h;
      refused = not_begun law p front line h stuck;
    })

-- what is refused is refused at the first line that may not stand
pub file_refused : Spelling → (text : List ℕ) (line : ℕ) → script_of text ≡ Err line →
    IsFirstRefused text line
unfolding script_of
file_refused law text line e =
    let found = stops_at law 1 line start (lines text) e in
    let stop = found.2 in
    refused_where law text line stop.0 stop.1 stop.2 e stop.3 (omega (arith, found.1, stop.4))
    stop.5 stop.6

bad_line : Spelling → (text : List ℕ) (line_number : ℕ) →
    IsBadLine AreScriptLines text line_number → script_of text ≡ Err line_number
unfolding script_of
bad_line law text line_number h =
    let led = begin_leads h.front h.begin in
    let stuck : IsStuck led.0 (h.line ∷ h.rest) =
    λ said next is e.
    h.refused (one_more_leads law led.0 next h.front h.line said led.1 is e) in
    let same : 1 + length h.front ≡ line_number = omega (arith, h.count) in
    rw h.lines_are (fault_of_front law 1 start led.0 h.front (h.line ∷ h.rest) led.1 stuck
    ∙ ap (λ n. Err n) same)

stuck_outside : (text : List ℕ) (line_number : ℕ) (p : Place) →
    EndsEarly AreScriptLines text line_number → Leads start (lines text) p → p.last ≡ None
stuck_outside text line_number p h led =
    elim p.last as (λ o. p.last ≡ o → o ≡ None) [
      | None ↦ λ out. refl
      | Some b ↦ λ within. absurd (h.unfinished (script_at p b)
          (file_of_leads (lines text) p (script_at p b) led (b, within, refl)))
    ] refl

ends_early : Spelling → (text : List ℕ) (line_number : ℕ) →
    EndsEarly AreScriptLines text line_number → script_of text ≡ Err line_number
unfolding script_of
ends_early law text line_number h =
    let led = begin_leads (lines text) h.begin in
    let same : 1 + length (lines text) ≡ line_number = omega (arith, h.count) in
    let all =
    fault_of_front law 1 start led.0 (lines text) [] led.1
    (stuck_outside text line_number led.0 h led.1)
    ∙ ap (λ n. Err n) same in
    subst (λ ls. script_from 1 start ls ≡ Err line_number) (append-nil (lines text)) all

-- what has such a line is refused there
pub file_stuck : Spelling → (text : List ℕ) (line : ℕ) → IsFirstRefused text line →
    script_of text ≡ Err line
file_stuck law text line (inl h) = bad_line law text line h
file_stuck law text line (inr h) = ends_early law text line h

-- ---- the same of an answer

pub found_by : Spelling → (r : Result ScriptValue LineFault) (text : List ℕ) →
    Answers r (script_of text) → IfOk r (IsScriptFile text)
found_by law (Ok s) text h = file_found law text s h
found_by law (Err fault) text h = tt

pub refused_by : Spelling → (r : Result ScriptValue LineFault) (text : List ℕ) (line : ℕ) →
    Answers r (script_of text) → r ≡ Err (Bad line) → IsFirstRefused text line
refused_by law r text line h e =
    file_refused law text line
    (subst (λ (s : Result ScriptValue LineFault). Answers s (script_of text)) e h)

pub answered_by : (r : Result ScriptValue LineFault) (text : List ℕ)
    (read : Result ScriptValue ℕ) → script_of text ≡ read → Answers r (script_of text) →
    Answers r read
answered_by r text read e h = subst (Answers r) e h

-- ---- laws

pub same_script : Spelling → (text : List ℕ) (a b : ScriptValue) → IsScriptFile text a →
    IsScriptFile text b → a ≡ b
same_script law text a b h g =
    same_Ok a b (sym (file_read law text a h) ∙ file_read law text b g)

pub same_line : Spelling → (text : List ℕ) (a b : ℕ) → IsFirstRefused text a →
    IsFirstRefused text b → a ≡ b
same_line law text a b h g =
    same_Err a b (sym (file_stuck law text a h) ∙ file_stuck law text b g)

pub never_both : Spelling → (text : List ℕ) (s : ScriptValue) (line : ℕ) →
    IsScriptFile text s → IsFirstRefused text line → ⊥
never_both law text s line h g =
    two_answers s line (sym (file_read law text s h) ∙ file_stuck law text line g)

pub one_of_two : Spelling → (text : List ℕ) →
    ((s : ScriptValue) × IsScriptFile text s) ⊎ ((line : ℕ) × IsFirstRefused text line)
one_of_two law text =
    elim (script_of text) as (λ r. script_of text ≡ r →
    ((s : ScriptValue) × IsScriptFile text s) ⊎ ((line : ℕ) × IsFirstRefused text line)) [
      | Ok s ↦ λ e. inl (s, file_found law text s e)
      | Err line ↦ λ e. inr (line, file_refused law text line e)
    ] refl
