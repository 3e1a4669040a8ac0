-- A line says exactly what the grammar has for it.
use Rattle.std.proofs.Common.{◌≡◌, ℕ, Bool, true, false, cond, ◌&&◌, eqb, leb, inl, inr, List}
use Rattle.std.proofs.Common.{[], ◌∷◌, length, drop, get_or, Option, Some, None, ◌∙◌, refl}
use Rattle.std.proofs.Common.{sym, ap, subst, le-leb}
use Rattle.std.specs.Prelude.{◌↔◌, bytes_eq, codes, option_map}
use Rattle.std.specs.List.{list_all}
use Rattle.std.specs.Option.{option_map_or}
use Rattle.std.proofs.lemmas.Bool.{and_parts, eqb-true, false≢true, leb-true}
use Rattle.std.proofs.lemmas.Option.{cond_some, none-some, same_Some}
use Rattle.text_lines.specs.Words.{◌>>=◌, byte, cut_at_word, first_said, first_word, is_printable}
use Rattle.text_lines.specs.Words.{words_after, words_of}
use Rattle.text_lines.specs.Digits.{decimal}
use Rattle.histories.specs.declared.log.AskWords.{AskWords}
use Rattle.script_lines.specs.declared.answering.OnLine.{OnLine}
use Rattle.script_lines.specs.declared.line.Line.{Line}
use Rattle.script_lines.specs.declared.line.Line.TheVariants.{Nothing, Mail, Pace, Key, Down, Port}
use Rattle.script_lines.specs.declared.line.Line.TheVariants.{Inside}
use Rattle.script_lines.specs.declared.line.BlockLine.{BlockLine}
use Rattle.script_lines.specs.declared.line.BlockLine.TheVariants.{Open, On, End, Close}
use Rattle.script_lines.specs.declared.line.Down as down
use Rattle.script_lines.specs.Numbers.{largest_mail, most_asks}
use Rattle.script_lines.specs.Asking.{words_alone}
use Rattle.script_lines.specs.AskLine.{ask_of, only_word}
use Rattle.script_lines.specs.ConditionLine.{condition_of}
use Rattle.script_lines.specs.Line.{asks_in, conditions_of, down_of, end_of, number_of, of_block}
use Rattle.script_lines.specs.Line.{on_of, says, says_by, set_up, without_notice}
use Rattle.script_lines.specs.Grammar.{IsAsk, IsAskAlone, IsCondition, IsForm, IsNumberLine, IsOn}
use Rattle.script_lines.specs.Grammar.{Says}
use Rattle.script_lines.proofs.WordLaws.{Laws, bind_some, chosen, cut_word_some, first_word_some}
use Rattle.script_lines.proofs.WordLaws.{front_cut, map_some, number_again, only_word_some, passed}
use Rattle.script_lines.proofs.WordLaws.{same_word, taken, words_after_some}
use Rattle.script_lines.proofs.PartsForm.{parts_again, parts_some}
use Rattle.script_lines.proofs.AskForm.{ask_again, ask_some, starts_apart}
use Rattle.script_lines.proofs.ConditionForm.{condition_again, condition_some}
use Rattle.script_lines.proofs.Marks.{and_is_no_test, ask_without, condition_without}
use Rattle.script_lines.proofs.Marks.{conditions_without_do}

-- ---- `on` lines

on_some : Laws → (words : List (List ℕ)) (on : OnLine) → on_of words ≡ Some on → IsOn words on
unfolding on_of
on_some laws words on e =
    let parts = bind_some (cut_at_word (codes "do") words) _ on e in
    let conditions = bind_some (conditions_of (parts.0).0) _ on parts.2 in
    let asks = bind_some (asks_in (parts.0).1) _ on conditions.2 in
    let few = cond_some (leb (length asks.0) most_asks) _ on asks.2 in
    subst (IsOn words) few.1 (record {
      conditions = (parts.0).0;
      asks = (parts.0).1;
      conditions_are =
          parts_some IsCondition condition_of (codes "and") (condition_some laws) conditions.0
          (parts.0).0 conditions.1;
      asks_are =
          parts_some IsAsk ask_of (codes ";") (ask_some laws) asks.0 (parts.0).1 asks.1;
      few_asks = leb-true (length asks.0) most_asks few.0;
      words_are = cut_word_some (codes "do") words parts.0 parts.1;
    })

on_again : Laws → (words : List (List ℕ)) (on : OnLine) → IsOn words on → on_of words ≡ Some on
unfolding on_of
on_again laws words on h =
    let conditions =
    parts_again IsCondition condition_of (codes "and") (condition_again laws)
    (condition_without laws (codes "and") and_is_no_test) on.conditions h.conditions
    h.conditions_are in
    let asks =
    parts_again IsAsk ask_of (codes ";") (ask_again laws) (ask_without laws) on.asks h.asks
    h.asks_are in
    ap on_of h.words_are
    ∙ ap (λ o. o >>= λ (parts : List (List ℕ) × List (List ℕ)). conditions_of parts.0 >>= λ cs.
    asks_in parts.1 >>= λ xs. cond (leb (length xs) most_asks)
    (Some (record { conditions = cs; asks = xs })) None)
    (front_cut (codes "do") h.conditions h.asks
    (conditions_without_do laws on.conditions h.conditions h.conditions_are))
    ∙ ap (λ o. o >>= λ cs. asks_in h.asks >>= λ xs. cond (leb (length xs) most_asks)
    (Some (record { conditions = cs; asks = xs })) None) conditions
    ∙ ap (λ o. o >>= λ xs. cond (leb (length xs) most_asks)
    (Some (record { conditions = on.conditions; asks = xs })) None) asks
    ∙ taken (leb (length on.asks) most_asks) (Some on) None
    (le-leb (length on.asks) most_asks h.few_asks)

-- ---- asks without a notice

alone_some : Laws → (words : List (List ℕ)) (asked : AskWords) →
    without_notice words ≡ Some asked → IsAskAlone words asked
unfolding without_notice
alone_some laws words asked e =
    let ask = bind_some (ask_of words) words_alone asked e in
    (ask.0, ask_some laws words ask.0 ask.1, ask.2)

alone_again : Laws → (words : List (List ℕ)) (asked : AskWords) → IsAskAlone words asked →
    without_notice words ≡ Some asked
unfolding without_notice
alone_again laws words asked h =
    ap (λ o. o >>= words_alone) (ask_again laws words h.0 h.1) ∙ h.2

-- ---- lines before the blocks, and the first of a block

number_some : Laws → (name : List ℕ) (words : List (List ℕ)) (n : ℕ) →
    number_of words ≡ Some n → IsNumberLine name (name ∷ words) n
number_some laws name words n e =
    let word = bind_some (only_word words) decimal n e in (
      word.0,
      (laws.numerals word.0 n).0 word.2,
      ap (λ ws. name ∷ ws) (only_word_some words word.0 word.1),
    )

down_some : Laws → (words : List (List ℕ)) (d : down.Down) → down_of words ≡ Some d →
    IsForm (codes "down" ∷ words) (Down d)
unfolding down_of
down_some laws words d e =
    let first = bind_some (first_word words) _ d e in
    let device = bind_some (decimal (first.0).0) _ d first.2 in
    let rest = bind_some (words_after (codes "after") (first.0).1) _ d device.2 in
    let after = bind_some (number_of rest.0) _ d rest.2 in
    let word = bind_some (only_word rest.0) decimal after.0 after.1 in
    subst (λ (d : down.Down). IsForm (codes "down" ∷ words) (Down d)) (same_Some _ d after.2) (
      (first.0).0,
      word.0,
      (laws.numerals (first.0).0 device.0).0 device.1,
      (laws.numerals word.0 after.0).0 word.2,
      ap (λ ws. codes "down" ∷ ws) (first_word_some words first.0 first.1
          ∙ ap (λ ws. (first.0).0 ∷ ws) (words_after_some (codes "after") (first.0).1 rest.0 rest.1
          ∙ ap (λ ws. codes "after" ∷ ws) (only_word_some rest.0 word.0 word.1))),
    )

mail_some : Laws → (words : List (List ℕ)) (l : Line) →
    (number_of words >>= λ mail. cond (leb 1 mail && leb mail largest_mail) (Some (Mail mail)) None)
    ≡ Some l → IsForm (codes "mail" ∷ words) l
mail_some laws words l e =
    let n = bind_some (number_of words) _ l e in
    let parts = cond_some (leb 1 n.0 && leb n.0 largest_mail) (Mail n.0) l n.2 in
    let tests = and_parts (leb 1 n.0) (leb n.0 largest_mail) parts.0 in
    subst (IsForm (codes "mail" ∷ words)) parts.1 (
      number_some laws (codes "mail") words n.0 n.1,
      leb-true 1 n.0 tests.0,
      leb-true n.0 largest_mail tests.1,
    )

port_some : Laws → (words : List (List ℕ)) (l : Line) →
    (number_of words >>= λ port. cond (leb 1 port) (Some (Port port)) None) ≡ Some l →
    IsForm (codes "port" ∷ words) l
port_some laws words l e =
    let n = bind_some (number_of words) _ l e in
    let parts = cond_some (leb 1 n.0) (Port n.0) l n.2 in
    subst (IsForm (codes "port" ∷ words)) parts.1
    (number_some laws (codes "port") words n.0 n.1, leb-true 1 n.0 parts.0)

set_up_some : Laws → (word : List ℕ) (words : List (List ℕ)) (l : Line) →
    set_up word words ≡ Some l → IsForm (word ∷ words) l
unfolding set_up
set_up_some laws word words l e =
    let Means : List ℕ → Type 0 = λ w. IsForm (w ∷ words) l in
    elim (chosen (bytes_eq word (codes "mail")) _ _ (Some l) e) [
      | inl h ↦ subst Means (sym (same_word word (codes "mail") h.0)) (mail_some laws words l h.1)
      | inr h ↦ elim (chosen (bytes_eq word (codes "pace")) _ _ (Some l) h.1) [
        | inl g ↦ let n = map_some Pace (number_of words) l g.1 in
            subst Means (sym (same_word word (codes "pace") g.0))
            (subst (IsForm (codes "pace" ∷ words)) n.2
            (number_some laws (codes "pace") words n.0 n.1))
        | inr g ↦ elim (chosen (bytes_eq word (codes "hashkey")) _ _ (Some l) g.1) [
          | inl f ↦ let n = map_some Key (number_of words) l f.1 in
              subst Means (sym (same_word word (codes "hashkey") f.0))
              (subst (IsForm (codes "hashkey" ∷ words)) n.2
              (number_some laws (codes "hashkey") words n.0 n.1))
          | inr f ↦ elim (chosen (bytes_eq word (codes "down")) _ _ (Some l) f.1) [
            | inl d ↦ let one = map_some Down (down_of words) l d.1 in
                subst Means (sym (same_word word (codes "down") d.0))
                (subst (IsForm (codes "down" ∷ words)) one.2
                (down_some laws words one.0 one.1))
            | inr d ↦ elim (chosen (bytes_eq word (codes "port")) _ None
                (Some l) d.1) [
                  | inl b ↦ subst Means (sym (same_word word (codes "port") b.0))
                      (port_some laws words l b.1)
                  | inr b ↦ absurd (none-some l b.1)
                ]
          ]
        ]
      ]
    ]

-- ---- lines inside a block

closes : (words : List (List ℕ)) (o : Option (List ℕ)) → only_word words ≡ o →
    option_map_or (λ word. bytes_eq word (codes "close")) o false ≡ true →
    words ≡ codes "close" ∷ []
closes words None is e = absurd (false≢true e)
closes words (Some word) is e =
    only_word_some words word is ∙ ap (λ w. w ∷ []) (same_word word (codes "close") e)

end_some : Laws → (words : List (List ℕ)) (l : BlockLine) → end_of words ≡ Some l →
    IsForm (codes "end" ∷ words) (Inside l)
unfolding end_of
end_some laws words l e =
    let Means : BlockLine → Type 0 = λ l. IsForm (codes "end" ∷ words) (Inside l) in
    elim (chosen _ (Some Close) (option_map End (without_notice words)) (Some l) e) [
      | inl h ↦ subst Means (same_Some Close l h.1)
          (ap (λ ws. codes "end" ∷ ws) (closes words (only_word words) refl h.0))
      | inr h ↦ let asked = map_some End (without_notice words) l h.1 in
          subst Means asked.2 (words, alone_some laws words asked.0 asked.1, refl)
    ]

block_some : Laws → (word : List ℕ) (words : List (List ℕ)) (l : BlockLine) →
    of_block word words ≡ Some l → IsForm (word ∷ words) (Inside l)
unfolding of_block
block_some laws word words l e =
    let Means : List ℕ → BlockLine → Type 0 = λ w l. IsForm (w ∷ words) (Inside l) in
    elim (chosen (bytes_eq word (codes "open")) _ _ (Some l) e) [
      | inl h ↦ let asked = map_some Open (without_notice words) l h.1 in
          subst (λ w. Means w l) (sym (same_word word (codes "open") h.0))
          (subst (Means (codes "open")) asked.2
          (words, alone_some laws words asked.0 asked.1, refl))
      | inr h ↦ elim (chosen (bytes_eq word (codes "on")) _ _ (Some l) h.1) [
        | inl g ↦ let on = map_some On (on_of words) l g.1 in
            subst (λ w. Means w l) (sym (same_word word (codes "on") g.0))
            (subst (Means (codes "on")) on.2 (words, on_some laws words on.0 on.1, refl))
        | inr g ↦ elim (chosen (bytes_eq word (codes "end")) _ None (Some l) g.1) [
          | inl f ↦ subst (λ w. Means w l) (sym (same_word word (codes "end") f.0))
              (end_some laws words l f.1)
          | inr f ↦ absurd (none-some l f.1)
        ]
      ]
    ]

by_form : Laws → (word : List ℕ) (words : List (List ℕ)) (l : Line) →
    says_by word words ≡ Some l → IsForm (word ∷ words) l
unfolding says_by
by_form laws word words l e =
    elim (set_up word words) as
    (λ o. set_up word words ≡ o → option_map_or (λ l. Some l) o
    (option_map Inside (of_block word words)) ≡ Some l → IsForm (word ∷ words) l) [
      | None ↦ λ is f. let line = map_some Inside (of_block word words) l f in
          subst (IsForm (word ∷ words)) line.2 (block_some laws word words line.0 line.1)
      | Some one ↦ λ is f.
          set_up_some laws word words l (is ∙ ap (λ l. Some l) (same_Some one l f))
    ] refl e

-- ---- whole lines

-- a word by its first byte
byte_and_rest : (c : ℕ) (word : List ℕ) → eqb 0 c ≡ false → eqb (get_or word 0 0) c ≡ true →
    word ≡ c ∷ drop 1 word
byte_and_rest c [] other h = absurd (false≢true (sym other ∙ h))
byte_and_rest c (b ∷ bs) other h = ap (λ d. d ∷ bs) (eqb-true b c h)

by_said : Option (List ℕ × List (List ℕ)) → Option Line
by_said o = option_map_or (λ w. says_by w.0 w.1) o (Some Nothing)

form_by_first : Laws → (word : List ℕ) (words : List (List ℕ)) (l : Line) (is : Bool) →
    eqb (get_or word 0 0) (byte "#") ≡ is →
    by_said (cond is None (Some (word, words))) ≡ Some l → IsForm (word ∷ words) l
unfolding by_said
form_by_first laws word words l true is e =
    subst (IsForm (word ∷ words)) (same_Some Nothing l e)
    (inr (drop 1 word, words, ap (λ w. w ∷ words) (byte_and_rest (byte "#") word refl is)))
form_by_first laws word words l false is e = by_form laws word words l e

form_some : Laws → (words : List (List ℕ)) (l : Line) →
    option_map_or (λ w. says_by w.0 w.1) (first_said words) (Some Nothing) ≡ Some l →
    IsForm words l
unfolding by_said
form_some laws [] l e = subst (IsForm []) (same_Some Nothing l e) (inl refl)
form_some laws (word ∷ words) l e =
    form_by_first laws word words l (eqb (get_or word 0 0) (byte "#")) refl e

says_some : Laws → (text : List ℕ) (l : Line) → says text ≡ Some l → Says text l
unfolding says
says_some laws text l e =
    elim (chosen (list_all is_printable text) _ None (Some l) e) [
      | inl h ↦ (h.0, form_some laws (words_of text) l h.1)
      | inr h ↦ absurd (none-some l h.1)
    ]

abbrev by_first : List (List ℕ) → Option Line
by_first words = option_map_or (λ w. says_by w.0 w.1) (first_said words) (Some Nothing)

both : (a b : Bool) → a ≡ true → b ≡ true → (a && b) ≡ true
both true true e f = refl
both true false e f = f
both false b e f = e

not_close : (first : List ℕ) (rest : List (List ℕ)) (b : Bool) →
    bytes_eq first (codes "close") ≡ false →
    option_map_or (λ word. bytes_eq word (codes "close")) (cond b (Some first) None) false ≡ false
not_close first rest true e = e
not_close first rest false e = refl

end_again : Laws → (words : List (List ℕ)) (asked : AskWords) → IsAskAlone words asked →
    end_of words ≡ Some (End asked)
unfolding end_of
end_again laws words asked h =
    let start = starts_apart words h.0 h.1 in
    let other : option_map_or (λ word. bytes_eq word (codes "close")) (only_word words) false
    ≡ false =
    ap (λ ws. option_map_or (λ word. bytes_eq word (codes "close")) (only_word ws) false) start.2
    ∙ not_close start.0 start.1 (eqb (length start.1) 0) start.3 in
    passed _ (Some Close) (option_map End (without_notice words)) other
    ∙ ap (λ o. option_map End o) (alone_again laws words asked h)

close_again : by_first (codes "end" ∷ codes "close" ∷ []) ≡ Some (Inside Close)
unfolding says_by set_up of_block end_of
close_again = refl

form_again : Laws → (words : List (List ℕ)) (l : Line) → IsForm words l → by_first words ≡ Some l
unfolding says_by set_up of_block down_of
form_again laws words Nothing (inl e) = ap by_first e
form_again laws words Nothing (inr e) = ap by_first e.2
form_again laws words (Mail n) h =
    ap by_first (h.0).2
    ∙ ap (λ o. option_map_or (λ l. Some l) (o >>= λ mail.
    cond (leb 1 mail && leb mail largest_mail) (Some (Mail mail)) None)
    (option_map Inside (of_block (codes "mail") ((h.0).0 ∷ []))))
    (number_again laws (h.0).0 n (h.0).1)
    ∙ ap (λ o. option_map_or (λ l. Some l) o
    (option_map Inside (of_block (codes "mail") ((h.0).0 ∷ []))))
    (taken (leb 1 n && leb n largest_mail) (Some (Mail n)) None
    (both (leb 1 n) (leb n largest_mail) (le-leb 1 n h.1) (le-leb n largest_mail h.2)))
form_again laws words (Pace n) h =
    ap by_first h.2
    ∙ ap (λ o. option_map_or (λ l. Some l) (option_map Pace o)
    (option_map Inside (of_block (codes "pace") (h.0 ∷ [])))) (number_again laws h.0 n h.1)
form_again laws words (Key n) h =
    ap by_first h.2
    ∙ ap (λ o. option_map_or (λ l. Some l) (option_map Key o)
    (option_map Inside (of_block (codes "hashkey") (h.0 ∷ [])))) (number_again laws h.0 n h.1)
form_again laws words (Down d) h =
    let rest : List (List ℕ) = h.0 ∷ codes "after" ∷ h.1 ∷ [] in
    ap by_first h.4
    ∙ ap (λ o. option_map_or (λ l. Some l) (option_map Down (o >>= λ device. decimal h.1 >>=
    λ after. Some (record { device = device; after = after })))
    (option_map Inside (of_block (codes "down") rest))) (number_again laws h.0 d.device h.2)
    ∙ ap (λ o. option_map_or (λ l. Some l) (option_map Down (o >>=
    λ after. Some (record { device = d.device; after = after })))
    (option_map Inside (of_block (codes "down") rest))) (number_again laws h.1 d.after h.3)
form_again laws words (Port n) h =
    ap by_first (h.0).2
    ∙ ap (λ o. option_map_or (λ l. Some l) (o >>= λ port. cond (leb 1 port) (Some (Port port)) None)
    (option_map Inside (of_block (codes "port") ((h.0).0 ∷ []))))
    (number_again laws (h.0).0 n (h.0).1)
    ∙ ap (λ o. option_map_or (λ l. Some l) o
    (option_map Inside (of_block (codes "port") ((h.0).0 ∷ []))))
    (taken (leb 1 n) (Some (Port n)) None (le-leb 1 n h.1))
form_again laws words (Inside (Open asked)) h =
    ap by_first h.2
    ∙ ap (λ o. option_map Inside (option_map Open o)) (alone_again laws h.0 asked h.1)
form_again laws words (Inside (On on)) h =
    ap by_first h.2 ∙ ap (λ o. option_map Inside (option_map On o)) (on_again laws h.0 on h.1)
form_again laws words (Inside (End asked)) h =
    ap by_first h.2 ∙ ap (λ o. option_map Inside o) (end_again laws h.0 asked h.1)
form_again laws words (Inside Close) h = ap by_first h ∙ close_again

says_again : Laws → (text : List ℕ) (l : Line) → Says text l → says text ≡ Some l
unfolding says
says_again laws text l h =
    taken (list_all is_printable text) (by_first (words_of text)) None h.0
    ∙ form_again laws (words_of text) l h.1

-- what is read of a line is what the grammar has for it
pub spelled : Laws → (text : List ℕ) (l : Line) → (says text ≡ Some l) ↔ Says text l
spelled laws text l = (says_some laws text l, says_again laws text l)
