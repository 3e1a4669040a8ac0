use Rattle.std.proofs.Common.{◌≡◌, ◌++◌, ◌-◌, ◌∙◌, ◌≢◌, ℕ, List, length, take, drop, sym, ap, arith}
use Rattle.std.proofs.lemmas.List.{take_rest}
use Rattle.std.specs.Borrow.{Bor}
use Rattle.nfqa_msgs.proofs.AtPlaces.{if_behind}
use Rattle.nfqa_msgs.proofs.Words.{text_in_front, word_on}
use Rattle.nfqa_msgs.proofs.at_places.behind_text.Goals as goal

pub loop-at-preserved : goal.loop-at-preserved
loop-at-preserved c =
    let bytes : List ℕ = c.args.bytes.now in
    let text : List ℕ = c.args.text.now in
    let at : ℕ = c.loop-at.at in
    let here : take 4 (drop at bytes) ≡ take 4 (drop at text) =
    sym (ap (take 4) (take_rest bytes at))
    ∙ c.begin_with_same_word.ensures c.if-not-begin_with_same_word.false
    ∙ ap (take 4) (take_rest text at) in
    (omega (arith, c.loop-at-test.true), word_on at bytes text c.loop-at.invariant.1 here)

pub returns : goal.returns
returns c =
    let bytes : List ℕ = c.args.bytes.now in
    let text : List ℕ = c.args.text.now in
    let at : ℕ = c.loop-at.at in
    let left : List ℕ = take (length bytes - at) (drop at bytes) in
    let front : List ℕ = take (length text - at) (drop at text) in
    if_behind (λ (rest : Bor (List ℕ)). bytes ≡ text ++ rest.now)
    ((rest : List ℕ) → left ≢ front ++ rest)
    (λ (rest : Bor (List ℕ)). left ≡ front ++ rest.now) c.behind.result c.behind.ensures
    (λ rest is. text_in_front at bytes text rest.now c.loop-at.invariant.1
    (sym (take_rest bytes at) ∙ is
    ∙ ap (λ (xs : List ℕ). xs ++ rest.now) (take_rest text at)))
