use Rattle.std.proofs.Common.{◌≡◌, ◌++◌, ℕ, Vec, Global, List, arith, subst, sym, ap, ◌∙◌, []}
use Rattle.std.proofs.Common.{append-nil}
use Rattle.std.specs.Prelude.{flat_map}
use Rattle.std.specs.List.{range_with_len}
use Rattle.histories.specs.States.{every_number}
use Rattle.place_history.specs.Lines.{text_at, text_of}
use Rattle.plane.proofs.Texts.{text_more}
use Rattle.plane.proofs.listing.text_of_all.Goals as goal
use Rattle.plane.proofs.listing.text_of_all.Goals.{in-Some+in_ok-extend_from_slice, in_default}

pub loop-number-preserved : goal.loop-number-preserved
loop-number-preserved c =
    let q = c.loop-number.number in
    elim c.match-get.branch [
      | in-Some+in_ok-extend_from_slice w ↦ text_more c.args.lines.now q c.loop-number.text.items
          c.match-get.text.items w.in-Some.line.now c.loop-number.invariant
          (ap text_of (sym w.in-Some.ensures.value))
          (ap (λ (v : Vec ℕ Global). v.items) w.text-is
          ∙ (w.in_ok-extend_from_slice.ensures.items
          ∙ ap (λ (t : List ℕ). c.loop-number.text.items ++ t) w.as_slice.ensures))
      | in_default w ↦ text_more c.args.lines.now q c.loop-number.text.items
          c.match-get.text.items [] c.loop-number.invariant
          (ap text_of (sym w.in_default.ensures.value))
          (ap (λ (v : Vec ℕ Global). v.items) w.text-is ∙ sym (append-nil c.loop-number.text.items))
    ]

pub returns : goal.returns
unfolding every_number
returns c =
    let all : c.loop-number.number ≡ 65536 = omega arith in
    subst (λ n. c.loop-number.text.items ≡ flat_map (text_at c.args.lines.now)
    (range_with_len 0 n)) all c.loop-number.invariant
