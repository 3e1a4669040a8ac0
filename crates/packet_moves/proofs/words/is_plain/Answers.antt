use Rattle.std.proofs.Common.{◌≡◌, Bool, true, false, refl}
use Rattle.std.specs.Prelude.{◌↔◌, IsTrue}
use Rattle.std.specs.Bool.{Decides}
use Rattle.std.proofs.lemmas.Slice.Eq.{bytes_eq-Decides}
use Rattle.nfqa_msgs.specs.RequestWriting.{spelling}
use Rattle.packet_moves.proofs.words.is_plain.Goals as goal

-- two answers to one question are the same
one_answer : {P : Type 0} (r s : Bool) → (IsTrue r ↔ P) → Decides s P → r ≡ s
one_answer true true is decides = refl
one_answer false false is decides = refl
one_answer true false is decides = absurd (let no = decides.1 (is.0 refl) in cc)
one_answer false true is decides = absurd (let no = is.1 (decides.0 refl) in cc)

pub returns : goal.returns
returns c =
    one_answer c.is_spelling.result _ c.is_spelling.ensures
    (bytes_eq-Decides c.args.whole.now (spelling c.args.port c.args.call c.args.request.now))
