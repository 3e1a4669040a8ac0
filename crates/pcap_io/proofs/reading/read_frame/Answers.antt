use Rattle.std.proofs.Common.{◌≡◌, ◌+◌, ◌<◌, ◌^◌, List, [], ◌∷◌, ◌++◌, take, Result, Ok, Err, arith}
use Rattle.std.proofs.Common.{add_assoc, sym, ◌∙◌, false}
use Rattle.std.specs.Prelude.{is_err, OnOk}
use Rattle.std.proofs.lemmas.List.{length-take-le, take_rest}
use Rattle.pcap_io.specs.declared.capture.Frame.{Frame}
use Rattle.pcap_io.proofs.WholeFile.{frames_below, next, Goes}
use Rattle.pcap_io.proofs.reading.read_frame.Goals as goal
use Rattle.pcap_io.proofs.reading.read_frame.Goals.{After-len, Else-is_err}

-- there are fewer frames than bytes before the place
few : (c : After-len) → c.len.result + 1 < 2 ^ 32
few c =
    omega (
      arith,
      c.len.ensures,
      frames_below (take c.args.at c.args.bytes.now) c.args.capture.now
          c.requires.front,
      length-take-le c.args.at c.args.bytes.now (omega arith),
    )

pub overflow_cast-frame_number : goal.overflow_cast-frame_number
overflow_cast-frame_number c = omega (arith, few c)

pub overflow_add-frame_number : goal.overflow_add-frame_number
overflow_add-frame_number c = omega (arith, few c)

-- what stands there is the next record
goes : (c : Else-is_err) → Goes c.args.bytes.now c.args.at c.args.capture.now c.in_ok-frame.frame
goes c =
    next c.args.bytes.now c.args.at (c.len.result + 1) c.args.at c.args.capture.now
    c.in_ok-frame.frame (λ i. omega (arith, c.type_inv.bytes i)) (omega arith) c.requires.front
    (rw take_rest at c.in_ok-frame.ensures)

pushed : {E : Type 0} (r : Result (Unit {0}) E) (now wanted : List Frame) → is_err r ≡ false →
    OnOk r (now ≡ wanted) → now ≡ wanted
pushed (Ok x) now wanted e h = h
pushed (Err x) now wanted e h = absurd cc

pub returns-clause-within : goal.returns-clause-within
returns-clause-within c = omega (arith, (goes c).within, c.len-2.ensures)

pub returns-clause-ok : goal.returns-clause-ok
returns-clause-ok c =
    let frames : c.push.new.self ≡ c.args.capture.now.frames ++ c.in_ok-frame.frame ∷ [] =
    pushed c.push.result c.push.new.self (c.args.capture.now.frames ++ c.in_ok-frame.frame ∷ [])
    (sym c.is_err.ensures.value ∙ c.if-is_err.false) c.push.ensures.ok in
    rw (frames, c.len-2.ensures, add_assoc) (goes c).whole
