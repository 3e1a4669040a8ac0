use Rattle.live_passes.proofs.Calls.{closes_so, looks_so, sends_so}
use Rattle.live_passes.proofs.LetterReceipt.{received_none, received_one}
use Rattle.live_passes.proofs.Turns.{TurnLaws}
use Rattle.live_passes.proofs.laws.ports_speak_by_their_passes.Goals as goal

pub returns : goal.returns
returns c =
    let turns = c.a_turn_of_a_lock_is_one_of_its_pass.ensures in
    let laws : TurnLaws = record { turn = turns.turn; met = turns.met } in
    let moved = c.what_goes_on_is_in_time.ensures in
    record {
      sends = λ places s port front dids logged letters old new before after used own is. sends_so
          laws moved.arrival c.histories_stay_sound.ensures.in_time moved.request
          c.each_front_of_a_legal_history_is_legal.ensures places s port front dids logged letters
          old new before after used own.placed is;
      receives = λ old new l is. received_one old new l is;
      finds_none = λ old new is. received_none old new is;
      closes = λ places old new own many is. closes_so laws places old new own.placed many is;
      looks = λ old new own is k. looks_so laws old new own.placed is k;
    }
