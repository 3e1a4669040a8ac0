use Rattle.hook_chain.specs.Route.{next}
use Rattle.live_passes.proofs.Calls.{falls_so, feeds_so}
use Rattle.live_passes.proofs.Turns.{TurnLaws}
use Rattle.live_passes.proofs.laws.feeders_feed_their_passes.Goals as goal

pub returns : goal.returns
returns c =
    let turns = c.a_turn_of_a_lock_is_one_of_its_pass.ensures in
    let laws : TurnLaws = record { turn = turns.turn; met = turns.met } in
    let moved = c.what_goes_on_is_in_time.ensures in
    record {
      feeds = λ places s old new card f fresh own is. feeds_so laws moved.arrival
          c.histories_stay_sound.ensures.in_time moved.request
          c.each_front_of_a_legal_history_is_legal.ensures places s card
          (next s.tables s.key card 1) is.memory old new f fresh own.placed is.moved;
      falls = λ device place count olds news own is. falls_so laws device place count olds news
          own.placed is;
    }
