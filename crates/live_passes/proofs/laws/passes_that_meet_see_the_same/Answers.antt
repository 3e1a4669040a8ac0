use Rattle.live_passes.proofs.PassMeeting.{meets_so}
use Rattle.live_passes.proofs.Turns.{TurnLaws}
use Rattle.live_passes.proofs.laws.passes_that_meet_see_the_same.Goals as goal

pub returns : goal.returns
returns c =
    let turns = c.a_turn_of_a_lock_is_one_of_its_pass.ensures in
    let laws : TurnLaws = record { turn = turns.turn; met = turns.met } in
    λ k list old new v w had has alone sees begins own. meets_so laws k list old new v w had has
    alone sees begins (own.placed k v had)
