use Rattle.solo_plane.proofs.UnchangedLogs.{open_stays}
use Rattle.solo_plane.proofs.plane.SoloPlane.feed.Goals as goal

pub returns-clause-ports : goal.returns-clause-ports
returns-clause-ports c =
    open_stays c.args.self.now.held.ports c.feed.new.held.ports c.feed.ensures.logs
