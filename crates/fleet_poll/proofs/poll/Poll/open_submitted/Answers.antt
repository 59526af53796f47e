use Rattle.fleet_poll.proofs.Viewed.{shows_at_first}
use Rattle.fleet_poll.proofs.poll.Poll.open_submitted.Goals as goal

pub open_shown-requires-clause-shown : goal.open_shown-requires-clause-shown
open_shown-requires-clause-shown g c = shows_at_first c.args.self.now.state c.in_ok-view.view c.in_ok-view.ensures.manifest c.in_ok-view.ensures.jobs
