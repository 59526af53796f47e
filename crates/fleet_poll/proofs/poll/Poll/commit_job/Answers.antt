use Rattle.fleet_poll.proofs.Viewed.{shows_at_first}
use Rattle.fleet_poll.proofs.poll.Poll.commit_job.Goals as goal

pub commit_shown-requires-clause-shown : goal.commit_shown-requires-clause-shown
commit_shown-requires-clause-shown g c = shows_at_first c.args.self.now.state c.in_ok-view.view c.in_ok-view.ensures.manifest c.in_ok-view.ensures.jobs
