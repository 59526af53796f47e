use Rattle.std.proofs.Common.{◌∙◌, ap, map}
use Rattle.fleet_jobs.specs.Jobs.{jobs_of}
use Rattle.fleet_model.specs.Jobs.{ids, is_stale}
use Rattle.std.specs.Prelude.{filter}
use Rattle.fleet_book.specs.States.{own_jobs}
use Rattle.fleet_poll.specs.Polls.{changed_record, waiting_record}
use Rattle.fleet_poll.proofs.Reached.{stale_freed}
use Rattle.fleet_poll.proofs.poll.Poll.free_stale.Goals as goal

pub returns-clause-poll : goal.returns-clause-poll
returns-clause-poll c = λ flushes input late now.
    let poll = c.args.self.now in
    let timeout = c.args.options.now.worker_heartbeat_timeout_ms in
    let jobs = c.in_ok-free_jobs.ensures.jobs ∙ ap (λ these. map (changed_record waiting_record these) (own_jobs poll.state)) c.as_slice.ensures in
    let stale = c.in_ok-stale.ensures.stale ∙ ap (λ records. ids (filter (is_stale timeout c.args.moment) (jobs_of records.compactions.jobs))) c.compactions.ensures in
    stale_freed flushes input poll c.free_jobs.new.state c.in_ok-stale.stale timeout c.args.moment late now c.in_ok-free_jobs.ensures.same jobs stale
