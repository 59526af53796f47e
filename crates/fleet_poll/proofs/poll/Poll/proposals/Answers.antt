use Rattle.std.proofs.Common.{◌∙◌, ◌-◌, ap}
use Rattle.std.specs.Prelude.{count_by}
use Rattle.fleet_model.specs.Jobs.{Running, has_status}
use Rattle.fleet_jobs.specs.Jobs.{jobs_of}
use Rattle.fleet_poll.proofs.Proposed.{proposals_are}
use Rattle.fleet_poll.proofs.poll.Poll.proposals.Goals as goal

pub returns-clause-proposals : goal.returns-clause-proposals
returns-clause-proposals g c = λ flushes input sees same.
    let s = (goal.CompactionScheduler-dyn g c.args.scheduler.now).answers c.args.scheduler.now.1 in
    let most = c.args.options.now.max_concurrent_compactions in
    let room = c.room_for-room.ensures ∙ ap (λ records. most - count_by (has_status Running) (jobs_of records.compactions.jobs)) c.compactions.ensures in
    proposals_are flushes input s c.args.self.now most c.room_for-room.result c.in_ok-specs.specs.items c.truncate.new.self.items sees same room (c.in_ok-specs.ensures.specs flushes) c.truncate.ensures.items
