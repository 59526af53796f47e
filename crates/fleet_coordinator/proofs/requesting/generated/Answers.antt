use Rattle.std.proofs.Common.{subst}
use Rattle.fleet_book.specs.Requests.{request_of}
use Rattle.fleet_sched.specs.Answers.{Generates}
use Rattle.fleet_coordinator.proofs.ShownViews.{same_view_of}
use Rattle.fleet_coordinator.proofs.requesting.generated.Goals as goal

pub returns : goal.returns
returns g c = λ flushes.
    subst (λ view. Generates (((goal.CompactionScheduler-dyn g c.args.scheduler.now).answers c.args.scheduler.now.1).generate view (request_of c.args.request.now)) c.generate.result)
    (same_view_of flushes c.args.manifest c.args.got.now c.in_ok-open_records.field-0 c.in_ok-open_records.ensures.records) (c.generate.ensures flushes)
