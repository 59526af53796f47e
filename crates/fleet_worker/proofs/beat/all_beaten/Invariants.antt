use Rattle.std.proofs.Common.{◌≡◌, map}
use Rattle.fleet_worker.specs.Beats.{beaten_record, live_at}
use Rattle.fleet_worker.proofs.beat.all_beaten.Given as goal

abbrev pub invariant-jobs : goal.invariant-jobs
invariant-jobs l = l.new.items ≡ map (λ job. beaten_record l.worker l.moment (live_at l.records.jobs l.worker l.attempts job.id) job) l.yielded
