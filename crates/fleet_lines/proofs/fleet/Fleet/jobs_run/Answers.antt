use Rattle.std.proofs.Common.{◌≡◌, ◌∙◌, ap, subst, ℕ, List, IfOk}
use Rattle.std.specs.Option.{option_copied}
use Rattle.fleet_lines.specs.Fleets.{FleetParts}
use Rattle.fleet_lines.proofs.WorkLeft.{jobs_seen, none_seen}
use Rattle.fleet_lines.proofs.fleet.Fleet.jobs_run.Goals as goal

pub returns-in-Some-clause-jobs : goal.returns-in-Some-clause-jobs
returns-in-Some-clause-jobs c =
    subst (λ (numbers : List ℕ). IfOk c.job_numbers.result (λ jobs. jobs.items ≡ numbers))
    (jobs_seen c.args.worker c.args.self.now c.as_slice.result.now (option_copied c.worker_with.result) c.worker_with.ensures (c.as_slice.ensures.value ∙ ap (λ (f : FleetParts). f.workers) c.self.view_is)
    c.in-Some.worker.now c.attempts.result.now (ap option_copied c.in-Some.is) c.attempts.ensures) c.job_numbers.ensures.numbers

pub returns-in-None-clause-jobs : goal.returns-in-None-clause-jobs
returns-in-None-clause-jobs c =
    c.new.ensures.items ∙ none_seen c.args.worker c.args.self.now c.as_slice.result.now (option_copied c.worker_with.result) c.worker_with.ensures (c.as_slice.ensures.value ∙ ap (λ (f : FleetParts). f.workers) c.self.view_is)
    (ap option_copied c.in-None.is)
