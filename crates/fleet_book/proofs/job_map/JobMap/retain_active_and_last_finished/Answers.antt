use Rattle.std.proofs.Common.{◌∙◌, ap}
use Rattle.fleet_jobs.specs.Jobs.{jobs_of}
use Rattle.fleet_book.proofs.Kept.{kept_by}
use Rattle.fleet_book.proofs.Trimmed.{trimmed_is}
use Rattle.fleet_book.proofs.job_map.JobMap.retain_active_and_last_finished.Goals as goal

pub invariant_of-self : goal.invariant_of-self
invariant_of-self c = (kept_by _ _ _ _ _ c.self.view_is c.self.invariant c.as_slice.ensures c.last_finished-last.ensures c.retain.ensures).0

pub returns-clause-kept : goal.returns-clause-kept
returns-clause-kept c = (kept_by _ _ _ _ _ c.self.view_is c.self.invariant c.as_slice.ensures c.last_finished-last.ensures c.retain.ensures).1

pub returns-clause-model : goal.returns-clause-model
returns-clause-model c =
    ap jobs_of (kept_by _ _ _ _ _ c.self.view_is c.self.invariant c.as_slice.ensures c.last_finished-last.ensures c.retain.ensures).1 ∙ trimmed_is c.args.self.now
