use Rattle.std.proofs.Common.{sym, subst, ◌∙◌, ap, refl, length, ◌+◌, cond}
use Rattle.std.specs.Prelude.{IsNone, is_some}
use Rattle.fleet_exec.specs.Executors.{AreById, active_job_with, without_job}
use Rattle.fleet_exec.proofs.ActiveJobs.{count_without, by_id_without, distinct_of, is_some-map, none_left, others_left}
use Rattle.fleet_exec.proofs.executor.Executor.stop_compaction_job.Goals as goal

pub invariant_of-self : goal.invariant_of-self
invariant_of-self c =
    let id = c.args.id in
    let jobs = c.self.inside.jobs in
    record {
      by_id = subst AreById (sym c.end_job.ensures) (by_id_without id jobs c.self.invariant.by_id);
      ended = λ stopped. c.end_job.ensures ∙ ap (without_job id) (c.self.invariant.ended stopped);
    }

pub returns-clause-ended : goal.returns-clause-ended
returns-clause-ended c =
    let id = c.args.id in
    subst (λ o. IsNone o) (sym (ap (active_job_with id) c.end_job.ensures ∙ none_left id c.self.inside.jobs)) refl

pub returns-clause-others : goal.returns-clause-others
returns-clause-others c =
    let id = c.args.id in
    λ other differs. ap (active_job_with other) c.end_job.ensures ∙ others_left id c.self.inside.jobs other differs ∙ ap (λ e. active_job_with other e.jobs) c.self.view_is

pub returns-clause-count : goal.returns-clause-count
returns-clause-count c =
    let id = c.args.id in
    let jobs = c.self.inside.jobs in
    let looked = c.with_id.ensures ∙ ap (active_job_with id) c.as_slice.ensures in
    let active = c.is_some-active.ensures ∙ sym (is_some-map (λ job. job.now) c.with_id.result) ∙ ap (λ o. is_some o) looked in
    sym (ap (λ e. length e.jobs) c.self.view_is)
    ∙ count_without id jobs (distinct_of jobs c.self.invariant.by_id)
    ∙ ap (λ js. length js + cond (is_some (active_job_with id jobs)) 1 0) (sym c.end_job.ensures)
    ∙ ap (λ b. length c.end_job.new.jobs + cond b 1 0) (sym active)
