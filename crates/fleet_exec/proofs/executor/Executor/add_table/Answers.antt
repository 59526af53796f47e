use Rattle.std.proofs.Common.{sym, subst, ◌∙◌, ap, length, List, ◌≤◌}
use Rattle.std.specs.Prelude.{IsSomeAnd}
use Rattle.fleet_exec.specs.Executors.{AreById, active_job_with}
use Rattle.fleet_exec.specs.ExecutorParts.{ActiveParts}
use Rattle.fleet_exec.proofs.ActiveJobs.{by_id_after, by_result}
use Rattle.fleet_exec.proofs.executor.Executor.add_table.Goals as goal

pub invariant_of-self : goal.invariant_of-self
invariant_of-self c =
    let jobs = c.self.inside.jobs in
    let active = λ (js : List ActiveParts). IsSomeAnd (active_job_with c.args.id js) (λ job. c.args.range ≤ length job.ctx.ranges) in
    record {
      by_id =
          by_result c.add_table_to.result c.add_table_to.ensures.ok c.add_table_to.ensures.err
          (λ changed. by_id_after jobs c.add_table_to.new.jobs changed c.self.invariant.by_id)
          (λ same. subst AreById (sym same) c.self.invariant.by_id);
      ended =
          λ stopped.
          let none = sym (ap (λ e. e.jobs) c.self.view_is) ∙ c.self.invariant.ended stopped in
          absurd (subst active none c.requires.active);
    }
