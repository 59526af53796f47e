use Rattle.std.proofs.Common.{sym, subst, ◌∙◌, ap, refl, length, ◌≤◌}
use Rattle.std.specs.Prelude.{IsSomeAnd}
use Rattle.std.proofs.lemmas.Result.{on_ok_weaker}
use Rattle.fleet_exec.specs.Executors.{with_table}
use Rattle.fleet_exec.specs.ExecutorParts.{ActiveParts}
use Rattle.fleet_exec.proofs.ActiveJobs.{at_place, is_changed_at, place_in}
use Rattle.fleet_exec.proofs.executor.add_table_to.Goals as goal

pub add_table_at-requires-clause-there : goal.add_table_at-requires-clause-there
add_table_at-requires-clause-there c =
    let at = c.place_of-place.ensures ∙ ap (place_in c.args.id) c.as_slice.ensures in
    subst (λ o. IsSomeAnd o (λ (job : ActiveParts). c.args.range ≤ length job.ctx.ranges)) (sym (at_place c.args.id c.place_of-place.result c.args.jobs.now at)) c.requires.active

pub returns-clause-ok : goal.returns-clause-ok
returns-clause-ok c =
    let at = c.place_of-place.ensures ∙ ap (place_in c.args.id) c.as_slice.ensures in
    let change = with_table c.args.range c.args.table in
    on_ok_weaker c.add_table_at.result
    (is_changed_at change (λ job. refl) (λ job. c.args.range ≤ length job.ctx.ranges) c.args.id c.place_of-place.result c.args.jobs.now c.add_table_at.new.jobs at c.requires.active)
    c.add_table_at.ensures.ok
