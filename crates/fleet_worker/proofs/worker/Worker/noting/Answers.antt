use Rattle.std.proofs.Common.{◌≡◌, ◌∙◌, ◌-◌, ◌<◌, sym, subst, length, arith}
use Rattle.std.specs.Prelude.{IfOk, List}
use Rattle.fleet_jobs.specs.Parts.ContextParts.{ContextParts}
use Rattle.fleet_worker.specs.Workers.{AttemptParts}
use Rattle.fleet_worker.proofs.Noting.{noted_so, pushed_is}
use Rattle.fleet_worker.proofs.worker.Worker.noting.Goals as goal

pub push_output_sst-requires : goal.push_output_sst-requires
push_output_sst-requires c =
    let same = c.in_ok-ctx.ensures.copy ∙ c.ctx.ensures in
    subst (λ (x : ContextParts). c.args.range - 1 < length x.ranges) (sym same) (omega (arith, c.requires.counted, c.requires.there))

pub returns-clause-next : goal.returns-clause-next
returns-clause-next c =
    let a = c.args.attempt.now in
    let attempts = c.args.self.now.attempts in
    let same = c.in_ok-ctx.ensures.copy ∙ c.ctx.ensures in
    let pushed = rw same at c.in_ok-push_output_sst.ensures.ok in
    let so = noted_so c.args.range c.args.table a attempts _ c.requires.runs (pushed_is c.args.range c.args.table a.ctx _ c.requires.counted c.requires.there pushed) in
    subst (λ (xs : List AttemptParts). IfOk c.went_on.result (λ next. next ≡ xs)) so (rw (c.job.ensures, c.number.ensures) at c.went_on.ensures.next)
