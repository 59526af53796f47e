use Rattle.std.proofs.Common.{subst, sym, take}
use Rattle.fleet_claim.specs.Beginnings.{AreStarts}
use Rattle.fleet_claim.proofs.Beginnings.{starts_one}
use Rattle.fleet_claim.proofs.Lists.{item_more}
use Rattle.fleet_claim.proofs.beginning.begin_all.Goals as goal

pub jobs-preserved : goal.jobs-preserved
jobs-preserved c =
    let jobs = c.args.jobs.now in
    let before = take c.jobs.job-index jobs in
    subst (λ these. AreStarts c.args.release c.args.options.now c.args.moment c.args.manifest.now these c.add_start.new.starts) (sym (item_more jobs c.jobs.job-index c.job-item.result c.jobs-test.true c.job-item.is))
    (starts_one c.args.release c.args.options.now c.args.moment c.args.manifest.now before c.job-item.result c.jobs.starts c.add_start.new.starts c.jobs.invariant (rw c.core-core.ensures at c.in_ok-add_start.ensures.ok))
