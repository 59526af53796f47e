use Rattle.fleet_jobs.specs.Sources.{name_of}
use Rattle.fleet_jobs.proofs.Stretches.{lowest_of_more}
use Rattle.fleet_jobs.proofs.places.lowest_run.Goals as goal

pub sources-preserved : goal.sources-preserved
sources-preserved c =
    lowest_of_more name_of c.args.sources.now c.sources.source-index c.source-item.result c.sources.lowest c.lower_of-lowest.result
    c.sources-test.true c.source-item.is c.sources.invariant c.lower_of-lowest.ensures
