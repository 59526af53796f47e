use Rattle.std.proofs.Common.{◌∙◌, sym, map}
use Rattle.fleet_model.specs.Sources.{run_ids}
use Rattle.fleet_jobs.specs.Sources.{name_of}
use Rattle.fleet_jobs.proofs.Lowest.{is_lowest, no_lowest}
use Rattle.fleet_jobs.proofs.Standing.{above_each}
use Rattle.fleet_jobs.proofs.rules.is_lowest_or_above.Goals as goal

pub returns-in-Some : goal.returns-in-Some
returns-in-Some c = is_lowest (run_ids (map name_of c.args.sources.now)) (run_ids (map name_of c.args.nodes.now)) c.in-Some.lowest c.args.run (sym c.in-Some.is ∙ c.lowest_run.ensures)

pub returns-in-None : goal.returns-in-None
returns-in-None c =
    c.is_above.ensures ∙ above_each name_of c.args.run c.args.nodes.now
    ∙ no_lowest (run_ids (map name_of c.args.sources.now)) (run_ids (map name_of c.args.nodes.now)) c.args.run (sym c.in-None.is ∙ c.lowest_run.ensures)
