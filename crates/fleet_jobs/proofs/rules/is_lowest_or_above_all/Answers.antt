use Rattle.std.proofs.Common.{◌∙◌, sym, map}
use Rattle.fleet_model.specs.Sources.{all_run_ids, run_ids}
use Rattle.fleet_tree.specs.Trees.{trees_of, trees_with_prefix}
use Rattle.fleet_jobs.specs.Sources.{name_of}
use Rattle.fleet_jobs.proofs.Lowest.{is_lowest, no_lowest}
use Rattle.fleet_jobs.proofs.Standing.{above_all_trees}
use Rattle.fleet_jobs.proofs.rules.is_lowest_or_above_all.Goals as goal

pub returns-in-Some : goal.returns-in-Some
returns-in-Some c flushes = is_lowest (run_ids (map name_of c.args.sources.now)) (all_run_ids (trees_of flushes c.args.core.now)) c.in-Some.lowest c.args.run (sym c.in-Some.is ∙ c.lowest_run.ensures)

pub returns-in-None : goal.returns-in-None
returns-in-None c flushes =
    c.is_above_all.ensures ∙ above_all_trees flushes c.args.run (trees_with_prefix c.args.core.now)
    ∙ no_lowest (run_ids (map name_of c.args.sources.now)) (all_run_ids (trees_of flushes c.args.core.now)) c.args.run (sym c.in-None.is ∙ c.lowest_run.ensures)
