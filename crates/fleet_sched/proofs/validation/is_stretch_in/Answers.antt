use Rattle.std.proofs.Common.{◌∙◌, sym, map}
use Rattle.fleet_model.specs.Nodes.{L0}
use Rattle.fleet_jobs.specs.Sources.{name_of}
use Rattle.fleet_sched.proofs.RunStretches.{stand_behind}
use Rattle.fleet_sched.proofs.TreeViews.{names_of_runs}
use Rattle.fleet_sched.proofs.validation.is_stretch_in.Goals as goal

pub returns-then-is_run_stretch : goal.returns-then-is_run_stretch
returns-then-is_run_stretch c =
    let sources = map name_of c.args.sources.now in
    stand_behind sources (map (λ view. L0 view.id) c.args.tree.now.l0) (names_of_runs c.args.tree.now.compacted)
    (sym c.if-is_run_stretch.true ∙ c.is_run_stretch.ensures)
