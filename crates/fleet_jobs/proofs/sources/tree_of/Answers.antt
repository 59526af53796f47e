use Rattle.std.proofs.Common.{◌∙◌, ap}
use Rattle.fleet_jobs.specs.Taken.{tree_in}
use Rattle.fleet_jobs.proofs.sources.tree_of.Goals as goal

pub returns : goal.returns
returns c =
    c.tree_for_segment.ensures ∙ ap (λ k. tree_in k c.args.core.now) (c.as_slice.ensures ∙ c.segment.ensures)
