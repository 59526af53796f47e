use Rattle.std.proofs.Common.{◌∙◌, ap, List, map}
use Rattle.std.specs.BTreeMap.{get}
use Rattle.std.specs.Option.{option_or}
use Rattle.std.specs.Ordering.{nat_cmp}
use Rattle.fleet_tree.specs.Views.{View}
use Rattle.fleet_level.specs.Sizes.{first_size}
use Rattle.fleet_level.proofs.FirstSizes.{one_run_less}
use Rattle.fleet_level.proofs.sizes.add_runs.Goals as goal

pub runs-preserved : goal.runs-preserved
runs-preserved c = λ id.
    one_run_less id c.runs.run-iterator c.in-Some.run'.now _ _ _ c.in-Some.ensures.steps
    (c.in_ok-add_views.ensures id ∙ ap (λ (views : List View). option_or (get nat_cmp c.runs.sizes id) (first_size id (map (λ view. view.sst) views))) (c.of_slice.ensures ∙ c.sst_views.ensures))
    ∙ c.runs.invariant id
