use Rattle.std.proofs.Common.{◌≡◌, ◌∙◌, ap, ℕ, List, map}
use Rattle.std.specs.BTreeMap.{BTreeMap, get}
use Rattle.std.specs.Option.{option_or}
use Rattle.std.specs.Ordering.{nat_cmp}
use Rattle.fleet_tree.specs.declared.run.SortedRun.{SortedRun}
use Rattle.fleet_level.specs.Sizes.{first_size, tables_of_runs}
use Rattle.fleet_tree.specs.Views.{View}
use Rattle.fleet_level.proofs.FirstSizes.{then_first}
use Rattle.fleet_level.proofs.TreeParts.{on_ok}
use Rattle.fleet_level.proofs.sizes.add_tree.Goals as goal

pub returns : goal.returns
returns c =
    let sizes = λ (map : BTreeMap ℕ ℕ) (id : ℕ). get nat_cmp map id in
    on_ok c.add_runs.result
    (λ (found : (id : ℕ) → sizes c.add_runs.new.sizes id ≡ option_or (sizes c.add_views.new.sizes id) (first_size id (tables_of_runs c.iter-2.result))).
    λ id. then_first id (map (λ (view : View). view.sst) c.args.tree.now.l0) (tables_of_runs c.args.tree.now.compacted) (sizes c.args.sizes.now id) (sizes c.add_views.new.sizes id) (sizes c.add_runs.new.sizes id)
    (c.in_ok-add_views.ensures id ∙ ap (λ (views : List View). option_or (sizes c.args.sizes.now id) (first_size id (map (λ view. view.sst) views))) c.iter.ensures)
    (found id ∙ ap (λ (runs : List SortedRun). option_or (sizes c.add_views.new.sizes id) (first_size id (tables_of_runs runs))) c.iter-2.ensures))
    c.add_runs.ensures
