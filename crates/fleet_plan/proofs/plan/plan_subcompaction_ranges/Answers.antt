use Rattle.std.proofs.Common.{◌≡◌, ◌∷◌, ◌++◌, ◌+◌, ◌∙◌, [], ap, List, max, drop, map, arith}
use Rattle.std.specs.Prelude.{flat_map}
use Rattle.std.proofs.lemmas.Grind.{common_steps}
use Rattle.std.proofs.lemmas.Result.{IfOk-weaker}
use Rattle.row_model.specs.Written.Plan.{planned_ranges, select_boundaries}
use Rattle.row_model.specs.Rows.{Row}
use Rattle.fleet_tree.specs.Views.{View}
use Rattle.fleet_tree.specs.declared.run.SortedRun.{SortedRun}
use Rattle.fleet_plan.specs.Anchors.{anchors_of}
use Rattle.fleet_plan.specs.Boundaries.{ranges_of}
use Rattle.fleet_plan.specs.Plans.{AreOfRows, greatest_view_size, planned_of, view_anchors, views_of}
use Rattle.fleet_plan.proofs.Described.{one_range, planned_same}
use Rattle.fleet_plan.proofs.Inputs.{known_all, known_first, known_more}
use Rattle.fleet_plan.proofs.plan.plan_subcompaction_ranges.Goals as goal

pub runs-init : goal.runs-init
runs-init c =
    let l0 : List View = c.args.l0.now in
    let anchors : anchors_of c.add.new.self.anchors.items ≡ flat_map view_anchors l0 = grind (arith, common_steps) in
    let size : c.add.new.self.greatest_size ≡ greatest_view_size l0 = grind (arith, common_steps) in
    known_first l0 c.args.runs.now (anchors_of c.add.new.self.anchors.items) c.add.new.self.greatest_size anchors size

pub runs-preserved : goal.runs-preserved
runs-preserved c =
    let runs : List SortedRun = c.args.runs.now in
    let views : List View = views_of c.args.l0.now runs in
    let rest : List SortedRun = drop (c.runs.run-index + 1) runs in
    let run : SortedRun = c.run-item.result in
    let left : drop c.runs.run-index runs ≡ run ∷ rest = grind (arith, common_steps) in
    let anchors : anchors_of c.add-in-runs.new.self.anchors.items ≡ anchors_of c.runs.inputs.anchors.items ++ flat_map view_anchors run.views = grind (arith, common_steps) in
    let size : c.add-in-runs.new.self.greatest_size ≡ max c.runs.inputs.greatest_size (greatest_view_size run.views) = grind (arith, common_steps) in
    known_more (flat_map view_anchors views) (greatest_view_size views) run (drop c.runs.run-index runs) rest (anchors_of c.runs.inputs.anchors.items) (anchors_of c.add-in-runs.new.self.anchors.items) c.runs.inputs.greatest_size c.add-in-runs.new.self.greatest_size
    left anchors size c.runs.invariant

pub returns-clause-planned : goal.returns-clause-planned
returns-clause-planned c =
    let runs : List SortedRun = c.args.runs.now in
    let views : List View = views_of c.args.l0.now runs in
    let most = c.args.max_subcompactions in
    let anchors = anchors_of c.runs.inputs.anchors.items in
    let size = c.runs.inputs.greatest_size in
    let none : drop c.runs.run-index runs ≡ [] = grind (arith, common_steps) in
    let known = known_all (flat_map view_anchors views) (greatest_view_size views) (drop c.runs.run-index runs) anchors size none c.runs.invariant in
    let whole : select_boundaries anchors most size ≡ planned_of most views = ap (λ xs. select_boundaries xs most size) known.0 ∙ ap (select_boundaries (flat_map view_anchors views) most) known.1 in
    IfOk-weaker c.select_boundaries-2.result (λ ranges. ranges_of ranges.items ≡ select_boundaries anchors most size) (λ ranges. (rows : View → List Row) → AreOfRows rows views → ranges_of ranges.items ≡ planned_ranges most (map rows views))
    (λ ranges are rows of_rows. are ∙ whole ∙ planned_same rows most views of_rows) c.select_boundaries-2.ensures.ranges

pub returns-then-max_subcompactions-le1-clause-planned : goal.returns-then-max_subcompactions-le1-clause-planned
returns-then-max_subcompactions-le1-clause-planned c =
    let views : List View = views_of c.args.l0.now c.args.runs.now in
    let most = c.args.max_subcompactions in
    let none = anchors_of c.new.result.items in
    let whole : select_boundaries none most 0 ≡ planned_of most views = one_range none (flat_map view_anchors views) most 0 (greatest_view_size views) (omega (arith, c.if-max_subcompactions-le1.true)) in
    IfOk-weaker c.select_boundaries.result (λ ranges. ranges_of ranges.items ≡ select_boundaries none most 0) (λ ranges. (rows : View → List Row) → AreOfRows rows views → ranges_of ranges.items ≡ planned_ranges most (map rows views))
    (λ ranges are rows of_rows. are ∙ whole ∙ planned_same rows most views of_rows) c.select_boundaries.ensures.ranges
