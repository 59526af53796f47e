use Rattle.std.proofs.Common.{◌≡◌, ◌≤◌, ◌∙◌, ap, sym, subst, List, ℕ, length, max}
use Rattle.std.specs.List.Sorted.{IsStrictlySortedBy}
use Rattle.std.proofs.lemmas.Result.{IfOk-weaker}
use Rattle.std.proofs.lemmas.List.{length-map}
use Rattle.row_model.specs.Ranges.{Unbounded, ranges_from}
use Rattle.row_model.specs.Rows.{key_cmp}
use Rattle.row_laws.specs.Turns.{AreCut}
use Rattle.row_laws.proofs.Ranges.{cut_before}
use Rattle.fleet_range.specs.Keys.{range_of}
use Rattle.fleet_plan.specs.Anchors.{anchors_of}
use Rattle.fleet_plan.specs.Boundaries.{HoldEveryKeyOnce, ranges_of}
use Rattle.fleet_plan.proofs.Cuts.{boundaries_rise, every_key_once, few_ranges}
use Rattle.fleet_plan.proofs.boundaries.select_boundaries.Goals as goal

pub ranges_between-requires : goal.ranges_between-requires
ranges_between-requires c =
    let rises = boundaries_rise (anchors_of c.args.anchors.items) c.args.max_subcompactions c.args.min_range_bytes in
    subst (IsStrictlySortedBy key_cmp) (sym (c.deref.ensures.value ∙ c.in_ok-keys.ensures)) rises

pub returns-clause-rising : goal.returns-clause-rising
returns-clause-rising c =
    let keys : List (List ℕ) = c.deref.result.now in
    let rises = subst (IsStrictlySortedBy key_cmp) (sym (c.deref.ensures.value ∙ c.in_ok-keys.ensures)) (boundaries_rise (anchors_of c.args.anchors.items) c.args.max_subcompactions c.args.min_range_bytes) in
    IfOk-weaker c.ranges_between.result (λ ranges. ranges_of ranges.items ≡ ranges_from Unbounded keys) (λ ranges. AreCut (ranges_of ranges.items))
    (λ ranges are. subst AreCut (sym are) (cut_before keys rises)) c.ranges_between.ensures.ranges

pub returns-clause-every_key : goal.returns-clause-every_key
returns-clause-every_key c =
    let keys : List (List ℕ) = c.deref.result.now in
    let rises = subst (IsStrictlySortedBy key_cmp) (sym (c.deref.ensures.value ∙ c.in_ok-keys.ensures)) (boundaries_rise (anchors_of c.args.anchors.items) c.args.max_subcompactions c.args.min_range_bytes) in
    IfOk-weaker c.ranges_between.result (λ ranges. ranges_of ranges.items ≡ ranges_from Unbounded keys) (λ ranges. HoldEveryKeyOnce (ranges_of ranges.items))
    (λ ranges are. subst HoldEveryKeyOnce (sym are) (every_key_once keys rises)) c.ranges_between.ensures.ranges

pub returns-clause-at_most : goal.returns-clause-at_most
returns-clause-at_most c =
    let keys : List (List ℕ) = c.deref.result.now in
    let few : length (ranges_from Unbounded keys) ≤ max c.args.max_subcompactions 1 = subst (λ ks. length (ranges_from Unbounded ks) ≤ max c.args.max_subcompactions 1) (sym (c.deref.ensures.value ∙ c.in_ok-keys.ensures)) (few_ranges (anchors_of c.args.anchors.items) c.args.max_subcompactions c.args.min_range_bytes) in
    IfOk-weaker c.ranges_between.result (λ ranges. ranges_of ranges.items ≡ ranges_from Unbounded keys) (λ ranges. length ranges.items ≤ max c.args.max_subcompactions 1)
    (λ ranges are. subst (λ n. n ≤ max c.args.max_subcompactions 1) (ap length (sym are) ∙ length-map ranges.items range_of) few) c.ranges_between.ensures.ranges
