use Rattle.std.proofs.Common.{◌≡◌, ◌∷◌, ◌++◌, [], List, ℕ, Bool, true, false, drop, arith}
use Rattle.std.specs.Prelude.{max}
use Rattle.std.proofs.lemmas.Grind.{common_steps}
use Rattle.std.proofs.lemmas.List.{map-append}
use Rattle.row_model.specs.Ranges.{is_in_range}
use Rattle.row_model.specs.Written.Plan.{sample_anchors}
use Rattle.fleet_range.specs.Keys.{range_of}
use Rattle.fleet_tree.specs.declared.block.BlockMeta.{BlockMeta}
use Rattle.fleet_tree.specs.Handles.{block_of, blocks_of}
use Rattle.fleet_plan.specs.Anchors.{anchor_of, anchors_of}
use Rattle.fleet_plan.proofs.Strides.{anchor_at, with_group, without_group}
use Rattle.fleet_plan.proofs.anchor.sample_anchors.Goals as goal

pub groups-preserved-in_ok-push : goal.groups-preserved-in_ok-push
groups-preserved-in_ok-push c =
    let rest : List BlockMeta = c.groups.rest.now in
    let later : List BlockMeta = c.after_group-later.result.now in
    let first : BlockMeta = c.first-item.result in
    let within : List ℕ → Bool = is_in_range (range_of c.args.effective_range.now) in
    let stride = c.stride-stride.result in
    let end = c.args.data_end_offset in
    let starts : rest ≡ first ∷ drop 1 rest = grind (arith, common_steps) in
    let inside : within first.first_key ≡ true = grind (arith, common_steps) in
    let made : anchors_of c.push.new.self.items ≡ anchors_of c.groups.anchors.items ++ anchor_at end (block_of first) (blocks_of later) ∷ [] = grind (arith, common_steps, map-append anchor_of) in
    with_group within stride end (max c.args.max_anchors 1) (omega arith) c.args.blocks.now c.stride-stride.ensures (sample_anchors (blocks_of c.args.blocks.now) end c.args.max_anchors (range_of c.args.effective_range.now)) (anchors_of c.groups.anchors.items) first
    rest later (anchors_of c.push.new.self.items) c.after_group-later.ensures starts inside made c.groups.invariant

pub groups-preserved : goal.groups-preserved
groups-preserved c =
    let rest : List BlockMeta = c.groups.rest.now in
    let later : List BlockMeta = c.after_group-later.result.now in
    let first : BlockMeta = c.first-item.result in
    let within : List ℕ → Bool = is_in_range (range_of c.args.effective_range.now) in
    let stride = c.stride-stride.result in
    let end = c.args.data_end_offset in
    let starts : rest ≡ first ∷ drop 1 rest = grind (arith, common_steps) in
    let out : within first.first_key ≡ false = grind (arith, common_steps) in
    without_group within stride end (max c.args.max_anchors 1) (omega arith) c.args.blocks.now c.stride-stride.ensures (sample_anchors (blocks_of c.args.blocks.now) end c.args.max_anchors (range_of c.args.effective_range.now)) (anchors_of c.groups.anchors.items) first
    rest later c.after_group-later.ensures starts out c.groups.invariant
