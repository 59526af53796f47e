use Rattle.std.proofs.Common.{◌≡◌, ◌++◌, length, drop}
use Rattle.row_model.specs.Written.Plan.{cut_anchors, cuts}
use Rattle.fleet_plan.specs.Anchors.{anchors_of}
use Rattle.fleet_plan.proofs.boundaries.cut_keys.Given as goal

-- The keys so far, followed by the cuts at the anchors left, are all cuts.
abbrev pub invariant-anchors : goal.invariant-anchors
invariant-anchors l = l.keys.items ++ cuts l.most l.target (length l.keys.items) l.before l.threshold l.last (anchors_of (drop l.anchor-index l.anchors)) ≡ cut_anchors l.most l.target (anchors_of l.anchors)
