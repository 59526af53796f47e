-- These functions turn a program's anchors into anchors of the model.
use Rattle.std.specs.Prelude.{ℕ, List, [], ◌∷◌, map}
use Rattle.row_model.specs.Written.Sizes.{Block}
use Rattle.row_model.specs.Written.Plan as model
use Rattle.fleet_plan.specs.declared.anchor.Anchor.{Anchor}

abbrev pub anchor_of : Anchor → model.Anchor
anchor_of anchor = record { key = anchor.key; bytes = anchor.bytes }

abbrev pub anchors_of : List Anchor → List model.Anchor
anchors_of anchors = map anchor_of anchors

-- The offset at which the blocks before these end. It is the offset of the first of these blocks, or `end` if
-- there are none.
abbrev pub end_of : ℕ → List Block → ℕ
end_of end [] = end
end_of end (b ∷ bs) = b.offset
