-- Trees that exchange a part of their runs.
use Rattle.std.specs.Prelude.{ℕ, List}
use Rattle.fleet_tree.specs.Lists.{spliced}
use Rattle.fleet_tree.specs.declared.tree.LsmTreeState.{LsmTreeState}
use Rattle.fleet_tree.specs.declared.tree.TreeChange.{TreeChange}

-- The tree after a change.
abbrev pub changed_tree : TreeChange → LsmTreeState → LsmTreeState
changed_tree change tree = record tree {
  l0 = change.l0;
  compacted = spliced change.place change.count change.run tree.compacted;
  last_compacted_l0_sst_view_id = change.last_compacted_l0_sst_view_id;
}

-- The segment after a change of its tree.
abbrev pub changed_segment : TreeChange → List ℕ × LsmTreeState → List ℕ × LsmTreeState
changed_segment change s = (s.0, changed_tree change s.1)
