-- The picks of the size-tiered scheduler, tree by tree and pass by pass.
use Rattle.std.specs.Prelude.{ℕ, zero, suc, ◌+◌, ◌&&◌, nat_lt, nat_le, if◌then◌else◌, List, [], ◌∷◌, ◌++◌, flat_map, length, map, option_map, Option, Some, None, is_some}
use Rattle.std.specs.Option.{option_or, option_to_list}
use Rattle.fleet_model.specs.Nodes.{NodeName, Run}
use Rattle.fleet_model.specs.Jobs.{JobSpec, nodes_of}
use Rattle.sched_model.specs.FreshRuns.{capped_id}
use Rattle.sched_model.specs.Sizes.{Sized, SizedTree, flush_names, run_names, total_size}
use Rattle.sched_model.specs.Series.{TieredOptions, first_series, is_allowed, oldest}

-- A tree while the scheduler picks, with the nodes that jobs and earlier picks use in it.
pub record Planned : Type 0 where
  pub tree : SizedTree
  pub used : List NodeName

-- The id of the next fresh run, and the picks so far, in order.
pub record Picking : Type 0 where
  pub fresh : ℕ
  pub picks : List JobSpec

-- The pick of the oldest flushes of a tree into the fresh run. It is None if the tree has too few flushes, or
-- if they may not be joined.
abbrev pub flush_pick : TieredOptions → ℕ → Planned → Option JobSpec
flush_pick o fresh t =
    let chosen = oldest o.most t.tree.flushes in
    if nat_le o.least (length t.tree.flushes)
    && is_allowed o t.used (flush_names chosen) (total_size chosen) (Run fresh) t.tree.runs
    then Some (record { segment = t.tree.segment; sources = flush_names chosen; destination = Some fresh })
    else None

-- The last number of the list, or None if the list is empty.
abbrev pub last_of : List ℕ → Option ℕ
last_of [] = None
last_of (x ∷ []) = Some x
last_of (x ∷ y ∷ xs) = last_of (y ∷ xs)

-- The spec that joins these runs of a segment into the last of them.
abbrev pub into_last : List ℕ → List Sized → JobSpec
into_last segment runs = record {
  segment = segment;
  sources = run_names runs;
  destination = last_of (map (λ run. run.id) runs);
}

-- The pick of runs of a tree, if there is one.
abbrev pub run_pick : TieredOptions → Planned → Option JobSpec
run_pick o t = option_map (into_last t.tree.segment) (first_series o t.used t.tree.runs)

-- The next pick in a tree: of flushes, or of runs if no flushes can be picked.
abbrev pub next_pick : TieredOptions → ℕ → Planned → Option JobSpec
next_pick o fresh t = option_or (flush_pick o fresh t) (run_pick o t)

-- The tree after a pick, if there is one. The nodes of the pick are used from then on.
abbrev pub with_pick : Option JobSpec → Planned → Planned
with_pick pick t = record t { used = t.used ++ flat_map nodes_of (option_to_list pick) }

-- The id of the next fresh run after a pick. Only a pick of flushes takes the fresh id.
abbrev pub fresh_after : TieredOptions → Planned → ℕ → ℕ
fresh_after o t fresh = if is_some (flush_pick o fresh t) then capped_id (fresh + 1) else fresh

-- The state after the next pick in a tree.
abbrev pub picked_in : TieredOptions → Planned → Picking → Picking
picked_in o t p = record { fresh = fresh_after o t p.fresh; picks = p.picks ++ option_to_list (next_pick o p.fresh t) }

-- A pass over the trees: at most one pick in each, while there are fewer picks than slots.
abbrev pub pass : (o : TieredOptions) (slots : ℕ) (trees : List Planned) (p : Picking) → List Planned × Picking
pass o slots [] p = ([], p)
pass o slots (t ∷ trees) p =
    if nat_lt (length p.picks) slots
    then (let rest = pass o slots trees (picked_in o t p) in (with_pick (next_pick o p.fresh t) t ∷ rest.0, rest.1))
    else (t ∷ trees, p)

-- The picks of a number of passes, one after the other.
abbrev pub passes : (o : TieredOptions) (slots count : ℕ) (trees : List Planned) (p : Picking) → List JobSpec
passes o slots zero trees p = p.picks
passes o slots (suc count) trees p = let after = pass o slots trees p in passes o slots count after.0 after.1
