-- A handle describes a table without its rows.
use Rattle.std.specs.Prelude.{ℕ, List, [], ◌∷◌, ◌++◌, map, flat_map, length, Option, Some, None}
use Rattle.std.specs.List.{concat}
use Rattle.row_model.specs.Rows.{Row}
use Rattle.row_model.specs.Written.Sizes.{Block, blocks, table_size}
use Rattle.fleet_model.specs.Nodes.{Tables, table_rows, Segment, Trees}
use Rattle.fleet_model.specs.Jobs.{Context, Job, Jobs}
use Rattle.fleet_model.specs.Trees.{first_key, last_key}

-- A handle has the first and the last key of a table, the sequence of its last row, its sizes and its
-- blocks.
pub record Handle : Type 0 where
  pub id : ℕ
  pub first_key : List ℕ
  pub last_key : List ℕ
  pub last_seq : ℕ  -- the sequence of the last row
  pub rows : ℕ  -- how many rows it has
  pub size : ℕ  -- the sum of its rows' estimated sizes, in bytes
  pub blocks : List Block

-- The sequence of the last row, or the given sequence if there are no rows.
abbrev pub seq_of_last : ℕ → List Row → ℕ
seq_of_last seq [] = seq
seq_of_last seq (r ∷ rows) = seq_of_last r.seq rows

-- The handle of a table with this id and these rows.
abbrev pub describe : ℕ → List Row → Handle
describe id rows = record {
  id = id;
  first_key = first_key rows;
  last_key = last_key [] rows;
  last_seq = seq_of_last 0 rows;
  rows = length rows;
  size = table_size rows;
  blocks = blocks rows;
}

-- The handles of the tables with these ids.
abbrev pub handles_of : Tables → List ℕ → List Handle
handles_of tables ids = map (λ id. describe id (table_rows tables id)) ids

-- The tables that are noted for the ranges of a context, if there is a context.
abbrev pub context_tables : Option Context → List ℕ
context_tables None = []
context_tables (Some context) = flat_map (λ range. range.1) context.ranges

-- The tables of the nodes of a segment's tree.
abbrev pub tree_tables : Segment → List ℕ
tree_tables s = flat_map (λ node. node.pieces) s.tree

-- The tables that a job names in its context and in its outputs.
abbrev pub job_tables : Job → List ℕ
job_tables job = context_tables job.context ++ concat job.outputs

-- The tables that trees and jobs name.
abbrev pub named_tables : Trees → Jobs → List ℕ
named_tables trees jobs = flat_map tree_tables trees ++ flat_map job_tables jobs
