-- A test of the reads of a store: what its tables answer is what was flushed into them.
use Rattle.std.specs.Prelude.{ℕ, Bool, true, false, nat_le, int_le, ℤ, List, ◌∷◌, map, filter, filter_map, flat_map, Option, Some, None, bytes_eq}
use Rattle.std.specs.List.{list_all}
use Rattle.row_model.specs.Rows.{Row}
use Rattle.row_model.specs.Fold.{Operator, Outcome, Merged, Refused}
use Rattle.row_model.specs.Read.{read}
use Rattle.fleet_model.specs.Nodes.{flushed_node_rows, flushed_rows, stored_rows, Segment}
use Rattle.fleet_model.specs.Store.{Manifest, Store}

abbrev same_answer : (a b : Option Outcome) → Bool
same_answer None None = true
same_answer (Some (Merged a)) (Some (Merged b)) = bytes_eq a b
same_answer (Some (Refused a)) (Some (Refused b)) = bytes_eq a b
same_answer _ _ = false

-- The sequences to read at: the horizon, and those of the rows above it.
abbrev seqs_from : Manifest → List Row → List ℕ
seqs_from manifest rows = manifest.horizon ∷ filter (nat_le manifest.horizon) (map (λ r. r.seq) rows)

-- The moments to read at: the tick, and those after it at which a row expires.
abbrev moments_from : Manifest → List Row → List ℤ
moments_from manifest rows = manifest.tick ∷ filter (int_le manifest.tick) (filter_map (λ r. r.expires) rows)

-- A read of the key answers from the tables what it answers from the flushed rows.
abbrev reads_alike : (merge : Operator) (store : Store) (s : Segment) (key : List ℕ) (seq : ℕ) (now : ℤ) → Bool
reads_alike merge store s key seq now =
    same_answer (read merge key seq now (flushed_rows store.tables s.tree key))
    (read merge key seq now (stored_rows store.tables s.tree key))

-- So does each read of a flushed key, at each of these sequences and moments.
abbrev segment_reads : (merge : Operator) (store : Store) (rows : List Row) (s : Segment) → Bool
segment_reads merge store rows s =
    list_all
    (λ r. list_all (λ seq. list_all (reads_alike merge store s r.key seq) (moments_from store.manifest rows))
    (seqs_from store.manifest rows)) rows

-- Each segment reads as it was flushed, from the horizon and the tick on.
abbrev pub reads_stand : Operator → Store → Bool
reads_stand merge store =
    list_all (λ s. segment_reads merge store (flat_map (flushed_node_rows store.tables) s.tree) s) store.manifest.trees
