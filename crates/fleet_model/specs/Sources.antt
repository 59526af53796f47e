-- Where the sources of a job are in a tree, and which runs the trees have.
use Rattle.std.specs.Prelude.{ℕ, Bool, true, false, not, ◌&&◌, ◌||◌, nat_lt, nat_le, if◌then◌else◌, List, [], ◌∷◌, flat_map, Option, Some, None}
use Rattle.std.specs.List.{list_any, list_all}
use Rattle.fleet_model.specs.Nodes.{NodeName, L0, Run, name_eq, is_l0, names_contain, Tree, names, Trees}
use Rattle.fleet_model.specs.Jobs.{contains}

-- The ids of the runs among these nodes.
abbrev pub run_ids : List NodeName → List ℕ
run_ids [] = []
run_ids (L0 name ∷ sources) = run_ids sources
run_ids (Run id ∷ sources) = id ∷ run_ids sources

-- The ids of the runs of all trees.
abbrev pub all_run_ids : Trees → List ℕ
all_run_ids trees = flat_map (λ s. run_ids (names s.tree)) trees

-- The names that follow the sources, if the list begins with the sources. Otherwise it is None.
abbrev pub after_front : (sources nodes : List NodeName) → Option (List NodeName)
after_front [] rest = Some rest
after_front (x ∷ xs) [] = None
after_front (x ∷ xs) (y ∷ ys) = if name_eq x y then after_front xs ys else None

-- The first list if there is one, and otherwise the second.
abbrev pub or_later : (first later : Option (List NodeName)) → Option (List NodeName)
or_later None later = later
or_later (Some rest) later = Some rest

-- The nodes that are older than the sources, if the sources are in the tree one after the other. Otherwise
-- it is None.
abbrev pub older_nodes : (sources nodes : List NodeName) → Option (List NodeName)
older_nodes sources [] = after_front sources []
older_nodes sources (y ∷ ys) = or_later (after_front sources (y ∷ ys)) (older_nodes sources ys)

-- True if the list is empty or begins with a run.
abbrev pub begins_with_run : List NodeName → Bool
begins_with_run [] = true
begins_with_run (L0 name ∷ rest) = false
begins_with_run (Run id ∷ rest) = true

-- True if the older nodes are given, and either no source is a flush or the next older node is not a flush.
abbrev pub reaches_oldest : List NodeName → Option (List NodeName) → Bool
reaches_oldest sources None = false
reaches_oldest sources (Some rest) = not (list_any is_l0 sources) || begins_with_run rest

-- True if the sources are in the tree one after the other and, if a source is a flush, they reach the
-- oldest flush.
abbrev pub is_whole_stretch : Tree → List NodeName → Bool
is_whole_stretch tree sources = reaches_oldest sources (older_nodes sources (names tree))

-- True if the id is the lowest source run or, if no run is a source, is above all these runs.
abbrev pub is_lowest_or_above : (id : ℕ) (sources runs : List ℕ) → Bool
is_lowest_or_above id [] runs = list_all (λ run. nat_lt run id) runs
is_lowest_or_above id (source ∷ sources) runs =
    contains (source ∷ sources) id && list_all (λ run. nat_le id run) (source ∷ sources)

-- True if no name is in both lists.
abbrev pub is_apart : (xs ys : List NodeName) → Bool
is_apart xs ys = list_all (λ x. not (names_contain ys x)) xs
