-- The items of a shared list. A list without storage has no items.
use Rattle.std.specs.List.{flat_map}
use Rattle.std.specs.Prelude.{ℕ, ◌+◌, ◌++◌, take, drop, List, [], ◌∷◌, Option, Some, None, option_to_list}
use Rattle.std.specs.Arc.{arc_value}
use Rattle.std.specs.declared.sync.Arc.{Arc}

abbrev pub items_of : {T Z : Type 0} → Option (Arc (List T) Z) → List T
items_of None = []
items_of (Some shared) = arc_value shared

-- The list without the `count` items from a place on, and with an item there if one is given.
abbrev pub spliced : {T : Type 0} → (place count : ℕ) → Option T → List T → List T
spliced place count item items = take place items ++ option_to_list item ++ drop (place + count) items

-- The items of all chunks.
abbrev pub joined : {T : Type 0} → List (List T) → List T
joined chunks = flat_map (λ chunk. chunk) chunks
