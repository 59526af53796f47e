-- What a store shows that tells its place.
use Rattle.std.specs.Prelude.{ℕ, List, [], ◌∷◌}
use Rattle.step_model.specs.Views.{StoreView}
use Rattle.fleet_rival.specs.declared.placed_store.Placed.{Placed}

-- The store inside.
abbrev pub store_of : {S : Type 0} → Placed S → S
store_of p = p.store

-- The place: the row and the shelf.
abbrev pub place_of : {S : Type 0} → Placed S → List ℕ
place_of p = p.row ∷ p.shelf ∷ []

-- The view, at this place.
abbrev pub at_place : List ℕ → StoreView → StoreView
at_place place view = record view { place = place }
