-- What a reader found, once it is known whether it found something.
use Rattle.std.proofs.Common.{◌≡◌, subst, ℕ, List, drop}
use Rattle.std.specs.Prelude.{Option, Some, None}
use Rattle.fleet_block.specs.Finds.{IsFound}

pub found_some : {A V : Type 0} (view : V → A) (x : A) (others bytes : List ℕ) (found : Option (V × ℕ)) (v : V) (place : ℕ) → found ≡ Some (v, place) → IsFound view x others bytes found → (view v ≡ x) × (drop place bytes ≡ others)
found_some view x others bytes found v place is h = subst (IsFound view x others bytes) is h

pub found_none : {A V : Type 0} (view : V → A) (x : A) (others bytes : List ℕ) (found : Option (V × ℕ)) → found ≡ None → IsFound view x others bytes found → ⊥
found_none view x others bytes found is h = subst (IsFound view x others bytes) is h
