-- Lists from which an element is taken.
use Rattle.std.specs.Prelude.{◌≡◌, ℕ, ◌≤◌, List, length}
use Rattle.std.specs.List.{insert}

-- The rest of a list from which this element was taken. Put back at its place, it makes the whole list again.
pub record IsTaken {A : Type 0} (all : List A) (place : ℕ) (x : A) (rest : List A) : Type 0 where
  pub low : place ≤ length rest
  pub back : insert rest place x ≡ all
