-- The state of a peeking iterator, and what holds inside it.
use Rattle.std.specs.Prelude.{ℕ, List}
use Rattle.fleet_iter.specs.Iteration.{IteratorState}
use Rattle.fleet_iter.specs.Peek.{ahead, HasBegun, SeeksAhead}
use Rattle.fleet_iter.specs.declared.peeking.PeekingIterator.{PeekingIterator}

abbrev pub state_of : {T : Type 0} → (T → IteratorState) → PeekingIterator T → IteratorState
state_of state p = ahead p.peeked (state p.inner)

abbrev pub IsSound : {T : Type 0} → (T → Type 0) → (T → IteratorState) → PeekingIterator T → Type 0
IsSound sound state p = sound p.inner × HasBegun p.peeked (state p.inner)

-- What a seek of a peeking iterator leaves.
abbrev pub Sought : {T : Type 0} → (state : T → IteratorState) (sought : T → List ℕ → IteratorState → Type 0)
    (p : PeekingIterator T) (key : List ℕ) (new : IteratorState) → Type 0
Sought state sought p key new = SeeksAhead (sought p.inner) p.peeked (state p.inner) key new
