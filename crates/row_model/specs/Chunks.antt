-- A list is cut into chunks of neighbouring elements. Such chunks are the rows of one key, or the operands
-- that are folded together.
use Rattle.std.specs.Prelude.{Bool, if◌then◌else◌, List, [], ◌∷◌}

-- A chunk is a first element and a list of further elements, so no chunk is empty.
abbrev pub Chunk : Type 0 → Type 0
Chunk A = A × List A

abbrev pub elements : {A : Type 0} → Chunk A → List A
elements g = g.0 ∷ g.1

-- Puts an element in front of a list of chunks. If the element joins the first element of the first chunk,
-- it goes into that chunk. Otherwise it becomes a chunk of its own.
abbrev pub put_before : {A : Type 0} → (A → A → Bool) → A → List (Chunk A) → List (Chunk A)
put_before joins x [] = (x, []) ∷ []
put_before joins x (g ∷ gs) = if joins x g.0 then (x, g.0 ∷ g.1) ∷ gs else (x, []) ∷ g ∷ gs

-- Cuts a list into chunks. Two neighbours are in one chunk exactly if the first of them joins the second.
abbrev pub chunk_by : {A : Type 0} → (A → A → Bool) → List A → List (Chunk A)
chunk_by joins [] = []
chunk_by joins (x ∷ xs) = put_before joins x (chunk_by joins xs)
