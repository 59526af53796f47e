-- What the rule counts: numbers of all views together, places, and the claims and commits of a history.
use Rattle.std.specs.Prelude.{◌≡◌, ℕ, ◌+◌, ◌==◌, ◌&&◌, nat_lt, if◌then◌else◌, Bool, false, List, [], ◌∷◌, ◌++◌, length}
use Rattle.fleet_model.specs.History.{Entry, Event, PutRecords, Finish, stood}
use Rattle.fleet_model.specs.Jobs.{contains}
use Rattle.step_model.specs.Entries.{claimed_attempts}
use Rattle.course_laws.specs.Histories.{committed_jobs}
use Rattle.fleet_store.specs.Memory.{StoreParts}

-- 1 for true.
abbrev pub count : Bool → ℕ
count b = if b then 1 else 0

-- The number of times that the number is in the list.
abbrev pub times : ℕ → List ℕ → ℕ
times x [] = 0
times x (y ∷ ys) = count (y == x) + times x ys

-- The numbers of these views together.
abbrev pub total : {V : Type 0} → (V → ℕ) → List V → ℕ
total f [] = 0
total f (v ∷ vs) = f v + total f vs

-- 1 if the place is one of so many places from the start on, and otherwise 0.
abbrev pub once_from : (start many place : ℕ) → ℕ
once_from start many place = if nat_lt place start then 0 else count (nat_lt place (start + many))

-- The number of claims and of commits in a history.
abbrev pub claims_in : List Entry → ℕ
claims_in history = length (claimed_attempts history)

abbrev pub commits_in : List Entry → ℕ
commits_in history = length (committed_jobs history)

-- The number of claims and of commits in the history of a store, and the length of the history.
abbrev pub claims_of : StoreParts → ℕ
claims_of store = claims_in store.world.store.history

abbrev pub commits_of : StoreParts → ℕ
commits_of store = commits_in store.world.store.history

abbrev pub length_of : StoreParts → ℕ
length_of store = length store.world.store.history

-- ---- what an entry adds

-- The history has so many more than without its last entry.
abbrev pub LastAdds : (List Entry → ℕ) → ℕ → List Entry → Type 0
LastAdds number many history = (front : List Entry) (last : Entry) → history ≡ front ++ last ∷ []
    → number history ≡ number front + many

-- True if the event finishes one of these jobs, if it took effect.
abbrev pub finishes : (jobs : List ℕ) → Event → Bool
finishes jobs (PutRecords (Finish worker job attempt outputs)) = contains jobs job
finishes jobs _ = false

-- True if the entry finishes one of these jobs.
abbrev pub is_finish : (jobs : List ℕ) → Entry → Bool
is_finish jobs entry = stood entry.answer && finishes jobs entry.event
