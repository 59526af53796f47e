-- The laws on histories: whose entries they have, and the claims and commits that they count.
use Rattle.std.specs.Prelude.{◌≡◌, ◌≢◌, ℕ, Bool, true, List, [], ◌∷◌, ◌++◌, filter, flat_map, length, ◌+◌}
use Rattle.std.specs.List.{AllByRecursion}
use Rattle.row_model.specs.Lists.{Pairs}
use Rattle.row_model.specs.Fold.{Operator}
use Rattle.fleet_model.specs.Jobs.{contains}
use Rattle.fleet_model.specs.History.{Party, Event, PutRecords, Finish, Polled, Entry, stood}
use Rattle.step_model.specs.Past.{World}
use Rattle.step_model.specs.Entries.{claimed_attempts}
use Rattle.step_model.specs.Rivals.{Caller, Rivals}
use Rattle.step_model.specs.Kept.Keeps.{Keeps}

-- ---- whose entries

-- The history went on by entries of other parties than this one.
pub record OthersAdded (party : Party) (old new : World) : Type 0 where
  pub entries : List Entry
  pub history : new.store.history ≡ old.store.history ++ entries
  pub others : AllByRecursion (λ entry. entry.party ≢ party) entries

-- Calls of others than a caller add no entry that carries the caller's party. So if one caller alone carries
-- a party, each entry with that party is one of its own calls.
abbrev pub RivalsAdd : Type 0
RivalsAdd = (who : Caller) (old new : World) → Rivals who old new → OthersAdded who.party old new

-- ---- commits

-- The job that the event finishes, if the flag says that the event took effect.
abbrev pub finished_in : Bool → Event → List ℕ
finished_in true (PutRecords (Finish worker id attempt outputs)) = id ∷ []
finished_in _ _ = []

-- The jobs that the event completes, if the flag says that the event took effect.
abbrev pub completed_in : Bool → Event → List ℕ
completed_in true (PutRecords (Polled change)) = change.completed
completed_in _ _ = []

-- The jobs that entries finish, in the order of these entries.
abbrev pub finished_jobs : List Entry → List ℕ
finished_jobs entries = flat_map (λ entry. finished_in (stood entry.answer) entry.event) entries

-- The jobs that these entries commit, given the jobs that were finished before: each entry commits the
-- finished jobs that it completes. A poll also completes jobs that it moves or drains, which were never
-- finished.
abbrev pub committed_from : (finished : List ℕ) → List Entry → List ℕ
committed_from finished [] = []
committed_from finished (entry ∷ entries) =
    filter (contains (completed_in (stood entry.answer) entry.event)) finished
    ++ committed_from (finished ++ finished_in (stood entry.answer) entry.event) entries

-- The jobs that a history commits.
abbrev pub committed_jobs : List Entry → List ℕ
committed_jobs history = committed_from [] history

-- ---- counts

-- Claims and commits add up over any cut of a history, and so do their numbers. No attempt is claimed twice.
pub record HistoriesCount : Type 0 where
  pub claims : (first rest : List Entry)
      → claimed_attempts (first ++ rest) ≡ claimed_attempts first ++ claimed_attempts rest
  pub claims_number : (first rest : List Entry)
      → length (claimed_attempts (first ++ rest)) ≡ length (claimed_attempts first) + length (claimed_attempts rest)
  pub once : (merge : Operator) (world : World) → Keeps merge world
      → Pairs (λ a b. a ≢ b) (claimed_attempts world.store.history)
  pub finished : (first rest : List Entry) → finished_jobs (first ++ rest) ≡ finished_jobs first ++ finished_jobs rest
  pub commits : (first rest : List Entry)
      → committed_jobs (first ++ rest) ≡ committed_jobs first ++ committed_from (finished_jobs first) rest
  pub commits_number : (first rest : List Entry)
      → length (committed_jobs (first ++ rest))
      ≡ length (committed_jobs first) + length (committed_from (finished_jobs first) rest)
