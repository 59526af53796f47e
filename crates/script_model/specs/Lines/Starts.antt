-- The lines that start and end parties.
use Rattle.std.specs.Prelude.{ℕ, ◌==◌, Bool, true, false, if◌then◌else◌, List, [], ◌∷◌, ◌++◌, Option, Some, None, is_some, codes, decimal}
use Rattle.fleet_model.specs.Jobs.{Release, One, Two}
use Rattle.fleet_model.specs.History.{Party, Coordinator, Worker, Event, Start, Kill}
use Rattle.fleet_model.specs.Work.Parties.{Parties, coordinator_with, worker_with, without_coordinator, without_worker, with_coordinator, with_worker}
use Rattle.step_model.specs.Courses.Course.{Ends, calls_each}
use Rattle.step_model.specs.Courses.StepEnds.{StepEnd, Reports}
use Rattle.step_model.specs.Steps.PollSteps.{start}
use Rattle.script_model.specs.Replies.{reply, ok}
use Rattle.script_model.specs.LineRuns.{LineCourse, no_such_party, if_some, noted_line, line_end}
use Rattle.script_model.specs.States.{State}

-- The note that the live party of this name is killed. It is made only if there is one.
abbrev pub killed_first : Bool → Party → List Event
killed_first true party = Kill party ∷ []
killed_first false party = []

-- The note that the coordinator started. It is made only if the start put its epoch.
abbrev pub start_notes : ℕ → StepEnd ℕ → List Event
start_notes n (Reports epoch) = Start (Coordinator n) ∷ []
start_notes n _ = []

-- The line that starts a coordinator. A live coordinator of this number is killed first. The new
-- one is live if its start reports an epoch.
abbrev pub start_coordinator : ℕ → State → LineCourse
start_coordinator n s =
    let others = without_coordinator n s.parties in
    noted_line (Coordinator n)
    (calls_each (killed_first (is_some (coordinator_with n s.parties)) (Coordinator n)) start) (start_notes n)
    (line_end (λ epoch. reply (codes "ok" ∷ codes "epoch" ∷ decimal epoch ∷ []))
    (λ epoch. with_coordinator (record { number = n; epoch = epoch }) s.parties) others)
    others

-- A line that makes these notes, replies ok, and leaves these parties live.
abbrev pub only_notes : (party : Party) (notes : List Event) (s : State) (parties : Parties) → LineCourse
only_notes party notes s parties = record {
  party = party;
  course = calls_each notes (Ends (record { reply = ok; parties = parties }));
  struck = s.parties;
}

-- The release of a worker that a line starts: the first for 1, and the second for another number or
-- none.
abbrev pub release_named : Option ℕ → Release
release_named None = Two
release_named (Some release) = if release == 1 then One else Two

-- The line that starts a worker with no attempts. A live worker of this number is killed first.
abbrev pub start_worker : ℕ → Option ℕ → State → LineCourse
start_worker n release s =
    only_notes (Worker n) (killed_first (is_some (worker_with n s.parties)) (Worker n) ++ Start (Worker n) ∷ []) s
    (with_worker (record { number = n; release = release_named release; attempts = [] }) s.parties)

-- The line that kills or stops a coordinator. The stored objects stay as they are.
abbrev pub end_coordinator : ℕ → State → LineCourse
end_coordinator n s =
    if_some (coordinator_with n s.parties) (no_such_party s)
    (λ c. only_notes (Coordinator n) (Kill (Coordinator n) ∷ []) s (without_coordinator n s.parties))

-- The line that kills a worker. The stored objects stay as they are.
abbrev pub kill_worker : ℕ → State → LineCourse
kill_worker n s =
    if_some (worker_with n s.parties) (no_such_party s)
    (λ w. only_notes (Worker n) (Kill (Worker n) ∷ []) s (without_worker n s.parties))
