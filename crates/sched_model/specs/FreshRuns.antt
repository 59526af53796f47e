-- What every scheduler that counts run ids and places of jobs shares: the id of a fresh run, and which jobs are
-- under way.
use Rattle.std.specs.Prelude.{ℕ, ◌+◌, ◌||◌, Bool, min, max, List, [], ◌∷◌, ◌++◌, flat_map, Option, Some, None}
use Rattle.fleet_model.specs.Jobs.{Job, Submitted, Scheduled, Running, has_status}
use Rattle.fleet_model.specs.Sources.{all_run_ids}
use Rattle.fleet_model.specs.Work.Scheduler.{View}

-- The least number that is above all of these.
abbrev pub above_all : List ℕ → ℕ
above_all [] = 0
above_all (id ∷ others) = max (id + 1) (above_all others)

-- The destination as a list, which is empty if there is no destination.
abbrev pub destination_list : Option ℕ → List ℕ
destination_list None = []
destination_list (Some run) = run ∷ []

-- The id of a run, or the greatest unsigned 32-bit number if the id is greater.
abbrev pub capped_id : ℕ → ℕ
capped_id id = min id 4294967295

-- The id of a fresh run. It is above each run of each tree and each destination of a job in the view, but
-- at most the greatest unsigned 32-bit number.
abbrev pub fresh_run_id : View → ℕ
fresh_run_id view =
    capped_id
    (above_all (all_run_ids view.manifest.trees ++ flat_map (λ job. destination_list job.spec.destination) view.jobs))

-- True if the job is Submitted, Scheduled or Running. Such a job takes one of the places for jobs under
-- way.
abbrev pub is_under_way : Job → Bool
is_under_way job = has_status Submitted job || has_status Scheduled job || has_status Running job
