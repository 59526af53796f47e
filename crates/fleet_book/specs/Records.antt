-- The records of all jobs, and how they are seen in the model.
use Rattle.std.specs.Prelude.{ℕ, ◌<◌, Bool, false, ◌||◌, ◌==◌, nat_lt, not, List, [], ◌∷◌, find, if◌then◌else◌, Option}
use Rattle.row_model.specs.Lists.{Pairs}
use Rattle.fleet_jobs.specs.Parts.JobParts.{JobParts}
use Rattle.fleet_jobs.specs.Jobs.{is_open}

-- The ids of the jobs rise.
abbrev pub AreRising : List JobParts → Type 0
AreRising jobs = Pairs (λ a b. a.id < b.id) jobs

-- The first job with this id, if there is one.
abbrev pub record_with : ℕ → List JobParts → Option JobParts
record_with id jobs = find (λ job. job.id == id) jobs

-- The jobs with this one among them. It replaces a job with its id, and else stands in front of the first job
-- with a greater id.
abbrev pub put_record : JobParts → List JobParts → List JobParts
put_record new [] = new ∷ []
put_record new (job ∷ jobs) = if nat_lt job.id new.id then job ∷ put_record new jobs
    else (if job.id == new.id then new ∷ jobs else new ∷ job ∷ jobs)

-- True if one of the jobs is over.
abbrev pub over_later : List JobParts → Bool
over_later [] = false
over_later (job ∷ jobs) = not (is_open job) || over_later jobs

-- The jobs that are not over and, of those that are, the one with the greatest id.
abbrev pub kept_records : List JobParts → List JobParts
kept_records [] = []
kept_records (job ∷ jobs) = if is_open job then job ∷ kept_records jobs
    else (if over_later jobs then kept_records jobs else job ∷ kept_records jobs)
