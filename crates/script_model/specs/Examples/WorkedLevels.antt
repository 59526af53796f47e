-- Scripts and examples of a fleet with a levelled scheduler.
use Rattle.std.specs.Prelude.{◌≡◌, ℕ, true, false, List, [], ◌∷◌, map, codes}
use Rattle.fleet_model.specs.Nodes.{Run}
use Rattle.fleet_model.specs.Jobs.{JobSpec}
use Rattle.sched_model.specs.Levels.{level_picks, is_within}
use Rattle.sched_model.specs.Worked.{sized_table, small_run, view_of_runs, into, small_levels}
use Rattle.script_model.specs.Examples.Worked.{Conversation}

-- The job that compacts a run and the next one into the next one.
abbrev pub pair_job : (run next : ℕ) → JobSpec
pair_job run next = into [] (Run run ∷ Run next ∷ []) next

-- Runs of which two are above their sizes. Each pair is a run's id and its size.
abbrev pub runs_above : List (ℕ × ℕ)
runs_above = (3, 50) ∷ (2, 10) ∷ (1, 100) ∷ (0, 5) ∷ []

-- Runs that are each within their sizes. Each pair is a run's id and its size.
abbrev pub runs_within : List (ℕ × ℕ)
runs_within = (3, 20) ∷ (2, 40) ∷ (1, 80) ∷ (0, 500) ∷ []

-- Two of four runs are above their sizes, and the scheduler picks each of them with the next run.
-- With one slot it picks the first pair only. If all runs are within their sizes, it picks nothing.
pub record LevelsArePicked : Type 0 where
  pub pairs : level_picks small_levels 4 (view_of_runs runs_above) ≡ pair_job 3 2 ∷ pair_job 1 0 ∷ []
  pub one_slot : level_picks small_levels 1 (view_of_runs runs_above) ≡ pair_job 3 2 ∷ []
  pub nothing : level_picks small_levels 4 (view_of_runs runs_within) ≡ []
  pub above : is_within small_levels (map sized_table runs_above) (map small_run runs_above) ≡ false
  pub within : is_within small_levels (map sized_table runs_within) (map small_run runs_within) ≡ true

-- Flushes are compacted until a poll finds nothing to do. A settle line of one round does not
-- settle if its poll adds a job. The next settle line settles.
abbrev pub settled_levels : Conversation
settled_levels =
    (codes "flush 1 - 0 0 61:v:31:1:-:-", codes "ok")
    ∷ (codes "flush 2 - 0 0 61:v:32:2:-:-", codes "ok")
    ∷ (codes "start coordinator 1", codes "ok epoch 1")
    ∷ (codes "start worker 1", codes "ok")
    ∷ (codes "settle 1 1 10", codes "ok settled 2")
    ∷ (codes "trees", codes "ok -:r0")
    ∷ (codes "flush 3 - 0 0 61:v:33:3:-:-", codes "ok")
    ∷ (codes "flush 4 - 0 0 62:v:34:4:-:-", codes "ok")
    ∷ (codes "poll 1", codes "ok freed - done - lost - added 2 dropped - open 2 moved - drained - bad -")
    ∷ (codes "claim 1", codes "ok claimed 2.1:-|- stopped -")
    ∷ (codes "finish 1 2", codes "ok t2|t3")
    ∷ (codes "poll 1", codes "ok freed - done 2 lost - added - dropped - open - moved - drained - bad -")
    ∷ (codes "flush 5 - 0 0 61:v:35:5:-:-", codes "ok")
    ∷ (codes "poll 1", codes "ok freed - done - lost - added - dropped - open - moved - drained - bad -")
    ∷ (codes "flush 6 - 0 0 61:v:36:6:-:-", codes "ok")
    ∷ (codes "settle 1 1 1", codes "ok rounds 1")
    ∷ (codes "settle 1 1 1", codes "ok settled 1")
    ∷ (codes "trees", codes "ok -:r1,r0")
    ∷ []

-- A round whose poll moves a job at once does not settle, since that poll added the job.
abbrev pub settled_moves : Conversation
settled_moves =
    (codes "options 60000 4 4 4 268435456 1", codes "ok")
    ∷ (codes "flush 1 - 0 0 61:v:31:1:-:-", codes "ok")
    ∷ (codes "flush 2 - 0 0 62:v:32:2:-:-", codes "ok")
    ∷ (codes "start coordinator 1", codes "ok epoch 1")
    ∷ (codes "start worker 1", codes "ok")
    ∷ (codes "settle 1 1 1", codes "ok rounds 1")
    ∷ (codes "settle 1 1 1", codes "ok settled 1")
    ∷ (codes "trees", codes "ok -:r0")
    ∷ []

-- A fault strikes the claim of a settle line. The reply is storefault, and the worker is no longer
-- live. Once the job is stale, a later settle line with a new worker finishes it.
abbrev pub struck_settle : Conversation
struck_settle =
    (codes "flush 1 - 0 0 61:v:31:1:-:-", codes "ok")
    ∷ (codes "flush 2 - 0 0 61:v:32:2:-:-", codes "ok")
    ∷ (codes "start coordinator 1", codes "ok epoch 1")
    ∷ (codes "start worker 1", codes "ok")
    ∷ (codes "fault 6 lost", codes "ok")
    ∷ (codes "settle 1 1 10", codes "storefault")
    ∷ (codes "jobs", codes "ok 1:running:1:w1:-")
    ∷ (codes "settle 1 1 10", codes "nosuchparty")
    ∷ (codes "start worker 1", codes "ok")
    ∷ (codes "clock 60001", codes "ok")
    ∷ (codes "settle 1 1 10", codes "ok settled 2")
    ∷ (codes "trees", codes "ok -:r0")
    ∷ []

-- A settle line whose parties are not live is refused.
abbrev pub settled_by_nobody : Conversation
settled_by_nobody =
    (codes "settle 1 1 1", codes "nosuchparty")
    ∷ []
