-- The tables that a worker holds.
use Rattle.std.specs.Prelude.{ℕ, List, map, flat_map}
use Rattle.fleet_model.specs.Sweeps.{attempt_tables}
use Rattle.fleet_plan.specs.Parts.{Part}
use Rattle.fleet_jobs.specs.Contexts.{noted_range}
use Rattle.fleet_worker.specs.Workers.{AttemptParts, attempt_of}

-- The tables that were noted for these ranges.
abbrev pub noted_in : List Part → List ℕ
noted_in ranges = flat_map (λ range. range.1) (map noted_range ranges)

-- The tables that an attempt holds: its source tables, and the tables noted so far.
abbrev pub held_by : AttemptParts → List ℕ
held_by a = attempt_tables (attempt_of a)

-- The tables that these attempts hold, attempt by attempt.
abbrev pub all_held : List AttemptParts → List ℕ
all_held attempts = flat_map held_by attempts
