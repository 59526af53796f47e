-- What the results of a scheduler's calls say about its answers. Any call may run out of memory.
use Rattle.std.specs.Prelude.{◌≡◌, Bool, true, false, List, map, Result, Ok, Err, Vec}
use Rattle.std.specs.declared.alloc.Global.{Global}
use Rattle.fleet_model.specs.Jobs.{JobSpec}
use Rattle.fleet_model.specs.Work.Scheduler as model
use Rattle.fleet_rows.specs.declared.errors.SlateDBError.{SlateDBError}
use Rattle.fleet_rows.specs.declared.errors.SlateDBError.TheVariants.{InvalidCompaction, Generate, Memory}
use Rattle.fleet_jobs.specs.Specs.{spec_of}
use Rattle.fleet_jobs.specs.declared.spec.CompactionSpec.{CompactionSpec}

-- The result has these specs.
abbrev pub Proposes : List JobSpec → Result (Vec CompactionSpec Global) SlateDBError → Type 0
Proposes specs (Ok made) = map spec_of made.items ≡ specs
Proposes specs (Err e) = e ≡ Memory

-- The result is Ok if the job is accepted, and otherwise `InvalidCompaction`.
abbrev pub Validates : Bool → Result (Unit {0}) SlateDBError → Type 0
Validates accepted (Ok done) = accepted ≡ true
Validates accepted (Err InvalidCompaction) = accepted ≡ false
Validates accepted (Err e) = e ≡ Memory

-- The result has the specs of the answer. A refusal is `InvalidCompaction`, or `Generate` with the answer's
-- message.
abbrev pub Generates : model.Generated → Result (Vec CompactionSpec Global) SlateDBError → Type 0
Generates answer (Ok made) = answer ≡ model.Specs (map spec_of made.items)
Generates answer (Err InvalidCompaction) = answer ≡ model.Invalid
Generates answer (Err (Generate message)) = answer ≡ model.Declined message
Generates answer (Err e) = e ≡ Memory
