-- The laws on workers with fewer attempts.
use Rattle.std.specs.Prelude.{ℕ, Bool, filter, []}
use Rattle.row_model.specs.Fold.{Operator}
use Rattle.fleet_model.specs.Jobs.{Release}
use Rattle.fleet_model.specs.Work.Parties.{Attempt, LiveWorker}
use Rattle.step_model.specs.Past.{World}
use Rattle.step_model.specs.Fits.{WorkerHolds}

-- A worker that fits also fits with those of its attempts that pass a test.
abbrev pub FewerFit : Operator → Type 0
FewerFit merge = (world : World) (w : LiveWorker) (keep : Attempt → Bool) → WorkerHolds merge world w
    → WorkerHolds merge world (record w { attempts = filter keep w.attempts })

-- A worker that runs nothing fits any store.
abbrev pub IdleFit : Operator → Type 0
IdleFit merge = (world : World) (number : ℕ) (release : Release)
    → WorkerHolds merge world (record { number = number; release = release; attempts = [] })
