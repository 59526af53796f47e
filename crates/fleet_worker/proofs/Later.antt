-- What a step leaves of what a worker has noted.
use Rattle.std.proofs.Common.{List, [], ◌∷◌, Bool, true, false, cond}
use Rattle.std.specs.Prelude.{filter}
use Rattle.std.specs.List.{AllByRecursion}
use Rattle.fleet_model.specs.Store.{Store}
use Rattle.step_model.specs.Courses.Course.{Course}
use Rattle.step_model.specs.Courses.CourseRuns.{End}
use Rattle.step_model.specs.Later.{IsLater}
use Rattle.step_model.specs.Views.{StoreView}
use Rattle.step_laws.proofs.RanLaws.{ran_runs}
use Rattle.course_laws.proofs.Afterwards.{runs_come}
use Rattle.fleet_plan.specs.Parts.{Part}
use Rattle.fleet_store.specs.Handles.{IsDescribed}
use Rattle.fleet_store.proofs.Later.{all_described}
use Rattle.fleet_step.specs.Steps.{RunsTo}
use Rattle.fleet_worker.specs.Workers.{AreNoted, AttemptParts, IsNoted}

-- A step leads to a later store.
pub runs_later : {A : Type 0} (course : Course A) (old new : StoreView) (end : End A) → RunsTo course old new end → IsLater old.world.store new.world.store
runs_later course old new end runs = (runs_come old.who course old.world new.world end (ran_runs old.who course old.world new.world old.waits new.waits end runs.ran)).later

-- What attempts have noted is still described in a later store.
pub still_noted : (old new : Store) (attempts : List AttemptParts) → IsLater old new → AreNoted attempts old → AreNoted attempts new
still_noted old new [] later all = tt
still_noted old new (a ∷ attempts) later all = (
  record {
    sources = all.0.sources;
    described = all_described old new later a.tables all.0.described;
    noted = parts a.ctx.ranges all.0.noted;
  },
  still_noted old new attempts later all.1,
)
  where
    parts : (ranges : List Part) → AllByRecursion (λ part. AllByRecursion (IsDescribed old.tables) part.output_ssts) ranges → AllByRecursion (λ part. AllByRecursion (IsDescribed new.tables) part.output_ssts) ranges
    parts [] h = tt
    parts (part ∷ ranges) h = (all_described old new later part.output_ssts h.0, parts ranges h.1)

-- So is what some of the attempts have noted.
pub some_noted : (store : Store) (keep : AttemptParts → Bool) (attempts : List AttemptParts) → AreNoted attempts store → AreNoted (filter keep attempts) store
some_noted store keep [] all = tt
some_noted store keep (a ∷ attempts) all = by (keep a) all.0 (some_noted store keep attempts all.1)
  where
    by : (b : Bool) → IsNoted store a → AreNoted (filter keep attempts) store → AreNoted (cond b (a ∷ filter keep attempts) (filter keep attempts)) store
    by true here rest = (here, rest)
    by false here rest = rest
