-- A claim's cut is at most the floor. Under a retention, it is low enough for every read that was possible
-- within it.
use Rattle.std.specs.Prelude.{◌≡◌, ◌≢◌, ℕ, ◌-◌, ◌≤◌, [], ◌∷◌, pos, IsTrue}
use Rattle.std.specs.List.{AllByRecursion}
use Rattle.fleet_model.specs.Work.Attempts.{claim_cut}
use Rattle.fleet_model.specs.Jobs.{Release, One, Two}
use Rattle.fleet_model.specs.Store.{Manifest, cut_at}
use Rattle.fleet_model.specs.Tracker.{is_retained}

-- A claim's cut is at most the floor. Under a retention, the manifest's cut is also at most the sequence
-- before the least one of each flush within it. If that least one is 0, the cut is 0. So what was readable
-- before the flush stays readable.
pub record CutsAreLow (manifest : Manifest) (moment retention : ℕ) : Type 0 where
  pub floor : (release : Release) → claim_cut release manifest moment retention ≤ manifest.floor
  pub flushes : retention ≢ 0
      → AllByRecursion
      (λ flush. IsTrue (is_retained moment retention flush)
      → cut_at manifest moment retention ≤ flush.least_seq - 1) manifest.tracker

-- A manifest without trees, with the floor 4 and a flush in its tracker that has the least sequence 3 and came
-- at moment 0.
abbrev pub tracked : Manifest
tracked = record {
  version = 1;
  epoch = 0;
  trees = [];
  floor = 4;
  tick = pos 0;
  tracker = record { least_seq = 3; moment = 0 } ∷ [];
  horizon = 0;
}

-- The retention is 1,000 ms. Before moment 1,000, the flush holds the cut of a worker of release 2 at 2, and
-- from then on the cut is the floor 4. A worker of release 1 takes the floor even before.
pub record WorkedCuts : Type 0 where
  pub within : claim_cut Two tracked 999 1000 ≡ 2
  pub after : claim_cut Two tracked 1000 1000 ≡ 4
  pub first_release : claim_cut One tracked 999 1000 ≡ 4
