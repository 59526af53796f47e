-- Fleets that stand: what a step may take from them, and what they are after it.
use Rattle.std.proofs.Common.{◌≡◌, ◌≢◌, ap, ℕ, List, [], ◌∷◌, cond, Bool, true, false, inl, inr, Some}
use Rattle.std.specs.Prelude.{◌==◌, filter, find, map}
use Rattle.std.specs.List.{AllByRecursion}
use Rattle.std.proofs.lemmas.Bool.Decides.{Decides-eqb}
use Rattle.row_model.specs.Fold.{Operator}
use Rattle.row_model.specs.Lists.{Pairs}
use Rattle.fleet_model.specs.Store.{Store}
use Rattle.fleet_model.specs.Work.Parties.{LiveWorker}
use Rattle.step_model.specs.Fits.{WorkerHolds}
use Rattle.step_model.specs.Later.{IsLater}
use Rattle.step_laws.proofs.Elements.{IsIn, all_at}
use Rattle.line_laws.proofs.Parties.{found}
use Rattle.fleet_worker.specs.Workers.{WorkerParts, live_of}
use Rattle.fleet_worker.proofs.Later.{still_noted}
use Rattle.fleet_lines.specs.Fleets.{FleetParts, IsUp, Stands}
use Rattle.fleet_lines.specs.Steps.{MayWork}

-- Workers that are up are so over a later store.
pub still_up : (old new : Store) (workers : List WorkerParts) → IsLater old new → AllByRecursion (IsUp old) workers → AllByRecursion (IsUp new) workers
still_up old new [] later up = tt
still_up old new (w ∷ workers) later up = (record { runs = up.0.runs; noted = still_noted old new w.attempts later up.0.noted }, still_up old new workers later up.1)

-- So are those that are left of them.
pub some_up : (store : Store) (keep : WorkerParts → Bool) (workers : List WorkerParts) → AllByRecursion (IsUp store) workers → AllByRecursion (IsUp store) (filter keep workers)
some_up store keep [] up = tt
some_up store keep (w ∷ workers) up = by (keep w) (some_up store keep workers up.1)
  where
    by : (b : Bool) → AllByRecursion (IsUp store) (filter keep workers) → AllByRecursion (IsUp store) (cond b (w ∷ filter keep workers) (filter keep workers))
    by true rest = (up.0, rest)
    by false rest = rest

-- The workers of a fleet that stands have different numbers.
pub numbers_differ : (workers : List WorkerParts) → Pairs (λ (v w : LiveWorker). v.number ≢ w.number) (map live_of workers) → Pairs (λ (v w : WorkerParts). v.number ≢ w.number) workers
numbers_differ [] pairs = tt
numbers_differ (w ∷ workers) pairs = (each workers pairs.0, numbers_differ workers pairs.1)
  where
    each : (others : List WorkerParts) → AllByRecursion (λ (v : LiveWorker). w.number ≢ v.number) (map live_of others) → AllByRecursion (λ (v : WorkerParts). w.number ≢ v.number) others
    each [] all = tt
    each (v ∷ others) all = (all.0, each others all.1)

in_image : (w : WorkerParts) (workers : List WorkerParts) → IsIn w workers → IsIn (live_of w) (map live_of workers)
in_image w [] there = absurd there
in_image w (v ∷ workers) (inl same) = inl (ap live_of same)
in_image w (v ∷ workers) (inr there) = inr (in_image w workers there)

-- The live worker with a number: its number, that it is up, and that it may make a step.
pub record IsFound (merge : Operator) (fleet : FleetParts) (n : ℕ) (w : WorkerParts) : Type 0 where
  pub number : n ≡ w.number
  pub runs : w.stopped ≡ false
  pub may : MayWork merge fleet.store.world w

-- A worker that is found among the live ones has the number, is not stopped, and may make a step.
pub is_found : (merge : Operator) (fleet : FleetParts) (n : ℕ) (w : WorkerParts) → Stands merge fleet → find (λ w. n == w.number) fleet.workers ≡ Some w → IsFound merge fleet n w
is_found merge fleet n w stands e =
    let f = found (λ (w : WorkerParts). n == w.number) fleet.workers w e in
    let up = all_at (IsUp fleet.store.world.store) fleet.workers w stands.up f.there in
    record {
      number = (Decides-eqb n w.number).0 f.passes;
      runs = up.runs;
      may = record {
        keeps = stands.keeps.store;
        holds = all_at (WorkerHolds merge fleet.store.world) (map live_of fleet.workers) (live_of w) stands.keeps.workers (in_image w fleet.workers f.there);
        noted = up.noted;
      };
    }
