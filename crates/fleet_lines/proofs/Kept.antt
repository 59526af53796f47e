-- What the runs of lines keep: the invariant of the store, and that each live party fits it.
use Rattle.std.proofs.Common.{refl, ℕ, None}
use Rattle.row_model.specs.Fold.{Operator, IsLawful}
use Rattle.fleet_model.specs.History.{Writer, Submitter, Worker, Coordinator}
use Rattle.fleet_model.specs.Work.Parties.{Parties, LiveWorker, without_worker, with_worker, without_coordinator, with_coordinator}
use Rattle.step_model.specs.Past.{World}
use Rattle.step_model.specs.Fits.{WorkerHolds, CoordinatorHolds}
use Rattle.step_model.specs.Courses.Course.{Course}
use Rattle.step_model.specs.Courses.CourseRuns.{End, Runs, IsLawfulCourse}
use Rattle.course_laws.proofs.Sweeps.{NonePending}
use Rattle.line_laws.specs.States.{FleetKeeps}
use Rattle.line_laws.proofs.Lines.{caller_of, Left, leaves, all_stay, worker_gone, worker_stays, coordinator_gone, coordinator_comes}
use Rattle.line_laws.proofs.Steps.{none_comes}

-- ---- a party without a number

-- A step of the submitter leaves all live parties as they are.
pub submitter_keeps : {A : Type 0} (merge : Operator) (number : ℕ) (old new : World) (parties : Parties) (step : Course A) (end : End A) → IsLawful merge → FleetKeeps merge old parties → IsLawfulCourse (caller_of merge number Submitter) old step
    → Runs (caller_of merge number Submitter) step old new end → FleetKeeps merge new parties
submitter_keeps merge number old new parties step end lawful fleet is run =
    let who = caller_of merge number Submitter in
    all_stay merge number Submitter old new parties (λ w same. absurd (cc same)) fleet
    (leaves who step parties old new end lawful refl fleet is tt run) (none_comes who step old new end lawful refl refl fleet.store is fleet.none_pending run)

-- A flush does, if none of its tables is still to be brought to a tree.
pub writer_keeps : {A : Type 0} (merge : Operator) (number : ℕ) (old new : World) (parties : Parties) (step : Course A) (end : End A) → IsLawful merge → FleetKeeps merge old parties → IsLawfulCourse (caller_of merge number Writer) old step
    → Runs (caller_of merge number Writer) step old new end → NonePending new.store → FleetKeeps merge new parties
writer_keeps merge number old new parties step end lawful fleet is run none =
    all_stay merge number Writer old new parties (λ w same. absurd (cc same)) fleet (leaves (caller_of merge number Writer) step parties old new end lawful refl fleet is tt run) none

-- ---- workers

module _ {A : Type 0} (merge : Operator) (number n : ℕ) (old new : World) (parties : Parties) (course : Course A) (end : End A) (lawful : IsLawful merge) (fleet : FleetKeeps merge old parties)
    (is : IsLawfulCourse (caller_of merge number (Worker n)) old course) (run : Runs (caller_of merge number (Worker n)) course old new end) where
  worker_left : Left (caller_of merge number (Worker n)) parties new
  worker_left = leaves (caller_of merge number (Worker n)) course parties old new end lawful refl fleet is tt run

  worker_quiet : NonePending new.store
  worker_quiet = none_comes (caller_of merge number (Worker n)) course old new end lawful refl refl fleet.store is fleet.none_pending run

  -- After the calls of a worker that is no longer live.
  pub worker_goes : FleetKeeps merge new (without_worker n parties)
  worker_goes = worker_gone merge number n old new parties fleet worker_left worker_quiet

-- After the calls of a worker that is live and fits.
pub worker_goes_on : {A : Type 0} (merge : Operator) (number : ℕ) (w : LiveWorker) (old new : World) (parties : Parties) (course : Course A) (end : End A) → IsLawful merge → FleetKeeps merge old parties
    → IsLawfulCourse (caller_of merge number (Worker w.number)) old course → Runs (caller_of merge number (Worker w.number)) course old new end → WorkerHolds merge new w → FleetKeeps merge new (with_worker w parties)
worker_goes_on merge number w old new parties course end lawful fleet is run holds =
    worker_stays merge number old new parties w fleet (worker_left merge number w.number old new parties course end lawful fleet is run) (worker_quiet merge number w.number old new parties course end lawful fleet is run) holds

-- ---- coordinators

module _ {A : Type 0} (merge : Operator) (number n : ℕ) (old new : World) (parties : Parties) (course : Course A) (end : End A) (lawful : IsLawful merge) (fleet : FleetKeeps merge old parties)
    (is : IsLawfulCourse (caller_of merge number (Coordinator n)) old course) (run : Runs (caller_of merge number (Coordinator n)) course old new end) where
  coordinator_left : Left (caller_of merge number (Coordinator n)) parties new
  coordinator_left = leaves (caller_of merge number (Coordinator n)) course parties old new end lawful refl fleet is tt run

  coordinator_quiet : NonePending new.store
  coordinator_quiet = none_comes (caller_of merge number (Coordinator n)) course old new end lawful refl refl fleet.store is fleet.none_pending run

  -- After the calls of a coordinator that is no longer live.
  pub coordinator_goes : FleetKeeps merge new (without_coordinator n parties)
  coordinator_goes = coordinator_gone merge number n old new parties fleet coordinator_left coordinator_quiet

  -- After the calls of a coordinator that is live and fits.
  pub coordinator_goes_on : (epoch : ℕ) → CoordinatorHolds new (record { number = n; epoch = epoch }) None → FleetKeeps merge new (with_coordinator (record { number = n; epoch = epoch }) parties)
  coordinator_goes_on epoch holds = coordinator_comes merge number old new parties (record { number = n; epoch = epoch }) fleet coordinator_left coordinator_quiet holds

  -- After the calls of a coordinator that was live and is so still.
  pub coordinator_stays : FleetKeeps merge new parties
  coordinator_stays = all_stay merge number (Coordinator n) old new parties (λ w same. absurd (cc same)) fleet coordinator_left coordinator_quiet
