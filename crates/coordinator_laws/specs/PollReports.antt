-- The law on what a poll did that reports, over any store.
use Rattle.std.specs.Prelude.{◌≡◌, ℕ, false, IsTrue, List, [], ◌∷◌, ◌++◌, map, Option, Some, None}
use Rattle.std.specs.List.{AllByRecursion, concat}
use Rattle.row_model.specs.Fold.{Operator, IsLawful}
use Rattle.fleet_model.specs.Nodes.{Trees}
use Rattle.fleet_model.specs.Jobs.{JobSpec, Job, Jobs, job_with, trimmed_jobs}
use Rattle.fleet_model.specs.History.{Coordinator, GetManifest, Join, Polled}
use Rattle.fleet_model.specs.Work.Records.{Unrecorded, jobs_after}
use Rattle.fleet_model.specs.Store.{Records, Store, stored_jobs}
use Rattle.fleet_model.specs.Trees.{stepped_in}
use Rattle.fleet_model.specs.Invariants.JobsFit.{was_joined}
use Rattle.fleet_model.specs.Work.PollStates.{PollInput, PollState}
use Rattle.fleet_model.specs.Work.Polls.{change_of, is_nothing}
use Rattle.fleet_model.specs.Exchanges.{Exchange, Plain, PutsRecords}
use Rattle.step_model.specs.Past.{World}
use Rattle.step_model.specs.Entries.{drew_job}
use Rattle.step_model.specs.Steps.Merging.{Local}
use Rattle.step_model.specs.LawfulManifests.{CommitFits}
use Rattle.step_model.specs.Rivals.{Caller, Rivals, after_call}
use Rattle.step_model.specs.Kept.Keeps.{Keeps}
use Rattle.step_model.specs.Fits.{CoordinatorHolds}
use Rattle.step_model.specs.Courses.CourseRuns.{Gives, Runs}
use Rattle.step_model.specs.Courses.StepEnds.{Reports}
use Rattle.step_model.specs.Steps.PollSteps.{PollAsk, poll, input_of, records_or_none, first_steps, proposed_specs, last_steps, is_unchanged, merged_into}
use Rattle.course_laws.specs.Afterwards.{ComesAfter}
use Rattle.commit_laws.specs.After.{trees_after}
use Rattle.commit_laws.specs.StepForms.{JoinReplaces}
use Rattle.coordinator_laws.specs.PollSays.{PollSays}

-- The input of a poll that got the manifest of one store and the records of another.
abbrev pub input_got : PollAsk → (shown got : Store) → PollInput
input_got ask shown got = input_of ask got.tables shown.manifest (records_or_none got.records)

-- The state that a poll reaches by this input, if these ids were drawn for its proposals.
abbrev pub state_reached : PollAsk → PollInput → List (ℕ × JobSpec) → PollState
state_reached ask input drawn = last_steps ask input drawn (first_steps ask input)

-- ---- the commit

-- The commit of a finished job over these trees. The first join of the job puts one run of the job's rows
-- in place of its sources, and all other nodes stay. A later join changes no tree.
pub record JoinDone (merge : Operator) (at : World) (trees : Trees) (id : ℕ) : Type 0 where
  pub job : Job
  pub stored : job_with id (stored_jobs at.store) ≡ Some job
  pub first_time : was_joined at.store.history id ≡ false → JoinReplaces merge at trees job
  pub again : IsTrue (was_joined at.store.history id)
      → stepped_in at.store.tables (Join id) job.spec (concat job.outputs) trees ≡ trees

-- A poll put one commit. The manifest that it had got was still stored. The trees are those after all steps
-- of the poll, and each committed job was joined over the trees that the joins before it left.
pub record CommitDone (who : Caller) (shown : World) (p : PollState) : Type 0 where
  pub at : World
  pub after : ComesAfter shown at
  pub kept : Keeps who.merge at
  pub same : at.store.manifest ≡ shown.store.manifest
  pub fits : CommitFits who.party at p.steps (record shown.store.manifest { trees = p.trees; horizon = p.horizon })
  pub trees : p.trees ≡ trees_after at fits.specs p.steps
  pub joins : (first : List ℕ) (id : ℕ) (rest : List ℕ) → first ++ id ∷ rest ≡ p.done
      → JoinDone who.merge at (trees_after at fits.specs (map Join first)) id

-- ---- the put of the records

-- The state of a poll after it merged these newer jobs, one after the other.
abbrev pub merged_with : PollState → List Jobs → PollState
merged_with p [] = p
merged_with p (jobs ∷ newer) = merged_with (merged_into p jobs) newer

-- The put of the records by which a poll ends, over the records that it got last.
abbrev pub polled_put : PollState → Records → Exchange
polled_put p got = PutsRecords got.version (Polled (change_of p)) got.epoch (trimmed_jobs p.jobs)

-- The last call of the poll put the jobs that its change makes of the stored ones.
pub record JobsPut (who : Caller) (new : World) (p : PollState) : Type 0 where
  pub at : World
  pub got : Records
  pub stored : at.store.records ≡ Some got
  pub last : new ≡ after_call who.line who.party (polled_put p got) None at
  pub unrecorded : Unrecorded
  pub made : trimmed_jobs p.jobs ≡ jobs_after unrecorded (Polled (change_of p)) got.jobs

-- ---- the poll

-- What a poll reports is what it reached, but for the jobs and the freed ones.
pub record IsKept (reached p : PollState) : Type 0 where
  pub trees : p.trees ≡ reached.trees
  pub horizon : p.horizon ≡ reached.horizon
  pub steps : p.steps ≡ reached.steps
  pub done : p.done ≡ reached.done
  pub lost : p.lost ≡ reached.lost
  pub added : p.added ≡ reached.added
  pub dropped : p.dropped ≡ reached.dropped
  pub opened : p.opened ≡ reached.opened
  pub moved : p.moved ≡ reached.moved
  pub drained : p.drained ≡ reached.drained
  pub refused : p.refused ≡ reached.refused

-- The jobs that a poll freed, given the newer jobs that it merged. If it merged any, it frees none.
abbrev pub freed_by : List ℕ → List Jobs → List ℕ
freed_by freed [] = freed
freed_by freed (jobs ∷ newer) = []

-- A poll that reports got a manifest and then records. It drew an id for each proposal of the scheduler, up
-- to its capacity, and reached a state by what it got. If this changed the trees or the horizon, the poll put
-- one commit. After each refused put of the records it merged newer jobs, which changes the jobs and frees
-- none. If its change names a job, its last call put the records.
pub record PollDid (who : Caller) (ask : PollAsk) (old new : World) (p : PollState) : Type 0 where
  pub shown : World
  pub after : ComesAfter old shown
  pub found : World
  pub others : Rivals who (after_call who.line who.party (Plain GetManifest) None shown) found
  pub drawn : List (ℕ × JobSpec)
  pub proposed : map (λ d. d.1) drawn
      ≡ proposed_specs ask (input_got ask shown.store found.store)
      (first_steps ask (input_got ask shown.store found.store))
  pub drew : AllByRecursion (λ d. IsTrue (drew_job who.party new.store.history d.0)) drawn
  pub reached : PollState
  pub is : reached ≡ state_reached ask (input_got ask shown.store found.store) drawn
  pub says : PollSays ask.commits_only (input_got ask shown.store found.store) drawn reached
  pub commits : is_unchanged shown.store.manifest reached ≡ false → CommitDone who shown reached
  pub newer : List Jobs
  pub merged : p ≡ merged_with reached newer
  pub keeps : IsKept reached p
  pub frees : p.freed ≡ freed_by reached.freed newer
  pub puts : is_nothing (change_of p) ≡ false → JobsPut who new p

-- A poll of a coordinator that fits did so if it reports, under a lawful operator.
abbrev pub PollsReport : Type 0
PollsReport = (who : Caller) (old new : World) (number : ℕ) (ask : PollAsk) (local : Option Local) (p : PollState)
    → IsLawful who.merge → who.party ≡ Coordinator number → Keeps who.merge old
    → CoordinatorHolds old (record { number = number; epoch = ask.epoch }) local
    → Runs who (poll ask) old new (Gives (Reports p))
    → PollDid who ask old new p
