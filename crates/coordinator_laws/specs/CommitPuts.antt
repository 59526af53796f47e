-- The law on what a poll puts into the manifest.
use Rattle.std.specs.Prelude.{◌≡◌, ℕ, ◌≤◌, List, [], ◌∷◌, Option, Some, None}
use Rattle.std.specs.List.{AllByRecursion}
use Rattle.row_model.specs.Fold.{IsLawful}
use Rattle.fleet_model.specs.Jobs.{JobSpec, Job, Jobs, job_with}
use Rattle.fleet_model.specs.History.{Coordinator, GetManifest, GetRecords}
use Rattle.fleet_model.specs.Store.{Records, stored_jobs}
use Rattle.fleet_model.specs.Trees.{job_of, horizon_after_all}
use Rattle.fleet_model.specs.Work.PollStates.{PollState}
use Rattle.fleet_model.specs.Exchanges.{Plain, DrawsJob, next_job_id}
use Rattle.step_model.specs.Past.{World}
use Rattle.step_model.specs.Kept.Faithful.{with_specs}
use Rattle.step_model.specs.LawfulManifests.{IsKnownTo, cut_of}
use Rattle.step_model.specs.LawfulTables.{DrawFits}
use Rattle.step_model.specs.Steps.Merging.{Local}
use Rattle.step_model.specs.Rivals.{Caller, Rivals, after_call}
use Rattle.step_model.specs.Kept.Keeps.{Keeps}
use Rattle.step_model.specs.Fits.{CoordinatorHolds}
use Rattle.step_model.specs.Steps.PollSteps.{PollAsk}
use Rattle.commit_laws.specs.After.{trees_after}
use Rattle.coordinator_laws.specs.PollReports.{input_got, state_reached}

-- ---- the specs that a poll knows

-- The spec of a job, or a drain of nothing if there is no such job.
abbrev pub spec_of : Option Job → JobSpec
spec_of None = record { segment = []; sources = []; destination = None }
spec_of (Some job) = job.spec

-- The specs of the jobs that the poll got, and of those that it drew ids for.
abbrev pub own_specs : Jobs → (drawn : List (ℕ × JobSpec)) → (id : ℕ) → JobSpec
own_specs jobs drawn = with_specs drawn (λ id. spec_of (job_with id jobs))

-- ---- how a poll comes to its put

-- A party drew these ids with this moment, one after the other. Others may call before each draw and
-- after the last one.
abbrev pub Drew : {B : Type 0} → Caller → (moment : ℕ) → List (ℕ × B) → (old new : World) → Type 0
Drew who moment [] old new = Rivals who old new
Drew who moment (d ∷ drawn) old new =
    (met : World) × (Rivals who old met × (DrawFits met.store × ((d.0 ≡ next_job_id moment met.store)
    × Drew who moment drawn (after_call who.line who.party (DrawsJob moment) None met) new)))

-- A poll of a coordinator that fits got the manifest of `shown` and then the records of `found`. Neither
-- has a later epoch. It then drew these ids.
pub record HasDrawn (who : Caller) (number : ℕ) (ask : PollAsk) (local : Option Local)
    (drawn : List (ℕ × JobSpec)) (old shown found new : World) : Type 0 where
  pub kept : Keeps who.merge old
  pub holds : CoordinatorHolds old (record { number = number; epoch = ask.epoch }) local
  pub met : Rivals who old shown
  pub epoch : shown.store.manifest.epoch ≤ ask.epoch
  pub met_next : Rivals who (after_call who.line who.party (Plain GetManifest) None shown) found
  pub got : Records
  pub is_got : found.store.records ≡ Some got
  pub got_epoch : got.epoch ≤ ask.epoch
  pub drew : Drew who ask.moment drawn (after_call who.line who.party (Plain GetRecords) None found) new

-- ---- the law

-- What the poll reached is what its steps make over this store, by these specs and by the outputs and
-- the cuts that the stored records name.
pub record IsMadeBySteps (who : Caller) (at : World) (specs : ℕ → JobSpec) (p : PollState) : Type 0 where
  pub trees : p.trees ≡ trees_after at specs p.steps
  pub horizon : p.horizon ≡ horizon_after_all at.store.manifest.floor
      (λ id. cut_of (job_with id (stored_jobs at.store))) p.steps at.store.manifest.horizon
  pub known : AllByRecursion (λ step. IsKnownTo who.party at specs (job_of step)) p.steps

-- Under a lawful operator, the trees and the horizon that a poll reached are those that its steps make
-- over each store that it may meet and that still has the version of the manifest that it got.
abbrev pub PollsPutTheirSteps : Type 0
PollsPutTheirSteps = (who : Caller) (number : ℕ) (ask : PollAsk) (local : Option Local)
    (drawn : List (ℕ × JobSpec)) (old shown found at : World)
    → IsLawful who.merge → who.party ≡ Coordinator number
    → (h : HasDrawn who number ask local drawn old shown found at)
    → shown.store.manifest.version ≡ at.store.manifest.version
    → IsMadeBySteps who at (own_specs h.got.jobs drawn)
    (state_reached ask (input_got ask shown.store found.store) drawn)
