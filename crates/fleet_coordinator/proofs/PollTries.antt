-- The turns of a try of a poll.
use Rattle.std.proofs.Common.{◌≡◌, ◌∙◌, subst, ℕ, List, length, map, Result, Ok, Err}
use Rattle.std.specs.Prelude.{◌<◌, ◌≤◌, ◌⊎◌, IfErr, IfOk, IsOkUnless}
use Rattle.std.specs.List.{zip}
use Rattle.fleet_model.specs.Jobs.{JobSpec}
use Rattle.fleet_model.specs.Work.PollStates.{PollState}
use Rattle.step_model.specs.Courses.Course.{Course, Ends, draws_jobs}
use Rattle.step_model.specs.Courses.StepEnds.{StepEnd, GivesUp, Reports}
use Rattle.step_model.specs.Views.{StoreView}
use Rattle.fleet_rows.specs.declared.errors.SlateDBError.{SlateDBError}
use Rattle.fleet_rows.specs.declared.errors.SlateDBError.TheVariants as error
use Rattle.fleet_jobs.specs.Specs.{spec_of}
use Rattle.fleet_jobs.specs.declared.spec.CompactionSpec.{CompactionSpec}
use Rattle.fleet_store.specs.Asks.{DrawsJobId}
use Rattle.fleet_step.specs.Draws.{Drew, DrewUntil}
use Rattle.fleet_step.specs.Steps.{Leads}
use Rattle.fleet_step.proofs.Draws.{drew_fails, drew_leads}
use Rattle.fleet_step.proofs.Steps.{begins, then_leads, then_ran}
use Rattle.fleet_poll.specs.Polls.{poll_of}
use Rattle.fleet_coordinator.specs.Polling.{Fails, NamesDrawn, TriesPoll}
use Rattle.fleet_coordinator.specs.declared.polling.Tried.{Tried}
use Rattle.fleet_coordinator.specs.declared.polling.Tried.TheVariants.{Done, Refused}
use Rattle.fleet_coordinator.proofs.PollGets.{over_fails, then_fails}
use Rattle.fleet_coordinator.proofs.RecordPuts.{ends_so}
use Rattle.fleet_coordinator.proofs.Submits.{many_specs}

-- A try that came so far ends as the rest of it does.
pub then_tries : {course rest : Course (StepEnd PollState)} {old mid : StoreView} → Leads course old rest mid → (again : ℕ → Course (StepEnd PollState)) (new : StoreView) (result : Result Tried SlateDBError)
    → TriesPoll rest again mid new result → TriesPoll course again old new result
then_tries lead again new (Ok (Done poll)) has = record { flushes = has.flushes; ran = then_ran (λ poll. Reports (poll_of has.flushes poll)) lead has.ran }
then_tries lead again new (Ok (Refused seen)) refused = then_leads lead refused
then_tries lead again new (Err e) ran = then_fails lead e ran

-- ---- draws

module _ (moment : ℕ) (specs : List CompactionSpec) (old new : StoreView) where
  -- Fewer ids were drawn, and the poll ends.
  pub draws_fail : (count : ℕ) (e : SlateDBError) → count ≡ length specs → DrewUntil moment count old new e → (next : List (ℕ × JobSpec) → Course (StepEnd PollState)) → Fails (draws_jobs moment (map spec_of specs) next) old new e
  draws_fail count e many until next =
      let few = until.few in
      let same : count ≡ length (map spec_of specs) = many ∙ many_specs specs in
      ends_so Reports (begins (draws_jobs moment (map spec_of specs) next) old) e
      (drew_fails moment {A = PollState} Reports (λ seen. Ends (GivesUp seen)) (map spec_of specs) e until.ids old until.mid new until.drew (subst (λ n. length until.ids ≤ n) same few)
      (subst (λ n. ((length until.ids < n) × DrawsJobId until.mid new moment (Err e)) ⊎ ((e ≡ error.Memory) × (new ≡ until.mid))) same until.stopped) next)

  module _ (ids : List ℕ) (many : length ids ≡ length specs) (drew : Drew moment ids old new) where
    -- All ids were drawn. The poll then fails only if memory runs out.
    pub draws_end : {A : Type 0} (next : List (ℕ × JobSpec) → Course (StepEnd PollState)) (result : Result A SlateDBError) → IsOkUnless result error.Memory → IfErr result (λ e. Fails (draws_jobs moment (map spec_of specs) next) old new e)
    draws_end next result memory = over_fails (drew_leads moment (map spec_of specs) ids old new (many ∙ many_specs specs) drew next) result memory

    -- The ids are named after the specs.
    pub drawn_named : {V : Type 0} (items : V → List (ℕ × CompactionSpec)) (result : Result V SlateDBError) → IfOk result (λ v. items v ≡ zip ids specs) → IfOk result (λ v. NamesDrawn moment specs old new (items v))
    drawn_named items (Ok v) are = record { ids = ids; many = many; drew = drew; are = are }
    drawn_named items (Err e) are = tt
