-- What is so when a poll has got both objects and drawn its ids.
use Rattle.std.proofs.Common.{◌≡◌, ◌≢◌, refl, sym, ◌∙◌, ap, subst, ℕ, ◌<◌, ◌≤◌, List, [], ◌∷◌, Bool, true, false, inl, inr, Option, Some, None, arith}
use Rattle.std.specs.Prelude.{IsTrue, if◌then◌else◌, filter}
use Rattle.std.specs.List.{AllByRecursion}
use Rattle.row_model.specs.Fold.{IsLawful}
use Rattle.row_model.specs.Lists.{Pairs}
use Rattle.fleet_model.specs.Exchanges.{Plain}
use Rattle.fleet_model.specs.History.{Coordinator, GetManifest, GetRecords}
use Rattle.fleet_model.specs.Jobs.{Compacted, Job, JobSpec, contains, has_status, ids, job_with}
use Rattle.fleet_model.specs.Past.Replay.{named_specs}
use Rattle.fleet_model.specs.Store.{Records, jobs_in, records_epoch}
use Rattle.fleet_model.specs.Trees.{job_of}
use Rattle.fleet_model.specs.Work.PollStates.{PollInput, PollState, poll_begun}
use Rattle.fleet_model.specs.Work.Polls.{free_stale}
use Rattle.fleet_model.specs.Work.Records.{firsts, with_new}
use Rattle.step_model.specs.Entries.{did_put_epoch, was_named}
use Rattle.step_model.specs.Fits.{CoordinatorHolds}
use Rattle.step_model.specs.Kept.Keeps.{Keeps}
use Rattle.step_model.specs.Past.{World}
use Rattle.step_model.specs.Rivals.{Caller, Rivals, after_call}
use Rattle.step_model.specs.Steps.PollSteps.{PollAsk, first_steps, input_of, last_steps, records_or_none}
use Rattle.step_laws.specs.Runs.{CallsKeep}
use Rattle.step_laws.proofs.Changed.{found_job}
use Rattle.step_laws.proofs.Elements.{IsIn, all_at, all_from}
use Rattle.step_laws.proofs.Respecs.{named_agree}
use Rattle.rival_laws.proofs.Coordinators.{put_low}
use Rattle.commit_laws.proofs.AllCalls.{calls_keep}
use Rattle.course_laws.proofs.Calls.{done_later}
use Rattle.course_laws.proofs.Later.{later_by}
use Rattle.coordinator_laws.specs.CommitPuts.{Drew, IsMadeBySteps, own_specs, spec_of}
use Rattle.coordinator_laws.specs.PollReports.{state_reached}
use Rattle.coordinator_laws.proofs.CommitPuts.{polls_put_their_steps}
use Rattle.coordinator_laws.proofs.Course.{got_both, kept_first, ready_both, since_first}
use Rattle.coordinator_laws.proofs.Jobs.{From, from_of}
use Rattle.coordinator_laws.proofs.Marks.{did_id, marks_of}
use Rattle.coordinator_laws.proofs.Names.{others_same}
use Rattle.coordinator_laws.proofs.Quiet.{After, HasEpoch, rivals_after}
use Rattle.coordinator_laws.proofs.Reached.{Case}
use Rattle.coordinator_laws.proofs.Since.{Got, Since, case_at}
use Rattle.coordinator_laws.proofs.Stages.{Reached, first_reached, reached_begun, reached_freed}
use Rattle.fleet_poll.specs.Loops.{CommitsStand}
use Rattle.fleet_coordinator.proofs.PollStands.{commits_stand}
use Rattle.fleet_coordinator.proofs.StepJobs.{specs_named, steps_named}

module _ (who : Caller) (e number : ℕ) (old shown found : World) (merges : IsLawful who.merge) (by : who.party ≡ Coordinator number) (kept : Keeps who.merge old)
    (holds : CoordinatorHolds old (record { number = number; epoch = e }) None) (met : Rivals who old shown) (low : shown.store.manifest.epoch ≤ e)
    (met_next : Rivals who (after_call who.line who.party (Plain GetManifest) None shown) found) (records_low : (records_or_none found.store.records).epoch ≤ e) where
  abbrev records : Records
  records = records_or_none found.store.records

  pub keep : CallsKeep who.merge
  keep = calls_keep who.merge merges

  own : HasEpoch who.party e old
  own = record { put = subst (λ party. IsTrue (did_put_epoch party old.store.history e)) (sym by) holds.put; recorded = holds.recorded }

  pub at_shown : After who e old shown
  at_shown = rivals_after who e old shown keep kept own met

  pub since : Since who e shown found
  since = since_first who e shown found keep at_shown.kept at_shown.own met_next

  high : e ≤ shown.store.manifest.epoch
  high = put_low shown.store.manifest.epoch shown.store.history e who.party at_shown.kept.facts.epochs at_shown.own.put

  -- The store has records.
  pub is_found : found.store.records ≡ Some records
  is_found = some found.store.records holds.counted since.own.recorded
    where
      some : (o : Option Records) → 0 < e → e ≤ records_epoch o → o ≡ Some (records_or_none o)
      some None counted recorded = absurd (omega (arith, counted, recorded))
      some (Some r) counted recorded = refl

  pub both : Got who e shown found records
  both = let above = high in got_both who e shown found records at_shown.kept (omega (arith, low, above)) since is_found records_low

  -- Both objects have the coordinator's epoch.
  pub epochs_agree : shown.store.manifest.epoch ≡ records.epoch
  epochs_agree = both.first_epoch ∙ sym both.epoch

  pub kept_shown : Keeps who.merge shown
  kept_shown = both.kept_first

  pub kept_found : Keeps who.merge found
  kept_found = both.kept_second

module _ (who : Caller) (ask : PollAsk) (number : ℕ) (old shown found : World) (merges : IsLawful who.merge) (by : who.party ≡ Coordinator number) (kept : Keeps who.merge old)
    (holds : CoordinatorHolds old (record { number = number; epoch = ask.epoch }) None) (met : Rivals who old shown) (low : shown.store.manifest.epoch ≤ ask.epoch)
    (met_next : Rivals who (after_call who.line who.party (Plain GetManifest) None shown) found) (records_low : (records_or_none found.store.records).epoch ≤ ask.epoch) where
  abbrev records_got : Records
  records_got = records_or_none found.store.records

  both_got : Got who ask.epoch shown found records_got
  both_got = both who ask.epoch number old shown found merges by kept holds met low met_next records_low

  found_there : found.store.records ≡ Some records_got
  found_there = is_found who ask.epoch number old shown found merges by kept holds met low met_next records_low

  abbrev after : World
  after = after_call who.line who.party (Plain GetRecords) None found

  abbrev input : PollInput
  input = input_of ask found.store.tables shown.store.manifest records_got

  -- ---- before the draws

  case : Case who.merge who.party after input records_got.jobs [] shown.store.manifest.trees
  case =
      let stored : records_epoch found.store.records ≡ records_got.epoch = ap records_epoch found_there in
      case_at who ask.epoch shown found after records_got ask [] merges both_got (ready_both who ask.epoch shown found (calls_keep who.merge merges) (since who ask.epoch number old shown found merges by kept holds met low met_next records_low) (kept_first who shown found (calls_keep who.merge merges) both_got.kept_first met_next))
      (record { drawn = tt; fresh = tt; once = tt }) (omega (arith, stored, records_low))

  specs_got : AllByRecursion (λ job. own_specs records_got.jobs [] job.id ≡ job.spec) records_got.jobs
  specs_got = all_from _ records_got.jobs (λ job there. ap spec_of (found_job records_got.jobs job case.rise there))

  -- After step 1 the Compacted jobs may be committed one after the other.
  pub stand : (commits_only : Bool)
      → let p = if commits_only then poll_begun shown.store.manifest.trees shown.store.manifest.horizon records_got.jobs else free_stale input (poll_begun shown.store.manifest.trees shown.store.manifest.horizon records_got.jobs) in
      CommitsStand input (filter (has_status Compacted) p.jobs) p
  stand true = commits_stand case (poll_begun shown.store.manifest.trees shown.store.manifest.horizon records_got.jobs) (reached_begun case specs_got) refl
  stand false = commits_stand case (free_stale input (poll_begun shown.store.manifest.trees shown.store.manifest.horizon records_got.jobs)) (reached_freed case specs_got) refl

  -- The jobs that were got were named by then.
  pub named_got : AllByRecursion (λ job. IsTrue (was_named after.store.history job.id)) records_got.jobs
  named_got = all_from _ records_got.jobs (λ job there. done_later (λ event. contains (firsts (named_specs event)) job.id) found after (later_by who.line who.party (Plain GetRecords) None found)
      (all_at (λ (j : Job). IsTrue (was_named found.store.history j.id)) records_got.jobs job (subst (λ o. AllByRecursion (λ (j : Job). IsTrue (was_named found.store.history j.id)) (jobs_in o)) found_there both_got.kept_second.facts.names.named) there))

  -- So were those of the first steps.
  pub named_first : AllByRecursion (λ job. IsTrue (was_named after.store.history job.id)) (first_steps ask input).jobs
  named_first = all_from _ (first_steps ask input).jobs (λ job there. by_base job (from_of records_got.jobs (first_steps ask input) first.0.jobs job there))
    where
      first : Reached who.party after input records_got.jobs [] (own_specs records_got.jobs []) shown.store.manifest.trees shown.store.manifest.horizon (first_steps ask input) × (((first_steps ask input).opened ≡ []) × ((first_steps ask input).added ≡ []))
      first = first_reached ask case specs_got

      by_base : (job : Job) → From records_got.jobs (first_steps ask input) first.0.jobs.tables job → IsTrue (was_named after.store.history job.id)
      by_base job f =
          subst (λ n. IsTrue (was_named after.store.history n)) (sym (did_id (marks_of (first_steps ask input) first.0.jobs.tables) f.base) ∙ ap (λ (j : Job). j.id) f.is)
          (all_at (λ (j : Job). IsTrue (was_named after.store.history j.id)) records_got.jobs f.base named_got (subst (λ added. IsIn f.base (with_new added records_got.jobs)) first.1.1 f.there))

  -- ---- after the draws

  module _ (drawn : List (ℕ × JobSpec)) where
    abbrev reached : PollState
    reached = last_steps ask input drawn (first_steps ask input)

    -- Over each store that the poll may meet and that still has the version of the manifest, what it reached is what its steps make.
    pub made_at : (at : World) → Drew who ask.moment drawn after at → shown.store.manifest.version ≡ at.store.manifest.version → IsMadeBySteps who at (own_specs records_got.jobs drawn) reached
    made_at at drew version =
        subst (λ r. IsMadeBySteps who at (own_specs records_got.jobs drawn) (state_reached ask (input_of ask found.store.tables shown.store.manifest (records_or_none r)) drawn)) found_there
        (polls_put_their_steps who number ask None drawn old shown found at merges by
        (record { kept = kept; holds = holds; met = met; epoch = low; met_next = met_next; got = records_got; is_got = found_there; got_epoch = records_low; drew = drew }) version)

    module _ (once : Pairs (λ p q. p.0 ≢ q.0) drawn) (new : (q : ℕ × JobSpec) (job : Job) → IsIn q drawn → IsIn job records_got.jobs → q.0 ≡ job.id → ⊥) where
      drawn_specs : AllByRecursion (λ (q : ℕ × JobSpec). own_specs records_got.jobs drawn q.0 ≡ q.1) drawn
      drawn_specs = named_agree drawn (λ id. spec_of (job_with id records_got.jobs)) once

      got_specs : AllByRecursion (λ (job : Job). own_specs records_got.jobs drawn job.id ≡ job.spec) records_got.jobs
      got_specs = all_from _ records_got.jobs (λ job there. others_same drawn (λ id. spec_of (job_with id records_got.jobs)) job.id (λ one. differs job there drawn (λ q here. new q job here there) one) ∙ ap spec_of (found_job records_got.jobs job case.rise there))
        where
          differs : (job : Job) → IsIn job records_got.jobs → (xs : List (ℕ × JobSpec)) → ((q : ℕ × JobSpec) → IsIn q xs → q.0 ≡ job.id → ⊥) → IsIn job.id (firsts xs) → ⊥
          differs job there [] h one = one
          differs job there (x ∷ xs) h (inl same) = h x (inl refl) same
          differs job there (x ∷ xs) h (inr one) = differs job there xs (λ q here. h q (inr here)) one

      -- Each step is for a job that was reached, and each of these has its spec.
      pub steps_are_for_jobs : AllByRecursion (λ step. IsIn (job_of step) (ids reached.jobs)) reached.steps
      steps_are_for_jobs = steps_named (own_specs records_got.jobs drawn) ask input got_specs drawn drawn_specs

      pub jobs_have_specs : AllByRecursion (λ job. own_specs records_got.jobs drawn job.id ≡ job.spec) reached.jobs
      jobs_have_specs = specs_named (own_specs records_got.jobs drawn) ask input got_specs drawn drawn_specs
