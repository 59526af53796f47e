-- What the gates say on a view of a state.
use Rattle.std.proofs.Common.{◌≡◌, sym, ◌∙◌, ap, ℕ, List, ◌++◌, map, Option, Some}
use Rattle.std.specs.Prelude.{filter, flat_map, IfOk, Ok, Err, Result}
use Rattle.fleet_model.specs.Jobs.{Job, Jobs}
use Rattle.fleet_model.specs.Work.Gates.{commit_gate, submit_gate}
use Rattle.fleet_model.specs.Work.Scheduler.{Scheduler, View}
use Rattle.fleet_rows.specs.declared.errors.SlateDBError.{SlateDBError}
use Rattle.fleet_tree.specs.Handles.{handle_of}
use Rattle.fleet_tree.specs.Manifests.{manifest_of}
use Rattle.fleet_tree.specs.Trees.{RunFlushes, trees_of, trees_with_prefix}
use Rattle.fleet_tree.specs.declared.manifest.VersionedManifest.{VersionedManifest}
use Rattle.fleet_jobs.specs.Jobs.{is_open, job_handles, job_of, jobs_of}
use Rattle.fleet_jobs.specs.Parts.JobParts.{JobParts}
use Rattle.fleet_book.specs.Records.{AreRising}
use Rattle.fleet_book.specs.Shown.{ShowedRecords, Shows}
use Rattle.fleet_book.specs.StateParts.{StateParts}
use Rattle.fleet_book.specs.States.{own_jobs}
use Rattle.fleet_book.specs.VersionedRecords.{VersionedRecords}
use Rattle.fleet_book.specs.Versions.{with_jobs}
use Rattle.fleet_book.specs.declared.view.CompactorStateView.{CompactorStateView}
use Rattle.fleet_book.proofs.Shown.{open_again, shows_all}
use Rattle.fleet_sched.specs.Views.{tree_handles, view_of}
use Rattle.fleet_gates.specs.Rules.{rule_number}
use Rattle.fleet_gates.specs.Shown.{accepted_on, shown_trees}
use Rattle.fleet_gates.specs.declared.rule.Rule.{Rule}
use Rattle.fleet_poll.specs.Loops.{OthersStay}
use Rattle.fleet_poll.specs.Made.{own_core}
use Rattle.fleet_poll.specs.Shown.{commit_rule, open_view}
use Rattle.fleet_poll.proofs.Alike.{made_view}

-- A view that was just made shows its state.
pub shows_at_first : (state : StateParts) (view : CompactorStateView) → view.manifest ≡ state.manifest → view.compactions ≡ Some (with_jobs (filter is_open (own_jobs state)) state.compactions) → Shows view state
shows_at_first state view manifest jobs = record { manifest = manifest; records = shows_all view.compactions state.compactions jobs }

-- After a step for one job, the view showed the other jobs.
pub showed_before : (id : ℕ) (view : CompactorStateView) (before now : StateParts) → AreRising (own_jobs before) → Shows view before → OthersStay id before now → ShowedRecords id view.compactions now.compactions
showed_before id view before now rising shows others = record { before = before.compactions; rising = rising; shows = shows.records; others = others }

-- ---- a scheduler sees what the state's own view has

abbrev view_with : VersionedManifest → Option VersionedRecords → CompactorStateView
view_with manifest compactions = record { manifest = manifest; compactions = compactions }

module _ (flushes : RunFlushes) (view : CompactorStateView) (state : StateParts) (shows : Shows view state) where
  -- What a scheduler sees if these jobs are not over.
  abbrev seen_with : List JobParts → View
  seen_with jobs = made_view (manifest_of flushes state.manifest.id state.manifest.manifest.compactor_epoch (own_core state)) state.compactions.id state.compactions.compactions.compactor_epoch (jobs_of jobs)
      (map handle_of (flat_map (λ s. tree_handles s.1) (trees_with_prefix (own_core state)) ++ flat_map job_handles jobs))

  viewed_alike : view_of flushes view ≡ view_of flushes (open_view state)
  viewed_alike =
      ap (λ m. view_of flushes (view_with m view.compactions)) shows.manifest
      ∙ ap (λ c. view_of flushes (view_with state.manifest c)) shows.records.is
      ∙ ap seen_with (shows.records.still_open ∙ sym (open_again (own_jobs state)))

  trees_alike : shown_trees flushes view ≡ trees_of flushes (own_core state)
  trees_alike = ap (λ (m : VersionedManifest). trees_of flushes m.manifest.core) shows.manifest

  module _ (s : Scheduler) where
    submit_alike : (jobs : Jobs) (lost : List ℕ) (job : Job) → submit_gate (shown_trees flushes view) jobs lost (accepted_on flushes view s) job ≡ submit_gate (trees_of flushes (own_core state)) jobs lost (accepted_on flushes (open_view state) s) job
    submit_alike jobs lost job =
        ap (λ trees. submit_gate trees jobs lost (accepted_on flushes view s) job) trees_alike
        ∙ ap (λ v. submit_gate (trees_of flushes (own_core state)) jobs lost (λ spec. s.validate v spec) job) viewed_alike

    commit_alike : (job : Job) → commit_gate (shown_trees flushes view) (accepted_on flushes view s) job ≡ commit_gate (trees_of flushes (own_core state)) (accepted_on flushes (open_view state) s) job
    commit_alike job =
        ap (λ trees. commit_gate trees (accepted_on flushes view s) job) trees_alike
        ∙ ap (λ v. commit_gate (trees_of flushes (own_core state)) (λ spec. s.validate v spec) job) viewed_alike

    -- ---- what the gates say

    pub submit_said : (jobs : Jobs) (lost : List ℕ) (job : JobParts) (r : Result (Option Rule) SlateDBError) → IfOk r (λ failed. rule_number failed ≡ submit_gate (shown_trees flushes view) jobs lost (accepted_on flushes view s) (job_of job))
        → IfOk r (λ failed. rule_number failed ≡ submit_gate (trees_of flushes (own_core state)) jobs lost (accepted_on flushes (open_view state) s) (job_of job))
    submit_said jobs lost job (Ok failed) said = said ∙ submit_alike jobs lost (job_of job)
    submit_said jobs lost job (Err e) said = tt

    pub commit_said : (job : JobParts) (r : Result (Option Rule) SlateDBError) → IfOk r (λ failed. rule_number failed ≡ commit_gate (shown_trees flushes view) (accepted_on flushes view s) (job_of job))
        → IfOk r (λ failed. rule_number failed ≡ commit_rule flushes s state job)
    commit_said job (Ok failed) said = said ∙ commit_alike (job_of job)
    commit_said job (Err e) said = tt
