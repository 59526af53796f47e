-- What a step for one job leaves as it is.
use Rattle.std.proofs.Common.{◌≡◌, refl, sym, ◌∙◌, ap, subst, ℕ, List, [], ◌∷◌, map, Bool, true, false, cond}
use Rattle.std.specs.Prelude.{◌==◌, IfSome, IsSome, Option, Some, None, OnOk, Result, Ok, Err}
use Rattle.std.specs.List.Sorted.{IsStrictlySortedBy}
use Rattle.std.proofs.lemmas.Bool.{eqb-true}
use Rattle.row_model.specs.Rows.{key_cmp}
use Rattle.fleet_model.specs.Work.PollStates.{PollInput}
use Rattle.fleet_model.specs.Work.Scheduler.{Scheduler}
use Rattle.fleet_tree.specs.declared.manifest.ManifestCore.{ManifestCore}
use Rattle.fleet_tree.specs.declared.manifest.VersionedManifest.{VersionedManifest}
use Rattle.fleet_tree.specs.declared.run.SortedRun.{SortedRun}
use Rattle.fleet_tree.specs.declared.tree.LsmTreeState.{LsmTreeState}
use Rattle.fleet_jobs.specs.Jobs.{fresh_job, job_handles, with_status}
use Rattle.fleet_jobs.specs.Parts.JobParts.{JobParts}
use Rattle.fleet_jobs.specs.declared.spec.CompactionSpec.{CompactionSpec}
use Rattle.fleet_jobs.specs.declared.status.CompactionStatus.TheVariants as own
use Rattle.fleet_book.specs.Finishes.{core_after, finished_state, segment_after}
use Rattle.fleet_book.specs.Records.{put_record, record_with}
use Rattle.fleet_book.specs.StateParts.{StateParts}
use Rattle.fleet_book.specs.States.{own_jobs}
use Rattle.fleet_book.specs.Versions.{with_jobs}
use Rattle.fleet_poll.specs.Made.{PrefixesRise, joined_run, own_core}
use Rattle.fleet_poll.specs.Loops.{OthersStay, StillSees}
use Rattle.fleet_poll.specs.Polls.{HasSameObjects, changed_record, failed_record, waiting_record}
use Rattle.fleet_poll.specs.Seen.{JobsMatch, MatchTables, Sees, TreesMatch, ViewsMatch, rest_of}
use Rattle.fleet_poll.proofs.Changed.{found_has_id, others_stay}
use Rattle.fleet_poll.proofs.MatchedTables.{changed_hold, finished_trees_matched, found_holds, joined_matched, output_views, put_holds, written_matched}

-- ---- a job that is finished

segment_prefixes : (spec : CompactionSpec) (output : Option SortedRun) (segments : List (List ℕ × LsmTreeState)) → map (λ s. s.0) (map (segment_after spec output) segments) ≡ map (λ s. s.0) segments
segment_prefixes spec output [] = refl
segment_prefixes spec output (s ∷ segments) = ap (λ ps. s.0 ∷ ps) (segment_prefixes spec output segments)

finished_prefixes : (job : JobParts) (output : Option SortedRun) (core : ManifestCore) → PrefixesRise core → PrefixesRise (core_after job output core)
finished_prefixes job output core rise = subst (λ ps. IsStrictlySortedBy key_cmp ([] ∷ ps)) (sym (segment_prefixes job.spec output core.segments)) rise

pub finished_others : (id : ℕ) (job : JobParts) (output : Option SortedRun) (old new : StateParts) → job.id ≡ id → new ≡ finished_state job output old → OthersStay id old new
finished_others id job output old new same is = λ other apart.
    ap (λ s. record_with other (own_jobs s)) is ∙ others_stay (with_status own.Completed job) (own_jobs old) other (ap (λ i. i == other) same ∙ apart)

-- What an input says of the state, it says of the state after a job is finished with tables that match those that were put.
pub finished_sees : (job : JobParts) (output : Option SortedRun) (old : StateParts) (id : ℕ) → record_with id (own_jobs old) ≡ Some job
    → ((input : PollInput) (scheduler : Scheduler) → Sees input scheduler old → MatchTables input.tables (job_handles job) → ViewsMatch input.tables (output_views output))
    → StillSees old (finished_state job output old)
finished_sees job output old id found made input scheduler sees =
    let matched = found_holds (λ j. MatchTables input.tables (job_handles j)) id (own_jobs old) job found sees.jobs in
    record {
      scheduler_is = sees.scheduler_is;
      manifest = sees.manifest;
      version = sees.version;
      epoch = sees.epoch;
      prefixes = finished_prefixes job output (own_core old) sees.prefixes;
      trees = finished_trees_matched input.tables job output (own_core old) (made input scheduler sees matched) sees.trees;
      jobs = put_holds (λ j. MatchTables input.tables (job_handles j)) (with_status own.Completed job) (own_jobs old) matched sees.jobs;
    }

-- ---- a job whose record is changed alone

-- A change that leaves the id of a job, and after which it names no other tables.
pub record NamesNoMore (change : JobParts → JobParts) : Type 0 where
  pub id : (job : JobParts) → (change job).id ≡ job.id
  pub matched : (input : PollInput) (job : JobParts) → MatchTables input.tables (job_handles job) → MatchTables input.tables (job_handles (change job))

-- A change of the job with one id leaves the record of each other job as it is.
changed_stay : (change : JobParts → JobParts) (id : ℕ) (jobs : List JobParts) (other : ℕ) → ((job : JobParts) → (change job).id ≡ job.id) → (id == other) ≡ false
    → record_with other (map (changed_record change (id ∷ [])) jobs) ≡ record_with other jobs
changed_stay change id [] other same apart = refl
changed_stay change id (job ∷ jobs) other same apart = by (id == job.id) refl (changed_stay change id jobs other same apart)
  where
    rest_after : List JobParts
    rest_after = map (changed_record change (id ∷ [])) jobs

    by : (b : Bool) → (id == job.id) ≡ b → record_with other rest_after ≡ record_with other jobs
        → record_with other (cond (cond b true false) (change job) job ∷ rest_after) ≡ cond (job.id == other) (Some job) (record_with other jobs)
    by true e rest =
        let off : (job.id == other) ≡ false = ap (λ i. i == other) (sym (eqb-true id job.id e)) ∙ apart in
        ap (λ i. cond (i == other) (Some (change job)) (record_with other rest_after)) (same job)
        ∙ ap (λ b. cond b (Some (change job)) (record_with other rest_after)) off
        ∙ rest
        ∙ sym (ap (λ b. cond b (Some job) (record_with other jobs)) off)
    by false e rest = ap (cond (job.id == other) (Some job)) rest

pub changed_others : (change : JobParts → JobParts) (id : ℕ) (old new : StateParts) → NamesNoMore change → own_jobs new ≡ map (changed_record change (id ∷ [])) (own_jobs old) → OthersStay id old new
changed_others change id old new names is = λ other apart. ap (record_with other) is ∙ changed_stay change id (own_jobs old) other names.id apart

pub changed_sees : (change : JobParts → JobParts) (these : List ℕ) (old new : StateParts) → NamesNoMore change → HasSameObjects old new → own_jobs new ≡ map (changed_record change these) (own_jobs old) → StillSees old new
changed_sees change these old new names same is input scheduler sees = record {
  scheduler_is = sees.scheduler_is;
  manifest = sees.manifest ∙ ap rest_of (sym same.manifest);
  version = sees.version ∙ sym same.version;
  epoch = sees.epoch ∙ sym same.epoch;
  prefixes = subst (λ (m : VersionedManifest). PrefixesRise m.manifest.core) (sym same.manifest) sees.prefixes;
  trees = subst (λ (m : VersionedManifest). TreesMatch input.tables m.manifest.core) (sym same.manifest) sees.trees;
  jobs = subst (JobsMatch input.tables) (sym is) (changed_hold (λ j. MatchTables input.tables (job_handles j)) change these (own_jobs old) (names.matched input) sees.jobs);
}

-- ---- the steps

pub on_both : {A E P Q R : Type 0} (r : Result A E) → (P → Q → R) → OnOk r P → OnOk r Q → OnOk r R
on_both (Ok x) f p q = f p q
on_both (Err e) f p q = tt

pub failed_names : NamesNoMore failed_record
failed_names = record { id = λ job. refl; matched = λ input job matched. written_matched input.tables job matched }

-- What is left by the step of a job that is found, and that is finished with a run of its own tables.
pub joined_others : (id : ℕ) (found : Option JobParts) (old new : StateParts) → record_with id (own_jobs old) ≡ found → IsSome found → IfSome found (λ job. new ≡ finished_state job (joined_run job) old) → OthersStay id old new
joined_others id None old new e there is = absurd (cc there)
joined_others id (Some job) old new e there is = finished_others id job (joined_run job) old new (found_has_id id (own_jobs old) job e) is

pub joined_sees : (id : ℕ) (found : Option JobParts) (old new : StateParts) → record_with id (own_jobs old) ≡ found → IsSome found → IfSome found (λ job. new ≡ finished_state job (joined_run job) old) → StillSees old new
joined_sees id None old new e there is = absurd (cc there)
joined_sees id (Some job) old new e there is = subst (StillSees old) (sym is) (finished_sees job (joined_run job) old id e (λ input scheduler sees matched. joined_matched input.tables job matched))

pub on_three : {A E P Q R S : Type 0} (r : Result A E) → (P → Q → R → S) → OnOk r P → OnOk r Q → OnOk r R → OnOk r S
on_three (Ok x) f p q s = f p q s
on_three (Err e) f p q s = tt

-- A job that is added names no table.
pub added_sees : (old new : StateParts) (job : JobParts) (id : ℕ) (spec : CompactionSpec) → job ≡ fresh_job id spec → new ≡ record old { compactions = with_jobs (put_record job (own_jobs old)) old.compactions } → StillSees old new
added_sees old new job id spec fresh is input scheduler sees = subst (Sees input scheduler) (sym is) (record {
  scheduler_is = sees.scheduler_is;
  manifest = sees.manifest;
  version = sees.version;
  epoch = sees.epoch;
  prefixes = sees.prefixes;
  trees = sees.trees;
  jobs = put_holds (λ j. MatchTables input.tables (job_handles j)) job (own_jobs old) (subst (λ j. MatchTables input.tables (job_handles j)) (sym fresh) tt) sees.jobs;
})

pub waiting_names : NamesNoMore waiting_record
waiting_names = record { id = λ job. refl; matched = λ input job matched. matched }
