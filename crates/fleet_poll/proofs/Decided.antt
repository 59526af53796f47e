-- What step 4 for one job leaves as it is.
use Rattle.std.proofs.Common.{◌≡◌, refl, sym, ◌∙◌, ap, subst, ℕ, [], ◌∷◌, map}
use Rattle.std.specs.Prelude.{IfSome, IsSome, Option, Some, None}
use Rattle.fleet_model.specs.Jobs.{changed_jobs}
use Rattle.fleet_model.specs.Nodes.{Trees}
use Rattle.fleet_model.specs.Trees.{tables_now}
use Rattle.fleet_model.specs.Work.PollStates.{PollInput}
use Rattle.fleet_model.specs.Work.Records.{to_completed}
use Rattle.fleet_model.specs.Work.Scheduler.{Scheduler}
use Rattle.fleet_tree.specs.Trees.{trees_of}
use Rattle.fleet_tree.specs.declared.run.SortedRun.{SortedRun}
use Rattle.fleet_jobs.specs.Jobs.{job_handles, jobs_of}
use Rattle.fleet_jobs.specs.Parts.JobParts.{JobParts}
use Rattle.fleet_jobs.specs.Specs.{destination_of}
use Rattle.fleet_jobs.specs.Taken.{taken_tables}
use Rattle.fleet_book.specs.Finishes.{finished_state}
use Rattle.fleet_book.specs.Records.{AreRising, record_with}
use Rattle.fleet_book.specs.States.{own_jobs}
use Rattle.fleet_poll.specs.Loops.{IsDecision, StillSees, Fails, Ends, Waits}
use Rattle.fleet_poll.specs.Made.{own_core, run_if_moved}
use Rattle.fleet_poll.specs.Polls.{HasSameObjects, changed_record, failed_record, opened_record}
use Rattle.fleet_poll.specs.Seen.{MatchTables, Sees, ViewsMatch}
use Rattle.fleet_poll.specs.declared.poll.Poll.{Poll}
use Rattle.fleet_poll.proofs.Carried.{NamesNoMore, changed_others, changed_sees, failed_names, finished_others, finished_sees}
use Rattle.fleet_poll.proofs.Changed.{found_has_id}
use Rattle.fleet_poll.proofs.Finished.{completed_jobs}
use Rattle.fleet_poll.proofs.Records.{failed_are, opened_are}
use Rattle.fleet_poll.proofs.Taken.{moved_matched, taken_matched}
use Rattle.fleet_poll.proofs.MatchedTables.{output_views, written_matched}

opened_names : (trees : Trees) → NamesNoMore (opened_record trees)
opened_names trees = record { id = λ job. refl; matched = λ input job matched. written_matched input.tables job matched }

pub by_refusal : (id : ℕ) (old new : Poll) → HasSameObjects old.state new.state → own_jobs new.state ≡ map (changed_record failed_record (id ∷ [])) (own_jobs old.state) → new.lost ≡ old.lost → IsDecision id old new
by_refusal id old new same jobs lost = record {
  others = changed_others failed_record id old.state new.state failed_names jobs;
  sees = changed_sees failed_record (id ∷ []) old.state new.state failed_names same jobs;
  lost = lost;
  jobs = Fails (ap jobs_of jobs ∙ failed_are (id ∷ []) (own_jobs old.state));
}

pub by_opening : (id : ℕ) (old new : Poll) → HasSameObjects old.state new.state
    → own_jobs new.state ≡ map (changed_record (opened_record (trees_of (λ prefix run. []) (own_core old.state))) (id ∷ [])) (own_jobs old.state) → new.lost ≡ old.lost → IsDecision id old new
by_opening id old new same jobs lost =
    let trees = trees_of (λ prefix run. []) (own_core old.state) in
    record {
      others = changed_others (opened_record trees) id old.state new.state (opened_names trees) jobs;
      sees = changed_sees (opened_record trees) (id ∷ []) old.state new.state (opened_names trees) same jobs;
      lost = lost;
      jobs = Waits (tables_now trees) (ap jobs_of jobs ∙ opened_are trees (id ∷ []) (own_jobs old.state));
    }

-- A job that is finished at once, with tables that match the tables that were put.
finished_is : (id : ℕ) (old new : Poll) (job : JobParts) (output : Option SortedRun) → AreRising (own_jobs old.state) → record_with id (own_jobs old.state) ≡ Some job → new.state ≡ finished_state job output old.state
    → ((input : PollInput) (scheduler : Scheduler) → Sees input scheduler old.state → MatchTables input.tables (job_handles job) → ViewsMatch input.tables (output_views output))
    → new.lost ≡ old.lost → IsDecision id old new
finished_is id old new job output rising found is matched lost =
    let same : job.id ≡ id = found_has_id id (own_jobs old.state) job found in
    record {
      others = finished_others id job output old.state new.state same is;
      sees = subst (λ s. StillSees old.state s) (sym is) (finished_sees job output old.state id found matched);
      lost = lost;
      jobs = Ends (ap (λ s. jobs_of (own_jobs s)) is ∙ completed_jobs id (own_jobs old.state) job rising found ∙ ap (λ n. changed_jobs to_completed (n ∷ []) (jobs_of (own_jobs old.state))) same);
    }

pub by_drain : (id : ℕ) (old new : Poll) (found : Option JobParts) → AreRising (own_jobs old.state) → record_with id (own_jobs old.state) ≡ found → IsSome found → IfSome found (λ job. new.state ≡ finished_state job None old.state) → new.lost ≡ old.lost → IsDecision id old new
by_drain id old new None rising e there is lost = absurd (cc there)
by_drain id old new (Some job) rising e there is lost = finished_is id old new job None rising e is (λ input scheduler sees matched. tt) lost

pub by_move : (id : ℕ) (old new : Poll) (found : Option JobParts) → AreRising (own_jobs old.state) → record_with id (own_jobs old.state) ≡ found → IsSome found
    → IfSome found (λ job. new.state ≡ finished_state job (run_if_moved (Some job) (own_core old.state)) old.state) → new.lost ≡ old.lost → IsDecision id old new
by_move id old new None rising e there is lost = absurd (cc there)
by_move id old new (Some job) rising e there is lost =
    let core = own_core old.state in
    finished_is id old new job (run_if_moved (Some job) core) rising e is
    (λ input scheduler sees matched. moved_matched input.tables (destination_of job.spec) (taken_tables job.spec core) (taken_matched input.tables job.spec core sees.trees)) lost
