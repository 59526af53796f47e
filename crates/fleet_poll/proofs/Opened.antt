-- What a poll has reached after a submitted job that passed the gate.
use Rattle.std.proofs.Common.{◌≡◌, refl, sym, ◌∙◌, ap, ℕ, List, [], ◌∷◌, Bool, true, false, ◌&&◌, cond}
use Rattle.std.specs.Prelude.{IfSome, is_some, Ok, OnOk, Option, Err, Result, Some, None}
use Rattle.std.specs.List.{AllByRecursion}
use Rattle.std.specs.Option.{ForSome}
use Rattle.fleet_model.specs.Jobs.{Job, is_drain_to}
use Rattle.fleet_model.specs.Nodes.{Tables}
use Rattle.fleet_model.specs.Work.Polls.{can_move, drain_job, move_job, open_by, schedule_job}
use Rattle.fleet_model.specs.Work.PollStates.{PollInput}
use Rattle.fleet_tree.specs.Trees.{RunFlushes}
use Rattle.fleet_tree.specs.Views.{View}
use Rattle.fleet_jobs.specs.Parts.JobParts.{JobParts}
use Rattle.fleet_jobs.specs.Jobs.{job_of}
use Rattle.fleet_jobs.specs.Laws.{EndsFit, KeysFit}
use Rattle.fleet_jobs.specs.Moves.{moved_run}
use Rattle.fleet_jobs.specs.Places.{sources_stand}
use Rattle.fleet_jobs.specs.Specs.{destination_of, spec_of}
use Rattle.fleet_jobs.specs.Taken.{taken_tables}
use Rattle.fleet_book.specs.Records.{record_with}
use Rattle.fleet_book.specs.States.{own_jobs}
use Rattle.fleet_gates.specs.Rules.{number_of, rule_number}
use Rattle.fleet_gates.specs.declared.rule.Rule.{Rule}
use Rattle.fleet_poll.specs.Made.{flushes_after, flushes_opened, is_drain_if_there, own_core, run_if_moved}
use Rattle.fleet_poll.specs.Polls.{poll_of}
use Rattle.fleet_poll.specs.declared.poll.Poll.{Poll}
use Rattle.fleet_poll.proofs.Changed.{found_has_id}
use Rattle.fleet_poll.proofs.Movable.{movable_is}

keys_fit : (tables : Tables) (views : List View) → AllByRecursion (EndsFit tables) views → KeysFit tables views
keys_fit tables [] fit = tt
keys_fit tables (view ∷ views) fit = (fit.0.first, keys_fit tables views fit.1)

no_run : (destination : Option ℕ) (views : List View) → is_drain_to destination ≡ true → is_some (moved_run destination views) ≡ false
no_run None views e = refl
no_run (Some id) views e = absurd (cc e)

pub and_none : (a b : Bool) → b ≡ false → (a && b) ≡ false
and_none true b e = e
and_none false b e = refl

module _ (flushes : RunFlushes) (input : PollInput) (moves : Bool) (before after : Poll) where
  -- The step for this job, which passed the gate, is the model's.
  abbrev pub IsOpened : JobParts → Type 0
  IsOpened job = AllByRecursion (EndsFit input.tables) (taken_tables job.spec (own_core before.state))
      → poll_of (flushes_opened None moves job (own_core before.state) flushes) after ≡ open_by input (job_of job) None (poll_of flushes before)

  pub by_drain : (found : Option JobParts) → is_drain_if_there found ≡ true → IfSome found (λ job. poll_of flushes after ≡ drain_job input (job_of job) (poll_of flushes before)) → IfSome found IsOpened
  by_drain None drain is = tt
  by_drain (Some job) drain is = λ fit.
      let core = own_core before.state in
      let p = poll_of flushes before in
      ap (λ b. poll_of (cond b (flushes_after job.spec core flushes) flushes) after) (and_none moves (is_some (run_if_moved (Some job) core)) (no_run (destination_of job.spec) (taken_tables job.spec core) drain))
      ∙ is
      ∙ sym (ap (λ b. cond b (drain_job input (job_of job) p) (cond (can_move input p.trees (spec_of job.spec)) (move_job input (job_of job) p) (schedule_job (job_of job) p))) drain)

  -- If moves are allowed and the job's tables become a run as they are, the step is the model's move.
  pub by_move : (found : Option JobParts) → is_drain_if_there found ≡ false → moves ≡ true → input.options.moves ≡ moves → ForSome found (λ job. sources_stand job.spec (own_core before.state) ≡ true)
      → is_some (run_if_moved found (own_core before.state)) ≡ true
      → IfSome found (λ job. KeysFit input.tables (taken_tables job.spec (own_core before.state)) → poll_of (flushes_after job.spec (own_core before.state) flushes) after ≡ move_job input (job_of job) (poll_of flushes before)) → IfSome found IsOpened
  by_move None drain allowed same stand made is = tt
  by_move (Some job) drain allowed same stand made is = λ fit.
      let core = own_core before.state in
      let p = poll_of flushes before in
      let runs : (moves && is_some (run_if_moved (Some job) core)) ≡ true = ap (λ b. b && is_some (run_if_moved (Some job) core)) allowed ∙ made in
      let can = sym (movable_is flushes input job core (stand job refl) drain fit) ∙ ap (λ b. b && is_some (run_if_moved (Some job) core)) same ∙ runs in
      ap (λ b. poll_of (cond b (flushes_after job.spec core flushes) flushes) after) runs
      ∙ is (keys_fit input.tables (taken_tables job.spec core) fit)
      ∙ sym (ap (λ b. cond b (drain_job input (job_of job) p) (cond (can_move input p.trees (spec_of job.spec)) (move_job input (job_of job) p) (schedule_job (job_of job) p))) drain
      ∙ ap (λ b. cond b (move_job input (job_of job) p) (schedule_job (job_of job) p)) can)

  -- If the job is no drain and is not moved, the step is the model's: the job waits for a worker.
  pub by_schedule : (id : ℕ) (found : Option JobParts) → record_with id (own_jobs before.state) ≡ found → is_drain_if_there found ≡ false → input.options.moves ≡ moves → ForSome found (λ job. sources_stand job.spec (own_core before.state) ≡ true)
      → (moves && is_some (run_if_moved found (own_core before.state))) ≡ false
      → ((job : Job) → job.id ≡ id → poll_of flushes after ≡ schedule_job job (poll_of flushes before)) → IfSome found IsOpened
  by_schedule id None e drain same stand none is = tt
  by_schedule id (Some job) e drain same stand none is = λ fit.
      let core = own_core before.state in
      let p = poll_of flushes before in
      let cannot = sym (movable_is flushes input job core (stand job refl) drain fit) ∙ ap (λ b. b && is_some (run_if_moved (Some job) core)) same ∙ none in
      ap (λ b. poll_of (cond b (flushes_after job.spec core flushes) flushes) after) none
      ∙ is (job_of job) (found_has_id id (own_jobs before.state) job e)
      ∙ sym (ap (λ b. cond b (drain_job input (job_of job) p) (cond (can_move input p.trees (spec_of job.spec)) (move_job input (job_of job) p) (schedule_job (job_of job) p))) drain
      ∙ ap (λ b. cond b (move_job input (job_of job) p) (schedule_job (job_of job) p)) cannot)

-- What holds of each one if the call succeeds gives what follows from all of them.
pub for_all_ok : {A E I Q : Type 0} (C P : I → Type 0) (r : Result A E) → (((i : I) → C i → P i) → Q) → ((i : I) → C i → OnOk r (P i)) → OnOk r Q
for_all_ok C P (Ok x) f all = f all
for_all_ok C P (Err e) f all = tt

-- What holds of the model's job with an id, whichever it is, holds of the job that is found.
pub of_found : (P : Job → Type 0) (id : ℕ) (jobs : List JobParts) → ((job : Job) → job.id ≡ id → P job) → IfSome (record_with id jobs) (λ job. P (job_of job))
of_found P id jobs all = by (record_with id jobs) refl
  where
    by : (found : Option JobParts) → record_with id jobs ≡ found → IfSome found (λ job. P (job_of job))
    by None e = tt
    by (Some job) e = all (job_of job) (found_has_id id jobs job e)

-- A job that failed a rule is refused whatever its tables are.
pub refused_in : (flushes : RunFlushes) (input : PollInput) (moves : Bool) (before after : Poll) (id : ℕ) (rule : Rule)
    → ((job : Job) → job.id ≡ id → poll_of flushes after ≡ open_by input job (Some (number_of rule)) (poll_of flushes before))
    → IfSome (record_with id (own_jobs before.state)) (λ job. AllByRecursion (EndsFit input.tables) (taken_tables job.spec (own_core before.state))
    → poll_of (flushes_opened (rule_number (Some rule)) moves job (own_core before.state) flushes) after ≡ open_by input (job_of job) (rule_number (Some rule)) (poll_of flushes before))
refused_in flushes input moves before after id rule all = by (record_with id (own_jobs before.state)) refl
  where
    by : (found : Option JobParts) → record_with id (own_jobs before.state) ≡ found
        → IfSome found (λ job. AllByRecursion (EndsFit input.tables) (taken_tables job.spec (own_core before.state))
        → poll_of (flushes_opened (rule_number (Some rule)) moves job (own_core before.state) flushes) after ≡ open_by input (job_of job) (rule_number (Some rule)) (poll_of flushes before))
    by None e = tt
    by (Some job) e = λ fit. all (job_of job) (found_has_id id (own_jobs before.state) job e)
