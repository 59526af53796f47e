-- What the gate for submitted jobs says to a poll.
use Rattle.std.proofs.Common.{◌≡◌, refl, sym, ◌∙◌, ap, subst, ℕ, List, Bool, true}
use Rattle.std.specs.Prelude.{filter, IfOk, IfSome, Ok, Err, Option, Result, Some, None}
use Rattle.std.specs.List.{AllByRecursion}
use Rattle.std.specs.Option.{ForSome}
use Rattle.fleet_model.specs.Work.Gates.{submit_gate}
use Rattle.fleet_model.specs.Nodes.{NodeName}
use Rattle.fleet_model.specs.Work.Polls.{lost_to_scheduler, open_by, open_job}
use Rattle.fleet_model.specs.Work.PollStates.{PollInput, accepts}
use Rattle.fleet_model.specs.Work.Scheduler.{Scheduler}
use Rattle.fleet_rows.specs.declared.errors.SlateDBError.{SlateDBError}
use Rattle.fleet_tree.specs.Trees.{RunFlushes, trees_of}
use Rattle.fleet_tree.specs.declared.manifest.VersionedManifest.{VersionedManifest}
use Rattle.fleet_jobs.specs.Parts.JobParts.{JobParts}
use Rattle.fleet_jobs.specs.Jobs.{is_open, job_of, jobs_of}
use Rattle.fleet_jobs.specs.Laws.{EndsFit}
use Rattle.fleet_jobs.specs.Places.{sources_stand}
use Rattle.fleet_jobs.specs.Specs.{spec_of}
use Rattle.fleet_jobs.specs.Taken.{taken_tables}
use Rattle.fleet_jobs.proofs.ModelPlaces.{submitted_sources_stand}
use Rattle.fleet_book.specs.StateParts.{StateParts}
use Rattle.fleet_book.specs.States.{own_jobs}
use Rattle.fleet_book.specs.VersionedRecords.{VersionedRecords}
use Rattle.fleet_book.specs.Versions.{with_jobs}
use Rattle.fleet_book.specs.declared.view.CompactorStateView.{CompactorStateView}
use Rattle.fleet_gates.specs.Held.{Decides}
use Rattle.fleet_gates.specs.Rules.{rule_number}
use Rattle.fleet_gates.specs.Shown.{accepted_on}
use Rattle.fleet_gates.specs.declared.rule.Rule.{Rule}
use Rattle.fleet_poll.specs.Made.{flushes_opened, own_core}
use Rattle.fleet_poll.specs.Polls.{poll_of}
use Rattle.fleet_poll.specs.Shown.{open_view, rule_of_gate}
use Rattle.fleet_poll.specs.declared.poll.Poll.{Poll}

-- A view with the manifest and the open jobs of a state is what is shown of the state.
pub view_is : (state : StateParts) (view : CompactorStateView) → view.manifest ≡ state.manifest → view.compactions ≡ Some (with_jobs (filter is_open (own_jobs state)) state.compactions) → view ≡ open_view state
view_is state view manifest jobs =
    let made : VersionedManifest → Option VersionedRecords → CompactorStateView = λ m c. record { manifest = m; compactions = c } in
    ap (λ m. made m view.compactions) manifest ∙ ap (made state.manifest) jobs

-- What the gate says of a job, if the premise holds of it, it says of the job that is found.
pub said_if_found : (D : JobParts → Type 0) (P : Option Rule → JobParts → Type 0) (found : Option JobParts) (job : JobParts) (r : Result (Option Rule) SlateDBError)
    → found ≡ Some job → (D job → IfOk r (λ failed. P failed job)) → IfOk r (λ failed. IfSome found (λ j. D j → P failed j))
said_if_found D P found job (Ok failed) is said = subst (λ f. IfSome f (λ j. D j → P failed j)) (sym is) said
said_if_found D P found job (Err e) is said = tt

pub said_of_found : (P : Option Rule → JobParts → Type 0) (found : Option JobParts) (job : JobParts) (r : Result (Option Rule) SlateDBError)
    → found ≡ Some job → IfOk r (λ failed. P failed job) → IfOk r (λ failed. IfSome found (P failed))
said_of_found P found job (Ok failed) is said = subst (λ f. IfSome f (P failed)) (sym is) said
said_of_found P found job (Err e) is said = tt

-- What the gate says of the job that is found.
abbrev Said : RunFlushes → StateParts → Scheduler → List NodeName → List ℕ → Option Rule → JobParts → Type 0
Said flushes state s held lost failed job = Decides held (jobs_of (own_jobs state)) lost (job_of job)
    → rule_number failed ≡ submit_gate (trees_of flushes (own_core state)) (jobs_of (own_jobs state)) lost (accepted_on flushes (open_view state) s) (job_of job)

pub stand_in : (flushes : RunFlushes) (state : StateParts) (s : Scheduler) (held : List NodeName) (lost : List ℕ) (failed : Option Rule) (found : Option JobParts)
    → IfSome found (Said flushes state s held lost failed) → ForSome found (λ job. Decides held (jobs_of (own_jobs state)) lost (job_of job)) → failed ≡ None → ForSome found (λ job. sources_stand job.spec (own_core state) ≡ true)
stand_in flushes state s held lost failed found said decides none job e =
    let here : Said flushes state s held lost failed job = subst (λ f. IfSome f (Said flushes state s held lost failed)) e said in
    submitted_sources_stand flushes (jobs_of (own_jobs state)) lost (accepted_on flushes (open_view state) s) job (own_core state) (sym (here (decides job e)) ∙ ap rule_number none)

-- A step for a submitted job by the answer of its gate is the model's step 4 for the job.
pub opened_in : (flushes : RunFlushes) (input : PollInput) (moves : Bool) (before after : Poll) (s : Scheduler) (held : List NodeName) (failed : Option Rule) (found : Option JobParts)
    → IfSome found (Said flushes before.state s held (lost_to_scheduler before.lost) failed) → ForSome found (λ job. Decides held (jobs_of (own_jobs before.state)) (lost_to_scheduler before.lost) (job_of job))
    → IfSome found (λ made. AllByRecursion (EndsFit input.tables) (taken_tables made.spec (own_core before.state))
    → poll_of (flushes_opened (rule_number failed) moves made (own_core before.state) flushes) after ≡ open_by input (job_of made) (rule_number failed) (poll_of flushes before))
    → IfSome found (λ made. accepts input (poll_of flushes before) (spec_of made.spec) ≡ accepted_on flushes (open_view before.state) s (spec_of made.spec)
    → AllByRecursion (EndsFit input.tables) (taken_tables made.spec (own_core before.state))
    → poll_of (flushes_opened (rule_of_gate input (job_of made) (poll_of flushes before)) moves made (own_core before.state) flushes) after ≡ open_job input (job_of made) (poll_of flushes before))
opened_in flushes input moves before after s held failed None said decides is = tt
opened_in flushes input moves before after s held failed (Some job) said decides is = λ alike fit.
    let p = poll_of flushes before in
    subst (λ n. poll_of (flushes_opened n moves job (own_core before.state) flushes) after ≡ open_by input (job_of job) n p)
    (said (decides job refl) ∙ ap (λ b. submit_gate p.trees p.jobs (lost_to_scheduler p.lost) (λ spec. b) (job_of job)) (sym alike)) (is fit)
