-- In each state the history says which jobs wait for their commit.
use Rattle.std.proofs.Common.{◌≡◌, refl, sym, ◌∙◌, ap, subst, ℕ, ◌<◌, List, [], ◌∷◌, cond, Bool, true, false, inl, inr, arith}
use Rattle.std.specs.Prelude.{◌==◌, ◌&&◌, ◌||◌, IsTrue, map, filter}
use Rattle.std.specs.List.{AllByRecursion}
use Rattle.std.proofs.lemmas.Bool.Decides.{Decides-eqb}
use Rattle.row_model.specs.Lists.{Pairs}
use Rattle.fleet_model.specs.Jobs.{Job, Jobs, Running, Compacted, has_status, contains, ids, changed_jobs, is_stale, job_with}
use Rattle.fleet_model.specs.Work.Records.{to_waiting}
use Rattle.fleet_model.specs.Past.Finished.{is_finished_by}
use Rattle.fleet_model.specs.Store.{Store, stored_jobs}
use Rattle.fleet_model.specs.Work.PollStates.{PollInput, PollState, poll_begun}
use Rattle.fleet_model.specs.Work.Polls.{free_stale, commit_job}
use Rattle.step_model.specs.Steps.PollSteps.{PollAsk}
use Rattle.step_model.specs.LawfulRecords.{OfSome}
use Rattle.step_laws.proofs.Elements.{IsIn, all_at, all_from, all_to, is_itself, any_element, in_contains, contains_in}
use Rattle.step_laws.proofs.Changed.{found_job}
use Rattle.course_laws.proofs.Calls.{filtered, all_map}
use Rattle.line_laws.specs.States.{awaits_commit}
use Rattle.line_laws.specs.Lines.FinishedJobs.{FinishedJobsWait}
use Rattle.line_laws.specs.Lines.PollRuns.{input_at}
use Rattle.coordinator_laws.specs.PollSays.{verdicts, all_verdicts, before_commits}
use Rattle.coordinator_laws.proofs.PollReports.{got_jobs}
use Rattle.line_laws.proofs.FinishedJobs.{awaits, none_awaits, other_awaits_none, stored_has, status_not, or_none}
use Rattle.step_laws.proofs.Polls.{in_map}
use Rattle.rival_laws.proofs.JobsMerged.{and_first}

-- ---- one job

-- A stored job awaits its commit by its id if it is Compacted.
awaits_own : (jobs : Jobs) (job : Job) → Pairs (λ a b. a.id < b.id) jobs → IsIn job jobs → awaits job.id jobs ≡ has_status Compacted job
awaits_own [] job rise there = absurd there
awaits_own (first ∷ jobs) job rise (inl same) = subst (λ (j : Job). awaits j.id (first ∷ jobs) ≡ has_status Compacted j) same
    ((λ i. (is_itself first.id i && has_status Compacted first) || none i) ∙ or_none (has_status Compacted first))
  where
    none : awaits first.id jobs ≡ false
    none = none_awaits first.id jobs (all_to _ _ jobs (λ other there low. other_awaits_none first.id other (λ same. omega (arith, low, same))) rise.0)
awaits_own (first ∷ jobs) job rise (inr there) =
    let low = all_at (λ (other : Job). first.id < other.id) jobs job rise.0 there in
    ap (λ (b : Bool). b || awaits job.id jobs) (other_awaits_none job.id first (λ same. omega (arith, low, same))) ∙ awaits_own jobs job rise.1 there

-- ---- verdicts

verdict_ids : (input : PollInput) (jobs : Jobs) (p : PollState) → map (λ verdict. verdict.0) (verdicts input jobs p) ≡ ids jobs
verdict_ids input [] p = refl
verdict_ids input (job ∷ jobs) p = ap (λ (rest : List ℕ). job.id ∷ rest) (verdict_ids input jobs (commit_job input job p))

-- The ids of the finished jobs, also after others were freed.
finished_ids : (finished : ℕ → Bool) (these : List ℕ) (jobs : Jobs) → AllByRecursion (λ job. finished job.id ≡ has_status Compacted job) jobs → AllByRecursion (λ job. IsTrue (contains these job.id) → has_status Compacted job ≡ false) jobs
    → ids (filter (has_status Compacted) (changed_jobs to_waiting these jobs)) ≡ filter finished (ids jobs)
finished_ids finished these [] are not_these = refl
finished_ids finished these (job ∷ jobs) are not_these = by (contains these job.id) refl (finished_ids finished these jobs are.1 not_these.1)
  where
    kept : (b : Bool) → has_status Compacted job ≡ b → ids (filter (has_status Compacted) (changed_jobs to_waiting these jobs)) ≡ filter finished (ids jobs)
        → ids (cond b (job ∷ filter (has_status Compacted) (changed_jobs to_waiting these jobs)) (filter (has_status Compacted) (changed_jobs to_waiting these jobs))) ≡ cond b (job.id ∷ filter finished (ids jobs)) (filter finished (ids jobs))
    kept true e rest = ap (λ (others : List ℕ). job.id ∷ others) rest
    kept false e rest = rest

    by : (b : Bool) → contains these job.id ≡ b → ids (filter (has_status Compacted) (changed_jobs to_waiting these jobs)) ≡ filter finished (ids jobs)
        → ids (filter (has_status Compacted) (cond b (to_waiting job) job ∷ changed_jobs to_waiting these jobs)) ≡ filter finished (job.id ∷ ids jobs)
    by true e rest = rest ∙ sym (ap (λ (b : Bool). cond b (job.id ∷ filter finished (ids jobs)) (filter finished (ids jobs))) (are.0 ∙ not_these.0 e))
    by false e rest = kept (has_status Compacted job) refl rest ∙ sym (ap (λ (b : Bool). cond b (job.id ∷ filter finished (ids jobs)) (filter finished (ids jobs))) are.0)

-- Stale jobs run.
stale_open : (timeout moment : ℕ) (jobs : Jobs) → Pairs (λ a b. a.id < b.id) jobs → AllByRecursion (λ job. IsTrue (contains (ids (filter (is_stale timeout moment) jobs)) job.id) → has_status Compacted job ≡ false) jobs
stale_open timeout moment jobs rise = all_from _ jobs (λ job there named. stored_has (λ (other : Job). has_status Compacted other ≡ false) jobs job job.id rise there refl
    (all_at (λ id. OfSome (λ (other : Job). has_status Compacted other ≡ false) (job_with id jobs)) (ids (filter (is_stale timeout moment) jobs)) job.id each (contains_in (ids (filter (is_stale timeout moment) jobs)) job.id named)))
  where
    each : AllByRecursion (λ id. OfSome (λ (other : Job). has_status Compacted other ≡ false) (job_with id jobs)) (ids (filter (is_stale timeout moment) jobs))
    each = all_map (λ id. OfSome (λ (other : Job). has_status Compacted other ≡ false) (job_with id jobs)) (λ (job : Job). job.id) (filter (is_stale timeout moment) jobs)
        (all_to _ _ (filter (is_stale timeout moment) jobs) (λ job there h. subst (OfSome (λ (other : Job). has_status Compacted other ≡ false)) (sym (found_job jobs job rise h.0)) (status_not Running job (and_first (has_status Running job) _ h.1) refl))
        (filtered (is_stale timeout moment) jobs))

none_freed : (jobs : Jobs) → changed_jobs to_waiting [] jobs ≡ jobs
none_freed [] = refl
none_freed (job ∷ jobs) = ap (λ (rest : Jobs). job ∷ rest) (none_freed jobs)

-- The verdicts of a poll are on the stored jobs that the history finished, in the order of their ids.
judged : (ask : PollAsk) (store : Store) → Pairs (λ a b. a.id < b.id) (stored_jobs store) → AllByRecursion (λ job. is_finished_by store.history job.id ≡ has_status Compacted job) (stored_jobs store)
    → map (λ verdict. verdict.0) (all_verdicts ask.commits_only (input_at ask store)) ≡ filter (is_finished_by store.history) (ids (stored_jobs store))
judged ask store rise are = verdict_ids input (filter (has_status Compacted) (before_commits ask.commits_only input).jobs) (before_commits ask.commits_only input) ∙ by ask.commits_only
  where
    input : PollInput
    input = input_at ask store

    begun : PollState
    begun = poll_begun input.manifest.trees input.manifest.horizon input.records.jobs

    stale : Jobs → List ℕ
    stale jobs = ids (filter (is_stale ask.options.timeout ask.moment) jobs)

    by : (only : Bool) → ids (filter (has_status Compacted) (cond only begun (free_stale input begun)).jobs) ≡ filter (is_finished_by store.history) (ids (stored_jobs store))
    by true = ap (λ (jobs : Jobs). ids (filter (has_status Compacted) jobs)) (got_jobs store.records ∙ sym (none_freed (stored_jobs store)))
        ∙ finished_ids (is_finished_by store.history) [] (stored_jobs store) are (all_from _ (stored_jobs store) (λ job there named. absurd (cc named)))
    by false = ap (λ (jobs : Jobs). ids (filter (has_status Compacted) (changed_jobs to_waiting (stale jobs) jobs))) (got_jobs store.records)
        ∙ finished_ids (is_finished_by store.history) (stale (stored_jobs store)) (stored_jobs store) are (stale_open ask.options.timeout ask.moment (stored_jobs store) rise)

-- In each state that keeps the invariant, the finished jobs of the history are stored and wait for a commit.
pub finished_jobs_wait : FinishedJobsWait
finished_jobs_wait merge s k = record {
  compacted = are;
  stored = λ id finished.
      let found = any_element (awaits_commit id) (stored_jobs s.store) (sym (k.fleet.finished id) ∙ finished) in
      in_contains (ids (stored_jobs s.store)) id (subst (λ n. IsIn n (ids (stored_jobs s.store))) (sym ((Decides-eqb id found.element.id).0 (and_first (id == found.element.id) _ found.passes))) (in_map (λ (job : Job). job.id) (stored_jobs s.store) found.element found.there));
  judged = λ ask. judged ask s.store rise are;
}
  where
    rise : Pairs (λ a b. a.id < b.id) (stored_jobs s.store)
    rise = k.fleet.store.stored.sound.job_ids

    are : AllByRecursion (λ job. is_finished_by s.store.history job.id ≡ has_status Compacted job) (stored_jobs s.store)
    are = all_from _ (stored_jobs s.store) (λ job there. k.fleet.finished job.id ∙ awaits_own (stored_jobs s.store) job rise there)
