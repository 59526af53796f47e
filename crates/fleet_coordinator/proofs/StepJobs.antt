-- Each step of a poll is one for a job that the poll has reached.
use Rattle.std.proofs.Common.{◌≡◌, refl, sym, ◌∙◌, ap, subst, ℕ, ◌+◌, List, [], ◌∷◌, ◌++◌, cond, Bool, true, false, inl, inr, Option, Some, None}
use Rattle.std.specs.Prelude.{◌⊎◌, filter, nat_lt}
use Rattle.std.specs.List.{AllByRecursion, list_any}
use Rattle.fleet_model.specs.History.{Step, Drain, Join, Move}
use Rattle.fleet_model.specs.Jobs.{Compacted, Job, Jobs, JobSpec, Submitted, changed_jobs, contains, has_status, ids, is_drain, is_stale, put_job}
use Rattle.fleet_model.specs.Nodes.{Tables, Trees}
use Rattle.fleet_model.specs.Trees.{job_of, stepped_all, stepped_in, tables_now}
use Rattle.fleet_model.specs.Work.Gates.{commit_gate, submit_gate}
use Rattle.fleet_model.specs.Work.PollStates.{PollInput, PollState, accepts, poll_begun}
use Rattle.fleet_model.specs.Work.Polls.{add_by, add_drawn, can_move, clashes, commit_by, commit_job, committed_poll, drain_job, each, free_stale, lost_to_scheduler, move_job, open_by, open_job, open_submitted, schedule_job}
use Rattle.fleet_model.specs.Work.Records.{new_job, to_completed, to_failed, to_scheduled, to_waiting}
use Rattle.step_model.specs.Steps.PollSteps.{PollAsk, first_steps, freed_and_committed, last_steps}
use Rattle.step_laws.proofs.Elements.{IsIn, all_push, all_to}

-- ---- ids of jobs

-- A change of jobs that leaves their ids.
there_changed : (change : Job → Job) (these : List ℕ) (jobs : Jobs) (id : ℕ) → ((job : Job) → (change job).id ≡ job.id) → IsIn id (ids jobs) → IsIn id (ids (changed_jobs change these jobs))
there_changed change these [] id same there = absurd there
there_changed change these (job ∷ jobs) id same (inl is) = inl (by (contains these job.id))
  where
    by : (b : Bool) → (cond b (change job) job).id ≡ id
    by true = same job ∙ is
    by false = is
there_changed change these (job ∷ jobs) id same (inr there) = inr (there_changed change these jobs id same there)

there_put : (new : Job) (jobs : Jobs) (id : ℕ) → IsIn id (ids jobs) → IsIn id (ids (put_job new jobs))
there_put new [] id there = absurd there
there_put new (job ∷ jobs) id there = by (nat_lt new.id job.id) there (there_put new jobs id)
  where
    by : (b : Bool) → (job.id ≡ id) ⊎ IsIn id (ids jobs) → (IsIn id (ids jobs) → IsIn id (ids (put_job new jobs))) → IsIn id (ids (cond b (new ∷ job ∷ jobs) (job ∷ put_job new jobs)))
    by true there rest = inr there
    by false (inl is) rest = inl is
    by false (inr later) rest = inr (rest later)

there_picked : (test : Job → Bool) (jobs : Jobs) → AllByRecursion (λ job. IsIn job.id (ids jobs)) (filter test jobs)
there_picked test [] = tt
there_picked test (job ∷ jobs) = by (test job) (all_to _ _ (filter test jobs) (λ other one there. inr there) (there_picked test jobs))
  where
    by : (b : Bool) → AllByRecursion (λ other. IsIn other.id (ids (job ∷ jobs))) (filter test jobs) → AllByRecursion (λ other. IsIn other.id (ids (job ∷ jobs))) (cond b (job ∷ filter test jobs) (filter test jobs))
    by true rest = (inl refl, rest)
    by false rest = rest

-- ---- specs of jobs

module _ (own : ℕ → JobSpec) where
  -- The job has the spec that is given for its id.
  abbrev HasSpec : Job → Type 0
  HasSpec job = own job.id ≡ job.spec

  specs_changed : (change : Job → Job) (these : List ℕ) (jobs : Jobs) → ((job : Job) → (change job).id ≡ job.id) → ((job : Job) → (change job).spec ≡ job.spec) → AllByRecursion HasSpec jobs → AllByRecursion HasSpec (changed_jobs change these jobs)
  specs_changed change these [] same as_spec all = tt
  specs_changed change these (job ∷ jobs) same as_spec all = (by (contains these job.id), specs_changed change these jobs same as_spec all.1)
    where
      by : (b : Bool) → HasSpec (cond b (change job) job)
      by true = ap own (same job) ∙ all.0 ∙ sym (as_spec job)
      by false = all.0

  specs_put : (new : Job) (jobs : Jobs) → HasSpec new → AllByRecursion HasSpec jobs → AllByRecursion HasSpec (put_job new jobs)
  specs_put new [] one all = (one, tt)
  specs_put new (job ∷ jobs) one all = by (nat_lt new.id job.id) (specs_put new jobs one all.1)
    where
      by : (b : Bool) → AllByRecursion HasSpec (put_job new jobs) → AllByRecursion HasSpec (cond b (new ∷ job ∷ jobs) (job ∷ put_job new jobs))
      by true rest = (one, all)
      by false rest = (all.0, rest)

  -- ---- steps

  -- The job of each step is one of the poll's, and so is each job that is left. Each job has its spec.
  record Names (left : Jobs) (p : PollState) : Type 0 where
    steps : AllByRecursion (λ step. IsIn (job_of step) (ids p.jobs)) p.steps
    left_are : AllByRecursion (λ job. IsIn job.id (ids p.jobs)) left
    specs : AllByRecursion HasSpec p.jobs

  module _ (left : Jobs) (change : Job → Job) (these : List ℕ) (same : (job : Job) → (change job).id ≡ job.id) (as_spec : (job : Job) → (change job).spec ≡ job.spec) (p q : PollState) (jobs : q.jobs ≡ changed_jobs change these p.jobs) where
    there_on : (id : ℕ) → IsIn id (ids p.jobs) → IsIn id (ids q.jobs)
    there_on id there = subst (λ js. IsIn id (ids js)) (sym jobs) (there_changed change these p.jobs id same there)

    left_on : Names left p → AllByRecursion (λ job. IsIn job.id (ids q.jobs)) left
    left_on n = all_to _ _ left (λ job one there. there_on job.id there) n.left_are

    steps_on : Names left p → AllByRecursion (λ step. IsIn (job_of step) (ids q.jobs)) p.steps
    steps_on n = all_to _ _ p.steps (λ step one there. there_on (job_of step) there) n.steps

    specs_on : Names left p → AllByRecursion HasSpec q.jobs
    specs_on n = subst (AllByRecursion HasSpec) (sym jobs) (specs_changed change these p.jobs same as_spec n.specs)

    -- Without a step.
    changed_names : q.steps ≡ p.steps → Names left p → Names left q
    changed_names still n = record { steps = subst (AllByRecursion (λ step. IsIn (job_of step) (ids q.jobs))) (sym still) (steps_on n); left_are = left_on n; specs = specs_on n }

    -- With a step for one of the jobs.
    stepped_names : (step : Step) → q.steps ≡ p.steps ++ step ∷ [] → IsIn (job_of step) (ids p.jobs) → Names left p → Names left q
    stepped_names step more there n = record {
      steps = subst (AllByRecursion (λ s. IsIn (job_of s) (ids q.jobs))) (sym more) (all_push _ p.steps step (steps_on n) (there_on (job_of step) there));
      left_are = left_on n;
      specs = specs_on n;
    }

  rest_of : (job : Job) (jobs : Jobs) (p : PollState) → Names (job ∷ jobs) p → Names jobs p
  rest_of job jobs p n = record { steps = n.steps; left_are = n.left_are.1; specs = n.specs }

  commits_name : (input : PollInput) (jobs : Jobs) (p : PollState) → Names jobs p → Names [] (each (commit_job input) jobs p)
  commits_name input [] p n = n
  commits_name input (job ∷ jobs) p n = commits_name input jobs (commit_job input job p) (by (commit_gate p.trees (accepts input p) job))
    where
      by : (rule : Option ℕ) → Names jobs (commit_by input job rule p)
      by None = stepped_names jobs to_completed (job.id ∷ []) (λ j. refl) (λ j. refl) p (commit_by input job None p) refl (Join job.id) refl n.left_are.0 (rest_of job jobs p n)
      by (Some rule) = changed_names jobs to_failed (job.id ∷ []) (λ j. refl) (λ j. refl) p (commit_by input job (Some rule) p) refl refl (rest_of job jobs p n)

  -- After step 4 for these jobs, each step is still for a job that the poll has, and each job has its spec.
  opens_name : (input : PollInput) (jobs : Jobs) (p : PollState) → Names jobs p → Names [] (each (open_job input) jobs p)
  opens_name input [] p n = n
  opens_name input (job ∷ jobs) p n = opens_name input jobs (open_job input job p) (by (submit_gate p.trees p.jobs (lost_to_scheduler p.lost) (accepts input p) job))
    where
      either : (drains moves : Bool) → Names jobs (cond drains (drain_job input job p) (cond moves (move_job input job p) (schedule_job job p)))
      either true moves = stepped_names jobs to_completed (job.id ∷ []) (λ j. refl) (λ j. refl) p (drain_job input job p) refl (Drain job.id) refl n.left_are.0 (rest_of job jobs p n)
      either false true = stepped_names jobs to_completed (job.id ∷ []) (λ j. refl) (λ j. refl) p (move_job input job p) refl (Move job.id) refl n.left_are.0 (rest_of job jobs p n)
      either false false = changed_names jobs (to_scheduled (tables_now p.trees)) (job.id ∷ []) (λ j. refl) (λ j. refl) p (schedule_job job p) refl refl (rest_of job jobs p n)

      by : (rule : Option ℕ) → Names jobs (open_by input job rule p)
      by None = either (is_drain job.spec) (can_move input p.trees job.spec)
      by (Some rule) = changed_names jobs to_failed (job.id ∷ []) (λ j. refl) (λ j. refl) p (open_by input job (Some rule) p) refl refl (rest_of job jobs p n)

  -- So it is after proposals are added, if each id is drawn for its own spec.
  adds_name : (place : ℕ) (drawn : List (ℕ × JobSpec)) (p : PollState) → AllByRecursion (λ d. own d.0 ≡ d.1) drawn → Names [] p → Names [] (add_drawn place drawn p)
  adds_name place [] p all n = n
  adds_name place (d ∷ drawn) p all n = adds_name (place + 1) drawn (add_by d.0 place d.1 (list_any (clashes d.1) p.jobs) p) all.1 (by (list_any (clashes d.1) p.jobs))
    where
      by : (b : Bool) → Names [] (add_by d.0 place d.1 b p)
      by true = record { steps = n.steps; left_are = tt; specs = n.specs }
      by false = record {
        steps = all_to _ _ p.steps (λ step one there. there_put (new_job (d.0, d.1)) p.jobs (job_of step) there) n.steps;
        left_are = tt;
        specs = specs_put (new_job (d.0, d.1)) p.jobs all.0 n.specs;
      }

  -- The jobs that are picked are named.
  picked_names : (test : Job → Bool) (p : PollState) → Names [] p → Names (filter test p.jobs) p
  picked_names test p n = record { steps = n.steps; left_are = there_picked test p.jobs; specs = n.specs }

  module _ (ask : PollAsk) (input : PollInput) (got : AllByRecursion HasSpec input.records.jobs) where
    first_names : Names [] (first_steps ask input)
    unfolding committed_poll
    first_names = by ask.commits_only
      where
        begun : PollState
        begun = poll_begun input.manifest.trees input.manifest.horizon input.records.jobs

        begins : Names [] begun
        begins = record { steps = tt; left_are = tt; specs = got }

        these : List ℕ
        these = ids (filter (is_stale input.options.timeout input.moment) input.records.jobs)

        freed : PollState
        freed = free_stale input begun

        frees : Names [] freed
        frees = changed_names [] to_waiting these (λ j. refl) (λ j. refl) begun freed refl refl begins

        by : (b : Bool) → Names [] (cond b (committed_poll input) (freed_and_committed input))
        by true = commits_name input (filter (has_status Compacted) begun.jobs) begun (picked_names (has_status Compacted) begun begins)
        by false = commits_name input (filter (has_status Compacted) freed.jobs) freed (picked_names (has_status Compacted) freed frees)

    last_names : (drawn : List (ℕ × JobSpec)) → AllByRecursion (λ d. own d.0 ≡ d.1) drawn → Names [] (last_steps ask input drawn (first_steps ask input))
    last_names drawn named = by ask.commits_only
      where
        first : PollState
        first = first_steps ask input

        by : (b : Bool) → Names [] (cond b first (open_submitted input (add_drawn 1 drawn first)))
        by true = first_names
        by false =
            let added = add_drawn 1 drawn first in
            opens_name input (filter (has_status Submitted) added.jobs) added (picked_names (has_status Submitted) added (adds_name 1 drawn first named first_names))

    -- The job of each step is one that the poll has reached, and each job that it has reached has its spec.
    pub steps_named : (drawn : List (ℕ × JobSpec)) → AllByRecursion (λ d. own d.0 ≡ d.1) drawn → let p = last_steps ask input drawn (first_steps ask input) in AllByRecursion (λ step. IsIn (job_of step) (ids p.jobs)) p.steps
    steps_named drawn named = (last_names drawn named).steps

    pub specs_named : (drawn : List (ℕ × JobSpec)) → AllByRecursion (λ d. own d.0 ≡ d.1) drawn → AllByRecursion (λ job. own job.id ≡ job.spec) (last_steps ask input drawn (first_steps ask input)).jobs
    specs_named drawn named = (last_names drawn named).specs

-- ---- the trees that steps make

-- Steps make the same trees by the same specs and tables of their jobs.
pub same_steps : (tables : Tables) (f g : ℕ → JobSpec × List ℕ) (steps : List Step) (trees : Trees) → AllByRecursion (λ step. f (job_of step) ≡ g (job_of step)) steps → stepped_all tables f steps trees ≡ stepped_all tables g steps trees
same_steps tables f g [] trees all = refl
same_steps tables f g (step ∷ steps) trees all =
    ap (λ (parts : JobSpec × List ℕ). stepped_all tables f steps (stepped_in tables step parts.0 parts.1 trees)) all.0
    ∙ same_steps tables f g steps (stepped_in tables step (g (job_of step)).0 (g (job_of step)).1 trees) all.1
