-- What a poll does that finds only jobs that wait for a worker, and finished jobs whose sources are in the trees.
use Rattle.std.proofs.Common.{◌≡◌, ◌≢◌, refl, sym, ◌∙◌, ap, subst, ℕ, ◌≤◌, ◌<◌, List, [], ◌∷◌, Bool, true, false, cond, ◌⊎◌, inl, inr, Option, None, Some, length, arith}
use Rattle.std.specs.Prelude.{◌||◌, IsTrue, filter}
use Rattle.std.specs.List.{list_any, AllByRecursion}
use Rattle.row_model.specs.Lists.{Pairs}
use Rattle.fleet_model.specs.Jobs.{JobSpec, is_drain, Job, Jobs, Status, Submitted, Scheduled, Running, Compacted, Completed, Failed, status_eq, has_status, is_active, contains, put_job, ids}
use Rattle.fleet_model.specs.Work.Records.{new_job, with_new}
use Rattle.fleet_model.specs.Work.Gates.{is_nonempty, submit_gate}
use Rattle.fleet_model.specs.Work.PollStates.{PollInput, PollState, accepts}
use Rattle.fleet_model.specs.Work.Polls.{each, add_drawn, can_move, lost_to_scheduler, drain_job, move_job, schedule_job, open_by, open_job, open_submitted}
use Rattle.step_laws.proofs.Elements.{IsIn, all_at, all_from, all_to, in_contains}
use Rattle.step_laws.proofs.NewJobs.{in_new, rise_new}
use Rattle.course_laws.proofs.Calls.{filtered, all_map}
use Rattle.commit_laws.proofs.Stretches.{other_or, filter_none}
use Rattle.commit_laws.proofs.Midway.{only_job}
use Rattle.coordinator_laws.proofs.Jobs.{in_put_new, in_new_old}
use Rattle.last_laws.specs.Weights.{IsHeavy, Lightens}
use Rattle.last_laws.proofs.Commits.{IsCalmTill, Committed, passing_in}
use Rattle.last_laws.proofs.Opens.{IsCalmNew, Adds, adds_all, first_added, Opened, opens_all}
use Rattle.rival_laws.proofs.WorkerRecords.{submitted_active}

-- ---- ids

ids_of : (jobs : Jobs) → Pairs (λ a b. a.id < b.id) jobs → Pairs (λ a b. a < b) (ids jobs)
ids_of [] h = tt
ids_of (job ∷ jobs) h = (all_map (λ id. job.id < id) (λ (job : Job). job.id) jobs h.0, ids_of jobs h.1)

all_unmap : (P : ℕ → Type 0) (jobs : Jobs) → AllByRecursion P (ids jobs) → AllByRecursion (λ job. P job.id) jobs
all_unmap P [] h = tt
all_unmap P (job ∷ jobs) h = (h.0, all_unmap P jobs h.1)

of_ids : (jobs : Jobs) → Pairs (λ a b. a < b) (ids jobs) → Pairs (λ a b. a.id < b.id) jobs
of_ids [] h = tt
of_ids (job ∷ jobs) h = (all_unmap (λ id. job.id < id) jobs h.0, of_ids jobs h.1)

pub in_ids : (jobs : Jobs) (job : Job) → IsIn job jobs → IsIn job.id (ids jobs)
in_ids [] job there = absurd there
in_ids (other ∷ jobs) job (inl same) = inl (ap (λ (j : Job). j.id) same)
in_ids (other ∷ jobs) job (inr there) = inr (in_ids jobs job there)

-- ---- statuses

submitted_waits : (s : Status) → IsTrue (status_eq Submitted s) → IsTrue (status_eq Scheduled s) → ⊥
submitted_waits Submitted h k = cc k
submitted_waits Scheduled h k = cc h
submitted_waits Running h k = cc h
submitted_waits Compacted h k = cc h
submitted_waits Completed h k = cc h
submitted_waits Failed h k = cc h

-- A job that waits for a worker, if none is to be committed.
waits_now : (job : Job) → IsCalmTill [] job → IsTrue (is_active job) → Lightens job.spec × (IsTrue (has_status Scheduled job) × (job.context ≡ None))
waits_now job calm active = by (calm active)
  where
    by : Lightens job.spec × ((IsTrue (has_status Scheduled job) × (job.context ≡ None)) ⊎ (IsTrue (has_status Compacted job) × (contains [] job.id ≡ true))) → Lightens job.spec × (IsTrue (has_status Scheduled job) × (job.context ≡ None))
    by (l, inl waits) = (l, waits)
    by (l, inr ends) = absurd (cc (ends.1))

pub none_submitted : (job : Job) → IsCalmTill [] job → has_status Submitted job ≡ false
none_submitted job calm = other_or (has_status Submitted job) (λ new. submitted_waits job.status new (waits_now job calm (submitted_active job.status new)).1.0)

pub none_active : (jobs : Jobs) → list_any is_active jobs ≡ false → AllByRecursion (λ job. is_active job ≡ false) jobs
none_active [] h = tt
none_active (job ∷ jobs) h = by (none_active jobs) (is_active job) refl h
  where
    by : (list_any is_active jobs ≡ false → AllByRecursion (λ job. is_active job ≡ false) jobs) → (b : Bool) → is_active job ≡ b → (b || list_any is_active jobs) ≡ false → (is_active job ≡ false) × AllByRecursion (λ job. is_active job ≡ false) jobs
    by rest true e h = absurd (cc h)
    by rest false e h = (e, rest h)

-- ---- a job that was added is there

some_pass : (test : Job → Bool) (jobs : Jobs) (job : Job) → IsIn job jobs → test job ≡ true → is_nonempty (filter test jobs) ≡ true
some_pass test [] job there h = absurd there
some_pass test (other ∷ jobs) job there h = by (test other) refl there (λ one. some_pass test jobs job one h)
  where
    by : (b : Bool) → test other ≡ b → (other ≡ job) ⊎ IsIn job jobs → (IsIn job jobs → is_nonempty (filter test jobs) ≡ true) → is_nonempty (cond b (other ∷ filter test jobs) (filter test jobs)) ≡ true
    by true e there rest = refl
    by false e (inl same) rest = let here = ap test same in absurd (cc (here, e, h))
    by false e (inr one) rest = rest one

added_submitted : (named : List (ℕ × JobSpec)) (jobs : Jobs) → is_nonempty named ≡ true → is_nonempty (filter (has_status Submitted) (with_new named jobs)) ≡ true
added_submitted [] jobs h = absurd (cc h)
added_submitted (q ∷ named) jobs h = some_pass (has_status Submitted) (with_new named (put_job (new_job q) jobs)) (new_job q) (in_new_old named (put_job (new_job q) jobs) (new_job q) (in_put_new (new_job q) jobs)) refl

-- Opening jobs adds none.
added_stay : (input : PollInput) (jobs : Jobs) (p : PollState) → (each (open_job input) jobs p).added ≡ p.added
added_stay input [] p = refl
added_stay input (job ∷ jobs) p = added_stay input jobs (open_job input job p) ∙ by (submit_gate p.trees p.jobs (lost_to_scheduler p.lost) (accepts input p) job)
  where
    opened : (a b : Bool) → (cond a (drain_job input job p) (cond b (move_job input job p) (schedule_job job p))).added ≡ p.added
    opened true b = refl
    opened false true = refl
    opened false false = refl

    by : (gate : Option ℕ) → (open_by input job gate p).added ≡ p.added
    by (Some rule) = refl
    by None = opened (is_drain job.spec) (can_move input p.trees job.spec)

-- ---- the whole poll

-- What a poll did that had no proposal to add: its trees are those after its commits, and no job was left by then.
pub record WasQuiet (drawn : List (ℕ × JobSpec)) (committed p : PollState) : Type 0 where
  pub none : drawn ≡ []
  pub trees : p.trees ≡ committed.trees
  pub over : AllByRecursion (λ job. is_active job ≡ false) committed.jobs

-- What a poll did that committed this many jobs first.
pub record Worked (count : ℕ) (drawn : List (ℕ × JobSpec)) (committed p : PollState) : Type 0 where
  pub joins : count ≤ length p.steps
  pub calm : AllByRecursion (IsCalmNew []) p.jobs
  pub works : is_nonempty p.added ≡ true → (count < length p.steps) ⊎ (list_any is_active p.jobs ≡ true)
  pub done : length p.done ≡ length committed.done
  pub stays : p.added ≡ [] → p.jobs ≡ committed.jobs
  pub quiet : p.added ≡ [] → list_any is_active p.jobs ≡ false → WasQuiet drawn committed p

-- The whole poll, from its commits on: it adds the proposals and opens or moves them.
pub poll_works : (input : PollInput) (count : ℕ) (drawn : List (ℕ × JobSpec)) (begun committed p : PollState) → p ≡ open_submitted input (add_drawn 1 drawn committed) → begun.steps ≡ [] → begun.added ≡ [] → Pairs (λ a b. a.id < b.id) begun.jobs
    → Committed count begun committed → AllByRecursion (λ d. IsHeavy d.1) drawn → p.refused ≡ [] → AllByRecursion (λ q. AllByRecursion (λ job. job.id ≢ q.0) begun.jobs) p.added → Pairs (λ a b. a.0 ≢ b.0) p.added
    → Worked count drawn committed p
poll_works input count drawn begun committed p is no_steps no_added rise c heavy refuses fresh once = record {
  joins = let steps = opened.steps in let first = c.steps in let none = ap length no_steps in let same = ap length a.steps in let end = ap (λ (q : PollState). length q.steps) is in omega (arith, steps, first, none, same, end);
  calm = subst (λ (q : PollState). AllByRecursion (IsCalmNew []) q.jobs) (sym is) opened.calm;
  works = λ some. working (opened.works (ap (λ jobs. is_nonempty (filter (has_status Submitted) jobs)) a.jobs ∙ added_submitted q.added committed.jobs (ap is_nonempty (sym same_added) ∙ some)));
  done = ap (λ (r : PollState). length r.done) is ∙ ap length opened.done ∙ ap length a.done;
  stays = λ none. ap (λ (r : PollState). r.jobs) (unmoved (sym same_added ∙ none)) ∙ base (sym same_added ∙ none);
  quiet = λ none over. quietly (sym same_added ∙ none) over;
}
  where
    none_yet : committed.added ≡ []
    none_yet = c.added ∙ no_added

    q : PollState
    q = add_drawn 1 drawn committed

    with_none : committed.jobs ≡ with_new committed.added committed.jobs
    with_none = ap (λ (added : List (ℕ × JobSpec)). with_new added committed.jobs) (sym none_yet)

    a : Adds committed.jobs committed q
    a = adds_all committed.jobs 1 drawn committed with_none heavy (subst (AllByRecursion (λ (q : ℕ × JobSpec). IsHeavy q.1)) (sym none_yet) tt)

    jobs : Jobs
    jobs = filter (has_status Submitted) q.jobs

    same_added : p.added ≡ q.added
    same_added = ap (λ (r : PollState). r.added) is ∙ added_stay input jobs q

    rise_committed : Pairs (λ (a b : Job). a.id < b.id) committed.jobs
    rise_committed = of_ids committed.jobs (subst (Pairs (λ a b. a < b)) (sym c.ids) (ids_of begun.jobs rise))

    rises : Pairs (λ (a b : Job). a.id < b.id) q.jobs
    rises = subst (Pairs (λ (a b : Job). a.id < b.id)) (sym a.jobs) (rise_new q.added committed.jobs (subst (Pairs (λ (a b : ℕ × JobSpec). a.0 ≢ b.0)) same_added once)
        (λ n job named there same. all_at (λ (job : Job). job.id ≢ n.0) committed.jobs job (new_to n named) there (sym same)) rise_committed)
      where
        new_to : (n : ℕ × JobSpec) → IsIn n q.added → AllByRecursion (λ (job : Job). job.id ≢ n.0) committed.jobs
        new_to n named = all_unmap (λ id. id ≢ n.0) committed.jobs (subst (AllByRecursion (λ id. id ≢ n.0)) (sym c.ids) (all_map (λ id. id ≢ n.0) (λ (job : Job). job.id) begun.jobs
            (all_at (λ (q : ℕ × JobSpec). AllByRecursion (λ (job : Job). job.id ≢ q.0) begun.jobs) q.added n (subst (AllByRecursion (λ (q : ℕ × JobSpec). AllByRecursion (λ (job : Job). job.id ≢ q.0) begun.jobs)) same_added fresh) named)))

    calm : AllByRecursion (IsCalmNew (ids jobs)) q.jobs
    calm = all_from _ q.jobs (λ job there. by job there (in_new q.added committed.jobs job (subst (IsIn job) a.jobs there)))
      where
        submitted : (job : Job) → IsIn job q.jobs → IsTrue (has_status Submitted job) → contains (ids jobs) job.id ≡ true
        submitted job there new = all_at (λ (job : Job). IsTrue (has_status Submitted job) → contains (ids jobs) job.id ≡ true) q.jobs job (passing_in (has_status Submitted) q.jobs) there new

        by : (job : Job) → IsIn job q.jobs → ((n : ℕ × JobSpec) × (IsIn n q.added × (new_job n ≡ job))) ⊎ IsIn job committed.jobs → IsCalmNew (ids jobs) job
        by job there (inl (n, (named, same))) active =
            let new : IsTrue (has_status Submitted job) = subst (λ (j : Job). IsTrue (has_status Submitted j)) same refl in
            inr (subst (λ (j : Job). IsHeavy j.spec) same (all_at (λ (q : ℕ × JobSpec). IsHeavy q.1) q.added n a.heavy named), (new, submitted job there new))
        by job there (inr old) active = inl (waits_now job (all_at (IsCalmTill []) committed.jobs job c.calm old) active)

    light : (job : Job) → IsIn job q.jobs → IsTrue (has_status Submitted job) → IsHeavy job.spec
    light job there new = by job new (all_at (IsCalmNew (ids jobs)) q.jobs job calm there (submitted_active job.status new))
      where
        by : (job : Job) → IsTrue (has_status Submitted job) → (Lightens job.spec × (IsTrue (has_status Scheduled job) × (job.context ≡ None))) ⊎ (IsHeavy job.spec × (IsTrue (has_status Submitted job) × (contains (ids jobs) job.id ≡ true))) → IsHeavy job.spec
        by job new (inl waits) = waits.0.heavy
        by job new (inr one) = one.0

    opened : Opened jobs q (each (open_job input) jobs q)
    opened = opens_all input jobs q (all_to _ _ jobs (λ job there f. light job f.0 f.1) (filtered (has_status Submitted) q.jobs))
        (all_to _ _ jobs (λ job there f. all_from _ q.jobs (λ other one same. ap (λ (j : Job). j.spec) (only_job q.jobs job other rises f.0 one same))) (filtered (has_status Submitted) q.jobs))
        (all_to _ _ jobs (λ job there f. in_contains (ids q.jobs) job.id (in_ids q.jobs job f.0)) (filtered (has_status Submitted) q.jobs))
        calm (ap (λ (r : PollState). r.refused) (sym is) ∙ refuses)

    working : (length q.steps < length (each (open_job input) jobs q).steps) ⊎ (list_any is_active (each (open_job input) jobs q).jobs ≡ true) → (count < length p.steps) ⊎ (list_any is_active p.jobs ≡ true)
    working (inl more) = let first = c.steps in let none = ap length no_steps in let same = ap length a.steps in let end = ap (λ (q : PollState). length q.steps) is in inl (omega (arith, more, first, none, same, end))
    working (inr active) = inr (ap (λ (r : PollState). list_any is_active r.jobs) is ∙ active)

    base : q.added ≡ [] → q.jobs ≡ committed.jobs
    base none = a.jobs ∙ ap (λ (added : List (ℕ × JobSpec)). with_new added committed.jobs) none

    unmoved : q.added ≡ [] → p ≡ q
    unmoved none =
        is ∙ ap (λ js. each (open_job input) js q) (ap (filter (has_status Submitted)) (base none) ∙ filter_none (has_status Submitted) committed.jobs (all_to _ _ committed.jobs (λ job there h. none_submitted job h) c.calm))

    quietly : q.added ≡ [] → list_any is_active p.jobs ≡ false → WasQuiet drawn committed p
    quietly none over =
        let same : p ≡ q = unmoved none in
        let left : AllByRecursion (λ job. is_active job ≡ false) committed.jobs = none_active committed.jobs (ap (list_any is_active) (sym (base none)) ∙ ap (λ (r : PollState). list_any is_active r.jobs) (sym same) ∙ over) in
        record { none = first_added committed.jobs 1 drawn committed with_none heavy none_yet left none; trees = ap (λ (r : PollState). r.trees) same ∙ a.trees; over = left }
