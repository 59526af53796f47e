-- A poll adds the jobs that the scheduler proposed, and opens or moves each of them.
use Rattle.std.proofs.Common.{◌≡◌, refl, sym, ◌∙◌, ap, subst, ℕ, ◌+◌, ◌≤◌, ◌<◌, List, [], ◌∷◌, ◌++◌, Bool, true, false, cond, ◌⊎◌, inl, inr, Option, None, Some, length, length-append, arith}
use Rattle.std.specs.Prelude.{◌==◌, ◌&&◌, ◌||◌, IsTrue, bytes_eq}
use Rattle.std.specs.List.{list_any, AllByRecursion}
use Rattle.std.proofs.lemmas.Bool.Decides.{Decides-eqb}
use Rattle.fleet_model.specs.Jobs.{JobSpec, is_drain, Job, Jobs, Submitted, Scheduled, has_status, is_active, contains, changed_jobs, put_job, ids}
use Rattle.fleet_model.specs.History.{Move}
use Rattle.fleet_model.specs.Work.Records.{new_job, with_new, to_completed, to_scheduled}
use Rattle.fleet_model.specs.Work.Gates.{is_nonempty, submit_gate}
use Rattle.fleet_model.specs.Trees.{tables_now}
use Rattle.fleet_model.specs.Work.PollStates.{PollInput, PollState, accepts}
use Rattle.fleet_model.specs.Work.Polls.{each, same_target, clashes, add_by, add_drawn, can_move, lost_to_scheduler, drain_job, move_job, schedule_job, open_by, open_job}
use Rattle.step_laws.proofs.Elements.{all_to, all_push}
use Rattle.coordinator_laws.proofs.Jobs.{new_push}
use Rattle.last_laws.specs.Weights.{IsHeavy, Lightens}
use Rattle.last_laws.proofs.Commits.{same_ids}
use Rattle.last_laws.proofs.PollWeights.{opened_lightens}

-- ---- the jobs that a poll adds

nonempty_push : {A : Type 0} (xs : List A) (x : A) → is_nonempty (xs ++ x ∷ []) ≡ true
nonempty_push [] x = refl
nonempty_push (y ∷ xs) x = refl

-- What the additions of a poll leave.
pub record Adds (base : Jobs) (old new : PollState) : Type 0 where
  pub jobs : new.jobs ≡ with_new new.added base
  pub heavy : AllByRecursion (λ q. IsHeavy q.1) new.added
  pub steps : new.steps ≡ old.steps
  pub trees : new.trees ≡ old.trees
  pub done : new.done ≡ old.done
  pub grows : is_nonempty old.added ≡ true → is_nonempty new.added ≡ true

pub adds_all : (base : Jobs) (place : ℕ) (drawn : List (ℕ × JobSpec)) (p : PollState) → p.jobs ≡ with_new p.added base → AllByRecursion (λ q. IsHeavy q.1) drawn → AllByRecursion (λ q. IsHeavy q.1) p.added → Adds base p (add_drawn place drawn p)
adds_all base place [] p is heavy before = record { jobs = is; heavy = before; steps = refl; trees = refl; done = refl; grows = λ some. some }
adds_all base place (d ∷ drawn) p is heavy before = by (list_any (clashes d.1) p.jobs) (λ q is before. adds_all base (place + 1) drawn q is heavy.1 before)
  where
    by : (b : Bool) → ((q : PollState) → q.jobs ≡ with_new q.added base → AllByRecursion (λ q. IsHeavy q.1) q.added → Adds base q (add_drawn (place + 1) drawn q)) → Adds base p (add_drawn (place + 1) drawn (add_by d.0 place d.1 b p))
    by true more = let a = more (add_by d.0 place d.1 true p) is before in record { jobs = a.jobs; heavy = a.heavy; steps = a.steps; trees = a.trees; done = a.done; grows = a.grows }
    by false more =
        let a = more (add_by d.0 place d.1 false p) (ap (put_job (new_job d)) is ∙ sym (new_push p.added d base)) (all_push (λ (q : ℕ × JobSpec). IsHeavy q.1) p.added d before heavy.0) in
        record { jobs = a.jobs; heavy = a.heavy; steps = a.steps; trees = a.trees; done = a.done; grows = λ some. a.grows (nonempty_push p.added d) }

none_clash : (spec : JobSpec) (jobs : Jobs) → AllByRecursion (λ job. is_active job ≡ false) jobs → list_any (clashes spec) jobs ≡ false
none_clash spec [] h = refl
none_clash spec (job ∷ jobs) h = ap (λ b. (b && same_target spec.destination job.spec.destination (bytes_eq spec.segment job.spec.segment)) || list_any (clashes spec) jobs) h.0 ∙ none_clash spec jobs h.1

-- Beside jobs that are over, a poll adds the first job at least.
pub first_added : (base : Jobs) (place : ℕ) (drawn : List (ℕ × JobSpec)) (p : PollState) → p.jobs ≡ with_new p.added base → AllByRecursion (λ q. IsHeavy q.1) drawn → p.added ≡ [] → AllByRecursion (λ job. is_active job ≡ false) p.jobs
    → (add_drawn place drawn p).added ≡ [] → drawn ≡ []
first_added base place [] p is heavy none over h = refl
first_added base place (d ∷ drawn) p is heavy none over h =
    let clear : list_any (clashes d.1) p.jobs ≡ false = none_clash d.1 p.jobs over in
    let q : PollState = add_by d.0 place d.1 false p in
    let a = adds_all base (place + 1) drawn q (ap (put_job (new_job d)) is ∙ sym (new_push p.added d base)) heavy.1 (subst (λ added. AllByRecursion (λ (q : ℕ × JobSpec). IsHeavy q.1) (added ++ d ∷ [])) (sym none) (heavy.0, tt)) in
    let some = a.grows (nonempty_push p.added d) in
    let empty = ap is_nonempty (sym (ap (λ b. (add_drawn (place + 1) drawn (add_by d.0 place d.1 b p)).added) clear) ∙ h) in
    absurd (cc (some, empty))

-- ---- the jobs that a poll opens

-- A job that is active lightens the trees, and waits for a worker without a context, or it is heavy, Submitted and
-- one of these.
abbrev pub IsCalmNew : List ℕ → Job → Type 0
IsCalmNew these job = IsTrue (is_active job) → (Lightens job.spec × (IsTrue (has_status Scheduled job) × (job.context ≡ None))) ⊎ (IsHeavy job.spec × (IsTrue (has_status Submitted job) × (contains these job.id ≡ true)))

-- Each job with this id has the same spec.
abbrev SameAt : Jobs → Job → Type 0
SameAt jobs job = AllByRecursion (λ other. job.id ≡ other.id → job.spec ≡ other.spec) jobs

same_on : (f : Job → Job) (these : List ℕ) (jobs : Jobs) (job : Job) → ((job : Job) → (f job).id ≡ job.id) → ((job : Job) → (f job).spec ≡ job.spec) → SameAt jobs job → SameAt (changed_jobs f these jobs) job
same_on f these [] job ids specs h = tt
same_on f these (other ∷ jobs) job ids specs h = (by (contains these other.id), same_on f these jobs job ids specs h.1)
  where
    by : (b : Bool) → job.id ≡ (cond b (f other) other).id → job.spec ≡ (cond b (f other) other).spec
    by true same = h.0 (same ∙ ids other) ∙ sym (specs other)
    by false same = h.0 same

left : (b c : Bool) → b ≡ false → cond b true c ≡ true → c ≡ true
left true c e h = absurd (cc e)
left false c e h = h

still_new : (id : ℕ) (these : List ℕ) (job : Job) → (id == job.id) ≡ false → IsCalmNew (id ∷ these) job → IsCalmNew these job
still_new id these job e calm active = by (calm active)
  where
    by : (Lightens job.spec × (IsTrue (has_status Scheduled job) × (job.context ≡ None))) ⊎ (IsHeavy job.spec × (IsTrue (has_status Submitted job) × (contains (id ∷ these) job.id ≡ true)))
        → (Lightens job.spec × (IsTrue (has_status Scheduled job) × (job.context ≡ None))) ⊎ (IsHeavy job.spec × (IsTrue (has_status Submitted job) × (contains these job.id ≡ true)))
    by (inl waits) = inl waits
    by (inr new) = inr (new.0, (new.1.0, left (id == job.id) (contains these job.id) e new.1.1))

calm_moved : (id : ℕ) (these : List ℕ) (jobs : Jobs) → AllByRecursion (IsCalmNew (id ∷ these)) jobs → AllByRecursion (IsCalmNew these) (changed_jobs to_completed (id ∷ []) jobs)
calm_moved id these [] h = tt
calm_moved id these (job ∷ jobs) h = (by (id == job.id) refl, calm_moved id these jobs h.1)
  where
    by : (b : Bool) → (id == job.id) ≡ b → IsCalmNew these (cond (cond b true false) (to_completed job) job)
    by true e active = absurd (cc active)
    by false e active = still_new id these job e h.0 active

calm_opened : (tables_of : JobSpec → List ℕ) (id : ℕ) (these : List ℕ) (jobs : Jobs) → AllByRecursion (λ job. id ≡ job.id → Lightens job.spec) jobs → AllByRecursion (IsCalmNew (id ∷ these)) jobs
    → AllByRecursion (IsCalmNew these) (changed_jobs (to_scheduled tables_of) (id ∷ []) jobs)
calm_opened tables_of id these [] heavy h = tt
calm_opened tables_of id these (job ∷ jobs) heavy h = (by (id == job.id) refl, calm_opened tables_of id these jobs heavy.1 h.1)
  where
    by : (b : Bool) → (id == job.id) ≡ b → IsCalmNew these (cond (cond b true false) (to_scheduled tables_of job) job)
    by true e active = inl (heavy.0 ((Decides-eqb id job.id).0 e), (refl, refl))
    by false e active = still_new id these job e h.0 active

-- After a job was opened, a job is active.
opened_active : (tables_of : JobSpec → List ℕ) (id : ℕ) (jobs : Jobs) → contains (ids jobs) id ≡ true → list_any is_active (changed_jobs (to_scheduled tables_of) (id ∷ []) jobs) ≡ true
opened_active tables_of id [] there = absurd (cc there)
opened_active tables_of id (job ∷ jobs) there = by (job.id == id) refl (opened_active tables_of id jobs)
  where
    or_true : (b : Bool) → (b || true) ≡ true
    or_true true = refl
    or_true false = refl

    by : (b : Bool) → (job.id == id) ≡ b → (contains (ids jobs) id ≡ true → list_any is_active (changed_jobs (to_scheduled tables_of) (id ∷ []) jobs) ≡ true)
        → list_any is_active (changed_jobs (to_scheduled tables_of) (id ∷ []) (job ∷ jobs)) ≡ true
    by true e rest = ap (λ b. is_active (cond (cond b true false) (to_scheduled tables_of job) job) || list_any is_active (changed_jobs (to_scheduled tables_of) (id ∷ []) jobs)) ((Decides-eqb id job.id).1 (sym ((Decides-eqb job.id id).0 e)))
    by false e rest = ap (λ b. is_active (cond (contains (id ∷ []) job.id) (to_scheduled tables_of job) job) || b) (rest (left (job.id == id) (contains (ids jobs) id) e there)) ∙ or_true (is_active (cond (contains (id ∷ []) job.id) (to_scheduled tables_of job) job))

-- A poll that refused no job has refused none before.
empty_push : {A : Type 0} (xs : List A) (x : A) → xs ++ x ∷ [] ≡ [] → ⊥
empty_push [] x h = cc h
empty_push (y ∷ xs) x h = cc h

open_refused : (input : PollInput) (job : Job) (p : PollState) (gate : Option ℕ) → (open_by input job gate p).refused ≡ [] → p.refused ≡ []
open_refused input job p (Some rule) h = absurd (empty_push p.refused (job.id, rule) h)
open_refused input job p None h = by (is_drain job.spec) (can_move input p.trees job.spec) h
  where
    by : (a b : Bool) → (cond a (drain_job input job p) (cond b (move_job input job p) (schedule_job job p))).refused ≡ [] → p.refused ≡ []
    by true b h = h
    by false true h = h
    by false false h = h

none_refused : (input : PollInput) (jobs : Jobs) (p : PollState) → (each (open_job input) jobs p).refused ≡ [] → p.refused ≡ []
none_refused input [] p h = h
none_refused input (job ∷ jobs) p h = open_refused input job p (submit_gate p.trees p.jobs (lost_to_scheduler p.lost) (accepts input p) job) (none_refused input jobs (open_job input job p) h)

-- What opening these jobs leaves.
pub record Opened (jobs : Jobs) (old new : PollState) : Type 0 where
  pub calm : AllByRecursion (IsCalmNew []) new.jobs
  pub steps : length old.steps ≤ length new.steps
  pub works : is_nonempty jobs ≡ true → (length old.steps < length new.steps) ⊎ (list_any is_active new.jobs ≡ true)
  pub added : new.added ≡ old.added
  pub done : new.done ≡ old.done

-- If a poll refuses none of these submitted jobs, each is opened or moved. So a step was taken, or a job is active.
pub opens_all : (input : PollInput) (jobs : Jobs) (p : PollState) → AllByRecursion (λ job. IsHeavy job.spec) jobs → AllByRecursion (SameAt p.jobs) jobs → AllByRecursion (λ job. contains (ids p.jobs) job.id ≡ true) jobs
    → AllByRecursion (IsCalmNew (ids jobs)) p.jobs → (each (open_job input) jobs p).refused ≡ [] → Opened jobs p (each (open_job input) jobs p)
opens_all input [] p heavy at there calm none = record { calm = calm; steps = omega arith; works = λ some. absurd (cc some); added = refl; done = refl }
opens_all input (job ∷ jobs) p heavy at there calm none =
    gate (submit_gate p.trees p.jobs (lost_to_scheduler p.lost) (accepts input p) job) refl none (λ q at there calm none. opens_all input jobs q heavy.1 at there calm none)
  where
    Rest : Type 0
    Rest = (q : PollState) → AllByRecursion (SameAt q.jobs) jobs → AllByRecursion (λ job. contains (ids q.jobs) job.id ≡ true) jobs → AllByRecursion (IsCalmNew (ids jobs)) q.jobs → (each (open_job input) jobs q).refused ≡ []
        → Opened jobs q (each (open_job input) jobs q)

    moved : Rest → (each (open_job input) jobs (move_job input job p)).refused ≡ [] → Opened (job ∷ jobs) p (each (open_job input) jobs (move_job input job p))
    moved rest none =
        let q = move_job input job p in
        let o = rest q (all_to _ _ jobs (λ other one h. same_on to_completed (job.id ∷ []) p.jobs other (λ j. refl) (λ j. refl) h) at.1)
        (subst (λ ids. AllByRecursion (λ (job : Job). contains ids job.id ≡ true) jobs) (sym (same_ids to_completed (job.id ∷ []) p.jobs (λ j. refl))) there.1)
        (calm_moved job.id (ids jobs) p.jobs calm) none in
        let more = length-append p.steps (Move job.id ∷ []) in
        let steps = o.steps in
        record { calm = o.calm; steps = omega (arith, more, steps); works = λ some. inl (omega (arith, more, steps)); added = o.added; done = o.done }

    last : (others : Jobs) → jobs ≡ others → (is_nonempty jobs ≡ true → (length p.steps < length (each (open_job input) jobs (schedule_job job p)).steps) ⊎ (list_any is_active (each (open_job input) jobs (schedule_job job p)).jobs ≡ true))
        → (length p.steps < length (each (open_job input) jobs (schedule_job job p)).steps) ⊎ (list_any is_active (each (open_job input) jobs (schedule_job job p)).jobs ≡ true)
    last [] e works = inr (ap (λ js. list_any is_active (each (open_job input) js (schedule_job job p)).jobs) e ∙ opened_active (tables_now p.trees) job.id p.jobs there.0)
    last (other ∷ others) e works = works (ap is_nonempty e)

    scheduled : Rest → Lightens job.spec → (each (open_job input) jobs (schedule_job job p)).refused ≡ [] → Opened (job ∷ jobs) p (each (open_job input) jobs (schedule_job job p))
    scheduled rest light none =
        let q = schedule_job job p in
        let o = rest q (all_to _ _ jobs (λ other one h. same_on (to_scheduled (tables_now p.trees)) (job.id ∷ []) p.jobs other (λ j. refl) (λ j. refl) h) at.1)
        (subst (λ ids. AllByRecursion (λ (job : Job). contains ids job.id ≡ true) jobs) (sym (same_ids (to_scheduled (tables_now p.trees)) (job.id ∷ []) p.jobs (λ j. refl))) there.1)
        (calm_opened (tables_now p.trees) job.id (ids jobs) p.jobs (all_to _ _ p.jobs (λ other one same is. subst Lightens (same is) light) at.0) calm) none in
        record { calm = o.calm; steps = o.steps; works = λ some. last jobs refl o.works; added = o.added; done = o.done }

    opened : Lightens job.spec → (drains : Bool) → drains ≡ false → (moves : Bool) → (each (open_job input) jobs (cond drains (drain_job input job p) (cond moves (move_job input job p) (schedule_job job p)))).refused ≡ [] → Rest
        → Opened (job ∷ jobs) p (each (open_job input) jobs (cond drains (drain_job input job p) (cond moves (move_job input job p) (schedule_job job p))))
    opened light true makes moves none rest = absurd (cc makes)
    opened light false makes true none rest = moved rest none
    opened light false makes false none rest = scheduled rest light none

    gate : (g : Option ℕ) → submit_gate p.trees p.jobs (lost_to_scheduler p.lost) (accepts input p) job ≡ g → (each (open_job input) jobs (open_by input job g p)).refused ≡ [] → Rest → Opened (job ∷ jobs) p (each (open_job input) jobs (open_by input job g p))
    gate (Some rule) e none rest = absurd (empty_push p.refused (job.id, rule) (none_refused input jobs (open_by input job (Some rule) p) none))
    gate None e none rest = opened (opened_lightens p.trees p.jobs (lost_to_scheduler p.lost) (accepts input p) job e heavy.0) (is_drain job.spec) heavy.0.makes_run (can_move input p.trees job.spec) none rest
