-- The jobs that a coordinator holds after a poll merge with the stored ones.
use Rattle.std.proofs.Common.{◌≡◌, refl, sym, ◌∙◌, ap, subst, ◌<◌, [], ◌∷◌, cond, Bool, true, false, inl, inr, ◌⊎◌, Option, Some, None, arith}
use Rattle.std.specs.Prelude.{IsTrue, ◌&&◌, ◌||◌, nat_lt, ⊤}
use Rattle.std.specs.List.{AllByRecursion}
use Rattle.std.specs.Option.{option_or}
use Rattle.std.proofs.lemmas.Bool.{lt-ltb, ltb-true}
use Rattle.row_model.specs.Lists.{Pairs}
use Rattle.fleet_model.specs.Jobs.{Job, Jobs, Status, Submitted, Scheduled, Running, Compacted, Completed, Failed, job_with, trimmed_jobs, is_active, is_finished, finished_later}
use Rattle.step_model.specs.Steps.Merging.{Local, adopts, is_taken_new, taken_job}
use Rattle.step_model.specs.Fits.{IsOutlived, IsStillStored, JobsMerge}
use Rattle.step_laws.proofs.Elements.{IsIn, all_at, all_from, all_to, any_element, any_of}
use Rattle.step_laws.proofs.Changed.{in_trimmed, job_found}
use Rattle.rival_laws.proofs.JobsMerged.{none_with}
use Rattle.course_laws.proofs.Calls.{both}
use Rattle.commit_laws.proofs.Midway.{only_job}
use Rattle.coordinator_laws.specs.Locals.{job_held}
use Rattle.coordinator_laws.proofs.Jobs.{IsSubmitted}
use Rattle.coordinator_laws.proofs.Statuses.{status_of, over_not_open}
use Rattle.coordinator_laws.proofs.Quiet.{JobMoves, Stays, Goes, MovedJob, Moves, id_moves}
use Rattle.coordinator_laws.proofs.Adoption.{taken_did}
use Rattle.rival_laws.proofs.WorkerRecords.{some_same}

-- ---- jobs that a put drops

-- A finished job among these.
record Finished (jobs : Jobs) : Type 0 where
  job : Job
  there : IsIn job jobs
  over : IsTrue (is_finished job.status)

-- A put keeps a finished job, if there is one.
finished_kept : (jobs : Jobs) → finished_later jobs ≡ true → Finished (trimmed_jobs jobs)
finished_kept [] e = absurd (cc e)
finished_kept (job ∷ jobs) e = by (is_finished job.status) refl (finished_later jobs) refl e (finished_kept jobs)
  where
    front : Finished (trimmed_jobs jobs) → Finished (job ∷ trimmed_jobs jobs)
    front f = record { job = f.job; there = inr f.there; over = f.over }

    by : (over : Bool) → is_finished job.status ≡ over → (later : Bool) → finished_later jobs ≡ later → (over || later) ≡ true → (finished_later jobs ≡ true → Finished (trimmed_jobs jobs))
        → Finished (cond (cond over false true) (job ∷ trimmed_jobs jobs) (cond later (trimmed_jobs jobs) (job ∷ trimmed_jobs jobs)))
    by true f true g e rest = rest g
    by true f false g e rest = record { job = job; there = inl refl; over = f }
    by false f true g e rest = front (rest g)
    by false f false g e rest = absurd (cc e)

-- A job that outlives this one.
pub record Outlives (jobs : Jobs) (job : Job) : Type 0 where
  pub other : Job
  pub there : IsIn other jobs
  pub over : IsTrue (is_finished other.status)
  pub low : job.id < other.id

pub outlives : (jobs : Jobs) (job : Job) → IsOutlived jobs job → Outlives jobs job
outlives jobs job h =
    let found = any_element (λ (o : Job). is_finished o.status && nat_lt job.id o.id) jobs h in
    let two = both (is_finished found.element.status) (nat_lt job.id found.element.id) found.passes in
    record { other = found.element; there = found.there; over = two.0; low = ltb-true job.id found.element.id two.1 }

pub outlived : (jobs : Jobs) (job : Job) → Outlives jobs job → IsOutlived jobs job
outlived jobs job o = any_of (λ (x : Job). is_finished x.status && nat_lt job.id x.id) jobs o.other o.there (rw (o.over, lt-ltb job.id o.other.id o.low) refl)

-- A put keeps the job, or the job is finished and a later finished one is kept.
pub data Kept (jobs : Jobs) (job : Job) : Type 0 where
  IsKept : IsIn job (trimmed_jobs jobs) → Kept jobs job
  IsDropped : IsTrue (is_finished job.status) → Outlives (trimmed_jobs jobs) job → Kept jobs job

in_tail : (jobs : Jobs) (first x : Job) → IsIn x (trimmed_jobs jobs) → IsIn x (trimmed_jobs (first ∷ jobs))
in_tail jobs first x there = by (is_active first) (finished_later jobs)
  where
    by : (active later : Bool) → IsIn x (cond active (first ∷ trimmed_jobs jobs) (cond later (trimmed_jobs jobs) (first ∷ trimmed_jobs jobs)))
    by true later = inr there
    by false true = there
    by false false = inr there

-- Of jobs with rising ids, a put keeps each one, or that job is finished and a later finished one is kept.
pub kept_or_outlived : (jobs : Jobs) (job : Job) → Pairs (λ a b. a.id < b.id) jobs → IsIn job jobs → Kept jobs job
kept_or_outlived [] job rise there = absurd there
kept_or_outlived (first ∷ jobs) job rise (inr there) = by (kept_or_outlived jobs job rise.1 there)
  where
    by : Kept jobs job → Kept (first ∷ jobs) job
    by (IsKept one) = IsKept (in_tail jobs first job one)
    by (IsDropped over o) = IsDropped over (record { other = o.other; there = in_tail jobs first o.other o.there; over = o.over; low = o.low })
kept_or_outlived (first ∷ jobs) job rise (inl same) = subst (Kept (first ∷ jobs)) same (by (is_finished first.status) refl (finished_later jobs) refl)
  where
    dropped : IsTrue (is_finished first.status) → Finished (trimmed_jobs jobs) → Kept (first ∷ jobs) first
    dropped over f = IsDropped over (record {
      other = f.job;
      there = in_tail jobs first f.job f.there;
      over = f.over;
      low = all_at (λ (x : Job). first.id < x.id) jobs f.job rise.0 (in_trimmed jobs f.job f.there);
    })

    by : (over : Bool) → is_finished first.status ≡ over → (later : Bool) → finished_later jobs ≡ later → Kept (first ∷ jobs) first
    by true f true g = dropped f (finished_kept jobs g)
    by true f false g = IsKept (rw (f, g) (inl refl))
    by false f later g = IsKept (rw f (inl refl))

outlived_on : (jobs : Jobs) (job : Job) → Pairs (λ a b. a.id < b.id) jobs → IsOutlived jobs job → IsOutlived (trimmed_jobs jobs) job
outlived_on jobs job rise h = by (kept_or_outlived jobs o.other rise o.there)
  where
    o : Outlives jobs job
    o = outlives jobs job h

    by : Kept jobs o.other → IsOutlived (trimmed_jobs jobs) job
    by (IsKept one) = outlived (trimmed_jobs jobs) job (record { other = o.other; there = one; over = o.over; low = o.low })
    by (IsDropped over p) = let first = o.low in let second = p.low in outlived (trimmed_jobs jobs) job (record { other = p.other; there = p.there; over = p.over; low = omega (arith, first, second) })

-- ---- after a put of the records

pub itself : (job : Job) → taken_job (Some job) job ≡ Some job
itself job = by (adopts job.status job.status)
  where
    by : (b : Bool) → Some (cond b job job) ≡ Some job
    by true = refl
    by false = refl

-- A job that was held before and that the poll did not reach is finished, and a finished job that the poll reached outlives it.
abbrev pub AreOver : Option Local → Jobs → Type 0
AreOver before jobs = (job : Job) → job_with job.id jobs ≡ None → job_held before job.id ≡ Some job → IsTrue (is_finished job.status) × IsOutlived jobs job

-- The jobs that a put of the records leaves merge into any jobs that the coordinator may hold after it.
pub merge_put : (before : Option Local) (jobs held : Jobs) → Pairs (λ a b. a.id < b.id) jobs → AllByRecursion (λ job. job_with job.id held ≡ Some job) (trimmed_jobs jobs)
    → AllByRecursion (λ job. option_or (job_with job.id jobs) (job_held before job.id) ≡ Some job) held → AreOver before jobs → JobsMerge held (trimmed_jobs jobs)
merge_put before jobs held rise kept only old = record {
  stored_stay = all_to _ _ (trimmed_jobs jobs) (λ job there found. ap (λ o. taken_job o job) found ∙ itself job) kept;
  local_stay = all_to _ _ held (λ job there one. by job (job_with job.id (trimmed_jobs jobs)) refl one) only;
}
  where
    by : (job : Job) (o : Option Job) → job_with job.id (trimmed_jobs jobs) ≡ o → option_or (job_with job.id jobs) (job_held before job.id) ≡ Some job → IsStillStored (trimmed_jobs jobs) job o
    by job (Some other) e one = tt
    by job None e one = at (job_with job.id jobs) refl one
      where
        gone : Kept jobs job → IsTrue (is_finished job.status) × IsOutlived (trimmed_jobs jobs) job
        gone (IsKept here) = absurd (none_with job.id (trimmed_jobs jobs) job e here refl)
        gone (IsDropped over o) = (over, outlived (trimmed_jobs jobs) job o)

        older : IsTrue (is_finished job.status) × IsOutlived jobs job → IsTrue (is_finished job.status) × IsOutlived (trimmed_jobs jobs) job
        older o = (o.0, outlived_on jobs job rise o.1)

        at : (o : Option Job) → job_with job.id jobs ≡ o → option_or o (job_held before job.id) ≡ Some job → IsTrue (is_finished job.status) × IsOutlived (trimmed_jobs jobs) job
        at (Some x) f g = gone (kept_or_outlived jobs job rise (subst (λ (y : Job). IsIn y jobs) (some_same x job g) (job_found job.id jobs x f).there))
        at None f g = older (old job f g)

-- ---- without a put of the records

-- If there is a local state, merging the stored jobs into its jobs gives the stored ones.
abbrev pub JobsMergeIfThere : Option Local → Jobs → Type 0
JobsMergeIfThere None stored = ⊤
JobsMergeIfThere (Some local) stored = JobsMerge local.records.jobs stored

taken_moved : (old new : Job) → JobMoves old new → taken_job (Some old) new ≡ Some new
taken_moved old new moves = taken_did false false false false [] old new (record { runs = λ e. absurd (cc e); waits = λ e. absurd (cc e); ends = λ e. absurd (cc e); fails = λ e. absurd (cc e) }) moves

new_if_over : (s : Status) → IsTrue (is_finished s) → is_taken_new s ≡ true
new_if_over Completed h = refl
new_if_over Failed h = refl
new_if_over Submitted h = absurd (cc h)
new_if_over Scheduled h = absurd (cc h)
new_if_over Running h = absurd (cc h)
new_if_over Compacted h = absurd (cc h)

taken_over : (job : Job) → is_taken_new job.status ≡ true → taken_job None job ≡ Some job
taken_over job e = ap (λ b. cond b (Some job) None) e

-- If a poll put no records, the stored jobs merge into any jobs that the coordinator may hold after it.
pub merge_still : (before : Option Local) (got stored held : Jobs) → Pairs (λ a b. a.id < b.id) got → Moves got stored → AllByRecursion (λ job. job_with job.id held ≡ Some job) (trimmed_jobs got)
    → AllByRecursion (λ job. option_or (job_with job.id got) (job_held before job.id) ≡ Some job) held → JobsMergeIfThere before stored → JobsMerge held stored
merge_still before got stored held rise moves kept only old = record {
  stored_stay = all_from _ stored (λ s there. by s there (job_with s.id held) refl);
  local_stay = all_to _ _ held (λ job there one. still job (job_with job.id stored) refl (job_with job.id got) refl one) only;
}
  where
    older : (o : Option Local) (s l : Job) → IsIn s stored → l.id ≡ s.id → job_held o l.id ≡ Some l → JobsMergeIfThere o stored → taken_job (Some l) s ≡ Some s
    older None s l there same e h = absurd (never e)
      where
        never : None ≡ Some l → ⊥
        never f = absurd (cc f)
    older (Some local) s l there same e h = ap (λ o. taken_job o s) (sym (ap (λ n. job_with n local.records.jobs) (sym same) ∙ e)) ∙ all_at _ stored s h.stored_stay there

    from_got : (s b : Job) → IsIn b got → b.id ≡ s.id → MovedJob got s ⊎ (IsSubmitted s × ((other : Job) → IsIn other got → other.id ≡ s.id → ⊥)) → taken_job (Some b) s ≡ Some s
    from_got s b there same (inl m) = subst (λ (x : Job). taken_job (Some x) s ≡ Some s) (only_job got m.job b rise m.there there (sym (id_moves m.job s m.moves) ∙ sym same)) (taken_moved m.job s m.moves)
    from_got s b there same (inr new) = absurd (new.1 b there same)

    found : (s l : Job) → IsIn s stored → IsIn l held → l.id ≡ s.id → (o : Option Job) → job_with l.id got ≡ o → option_or o (job_held before l.id) ≡ Some l → taken_job (Some l) s ≡ Some s
    found s l there here same (Some b) e f =
        let one = job_found l.id got b e in
        subst (λ (x : Job). taken_job (Some x) s ≡ Some s) (some_same b l f) (from_got s b one.there (one.same ∙ same) (moves.from s there))
    found s l there here same None e f = older before s l there same f old

    lacks : (s : Job) → job_with s.id held ≡ None → MovedJob got s ⊎ (IsSubmitted s × ((other : Job) → IsIn other got → other.id ≡ s.id → ⊥)) → is_taken_new s.status ≡ true
    lacks s e (inr new) = ap is_taken_new (sym (status_of Submitted s.status new.0))
    lacks s e (inl m) = at (kept_or_outlived got m.job rise m.there)
      where
        clash : None ≡ Some m.job → ⊥
        clash f = absurd (cc f)

        over : IsTrue (is_finished m.job.status) → JobMoves m.job s → is_taken_new s.status ≡ true
        over h (Stays same) = new_if_over s.status (subst (λ (x : Job). IsTrue (is_finished x.status)) (sym same) h)
        over h (Goes was is id spec tables) = absurd (over_not_open m.job.status h was)

        at : Kept got m.job → is_taken_new s.status ≡ true
        at (IsKept one) = absurd (clash (sym (ap (λ n. job_with n held) (sym (id_moves m.job s m.moves)) ∙ e) ∙ all_at _ (trimmed_jobs got) m.job kept one))
        at (IsDropped h o) = over h m.moves

    by : (s : Job) → IsIn s stored → (o : Option Job) → job_with s.id held ≡ o → taken_job o s ≡ Some s
    by s there (Some l) e = let one = job_found s.id held l e in found s l there one.there one.same (job_with l.id got) refl (all_at _ held l only one.there)
    by s there None e = taken_over s (lacks s e (moves.from s there))

    kept_old : (o : Option Local) (job : Job) → job_with job.id stored ≡ None → job_held o job.id ≡ Some job → JobsMergeIfThere o stored → IsTrue (is_finished job.status) × IsOutlived stored job
    kept_old None job e f h = absurd (never f)
      where
        never : None ≡ Some job → ⊥
        never g = absurd (cc g)
    kept_old (Some local) job e f h = subst (IsStillStored stored job) e (all_at (λ (x : Job). IsStillStored stored x (job_with x.id stored)) local.records.jobs job h.local_stay (job_found job.id local.records.jobs job f).there)

    still : (job : Job) (o : Option Job) → job_with job.id stored ≡ o → (g : Option Job) → job_with job.id got ≡ g → option_or g (job_held before job.id) ≡ Some job → IsStillStored stored job o
    still job (Some other) e g f one = tt
    still job None e (Some b) f one =
        let here = job_found job.id got b f in
        let next = moves.there b here.there in
        absurd (none_with job.id stored next.job e next.there (id_moves b next.job next.moves ∙ here.same))
    still job None e None f one = kept_old before job e one old
