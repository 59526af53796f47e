-- The turns of the end of a job.
use Rattle.std.proofs.Common.{◌≡◌, refl, sym, ◌∙◌, ap, subst, ℕ, suc, ◌+◌, ◌&&◌, Bool, true, false, cond, not, map, List, [], ◌∷◌, Option, Some, None, option_map, Result, Ok, Err, add-one}
use Rattle.std.specs.Prelude.{filter, is_some, IfSome}
use Rattle.std.specs.Bool.{OnFalse}
use Rattle.row_model.specs.Fold.{IsLawful}
use Rattle.fleet_model.specs.Exchanges.{PutsRecords}
use Rattle.fleet_model.specs.History as model
use Rattle.fleet_model.specs.Jobs.{Jobs, contains}
use Rattle.fleet_model.specs.Work.Parties.{Attempt, is_live}
use Rattle.fleet_model.specs.Store.{Store}
use Rattle.step_model.specs.Courses.Course.{Course, Ends}
use Rattle.step_model.specs.Courses.CourseRuns.{Gives, IsLawfulCourse}
use Rattle.step_model.specs.Fits.{WorkerHolds}
use Rattle.step_model.specs.Later.{IsLater}
use Rattle.step_model.specs.Steps.MessageSteps.{attempt_run, ends_run, take_finished}
use Rattle.step_model.specs.Steps.FinishSteps.{FinishedJob, end_job, ends_job}
use Rattle.step_model.specs.Rivals.{Caller}
use Rattle.step_model.specs.Courses.StepEnds.{StepEnd, NotOwner, Reports}
use Rattle.step_model.specs.Courses.Tries.{tries}
use Rattle.step_model.specs.Views.{StoreView}
use Rattle.commit_laws.proofs.AllCalls.{calls_keep}
use Rattle.course_laws.proofs.Messages.{messages_are_lawful}
use Rattle.worker_laws.proofs.Fewer.{fewer_attempts_fit}
use Rattle.worker_laws.proofs.Messages.{messages_keep_fit}
use Rattle.fleet_rows.specs.declared.errors.SlateDBError.{SlateDBError}
use Rattle.fleet_rows.specs.declared.errors.SlateDBError.TheVariants as error
use Rattle.fleet_jobs.specs.Contexts.{table_ids}
use Rattle.fleet_jobs.specs.Jobs.{jobs_of}
use Rattle.fleet_book.specs.VersionedRecords.{VersionedRecords}
use Rattle.fleet_book.specs.Versions.{records_of}
use Rattle.fleet_store.proofs.Later.{all_described}
use Rattle.fleet_finish.specs.Puts.{AreShown, IsFinishPut, Outputs}
use Rattle.fleet_finish.specs.declared.put.FinishPut.{FinishPut}
use Rattle.fleet_step.specs.Steps.{Leads, RunsTo, StepRan, TryRan, puts_and, stops}
use Rattle.fleet_step.proofs.Steps.{begins, gives, then_tried, tried}
use Rattle.fleet_worker.specs.Claims.{without_parts}
use Rattle.fleet_worker.specs.Finishes.{Finishes, IsResult, MayFinish, disowns, done_ends, end_of_job, ended_by, finish_ends, finished_job, left_after, one_finish}
use Rattle.fleet_worker.specs.Messages.{attempt_with}
use Rattle.fleet_worker.specs.Workers.{AttemptParts, IsReady, MayStep, WorkerParts, attempt_of, live_of}
use Rattle.fleet_worker.proofs.Inserted.{without_same}
use Rattle.fleet_worker.proofs.Later.{some_noted}
use Rattle.fleet_worker.proofs.Ready.{IsSafe, ready_after}
use Rattle.fleet_worker.proofs.Returns.{at_job, run_same}

-- ---- exits

-- The step ends since the worker does not own the job.
pub is_not_owner : {A B : Type 0} {ends : A → StepEnd B} {course rest : Course (StepEnd B)} {again : ℕ → Course (StepEnd B)} {old mid : StoreView} → Leads course old rest mid → rest ≡ Ends NotOwner → TryRan ends course again old mid (Err error.NotOwner)
is_not_owner {ends = ends} {mid = mid} lead is = then_tried ends lead (tried ends refl (record { to_end = rw is (gives NotOwner mid) }))

-- ---- the put

same_put : (v v' : ℕ) (c c' : model.RecordChange) (e e' : ℕ) (j j' : Jobs) (next : Course (StepEnd FinishedJob)) (again : ℕ → Course (StepEnd FinishedJob)) → v ≡ v' → c ≡ c' → e ≡ e' → j ≡ j'
    → puts_and (PutsRecords v c e j) v next again ≡ puts_and (PutsRecords v' c' e' j') v' next again
same_put v v' c c' e e' j j' next again p q r s = rw (p, q, r, s) refl

module _ (moment : ℕ) (w : WorkerParts) (a : AttemptParts) (outputs : Outputs) (got : VersionedRecords) where
  -- The put ends its job.
  pub finishes_by : is_live (jobs_of got.compactions.jobs) w.number (attempt_of a) ≡ true → (put : FinishPut) → IsFinishPut (ended_by moment w a) outputs got put → Finishes moment w a outputs (Some got) put
  finishes_by alive put is = record {
    next = λ again.
        ap (λ b. ends_job moment (live_of w) (attempt_of a) (map table_ids outputs) (records_of got) b again) alive
        ∙ same_put _ _ _ _ _ _ _ _ (Ends (done_ends w a outputs tt)) again (sym is.at) (sym is.why) (sym is.made.epoch) (sym is.made.jobs);
    described = is.made.described;
  }

-- The tables are still described in a later store.
pub still_shown : (old new : Store) (outputs : Outputs) → IsLater old new → AreShown outputs old → AreShown outputs new
still_shown old new [] later all = tt
still_shown old new (tables ∷ outputs) later all = (all_described old new later tables all.0, still_shown old new outputs later all.1)

-- ---- tries

-- The end of the job of an attempt with these tables.
module _ (moment : ℕ) (w : WorkerParts) (a : AttemptParts) (outputs : Outputs) where
  end_is : end_of_job moment w a outputs ≡ tries (one_finish moment w a outputs) 64 0
  unfolding end_job
  end_is = refl

  pub first_end : (view : StoreView) → Leads (end_of_job moment w a outputs) view (tries (one_finish moment w a outputs) 64 0) view
  first_end view = subst (λ (course : Course (StepEnd FinishedJob)). Leads (end_of_job moment w a outputs) view course view) end_is (begins (end_of_job moment w a outputs) view)

  -- The next try may be made.
  pub may_finish : (old view : StoreView) (left seen after : ℕ) → IsLawfulCourse old.who old.world (end_of_job moment w a outputs) → Leads (end_of_job moment w a outputs) old (tries (one_finish moment w a outputs) left seen) view → left ≡ after + 1 → MayFinish view moment w a outputs
  may_finish old view left seen after lawful lead more = (
    tries (one_finish moment w a outputs) after,
    subst (λ (who : Caller). IsLawfulCourse who view.world (tries (one_finish moment w a outputs) (suc after) seen)) (sym lead.same.who)
        (subst (λ n. IsLawfulCourse old.who view.world (tries (one_finish moment w a outputs) n seen)) (more ∙ add-one after) (lead.lawful lawful)),
  )

module _ (moment : ℕ) (w : WorkerParts) (job number : ℕ) (outputs : Outputs) where
  abbrev ends_it : Course (StepEnd FinishedJob)
  ends_it = take_finished moment (live_of w) job number (map table_ids outputs)

  -- The step is safe for a worker that may make one.
  pub finish_safe : (view : StoreView) → IsLawful view.who.merge → MayStep view (live_of w) → IsResult view w job number outputs → IsSafe view (live_of w) (λ (report : FinishedJob). report.attempts) ends_it
  finish_safe view merges may fits = record {
    lawful = messages_are_lawful.finished view.who view.world moment (live_of w) job number (map table_ids outputs) (calls_keep view.who.merge merges) may.party may.keeps may.holds fits.whole;
    fits = (messages_keep_fit.finished view.who view.world moment (live_of w) job number (map table_ids outputs) (calls_keep view.who.merge merges) may.party may.keeps may.holds fits.whole).0;
  }

  -- The worker does not run the attempt.
  pub not_run : (view : StoreView) (ends : Unit {0} → StepEnd FinishedJob) → attempt_with w.attempts job number ≡ None → StepRan ends ends_it view view (Err error.NotOwner)
  unfolding take_finished
  not_run view ends none = record { to_end = rw (run_same w job number, none) (gives NotOwner view) }

  module _ (a : AttemptParts) (run : attempt_with w.attempts job number ≡ Some a) where
    is_run : attempt_run (live_of w) job number ≡ Some (attempt_of a)
    is_run = run_same w job number ∙ ap (option_map attempt_of) run

    is_end : ends_it ≡ end_of_job moment w a outputs
    unfolding take_finished
    is_end = ap (ends_run moment (live_of w) (map table_ids outputs)) is_run

    -- The end of the job is lawful if the step is.
    pub lawful_end : (view : StoreView) → IsLawfulCourse view.who view.world ends_it → IsLawfulCourse view.who view.world (end_of_job moment w a outputs)
    lawful_end view lawful = subst (λ (course : Course (StepEnd FinishedJob)). IsLawfulCourse view.who view.world course) is_end lawful

    -- The tables are described.
    pub shown_at : (view : StoreView) → IsResult view w job number outputs → AreShown outputs view.world.store
    shown_at view fits = subst (λ found. IfSome found (λ (b : Attempt). AreShown outputs view.world.store)) is_run fits.shown

    -- The end of the step, as the worker is then.
    ends_same : done_ends w a outputs ≡ finish_ends outputs (without_parts (job ∷ []) w.attempts)
    ends_same =
        ap (λ j done. Reports (finished_job outputs (filter (λ b. not (contains (j ∷ []) b.job)) (live_of w).attempts))) (at_job w job number a run)
        ∙ ap (λ xs done. Reports (finished_job outputs xs)) (sym (without_same (job ∷ []) w.attempts))

    pub ended_so : (old new : StoreView) (result : Result (Unit {0}) SlateDBError) → StepRan (done_ends w a outputs) (end_of_job moment w a outputs) old new result → StepRan (finish_ends outputs (without_parts (job ∷ []) w.attempts)) ends_it old new result
    ended_so old new result ran =
        subst (λ ends. StepRan ends ends_it old new result) ends_same
        (subst (λ (course : Course (StepEnd FinishedJob)). StepRan (done_ends w a outputs) course old new result) (sym is_end) ran)

  -- ---- after the step

  -- A step that ended the job ended an attempt that the worker ran.
  did_run : (old new : StoreView) (ends : Unit {0} → FinishedJob) → RunsTo ends_it old new (Gives (Reports (ends tt))) → is_some (attempt_with w.attempts job number) ≡ true
  unfolding take_finished
  did_run old new ends runs = by (attempt_with w.attempts job number) (run_same w job number) runs
    where
      by : (found : Option AttemptParts) → attempt_run (live_of w) job number ≡ option_map attempt_of found → RunsTo (ends_run moment (live_of w) (map table_ids outputs) (attempt_run (live_of w) job number)) old new (Gives (Reports (ends tt))) → is_some found ≡ true
      by (Some a) is runs = refl
      by None is runs = none (subst (λ found. RunsTo (ends_run moment (live_of w) (map table_ids outputs) found) old new (Gives (Reports (ends tt)))) is runs)
        where
          none : RunsTo (Ends NotOwner) old new (Gives (Reports (ends tt))) → false ≡ true
          none runs = absurd (cc runs.ran.1.1)

  left_is : (old new : StoreView) (next : List AttemptParts) (done : Unit {0}) → StepRan (finish_ends outputs next) ends_it old new (Ok done) → left_after (Ok done) job number w.attempts ≡ without_parts (job ∷ []) w.attempts
  left_is old new next done ran = ap (λ b. cond b (without_parts (job ∷ []) w.attempts) w.attempts) (did_run old new (λ done. finished_job outputs (map attempt_of next)) ran.to_end)

  -- The result tells the end of the run with the attempts that are left.
  pub left_ran : (old new : StoreView) (result : Result (Unit {0}) SlateDBError) → StepRan (finish_ends outputs (without_parts (job ∷ []) w.attempts)) ends_it old new result → StepRan (finish_ends outputs (left_after result job number w.attempts)) ends_it old new result
  left_ran old new (Ok done) ran = subst (λ next. StepRan (finish_ends outputs next) ends_it old new (Ok done)) (sym (left_is old new _ done ran)) ran
  left_ran old new (Err error.StoreFault) ran = record { to_end = ran.to_end }
  left_ran old new (Err error.Memory) ran = record { to_end = ran.to_end }
  left_ran old new (Err (error.Conflict seen)) ran = record { to_end = ran.to_end }
  left_ran old new (Err (error.Fenced stored)) ran = record { to_end = ran.to_end }
  left_ran old new (Err error.NotOwner) ran = record { to_end = ran.to_end }
  left_ran old new (Err error.InvalidDBState) ran = record { to_end = ran.to_end }
  left_ran old new (Err error.InvalidCompaction) ran = record { to_end = ran.to_end }
  left_ran old new (Err (error.Generate message)) ran = record { to_end = ran.to_end }
  left_ran old new (Err (error.MergeOperator cause)) ran = record { to_end = ran.to_end }
  left_ran old new (Err error.IteratorNotInitialized) ran = record { to_end = ran.to_end }
  left_ran old new (Err error.IteratorFailed) ran = record { to_end = ran.to_end }
  left_ran old new (Err error.MergeOperatorMissing) ran = record { to_end = ran.to_end }
  left_ran old new (Err (error.InvalidSequenceOrder current after)) ran = record { to_end = ran.to_end }
  left_ran old new (Err (error.CompactionFilter cause)) ran = record { to_end = ran.to_end }

-- A worker that is ready is ready with fewer attempts.
pub fewer_ready : (view : StoreView) (w : WorkerParts) (stopped : Bool) (jobs : List ℕ) → OnFalse stopped (IsReady view (record w { stopped = stopped })) → OnFalse stopped (IsReady view (record w { attempts = without_parts jobs w.attempts; stopped = stopped }))
fewer_ready view w true jobs ready = tt
fewer_ready view w false jobs ready = record {
  may = record {
    party = ready.may.party;
    keeps = ready.may.keeps;
    holds = subst (λ xs. WorkerHolds view.who.merge view.world (record (live_of w) { attempts = xs })) (sym (without_same jobs w.attempts)) (fewer_attempts_fit view.who.merge view.world (live_of w) (λ a. not (contains jobs a.job)) ready.may.holds);
  };
  noted = some_noted view.world.store (λ a. not (contains jobs a.job)) w.attempts ready.noted;
}

-- ---- ready

module _ (moment : ℕ) (w : WorkerParts) (job number : ℕ) (outputs : Outputs) (old new : StoreView) (stopped : Bool) (merges : IsLawful old.who.merge) (ready : IsReady old w) (fits : IsResult old w job number outputs) where
  abbrev next : List AttemptParts
  next = without_parts (job ∷ []) w.attempts

  abbrev step : Course (StepEnd FinishedJob)
  step = take_finished moment (live_of w) job number (map table_ids outputs)

  abbrev Ready : List AttemptParts → Type 0
  Ready attempts = OnFalse stopped (IsReady new (record w { attempts = attempts; stopped = stopped }))

  safe : IsSafe old (live_of w) (λ (report : FinishedJob). report.attempts) step
  safe = finish_safe moment w job number outputs old merges ready.may fits

  -- An error leaves the worker ready with its attempts.
  kept : (e : SlateDBError) → StepRan (finish_ends outputs next) step old new (Err e) → stopped ≡ stops {A = Unit {0}} (Err e) → Ready w.attempts
  kept e ran is = ready_after (λ (done : Unit {0}). finished_job outputs (map attempt_of next)) (λ (report : FinishedJob). report.attempts) old new w step merges ready safe (Err e) ran stopped is w.attempts refl (λ store noted. noted)

  -- The worker is ready after the step.
  pub left_ready : (result : Result (Unit {0}) SlateDBError) → StepRan (finish_ends outputs next) step old new result → stopped ≡ stops result → Ready (left_after result job number w.attempts)
  left_ready (Ok done) ran is =
      subst Ready (sym (left_is moment w job number outputs old new next done ran))
      (ready_after (λ (done : Unit {0}). finished_job outputs (map attempt_of next)) (λ (report : FinishedJob). report.attempts) old new w step merges ready safe (Ok done) ran stopped is next refl (λ store noted. some_noted store (λ a. not (contains (job ∷ []) a.job)) w.attempts noted))
  left_ready (Err e) ran is = by (disowns e && is_some (attempt_with w.attempts job number))
    where
      by : (b : Bool) → Ready (cond b next w.attempts)
      by true = fewer_ready new w stopped (job ∷ []) (kept e ran is)
      by false = kept e ran is
