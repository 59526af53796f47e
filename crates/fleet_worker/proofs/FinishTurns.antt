-- The turns of a finish.
use Rattle.std.proofs.Common.{◌≡◌, ◌≢◌, refl, sym, ◌∙◌, ap, subst, ℕ, inl, inr, true, false, List, [], Option, Some, None, Result, Ok, Err}
use Rattle.std.specs.Prelude.{◌⊎◌}
use Rattle.std.proofs.lemmas.List.{append-nil}
use Rattle.row_model.specs.Fold.{IsLawful, Operator}
use Rattle.fleet_model.specs.Nodes.{Tables}
use Rattle.step_model.specs.Courses.Course.{Course}
use Rattle.step_model.specs.Courses.CourseRuns.{IsLawfulCourse}
use Rattle.step_model.specs.Courses.StepEnds.{OperatorRefuses, StepEnd}
use Rattle.step_model.specs.Rivals.{Caller}
use Rattle.step_model.specs.Steps.FinishSteps as model
use Rattle.step_model.specs.Steps.FinishSteps.{FinishAsk, FinishedJob, finish, puts_and_ends}
use Rattle.step_model.specs.Steps.MessageSteps.{take_failed}
use Rattle.step_model.specs.Steps.OutputSteps.{gives_back, unless_refused}
use Rattle.step_model.specs.Views.{StoreView}
use Rattle.step_laws.proofs.Elements.{all_from}
use Rattle.commit_laws.proofs.AllCalls.{calls_keep}
use Rattle.course_laws.specs.Finishes.{WholeUnless}
use Rattle.course_laws.proofs.Finishes.{finishes_are_lawful}
use Rattle.worker_laws.proofs.Finishes.{finishes_keep_fit}
use Rattle.fleet_rows.specs.declared.errors.MergeOperatorError.TheVariants as merge_error
use Rattle.fleet_rows.specs.declared.errors.SlateDBError.{SlateDBError}
use Rattle.fleet_rows.specs.declared.errors.SlateDBError.TheVariants as error
use Rattle.fleet_plan.specs.Parts.{Part}
use Rattle.fleet_jobs.specs.Contexts.{settings_in, table_ids}
use Rattle.fleet_finish.specs.Puts.{Outputs}
use Rattle.fleet_step.specs.Steps.{Leads, RunsTo, StepRan, TryRan}
use Rattle.fleet_step.proofs.Steps.{then_ran}
use Rattle.fleet_output.specs.Finishes.{MayWriteLeft, WritesLeft, WroteLeft, WroteUntil}
use Rattle.fleet_output.specs.Gets.{GotEach, GotUntil}
use Rattle.fleet_output.specs.Left.{CanFinish, RefusesLeft}
use Rattle.fleet_output.proofs.Failures.{IsStopped, gets_stop, memory_or, none_refused}
use Rattle.fleet_output.proofs.FinishCourse as course
use Rattle.fleet_output.proofs.FinishCourse.{IsAsked, WasRefused, none_refuses, read_ends, wrote_fails, wrote_leads}
use Rattle.fleet_output.proofs.PutsInOrder.{ranges_stop}
use Rattle.fleet_worker.specs.Finishes.{end_of_job}
use Rattle.fleet_worker.specs.Finishing.{FinishesAttempt, NoFoldRefuses, WritesAll, WroteAll, all_ends, asked_all}
use Rattle.fleet_worker.specs.Messages.{runs_then}
use Rattle.fleet_worker.specs.Outputs.{is_refusal}
use Rattle.fleet_worker.specs.Workers.{AttemptParts, IsNoted, IsReady, WorkerParts, attempt_of, live_of, run_at}
use Rattle.fleet_worker.proofs.OutputRuns.{err_alike, run_numbered}
use Rattle.fleet_worker.proofs.Ready.{IsSafe, ready_midway}
use Rattle.fleet_worker.proofs.Refused.{gave_back}
use Rattle.fleet_worker.proofs.RunAttempts.{are_held, does_run, is_noted, resumes, tables_ordered}

-- A fault or want of memory is no refusal.
plain_stop : (e : SlateDBError) → IsStopped e → is_refusal {A = Outputs} (Err e) ≡ true → ⊥
plain_stop e (inl same) refusing =
    let clash : false ≡ true = sym (ap (λ e. is_refusal {A = Outputs} (Err e)) same) ∙ refusing in
    cc clash
plain_stop e (inr same) refusing =
    let clash : false ≡ true = sym (ap (λ e. is_refusal {A = Outputs} (Err e)) same) ∙ refusing in
    cc clash

-- ---- an attempt that the worker runs

module _ (moment : ℕ) (view : StoreView) (w : WorkerParts) (a : AttemptParts) (size : ℕ) (merges : IsLawful view.who.merge) (ready : IsReady view w) (run : run_at w.attempts a.job ≡ Some a) where
  abbrev merge : Operator
  merge = view.who.merge

  abbrev stored : Tables
  stored = view.world.store.tables

  abbrev parts : List Part
  parts = a.ctx.ranges

  noted : IsNoted view.world.store a
  noted = is_noted view w a ready run

  -- All its ranges can be finished.
  pub can_finish : CanFinish merge view.world.store (settings_in a.ctx) a.tables parts
  can_finish = record {
    sound = ready.may.keeps.stored.sound.tables;
    described = noted.described;
    held = are_held view w a ready run;
    ordered = tables_ordered view w a ready run;
    each = all_from _ parts (resumes view w a ready run);
  }

  abbrev ask : Option (List ℕ) → FinishAsk
  ask refusal = asked_all moment w a size refusal

  abbrev its_course : Option (List ℕ) → Course (StepEnd FinishedJob)
  its_course refusal = finish merge stored (ask refusal)

  -- How the finish goes on after its gets.
  abbrev after_gets : Option (List ℕ) → Course (StepEnd FinishedJob)
  after_gets refusal = unless_refused (live_of w) (attempt_of a) refusal (puts_and_ends (ask refusal) (model.tables_left merge stored (ask refusal)))

  asked : (refusal : Option (List ℕ)) → IsAsked (settings_in a.ctx) a.tables parts size moment (ask refusal)
  asked refusal = record { when = refl; cut_at = refl; sources = sym noted.sources; under = refl; ranges = refl }

  -- If no fold refuses, each range is whole.
  pub whole_all : NoFoldRefuses view a → WholeUnless merge stored (attempt_of a) None
  whole_all whole = none_refuses merge (settings_in a.ctx) a.tables parts size moment (ask None) (asked None) view whole

  -- The finish is safe for the worker.
  pub all_safe : (refusal : Option (List ℕ)) → WholeUnless merge stored (attempt_of a) refusal → IsSafe view (live_of w) (λ (report : FinishedJob). report.attempts) (its_course refusal)
  all_safe refusal whole = record {
    lawful = finishes_are_lawful view.who view.world (ask refusal) (calls_keep merge merges) merges ready.may.party ready.may.keeps ready.may.holds (does_run w a run) whole;
    fits = (finishes_keep_fit view.who view.world (ask refusal) (calls_keep merge merges) merges ready.may.party ready.may.keeps ready.may.holds (does_run w a run) whole).0;
  }

  -- The source tables were got.
  all_got : (mid : StoreView) → GotEach (table_ids a.tables) view mid → (refusal : Option (List ℕ)) → Leads (its_course refusal) view (after_gets refusal) mid
  all_got mid got refusal = course.got_here merge (settings_in a.ctx) a.tables parts size moment (ask refusal) (asked refusal) view mid got

  -- The worker is ready after the gets.
  ready_got : (mid : StoreView) → GotEach (table_ids a.tables) view mid → IsReady mid w
  ready_got mid got = ready_midway view mid w (λ (report : FinishedJob). report.attempts) (its_course (Some [])) (after_gets (Some [])) merges ready (all_safe (Some []) tt) (all_got mid got (Some []))

  -- What is left may be put.
  pub may_write_left : MayWriteLeft merge (settings_in a.ctx) a.tables parts size moment view
  may_write_left = course.may_write merge (settings_in a.ctx) a.tables parts size moment (ask None) (asked None) view refl merges.short can_finish (λ whole. (all_safe None (whole_all whole)).lawful)

  -- ---- what is written

  abbrev Wrote : StoreView → Result Outputs SlateDBError → Type 0
  Wrote new result = WritesLeft merge (settings_in a.ctx) a.tables parts size moment view new result

  abbrev Ran : StoreView → SlateDBError → Type 0
  Ran new e = FinishesAttempt moment w size view new w.attempts (Err e) a

  -- The end of the job is lawful after all was written.
  pub end_lawful : (new : StoreView) (outputs : Outputs) → WroteAll moment w size view new a outputs → IsLawfulCourse new.who new.world (end_of_job moment w a outputs)
  end_lawful new outputs wrote = subst (λ (who : Caller). IsLawfulCourse who new.world (end_of_job moment w a outputs)) (sym wrote.lead.same.who) (wrote.lead.lawful (all_safe None (whole_all wrote.whole)).lawful)

  all_written : (new : StoreView) (outputs : Outputs) → WroteLeft merge (settings_in a.ctx) a.tables parts size moment view new outputs → WroteAll moment w size view new a outputs
  all_written new outputs wrote = record {
    whole = wrote.whole;
    lead = wrote_leads merge (settings_in a.ctx) a.tables parts size moment (ask None) (asked None) view refl new outputs wrote;
  }

  -- A get failed, or memory ran out after the gets.
  pub gets_end : (new : StoreView) (e : SlateDBError) → GotUntil (table_ids a.tables) view new e → (refusal : Option (List ℕ)) → StepRan (all_ends w.attempts) (its_course refusal) view new (Err e)
  gets_end new e until refusal =
      either (read_ends merge (settings_in a.ctx) a.tables parts size moment (ask refusal) (asked refusal) view (all_ends w.attempts) (λ seen. its_course refusal) new e (inl until))
    where
      stop : IsStopped e
      stop = gets_stop (table_ids a.tables) view new e until

      refuses : (message : List ℕ) → e ≡ error.MergeOperator (merge_error.Callback message) → is_refusal {A = Outputs} (Err e) ≡ true
      refuses message same = ap (λ e. is_refusal {A = Outputs} (Err e)) same

      either : TryRan (all_ends w.attempts) (its_course refusal) (λ seen. its_course refusal) view new (Err e) ⊎ WasRefused merge (settings_in a.ctx) a.tables parts view new e → StepRan (all_ends w.attempts) (its_course refusal) view new (Err e)
      either (inl ran) = ran.ended (none_refused Outputs e stop)
      either (inr was) = absurd (plain_stop e stop (refuses was.message was.is))

  gets_only : (new : StoreView) (e : SlateDBError) → GotUntil (table_ids a.tables) view new e → Ran new e
  gets_only new e until = record { refusal = None; because = inr until; ran = gets_end new e until None }

  puts_failed : (new : StoreView) (e : SlateDBError) → WroteUntil merge (settings_in a.ctx) a.tables parts size moment view new e → Ran new e
  puts_failed new e wrote = record {
    refusal = None;
    because = inl wrote.whole;
    ran =
        (wrote_fails merge (settings_in a.ctx) a.tables parts size moment (ask None) (asked None) view refl (all_ends w.attempts) (λ seen. its_course None) new e wrote).ended
        (none_refused Outputs e (ranges_stop moment e new _ wrote.mid wrote.put));
  }

  -- All tables were got, and memory ran out.
  lacked_got : (new : StoreView) (e : SlateDBError) → GotEach (table_ids a.tables) view new → e ≡ error.Memory → GotUntil (table_ids a.tables) view new e
  lacked_got new e got memory = record {
    first = table_ids a.tables;
    later = [];
    parts = sym (append-nil (table_ids a.tables));
    mid = new;
    got = got;
    stopped = inr (memory, refl);
  }

  -- Without a refusal of the operator the finish went on, or it ended.
  pub wrote_all : (new : StoreView) (result : Result Outputs SlateDBError) → Wrote new result → is_refusal result ≡ false → WritesAll moment w size view new a result
  wrote_all new (Ok outputs) wrote plain = all_written new outputs wrote
  wrote_all new (Err e) (inl (inl until)) plain = gets_only new e until
  wrote_all new (Err e) (inr wrote) plain = puts_failed new e wrote
  wrote_all new (Err e) (inl (inr stops)) plain = by (memory_or e)
    where
      by : (e ≡ error.Memory) ⊎ (e ≢ error.Memory) → Ran new e
      by (inl memory) = gets_only new e (lacked_got new e stops.got memory)
      by (inr other) =
          let same = (stops.refused other).refuses.operator.same in
          let clash : true ≡ false = sym (ap (λ e. is_refusal {A = Outputs} (Err e)) same) ∙ plain in
          absurd (cc clash)

  -- ---- a refusal

  abbrev Was : StoreView → SlateDBError → Type 0
  Was mid e = WasRefused merge (settings_in a.ctx) a.tables parts view mid e

  was_refused : (mid : StoreView) (e : SlateDBError) → Wrote mid (Err e) → is_refusal {A = Outputs} (Err e) ≡ true → Was mid e
  was_refused mid e (inl (inl until)) refusing = absurd (plain_stop e (gets_stop (table_ids a.tables) view mid e until) refusing)
  was_refused mid e (inr wrote) refusing = absurd (plain_stop e (ranges_stop moment e mid _ wrote.mid wrote.put) refusing)
  was_refused mid e (inl (inr stops)) refusing = by (memory_or e)
    where
      by : (e ≡ error.Memory) ⊎ (e ≢ error.Memory) → Was mid e
      by (inl memory) = absurd (plain_stop e (inr memory) refusing)
      by (inr other) =
          let refused = stops.refused other in
          record { got = stops.got; message = refused.refuses.operator.message; is = refused.refuses.operator.same; refused = refused }

  -- The worker is ready to give the attempt back.
  pub ready_back : (mid : StoreView) (result : Result Outputs SlateDBError) → Wrote mid result → is_refusal result ≡ true → IsReady mid w
  ready_back mid (Ok outputs) wrote refusing = absurd (cc refusing)
  ready_back mid (Err e) wrote refusing = ready_got mid (was_refused mid e wrote refusing).got

  module _ (mid new : StoreView) (e : SlateDBError) (was : Was mid e) (attempts : List AttemptParts) where
    abbrev said : Unit {0} → StepEnd FinishedJob
    said done = OperatorRefuses was.message

    gave : (result : Result (Unit {0}) SlateDBError) → StepRan (runs_then attempts) (take_failed (live_of w) a.job a.number) mid new result → StepRan said (gives_back {A = FinishedJob} (live_of w) (attempt_of a) was.message) mid new result
    gave result ran = gave_back FinishedJob was.message (live_of w) (attempt_of a) attempts a.job a.number (run_numbered w a run) mid new result ran

    because_of : RefusesLeft merge stored (settings_in a.ctx) a.tables parts (error.MergeOperator (merge_error.Callback was.message))
    because_of = subst (RefusesLeft merge stored (settings_in a.ctx) a.tables parts) was.is was.refused

    gave_it : StepRan (runs_then attempts) (take_failed (live_of w) a.job a.number) mid new (Ok tt) → Ran new e
    gave_it ran = record {
      refusal = Some was.message;
      because = because_of;
      ran =
          subst (λ e. StepRan {A = Outputs} (all_ends w.attempts) (its_course (Some was.message)) view new (Err e)) (sym was.is)
          (then_ran _ (all_got mid was.got (Some was.message)) (record { to_end = (gave (Ok tt) ran).to_end }));
    }

    gave_not : (other : SlateDBError) → StepRan (runs_then attempts) (take_failed (live_of w) a.job a.number) mid new (Err other) → Ran new other
    gave_not other ran = record {
      refusal = Some was.message;
      because = because_of;
      ran =
          then_ran _ (all_got mid was.got (Some was.message))
          (record { to_end = err_alike (RunsTo (gives_back {A = FinishedJob} (live_of w) (attempt_of a) was.message) mid new) said (all_ends w.attempts) other (gave (Err other) ran).to_end });
    }

  -- The attempt was given back.
  pub back : (mid new : StoreView) (result : Result Outputs SlateDBError) → Wrote mid result → is_refusal result ≡ true → (attempts : List AttemptParts) → StepRan (runs_then attempts) (take_failed (live_of w) a.job a.number) mid new (Ok tt) → WritesAll moment w size view new a result
  back mid new (Ok outputs) wrote refusing attempts gave = absurd (cc refusing)
  back mid new (Err e) wrote refusing attempts gave = gave_it mid new e (was_refused mid e wrote refusing) attempts gave

  -- It was not.
  pub not_back : (mid new : StoreView) (result : Result Outputs SlateDBError) → Wrote mid result → is_refusal result ≡ true → (attempts : List AttemptParts) (e : SlateDBError) → StepRan (runs_then attempts) (take_failed (live_of w) a.job a.number) mid new (Err e)
      → WritesAll moment w size view new a (Err e)
  not_back mid new (Ok outputs) wrote refusing attempts e gave = absurd (cc refusing)
  not_back mid new (Err cause) wrote refusing attempts e gave = gave_not mid new cause (was_refused mid cause wrote refusing) attempts e gave
