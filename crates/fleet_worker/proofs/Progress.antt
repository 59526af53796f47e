-- Progress of an attempt.
use Rattle.std.proofs.Common.{◌≡◌, refl, sym, ◌∙◌, ap, subst, ℕ, nat_lt, Bool, true, false, cond, not, map, List, [], ◌∷◌, Option, Some, None, option_map, Ok, Err}
use Rattle.std.specs.Prelude.{◌==◌, IfSome}
use Rattle.fleet_model.specs.Jobs.{contains}
use Rattle.fleet_model.specs.Work.Parties.{Attempt, put_attempt}
use Rattle.fleet_model.specs.Store.{Store}
use Rattle.step_model.specs.Courses.Course.{Ends}
use Rattle.step_model.specs.Steps.MessageSteps.{attempt_run, notes_run, take_progress}
use Rattle.step_model.specs.Courses.StepEnds.{Reports}
use Rattle.step_model.specs.Views.{StoreView}
use Rattle.course_laws.proofs.Messages.{messages_are_lawful}
use Rattle.worker_laws.proofs.Messages.{messages_keep_fit}
use Rattle.worker_laws.specs.Messages.{ProgressFits}
use Rattle.fleet_rows.specs.declared.errors.SlateDBError.TheVariants.{Memory}
use Rattle.fleet_jobs.specs.Parts.ContextParts.{ContextParts}
use Rattle.fleet_jobs.specs.Contexts.{context_of}
use Rattle.fleet_step.specs.Steps.{StepRan}
use Rattle.fleet_step.proofs.Steps.{reports, wants}
use Rattle.fleet_worker.specs.Claims.{put_part, without_parts}
use Rattle.fleet_worker.specs.Messages.{IsShownBy, StaysReady, attempt_with, if_numbered, runs_then, went_on}
use Rattle.fleet_worker.specs.Workers.{AreNoted, AttemptParts, IsNoted, MayStep, WorkerParts, attempt_of, live_of, run_at}
use Rattle.fleet_worker.proofs.Inserted.{put_same, without_same}
use Rattle.fleet_worker.proofs.Later.{some_noted}
use Rattle.fleet_worker.proofs.Ready.{IsSafe, ready_with}
use Rattle.fleet_worker.proofs.Returns.{run_same}

module _ (w : WorkerParts) (job number : ℕ) (ctx : ContextParts) where
  abbrev next : List AttemptParts
  next = went_on ctx (attempt_with w.attempts job number) w.attempts

  noted_same : (found : Option AttemptParts) → map attempt_of (went_on ctx found w.attempts) ≡ notes_run (live_of w) (context_of ctx) (option_map attempt_of found)
  noted_same None = refl
  noted_same (Some a) = put_same (record a { ctx = ctx }) (without_parts (a.job ∷ []) w.attempts) ∙ ap (put_attempt (attempt_of (record a { ctx = ctx }))) (without_same (a.job ∷ []) w.attempts)

  next_is : map attempt_of next ≡ notes_run (live_of w) (context_of ctx) (attempt_run (live_of w) job number)
  next_is = noted_same (attempt_with w.attempts job number) ∙ ap (notes_run (live_of w) (context_of ctx)) (sym (run_same w job number))

  -- The step reports.
  pub progress_ran : (view : StoreView) → StepRan (runs_then next) (take_progress (live_of w) job number (context_of ctx)) view view (Ok tt)
  unfolding take_progress
  progress_ran view = reports (runs_then next) (take_progress (live_of w) job number (context_of ctx)) view tt (ap (λ xs. Ends (Reports xs)) (sym next_is))

  -- Memory runs out.
  pub progress_wants : (attempts : List AttemptParts) (view : StoreView) → StepRan (runs_then attempts) (take_progress (live_of w) job number (context_of ctx)) view view (Err Memory)
  progress_wants attempts view = wants (runs_then attempts) (take_progress (live_of w) job number (context_of ctx)) view

  -- What is known of an attempt stays so with a context whose tables are described.
  with_shown : (store : Store) (a : AttemptParts) → IsShownBy store ctx → IsNoted store a → IsNoted store (record a { ctx = ctx })
  with_shown store a shown noted = record { sources = noted.sources; described = noted.described; noted = shown }

  -- If the tables of an attempt's new context are described, those of all attempts still are after the
  -- progress.
  noted_next : (store : Store) (found : Option AttemptParts) → IfSome found (IsNoted store) → IfSome (option_map attempt_of found) (λ a. IsShownBy store ctx) → AreNoted w.attempts store → AreNoted (went_on ctx found w.attempts) store
  noted_next store None here shown noted = noted
  noted_next store (Some a) here shown noted = put (without_parts (a.job ∷ []) w.attempts) (some_noted store (λ b. not (contains (a.job ∷ []) b.job)) w.attempts noted)
    where
      new : IsNoted store (record a { ctx = ctx })
      new = with_shown store a shown here

      put : (xs : List AttemptParts) → AreNoted xs store → AreNoted (put_part (record a { ctx = ctx }) xs) store
      put [] all = (new, tt)
      put (b ∷ xs) all = by (nat_lt a.job b.job) (put xs all.1)
        where
          by : (c : Bool) → AreNoted (put_part (record a { ctx = ctx }) xs) store → AreNoted (cond c (record a { ctx = ctx } ∷ b ∷ xs) (b ∷ put_part (record a { ctx = ctx }) xs)) store
          by true rest = (new, all)
          by false rest = (all.0, rest)

  -- The attempt with the number, if there is one, is one of the worker's.
  noted_with : (store : Store) (xs : List AttemptParts) → AreNoted xs store → IfSome (attempt_with xs job number) (IsNoted store)
  noted_with store [] all = tt
  noted_with store (x ∷ xs) all = at (x.job == job) (noted_with store xs all.1)
    where
      pick : (b : Bool) → IfSome (cond b (Some x) None) (IsNoted store)
      pick true = all.0
      pick false = tt

      at : (b : Bool) → IfSome (attempt_with xs job number) (IsNoted store) → IfSome (if_numbered number (cond b (Some x) (run_at xs job))) (IsNoted store)
      at true rest = pick (number == x.number)
      at false rest = rest

  progress_safe : (view : StoreView) → MayStep view (live_of w) → IfSome (attempt_run (live_of w) job number) (ProgressFits view.who.merge view.world (live_of w) (context_of ctx))
      → IsSafe view (live_of w) (λ (attempts : List Attempt). attempts) (take_progress (live_of w) job number (context_of ctx))
  progress_safe view may fits = record {
    lawful = messages_are_lawful.progress view.who view.world (live_of w) job number (context_of ctx);
    fits = messages_keep_fit.progress view.who view.world (live_of w) job number (context_of ctx) may.keeps may.holds fits;
  }

  -- The worker stays ready.
  pub stays_ready : StaysReady w job number ctx (record w { attempts = next })
  stays_ready = record {
    over = λ view merges ready fits shown.
        let is = ready_with (λ (done : Unit {0}). map attempt_of next) (λ (attempts : List Attempt). attempts) view view w (take_progress (live_of w) job number (context_of ctx)) merges ready (progress_safe view ready.may fits) (Ok tt) (progress_ran view) false refl next refl
        (noted_next view.world.store (attempt_with w.attempts job number) (noted_with view.world.store w.attempts ready.noted) (subst (λ found. IfSome found (λ a. IsShownBy view.world.store ctx)) (run_same w job number) shown) ready.noted) in
        record { may = is.may; noted = is.noted };
  }

-- A worker that stays as it was stays ready.
pub stays_same : (w : WorkerParts) (job number : ℕ) (ctx : ContextParts) → StaysReady w job number ctx w
stays_same w job number ctx = record { over = λ view merges ready fits shown. ready }
