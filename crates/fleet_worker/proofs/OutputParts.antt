-- The parts of an output: what is written, what follows a refusal, and what is noted.
use Rattle.std.proofs.Common.{◌≡◌, refl, sym, ◌∙◌, ap, subst, ℕ, ◌-◌, ◌≤◌, length, Bool, true, List, Option, Some, None, option_map, Result, Ok, Err, arith}
use Rattle.std.specs.Bool.{OnFalse}
use Rattle.row_model.specs.Fold.{IsLawful}
use Rattle.step_model.specs.Steps.MessageSteps.{take_failed}
use Rattle.step_model.specs.Views.{StoreView}
use Rattle.fleet_rows.specs.declared.errors.SlateDBError.{SlateDBError}
use Rattle.fleet_rows.specs.declared.errors.SlateDBError.TheVariants as error
use Rattle.fleet_tree.specs.declared.handle.SsTableHandle.{SsTableHandle}
use Rattle.fleet_plan.specs.Parts.{Part}
use Rattle.fleet_jobs.specs.Contexts.{settings_in}
use Rattle.fleet_step.specs.Steps.{StepRan, stops}
use Rattle.fleet_output.specs.Writes.{WritesNext}
use Rattle.fleet_worker.specs.Messages.{runs_then}
use Rattle.fleet_worker.specs.Outputs.{IsAnswered, IsPartAt, OutputRan, OutputsRan, RangeRan, RunsRange, Writes, is_refusal, left_by, next_by, table_with}
use Rattle.fleet_worker.specs.Workers.{AttemptParts, IsReady, WorkerParts, live_of, run_at}
use Rattle.fleet_worker.proofs.Outputs.{ready_then}
use Rattle.fleet_worker.proofs.RunAttempts.{part_there}
use Rattle.fleet_worker.proofs.OutputRuns.{given, not_given, refused_so}
use Rattle.fleet_worker.proofs.OutputEnds.{err_ran, err_ready, lacks_after, none_ran, none_ready, same_answer, same_error, some_ran, some_ready}

-- ---- after a refusal

module _ (moment : ℕ) (view : StoreView) (w : WorkerParts) (a : AttemptParts) (place rows : ℕ) (part : Part) (merges : IsLawful view.who.merge) (ready : IsReady view w) (run : run_at w.attempts a.job ≡ Some a) (at : IsPartAt a place part) where
  abbrev Wrote : StoreView → Result (Option SsTableHandle) SlateDBError → Type 0
  Wrote mid result = WritesNext view.who.merge (settings_in a.ctx) a.tables part rows moment view mid result

  abbrev Ran : StoreView → Result (Option SsTableHandle) SlateDBError → Type 0
  Ran new result = RangeRan moment w place rows view new (λ (answer : Option SsTableHandle). answer) (next_by moment w place rows view new (λ (answer : Option SsTableHandle). answer) a result) result a part

  -- The worker is ready to give the attempt back.
  pub ready_refused : (mid : StoreView) (result : Result (Option SsTableHandle) SlateDBError) → Wrote mid result → is_refusal result ≡ true → IsReady mid w
  ready_refused mid (Ok answer) wrote refusing = absurd (cc refusing)
  ready_refused mid (Err e) wrote refusing =
      let found = refused_so moment view w a place rows part merges ready run at mid e wrote refusing in
      ready_then view w a place part merges ready run at moment rows mid found.1.1.got None

  -- The attempt was given back.
  pub given_back : (mid new : StoreView) (result : Result (Option SsTableHandle) SlateDBError) → Wrote mid result → is_refusal result ≡ true → (attempts : List AttemptParts) → StepRan (runs_then attempts) (take_failed (live_of w) a.job a.number) mid new (Ok tt) → Ran new result
  given_back mid new (Ok answer) wrote refusing attempts gave = absurd (cc refusing)
  given_back mid new (Err e) wrote refusing attempts gave =
      let found = refused_so moment view w a place rows part merges ready run at mid e wrote refusing in
      subst (λ e. Ran new (Err e)) (sym found.1.0) (given moment view w a place rows part merges ready run at mid new found.0 found.1.1 attempts gave)

  -- It was not.
  pub not_given_back : (mid new : StoreView) (result : Result (Option SsTableHandle) SlateDBError) → Wrote mid result → is_refusal result ≡ true → (attempts : List AttemptParts) (e : SlateDBError) → StepRan (runs_then attempts) (take_failed (live_of w) a.job a.number) mid new (Err e) → Ran new (Err e)
  not_given_back mid new (Ok answer) wrote refusing attempts e gave = absurd (cc refusing)
  not_given_back mid new (Err cause) wrote refusing attempts e gave =
      let found = refused_so moment view w a place rows part merges ready run at mid cause wrote refusing in
      not_given moment view w a place rows part merges ready run at mid new found.0 found.1.1 attempts e gave

-- ---- the range of an attempt

-- A worker that runs a range of a job runs an attempt at it.
pub runs_one : (w : WorkerParts) (job place : ℕ) → RunsRange w job place → run_at w.attempts job ≡ None → ⊥
runs_one w job place runs none =
    let clash : None ≡ Some runs.0 = sym (ap (option_map (λ (a : AttemptParts). length a.ctx.ranges)) none) ∙ runs.1.0 in
    cc clash

-- That attempt has the range.
pub has_range : (w : WorkerParts) (job place : ℕ) (a : AttemptParts) → RunsRange w job place → run_at w.attempts job ≡ Some a → (1 ≤ place) × (place ≤ length a.ctx.ranges)
has_range w job place a runs run =
    let same : Some (length a.ctx.ranges) ≡ Some runs.0 = sym (ap (option_map (λ (a : AttemptParts). length a.ctx.ranges)) run) ∙ runs.1.0 in
    let is : runs.0 ≡ length a.ctx.ranges = count same in
    (runs.1.1.0, subst (λ n. place ≤ n) is runs.1.1.1)
  where
    count : {n m : ℕ} → Some n ≡ Some m → m ≡ n
    count e = cc e

pub part_at : (a : AttemptParts) (place : ℕ) → 1 ≤ place → place ≤ length a.ctx.ranges → (part : Part) × IsPartAt a place part
part_at a place counted there =
    let found = part_there a.ctx.ranges (place - 1) (omega (arith, counted, there)) in
    (found.0, record { counted = omega (arith, counted); there = found.1 })

-- ---- all parts

module _ (moment : ℕ) (w : WorkerParts) (job place rows : ℕ) (old new : StoreView) (a : AttemptParts) (run : run_at w.attempts job ≡ Some a) (counted : 1 ≤ place) (there : place ≤ length a.ctx.ranges) where
  abbrev Out : Result (Option (SsTableHandle × List AttemptParts)) SlateDBError → Type 0
  Out result = OutputsRan moment w place rows old new result job

  abbrev its : (part : Part) × IsPartAt a place part
  its = part_at a place counted there

  -- An error.
  pub failed_out : (e : SlateDBError) → Writes moment w place rows old new a (Err e) → Out (Err e)
  failed_out e wrote = record { attempt = a; runs = run; part = its.0; at = its.1; ran = same_error moment w place rows old new a its.0 (λ answer. answer) table_with w.attempts w.attempts e (wrote its.0 its.1) }

  -- Nothing is left.
  pub none_out : Writes moment w place rows old new a (Ok None) → Out (Ok None)
  none_out wrote = record { attempt = a; runs = run; part = its.0; at = its.1; ran = same_answer moment w place rows old new a its.0 (λ answer. answer) table_with w.attempts None None refl (wrote its.0 its.1) }

  -- Memory ran out after the table was written.
  pub lacked_out : (answer : Option SsTableHandle) → Writes moment w place rows old new a (Ok answer) → Out (Err error.Memory)
  lacked_out answer wrote = record { attempt = a; runs = run; part = its.0; at = its.1; ran = lacks_after moment w place rows old new a its.0 (λ answer. answer) table_with (next_by moment w place rows old new (λ (answer : Option SsTableHandle). answer) a (Ok answer)) w.attempts answer (wrote its.0 its.1) }

  -- A table was written.
  pub some_out : (table : SsTableHandle) (attempts : List AttemptParts) → Writes moment w place rows old new a (Ok (Some table)) → Out (Ok (Some (table, attempts)))
  some_out table attempts wrote = record {
    attempt = a;
    runs = run;
    part = its.0;
    at = its.1;
    ran = same_answer moment w place rows old new a its.0 (λ answer. answer) table_with (next_by moment w place rows old new (λ (answer : Option SsTableHandle). answer) a (Ok (Some table))) (Some table) (Some (table, attempts)) refl (wrote its.0 its.1);
  }

-- ---- the exits of an output

module _ (moment : ℕ) (w : WorkerParts) (job place rows : ℕ) (old new : StoreView) (merges : IsLawful old.who.merge) (ready : IsReady old w) (stopped : Bool) (result : Result (Option (SsTableHandle × List AttemptParts)) SlateDBError)
    (out : OutputsRan moment w place rows old new result job) (answered : IsAnswered w job place new result) (is : stopped ≡ stops result) where
  -- So an output ended for the worker: with this answer, and with these attempts that it runs then.
  abbrev Exit : List AttemptParts → Result (Option SsTableHandle) SlateDBError → Type 0
  Exit next answer = OutputRan moment w place rows old new next answer job × OnFalse stopped (IsReady new (record w { attempts = next; stopped = stopped }))

  out_at : (r : Result (Option (SsTableHandle × List AttemptParts)) SlateDBError) → result ≡ r → OutputsRan moment w place rows old new r job
  out_at r e = subst (λ r. OutputsRan moment w place rows old new r job) e out

  -- Nothing was left.
  pub none_exit : result ≡ Ok None → Exit (left_by result job w.attempts) (Ok None)
  none_exit e =
      subst (λ (r : Result (Option (SsTableHandle × List AttemptParts)) SlateDBError). Exit (left_by r job w.attempts) (Ok None)) (sym e)
      (none_ran moment w job place rows old new merges ready stopped (out_at (Ok None) e), none_ready moment w job place rows old new merges ready stopped (out_at (Ok None) e) (is ∙ ap stops e))

  -- A table was written.
  pub some_exit : (table : SsTableHandle) (attempts : List AttemptParts) → result ≡ Ok (Some (table, attempts)) → Exit attempts (Ok (Some table))
  some_exit table attempts e =
      let noted_so = subst (IsAnswered w job place new) e answered in
      let ran = out_at (Ok (Some (table, attempts))) e in (
        some_ran moment w job place rows old new merges ready stopped table attempts noted_so ran,
        some_ready moment w job place rows old new merges ready stopped table attempts noted_so ran (is ∙ ap stops e),
      )

  -- An error.
  pub err_exit : (cause : SlateDBError) → result ≡ Err cause → Exit (left_by result job w.attempts) (Err cause)
  err_exit cause e =
      subst (λ (r : Result (Option (SsTableHandle × List AttemptParts)) SlateDBError). Exit (left_by r job w.attempts) (Err cause)) (sym e) (
        err_ran moment w job place rows old new merges ready stopped cause (out_at (Err cause) e) (left_by {A = Option (SsTableHandle × List AttemptParts)} (Err cause) job w.attempts),
        err_ready moment w job place rows old new merges ready stopped cause (out_at (Err cause) e) (is ∙ ap stops e),
      )
