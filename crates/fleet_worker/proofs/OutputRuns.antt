-- How an output runs.
use Rattle.std.proofs.Common.{◌≡◌, ◌≢◌, refl, sym, ◌∙◌, ap, subst, ℕ, zero, suc, ◌<◌, cond, eq-eqb, true, false, inl, inr, length, take, List, [], ◌∷◌, Option, Some, None, option_map, Result, Ok, Err}
use Rattle.std.proofs.lemmas.List.{append-nil}
use Rattle.row_model.specs.Fold.{IsLawful, Operator}
use Rattle.row_model.specs.JobRows.{JobRows}
use Rattle.row_model.specs.Rows.{Row}
use Rattle.fleet_model.specs.Handles.{describe}
use Rattle.fleet_model.specs.Nodes.{Tables}
use Rattle.step_model.specs.Courses.Course.{Course, Ends, puts_table}
use Rattle.step_model.specs.Courses.CourseRuns.{End}
use Rattle.step_model.specs.Courses.StepEnds.{OperatorRefuses, Reports, StepEnd}
use Rattle.step_model.specs.LawfulRecords.{OfSome}
use Rattle.step_model.specs.Steps.MessageSteps.{attempt_run, take_failed}
use Rattle.step_model.specs.Steps.OutputSteps.{OutputAsk, Written, gives_back, output, rows_written, unwritten, with_noted, writes}
use Rattle.step_model.specs.Views.{StoreView}
use Rattle.fleet_rows.specs.Row.{rows_of}
use Rattle.fleet_rows.specs.declared.errors.MergeOperatorError.{MergeOperatorError}
use Rattle.fleet_rows.specs.declared.errors.MergeOperatorError.TheVariants as merge_error
use Rattle.fleet_rows.specs.declared.errors.SlateDBError.{SlateDBError}
use Rattle.fleet_rows.specs.declared.errors.SlateDBError.TheVariants as error
use Rattle.fleet_rows.specs.declared.row.RowEntry.{RowEntry}
use Rattle.fleet_range.specs.Keys.{range_of}
use Rattle.fleet_tree.specs.declared.handle.SsTableHandle.{SsTableHandle}
use Rattle.fleet_plan.specs.Parts.{Part}
use Rattle.fleet_jobs.specs.Contexts.{noted_range, settings_in}
use Rattle.fleet_step.specs.Steps.{Leads, RunsTo, StepRan, end_of}
use Rattle.fleet_step.proofs.Steps.{reports, then_leads, then_ran, then_tried, wants}
use Rattle.fleet_output.specs.Gets.{GotUntil, ids_in}
use Rattle.fleet_output.specs.Next.{GivesNext, Refuses, RefusesNext, left_for}
use Rattle.fleet_output.specs.Writes.{WritesNext, WroteRows}
use Rattle.fleet_output.proofs.Failures.{IsStopped, gets_stop, none_refused, puts_stop}
use Rattle.fleet_output.proofs.GotTables.{gets_fail}
use Rattle.fleet_output.proofs.Puts.{put_leads, puts_fail}
use Rattle.fleet_worker.specs.Messages.{if_numbered, runs_then}
use Rattle.fleet_worker.specs.Outputs.{IsPartAt, RangeRan, asked_output, is_refusal, next_by, output_ends}
use Rattle.fleet_worker.specs.Workers.{AttemptParts, IsReady, WorkerParts, attempt_of, live_of, run_at}
use Rattle.fleet_worker.proofs.Outputs.{after_same, course_is, got_here, left_same}
use Rattle.fleet_worker.proofs.Refused.{gave_back}
use Rattle.fleet_worker.proofs.Returns.{run_same}

-- ---- lists

take_none : (n : ℕ) → take {A = Row} n [] ≡ []
take_none zero = refl
take_none (suc n) = refl

rows_long : (table : List RowEntry) → length (rows_of table) ≡ length table
rows_long [] = refl
rows_long (r ∷ table) = ap suc (rows_long table)

filled : (table : List RowEntry) → table ≢ [] → rows_of table ≢ []
filled [] some none = some refl
filled (r ∷ table) some none = absurd (cc none)

-- Rows that are there are put as a table.
writes_some : (ask : OutputAsk) (rows : List Row) → rows ≢ [] → writes ask rows ≡ puts_table ask.moment rows (λ table. Ends (Reports (record { table = Some (table, rows); attempts = with_noted ask.place table ask.attempt ask.worker.attempts })))
writes_some ask [] some = absurd (some refl)
writes_some ask (r ∷ rows) some = refl

-- An error tells the same end whatever the step answers.
pub err_alike : {A A' B : Type 0} (R : End (StepEnd B) → Type 0) (ends : A → StepEnd B) (ends' : A' → StepEnd B) (e : SlateDBError) → OfSome R (end_of ends (Err e)) → OfSome R (end_of ends' (Err e))
err_alike R ends ends' error.StoreFault h = h
err_alike R ends ends' error.Memory h = h
err_alike R ends ends' (error.Conflict seen) h = h
err_alike R ends ends' (error.Fenced stored) h = h
err_alike R ends ends' error.NotOwner h = h
err_alike R ends ends' error.InvalidDBState h = h
err_alike R ends ends' error.InvalidCompaction h = h
err_alike R ends ends' (error.Generate message) h = h
err_alike R ends ends' (error.MergeOperator (merge_error.Callback message)) h = h
err_alike R ends ends' (error.MergeOperator merge_error.EmptyBatch) h = absurd h
err_alike R ends ends' (error.MergeOperator merge_error.Memory) h = absurd h
err_alike R ends ends' error.IteratorNotInitialized h = absurd h
err_alike R ends ends' error.IteratorFailed h = absurd h
err_alike R ends ends' error.MergeOperatorMissing h = absurd h
err_alike R ends ends' (error.InvalidSequenceOrder current after) h = absurd h
err_alike R ends ends' (error.CompactionFilter cause) h = absurd h

-- An error is a refusal of the operator, or out of memory, or another one.
data Cause (e : SlateDBError) : Type 0 where
  OfMemory : e ≡ error.Memory → Cause e
  OfOperator : (cause : MergeOperatorError) → e ≡ error.MergeOperator cause → Cause e
  Other : e ≢ error.Memory → ((message : List ℕ) → e ≢ error.MergeOperator (merge_error.Callback message)) → Cause e

-- Each error is a fault, out of memory, a refusal of the operator, or another one.
cause_of : (e : SlateDBError) → Cause e
cause_of error.Memory = OfMemory refl
cause_of (error.MergeOperator cause) = OfOperator cause refl
cause_of error.StoreFault = Other (λ e. cc e) (λ m e. cc e)
cause_of (error.Conflict seen) = Other (λ e. cc e) (λ m e. cc e)
cause_of (error.Fenced stored) = Other (λ e. cc e) (λ m e. cc e)
cause_of error.NotOwner = Other (λ e. cc e) (λ m e. cc e)
cause_of error.InvalidDBState = Other (λ e. cc e) (λ m e. cc e)
cause_of error.InvalidCompaction = Other (λ e. cc e) (λ m e. cc e)
cause_of (error.Generate message) = Other (λ e. cc e) (λ m e. cc e)
cause_of error.IteratorNotInitialized = Other (λ e. cc e) (λ m e. cc e)
cause_of error.IteratorFailed = Other (λ e. cc e) (λ m e. cc e)
cause_of error.MergeOperatorMissing = Other (λ e. cc e) (λ m e. cc e)
cause_of (error.InvalidSequenceOrder current after) = Other (λ e. cc e) (λ m e. cc e)
cause_of (error.CompactionFilter cause) = Other (λ e. cc e) (λ m e. cc e)

-- The attempt is found by its number too.
pub run_numbered : (w : WorkerParts) (a : AttemptParts) → run_at w.attempts a.job ≡ Some a → attempt_run (live_of w) a.job a.number ≡ Some (attempt_of a)
run_numbered w a run =
    run_same w a.job a.number
    ∙ ap (option_map attempt_of) (ap (if_numbered a.number) run ∙ ap (λ b. cond b (Some a) None) (eq-eqb a.number a.number refl))

-- ---- one range of an attempt

module _ (moment : ℕ) (view : StoreView) (w : WorkerParts) (a : AttemptParts) (place rows : ℕ) (part : Part) (merges : IsLawful view.who.merge) (ready : IsReady view w) (run : run_at w.attempts a.job ≡ Some a) (at : IsPartAt a place part) where
  abbrev merge : Operator
  merge = view.who.merge

  abbrev stored : Tables
  stored = view.world.store.tables

  abbrev left : JobRows
  left = left_for merge stored (settings_in a.ctx) a.tables part

  abbrev ask : Option (List ℕ) → OutputAsk
  ask refusal = asked_output moment w a place part rows refusal

  same : left ≡ unwritten merge stored (attempt_of a) (noted_range part)
  same = left_same view w a place part merges ready run at moment rows

  abbrev Ran : StoreView → Result (Option SsTableHandle) SlateDBError → Type 0
  Ran new result = RangeRan moment w place rows view new (λ (answer : Option SsTableHandle). answer) (next_by moment w place rows view new (λ (answer : Option SsTableHandle). answer) a result) result a part

  -- The rows that the output writes.
  rows_are : take rows left.rows ≡ rows_written merge stored (ask None)
  rows_are = ap (λ (l : JobRows). take rows l.rows) same

  -- The end of an output, after which the worker runs these attempts.
  abbrev ends : List AttemptParts → Option SsTableHandle → StepEnd Written
  ends next answer = output_ends (rows_written merge stored (ask None)) next answer

  -- How an output of these rows goes on after their put.
  abbrev after_put : List Row → ℕ → Course (StepEnd Written)
  after_put rows id = Ends (Reports (record { table = Some (id, rows); attempts = with_noted place id (attempt_of a) (live_of w).attempts }))

  -- Nothing is left.
  none_left : (new : StoreView) → GivesNext merge (settings_in a.ctx) a.tables part rows view new None → Ran new (Ok None)
  none_left new gives = record {
    refusal = None;
    because = inl (λ few. subst (λ (l : JobRows). l.whole ≡ true) same gives.next.1);
    described = tt;
    ran =
        then_ran _ (got_here view w a place part merges ready run at moment rows new gives.got None)
        (reports _ _ new None (ap (writes (ask None)) (sym rows_are ∙ ap (take rows) gives.next.0 ∙ take_none rows)));
  }

  -- If fewer rows are read than asked for, no fold refuses.
  enough : (mid : StoreView) (table : List RowEntry) → GivesNext merge (settings_in a.ctx) a.tables part rows view mid (Some table) → length (rows_written merge stored (ask None)) < rows → (unwritten merge stored (attempt_of a) (noted_range part)).whole ≡ true
  enough mid table read few =
      subst (λ (l : JobRows). l.whole ≡ true) same
      (read.next.all (subst (λ n. n < rows) (ap length (sym (read.next.rows ∙ rows_are)) ∙ rows_long table) few))

  -- The next rows were written.
  one_written : (new : StoreView) (handle : SsTableHandle) → WroteRows merge (settings_in a.ctx) a.tables part rows moment view new (Ok handle) → Ran new (Ok (Some handle))
  one_written new handle wrote =
      let table = wrote.rows in
      let are = wrote.read.next.rows ∙ rows_are in
      let some = filled table wrote.read.next.filled in
      let next = after_put (rows_of table) in
      record {
        refusal = None;
        because = inl (enough wrote.mid table wrote.read);
        described = wrote.puts.described ∙ ap (describe handle.id) are;
        ran =
            then_ran _
            (then_leads
            (subst (λ (c : Course (StepEnd Written)). Leads (output merge stored (ask None)) view c wrote.mid) (ap (writes (ask None)) (sym are) ∙ writes_some (ask None) (rows_of table) some) (got_here view w a place part merges ready run at moment rows wrote.mid wrote.read.got None))
            (put_leads moment (rows_of table) wrote.mid new handle wrote.puts next))
            (reports _ (next handle.id) new (Some handle)
            (ap (λ (xs : List Row). Ends (Reports (record { table = Some (handle.id, xs); attempts = with_noted place handle.id (attempt_of a) (live_of w).attempts }))) are
            ∙ ap (λ attempts. Ends (Reports (record { table = Some (handle.id, rows_written merge stored (ask None)); attempts = attempts }))) (sym (after_same place handle a w.attempts))));
      }

  -- The put failed.
  put_failed : (new : StoreView) (e : SlateDBError) → WroteRows merge (settings_in a.ctx) a.tables part rows moment view new (Err e) → Ran new (Err e)
  put_failed new e wrote =
      let table = wrote.rows in
      let are = wrote.read.next.rows ∙ rows_are in
      let some = filled table wrote.read.next.filled in
      record {
        refusal = None;
        because = inl (enough wrote.mid table wrote.read);
        described = tt;
        ran =
            (then_tried _
            (subst (λ (c : Course (StepEnd Written)). Leads (output merge stored (ask None)) view c wrote.mid) (ap (writes (ask None)) (sym are) ∙ writes_some (ask None) (rows_of table) some) (got_here view w a place part merges ready run at moment rows wrote.mid wrote.read.got None))
            (puts_fail {again = λ seen. Ends (Reports (record { table = None; attempts = [] }))} moment (rows_of table) wrote.mid new e wrote.puts (after_put (rows_of table)))).ended (none_refused (Option SsTableHandle) e (puts_stop moment (rows_of table) wrote.mid new e wrote.puts));
      }

  -- A get failed, or memory ran out at the gets, whatever the operator would have refused.
  pub gets_end : (new : StoreView) (e : SlateDBError) → GotUntil (ids_in (range_of part.range) a.tables) view new e → (refusal : Option (List ℕ)) → StepRan {A = Option SsTableHandle} (ends w.attempts) (output merge stored (ask refusal)) view new (Err e)
  gets_end new e until refusal =
      subst (λ (c : Course (StepEnd Written)). StepRan {A = Option SsTableHandle} (ends w.attempts) c view new (Err e)) (sym (course_is view w a place part merges ready run at moment rows refusal))
      ((gets_fail {A = Option SsTableHandle} (ends w.attempts) (λ seen. Ends (Reports (record { table = None; attempts = [] }))) _ e new (ids_in (range_of part.range) a.tables) view until).ended (none_refused (Option SsTableHandle) e (gets_stop (ids_in (range_of part.range) a.tables) view new e until)))

  get_failed : (new : StoreView) (e : SlateDBError) → GotUntil (ids_in (range_of part.range) a.tables) view new e → Ran new (Err e)
  get_failed new e until = record { refusal = None; because = inr until; described = tt; ran = gets_end new e until None }

  -- Memory ran out after the gets.
  lacks_memory : (new : StoreView) → Refuses merge (settings_in a.ctx) a.tables part rows view new error.Memory → Ran new (Err error.Memory)
  lacks_memory new refuses = get_failed new error.Memory (record {
    first = ids_in (range_of part.range) a.tables;
    later = [];
    parts = sym (append-nil (ids_in (range_of part.range) a.tables));
    mid = new;
    got = refuses.got;
    stopped = inr (refl, refl);
  })

  -- The operator refused, and then the attempt was given back.
  module _ (mid new : StoreView) (message : List ℕ) (refuses : Refuses merge (settings_in a.ctx) a.tables part rows view mid (error.MergeOperator (merge_error.Callback message))) (attempts : List AttemptParts) where
    because_of : RefusesNext merge stored (settings_in a.ctx) a.tables part rows (error.MergeOperator (merge_error.Callback message))
    because_of = refuses.refused (λ e. cc e)

    gave : (result : Result (Unit {0}) SlateDBError) → StepRan (runs_then attempts) (take_failed (live_of w) a.job a.number) mid new result → StepRan (λ (done : Unit {0}). OperatorRefuses message) (gives_back {A = Written} (live_of w) (attempt_of a) message) mid new result
    gave result ran = gave_back Written message (live_of w) (attempt_of a) attempts a.job a.number (run_numbered w a run) mid new result ran

    here : Leads (output merge stored (ask (Some message))) view (gives_back {A = Written} (live_of w) (attempt_of a) message) mid
    here = got_here view w a place part merges ready run at moment rows mid refuses.got (Some message)

    -- It was given back.
    pub given : StepRan (runs_then attempts) (take_failed (live_of w) a.job a.number) mid new (Ok tt) → Ran new (Err (error.MergeOperator (merge_error.Callback message)))
    given ran = record {
      refusal = Some message;
      because = because_of;
      described = tt;
      ran = then_ran _ here (record { to_end = (gave (Ok tt) ran).to_end });
    }

    -- That failed.
    pub not_given : (e : SlateDBError) → StepRan (runs_then attempts) (take_failed (live_of w) a.job a.number) mid new (Err e) → Ran new (Err e)
    not_given e ran = record {
      refusal = Some message;
      because = because_of;
      described = tt;
      ran = then_ran _ here (record { to_end = err_alike (RunsTo (gives_back {A = Written} (live_of w) (attempt_of a) message) mid new) (λ (done : Unit {0}). OperatorRefuses message) (λ (answer : Option SsTableHandle). output_ends (rows_written merge stored (ask (Some message))) w.attempts answer) e (gave (Err e) ran).to_end });
    }

  -- ---- all together

  abbrev Wrote : StoreView → Result (Option SsTableHandle) SlateDBError → Type 0
  Wrote new result = WritesNext merge (settings_in a.ctx) a.tables part rows moment view new result

  -- Without a refusal of the operator this was the output.
  pub wrote_ran : (new : StoreView) (result : Result (Option SsTableHandle) SlateDBError) → Wrote new result → is_refusal result ≡ false → Ran new result
  wrote_ran new (Ok None) gives plain = none_left new gives
  wrote_ran new (Ok (Some handle)) wrote plain = one_written new handle wrote
  wrote_ran new (Err e) (inl (inl until)) plain = get_failed new e until
  wrote_ran new (Err e) (inr wrote) plain = put_failed new e wrote
  wrote_ran new (Err e) (inl (inr refuses)) plain = by (cause_of e)
    where
      by : Cause e → Ran new (Err e)
      by (OfMemory same) = subst (λ e. Ran new (Err e)) (sym same) (lacks_memory new (subst (Refuses merge (settings_in a.ctx) a.tables part rows view new) same refuses))
      by (OfOperator cause same) =
          let clash : true ≡ false = sym (ap (λ e. is_refusal {A = Option SsTableHandle} (Err e)) same) ∙ plain in
          absurd (cc clash)
      by (Other memory operator) = let refused = refuses.refused memory in absurd (operator refused.operator.message refused.operator.same)

  -- The error is a refusal of the operator, which came after the gets.
  abbrev pub Found : StoreView → SlateDBError → Type 0
  Found mid e = (message : List ℕ) × ((e ≡ error.MergeOperator (merge_error.Callback message)) × Refuses merge (settings_in a.ctx) a.tables part rows view mid (error.MergeOperator (merge_error.Callback message)))

  -- A refusal of the operator came after the gets.
  pub refused_so : (mid : StoreView) (e : SlateDBError) → Wrote mid (Err e) → is_refusal {A = Option SsTableHandle} (Err e) ≡ true
      → Found mid e
  refused_so mid e wrote refusing = by wrote
    where
      stopped : IsStopped e → Found mid e
      stopped (inl same) =
          let clash : false ≡ true = sym (ap (λ e. is_refusal {A = Option SsTableHandle} (Err e)) same) ∙ refusing in
          absurd (cc clash)
      stopped (inr same) =
          let clash : false ≡ true = sym (ap (λ e. is_refusal {A = Option SsTableHandle} (Err e)) same) ∙ refusing in
          absurd (cc clash)

      found : e ≢ error.Memory → Refuses merge (settings_in a.ctx) a.tables part rows view mid e → Found mid e
      found other refuses =
          let refused = refuses.refused other in
          (refused.operator.message, (refused.operator.same, subst (Refuses merge (settings_in a.ctx) a.tables part rows view mid) refused.operator.same refuses))

      caused : Refuses merge (settings_in a.ctx) a.tables part rows view mid e → Cause e → Found mid e
      caused refuses (OfMemory same) = stopped (inr same)
      caused refuses (OfOperator cause same) = found (λ memory. clash (sym memory ∙ same)) refuses
        where
          clash : error.Memory ≡ error.MergeOperator cause → ⊥
          clash e = cc e
      caused refuses (Other memory operator) = found memory refuses

      by : Wrote mid (Err e) → Found mid e
      by (inl (inl until)) = stopped (gets_stop (ids_in (range_of part.range) a.tables) view mid e until)
      by (inl (inr refuses)) = caused refuses (cause_of e)
      by (inr wrote) = stopped (puts_stop moment (rows_of wrote.rows) wrote.mid mid e wrote.puts)
