-- What outputs report, and what refusals of the operator leave.
use Rattle.std.proofs.Common.{◌≡◌, refl, subst, ℕ, List, [], ◌∷◌, false, Option, Some, None}
use Rattle.std.specs.Prelude.{IfSome, filter}
use Rattle.row_model.specs.Rows.{Row}
use Rattle.fleet_model.specs.Store.{stored_jobs}
use Rattle.fleet_model.specs.Work.Parties.{Attempt, LiveWorker, is_live}
use Rattle.step_model.specs.Past.{World}
use Rattle.step_model.specs.Rivals.{Caller}
use Rattle.step_model.specs.Courses.Course.{Ends, calls_each}
use Rattle.step_model.specs.Courses.CourseRuns.{Gives, Runs, IsLawfulCourse}
use Rattle.step_model.specs.Courses.StepEnds.{StepEnd, Reports, OperatorRefuses, most_refused}
use Rattle.step_model.specs.Steps.OutputSteps.{OutputAsk, Written, meets, gets_tables, gives_back, unless_refused, with_noted, rows_written, writes, output}
use Rattle.step_model.specs.Steps.FinishSteps.{FinishAsk, FinishedJob, tables_left, puts_and_ends, finish}
use Rattle.course_laws.proofs.Beats.{Fit}
use Rattle.course_laws.proofs.Made.{Relies, State}
use Rattle.course_laws.proofs.Outputs.{gets_lawful, found_in, back_lawful, outputs_are_lawful}
use Rattle.worker_laws.specs.Outputs.{OutputSays, OutputsSay}
use Rattle.worker_laws.specs.Refusals.{RefusalsGiveBack}
use Rattle.worker_laws.proofs.Tables.{IsUnnoted, gets, puts_one}
use Rattle.worker_laws.proofs.Releases.{released}
use Rattle.worker_laws.proofs.Outputs.{begins}

-- ---- refusals

-- The attempt is not live after its release.
back_over : {A : Type 0} (who : Caller) (w : LiveWorker) (a : Attempt) (message said : List ℕ) (old new : World) → Relies who w → Fit who w old → IsLawfulCourse who old (gives_back {A = A} w a message)
    → Runs who (gives_back {A = A} w a message) old new (Gives (OperatorRefuses said)) → is_live (stored_jobs new.store) w.number a ≡ false
back_over {A} who w a message said old new r fit lawful run =
    released {A = A} (is_live (stored_jobs new.store) w.number a ≡ false) who w (a ∷ []) (λ jobs. Ends (OperatorRefuses message)) new (Gives (OperatorRefuses said)) r (record {
      stops = λ x met there stop. absurd stop;
      gives_up = λ seen world there run. absurd (cc run.1);
      goes = λ world jobs there over further run. subst (λ (t : World). is_live (stored_jobs t.store) w.number a ≡ false) run.0 over.0;
    }) most_refused 0 old fit lawful run

-- A step that gets these tables and then gives the attempt back.
refused_step : (A : Type 0) (who : Caller) (w : LiveWorker) (start : World) (a : Attempt) (tables : List ℕ) (message said : List ℕ) (new : World) → Relies who w → State who w start a [] start
    → Runs who (calls_each (gets_tables tables) (gives_back {A = A} w a message)) start new (Gives (OperatorRefuses said)) → is_live (stored_jobs new.store) w.number a ≡ false
refused_step A who w start a tables message said new r s run =
    gets {A = A} (is_live (stored_jobs new.store) w.number a ≡ false) who w start a (gives_back {A = A} w a message) new (Gives (OperatorRefuses said)) r (λ x met there stop. absurd stop)
    (λ world state further on. back_over {A = A} who w a message said world new r (record { kept = state.kept; holds = state.holds }) further on) tables start s
    (gets_lawful {A = StepEnd A} who (gives_back {A = A} w a message) tables start r.keep s.kept (λ world there. back_lawful A who w a message world r.own)) run

refused_output : (who : Caller) (start : World) (ask : OutputAsk) (message said : List ℕ) (new : World) → ask.refusal ≡ Some message → Relies who ask.worker → State who ask.worker start ask.attempt [] start
    → Runs who (output who.merge start.store.tables ask) start new (Gives (OperatorRefuses said)) → is_live (stored_jobs new.store) ask.worker.number ask.attempt ≡ false
unfolding output
refused_output who start ask message said new refuses r s run =
    let tables = filter (meets start.store.tables ask.range.0) ask.attempt.sources in
    refused_step Written who ask.worker start ask.attempt tables message said new r s
    (subst (λ (refusal : Option (List ℕ)). Runs who (calls_each (gets_tables tables) (unless_refused {A = Written} ask.worker ask.attempt refusal (writes ask (rows_written who.merge start.store.tables ask)))) start new (Gives (OperatorRefuses said))) refuses run)

refused_finish : (who : Caller) (start : World) (ask : FinishAsk) (message said : List ℕ) (new : World) → ask.refusal ≡ Some message → Relies who ask.worker → State who ask.worker start ask.attempt [] start
    → Runs who (finish who.merge start.store.tables ask) start new (Gives (OperatorRefuses said)) → is_live (stored_jobs new.store) ask.worker.number ask.attempt ≡ false
unfolding finish
refused_finish who start ask message said new refuses r s run =
    refused_step FinishedJob who ask.worker start ask.attempt ask.attempt.sources message said new r s
    (subst (λ (refusal : Option (List ℕ)). Runs who (calls_each (gets_tables ask.attempt.sources) (unless_refused {A = FinishedJob} ask.worker ask.attempt refusal (puts_and_ends ask (tables_left who.merge start.store.tables ask)))) start new (Gives (OperatorRefuses said))) refuses run)

pub refusals_give_back : RefusalsGiveBack
refusals_give_back = record {
  outputs = λ who old ask message refuses keep own kept holds runs new said run.
      refused_output who old ask message said new refuses (record { keep = keep; own = own }) (begins who ask.worker old ask.attempt kept holds (found_in ask.worker.attempts ask.attempt.job ask.attempt runs)) run;
  finishes = λ who old ask message refuses keep own kept holds runs new said run.
      refused_finish who old ask message said new refuses (record { keep = keep; own = own }) (begins who ask.worker old ask.attempt kept holds (found_in ask.worker.attempts ask.attempt.job ask.attempt runs)) run;
}

-- ---- reports of outputs

-- What an output says of the table that it reports.
abbrev Says : Caller → (start new : World) → OutputAsk → Written → Type 0
Says who start new ask report = IfSome report.table (OutputSays who.merge start new ask report)

-- The table that an output reports is held, has the next rows of the range, and is noted for it.
written_says : (who : Caller) (start : World) (ask : OutputAsk) (rows : List Row) (new : World) (report : Written) → Relies who ask.worker → rows ≡ rows_written who.merge start.store.tables ask
    → (world : World) → State who ask.worker start ask.attempt [] world → IsLawfulCourse who world (writes ask rows) → Runs who (writes ask rows) world new (Gives (Reports report)) → Says who start new ask report
written_says who start ask [] new report r is world s lawful run = subst (Says who start new ask) (same run.1) tt
  where
    same : Reports (record { table = None; attempts = ask.worker.attempts }) ≡ Reports report → record { table = None; attempts = ask.worker.attempts } ≡ report
    same e = cc e
written_says who start ask (row ∷ rows) new report r is world s lawful run =
    puts_one {A = Written} (Says who start new ask report) who ask.worker start ask.attempt ask.moment (row ∷ rows) [] (λ table. Ends (Reports (reported table))) new (Gives (Reports report)) r (λ x met there stop. absurd stop) says world s lawful run
  where
    reported : ℕ → Written
    reported table = record { table = Some (table, row ∷ rows); attempts = with_noted ask.place table ask.attempt ask.worker.attempts }

    says : (after : World) (table : ℕ) → State who ask.worker start ask.attempt ((table, row ∷ rows) ∷ []) after → IsUnnoted ask.worker table → IsLawfulCourse who after (Ends (Reports (reported table)))
        → Runs who (Ends (Reports (reported table))) after new (Gives (Reports report)) → Says who start new ask report
    says after table made lacks further run = subst (Says who start new ask) (same run.1) (subst (λ (t : World). OutputSays who.merge start t ask (reported table) (table, row ∷ rows)) run.0 (record {
      held = made.made.0.1.held;
      has = made.made.0.1.same;
      next = is;
      noted = refl;
    }))
      where
        same : Reports (reported table) ≡ Reports report → reported table ≡ report
        same e = cc e

made_says : (who : Caller) (start : World) (ask : OutputAsk) (refusal : Option (List ℕ)) (new : World) (report : Written) → Relies who ask.worker → (world : World) → State who ask.worker start ask.attempt [] world
    → let course = unless_refused ask.worker ask.attempt refusal (writes ask (rows_written who.merge start.store.tables ask)) in
    IsLawfulCourse who world course → Runs who course world new (Gives (Reports report)) → Says who start new ask report
made_says who start ask None new report r world s lawful run = written_says who start ask (rows_written who.merge start.store.tables ask) new report r refl world s lawful run
made_says who start ask (Some message) new report r world s lawful run =
    released {A = Written} (Says who start new ask report) who ask.worker (ask.attempt ∷ []) (λ jobs. Ends (OperatorRefuses message)) new (Gives (Reports report)) r (record {
      stops = λ x met there stop. absurd stop;
      gives_up = λ seen later there run. absurd (cc run.1);
      goes = λ later jobs there over further run. absurd (cc run.1);
    }) most_refused 0 world (record { kept = s.kept; holds = s.holds }) lawful run

output_says : (who : Caller) (start : World) (ask : OutputAsk) (new : World) (report : Written) → Relies who ask.worker → State who ask.worker start ask.attempt [] start
    → IsLawfulCourse who start (output who.merge start.store.tables ask) → Runs who (output who.merge start.store.tables ask) start new (Gives (Reports report)) → Says who start new ask report
unfolding output
output_says who start ask new report r s lawful run =
    let course = unless_refused ask.worker ask.attempt ask.refusal (writes ask (rows_written who.merge start.store.tables ask)) in
    gets {A = Written} (Says who start new ask report) who ask.worker start ask.attempt course new (Gives (Reports report)) r (λ x met there stop. absurd stop)
    (λ world state further on. made_says who start ask ask.refusal new report r world state further on) (filter (meets start.store.tables ask.range.0) ask.attempt.sources) start s lawful run

pub outputs_say : OutputsSay
outputs_say who old ask keep operator own kept holds runs new report run =
    output_says who old ask new report (record { keep = keep; own = own }) (begins who ask.worker old ask.attempt kept holds (found_in ask.worker.attempts ask.attempt.job ask.attempt runs))
    (outputs_are_lawful who old ask keep operator own kept holds runs) run
