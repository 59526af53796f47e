-- The steps by which a worker takes messages are lawful courses.
use Rattle.std.proofs.Common.{◌≡◌, refl, sym, ◌∙◌, ap, subst, ℕ, List, [], ◌∷◌, ◌++◌, cond, Bool, true, false, Option, Some, None, drop, length}
use Rattle.std.specs.Prelude.{◌==◌, map, flat_map, IfSome}
use Rattle.std.specs.List.{AllZip, AllByRecursion}
use Rattle.row_model.specs.Rows.{Row}
use Rattle.row_model.specs.Fold.{Operator}
use Rattle.row_model.specs.Ranges.{Range}
use Rattle.fleet_model.specs.Nodes.{table_rows}
use Rattle.fleet_model.specs.History.{Worker}
use Rattle.fleet_model.specs.Store.{is_held}
use Rattle.fleet_model.specs.Work.Attempts.{noted_rows, range_rows, rows_left}
use Rattle.fleet_model.specs.Work.Parties.{Attempt, LiveWorker, attempt_at, without_attempts}
use Rattle.fleet_model.specs.Sweeps.{attempt_tables}
use Rattle.step_model.specs.Past.{World}
use Rattle.step_model.specs.Rivals.{Caller}
use Rattle.step_model.specs.Kept.Keeps.{Keeps}
use Rattle.step_model.specs.Fits.{WorkerHolds}
use Rattle.step_model.specs.Courses.Course.{Ends}
use Rattle.step_model.specs.Courses.CourseRuns.{IsLawfulCourse}
use Rattle.step_model.specs.Courses.StepEnds.{Reports, most_refused}
use Rattle.step_model.specs.Steps.FinishSteps.{all_outputs, end_job}
use Rattle.step_model.specs.Steps.MessageSteps.{if_numbered, attempt_run, ends_run, take_finished, release_job, gives_run, take_failed, take_progress}
use Rattle.step_laws.specs.Runs.{CallsKeep}
use Rattle.step_laws.proofs.Elements.{IsIn, all_at, all_to, all_append, all_true_front}
use Rattle.rival_laws.specs.Free.{IsFree}
use Rattle.course_laws.specs.Messages.{IsUnused, IsWhole, ResultFits, MessagesAreLawful}
use Rattle.course_laws.proofs.Calls.{all_map}
use Rattle.course_laws.proofs.Held.{HasRows}
use Rattle.course_laws.proofs.Made.{State, ids_of, tables_of, all_of}
use Rattle.course_laws.proofs.Finishes.{AreLeft, begins, end_lawful, flat_append, drop_front}
use Rattle.course_laws.proofs.Outputs.{found_in}
use Rattle.course_laws.proofs.Releases.{releases}

-- ---- the attempt of a message

-- An attempt that a message is about is one that the worker runs.
pub run_there : (w : LiveWorker) (job number : ℕ) (a : Attempt) → attempt_run w job number ≡ Some a → IsIn a w.attempts
run_there w job number a e = found_in w.attempts job a (by (attempt_at job w.attempts) e)
  where
    numbered : (b : Attempt) (c : Bool) → cond c (Some b) None ≡ Some a → Some b ≡ Some a
    numbered b true e = e
    numbered b false e = absurd (cc e)

    by : (o : Option Attempt) → if_numbered number o ≡ Some a → o ≡ Some a
    by None e = absurd (cc e)
    by (Some b) e = numbered b (number == b.number) e

-- ---- a result as tables that were made

-- Tables with the rows that they have.
abbrev pub with_rows : World → List ℕ → List (ℕ × List Row)
with_rows world tables = map (λ table. (table, table_rows world.store.tables table)) tables

-- The tables of a result that the attempt had not noted.
abbrev pub new_tables : (merge : Operator) (world : World) (w : LiveWorker) (a : Attempt) (ranges : List (Range × List ℕ)) (result : List (List ℕ)) → AllZip (IsWhole merge world w a) ranges result → List (List (ℕ × List Row))
new_tables merge world w a [] [] each = []
new_tables merge world w a [] (tables ∷ result) each = []
new_tables merge world w a (r ∷ ranges) [] each = []
new_tables merge world w a (r ∷ ranges) (tables ∷ result) each = with_rows world each.0.new ∷ new_tables merge world w a ranges result each.1

ids_with : (world : World) (tables : List ℕ) → ids_of (with_rows world tables) ≡ tables
ids_with world [] = refl
ids_with world (table ∷ tables) = ap (λ (ids : List ℕ). table ∷ ids) (ids_with world tables)

rows_with : (world : World) (tables : List ℕ) → flat_map (λ table. table) (tables_of (with_rows world tables)) ≡ noted_rows world.store.tables tables
rows_with world [] = refl
rows_with world (table ∷ tables) = ap (λ (rows : List Row). table_rows world.store.tables table ++ rows) (rows_with world tables)

-- The result is what an attempt had noted, and then these tables.
pub result_is : (merge : Operator) (world : World) (w : LiveWorker) (a : Attempt) (ranges : List (Range × List ℕ)) (result : List (List ℕ)) (each : AllZip (IsWhole merge world w a) ranges result)
    → result ≡ all_outputs ranges (map ids_of (new_tables merge world w a ranges result each))
result_is merge world w a [] [] each = refl
result_is merge world w a [] (tables ∷ result) each = absurd each
result_is merge world w a (r ∷ ranges) [] each = absurd each
result_is merge world w a (r ∷ ranges) (tables ∷ result) each =
    let first = each.0.begins ∙ ap (λ (ids : List ℕ). r.1 ++ ids) (sym (ids_with world each.0.new)) in
    let rest = result_is merge world w a ranges result each.1 in
    λ i. first i ∷ rest i

-- They have the rows that were left.
result_left : (merge : Operator) (world : World) (w : LiveWorker) (a : Attempt) (ranges : List (Range × List ℕ)) (result : List (List ℕ)) (each : AllZip (IsWhole merge world w a) ranges result)
    → AreLeft (λ range. (rows_left merge world.store.tables a.context.settings a.sources range).rows) ranges (new_tables merge world w a ranges result each)
result_left merge world w a [] [] each = tt
result_left merge world w a [] (tables ∷ result) each = absurd each
result_left merge world w a (r ∷ ranges) [] each = absurd each
result_left merge world w a (r ∷ ranges) (tables ∷ result) each =
    let one = each.0 in
    let all : (range_rows merge world.store.tables a.context.settings a.sources r.0).rows ≡ noted_rows world.store.tables r.1 ++ noted_rows world.store.tables one.new =
    one.rows ∙ ap (noted_rows world.store.tables) one.begins ∙ flat_append (table_rows world.store.tables) r.1 one.new in
    (rows_with world one.new ∙ sym (ap (drop (length (noted_rows world.store.tables r.1))) all ∙ drop_front (noted_rows world.store.tables r.1) (noted_rows world.store.tables one.new)), result_left merge world w a ranges result each.1)

result_whole : (merge : Operator) (world : World) (w : LiveWorker) (a : Attempt) (ranges : List (Range × List ℕ)) (result : List (List ℕ)) → AllZip (IsWhole merge world w a) ranges result
    → AllByRecursion (λ range. (range_rows merge world.store.tables a.context.settings a.sources range.0).whole ≡ true) ranges
result_whole merge world w a [] [] each = tt
result_whole merge world w a [] (tables ∷ result) each = tt
result_whole merge world w a (r ∷ ranges) [] each = absurd each
result_whole merge world w a (r ∷ ranges) (tables ∷ result) each = (each.0.refuses_none, result_whole merge world w a ranges result each.1)

-- What all unused tables have, all of them have.
pub result_all : (P : ℕ × List Row → Type 0) (merge : Operator) (world : World) (w : LiveWorker) (a : Attempt) → ((table : ℕ) → IsUnused world w table → P (table, table_rows world.store.tables table))
    → (ranges : List (Range × List ℕ)) (result : List (List ℕ)) (each : AllZip (IsWhole merge world w a) ranges result) → AllByRecursion P (all_of (new_tables merge world w a ranges result each))
result_all P merge world w a have [] [] each = tt
result_all P merge world w a have [] (tables ∷ result) each = tt
result_all P merge world w a have (r ∷ ranges) [] each = absurd each
result_all P merge world w a have (r ∷ ranges) (tables ∷ result) each =
    all_append P (with_rows world each.0.new) _ (all_map P (λ table. (table, table_rows world.store.tables table)) each.0.new (all_to (IsUnused world w) _ each.0.new (λ table there one. have table one) each.0.unused))
    (result_all P merge world w a have ranges result each.1)

-- ---- what a step at an attempt begins with

-- The worker fits, and the tables of the result are free and have their rows.
pub result_state : (who : Caller) (w : LiveWorker) (world : World) (a : Attempt) (result : List (List ℕ)) → who.party ≡ Worker w.number → IsIn a w.attempts → Keeps who.merge world → WorkerHolds who.merge world w
    → (each : ResultFits who.merge world w result a) → State who w world a (all_of (new_tables who.merge world w a a.context.ranges result each)) world
result_state who w world a result by there kept holds each = record {
  kept = kept;
  holds = holds;
  old = all_to _ _ (attempt_tables a) (λ id one is. record { held = is; same = refl })
      (all_true_front (is_held world.store) (attempt_tables a) (all_at _ w.attempts a (holds.fits kept.stored.replay.specs kept.faithful).each there).held);
  made = result_all (λ p. IsFree who.party world p.0 × HasRows p.0 p.1 world.store) who.merge world w a
      (λ table one. (subst (λ party. IsFree party world table) (sym by) one.free, record { held = one.held; same = refl })) a.context.ranges result each;
}

-- The end of an attempt with a whole result is a lawful course.
pub result_lawful : (who : Caller) (world : World) (moment : ℕ) (w : LiveWorker) (a : Attempt) (result : List (List ℕ)) → CallsKeep who.merge → who.party ≡ Worker w.number → Keeps who.merge world → WorkerHolds who.merge world w
    → IsIn a w.attempts → ResultFits who.merge world w result a → IsLawfulCourse who world (end_job moment w a result)
result_lawful who world moment w a result keep by kept holds there each =
    let made = new_tables who.merge world w a a.context.ranges result each in
    subst (λ outputs. IsLawfulCourse who world (end_job moment w a outputs)) (sym (result_is who.merge world w a a.context.ranges result each))
    (end_lawful who w world moment a made (record { keep = keep; own = by }) (begins who w world a by there kept holds (result_whole who.merge world w a a.context.ranges result each)) (result_left who.merge world w a a.context.ranges result each) world
    (result_state who w world a result by there kept holds each))

-- ---- the laws

finished_lawful : (who : Caller) (world : World) (moment : ℕ) (w : LiveWorker) (job number : ℕ) (result : List (List ℕ)) → CallsKeep who.merge → who.party ≡ Worker w.number → Keeps who.merge world → WorkerHolds who.merge world w
    → IfSome (attempt_run w job number) (ResultFits who.merge world w result) → IsLawfulCourse who world (take_finished moment w job number result)
unfolding take_finished
finished_lawful who world moment w job number result keep by kept holds fits = at (attempt_run w job number) refl fits
  where
    at : (o : Option Attempt) → attempt_run w job number ≡ o → IfSome o (ResultFits who.merge world w result) → IsLawfulCourse who world (ends_run moment w result o)
    at None e fits = tt
    at (Some a) e fits = result_lawful who world moment w a result keep by kept holds (run_there w job number a e) fits

pub release_lawful : (who : Caller) (world : World) (w : LiveWorker) (a : Attempt) → who.party ≡ Worker w.number → IsLawfulCourse who world (release_job w a)
unfolding release_job
release_lawful who world w a by = releases who w (a ∷ []) (λ released. Ends (Reports (without_attempts (a.job ∷ []) w.attempts))) by (λ new released. tt) most_refused 0 world

failed_lawful : (who : Caller) (world : World) (w : LiveWorker) (job number : ℕ) → who.party ≡ Worker w.number → IsLawfulCourse who world (take_failed w job number)
unfolding take_failed
failed_lawful who world w job number by = at (attempt_run w job number)
  where
    at : (o : Option Attempt) → IsLawfulCourse who world (gives_run w o)
    at None = tt
    at (Some a) = release_lawful who world w a by

pub messages_are_lawful : MessagesAreLawful
unfolding take_progress
messages_are_lawful = record {
  finished = finished_lawful;
  failed = failed_lawful;
  progress = λ who world w job number context. tt;
}
