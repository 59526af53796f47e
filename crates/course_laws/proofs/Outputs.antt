-- An output of a worker is a lawful course.
use Rattle.std.proofs.Common.{◌≡◌, ℕ, List, [], ◌∷◌, cond, Bool, true, false, inl, inr, Option, Some, None}
use Rattle.std.specs.Prelude.{◌==◌, filter}
use Rattle.row_model.specs.Rows.{Row, IsStrictlyOrdered}
use Rattle.fleet_model.specs.Invariants.TreesFit.{IsTable}
use Rattle.fleet_model.specs.History.{Worker, GetTable}
use Rattle.fleet_model.specs.Work.Attempts.{source_rows, rows_left}
use Rattle.fleet_model.specs.Work.Parties.{Attempt, LiveWorker, attempt_at}
use Rattle.fleet_model.specs.Exchanges.{Plain, DrawsTable, PutsTable, next_table_id}
use Rattle.step_model.specs.Past.{World}
use Rattle.step_model.specs.LawfulTables.{TableFits}
use Rattle.step_model.specs.Rivals.{Caller, after_call}
use Rattle.step_model.specs.Kept.Keeps.{Keeps}
use Rattle.step_model.specs.Fits.{AttemptHeld}
use Rattle.step_model.specs.Courses.CourseRuns.{IsLawfulCourse}
use Rattle.step_model.specs.Steps.OutputSteps.{OutputAsk, Written, meets, gets_tables, gives_back, unless_refused, with_noted, rows_written, writes, output}
use Rattle.step_model.specs.Courses.StepEnds.{StepEnd, Reports, OperatorRefuses, most_refused}
use Rattle.step_model.specs.Courses.Course.{Course, Ends, calls_each, puts_table}
use Rattle.step_laws.specs.Runs.{CallsKeep}
use Rattle.step_laws.proofs.Runs.{rivals_keep}
use Rattle.step_laws.proofs.Elements.{IsIn, all_at}
use Rattle.course_laws.specs.Outputs.{OutputsAreLawful}
use Rattle.course_laws.proofs.Calls.{keeps_after}
use Rattle.course_laws.proofs.Releases.{releases}
use Rattle.course_laws.proofs.JobBounds.{IsShort, AreGood, left_good, take_good}
use Rattle.course_laws.proofs.NewTables.{rivals_last_drawn, drawn_last}

-- Gets of tables are lawful.
pub gets_lawful : {A : Type 0} (who : Caller) (next : Course A) (tables : List ℕ) (world : World) → CallsKeep who.merge → Keeps who.merge world → ((new : World) → Keeps who.merge new → IsLawfulCourse who new next)
    → IsLawfulCourse who world (calls_each (gets_tables tables) next)
gets_lawful who next [] world keep kept rest = rest world kept
gets_lawful who next (table ∷ tables) world keep kept rest = λ met rivals room.
    (tt, gets_lawful who next tables (after_call who.line who.party (Plain (GetTable table)) None met) keep (keeps_after who (Plain (GetTable table)) met keep (rivals_keep who world met keep kept rivals) tt) rest)

-- The draw of an id and the put of a table under it are lawful.
pub table_lawful : {A : Type 0} (who : Caller) (moment : ℕ) (rows : List Row) (next : ℕ → Course A) (world : World) → CallsKeep who.merge → Keeps who.merge world → IsTable rows
    → ((new : World) (table : ℕ) → Keeps who.merge new → IsLawfulCourse who new (next table)) → IsLawfulCourse who world (puts_table moment rows next)
table_lawful who moment rows next world keep kept sound rest = λ d before room.
    let table = next_table_id moment d.store in
    let there = rivals_keep who world d keep kept before in
    let drawn = after_call who.line who.party (DrawsTable moment) None d in
    let kept_drawn = keeps_after who (DrawsTable moment) d keep there room in (
      room,
      λ t between room_there.
          let last = rivals_last_drawn who table drawn t keep kept_drawn between (drawn_last who d moment there room) in
          let fits : TableFits who.party t.store table rows = record { sound = sound; new = last.new; named = inl last.last } in
          (fits, rest (after_call who.line who.party (PutsTable table rows) None t) table (keeps_after who (PutsTable table rows) t keep (rivals_keep who drawn t keep kept_drawn between) fits)),
    )

-- ---- outputs

pub found_in : (attempts : List Attempt) (job : ℕ) (a : Attempt) → attempt_at job attempts ≡ Some a → IsIn a attempts
found_in [] job a e = absurd (cc e)
found_in (first ∷ attempts) job a e = by (job == first.job) (found_in attempts job a) e
  where
    by : (b : Bool) → (attempt_at job attempts ≡ Some a → IsIn a attempts) → cond b (Some first) (attempt_at job attempts) ≡ Some a → IsIn a (first ∷ attempts)
    by true rest e = inl (cc e)
    by false rest e = inr (rest e)

pub back_lawful : (A : Type 0) (who : Caller) (w : LiveWorker) (a : Attempt) (message : List ℕ) (world : World) → who.party ≡ Worker w.number → IsLawfulCourse who world (gives_back {A = A} w a message)
back_lawful A who w a message world by = releases {A = A} who w (a ∷ []) (λ released. Ends (OperatorRefuses message)) by (λ new released. tt) most_refused 0 world

written_lawful : (who : Caller) (ask : OutputAsk) (rows : List Row) (world : World) → CallsKeep who.merge → Keeps who.merge world → AreGood rows → IsLawfulCourse who world (writes ask rows)
written_lawful who ask [] world keep kept good = tt
written_lawful who ask (r ∷ rows) world keep kept good =
    table_lawful {A = StepEnd Written} who ask.moment (r ∷ rows) (λ table. Ends (Reports (record { table = Some (table, r ∷ rows); attempts = with_noted ask.place table ask.attempt ask.worker.attempts }))) world keep kept
    (record { some = λ e. cc e; ordered = good.ordered; bounds = good.bounds }) (λ new table there. tt)

made_lawful : (who : Caller) (world new : World) (ask : OutputAsk) (refusal : Option (List ℕ)) → CallsKeep who.merge → IsShort who.merge
    → who.party ≡ Worker ask.worker.number → Keeps who.merge world → IsStrictlyOrdered (source_rows world.store.tables ask.attempt.sources) → Keeps who.merge new
    → IsLawfulCourse who new (unless_refused ask.worker ask.attempt refusal (writes ask (rows_written who.merge world.store.tables ask)))
made_lawful who world new ask None keep short by kept ordered there =
    let a = ask.attempt in
    written_lawful who ask (rows_written who.merge world.store.tables ask) new keep there
    (take_good ask.rows (rows_left who.merge world.store.tables a.context.settings a.sources ask.range).rows (left_good who.merge world.store.tables a.context.settings a.sources ask.range short kept.stored.sound.tables ordered))
made_lawful who world new ask (Some message) keep short by kept ordered there = back_lawful Written who ask.worker ask.attempt message new by

pub outputs_are_lawful : OutputsAreLawful
unfolding output
outputs_are_lawful who world ask keep operator by kept holds runs =
    let w = ask.worker in
    let a = ask.attempt in
    gets_lawful who (unless_refused w a ask.refusal (writes ask (rows_written who.merge world.store.tables ask))) (filter (meets world.store.tables ask.range.0) a.sources) world keep kept
    (λ new there. made_lawful who world new ask ask.refusal keep operator.short by kept
    (all_at (AttemptHeld world w.number) w.attempts a holds.each (found_in w.attempts a.job a runs)).ordered there)
