-- An output notes the table that it prints.
use Rattle.std.proofs.Common.{◌≡◌, refl, sym, ◌∙◌, ap, ℕ, List, [], ◌∷◌, ◌++◌, Option, Some, None}
use Rattle.std.specs.Prelude.{⊤, filter}
use Rattle.std.proofs.lemmas.List.{append-nil}
use Rattle.row_model.specs.Rows.{Row}
use Rattle.row_model.specs.Fold.{Operator}
use Rattle.row_model.specs.Ranges.{Range}
use Rattle.fleet_model.specs.Nodes.{Tables}
use Rattle.fleet_model.specs.History.{Party, Worker}
use Rattle.fleet_model.specs.Store.{Store}
use Rattle.fleet_model.specs.Exchanges.{next_table_id}
use Rattle.fleet_model.specs.Work.Parties.{Attempt, LiveWorker, worker_with, without_worker}
use Rattle.step_model.specs.Courses.StepEnds.{StepEnd, Reports}
use Rattle.step_model.specs.Steps.OutputSteps.{OutputAsk, Written, meets, gets_tables, unless_refused, rows_written, writes, output}
use Rattle.script_model.specs.Script.{Output}
use Rattle.script_model.specs.States.{Inputs, State}
use Rattle.script_model.specs.Replies.{output_reply}
use Rattle.script_model.specs.LineRuns.{LineCourse, run_line, no_such_party, if_some}
use Rattle.script_model.specs.LineCourses.{course_of, range_at}
use Rattle.script_model.specs.LineSteps.{OneCourse}
use Rattle.script_model.specs.Lines.Settles.{is_ok}
use Rattle.script_model.specs.Lines.WorkLines.{parties_running, without_attempt, output_asked, output_line}
use Rattle.line_laws.specs.Lines.CommittedTables.{put_by, rows_of, after_output, OutputRan, OutputsNote}
use Rattle.line_laws.proofs.AloneEnds.{EndsSo, IsLike, gets_so}
use Rattle.line_laws.proofs.StepRefusals.{back_so}
use Rattle.line_laws.proofs.RefusedLines.{job_number, range_job}
use Rattle.line_laws.proofs.OkLines.{StepDid, step_did}
use Rattle.line_laws.proofs.ClaimLines.{found_worker}

-- What an output leaves that reports.
pub record OutputLeft (merge : Operator) (tables : Tables) (ask : OutputAsk) (old : Store) (report : Written) (left : Store) : Type 0 where
  pub has : rows_of report.table ≡ rows_written merge tables ask
  pub put : left.tables ≡ old.tables ++ put_by report.table
  pub manifest : left.manifest ≡ old.manifest
  pub records : left.records ≡ old.records
  pub attempts : report.attempts ≡ after_output ask.place report.table ask.attempt ask.worker.attempts

abbrev pub Outputs : Operator → Tables → OutputAsk → Store → StepEnd Written → Store → Type 0
Outputs merge tables ask old (Reports report) left = OutputLeft merge tables ask old report left
Outputs merge tables ask old end left = ⊤

-- An output of these rows puts them as a table, reports it, and notes it for the range.
writes_left : (line : ℕ) (party : Party) (merge : Operator) (tables : Tables) (ask : OutputAsk) (rows : List Row) (old store : Store) → IsLike old store → rows ≡ rows_written merge tables ask → EndsSo line party (writes ask rows) store (Outputs merge tables ask old)
writes_left line party merge tables ask [] old store like same = record {
  has = same;
  put = ap (λ (s : Store). s.tables) like ∙ sym (append-nil old.tables);
  manifest = ap (λ (s : Store). s.manifest) like;
  records = ap (λ (s : Store). s.records) like;
  attempts = refl;
}
writes_left line party merge tables ask (r ∷ rows) old store like same = record {
  has = same;
  put = ap (λ (s : Store). s.tables ++ (next_table_id ask.moment store, r ∷ rows) ∷ []) like;
  manifest = ap (λ (s : Store). s.manifest) like;
  records = ap (λ (s : Store). s.records) like;
  attempts = refl;
}

pub output_left : (line : ℕ) (party : Party) (merge : Operator) (tables : Tables) (ask : OutputAsk) (store : Store) → EndsSo line party (output merge tables ask) store (Outputs merge tables ask store)
unfolding output
output_left line party merge tables ask store =
    gets_so line party (gets_tables (filter (meets tables ask.range.0) ask.attempt.sources)) (unless_refused ask.worker ask.attempt ask.refusal (writes ask (rows_written merge tables ask))) store store (Outputs merge tables ask store) refl (λ left like. by ask.refusal left like)
  where
    by : (o : Option (List ℕ)) (left : Store) → IsLike store left → EndsSo line party (unless_refused ask.worker ask.attempt o (writes ask (rows_written merge tables ask))) left (Outputs merge tables ask store)
    by None left like = writes_left line party merge tables ask (rows_written merge tables ask) store left like refl
    by (Some message) left like = back_so line party ask.worker ask.attempt message store left (Outputs merge tables ask store) like (λ left back. tt)

-- The line of an output, given what it finds.
abbrev outputting : Inputs → State → (place rows : ℕ) → Option (List ℕ) → Option (LiveWorker × Attempt × (Range × List ℕ)) → LineCourse
outputting inputs s place rows refusal o = if_some o (no_such_party s) (λ found. output_line inputs s (output_asked s place rows refusal found))

output_is : (inputs : Inputs) (number : ℕ) (old new : State) (n job place rows : ℕ) (answer : List ℕ) (one : OneCourse inputs number old (Output n job place rows) answer new)
    → run_line number old (outputting inputs old place rows one.does.refusal (range_at old n job place)) ≡ (answer, new)
unfolding course_of
output_is inputs number old new n job place rows answer one = ap (run_line number old) (sym one.does.is) ∙ one.ends

-- An output that is not refused notes the table that it prints.
pub outputs_note : OutputsNote
outputs_note inputs number old new n job place rows answer one ok = by one.does.refusal (range_at old n job place) refl (output_is inputs number old new n job place rows answer one)
  where
    by : (refusal : Option (List ℕ)) (o : Option (LiveWorker × Attempt × (Range × List ℕ))) → range_at old n job place ≡ o → run_line number old (outputting inputs old place rows refusal o) ≡ (answer, new) → OutputRan inputs n job place rows old answer new
    by refusal None there is = let same = ap (λ (p : List ℕ × State). p.0) is in absurd (cc (ap is_ok same ∙ ok))
    by refusal (Some q) there is = at (step_did number old (Worker w.number) (output inputs.merge old.store.tables ask) (λ r. output_reply r.table) (λ r. parties_running w old r.attempts) (parties_running w old (without_attempt w a)) (without_worker w.number old.parties)
        (Outputs inputs.merge old.store.tables ask old.store) answer new (output_left number (Worker w.number) inputs.merge old.store.tables ask old.store) is ok)
      where
        w : LiveWorker
        w = q.0

        a : Attempt
        a = q.1

        ask : OutputAsk
        ask = output_asked old place rows refusal q

        at : StepDid (λ (r : Written). output_reply r.table) (λ r. parties_running w old r.attempts) (Outputs inputs.merge old.store.tables ask old.store) answer new → OutputRan inputs n job place rows old answer new
        at d = record {
          worker = w;
          attempt = a;
          range = q.2;
          ran = there;
          table = d.report.table;
          printed = d.printed;
          has = d.left.has;
          put = d.left.put;
          manifest = d.left.manifest;
          records = d.left.records;
          runs = ap (worker_with n) d.live ∙ ap (λ (attempts : List Attempt). worker_with n (parties_running w old attempts)) d.left.attempts ∙ found_worker n (record w { attempts = _ }) old.parties (job_number old n job (w, a) (range_job old n job place q there));
        }
