-- A finish replies with the outputs that it names, and they begin with the tables of its attempt.
use Rattle.std.proofs.Common.{◌≡◌, refl, sym, ◌∙◌, ap, subst, ℕ, List, [], ◌∷◌, ◌++◌, true, Option, Some, None}
use Rattle.std.specs.Prelude.{codes, map, IfSome, ◌==◌}
use Rattle.std.specs.List.{concat}
use Rattle.std.proofs.lemmas.Bool.Decides.{Decides-eqb}
use Rattle.std.proofs.lemmas.List.{append-nil, append_assoc}
use Rattle.row_model.specs.Fold.{Operator}
use Rattle.row_model.specs.JobRows.{JobRows, job_rows}
use Rattle.row_model.specs.Lists.{IsPrefixOf}
use Rattle.row_model.specs.Ranges.{Range}
use Rattle.fleet_model.specs.Jobs.{Job, Context, job_with}
use Rattle.fleet_model.specs.History.{Worker}
use Rattle.fleet_model.specs.Store.{Store, stored_jobs}
use Rattle.fleet_model.specs.Work.Attempts.{noted_rows, source_rows}
use Rattle.fleet_model.specs.Work.Parties.{Attempt, LiveWorker, is_live, live_attempts, without_worker}
use Rattle.fleet_model.specs.Invariants.AttemptsFit.{Extends, ContextExtends, AttemptFits, LiveFits}
use Rattle.step_model.specs.Past.{World}
use Rattle.step_model.specs.Rivals.{Caller}
use Rattle.step_model.specs.Steps.FinishSteps.{FinishedJob, all_outputs, finish}
use Rattle.step_laws.proofs.Elements.{all_at}
use Rattle.step_laws.proofs.Deletions.{in_filter}
use Rattle.commit_laws.proofs.AllCalls.{calls_keep}
use Rattle.course_laws.proofs.Finishes.{finishes_are_lawful}
use Rattle.worker_laws.specs.FinishReports.{IsFinished, FinishDid}
use Rattle.worker_laws.proofs.Finishes.{finishes_report}
use Rattle.script_model.specs.Script.{FinishJob}
use Rattle.script_model.specs.States.{Inputs, State}
use Rattle.script_model.specs.Replies.{reply, ranges_text, tables_by_range}
use Rattle.script_model.specs.Refusals.{FinishMay}
use Rattle.script_model.specs.LineRuns.{run_line, no_such_party, if_some, LineCourse}
use Rattle.script_model.specs.LineCourses.{course_of, job_at}
use Rattle.script_model.specs.LineSteps.{OneCourse}
use Rattle.script_model.specs.Lines.WorkLines.{parties_running, without_attempt, finish_asked, finish_line}
use Rattle.script_model.specs.Lines.Settles.{is_ok}
use Rattle.line_laws.specs.Lines.CommittedTables.{outputs_named, BeginWith, FinishNamed, FinishesName}
use Rattle.line_laws.proofs.Lines.{caller_of, world_of}
use Rattle.line_laws.proofs.Parties.{found}
use Rattle.line_laws.proofs.WorkerLines.{IsAttempt, is_attempt, whole_unless}
use Rattle.line_laws.proofs.Reports.{step_reported}
use Rattle.line_laws.proofs.FinishRuns.{finish_did}
use Rattle.line_laws.proofs.NamedOutputs.{stored_have}

-- ---- tables that outputs begin with

longer : (xs ys more : List ℕ) → IsPrefixOf xs ys → IsPrefixOf xs (ys ++ more)
longer xs ys more (rest, is) = (rest ++ more, sym (append_assoc xs rest more) ∙ ap (λ (all : List ℕ). all ++ more) is)

itself : (xs : List ℕ) → IsPrefixOf xs xs
itself xs = ([], append-nil xs)

-- Outputs begin with the tables that the attempt had noted.
begin_noted : (ranges : List (Range × List ℕ)) (made : List (List ℕ)) → BeginWith (map (λ r. r.1) ranges) (all_outputs ranges made)
begin_noted [] made = tt
begin_noted (r ∷ ranges) [] = (itself r.1, begin_noted ranges [])
begin_noted (r ∷ ranges) (tables ∷ made) = (longer r.1 r.1 tables (itself r.1), begin_noted ranges made)

-- So they begin with those of a context that the attempt's extends.
begin_published : (old ranges : List (Range × List ℕ)) (made : List (List ℕ)) → Extends old ranges → BeginWith (map (λ r. r.1) old) (all_outputs ranges made)
begin_published [] [] made extends = tt
begin_published [] (r ∷ ranges) made extends = absurd extends
begin_published (q ∷ old) [] made extends = absurd extends
begin_published (q ∷ old) (r ∷ ranges) [] (same, prefix, rest) = (prefix, begin_published old ranges [] rest)
begin_published (q ∷ old) (r ∷ ranges) (tables ∷ made) (same, prefix, rest) = (longer q.1 r.1 tables prefix, begin_published old ranges made rest)

published : (o : Option Context) (context : Context) (made : List (List ℕ)) → IfSome o (λ old. ContextExtends old context) → IfSome o (λ old. BeginWith (tables_by_range old) (all_outputs context.ranges made))
published None context made extends = tt
published (Some old) context made extends = begin_published old.ranges context.ranges made extends.ranges

-- ---- the outputs of a finished job

-- The history names the outputs of a job that is finished with them.
finished_named : (merge : Operator) (store : Store) (id : ℕ) (outputs : List (List ℕ)) → IsFinished merge store id outputs → outputs_named store.history id ≡ outputs
finished_named merge store id outputs f =
    let there = found (λ (job : Job). id == job.id) (stored_jobs store) f.job f.stored in
    ap (outputs_named store.history) ((Decides-eqb id f.job.id).0 there.passes) ∙ sym (all_at _ (stored_jobs store) f.job (stored_have store f.merged.replay) there.there f.waits) ∙ f.has

-- ---- the line

abbrev finishing : Inputs → State → Option (List ℕ) → Option (LiveWorker × Attempt) → LineCourse
finishing inputs s refusal o = if_some o (no_such_party s) (λ found. finish_line inputs s (finish_asked s refusal found))

finish_is : (inputs : Inputs) (number : ℕ) (old new : State) (n job : ℕ) (answer : List ℕ) (one : OneCourse inputs number old (FinishJob n job) answer new) → run_line number old (finishing inputs old one.does.refusal (job_at old n job)) ≡ (answer, new)
unfolding course_of
finish_is inputs number old new n job answer one = ap (run_line number old) (sym one.does.is) ∙ one.ends

-- All rows of these outputs.
abbrev all_rows : Store → List (List ℕ) → JobRows
all_rows store outputs = record { rows = noted_rows store.tables (concat outputs); whole = true }

-- A finish that is not refused names the outputs that it prints.
pub finishes_name : FinishesName
finishes_name inputs old new n job answer c ok = by c.course.does.refusal (job_at old n job) refl c.course.does.may (finish_is inputs c.number old new n job answer c.course)
  where
    spell : FinishedJob → List ℕ
    spell r = reply (codes "ok" ∷ ranges_text r.outputs ∷ [])

    -- What is published of the job of a live attempt.
    extends : (w : LiveWorker) (a : Attempt) → IsAttempt inputs.merge old c.keeps n w a → is_live (stored_jobs old.store) w.number a ≡ true → (stored : Job) → job_with a.job (stored_jobs old.store) ≡ Some stored → IfSome stored.context (λ context. ContextExtends context a.context)
    extends w a at live stored is =
        let specs = c.keeps.fleet.store.stored.replay.specs in
        let there = found (λ (b : Attempt). a.job == b.job) w.attempts a at.runs in
        let fits = all_at (LiveFits inputs.merge old.store specs) (live_attempts (stored_jobs old.store) w) a (at.holds.fits specs c.keeps.fleet.store.faithful).live (in_filter (is_live (stored_jobs old.store) w.number) w.attempts a there.there live) in
        let fit : AttemptFits inputs.merge old.store specs stored a = subst (λ (o : Option Job). IfSome o (λ (job : Job). AttemptFits inputs.merge old.store specs job a)) is fits in
        fit.published

    by : (refusal : Option (List ℕ)) (o : Option (LiveWorker × Attempt)) → job_at old n job ≡ o → FinishMay inputs old o refusal → run_line c.number old (finishing inputs old refusal o) ≡ (answer, new) → FinishNamed inputs.merge n job old answer new
    by refusal None there may is = let same = ap (λ (p : List ℕ × State). p.0) is in absurd (cc (ap is_ok same ∙ ok))
    by refusal (Some p) there may is =
        let w = p.0 in
        let a = p.1 in
        let who : Caller = caller_of inputs.merge c.number (Worker w.number) in
        let world : World = world_of inputs.merge old c.keeps in
        let at = is_attempt inputs.merge old c.keeps n job p there in
        let ask = finish_asked old refusal p in
        let step = finish inputs.merge old.store.tables ask in
        let r = step_reported inputs.merge c.number old (Worker w.number) step spell (λ (r : FinishedJob). parties_running w old r.attempts) (parties_running w old (without_attempt w a)) (without_worker w.number old.parties) c.keeps answer new is c.had_room ok in
        let keep = calls_keep inputs.merge c.lawful in
        let whole = whole_unless inputs old w a refusal may in
        let lawful = finishes_are_lawful who world ask keep c.lawful refl c.keeps.fleet.store at.holds at.runs whole in
        let f = finish_did who old.store.tables ask world r.left r.report keep refl (record { kept = c.keeps.fleet.store; lawful = lawful; run = r.run }) in
        let d : FinishDid who old.moment w a r.left r.report = finishes_report who world r.left ask r.report keep c.lawful refl c.keeps.fleet.store at.holds at.runs whole r.run in
        record {
          worker = w;
          attempt = a;
          ran = there;
          outputs = all_outputs a.context.ranges d.made;
          printed = r.printed ∙ ap (λ (outputs : List (List ℕ)). reply (codes "ok" ∷ ranges_text outputs ∷ [])) d.outputs;
          named = ap (λ (s : Store). outputs_named s.history a.job) (sym r.stored) ∙ finished_named inputs.merge r.left.store a.job r.report.outputs d.finished ∙ d.outputs;
          noted = begin_noted a.context.ranges d.made;
          published = λ stored is. published stored.context a.context d.made (extends w a at f.end.live stored is);
          rows = ap (λ (s : Store). job_rows inputs.merge a.context.settings (source_rows s.tables a.sources)) (sym r.stored) ∙ d.rows
              ∙ ap (λ (s : Store). all_rows s r.report.outputs) r.stored ∙ ap (all_rows new.store) d.outputs;
        }
