-- What a finish does that is not refused.
use Rattle.std.proofs.Common.{◌≡◌, refl, sym, ◌∙◌, ap, ℕ, List, [], ◌∷◌, Option, Some, None}
use Rattle.std.specs.Prelude.{codes}
use Rattle.fleet_model.specs.History.{Worker}
use Rattle.fleet_model.specs.Store.{Store, stored_jobs}
use Rattle.fleet_model.specs.Work.Parties.{Attempt, LiveWorker, worker_with, without_worker}
use Rattle.step_model.specs.Rivals.{Caller}
use Rattle.step_model.specs.Steps.FinishSteps.{FinishedJob, finish}
use Rattle.commit_laws.proofs.AllCalls.{calls_keep}
use Rattle.course_laws.proofs.Finishes.{finishes_are_lawful}
use Rattle.script_model.specs.Script.{FinishJob}
use Rattle.script_model.specs.States.{Inputs, State}
use Rattle.script_model.specs.Replies.{reply, ranges_text}
use Rattle.script_model.specs.Refusals.{FinishMay}
use Rattle.script_model.specs.LineRuns.{run_line, no_such_party, if_some, LineCourse}
use Rattle.script_model.specs.LineCourses.{course_of, job_at}
use Rattle.script_model.specs.LineSteps.{OneCourse}
use Rattle.script_model.specs.Lines.WorkLines.{parties_running, without_attempt, finish_asked, finish_line}
use Rattle.script_model.specs.Lines.Settles.{is_ok}
use Rattle.line_laws.specs.Lines.FinishLines.{FinishRan, FinishesEnd}
use Rattle.line_laws.proofs.Lines.{caller_of, world_of}
use Rattle.line_laws.proofs.WorkerLines.{is_attempt, whole_unless}
use Rattle.line_laws.proofs.Reports.{step_reported}
use Rattle.line_laws.proofs.ClaimLines.{found_worker}
use Rattle.line_laws.proofs.FinishRuns.{finish_did}

-- The line of a finish, given the worker and the attempt that it finds.
abbrev finishing : Inputs → State → Option (List ℕ) → Option (LiveWorker × Attempt) → LineCourse
finishing inputs s refusal o = if_some o (no_such_party s) (λ found. finish_line inputs s (finish_asked s refusal found))

finish_is : (inputs : Inputs) (number : ℕ) (old new : State) (n job : ℕ) (answer : List ℕ) (one : OneCourse inputs number old (FinishJob n job) answer new) → run_line number old (finishing inputs old one.does.refusal (job_at old n job)) ≡ (answer, new)
unfolding course_of
finish_is inputs number old new n job answer one = ap (run_line number old) (sym one.does.is) ∙ one.ends

-- A finish that is not refused ends a live attempt of a live worker, and the reply has its outputs.
pub finishes_end : FinishesEnd
finishes_end inputs old new n job answer c ok = by c.course.does.refusal (job_at old n job) refl c.course.does.may (finish_is inputs c.number old new n job answer c.course)
  where
    spell : FinishedJob → List ℕ
    spell r = reply (codes "ok" ∷ ranges_text r.outputs ∷ [])

    by : (refusal : Option (List ℕ)) (o : Option (LiveWorker × Attempt)) → job_at old n job ≡ o → FinishMay inputs old o refusal → run_line c.number old (finishing inputs old refusal o) ≡ (answer, new) → FinishRan n job old answer new
    by refusal None there may is = let same = ap (λ (p : List ℕ × State). p.0) is in absurd (cc (ap is_ok same ∙ ok))
    by refusal (Some p) there may is =
        let w = p.0 in
        let a = p.1 in
        let who : Caller = caller_of inputs.merge c.number (Worker w.number) in
        let at = is_attempt inputs.merge old c.keeps n job p there in
        let ask = finish_asked old refusal p in
        let step = finish inputs.merge old.store.tables ask in
        let r = step_reported inputs.merge c.number old (Worker w.number) step spell (λ (r : FinishedJob). parties_running w old r.attempts) (parties_running w old (without_attempt w a)) (without_worker w.number old.parties) c.keeps answer new is c.had_room ok in
        let keep = calls_keep inputs.merge c.lawful in
        let lawful = finishes_are_lawful who (world_of inputs.merge old c.keeps) ask keep c.lawful refl c.keeps.fleet.store at.holds at.runs (whole_unless inputs old w a refusal may) in
        let f = finish_did who old.store.tables ask (world_of inputs.merge old c.keeps) r.left r.report keep refl (record { kept = c.keeps.fleet.store; lawful = lawful; run = r.run }) in
        record {
          worker = w;
          attempt = a;
          ran = there;
          live = f.end.live;
          made = f.made;
          printed = r.printed ∙ ap (λ (outputs : List (List ℕ)). reply (codes "ok" ∷ ranges_text outputs ∷ [])) f.end.outputs_are;
          jobs = ap stored_jobs (sym r.stored) ∙ f.end.jobs;
          manifest = ap (λ (store : Store). store.manifest) (sym r.stored) ∙ f.end.manifest;
          runs = ap (worker_with n) r.live ∙ ap (λ (attempts : List Attempt). worker_with n (parties_running w old attempts)) f.end.attempts ∙ found_worker n (record w { attempts = _ }) old.parties at.number;
        }
