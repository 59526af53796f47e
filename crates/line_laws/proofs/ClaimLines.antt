-- What a claim does that is not refused.
use Rattle.std.proofs.Common.{◌≡◌, refl, sym, ◌∙◌, ap, ℕ, List, cond, Bool, Option, Some, None}
use Rattle.std.specs.Prelude.{◌==◌, find}
use Rattle.std.proofs.lemmas.Bool.Decides.{Decides-eqb}
use Rattle.fleet_model.specs.History.{Worker}
use Rattle.fleet_model.specs.Store.{stored_jobs}
use Rattle.fleet_model.specs.Work.Parties.{Attempt, LiveWorker, Parties, worker_with, with_worker, without_worker}
use Rattle.step_model.specs.Rivals.{Caller}
use Rattle.step_model.specs.Steps.ClaimSteps.{Claimed, claim}
use Rattle.commit_laws.proofs.AllCalls.{calls_keep}
use Rattle.course_laws.proofs.Claims.{claims_are_lawful}
use Rattle.script_model.specs.Script.{ClaimJobs}
use Rattle.script_model.specs.States.{Inputs, State}
use Rattle.script_model.specs.Replies.{claim_reply}
use Rattle.script_model.specs.LineRuns.{run_line, no_such_party, if_some, LineCourse}
use Rattle.script_model.specs.LineCourses.{course_of}
use Rattle.script_model.specs.LineSteps.{OneCourse}
use Rattle.script_model.specs.Lines.WorkLines.{worker_options, parties_running, worker_line, claim_line}
use Rattle.script_model.specs.Lines.Settles.{is_ok}
use Rattle.line_laws.specs.Lines.ClaimLines.{begun_in, ClaimRan, ClaimsTake}
use Rattle.line_laws.proofs.Lines.{caller_of, world_of}
use Rattle.line_laws.proofs.WorkerLines.{is_worker}
use Rattle.line_laws.proofs.Reports.{step_reported}
use Rattle.line_laws.proofs.ClaimRuns.{claim_took}

claim_is : (inputs : Inputs) (number : ℕ) (old new : State) (n : ℕ) (answer : List ℕ) → OneCourse inputs number old (ClaimJobs n) answer new → run_line number old (claim_line n old) ≡ (answer, new)
unfolding course_of
claim_is inputs number old new n answer one = ap (run_line number old) (sym one.does.is) ∙ one.ends

-- The worker that was put among the parties is found there.
pub found_worker : (n : ℕ) (w : LiveWorker) (parties : Parties) → n ≡ w.number → worker_with n (with_worker w parties) ≡ Some w
found_worker n w parties same = ap (λ (b : Bool). cond b (Some w) (find (λ (v : LiveWorker). n == v.number) (without_worker w.number parties).workers)) ((Decides-eqb n w.number).1 same)

-- A claim that is not refused is one of a live worker, and takes and stops exactly the jobs of its rule.
pub claims_take : ClaimsTake
claims_take inputs old new n answer c ok = by (worker_with n old.parties) refl (claim_is inputs c.number old new n answer c.course)
  where
    line : Option LiveWorker → LineCourse
    line o = if_some o (no_such_party old) (λ w. worker_line w old (claim (worker_options old.options) old.moment w) (λ r. claim_reply r.begun r.stopped) (λ r. r.attempts) w.attempts)

    by : (o : Option LiveWorker) → worker_with n old.parties ≡ o → run_line c.number old (line o) ≡ (answer, new) → ClaimRan n old answer new
    by None live is = let same = ap (λ (p : List ℕ × State). p.0) is in absurd (cc (ap is_ok same ∙ ok))
    by (Some w) live is =
        let who : Caller = caller_of inputs.merge c.number (Worker w.number) in
        let step = claim (worker_options old.options) old.moment w in
        let r = step_reported inputs.merge c.number old (Worker w.number) step (λ (r : Claimed). claim_reply r.begun r.stopped) (λ (r : Claimed). parties_running w old r.attempts) (parties_running w old w.attempts) (without_worker w.number old.parties) c.keeps answer new is c.had_room ok in
        let lawful = claims_are_lawful who (world_of inputs.merge old c.keeps) (worker_options old.options) old.moment w (calls_keep inputs.merge c.lawful) c.keeps.fleet.store refl in
        let t = claim_took who (worker_options old.options) old.moment w (world_of inputs.merge old c.keeps) r.left r.report (calls_keep inputs.merge c.lawful) refl (record { kept = c.keeps.fleet.store; lawful = lawful; run = r.run }) in
        record {
          worker = w;
          live = live;
          printed = r.printed ∙ ap (λ (begun : List Attempt). claim_reply begun r.report.stopped) t.begun ∙ ap (claim_reply (begun_in old w)) t.stopped;
          jobs = ap stored_jobs (sym r.stored) ∙ t.stored;
          runs = ap (worker_with n) r.live ∙ ap (λ (attempts : List Attempt). worker_with n (parties_running w old attempts)) t.attempts ∙ found_worker n (record w { attempts = _ }) old.parties (is_worker inputs.merge old c.keeps n w live).number;
        }
