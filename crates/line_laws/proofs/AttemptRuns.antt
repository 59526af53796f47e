-- As long as a worker runs an attempt, it has what its claim gave it.
use Rattle.std.proofs.Common.{◌≡◌, refl, sym, ◌∙◌, ap, subst, ℕ, ◌+◌, ◌≤◌, List, [], ◌∷◌, ◌++◌, Option, Some, length, arith}
use Rattle.std.specs.Prelude.{IsTrue, IfSome, ◌==◌, ◌&&◌, map}
use Rattle.std.specs.List.{AllByRecursion}
use Rattle.std.proofs.lemmas.Bool.Decides.{Decides-eqb}
use Rattle.std.proofs.lemmas.List.{append_assoc}
use Rattle.row_model.specs.Fold.{Operator, IsLawful}
use Rattle.row_model.specs.Lists.{IsPrefixOf}
use Rattle.row_model.specs.Ranges.{Range}
use Rattle.fleet_model.specs.Jobs.{Job, job_with}
use Rattle.fleet_model.specs.History.{Entry, stood}
use Rattle.fleet_model.specs.Store.{stored_jobs}
use Rattle.fleet_model.specs.Invariants.AttemptsFit.{Extends}
use Rattle.fleet_model.specs.Work.Parties.{Attempt, LiveWorker, attempt_at, worker_with}
use Rattle.step_model.specs.Entries.{was_claimed, is_claim_of}
use Rattle.step_model.specs.Fits.{AttemptHeld}
use Rattle.step_laws.proofs.Elements.{IsIn, all_at, all_to, all_from, all_back, any_front}
use Rattle.step_laws.proofs.Bodies.{whole_of}
use Rattle.step_laws.proofs.Quiet.{claimed_up_to}
use Rattle.worker_laws.proofs.OwnPuts.{ranges_extend}
use Rattle.script_model.specs.Script.{Line, Settle, Together, IsInBounds}
use Rattle.script_model.specs.States.{Inputs, State}
use Rattle.script_model.specs.LineRuns.{LineCourse}
use Rattle.script_model.specs.LineCourses.{prepared_state}
use Rattle.script_model.specs.Lines.Settles.{are_live}
use Rattle.script_model.specs.Follows.{LineStep, ScriptRun}
use Rattle.line_laws.specs.Alone.{HadRoom}
use Rattle.line_laws.specs.States.{StateKeeps}
use Rattle.line_laws.specs.Ran.{CourseRan, StepsRan}
use Rattle.line_laws.specs.Lines.PollRuns.{entry_of}
use Rattle.line_laws.specs.Lines.AttemptLines.{GoesOn, WasBegun, HasCome, WentOn, HasBegun}
use Rattle.line_laws.specs.AttemptRuns.{DoesRunAt, StaysOne, AttemptsStayOne}
use Rattle.line_laws.proofs.Parties.{found}
use Rattle.line_laws.proofs.Lines.{world_of}
use Rattle.line_laws.proofs.Faults.{runs_cut}
use Rattle.line_laws.proofs.WorkerLines.{is_worker}
use Rattle.line_laws.proofs.RefusedLines.{worker_number}
use Rattle.line_laws.proofs.Scripts.{prepared_history, settle_steps, steps_lead, line_leads, run_leads, scripts_keep}
use Rattle.line_laws.proofs.AttemptLines.{own_attempts, attempts_go_on}

-- ---- contexts that extend

prefix_then : (xs ys zs : List ℕ) → IsPrefixOf xs ys → IsPrefixOf ys zs → IsPrefixOf xs zs
prefix_then xs ys zs (more, first) (rest, second) = (more ++ rest, sym (append_assoc xs more rest) ∙ ap (λ (all : List ℕ). all ++ rest) first ∙ second)

extends_then : (a b c : List (Range × List ℕ)) → Extends a b → Extends b c → Extends a c
extends_then [] [] c first second = second
extends_then [] (r ∷ b) c first second = absurd first
extends_then (q ∷ a) [] c first second = absurd first
extends_then (q ∷ a) (r ∷ b) [] first second = absurd second
extends_then (q ∷ a) (r ∷ b) (s ∷ c) (same, prefix, rest) (again, longer, more) = (same ∙ again, prefix_then q.1 r.1 s.1 prefix longer, extends_then a b c rest more)

-- ---- one attempt

-- Each attempt of the worker that is this one by job and number has what it had.
abbrev Stays : ℕ → Attempt → State → Type 0
Stays n a s = (v : LiveWorker) → worker_with n s.parties ≡ Some v → AllByRecursion (λ b. a.job ≡ b.job → a.number ≡ b.number → StaysOne a b) v.attempts

-- The worker claimed the attempt.
abbrev Claimed : ℕ → Attempt → State → Type 0
Claimed n a s = IsTrue (was_claimed s.store.history n a.job a.number)

-- An attempt that goes on from this one has what it had.
went_on : (a x : Attempt) (attempts : List Attempt) → AllByRecursion (λ b. a.job ≡ b.job → a.number ≡ b.number → StaysOne a b) attempts → GoesOn attempts x → a.job ≡ x.job → a.number ≡ x.number → StaysOne a x
went_on a x attempts stays g job number =
    let f = found (λ (b : Attempt). x.job == b.job) attempts g.before g.there in
    let one = all_at _ attempts g.before stays f.there (job ∙ (Decides-eqb x.job g.before.job).0 f.passes) (number ∙ g.number) in
    record {
      sources = one.sources ∙ sym g.sources;
      context = record { settings = one.context.settings ∙ g.context.settings; ranges = extends_then a.context.ranges g.before.context.ranges x.context.ranges one.context.ranges g.context.ranges };
    }

-- No claim begins the attempt again.
never_again : (merge : Operator) (s : State) (k : StateKeeps merge s) (n : ℕ) (w : LiveWorker) (a x : Attempt) → Claimed n a s → WasBegun s w x → a.job ≡ x.job → a.number ≡ x.number → ⊥
never_again merge s k n w a x claimed b job number =
    let low = (claimed_up_to merge (world_of merge s k) k.fleet.store.stored.replay.specs (whole_of merge (world_of merge s k) k.fleet.store).body n a.job a.number claimed).1 in
    let stored : job_with a.job (stored_jobs s.store) ≡ Some b.job = ap (λ (id : ℕ). job_with id (stored_jobs s.store)) job ∙ b.stored in
    let at : a.number ≤ b.job.attempt = subst (λ (o : Option Job). IfSome o (λ (j : Job). a.number ≤ j.attempt)) stored low in
    let next : a.number ≡ b.job.attempt + 1 = number ∙ ap (λ (y : Attempt). y.number) b.is in
    omega (arith, at, next)

-- ---- lines

-- The history goes on in each course of a line.
goes_on : (inputs : Inputs) (number : ℕ) (old : State) (line : Line) (answer : List ℕ) (new : State) → CourseRan inputs old line answer new → (entries : List Entry) × (new.store.history ≡ old.store.history ++ entries)
goes_on inputs number old line answer new ran =
    let s = prepared_state line old in
    let c : LineCourse = ran.course.course in
    let cut = runs_cut ran.number c.party c.course s.fault s.store in
    (map (entry_of ran.number c.party) cut.made, sym (ap (λ (p : List ℕ × State). p.1.store.history) ran.course.ends) ∙ cut.history ∙ ap (λ store. store.history ++ map (entry_of ran.number c.party) cut.made) (prepared_history line old))

record Kept (n : ℕ) (a : Attempt) (s : State) : Type 0 where
  stays : Stays n a s
  claimed : Claimed n a s

-- What a claim gave an attempt, the attempt has after the course of a line, if the worker still runs it.
course_kept : (inputs : Inputs) (old : State) (line : Line) (answer : List ℕ) (new : State) (n : ℕ) (a : Attempt) → CourseRan inputs old line answer new → Kept n a old → Kept n a new
course_kept inputs old line answer new n a ran kept =
    let went = goes_on inputs ran.number old line answer new ran in
    record {
      stays = λ v live. all_to (HasCome line n old) _ v.attempts (λ x there come. by x come) (attempts_go_on inputs old new line answer ran n v live);
      claimed = subst (λ (history : List Entry). IsTrue (was_claimed history n a.job a.number)) (sym went.1) (any_front (λ (entry : Entry). is_claim_of n a.job a.number entry.event && stood entry.answer) old.store.history went.0 kept.claimed);
    }
  where
    by : (x : Attempt) → HasCome line n old x → a.job ≡ x.job → a.number ≡ x.number → StaysOne a x
    by x (WentOn w live goes) job number = went_on a x w.attempts (kept.stays w live) goes job number
    by x (HasBegun w live claim begun) job number = absurd (never_again inputs.merge old ran.keeps n w a x kept.claimed begun job number)

steps_kept : (inputs : Inputs) (old : State) (steps : List Line) (answer : List ℕ) (new : State) (n : ℕ) (a : Attempt) → StepsRan inputs old steps answer new → Kept n a old → Kept n a new
steps_kept inputs old [] answer new n a same kept = subst (Kept n a) (sym same) kept
steps_kept inputs old (step ∷ others) answer new n a (replied, mid, ran, stops, more) kept = steps_kept inputs mid others answer new n a more (course_kept inputs old step replied mid n a ran kept)

line_kept : (inputs : Inputs) (number : ℕ) (old : State) (line : Line) (answer : List ℕ) (new : State) (n : ℕ) (a : Attempt) → IsLawful inputs.merge → HadRoom new.store → LineStep inputs number old line answer new → StateKeeps inputs.merge old → Kept n a old → Kept n a new
line_kept inputs number old (Settle coordinator worker rounds) answer new n a lawful room step keeps kept =
    let s = settle_steps (are_live coordinator worker old) inputs number old coordinator worker rounds answer new step in
    steps_kept inputs old s.steps answer new n a ((steps_lead inputs number coordinator worker old s.steps answer new lawful s.each s.run).ran room keeps) kept
line_kept inputs number old (Together workers turns) answer new n a lawful room step keeps kept = absurd step
line_kept inputs number old line answer new n a lawful room step keeps kept = course_kept inputs old line answer new n a (record { lawful = lawful; keeps = keeps; number = number; course = step; had_room = room }) kept

run_kept : (inputs : Inputs) (number : ℕ) (old : State) (lines : List Line) (answers : List (List ℕ)) (new : State) (n : ℕ) (a : Attempt) → IsLawful inputs.merge → AllByRecursion IsInBounds lines → HadRoom new.store → ScriptRun inputs number old lines answers new → StateKeeps inputs.merge old → Kept n a old
    → Kept n a new
run_kept inputs number old [] [] new n a lawful is room same keeps kept = subst (Kept n a) (sym same) kept
run_kept inputs number old (line ∷ lines) (answer ∷ answers) new n a lawful is room (mid, step, rest) keeps kept =
    let grows = (run_leads inputs (number + 1) mid lines answers new lawful is.1 rest).grows in
    let mid_room : HadRoom mid.store = omega (arith, grows, room) in
    run_kept inputs (number + 1) mid lines answers new n a lawful is.1 room rest ((line_leads inputs number old line answer mid lawful is.0 step).keeps mid_room keeps) (line_kept inputs number old line answer mid n a lawful mid_room step keeps kept)
run_kept inputs number old [] (answer ∷ answers) new n a lawful is room run keeps kept = absurd run
run_kept inputs number old (line ∷ lines) [] new n a lawful is room run keeps kept = absurd run

-- ---- the whole run

-- An attempt that a worker runs is one with itself, and was claimed.
kept_itself : (merge : Operator) (s : State) (k : StateKeeps merge s) (n : ℕ) (a : Attempt) → DoesRunAt s n a → Kept n a s
kept_itself merge s k n a d = record {
  stays = λ v live. all_from _ v.attempts (λ b there job number. by v live b there job);
  claimed = subst (λ (m : ℕ). IsTrue (was_claimed s.store.history m a.job a.number)) (sym (worker_number n s d.worker d.live))
      (all_at (AttemptHeld (world_of merge s k) d.worker.number) d.worker.attempts a (is_worker merge s k n d.worker d.live).holds.each (found (λ (b : Attempt). a.job == b.job) d.worker.attempts a d.runs).there).claimed;
}
  where
    by : (v : LiveWorker) → worker_with n s.parties ≡ Some v → (b : Attempt) → IsIn b v.attempts → a.job ≡ b.job → StaysOne a b
    by v live b there job =
        let same : d.worker ≡ v = cc (sym d.live ∙ live) in
        let both : Some a ≡ Some b = sym d.runs ∙ ap (λ (w : LiveWorker). attempt_at a.job w.attempts) same ∙ ap (λ (id : ℕ). attempt_at id v.attempts) job ∙ own_attempts merge s k n v live b there in
        let one : a ≡ b = cc both in
        subst (StaysOne a) one (record { sources = refl; context = record { settings = refl; ranges = ranges_extend a.context.ranges } })

pub attempts_stay_one : AttemptsStayOne
attempts_stay_one inputs first others last run cut n a b now later job number =
    let keeps = scripts_keep inputs first cut.mid cut.before in
    let kept = run_kept inputs (length first + 1) cut.mid others cut.answers last n a run.lawful (all_back IsInBounds first others run.in_bounds) run.had_room cut.rest keeps (kept_itself inputs.merge cut.mid keeps n a now) in
    all_at _ later.worker.attempts b (kept.stays later.worker later.live) (found (λ (c : Attempt). b.job == c.job) later.worker.attempts b later.runs).there job number
