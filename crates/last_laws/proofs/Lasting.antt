-- Histories grow by each course of a line, and a claim keeps the manifest.
use Rattle.std.proofs.Common.{◌≡◌, refl, sym, ◌∙◌, ap, subst, ℕ, zero, suc, ◌+◌, List, [], ◌∷◌, ◌++◌, Bool, true, false, cond, Option, None, Some, append_assoc}
use Rattle.std.specs.Prelude.{◌==◌, ⊤, not, map, flat_map, filter}
use Rattle.std.proofs.lemmas.List.{append-nil}
use Rattle.row_model.specs.Lists.{IsPrefixOf}
use Rattle.fleet_model.specs.Jobs.{Job, Jobs, ids}
use Rattle.fleet_model.specs.History.{Party, Event, GetManifest, RecordChange, Claim}
use Rattle.fleet_model.specs.Store.{Records, Store}
use Rattle.fleet_model.specs.Work.Parties.{LiveWorker, worker_with, with_attempts, without_attempts}
use Rattle.fleet_model.specs.Work.Records.{jobs_after}
use Rattle.fleet_model.specs.Work.Attempts.{ClaimInput}
use Rattle.fleet_model.specs.Work.Claims.{claimed_jobs, stopped_jobs, claimed_attempt}
use Rattle.fleet_model.specs.Exchanges.{Exchange, Plain, PutsRecords, Fault, event_of, after_exchange, after_answered, strikes, waiting_after, struck_by, does_stand, records_version}
use Rattle.step_model.specs.Rivals.{Strike, store_after_call}
use Rattle.step_model.specs.Courses.Course.{Course, Ends, Calls, then_course, calls_each}
use Rattle.step_model.specs.Courses.Tries.{counted_tries}
use Rattle.step_model.specs.Courses.StepEnds.{StepEnd, Reports, most_refused}
use Rattle.step_model.specs.Courses.Alone.{run_alone}
use Rattle.step_model.specs.Steps.ClaimSteps.{WorkerOptions, Claimed, at_moment, can_start, plan_of, starts_claimed, claim_of, claim_by, claim_try, claim}
use Rattle.course_laws.proofs.Later.{entry_by, call_history}
use Rattle.script_model.specs.Script.{Line, ClaimJobs}
use Rattle.script_model.specs.States.{Inputs, State}
use Rattle.script_model.specs.Replies.{claim_reply}
use Rattle.script_model.specs.LineRuns.{LineCourse, run_line, no_such_party, if_some}
use Rattle.script_model.specs.LineCourses.{prepared_state, course_of}
use Rattle.script_model.specs.LineSteps.{OneCourse}
use Rattle.script_model.specs.Lines.WorkLines.{worker_line, worker_options}
use Rattle.line_laws.proofs.Scripts.{prepared_history}
use Rattle.line_laws.proofs.AloneRuns.{struck_end}

-- ---- histories

onward : {A : Type 0} (xs ys zs : List A) → IsPrefixOf xs ys → IsPrefixOf ys zs → IsPrefixOf xs zs
onward xs ys zs (one, e) (two, f) = (one ++ two, sym (append_assoc xs one two) ∙ ap (λ front. front ++ two) e ∙ f)

call_grows : (line : ℕ) (party : Party) (x : Exchange) (strike : Strike) (store : Store) → IsPrefixOf store.history (store_after_call line party x strike store).history
call_grows line party x strike store = (entry_by line party x strike store ∷ [], sym (call_history line party x strike store))

course_grows : {A : Type 0} (line : ℕ) (party : Party) (course : Course A) (fault : Option Fault) (store : Store) → IsPrefixOf store.history (run_alone line party course fault store).store.history
course_grows line party (Ends answer) fault store = ([], append-nil store.history)
course_grows {A} line party (Calls x next) fault store =
    by (strikes (event_of x store) fault) (course_grows line party (next store) (waiting_after (event_of x store) fault) (after_answered line party x store))
  where
    by : (b : Bool) → IsPrefixOf (after_answered line party x store).history (run_alone line party (next store) (waiting_after (event_of x store) fault) (after_answered line party x store)).store.history
        → IsPrefixOf store.history (cond b (struck_end {A = A} line party x fault store) (run_alone line party (next store) (waiting_after (event_of x store) fault) (after_answered line party x store))).store.history
    by true rest = call_grows line party x (Some (does_stand fault)) store
    by false rest = onward store.history (after_answered line party x store).history _ (call_grows line party x None store) rest

pub one_grows : (inputs : Inputs) (number : ℕ) (line : Line) (old : State) (answer : List ℕ) (new : State) → OneCourse inputs number old line answer new → IsPrefixOf old.store.history new.store.history
one_grows inputs number line old answer new one =
    let s : State = prepared_state line old in
    subst (λ (store : Store). IsPrefixOf store.history new.store.history) (prepared_history line old)
    (subst (λ (t : State). IsPrefixOf s.store.history t.store.history) (ap (λ (p : List ℕ × State). p.1) one.ends) (course_grows number one.course.party one.course.course s.fault s.store))

-- ---- the manifest

-- No call of the course changes the manifest.
abbrev KeepsManifest : {A : Type 0} → Course A → Type 0
KeepsManifest (Ends answer) = ⊤
KeepsManifest (Calls x next) = ((store : Store) → (after_exchange x store).manifest ≡ store.manifest) × ((met : Store) → KeepsManifest (next met))

then_keeps : {A B : Type 0} (course : Course A) (rest : A → Course B) → KeepsManifest course → ((answer : A) → KeepsManifest (rest answer)) → KeepsManifest (then_course course rest)
then_keeps (Ends answer) rest h more = more answer
then_keeps (Calls x next) rest h more = (h.0, λ met. then_keeps (next met) rest (h.1 met) more)

notes_keep : {A : Type 0} (notes : List Event) (next : Course A) → KeepsManifest next → KeepsManifest (calls_each notes next)
notes_keep [] next h = h
notes_keep (note ∷ notes) next h = ((λ store. refl), λ met. notes_keep notes next h)

records_keep : (version : ℕ) (change : RecordChange) (epoch : ℕ) (jobs : Jobs) (store : Store) → (after_exchange (PutsRecords version change epoch jobs) store).manifest ≡ store.manifest
records_keep version change epoch jobs store = by (version == records_version store.records)
  where
    by : (b : Bool) → (cond b (record store { records = Some (record { version = version + 1; epoch = epoch; jobs = jobs }) }) store).manifest ≡ store.manifest
    by true = refl
    by false = refl

either_keeps : {A : Type 0} (b : Bool) (one other : Course A) → KeepsManifest one → KeepsManifest other → KeepsManifest (cond b one other)
either_keeps true one other h g = h
either_keeps false one other h g = g

starts_keep : (input : ClaimInput) (w : LiveWorker) (claimed : Jobs) (stopped : List ℕ) → KeepsManifest (starts_claimed input w claimed stopped)
starts_keep input w claimed stopped =
    let started = filter (can_start input.manifest) claimed in
    let begun = map (claimed_attempt input) started in
    notes_keep (flat_map (plan_of input) started) (Ends (Reports (record {
      begun = begun;
      stopped = stopped;
      released = ids (filter (λ job. not (can_start input.manifest job)) claimed);
      attempts = with_attempts begun (without_attempts stopped w.attempts);
    }))) tt

claim_of_keeps : (options : WorkerOptions) (moment : ℕ) (w : LiveWorker) (got : Records) (jobs : Jobs) (stopped : List ℕ) (again : ℕ → Course (StepEnd Claimed)) → ((seen : ℕ) → KeepsManifest (again seen)) → KeepsManifest (claim_of options moment w got jobs stopped again)
claim_of_keeps options moment w got [] stopped again h = tt
claim_of_keeps options moment w got (job ∷ jobs) stopped again h =
    let change : RecordChange = Claim w.number (map (λ (job : Job). (job.id, job.attempt + 1)) (job ∷ jobs)) in
    let starts : Store → Course (StepEnd Claimed) = λ met. starts_claimed (record { release = w.release; manifest = met.manifest; moment = moment; retention = options.retention; most = options.most_ranges; tables = met.tables }) w (job ∷ jobs) stopped in (
      records_keep got.version change got.epoch (jobs_after (at_moment moment) change got.jobs),
      λ met. either_keeps (got.version == records_version met.records) (Calls (Plain GetManifest) starts) (again (records_version met.records))
          ((λ store. refl), λ found. starts_keep (record { release = w.release; manifest = found.manifest; moment = moment; retention = options.retention; most = options.most_ranges; tables = found.tables }) w (job ∷ jobs) stopped) (h (records_version met.records)),
    )

claim_by_keeps : (options : WorkerOptions) (moment : ℕ) (w : LiveWorker) (got : Option Records) (again : ℕ → Course (StepEnd Claimed)) → ((seen : ℕ) → KeepsManifest (again seen)) → KeepsManifest (claim_by options moment w got again)
claim_by_keeps options moment w None again h = tt
claim_by_keeps options moment w (Some got) again h = claim_of_keeps options moment w got (claimed_jobs options.slots w got.jobs) (ids (stopped_jobs w got.jobs)) again h

tries_keep : (options : WorkerOptions) (moment : ℕ) (w : LiveWorker) (left seen : ℕ) → KeepsManifest (counted_tries (λ left seen. claim_try options moment w) left seen)
tries_keep options moment w zero seen = tt
tries_keep options moment w (suc left) seen = ((λ store. refl), λ met. claim_by_keeps options moment w met.records (counted_tries (λ left seen. claim_try options moment w) left) (λ seen. tries_keep options moment w left seen))

claim_keeps : (options : WorkerOptions) (moment : ℕ) (w : LiveWorker) → KeepsManifest (claim options moment w)
unfolding claim
claim_keeps options moment w = tries_keep options moment w most_refused 0

-- A run of a course that changes no manifest keeps the manifest, whether a fault strikes or not.
run_keeps : {A : Type 0} (line : ℕ) (party : Party) (course : Course A) (fault : Option Fault) (store : Store) → KeepsManifest course → (run_alone line party course fault store).store.manifest ≡ store.manifest
run_keeps line party (Ends answer) fault store h = refl
run_keeps {A} line party (Calls x next) fault store h =
    by (strikes (event_of x store) fault) (run_keeps line party (next store) (waiting_after (event_of x store) fault) (after_answered line party x store) (h.1 store) ∙ h.0 store)
  where
    struck : (stands : Bool) → (struck_by stands line party x store).manifest ≡ store.manifest
    struck true = h.0 store
    struck false = refl

    by : (b : Bool) → (run_alone line party (next store) (waiting_after (event_of x store) fault) (after_answered line party x store)).store.manifest ≡ store.manifest
        → (cond b (struck_end {A = A} line party x fault store) (run_alone line party (next store) (waiting_after (event_of x store) fault) (after_answered line party x store))).store.manifest ≡ store.manifest
    by true rest = struck (does_stand fault)
    by false rest = rest

claim_line_keeps : (n : ℕ) (s : State) (found : Option LiveWorker) → let c = if_some found (no_such_party s) (λ w. worker_line w s (claim (worker_options s.options) s.moment w) (λ r. claim_reply r.begun r.stopped) (λ r. r.attempts) w.attempts) in KeepsManifest c.course
claim_line_keeps n s None = tt
claim_line_keeps n s (Some w) = then_keeps (claim (worker_options s.options) s.moment w) _ (claim_keeps (worker_options s.options) s.moment w) (λ answer. tt)

pub claim_keeps_manifest : (inputs : Inputs) (number n : ℕ) (old : State) (answer : List ℕ) (new : State) → OneCourse inputs number old (ClaimJobs n) answer new → new.store.manifest ≡ old.store.manifest
unfolding course_of
claim_keeps_manifest inputs number n old answer new one =
    let c : LineCourse = course_of inputs (ClaimJobs n) one.does.refusal old in
    let is : run_line number old c ≡ (answer, new) = ap (run_line number old) (sym one.does.is) ∙ one.ends in
    ap (λ (p : List ℕ × State). p.1.store.manifest) (sym is) ∙ run_keeps number c.party c.course old.fault old.store (claim_line_keeps n old (worker_with n old.parties))
