-- The calls of a worker's steps note neither that a party comes nor that one goes.
use Rattle.std.proofs.Common.{◌≡◌, refl, ℕ, zero, suc, List, [], ◌∷◌, cond, Bool, true, false, Option, Some, None}
use Rattle.std.specs.Prelude.{⊤, filter, flat_map, ◌==◌}
use Rattle.std.specs.List.{AllByRecursion}
use Rattle.row_model.specs.Fold.{Operator}
use Rattle.row_model.specs.Rows.{Row}
use Rattle.fleet_model.specs.Nodes.{Tables}
use Rattle.fleet_model.specs.Jobs.{Job, Jobs, Context}
use Rattle.fleet_model.specs.History.{Event, Start, Kill}
use Rattle.fleet_model.specs.Store.{Records}
use Rattle.fleet_model.specs.Work.Attempts.{ClaimInput}
use Rattle.fleet_model.specs.Work.Parties.{Attempt, LiveWorker, live_attempts, is_live}
use Rattle.fleet_model.specs.Work.Claims.{claimed_jobs}
use Rattle.fleet_model.specs.Work.Gates.{is_nonempty}
use Rattle.fleet_model.specs.Exchanges.{Exchange, Plain, records_version}
use Rattle.step_model.specs.Courses.Course.{Course, calls_each, puts_tables, puts_ranges}
use Rattle.step_model.specs.Courses.Tries.{Try, tries}
use Rattle.step_model.specs.Courses.StepEnds.{StepEnd, most_refused}
use Rattle.step_model.specs.Steps.ClaimSteps.{WorkerOptions, Claimed, can_start, plan_of, starts_claimed, claim_of, claim_by, claim_try, claim}
use Rattle.step_model.specs.Steps.BeatSteps.{Beaten, beat_of, beat_by, beat_try, heartbeat, release_live, release_by, release_try, release_all}
use Rattle.step_model.specs.Steps.OutputSteps.{OutputAsk, gets_tables, unless_refused, rows_written, writes, output}
use Rattle.step_model.specs.Steps.FinishSteps.{FinishAsk, FinishedJob, all_outputs, ends_job, ends_job_by, end_try, end_job, tables_left, puts_and_ends, finish}
use Rattle.step_laws.proofs.Elements.{all_flat, all_from}
use Rattle.line_laws.proofs.Courses.{AllCalls}

-- The event notes that a party comes or goes.
abbrev pub is_note : Event → Bool
is_note (Start party) = true
is_note (Kill party) = true
is_note event = false

-- The call is no such note.
abbrev pub IsQuiet : Exchange → Type 0
IsQuiet (Plain event) = is_note event ≡ false
IsQuiet x = ⊤

abbrev pub AreQuiet : {A : Type 0} → Course A → Type 0
AreQuiet course = AllCalls IsQuiet course

-- ---- forms of courses

quiet_tries : {A : Type 0} (t : Try A) → ((again : ℕ → Course (StepEnd A)) → ((seen : ℕ) → AreQuiet (again seen)) → AreQuiet (t again)) → (left seen : ℕ) → AreQuiet (tries t left seen)
quiet_tries t quiet zero seen = tt
quiet_tries t quiet (suc left) seen = quiet (tries t left) (λ seen. quiet_tries t quiet left seen)

quiet_either : {A : Type 0} (b : Bool) (one other : Course A) → AreQuiet one → AreQuiet other → AreQuiet (cond b one other)
quiet_either true one other h k = h
quiet_either false one other h k = k

quiet_each : {A : Type 0} (events : List Event) (next : Course A) → AllByRecursion (λ event. is_note event ≡ false) events → AreQuiet next → AreQuiet (calls_each events next)
quiet_each [] next none h = h
quiet_each (event ∷ events) next none h = (none.0, λ met. quiet_each events next none.1 h)

quiet_tables : {A : Type 0} (moment : ℕ) (tables : List (List Row)) (next : List ℕ → Course A) → ((ids : List ℕ) → AreQuiet (next ids)) → AreQuiet (puts_tables moment tables next)
quiet_tables moment [] next h = h []
quiet_tables moment (rows ∷ tables) next h = (tt, λ met. (tt, λ after. quiet_tables moment tables (λ ids. next (_ ∷ ids)) (λ ids. h (_ ∷ ids))))

quiet_ranges : {A : Type 0} (moment : ℕ) (ranges : List (List (List Row))) (next : List (List ℕ) → Course A) → ((ids : List (List ℕ)) → AreQuiet (next ids)) → AreQuiet (puts_ranges moment ranges next)
quiet_ranges moment [] next h = h []
quiet_ranges moment (tables ∷ ranges) next h = quiet_tables moment tables (λ ids. puts_ranges moment ranges (λ others. next (ids ∷ others))) (λ ids. quiet_ranges moment ranges (λ others. next (ids ∷ others)) (λ others. h (ids ∷ others)))

gets_quiet : (tables : List ℕ) → AllByRecursion (λ event. is_note event ≡ false) (gets_tables tables)
gets_quiet [] = tt
gets_quiet (table ∷ tables) = (refl, gets_quiet tables)

-- ---- claims

plan_quiet : (input : ClaimInput) (job : Job) → AllByRecursion (λ event. is_note event ≡ false) (plan_of input job)
plan_quiet input job = at job.context refl
  where
    at : (context : Option Context) → job.context ≡ context → AllByRecursion (λ event. is_note event ≡ false) (plan_of input job)
    at None e = rw e (refl, tt)
    at (Some context) e = rw e tt

started_quiet : (input : ClaimInput) (w : LiveWorker) (jobs : Jobs) (stopped : List ℕ) → AreQuiet (starts_claimed input w jobs stopped)
started_quiet input w jobs stopped =
    quiet_each (flat_map (plan_of input) (filter (can_start input.manifest) jobs)) _ (all_flat (λ event. is_note event ≡ false) (plan_of input) (filter (can_start input.manifest) jobs) (all_from _ (filter (can_start input.manifest) jobs) (λ job there. plan_quiet input job))) tt

-- A step after a refused put.
abbrev Again : Type 0 → Type 0
Again A = ℕ → Course (StepEnd A)

claim_of_quiet : (options : WorkerOptions) (moment : ℕ) (w : LiveWorker) (got : Records) (jobs : Jobs) (stopped : List ℕ) (again : Again Claimed) → ((seen : ℕ) → AreQuiet (again seen)) → AreQuiet (claim_of options moment w got jobs stopped again)
claim_of_quiet options moment w got [] stopped again h = tt
claim_of_quiet options moment w got (job ∷ jobs) stopped again h = (tt, λ met. quiet_either (got.version == records_version met.records) _ (again (records_version met.records)) (refl, λ met. started_quiet _ w (job ∷ jobs) stopped) (h (records_version met.records)))

claim_by_quiet : (options : WorkerOptions) (moment : ℕ) (w : LiveWorker) (records : Option Records) (again : Again Claimed) → ((seen : ℕ) → AreQuiet (again seen)) → AreQuiet (claim_by options moment w records again)
claim_by_quiet options moment w None again h = tt
claim_by_quiet options moment w (Some got) again h = claim_of_quiet options moment w got (claimed_jobs options.slots w got.jobs) _ again h

pub quiet_claim : (options : WorkerOptions) (moment : ℕ) (w : LiveWorker) → AreQuiet (claim options moment w)
unfolding claim
quiet_claim options moment w = quiet_tries (claim_try options moment w) (λ again h. (refl, λ met. claim_by_quiet options moment w met.records again h)) most_refused 0

-- ---- heartbeats and releases

beat_of_quiet : (moment : ℕ) (w : LiveWorker) (got : Records) (live : List Attempt) (again : Again Beaten) → ((seen : ℕ) → AreQuiet (again seen)) → AreQuiet (beat_of moment w got live again)
beat_of_quiet moment w got [] again h = tt
beat_of_quiet moment w got (a ∷ live) again h = (tt, λ met. quiet_either (got.version == records_version met.records) _ (again (records_version met.records)) tt (h (records_version met.records)))

beat_by_quiet : (moment : ℕ) (w : LiveWorker) (records : Option Records) (again : Again Beaten) → ((seen : ℕ) → AreQuiet (again seen)) → AreQuiet (beat_by moment w records again)
beat_by_quiet moment w None again h = tt
beat_by_quiet moment w (Some got) again h = beat_of_quiet moment w got (live_attempts got.jobs w) again h

pub quiet_heartbeat : (moment : ℕ) (w : LiveWorker) → AreQuiet (heartbeat moment w)
unfolding heartbeat
quiet_heartbeat moment w = quiet_either (is_nonempty w.attempts) _ _ (quiet_tries (beat_try moment w) (λ again h. (refl, λ met. beat_by_quiet moment w met.records again h)) most_refused 0) tt

release_live_quiet : {A : Type 0} (w : LiveWorker) (got : Records) (live : List Attempt) (next : List ℕ → Course (StepEnd A)) (again : Again A) → ((released : List ℕ) → AreQuiet (next released)) → ((seen : ℕ) → AreQuiet (again seen)) → AreQuiet (release_live w got live next again)
release_live_quiet w got [] next again quiet h = quiet []
release_live_quiet w got (a ∷ live) next again quiet h = (tt, λ met. quiet_either (got.version == records_version met.records) _ (again (records_version met.records)) (quiet _) (h (records_version met.records)))

release_by_quiet : {A : Type 0} (w : LiveWorker) (attempts : List Attempt) (records : Option Records) (next : List ℕ → Course (StepEnd A)) (again : Again A) → ((released : List ℕ) → AreQuiet (next released)) → ((seen : ℕ) → AreQuiet (again seen))
    → AreQuiet (release_by w attempts records next again)
release_by_quiet w attempts None next again quiet h = quiet []
release_by_quiet w attempts (Some got) next again quiet h = release_live_quiet w got (filter (is_live got.jobs w.number) attempts) next again quiet h

quiet_release : {A : Type 0} (w : LiveWorker) (attempts : List Attempt) (next : List ℕ → Course (StepEnd A)) → ((released : List ℕ) → AreQuiet (next released)) → AreQuiet (tries (release_try w attempts next) most_refused 0)
quiet_release w attempts next quiet = quiet_tries (release_try w attempts next) (λ again h. (refl, λ met. release_by_quiet w attempts met.records next again quiet h)) most_refused 0

pub quiet_release_all : (w : LiveWorker) → AreQuiet (release_all w)
unfolding release_all
quiet_release_all w = quiet_either (is_nonempty w.attempts) _ _ (quiet_release w w.attempts _ (λ released. tt)) tt

-- ---- outputs and finishes

unless_quiet : {A : Type 0} (w : LiveWorker) (a : Attempt) (refusal : Option (List ℕ)) (next : Course (StepEnd A)) → AreQuiet next → AreQuiet (unless_refused w a refusal next)
unless_quiet w a None next quiet = quiet
unless_quiet w a (Some message) next quiet = quiet_release w (a ∷ []) _ (λ released. tt)

writes_quiet : (ask : OutputAsk) (rows : List Row) → AreQuiet (writes ask rows)
writes_quiet ask [] = tt
writes_quiet ask (r ∷ rows) = (tt, λ met. (tt, λ after. tt))

pub quiet_output : (merge : Operator) (tables : Tables) (ask : OutputAsk) → AreQuiet (output merge tables ask)
unfolding output
quiet_output merge tables ask = quiet_each _ _ (gets_quiet _) (unless_quiet ask.worker ask.attempt ask.refusal _ (writes_quiet ask (rows_written merge tables ask)))

ends_quiet : (moment : ℕ) (w : LiveWorker) (a : Attempt) (outputs : List (List ℕ)) (got : Records) (live : Bool) (again : Again FinishedJob) → ((seen : ℕ) → AreQuiet (again seen)) → AreQuiet (ends_job moment w a outputs got live again)
ends_quiet moment w a outputs got false again h = tt
ends_quiet moment w a outputs got true again h = (tt, λ met. quiet_either (got.version == records_version met.records) _ (again (records_version met.records)) tt (h (records_version met.records)))

ends_by_quiet : (moment : ℕ) (w : LiveWorker) (a : Attempt) (outputs : List (List ℕ)) (records : Option Records) (again : Again FinishedJob) → ((seen : ℕ) → AreQuiet (again seen)) → AreQuiet (ends_job_by moment w a outputs records again)
ends_by_quiet moment w a outputs None again h = tt
ends_by_quiet moment w a outputs (Some got) again h = ends_quiet moment w a outputs got (is_live got.jobs w.number a) again h

quiet_end : (moment : ℕ) (w : LiveWorker) (a : Attempt) (outputs : List (List ℕ)) → AreQuiet (end_job moment w a outputs)
unfolding end_job
quiet_end moment w a outputs = quiet_tries (end_try moment w a outputs) (λ again h. (refl, λ met. ends_by_quiet moment w a outputs met.records again h)) most_refused 0

puts_quiet : (ask : FinishAsk) (tables : List (List (List Row))) → AreQuiet (puts_and_ends ask tables)
puts_quiet ask tables = quiet_ranges ask.moment tables _ (λ new. quiet_end ask.moment ask.worker ask.attempt (all_outputs ask.attempt.context.ranges new))

pub quiet_finish : (merge : Operator) (tables : Tables) (ask : FinishAsk) → AreQuiet (finish merge tables ask)
unfolding finish
quiet_finish merge tables ask =
    quiet_each (gets_tables ask.attempt.sources) _ (gets_quiet ask.attempt.sources) (unless_quiet ask.worker ask.attempt ask.refusal _ (puts_quiet ask (tables_left merge tables ask)))
