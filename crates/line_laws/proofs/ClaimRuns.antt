-- A claim that is alone takes and stops the jobs of its rule, and starts all that it takes.
use Rattle.std.proofs.Common.{◌≡◌, refl, sym, ◌∙◌, ap, subst, ℕ, zero, suc, ◌+◌, List, [], ◌∷◌, cond, Bool, true, false, Option, Some, None, take, length}
use Rattle.std.specs.Prelude.{IsTrue, ◌==◌, ◌&&◌, ◌||◌, not, map, filter, flat_map, is_none, ◌-◌}
use Rattle.std.specs.List.{AllByRecursion}
use Rattle.std.proofs.lemmas.Bool.Decides.{Decides-eqb}
use Rattle.row_model.specs.Fold.{Operator}
use Rattle.fleet_model.specs.Nodes.{Tables}
use Rattle.fleet_model.specs.Jobs.{Job, Jobs, Scheduled, Running, has_status, ids, contains}
use Rattle.fleet_model.specs.History.{Event, GetManifest, GetRecords, Claim}
use Rattle.fleet_model.specs.Store.{Manifest, Records, Store, stored_jobs, jobs_in}
use Rattle.fleet_model.specs.Work.Attempts.{ClaimInput}
use Rattle.fleet_model.specs.Work.Records.{jobs_after}
use Rattle.fleet_model.specs.Work.Parties.{LiveWorker, attempt_jobs, with_attempts, without_attempts}
use Rattle.fleet_model.specs.Invariants.JobsFit.{OpenedStands}
use Rattle.fleet_model.specs.Work.Claims.{is_waiting, may_take, stopped_jobs, claimed_jobs, claimed_attempt}
use Rattle.fleet_model.specs.Exchanges.{Plain, PutsRecords, records_version, after_exchange}
use Rattle.step_model.specs.Past.{World}
use Rattle.step_model.specs.Rivals.{Caller, after_call}
use Rattle.step_model.specs.Kept.Keeps.{Keeps}
use Rattle.step_model.specs.Courses.Course.{Course, Ends, Calls, calls_each}
use Rattle.step_model.specs.Courses.Tries.{tries}
use Rattle.step_model.specs.Courses.StepEnds.{StepEnd, Reports, most_refused}
use Rattle.step_model.specs.Steps.ClaimSteps.{WorkerOptions, Claimed, at_moment, can_start, plan_of, starts_claimed, claim_of, claim_by, claim_try, claim}
use Rattle.step_laws.specs.Runs.{CallsKeep}
use Rattle.step_laws.proofs.Elements.{all_at, all_to}
use Rattle.commit_laws.proofs.Stretches.{filter_all}
use Rattle.course_laws.proofs.Calls.{all_take, filtered}
use Rattle.worker_laws.proofs.CanStart.{stands_starts}
use Rattle.line_laws.specs.Lines.ClaimLines.{with_claimed}
use Rattle.line_laws.proofs.PollRuns.{Going, alone_next, RecordsPut, records_put}
use Rattle.worker_laws.proofs.Claims.{none_stopped}
use Rattle.rival_laws.proofs.JobsMerged.{and_first}

-- ---- jobs that can start

waiting_opened : (job : Job) → is_waiting job ≡ true → IsTrue (has_status Scheduled job || has_status Running job)
waiting_opened job h = by (has_status Scheduled job) (has_status Running job) (and_first (has_status Scheduled job) (is_none job.lease) h)
  where
    by : (a b : Bool) → a ≡ true → IsTrue (a || b)
    by true b e = refl
    by false b e = absurd (cc e)

-- All jobs that a claim takes can start.
all_start : (merge : Operator) (world : World) (slots : ℕ) (w : LiveWorker) → Keeps merge world → AllByRecursion (λ job. can_start world.store.manifest job ≡ true) (claimed_jobs slots w (stored_jobs world.store))
all_start merge world slots w k =
    let test = λ (job : Job). is_waiting job && not (contains (attempt_jobs w.attempts) job.id) && may_take w.release job in
    all_take _ (slots - length w.attempts) (filter test (stored_jobs world.store))
    (all_to _ _ (filter test (stored_jobs world.store)) (λ job there h.
    stands_starts world.store.manifest job ((all_at (OpenedStands world.store) (stored_jobs world.store) job k.stored.sources h.0).0
    (waiting_opened job (and_first (is_waiting job) (not (contains (attempt_jobs w.attempts) job.id)) (and_first _ (may_take w.release job) h.1))))) (filtered test (stored_jobs world.store)))

-- ---- notes

-- Notes alone leave the records as they are.
notes_leave : {A : Type 0} (who : Caller) (notes : List Event) (a answer : A) (world new : World) → CallsKeep who.merge → who.alone ≡ true → Going who (calls_each notes (Ends a)) world new answer → (new.store.records ≡ world.store.records) × (a ≡ answer)
notes_leave who [] a answer world new keep alone going = (ap (λ (t : World). t.store.records) (sym going.run.0), going.run.1)
notes_leave who (note ∷ notes) a answer world new keep alone going =
    notes_leave who notes a answer (after_call who.line who.party (Plain note) None world) new keep alone (alone_next who (Plain note) (λ met. calls_each notes (Ends a)) world new answer keep alone going).going

-- ---- the claim

-- What a claim knows as it starts jobs.
abbrev pub claim_input : WorkerOptions → ℕ → LiveWorker → Store → ClaimInput
claim_input options moment w store = record { release = w.release; manifest = store.manifest; moment = moment; retention = options.retention; most = options.most_ranges; tables = store.tables }

-- The jobs that a claim took of these jobs and the attempts that it began, and what it reports.
pub record Took (options : WorkerOptions) (moment : ℕ) (w : LiveWorker) (old : Store) (jobs : Jobs) (new : Store) (report : Claimed) : Type 0 where
  pub begun : report.begun ≡ map (claimed_attempt (claim_input options moment w old)) (claimed_jobs options.slots w jobs)
  pub stopped : report.stopped ≡ ids (stopped_jobs w jobs)
  pub attempts : report.attempts ≡ with_attempts (map (claimed_attempt (claim_input options moment w old)) (claimed_jobs options.slots w jobs)) (without_attempts (ids (stopped_jobs w jobs)) w.attempts)
  pub stored : stored_jobs new ≡ with_claimed moment w (claimed_jobs options.slots w jobs) jobs

-- The same where these are the jobs that it took.
record TookThese (options : WorkerOptions) (moment : ℕ) (w : LiveWorker) (old : Store) (jobs these : Jobs) (new : Store) (report : Claimed) : Type 0 where
  begun : report.begun ≡ map (claimed_attempt (claim_input options moment w old)) these
  stopped : report.stopped ≡ ids (stopped_jobs w jobs)
  attempts : report.attempts ≡ with_attempts (map (claimed_attempt (claim_input options moment w old)) these) (without_attempts (ids (stopped_jobs w jobs)) w.attempts)
  stored : stored_jobs new ≡ with_claimed moment w these jobs

took_these : (options : WorkerOptions) (moment : ℕ) (w : LiveWorker) (old : Store) (jobs these : Jobs) (new : Store) (report : Claimed) → claimed_jobs options.slots w jobs ≡ these → TookThese options moment w old jobs these new report → Took options moment w old jobs new report
took_these options moment w old jobs these new report same t = at (subst (λ (js : Jobs). TookThese options moment w old jobs js new report) (sym same) t)
  where
    at : TookThese options moment w old jobs (claimed_jobs options.slots w jobs) new report → Took options moment w old jobs new report
    at t = record { begun = t.begun; stopped = t.stopped; attempts = t.attempts; stored = t.stored }

take_none : {A : Type 0} (n : ℕ) → take {A = A} n [] ≡ []
take_none zero = refl
take_none (suc n) = refl

-- The report of a claim that starts these jobs.
abbrev started : ClaimInput → LiveWorker → List ℕ → Jobs → Jobs → Claimed
started input w stopped these jobs = record { begun = map (claimed_attempt input) these; stopped = stopped; released = ids (filter (λ job. not (can_start input.manifest job)) jobs); attempts = with_attempts (map (claimed_attempt input) these) (without_attempts stopped w.attempts) }

-- The end of a claim that took these jobs, after its put and its get of the manifest.
took_started : (who : Caller) (options : WorkerOptions) (moment : ℕ) (w : LiveWorker) (old : Store) (jobs these : Jobs) (world new : World) (report : Claimed) → CallsKeep who.merge → who.alone ≡ true → AllByRecursion (λ job. can_start old.manifest job ≡ true) these
    → stored_jobs world.store ≡ with_claimed moment w these jobs → Going who (starts_claimed (claim_input options moment w old) w these (ids (stopped_jobs w jobs))) world new (Reports report) → TookThese options moment w old jobs these new.store report
took_started who options moment w old jobs these world new report keep alone start stored going =
    let input = claim_input options moment w old in
    let stopped = ids (stopped_jobs w jobs) in
    let after = notes_leave who (flat_map (plan_of input) (filter (can_start input.manifest) these)) (Reports (started input w stopped (filter (can_start input.manifest) these) these)) (Reports report) world new keep alone going in
    let same : filter (can_start old.manifest) these ≡ these = filter_all (can_start old.manifest) these start in
    let first = after.1 in
    let is : started input w stopped (filter (can_start input.manifest) these) these ≡ report = cc first in
    let all : started input w stopped these these ≡ report = ap (λ (js : Jobs). started input w stopped js these) (sym same) ∙ is in
    record {
      begun = ap (λ (c : Claimed). c.begun) (sym all);
      stopped = ap (λ (c : Claimed). c.stopped) (sym all);
      attempts = ap (λ (c : Claimed). c.attempts) (sym all);
      stored = ap jobs_in after.0 ∙ stored;
    }

-- The put of a claim of these jobs, and what comes after it.
took_put : (who : Caller) (options : WorkerOptions) (moment : ℕ) (w : LiveWorker) (old : Store) (got : Records) (job : Job) (jobs : Jobs) (again : ℕ → Course (StepEnd Claimed)) (world new : World) (report : Claimed) → CallsKeep who.merge → who.alone ≡ true
    → AllByRecursion (λ job. can_start old.manifest job ≡ true) (job ∷ jobs) → world.store.manifest ≡ old.manifest → world.store.tables ≡ old.tables → world.store.records ≡ Some got
    → Going who (claim_of options moment w got (job ∷ jobs) (ids (stopped_jobs w got.jobs)) again) world new (Reports report) → TookThese options moment w old got.jobs (job ∷ jobs) new.store report
took_put who options moment w old got job jobs again world new report keep alone start same_manifest same_tables same_records going =
    let these = job ∷ jobs in
    let stopped = ids (stopped_jobs w got.jobs) in
    let change = Claim w.number (map (λ (j : Job). (j.id, j.attempt + 1)) these) in
    let put = jobs_after (at_moment moment) change got.jobs in
    let x = PutsRecords got.version change got.epoch put in
    let version : records_version world.store.records ≡ got.version = ap records_version same_records in
    let first = after_call who.line who.party x None world in
    let second = after_call who.line who.party (Plain GetManifest) None first in
    let input : Manifest → Tables → ClaimInput = λ manifest tables. record { release = w.release; manifest = manifest; moment = moment; retention = options.retention; most = options.most_ranges; tables = tables } in
    let begin : Store → Course (StepEnd Claimed) = λ met. starts_claimed (input met.manifest met.tables) w these stopped in
    let next : Store → Course (StepEnd Claimed) = λ met. cond (got.version == records_version met.records) (Calls (Plain GetManifest) begin) (again (records_version met.records)) in
    let one = alone_next who x next world new (Reports report) keep alone going in
    let two = subst (λ (b : Bool). Going who (cond b (Calls (Plain GetManifest) begin) (again (records_version world.store.records))) first new (Reports report)) ((Decides-eqb got.version (records_version world.store.records)).1 (sym version)) one.going in
    let three = (alone_next who (Plain GetManifest) begin first new (Reports report) keep alone two).going in
    let stored = subst (λ (v : ℕ). RecordsPut world.store (after_exchange (PutsRecords v change got.epoch put) world.store) got.epoch put) version (records_put change got.epoch put world.store) in
    let four = subst (λ (m : Manifest). Going who (starts_claimed (input m first.store.tables) w these stopped) second new (Reports report)) (stored.manifest ∙ same_manifest) three in
    let five = subst (λ (t : Tables). Going who (starts_claimed (input old.manifest t) w these stopped) second new (Reports report)) (stored.tables ∙ same_tables) four in
    took_started who options moment w old got.jobs these second new report keep alone start (ap jobs_in stored.records) five

-- The claim goes on after its get of the records.
took_by : (who : Caller) (options : WorkerOptions) (moment : ℕ) (w : LiveWorker) (again : ℕ → Course (StepEnd Claimed)) (old world new : World) (report : Claimed) → CallsKeep who.merge → who.alone ≡ true → Keeps who.merge old
    → world.store.manifest ≡ old.store.manifest → world.store.tables ≡ old.store.tables → world.store.records ≡ old.store.records → Going who (claim_by options moment w old.store.records again) world new (Reports report)
    → Took options moment w old.store (stored_jobs old.store) new.store report
took_by who options moment w again old world new report keep alone kept same_manifest same_tables same_records going = by old.store.records refl going
  where
    at : (got : Records) → old.store.records ≡ Some got → (these : Jobs) → claimed_jobs options.slots w got.jobs ≡ these → Going who (claim_of options moment w got these (ids (stopped_jobs w got.jobs)) again) world new (Reports report)
        → TookThese options moment w old.store got.jobs these new.store report
    at got e [] same going =
        let left = going.run.0 in
        let last = going.run.1 in
        let is : started (claim_input options moment w old.store) w (ids (stopped_jobs w got.jobs)) [] [] ≡ report = cc last in
        record {
          begun = ap (λ (c : Claimed). c.begun) (sym is);
          stopped = ap (λ (c : Claimed). c.stopped) (sym is);
          attempts = ap (λ (c : Claimed). c.attempts) (sym is);
          stored = ap (λ (t : World). stored_jobs t.store) (sym left) ∙ ap jobs_in (same_records ∙ e);
        }
    at got e (job ∷ jobs) same going =
        let start = subst (AllByRecursion (λ (job : Job). can_start old.store.manifest job ≡ true)) (ap (λ (r : Option Records). claimed_jobs options.slots w (jobs_in r)) e ∙ same) (all_start who.merge old options.slots w kept) in
        took_put who options moment w old.store got job jobs again world new report keep alone start same_manifest same_tables (same_records ∙ e) going

    by : (o : Option Records) → old.store.records ≡ o → Going who (claim_by options moment w o again) world new (Reports report) → Took options moment w old.store (jobs_in o) new.store report
    by None e going =
        let left = going.run.0 in
        let last = going.run.1 in
        let is : record { begun = []; stopped = []; released = []; attempts = w.attempts } ≡ report = cc last in
        took_these options moment w old.store [] [] new.store report (take_none (options.slots - length w.attempts)) (record {
          begun = ap (λ (c : Claimed). c.begun) (sym is);
          stopped = ap (λ (c : Claimed). c.stopped) (sym is);
          attempts = ap (λ (c : Claimed). c.attempts) (sym is) ∙ sym (none_stopped w.attempts);
          stored = ap (λ (t : World). stored_jobs t.store) (sym left) ∙ ap jobs_in (same_records ∙ e);
        })
    by (Some got) e going =
        let these = claimed_jobs options.slots w got.jobs in
        took_these options moment w old.store got.jobs these new.store report refl (at got e these refl going)

took : (who : Caller) (options : WorkerOptions) (moment : ℕ) (w : LiveWorker) (left seen : ℕ) (world new : World) (report : Claimed) → CallsKeep who.merge → who.alone ≡ true → Going who (tries (claim_try options moment w) left seen) world new (Reports report)
    → Took options moment w world.store (stored_jobs world.store) new.store report
took who options moment w zero seen world new report keep alone going = absurd (cc (going.run.1))
took who options moment w (suc left) seen world new report keep alone going =
    took_by who options moment w (tries (claim_try options moment w) left) world (after_call who.line who.party (Plain GetRecords) None world) new report keep alone going.kept refl refl refl
    (alone_next who (Plain GetRecords) (λ met. claim_by options moment w met.records (tries (claim_try options moment w) left)) world new (Reports report) keep alone going).going

pub claim_took : (who : Caller) (options : WorkerOptions) (moment : ℕ) (w : LiveWorker) (world new : World) (report : Claimed) → CallsKeep who.merge → who.alone ≡ true → Going who (claim options moment w) world new (Reports report)
    → Took options moment w world.store (stored_jobs world.store) new.store report
unfolding claim
claim_took who options moment w world new report keep alone going = took who options moment w most_refused 0 world new report keep alone going
