-- The turns of a claim.
use Rattle.std.proofs.Common.{◌≡◌, ◌≢◌, refl, sym, ◌∙◌, ap, subst, ℕ, ◌+◌, ◌<◌, Bool, true, false, not, ◌&&◌, ◌-◌, map, List, [], ◌∷◌, length, cond, nat_lt, Ok, Err}
use Rattle.std.specs.Prelude.{filter, Some, None}
use Rattle.std.specs.List.{AllByRecursion}
use Rattle.row_model.specs.Fold.{IsLawful}
use Rattle.row_model.specs.Lists.{Pairs}
use Rattle.fleet_model.specs.Work.Attempts.{ClaimInput}
use Rattle.fleet_model.specs.Work.Claims.{claimed_attempt, is_waiting, may_take, stopped_jobs}
use Rattle.fleet_model.specs.Exchanges.{PutsRecords}
use Rattle.fleet_model.specs.History as model
use Rattle.fleet_model.specs.Jobs.{Job, Jobs, contains, ids}
use Rattle.fleet_model.specs.Work.Parties.{Attempt, LiveWorker, attempt_jobs, with_attempts, without_attempts}
use Rattle.fleet_model.specs.Work.Records.{jobs_after}
use Rattle.fleet_model.specs.Store.{Store}
use Rattle.fleet_model.specs.Invariants.TreesFit.{IsTable}
use Rattle.step_model.specs.Steps.ClaimSteps.{Claimed, WorkerOptions, at_moment, can_start, claim, claim_by, claim_of, claim_try, starts_claimed}
use Rattle.step_model.specs.Courses.Course.{Course, Ends, calls_each}
use Rattle.step_model.specs.Courses.CourseRuns.{IsLawfulCourse}
use Rattle.step_model.specs.Kept.Keeps.{Keeps}
use Rattle.step_model.specs.Lawful.{Lawful}
use Rattle.step_model.specs.Past.{World}
use Rattle.step_model.specs.Rivals.{Caller, Rivals}
use Rattle.step_model.specs.Courses.StepEnds.{StepEnd, Reports}
use Rattle.step_model.specs.Courses.Tries.{tries}
use Rattle.step_model.specs.Later.{IsLater}
use Rattle.step_model.specs.Views.{StoreView}
use Rattle.step_laws.proofs.Elements.{all_flat, all_to, all_unflat, pairs_map}
use Rattle.step_laws.proofs.Runs.{rivals_keep}
use Rattle.step_laws.proofs.TableReplays.{all_filter}
use Rattle.commit_laws.proofs.AllCalls.{calls_keep}
use Rattle.course_laws.proofs.Calls.{all_map, all_take, filtered, pairs_filter, pairs_take}
use Rattle.course_laws.proofs.Claims.{claims_are_lawful}
use Rattle.worker_laws.proofs.Claims.{claims_keep_fit}
use Rattle.fleet_jobs.specs.Parts.JobParts.{JobParts}
use Rattle.fleet_jobs.specs.Jobs.{job_handles, job_of, jobs_of}
use Rattle.fleet_jobs.specs.Workers.{release_of}
use Rattle.fleet_jobs.specs.declared.release.Release.{Release}
use Rattle.fleet_book.specs.Records.{AreRising}
use Rattle.fleet_book.specs.VersionedRecords.{VersionedRecords}
use Rattle.fleet_book.specs.Versions.{records_of}
use Rattle.fleet_history.specs.Changes.{record_change_of}
use Rattle.fleet_history.specs.declared.note.Note.{Note}
use Rattle.fleet_rows.specs.declared.errors.SlateDBError.{SlateDBError}
use Rattle.fleet_tree.specs.declared.manifest.VersionedManifest.{VersionedManifest}
use Rattle.fleet_store.specs.Asks.{GetsManifest, MayCall, Notes}
use Rattle.fleet_store.specs.Exchanges.{noted_exchange, records_put}
use Rattle.fleet_store.specs.Handles.{IsDescribed}
use Rattle.fleet_store.specs.Manifests.{IsManifest}
use Rattle.fleet_store.specs.Records.{DescribeTables}
use Rattle.fleet_claim.specs.Beginnings.{AreStarts, IsShown, KnowsSources, StartsAre, claimed_of, input_of, noted_events, options_of}
use Rattle.fleet_claim.specs.Choices.{AreClaimed, AreStopped, is_taken}
use Rattle.fleet_claim.specs.Puts.{ClaimsRecords, next_numbers}
use Rattle.fleet_claim.specs.declared.beginning.ClaimedAttempt.{ClaimedAttempt}
use Rattle.fleet_claim.specs.declared.beginning.Starts.{Starts}
use Rattle.fleet_claim.specs.declared.options.CompactionWorkerOptions.{CompactionWorkerOptions}
use Rattle.fleet_step.specs.Steps.{Leads, TryRan, puts_and}
use Rattle.fleet_step.proofs.Steps.{begins, call_leads, then_leads, then_tried}
use Rattle.fleet_step.proofs.Turns.{get_fails}
use Rattle.fleet_worker.specs.Claims.{AreNew, BeginsNothing, IsChoice, IsClaimPut, IsClaimStart, MayNoteEach, MayTakeAll, NamesBegun, after_put, attempts_at, claim_ends_with, next_parts, part_jobs, parts_of, put_part, with_parts}
use Rattle.fleet_worker.specs.Workers.{AreNoted, AttemptParts, IsNoted, MayStep, WorkerParts, attempt_of, live_of}
use Rattle.fleet_worker.specs.declared.claim.ClaimPut.{ClaimPut}
use Rattle.fleet_worker.specs.declared.claim.ClaimReport.{ClaimReport}
use Rattle.fleet_worker.specs.declared.claim.ClaimStart.{ClaimStart}
use Rattle.fleet_worker.proofs.Inserted.{begun_at, begun_same, next_same, without_none, without_same}
use Rattle.fleet_store.proofs.Later.{all_described}
use Rattle.fleet_worker.proofs.Later.{some_noted}
use Rattle.fleet_worker.proofs.Ready.{IsSafe}

-- ---- the choice

jobs_run : (xs : List AttemptParts) → attempt_jobs (map attempt_of xs) ≡ part_jobs xs
jobs_run [] = refl
jobs_run (a ∷ xs) = ap (λ js. a.job ∷ js) (jobs_run xs)

-- What the claim takes and stops is its choice by the worker's own release and attempts.
pub is_choice : (options : CompactionWorkerOptions) (w : WorkerParts) (jobs all seen claimed : List JobParts) (stopped one two : List ℕ) (release : Release) → release ≡ w.release → one ≡ part_jobs w.attempts → two ≡ part_jobs w.attempts → all ≡ jobs → seen ≡ jobs → AreRising all
    → AreClaimed options.max_concurrent_compactions one release all claimed → AreStopped two seen stopped → IsChoice options w jobs claimed stopped
is_choice options w jobs all seen claimed stopped one two release of_release of_one of_two of_all of_seen rising taken stops = record {
  records = these.records;
  takes = these.model (live_of w) (record { runs = jobs_run w.attempts; of_release = refl });
  stops = others.model (live_of w) (jobs_run w.attempts);
  rising =
      subst AreRising (sym these.records)
      (pairs_take _ (options.max_concurrent_compactions - length (part_jobs w.attempts)) _ (pairs_filter _ (λ job. is_taken (part_jobs w.attempts) (release_of w.release) (job_of job)) jobs (subst AreRising of_all rising)));
}
  where
    these : AreClaimed options.max_concurrent_compactions (part_jobs w.attempts) w.release jobs claimed
    these =
        subst (λ r. AreClaimed options.max_concurrent_compactions r w.release jobs claimed) of_one
        (subst (λ r. AreClaimed options.max_concurrent_compactions one r jobs claimed) of_release (subst (λ js. AreClaimed options.max_concurrent_compactions one release js claimed) of_all taken))

    others : AreStopped (part_jobs w.attempts) jobs stopped
    others = subst (λ r. AreStopped r jobs stopped) of_two (subst (λ js. AreStopped two js stopped) of_seen stops)

module _ (options : CompactionWorkerOptions) (w : WorkerParts) (jobs claimed : List JobParts) (stopped : List ℕ) (choice : IsChoice options w jobs claimed stopped) where
  abbrev test : JobParts → Bool
  test job = is_taken (part_jobs w.attempts) (release_of w.release) (job_of job)

  chosen : (P : JobParts → Type 0) → ((job : JobParts) → test job ≡ true → P job) → AllByRecursion P claimed
  chosen P each =
      subst (AllByRecursion P) (sym choice.records)
      (all_take P (options.max_concurrent_compactions - length (part_jobs w.attempts)) (filter test jobs) (all_to _ P (filter test jobs) (λ job there h. each job h.1) (filtered test jobs)))

  pub may_take_all : MayTakeAll w claimed
  may_take_all = chosen _ (λ job yes. third (is_waiting (job_of job)) (not (contains (part_jobs w.attempts) job.id)) (may_take (release_of w.release) (job_of job)) yes)
    where
      third : (a b c : Bool) → (a && b && c) ≡ true → c ≡ true
      third true true c e = e
      third true false c e = absurd (cc e)
      third false b c e = absurd (cc e)

  pub are_new : AreNew w claimed
  are_new = record { rising = choice.rising; apart = chosen _ (λ job yes. second (is_waiting (job_of job)) (contains (part_jobs w.attempts) job.id) (may_take (release_of w.release) (job_of job)) yes) }
    where
      second : (a b c : Bool) → (a && not b && c) ≡ true → b ≡ false
      second true false c e = refl
      second true true c e = absurd (cc e)
      second false b c e = absurd (cc e)

  -- What the records describe, those of the claimed jobs do.
  pub describe_claimed : (store : Store) → DescribeTables jobs store → DescribeTables claimed store
  describe_claimed store all =
      let D = IsDescribed store.tables in
      all_flat D job_handles claimed
      (subst (AllByRecursion (λ job. AllByRecursion D (job_handles job))) (sym choice.records)
      (all_take _ (options.max_concurrent_compactions - length (part_jobs w.attempts)) (filter test jobs) (all_filter _ test jobs (all_unflat D job_handles jobs all))))

-- ---- the course

-- A claim that takes no job.
ends_nothing : (w : WorkerParts) (stopped : List ℕ) (report : ClaimReport) (attempts : List AttemptParts) → BeginsNothing w stopped report attempts
    → Reports (record { begun = []; stopped = stopped; released = []; attempts = without_attempts stopped (map attempt_of w.attempts) }) ≡ claim_ends_with (report, attempts)
ends_nothing w stopped report attempts nothing =
    ap (λ xs. Reports (record { begun = []; stopped = stopped; released = []; attempts = xs })) (sym (without_same stopped w.attempts) ∙ ap (map attempt_of) (sym nothing.left)) ∙ ap (λ r. claim_ends_with (r, attempts)) (sym nothing.reports)

-- It names no job.
pub nothing_named : (w : WorkerParts) (stopped : List ℕ) (report : ClaimReport) (attempts : List AttemptParts) → BeginsNothing w stopped report attempts → NamesBegun attempts report
nothing_named w stopped report attempts nothing = subst (NamesBegun attempts) (sym nothing.reports) refl

-- There are no records.
pub claims_none : (options : WorkerOptions) (moment : ℕ) (w : WorkerParts) (stopped : List ℕ) (report : ClaimReport) (attempts : List AttemptParts) → stopped ≡ [] → BeginsNothing w stopped report attempts → (again : ℕ → Course (StepEnd Claimed))
    → claim_by options moment (live_of w) None again ≡ Ends (claim_ends_with (report, attempts))
claims_none options moment w stopped report attempts none nothing again =
    ap Ends
    (ap (λ xs. Reports (record { begun = []; stopped = []; released = []; attempts = xs })) (ap (map attempt_of) (sym (without_none w.attempts)) ∙ without_same [] w.attempts)
    ∙ ends_nothing w [] report attempts (subst (λ s. BeginsNothing w s report attempts) none nothing))

module _ (options : CompactionWorkerOptions) (moment : ℕ) (w : WorkerParts) (got : VersionedRecords) (claimed : List JobParts) (stopped : List ℕ) (choice : IsChoice options w got.compactions.jobs claimed stopped) where
  chosen_so : (again : ℕ → Course (StepEnd Claimed)) → claim_by (options_of options) moment (live_of w) (Some (records_of got)) again ≡ claim_of (options_of options) moment (live_of w) (records_of got) (jobs_of claimed) stopped again
  chosen_so again =
      ap (λ js. claim_of (options_of options) moment (live_of w) (records_of got) js (ids (stopped_jobs (live_of w) (jobs_of got.compactions.jobs))) again) (sym choice.takes)
      ∙ ap (λ s. claim_of (options_of options) moment (live_of w) (records_of got) (jobs_of claimed) s again) (sym choice.stops)

  -- No job is claimed.
  pub claims_nothing : claimed ≡ [] → (report : ClaimReport) (attempts : List AttemptParts) → BeginsNothing w stopped report attempts → (again : ℕ → Course (StepEnd Claimed))
      → claim_by (options_of options) moment (live_of w) (Some (records_of got)) again ≡ Ends (claim_ends_with (report, attempts))
  claims_nothing none report attempts nothing again =
      chosen_so again ∙ ap (λ js. claim_of (options_of options) moment (live_of w) (records_of got) (jobs_of js) stopped again) none ∙ ap Ends (ends_nothing w stopped report attempts nothing)

  same_put : (v v' : ℕ) (c c' : model.RecordChange) (e e' : ℕ) (j j' : Jobs) (next : Course (StepEnd Claimed)) (again : ℕ → Course (StepEnd Claimed)) → v ≡ v' → c ≡ c' → e ≡ e' → j ≡ j'
      → puts_and (PutsRecords v c e j) v next again ≡ puts_and (PutsRecords v' c' e' j') v' next again
  same_put v v' c c' e e' j j' next again a b x y = rw (a, b, x, y) refl

  numbers_same : (jobs : List JobParts) → map (λ job. (job.id, job.attempt + 1)) (jobs_of jobs) ≡ next_numbers jobs
  numbers_same [] = refl
  numbers_same (job ∷ jobs) = ap (λ ns. (job.id, job.attempt + 1) ∷ ns) (numbers_same jobs)

  -- The put claims the jobs, and the rest follows it.
  pub claims_by : claimed ≢ [] → (put : ClaimPut) → IsClaimPut moment w got claimed put → (again : ℕ → Course (StepEnd Claimed))
      → claim_by (options_of options) moment (live_of w) (Some (records_of got)) again
      ≡ puts_and (records_put put.version put.value put.why) put.version (after_put (options_of options) moment (live_of w) (jobs_of claimed) stopped) again
  claims_by some put puts again = chosen_so again ∙ by claimed some puts.change puts.made
    where
      by : (these : List JobParts) → these ≢ [] → record_change_of put.why ≡ model.Claim w.number (next_numbers these) → ClaimsRecords w.number moment (next_numbers these) got.compactions put.value
          → claim_of (options_of options) moment (live_of w) (records_of got) (jobs_of these) stopped again
          ≡ puts_and (records_put put.version put.value put.why) put.version (after_put (options_of options) moment (live_of w) (jobs_of these) stopped) again
      by [] some change made = absurd (some refl)
      by (job ∷ these) some change made =
          same_put _ _ _ _ _ _ _ _ _ again (sym puts.at) (ap (λ l. model.Claim w.number l) (numbers_same (job ∷ these)) ∙ sym change) (sym made.epoch)
          (ap (λ l. jobs_after (at_moment moment) (model.Claim w.number l) (jobs_of got.compactions.jobs)) (numbers_same (job ∷ these)) ∙ sym made.jobs)

-- ---- the start

module _ (input : ClaimInput) (w : WorkerParts) (claimed : List JobParts) (stopped : List ℕ) (starts : Starts) (are : StartsAre input (jobs_of claimed) starts) (new : AreNew w claimed) where
  abbrev CAN : Job → Bool
  CAN = can_start input.manifest

  begun_ids : part_jobs (map parts_of starts.begun.items) ≡ ids (filter CAN (jobs_of claimed))
  begun_ids = of_parts starts.begun.items ∙ ap (map (λ (a : Attempt). a.job)) are.attempts ∙ of_jobs (filter CAN (jobs_of claimed))
    where
      of_parts : (xs : List ClaimedAttempt) → part_jobs (map parts_of xs) ≡ map (λ (a : Attempt). a.job) (map claimed_of xs)
      of_parts [] = refl
      of_parts (a ∷ xs) = ap (λ js. a.job ∷ js) (of_parts xs)

      of_jobs : (js : Jobs) → map (λ (a : Attempt). a.job) (map (claimed_attempt input) js) ≡ ids js
      of_jobs [] = refl
      of_jobs (job ∷ js) = ap (λ is. job.id ∷ is) (of_jobs js)

  rise : Pairs (λ (a b : ℕ). a < b) (part_jobs (map parts_of starts.begun.items))
  rise =
      subst (Pairs (λ a b. a < b)) (sym begun_ids)
      (pairs_map (λ (a b : Job). a.id < b.id) (λ a b. a < b) (λ job. job.id) (filter CAN (jobs_of claimed)) (λ x y one other less. less)
      (pairs_filter (λ a b. a.id < b.id) CAN (jobs_of claimed) (pairs_map (λ (a b : JobParts). a.id < b.id) (λ a b. a.id < b.id) job_of claimed (λ x y one other less. less) new.rising)))

  apart : AllByRecursion (λ id. contains (part_jobs w.attempts) id ≡ false) (part_jobs (map parts_of starts.begun.items))
  apart =
      subst (AllByRecursion (λ id. contains (part_jobs w.attempts) id ≡ false)) (sym begun_ids)
      (all_map (λ id. contains (part_jobs w.attempts) id ≡ false) (λ (job : Job). job.id) (filter CAN (jobs_of claimed)) (all_filter _ CAN (jobs_of claimed) (all_map (λ (job : Job). contains (part_jobs w.attempts) job.id ≡ false) job_of claimed new.apart)))

  pairs_back : (xs : List AttemptParts) → Pairs (λ a b. a < b) (part_jobs xs) → Pairs (λ a b. a.job < b.job) xs
  pairs_back [] h = tt
  pairs_back (x ∷ xs) h = (all_back xs h.0, pairs_back xs h.1)
    where
      all_back : (ys : List AttemptParts) → AllByRecursion (λ id. x.job < id) (part_jobs ys) → AllByRecursion (λ b. x.job < b.job) ys
      all_back [] h = tt
      all_back (y ∷ ys) h = (h.0, all_back ys h.1)

  apart_back : (xs : List AttemptParts) → AllByRecursion (λ id. contains (part_jobs w.attempts) id ≡ false) (part_jobs xs) → AllByRecursion (λ a. contains (part_jobs w.attempts) a.job ≡ false) xs
  apart_back [] h = tt
  apart_back (x ∷ xs) h = (h.0, apart_back xs h.1)

  same_jobs : (xs : List ClaimedAttempt) → part_jobs (map parts_of xs) ≡ map (λ a. a.job) xs
  same_jobs [] = refl
  same_jobs (a ∷ xs) = ap (λ js. a.job ∷ js) (same_jobs xs)

  -- The attempts that began are there afterwards.
  begun_there : attempts_at (map (λ a. a.job) starts.begun.items) (next_parts stopped starts.begun.items w.attempts) ≡ map parts_of starts.begun.items
  begun_there =
      ap (λ js. attempts_at js (next_parts stopped starts.begun.items w.attempts)) (sym (same_jobs starts.begun.items))
      ∙ begun_at stopped (map parts_of starts.begun.items) w.attempts (pairs_back _ rise) (apart_back _ apart)

  -- The report names their jobs.
  pub names_begun : (report : ClaimReport) (attempts : List AttemptParts) → report ≡ record { claimed = map (λ a. a.job) starts.begun.items; stopped = stopped; released = starts.released.items } → attempts ≡ next_parts stopped starts.begun.items w.attempts → NamesBegun attempts report
  names_begun report attempts is next =
      subst (NamesBegun attempts) (sym is)
      (subst (λ xs. part_jobs (attempts_at (map (λ a. a.job) starts.begun.items) xs) ≡ map (λ a. a.job) starts.begun.items) (sym next) (ap part_jobs begun_there ∙ same_jobs starts.begun.items))

  -- The claimed jobs start so, and the claim reports so.
  pub starts_so : (report : ClaimReport) (attempts : List AttemptParts) (jobs : List ℕ) → report ≡ record { claimed = jobs; stopped = stopped; released = starts.released.items } → jobs ≡ map (λ a. a.job) starts.begun.items
      → attempts ≡ next_parts stopped starts.begun.items w.attempts
      → starts_claimed input (live_of w) (jobs_of claimed) stopped ≡ calls_each (noted_events starts.notes.items) (Ends (claim_ends_with (report, attempts)))
  starts_so report attempts jobs is jobs_are next =
      ap (λ events. calls_each events (Ends (Reports (end (map (claimed_attempt input) (filter CAN (jobs_of claimed))) (ids (filter (λ job. not (CAN job)) (jobs_of claimed))))))) (sym are.plans)
      ∙ ap (λ e. calls_each (noted_events starts.notes.items) (Ends (Reports e)))
      (ap (λ r. end (map (claimed_attempt input) (filter CAN (jobs_of claimed))) r) (sym are.others) ∙ ap (λ b. end b starts.released.items) (sym are.attempts))
      ∙ ap (λ xs. calls_each (noted_events starts.notes.items) (Ends (Reports (record { begun = map claimed_of starts.begun.items; stopped = stopped; released = starts.released.items; attempts = xs }))))
      (sym (next_same stopped starts.begun.items w.attempts) ∙ ap (map attempt_of) (sym next))
      ∙ ap (λ b. calls_each (noted_events starts.notes.items) (Ends (Reports (record { begun = b; stopped = stopped; released = starts.released.items; attempts = map attempt_of attempts })))) found
      ∙ ap (λ r. calls_each (noted_events starts.notes.items) (Ends (claim_ends_with (r, attempts)))) (sym is)
    where
      end : List Attempt → List ℕ → Claimed
      end begun released = record { begun = begun; stopped = stopped; released = released; attempts = with_attempts begun (without_attempts stopped (map attempt_of w.attempts)) }

      found : map claimed_of starts.begun.items ≡ map attempt_of (attempts_at jobs attempts)
      found = sym (begun_same starts.begun.items) ∙ ap (map attempt_of) (sym begun_there ∙ ap (λ js. attempts_at js (next_parts stopped starts.begun.items w.attempts)) (sym jobs_are) ∙ ap (attempts_at jobs) (sym next))

-- ---- tries

-- A claim is its tries.
is_tries : (options : WorkerOptions) (moment : ℕ) (w : LiveWorker) → claim options moment w ≡ tries (claim_try options moment w) 64 0
unfolding claim
is_tries options moment w = refl

-- A claim is safe for a worker that may make a step.
pub claim_safe : (view : StoreView) (options : WorkerOptions) (moment : ℕ) (w : LiveWorker) → IsLawful view.who.merge → MayStep view w → IsSafe view w (λ (report : Claimed). report.attempts) (claim options moment w)
claim_safe view options moment w merges may = record {
  lawful = claims_are_lawful view.who view.world options moment w (calls_keep view.who.merge merges) may.keeps may.party;
  fits = (claims_keep_fit view.who view.world options moment w (calls_keep view.who.merge merges) may.party may.keeps may.holds).0;
}

-- So is its first try, which further tries may follow.
pub try_safe : (view : StoreView) (options : WorkerOptions) (moment : ℕ) (w : LiveWorker) → IsLawful view.who.merge → MayStep view w
    → IsSafe view w (λ (report : Claimed). report.attempts) (claim_try options moment w (tries (claim_try options moment w) 63))
try_safe view options moment w merges may = subst (IsSafe view w (λ (report : Claimed). report.attempts)) (is_tries options moment w) (claim_safe view options moment w merges may)

-- ---- notes

module _ (old mid : StoreView) (all left later : List Note) (note : Note) (lead : (rest : Course (StepEnd Claimed)) → Leads (calls_each (noted_events all) rest) old (calls_each (noted_events left) rest) mid) (is : left ≡ note ∷ later) where
  on_note : (rest : Course (StepEnd Claimed)) → Leads (calls_each (noted_events all) rest) old (calls_each (noted_events (note ∷ later)) rest) mid
  on_note rest = subst (λ l. Leads (calls_each (noted_events all) rest) old (calls_each (noted_events l) rest) mid) is (lead rest)

  -- The next note may be made.
  pub note_fits : MayNoteEach all old → MayCall mid (λ met. noted_exchange note)
  note_fits may =
      let on = on_note (Ends may.0) in
      let there = on.lawful may.1 in
      subst (λ (w : Caller). (met : World) → Rivals w mid.world met → Lawful w.merge w.party met (noted_exchange note)) (sym on.same.who) (λ met rivals. (there met rivals tt).0)

  -- It was made.
  pub noted_one : {new : StoreView} {done : Unit} → Notes mid new note (Ok done) → (rest : Course (StepEnd Claimed)) → Leads (calls_each (noted_events all) rest) old (calls_each (noted_events later) rest) new
  noted_one called rest = then_leads (on_note rest) (call_leads called (λ met. calls_each (noted_events later) rest))

  -- It failed.
  pub note_failed : {new : StoreView} {e : SlateDBError} → Notes mid new note (Err e) → (rest : Course (StepEnd Claimed)) (again : ℕ → Course (StepEnd Claimed)) → TryRan claim_ends_with (calls_each (noted_events all) rest) again old new (Err e)
  note_failed called rest again = then_tried claim_ends_with (on_note rest) (get_fails called)

-- ---- the start under a manifest

-- Every table of a store that meets the invariant is strictly ordered.
tables_are : (who : Caller) (old : World) (met : World) → IsLawful who.merge → Keeps who.merge old → Rivals who old met → AllByRecursion (λ table. IsTable table.1) met.store.tables
tables_are who old met merges kept rivals = (rivals_keep who old met (calls_keep who.merge merges) kept rivals).stored.sound.tables

module _ (old mid : StoreView) (options : CompactionWorkerOptions) (moment : ℕ) (w : WorkerParts) (claimed : List JobParts) (stopped : List ℕ) (manifest : VersionedManifest) (gets : GetsManifest old mid (Ok manifest)) where
  -- The manifest was got.
  pub got_here : Leads (after_put (options_of options) moment (live_of w) (jobs_of claimed) stopped) old (starts_claimed (input_of w.release options moment gets.met.store) (live_of w) (jobs_of claimed) stopped) mid
  got_here = call_leads gets (λ met. starts_claimed (input_of w.release options moment met) (live_of w) (jobs_of claimed) stopped)

  module _ (start : ClaimStart) (is : IsClaimStart options moment w manifest claimed stopped start) (merges : IsLawful old.who.merge) (kept : Keeps old.who.merge old.world) (may : MayTakeAll w claimed) (new : AreNew w claimed) where
    -- The notes follow, and then the claim reports.
    pub to_notes : Leads (after_put (options_of options) moment (live_of w) (jobs_of claimed) stopped) old (calls_each (noted_events start.notes.items) (Ends (claim_ends_with (start.report, start.attempts)))) mid
    to_notes =
        subst (λ rest. Leads (after_put (options_of options) moment (live_of w) (jobs_of claimed) stopped) old rest mid)
        (starts_so (input_of w.release options moment gets.met.store) w claimed stopped is.starts
        (is.are.model gets.met.store gets.ended.0 (tables_are old.who old.world gets.met merges kept gets.rivals) may) new start.report start.attempts _ is.reports refl is.next
        ∙ ap (λ notes. calls_each (noted_events notes) (Ends (claim_ends_with (start.report, start.attempts)))) (sym is.plans))
        got_here

    -- The report names the jobs of the attempts that began.
    pub begun_named : NamesBegun start.attempts start.report
    begun_named =
        names_begun (input_of w.release options moment gets.met.store) w claimed stopped is.starts
        (is.are.model gets.met.store gets.ended.0 (tables_are old.who old.world gets.met merges kept gets.rivals) may) new start.report start.attempts is.reports is.next

    pub may_note : IsLawfulCourse old.who old.world (after_put (options_of options) moment (live_of w) (jobs_of claimed) stopped) → MayNoteEach start.notes.items mid
    may_note lawful = (
      claim_ends_with (start.report, start.attempts),
      subst (λ who. IsLawfulCourse who mid.world (calls_each (noted_events start.notes.items) (Ends (claim_ends_with (start.report, start.attempts))))) (sym to_notes.same.who) (to_notes.lawful lawful),
    )

-- The start that was made of these parts.
pub claim_start : (options : CompactionWorkerOptions) (moment : ℕ) (w : WorkerParts) (manifest : VersionedManifest) (claimed : List JobParts) (stopped : List ℕ) (release : Release) (starts : Starts) (start : ClaimStart) (jobs released held : List ℕ) (begun : List ClaimedAttempt) (running : List AttemptParts)
    → release ≡ w.release → AreStarts release options moment manifest claimed starts → start.notes.items ≡ starts.notes.items → start.report ≡ record { claimed = jobs; stopped = stopped; released = released } → jobs ≡ map (λ a. a.job) starts.begun.items → released ≡ starts.released.items
    → start.attempts ≡ next_parts held begun running → held ≡ stopped → begun ≡ starts.begun.items → running ≡ w.attempts → IsClaimStart options moment w manifest claimed stopped start
claim_start options moment w manifest claimed stopped release starts start jobs released held begun running of_release are plans report jobs_are released_are next held_are begun_are running_are = record {
  starts = starts;
  are = subst (λ r. AreStarts r options moment manifest claimed starts) of_release are;
  plans = plans;
  reports = report ∙ ap (λ js. record { claimed = js; stopped = stopped; released = released }) jobs_are ∙ ap (λ rs. record { claimed = map (λ a. a.job) starts.begun.items; stopped = stopped; released = rs }) released_are;
  next = next ∙ ap (λ h. next_parts h begun running) held_are ∙ ap (λ b. next_parts stopped b running) begun_are ∙ ap (next_parts stopped starts.begun.items) running_are;
}

-- What the attempts that the worker runs then have noted is described.
pub noted_then : (options : CompactionWorkerOptions) (moment : ℕ) (w : WorkerParts) (manifest : VersionedManifest) (claimed : List JobParts) (stopped : List ℕ) (start : ClaimStart) → IsClaimStart options moment w manifest claimed stopped start
    → (got : Store) → IsManifest manifest got → (store : Store) → IsLater got store → DescribeTables claimed store → AreNoted w.attempts store → AreNoted start.attempts store
noted_then options moment w manifest claimed stopped start is got stored store later described noted =
    subst (λ xs. AreNoted xs store) (sym is.next) (with_noted (map parts_of is.starts.begun.items) _ (shown is.starts.begun.items (is.are.shown store described) (is.are.known got stored)) (some_noted store (λ a. not (contains stopped a.job)) w.attempts noted))
  where
    shown : (begun : List ClaimedAttempt) → AllByRecursion (IsShown store) begun → AllByRecursion (KnowsSources got) begun → AreNoted (map parts_of begun) store
    shown [] all known = tt
    shown (a ∷ begun) all known =
        (record { sources = known.0.are; described = all_described got store later a.tables known.0.described; noted = all.0 }, shown begun all.1 known.1)

    put_noted : (a : AttemptParts) (xs : List AttemptParts) → IsNoted store a → AreNoted xs store → AreNoted (put_part a xs) store
    put_noted a [] one all = (one, tt)
    put_noted a (b ∷ xs) one all = by (nat_lt a.job b.job) (put_noted a xs one all.1)
      where
        by : (c : Bool) → AreNoted (put_part a xs) store → AreNoted (cond c (a ∷ b ∷ xs) (b ∷ put_part a xs)) store
        by true rest = (one, all)
        by false rest = (all.0, rest)

    with_noted : (new xs : List AttemptParts) → AreNoted new store → AreNoted xs store → AreNoted (with_parts new xs) store
    with_noted [] xs all others = others
    with_noted (a ∷ new) xs all others = with_noted new (put_part a xs) all.1 (put_noted a xs all.0 others)

-- ---- all tries

pub first_claim : (options : WorkerOptions) (moment : ℕ) (w : LiveWorker) (view : StoreView) → Leads (claim options moment w) view (tries (claim_try options moment w) 64 0) view
first_claim options moment w view = subst (λ course. Leads (claim options moment w) view course view) (is_tries options moment w) (begins (claim options moment w) view)
