-- A settle line settles: each round that goes on makes the trees lighter, with the finished jobs counted as
-- committed.
use Rattle.std.proofs.Common.{◌≡◌, refl, sym, ◌∙◌, ap, subst, ℕ, suc, ◌+◌, ◌-◌, ◌≤◌, ◌<◌, List, [], ◌∷◌, map, Bool, true, false, cond, ◌⊎◌, inl, inr, Option, None, Some, length, arith}
use Rattle.std.specs.Prelude.{◌==◌, ◌&&◌, ◌||◌, not, IsTrue, filter, is_some}
use Rattle.std.specs.List.{list_any, AllByRecursion}
use Rattle.row_model.specs.Lists.{Pairs}
use Rattle.row_model.specs.Fold.{IsLawful}
use Rattle.fleet_model.specs.Nodes.{Tree, Trees}
use Rattle.fleet_model.specs.Jobs.{Job, Jobs, Scheduled, Running, Compacted, has_status, contains, ids, number_of, changed_jobs, trimmed_jobs}
use Rattle.fleet_model.specs.Handles.{Handle}
use Rattle.fleet_model.specs.Work.Records.{Unrecorded, firsts, claimed_by, finished_by}
use Rattle.fleet_model.specs.Store.{Manifest, stored_jobs}
use Rattle.fleet_model.specs.Work.Parties.{Attempt, LiveWorker, Parties, coordinator_with, worker_with, attempt_jobs, with_attempts, without_attempts, is_live}
use Rattle.fleet_model.specs.Work.Claims.{claimed_jobs}
use Rattle.fleet_model.specs.Work.Gates.{is_nonempty}
use Rattle.fleet_model.specs.Invariants.JobsFit.{SourcesStand, OpenedStands}
use Rattle.fleet_model.specs.Work.PollStates.{PollInput, PollState, poll_begun, view_of}
use Rattle.step_model.specs.Steps.FinishSteps.{all_outputs, unrecorded_of_finish}
use Rattle.step_laws.proofs.Elements.{IsIn, all_at, all_to, in_contains}
use Rattle.script_model.specs.Script.{ClaimJobs, FinishJob, Settle}
use Rattle.script_model.specs.States.{Inputs, State, FleetOptions}
use Rattle.script_model.specs.LineRuns.{if_some, no_such_party, run_line}
use Rattle.script_model.specs.LineCourses.{attempt_numbered, job_at, course_of}
use Rattle.script_model.specs.LineSteps.{OneCourse}
use Rattle.script_model.specs.Follows.{SettleStep}
use Rattle.script_model.specs.Lines.Settles.{is_ok, are_live, has_active, has_added, jobs_run, SettleRun}
use Rattle.script_model.proofs.Rounds.{settle_unfolds}
use Rattle.line_laws.specs.States.{StateKeeps}
use Rattle.line_laws.specs.Lines.ClaimLines.{stopped_in, begun_in, with_claimed, ClaimRan}
use Rattle.line_laws.specs.Lines.FinishLines.{FinishRan}
use Rattle.line_laws.proofs.Parties.{found}
use Rattle.line_laws.proofs.ClaimLines.{claims_take}
use Rattle.line_laws.proofs.FinishLines.{finishes_end}
use Rattle.line_laws.proofs.Scripts.{course_leads}
use Rattle.last_laws.specs.Weights.{Lightens, trees_weight}
use Rattle.last_laws.specs.Rounds.{WentWell, FinishedAll, WorkedOn}
use Rattle.last_laws.specs.Settling.{AreSmall, WaitsOrStands, Settling, CalmLine, SettledSmall, SettleLinesSettle}
use Rattle.last_laws.proofs.PollWeights.{commits_lighter}
use Rattle.last_laws.proofs.Commits.{poll_commits}
use Rattle.last_laws.proofs.Opens.{IsCalmNew}
use Rattle.last_laws.proofs.PollWorks.{in_ids, none_active}
use Rattle.last_laws.proofs.Rounds.{FittingRoundsLower, all_rounds_settle}
use Rattle.last_laws.proofs.Lasting.{claim_keeps_manifest}
use Rattle.last_laws.proofs.RoundWorks.{IsBusy, waiting_new, claims_some, has_attempt, some_attempt, firsts_are, busy_claimed, Ended, live_runs, fewer, busy_ended, ended_there, compacted_stays}
use Rattle.last_laws.proofs.SettlePolls.{Fits, fits_back, finished_count, Ready, PollLeft, poll_settles, same_options, calm_of, waits_of}
use Rattle.step_laws.proofs.TableReplays.{all_trimmed}

-- ---- a round at work

-- The state while the worker finishes its jobs: at most so many are left, and if the flag is true, a job is
-- finished.
record Finishing (inputs : Inputs) (worker : ℕ) (trees : Trees) (options : FleetOptions) (left : ℕ) (some : Bool) (s : State) : Type 0 where
  keeps : StateKeeps inputs.merge s
  stay : s.store.manifest.trees ≡ trees
  options_stay : s.options ≡ options
  w : LiveWorker
  live : worker_with worker s.parties ≡ Some w
  few : length w.attempts ≤ left
  busy : AllByRecursion (IsBusy trees (attempt_jobs w.attempts)) (stored_jobs s.store)
  done : some ≡ true → list_any (has_status Compacted) (stored_jobs s.store) ≡ true

with_themselves : {A : Type 0} (P : A → Type 0) (xs : List A) → AllByRecursion P xs → AllByRecursion (λ x. IsIn x xs × P x) xs
with_themselves P xs h = all_to _ _ xs (λ x there p. (there, p)) h

-- The attempt that the worker runs at the job of this number.
record AttemptFound (w : LiveWorker) (v : LiveWorker) (a : Attempt) : Type 0 where
  same : v ≡ w
  there : IsIn a w.attempts

abbrev at_number : ℕ → Option LiveWorker → Option (LiveWorker × Attempt)
at_number number o = if_some {B = Option (LiveWorker × Attempt)} o None (λ w. if_some {B = Option (LiveWorker × Attempt)} (attempt_numbered number w.attempts) None (λ a. Some (w, a)))

-- The worker and the attempt that a line finds are the live worker and one of its attempts.
attempt_found : (s : State) (worker number : ℕ) (w v : LiveWorker) (a : Attempt) → worker_with worker s.parties ≡ Some w → job_at s worker number ≡ Some (v, a) → AttemptFound w v a
attempt_found s worker number w v a live is =
    by (attempt_numbered number w.attempts) refl (sym (ap (at_number number) live) ∙ is)
  where
    by : (o : Option Attempt) → attempt_numbered number w.attempts ≡ o → if_some {B = Option (LiveWorker × Attempt)} o None (λ a. Some (w, a)) ≡ Some (v, a) → AttemptFound w v a
    by None e is = absurd (cc is)
    by (Some b) e is =
        let same : (w, b) ≡ (v, a) = cc is in
        record {
          same = sym (ap (λ (p : LiveWorker × Attempt). p.0) same);
          there = subst (λ c. IsIn c w.attempts) (ap (λ (p : LiveWorker × Attempt). p.1) same) (found (λ (a : Attempt). number == number_of a.job) w.attempts b e).there;
        }

-- A finish that is not refused ends one attempt, and its job waits for its commit.
finish_works : (inputs : Inputs) (number worker job : ℕ) (trees : Trees) (options : FleetOptions) (left : ℕ) (some : Bool) (s : State) (answer : List ℕ) (after : State) → IsLawful inputs.merge → Finishing inputs worker trees options (suc left) some s → Fits after
    → OneCourse inputs number s (FinishJob worker job) answer after → is_ok answer ≡ true → Finishing inputs worker trees options left true after
finish_works inputs number worker job trees options left some s answer after lawful f fits one ok =
    by (finishes_end inputs s after worker job answer (record { lawful = lawful; keeps = f.keeps; number = number; course = one; had_room = fits.room }) ok)
  where
    all : Jobs
    all = stored_jobs s.store

    rise : Pairs (λ (a b : Job). a.id < b.id) all
    rise = f.keeps.fleet.store.stored.sound.job_ids

    stands : (j : Job) → IsIn j all → IsTrue (has_status Running j) → SourcesStand trees j
    stands j there runs = subst (λ t. SourcesStand t j) f.stay ((all_at (OpenedStands s.store) all j f.keeps.fleet.store.stored.sources there).0 (or_true (has_status Scheduled j) (has_status Running j) runs))
      where
        or_true : (a b : Bool) → IsTrue b → IsTrue (a || b)
        or_true true b h = refl
        or_true false b h = h

    at : (v : LiveWorker) (a : Attempt) (unrecorded : Unrecorded) (outputs : List (List ℕ)) → AttemptFound f.w v a → is_live all v.number a ≡ true
        → stored_jobs after.store ≡ trimmed_jobs (changed_jobs (finished_by v.number unrecorded outputs) (a.job ∷ []) all)
        → after.store.manifest ≡ s.store.manifest → worker_with worker after.parties ≡ Some (record v { attempts = without_attempts (a.job ∷ []) v.attempts }) → Finishing inputs worker trees options left true after
    at v a unrecorded outputs g live jobs manifest runs =
        let ended : Ended all a.job = live_runs all v.number a live in
        let shorter = fewer a f.w.attempts g.there in
        let few = f.few in
        let same = ap (λ (w : LiveWorker). length (without_attempts (a.job ∷ []) w.attempts)) g.same in
        record {
          keeps = (course_leads inputs number s (FinishJob worker job) answer after lawful tt one).keeps fits.room f.keeps;
          stay = ap (λ (m : Manifest). m.trees) manifest ∙ f.stay;
          options_stay = same_options inputs number (FinishJob worker job) s answer after refl one ∙ f.options_stay;
          w = record v { attempts = without_attempts (a.job ∷ []) v.attempts };
          live = runs;
          few = omega (arith, shorter, few, same);
          busy = subst (AllByRecursion (IsBusy trees (attempt_jobs (without_attempts (a.job ∷ []) v.attempts)))) (sym jobs)
              (all_trimmed (IsBusy trees (attempt_jobs (without_attempts (a.job ∷ []) v.attempts))) (changed_jobs (finished_by v.number unrecorded outputs) (a.job ∷ []) all)
              (busy_ended trees v.number a.job unrecorded outputs v.attempts all all rise ended
              (with_themselves (IsBusy trees (attempt_jobs v.attempts)) all (subst (λ (w : LiveWorker). AllByRecursion (IsBusy trees (attempt_jobs w.attempts)) all) (sym g.same) f.busy)) stands));
          done = λ yes. ap (list_any (has_status Compacted)) jobs ∙ compacted_stays (changed_jobs (finished_by v.number unrecorded outputs) (a.job ∷ []) all)
              (ended_there v.number a.job unrecorded outputs all (subst (λ id. IsIn id (ids all)) ended.same (in_ids all ended.job ended.there)));
        }

    by : FinishRan worker job s answer after → Finishing inputs worker trees options left true after
    by r = at r.worker r.attempt (unrecorded_of_finish s.moment r.worker r.attempt) (all_outputs r.attempt.context.ranges r.made) (attempt_found s worker job f.w r.worker r.attempt f.live r.ran) r.live r.jobs r.manifest r.runs

finishes_back : (inputs : Inputs) (number worker : ℕ) (jobs : List ℕ) (s new : State) → FinishedAll inputs number worker jobs s new → Fits new → Fits s
finishes_back inputs number worker [] s new same fits = subst Fits same fits
finishes_back inputs number worker (job ∷ jobs) s new w fits = fits_back inputs number (FinishJob worker job) s w.replied w.after w.does (finishes_back inputs number worker jobs w.after new w.rest fits)

-- After all finishes no attempt is left, and if there was one, a job is finished.
finish_all : (inputs : Inputs) (number worker : ℕ) (trees : Trees) (options : FleetOptions) (some : Bool) (jobs : List ℕ) (s new : State) → IsLawful inputs.merge → Finishing inputs worker trees options (length jobs) some s → Fits new → FinishedAll inputs number worker jobs s new
    → Finishing inputs worker trees options 0 (some || is_nonempty jobs) new
finish_all inputs number worker trees options some [] s new lawful f fits same =
    subst (λ b. Finishing inputs worker trees options 0 b new) (or_none some) (subst (Finishing inputs worker trees options 0 some) (sym same) f)
  where
    or_none : (b : Bool) → b ≡ (b || false)
    or_none true = refl
    or_none false = refl
finish_all inputs number worker trees options some (job ∷ jobs) s new lawful f fits w =
    let one = finish_works inputs number worker job trees options (length jobs) some s w.replied w.after lawful f (finishes_back inputs number worker jobs w.after new w.rest fits) w.does w.ok in
    let all = finish_all inputs number worker trees options true jobs w.after new lawful one fits w.rest in
    record { keeps = all.keeps; stay = all.stay; options_stay = all.options_stay; w = all.w; live = all.live; few = all.few; busy = all.busy; done = λ yes. all.done refl }

-- ---- the claim

-- A claim that is not refused takes a job at least, if a job is active and the worker is idle.
claim_works : (inputs : Inputs) (number worker : ℕ) (s : State) (answer : List ℕ) (after : State) (w : LiveWorker) → IsLawful inputs.merge → StateKeeps inputs.merge s → worker_with worker s.parties ≡ Some w → w.attempts ≡ [] → 1 ≤ s.options.slots
    → AllByRecursion (IsCalmNew []) (stored_jobs s.store) → has_active s ≡ true → Fits after → OneCourse inputs number s (ClaimJobs worker) answer after → is_ok answer ≡ true
    → Finishing inputs worker s.store.manifest.trees s.options (length (jobs_run worker after)) (not (is_nonempty (jobs_run worker after))) after
claim_works inputs number worker s answer after w lawful keeps live idle some calm active fits one ok =
    by (claims_take inputs s after worker answer (record { lawful = lawful; keeps = keeps; number = number; course = one; had_room = fits.room }) ok)
  where
    all : Jobs
    all = stored_jobs s.store

    taken : Jobs
    taken = claimed_jobs s.options.slots w all

    some_taken : is_nonempty taken ≡ true
    some_taken = claims_some s.options.slots w all idle some keeps.fleet.store.facts.attempts.unleased calm active

    mapped : (attempts : List Attempt) → length (map number_of (attempt_jobs attempts)) ≡ length attempts
    mapped [] = refl
    mapped (a ∷ attempts) = let rest = mapped attempts in omega (arith, rest)

    never : (n : ℕ) (jobs : List ℕ) → 1 ≤ n → length jobs ≡ n → not (is_nonempty jobs) ≡ true → ⊥
    never n [] low same h = omega (arith, low, same)
    never n (job ∷ jobs) low same h = cc h

    at : (v : LiveWorker) (left : List Attempt) → v ≡ w → stored_jobs after.store ≡ with_claimed s.moment v (claimed_jobs s.options.slots v all) all
        → worker_with worker after.parties ≡ Some (record v { attempts = with_attempts (begun_in s v) left })
        → Finishing inputs worker s.store.manifest.trees s.options (length (jobs_run worker after)) (not (is_nonempty (jobs_run worker after))) after
    at v left same jobs runs =
        let attempts : List Attempt = with_attempts (begun_in s v) left in
        let run : jobs_run worker after ≡ map number_of (attempt_jobs attempts) = ap (λ o. if_some o [] (λ (w : LiveWorker). map number_of (attempt_jobs w.attempts))) runs in
        let count : length (jobs_run worker after) ≡ length attempts = ap length run ∙ mapped attempts in
        let some_v : is_nonempty (claimed_jobs s.options.slots v all) ≡ true = ap (λ (w : LiveWorker). is_nonempty (claimed_jobs s.options.slots w all)) same ∙ some_taken in
        let least : 1 ≤ length attempts = some_attempt _ (claimed_jobs s.options.slots v all) left some_v in
        record {
          keeps = (course_leads inputs number s (ClaimJobs worker) answer after lawful tt one).keeps fits.room keeps;
          stay = ap (λ (m : Manifest). m.trees) (claim_keeps_manifest inputs number worker s answer after one);
          options_stay = same_options inputs number (ClaimJobs worker) s answer after refl one;
          w = record v { attempts = attempts };
          live = runs;
          few = omega (arith, count);
          busy = subst (AllByRecursion (IsBusy s.store.manifest.trees (attempt_jobs attempts))) (sym (jobs ∙ ap (λ b. cond b (trimmed_jobs (changed_jobs (claimed_by v.number s.moment) (firsts (map (λ (job : Job). (job.id, job.attempt + 1)) (claimed_jobs s.options.slots v all))) all)) all) some_v))
              (all_trimmed (IsBusy s.store.manifest.trees (attempt_jobs attempts)) _
              (subst (λ these. AllByRecursion (IsBusy s.store.manifest.trees (attempt_jobs attempts)) (changed_jobs (claimed_by v.number s.moment) these all)) (sym (firsts_are (claimed_jobs s.options.slots v all)))
              (busy_claimed s.store.manifest.trees v.number s.moment s.options.slots v all all (attempt_jobs attempts) keeps.fleet.store.stored.sound.job_ids (with_themselves (IsCalmNew []) all calm) calm
              (λ id there. in_contains (attempt_jobs attempts) id (has_attempt _ (claimed_jobs s.options.slots v all) left id there)))));
          done = λ none. absurd (never (length attempts) (jobs_run worker after) least count none);
        }

    same_worker : (v : LiveWorker) → worker_with worker s.parties ≡ Some v → v ≡ w
    same_worker v e = same (sym e ∙ live)
      where
        same : Some v ≡ Some w → v ≡ w
        same e = cc e

    by : ClaimRan worker s answer after → Finishing inputs worker s.store.manifest.trees s.options (length (jobs_run worker after)) (not (is_nonempty (jobs_run worker after))) after
    by r = at r.worker (without_attempts (stopped_in s r.worker) r.worker.attempts) (same_worker r.worker r.live) r.jobs r.runs

-- ---- the count

-- What is kept from round to round: the state is ready, and the worker is idle and has a slot.
record Kept (inputs : Inputs) (worker : ℕ) (s : State) : Type 0 where
  ready : Ready inputs s
  some_slot : 1 ≤ s.options.slots
  w : LiveWorker
  live : worker_with worker s.parties ≡ Some w
  idle : w.attempts ≡ []

-- The count that each round lowers: the weight of the trees, less one for each job that waits for its commit.
count : State → ℕ
count s = trees_weight s.store.manifest.trees - finished_count s

-- There are at most as many finished jobs as the trees weigh, since all of them could be committed.
finished_low : (inputs : Inputs) (is_small : List Handle → Tree → Bool) (s : State) → Settling inputs.scheduler is_small → Ready inputs s → finished_count s ≤ trees_weight s.store.manifest.trees
finished_low inputs is_small s settling ready =
    let jobs : Jobs = stored_jobs s.store in
    let input : PollInput = record {
      options = record { timeout = 0; concurrent = 0; moves = false };
      scheduler = inputs.scheduler;
      tables = s.store.tables;
      manifest = s.store.manifest;
      records = record { version = 0; epoch = 0; jobs = jobs };
      moment = 0;
    } in
    let begun : PollState = poll_begun s.store.manifest.trees s.store.manifest.horizon jobs in
    let commits = poll_commits input (λ p spec. settling.accepts (view_of input p) spec) (all_to _ _ jobs (λ job there h. calm_of s.store.manifest.trees job h) ready.calm) ready.keeps.fleet.store.stored.held_once in
    let lighter = commits_lighter input (trees_weight s.store.manifest.trees) begun (record {
      weight = omega arith;
      rise = ready.keeps.fleet.store.stored.sound.prefixes;
      jobs = all_to _ _ jobs (λ job there h. waits_of s.store.manifest.trees job h) ready.calm;
    }) in
    let weight = lighter.weight in
    let steps = commits.steps in
    omega (arith, weight, steps)

some_finished : (jobs : Jobs) → list_any (has_status Compacted) jobs ≡ true → 1 ≤ length (filter (has_status Compacted) jobs)
some_finished [] h = absurd (cc h)
some_finished (job ∷ jobs) h = by (has_status Compacted job) h (some_finished jobs)
  where
    by : (b : Bool) → (b || list_any (has_status Compacted) jobs) ≡ true → (list_any (has_status Compacted) jobs ≡ true → 1 ≤ length (filter (has_status Compacted) jobs)) → 1 ≤ length (cond b (job ∷ filter (has_status Compacted) jobs) (filter (has_status Compacted) jobs))
    by true h rest = omega arith
    by false h rest = rest h

none_left : {A : Type 0} (xs : List A) → length xs ≤ 0 → xs ≡ []
none_left [] h = refl
none_left (x ∷ xs) h = absurd (omega (arith, h))

rests : (trees : Trees) (job : Job) → IsBusy trees [] job → WaitsOrStands trees job
rests trees job h active = by (h active)
  where
    by : Lightens job.spec × ((IsTrue (has_status Scheduled job) × (job.context ≡ None)) ⊎ ((IsTrue (has_status Running job) × (contains [] job.id ≡ true)) ⊎ (IsTrue (has_status Compacted job) × SourcesStand trees job)))
        → Lightens job.spec × ((IsTrue (has_status Scheduled job) × (job.context ≡ None)) ⊎ (IsTrue (has_status Compacted job) × SourcesStand trees job))
    by (l, inl waits) = (l, inl waits)
    by (l, inr (inl runs)) = absurd (cc (runs.1))
    by (l, inr (inr ends)) = (l, inr ends)

waits : (trees : Trees) (job : Job) → IsCalmNew [] job → WaitsOrStands trees job
waits trees job h active = let w = waiting_new job h active in (w.0, inl w.1)

-- ---- a round

-- A round that goes on finishes a job, which counts as committed from then on, or its poll moves one.
lower : (inputs : Inputs) (is_small : List Handle → Tree → Bool) (number coordinator worker : ℕ) → IsLawful inputs.merge → Settling inputs.scheduler is_small → FittingRoundsLower inputs number coordinator worker (Kept inputs worker) Fits count
unfolding count
lower inputs is_small number coordinator worker lawful settling old new kept fits round =
    by (has_active round.after) refl (has_added coordinator round.after) refl round.rest
  where
    after : State
    after = round.after

    polled : Fits after → PollLeft inputs is_small coordinator old after
    polled fits = poll_settles inputs is_small number coordinator old round.replied after lawful settling kept.ready fits round.does round.ok

    idle_after : PollLeft inputs is_small coordinator old after → worker_with worker after.parties ≡ Some kept.w
    idle_after p = ap (worker_with worker) p.parties ∙ kept.live

    worked : (c : WentWell inputs number (ClaimJobs worker) after (λ claimed. FinishedAll inputs number worker (jobs_run worker claimed) claimed new)) → has_active after ≡ true → Kept inputs worker new × (trees_weight new.store.manifest.trees - finished_count new < trees_weight old.store.manifest.trees - finished_count old)
    worked c active =
        let fits_claimed : Fits c.after = finishes_back inputs number worker (jobs_run worker c.after) c.after new c.rest fits in
        let p = polled (fits_back inputs number (ClaimJobs worker) after c.replied c.after c.does fits_claimed) in
        let slot : 1 ≤ after.options.slots = subst (λ (o : FleetOptions). 1 ≤ o.slots) (sym p.options) kept.some_slot in
        let f = claim_works inputs number worker after c.replied c.after kept.w lawful p.keeps (idle_after p) kept.idle slot p.calm active fits_claimed c.does c.ok in
        let g = finish_all inputs number worker after.store.manifest.trees after.options (not (is_nonempty (jobs_run worker c.after))) (jobs_run worker c.after) c.after new lawful f fits c.rest in
        let none : g.w.attempts ≡ [] = none_left g.w.attempts g.few in
        let options = g.options_stay ∙ p.options in
        let kept_new : Kept inputs worker new = record {
          ready = record {
            keeps = g.keeps;
            some_place = subst (λ (o : FleetOptions). 1 ≤ o.concurrent) (sym options) kept.ready.some_place;
            calm = subst (λ trees. AllByRecursion (WaitsOrStands trees) (stored_jobs new.store)) (sym g.stay)
                (all_to _ _ (stored_jobs new.store) (λ job there h. rests after.store.manifest.trees job h) (subst (λ attempts. AllByRecursion (IsBusy after.store.manifest.trees (attempt_jobs attempts)) (stored_jobs new.store)) none g.busy));
          };
          some_slot = subst (λ (o : FleetOptions). 1 ≤ o.slots) (sym options) kept.some_slot;
          w = g.w;
          live = g.live;
          idle = none;
        } in
        let low = finished_low inputs is_small new settling kept_new.ready in
        let least = some_finished (stored_jobs new.store) (g.done (not_or (is_nonempty (jobs_run worker c.after)))) in
        let stay = ap trees_weight g.stay in
        let weight = p.weight in
        let joins = p.joins in
        (kept_new, omega (arith, low, least, stay, weight, joins))
      where
        not_or : (b : Bool) → (not b || b) ≡ true
        not_or true = refl
        not_or false = refl

    moved : new ≡ after → has_active after ≡ false → has_added coordinator after ≡ true → Kept inputs worker new × (trees_weight new.store.manifest.trees - finished_count new < trees_weight old.store.manifest.trees - finished_count old)
    moved same over added =
        let p = polled (subst Fits same fits) in
        let kept_after : Kept inputs worker after = record {
          ready = record {
            keeps = p.keeps;
            some_place = subst (λ (o : FleetOptions). 1 ≤ o.concurrent) (sym p.options) kept.ready.some_place;
            calm = all_to _ _ (stored_jobs after.store) (λ job there h. waits after.store.manifest.trees job h) p.calm;
          };
          some_slot = subst (λ (o : FleetOptions). 1 ≤ o.slots) (sym p.options) kept.some_slot;
          w = kept.w;
          live = idle_after p;
          idle = kept.idle;
        } in
        let weight = p.weight in
        let works = p.works added over in
        subst (λ (s : State). Kept inputs worker s × (trees_weight s.store.manifest.trees - finished_count s < trees_weight old.store.manifest.trees - finished_count old)) (sym same) (kept_after, omega (arith, weight, works))

    by : (active : Bool) → has_active after ≡ active → (added : Bool) → has_added coordinator after ≡ added → WorkedOn active added inputs number worker after new
        → Kept inputs worker new × (trees_weight new.store.manifest.trees - finished_count new < trees_weight old.store.manifest.trees - finished_count old)
    by true e added f rest = worked rest e
    by false e true f rest = moved rest e f
    by false e false f rest = absurd rest

-- ---- the line

-- A worker that is live is found.
record IsThere (worker : ℕ) (parties : Parties) : Type 0 where
  w : LiveWorker
  live : worker_with worker parties ≡ Some w

is_there : (coordinator worker : ℕ) (s : State) → are_live coordinator worker s ≡ true → IsThere worker s.parties
is_there coordinator worker s e = by (is_some (coordinator_with coordinator s.parties)) (worker_with worker s.parties) refl e
  where
    by : (b : Bool) (o : Option LiveWorker) → worker_with worker s.parties ≡ o → (b && is_some o) ≡ true → IsThere worker s.parties
    by b (Some w) e h = record { w = w; live = e }
    by true None e h = absurd (cc h)
    by false None e h = absurd (cc h)

refused : (inputs : Inputs) (number : ℕ) (old : State) (coordinator worker rounds : ℕ) (answer : List ℕ) (new : State) → OneCourse inputs number old (Settle coordinator worker rounds) answer new → is_ok answer ≡ true → ⊥
unfolding course_of
refused inputs number old coordinator worker rounds answer new one ok =
    let is : run_line number old (no_such_party old) ≡ (answer, new) = ap (run_line number old) (sym one.does.is) ∙ one.ends in
    let same = ap (λ (p : List ℕ × State). p.0) is in cc (ap is_ok same ∙ ok)

-- The count is at most the weight of the trees, so the rounds are enough. The last poll finds the trees small.
pub settle_lines_settle : SettleLinesSettle
unfolding count
settle_lines_settle inputs is_small old coordinator worker rounds answer new h = by (are_live coordinator worker old) refl line.ran
  where
    line : CalmLine inputs old coordinator worker rounds answer new
    line = h.line

    settled : are_live coordinator worker old ≡ true → SettleRun inputs line.number coordinator worker rounds old answer new → SettledSmall is_small old answer new
    settled e run =
        let there = is_there coordinator worker old e in
        let kept : Kept inputs worker old = record {
          ready = record {
            keeps = line.keeps;
            some_place = line.some_place;
            calm = all_to _ _ (stored_jobs old.store) (λ job one over active. absurd (cc (active, over))) (none_active (stored_jobs old.store) line.none_active);
          };
          some_slot = line.some_slot;
          w = there.w;
          live = there.live;
          idle = line.idle there.w there.live;
        } in
        let fits : Fits new = record { room = line.had_room; free = line.free_ids } in
        let enough = h.enough in
        let r = all_rounds_settle inputs line.number coordinator worker (Kept inputs worker) Fits count (fits_back inputs) (lower inputs is_small line.number coordinator worker line.lawful h.settling) rounds old answer new kept fits (omega (arith, enough)) (settle_unfolds inputs line.number coordinator worker rounds old answer new run) line.not_refused in
        let last = r.polled in
        let p = poll_settles inputs is_small line.number coordinator r.last last.replied last.after line.lawful h.settling r.kept.ready (subst Fits last.rest fits) last.does last.ok in
        let time = r.in_time in
        record {
          round = r.round;
          says = r.says;
          in_time = omega (arith, time);
          none_active = r.none_active;
          small = subst (λ (s : State). AreSmall is_small s.store.tables s.store.manifest.trees) (sym last.rest) (p.quiet (ap (has_added coordinator) (sym last.rest) ∙ r.none_added) (ap has_active (sym last.rest) ∙ r.none_active));
        }

    by : (b : Bool) → are_live coordinator worker old ≡ b → SettleStep b inputs line.number old coordinator worker rounds answer new → SettledSmall is_small old answer new
    by true e run = settled e run
    by false e one = absurd (refused inputs line.number old coordinator worker rounds answer new one line.not_refused)
