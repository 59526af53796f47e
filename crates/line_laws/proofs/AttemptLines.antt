-- The attempts that a worker runs after a line went on, or its claim began them.
use Rattle.std.proofs.Common.{◌≡◌, refl, sym, ◌∙◌, ap, subst, ℕ, ◌+◌, List, [], ◌∷◌, ◌++◌, cond, Bool, true, false, inl, inr, ◌⊎◌, Option, Some, None, length}
use Rattle.std.specs.Prelude.{⊤, codes, decimal, is_some, ◌==◌, ◌-◌, ◌&&◌, not, nat_lt, map, filter, find, flat_map}
use Rattle.std.specs.List.{AllByRecursion}
use Rattle.std.proofs.lemmas.Bool.Decides.{Decides-eqb}
use Rattle.std.proofs.lemmas.List.{append-nil}
use Rattle.row_model.specs.Ranges.{Range}
use Rattle.row_model.specs.Rows.{Row}
use Rattle.row_model.specs.Fold.{Operator}
use Rattle.fleet_model.specs.Nodes.{Tables}
use Rattle.fleet_model.specs.Jobs.{Job, Jobs, ids, contains, job_with}
use Rattle.fleet_model.specs.History.{Party, Writer, Submitter, Coordinator, Worker, Sweeper, Event, GetManifest, GetRecords, Claim, Start, Kill}
use Rattle.fleet_model.specs.Store.{Manifest, Records, Store, stored_jobs, jobs_in}
use Rattle.fleet_model.specs.Exchanges.{Plain, PutsRecords, after_answered, records_version}
use Rattle.fleet_model.specs.Invariants.AttemptsFit.{Extends}
use Rattle.fleet_model.specs.Sweeps.{pinned_tables}
use Rattle.fleet_model.specs.Work.Attempts.{ClaimInput}
use Rattle.fleet_model.specs.Work.Claims.{is_waiting, may_take, claimed_jobs, claimed_attempt}
use Rattle.fleet_model.specs.Work.Records.{jobs_after}
use Rattle.fleet_model.specs.Work.Parties.{Attempt, LiveWorker, LiveCoordinator, Parties, attempt_at, attempt_jobs, coordinator_with, worker_with, without_coordinator, without_worker, with_coordinator, with_worker, without_attempts, with_attempts, put_attempt, is_live}
use Rattle.fleet_model.specs.Work.PollStates.{PollState}
use Rattle.step_model.specs.Courses.Course.{Course, Ends, Calls, calls_each}
use Rattle.step_model.specs.Courses.Tries.{tries}
use Rattle.step_model.specs.Courses.StepEnds.{StepEnd, Reports}
use Rattle.step_model.specs.Entries.{last_name}
use Rattle.step_model.specs.Steps.ClaimSteps.{Claimed, at_moment, can_start, plan_of, starts_claimed, claim_of, claim_by, claim_try, claim}
use Rattle.step_model.specs.Steps.BeatSteps.{Beaten, heartbeat, release_all}
use Rattle.step_model.specs.Steps.OutputSteps.{noted_at, noting, output}
use Rattle.step_model.specs.Steps.FinishSteps.{finish}
use Rattle.step_model.specs.Steps.FlushSteps.{flush}
use Rattle.step_model.specs.Steps.SubmitSteps.{submit, submit_request}
use Rattle.step_model.specs.Steps.SweepSteps.{sweep}
use Rattle.step_model.specs.Steps.PollSteps.{poll, start}
use Rattle.step_laws.proofs.Elements.{IsIn, all_at, all_from, all_to, in_contains}
use Rattle.step_laws.proofs.Changed.{found_job}
use Rattle.step_laws.proofs.Polls.{in_map, from_map}
use Rattle.commit_laws.proofs.OtherJobs.{in_filtered}
use Rattle.course_laws.proofs.Beats.{found_attempt}
use Rattle.course_laws.proofs.Calls.{all_take, filtered}
use Rattle.worker_laws.proofs.OwnPuts.{ranges_extend}
use Rattle.script_model.specs.Script.{Line, Options, Clock, StartCoordinator, StartWorker, KillCoordinator, KillWorker, StopCoordinator, StopWorker, FlushRows, SubmitJob, SubmitDrain, SubmitFull, Poll, CommitOnly, ClaimJobs, Heartbeat, Output, FinishJob, SetFault, Sweep}
use Rattle.script_model.specs.States.{Inputs, State}
use Rattle.script_model.specs.Replies.{reply, ok, jobs_text, tables_text, claim_reply, beat_reply, output_reply, ranges_text, poll_reply, commit_reply}
use Rattle.script_model.specs.LineRuns.{LineEnd, LineCourse, run_line, only_replies, no_such_party, if_some, noted_line, line_end, step_parties}
use Rattle.script_model.specs.LineCourses.{prepared_state, course_of, attempt_numbered, job_at, range_at}
use Rattle.script_model.specs.Lines.Starts.{killed_first, start_notes, only_notes, release_named}
use Rattle.script_model.specs.Lines.Submits.{request_of}
use Rattle.script_model.specs.Lines.PollLines.{poll_ask}
use Rattle.script_model.specs.Lines.Sweeps.{by_number, sweep_line}
use Rattle.script_model.specs.Lines.WorkLines.{worker_options, parties_running, worker_line, without_attempt, output_asked, output_line, finish_asked, finish_line}
use Rattle.line_laws.specs.States.{StateKeeps}
use Rattle.line_laws.specs.Lines.ClaimLines.{taken_in}
use Rattle.line_laws.specs.Lines.ClaimSettings.{input_in, attempt_in}
use Rattle.line_laws.specs.Lines.CommittedTables.{after_output}
use Rattle.line_laws.specs.Lines.AttemptLines.{GoesOn, WasBegun, HasCome, WentOn, HasBegun, AttemptsGoOn}
use Rattle.line_laws.proofs.Parties.{found}
use Rattle.line_laws.proofs.WorkerLines.{is_worker, is_attempt}
use Rattle.line_laws.proofs.AloneEnds.{EndsSo, then_so, made_so, gets_so, put_so}
use Rattle.line_laws.proofs.StepRefusals.{FinishEnds, finish_so}
use Rattle.line_laws.proofs.RefusedLines.{worker_number, range_job, LineEnded, LineStruck, LineEnds, line_ended}
use Rattle.line_laws.proofs.NotedOutputs.{Outputs, output_left}
use Rattle.line_laws.proofs.BeatLines.{Beats, beat_left}

-- ---- attempts that go on

-- An attempt of a worker goes on as itself.
goes_self : (attempts : List Attempt) (a : Attempt) → attempt_at a.job attempts ≡ Some a → GoesOn attempts a
goes_self attempts a there = record { before = a; there = there; number = refl; sources = refl; context = record { settings = refl; ranges = ranges_extend a.context.ranges } }

noted_extends : (place table : ℕ) (ranges : List (Range × List ℕ)) → Extends ranges (noted_at place table ranges)
noted_extends place table [] = tt
noted_extends place table (r ∷ ranges) = by (place == 1) (noted_extends (place - 1) table ranges)
  where
    by : (b : Bool) → Extends ranges (noted_at (place - 1) table ranges) → Extends (r ∷ ranges) (cond b ((r.0, r.1 ++ table ∷ []) ∷ ranges) (r ∷ noted_at (place - 1) table ranges))
    by true rest = (refl, (table ∷ [], refl), ranges_extend ranges)
    by false rest = (refl, ([], append-nil r.1), rest)

-- An attempt goes on as one with a table more.
goes_noting : (attempts : List Attempt) (a : Attempt) (place table : ℕ) → attempt_at a.job attempts ≡ Some a → GoesOn attempts (noting place table a)
goes_noting attempts a place table there = record { before = a; there = there; number = refl; sources = refl; context = record { settings = refl; ranges = noted_extends place table a.context.ranges } }

-- These attempts of the worker go on, each as itself.
subset_goes : (w : LiveWorker) (some : List Attempt) → ((a : Attempt) → IsIn a w.attempts → attempt_at a.job w.attempts ≡ Some a) → ((a : Attempt) → IsIn a some → IsIn a w.attempts) → AllByRecursion (GoesOn w.attempts) some
subset_goes w some at among = all_from (GoesOn w.attempts) some (λ a there. goes_self w.attempts a (at a (among a there)))

-- An attempt among those after one was put is this one, or one of those before.
put_from : (x a : Attempt) (attempts : List Attempt) → IsIn x (put_attempt a attempts) → (a ≡ x) ⊎ IsIn x attempts
put_from x a [] (inl same) = inl same
put_from x a [] (inr there) = absurd there
put_from x a (b ∷ attempts) there = by (nat_lt a.job b.job) there (put_from x a attempts)
  where
    by : (c : Bool) → IsIn x (cond c (a ∷ b ∷ attempts) (b ∷ put_attempt a attempts)) → (IsIn x (put_attempt a attempts) → (a ≡ x) ⊎ IsIn x attempts) → (a ≡ x) ⊎ IsIn x (b ∷ attempts)
    by true (inl same) rest = inl same
    by true (inr there) rest = inr there
    by false (inl same) rest = inr (inl same)
    by false (inr there) rest = later (rest there)
      where
        later : (a ≡ x) ⊎ IsIn x attempts → (a ≡ x) ⊎ IsIn x (b ∷ attempts)
        later (inl same) = inl same
        later (inr one) = inr (inr one)

with_from : (x : Attempt) (new attempts : List Attempt) → IsIn x (with_attempts new attempts) → IsIn x new ⊎ IsIn x attempts
with_from x [] attempts there = inr there
with_from x (a ∷ new) attempts there = by (with_from x new (put_attempt a attempts) there)
  where
    put : (a ≡ x) ⊎ IsIn x attempts → IsIn x (a ∷ new) ⊎ IsIn x attempts
    put (inl same) = inl (inl same)
    put (inr one) = inr one

    by : IsIn x new ⊎ IsIn x (put_attempt a attempts) → IsIn x (a ∷ new) ⊎ IsIn x attempts
    by (inl one) = inl (inr one)
    by (inr one) = put (put_from x a attempts one)

-- ---- parties

-- What each attempt of this worker among these parties came from.
abbrev Fits : Line → ℕ → State → Parties → Type 0
Fits line n s parties = (v : LiveWorker) → worker_with n parties ≡ Some v → AllByRecursion (HasCome line n s) v.attempts

-- A worker that fits runs each job once.
pub own_attempts : (merge : Operator) (s : State) (k : StateKeeps merge s) (n : ℕ) (w : LiveWorker) → worker_with n s.parties ≡ Some w → (a : Attempt) → IsIn a w.attempts → attempt_at a.job w.attempts ≡ Some a
own_attempts merge s k n w live a there = found_attempt w.attempts a (is_worker merge s k n w live).holds.jobs_rise there

fits_same : (merge : Operator) (line : Line) (n : ℕ) (s : State) → StateKeeps merge s → (parties : Parties) → parties.workers ≡ s.parties.workers → Fits line n s parties
fits_same merge line n s k parties same v there =
    let live = ap (find (λ (w : LiveWorker). n == w.number)) (sym same) ∙ there in
    all_to (GoesOn v.attempts) (HasCome line n s) v.attempts (λ a one goes. WentOn v live goes) (subset_goes v v.attempts (own_attempts merge s k n v live) (λ a one. one))

-- A worker that is found among those without another one is found among all.
found_still : (n m : ℕ) (ws : List LiveWorker) (v : LiveWorker) → find (λ (w : LiveWorker). n == w.number) (filter (λ (w : LiveWorker). not (m == w.number)) ws) ≡ Some v → find (λ (w : LiveWorker). n == w.number) ws ≡ Some v
found_still n m [] v e = e
found_still n m (w ∷ ws) v e = by (m == w.number) refl (n == w.number) refl (found_still n m ws v) e
  where
    left : List LiveWorker
    left = filter (λ (w : LiveWorker). not (m == w.number)) ws

    never : m ≡ n → find (λ (w : LiveWorker). n == w.number) left ≡ Some v → ⊥
    never same e =
        let f = found (λ (w : LiveWorker). n == w.number) left v e in
        let g = all_at _ left v (filtered (λ (w : LiveWorker). not (m == w.number)) ws) f.there in
        let number : n ≡ v.number = (Decides-eqb n v.number).0 f.passes in
        absurd (cc (g.1, (Decides-eqb m v.number).1 (same ∙ number)))

    by : (b : Bool) → (m == w.number) ≡ b → (c : Bool) → (n == w.number) ≡ c → (find (λ (w : LiveWorker). n == w.number) left ≡ Some v → find (λ (w : LiveWorker). n == w.number) ws ≡ Some v)
        → find (λ (w : LiveWorker). n == w.number) (cond (not b) (w ∷ left) left) ≡ Some v → cond c (Some w) (find (λ (w : LiveWorker). n == w.number) ws) ≡ Some v
    by true f true g rest e = absurd (never ((Decides-eqb m w.number).0 f ∙ sym ((Decides-eqb n w.number).0 g)) e)
    by true f false g rest e = rest e
    by false f true g rest e = ap (λ (c : Bool). cond c (Some w) (find (λ (w : LiveWorker). n == w.number) left)) (sym g) ∙ e
    by false f false g rest e = rest (ap (λ (c : Bool). cond c (Some w) (find (λ (w : LiveWorker). n == w.number) left)) (sym g) ∙ e)

fits_without : (merge : Operator) (line : Line) (n m : ℕ) (s : State) → StateKeeps merge s → Fits line n s (without_worker m s.parties)
fits_without merge line n m s k v there = fits_same merge line n s k s.parties refl v (found_still n m s.parties.workers v there)

-- One more worker comes, with attempts that came so.
fits_with : (merge : Operator) (line : Line) (n : ℕ) (s : State) (w : LiveWorker) → StateKeeps merge s → (n ≡ w.number → AllByRecursion (HasCome line n s) w.attempts) → Fits line n s (with_worker w s.parties)
fits_with merge line n s w k own v there = by (n == w.number) refl there
  where
    by : (b : Bool) → (n == w.number) ≡ b → cond b (Some w) (find (λ (x : LiveWorker). n == x.number) (without_worker w.number s.parties).workers) ≡ Some v → AllByRecursion (HasCome line n s) v.attempts
    by true e is = let same : w ≡ v = cc is in subst (λ (x : LiveWorker). AllByRecursion (HasCome line n s) x.attempts) same (own ((Decides-eqb n w.number).0 e))
    by false e is = fits_without merge line n w.number s k v is

-- A worker goes on with these attempts.
fits_running : (merge : Operator) (line : Line) (n m : ℕ) (s : State) (w : LiveWorker) (attempts : List Attempt) → StateKeeps merge s → worker_with m s.parties ≡ Some w → (worker_with n s.parties ≡ Some w → m ≡ n → AllByRecursion (HasCome line n s) attempts)
    → Fits line n s (parties_running w s attempts)
fits_running merge line n m s w attempts k live own =
    fits_with merge line n s (record w { attempts = attempts }) k (λ same. let number = worker_number m s w live in own (ap (λ (i : ℕ). worker_with i s.parties) (same ∙ sym number) ∙ live) (number ∙ sym same))

-- ---- lines

-- The parties after a line fit if those after a fault and those of its end do.
line_fits : (number : ℕ) (line : Line) (n : ℕ) (s : State) (c : LineCourse) (answer : List ℕ) (new : State) → EndsSo number c.party c.course s.store (λ end left. Fits line n s end.parties) → Fits line n s c.struck → run_line number s c ≡ (answer, new) → Fits line n s new.parties
line_fits number line n s c answer new so struck is = by (line_ended number s c (λ end left. Fits line n s end.parties) answer new so is)
  where
    by : LineEnded number s c (λ end left. Fits line n s end.parties) answer new → Fits line n s new.parties
    by (LineStruck printed store parties fault) = subst (Fits line n s) (sym parties) struck
    by (LineEnds end printed parties fits) = subst (Fits line n s) (sym parties) fits

-- The parties after a line of one step with notes.
step_fits : {A : Type 0} (number : ℕ) (line : Line) (n : ℕ) (s : State) (party : Party) (step : Course (StepEnd A)) (notes : StepEnd A → List Event) (spell : A → List ℕ) (reported : A → Parties) (refused struck : Parties) (P : StepEnd A → Store → Type 0) (answer : List ℕ) (new : State)
    → EndsSo number party step s.store P → ((report : A) (left : Store) → P (Reports report) left → Fits line n s (reported report)) → Fits line n s refused → Fits line n s struck → run_line number s (noted_line party step notes (line_end spell reported refused) struck) ≡ (answer, new)
    → Fits line n s new.parties
step_fits {A} number line n s party step notes spell reported refused struck P answer new so given back gone is =
    line_fits number line n s (noted_line party step notes ends struck) answer new
    (then_so number party step (λ end. calls_each (notes end) (Ends (ends end))) s.store P (λ end left. Fits line n s end.parties)
    (λ a left p. gets_so number party (notes a) (Ends (ends a)) left left (λ end left. Fits line n s end.parties) refl (λ last like. by a left p)) so) gone is
  where
    ends : StepEnd A → LineEnd
    ends = line_end spell reported refused

    by : (a : StepEnd A) (left : Store) → P a left → Fits line n s (step_parties reported refused a)
    by (Reports report) left p = given report left p
    by end left p = back

-- The parties after a line whose step changes no worker.
other_fits : {A : Type 0} (merge : Operator) (number : ℕ) (line : Line) (n : ℕ) (s : State) (party : Party) (step : Course (StepEnd A)) (notes : StepEnd A → List Event) (spell : A → List ℕ) (reported : A → Parties) (refused struck : Parties) (answer : List ℕ) (new : State) → StateKeeps merge s
    → ((report : A) → (reported report).workers ≡ s.parties.workers) → refused.workers ≡ s.parties.workers → struck.workers ≡ s.parties.workers → run_line number s (noted_line party step notes (line_end spell reported refused) struck) ≡ (answer, new) → Fits line n s new.parties
other_fits merge number line n s party step notes spell reported refused struck answer new k h back gone is =
    step_fits number line n s party step notes spell reported refused struck (λ end left. ⊤) answer new (made_so number party step s.store (λ end left. ⊤) (λ left. tt)) (λ report left p. fits_same merge line n s k (reported report) (h report))
    (fits_same merge line n s k refused back) (fits_same merge line n s k struck gone) is

reply_fits : (merge : Operator) (number : ℕ) (line : Line) (n : ℕ) (s : State) (said answer : List ℕ) (new : State) → StateKeeps merge s → run_line number s (only_replies s said) ≡ (answer, new) → Fits line n s new.parties
reply_fits merge number line n s said answer new k is = line_fits number line n s (only_replies s said) answer new (fits_same merge line n s k s.parties refl) (fits_same merge line n s k s.parties refl) is

note_fits : (merge : Operator) (number : ℕ) (line : Line) (n : ℕ) (s : State) (party : Party) (notes : List Event) (parties : Parties) (answer : List ℕ) (new : State) → StateKeeps merge s → Fits line n s parties → run_line number s (only_notes party notes s parties) ≡ (answer, new) → Fits line n s new.parties
note_fits merge number line n s party notes parties answer new k fits is =
    line_fits number line n s (only_notes party notes s parties) answer new (gets_so number party notes (Ends (record { reply = ok; parties = parties })) s.store s.store (λ end left. Fits line n s end.parties) refl (λ left like. fits)) (fits_same merge line n s k s.parties refl) is

-- ---- claims

-- The attempt is one that the worker ran, or its claim began it at a job that it took.
abbrev IsOld : State → LiveWorker → Attempt → Type 0
IsOld s w a = IsIn a w.attempts ⊎ ((job : Job) × IsIn job (taken_in s w) × (a ≡ attempt_in s w job))

abbrev Begins : State → LiveWorker → StepEnd Claimed → Store → Type 0
Begins s w (Reports report) left = AllByRecursion (IsOld s w) report.attempts
Begins s w end left = ⊤

left_old : (s : State) (w : LiveWorker) (stopped : List ℕ) → AllByRecursion (IsOld s w) (without_attempts stopped w.attempts)
left_old s w stopped = all_from (IsOld s w) (without_attempts stopped w.attempts) (λ a there. inl (in_filtered (λ (b : Attempt). not (contains stopped b.job)) w.attempts a there))

-- The attempts of a claim that starts some of the jobs that it took.
begun_old : (s : State) (w : LiveWorker) (stopped : List ℕ) (started : Jobs) → ((job : Job) → IsIn job started → IsIn job (taken_in s w)) → AllByRecursion (IsOld s w) (with_attempts (map (claimed_attempt (input_in s w)) started) (without_attempts stopped w.attempts))
begun_old s w stopped started among = all_from (IsOld s w) (with_attempts begun left) (λ a there. by a (with_from a begun left there))
  where
    begun : List Attempt
    begun = map (claimed_attempt (input_in s w)) started

    left : List Attempt
    left = without_attempts stopped w.attempts

    by : (a : Attempt) → IsIn a begun ⊎ IsIn a left → IsOld s w a
    by a (inl one) = let (job, (there, is)) = from_map (claimed_attempt (input_in s w)) started a one in inr (job, among job there, sym is)
    by a (inr one) = inl (in_filtered (λ (b : Attempt). not (contains stopped b.job)) w.attempts a one)

-- The end of a claim, after its put, under the manifest that is stored.
started_begins : (line : ℕ) (party : Party) (s : State) (w : LiveWorker) (input : ClaimInput) (jobs : Jobs) (stopped : List ℕ) (store : Store) → input ≡ input_in s w → jobs ≡ taken_in s w → EndsSo line party (starts_claimed input w jobs stopped) store (Begins s w)
started_begins line party s w input jobs stopped store same are =
    let started = filter (can_start input.manifest) jobs in
    let begun = map (claimed_attempt input) started in
    let report : Claimed = record { begun = begun; stopped = stopped; released = ids (filter (λ job. not (can_start input.manifest job)) jobs); attempts = with_attempts begun (without_attempts stopped w.attempts) } in
    gets_so line party (flat_map (plan_of input) started) (Ends (Reports report)) store store (Begins s w) refl (λ left like.
    subst (λ (i : ClaimInput). AllByRecursion (IsOld s w) (with_attempts (map (claimed_attempt i) started) (without_attempts stopped w.attempts))) (sym same)
    (begun_old s w stopped started (λ job there. subst (IsIn job) are (in_filtered (can_start input.manifest) jobs job there))))

-- A put of the records leaves manifest and tables.
put_stays : (b : Bool) (store put : Store) → put.manifest ≡ store.manifest → put.tables ≡ store.tables → ((cond b put store).manifest ≡ store.manifest) × ((cond b put store).tables ≡ store.tables)
put_stays true store put m t = (m, t)
put_stays false store put m t = (refl, refl)

-- A claim of these jobs begins attempts at them alone, and keeps the other ones of the worker.
claim_of_begins : (line : ℕ) (party : Party) (s : State) (w : LiveWorker) (got : Records) (jobs : Jobs) (stopped : List ℕ) (again : ℕ → Course (StepEnd Claimed)) (store : Store) → store.manifest ≡ s.store.manifest → store.tables ≡ s.store.tables → store.records ≡ Some got → jobs ≡ taken_in s w
    → EndsSo line party (claim_of (worker_options s.options) s.moment w got jobs stopped again) store (Begins s w)
claim_of_begins line party s w got [] stopped again store m t stored are = left_old s w stopped
claim_of_begins line party s w got (job ∷ jobs) stopped again store m t stored are =
    let these = job ∷ jobs in
    let change = Claim w.number (map (λ (j : Job). (j.id, j.attempt + 1)) these) in
    let put = jobs_after (at_moment s.moment) change got.jobs in
    let input : Manifest → Tables → ClaimInput = λ manifest tables. record { release = w.release; manifest = manifest; moment = s.moment; retention = s.options.retention; most = s.options.ranges; tables = tables } in
    let begin : Store → Course (StepEnd Claimed) = λ met. starts_claimed (input met.manifest met.tables) w these stopped in
    let left = after_answered line party (PutsRecords got.version change got.epoch put) store in
    let stay = put_stays (got.version == records_version store.records) store (record store { records = Some (record { version = got.version + 1; epoch = got.epoch; jobs = put }) }) refl refl in
    put_so line party got change got.epoch put (Calls (Plain GetManifest) begin) again store (Begins s w) stored
    (started_begins line party s w (input left.manifest left.tables) these stopped (after_answered line party (Plain GetManifest) left)
    (ap (λ (manifest : Manifest). input manifest left.tables) (stay.0 ∙ m) ∙ ap (λ (tables : Tables). input s.store.manifest tables) (stay.1 ∙ t)) are)

-- So does a claim over what is stored.
claim_begins : (line : ℕ) (party : Party) (s : State) (w : LiveWorker) → EndsSo line party (claim (worker_options s.options) s.moment w) s.store (Begins s w)
unfolding claim
claim_begins line party s w = by s.store.records refl
  where
    again : ℕ → Course (StepEnd Claimed)
    again = tries (claim_try (worker_options s.options) s.moment w) 63

    got_now : Store
    got_now = after_answered line party (Plain GetRecords) s.store

    by : (o : Option Records) → s.store.records ≡ o → EndsSo line party (claim_by (worker_options s.options) s.moment w o again) got_now (Begins s w)
    by None e = all_from (IsOld s w) w.attempts (λ a there. inl there)
    by (Some got) e = claim_of_begins line party s w got (claimed_jobs s.options.slots w got.jobs) _ again got_now refl refl e (ap (λ (o : Option Records). claimed_jobs s.options.slots w (jobs_in o)) (sym e))

-- A job that a claim takes is stored.
taken_stored : (s : State) (w : LiveWorker) (job : Job) → IsIn job (taken_in s w) → IsIn job (stored_jobs s.store)
taken_stored s w job there =
    let test = λ (job : Job). is_waiting job && not (contains (attempt_jobs w.attempts) job.id) && may_take w.release job in
    all_at (λ (j : Job). IsIn j (stored_jobs s.store)) (taken_in s w) job
    (all_take _ (s.options.slots - length w.attempts) (filter test (stored_jobs s.store)) (all_to _ _ (filter test (stored_jobs s.store)) (λ j one h. h.0) (filtered test (stored_jobs s.store)))) there

-- The attempts of a claim came so.
old_came : (merge : Operator) (n m : ℕ) (s : State) (w : LiveWorker) (k : StateKeeps merge s) → worker_with n s.parties ≡ Some w → m ≡ n → (attempts : List Attempt) → AllByRecursion (IsOld s w) attempts → AllByRecursion (HasCome (ClaimJobs m) n s) attempts
old_came merge n m s w k live same attempts all = all_to (IsOld s w) (HasCome (ClaimJobs m) n s) attempts (λ a there is. by a is) all
  where
    begun : (a : Attempt) (job : Job) → IsIn job (taken_in s w) → a ≡ attempt_in s w job → WasBegun s w a
    begun a job there is = record {
      job = job;
      stored = ap (λ (b : Attempt). job_with b.job (stored_jobs s.store)) is ∙ found_job (stored_jobs s.store) job k.fleet.store.stored.sound.job_ids (taken_stored s w job there);
      taken = in_contains (ids (taken_in s w)) job.id (in_map (λ (j : Job). j.id) (taken_in s w) job there);
      is = is;
    }

    by : (a : Attempt) → IsOld s w a → HasCome (ClaimJobs m) n s a
    by a (inl there) = WentOn w live (goes_self w.attempts a (own_attempts merge s k n w live a there))
    by a (inr (job, there, is)) = HasBegun w live (ap ClaimJobs same) (begun a job there is)

-- ---- lines of workers

-- A worker goes on with attempts that go on.
goes_come : (line : Line) (n : ℕ) (s : State) (w : LiveWorker) → worker_with n s.parties ≡ Some w → (attempts : List Attempt) → AllByRecursion (GoesOn w.attempts) attempts → AllByRecursion (HasCome line n s) attempts
goes_come line n s w live attempts all = all_to (GoesOn w.attempts) (HasCome line n s) attempts (λ a there goes. WentOn w live goes) all

-- Some of the attempts of a worker.
some_goes : (merge : Operator) (s : State) (k : StateKeeps merge s) (m : ℕ) (w : LiveWorker) → worker_with m s.parties ≡ Some w → (test : Attempt → Bool) → AllByRecursion (GoesOn w.attempts) (filter test w.attempts)
some_goes merge s k m w live test = subset_goes w (filter test w.attempts) (own_attempts merge s k m w live) (λ a there. in_filtered test w.attempts a there)

all_goes : (merge : Operator) (s : State) (k : StateKeeps merge s) (m : ℕ) (w : LiveWorker) → worker_with m s.parties ≡ Some w → AllByRecursion (GoesOn w.attempts) w.attempts
all_goes merge s k m w live = subset_goes w w.attempts (own_attempts merge s k m w live) (λ a there. there)

-- The parties after a line of a worker whose step reports attempts that go on.
work_fits : {A : Type 0} (merge : Operator) (number : ℕ) (line : Line) (n m : ℕ) (s : State) (k : StateKeeps merge s) (w : LiveWorker) (step : Course (StepEnd A)) (spell : A → List ℕ) (reported : A → List Attempt) (refused : List Attempt) (P : StepEnd A → Store → Type 0) (answer : List ℕ) (new : State)
    → worker_with m s.parties ≡ Some w → EndsSo number (Worker w.number) step s.store P → ((report : A) (left : Store) → P (Reports report) left → AllByRecursion (GoesOn w.attempts) (reported report)) → AllByRecursion (GoesOn w.attempts) refused
    → run_line number s (worker_line w s step spell reported refused) ≡ (answer, new) → Fits line n s new.parties
work_fits merge number line n m s k w step spell reported refused P answer new live so given back is =
    step_fits number line n s (Worker w.number) step (λ end. []) spell (λ report. parties_running w s (reported report)) (parties_running w s refused) (without_worker w.number s.parties) P answer new so
    (λ report left p. fits_running merge line n m s w (reported report) k live (λ there same. goes_come line n s w there (reported report) (given report left p)))
    (fits_running merge line n m s w refused k live (λ there same. goes_come line n s w there refused back)) (fits_without merge line n w.number s k) is

claim_fits : (merge : Operator) (number n m : ℕ) (s : State) (k : StateKeeps merge s) (answer : List ℕ) (new : State) (o : Option LiveWorker) → worker_with m s.parties ≡ o
    → run_line number s (if_some o (no_such_party s) (λ w. worker_line w s (claim (worker_options s.options) s.moment w) (λ r. claim_reply r.begun r.stopped) (λ r. r.attempts) w.attempts)) ≡ (answer, new) → Fits (ClaimJobs m) n s new.parties
claim_fits merge number n m s k answer new None live is = reply_fits merge number (ClaimJobs m) n s _ answer new k is
claim_fits merge number n m s k answer new (Some w) live is =
    step_fits number (ClaimJobs m) n s (Worker w.number) (claim (worker_options s.options) s.moment w) (λ end. []) (λ r. claim_reply r.begun r.stopped) (λ r. parties_running w s r.attempts) (parties_running w s w.attempts) (without_worker w.number s.parties) (Begins s w) answer new
    (claim_begins number (Worker w.number) s w)
    (λ report left p. fits_running merge (ClaimJobs m) n m s w report.attempts k live (λ there same. old_came merge n m s w k there same report.attempts p))
    (fits_running merge (ClaimJobs m) n m s w w.attempts k live (λ there same. goes_come (ClaimJobs m) n s w there w.attempts (all_goes merge s k m w live))) (fits_without merge (ClaimJobs m) n w.number s k) is

beat_fits : (merge : Operator) (number n m : ℕ) (s : State) (k : StateKeeps merge s) (answer : List ℕ) (new : State) (o : Option LiveWorker) → worker_with m s.parties ≡ o
    → run_line number s (if_some o (no_such_party s) (λ w. worker_line w s (heartbeat s.moment w) (λ r. beat_reply r.beat r.not_owner) (λ r. r.attempts) w.attempts)) ≡ (answer, new) → Fits (Heartbeat m) n s new.parties
beat_fits merge number n m s k answer new None live is = reply_fits merge number (Heartbeat m) n s _ answer new k is
beat_fits merge number n m s k answer new (Some w) live is =
    work_fits merge number (Heartbeat m) n m s k w (heartbeat s.moment w) (λ r. beat_reply r.beat r.not_owner) (λ r. r.attempts) w.attempts (Beats s.moment w s.store) answer new live (beat_left number (Worker w.number) s.moment w s.store)
    (λ report left p. subst (λ (r : Beaten). AllByRecursion (GoesOn w.attempts) r.attempts) (sym p.is) (some_goes merge s k m w live (is_live (stored_jobs s.store) w.number))) (all_goes merge s k m w live) is

-- The worker that runs an attempt is live.
job_worker : (s : State) (n job : ℕ) (p : LiveWorker × Attempt) → job_at s n job ≡ Some p → worker_with n s.parties ≡ Some p.0
job_worker s n job p e = by (worker_with n s.parties) e
  where
    inner : (w : LiveWorker) (o : Option Attempt) → if_some o None (λ a. Some (w, a)) ≡ Some p → Some w ≡ Some p.0
    inner w None e = absurd (cc e)
    inner w (Some a) e = let pair : (w, a) ≡ p = cc e in ap (λ (q : LiveWorker × Attempt). Some q.0) pair

    by : (o : Option LiveWorker) → if_some o None (λ w. if_some (attempt_numbered job w.attempts) None (λ a. Some (w, a))) ≡ Some p → o ≡ Some p.0
    by None e = absurd (cc e)
    by (Some w) e = inner w (attempt_numbered job w.attempts) e

-- The attempts after an output.
output_goes : (merge : Operator) (s : State) (k : StateKeeps merge s) (n job : ℕ) (p : LiveWorker × Attempt) (place : ℕ) (table : Option (ℕ × List Row)) → job_at s n job ≡ Some p → AllByRecursion (GoesOn p.0.attempts) (after_output place table p.1 p.0.attempts)
output_goes merge s k n job p place None live = all_goes merge s k n p.0 (job_worker s n job p live)
output_goes merge s k n job p place (Some table) live =
    let w = p.0 in
    let a = p.1 in
    let others = without_attempts (a.job ∷ []) w.attempts in
    all_from (GoesOn w.attempts) (put_attempt (noting place table.0 a) others) (λ b there. by b (put_from b (noting place table.0 a) others there))
  where
    by : (b : Attempt) → (noting place table.0 p.1 ≡ b) ⊎ IsIn b (without_attempts (p.1.job ∷ []) p.0.attempts) → GoesOn p.0.attempts b
    by b (inl same) = subst (GoesOn p.0.attempts) same (goes_noting p.0.attempts p.1 place table.0 (is_attempt merge s k n job p live).runs)
    by b (inr there) = goes_self p.0.attempts b (own_attempts merge s k n p.0 (job_worker s n job p live) b (in_filtered (λ (c : Attempt). not (contains (p.1.job ∷ []) c.job)) p.0.attempts b there))

-- After an output, each attempt that a worker runs went on.
output_fits : (inputs : Inputs) (number n m job place rows : ℕ) (refusal : Option (List ℕ)) (s : State) (k : StateKeeps inputs.merge s) (answer : List ℕ) (new : State) (o : Option (LiveWorker × Attempt × (Range × List ℕ))) → range_at s m job place ≡ o
    → run_line number s (if_some o (no_such_party s) (λ found. output_line inputs s (output_asked s place rows refusal found))) ≡ (answer, new) → Fits (Output m job place rows) n s new.parties
output_fits inputs number n m job place rows refusal s k answer new None e is = reply_fits inputs.merge number (Output m job place rows) n s _ answer new k is
output_fits inputs number n m job place rows refusal s k answer new (Some q) e is =
    let w = q.0 in
    let a = q.1 in
    let ran = range_job s m job place q e in
    let live = job_worker s m job (w, a) ran in
    let ask = output_asked s place rows refusal q in
    work_fits inputs.merge number (Output m job place rows) n m s k w (output inputs.merge s.store.tables ask) (λ r. output_reply r.table) (λ r. r.attempts) (without_attempt w a) (Outputs inputs.merge s.store.tables ask s.store) answer new live (output_left number (Worker w.number) inputs.merge s.store.tables ask s.store)
    (λ report left p. subst (AllByRecursion (GoesOn w.attempts)) (sym p.attempts) (output_goes inputs.merge s k m job (w, a) place report.table ran)) (some_goes inputs.merge s k m w live (λ (b : Attempt). not (contains (a.job ∷ []) b.job))) is

-- So it is after a finish.
finish_fits : (inputs : Inputs) (number n m job : ℕ) (refusal : Option (List ℕ)) (s : State) (k : StateKeeps inputs.merge s) (answer : List ℕ) (new : State) (o : Option (LiveWorker × Attempt)) → job_at s m job ≡ o
    → run_line number s (if_some o (no_such_party s) (λ found. finish_line inputs s (finish_asked s refusal found))) ≡ (answer, new) → Fits (FinishJob m job) n s new.parties
finish_fits inputs number n m job refusal s k answer new None e is = reply_fits inputs.merge number (FinishJob m job) n s _ answer new k is
finish_fits inputs number n m job refusal s k answer new (Some p) e is =
    let w = p.0 in
    let a = p.1 in
    let live = job_worker s m job p e in
    let ask = finish_asked s refusal p in
    let left = some_goes inputs.merge s k m w live (λ (b : Attempt). not (contains (a.job ∷ []) b.job)) in
    work_fits inputs.merge number (FinishJob m job) n m s k w (finish inputs.merge s.store.tables ask) (λ r. reply (codes "ok" ∷ ranges_text r.outputs ∷ [])) (λ r. r.attempts) (without_attempt w a) (FinishEnds w a s.store) answer new live (finish_so number (Worker w.number) inputs.merge s.store.tables ask s.store)
    (λ report last same. subst (AllByRecursion (GoesOn w.attempts)) (sym same) left) left is

stop_fits : (merge : Operator) (number n m : ℕ) (s : State) (k : StateKeeps merge s) (answer : List ℕ) (new : State) (o : Option LiveWorker)
    → let others = without_worker m s.parties in
    run_line number s (if_some o (no_such_party s) (λ w. noted_line (Worker m) (release_all w) (λ end. Kill (Worker m) ∷ []) (line_end (λ jobs. reply (codes "ok" ∷ codes "released" ∷ jobs_text jobs ∷ [])) (λ jobs. others) others) others)) ≡ (answer, new) → Fits (StopWorker m) n s new.parties
stop_fits merge number n m s k answer new None is = reply_fits merge number (StopWorker m) n s _ answer new k is
stop_fits merge number n m s k answer new (Some w) is =
    let gone = fits_without merge (StopWorker m) n m s k in
    step_fits number (StopWorker m) n s (Worker m) (release_all w) (λ end. Kill (Worker m) ∷ []) (λ jobs. reply (codes "ok" ∷ codes "released" ∷ jobs_text jobs ∷ [])) (λ jobs. without_worker m s.parties) (without_worker m s.parties) (without_worker m s.parties) (λ end left. ⊤) answer new
    (made_so number (Worker m) (release_all w) s.store (λ end left. ⊤) (λ left. tt)) (λ report left p. gone) gone gone is

-- ---- lines of other parties

kill_fits : (merge : Operator) (number n m : ℕ) (s : State) (k : StateKeeps merge s) (answer : List ℕ) (new : State) (o : Option LiveWorker) → run_line number s (if_some o (no_such_party s) (λ w. only_notes (Worker m) (Kill (Worker m) ∷ []) s (without_worker m s.parties))) ≡ (answer, new) → Fits (KillWorker m) n s new.parties
kill_fits merge number n m s k answer new None is = reply_fits merge number (KillWorker m) n s _ answer new k is
kill_fits merge number n m s k answer new (Some w) is = note_fits merge number (KillWorker m) n s (Worker m) (Kill (Worker m) ∷ []) (without_worker m s.parties) answer new k (fits_without merge (KillWorker m) n m s k) is

end_fits : (merge : Operator) (number : ℕ) (line : Line) (n m : ℕ) (s : State) (k : StateKeeps merge s) (answer : List ℕ) (new : State) (o : Option LiveCoordinator) → run_line number s (if_some o (no_such_party s) (λ c. only_notes (Coordinator m) (Kill (Coordinator m) ∷ []) s (without_coordinator m s.parties))) ≡ (answer, new)
    → Fits line n s new.parties
end_fits merge number line n m s k answer new None is = reply_fits merge number line n s _ answer new k is
end_fits merge number line n m s k answer new (Some c) is = note_fits merge number line n s (Coordinator m) (Kill (Coordinator m) ∷ []) (without_coordinator m s.parties) answer new k (fits_same merge line n s k (without_coordinator m s.parties) refl) is

poll_fits : (inputs : Inputs) (number : ℕ) (line : Line) (commits_only : Bool) (spell : PollState → List ℕ) (n m : ℕ) (s : State) (k : StateKeeps inputs.merge s) (answer : List ℕ) (new : State) (o : Option LiveCoordinator)
    → let gone = without_coordinator m s.parties in
    run_line number s (if_some o (no_such_party s) (λ c. noted_line (Coordinator m) (poll (poll_ask inputs s c commits_only)) (λ end. []) (line_end spell (λ reached. s.parties) gone) gone)) ≡ (answer, new) → Fits line n s new.parties
poll_fits inputs number line commits_only spell n m s k answer new None is = reply_fits inputs.merge number line n s _ answer new k is
poll_fits inputs number line commits_only spell n m s k answer new (Some c) is =
    other_fits inputs.merge number line n s (Coordinator m) (poll (poll_ask inputs s c commits_only)) (λ end. []) spell (λ reached. s.parties) (without_coordinator m s.parties) (without_coordinator m s.parties) answer new k (λ report. refl) refl refl is

sweep_fits : (merge : Operator) (number n : ℕ) (s : State) (k : StateKeeps merge s) (answer : List ℕ) (new : State) → run_line number s (sweep_line s) ≡ (answer, new) → Fits Sweep n s new.parties
sweep_fits merge number n s k answer new is =
    line_fits number Sweep n s (sweep_line s) answer new
    (then_so number Sweeper (sweep (pinned_tables s.parties)) (λ tables. Ends (record { reply = reply (codes "ok" ∷ tables_text (by_number tables) ∷ []); parties = s.parties })) s.store (λ tables left. ⊤) (λ end left. Fits Sweep n s end.parties) (λ tables left p. fits_same merge Sweep n s k s.parties refl)
    (made_so number Sweeper (sweep (pinned_tables s.parties)) s.store (λ tables left. ⊤) (λ left. tt))) (fits_same merge Sweep n s k s.parties refl) is

-- ---- all lines

-- A line that only replies, over a state with the same parties.
said_fits : (merge : Operator) (line : Line) (n : ℕ) (old : State) (k : StateKeeps merge old) (number : ℕ) (s : State) (said answer : List ℕ) (new : State) → s.parties ≡ old.parties → run_line number s (only_replies s said) ≡ (answer, new) → Fits line n old new.parties
said_fits merge line n old k number s said answer new same is = subst (Fits line n old) (sym same ∙ ap (λ (p : List ℕ × State). p.1.parties) is) (fits_same merge line n old k old.parties refl)

-- After the course of each line, each attempt that a worker runs went on, or the worker's claim began it.
course_fits : (inputs : Inputs) (number : ℕ) (line : Line) (n : ℕ) (refusal : Option (List ℕ)) (old : State) (k : StateKeeps inputs.merge old) (answer : List ℕ) (new : State)
    → let s = prepared_state line old in run_line number s (course_of inputs line refusal s) ≡ (answer, new) → Fits line n old new.parties
unfolding course_of
course_fits inputs number (Options timeout concurrent slots ranges table_size moves retention) n refusal old k answer new is = said_fits inputs.merge _ n old k number _ ok answer new refl is
course_fits inputs number (Clock moment) n refusal old k answer new is = said_fits inputs.merge _ n old k number _ ok answer new refl is
course_fits inputs number (SetFault at stands) n refusal old k answer new is = said_fits inputs.merge _ n old k number _ ok answer new refl is
course_fits inputs number (StartCoordinator m) n refusal s k answer new is =
    other_fits inputs.merge number (StartCoordinator m) n s (Coordinator m) (calls_each (killed_first (is_some (coordinator_with m s.parties)) (Coordinator m)) start) (start_notes m) (λ epoch. reply (codes "ok" ∷ codes "epoch" ∷ decimal epoch ∷ []))
    (λ epoch. with_coordinator (record { number = m; epoch = epoch }) s.parties) (without_coordinator m s.parties) (without_coordinator m s.parties) answer new k (λ report. refl) refl refl is
course_fits inputs number (StartWorker m release) n refusal s k answer new is =
    let w : LiveWorker = record { number = m; release = release_named release; attempts = [] } in
    note_fits inputs.merge number (StartWorker m release) n s (Worker m) (killed_first (is_some (worker_with m s.parties)) (Worker m) ++ Start (Worker m) ∷ []) (with_worker w s.parties) answer new k (fits_with inputs.merge (StartWorker m release) n s w k (λ same. tt)) is
course_fits inputs number (KillCoordinator m) n refusal s k answer new is = end_fits inputs.merge number (KillCoordinator m) n m s k answer new (coordinator_with m s.parties) is
course_fits inputs number (KillWorker m) n refusal s k answer new is = kill_fits inputs.merge number n m s k answer new (worker_with m s.parties) is
course_fits inputs number (StopCoordinator m) n refusal s k answer new is = end_fits inputs.merge number (StopCoordinator m) n m s k answer new (coordinator_with m s.parties) is
course_fits inputs number (StopWorker m) n refusal s k answer new is = stop_fits inputs.merge number n m s k answer new (worker_with m s.parties) is
course_fits inputs number (FlushRows name segment floor tick rows) n refusal s k answer new is =
    other_fits inputs.merge number (FlushRows name segment floor tick rows) n s Writer (flush s.moment s.options.retention (last_name s.store.history) (record { name = name; segment = segment; floor = floor; tick = tick; rows = rows })) (λ end. []) (λ done. ok) (λ done. s.parties) s.parties s.parties answer new k (λ report. refl) refl refl is
course_fits inputs number (SubmitJob segment destination sources) n refusal s k answer new is =
    other_fits inputs.merge number (SubmitJob segment destination sources) n s Submitter (submit s.moment (record { segment = segment; sources = sources; destination = Some destination } ∷ [])) (λ end. []) (λ jobs. reply (codes "ok" ∷ codes "job" ∷ jobs_text jobs ∷ [])) (λ jobs. s.parties) s.parties s.parties answer new k (λ report. refl) refl refl is
course_fits inputs number (SubmitDrain segment sources) n refusal s k answer new is =
    other_fits inputs.merge number (SubmitDrain segment sources) n s Submitter (submit s.moment (record { segment = segment; sources = sources; destination = None } ∷ [])) (λ end. []) (λ jobs. reply (codes "ok" ∷ codes "job" ∷ jobs_text jobs ∷ [])) (λ jobs. s.parties) s.parties s.parties answer new k (λ report. refl) refl refl is
course_fits inputs number (SubmitFull segment) n refusal s k answer new is =
    other_fits inputs.merge number (SubmitFull segment) n s Submitter (submit_request s.moment inputs.scheduler (request_of segment)) (λ end. []) (λ jobs. reply (codes "ok" ∷ codes "jobs" ∷ jobs_text jobs ∷ [])) (λ jobs. s.parties) s.parties s.parties answer new k (λ report. refl) refl refl is
course_fits inputs number (Poll m) n refusal s k answer new is = poll_fits inputs number (Poll m) false poll_reply n m s k answer new (coordinator_with m s.parties) is
course_fits inputs number (CommitOnly m) n refusal s k answer new is = poll_fits inputs number (CommitOnly m) true commit_reply n m s k answer new (coordinator_with m s.parties) is
course_fits inputs number (ClaimJobs m) n refusal s k answer new is = claim_fits inputs.merge number n m s k answer new (worker_with m s.parties) refl is
course_fits inputs number (Heartbeat m) n refusal s k answer new is = beat_fits inputs.merge number n m s k answer new (worker_with m s.parties) refl is
course_fits inputs number (Output m job place rows) n refusal s k answer new is = output_fits inputs number n m job place rows refusal s k answer new (range_at s m job place) refl is
course_fits inputs number (FinishJob m job) n refusal s k answer new is = finish_fits inputs number n m job refusal s k answer new (job_at s m job) refl is
course_fits inputs number Sweep n refusal s k answer new is = sweep_fits inputs.merge number n s k answer new is
course_fits inputs number line n refusal old k answer new is = said_fits inputs.merge line n old k number (prepared_state line old) _ answer new refl is

pub attempts_go_on : AttemptsGoOn
attempts_go_on inputs old new line answer c n =
    let s = prepared_state line old in
    course_fits inputs c.number line n c.course.does.refusal old c.keeps answer new (ap (run_line c.number s) (sym c.course.does.is) ∙ c.course.ends)
