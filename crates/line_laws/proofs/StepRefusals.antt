-- How each step ends that nobody disturbs: it reports, or it is refused as its kind may be. It never gives up.
use Rattle.std.proofs.Common.{◌≡◌, refl, sym, ◌∙◌, ap, subst, ℕ, List, [], ◌∷◌, ◌++◌, cond, Bool, true, false, Option, Some, None}
use Rattle.std.specs.Prelude.{◌==◌, ⊤, not, nat_lt, map, filter, flat_map}
use Rattle.std.proofs.lemmas.List.{append-nil, append_assoc}
use Rattle.row_model.specs.Rows.{Row}
use Rattle.row_model.specs.Fold.{Operator}
use Rattle.fleet_model.specs.Nodes.{Tables}
use Rattle.fleet_model.specs.Jobs.{JobSpec, Jobs, ids}
use Rattle.fleet_model.specs.History.{Party, Coordinator, Event, GetManifest, GetRecords, ManifestChange, Release, Flush}
use Rattle.fleet_model.specs.Store.{Manifest, Records, Store, stored_jobs, jobs_in}
use Rattle.fleet_model.specs.Exchanges.{Plain, PutsRecords, DrawsTable, PutsTable, PutsManifest, after_answered, next_table_id}
use Rattle.fleet_model.specs.Work.Attempts.{ClaimInput}
use Rattle.fleet_model.specs.Work.Parties.{Attempt, LiveWorker, live_attempts, is_live, with_attempts, without_attempts}
use Rattle.fleet_model.specs.Work.PollStates.{PollState}
use Rattle.fleet_model.specs.Work.Records.{jobs_after}
use Rattle.fleet_model.specs.Work.Claims.{claimed_jobs, claimed_attempt}
use Rattle.fleet_model.specs.Work.Gates.{is_nonempty}
use Rattle.fleet_model.specs.Work.Scheduler.{Scheduler, Request, Generated, Specs, shown_view}
use Rattle.fleet_model.specs.Work.Scheduler as scheduler
use Rattle.step_model.specs.Courses.Course.{Course, Ends, Calls, puts_tables, puts_ranges}
use Rattle.step_model.specs.Courses.Tries.{tries, counted_tries}
use Rattle.step_model.specs.Courses.StepEnds.{StepEnd, Reports, Fenced, NotOwner, NoRecords, Invalid, Declined, OperatorRefuses, BadFlush, FlushFault}
use Rattle.step_model.specs.Steps.ClaimSteps.{WorkerOptions, Claimed, at_moment, can_start, plan_of, starts_claimed, claim_of, claim_by, claim_try, claim}
use Rattle.step_model.specs.Steps.BeatSteps.{Beaten, beat_report, beat_of, beat_by, beat_try, heartbeat, release_live, release_by, release_try, release_all}
use Rattle.step_model.specs.Steps.OutputSteps.{OutputAsk, Written, meets, gets_tables, unless_refused, gives_back, rows_written, writes, output}
use Rattle.step_model.specs.Steps.FinishSteps.{FinishAsk, FinishedJob, all_outputs, ends_job, ends_job_by, end_try, end_job, tables_left, puts_and_ends, finish}
use Rattle.step_model.specs.Steps.FlushSteps.{FlushAsk, fault_before_get, fault_after_get, unless_bad, flushes_from, flush, with_flush}
use Rattle.step_model.specs.Steps.SubmitSteps.{submits_drawn, submits_specs, submit_by, submit_try, submit, submits_generated, request_by, request_try, submit_request}
use Rattle.step_model.specs.Steps.PollSteps.{PollAsk, poll, poll_try, polls_over, unless_fenced, records_or_none, start, epoch_above}
use Rattle.step_laws.proofs.Elements.{is_itself}
use Rattle.line_laws.specs.Faults.{answer_made}
use Rattle.line_laws.specs.Lines.Refused.{IsAsBefore, given_back, IsGivenBack, HasPutTables}
use Rattle.line_laws.specs.Lines.PollCalls.{reached_at}
use Rattle.line_laws.proofs.PollCalls.{poll_made}
use Rattle.line_laws.proofs.StartCalls.{start_made}
use Rattle.line_laws.proofs.AloneEnds.{EndsSo, made_so, IsLike, like_got, gets_so, before_got, before_itself, put_so, put_left, draws_so}

-- ---- how steps end

-- The step reports.
abbrev pub Reported : {A : Type 0} → StepEnd A → Store → Type 0
Reported (Reports report) left = ⊤
Reported end left = ⊥

-- It reports, or it is a flush with a fault.
abbrev pub FlushEnds : Store → StepEnd ⊤ → Store → Type 0
FlushEnds old (Reports report) left = ⊤
FlushEnds old (BadFlush fault) left = IsAsBefore old left
FlushEnds old end left = ⊥

-- It reports, or there are no records.
abbrev pub SubmitEnds : {A : Type 0} → Store → StepEnd A → Store → Type 0
SubmitEnds old (Reports report) left = ⊤
SubmitEnds old NoRecords left = IsAsBefore old left
SubmitEnds old end left = ⊥

-- It reports, or there are no records, or the scheduler refuses the request.
abbrev pub RequestEnds : {A : Type 0} → Store → StepEnd A → Store → Type 0
RequestEnds old (Reports report) left = ⊤
RequestEnds old NoRecords left = IsAsBefore old left
RequestEnds old Invalid left = IsAsBefore old left
RequestEnds old (Declined message) left = IsAsBefore old left
RequestEnds old end left = ⊥

-- It reports, or it is fenced.
abbrev pub PollEnds : {A : Type 0} → Store → StepEnd A → Store → Type 0
PollEnds old (Reports report) left = ⊤
PollEnds old (Fenced stored) left = IsAsBefore old left
PollEnds old end left = ⊥

-- It reports, or the operator refuses a fold and the attempt is given back.
abbrev pub OutputEnds : {A : Type 0} → LiveWorker → Attempt → Store → StepEnd A → Store → Type 0
OutputEnds w a old (Reports report) left = ⊤
OutputEnds w a old (OperatorRefuses message) left = IsGivenBack w.number a old left
OutputEnds w a old end left = ⊥

-- It reports and runs the attempt no more, or the operator refuses a fold and the attempt is given back, or the attempt is
-- not live.
abbrev pub FinishEnds : LiveWorker → Attempt → Store → StepEnd FinishedJob → Store → Type 0
FinishEnds w a old (Reports report) left = report.attempts ≡ without_attempts (a.job ∷ []) w.attempts
FinishEnds w a old (OperatorRefuses message) left = IsGivenBack w.number a old left
FinishEnds w a old NotOwner left = (is_live (stored_jobs old) w.number a ≡ false) × HasPutTables old left
FinishEnds w a old end left = ⊥

-- ---- claims

-- The end of a claim, after its notes.
started_so : (line : ℕ) (party : Party) (input : ClaimInput) (w : LiveWorker) (jobs : Jobs) (stopped : List ℕ) (store : Store) → EndsSo line party (starts_claimed input w jobs stopped) store Reported
started_so line party input w jobs stopped store =
    let started = filter (can_start input.manifest) jobs in
    let begun = map (claimed_attempt input) started in
    let report : Claimed = record { begun = begun; stopped = stopped; released = ids (filter (λ job. not (can_start input.manifest job)) jobs); attempts = with_attempts begun (without_attempts stopped w.attempts) } in
    gets_so line party (flat_map (plan_of input) started) (Ends (Reports report)) store store (Reported {A = Claimed}) refl (λ left like. tt)

claim_of_so : (line : ℕ) (party : Party) (options : WorkerOptions) (moment : ℕ) (w : LiveWorker) (got : Records) (jobs : Jobs) (stopped : List ℕ) (again : ℕ → Course (StepEnd Claimed)) (store : Store) → store.records ≡ Some got
    → EndsSo line party (claim_of options moment w got jobs stopped again) store Reported
claim_of_so line party options moment w got [] stopped again store stored = tt
claim_of_so line party options moment w got (job ∷ jobs) stopped again store stored =
    put_so line party got _ got.epoch _ (Calls (Plain GetManifest) (λ met. starts_claimed (record { release = w.release; manifest = met.manifest; moment = moment; retention = options.retention; most = options.most_ranges; tables = met.tables }) w (job ∷ jobs) stopped)) again store Reported stored
    (started_so line party _ w (job ∷ jobs) stopped _)

pub claim_so : (line : ℕ) (party : Party) (options : WorkerOptions) (moment : ℕ) (w : LiveWorker) (store : Store) → EndsSo line party (claim options moment w) store Reported
unfolding claim
claim_so line party options moment w store = by store.records refl
  where
    again : ℕ → Course (StepEnd Claimed)
    again = tries (claim_try options moment w) 63

    by : (o : Option Records) → store.records ≡ o → EndsSo line party (claim_by options moment w o again) (after_answered line party (Plain GetRecords) store) Reported
    by None e = tt
    by (Some got) e = claim_of_so line party options moment w got (claimed_jobs options.slots w got.jobs) _ again (after_answered line party (Plain GetRecords) store) e

-- ---- heartbeats and releases

beat_of_so : (line : ℕ) (party : Party) (moment : ℕ) (w : LiveWorker) (got : Records) (live : List Attempt) (again : ℕ → Course (StepEnd Beaten)) (store : Store) → store.records ≡ Some got → EndsSo line party (beat_of moment w got live again) store Reported
beat_of_so line party moment w got [] again store stored = tt
beat_of_so line party moment w got (a ∷ live) again store stored = put_so line party got _ got.epoch _ _ again store Reported stored tt

-- A heartbeat that nobody disturbs reports.
pub beat_so : (line : ℕ) (party : Party) (moment : ℕ) (w : LiveWorker) (store : Store) → EndsSo line party (heartbeat moment w) store Reported
unfolding heartbeat
beat_so line party moment w store = either (is_nonempty w.attempts)
  where
    again : ℕ → Course (StepEnd Beaten)
    again = tries (beat_try moment w) 63

    by : (o : Option Records) → store.records ≡ o → EndsSo line party (beat_by moment w o again) (after_answered line party (Plain GetRecords) store) Reported
    by None e = tt
    by (Some got) e = beat_of_so line party moment w got (live_attempts got.jobs w) again (after_answered line party (Plain GetRecords) store) e

    either : (b : Bool) → EndsSo line party (cond b (tries (beat_try moment w) 64 0) (Ends (Reports (beat_report w [])))) store Reported
    either true = by store.records refl
    either false = tt

release_live_so : (line : ℕ) (party : Party) (w : LiveWorker) (got : Records) (live : List Attempt) (again : ℕ → Course (StepEnd (List ℕ))) (store : Store) → store.records ≡ Some got
    → EndsSo line party (release_live w got live (λ released. Ends (Reports released)) again) store Reported
release_live_so line party w got [] again store stored = tt
release_live_so line party w got (a ∷ live) again store stored = put_so line party got _ got.epoch _ _ again store Reported stored tt

-- A release of all attempts that nobody disturbs reports.
pub release_so : (line : ℕ) (party : Party) (w : LiveWorker) (store : Store) → EndsSo line party (release_all w) store Reported
unfolding release_all
release_so line party w store = either (is_nonempty w.attempts)
  where
    again : ℕ → Course (StepEnd (List ℕ))
    again = tries (release_try w w.attempts (λ released. Ends (Reports released))) 63

    by : (o : Option Records) → store.records ≡ o → EndsSo line party (release_by w w.attempts o (λ released. Ends (Reports released)) again) (after_answered line party (Plain GetRecords) store) Reported
    by None e = tt
    by (Some got) e = release_live_so line party w got (filter (is_live got.jobs w.number) w.attempts) again (after_answered line party (Plain GetRecords) store) e

    either : (b : Bool) → EndsSo line party (cond b (tries (release_try w w.attempts (λ released. Ends (Reports released))) 64 0) (Ends (Reports []))) store Reported
    either true = by store.records refl
    either false = tt

-- ---- attempts that are given back

-- The put of a release gives the attempt back, if it is live.
back_put : (line : ℕ) (party : Party) (w : LiveWorker) (a : Attempt) (got : Records) (old store : Store) → IsLike old store → store.records ≡ Some got → is_live got.jobs w.number a ≡ true
    → IsGivenBack w.number a old (after_answered line party (PutsRecords got.version (Release w.number ((a.job, a.number) ∷ [])) got.epoch (jobs_after (at_moment 0) (Release w.number ((a.job, a.number) ∷ [])) got.jobs)) store)
back_put line party w a got old store like stored live =
    let change = Release w.number ((a.job, a.number) ∷ []) in
    let left = put_left line party got change got.epoch (jobs_after (at_moment 0) change got.jobs) old store like stored in
    record {
      same = left.same;
      jobs = left.jobs ∙ ap (λ (b : Bool). cond b (jobs_after (at_moment 0) change got.jobs) got.jobs) (sym live) ∙ ap (λ (o : Option Records). given_back w.number a (jobs_in o)) (sym stored ∙ ap (λ (s : Store). s.records) like);
    }

-- The attempt is not live, so nothing is put.
back_none : (w : LiveWorker) (a : Attempt) (old left : Store) → IsLike old left → is_live (stored_jobs old) w.number a ≡ false → IsGivenBack w.number a old left
back_none w a old left like live = record {
  same = ap (λ (s : Store). record s { records = left.records; history = left.history }) like;
  jobs = ap (λ (s : Store). stored_jobs s) like ∙ ap (λ (b : Bool). cond b (jobs_after (at_moment 0) (Release w.number ((a.job, a.number) ∷ [])) (stored_jobs old)) (stored_jobs old)) (sym live);
}

-- A step that gives its attempt back ends with the message, and has given the attempt back.
pub back_so : {A : Type 0} (line : ℕ) (party : Party) (w : LiveWorker) (a : Attempt) (message : List ℕ) (old store : Store) (P : StepEnd A → Store → Type 0) → IsLike old store → ((left : Store) → IsGivenBack w.number a old left → P (OperatorRefuses message) left)
    → EndsSo line party (gives_back w a message) store P
back_so {A} line party w a message old store P like so = by store.records refl
  where
    refuses : List ℕ → Course (StepEnd A)
    refuses released = Ends (OperatorRefuses message)

    again : ℕ → Course (StepEnd A)
    again = tries (release_try w (a ∷ []) refuses) 63

    got_now : Store
    got_now = after_answered line party (Plain GetRecords) store

    now : IsLike old got_now
    now = like_got line party GetRecords old store like

    is_old : (o : Option Records) → store.records ≡ o → old.records ≡ o
    is_old o e = sym (ap (λ (s : Store). s.records) like) ∙ e

    of : (got : Records) → store.records ≡ Some got → (b : Bool) → is_live got.jobs w.number a ≡ b → EndsSo line party (release_live w got (cond b (a ∷ []) []) refuses again) got_now P
    of got e true live = put_so line party got _ got.epoch _ (refuses (a.job ∷ [])) again got_now P e (so _ (back_put line party w a got old got_now now e live))
    of got e false live = so got_now (back_none w a old got_now now (ap (λ (o : Option Records). is_live (jobs_in o) w.number a) (is_old (Some got) e) ∙ live))

    by : (o : Option Records) → store.records ≡ o → EndsSo line party (release_by w (a ∷ []) o refuses again) got_now P
    by None e = so got_now (back_none w a old got_now now (ap (λ (o : Option Records). is_live (jobs_in o) w.number a) (is_old None e)))
    by (Some got) e = of got e (is_live got.jobs w.number a) refl

-- ---- outputs

writes_so : (line : ℕ) (party : Party) (ask : OutputAsk) (rows : List Row) (old store : Store) → EndsSo line party (writes ask rows) store (OutputEnds ask.worker ask.attempt old)
writes_so line party ask [] old store = tt
writes_so line party ask (r ∷ rows) old store = tt

pub output_so : (line : ℕ) (party : Party) (merge : Operator) (tables : Tables) (ask : OutputAsk) (store : Store) → EndsSo line party (output merge tables ask) store (OutputEnds ask.worker ask.attempt store)
unfolding output
output_so line party merge tables ask store = gets_so line party (gets_tables (filter (meets tables ask.range.0) ask.attempt.sources)) (unless_refused ask.worker ask.attempt ask.refusal (writes ask (rows_written merge tables ask))) store store (OutputEnds {A = Written} ask.worker ask.attempt store) refl (λ left like. by ask.refusal left like)
  where
    by : (o : Option (List ℕ)) (left : Store) → IsLike store left → EndsSo line party (unless_refused ask.worker ask.attempt o (writes ask (rows_written merge tables ask))) left (OutputEnds ask.worker ask.attempt store)
    by None left like = writes_so line party ask (rows_written merge tables ask) store left
    by (Some message) left like = back_so line party ask.worker ask.attempt message store left (OutputEnds ask.worker ask.attempt store) like (λ left back. back)

-- ---- finishes

pub put_itself : (old left : Store) → IsLike old left → HasPutTables old left
put_itself old left like = record { same = ap (λ (s : Store). record s { tables = left.tables; tables_drawn = left.tables_drawn; history = left.history }) like; made = []; beside = ap (λ (s : Store). s.tables) like ∙ sym (append-nil old.tables) }

put_more : (line : ℕ) (party : Party) (moment table : ℕ) (rows : List Row) (old store : Store) → HasPutTables old store → HasPutTables old (after_answered line party (PutsTable table rows) (after_answered line party (DrawsTable moment) store))
put_more line party moment table rows old store h =
    let last = after_answered line party (PutsTable table rows) (after_answered line party (DrawsTable moment) store) in
    record {
      same = ap (λ (s : Store). record s { tables = last.tables; tables_drawn = last.tables_drawn; history = last.history }) h.same;
      made = h.made ++ (table, rows) ∷ [];
      beside = ap (λ (ts : Tables). ts ++ (table, rows) ∷ []) h.beside ∙ append_assoc old.tables h.made ((table, rows) ∷ []);
    }

tables_so : {A : Type 0} (line : ℕ) (party : Party) (moment : ℕ) (tables : List (List Row)) (next : List ℕ → Course A) (old store : Store) (P : A → Store → Type 0) → HasPutTables old store → ((ids : List ℕ) (left : Store) → HasPutTables old left → EndsSo line party (next ids) left P)
    → EndsSo line party (puts_tables moment tables next) store P
tables_so line party moment [] next old store P put so = so [] store put
tables_so line party moment (rows ∷ tables) next old store P put so =
    let table = next_table_id moment store in
    tables_so line party moment tables (λ ids. next (table ∷ ids)) old (after_answered line party (PutsTable table rows) (after_answered line party (DrawsTable moment) store)) P (put_more line party moment table rows old store put) (λ ids left here. so (table ∷ ids) left here)

pub ranges_so : {A : Type 0} (line : ℕ) (party : Party) (moment : ℕ) (ranges : List (List (List Row))) (next : List (List ℕ) → Course A) (old store : Store) (P : A → Store → Type 0) → HasPutTables old store
    → ((ids : List (List ℕ)) (left : Store) → HasPutTables old left → EndsSo line party (next ids) left P) → EndsSo line party (puts_ranges moment ranges next) store P
ranges_so line party moment [] next old store P put so = so [] store put
ranges_so line party moment (tables ∷ ranges) next old store P put so =
    tables_so line party moment tables (λ ids. puts_ranges moment ranges (λ others. next (ids ∷ others))) old store P put
    (λ ids left here. ranges_so line party moment ranges (λ others. next (ids ∷ others)) old left P here (λ others last there. so (ids ∷ others) last there))

-- A get leaves what was put.
pub put_got : (line : ℕ) (party : Party) (event : Event) (old store : Store) → HasPutTables old store → HasPutTables old (after_answered line party (Plain event) store)
put_got line party event old store h = record { same = ap (λ (s : Store). record s { history = (after_answered line party (Plain event) store).history }) h.same; made = h.made; beside = h.beside }

-- The end of a job reports, or the attempt is not live.
end_so : (line : ℕ) (party : Party) (moment : ℕ) (w : LiveWorker) (a : Attempt) (outputs : List (List ℕ)) (old store : Store) → HasPutTables old store → EndsSo line party (end_job moment w a outputs) store (FinishEnds w a old)
unfolding end_job
end_so line party moment w a outputs old store put = by store.records refl
  where
    again : ℕ → Course (StepEnd FinishedJob)
    again = tries (end_try moment w a outputs) 63

    got_now : Store
    got_now = after_answered line party (Plain GetRecords) store

    now : HasPutTables old got_now
    now = put_got line party GetRecords old store put

    is_old : (o : Option Records) → store.records ≡ o → old.records ≡ o
    is_old o e = sym (ap (λ (s : Store). s.records) put.same) ∙ e

    of : (got : Records) → store.records ≡ Some got → (b : Bool) → is_live got.jobs w.number a ≡ b → EndsSo line party (ends_job moment w a outputs got b again) got_now (FinishEnds w a old)
    of got e true live = put_so line party got _ got.epoch _ _ again got_now (FinishEnds w a old) e refl
    of got e false live = (ap (λ (o : Option Records). is_live (jobs_in o) w.number a) (is_old (Some got) e) ∙ live, now)

    by : (o : Option Records) → store.records ≡ o → EndsSo line party (ends_job_by moment w a outputs o again) got_now (FinishEnds w a old)
    by None e = (ap (λ (o : Option Records). is_live (jobs_in o) w.number a) (is_old None e), now)
    by (Some got) e = of got e (is_live got.jobs w.number a) refl

pub finish_so : (line : ℕ) (party : Party) (merge : Operator) (tables : Tables) (ask : FinishAsk) (store : Store) → EndsSo line party (finish merge tables ask) store (FinishEnds ask.worker ask.attempt store)
unfolding finish
finish_so line party merge tables ask store = gets_so line party (gets_tables ask.attempt.sources) (unless_refused ask.worker ask.attempt ask.refusal (puts_and_ends ask (tables_left merge tables ask))) store store (FinishEnds ask.worker ask.attempt store) refl (λ left like. by ask.refusal left like)
  where
    by : (o : Option (List ℕ)) (left : Store) → IsLike store left → EndsSo line party (unless_refused ask.worker ask.attempt o (puts_and_ends ask (tables_left merge tables ask))) left (FinishEnds ask.worker ask.attempt store)
    by None left like = ranges_so line party ask.moment (tables_left merge tables ask) _ store left (FinishEnds ask.worker ask.attempt store) (put_itself store left like)
        (λ new last put. end_so line party ask.moment ask.worker ask.attempt (all_outputs ask.attempt.context.ranges new) store last put)
    by (Some message) left like = back_so line party ask.worker ask.attempt message store left (FinishEnds ask.worker ask.attempt store) like (λ left back. back)

-- ---- flushes

-- A flush that nobody disturbs reports, or has one of the six faults and changes nothing.
pub flush_so : (line : ℕ) (party : Party) (moment retention last : ℕ) (ask : FlushAsk) (store : Store) → EndsSo line party (flush moment retention last ask) store (FlushEnds store)
unfolding flush
flush_so line party moment retention last ask store = before (fault_before_get last ask)
  where
    got_now : Store
    got_now = after_answered line party (Plain GetManifest) store

    m : Manifest
    m = store.manifest

    change : ManifestChange
    change = Flush ask.name ask.segment ask.floor ask.tick

    put_now : Store
    put_now = after_answered line party (PutsTable ask.name ask.rows) got_now

    last_now : Store
    last_now = after_answered line party (PutsManifest m.version change (with_flush moment retention ask m)) put_now

    refused : ℕ → Course (StepEnd ⊤)
    refused = flushes_from moment retention ask 63 true

    puts : EndsSo line party (cond (m.version == m.version) (Ends (Reports tt)) (refused m.version)) last_now (FlushEnds store)
    puts = subst (λ (b : Bool). EndsSo line party (cond b (Ends (Reports tt)) (refused m.version)) last_now (FlushEnds store)) (sym (is_itself m.version)) tt

    after : (o : Option FlushFault) → EndsSo line party (unless_bad o (Calls (PutsTable ask.name ask.rows) (λ met. Calls (PutsManifest m.version change (with_flush moment retention ask m)) (λ after. cond (m.version == after.manifest.version) (Ends (Reports tt)) (refused after.manifest.version))))) got_now (FlushEnds store)
    after None = puts
    after (Some fault) = before_got line party GetManifest store store refl (before_itself store)

    before : (o : Option FlushFault) → EndsSo line party (unless_bad o (flushes_from moment retention ask 64 false 0)) store (FlushEnds store)
    before None = after (fault_after_get m ask)
    before (Some fault) = before_itself store

-- ---- submissions

drawn_so : (line : ℕ) (party : Party) (moment : ℕ) (got : Records) (drawn : List (ℕ × JobSpec)) (again : ℕ → Course (StepEnd (List ℕ))) (store : Store) (P : StepEnd (List ℕ) → Store → Type 0) → store.records ≡ Some got → ((ids : List ℕ) (left : Store) → P (Reports ids) left)
    → EndsSo line party (submits_drawn moment got drawn again) store P
drawn_so line party moment got [] again store P stored so = so [] store
drawn_so line party moment got (p ∷ specs) again store P stored so = put_so line party got _ got.epoch _ _ again store P stored (so _ _)

pub specs_so : (line : ℕ) (party : Party) (moment : ℕ) (got : Records) (specs : List JobSpec) (again : ℕ → Course (StepEnd (List ℕ))) (store : Store) (P : StepEnd (List ℕ) → Store → Type 0) → store.records ≡ Some got → ((ids : List ℕ) (left : Store) → P (Reports ids) left)
    → EndsSo line party (submits_specs moment got specs again) store P
specs_so line party moment got specs again store P stored so =
    draws_so line party moment specs (λ drawn. submits_drawn moment got drawn again) (Some got) store P stored (λ drawn left here. drawn_so line party moment got drawn again left P here so)

pub submit_so : (line : ℕ) (party : Party) (moment : ℕ) (specs : List JobSpec) (store : Store) → EndsSo line party (submit moment specs) store (SubmitEnds store)
unfolding submit
submit_so line party moment specs store = by store.records refl
  where
    again : ℕ → Course (StepEnd (List ℕ))
    again = tries (submit_try moment specs) 63

    by : (o : Option Records) → store.records ≡ o → EndsSo line party (submit_by moment specs o again) (after_answered line party (Plain GetRecords) store) (SubmitEnds store)
    by None e = before_got line party GetRecords store store refl (before_itself store)
    by (Some got) e = specs_so line party moment got specs again (after_answered line party (Plain GetRecords) store) (SubmitEnds store) e (λ ids left. tt)

-- A request that nobody disturbs reports, or is refused by the records or the scheduler and changes nothing.
pub request_so : (line : ℕ) (party : Party) (moment : ℕ) (asked : Scheduler) (request : Request) (store : Store) → EndsSo line party (submit_request moment asked request) store (RequestEnds store)
unfolding submit_request
request_so line party moment asked request store = by store.records refl
  where
    again : ℕ → Course (StepEnd (List ℕ))
    again = tries (request_try moment asked request) 63

    first : Store
    first = after_answered line party (Plain GetRecords) store

    second : Store
    second = after_answered line party (Plain GetManifest) first

    stays : IsAsBefore store second
    stays = before_got line party GetManifest store first refl (before_got line party GetRecords store store refl (before_itself store))

    of : (got : Records) → store.records ≡ Some got → (g : Generated) → EndsSo line party (submits_generated moment got g again) second (RequestEnds store)
    of got e (Specs specs) = specs_so line party moment got specs again second (RequestEnds store) e (λ ids left. tt)
    of got e scheduler.Invalid = stays
    of got e (scheduler.Declined message) = stays

    by : (o : Option Records) → store.records ≡ o → EndsSo line party (request_by moment asked request o again) first (RequestEnds store)
    by None e = before_got line party GetRecords store store refl (before_itself store)
    by (Some got) e = of got e (asked.generate (shown_view store.tables store.manifest got got.jobs) request)

-- ---- coordinators

-- A course whose answer is a report ends so.
report_so : {A : Type 0} (line : ℕ) (party : Party) (course : Course (StepEnd A)) (store : Store) (P : StepEnd A → Store → Type 0) (report : A) → answer_made line party course store ≡ Reports report → ((left : Store) → P (Reports report) left) → EndsSo line party course store P
report_so line party course store P report is so = made_so line party course store P (λ left. subst (λ end. P end left) (sym is) (so left))

pub start_so : (line : ℕ) (n : ℕ) (store : Store) → EndsSo line (Coordinator n) start store Reported
start_so line n store = report_so line (Coordinator n) start store Reported (epoch_above store.manifest store.records) (start_made line (Coordinator n) store).answer_is (λ left. tt)

-- A poll that nobody disturbs reports, or is fenced and changes nothing.
pub poll_so : (line : ℕ) (party : Party) (ask : PollAsk) (store : Store) → EndsSo line party (poll ask) store (PollEnds store)
unfolding poll
poll_so line party ask store = outer (nat_lt ask.epoch m.epoch) refl
  where
    m : Manifest
    m = store.manifest

    got : Records
    got = records_or_none store.records

    first : Store
    first = after_answered line party (Plain GetManifest) store

    second : Store
    second = after_answered line party (Plain GetRecords) first

    again : ℕ → Course (StepEnd PollState)
    again = counted_tries (poll_try ask) 63

    over : Store → Course (StepEnd PollState)
    over met = polls_over ask met.tables m (records_or_none met.records) 64 0 again

    begin : Store → Course (StepEnd PollState)
    begin met = unless_fenced ask.epoch (records_or_none met.records).epoch (over met)

    once : IsAsBefore store first
    once = before_got line party GetManifest store store refl (before_itself store)

    -- The whole poll, by its two tests.
    answered : (b c : Bool) → nat_lt ask.epoch m.epoch ≡ b → nat_lt ask.epoch got.epoch ≡ c
        → answer_made line party (cond b (Ends (Fenced m.epoch)) (Calls (Plain GetRecords) (λ met. cond c (Ends (Fenced got.epoch)) (over met)))) first ≡ cond b (Fenced m.epoch) (cond c (Fenced got.epoch) (Reports (reached_at ask store)))
    answered true c e f = refl
    answered false true e f = refl
    answered false false e f =
        ap (λ (c : Bool). answer_made line party (cond c (Ends (Fenced got.epoch)) (over second)) second) (sym f)
        ∙ ap (λ (b : Bool). answer_made line party (cond b (Ends (Fenced m.epoch)) (Calls (Plain GetRecords) begin)) first) (sym e)
        ∙ (poll_made line party ask store).answer_is
        ∙ ap (λ (b : Bool). cond b (Fenced m.epoch) (cond (nat_lt ask.epoch got.epoch) (Fenced got.epoch) (Reports (reached_at ask store)))) e
        ∙ ap (λ (c : Bool). cond c (Fenced got.epoch) (Reports (reached_at ask store))) f

    inner : (c : Bool) → nat_lt ask.epoch m.epoch ≡ false → nat_lt ask.epoch got.epoch ≡ c → EndsSo line party (cond c (Ends (Fenced got.epoch)) (over second)) second (PollEnds store)
    inner true e f = before_got line party GetRecords store first refl once
    inner false e f = report_so line party (over second) second (PollEnds store) (reached_at ask store) (answered false false e f) (λ left. tt)

    outer : (b : Bool) → nat_lt ask.epoch m.epoch ≡ b → EndsSo line party (cond b (Ends (Fenced m.epoch)) (Calls (Plain GetRecords) begin)) first (PollEnds store)
    outer true e = once
    outer false e = inner (nat_lt ask.epoch got.epoch) e refl
