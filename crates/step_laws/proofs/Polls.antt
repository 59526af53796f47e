-- A poll's put of the records keeps the invariant.
use Rattle.std.proofs.Common.{◌≡◌, refl, sym, ◌∙◌, ap, subst, ℕ, ◌<◌, ◌≤◌, List, [], ◌∷◌, ◌++◌, cond, Bool, true, false, inl, inr, ◌⊎◌, Option, Some, None, arith}
use Rattle.std.specs.Prelude.{IsTrue, ◌&&◌, ◌||◌, is_some, map}
use Rattle.std.specs.List.{AllByRecursion, concat}
use Rattle.row_model.specs.Lists.{Pairs}
use Rattle.row_model.specs.Fold.{Operator}
use Rattle.fleet_model.specs.Jobs.{JobSpec, Job, Jobs, Context, Status, Submitted, Scheduled, Running, Compacted, Completed, Failed, status_eq, has_status, is_finished, is_active, contains, changed_jobs, trimmed_jobs, finished_later, job_with}
use Rattle.fleet_model.specs.History.{Party, PutRecords, Polled, PollChange, Entry, Answer, stood}
use Rattle.fleet_model.specs.Work.Records.{Unrecorded, with_new, new_job, to_waiting, to_scheduled, to_completed, to_failed}
use Rattle.fleet_model.specs.Handles.{job_tables, context_tables}
use Rattle.fleet_model.specs.Trees.{tables_now}
use Rattle.fleet_model.specs.Past.Replay.{epoch_after}
use Rattle.fleet_model.specs.Store.{Records, stored_jobs, records_epoch, WerePut}
use Rattle.fleet_model.specs.Invariants.JobsFit.{SourcesStand, NodesHeldOnce}
use Rattle.step_model.specs.Past.{World}
use Rattle.step_model.specs.LawfulRecords.{OfSome, may_end, PollFits}
use Rattle.step_model.specs.Kept.NamesKept.{IsUpTo}
use Rattle.step_model.specs.Kept.TablesKept.{NameApart, IsFlush}
use Rattle.step_laws.proofs.Elements.{IsIn, all_at, all_to, pairs_map, contains_in, in_back}
use Rattle.step_laws.proofs.Mute.{IsQuietFor}
use Rattle.step_laws.proofs.Grown.{pieces_grow}
use Rattle.step_laws.proofs.Bodies.{Body, JobKept, whole_of}
use Rattle.step_laws.proofs.Held.{are_put}
use Rattle.step_laws.proofs.OpenJobs.{is_open, kept_open}
use Rattle.step_laws.proofs.TableBodies.{active_if_open}
use Rattle.step_laws.proofs.Respecs.{body_by}
use Rattle.step_laws.proofs.Plain.{opened_among}
use Rattle.step_laws.proofs.OwnTables.{apart_from, apart_at}
use Rattle.step_laws.proofs.RecordsBodies.{with_records}
use Rattle.step_laws.proofs.RecordsPuts.{StandingPutKeeps}
use Rattle.step_laws.proofs.Changed.{on_these, found_job, job_found, by_these}
use Rattle.step_laws.proofs.NewJobs.{in_new, rise_new, all_kept_new, new_ids, later_new}
use Rattle.step_laws.proofs.NewPuts.{new_records, new_specs, names_new, new_put_keeps}
use Rattle.step_laws.proofs.PollJobs.{with_end, kept_over, kept_scheduled, submitted_active, ended_not_open, over_not_active}
use Rattle.step_laws.proofs.WorkerPuts.{Named, stored_as}

-- ---- what a poll makes of a job

abbrev pub poll_on : Unrecorded → PollChange → Job → Job
poll_on u change job = on_these to_failed change.failed (on_these to_completed change.completed (on_these (to_scheduled u.tables_of) change.scheduled (on_these to_waiting change.freed job)))

pub poll_map : (u : Unrecorded) (change : PollChange) (jobs : Jobs)
    → changed_jobs to_failed change.failed (changed_jobs to_completed change.completed (changed_jobs (to_scheduled u.tables_of) change.scheduled (changed_jobs to_waiting change.freed jobs))) ≡ map (poll_on u change) jobs
poll_map u change [] = refl
poll_map u change (job ∷ jobs) = ap (λ js. poll_on u change job ∷ js) (poll_map u change jobs)

-- A job waits again, is opened, is ended, or stays.
pub data Outcome (u : Unrecorded) (trees_tables : List ℕ) (change : PollChange) (job : Job) : Type 0 where
  Waits : IsTrue (is_open job.status) → poll_on u change job ≡ to_waiting job → Outcome u trees_tables change job
  Opens : IsTrue (has_status Submitted job) → u.tables_of job.spec ≡ trees_tables → IsTrue (contains change.scheduled job.id) → poll_on u change job ≡ to_scheduled u.tables_of job → Outcome u trees_tables change job
  Ends : (status : Status) (context : Option Context) (tables : List ℕ) → IsTrue (is_finished status) → context ≡ None → poll_on u change job ≡ with_end status context tables job → Outcome u trees_tables change job
  Stays : poll_on u change job ≡ job → Outcome u trees_tables change job

named_as : (f : Job → Job) (these : List ℕ) (job : Job) → contains these job.id ≡ true → on_these f these job ≡ f job
named_as f these job e = ap (λ b. cond b (f job) job) e

other_as : (f : Job → Job) (these : List ℕ) (job : Job) → contains these job.id ≡ false → on_these f these job ≡ job
other_as f these job e = ap (λ b. cond b (f job) job) e

running_open : (s : Status) → IsTrue (status_eq Running s) → IsTrue (is_open s)
running_open Running h = refl
running_open Scheduled h = refl
running_open Submitted h = absurd (cc h)
running_open Compacted h = absurd (cc h)
running_open Completed h = absurd (cc h)
running_open Failed h = absurd (cc h)

submitted_ends : (s : Status) → IsTrue (status_eq Submitted s) → IsTrue (status_eq Submitted s || status_eq Compacted s)
submitted_ends Submitted h = refl
submitted_ends Scheduled h = absurd (cc h)
submitted_ends Running h = absurd (cc h)
submitted_ends Compacted h = refl
submitted_ends Completed h = absurd (cc h)
submitted_ends Failed h = absurd (cc h)

-- What a poll may do to a job.
pub record MayDo (u : Unrecorded) (trees_tables : List ℕ) (change : PollChange) (job : Job) : Type 0 where
  pub freed : IsTrue (contains change.freed job.id) → IsTrue (has_status Running job)
  pub opened : IsTrue (contains change.scheduled job.id) → IsTrue (has_status Submitted job) × (u.tables_of job.spec ≡ trees_tables)
  pub completed : IsTrue (contains change.completed job.id) → IsTrue (may_end job)
  pub failed : IsTrue (contains change.failed job.id) → IsTrue (may_end job)
  pub context : IsTrue (may_end job) → job.context ≡ None

never_contains : (these : List ℕ) (id : ℕ) → (IsTrue (contains these id) → ⊥) → contains these id ≡ false
never_contains these id h = by (contains these id) refl
  where
    by : (b : Bool) → contains these id ≡ b → b ≡ false
    by true e = absurd (h e)
    by false e = refl

-- A job to which a poll does only what it may do waits again, is opened, is ended, or stays.
pub outcome : (u : Unrecorded) (trees_tables : List ℕ) (change : PollChange) (job : Job) → MayDo u trees_tables change job → Outcome u trees_tables change job
outcome u trees_tables change job may = by (contains change.freed job.id) refl (contains change.scheduled job.id) refl (contains change.completed job.id) refl (contains change.failed job.id) refl
  where
    no_end : IsTrue (is_open job.status) → IsTrue (may_end job) → ⊥
    no_end waits ends = ended_not_open job.status ends waits

    by : (a : Bool) → contains change.freed job.id ≡ a → (b : Bool) → contains change.scheduled job.id ≡ b → (c : Bool) → contains change.completed job.id ≡ c → (d : Bool) → contains change.failed job.id ≡ d → Outcome u trees_tables change job
    by true ea b eb c ec d ed =
        let runs = running_open job.status (may.freed ea) in
        let no_open = never_contains change.scheduled job.id (λ named. no_end runs (submitted_ends job.status (may.opened named).0)) in
        let no_done = never_contains change.completed job.id (λ named. no_end runs (may.completed named)) in
        let no_fail = never_contains change.failed job.id (λ named. no_end runs (may.failed named)) in
        Waits runs (ap (λ j. on_these to_failed change.failed (on_these to_completed change.completed (on_these (to_scheduled u.tables_of) change.scheduled j))) (named_as to_waiting change.freed job ea)
        ∙ ap (λ j. on_these to_failed change.failed (on_these to_completed change.completed j)) (other_as (to_scheduled u.tables_of) change.scheduled (to_waiting job) no_open)
        ∙ ap (on_these to_failed change.failed) (other_as to_completed change.completed (to_waiting job) no_done)
        ∙ other_as to_failed change.failed (to_waiting job) no_fail)
    by false ea true eb true ec true ed = Ends Failed None (u.tables_of job.spec) refl refl (
        ap (λ j. on_these to_failed change.failed (on_these to_completed change.completed (on_these (to_scheduled u.tables_of) change.scheduled j))) (other_as to_waiting change.freed job ea)
        ∙ ap (λ j. on_these to_failed change.failed (on_these to_completed change.completed j)) (named_as (to_scheduled u.tables_of) change.scheduled job eb)
        ∙ ap (on_these to_failed change.failed) (named_as to_completed change.completed (to_scheduled u.tables_of job) ec)
        ∙ named_as to_failed change.failed (to_completed (to_scheduled u.tables_of job)) ed)
    by false ea true eb true ec false ed = Ends Completed None (u.tables_of job.spec) refl refl (
        ap (λ j. on_these to_failed change.failed (on_these to_completed change.completed (on_these (to_scheduled u.tables_of) change.scheduled j))) (other_as to_waiting change.freed job ea)
        ∙ ap (λ j. on_these to_failed change.failed (on_these to_completed change.completed j)) (named_as (to_scheduled u.tables_of) change.scheduled job eb)
        ∙ ap (on_these to_failed change.failed) (named_as to_completed change.completed (to_scheduled u.tables_of job) ec)
        ∙ other_as to_failed change.failed (to_completed (to_scheduled u.tables_of job)) ed)
    by false ea true eb false ec true ed = Ends Failed None (u.tables_of job.spec) refl refl (
        ap (λ j. on_these to_failed change.failed (on_these to_completed change.completed (on_these (to_scheduled u.tables_of) change.scheduled j))) (other_as to_waiting change.freed job ea)
        ∙ ap (λ j. on_these to_failed change.failed (on_these to_completed change.completed j)) (named_as (to_scheduled u.tables_of) change.scheduled job eb)
        ∙ ap (on_these to_failed change.failed) (other_as to_completed change.completed (to_scheduled u.tables_of job) ec)
        ∙ named_as to_failed change.failed (to_scheduled u.tables_of job) ed)
    by false ea true eb false ec false ed = Opens (may.opened eb).0 (may.opened eb).1 eb (
        ap (λ j. on_these to_failed change.failed (on_these to_completed change.completed (on_these (to_scheduled u.tables_of) change.scheduled j))) (other_as to_waiting change.freed job ea)
        ∙ ap (λ j. on_these to_failed change.failed (on_these to_completed change.completed j)) (named_as (to_scheduled u.tables_of) change.scheduled job eb)
        ∙ ap (on_these to_failed change.failed) (other_as to_completed change.completed (to_scheduled u.tables_of job) ec)
        ∙ other_as to_failed change.failed (to_scheduled u.tables_of job) ed)
    by false ea false eb true ec true ed = Ends Failed None job.source_tables refl refl (
        ap (λ j. on_these to_failed change.failed (on_these to_completed change.completed (on_these (to_scheduled u.tables_of) change.scheduled j))) (other_as to_waiting change.freed job ea)
        ∙ ap (λ j. on_these to_failed change.failed (on_these to_completed change.completed j)) (other_as (to_scheduled u.tables_of) change.scheduled job eb)
        ∙ ap (on_these to_failed change.failed) (named_as to_completed change.completed job ec)
        ∙ named_as to_failed change.failed (to_completed job) ed)
    by false ea false eb true ec false ed = Ends Completed job.context job.source_tables refl (may.context (may.completed ec)) (
        ap (λ j. on_these to_failed change.failed (on_these to_completed change.completed (on_these (to_scheduled u.tables_of) change.scheduled j))) (other_as to_waiting change.freed job ea)
        ∙ ap (λ j. on_these to_failed change.failed (on_these to_completed change.completed j)) (other_as (to_scheduled u.tables_of) change.scheduled job eb)
        ∙ ap (on_these to_failed change.failed) (named_as to_completed change.completed job ec)
        ∙ other_as to_failed change.failed (to_completed job) ed)
    by false ea false eb false ec true ed = Ends Failed None job.source_tables refl refl (
        ap (λ j. on_these to_failed change.failed (on_these to_completed change.completed (on_these (to_scheduled u.tables_of) change.scheduled j))) (other_as to_waiting change.freed job ea)
        ∙ ap (λ j. on_these to_failed change.failed (on_these to_completed change.completed j)) (other_as (to_scheduled u.tables_of) change.scheduled job eb)
        ∙ ap (on_these to_failed change.failed) (other_as to_completed change.completed job ec)
        ∙ named_as to_failed change.failed job ed)
    by false ea false eb false ec false ed = Stays (
        ap (λ j. on_these to_failed change.failed (on_these to_completed change.completed (on_these (to_scheduled u.tables_of) change.scheduled j))) (other_as to_waiting change.freed job ea)
        ∙ ap (λ j. on_these to_failed change.failed (on_these to_completed change.completed j)) (other_as (to_scheduled u.tables_of) change.scheduled job eb)
        ∙ ap (on_these to_failed change.failed) (other_as to_completed change.completed job ec)
        ∙ other_as to_failed change.failed job ed)

-- ---- what stays of a job

id_same : (u : Unrecorded) (tables : List ℕ) (change : PollChange) (job : Job) → Outcome u tables change job → (poll_on u change job).id ≡ job.id
id_same u tables change job (Waits runs e) = ap (λ (j : Job). j.id) e
id_same u tables change job (Opens submitted same named e) = ap (λ (j : Job). j.id) e
id_same u tables change job (Ends status context sources over none e) = ap (λ (j : Job). j.id) e
id_same u tables change job (Stays e) = ap (λ (j : Job). j.id) e

attempt_same : (u : Unrecorded) (tables : List ℕ) (change : PollChange) (job : Job) → Outcome u tables change job → (poll_on u change job).attempt ≡ job.attempt
attempt_same u tables change job (Waits runs e) = ap (λ (j : Job). j.attempt) e
attempt_same u tables change job (Opens submitted same named e) = ap (λ (j : Job). j.attempt) e
attempt_same u tables change job (Ends status context sources over none e) = ap (λ (j : Job). j.attempt) e
attempt_same u tables change job (Stays e) = ap (λ (j : Job). j.attempt) e

-- An active job was active, and names no other tables.
pub record Shrinks (old new : Job) : Type 0 where
  pub active : IsTrue (is_active old)
  pub tables : (t : ℕ) → IsIn t (job_tables new) → IsIn t (job_tables old)

shrinks : (u : Unrecorded) (tables : List ℕ) (change : PollChange) (job : Job) → Outcome u tables change job → IsTrue (is_active (poll_on u change job)) → Shrinks job (poll_on u change job)
shrinks u tables change job (Waits runs e) active = subst (Shrinks job) (sym e) (record { active = active_if_open job runs; tables = λ t there. there })
shrinks u tables change job (Opens submitted same named e) active = subst (Shrinks job) (sym e) (record { active = submitted_active job.status submitted; tables = λ t there. in_back t (context_tables job.context) (concat job.outputs) there })
shrinks u tables change job (Ends status context sources over none e) active = absurd (over_not_active status over (subst (λ (j : Job). IsTrue (is_active j)) e active))
shrinks u tables change job (Stays e) active = subst (Shrinks job) (sym e) (record { active = subst (λ (j : Job). IsTrue (is_active j)) e active; tables = λ t there. there })

pub in_map : {A B : Type 0} (f : A → B) (xs : List A) (x : A) → IsIn x xs → IsIn (f x) (map f xs)
in_map f [] x there = absurd there
in_map f (y ∷ xs) x (inl same) = inl (ap f same)
in_map f (y ∷ xs) x (inr there) = inr (in_map f xs x there)

pub from_map : {A B : Type 0} (f : A → B) (xs : List A) (y : B) → IsIn y (map f xs) → (x : A) × (IsIn x xs × (f x ≡ y))
from_map f [] y there = absurd there
from_map f (x ∷ xs) y (inl same) = (x, (inl refl, same))
from_map f (x ∷ xs) y (inr there) = let found = from_map f xs y there in (found.0, (inr found.1.0, found.1.1))

-- A put keeps each active job.
active_in : (jobs : Jobs) (job : Job) → IsIn job jobs → IsTrue (is_active job) → IsIn job (trimmed_jobs jobs)
active_in [] job there active = absurd there
active_in (j ∷ jobs) job there active = by (is_active j) refl (finished_later jobs) there (λ one. active_in jobs job one active)
  where
    refused : (b : Bool) → b ≡ false → IsTrue b → ⊥
    refused true e h = absurd (cc e)
    refused false e h = absurd (cc h)

    at : (k : List Job) → (j ≡ job) ⊎ IsIn job jobs → (IsIn job jobs → IsIn job (trimmed_jobs jobs)) → IsIn job (j ∷ trimmed_jobs jobs)
    at k (inl same) rest = inl same
    at k (inr one) rest = inr (rest one)

    gone : is_active j ≡ false → (j ≡ job) ⊎ IsIn job jobs → (IsIn job jobs → IsIn job (trimmed_jobs jobs)) → IsIn job (trimmed_jobs jobs)
    gone e (inl same) rest = absurd (refused (is_active job) (ap is_active (sym same) ∙ e) active)
    gone e (inr one) rest = rest one

    by : (a : Bool) → is_active j ≡ a → (later : Bool) → (j ≡ job) ⊎ IsIn job jobs → (IsIn job jobs → IsIn job (trimmed_jobs jobs)) → IsIn job (cond a (j ∷ trimmed_jobs jobs) (cond later (trimmed_jobs jobs) (j ∷ trimmed_jobs jobs)))
    by true e later there rest = at jobs there rest
    by false e true there rest = gone e there rest
    by false e false there rest = at jobs there rest

-- ---- the law

quiet_poll : (took : Bool) (change : PollChange) (job : ℕ) → IsQuietFor took (PutRecords (Polled change)) job
quiet_poll true change job = record { beats = refl; beaten = refl; joins = refl }
quiet_poll false change job = record { beats = refl; beaten = refl; joins = refl }

kept_epoch : (change : PollChange) (records : Option Records) → epoch_after (Polled change) records ≡ records_epoch records
kept_epoch change None = refl
kept_epoch change (Some records) = refl

none_there : (o : Option Context) → (IsTrue (is_some o) → ⊥) → o ≡ None
none_there None h = refl
none_there (Some c) h = absurd (h refl)

-- What is asked of a poll, of each job by itself.
may_do : (merge : Operator) (world : World) (specs : ℕ → JobSpec) (party : Party) (u : Unrecorded) (change : PollChange) (jobs : Jobs) (t : World) → Body merge world specs → PollFits party world u change jobs → Pairs (λ a b. a.id < b.id) (with_new change.added (stored_jobs world.store))
    → (job : Job) → IsIn job (with_new change.added (stored_jobs world.store)) → JobKept merge t specs job → MayDo u (tables_now world.store.manifest.trees job.spec) change job
may_do merge world specs party u change jobs t b fits rise job there kept = record {
  freed = λ named. stored (in_new change.added (stored_jobs world.store) job there) (stored_as world (λ j. IsTrue (has_status Running j)) job.id (all_at _ change.freed job.id fits.freed (contains_in change.freed job.id named)));
  opened = λ named. subst (OfSome (λ j. IsTrue (has_status Submitted j) × (u.tables_of j.spec ≡ tables_now world.store.manifest.trees j.spec))) found (all_at _ change.scheduled job.id fits.opened (contains_in change.scheduled job.id named));
  completed = λ named. ends (in_ended_front (contains_in change.completed job.id named));
  failed = λ named. ends (in_back job.id change.completed change.failed (contains_in change.failed job.id named));
  context = λ may. none_there job.context (λ some. ended_not_open job.status may (kept.fits.context.there.0 some).0);
}
  where
    found : job_with job.id (with_new change.added (stored_jobs world.store)) ≡ Some job
    found = found_job (with_new change.added (stored_jobs world.store)) job rise there

    in_ended_front : IsIn job.id change.completed → IsIn job.id (change.completed ++ change.failed)
    in_ended_front one = front change.completed one
      where
        front : (xs : List ℕ) → IsIn job.id xs → IsIn job.id (xs ++ change.failed)
        front [] it = absurd it
        front (x ∷ xs) (inl same) = inl same
        front (x ∷ xs) (inr it) = inr (front xs it)

    ends : IsIn job.id (change.completed ++ change.failed) → IsTrue (may_end job)
    ends one = subst (OfSome (λ j. IsTrue (may_end j))) found (all_at _ (change.completed ++ change.failed) job.id fits.ended one)

    the_job : (j : Job) → Some j ≡ Some job → j ≡ job
    the_job j e = cc e

    stored : ((p : ℕ × JobSpec) × (IsIn p change.added × (new_job p ≡ job))) ⊎ IsIn job (stored_jobs world.store) → Named world (λ j. IsTrue (has_status Running j)) job.id → IsTrue (has_status Running job)
    stored (inl new) it =
        let old = job_found job.id (stored_jobs world.store) it.job it.stored in
        absurd (new_ids merge world specs change.added b fits.new new.0 it.job new.1.0 old.there (ap (λ (j : Job). j.id) new.1.1 ∙ sym old.same))
    stored (inr old) it = subst (λ (j : Job). IsTrue (has_status Running j)) (the_job it.job (sym it.stored ∙ found_job (stored_jobs world.store) job b.sound.job_ids old)) it.so

-- The outcome of a poll is kept.
outcome_kept : (merge : Operator) (t : World) (specs : ℕ → JobSpec) (u : Unrecorded) (change : PollChange) (job : Job) → AllByRecursion (λ s. AllByRecursion (λ node. WerePut t.store node.pieces) s.tree) t.store.manifest.trees
    → AllByRecursion (λ s. AllByRecursion (λ node. IsFlush t.store.history node node.name) s.tree) t.store.manifest.trees
    → (IsTrue (contains change.scheduled job.id) → poll_on u change job ≡ to_scheduled u.tables_of job → SourcesStand t.store.manifest.trees (to_scheduled u.tables_of job))
    → JobKept merge t specs job → Outcome u (tables_now t.store.manifest.trees job.spec) change job → JobKept merge t specs (poll_on u change job)
outcome_kept merge t specs u change job put flushes stand kept (Waits runs e) =
    subst (JobKept merge t specs) (sym e) (kept_open merge t specs Scheduled None job.attempt job runs refl (λ waits. refl) (λ c is claimed. claimed) kept)
outcome_kept merge t specs u change job put flushes stand kept (Opens submitted same named e) = subst (JobKept merge t specs) (sym e) (kept_scheduled merge t specs u.tables_of job submitted same put flushes (stand named e) kept)
outcome_kept merge t specs u change job put flushes stand kept (Ends status context sources over none e) = subst (JobKept merge t specs) (sym e) (kept_over merge t specs status context sources job over none kept)
outcome_kept merge t specs u change job put flushes stand kept (Stays e) = subst (JobKept merge t specs) (sym e) kept

-- What a poll starts from: lawful names and change, over what is kept.
pub record PollCase (merge : Operator) (world : World) (specs : ℕ → JobSpec) (line : ℕ) (party : Party) (answer : Answer) (u : Unrecorded) (change : PollChange) (jobs : Jobs) : Type 0 where
  pub took : stood answer ≡ true
  pub body : Body merge world specs
  pub rise : Pairs (λ a b. a.id < b.id) (with_new change.added (stored_jobs world.store))
  pub fits : PollFits party world u change jobs
  pub made : jobs ≡ trimmed_jobs (map (poll_on u change) (with_new change.added (stored_jobs world.store)))

-- The world after the poll.
abbrev afterwards : World → ℕ → Party → Answer → Unrecorded → PollChange → World
afterwards world line party answer u change =
    with_records world (new_records world (map (poll_on u change) (with_new change.added (stored_jobs world.store)))) (record { line = line; party = party; event = PutRecords (Polled change); answer = answer })

kept_before : (merge : Operator) (world : World) (specs : ℕ → JobSpec) (line : ℕ) (party : Party) (answer : Answer) (u : Unrecorded) (change : PollChange) (jobs : Jobs) → PollCase merge world specs line party answer u change jobs
    → (job : Job) → IsIn job (with_new change.added (stored_jobs world.store)) → JobKept merge (afterwards world line party answer u change) specs job
kept_before merge world specs line party answer u change jobs p job there =
    all_kept_new merge world specs (new_records world (map (poll_on u change) (with_new change.added (stored_jobs world.store)))) line party (Polled change) answer p.took p.body (quiet_poll (stood answer) change) p.fits.new job there

out : (merge : Operator) (world : World) (specs : ℕ → JobSpec) (line : ℕ) (party : Party) (answer : Answer) (u : Unrecorded) (change : PollChange) (jobs : Jobs) → PollCase merge world specs line party answer u change jobs
    → (job : Job) → IsIn job (with_new change.added (stored_jobs world.store)) → Outcome u (tables_now world.store.manifest.trees job.spec) change job
out merge world specs line party answer u change jobs p job there =
    outcome u (tables_now world.store.manifest.trees job.spec) change job (may_do merge world specs party u change jobs (afterwards world line party answer u change) p.body p.fits p.rise job there (kept_before merge world specs line party answer u change jobs p job there))

-- Each stored job and each job that a lawful poll adds is kept as the poll leaves it.
kept_after : (merge : Operator) (world : World) (specs : ℕ → JobSpec) (line : ℕ) (party : Party) (answer : Answer) (u : Unrecorded) (change : PollChange) (jobs : Jobs) → PollCase merge world specs line party answer u change jobs
    → (job : Job) → IsIn job (with_new change.added (stored_jobs world.store)) → JobKept merge (afterwards world line party answer u change) specs (poll_on u change job)
kept_after merge world specs line party answer u change jobs p job there =
    let entry : Entry = record { line = line; party = party; event = PutRecords (Polled change); answer = answer } in
    outcome_kept merge (afterwards world line party answer u change) specs u change job
    (all_to _ _ world.store.manifest.trees (λ s one old. all_to _ _ s.tree (λ node in_tree held. are_put world.store node.pieces held) old) p.body.pieces)
    (pieces_grow world.store.history entry world.past world.store.manifest.trees p.body.nodes).flushes
    stand (kept_before merge world specs line party answer u change jobs p job there) (out merge world specs line party answer u change jobs p job there)
  where
    stand : IsTrue (contains change.scheduled job.id) → poll_on u change job ≡ to_scheduled u.tables_of job → SourcesStand world.store.manifest.trees (to_scheduled u.tables_of job)
    stand named e =
        let among : IsIn (poll_on u change job) (map (poll_on u change) (with_new change.added (stored_jobs world.store))) = in_map (poll_on u change) (with_new change.added (stored_jobs world.store)) job there in
        let put : IsIn (poll_on u change job) jobs = subst (λ (js : Jobs). IsIn (poll_on u change job) js) (sym p.made)
        (active_in (map (poll_on u change) (with_new change.added (stored_jobs world.store))) (poll_on u change job) among (subst (λ (j : Job). IsTrue (is_active j)) (sym e) refl)) in
        subst (λ (j : Job). IsTrue (contains change.scheduled j.id && has_status Scheduled j) → SourcesStand world.store.manifest.trees j) e
        (all_at (λ (j : Job). IsTrue (contains change.scheduled j.id && has_status Scheduled j) → SourcesStand world.store.manifest.trees j) jobs (poll_on u change job) p.fits.stand put) (both (contains change.scheduled job.id) named)
      where
        both : (c : Bool) → IsTrue c → IsTrue (c && true)
        both true h = refl
        both false h = absurd (cc h)

-- A lawful poll opens each job with the tables that its sources have in the stored trees.
tables_same : (merge : Operator) (world : World) (specs : ℕ → JobSpec) (line : ℕ) (party : Party) (answer : Answer) (u : Unrecorded) (change : PollChange) (jobs : Jobs) → PollCase merge world specs line party answer u change jobs
    → (job : Job) → IsIn job (opened_among change (stored_jobs world.store)) → IsTrue (contains change.scheduled job.id) → u.tables_of job.spec ≡ tables_now world.store.manifest.trees job.spec
tables_same merge world specs line party answer u change jobs p job there named =
    at (from_map (on_these to_waiting change.freed) (with_new change.added (stored_jobs world.store)) job there)
  where
    at : (j : Job) × (IsIn j (with_new change.added (stored_jobs world.store)) × (on_these to_waiting change.freed j ≡ job)) → u.tables_of job.spec ≡ tables_now world.store.manifest.trees job.spec
    at found =
        let j = found.0 in
        let may = may_do merge world specs party u change jobs (afterwards world line party answer u change) p.body p.fits p.rise j found.1.0 (kept_before merge world specs line party answer u change jobs p j found.1.0) in
        let ids : (on_these to_waiting change.freed j).id ≡ j.id = by_these (λ (x : Job). x.id ≡ j.id) to_waiting change.freed j (λ h. refl) (λ h. refl) in
        let specs_same : (on_these to_waiting change.freed j).spec ≡ j.spec = by_these (λ (x : Job). x.spec ≡ j.spec) to_waiting change.freed j (λ h. refl) (λ h. refl) in
        let same : j.spec ≡ job.spec = sym specs_same ∙ ap (λ (x : Job). x.spec) found.1.1 in
        let id : job.id ≡ j.id = sym (ap (λ (x : Job). x.id) found.1.1) ∙ ids in
        subst (λ spec. u.tables_of spec ≡ tables_now world.store.manifest.trees spec) same (may.opened (subst (λ n. IsTrue (contains change.scheduled n)) id named)).1

later_after : (merge : Operator) (world : World) (specs : ℕ → JobSpec) (line : ℕ) (party : Party) (answer : Answer) (u : Unrecorded) (change : PollChange) (jobs : Jobs) → PollCase merge world specs line party answer u change jobs
    → (a : ℕ × ℕ) → IsUpTo world.store.history (stored_jobs world.store) a → (job : Job) → IsIn job (with_new change.added (stored_jobs world.store)) → (poll_on u change job).id ≡ a.0 → a.1 ≤ (poll_on u change job).attempt
later_after merge world specs line party answer u change jobs p a up job there same =
    let o = out merge world specs line party answer u change jobs p job there in
    let attempts = attempt_same u _ change job o in
    let low = later_new merge world specs change.added a job p.body p.fits.new up there (sym (id_same u _ change job o) ∙ same) in
    omega (arith, attempts, low)

apart_after : (merge : Operator) (world : World) (specs : ℕ → JobSpec) (line : ℕ) (party : Party) (answer : Answer) (u : Unrecorded) (change : PollChange) (jobs : Jobs) → PollCase merge world specs line party answer u change jobs
    → (x y : Job) → IsIn x (with_new change.added (stored_jobs world.store)) → IsIn y (with_new change.added (stored_jobs world.store)) → NameApart x y → NameApart (poll_on u change x) (poll_on u change y)
apart_after merge world specs line party answer u change jobs p x y one other old first second =
    let a = shrinks u _ change x (out merge world specs line party answer u change jobs p x one) first in
    let b = shrinks u _ change y (out merge world specs line party answer u change jobs p y other) second in
    apart_from (job_tables (poll_on u change x)) (job_tables (poll_on u change y)) (λ t in_x in_y. apart_at (job_tables x) (job_tables y) t (old a.active b.active) (a.tables t in_x) (b.tables t in_y))

mapped : {A B : Type 0} (P : B → Type 0) (f : A → B) (xs : List A) → ((x : A) → IsIn x xs → P (f x)) → (y : B) → IsIn y (map f xs) → P y
mapped P f xs h y there = let found = from_map f xs y there in subst P found.1.1 (h found.0 found.1.0)

-- A lawful poll's put of the records that takes effect keeps the invariant.
pub polls_keep : (merge : Operator) (change : PollChange) → StandingPutKeeps merge (Polled change)
polls_keep merge change line party answer world epoch jobs took k names fits =
    let u = fits.unrecorded in
    let specs = new_specs (Polled change) k.stored.replay.specs in
    let b = body_by merge world k.stored.replay.specs specs (whole_of merge world k).body (names.replays k.stored.replay.specs k.faithful) in
    let base = with_new change.added (stored_jobs world.store) in
    let after = map (poll_on u change) base in
    let rise = rise_new change.added (stored_jobs world.store) names.once (new_ids merge world specs change.added b fits.fits.new) b.sound.job_ids in
    let p : PollCase merge world specs line party answer u change jobs = record { took = took; body = b; rise = rise; fits = fits.fits; made = fits.makes_jobs ∙ ap trimmed_jobs (poll_map u change base) } in
    new_put_keeps merge world u (Polled change) after line party answer epoch jobs took k names
    (record { makes = poll_map u change base; tables = λ job there named. tables_same merge world specs line party answer u change jobs p job there named; epoch = kept_epoch change world.store.records; attempts = refl; claims = refl; brought = refl }) fits.makes_jobs fits.makes_epoch
    (record {
      rise = pairs_map (λ (x y : Job). x.id < y.id) (λ (x y : Job). x.id < y.id) (poll_on u change) base (λ x y one other low.
          let first = id_same u _ change x (out merge world specs line party answer u change jobs p x one) in
          let second = id_same u _ change y (out merge world specs line party answer u change jobs p y other) in omega (arith, low, first, second)) rise;
      held_once = subst NodesHeldOnce p.made fits.fits.apart;
      apart = pairs_map NameApart NameApart (poll_on u change) base (λ x y one other old first second. apart_after merge world specs line party answer u change jobs p x y one other old first second) (names_new change.added (stored_jobs world.store) b.name_apart);
      later = λ a up job there same. mapped (λ (j : Job). j.id ≡ a.0 → a.1 ≤ j.attempt) (poll_on u change) base (λ x one is. later_after merge world specs line party answer u change jobs p a up x one is) job there same;
      kept = λ job there. mapped (JobKept merge (afterwards world line party answer u change) specs) (poll_on u change) base (λ x one. kept_after merge world specs line party answer u change jobs p x one) job there;
    })
