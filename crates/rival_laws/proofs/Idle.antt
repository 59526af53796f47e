-- A store without active jobs has none after calls that bring no job.
use Rattle.std.proofs.Common.{◌≡◌, refl, sym, ◌∙◌, subst, ℕ, ◌+◌, List, [], ◌∷◌, cond, Bool, true, false, Some, None}
use Rattle.std.specs.Prelude.{IsTrue, ◌==◌}
use Rattle.std.specs.List.{AllByRecursion}
use Rattle.std.proofs.lemmas.Bool.Decides.{Decides-eqb}
use Rattle.row_model.specs.Fold.{Operator}
use Rattle.fleet_model.specs.Jobs.{JobSpec, Job, Jobs, is_active, contains, changed_jobs, trimmed_jobs}
use Rattle.fleet_model.specs.History.{Party, RecordChange, RecordsEpoch, Submit, Claim, Beat, Finish, Release, Polled}
use Rattle.fleet_model.specs.Store.{Store, stored_jobs}
use Rattle.fleet_model.specs.Work.Records.{Unrecorded, firsts, claimed_by, beaten_by, finished_by, to_waiting, jobs_after}
use Rattle.fleet_model.specs.Exchanges.{Exchange, Plain, DrawsJob, DrawsTable, PutsTable, PutsManifest, PutsRecords, ListsTables, DeletesTable, records_version, after_exchange}
use Rattle.step_model.specs.Lawful.{Lawful}
use Rattle.step_model.specs.Past.{World}
use Rattle.step_model.specs.LawfulRecords.{IsStoredAs, ChangeFits}
use Rattle.step_model.specs.Rivals.{Caller, RivalCall, RivalsFrom, after_rival}
use Rattle.step_model.specs.Kept.Keeps.{Keeps}
use Rattle.step_laws.specs.Runs.{CallsKeep}
use Rattle.step_laws.proofs.Bodies.{Body, whole_of}
use Rattle.step_laws.proofs.Changed.{all_on_these, by_these}
use Rattle.step_laws.proofs.Elements.{IsIn, all_at, all_to}
use Rattle.step_laws.proofs.TableBodies.{active_if_open}
use Rattle.step_laws.proofs.TableReplays.{all_trimmed}
use Rattle.step_laws.proofs.WorkerPuts.{each_named, stored_to, live_open}
use Rattle.rival_laws.proofs.Coordinators.{waiting_open}
use Rattle.rival_laws.specs.Idle.{NoneActive, brings_no_job, CallStaysIdle, StaysIdle}
use Rattle.step_laws.proofs.FlushNodes.{refused}

-- The job is active.
abbrev IsActive : Job → Type 0
IsActive job = IsTrue (is_active job)

-- A change of jobs that are active changes nothing if none is.
none_changed : (f : Job → Job) (these : List ℕ) (jobs : Jobs) → ((job : Job) → IsIn job jobs → IsTrue (contains these job.id) → IsActive job) → AllByRecursion (λ job. is_active job ≡ false) jobs
    → AllByRecursion (λ job. is_active job ≡ false) (trimmed_jobs (changed_jobs f these jobs))
none_changed f these jobs active none = all_trimmed _ (changed_jobs f these jobs) (all_on_these (λ job. is_active job ≡ false) f these jobs (λ job there.
    by_these (λ (j : Job). is_active j ≡ false) f these job
    (λ named. absurd (refused (is_active job) (all_at (λ (j : Job). is_active j ≡ false) jobs job none there) (active job there named)))
    (λ other. all_at (λ (j : Job). is_active j ≡ false) jobs job none there)))

-- The change neither submits jobs nor is that of a poll.
abbrev brings_none : RecordChange → Bool
brings_none (Submit specs) = false
brings_none (Polled change) = false
brings_none _ = true

one_named : (world : World) (specs : ℕ → JobSpec) (merge : Operator) (P : Job → Type 0) (id n : ℕ) → Body merge world specs → IsStoredAs world id P → (job : Job) → IsIn job (stored_jobs world.store) → IsTrue (contains (id ∷ []) job.id) → P job
one_named world specs merge P id n b stored job there named = each_named world specs merge P ((id, n) ∷ []) b (stored, tt) job there named

-- A lawful change of the records that brings no job leaves no job active, if none was.
change_idle : (merge : Operator) (party : Party) (world : World) (u : Unrecorded) (jobs : Jobs) (change : RecordChange) → Keeps merge world → brings_none change ≡ true → ChangeFits merge party world u jobs change → NoneActive world
    → AllByRecursion (λ job. is_active job ≡ false) (jobs_after u change (stored_jobs world.store))
change_idle merge party world u jobs (RecordsEpoch epoch) k quiet fits none = all_trimmed _ (stored_jobs world.store) none
change_idle merge party world u jobs (Submit specs) k quiet fits none = absurd (cc quiet)
change_idle merge party world u jobs (Claim worker attempts) k quiet fits none =
    none_changed (claimed_by worker u.moment) (firsts attempts) (stored_jobs world.store) (each_named world k.stored.replay.specs merge IsActive attempts (whole_of merge world k).body
    (all_to _ _ attempts (λ a there waits. stored_to world _ IsActive a.0 (λ job one. active_if_open job (waiting_open job one.0)) waits) fits.each)) none
change_idle merge party world u jobs (Beat worker attempts) k quiet fits none =
    none_changed (beaten_by worker u) (firsts attempts) (stored_jobs world.store) (each_named world k.stored.replay.specs merge IsActive attempts (whole_of merge world k).body
    (all_to _ _ attempts (λ a there lives. stored_to world _ IsActive a.0 (λ job one. active_if_open job (live_open worker a.1 job one.0)) lives) fits.each)) none
change_idle merge party world u jobs (Finish worker id attempt outputs) k quiet fits none =
    none_changed (finished_by worker u outputs) (id ∷ []) (stored_jobs world.store) (one_named world k.stored.replay.specs merge IsActive id attempt (whole_of merge world k).body
    (stored_to world _ IsActive id (λ job one. active_if_open job (live_open worker attempt job one.live)) fits.finishes)) none
change_idle merge party world u jobs (Release worker attempts) k quiet fits none =
    none_changed to_waiting (firsts attempts) (stored_jobs world.store) (each_named world k.stored.replay.specs merge IsActive attempts (whole_of merge world k).body
    (all_to _ _ attempts (λ a there lives. stored_to world _ IsActive a.0 (λ job one. active_if_open job (live_open worker a.1 job one)) lives) fits.each)) none
change_idle merge party world u jobs (Polled change) k quiet fits none = absurd (cc quiet)

-- ---- calls

same_bring : (version : ℕ) (change : RecordChange) (epoch : ℕ) (jobs : Jobs) → brings_no_job (PutsRecords version change epoch jobs) ≡ brings_none change
same_bring version (RecordsEpoch n) epoch jobs = refl
same_bring version (Submit specs) epoch jobs = refl
same_bring version (Claim worker attempts) epoch jobs = refl
same_bring version (Beat worker attempts) epoch jobs = refl
same_bring version (Finish worker id attempt outputs) epoch jobs = refl
same_bring version (Release worker attempts) epoch jobs = refl
same_bring version (Polled change) epoch jobs = refl

-- No job is active in this store.
abbrev IdleStore : Store → Type 0
IdleStore store = AllByRecursion (λ job. is_active job ≡ false) (stored_jobs store)

-- A lawful exchange that brings no job leaves no job active in the store, if none was.
performed_idle : (merge : Operator) (party : Party) (world : World) (x : Exchange) → Keeps merge world → brings_no_job x ≡ true → Lawful merge party world x → NoneActive world → IdleStore (after_exchange x world.store)
performed_idle merge party world (Plain event) k quiet lawful none = none
performed_idle merge party world (DrawsJob moment) k quiet lawful none = none
performed_idle merge party world (DrawsTable moment) k quiet lawful none = none
performed_idle merge party world (PutsTable table rows) k quiet lawful none = none
performed_idle merge party world (PutsManifest version change value) k quiet lawful none = by (version == world.store.manifest.version)
  where
    by : (b : Bool) → IdleStore (cond b (record world.store { manifest = record value { version = version + 1 } }) world.store)
    by true = none
    by false = none
performed_idle merge party world (PutsRecords version change epoch jobs) k quiet lawful none = by (version == records_version world.store.records) refl
  where
    by : (b : Bool) → (version == records_version world.store.records) ≡ b → IdleStore (cond b (record world.store { records = Some (record { version = version + 1; epoch = epoch; jobs = jobs }) }) world.store)
    by true e =
        let fits = lawful.1 ((Decides-eqb version (records_version world.store.records)).0 e) in
        subst (AllByRecursion (λ (job : Job). is_active job ≡ false)) (sym fits.makes_jobs) (change_idle merge party world fits.unrecorded jobs change k (sym (same_bring version change epoch jobs) ∙ quiet) fits.fits none)
    by false e = none
performed_idle merge party world ListsTables k quiet lawful none = none
performed_idle merge party world (DeletesTable table) k quiet lawful none = none

call_idle : (merge : Operator) → CallStaysIdle merge
call_idle merge x line party None world k quiet lawful may none = performed_idle merge party world x k quiet lawful none
call_idle merge x line party (Some true) world k quiet lawful may none = performed_idle merge party world x k quiet lawful none
call_idle merge x line party (Some false) world k quiet lawful may none = none

rivals_idle : (who : Caller) (calls : List RivalCall) (old new : World) → CallsKeep who.merge → Keeps who.merge old → RivalsFrom who calls old new → AllByRecursion (λ call. brings_no_job call.exchange ≡ true) calls → NoneActive old → NoneActive new
rivals_idle who [] old new keep kept same quiet none = subst NoneActive same none
rivals_idle who (call ∷ calls) old new keep kept lead quiet none =
    rivals_idle who calls (after_rival call old) new keep (keep call.exchange call.line call.party call.strike old kept lead.0.lawful lead.0.strike) lead.1 quiet.1
    (call_idle who.merge call.exchange call.line call.party call.strike old kept quiet.0 lead.0.lawful lead.0.strike none)

pub stays_idle : StaysIdle
stays_idle = record { call = call_idle; rivals = λ who old new keep kept rivals quiet none. rivals_idle who rivals.calls old new keep kept rivals.lead quiet none }
