-- The outputs of a finished job are those that the history names: a replay shows it.
use Rattle.std.proofs.Common.{◌≡◌, refl, sym, ◌∙◌, ap, subst, ℕ, List, [], ◌∷◌, ◌++◌, cond, Bool, true, false, Option, Some, None}
use Rattle.std.specs.Prelude.{◌==◌, nat_lt, IsTrue, map, option_map}
use Rattle.std.specs.List.{AllByRecursion}
use Rattle.std.specs.Option.{unwrap_or}
use Rattle.fleet_model.specs.Nodes.{Tables}
use Rattle.fleet_model.specs.Jobs.{JobSpec, Job, Jobs, Compacted, has_status, contains, changed_jobs, put_job}
use Rattle.fleet_model.specs.History.{Event, PutManifest, PutRecords, ManifestChange, ManifestEpoch, Flush, Commit, RecordChange, RecordsEpoch, Submit, Claim, Beat, Finish, Release, Polled, Entry, stood}
use Rattle.fleet_model.specs.Store.{Records, Store, fresh_store, stored_jobs, jobs_in}
use Rattle.fleet_model.specs.Past.Replay.{Objects, IsReplayed, plain_job, plain_records, plain_objects, after_manifest_change, after_event, after_entry, replayed_objects}
use Rattle.fleet_model.specs.Work.Records.{Unrecorded, firsts, new_job, with_new, claimed_by, beaten_by, finished_by, to_waiting, to_scheduled, to_completed, to_failed, after_change}
use Rattle.step_laws.proofs.TableReplays.{all_trimmed}
use Rattle.line_laws.specs.Lines.CommittedTables.{finished_with, named_after, outputs_named}

-- What is named of each job by its id.
abbrev Named : Type 0
Named = ℕ → List (List ℕ)

-- A finished job has the named outputs.
abbrev HasNamed : Named → Job → Type 0
HasNamed named job = IsTrue (has_status Compacted job) → job.outputs ≡ named job.id

-- ---- changes of jobs

-- A change that keeps what is so of each job, and only of those that it changes something else.
changed_have : (before after : Named) (f : Job → Job) (these : List ℕ) (jobs : Jobs) → ((job : Job) → contains these job.id ≡ true → HasNamed before job → HasNamed after (f job)) → ((job : Job) → contains these job.id ≡ false → HasNamed before job → HasNamed after job)
    → AllByRecursion (HasNamed before) jobs → AllByRecursion (HasNamed after) (changed_jobs f these jobs)
changed_have before after f these [] changes stays all = tt
changed_have before after f these (job ∷ jobs) changes stays all = (by (contains these job.id) refl, changed_have before after f these jobs changes stays all.1)
  where
    by : (b : Bool) → contains these job.id ≡ b → HasNamed after (cond b (f job) job)
    by true e = changes job e all.0
    by false e = stays job e all.0

-- A change after which no changed job is finished, or that leaves status and outputs.
same_have : (named : Named) (f : Job → Job) (these : List ℕ) (jobs : Jobs) → ((job : Job) → HasNamed named job → HasNamed named (f job)) → AllByRecursion (HasNamed named) jobs → AllByRecursion (HasNamed named) (changed_jobs f these jobs)
same_have named f these jobs changes all = changed_have named named f these jobs (λ job there h. changes job h) (λ job none h. h) all

put_have : (named : Named) (new : Job) (jobs : Jobs) → HasNamed named new → AllByRecursion (HasNamed named) jobs → AllByRecursion (HasNamed named) (put_job new jobs)
put_have named new [] one all = (one, tt)
put_have named new (job ∷ jobs) one all = by (nat_lt new.id job.id) (put_have named new jobs one all.1)
  where
    by : (b : Bool) → AllByRecursion (HasNamed named) (put_job new jobs) → AllByRecursion (HasNamed named) (cond b (new ∷ job ∷ jobs) (job ∷ put_job new jobs))
    by true rest = (one, all)
    by false rest = (all.0, rest)

-- New jobs are not finished.
new_have : (named : Named) (specs : List (ℕ × JobSpec)) (jobs : Jobs) → AllByRecursion (HasNamed named) jobs → AllByRecursion (HasNamed named) (with_new specs jobs)
new_have named [] jobs all = all
new_have named (p ∷ specs) jobs all = new_have named specs (put_job (new_job p) jobs) (put_have named (new_job p) jobs (λ e. absurd (cc e)) all)

-- What a change of the records names.
abbrev with_change : RecordChange → Named → Named
with_change change named id = unwrap_or (finished_with id (PutRecords change)) (named id)

-- After a finish the history names the outputs of its job, and those of the other jobs as before.
finish_have : (named : Named) (unrecorded : Unrecorded) (worker id attempt : ℕ) (outputs : List (List ℕ)) (jobs : Jobs) → AllByRecursion (HasNamed named) jobs
    → AllByRecursion (HasNamed (with_change (Finish worker id attempt outputs) named)) (changed_jobs (finished_by worker unrecorded outputs) (id ∷ []) jobs)
finish_have named unrecorded worker id attempt outputs jobs all =
    changed_have named (with_change (Finish worker id attempt outputs) named) (finished_by worker unrecorded outputs) (id ∷ []) jobs (λ job there h finished. ended job (id == job.id) there) (λ job none h finished. h finished ∙ other job (id == job.id) none) all
  where
    ended : (job : Job) (b : Bool) → cond b true false ≡ true → outputs ≡ unwrap_or (cond b (Some outputs) None) (named job.id)
    ended job true e = refl
    ended job false e = absurd (cc e)

    other : (job : Job) (b : Bool) → cond b true false ≡ false → named job.id ≡ unwrap_or (cond b (Some outputs) None) (named job.id)
    other job true e = absurd (cc e)
    other job false e = refl

-- So it is after each change of the records.
change_have : (named : Named) (unrecorded : Unrecorded) (change : RecordChange) (jobs : Jobs) → AllByRecursion (HasNamed named) jobs → AllByRecursion (HasNamed (with_change change named)) (after_change unrecorded change jobs)
change_have named unrecorded (RecordsEpoch epoch) jobs all = all
change_have named unrecorded (Submit specs) jobs all = new_have named specs jobs all
change_have named unrecorded (Claim worker attempts) jobs all = same_have named (claimed_by worker unrecorded.moment) (firsts attempts) jobs (λ job h e. absurd (cc e)) all
change_have named unrecorded (Beat worker attempts) jobs all = same_have named (beaten_by worker unrecorded) (firsts attempts) jobs (λ job h e. h e) all
change_have named unrecorded (Finish worker id attempt outputs) jobs all = finish_have named unrecorded worker id attempt outputs jobs all
change_have named unrecorded (Release worker attempts) jobs all = same_have named to_waiting (firsts attempts) jobs (λ job h e. absurd (cc e)) all
change_have named unrecorded (Polled change) jobs all =
    same_have named to_failed change.failed _ (λ job h e. absurd (cc e))
    (same_have named to_completed change.completed _ (λ job h e. absurd (cc e))
    (same_have named (to_scheduled unrecorded.tables_of) change.scheduled _ (λ job h e. absurd (cc e))
    (same_have named to_waiting change.freed _ (λ job h e. absurd (cc e)) (new_have named change.added jobs all))))

plain_have : (named : Named) (jobs : Jobs) → AllByRecursion (HasNamed named) jobs → AllByRecursion (HasNamed named) (map plain_job jobs)
plain_have named [] all = tt
plain_have named (job ∷ jobs) all = (all.0, plain_have named jobs all.1)

have_plain : (named : Named) (jobs : Jobs) → AllByRecursion (HasNamed named) (map plain_job jobs) → AllByRecursion (HasNamed named) jobs
have_plain named [] all = tt
have_plain named (job ∷ jobs) all = (all.0, have_plain named jobs all.1)

-- ---- replays

-- What one more entry names.
abbrev with_entry : Entry → Named → Named
with_entry entry named id = cond (stood entry.answer) (unwrap_or (finished_with id entry.event) (named id)) (named id)

manifest_records : (tables : Tables) (specs : ℕ → JobSpec) (change : ManifestChange) (o : Objects) → (after_manifest_change tables specs change o).records ≡ o.records
manifest_records tables specs (ManifestEpoch epoch) o = refl
manifest_records tables specs (Flush name segment floor tick) o = refl
manifest_records tables specs (Commit steps) o = refl

event_have : (tables : Tables) (specs : ℕ → JobSpec) (event : Event) (named : Named) (o : Objects) → AllByRecursion (HasNamed named) (jobs_in o.records)
    → AllByRecursion (HasNamed (λ id. unwrap_or (finished_with id event) (named id))) (jobs_in (after_event tables specs event o).records)
event_have tables specs (PutRecords change) named o all = plain_have (with_change change named) _ (all_trimmed (HasNamed (with_change change named)) _ (change_have named _ change (jobs_in o.records) all))
event_have tables specs (PutManifest change) named o all = subst (λ (r : Option Records). AllByRecursion (HasNamed named) (jobs_in r)) (sym (manifest_records tables specs change o)) all
event_have tables specs event named o all = all

entry_have : (tables : Tables) (specs : ℕ → JobSpec) (entry : Entry) (named : Named) (o : Objects) → AllByRecursion (HasNamed named) (jobs_in o.records) → AllByRecursion (HasNamed (with_entry entry named)) (jobs_in (after_entry tables specs entry o).records)
entry_have tables specs entry named o all = by (stood entry.answer)
  where
    by : (b : Bool) → AllByRecursion (HasNamed (λ id. cond b (unwrap_or (finished_with id entry.event) (named id)) (named id))) (jobs_in (cond b (after_event tables specs entry.event o) o).records)
    by true = event_have tables specs entry.event named o all
    by false = all

replayed_have : (tables : Tables) (specs : ℕ → JobSpec) (history : List Entry) (named : Named) (o : Objects) → AllByRecursion (HasNamed named) (jobs_in o.records)
    → AllByRecursion (HasNamed (λ id. named_after (named id) history id)) (jobs_in (replayed_objects tables specs history o).records)
replayed_have tables specs [] named o all = all
replayed_have tables specs (entry ∷ history) named o all = replayed_have tables specs history (with_entry entry named) (after_entry tables specs entry o) (entry_have tables specs entry named o all)

plain_in : (o : Option Records) → jobs_in (option_map plain_records o) ≡ map plain_job (jobs_in o)
plain_in None = refl
plain_in (Some records) = refl

-- In a store that its history replays, each finished job has the outputs that the history names.
pub stored_have : (store : Store) → IsReplayed store → AllByRecursion (λ job. IsTrue (has_status Compacted job) → job.outputs ≡ outputs_named store.history job.id) (stored_jobs store)
stored_have store replay =
    let named : Named = λ id. outputs_named store.history id in
    have_plain named (stored_jobs store)
    (subst (AllByRecursion (HasNamed named)) (sym (ap (λ (o : Objects). jobs_in o.records) replay.objects) ∙ plain_in store.records)
    (replayed_have store.tables replay.specs store.history (λ id. []) (plain_objects fresh_store) tt))

-- ---- histories that grow

-- Entries that finish no job name nothing.
pub nothing_named : (front back : List Entry) (outputs : List (List ℕ)) (id : ℕ) → AllByRecursion (λ (entry : Entry). finished_with id entry.event ≡ None) back → named_after outputs (front ++ back) id ≡ named_after outputs front id
nothing_named [] [] outputs id none = refl
nothing_named [] (entry ∷ back) outputs id none = by (stood entry.answer) ∙ nothing_named [] back outputs id none.1
  where
    by : (b : Bool) → named_after (cond b (unwrap_or (finished_with id entry.event) outputs) outputs) back id ≡ named_after outputs back id
    by true = ap (λ (o : Option (List (List ℕ))). named_after (unwrap_or o outputs) back id) none.0
    by false = refl
nothing_named (entry ∷ front) back outputs id none = nothing_named front back (cond (stood entry.answer) (unwrap_or (finished_with id entry.event) outputs) outputs) id none
