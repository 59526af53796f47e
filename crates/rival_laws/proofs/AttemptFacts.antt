-- What the history says of an attempt that was claimed: its job was named, is at this attempt or a later one, and is no longer Submitted.
use Rattle.std.proofs.Common.{◌≡◌, refl, sym, ◌∙◌, ap, subst, ℕ, ◌≤◌, List, [], ◌∷◌, ◌++◌, cond, Bool, true, false, Option, Some, None, arith}
use Rattle.std.specs.Prelude.{IsTrue, map, option_map, nat_lt, if◌then◌else◌}
use Rattle.std.specs.List.{AllByRecursion}
use Rattle.std.proofs.lemmas.Bool.{ltb-true}
use Rattle.std.specs.Option.{option_or}
use Rattle.row_model.specs.Fold.{Operator}
use Rattle.fleet_model.specs.Nodes.{Tables}
use Rattle.fleet_model.specs.Jobs.{JobSpec, Job, Jobs, Submitted, has_status}
use Rattle.fleet_model.specs.History.{Event, Entry, PutManifest, PutRecords, ManifestEpoch, Flush, Commit, RecordChange, RecordsEpoch, Submit, Claim, Beat, Finish, Release, Polled, stood}
use Rattle.fleet_model.specs.Work.Records.{Unrecorded, firsts, claimed_by, beaten_by, finished_by, to_waiting, to_scheduled, to_completed, to_failed, after_change}
use Rattle.fleet_model.specs.Past.Replay.{Objects, plain_job, plain_objects, plain_records, after_event, after_entry, replayed_objects}
use Rattle.fleet_model.specs.Store.{Records, fresh_store, jobs_in, stored_jobs}
use Rattle.fleet_model.specs.Past.Claimed.{beaten_in, first_beaten, if_earlier, origin}
use Rattle.step_model.specs.Past.{World}
use Rattle.step_laws.proofs.Elements.{all_from}
use Rattle.step_laws.proofs.Worlds.{beaten_stays}
use Rattle.step_laws.proofs.Bodies.{Body}
use Rattle.step_laws.proofs.TableReplays.{all_trimmed, all_changed, all_with_new}
use Rattle.step_laws.proofs.Beats.{beaten_push}

-- ---- a claimed attempt is up to the stored one

-- ---- a Submitted job has no attempt yet

-- A Submitted job is at attempt 0.
abbrev pub HasNone : Job → Type 0
HasNone job = IsTrue (has_status Submitted job) → job.attempt ≡ 0

-- If all Submitted jobs are at attempt 0, they are so after each change of the records.
none_after : (u : Unrecorded) (change : RecordChange) (jobs : Jobs) → AllByRecursion HasNone jobs → AllByRecursion HasNone (after_change u change jobs)
none_after u (RecordsEpoch epoch) jobs h = h
none_after u (Submit specs) jobs h = all_with_new HasNone specs jobs (all_from _ specs (λ p there is. refl)) h
none_after u (Claim worker attempts) jobs h = all_changed HasNone (claimed_by worker u.moment) (firsts attempts) jobs (λ job old is. absurd (cc is)) h
none_after u (Beat worker attempts) jobs h = all_changed HasNone (beaten_by worker u) (firsts attempts) jobs (λ job old. old) h
none_after u (Finish worker id attempt outputs) jobs h = all_changed HasNone (finished_by worker u outputs) (id ∷ []) jobs (λ job old is. absurd (cc is)) h
none_after u (Release worker attempts) jobs h = all_changed HasNone to_waiting (firsts attempts) jobs (λ job old is. absurd (cc is)) h
none_after u (Polled change) jobs h =
    all_changed HasNone to_failed change.failed _ (λ job old is. absurd (cc is))
    (all_changed HasNone to_completed change.completed _ (λ job old is. absurd (cc is))
    (all_changed HasNone (to_scheduled u.tables_of) change.scheduled _ (λ job old is. absurd (cc is))
    (all_changed HasNone to_waiting change.freed _ (λ job old is. absurd (cc is))
    (all_with_new HasNone change.added jobs (all_from _ change.added (λ p there is. refl)) h))))

plain_none : (jobs : Jobs) → AllByRecursion HasNone jobs → AllByRecursion HasNone (map plain_job jobs)
plain_none [] h = tt
plain_none (job ∷ jobs) h = (h.0, plain_none jobs h.1)

unplain_none : (jobs : Jobs) → AllByRecursion HasNone (map plain_job jobs) → AllByRecursion HasNone jobs
unplain_none [] h = tt
unplain_none (job ∷ jobs) h = (h.0, unplain_none jobs h.1)

event_none : (tables : Tables) (specs : ℕ → JobSpec) (took : Bool) (event : Event) (o : Objects) → AllByRecursion HasNone (jobs_in o.records) → AllByRecursion HasNone (jobs_in (cond took (after_event tables specs event o) o).records)
event_none tables specs false event o h = h
event_none tables specs true (PutManifest (ManifestEpoch epoch)) o h = h
event_none tables specs true (PutManifest (Flush name segment floor tick)) o h = h
event_none tables specs true (PutManifest (Commit steps)) o h = h
event_none tables specs true (PutRecords change) o h = plain_none _ (all_trimmed _ _ (none_after _ change (jobs_in o.records) h))
event_none tables specs true event o h = h

replay_none : (tables : Tables) (specs : ℕ → JobSpec) (history : List Entry) (o : Objects) → AllByRecursion HasNone (jobs_in o.records) → AllByRecursion HasNone (jobs_in (replayed_objects tables specs history o).records)
replay_none tables specs [] o h = h
replay_none tables specs (entry ∷ history) o h = replay_none tables specs history (after_entry tables specs entry o) (event_none tables specs (stood entry.answer) entry.event o h)

pub submitted_none : (merge : Operator) (world : World) (specs : ℕ → JobSpec) → Body merge world specs → AllByRecursion HasNone (stored_jobs world.store)
submitted_none merge world specs b =
    stored world.store.records (subst (λ (o : Objects). AllByRecursion HasNone (jobs_in o.records)) (sym b.objects) (replay_none world.store.tables specs world.store.history (plain_objects fresh_store) tt))
  where
    stored : (records : Option Records) → AllByRecursion HasNone (jobs_in (option_map plain_records records)) → AllByRecursion HasNone (jobs_in records)
    stored None h = h
    stored (Some records) h = unplain_none records.jobs h

-- ---- the origin of an attempt

not_earlier : (n attempt : ℕ) → attempt ≤ n → if_earlier attempt (Some n) ≡ attempt
not_earlier n attempt low = by (nat_lt n attempt) refl
  where
    by : (b : Bool) → nat_lt n attempt ≡ b → cond b n attempt ≡ attempt
    by true e = let less = ltb-true n attempt e in absurd (omega (arith, low, less))
    by false e = refl

-- An entry leaves the origin of an attempt if it is no heartbeat of the job, or one at this attempt or a later one.
pub origin_kept : (history : List Entry) (entry : Entry) (job attempt : ℕ) → ((n : ℕ) → (if stood entry.answer then beaten_in job entry.event else None) ≡ Some n → attempt ≤ n) → origin history job attempt ≡ origin (history ++ entry ∷ []) job attempt
origin_kept history entry job attempt later = by (if stood entry.answer then beaten_in job entry.event else None) refl (first_beaten job history) refl
  where
    by : (o : Option ℕ) → (if stood entry.answer then beaten_in job entry.event else None) ≡ o → (f : Option ℕ) → first_beaten job history ≡ f → if_earlier attempt (first_beaten job history) ≡ if_earlier attempt (first_beaten job (history ++ entry ∷ []))
    by None e f g = ap (if_earlier attempt) (sym (beaten_stays job history entry e))
    by (Some n) e None g = ap (if_earlier attempt) g ∙ sym (ap (if_earlier attempt) (beaten_push job history entry ∙ ap (λ o. option_or o (if stood entry.answer then beaten_in job entry.event else None)) g ∙ e) ∙ not_earlier n attempt (later n e))
    by (Some n) e (Some m) g = ap (if_earlier attempt) g ∙ sym (ap (if_earlier attempt) (beaten_push job history entry ∙ ap (λ o. option_or o (if stood entry.answer then beaten_in job entry.event else None)) g))
