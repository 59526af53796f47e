-- What a coordinator got merges into its local state, and calls that leave both objects keep its fit.
use Rattle.std.proofs.Common.{◌≡◌, ◌≢◌, refl, sym, ◌∙◌, ap, subst, ℕ, ◌+◌, ◌≤◌, List, [], ◌∷◌, ◌++◌, false, Option, Some, None, arith}
use Rattle.std.specs.Prelude.{IsTrue, is_some}
use Rattle.std.specs.List.{AllByRecursion}
use Rattle.std.specs.Option.{option_or}
use Rattle.row_model.specs.Fold.{Operator}
use Rattle.fleet_model.specs.Nodes.{segment_at}
use Rattle.fleet_model.specs.Jobs.{JobSpec, Job, Jobs, job_with, trimmed_jobs, changed_jobs}
use Rattle.fleet_model.specs.History.{Party, Coordinator, RecordChange, RecordsEpoch, Submit, Claim, Beat, Finish, Release, Polled, GetManifest, Entry}
use Rattle.fleet_model.specs.Store.{Manifest, stored_jobs, jobs_in, records_epoch}
use Rattle.fleet_model.specs.Work.Claims.{is_waiting}
use Rattle.fleet_model.specs.Work.Records.{firsts, claimed_by, beaten_by, finished_by, to_waiting}
use Rattle.fleet_model.specs.Work.Parties.{LiveCoordinator}
use Rattle.fleet_model.specs.Exchanges.{Exchange, Plain}
use Rattle.step_model.specs.Past.{World}
use Rattle.step_model.specs.Entries.{was_named, did_put_epoch}
use Rattle.step_model.specs.LawfulRecords.{RecordsFit, IsStoredAs, OfSome, Publishes, IsLiveAt, FinishIsWhole, AreNew}
use Rattle.step_model.specs.Steps.Merging.{Local, merged_trees, taken_job}
use Rattle.step_model.specs.Fits.{JobsMerge, MergesIfThere, KnownIfThere}
use Rattle.step_model.specs.Rivals.{Caller, RivalCall, IsRival, after_call, after_rival}
use Rattle.step_model.specs.Kept.Keeps.{Keeps}
use Rattle.step_laws.proofs.Elements.{IsIn, all_at, all_to}
use Rattle.step_laws.proofs.Bodies.{Body, whole_of}
use Rattle.step_laws.proofs.Changed.{job_found}
use Rattle.step_laws.proofs.Grown.{named_grows}
use Rattle.step_laws.proofs.MuteBodies.{entered}
use Rattle.step_laws.proofs.OpenJobs.{is_open}
use Rattle.step_laws.proofs.WorkerPuts.{each_named, stored_to, live_open}
use Rattle.rival_laws.proofs.Coordinators.{one_put, put_grows, after_epoch, waiting_open, rivals_keep}
use Rattle.rival_laws.proofs.JobsMerged.{IsTaken, open_taken, merge_changed, merge_new}
use Rattle.rival_laws.proofs.Outcomes.{Outcome, Notes, Deletes, NewTable, NewManifest, NewRecords, outcome}
use Rattle.course_laws.proofs.Calls.{keeps_after, rivals_hold}
use Rattle.course_laws.proofs.Later.{entry_by, call_history}
use Rattle.coordinator_laws.specs.Merges.{GotObjectsMerge, MergedJobsAreStored, LooksKeepFit}
use Rattle.coordinator_laws.proofs.Adoption.{combined, find_merged}
use Rattle.coordinator_laws.proofs.Quiet.{HasEpoch, epoch_call, rivals_after}
use Rattle.rival_laws.proofs.FreeTables.{refused}

-- ---- calls that leave both objects

-- A coordinator that fits still fits after each call that leaves the manifest and the records, whoever makes it.
pub looks_keep_fit : LooksKeepFit
looks_keep_fit line party x strike world c local manifest records h = record {
  counted = h.counted;
  put = subst (λ (history : List Entry). IsTrue (did_put_epoch (Coordinator c.number) history c.epoch)) (sym grown) (put_grows (Coordinator c.number) world.store.history entry c.epoch h.put);
  recorded = subst (λ o. c.epoch ≤ records_epoch o) (sym records) h.recorded;
  merges = λ low high. merges local (h.merges (subst (λ (m : Manifest). m.epoch ≤ c.epoch) manifest low) (subst (λ o. records_epoch o ≤ c.epoch) records high));
  known = λ low high. known local (h.known (subst (λ (m : Manifest). m.epoch ≤ c.epoch) manifest low) (subst (λ o. records_epoch o ≤ c.epoch) records high));
}
  where
    new : World
    new = after_call line party x strike world

    entry : Entry
    entry = entry_by line party x strike world.store

    grown : new.store.history ≡ world.store.history ++ entry ∷ []
    grown = call_history line party x strike world.store

    merges : (o : Option Local) → MergesIfThere o world.store → MergesIfThere o new.store
    merges None m = tt
    merges (Some l) m = record { trees = subst (λ (v : Manifest). merged_trees l.manifest.trees v.trees ≡ v.trees) (sym manifest) m.trees; jobs = subst (λ o. JobsMerge l.records.jobs (jobs_in o)) (sym records) m.jobs }

    known : (o : Option Local) → KnownIfThere world o → KnownIfThere new o
    known None k = tt
    known (Some l) k = record {
      segments = subst (λ (v : Manifest). AllByRecursion (λ s. IsTrue (is_some (segment_at s.prefix v.trees))) l.manifest.trees) (sym manifest) k.segments;
      jobs = all_to _ _ l.records.jobs (λ job there named. subst (λ (history : List Entry). IsTrue (was_named history job.id)) (sym grown) (named_grows world.store.history entry job.id named)) k.jobs;
    }

-- ---- merged jobs

pub merged_jobs_are_stored : MergedJobsAreStored
merged_jobs_are_stored local stored id rise merge = find_merged id local stored rise ∙ by (job_with id stored) refl
  where
    by : (o : Option Job) → job_with id stored ≡ o → combined (job_with id local) o ≡ option_or o (job_with id local)
    by None e = refl
    by (Some job) e =
        let found = job_found id stored job e in
        ap (λ n. taken_job (job_with n local) job) (sym found.same) ∙ all_at (λ (s : Job). taken_job (job_with s.id local) s ≡ Some s) stored job merge.stored_stay found.there

-- ---- jobs that others changed since

-- The jobs are known, and the stored ones merge into them as long as no later epoch is in the records.
record JobsHold (mine : Party) (e : ℕ) (local : Jobs) (world : World) : Type 0 where
  own : HasEpoch mine e world
  known : AllByRecursion (λ job. IsTrue (was_named world.store.history job.id)) local
  merge : records_epoch world.store.records ≤ e → JobsMerge local (stored_jobs world.store)

not_named : (world : World) (local : Jobs) (named : List (ℕ × JobSpec)) → AllByRecursion (λ job. IsTrue (was_named world.store.history job.id)) local → AreNew world named → (job : Job) (p : ℕ × JobSpec) → IsIn job local → IsIn p named → job.id ≡ p.0 → ⊥
not_named world local named known new job p there one same =
    refused (was_named world.store.history p.0) (all_at (λ (q : ℕ × JobSpec). was_named world.store.history q.0 ≡ false) named p new one) (subst (λ id. IsTrue (was_named world.store.history id)) same (all_at (λ (j : Job). IsTrue (was_named world.store.history j.id)) local job known there))

-- What a worker's change of open jobs leaves.
worker_merges : (merge : Operator) (world : World) (specs : ℕ → JobSpec) (local : Jobs) (f : Job → Job) (attempts : List (ℕ × ℕ)) → Body merge world specs → ((job : Job) → (f job).id ≡ job.id) → ((job : Job) → IsTrue (is_open job.status) → IsTaken (f job).status)
    → AllByRecursion (λ a. IsStoredAs world a.0 (λ job. IsTrue (is_open job.status))) attempts → JobsMerge local (stored_jobs world.store) → JobsMerge local (trimmed_jobs (changed_jobs f (firsts attempts) (stored_jobs world.store)))
worker_merges merge world specs local f attempts b ids takes opened m = merge_changed local (stored_jobs world.store) f (firsts attempts) (record {
  ids = ids;
  opened = λ job there named. each_named world specs merge (λ job. IsTrue (is_open job.status)) attempts b opened job there named;
  takes = takes;
}) b.trimmed_already m

-- What a change of another party leaves, as long as no later epoch is in the records.
change_merges : (merge : Operator) (world : World) (specs : ℕ → JobSpec) (mine party : Party) (e : ℕ) (local : Jobs) (change : RecordChange) (epoch : ℕ) (jobs : Jobs) → Body merge world specs → party ≢ mine → HasEpoch mine e world
    → RecordsFit merge party world change epoch jobs → epoch ≤ e → AllByRecursion (λ job. IsTrue (was_named world.store.history job.id)) local → JobsMerge local (stored_jobs world.store) → JobsMerge local jobs
change_merges merge world specs mine party e local (RecordsEpoch put) epoch jobs b other own fits low known m =
    let above = fits.fits.above in
    let made : epoch ≡ put = fits.makes_epoch in
    let recorded = own.recorded in
    absurd (omega (arith, above, made, recorded, low))
change_merges merge world specs mine party e local (Submit named) epoch jobs b other own fits low known m =
    subst (JobsMerge local) (sym fits.makes_jobs) (merge_new local (stored_jobs world.store) named (not_named world local named known fits.fits.new) b.trimmed_already m)
change_merges merge world specs mine party e local (Claim worker attempts) epoch jobs b other own fits low known m =
    subst (JobsMerge local) (sym fits.makes_jobs) (worker_merges merge world specs local (claimed_by worker fits.unrecorded.moment) attempts b (λ job. refl) (λ job opened. record { waiting = refl; running = refl })
    (all_to _ _ attempts (λ a there waits. stored_to world (λ job. IsTrue (is_waiting job) × (a.1 ≡ job.attempt + 1)) (λ job. IsTrue (is_open job.status)) a.0 (λ job one. waiting_open job one.0) waits) fits.fits.each) m)
change_merges merge world specs mine party e local (Beat worker attempts) epoch jobs b other own fits low known m =
    subst (JobsMerge local) (sym fits.makes_jobs) (worker_merges merge world specs local (beaten_by worker fits.unrecorded) attempts b (λ job. refl) (λ job opened. open_taken job.status opened)
    (all_to _ _ attempts (λ a there live. stored_to world (λ job. IsLiveAt worker a.1 job × OfSome (Publishes merge party world job) (fits.unrecorded.published a.0)) (λ job. IsTrue (is_open job.status)) a.0
    (λ job one. live_open worker a.1 job one.0) live) fits.fits.each) m)
change_merges merge world specs mine party e local (Finish worker id attempt outputs) epoch jobs b other own fits low known m =
    subst (JobsMerge local) (sym fits.makes_jobs) (worker_merges merge world specs local (finished_by worker fits.unrecorded outputs) ((id, attempt) ∷ []) b (λ job. refl) (λ job opened. record { waiting = refl; running = refl })
    (stored_to world (FinishIsWhole merge party world fits.unrecorded worker attempt outputs) (λ job. IsTrue (is_open job.status)) id (λ job one. live_open worker attempt job one.live) fits.fits.finishes, tt) m)
change_merges merge world specs mine party e local (Release worker attempts) epoch jobs b other own fits low known m =
    subst (JobsMerge local) (sym fits.makes_jobs) (worker_merges merge world specs local to_waiting attempts b (λ job. refl) (λ job opened. record { waiting = refl; running = refl })
    (all_to _ _ attempts (λ a there live. stored_to world (IsLiveAt worker a.1) (λ job. IsTrue (is_open job.status)) a.0 (λ job one. live_open worker a.1 job one) live) fits.fits.each) m)
change_merges merge world specs mine party e local (Polled change) epoch jobs b other own fits low known m =
    let up = after_epoch merge world party (Polled change) epoch jobs fits in
    let recorded = own.recorded in
    let same : records_epoch world.store.records ≡ e = omega (arith, up, recorded, low) in
    absurd (other (one_put world.store.manifest.epoch world.store.history e party mine b.epochs (subst (λ n. IsTrue (did_put_epoch party world.store.history n)) same fits.fits.by) own.put))

-- A call of another party.
merge_stays : (merge : Operator) (world new : World) (mine party : Party) (e : ℕ) (local : Jobs) (x : Exchange) → Keeps merge world → party ≢ mine → JobsHold mine e local world → records_epoch world.store.records ≤ records_epoch new.store.records → Outcome merge party world x new
    → records_epoch new.store.records ≤ e → JobsMerge local (stored_jobs new.store)
merge_stays merge world new mine party e local x k other h rises (Notes jobs_drawn tables_drawn entry mute is) low = same is (h.merge (omega (arith, rises, low)))
  where
    same : new ≡ entered world world.store.deleted jobs_drawn tables_drawn entry → JobsMerge local (stored_jobs world.store) → JobsMerge local (stored_jobs new.store)
    same is m = subst (λ (t : World). JobsMerge local (stored_jobs t.store)) (sym is) m
merge_stays merge world new mine party e local x k other h rises (Deletes table entry same mute fits is) low = subst (λ (t : World). JobsMerge local (stored_jobs t.store)) (sym is) (h.merge (omega (arith, rises, low)))
merge_stays merge world new mine party e local x k other h rises (NewTable table rows entry mute fits is) low = subst (λ (t : World). JobsMerge local (stored_jobs t.store)) (sym is) (h.merge (omega (arith, rises, low)))
merge_stays merge world new mine party e local x k other h rises (NewManifest version change value line answer took same fits is) low = subst (λ (t : World). JobsMerge local (stored_jobs t.store)) (sym is) (h.merge (omega (arith, rises, low)))
merge_stays merge world new mine party e local x k other h rises (NewRecords change epoch jobs line answer took names fits is) low =
    subst (λ (t : World). JobsMerge local (stored_jobs t.store)) (sym is)
    (change_merges merge world k.stored.replay.specs mine party e local change epoch jobs (whole_of merge world k).body other h.own fits (subst (λ (t : World). records_epoch t.store.records ≤ e) is low) h.known (h.merge (omega (arith, rises, low))))

jobs_hold : (who : Caller) (e : ℕ) (local : Jobs) (world : World) (call : RivalCall) → Keeps who.merge world → IsRival who world call → JobsHold who.party e local world → JobsHold who.party e local (after_rival call world)
jobs_hold who e local world call k rival h =
    let epoch = epoch_call who e call.line call.party call.exchange call.strike world rival.lawful rival.strike h.own in
    record {
      own = epoch.0;
      known = all_to _ _ local (λ job there named. subst (λ (history : List Entry). IsTrue (was_named history job.id)) (sym (call_history call.line call.party call.exchange call.strike world.store))
          (named_grows world.store.history (entry_by call.line call.party call.exchange call.strike world.store) job.id named)) h.known;
      merge = merge_stays who.merge world _ who.party call.party e local call.exchange k rival.other h epoch.1 (outcome who.merge call.exchange call.line call.party call.strike world rival.lawful rival.strike);
    }

-- ---- the two gets

-- Merging the objects that a coordinator got into its local state gives what it got, but for finished local jobs, as
-- long as neither object has a later epoch.
pub got_objects_merge : GotObjectsMerge
got_objects_merge who old m r number epoch local keep by kept holds before manifest between records =
    let c : LiveCoordinator = record { number = number; epoch = epoch } in
    let kept_m = (rivals_after who epoch old m keep kept (record { put = subst (λ party. IsTrue (did_put_epoch party old.store.history epoch)) (sym by) holds.put; recorded = holds.recorded }) before).kept in
    let at = rivals_keep who old m c (Some local) keep by kept before holds in
    let own : HasEpoch who.party epoch m = record { put = subst (λ party. IsTrue (did_put_epoch party m.store.history epoch)) (sym by) at.put; recorded = at.recorded } in
    let first = after_call who.line who.party (Plain GetManifest) None m in
    let kept_first = keeps_after who (Plain GetManifest) m keep kept_m tt in
    let own_first = (epoch_call who epoch who.line who.party (Plain GetManifest) None m tt tt own).0 in
    let rises = (rivals_after who epoch first r keep kept_first own_first between).rises in
    let low : records_epoch m.store.records ≤ epoch = omega (arith, rises, records) in
    let start : JobsHold who.party epoch local.records.jobs first = record {
      own = own_first;
      known = ((looks_keep_fit who.line who.party (Plain GetManifest) None m c (Some local) refl refl at).known manifest low).jobs;
      merge = λ _. (at.merges manifest low).jobs;
    } in
    ((at.merges manifest low).trees, (rivals_hold who (JobsHold who.party epoch local.records.jobs) keep (jobs_hold who epoch local.records.jobs) first r kept_first between start).merge records)
