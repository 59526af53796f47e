-- A lawful call of another party keeps what a coordinator holds.
use Rattle.std.proofs.Common.{◌≡◌, ◌≢◌, refl, sym, ◌∙◌, ap, subst, ℕ, ◌≤◌, ◌<◌, List, [], ◌∷◌, ◌++◌, Bool, true, false, inl, Option, Some, None, arith}
use Rattle.std.specs.Prelude.{IsTrue, ◌&&◌, ◌||◌, is_some, is_none, ⊤}
use Rattle.std.specs.List.{AllByRecursion}
use Rattle.std.proofs.lemmas.Bool.Decides.{Decides-eqb}
use Rattle.row_model.specs.Fold.{Operator}
use Rattle.fleet_model.specs.Nodes.{Tables, segment_at, table_rows}
use Rattle.fleet_model.specs.Jobs.{JobSpec, Job, Jobs, Scheduled, Running, has_status, changed_jobs, trimmed_jobs}
use Rattle.fleet_model.specs.History.{Party, Coordinator, Event, PutManifest, ManifestChange, ManifestEpoch, Flush, Commit, RecordChange, RecordsEpoch, Submit, Claim, Beat, Finish, Release, Polled, Entry, stood}
use Rattle.fleet_model.specs.Store.{Manifest, Records, stored_jobs, records_epoch}
use Rattle.fleet_model.specs.Work.Records.{Unrecorded, firsts, claimed_by, beaten_by, finished_by, to_waiting}
use Rattle.fleet_model.specs.Past.Replay.{epoch_after}
use Rattle.fleet_model.specs.Trees.{flushed_trees}
use Rattle.fleet_model.specs.Work.Parties.{LiveCoordinator}
use Rattle.fleet_model.specs.Work.Claims.{is_waiting}
use Rattle.fleet_model.specs.Exchanges.{Exchange}
use Rattle.step_model.specs.Past.{World}
use Rattle.step_model.specs.Entries.{did_put_epoch, is_epoch_put, put_epochs, epoch_in, party_eq, was_named}
use Rattle.step_model.specs.Steps.Merging.{Local, merged_trees}
use Rattle.step_model.specs.Fits.{MergesIfThere, JobsMerge, LocalIsKnown, KnownIfThere, CoordinatorHolds}
use Rattle.step_model.specs.LawfulManifests.{ManifestFits}
use Rattle.step_model.specs.LawfulRecords.{RecordsFit, ChangeFits, IsStoredAs, AreNew, OfSome, Publishes, IsLiveAt, FinishIsWhole}
use Rattle.step_model.specs.Rivals.{Caller, RivalCall, RivalsFrom, after_rival}
use Rattle.step_model.specs.Kept.Facts.{EpochsKept}
use Rattle.step_model.specs.Kept.Keeps.{Keeps}
use Rattle.step_laws.specs.Runs.{CallsKeep}
use Rattle.step_laws.proofs.Elements.{IsIn, all_at, all_to, any_front}
use Rattle.step_laws.proofs.Grown.{named_grows}
use Rattle.step_laws.proofs.Bodies.{Body, whole_of}
use Rattle.step_laws.proofs.Deletions.{in_flat}
use Rattle.step_laws.proofs.FlushTrees.{rising_from}
use Rattle.step_laws.proofs.OpenJobs.{is_open}
use Rattle.step_laws.proofs.WorkerPuts.{each_named, stored_to, live_open}
use Rattle.step_laws.proofs.ManifestBodies.{with_manifest}
use Rattle.step_laws.proofs.RecordsBodies.{with_records}
use Rattle.rival_laws.specs.FitLaws.{CoordinatorsKeep, RivalsKeepCoordinators}
use Rattle.rival_laws.proofs.Outcomes.{Outcome, Notes, Deletes, NewTable, NewManifest, NewRecords, outcome, put_manifest, put_records}
use Rattle.rival_laws.proofs.SameParty.{did_entry, same_party}
use Rattle.rival_laws.proofs.TreesMerged.{segment_stays, merge_flushed}
use Rattle.rival_laws.proofs.JobsMerged.{IsTaken, open_taken, merge_changed, merge_new}

-- ---- epochs

epoch_said : (n : ℕ) (took : Bool) (event : Event) → is_epoch_put n event ≡ true → took ≡ true → IsIn n (epoch_in took event)
epoch_said n true (PutManifest (ManifestEpoch other)) e is = inl (sym ((Decides-eqb n other).0 e))
epoch_said n false event e is = absurd (cc is)
epoch_said n true event e is = absurd (cc e)

-- Each epoch was put by one party.
pub one_put : (epoch : ℕ) (history : List Entry) (n : ℕ) (one other : Party) → EpochsKept epoch history → IsTrue (did_put_epoch one history n) → IsTrue (did_put_epoch other history n) → one ≡ other
one_put epoch history n one other k first second =
    same_party (is_epoch_put n) (λ (e : Entry). epoch_in (stood e.answer) e.event) (λ a b. a < b) n one other history (λ low. absurd (omega (arith, low))) (λ e is took. epoch_said n (stood e.answer) e.event is took) k.rise first second

-- An epoch that was put is at most the stored one.
pub put_low : (epoch : ℕ) (history : List Entry) (n : ℕ) (party : Party) → EpochsKept epoch history → IsTrue (did_put_epoch party history n) → n ≤ epoch
put_low epoch history n party k did =
    let found = did_entry (is_epoch_put n) party history did in
    all_at (λ put. put ≤ epoch) (put_epochs history) n k.up_to (in_flat (λ (e : Entry). epoch_in (stood e.answer) e.event) history found.entry n found.there (epoch_said n (stood found.entry.answer) found.entry.event found.kind found.took))

pub put_grows : (party : Party) (history : List Entry) (entry : Entry) (n : ℕ) → IsTrue (did_put_epoch party history n) → IsTrue (did_put_epoch party (history ++ entry ∷ []) n)
put_grows party history entry n h = any_front (λ (e : Entry). party_eq party e.party && is_epoch_put n e.event && stood e.answer) history (entry ∷ []) h

-- ---- an entry alone

-- What a coordinator holds stays so after an entry that leaves the manifest and the records.
knows_noted : (world : World) (c : LiveCoordinator) (local : Option Local) (tables : Tables) (deleted : List ℕ) (jobs_drawn tables_drawn : ℕ) (past : List Manifest) (entry : Entry) → CoordinatorHolds world c local
    → CoordinatorHolds (record { store = record world.store { tables = tables; deleted = deleted; jobs_drawn = jobs_drawn; tables_drawn = tables_drawn; history = world.store.history ++ entry ∷ [] }; past = past }) c local
knows_noted world c local tables deleted jobs_drawn tables_drawn past entry h = record {
  counted = h.counted;
  put = put_grows (Coordinator c.number) world.store.history entry c.epoch h.put;
  recorded = h.recorded;
  merges = λ manifest records. merges local (h.merges manifest records);
  known = λ manifest records. known local (h.known manifest records);
}
  where
    merges : (o : Option Local) → MergesIfThere o world.store → MergesIfThere o (record world.store { tables = tables; deleted = deleted; jobs_drawn = jobs_drawn; tables_drawn = tables_drawn; history = world.store.history ++ entry ∷ [] })
    merges None m = tt
    merges (Some l) m = record { trees = m.trees; jobs = record { stored_stay = m.jobs.stored_stay; local_stay = m.jobs.local_stay } }

    known : (o : Option Local) → KnownIfThere world o
        → KnownIfThere (record { store = record world.store { tables = tables; deleted = deleted; jobs_drawn = jobs_drawn; tables_drawn = tables_drawn; history = world.store.history ++ entry ∷ [] }; past = past }) o
    known None m = tt
    known (Some l) m = record { segments = m.segments; jobs = all_to _ _ l.records.jobs (λ job there named. named_grows world.store.history entry job.id named) m.jobs }

-- ---- a manifest

-- The new trees are merged as the old ones were, if no stored epoch is above the coordinator's.
abbrev TreesFollow : World → LiveCoordinator → Manifest → Type 0
TreesFollow world c manifest = manifest.epoch ≤ c.epoch → records_epoch world.store.records ≤ c.epoch → (local : Local) → LocalIsKnown world local → merged_trees local.manifest.trees world.store.manifest.trees ≡ world.store.manifest.trees
    → (merged_trees local.manifest.trees manifest.trees ≡ manifest.trees) × AllByRecursion (λ s. IsTrue (is_some (segment_at s.prefix manifest.trees))) local.manifest.trees

-- What a coordinator holds stays so under a manifest of no lower epoch, if its local trees merge as they did.
knows_manifest : (world : World) (c : LiveCoordinator) (local : Option Local) (manifest : Manifest) (entry : Entry) → world.store.manifest.epoch ≤ manifest.epoch → TreesFollow world c manifest → CoordinatorHolds world c local
    → CoordinatorHolds (with_manifest world manifest entry) c local
knows_manifest world c local manifest entry rises follow h = record {
  counted = h.counted;
  put = put_grows (Coordinator c.number) world.store.history entry c.epoch h.put;
  recorded = h.recorded;
  merges = λ low records. merges local low records (h.known (omega (arith, rises, low)) records) (h.merges (omega (arith, rises, low)) records);
  known = λ low records. known local low records (h.known (omega (arith, rises, low)) records) (h.merges (omega (arith, rises, low)) records);
}
  where
    merges : (o : Option Local) → manifest.epoch ≤ c.epoch → records_epoch world.store.records ≤ c.epoch → KnownIfThere world o → MergesIfThere o world.store → MergesIfThere o (with_manifest world manifest entry).store
    merges None low records k m = tt
    merges (Some l) low records k m = record { trees = (follow low records l k m.trees).0; jobs = record { stored_stay = m.jobs.stored_stay; local_stay = m.jobs.local_stay } }

    known : (o : Option Local) → manifest.epoch ≤ c.epoch → records_epoch world.store.records ≤ c.epoch → KnownIfThere world o → MergesIfThere o world.store → KnownIfThere (with_manifest world manifest entry) o
    known None low records k m = tt
    known (Some l) low records k m = record { segments = (follow low records l k m.trees).1; jobs = all_to _ _ l.records.jobs (λ job there named. named_grows world.store.history entry job.id named) k.jobs }

pub manifest_epoch : (world : World) (party : Party) (change : ManifestChange) (value : Manifest) → ManifestFits party world change value → world.store.manifest.epoch ≤ value.epoch
manifest_epoch world party (ManifestEpoch epoch) value fits = let above = fits.above in let same : value.epoch ≡ epoch = ap (λ (m : Manifest). m.epoch) fits.makes in omega (arith, above, same)
manifest_epoch world party (Flush name segment floor tick) value fits = let same : value.epoch ≡ world.store.manifest.epoch = ap (λ (m : Manifest). m.epoch) fits.makes in omega (arith, same)
manifest_epoch world party (Commit steps) value fits = let same : value.epoch ≡ world.store.manifest.epoch = ap (λ (m : Manifest). m.epoch) fits.makes in omega (arith, same)

-- While no epoch is above a coordinator's, another's lawful put of the manifest leaves how its trees merge.
trees_follow : (merge : Operator) (world : World) (specs : ℕ → JobSpec) (party : Party) (c : LiveCoordinator) (change : ManifestChange) (value : Manifest) → Body merge world specs → party ≢ Coordinator c.number
    → IsTrue (did_put_epoch (Coordinator c.number) world.store.history c.epoch) → ManifestFits party world change value → TreesFollow world c value
trees_follow merge world specs party c (ManifestEpoch epoch) value b other put fits low records local known e =
    let above = fits.above in
    let same : value.epoch ≡ epoch = ap (λ (m : Manifest). m.epoch) fits.makes in
    let high = put_low world.store.manifest.epoch world.store.history c.epoch (Coordinator c.number) b.epochs put in
    absurd (omega (arith, above, same, high, low))
trees_follow merge world specs party c (Flush name segment floor tick) value b other put fits low records local known e =
    let trees : flushed_trees segment name (table_rows world.store.tables name) world.store.manifest.trees ≡ value.trees = sym (ap (λ (m : Manifest). m.trees) fits.makes) in (
      subst (λ ts. merged_trees local.manifest.trees ts ≡ ts) trees
          (merge_flushed world.store.history local.manifest.trees segment name (table_rows world.store.tables name) world.store.manifest.trees (rising_from world.store.manifest.trees b.sound.prefixes) fits.once b.nodes.watermarks known.segments e),
      subst (λ ts. AllByRecursion (λ s. IsTrue (is_some (segment_at s.prefix ts))) local.manifest.trees) trees
          (all_to _ _ local.manifest.trees (λ s there stored. segment_stays s.prefix segment name (table_rows world.store.tables name) world.store.manifest.trees stored) known.segments),
    )
trees_follow merge world specs party c (Commit []) value b other put fits low records local known e =
    let trees : world.store.manifest.trees ≡ value.trees = sym (ap (λ (m : Manifest). m.trees) fits.makes) in
    (subst (λ ts. merged_trees local.manifest.trees ts ≡ ts) trees e, subst (λ ts. AllByRecursion (λ s. IsTrue (is_some (segment_at s.prefix ts))) local.manifest.trees) trees known.segments)
trees_follow merge world specs party c (Commit (step ∷ steps)) value b other put fits low records local known e =
    let same : value.epoch ≡ world.store.manifest.epoch = ap (λ (m : Manifest). m.epoch) fits.makes in
    let high = put_low world.store.manifest.epoch world.store.history c.epoch (Coordinator c.number) b.epochs put in
    let own : world.store.manifest.epoch ≡ c.epoch = omega (arith, same, high, low) in
    absurd (other (one_put world.store.manifest.epoch world.store.history c.epoch party (Coordinator c.number) b.epochs (subst (λ n. IsTrue (did_put_epoch party world.store.history n)) own fits.by.0) put))

-- ---- records

abbrev JobsFollow : World → LiveCoordinator → ℕ → Jobs → Type 0
JobsFollow world c epoch jobs = epoch ≤ c.epoch → (local : Local) → LocalIsKnown world local → JobsMerge local.records.jobs (stored_jobs world.store) → JobsMerge local.records.jobs jobs

-- What a coordinator holds stays so with records of no lower epoch, if its local jobs merge as they did.
knows_records : (world : World) (c : LiveCoordinator) (local : Option Local) (records : Records) (entry : Entry) → records_epoch world.store.records ≤ records.epoch → JobsFollow world c records.epoch records.jobs → CoordinatorHolds world c local
    → CoordinatorHolds (with_records world records entry) c local
knows_records world c local records entry rises follow h = record {
  counted = h.counted;
  put = put_grows (Coordinator c.number) world.store.history entry c.epoch h.put;
  recorded = let low = h.recorded in omega (arith, low, rises);
  merges = λ manifest low. merges local low (h.known manifest (omega (arith, rises, low))) (h.merges manifest (omega (arith, rises, low)));
  known = λ manifest low. known local (h.known manifest (omega (arith, rises, low)));
}
  where
    merges : (o : Option Local) → records.epoch ≤ c.epoch → KnownIfThere world o → MergesIfThere o world.store → MergesIfThere o (with_records world records entry).store
    merges None low k m = tt
    merges (Some l) low k m = record { trees = m.trees; jobs = follow low l k m.jobs }

    known : (o : Option Local) → KnownIfThere world o → KnownIfThere (with_records world records entry) o
    known None k = tt
    known (Some l) k = record { segments = k.segments; jobs = all_to _ _ l.records.jobs (λ job there named. named_grows world.store.history entry job.id named) k.jobs }

-- A lawful put of the records does not lower their epoch.
pub after_epoch : (merge : Operator) (world : World) (party : Party) (change : RecordChange) (epoch : ℕ) (jobs : Jobs) → RecordsFit merge party world change epoch jobs → records_epoch world.store.records ≤ epoch
after_epoch merge world party change epoch jobs fits = by change world.store.records (above change fits.unrecorded jobs fits.fits) fits.makes_epoch
  where
    rises : RecordChange → ℕ → Type 0
    rises (RecordsEpoch put) old = old < put
    rises change old = ⊤

    above : (change : RecordChange) (u : Unrecorded) (jobs : Jobs) → ChangeFits merge party world u jobs change → rises change (records_epoch world.store.records)
    above (RecordsEpoch put) u jobs f = f.above
    above (Submit named) u jobs f = tt
    above (Claim worker attempts) u jobs f = tt
    above (Beat worker attempts) u jobs f = tt
    above (Finish worker id attempt outputs) u jobs f = tt
    above (Release worker attempts) u jobs f = tt
    above (Polled p) u jobs f = tt

    by : (change : RecordChange) (records : Option Records) → rises change (records_epoch records) → epoch ≡ epoch_after change records → records_epoch records ≤ epoch
    by (RecordsEpoch put) records up made = omega (arith, up, made)
    by (Submit named) None up made = omega (arith)
    by (Submit named) (Some records) up made = omega (arith, made)
    by (Claim worker attempts) None up made = omega (arith)
    by (Claim worker attempts) (Some records) up made = omega (arith, made)
    by (Beat worker attempts) None up made = omega (arith)
    by (Beat worker attempts) (Some records) up made = omega (arith, made)
    by (Finish worker id attempt outputs) None up made = omega (arith)
    by (Finish worker id attempt outputs) (Some records) up made = omega (arith, made)
    by (Release worker attempts) None up made = omega (arith)
    by (Release worker attempts) (Some records) up made = omega (arith, made)
    by (Polled p) None up made = omega (arith)
    by (Polled p) (Some records) up made = omega (arith, made)

-- What a worker's change of open jobs leaves.
worker_follows : (merge : Operator) (world : World) (specs : ℕ → JobSpec) (c : LiveCoordinator) (epoch : ℕ) (f : Job → Job) (attempts : List (ℕ × ℕ)) (jobs : Jobs) → Body merge world specs → ((job : Job) → (f job).id ≡ job.id) → ((job : Job) → IsTrue (is_open job.status) → IsTaken (f job).status)
    → AllByRecursion (λ a. IsStoredAs world a.0 (λ job. IsTrue (is_open job.status))) attempts → jobs ≡ trimmed_jobs (changed_jobs f (firsts attempts) (stored_jobs world.store)) → JobsFollow world c epoch jobs
worker_follows merge world specs c epoch f attempts jobs b ids takes opened made low local known m =
    subst (JobsMerge local.records.jobs) (sym made) (merge_changed local.records.jobs (stored_jobs world.store) f (firsts attempts) (record {
      ids = ids;
      opened = λ job there named. each_named world specs merge (λ job. IsTrue (is_open job.status)) attempts b opened job there named;
      takes = takes;
    }) b.trimmed_already m)

pub waiting_open : (job : Job) → IsTrue (is_waiting job) → IsTrue (is_open job.status)
waiting_open job h = by (has_status Scheduled job) (has_status Running job) h
  where
    by : (a b : Bool) → IsTrue (a && is_none job.lease) → IsTrue (a || b)
    by true b h = refl
    by false b h = absurd (cc h)

not_named : (world : World) (local : Local) (named : List (ℕ × JobSpec)) → LocalIsKnown world local → AreNew world named → (job : Job) (p : ℕ × JobSpec) → IsIn job local.records.jobs → IsIn p named → job.id ≡ p.0 → ⊥
not_named world local named known new job p there one same =
    refused (was_named world.store.history p.0) (all_at (λ (q : ℕ × JobSpec). was_named world.store.history q.0 ≡ false) named p new one) (subst (λ id. IsTrue (was_named world.store.history id)) same (all_at (λ (j : Job). IsTrue (was_named world.store.history j.id)) local.records.jobs job known.jobs there))
  where
    refused : (b : Bool) → b ≡ false → IsTrue b → ⊥
    refused true e h = absurd (cc e)
    refused false e h = absurd (cc h)

-- While no epoch is above a coordinator's, another's lawful put of the records leaves how its jobs merge.
jobs_follow : (merge : Operator) (world : World) (specs : ℕ → JobSpec) (party : Party) (c : LiveCoordinator) (change : RecordChange) (epoch : ℕ) (jobs : Jobs) → Body merge world specs → party ≢ Coordinator c.number
    → IsTrue (did_put_epoch (Coordinator c.number) world.store.history c.epoch) → c.epoch ≤ records_epoch world.store.records → RecordsFit merge party world change epoch jobs → JobsFollow world c epoch jobs
jobs_follow merge world specs party c (RecordsEpoch put) epoch jobs b other own recorded fits low local known m =
    let above = fits.fits.above in let made : epoch ≡ put = fits.makes_epoch in absurd (omega (arith, above, made, recorded, low))
jobs_follow merge world specs party c (Submit named) epoch jobs b other own recorded fits low local known m =
    subst (JobsMerge local.records.jobs) (sym fits.makes_jobs) (merge_new local.records.jobs (stored_jobs world.store) named (not_named world local named known fits.fits.new) b.trimmed_already m)
jobs_follow merge world specs party c (Claim worker attempts) epoch jobs b other own recorded fits low local known m =
    worker_follows merge world specs c epoch (claimed_by worker fits.unrecorded.moment) attempts jobs b (λ job. refl) (λ job opened. record { waiting = refl; running = refl })
    (all_to _ _ attempts (λ a there waits. stored_to world (λ job. IsTrue (is_waiting job) × (a.1 ≡ _)) (λ job. IsTrue (is_open job.status)) a.0 (λ job one. waiting_open job one.0) waits) fits.fits.each) fits.makes_jobs low local known m
jobs_follow merge world specs party c (Beat worker attempts) epoch jobs b other own recorded fits low local known m =
    worker_follows merge world specs c epoch (beaten_by worker fits.unrecorded) attempts jobs b (λ job. refl) (λ job opened. open_taken job.status opened)
    (all_to _ _ attempts (λ a there live. stored_to world (λ job. IsLiveAt worker a.1 job × OfSome (Publishes merge party world job) (fits.unrecorded.published a.0)) (λ job. IsTrue (is_open job.status)) a.0
    (λ job one. live_open worker a.1 job one.0) live) fits.fits.each) fits.makes_jobs low local known m
jobs_follow merge world specs party c (Finish worker id attempt outputs) epoch jobs b other own recorded fits low local known m =
    worker_follows merge world specs c epoch (finished_by worker fits.unrecorded outputs) ((id, attempt) ∷ []) jobs b (λ job. refl) (λ job opened. record { waiting = refl; running = refl })
    (stored_to world (FinishIsWhole merge party world fits.unrecorded worker attempt outputs) (λ job. IsTrue (is_open job.status)) id (λ job one. live_open worker attempt job one.live) fits.fits.finishes, tt) fits.makes_jobs low local known m
jobs_follow merge world specs party c (Release worker attempts) epoch jobs b other own recorded fits low local known m =
    worker_follows merge world specs c epoch to_waiting attempts jobs b (λ job. refl) (λ job opened. record { waiting = refl; running = refl })
    (all_to _ _ attempts (λ a there live. stored_to world (IsLiveAt worker a.1) (λ job. IsTrue (is_open job.status)) a.0 (λ job one. live_open worker a.1 job one) live) fits.fits.each) fits.makes_jobs low local known m
jobs_follow merge world specs party c (Polled change) epoch jobs b other own recorded fits low local known m =
    let up = after_epoch merge world party (Polled change) epoch jobs fits in
    let same : records_epoch world.store.records ≡ c.epoch = omega (arith, up, recorded, low) in
    absurd (other (one_put world.store.manifest.epoch world.store.history c.epoch party (Coordinator c.number) b.epochs (subst (λ n. IsTrue (did_put_epoch party world.store.history n)) same fits.fits.by) own))

-- ---- the law

-- What a coordinator holds stays so after a lawful call of another party, whichever outcome the call has.
knows_after : (merge : Operator) (world new : World) (party : Party) (c : LiveCoordinator) (local : Option Local) (x : Exchange) → Keeps merge world → party ≢ Coordinator c.number → CoordinatorHolds world c local → Outcome merge party world x new → CoordinatorHolds new c local
knows_after merge world new party c local x k other h (Notes jobs_drawn tables_drawn entry mute is) =
    subst (λ n. CoordinatorHolds n c local) (sym is) (knows_noted world c local world.store.tables world.store.deleted jobs_drawn tables_drawn world.past entry h)
knows_after merge world new party c local x k other h (Deletes table entry same mute fits is) =
    subst (λ n. CoordinatorHolds n c local) (sym is) (knows_noted world c local world.store.tables (world.store.deleted ++ table ∷ []) world.store.jobs_drawn world.store.tables_drawn world.past entry h)
knows_after merge world new party c local x k other h (NewTable table rows entry mute fits is) =
    subst (λ n. CoordinatorHolds n c local) (sym is) (knows_noted world c local (world.store.tables ++ (table, rows) ∷ []) world.store.deleted world.store.jobs_drawn world.store.tables_drawn world.past entry h)
knows_after merge world new party c local x k other h (NewManifest version change value line answer took same fits is) =
    let b = (whole_of merge world k).body in
    subst (λ n. CoordinatorHolds n c local) (sym is)
    (knows_manifest world c local (put_manifest world value) _ (manifest_epoch world party change value fits)
    (λ low records l known e. trees_follow merge world k.stored.replay.specs party c change value b other h.put fits low records l known e) h)
knows_after merge world new party c local x k other h (NewRecords change epoch jobs line answer took names fits is) =
    let b = (whole_of merge world k).body in
    subst (λ n. CoordinatorHolds n c local) (sym is)
    (knows_records world c local (put_records world epoch jobs) _ (after_epoch merge world party change epoch jobs fits)
    (jobs_follow merge world k.stored.replay.specs party c change epoch jobs b other h.put h.recorded fits) h)

pub coordinators_keep : (merge : Operator) → CoordinatorsKeep merge
coordinators_keep merge x line party strike world c local k other lawful may h = knows_after merge world _ party c local x k other h (outcome merge x line party strike world lawful may)

-- ---- calls of others

rivals_from : (who : Caller) (calls : List RivalCall) (old new : World) (c : LiveCoordinator) (local : Option Local) → CallsKeep who.merge → who.party ≡ Coordinator c.number → Keeps who.merge old → RivalsFrom who calls old new
    → CoordinatorHolds old c local → CoordinatorHolds new c local
rivals_from who [] old new c local keep own k same h = subst (λ world. CoordinatorHolds world c local) same h
rivals_from who (call ∷ calls) old new c local keep own k lead h =
    rivals_from who calls (after_rival call old) new c local keep own (keep call.exchange call.line call.party call.strike old k lead.0.lawful lead.0.strike) lead.1
    (coordinators_keep who.merge call.exchange call.line call.party call.strike old c local k (λ same. lead.0.other (same ∙ sym own)) lead.0.lawful lead.0.strike h)

pub rivals_keep : RivalsKeepCoordinators
rivals_keep who old new c local keep own k rivals h = rivals_from who rivals.calls old new c local keep own k rivals.lead h
