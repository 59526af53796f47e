-- What calls of others leave, as long as the records keep the coordinator's epoch: no job is opened, committed or dropped, and trees change by
-- flushes alone.
use Rattle.std.proofs.Common.{◌≡◌, ◌≢◌, refl, sym, ◌∙◌, ap, subst, ℕ, ◌+◌, ◌≤◌, List, [], ◌∷◌, ◌++◌, cond, Bool, true, false, inl, inr, ◌⊎◌, arith}
use Rattle.std.specs.Prelude.{IsTrue, ◌||◌, ℤ}
use Rattle.std.proofs.lemmas.List.{append-nil, append_assoc}
use Rattle.row_model.specs.Fold.{Operator}
use Rattle.fleet_model.specs.Nodes.{NodeName, names, is_among, table_rows, tree_at}
use Rattle.fleet_model.specs.Jobs.{JobSpec, Job, Jobs, Status, Submitted, Scheduled, Running, Compacted, Completed, Failed, status_eq, has_status, is_finished, contains, changed_jobs, trimmed_jobs}
use Rattle.fleet_model.specs.History.{Party, PutManifest, PutRecords, ManifestChange, ManifestEpoch, Flush, Commit, RecordChange, RecordsEpoch, Submit, Claim, Beat, Finish, Release, Polled, Entry, Answer, stood}
use Rattle.fleet_model.specs.Sources.{older_nodes}
use Rattle.fleet_model.specs.Store.{Manifest, jobs_in, stored_jobs, records_epoch}
use Rattle.fleet_model.specs.Trees.{flushed_trees}
use Rattle.fleet_model.specs.Work.Records.{Unrecorded, firsts, new_job, with_new, claimed_by, beaten_by, finished_by, to_waiting, jobs_after}
use Rattle.fleet_model.specs.Invariants.JobsFit.{SourcesStand, was_joined, joins}
use Rattle.fleet_model.specs.Work.Gates.{is_nonempty}
use Rattle.fleet_model.specs.Past.Replay.{epoch_after}
use Rattle.fleet_model.specs.Work.Claims.{is_waiting}
use Rattle.fleet_model.specs.Exchanges.{Exchange}
use Rattle.step_model.specs.Past.{World}
use Rattle.step_model.specs.Entries.{did_put_epoch}
use Rattle.step_model.specs.Lawful.{Lawful}
use Rattle.step_model.specs.LawfulManifests.{ManifestFits}
use Rattle.step_model.specs.LawfulRecords.{ChangeFits, OfSome, IsLiveAt, Publishes, FinishIsWhole}
use Rattle.step_model.specs.Rivals.{Caller, Strike, MayStrike, after_call, RivalCall, RivalsFrom, Rivals, after_rival, is_deletion}
use Rattle.step_model.specs.Kept.Keeps.{Keeps}
use Rattle.step_laws.specs.Runs.{CallsKeep}
use Rattle.step_laws.proofs.Elements.{IsIn, all_from, all_to}
use Rattle.step_laws.proofs.Bodies.{Body, whole_of}
use Rattle.step_laws.proofs.Changed.{on_these, by_these}
use Rattle.step_laws.proofs.FlushFollows.{stand_on}
use Rattle.step_laws.proofs.FlushNodes.{Differ, SameSources, same_sources}
use Rattle.step_laws.proofs.FlushTrees.{Rising, rising_from}
use Rattle.step_laws.proofs.Grown.{joined_stays}
use Rattle.step_laws.proofs.Held.{among_grows, rows_stay}
use Rattle.step_laws.proofs.Mute.{IsMute, quiet_for}
use Rattle.step_laws.proofs.MuteBodies.{entered}
use Rattle.step_laws.proofs.NewJobs.{in_new, new_ids}
use Rattle.step_laws.proofs.OpenJobs.{is_open}
use Rattle.step_laws.proofs.TableBodies.{with_table}
use Rattle.step_laws.proofs.WorkerPuts.{each_named, stored_to, live_open}
use Rattle.rival_laws.proofs.Outcomes.{Outcome, Notes, Deletes, NewTable, NewManifest, NewRecords, outcome, put_manifest}
use Rattle.rival_laws.proofs.Coordinators.{one_put, put_grows, after_epoch, waiting_open}
use Rattle.rival_laws.proofs.JobsMerged.{StayActive, changed_stay, is_trimmed, trimmed_is, new_trimmed}
use Rattle.rival_laws.proofs.WorkerManifests.{differ_on}
use Rattle.coordinator_laws.proofs.Jobs.{IsSubmitted, in_new_old}
use Rattle.step_laws.proofs.OpenJobs.{open_not_submitted}
use Rattle.step_laws.proofs.Polls.{in_map, from_map}

-- ---- jobs

-- A job stays, or it is open and a worker took it, gave it back or finished it.
pub data JobMoves (old new : Job) : Type 0 where
  Stays : new ≡ old → JobMoves old new
  Goes : IsTrue (is_open old.status) → IsTrue (is_open new.status || has_status Compacted new) → new.id ≡ old.id → new.spec ≡ old.spec → new.source_tables ≡ old.source_tables → JobMoves old new

pub record MovedJob (old : Jobs) (new : Job) : Type 0 where
  pub job : Job
  pub there : IsIn job old
  pub moves : JobMoves job new

pub record MovesTo (old : Job) (new : Jobs) : Type 0 where
  pub job : Job
  pub there : IsIn job new
  pub moves : JobMoves old job

pub id_moves : (old new : Job) → JobMoves old new → new.id ≡ old.id
id_moves old new (Stays e) = ap (λ (j : Job). j.id) e
id_moves old new (Goes was is id spec tables) = id

-- Jobs that stay, go on, or are new and Submitted.
pub record Moves (old new : Jobs) : Type 0 where
  pub there : (job : Job) → IsIn job old → MovesTo job new
  pub from : (job : Job) → IsIn job new → MovedJob old job ⊎ (IsSubmitted job × ((other : Job) → IsIn other old → other.id ≡ job.id → ⊥))

moves_then : (a b c : Job) → JobMoves a b → JobMoves b c → JobMoves a c
moves_then a b c (Stays e) (Stays f) = Stays (f ∙ e)
moves_then a b c (Stays e) (Goes was is id spec tables) = subst (λ (j : Job). JobMoves j c) e (Goes was is id spec tables)
moves_then a b c (Goes was is id spec tables) (Stays f) = subst (λ (j : Job). JobMoves a j) (sym f) (Goes was is id spec tables)
moves_then a b c (Goes was is id spec tables) (Goes between then same as_spec as_tables) = Goes was then (same ∙ id) (as_spec ∙ spec) (as_tables ∙ tables)

pub moves_itself : (jobs : Jobs) → Moves jobs jobs
moves_itself jobs = record { there = λ job there. record { job = job; there = there; moves = Stays refl }; from = λ job there. inl (record { job = job; there = there; moves = Stays refl }) }

-- If jobs move to other ones, and those to further ones, then the first ones move to the last ones.
pub moves_on : (a b c : Jobs) → Moves a b → Moves b c → Moves a c
moves_on a b c first second = record {
  there = λ job there. let one = first.there job there in let two = second.there one.job one.there in record { job = two.job; there = two.there; moves = moves_then job one.job two.job one.moves two.moves };
  from = λ job there. by job (second.from job there);
}
  where
    stays_new : (x job : Job) → IsSubmitted x → JobMoves x job → job ≡ x
    stays_new x job submitted (Stays e) = e
    stays_new x job submitted (Goes was is id spec tables) = absurd (open_not_submitted x.status was submitted)

    at : (job : Job) (m : MovedJob b job) → MovedJob a m.job ⊎ (IsSubmitted m.job × ((other : Job) → IsIn other a → other.id ≡ m.job.id → ⊥)) → MovedJob a job ⊎ (IsSubmitted job × ((other : Job) → IsIn other a → other.id ≡ job.id → ⊥))
    at job m (inl n) = inl (record { job = n.job; there = n.there; moves = moves_then n.job m.job job n.moves m.moves })
    at job m (inr new) = inr (subst (λ (j : Job). IsSubmitted j × ((other : Job) → IsIn other a → other.id ≡ j.id → ⊥)) (sym (stays_new m.job job new.0 m.moves)) new)

    by : (job : Job) → MovedJob b job ⊎ (IsSubmitted job × ((other : Job) → IsIn other b → other.id ≡ job.id → ⊥)) → MovedJob a job ⊎ (IsSubmitted job × ((other : Job) → IsIn other a → other.id ≡ job.id → ⊥))
    by job (inl m) = at job m (first.from m.job m.there)
    by job (inr new) = inr (new.0, λ other there same. let one = first.there other there in new.1 one.job one.there (id_moves other one.job one.moves ∙ same))

-- ---- what calls leave

-- What calls of others leave, as long as the records keep their epoch.
pub record Quiet (old new : World) : Type 0 where
  pub jobs : Moves (stored_jobs old.store) (stored_jobs new.store)
  pub stand : (job : Job) → SourcesStand old.store.manifest.trees job → SourcesStand new.store.manifest.trees job
  pub older : (job : Job) → SourcesStand old.store.manifest.trees job
      → older_nodes job.spec.sources (names (tree_at job.spec.segment new.store.manifest.trees)) ≡ older_nodes job.spec.sources (names (tree_at job.spec.segment old.store.manifest.trees))
  pub joined : (id : ℕ) → was_joined new.store.history id ≡ was_joined old.store.history id
  pub among : (id : ℕ) → IsTrue (is_among old.store.tables id) → IsTrue (is_among new.store.tables id)
  pub rows : (id : ℕ) → IsTrue (is_among old.store.tables id) → table_rows new.store.tables id ≡ table_rows old.store.tables id
  pub more : List Manifest
  pub past : new.past ≡ old.past ++ more

pub quiet_itself : (world : World) → Quiet world world
quiet_itself world = record { jobs = moves_itself (stored_jobs world.store); stand = λ job h. h; older = λ job h. refl; joined = λ id. refl; among = λ id h. h; rows = λ id h. refl; more = []; past = sym (append-nil world.past) }

-- If calls are quiet up to one world, and from there up to another, they are quiet all the way.
pub quiet_then : (a b c : World) → Quiet a b → Quiet b c → Quiet a c
quiet_then a b c first second = record {
  jobs = moves_on (stored_jobs a.store) (stored_jobs b.store) (stored_jobs c.store) first.jobs second.jobs;
  stand = λ job h. second.stand job (first.stand job h);
  older = λ job h. second.older job (first.stand job h) ∙ first.older job h;
  joined = λ id. second.joined id ∙ first.joined id;
  among = λ id h. second.among id (first.among id h);
  rows = λ id h. second.rows id (first.among id h) ∙ first.rows id h;
  more = first.more ++ second.more;
  past = second.past ∙ ap (λ (p : List Manifest). p ++ second.more) first.past ∙ append_assoc a.past first.more second.more;
}

-- ---- an entry, a table

-- An entry that changes no object is quiet: it leaves jobs, the sources of jobs, joins and tables.
pub quiet_noted : (world : World) (deleted : List ℕ) (jobs_drawn tables_drawn : ℕ) (entry : Entry) → IsMute (stood entry.answer) entry.event → Quiet world (entered world deleted jobs_drawn tables_drawn entry)
quiet_noted world deleted jobs_drawn tables_drawn entry mute = record {
  jobs = moves_itself (stored_jobs world.store);
  stand = λ job h. h;
  older = λ job h. refl;
  joined = λ id. joined_stays world.store.history entry id (quiet_for (stood entry.answer) entry.event id mute.quiet).joins;
  among = λ id h. h;
  rows = λ id h. refl;
  more = [];
  past = sym (append-nil world.past);
}

-- ---- a manifest

no_join : (world : World) (change : ManifestChange) (answer : Answer) (line : ℕ) (party : Party) (id : ℕ) → joins id (PutManifest change) ≡ false
    → was_joined (world.store.history ++ record { line = line; party = party; event = PutManifest change; answer = answer } ∷ []) id ≡ was_joined world.store.history id
no_join world change answer line party id none = joined_stays world.store.history (record { line = line; party = party; event = PutManifest change; answer = answer }) id (rw none refl)

-- A put of the manifest is quiet, if it joins nothing and leaves the sources of jobs and the nodes older than those.
with_trees : (world new : World) (manifest : Manifest) → new.store.tables ≡ world.store.tables → new.store.records ≡ world.store.records → new.store.manifest ≡ manifest → new.past ≡ world.past ++ manifest ∷ []
    → ((id : ℕ) → was_joined new.store.history id ≡ was_joined world.store.history id)
    → ((job : Job) → SourcesStand world.store.manifest.trees job → SourcesStand manifest.trees job × (older_nodes job.spec.sources (names (tree_at job.spec.segment manifest.trees)) ≡ older_nodes job.spec.sources (names (tree_at job.spec.segment world.store.manifest.trees))))
    → Quiet world new
with_trees world new manifest tables records is past joined stand = record {
  jobs = subst (λ r. Moves (stored_jobs world.store) (jobs_in r)) (sym records) (moves_itself (stored_jobs world.store));
  stand = λ job h. subst (λ (m : Manifest). SourcesStand m.trees job) (sym is) (stand job h).0;
  older = λ job h. subst (λ (m : Manifest). older_nodes job.spec.sources (names (tree_at job.spec.segment m.trees)) ≡ older_nodes job.spec.sources (names (tree_at job.spec.segment world.store.manifest.trees))) (sym is) (stand job h).1;
  joined = joined;
  among = λ id h. subst (λ ts. IsTrue (is_among ts id)) (sym tables) h;
  rows = λ id h. ap (λ ts. table_rows ts id) tables;
  more = manifest ∷ [];
  past = past;
}

-- A flush leaves the sources of jobs as they are.
flush_stands : (merge : Operator) (world : World) (specs : ℕ → JobSpec) (party : Party) (name : ℕ) (segment : List ℕ) (floor : ℕ) (tick : ℤ) (value : Manifest) → Body merge world specs → ManifestFits party world (Flush name segment floor tick) value
    → (job : Job) → SourcesStand world.store.manifest.trees job
    → SourcesStand (put_manifest world value).trees job × (older_nodes job.spec.sources (names (tree_at job.spec.segment (put_manifest world value).trees)) ≡ older_nodes job.spec.sources (names (tree_at job.spec.segment world.store.manifest.trees)))
flush_stands merge world specs party name segment floor tick value b fits job h =
    subst (λ (m : Manifest). SourcesStand m.trees job × (older_nodes job.spec.sources (names (tree_at job.spec.segment m.trees)) ≡ older_nodes job.spec.sources (names (tree_at job.spec.segment world.store.manifest.trees)))) (sym fits.makes)
    (stand_on segment name (table_rows world.store.tables name) world.store.manifest.trees job rise differ h, by job.spec.sources refl differ)
  where
    rise : Rising world.store.manifest.trees
    rise = rising_from world.store.manifest.trees b.sound.prefixes

    differ : Differ name job.spec.sources
    differ = differ_on merge world specs name job b fits.once h

    by : (sources : List NodeName) → job.spec.sources ≡ sources → Differ name sources
        → older_nodes job.spec.sources (names (tree_at job.spec.segment (flushed_trees segment name (table_rows world.store.tables name) world.store.manifest.trees))) ≡ older_nodes job.spec.sources (names (tree_at job.spec.segment world.store.manifest.trees))
    by [] e d = absurd (no_sources job.spec.sources e h.some)
      where
        no_sources : (xs : List NodeName) → xs ≡ [] → IsTrue (is_nonempty xs) → ⊥
        no_sources [] e k = absurd (cc k)
        no_sources (x ∷ xs) e k = absurd (cc e)
    by (x ∷ xs) e d = (subst (λ sources. SameSources sources (tree_at job.spec.segment (flushed_trees segment name (table_rows world.store.tables name) world.store.manifest.trees)) (tree_at job.spec.segment world.store.manifest.trees)) (sym e)
        (same_sources job.spec.segment segment name (table_rows world.store.tables name) world.store.manifest.trees x xs rise d)).older

-- Others change trees by flushes alone.
manifest_stands : (merge : Operator) (world : World) (specs : ℕ → JobSpec) (mine party : Party) (e : ℕ) (change : ManifestChange) (value : Manifest) → Body merge world specs → party ≢ mine → IsTrue (did_put_epoch mine world.store.history e) → records_epoch world.store.records ≡ e
    → ManifestFits party world change value
    → ((id : ℕ) → joins id (PutManifest change) ≡ false) × ((job : Job) → SourcesStand world.store.manifest.trees job
    → SourcesStand (put_manifest world value).trees job × (older_nodes job.spec.sources (names (tree_at job.spec.segment (put_manifest world value).trees)) ≡ older_nodes job.spec.sources (names (tree_at job.spec.segment world.store.manifest.trees))))
manifest_stands merge world specs mine party e (ManifestEpoch epoch) value b other put own fits = (
  λ id. refl,
  λ job h. subst (λ (m : Manifest). SourcesStand m.trees job × (older_nodes job.spec.sources (names (tree_at job.spec.segment m.trees)) ≡ older_nodes job.spec.sources (names (tree_at job.spec.segment world.store.manifest.trees)))) (sym fits.makes)
      (record { some = h.some; stretch = h.stretch; source_tables = h.source_tables; destination = h.destination }, refl),
)
manifest_stands merge world specs mine party e (Flush name segment floor tick) value b other put own fits = (λ id. refl, λ job h. flush_stands merge world specs party name segment floor tick value b fits job h)
manifest_stands merge world specs mine party e (Commit []) value b other put own fits = (
  λ id. refl,
  λ job h. subst (λ (m : Manifest). SourcesStand m.trees job × (older_nodes job.spec.sources (names (tree_at job.spec.segment m.trees)) ≡ older_nodes job.spec.sources (names (tree_at job.spec.segment world.store.manifest.trees)))) (sym fits.makes)
      (record { some = h.some; stretch = h.stretch; source_tables = h.source_tables; destination = h.destination }, refl),
)
manifest_stands merge world specs mine party e (Commit (step ∷ steps)) value b other put own fits =
    absurd (other (one_put world.store.manifest.epoch world.store.history e party mine b.epochs (subst (λ n. IsTrue (did_put_epoch party world.store.history n)) (sym fits.by.1 ∙ own) fits.by.0) put))

-- ---- records

-- The change of a worker moves open jobs.
changed_moves : (f : Job → Job) (these : List ℕ) (jobs : Jobs) → trimmed_jobs jobs ≡ jobs
    → ((job : Job) → IsIn job jobs → IsTrue (contains these job.id) → IsTrue (is_open job.status) × IsTrue (is_open (f job).status || has_status Compacted (f job))) → ((job : Job) → (f job).id ≡ job.id) → ((job : Job) → (f job).spec ≡ job.spec)
    → ((job : Job) → (f job).source_tables ≡ job.source_tables) → Moves jobs (trimmed_jobs (changed_jobs f these jobs))
changed_moves f these jobs trims opened ids specs tables = subst (Moves jobs) (sym (changed_stay f these jobs active trims)) (record {
  there = λ job there. record { job = on_these f these job; there = in_map (on_these f these) jobs job there; moves = moves job there };
  from = λ job there. let found = from_map (on_these f these) jobs job there in inl (record { job = found.0; there = found.1.0; moves = subst (JobMoves found.0) found.1.1 (moves found.0 found.1.0) });
})
  where
    use_open : (s : Status) → IsTrue (is_open s || status_eq Compacted s) → IsTrue (cond (is_finished s) false true)
    use_open Scheduled h = refl
    use_open Running h = refl
    use_open Compacted h = refl
    use_open Submitted h = absurd (cc h)
    use_open Completed h = absurd (cc h)
    use_open Failed h = absurd (cc h)

    was_open : (a b : Bool) → IsTrue a → IsTrue (a || b)
    was_open true b h = refl
    was_open false b h = absurd (cc h)

    active : StayActive f these jobs
    active = all_from _ jobs (λ job there named. let both = opened job there named in (use_open job.status (was_open (is_open job.status) (has_status Compacted job) both.0), use_open (f job).status both.1))

    moves : (job : Job) → IsIn job jobs → JobMoves job (on_these f these job)
    moves job there = by_these (JobMoves job) f these job (λ named. let both = opened job there named in Goes both.0 both.1 (ids job) (specs job) (tables job)) (λ other. Stays refl)

-- Changes of others move jobs, as long as the records keep their epoch.
change_moves : (merge : Operator) (world : World) (specs : ℕ → JobSpec) (mine party : Party) (e : ℕ) (u : Unrecorded) (jobs : Jobs) (change : RecordChange) → Body merge world specs → party ≢ mine → IsTrue (did_put_epoch mine world.store.history e)
    → records_epoch world.store.records ≡ e → (IsRise : (put : ℕ) → change ≡ RecordsEpoch put → ⊥) → ChangeFits merge party world u jobs change → Moves (stored_jobs world.store) (jobs_after u change (stored_jobs world.store))
change_moves merge world specs mine party e u jobs (RecordsEpoch put) b other own same never fits = absurd (never put refl)
change_moves merge world specs mine party e u jobs (Submit named) b other own same never fits = subst (Moves (stored_jobs world.store)) (sym (is_trimmed (with_new named (stored_jobs world.store)) (new_trimmed named (stored_jobs world.store) (trimmed_is (stored_jobs world.store) b.trimmed_already)))) (record {
  there = λ job there. record { job = job; there = in_new_old named (stored_jobs world.store) job there; moves = Stays refl };
  from = λ job there. by job (in_new named (stored_jobs world.store) job there);
})
  where
    by : (job : Job) → ((p : ℕ × JobSpec) × (IsIn p named × (new_job p ≡ job))) ⊎ IsIn job (stored_jobs world.store) → MovedJob (stored_jobs world.store) job ⊎ (IsSubmitted job × ((other : Job) → IsIn other (stored_jobs world.store) → other.id ≡ job.id → ⊥))
    by job (inl found) = inr (subst IsSubmitted found.1.1 refl, λ x there equal. new_ids merge world specs named b fits.new found.0 x found.1.0 there (ap (λ (j : Job). j.id) found.1.1 ∙ sym equal))
    by job (inr old) = inl (record { job = job; there = old; moves = Stays refl })
change_moves merge world specs mine party e u jobs (Claim worker attempts) b other own same never fits = changed_moves (claimed_by worker u.moment) (firsts attempts) (stored_jobs world.store) b.trimmed_already
    (λ job there named. (
      each_named world specs merge (λ job. IsTrue (is_open job.status)) attempts b
          (all_to _ _ attempts (λ a one waits. stored_to world (λ job. IsTrue (is_waiting job) × (a.1 ≡ job.attempt + 1)) (λ job. IsTrue (is_open job.status)) a.0 (λ job it. waiting_open job it.0) waits) fits.each) job there named,
      refl,
    )) (λ job. refl) (λ job. refl) (λ job. refl)
change_moves merge world specs mine party e u jobs (Beat worker attempts) b other own same never fits = changed_moves (beaten_by worker u) (firsts attempts) (stored_jobs world.store) b.trimmed_already
    (λ job there named.
    let open_now = each_named world specs merge (λ job. IsTrue (is_open job.status)) attempts b
    (all_to _ _ attempts (λ a one live. stored_to world (λ job. IsLiveAt worker a.1 job × OfSome (Publishes merge party world job) (u.published a.0)) (λ job. IsTrue (is_open job.status)) a.0 (λ job it. live_open worker a.1 job it.0) live) fits.each) job there named in
    (open_now, still (is_open job.status) (has_status Compacted job) open_now)) (λ job. refl) (λ job. refl) (λ job. refl)
  where
    still : (a b : Bool) → IsTrue a → IsTrue (a || b)
    still true b h = refl
    still false b h = absurd (cc h)
change_moves merge world specs mine party e u jobs (Finish worker id attempt outputs) b other own same never fits = changed_moves (finished_by worker u outputs) (id ∷ []) (stored_jobs world.store) b.trimmed_already
    (λ job there named. (
      each_named world specs merge (λ job. IsTrue (is_open job.status)) ((id, attempt) ∷ []) b
          (stored_to world (FinishIsWhole merge party world u worker attempt outputs) (λ job. IsTrue (is_open job.status)) id (λ job it. live_open worker attempt job it.live) fits.finishes, tt) job there named,
      refl,
    )) (λ job. refl) (λ job. refl) (λ job. refl)
change_moves merge world specs mine party e u jobs (Release worker attempts) b other own same never fits = changed_moves to_waiting (firsts attempts) (stored_jobs world.store) b.trimmed_already
    (λ job there named. (
      each_named world specs merge (λ job. IsTrue (is_open job.status)) attempts b
          (all_to _ _ attempts (λ a one live. stored_to world (IsLiveAt worker a.1) (λ job. IsTrue (is_open job.status)) a.0 (λ job it. live_open worker a.1 job it) live) fits.each) job there named,
      refl,
    )) (λ job. refl) (λ job. refl) (λ job. refl)
change_moves merge world specs mine party e u jobs (Polled change) b other own same never fits =
    absurd (other (one_put world.store.manifest.epoch world.store.history e party mine b.epochs (subst (λ n. IsTrue (did_put_epoch party world.store.history n)) same fits.by) own))

-- ---- all calls

-- The coordinator put its epoch, and the records have it or a later one.
pub record HasEpoch (party : Party) (e : ℕ) (world : World) : Type 0 where
  pub put : IsTrue (did_put_epoch party world.store.history e)
  pub recorded : e ≤ records_epoch world.store.records

-- A lawful call of another party that deletes nothing is quiet, as long as no later epoch is in the records.
pub quiet_outcome : (merge : Operator) (world new : World) (mine party : Party) (e : ℕ) (x : Exchange) → Keeps merge world → party ≢ mine → HasEpoch mine e world → is_deletion x ≡ false → records_epoch new.store.records ≤ e → Outcome merge party world x new → Quiet world new
quiet_outcome merge world new mine party e x k other own spares low (Notes jobs_drawn tables_drawn entry mute is) = subst (Quiet world) (sym is) (quiet_noted world world.store.deleted jobs_drawn tables_drawn entry mute)
quiet_outcome merge world new mine party e x k other own spares low (Deletes table entry same mute fits is) = absurd (never (subst (λ y. is_deletion y ≡ false) same spares))
  where
    never : true ≡ false → ⊥
    never e = absurd (cc e)
quiet_outcome merge world new mine party e x k other own spares low (NewTable table rows entry mute fits is) = subst (Quiet world) (sym is) (quiet_then world (with_table world (table, rows)) _ (record {
  jobs = moves_itself (stored_jobs world.store);
  stand = λ job h. h;
  older = λ job h. refl;
  joined = λ id. refl;
  among = λ id h. among_grows world.store.tables (table, rows) id h;
  rows = λ id h. rows_stay world.store.tables (table, rows) id h;
  more = [];
  past = sym (append-nil world.past);
}) (quiet_noted (with_table world (table, rows)) world.store.deleted world.store.jobs_drawn world.store.tables_drawn entry mute))
quiet_outcome merge world new mine party e x k other own spares low (NewManifest version change value line answer took same fits is) =
    let low_now : records_epoch world.store.records ≤ e = subst (λ (n : World). records_epoch n.store.records ≤ e) is low in
    let recorded = own.recorded in
    let m = manifest_stands merge world k.stored.replay.specs mine party e change value (whole_of merge world k).body other own.put (omega (arith, low_now, recorded)) fits in
    subst (Quiet world) (sym is) (with_trees world _ (put_manifest world value) refl refl refl refl (λ id. no_join world change answer line party id (m.0 id)) m.1)
quiet_outcome merge world new mine party e x k other own spares low (NewRecords change epoch jobs line answer took names fits is) =
    let up = after_epoch merge world party change epoch jobs fits in
    let low_now : epoch ≤ e = subst (λ (n : World). records_epoch n.store.records ≤ e) is low in
    let recorded = own.recorded in
    subst (Quiet world) (sym is) (record {
      jobs = subst (Moves (stored_jobs world.store)) (sym fits.makes_jobs) (change_moves merge world k.stored.replay.specs mine party e fits.unrecorded jobs change (whole_of merge world k).body other own.put (omega (arith, up, low_now, recorded))
          (λ put is_epoch. rises change fits.fits fits.makes_epoch put is_epoch low_now recorded) fits.fits);
      stand = λ job h. h;
      older = λ job h. refl;
      joined = λ id. joined_stays world.store.history (record { line = line; party = party; event = PutRecords change; answer = answer }) id refl;
      among = λ id h. h;
      rows = λ id h. refl;
      more = [];
      past = sym (append-nil world.past);
    })
  where
    rises : (c : RecordChange) → ChangeFits merge party world fits.unrecorded jobs c → epoch ≡ epoch_after c world.store.records → (put : ℕ) → c ≡ RecordsEpoch put → epoch ≤ e → e ≤ records_epoch world.store.records → ⊥
    rises (RecordsEpoch raised) f made put is_epoch low recorded = let above = f.above in let is_put : epoch ≡ raised = made in absurd (omega (arith, above, is_put, low, recorded))
    rises (Submit named) f made put is_epoch low recorded = absurd (cc is_epoch)
    rises (Claim worker attempts) f made put is_epoch low recorded = absurd (cc is_epoch)
    rises (Beat worker attempts) f made put is_epoch low recorded = absurd (cc is_epoch)
    rises (Finish worker id attempt outputs) f made put is_epoch low recorded = absurd (cc is_epoch)
    rises (Release worker attempts) f made put is_epoch low recorded = absurd (cc is_epoch)
    rises (Polled c) f made put is_epoch low recorded = absurd (cc is_epoch)

-- The epoch of the records never falls, and the coordinator's put stays in the history.
epoch_outcome : (merge : Operator) (world new : World) (mine party : Party) (e : ℕ) (x : Exchange) → Outcome merge party world x new → HasEpoch mine e world → HasEpoch mine e new × (records_epoch world.store.records ≤ records_epoch new.store.records)
epoch_outcome merge world new mine party e x (Notes jobs_drawn tables_drawn entry mute is) own = subst (λ (n : World). HasEpoch mine e n × (records_epoch world.store.records ≤ records_epoch n.store.records)) (sym is) (record { put = put_grows mine world.store.history entry e own.put; recorded = own.recorded }, omega arith)
epoch_outcome merge world new mine party e x (Deletes table entry same mute fits is) own = subst (λ (n : World). HasEpoch mine e n × (records_epoch world.store.records ≤ records_epoch n.store.records)) (sym is) (record { put = put_grows mine world.store.history entry e own.put; recorded = own.recorded }, omega arith)
epoch_outcome merge world new mine party e x (NewTable table rows entry mute fits is) own = subst (λ (n : World). HasEpoch mine e n × (records_epoch world.store.records ≤ records_epoch n.store.records)) (sym is) (record { put = put_grows mine world.store.history entry e own.put; recorded = own.recorded }, omega arith)
epoch_outcome merge world new mine party e x (NewManifest version change value line answer took same fits is) own =
    subst (λ (n : World). HasEpoch mine e n × (records_epoch world.store.records ≤ records_epoch n.store.records)) (sym is) (record { put = put_grows mine world.store.history _ e own.put; recorded = own.recorded }, omega arith)
epoch_outcome merge world new mine party e x (NewRecords change epoch jobs line answer took names fits is) own =
    let up = after_epoch merge world party change epoch jobs fits in
    let recorded = own.recorded in
    subst (λ (n : World). HasEpoch mine e n × (records_epoch world.store.records ≤ records_epoch n.store.records)) (sym is) (record { put = put_grows mine world.store.history _ e own.put; recorded = omega (arith, up, recorded) }, up)

-- A lawful call of any party.
pub epoch_call : (who : Caller) (e : ℕ) (line : ℕ) (party : Party) (x : Exchange) (strike : Strike) (world : World) → Lawful who.merge party world x → MayStrike x world strike → HasEpoch who.party e world
    → HasEpoch who.party e (after_call line party x strike world) × (records_epoch world.store.records ≤ records_epoch (after_call line party x strike world).store.records)
epoch_call who e line party x strike world lawful may own = epoch_outcome who.merge world _ who.party party e x (outcome who.merge x line party strike world lawful may) own

-- ---- calls of others

-- What others leave of a coordinator that fits.
pub record After (who : Caller) (e : ℕ) (old new : World) : Type 0 where
  pub kept : Keeps who.merge new
  pub own : HasEpoch who.party e new
  pub rises : records_epoch old.store.records ≤ records_epoch new.store.records
  pub quiet : records_epoch new.store.records ≤ e → Quiet old new

-- Calls of others keep the invariant and the coordinator's epoch, and are quiet while no later epoch is in the records.
rivals_from : (who : Caller) (e : ℕ) (calls : List RivalCall) (old new : World) → CallsKeep who.merge → Keeps who.merge old → HasEpoch who.party e old → RivalsFrom who calls old new → After who e old new
rivals_from who e [] old new keep k own same = subst (After who e old) same (record { kept = k; own = own; rises = omega arith; quiet = λ low. quiet_itself old })
rivals_from who e (call ∷ calls) old new keep k own lead =
    let mid = after_rival call old in
    let o = outcome who.merge call.exchange call.line call.party call.strike old lead.0.lawful lead.0.strike in
    let one = epoch_outcome who.merge old mid who.party call.party e call.exchange o own in
    let rest = rivals_from who e calls mid new keep (keep call.exchange call.line call.party call.strike old k lead.0.lawful lead.0.strike) one.0 lead.1 in
    let first = one.1 in
    let second = rest.rises in
    record {
      kept = rest.kept;
      own = rest.own;
      rises = omega (arith, first, second);
      quiet = λ low. quiet_then old mid new (quiet_outcome who.merge old mid who.party call.party e call.exchange k lead.0.other own lead.0.deletes_none (omega (arith, second, low)) o) (rest.quiet low);
    }

pub rivals_after : (who : Caller) (e : ℕ) (old new : World) → CallsKeep who.merge → Keeps who.merge old → HasEpoch who.party e old → Rivals who old new → After who e old new
rivals_after who e old new keep k own rivals = rivals_from who e rivals.calls old new keep k own rivals.lead
