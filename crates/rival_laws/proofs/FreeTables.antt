-- A table that a worker put and that nothing names stays so, whatever lawful calls others make.
use Rattle.std.proofs.Common.{◌≡◌, ◌≢◌, sym, ◌∙◌, subst, ℕ, suc, List, [], ◌∷◌, ◌++◌, cond, Bool, true, false, inl, inr, ◌⊎◌, arith}
use Rattle.std.specs.Prelude.{IsTrue, ◌==◌, ◌&&◌, not, filter, flat_map}
use Rattle.std.specs.List.{AllByRecursion, concat}
use Rattle.row_model.specs.Fold.{Operator}
use Rattle.fleet_model.specs.Nodes.{table_rows}
use Rattle.fleet_model.specs.Jobs.{Job, Jobs, One, contains, is_active}
use Rattle.fleet_model.specs.History.{Party, Worker, ManifestChange, ManifestEpoch, Flush, Commit, Entry}
use Rattle.fleet_model.specs.Store.{Manifest, Records, stored_jobs}
use Rattle.fleet_model.specs.Handles.{tree_tables, job_tables, context_tables}
use Rattle.fleet_model.specs.Work.Parties.{LiveWorker}
use Rattle.fleet_model.specs.Exchanges.{Exchange}
use Rattle.step_model.specs.Past.{World}
use Rattle.step_model.specs.Entries.{is_put_of}
use Rattle.step_model.specs.LawfulTables.{other_tables, IsOwnTable}
use Rattle.step_model.specs.LawfulManifests.{ManifestFits}
use Rattle.step_model.specs.Rivals.{Caller, RivalCall, RivalsFrom, after_rival}
use Rattle.step_model.specs.Kept.Keeps.{Keeps}
use Rattle.step_laws.specs.Runs.{CallsKeep}
use Rattle.step_laws.proofs.Elements.{IsIn, all_at, in_contains, contains_no, in_front, in_back, in_append}
use Rattle.step_laws.proofs.Bodies.{whole_of}
use Rattle.step_laws.proofs.Deletions.{in_flat, in_filter}
use Rattle.step_laws.proofs.Grown.{drawn_table_grows}
use Rattle.step_laws.proofs.MuteBodies.{entered}
use Rattle.step_laws.proofs.TableBodies.{with_table}
use Rattle.step_laws.proofs.ManifestBodies.{with_manifest}
use Rattle.step_laws.proofs.RecordsBodies.{with_records}
use Rattle.step_laws.proofs.ManifestEpochs.{not_stored, no_new_piece}
use Rattle.step_laws.proofs.FlushNodes.{known_differs, not_in_flushed}
use Rattle.rival_laws.specs.Free.{IsFree, FreeTablesStay, RivalsKeepFree}
use Rattle.rival_laws.proofs.Outcomes.{Outcome, Notes, Deletes, NewTable, NewManifest, NewRecords, outcome, put_manifest, put_records}
use Rattle.rival_laws.proofs.WorkerFollows.{from_filter}
use Rattle.rival_laws.proofs.WorkerCalls.{did_grows}
use Rattle.rival_laws.proofs.WorkerManifests.{AreSpared, trees_lack, lacked, compacted_active, commit_tables}
use Rattle.rival_laws.proofs.WorkerRecords.{Case, JobSpares, change_spares, from_flat}

pub refused : (b : Bool) → b ≡ false → b ≡ true → ⊥
refused true e f = absurd (cc e)
refused false e f = absurd (cc f)

-- A free table is the party's own for each job.
pub free_own : (party : Party) (world : World) (id table : ℕ) → IsFree party world table → IsOwnTable party world id table
free_own party world id table h = record {
  drawn = h.drawn;
  put = h.put;
  unused = h.unused;
  unnamed = contains_no (other_tables id (stored_jobs world.store)) table (λ there. refused (contains (flat_map job_tables (filter is_active (stored_jobs world.store))) table) h.unnamed
      (in_contains (flat_map job_tables (filter is_active (stored_jobs world.store))) table (fewer (stored_jobs world.store) there)));
}
  where
    skip : (job : Job) (jobs : Jobs) (b : Bool) → IsIn table (flat_map job_tables (filter is_active jobs)) → IsIn table (flat_map job_tables (cond b (job ∷ filter is_active jobs) (filter is_active jobs)))
    skip job jobs true there = in_back table (job_tables job) (flat_map job_tables (filter is_active jobs)) there
    skip job jobs false there = there

    by : (job : Job) (jobs : Jobs) (active other : Bool) → (IsIn table (flat_map job_tables (filter (λ j. is_active j && not (id == j.id)) jobs)) → IsIn table (flat_map job_tables (filter is_active jobs)))
        → IsIn table (flat_map job_tables (cond (active && other) (job ∷ filter (λ j. is_active j && not (id == j.id)) jobs) (filter (λ j. is_active j && not (id == j.id)) jobs)))
        → IsIn table (flat_map job_tables (cond active (job ∷ filter is_active jobs) (filter is_active jobs)))
    by job jobs true true rest there = first (in_append table (job_tables job) (flat_map job_tables (filter (λ j. is_active j && not (id == j.id)) jobs)) there)
      where
        first : IsIn table (job_tables job) ⊎ IsIn table (flat_map job_tables (filter (λ j. is_active j && not (id == j.id)) jobs)) → IsIn table (job_tables job ++ flat_map job_tables (filter is_active jobs))
        first (inl one) = in_front table (job_tables job) (flat_map job_tables (filter is_active jobs)) one
        first (inr one) = in_back table (job_tables job) (flat_map job_tables (filter is_active jobs)) (rest one)
    by job jobs true false rest there = skip job jobs true (rest there)
    by job jobs false other rest there = rest there

    fewer : (jobs : Jobs) → IsIn table (flat_map job_tables (filter (λ j. is_active j && not (id == j.id)) jobs)) → IsIn table (flat_map job_tables (filter is_active jobs))
    fewer [] there = there
    fewer (job ∷ jobs) there = by job jobs (is_active job) (not (id == job.id)) (fewer jobs) there

-- ---- an entry alone

free_entered : (party : Party) (world : World) (deleted : List ℕ) (jobs_drawn tables_drawn : ℕ) (entry : Entry) (table : ℕ) → IsFree party world table → IsFree party (entered world deleted jobs_drawn tables_drawn entry) table
free_entered party world deleted jobs_drawn tables_drawn entry table h = record {
  drawn = drawn_table_grows world.store.history entry table h.drawn;
  put = did_grows (is_put_of table) party world.store.history entry h.put;
  unused = h.unused;
  unnamed = h.unnamed;
}

-- ---- a manifest

-- No active job names a free table.
unnamed_by : (party : Party) (world : World) (table : ℕ) (job : Job) → IsFree party world table → IsIn job (stored_jobs world.store) → IsTrue (is_active job) → IsIn table (job_tables job) → ⊥
unnamed_by party world table job free there active named = refused (contains (flat_map job_tables (filter is_active (stored_jobs world.store))) table) free.unnamed
    (in_contains (flat_map job_tables (filter is_active (stored_jobs world.store))) table (in_flat job_tables (filter is_active (stored_jobs world.store)) job table (in_filter is_active (stored_jobs world.store) job there active) named))

free_spared : (party : Party) (world : World) (table : ℕ) → IsFree party world table → AreSpared world table
free_spared party world table free job there finished one =
    unnamed_by party world table job free there (compacted_active job.status finished) (in_back table (context_tables job.context) (concat job.outputs) one)

-- No node of the new trees holds the table.
not_brought : (merge : Operator) (world : World) (party mine : Party) (table : ℕ) (change : ManifestChange) (value : Manifest) → Keeps merge world → ManifestFits party world change value → IsFree mine world table
    → contains (flat_map tree_tables value.trees) table ≡ false
not_brought merge world party mine table (ManifestEpoch epoch) value k fits free =
    subst (λ (m : Manifest). contains (flat_map tree_tables m.trees) table ≡ false) (sym fits.makes) (not_stored world.store.manifest world.past table (whole_of merge world k).body.past free.unused)
not_brought merge world party mine table (Flush name segment floor tick) value k fits free =
    subst (λ (m : Manifest). contains (flat_map tree_tables m.trees) table ≡ false) (sym fits.makes) (not_in_flushed segment name (table_rows world.store.tables name) world.store.manifest.trees table
    (known_differs world.store.jobs_drawn world.store.tables_drawn world.store.history name table (whole_of merge world k).draws fits.is_name fits.once (inl free.drawn))
    (not_stored world.store.manifest world.past table (whole_of merge world k).body.past free.unused))
not_brought merge world party mine table (Commit steps) value k fits free =
    subst (λ (m : Manifest). contains (flat_map tree_tables m.trees) table ≡ false) (sym fits.makes) (trees_lack table _ (commit_tables world fits.specs table (free_spared mine world table free) world.store.manifest.trees [] steps fits.each
    (lacked table world.store.manifest.trees (not_stored world.store.manifest world.past table (whole_of merge world k).body.past free.unused))))

free_with_manifest : (party : Party) (world : World) (manifest : Manifest) (entry : Entry) (table : ℕ) → contains (flat_map tree_tables manifest.trees) table ≡ false → IsFree party world table → IsFree party (with_manifest world manifest entry) table
free_with_manifest party world manifest entry table none h = record {
  drawn = drawn_table_grows world.store.history entry table h.drawn;
  put = did_grows (is_put_of table) party world.store.history entry h.put;
  unused = no_new_piece world.past manifest table none h.unused;
  unnamed = h.unnamed;
}

-- ---- records

-- A worker that runs nothing.
abbrev idle : ℕ → LiveWorker
idle n = record { number = n; release = One; attempts = [] }

-- A free table of a worker stays free after a put of records whose active jobs name no table of the worker's own.
free_with_records : (world : World) (n : ℕ) (records : Records) (entry : Entry) (table : ℕ) → AllByRecursion (JobSpares world (idle n)) records.jobs → IsFree (Worker n) world table → IsFree (Worker n) (with_records world records entry) table
free_with_records world n records entry table spare h = record {
  drawn = drawn_table_grows world.store.history entry table h.drawn;
  put = did_grows (is_put_of table) (Worker n) world.store.history entry h.put;
  unused = h.unused;
  unnamed = contains_no (flat_map job_tables (filter is_active records.jobs)) table (λ one. at (from_flat job_tables (filter is_active records.jobs) table one));
}
  where
    other : (id : ℕ) → suc id ≡ id → ⊥
    other id e = absurd (omega (arith, e))

    at : (job : Job) × (IsIn job (filter is_active records.jobs) × IsIn table (job_tables job)) → ⊥
    at found =
        let kept = from_filter is_active records.jobs found.0 found.1.0 in
        (all_at (JobSpares world (idle n)) records.jobs found.0 spare kept.0).tables kept.1 (suc found.0.id) table (free_own (Worker n) world (suc found.0.id) table h) (other found.0.id) found.1.1

-- ---- the law

-- A free table of a worker stays free after a lawful call of another party, whichever outcome the call has.
free_after : (merge : Operator) (world new : World) (party : Party) (n table : ℕ) (x : Exchange) → Keeps merge world → party ≢ Worker n → IsFree (Worker n) world table → Outcome merge party world x new → IsFree (Worker n) new table
free_after merge world new party n table x k other h (Notes jobs_drawn tables_drawn entry mute is) =
    subst (λ (t : World). IsFree (Worker n) t table) (sym is) (free_entered (Worker n) world world.store.deleted jobs_drawn tables_drawn entry table h)
free_after merge world new party n table x k other h (Deletes deleted entry same mute fits is) =
    subst (λ (t : World). IsFree (Worker n) t table) (sym is) (free_entered (Worker n) world (world.store.deleted ++ deleted ∷ []) world.store.jobs_drawn world.store.tables_drawn entry table h)
free_after merge world new party n table x k other h (NewTable put rows entry mute fits is) =
    subst (λ (t : World). IsFree (Worker n) t table) (sym is)
    (free_entered (Worker n) (with_table world (put, rows)) world.store.deleted world.store.jobs_drawn world.store.tables_drawn entry table (record { drawn = h.drawn; put = h.put; unused = h.unused; unnamed = h.unnamed }))
free_after merge world new party n table x k other h (NewManifest version change value line answer took same fits is) =
    subst (λ (t : World). IsFree (Worker n) t table) (sym is) (free_with_manifest (Worker n) world (put_manifest world value) _ table (not_brought merge world party (Worker n) table change value k fits h) h)
free_after merge world new party n table x k other h (NewRecords change epoch jobs line answer took names fits is) =
    let c : Case merge world k.stored.replay.specs party (idle n) = record { body = (whole_of merge world k).body; puts = (whole_of merge world k).puts; other = other; counted = tt } in
    subst (λ (t : World). IsFree (Worker n) t table) (sym is) (free_with_records world n (put_records world epoch jobs) _ table
    (subst (λ js. AllByRecursion (JobSpares world (idle n)) js) (sym fits.makes_jobs) (change_spares merge world k.stored.replay.specs party (idle n) fits.unrecorded change jobs c fits.fits)) h)

pub free_tables_stay : (merge : Operator) → FreeTablesStay merge
free_tables_stay merge x line party strike world n table k other lawful may h = free_after merge world _ party n table x k other h (outcome merge x line party strike world lawful may)

free_from : (who : Caller) (calls : List RivalCall) (old new : World) (n table : ℕ) → CallsKeep who.merge → who.party ≡ Worker n → Keeps who.merge old → RivalsFrom who calls old new → IsFree (Worker n) old table → IsFree (Worker n) new table
free_from who [] old new n table keep own k same h = subst (λ world. IsFree (Worker n) world table) same h
free_from who (call ∷ calls) old new n table keep own k lead h =
    free_from who calls (after_rival call old) new n table keep own (keep call.exchange call.line call.party call.strike old k lead.0.lawful lead.0.strike) lead.1
    (free_tables_stay who.merge call.exchange call.line call.party call.strike old n table k (λ same. lead.0.other (same ∙ sym own)) lead.0.lawful lead.0.strike h)

pub rivals_keep_free : RivalsKeepFree
rivals_keep_free who old new n table keep own k rivals h =
    subst (λ party. IsFree party new table) (sym own) (free_from who rivals.calls old new n table keep own k rivals.lead (subst (λ party. IsFree party old table) own h))
