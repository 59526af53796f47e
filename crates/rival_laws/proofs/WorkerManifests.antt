-- What epochs, flushes and commits leave of the settings and tables of Running jobs.
use Rattle.std.proofs.Common.{◌≡◌, refl, sym, ◌∙◌, ap, subst, ℕ, List, [], ◌∷◌, cond, Bool, true, false, inl, Some, arith}
use Rattle.std.specs.Prelude.{IsTrue, not, flat_map, ℤ}
use Rattle.std.specs.List.{AllByRecursion, concat}
use Rattle.row_laws.proofs.RetentionReads.{int_le_trans}
use Rattle.row_model.specs.Fold.{Operator}
use Rattle.fleet_model.specs.Nodes.{Node, Trees, tree_at, table_rows}
use Rattle.fleet_model.specs.Jobs.{JobSpec, Job, Status, Submitted, Scheduled, Running, Compacted, Completed, Failed, status_eq, has_status, is_finished, job_with, contains}
use Rattle.fleet_model.specs.History.{Party, Worker, ManifestChange, ManifestEpoch, Flush, Commit, Step, Join, Move, Drain}
use Rattle.fleet_model.specs.Handles.{tree_tables, context_tables}
use Rattle.fleet_model.specs.Trees.{stepped_in, stepped_all}
use Rattle.fleet_model.specs.Store.{Manifest, stored_jobs}
use Rattle.fleet_model.specs.Past.Replay.{outputs_in}
use Rattle.fleet_model.specs.Invariants.JobsFit.{SourcesStand, AreOldest}
use Rattle.step_model.specs.Past.{World}
use Rattle.step_model.specs.Entries.{was_flushed}
use Rattle.step_model.specs.LawfulTables.{IsOwnTable}
use Rattle.step_model.specs.LawfulManifests.{ManifestFits, ManifestEpochFits, FlushFits, CommitFits, StepsFit}
use Rattle.step_model.specs.Kept.NamesKept.{DrawsKept}
use Rattle.step_model.specs.Kept.TablesKept.{IsFlush}
use Rattle.step_model.specs.Kept.Keeps.{Keeps}
use Rattle.step_laws.proofs.Elements.{IsIn, all_at, all_from, all_to, all_flat, all_unflat, in_contains, contains_no, in_back}
use Rattle.step_laws.proofs.Bodies.{Body, whole_of}
use Rattle.step_laws.proofs.Changed.{IsFound, found_job, job_found}
use Rattle.step_laws.proofs.TableReplays.{TreesAll, step_all}
use Rattle.step_laws.proofs.PollJobs.{stretch_in, node_flushed, tree_has}
use Rattle.step_laws.proofs.FlushNodes.{Differ, source_differs, known_differs, not_in_flushed}
use Rattle.step_laws.proofs.FlushTrees.{rising_from}
use Rattle.step_laws.proofs.FlushFollows.{oldest_on}
use Rattle.step_laws.proofs.ManifestEpochs.{not_stored}
use Rattle.step_laws.proofs.OwnTables.{unnamed}
use Rattle.rival_laws.proofs.CommitsOldest.{running_stand, not_both, commits_leave_oldest}
use Rattle.step_laws.proofs.KnownJobs.{outputs_are}
use Rattle.rival_laws.proofs.Outcomes.{put_manifest}
use Rattle.rival_laws.proofs.WorkerCalls.{ManifestSpares}

-- ---- an epoch

epoch_spares : (merge : Operator) (world : World) (specs : ℕ → JobSpec) (party : Party) (n epoch : ℕ) (value : Manifest) → Body merge world specs → ManifestEpochFits party world epoch value → ManifestSpares world (put_manifest world value) n
epoch_spares merge world specs party n epoch value b fits = subst (λ (m : Manifest). ManifestSpares world (put_manifest world m) n) (sym fits.makes) (record {
  settings = λ job there runs s fit. record { floor = fit.floor; cut = fit.cut; tick = fit.tick; last_run = fit.last_run };
  tables = λ job there runs t own. not_stored world.store.manifest world.past t b.past own.unused;
})

-- ---- a flush

pub differ_on : (merge : Operator) (world : World) (specs : ℕ → JobSpec) (name : ℕ) (job : Job) → Body merge world specs → was_flushed world.store.history name ≡ false → SourcesStand world.store.manifest.trees job → Differ name job.spec.sources
differ_on merge world specs name job b once stand = all_to _ _ job.spec.sources (λ x there named. source_differs world.store.history name x once
    (node_flushed world.store.history (tree_at job.spec.segment world.store.manifest.trees) x
    (tree_has (λ tree. AllByRecursion (λ node. IsFlush world.store.history node node.name) tree) job.spec.segment world.store.manifest.trees tt b.nodes.flushes) named))
    (stretch_in (tree_at job.spec.segment world.store.manifest.trees) job.spec.sources stand.stretch)

-- A lawful flush spares the settings and the tables of a worker's Running jobs.
flush_spares : (merge : Operator) (world : World) (specs : ℕ → JobSpec) (party : Party) (n name : ℕ) (segment : List ℕ) (floor : ℕ) (tick : ℤ) (value : Manifest) → Body merge world specs → DrawsKept world.store.jobs_drawn world.store.tables_drawn world.store.history
    → FlushFits party world name segment floor tick value → ManifestSpares world (put_manifest world value) n
flush_spares merge world specs party n name segment floor tick value b draws fits = subst (λ (m : Manifest). ManifestSpares world (put_manifest world m) n) (sym fits.makes) (record {
  settings = λ job there runs s fit.
      let stand = running_stand merge world specs b job there runs in
      record {
        floor = let low = fit.floor in let stays = fits.floor_stays in omega (arith, low, stays);
        cut = fit.cut;
        tick = int_le_trans s.tick world.store.manifest.tick tick fit.tick fits.tick_stays;
        last_run = λ is. oldest_on segment name (table_rows world.store.tables name) world.store.manifest.trees job (rising_from world.store.manifest.trees b.sound.prefixes) (differ_on merge world specs name job b fits.once stand) stand.some (fit.last_run is);
      };
  tables = λ job there runs t own. not_in_flushed segment name (table_rows world.store.tables name) world.store.manifest.trees t
      (known_differs world.store.jobs_drawn world.store.tables_drawn world.store.history name t draws fits.is_name fits.once (inl own.drawn)) (not_stored world.store.manifest world.past t b.past own.unused);
})

-- ---- a commit

-- It is not this table.
abbrev pub IsNot : ℕ → ℕ → Type 0
IsNot t id = t ≡ id → ⊥

pub trees_lack : (t : ℕ) (trees : Trees) → TreesAll (IsNot t) trees → contains (flat_map tree_tables trees) t ≡ false
trees_lack t trees h = contains_no (flat_map tree_tables trees) t (λ there. all_at (IsNot t) (flat_map tree_tables trees) t
    (all_flat (IsNot t) tree_tables trees (all_to _ _ trees (λ s one all. all_flat (IsNot t) (λ (node : Node). node.pieces) s.tree all) h)) there refl)

pub lacked : (t : ℕ) (trees : Trees) → contains (flat_map tree_tables trees) t ≡ false → TreesAll (IsNot t) trees
lacked t trees h = all_to _ _ trees (λ s there all. all_unflat (IsNot t) (λ (node : Node). node.pieces) s.tree all)
    (all_unflat (IsNot t) tree_tables trees (all_from (IsNot t) (flat_map tree_tables trees) (λ id there same. refused (contains (flat_map tree_tables trees) t) h (in_contains (flat_map tree_tables trees) t (subst (λ n. IsIn n (flat_map tree_tables trees)) (sym same) there)))))
  where
    refused : (b : Bool) → b ≡ false → b ≡ true → ⊥
    refused true e f = absurd (cc e)
    refused false e f = absurd (cc f)

pub compacted_active : (s : Status) → IsTrue (status_eq Compacted s) → IsTrue (cond (is_finished s) false true)
compacted_active Compacted h = refl
compacted_active Submitted h = absurd (cc h)
compacted_active Scheduled h = absurd (cc h)
compacted_active Running h = absurd (cc h)
compacted_active Completed h = absurd (cc h)
compacted_active Failed h = absurd (cc h)

-- No job that waits for its commit has this table among its outputs.
abbrev pub AreSpared : World → ℕ → Type 0
AreSpared world t = (job : Job) → IsIn job (stored_jobs world.store) → IsTrue (has_status Compacted job) → IsIn t (concat job.outputs) → ⊥

-- A table that no Compacted job has among its outputs comes to no tree by steps of a commit that fit.
pub commit_tables : (world : World) (others : ℕ → JobSpec) (t : ℕ) → AreSpared world t → (trees : Trees) (joined : List ℕ) (steps : List Step) → StepsFit world others trees joined steps → TreesAll (IsNot t) trees
    → TreesAll (IsNot t) (stepped_all world.store.tables (λ id. (others id, outputs_in world.store.records id)) steps trees)
commit_tables world others t spared trees joined [] fits h = h
commit_tables world others t spared trees joined (Join id ∷ steps) fits h =
    commit_tables world others t spared (stepped_in world.store.tables (Join id) (others id) (outputs_in world.store.records id) trees) (id ∷ joined) steps fits.1 (step_all (IsNot t) world.store.tables (Join id) (others id) (outputs_in world.store.records id) trees (subst (λ ids. AllByRecursion (IsNot t) ids) (sym (outputs_are world.store.records id fits.0.job fits.0.stored)) outputs) h)
  where
    found : IsFound id (stored_jobs world.store) fits.0.job
    found = job_found id (stored_jobs world.store) fits.0.job fits.0.stored

    outputs : AllByRecursion (IsNot t) (concat fits.0.job.outputs)
    outputs = all_from (IsNot t) (concat fits.0.job.outputs) (λ id one is. spared fits.0.job found.there fits.0.finished (subst (λ x. IsIn x (concat fits.0.job.outputs)) (sym is) one))
commit_tables world others t spared trees joined (Move id ∷ steps) fits h =
    commit_tables world others t spared (stepped_in world.store.tables (Move id) (others id) (outputs_in world.store.records id) trees) joined steps fits.1 (step_all (IsNot t) world.store.tables (Move id) (others id) [] trees tt h)
commit_tables world others t spared trees joined (Drain id ∷ steps) fits h =
    commit_tables world others t spared (stepped_in world.store.tables (Drain id) (others id) (outputs_in world.store.records id) trees) joined steps fits.1 (step_all (IsNot t) world.store.tables (Drain id) (others id) [] trees tt h)

-- A table that is the worker's own for a Running job is none of the outputs that wait for a commit.
running_spared : (merge : Operator) (world : World) (specs : ℕ → JobSpec) (n : ℕ) (job : Job) (t : ℕ) → Body merge world specs → IsIn job (stored_jobs world.store) → IsTrue (has_status Running job) → IsOwnTable (Worker n) world job.id t → AreSpared world t
running_spared merge world specs n job t b there runs own other among finished one =
    unnamed (Worker n) world job.id t other own among (compacted_active other.status finished) (λ e. not_both job.status runs (subst (λ (j : Job). IsTrue (has_status Compacted j))
    (sym (same (sym (found_job (stored_jobs world.store) job b.sound.job_ids there) ∙ ap (λ i. job_with i (stored_jobs world.store)) e ∙ found_job (stored_jobs world.store) other b.sound.job_ids among))) finished))
    (in_back t (context_tables other.context) (concat other.outputs) one)
  where
    same : Some job ≡ Some other → job ≡ other
    same e = cc e

-- A lawful commit spares the settings and the tables of a worker's Running jobs.
commit_spares : (merge : Operator) (world : World) (party : Party) (n : ℕ) (steps : List Step) (value : Manifest) → Keeps merge world → CommitFits party world steps value → ManifestSpares world (put_manifest world value) n
commit_spares merge world party n steps value k fits = subst (λ (m : Manifest). ManifestSpares world (put_manifest world m) n) (sym fits.makes) (record {
  settings = λ job there runs s fit. record {
    floor = fit.floor;
    cut = fit.cut;
    tick = fit.tick;
    last_run = λ is. subst (λ (m : Manifest). AreOldest (tree_at job.spec.segment m.trees) job.spec.sources) fits.makes (commits_leave_oldest merge party world steps value job k fits (found_job (stored_jobs world.store) job b.sound.job_ids there) runs (fit.last_run is));
  };
  tables = λ job there runs t own. trees_lack t _ (commit_tables world fits.specs t (running_spared merge world k.stored.replay.specs n job t b there runs own) world.store.manifest.trees [] steps fits.each (lacked t world.store.manifest.trees (not_stored world.store.manifest world.past t b.past own.unused)));
})
  where
    b : Body merge world k.stored.replay.specs
    b = (whole_of merge world k).body

-- ---- all changes

pub manifest_spares : (merge : Operator) (world : World) (party : Party) (n : ℕ) (change : ManifestChange) (value : Manifest) → Keeps merge world → ManifestFits party world change value → ManifestSpares world (put_manifest world value) n
manifest_spares merge world party n (ManifestEpoch epoch) value k fits = epoch_spares merge world k.stored.replay.specs party n epoch value (whole_of merge world k).body fits
manifest_spares merge world party n (Flush name segment floor tick) value k fits = flush_spares merge world k.stored.replay.specs party n name segment floor tick value (whole_of merge world k).body (whole_of merge world k).draws fits
manifest_spares merge world party n (Commit steps) value k fits = commit_spares merge world party n steps value k fits
