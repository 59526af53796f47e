-- A job whose sources stand can start, so a claim releases only jobs whose attempts were lost.
use Rattle.std.proofs.Common.{◌≡◌, refl, subst, ◌+◌, Bool, true, false, List, Option, Some, None}
use Rattle.std.specs.Prelude.{IsTrue, ◌&&◌}
use Rattle.std.specs.List.{list_all}
use Rattle.std.proofs.lemmas.Slice.Eq.{bytes_eq-Decides}
use Rattle.row_model.specs.Fold.{Operator}
use Rattle.fleet_model.specs.Nodes.{NodeName, names_contain, names, tree_at}
use Rattle.fleet_model.specs.Jobs.{Job, job_with}
use Rattle.fleet_model.specs.Store.{Manifest, stored_jobs}
use Rattle.fleet_model.specs.Sources.{older_nodes, reaches_oldest}
use Rattle.fleet_model.specs.Invariants.JobsFit.{SourcesStand, OpenedStands}
use Rattle.fleet_model.specs.Work.Parties.{LiveWorker, runs_attempt}
use Rattle.step_model.specs.Past.{World}
use Rattle.step_model.specs.Kept.Keeps.{Keeps}
use Rattle.step_model.specs.Steps.ClaimSteps.{can_start}
use Rattle.step_laws.proofs.Elements.{all_at, all_true_from}
use Rattle.step_laws.proofs.PollJobs.{stretch_named}
use Rattle.step_laws.proofs.Changed.{job_found}
use Rattle.worker_laws.specs.ClaimReports.{IsLost}
use Rattle.worker_laws.proofs.Merged.{running}

-- A job that stands can start.
pub stands_starts : (manifest : Manifest) (job : Job) → SourcesStand manifest.trees job → can_start manifest job ≡ true
stands_starts manifest job s = by (older_nodes job.spec.sources (names (tree_at job.spec.segment manifest.trees))) refl s.stretch
  where
    both : (a b : Bool) → a ≡ true → b ≡ true → (a && b) ≡ true
    both a b e f = rw (e, f) refl

    by : (o : Option (List NodeName)) → older_nodes job.spec.sources (names (tree_at job.spec.segment manifest.trees)) ≡ o → IsTrue (reaches_oldest job.spec.sources o) → can_start manifest job ≡ true
    by None e h = absurd (cc h)
    by (Some rest) e h =
        let tree = tree_at job.spec.segment manifest.trees in
        both (list_all (names_contain (names tree)) job.spec.sources) _ (all_true_from (names_contain (names tree)) job.spec.sources (stretch_named job.spec.sources (names tree) rest e)) ((bytes_eq-Decides _ job.source_tables).1 s.source_tables)

-- A job that runs at an attempt of which this is known has its sources in the trees, so it can start.
pub lost_at : (merge : Operator) (world : World) (w : LiveWorker) (job taken : Job) → Keeps merge world → can_start world.store.manifest taken ≡ can_start world.store.manifest job
    → ((now : Job) → job_with job.id (stored_jobs world.store) ≡ Some now → IsTrue (runs_attempt w.number (job.attempt + 1) (Some now)) → now ≡ taken) → IsLost w world.store job
lost_at merge world w job taken k alike runs cannot = by (job_with job.id (stored_jobs world.store)) refl
  where
    clash : (b : Bool) → b ≡ true → b ≡ false → ⊥
    clash true e f = absurd (cc f)
    clash false e f = absurd (cc e)

    at : (now : Job) → job_with job.id (stored_jobs world.store) ≡ Some now → (b : Bool) → runs_attempt w.number (job.attempt + 1) (Some now) ≡ b → b ≡ false
    at now e false f = refl
    at now e true f =
        let stands = (all_at (OpenedStands world.store) (stored_jobs world.store) now k.stored.sources (job_found job.id (stored_jobs world.store) now e).there).0 (running w.number (job.attempt + 1) now f) in
        absurd (clash (can_start world.store.manifest taken) (stands_starts world.store.manifest taken (subst (SourcesStand world.store.manifest.trees) (runs now e f) stands)) (rw alike cannot))

    by : (o : Option Job) → job_with job.id (stored_jobs world.store) ≡ o → runs_attempt w.number (job.attempt + 1) o ≡ false
    by None e = refl
    by (Some now) e = at now e (runs_attempt w.number (job.attempt + 1) (Some now)) refl
