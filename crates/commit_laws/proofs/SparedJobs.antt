-- A commit spares the jobs that wait for a worker or run.
use Rattle.std.proofs.Common.{◌≡◌, sym, subst, ℕ, List, [], false}
use Rattle.std.specs.Prelude.{IsTrue, ◌||◌}
use Rattle.row_model.specs.Fold.{Operator, IsLawful}
use Rattle.fleet_model.specs.Jobs.{JobSpec, Job, Scheduled, Running, Compacted, has_status}
use Rattle.fleet_model.specs.Work.Gates.{reserves_nodes}
use Rattle.fleet_model.specs.History.{Party, Step}
use Rattle.fleet_model.specs.Store.{Manifest, stored_jobs}
use Rattle.fleet_model.specs.Invariants.JobsFit.{SourcesStand}
use Rattle.step_model.specs.Past.{World}
use Rattle.step_laws.proofs.Elements.{IsIn, all_at}
use Rattle.step_laws.proofs.Bodies.{JobKept}
use Rattle.commit_laws.specs.After.{joined_by}
use Rattle.commit_laws.specs.SparedJobs.{IsSpared, CommitsSpareJobs}
use Rattle.commit_laws.proofs.Stretches.{other_or}
use Rattle.commit_laws.proofs.JobSteps.{is_done, JobHolds}
use Rattle.commit_laws.proofs.Midway.{found_job}
use Rattle.commit_laws.proofs.CommitJobs.{trees_of, manifest_of, CommitCase, done_late, waits_not_late}
use Rattle.commit_laws.proofs.Commits.{case_of}
use Rattle.step_laws.proofs.ManifestBodies.{or_left}

-- A commit that takes effect spares each stored job that is Scheduled or Running.
spared : (merge : Operator) (world : World) (specs own : ℕ → JobSpec) (party : Party) (steps : List Step) (c : CommitCase merge world specs own party steps) (job : Job) → IsIn job (stored_jobs world.store) → IsTrue (has_status Scheduled job || has_status Running job)
    → IsSpared world (manifest_of world own steps) job
spared merge world specs own party steps c job there waits = record {
  stands = holds.stand reserves undone stand;
  settings = λ settings fit. record { floor = fit.floor; cut = fit.cut; tick = fit.tick; last_run = λ is. holds.oldest reserves undone stand (fit.last_run is) };
}
  where
    kept : JobKept merge world specs job
    kept = all_at (JobKept merge world specs) (stored_jobs world.store) job c.body.jobs there

    holds : JobHolds world (trees_of world own steps) (joined_by steps []) job
    holds = all_at (JobHolds world (trees_of world own steps) (joined_by steps [])) (stored_jobs world.store) job c.midway.jobs there

    undone : is_done world.store.history (joined_by steps []) job ≡ false
    undone = other_or (is_done world.store.history (joined_by steps []) job) (λ is. waits_not_late job.status waits (done_late merge world specs own party steps c job there kept is))

    reserves : IsTrue (reserves_nodes job)
    reserves = or_left (has_status Scheduled job || has_status Running job) (has_status Compacted job) waits

    stand : SourcesStand world.store.manifest.trees job
    stand = kept.fits.sources.0 waits

pub commits_spare_jobs : (merge : Operator) → IsLawful merge → CommitsSpareJobs merge
commits_spare_jobs merge lawful world party steps value job k fits stored waits =
    subst (λ (v : Manifest). IsSpared world v job) (sym fits.makes) (record { stands = s.stands; settings = λ settings fit. let f = s.settings settings fit in record { floor = f.floor; cut = f.cut; tick = f.tick; last_run = f.last_run } })
  where
    s : IsSpared world (manifest_of world fits.specs steps) job
    s = spared merge world _ fits.specs party steps (case_of merge world fits.specs party steps lawful k fits.known fits.each) job (found_job job.id (stored_jobs world.store) job stored).0 waits
