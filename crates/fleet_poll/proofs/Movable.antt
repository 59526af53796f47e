-- Which jobs a poll moves.
use Rattle.std.proofs.Common.{◌≡◌, refl, sym, ◌∙◌, ap, ℕ, ◌++◌, Bool, true, false, ◌&&◌}
use Rattle.std.specs.Prelude.{IfSome, is_some, Option, Some, None}
use Rattle.std.specs.List.{AllByRecursion}
use Rattle.std.specs.Option.{ForSome}
use Rattle.fleet_model.specs.Jobs.{is_drain, is_drain_to}
use Rattle.fleet_model.specs.Work.Polls.{can_move}
use Rattle.fleet_model.specs.Work.PollStates.{PollInput}
use Rattle.fleet_tree.specs.Trees.{RunFlushes, trees_of}
use Rattle.fleet_tree.specs.declared.manifest.ManifestCore.{ManifestCore}
use Rattle.fleet_jobs.specs.Parts.JobParts.{JobParts}
use Rattle.fleet_jobs.specs.Laws.{EndsFit, l0_names, names_of, run_names}
use Rattle.fleet_jobs.specs.Places.{sources_stand}
use Rattle.fleet_jobs.specs.Specs.{destination_of, spec_of}
use Rattle.fleet_jobs.specs.Taken.{taken_tables}
use Rattle.fleet_jobs.proofs.ModelMovable.{movable_jobs_are_the_models}
use Rattle.fleet_poll.specs.Made.{run_if_moved}
use Rattle.fleet_poll.proofs.Followed.{sources_in_order}

-- The model can move the job exactly if moves are allowed and a run is made.
pub movable_is : (flushes : RunFlushes) (input : PollInput) (job : JobParts) (core : ManifestCore) → sources_stand job.spec core ≡ true → is_drain (spec_of job.spec) ≡ false → AllByRecursion (EndsFit input.tables) (taken_tables job.spec core)
    → (input.options.moves && is_some (run_if_moved (Some job) core)) ≡ can_move input (trees_of flushes core) (spec_of job.spec)
movable_is flushes input job core stand makes fit = movable_jobs_are_the_models flushes input job.spec core makes (by (destination_of job.spec) refl makes) fit
  where
    by : (destination : Option ℕ) → destination_of job.spec ≡ destination → is_drain_to destination ≡ false → names_of job.spec ≡ l0_names job.spec ++ run_names job.spec
    by None e drain = absurd (cc drain)
    by (Some id) e drain = sources_in_order job.spec core id e stand

pub movable_in : (flushes : RunFlushes) (input : PollInput) (found : Option JobParts) (core : ManifestCore) (is_moved : Bool) → ForSome found (λ job. sources_stand job.spec core ≡ true) → input.options.moves ≡ true → is_moved ≡ is_some (run_if_moved found core)
    → IfSome found (λ job. is_drain (spec_of job.spec) ≡ false → AllByRecursion (EndsFit input.tables) (taken_tables job.spec core) → is_moved ≡ can_move input (trees_of flushes core) (spec_of job.spec))
movable_in flushes input None core is_moved stand allowed is = tt
movable_in flushes input (Some job) core is_moved stand allowed is = λ makes fit.
    is ∙ sym (ap (λ b. b && is_some (run_if_moved (Some job) core)) allowed) ∙ movable_is flushes input job core (stand job refl) makes fit
