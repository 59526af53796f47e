use Rattle.std.proofs.Common.{◌≡◌, take}
use Rattle.std.specs.Option.{option_copied}
use Rattle.fleet_jobs.specs.Taken.{named_runs, runs_in}
use Rattle.fleet_jobs.proofs.sources.named_runs.Given as goal

abbrev pub invariant-sources : goal.invariant-sources
invariant-sources l = l.named.items ≡ named_runs (take l.source-index l.sources) (runs_in (option_copied l.tree))
