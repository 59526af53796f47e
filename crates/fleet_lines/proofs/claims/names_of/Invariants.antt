use Rattle.std.proofs.Common.{◌≡◌, map, take}
use Rattle.fleet_jobs.specs.Contexts.{noted_range}
use Rattle.fleet_lines.proofs.claims.names_of.Given as goal

abbrev pub invariant-parts : goal.invariant-parts
invariant-parts l = l.names.items ≡ map (λ range. range.1) (map noted_range (take l.range-index l.ranges))
