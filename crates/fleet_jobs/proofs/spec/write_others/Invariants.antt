use Rattle.std.proofs.Common.{take, ◌++◌}
use Rattle.std.specs.Prelude.{flat_map, codes}
use Rattle.std.specs.Fmt.{HasWritten, IsPlainFormatter}
use Rattle.fleet_jobs.specs.Texts.{quoted_source}
use Rattle.fleet_jobs.proofs.spec.write_others.Given as goal

abbrev pub invariant-sources : goal.invariant-sources
invariant-sources g l = IsPlainFormatter l.initial.f → HasWritten g.W.Write.write_str_gives l.initial.f (flat_map (λ other. codes ", " ++ quoted_source other) (take l.source-index l.sources)) l.f
