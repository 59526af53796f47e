use Rattle.std.proofs.Common.{◌≡◌, drop}
use Rattle.std.specs.Cmp.Lexicographic.{pointwise}
use Rattle.fleet_change.specs.Same.{same_table}
use Rattle.fleet_change.proofs.same_manifest.have_same_tables.Given as goal

-- What is left says whether all are the same.
abbrev pub invariant-places : goal.invariant-places
invariant-places l = pointwise same_table (drop l.place l.these) (drop l.place l.others) ≡ pointwise same_table l.these l.others
