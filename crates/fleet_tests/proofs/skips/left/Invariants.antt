use Rattle.std.specs.Prelude.{⊤}
use Rattle.fleet_iter.specs.List.{giving_state}
use Rattle.fleet_iter.specs.MergeState.{IsSound}
use Rattle.fleet_tests.proofs.skips.left.Given as goal

-- The merge is sound.
abbrev pub invariant-given : goal.invariant-given
invariant-given l = IsSound (λ _. ⊤) giving_state l.merge
