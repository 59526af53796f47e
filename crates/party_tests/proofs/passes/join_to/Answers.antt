use Rattle.std.proofs.Common.{◌∙◌, ap}
use Rattle.fleet_lock.specs.Passes.{PassValue}
use Rattle.party_tests.proofs.passes.join_to.Goals as goal

pub returns : goal.returns
returns g c = record { own = ap (λ (pass : PassValue). pass.table) c.join.ensures.pass ∙ c.requires.own }
