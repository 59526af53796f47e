use Rattle.std.proofs.Common.{◌∙◌}
use Rattle.fleet_change.proofs.Compared.{unchanged_is}
use Rattle.fleet_change.proofs.same_manifest.is_unchanged.Goals as goal

pub returns-clause-model : goal.returns-clause-model
returns-clause-model c = λ flushes manifest p has trees horizon. c.are_alike.ensures ∙ unchanged_is c.args.got.now c.args.now.now flushes manifest p has trees horizon
