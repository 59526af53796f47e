use Rattle.std.proofs.Common.{sym, subst}
use Rattle.fleet_lock.specs.Locks.{lent_of}
use Rattle.fleet_lock.specs.Passes.{PassValue, pass_view}
use Rattle.party_tests.specs.Callers.{MayHire}
use Rattle.party_tests.specs.Passes.{folds_append}
use Rattle.party_tests.proofs.passes.served.Goals as goal

pub returns : goal.returns
returns g c = subst (λ (pass : PassValue). MayHire (pass_view folds_append (lent_of c.at.result) pass) c.args.number) (sym c.at.ensures.same_pass) (c.requires.serves (lent_of c.at.result))
