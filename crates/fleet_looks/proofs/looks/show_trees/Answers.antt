use Rattle.std.proofs.lemmas.Result.{IfOk-weaker}
use Rattle.fleet_looks.proofs.LookLines.{trees_said}
use Rattle.fleet_looks.proofs.looks.show_trees.Goals as goal

pub returns-clause-reply : goal.returns-clause-reply
returns-clause-reply c = IfOk-weaker c.trees.result _ _ (λ answer says. trees_said c.manifest.result.now c.args.store.now.world.store answer c.manifest.ensures says) c.trees.ensures.reply
