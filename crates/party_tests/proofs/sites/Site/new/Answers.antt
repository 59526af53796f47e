use Rattle.std.proofs.Common.{subst, sym}
use Rattle.step_model.specs.Kept.Keeps.{Keeps}
use Rattle.fleet_store.specs.Memory.{StoreParts}
use Rattle.party_tests.proofs.sites.Site.new.Goals as goal

pub invariant_of-result : goal.invariant_of-result
invariant_of-result g c =
    let merge = g.O.MergeOperator.merged (g.O.MergeOperator.settings c.args.operator) in
    c.idle.ensures merge c.in_ok-store.store.world (subst (λ (store : StoreParts). Keeps merge store.world) (sym c.in_ok-store.ensures.store) (c.fresh_keeps.ensures merge))
