use Rattle.std.proofs.Common.{ap}
use Rattle.party_tests.proofs.Starts.{idle_after}
use Rattle.party_tests.proofs.sites.Site.submit_all.Goals as goal

pub invariant_of-self : goal.invariant_of-self
invariant_of-self g c =
    let same = ap (λ o. g.O.MergeOperator.merged (g.O.MergeOperator.settings o)) c.under-under.ensures.operator in
    idle_after _ _ _ _ _ c.submit.ensures.ran _ same c.submit.ensures.keeps c.idle.result c.idle.ensures
