use Rattle.std.proofs.Common.{ap}
use Rattle.party_tests.proofs.Starts.{idle_after, same_merge}
use Rattle.party_tests.proofs.sites.Site.handle.Goals as goal

pub invariant_of-self-2 : goal.invariant_of-self-2
invariant_of-self-2 g c =
    let same = ap (λ o. g.O.MergeOperator.merged (g.O.MergeOperator.settings o)) c.under-under.ensures.operator in
    idle_after _ _ _ _ _ c.handle.ensures.ran.ran _ (same_merge _ _ _ _ _ c.start.ensures.ran _ same) c.handle.ensures.keeps c.idle.result c.idle.ensures
