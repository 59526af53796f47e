use Rattle.std.proofs.Common.{◌∙◌, sym}
use Rattle.std.proofs.lemmas.Bool.{OnFalse_at}
use Rattle.party_tests.proofs.refusals.poll_refused.Goals as goal

pub poll_alone-requires-clause-leads : goal.poll_alone-requires-clause-leads
poll_alone-requires-clause-leads c = OnFalse_at (sym c.stopped.ensures ∙ c.if-stopped.false) c.poll_beside-made.ensures
