use Rattle.std.proofs.Common.{◌∙◌, ap}
use Rattle.fleet_book.specs.Records.{record_with}
use Rattle.fleet_book.specs.States.{own_jobs}
use Rattle.fleet_book.proofs.Merged.{over_kept}
use Rattle.fleet_book.proofs.state.CompactorState.merge_remote_compactions.Goals as goal

pub returns-clause-over : goal.returns-clause-over
returns-clause-over c = λ id job found over.
    let own = c.self.inside.compactions.compactions.jobs in
    let known = ap (λ s. record_with id (own_jobs s)) c.self.view_is ∙ found in
    ap (λ m. record_with id m.compactions.jobs) c.in_ok-merged.ensures.records ∙ over_kept id job own c.args.remote.compactions.jobs known over
