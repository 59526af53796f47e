use Rattle.std.proofs.Common.{refl}
use Rattle.std.proofs.lemmas.Result.{err_from_is_err_and}
use Rattle.fleet_coordinator.proofs.PollTries as law
use Rattle.fleet_coordinator.proofs.polling.draw_named.Goals as goal

pub returns-in_err-ids-clause-failed : goal.returns-in_err-ids-clause-failed
returns-in_err-ids-clause-failed g c = λ next.
    let p = err_from_is_err_and c.from_residual.result c.from_residual.ensures.1 in
    rw (p.1, p.2) (law.draws_fail c.args.moment c.args.specs.now _ _ _ c.in_err-ids.field-0.0 refl c.in_err-ids.ensures next)

pub with_ids-requires : goal.with_ids-requires
with_ids-requires g c = rw c.as_slice.ensures c.in_ok-ids.ensures.0

pub returns-clause-drawn : goal.returns-clause-drawn
returns-clause-drawn g c =
    law.drawn_named c.args.moment c.args.specs.now _ _ c.in_ok-ids.ids c.in_ok-ids.ensures.0 c.in_ok-ids.ensures.1 (λ v. v.items) c.with_ids.result (rw c.as_slice.ensures at c.with_ids.ensures.named)

pub returns-clause-failed : goal.returns-clause-failed
returns-clause-failed g c = λ next.
    law.draws_end c.args.moment c.args.specs.now _ _ c.in_ok-ids.ids c.in_ok-ids.ensures.0 c.in_ok-ids.ensures.1 next c.with_ids.result c.with_ids.ensures.memory
