use Rattle.std.proofs.Common.{sym, subst, Option, Ok}
use Rattle.std.proofs.lemmas.Result.{err_from_is_err_and}
use Rattle.fleet_rows.specs.declared.row.RowEntry.{RowEntry}
use Rattle.fleet_iter.specs.Peek.{Looks}
use Rattle.fleet_iter.specs.PeekState.{state_of}
use Rattle.fleet_iter.proofs.Peeks.{looks}
use Rattle.fleet_iter.proofs.peeking.PeekingIterator.peek.Goals as goal

pub returns-in_err-look_ahead : goal.returns-in_err-look_ahead
returns-in_err-look_ahead g c =
    let p = err_from_is_err_and c.from_residual.result c.from_residual.ensures.1 in
    rw (p.1, p.2) (looks _ _ _ c.in_err-look_ahead.ensures.peeks)

pub returns : goal.returns
returns g c =
    let s = state_of g.T.RowEntryIterator.state c.args.self.now in
    let P : Option RowEntry → _ = λ o. Looks s (Ok o) in
    subst P (sym c.peeked.ensures) (looks _ _ _ c.in_ok-look_ahead.ensures.peeks)
