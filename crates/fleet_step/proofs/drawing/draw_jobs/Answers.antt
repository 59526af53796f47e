use Rattle.std.proofs.Common.{refl, inl, inr, arith, ◌++◌, [], ◌∷◌}
use Rattle.std.proofs.lemmas.Result.{err_from_is_err_and}
use Rattle.fleet_step.proofs.Draws.{drew_more, length_more}
use Rattle.fleet_step.proofs.drawing.draw_jobs.Goals as goal

pub draws-init : goal.draws-init
draws-init g c = rw c.new-ids.ensures.items (refl, refl)

pub returns-in_err-id : goal.returns-in_err-id
returns-in_err-id g c =
    let p = err_from_is_err_and c.from_residual.result c.from_residual.ensures.1 in
    rw (p.1, p.2)
    (record {
      ids = c.draws.ids.items;
      mid = g.S.Store.view c.draws.store;
      drew = c.draws.invariant.1;
      few = omega (arith, c.draws.invariant.0, c.draws-test.true);
      stopped = inl (omega (arith, c.draws.invariant.0, c.draws-test.true), c.in_err-id.ensures);
    })

pub returns-in_err-push : goal.returns-in_err-push
returns-in_err-push g c =
    let p = err_from_is_err_and c.from_residual-in_err-push.result c.from_residual-in_err-push.ensures.1 in
    let many = length_more c.draws.ids.items c.in_ok-id.id c.draws.drawn c.draws.invariant.0 in
    rw (p.1, p.2)
    (record {
      ids = c.draws.ids.items ++ c.in_ok-id.id ∷ [];
      mid = g.S.Store.view c.draw_job.new.self;
      drew = drew_more c.args.moment c.draws.ids.items c.in_ok-id.id _ _ _ c.draws.invariant.1 c.in_ok-id.ensures;
      few = omega (arith, many, c.draws-test.true);
      stopped = inr (refl, refl);
    })

pub draws-preserved : goal.draws-preserved
draws-preserved g c =
    rw c.in_ok-push.ensures.items
    (length_more c.draws.ids.items c.in_ok-id.id c.draws.drawn c.draws.invariant.0, drew_more c.args.moment c.draws.ids.items c.in_ok-id.id _ _ _ c.draws.invariant.1 c.in_ok-id.ensures)

pub returns : goal.returns
returns g c = rw c.from_vec.ensures (omega (arith, c.draws.invariant.0, c.draws-test.false, c.draws.auto.drawn-end), c.draws.invariant.1)
