use Rattle.std.proofs.Common.{◌∙◌, sym}
use Rattle.fleet_worker.proofs.Finishes.{finishes_by}
use Rattle.fleet_worker.proofs.worker.Worker.finish_of.Goals as goal

pub returns-clause-put : goal.returns-clause-put
returns-clause-put c =
    rw c.in-Some.is
    (finishes_by c.args.moment c.args.self.now c.args.attempt.now c.args.outputs.now c.in-Some.got (rw (c.compactions.ensures, c.id.ensures) at (sym c.is_live.ensures ∙ c.if-not-is_live.false))
    c.in_ok-put.put (rw c.ending-ending.ensures at c.in_ok-put.ensures.put))
