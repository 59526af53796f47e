use Rattle.std.proofs.lemmas.Result.{on_ok_weaker}
use Rattle.fleet_book.proofs.Records.{put_by}
use Rattle.fleet_book.proofs.job_map.put.Goals as goal

pub returns-then-has_id-clause-ok : goal.returns-then-has_id-clause-ok
returns-then-has_id-clause-ok c =
    put_by c.args.job c.args.jobs.now _ _ _ _ _ _ c.id-id.ensures c.place_of-place.ensures c.get.ensures c.has_id.ensures c.if-has_id.true c.replace.ensures

pub returns-else-has_id-clause-ok : goal.returns-else-has_id-clause-ok
returns-else-has_id-clause-ok c =
    on_ok_weaker c.insert.result (λ e. put_by c.args.job c.args.jobs.now _ _ _ _ _ _ c.id-id.ensures c.place_of-place.ensures c.get.ensures c.has_id.ensures c.if-has_id.false e) c.insert.ensures.ok
