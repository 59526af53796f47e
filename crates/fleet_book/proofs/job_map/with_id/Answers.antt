use Rattle.std.proofs.Common.{true, false}
use Rattle.std.specs.Option.{option_copied}
use Rattle.fleet_book.proofs.Records.{looked_by}
use Rattle.fleet_book.proofs.job_map.with_id.Goals as goal

pub returns-then-has_id : goal.returns-then-has_id
returns-then-has_id c = looked_by c.args.id _ c.args.jobs.now _ true (option_copied c.get-job.result) c.requires c.place_of.ensures c.get-job.ensures c.has_id.ensures c.if-has_id.true

pub returns-else-has_id : goal.returns-else-has_id
returns-else-has_id c = looked_by c.args.id _ c.args.jobs.now _ false (option_copied c.get-job.result) c.requires c.place_of.ensures c.get-job.ensures c.has_id.ensures c.if-has_id.false
