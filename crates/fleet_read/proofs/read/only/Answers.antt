use Rattle.fleet_read.proofs.OneKey.{same_le}
use Rattle.fleet_read.proofs.read.only.Goals as goal

pub new-requires : goal.new-requires
new-requires c = same_le c.in_ok-start.start c.in_ok-end.end c.args.key.now c.in_ok-start.ensures c.in_ok-end.ensures
