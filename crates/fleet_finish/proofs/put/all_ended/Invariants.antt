use Rattle.std.proofs.Common.{◌≡◌, map}
use Rattle.fleet_finish.specs.Puts.{ended_record}
use Rattle.fleet_finish.proofs.put.all_ended.Given as goal

abbrev pub invariant-jobs : goal.invariant-jobs
invariant-jobs l = l.new.items ≡ map (ended_record l.attempt l.outputs) l.yielded
