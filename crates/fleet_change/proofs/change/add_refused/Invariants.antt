use Rattle.std.proofs.Common.{◌≡◌, ◌++◌, take}
use Rattle.fleet_model.specs.Work.Records.{firsts}
use Rattle.fleet_change.proofs.change.add_refused.Given as goal

abbrev pub invariant-refused : goal.invariant-refused
invariant-refused l = l.ids.items ≡ l.initial.ids.items ++ firsts (take l.job-index l.refused)
