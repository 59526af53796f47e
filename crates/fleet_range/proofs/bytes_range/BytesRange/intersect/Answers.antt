use Rattle.std.proofs.Common.{rules, Some, None}
use Rattle.fleet_range.specs.Shown.{ends_of}
use Rattle.fleet_range.proofs.Membership.{keys_of_both, keys_of_none}
use Rattle.fleet_range.proofs.bytes_range.BytesRange.intersect.Goals as goal

pub returns-in-Some-clause-both : goal.returns-in-Some-clause-both
returns-in-Some-clause-both c = keys_of_both ends_of c.args.self.now c.args.other.now (Some c.in-Some.range) (search rules)

pub returns-in-None-clause-none : goal.returns-in-None-clause-none
returns-in-None-clause-none c = keys_of_none ends_of c.args.self.now c.args.other.now None (search rules)
