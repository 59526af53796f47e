use Rattle.std.proofs.Common.{rules}
use Rattle.fleet_lines.proofs.Named.{differ_seen, nobody_runs}
use Rattle.fleet_lines.proofs.WorkerLines.{kill_said, none_there}
use Rattle.fleet_lines.proofs.fleet.Fleet.kill_worker.Goals as goal

pub take_worker-requires : goal.take_worker-requires
take_worker-requires g c = differ_seen (g.O.MergeOperator.merged (g.O.MergeOperator.settings c.args.operator.now)) c.args.self.now _ c.self.view_is c.requires

pub returns-then-is_none-clause-ran : goal.returns-then-is_none-clause-ran
returns-then-is_none-clause-ran g c =
    nobody_runs (g.O.MergeOperator.merged (g.O.MergeOperator.settings c.args.operator.now)) c.args.number c.args.worker _ c.args.self.now _ c.take_worker.result c.take_worker.new.workers.items c.no_such_party.result c.requires c.self.view_is c.take_worker.ensures.found c.take_worker.ensures.others (none_there c.take_worker.result (search rules)) c.no_such_party.ensures.reply

pub returns-clause-ran : goal.returns-clause-ran
returns-clause-ran g c =
    kill_said (g.O.MergeOperator.merged (g.O.MergeOperator.settings c.args.operator.now)) c.args.number c.args.worker c.args.self.now _ c.take_worker.result c.take_worker.new.workers.items c.noted.new.store c.done.result ((g.met.O.MergeOperator g.world.𝓛 g.world.𝓜 g.world.𝓡 ((λ s x. x), (λ x. x), (λ x. x), λ x. x)).lawful _) c.requires c.self.view_is c.take_worker.ensures.found c.take_worker.ensures.others (search rules)
    c.in_ok-noted.ensures.made c.done.ensures.reply
