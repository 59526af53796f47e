use Rattle.fleet_lines.proofs.Named.{differ_seen}
use Rattle.fleet_lines.proofs.WorkerLines.{start_said}
use Rattle.fleet_lines.proofs.fleet.Fleet.start_worker.Goals as goal

pub take_worker-requires : goal.take_worker-requires
take_worker-requires g c = differ_seen (g.O.MergeOperator.merged (g.O.MergeOperator.settings c.args.operator.now)) c.args.self.now _ c.self.view_is c.requires

pub returns-clause-ran : goal.returns-clause-ran
returns-clause-ran g c =
    start_said (g.O.MergeOperator.merged (g.O.MergeOperator.settings c.args.operator.now)) c.args.number c.args.worker c.args.release c.release_named.result c.is_some-was_live.result c.args.self.now _ c.take_worker.result c.start-started.result c.take_worker.new.workers.items c.keep_worker.new.workers.items c.killed.new.store c.noted.new.store c.done.result
    ((g.met.O.MergeOperator g.world.𝓛 g.world.𝓜 g.world.𝓡 ((λ s x. x), (λ x. x), (λ x. x), λ x. x)).lawful _) c.requires c.self.view_is c.take_worker.ensures.found c.take_worker.ensures.others c.is_some-was_live.ensures c.in_ok-killed.ensures.made c.in_ok-noted.ensures.made c.release_named.ensures c.start-started.ensures.starts c.in_ok-keep_worker.ensures.items
    c.done.ensures.reply
