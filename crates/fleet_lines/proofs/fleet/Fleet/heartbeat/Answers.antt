use Rattle.fleet_lines.proofs.Named.{differ_seen, nobody_runs, taken_found}
use Rattle.fleet_lines.proofs.WorkerLines.{beat_said}
use Rattle.fleet_lines.proofs.fleet.Fleet.heartbeat.Goals as goal

pub take_worker-requires : goal.take_worker-requires
take_worker-requires g c = differ_seen (g.O.MergeOperator.merged (g.O.MergeOperator.settings c.args.operator.now)) c.args.self.now _ c.self.view_is c.requires

pub beaten-beat-requires-clause-running : goal.beaten-beat-requires-clause-running
beaten-beat-requires-clause-running g c = λ κs held. (taken_found (g.O.MergeOperator.merged (g.O.MergeOperator.settings c.args.operator.now)) c.args.worker c.args.self.now _ c.take_worker.result c.in-Some.live c.self.view_is c.requires c.take_worker.ensures.found c.in-Some.is).runs

pub beaten-beat-requires-clause-may : goal.beaten-beat-requires-clause-may
beaten-beat-requires-clause-may g c = λ κs held. (taken_found (g.O.MergeOperator.merged (g.O.MergeOperator.settings c.args.operator.now)) c.args.worker c.args.self.now _ c.take_worker.result c.in-Some.live c.self.view_is c.requires c.take_worker.ensures.found c.in-Some.is).may

pub returns-in_default-clause-ran : goal.returns-in_default-clause-ran
returns-in_default-clause-ran g c =
    nobody_runs (g.O.MergeOperator.merged (g.O.MergeOperator.settings c.args.operator.now)) c.args.number c.args.worker _ c.args.self.now _ c.take_worker.result c.take_worker.new.workers.items c.no_such_party.result c.requires c.self.view_is c.take_worker.ensures.found c.take_worker.ensures.others c.in_default.is c.no_such_party.ensures.reply

pub returns-clause-ran : goal.returns-clause-ran
returns-clause-ran g c =
    beat_said (g.O.MergeOperator.merged (g.O.MergeOperator.settings c.args.operator.now)) c.args.number c.args.worker c.args.self.now _ c.take_worker.result c.in-Some.live c.beaten-beat.new.worker c.take_worker.new.workers.items c.keep_worker.new.workers.items c.beaten-beat.new.store c.beaten-beat.result c.beat_reply.result
    ((g.met.O.MergeOperator g.world.𝓛 g.world.𝓜 g.world.𝓡 ((λ s x. x), (λ x. x), (λ x. x), λ x. x)).lawful _) c.requires c.self.view_is c.take_worker.ensures.found c.take_worker.ensures.others c.in-Some.is c.beaten-beat.ensures.stopped c.beaten-beat.ensures.same c.beaten-beat.ensures.err c.beaten-beat.ensures.may c.beaten-beat.ensures.made
    c.in_ok-keep_worker.ensures.items c.beat_reply.ensures.says
