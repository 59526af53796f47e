use Rattle.std.proofs.Common.{rules}
use Rattle.fleet_lines.proofs.Named.{differ_seen, nobody_runs, taken_found}
use Rattle.fleet_lines.proofs.WorkerLines.{released_keeps, stop_said, struck_said}
use Rattle.fleet_lines.proofs.fleet.Fleet.stop_worker.Goals as goal

pub take_worker-requires : goal.take_worker-requires
take_worker-requires g c = differ_seen (g.O.MergeOperator.merged (g.O.MergeOperator.settings c.args.operator.now)) c.args.self.now _ c.self.view_is c.requires

pub released-jobs-requires-clause-running : goal.released-jobs-requires-clause-running
released-jobs-requires-clause-running g c = λ κs held. (taken_found (g.O.MergeOperator.merged (g.O.MergeOperator.settings c.args.operator.now)) c.args.worker c.args.self.now _ c.take_worker.result c.in-Some.live c.self.view_is c.requires c.take_worker.ensures.found c.in-Some.is).runs

pub released-jobs-requires-clause-may : goal.released-jobs-requires-clause-may
released-jobs-requires-clause-may g c = λ κs held. (taken_found (g.O.MergeOperator.merged (g.O.MergeOperator.settings c.args.operator.now)) c.args.worker c.args.self.now _ c.take_worker.result c.in-Some.live c.self.view_is c.requires c.take_worker.ensures.found c.in-Some.is).may

pub noted-requires : goal.noted-requires
noted-requires g c = (
  search rules,
  released_keeps (g.O.MergeOperator.merged (g.O.MergeOperator.settings c.args.operator.now)) c.args.number c.in-Some.live _ c.released-jobs.new.store c.released-jobs.result ((g.met.O.MergeOperator g.world.𝓛 g.world.𝓜 g.world.𝓡 ((λ s x. x), (λ x. x), (λ x. x), λ x. x)).lawful _)
      (taken_found (g.O.MergeOperator.merged (g.O.MergeOperator.settings c.args.operator.now)) c.args.worker c.args.self.now _ c.take_worker.result c.in-Some.live c.self.view_is c.requires c.take_worker.ensures.found c.in-Some.is).may.keeps c.released-jobs.ensures,
)

pub returns-in_default-clause-ran : goal.returns-in_default-clause-ran
returns-in_default-clause-ran g c =
    nobody_runs (g.O.MergeOperator.merged (g.O.MergeOperator.settings c.args.operator.now)) c.args.number c.args.worker _ c.args.self.now _ c.take_worker.result c.take_worker.new.workers.items c.no_such_party.result c.requires c.self.view_is c.take_worker.ensures.found c.take_worker.ensures.others c.in_default.is c.no_such_party.ensures.reply

pub returns-then-is_struck-clause-ran : goal.returns-then-is_struck-clause-ran
returns-then-is_struck-clause-ran g c =
    struck_said (g.O.MergeOperator.merged (g.O.MergeOperator.settings c.args.operator.now)) c.args.number c.args.worker c.args.self.now _ c.take_worker.result c.in-Some.live c.take_worker.new.workers.items ((g.met.O.MergeOperator g.world.𝓛 g.world.𝓜 g.world.𝓡 ((λ s x. x), (λ x. x), (λ x. x), λ x. x)).lawful _) c.requires c.self.view_is c.take_worker.ensures.found c.take_worker.ensures.others c.in-Some.is
    c.released-jobs.new.store c.released-jobs.result c.store_fault.result c.released-jobs.ensures (search rules) c.store_fault.ensures.reply

pub returns-clause-ran : goal.returns-clause-ran
returns-clause-ran g c =
    stop_said (g.O.MergeOperator.merged (g.O.MergeOperator.settings c.args.operator.now)) c.args.number c.args.worker c.args.self.now _ c.take_worker.result c.in-Some.live c.take_worker.new.workers.items ((g.met.O.MergeOperator g.world.𝓛 g.world.𝓜 g.world.𝓡 ((λ s x. x), (λ x. x), (λ x. x), λ x. x)).lawful _) c.requires c.self.view_is c.take_worker.ensures.found c.take_worker.ensures.others c.in-Some.is
    c.released-jobs.new.store c.noted.new.store c.released-jobs.result c.release_reply.result c.released-jobs.ensures (search rules) c.in_ok-noted.ensures.made c.release_reply.ensures.says
