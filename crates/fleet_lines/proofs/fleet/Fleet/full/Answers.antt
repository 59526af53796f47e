use Rattle.fleet_lines.proofs.SubmitLines.{full_said}
use Rattle.fleet_lines.proofs.fleet.Fleet.full.Goals as goal

pub returns-clause-ran : goal.returns-clause-ran
returns-clause-ran g c =
    full_said (g.O.MergeOperator.merged (g.O.MergeOperator.settings c.args.operator.now)) _ c.args.number c.args.segment _ c.args.self.now _ c.requested-jobs.new.store c.requested-jobs.result c.request_reply.result ((g.met.O.MergeOperator g.world.𝓛 g.world.𝓜 g.world.𝓡 ((λ s x. x), (λ x. x), (λ x. x), λ x. x)).lawful _) c.requires c.self.view_is c.request_of-request.ensures
    c.requested-jobs.ensures c.request_reply.ensures.says
