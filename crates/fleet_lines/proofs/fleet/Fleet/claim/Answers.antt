use Rattle.fleet_lines.proofs.ClaimLines.{claim_said}
use Rattle.fleet_lines.proofs.Named.{differ_seen, nobody_runs, taken_found}
use Rattle.fleet_lines.proofs.fleet.Fleet.claim.Goals as goal

pub take_worker-requires : goal.take_worker-requires
take_worker-requires g c = differ_seen _ c.args.self.now _ c.self.view_is c.requires

pub returns-in_default-clause-ran : goal.returns-in_default-clause-ran
returns-in_default-clause-ran g c =
    nobody_runs _ c.args.number c.args.worker _ c.args.self.now _ c.take_worker.result c.take_worker.new.workers.items c.no_such_party.result c.requires c.self.view_is c.take_worker.ensures.found c.take_worker.ensures.others c.in_default.is c.no_such_party.ensures.reply

pub claimed-claimed-requires-clause-running : goal.claimed-claimed-requires-clause-running
claimed-claimed-requires-clause-running g c κs within = (taken_found _ c.args.worker c.args.self.now _ c.take_worker.result c.in-Some.worker c.self.view_is c.requires c.take_worker.ensures.found c.in-Some.is).runs

pub claimed-claimed-requires-clause-may : goal.claimed-claimed-requires-clause-may
claimed-claimed-requires-clause-may g c κs within = (taken_found _ c.args.worker c.args.self.now _ c.take_worker.result c.in-Some.worker c.self.view_is c.requires c.take_worker.ensures.found c.in-Some.is).may

pub returns-clause-ran : goal.returns-clause-ran
returns-clause-ran g c =
    claim_said _ c.args.number c.args.worker c.args.self.now _ c.take_worker.result c.in-Some.worker c.claimed-claimed.new.worker c.take_worker.new.workers.items c.keep_worker.new.workers.items c.claimed-claimed.new.store c.claimed-claimed.result c.in_ok-reply.reply
    ((g.met.O.MergeOperator g.world.𝓛 g.world.𝓜 g.world.𝓡 ((λ s x. x), (λ x. x), (λ x. x), λ x. x)).lawful _) c.requires c.self.view_is c.take_worker.ensures.found c.take_worker.ensures.others c.in-Some.is c.claimed-claimed.ensures.stopped c.claimed-claimed.ensures.same c.claimed-claimed.ensures.err
    c.claimed-claimed.ensures.may c.claimed-claimed.ensures.made c.in_ok-keep_worker.ensures.items c.in_ok-reply.ensures.says
