use Rattle.fleet_exec.proofs.finish.finish_at_once.Goals as goal

pub returns-clause-each : goal.returns-clause-each
returns-clause-each g c i job d lt = (c.in_ok-made.ensures.each i d lt).1.met job
