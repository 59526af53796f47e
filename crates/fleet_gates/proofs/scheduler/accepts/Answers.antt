use Rattle.std.proofs.Common.{[]}
use Rattle.fleet_gates.proofs.Validated.{not_refused, refused}
use Rattle.fleet_gates.proofs.scheduler.accepts.Goals as goal

pub returns-in-InvalidCompaction-clause-accepted : goal.returns-in-InvalidCompaction-clause-accepted
returns-in-InvalidCompaction-clause-accepted g c = λ flushes. refused _ c.validate.result c.in-Err.error (c.validate.ensures flushes) c.in-Err.is c.in-InvalidCompaction.is

pub returns-in_default : goal.returns-in_default
returns-in_default g c = record {
  accepted = λ flushes. tt;
  memory = not_refused _ c.validate.result c.in-Err.error (c.validate.ensures (λ prefix run. [])) c.in-Err.is c.in_default.not-InvalidCompaction;
}
