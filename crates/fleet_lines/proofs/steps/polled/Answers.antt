use Rattle.std.proofs.Common.{rules}
use Rattle.fleet_lines.proofs.steps.polled.Goals as goal

pub returns-in-Err : goal.returns-in-Err
returns-in-Err g c = record { reached = c.in-Err.ensures.ran.reached; made = search rules; same = tt; report = tt }
