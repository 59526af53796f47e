use Rattle.std.proofs.Common.{◌≡◌, map, take}
use Rattle.script_model.specs.Replies.{attempt_text}
use Rattle.fleet_text.specs.Printed.{attempt_begun}
use Rattle.fleet_worker.specs.Claims.{attempts_at}
use Rattle.fleet_worker.specs.Workers.{attempt_of}
use Rattle.fleet_lines.proofs.claims.all_begun.Given as goal

abbrev pub invariant-jobs : goal.invariant-jobs
invariant-jobs l = map attempt_begun l.list.items ≡ map attempt_text (map attempt_of (attempts_at (take l.job-index l.jobs) l.worker.attempts))
