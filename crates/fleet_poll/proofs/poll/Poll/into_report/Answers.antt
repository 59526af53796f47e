use Rattle.std.proofs.Common.{◌∙◌, ap, map}
use Rattle.fleet_poll.proofs.Reached.{reports}
use Rattle.fleet_poll.proofs.poll.Poll.into_report.Goals as goal

pub returns-clause-report : goal.returns-clause-report
returns-clause-report c = reports c.args.self c.in_ok-added.added c.in_ok-dropped.dropped (c.in_ok-added.ensures.ids ∙ ap (map (λ new. new.0)) c.as_slice.ensures) (c.in_ok-dropped.ensures.dropped ∙ ap (map (λ place. (place, 9))) c.as_slice-2.ensures)
