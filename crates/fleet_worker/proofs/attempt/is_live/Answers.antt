use Rattle.std.proofs.Common.{◌∙◌, sym, ap}
use Rattle.std.specs.Option.{option_copied}
use Rattle.fleet_worker.proofs.Live.{found_live}
use Rattle.fleet_worker.proofs.attempt.is_live.Goals as goal

pub returns-in-Some : goal.returns-in-Some
returns-in-Some c =
    c.runs.ensures ∙ found_live c.args.records.now.jobs c.args.worker c.job-id.result c.number-number.result c.args.attempt.now _ c.job-id.ensures c.number-number.ensures (sym (ap option_copied c.in-Some.is) ∙ c.get.ensures)

pub returns-in-None : goal.returns-in-None
returns-in-None c = found_live c.args.records.now.jobs c.args.worker c.job-id.result c.number-number.result c.args.attempt.now _ c.job-id.ensures c.number-number.ensures (sym (ap option_copied c.in-None.is) ∙ c.get.ensures)
