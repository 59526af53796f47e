use Rattle.std.proofs.Common.{◌∙◌}
use Rattle.fleet_run.proofs.Counted.{wrote, wrote_short}
use Rattle.fleet_run.proofs.generated_runs.run_generated.Goals as goal

pub returns-clause-wrote : goal.returns-clause-wrote
returns-clause-wrote g c = wrote _ _ c.args.number c.args.rounds _ c.in_ok-sizes.sizes c.in_ok-sizes.ensures.ran c.as_bytes.result.now (c.as_bytes.ensures.value ∙ c.in-Ok.ensures) _ _ c.write_all.result c.write_all.ensures.ok

pub returns-clause-short : goal.returns-clause-short
returns-clause-short g c = wrote_short _ _ c.args.number c.args.rounds _ c.in_ok-sizes.sizes c.in_ok-sizes.ensures.ran c.as_bytes.result.now (c.as_bytes.ensures.value ∙ c.in-Ok.ensures) _ _ c.write_all.result c.write_all.ensures.short
