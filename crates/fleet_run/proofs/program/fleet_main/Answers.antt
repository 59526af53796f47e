use Rattle.std.proofs.Common.{◌≡◌, ◌∙◌, ap, Err}
use Rattle.fleet_run.specs.declared.script.FleetError.TheVariants.{WriteFault}
use Rattle.fleet_run.specs.declared.command.Command.TheVariants.{Generate}
use Rattle.fleet_run.proofs.Counted.{wrote_as_asked, wrote_short_as_asked}
use Rattle.fleet_run.proofs.program.fleet_main.Goals as goal

pub returns-in-None-clause-generates : goal.returns-in-None-clause-generates
returns-in-None-clause-generates g c = λ n r asks. absurd (c.in-None.ensures (Generate n r) asks.allowed asks.spelt)

pub returns-in-Ok-clause-generated : goal.returns-in-Ok-clause-generated
returns-in-Ok-clause-generated g c = λ n r zero asks.
    wrote_as_asked _ _ _ _ _ _ c.in-Some-Generate.field-0 n r c.in-Some-Generate.number c.in-Some-Generate.rounds c.in-Some-Generate.field-0-is c.in-Some-Generate.ensures asks c.in-Ok.ensures.wrote

pub returns-in-Err-WriteFault-clause-wrote_part : goal.returns-in-Err-WriteFault-clause-wrote_part
returns-in-Err-WriteFault-clause-wrote_part g c = λ n r five asks.
    let why : c.in-Err-WriteFault.field-0 ≡ WriteFault = cc in
    wrote_short_as_asked _ _ _ _ _ _ c.in-Some-Generate.field-0 n r c.in-Some-Generate.number c.in-Some-Generate.rounds c.in-Some-Generate.field-0-is c.in-Some-Generate.ensures asks
    (c.run_generated-ran.ensures.short (c.in-Err-WriteFault.is ∙ ap (λ e. Err e) why))
