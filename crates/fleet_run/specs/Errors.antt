-- The errors with which a script is refused.
use Rattle.std.specs.Prelude.{⊤}
use Rattle.fleet_text.specs.declared.error.TextError.{TextError}
use Rattle.fleet_text.specs.declared.error.TextError.TheVariants as text_errors
use Rattle.fleet_run.specs.declared.script.FleetError.{FleetError}
use Rattle.fleet_run.specs.declared.script.FleetError.TheVariants as errors

abbrev pub as_fleet_error : TextError → FleetError
as_fleet_error (text_errors.BadLine line) = errors.BadLine line
as_fleet_error text_errors.Memory = errors.Memory

abbrev pub IsScriptError : FleetError → Type 0
IsScriptError (errors.BadLine line) = ⊤
IsScriptError errors.WriteFault = ⊤
IsScriptError errors.Memory = ⊤
IsScriptError errors.TooLong = ⊥
IsScriptError errors.ReadFault = ⊥
IsScriptError errors.Usage = ⊥
