use Rattle.std.proofs.Common.{◌∙◌, sym, ap}
use Rattle.std.specs.Option.{option_copied}
use Rattle.fleet_tree.proofs.Falling.{all_above}
use Rattle.fleet_tree.proofs.run_chunks.place_in_falling.Goals as goal

pub returns-in-Some : goal.returns-in-Some
returns-in-Some c = all_above c.args.id c.args.runs.now c.in-Some.last.now c.requires (ap option_copied (sym c.in-Some.is) ∙ c.last.ensures.value) c.if-id-last.true
