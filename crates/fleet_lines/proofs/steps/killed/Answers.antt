use Rattle.std.proofs.Common.{false}
use Rattle.fleet_lines.proofs.Noting.{note_keeps}
use Rattle.fleet_lines.proofs.steps.killed.Goals as goal

pub returns-then-was_live-clause-keeps : goal.returns-then-was_live-clause-keeps
returns-then-was_live-clause-keeps g c = note_keeps _ c.args.number c.args.party false c.args.store.now _ c.noted.result ((g.met.O.MergeOperator g.world.𝓛 g.world.𝓜 g.world.𝓡 ((λ s x. x), (λ x. x), (λ x. x), λ x. x)).lawful _) c.requires c.noted.ensures.made
