use Rattle.std.proofs.Common.{rules, ◌∙◌, ap}
use Rattle.fleet_store.specs.Memory.{StoreParts}
use Rattle.fleet_lines.specs.Steps.{at_line}
use Rattle.fleet_lines.proofs.Noting.{noted_if}
use Rattle.fleet_lines.proofs.steps.noted.Goals as goal

pub returns-clause-made : goal.returns-clause-made
returns-clause-made g c =
    noted_if _ _ c.args.number _ c.args.party c.args.comes _ c.args.store.now _ (ap (λ o. g.O.MergeOperator.merged (g.O.MergeOperator.settings o)) (c.set_actor.ensures.same_operator ∙ c.under-under.ensures.operator))
    (c.set_actor.ensures.store ∙ ap (λ (s : StoreParts). at_line c.args.number c.args.party s) c.under-under.ensures.store) c.coming-note.ensures _ _ c.note.result (search rules) (search rules) c.note.ensures
