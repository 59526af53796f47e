use Rattle.std.proofs.Common.{rules, ◌≡◌, ◌∙◌, ap, ℕ}
use Rattle.fleet_history.specs.declared.party.Party.TheVariants as party
use Rattle.fleet_store.specs.Memory.{StoreParts}
use Rattle.fleet_lines.specs.Steps.{at_line}
use Rattle.fleet_lines.proofs.MadeOutputs.{output_made}
use Rattle.fleet_lines.proofs.steps.written.Goals as goal

pub returns-clause-made : goal.returns-clause-made
returns-clause-made g c = λ scheduler s when here.
    let is : c.id.result ≡ c.args.worker.now.number = search rules in
    output_made _ _ scheduler s c.args.moment c.args.number _ c.args.worker.now c.args.range c.args.rows c.args.store.now _ _ _ _ c.output.result c.args.job
    ((g.met.O.MergeOperator g.world.𝓛 g.world.𝓜 g.world.𝓡 ((λ s x. x), (λ x. x), (λ x. x), λ x. x)).lawful _) c.requires.some
    (ap (λ o. g.O.MergeOperator.merged (g.O.MergeOperator.settings o)) (c.set_actor.ensures.same_operator ∙ c.under-under.ensures.operator))
    (c.set_actor.ensures.store ∙ (ap (λ (s : StoreParts). at_line c.args.number (party.Worker c.id.result) s) c.under-under.ensures.store ∙ ap (λ (n : ℕ). at_line c.args.number (party.Worker n) c.args.store.now) is)) (search rules) (search rules) c.requires.may when here c.output.ensures.ran
