use Rattle.std.proofs.Common.{rules, ◌≡◌, ◌∙◌, ap, ℕ}
use Rattle.fleet_history.specs.declared.party.Party.TheVariants as party
use Rattle.fleet_store.specs.Memory.{StoreParts}
use Rattle.fleet_lines.specs.Steps.{at_line}
use Rattle.fleet_lines.proofs.MadeFinishes.{finish_made}
use Rattle.fleet_lines.proofs.steps.finished.Goals as goal

pub returns-clause-made : goal.returns-clause-made
returns-clause-made g c = λ scheduler s when sized here.
    let is : c.id.result ≡ c.args.worker.now.number = search rules in
    finish_made _ _ scheduler s c.args.moment c.args.options.now.max_sst_size c.args.number _ c.args.worker.now c.args.store.now _ _ _ _ c.finish.result c.args.job
    ((g.met.O.MergeOperator g.world.𝓛 g.world.𝓜 g.world.𝓡 ((λ s x. x), (λ x. x), (λ x. x), λ x. x)).lawful _)
    (ap (λ o. g.O.MergeOperator.merged (g.O.MergeOperator.settings o)) (c.set_actor.ensures.same_operator ∙ c.under-under.ensures.operator))
    (c.set_actor.ensures.store ∙ (ap (λ (s : StoreParts). at_line c.args.number (party.Worker c.id.result) s) c.under-under.ensures.store ∙ ap (λ (n : ℕ). at_line c.args.number (party.Worker n) c.args.store.now) is)) (search rules) (search rules) c.requires.may when sized here c.finish.ensures.ran
