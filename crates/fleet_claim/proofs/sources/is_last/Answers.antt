use Rattle.std.proofs.Common.{◌∙◌, sym, ap, map, take, [], ◌∷◌}
use Rattle.std.proofs.lemmas.List.{map-append}
use Rattle.fleet_model.specs.Work.Attempts.{is_last}
use Rattle.fleet_model.specs.Sources.{run_ids}
use Rattle.fleet_jobs.specs.Sources.{name_of}
use Rattle.fleet_claim.specs.Sources.{is_last_after}
use Rattle.fleet_claim.proofs.Lists.{item_more}
use Rattle.fleet_claim.proofs.ModelSources.{last_more}
use Rattle.fleet_claim.proofs.sources.is_last.Goals as goal

pub nodes-preserved : goal.nodes-preserved
nodes-preserved c =
    let nodes = c.args.nodes.now in
    let item = c.node-item.result in
    let before = take c.nodes.node-index nodes in
    c.is_last_after-last.ensures
    ∙ ap (λ last. is_last_after last c.args.run (name_of item)) c.nodes.invariant
    ∙ last_more c.args.run (map name_of before) (name_of item)
    ∙ ap (λ names. is_last c.args.run (run_ids names)) (sym (ap (map name_of) (item_more nodes c.nodes.node-index item c.nodes-test.true c.node-item.is) ∙ map-append name_of before (item ∷ [])))
