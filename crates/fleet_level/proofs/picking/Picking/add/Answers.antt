use Rattle.std.proofs.Common.{◌∙◌, ap, [], ◌∷◌, ◌++◌, map}
use Rattle.std.proofs.lemmas.List.{map-append}
use Rattle.fleet_model.specs.Jobs.{nodes_of}
use Rattle.sched_model.specs.Levels.{LevelPicking}
use Rattle.fleet_jobs.specs.Specs.{spec_of}
use Rattle.fleet_level.proofs.Picked.{added}
use Rattle.fleet_level.proofs.picking.Picking.add.Goals as goal

pub returns : goal.returns
returns c =
    added (spec_of c.args.spec) c.args.self.now _
    (c.in_ok-add_nodes_of.ensures ∙ ap (λ (p : LevelPicking). p.used ++ nodes_of (spec_of c.args.spec)) c.self.view_is)
    (ap (λ (p : LevelPicking). p.fresh) c.self.view_is)
    (ap (map spec_of) c.in_ok-push.ensures.items ∙ map-append spec_of c.self.inside.picks.items (c.args.spec ∷ []) ∙ ap (λ (p : LevelPicking). p.picks ++ spec_of c.args.spec ∷ []) c.self.view_is)
