use Rattle.std.proofs.Common.{◌∙◌, sym, ap}
use Rattle.std.specs.Prelude.{Some, option_map}
use Rattle.sched_model.specs.Sizes.{Sized}
use Rattle.fleet_sched.proofs.Lists.{last_of-map}
use Rattle.fleet_sched.proofs.planned_trees.last_id.Goals as goal

pub returns-in-Some : goal.returns-in-Some
returns-in-Some c =
    ap (λ (run : Sized). Some run.id) c.run.view_is
    ∙ ap (option_map (λ (run : Sized). run.id)) c.in-Some.ensures.value
    ∙ sym (last_of-map (λ (run : Sized). run.id) c.args.runs.now)
