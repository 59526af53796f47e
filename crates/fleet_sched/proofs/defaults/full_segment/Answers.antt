use Rattle.std.proofs.Common.{rules, ◌∙◌, sym, ap, List, map}
use Rattle.std.specs.Prelude.{option_map}
use Rattle.fleet_model.specs.Work.Scheduler.{Specs, one_or_invalid}
use Rattle.fleet_jobs.specs.Specs.{spec_of}
use Rattle.fleet_jobs.specs.declared.spec.CompactionSpec.{CompactionSpec}
use Rattle.fleet_sched.specs.Views.{trees_in}
use Rattle.fleet_sched.proofs.TreeViews.{at_segment}
use Rattle.fleet_sched.proofs.defaults.full_segment.Goals as goal

pub returns-in_ok-one-in-Some-2 : goal.returns-in_ok-one-in-Some-2
returns-in_ok-one-in-Some-2 c =
    let made = at_segment c.args.segment.now (trees_in c.args.state.now) c.in-Some.tree.now (search rules) in
    ap one_or_invalid (made ∙ sym c.in_ok-spec.ensures ∙ ap (option_map spec_of) c.in-Some-2.is)
    ∙ ap (λ (specs : List CompactionSpec). Specs (map spec_of specs)) (sym c.in_ok-one-in-Some-2.ensures)
