use Rattle.std.proofs.Common.{sym, subst, ◌∙◌, ap, ◌≤◌, max}
use Rattle.std.proofs.lemmas.List.{length-map}
use Rattle.fleet_plan.specs.Plans.{views_of}
use Rattle.fleet_range.specs.Keys.{range_of}
use Rattle.fleet_exec.proofs.PlannedContexts.{is_planned}
use Rattle.fleet_exec.proofs.active_job.planned_context.Goals as goal

pub returns-clause-context : goal.returns-clause-context
returns-clause-context c =
    let args = c.args.args.now in
    let views = c.as_slice-views.result.now in
    let runs = c.as_slice-runs.result.now in
    let plan = c.in_ok-ranges.ensures in
    is_planned args c.args.max_subcompactions c.args.floor (views_of views runs) c.in_ok-ranges.ranges.items c.in_ok-subcompactions.field-0.items c.settings.result c.new.result
    c.requires.floor
    (ap (λ vs. views_of vs runs) c.as_slice-views.ensures ∙ ap (views_of args.l0_sst_views) c.as_slice-runs.ensures)
    record { anchors = plan.ranges; rows = plan.planned; few = subst (λ n. n ≤ max c.args.max_subcompactions 1) (sym (length-map c.in_ok-ranges.ranges.items range_of)) plan.at_most; rising = plan.rising; every_key = plan.every_key }
    c.in_ok-subcompactions.ensures.parts
    c.settings.ensures
    c.new.ensures
