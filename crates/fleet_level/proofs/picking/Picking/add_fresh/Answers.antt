use Rattle.std.proofs.Common.{◌≡◌, ◌∙◌, ap, subst, ◌+◌, map}
use Rattle.std.specs.Prelude.{Some}
use Rattle.sched_model.specs.FreshRuns.{capped_id}
use Rattle.sched_model.specs.Levels.{LevelPicking, with_level_pick}
use Rattle.fleet_model.specs.Jobs.{JobSpec}
use Rattle.fleet_jobs.specs.Sources.{name_of}
use Rattle.fleet_jobs.specs.Specs.{spec_of}
use Rattle.fleet_level.specs.Picks.{SamePicks}
use Rattle.fleet_level.proofs.Picked.{raised}
use Rattle.fleet_level.proofs.picking.Picking.add_fresh.Goals as goal

pub returns : goal.returns
returns c =
    let spec : spec_of c.for_segment.result ≡ record { segment = c.args.segment.now; sources = map name_of c.args.sources.items; destination = Some c.args.self.now.fresh } =
    ap spec_of c.for_segment.ensures ∙ cc (c.in_ok-segment.ensures.cases, ap (λ (p : LevelPicking). p.fresh) c.add.view_is) in
    raised c.args.segment.now (map name_of c.args.sources.items) c.args.self.now c.add-2.new.self _
    (subst (λ (s : JobSpec). SamePicks c.add-2.new.self (with_level_pick s c.args.self.now)) spec c.in_ok-add.ensures)
    (ap (λ (p : LevelPicking). p.used) c.self.view_is)
    (c.saturating_add-self-inside.ensures ∙ ap (λ (p : LevelPicking). capped_id (p.fresh + 1)) c.self.view_is)
    (ap (λ (p : LevelPicking). p.picks) c.self.view_is)
