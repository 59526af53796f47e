use Rattle.std.proofs.Common.{◌≡◌, sym, ◌∙◌, ap, subst, List, [], ◌∷◌, ◌++◌, map, false}
use Rattle.std.specs.Prelude.{Some}
use Rattle.std.proofs.lemmas.List.{map-append}
use Rattle.fleet_model.specs.Jobs.{JobSpec}
use Rattle.fleet_model.specs.Nodes.{NodeName, Run, names_contain}
use Rattle.sched_model.specs.Levels.{LevelPicking, with_level_pick}
use Rattle.fleet_jobs.specs.Sources.{name_of}
use Rattle.fleet_jobs.specs.Specs.{spec_of}
use Rattle.fleet_jobs.specs.declared.source_id.SourceId.{SourceId}
use Rattle.fleet_jobs.specs.declared.source_id.SourceId.TheVariants.{SortedRun}
use Rattle.fleet_level.specs.Picks.{SamePicks}
use Rattle.fleet_level.proofs.Picked.{went_into}
use Rattle.fleet_level.proofs.TreeParts.{on_ok}
use Rattle.fleet_level.proofs.picking.Picking.pick_into_run.Goals as goal

pub returns : goal.returns
returns c =
    let flushes = map name_of c.args.flushes.items in
    let named : List NodeName → JobSpec = λ sources. record { segment = c.in_ok-segment.segment; sources = sources; destination = Some c.args.run } in
    let spec : spec_of c.for_segment.result ≡ record { segment = c.args.segment.now; sources = flushes ++ Run c.args.run ∷ []; destination = Some c.args.run } =
    ap spec_of c.for_segment.ensures
    ∙ ap (λ (l : List SourceId). named (map name_of l)) c.in_ok-push.ensures.items
    ∙ ap named (map-append name_of c.args.flushes.items (SortedRun c.args.run ∷ []))
    ∙ cc c.in_ok-segment.ensures.cases in
    let free : names_contain c.args.self.now.used (Run c.args.run) ≡ false =
    ap (λ (p : LevelPicking). names_contain p.used (Run c.args.run)) (sym c.self.view_is) ∙ sym c.contains.ensures ∙ c.if-contains.false in
    on_ok c.add.result (λ (same : SamePicks c.add.new.self (with_level_pick (spec_of c.for_segment.result) c.args.self.now)).
    went_into c.args.segment.now flushes (Run c.args.run) c.args.self.now c.add.new.self free
    (subst (λ (s : JobSpec). SamePicks c.add.new.self (with_level_pick s c.args.self.now)) spec same))
    c.add.ensures
