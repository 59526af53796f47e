use Rattle.std.proofs.Common.{◌≡◌, sym, ◌∙◌, ap, subst, List, [], ◌∷◌, ◌++◌, map, arith}
use Rattle.std.specs.Prelude.{Some}
use Rattle.fleet_model.specs.Jobs.{JobSpec}
use Rattle.fleet_model.specs.Nodes.{Run}
use Rattle.sched_model.specs.Levels.{with_level_pick}
use Rattle.fleet_jobs.specs.Sources.{name_of}
use Rattle.fleet_jobs.specs.Specs.{spec_of}
use Rattle.fleet_jobs.specs.declared.source_id.SourceId.{SourceId}
use Rattle.fleet_jobs.specs.declared.source_id.SourceId.TheVariants.{SortedRun}
use Rattle.fleet_level.specs.Picks.{SamePicks}
use Rattle.fleet_tree.specs.Trees.{run_node}
use Rattle.fleet_level.proofs.Picked.{pair_is_small, pair_is_used, pair_went}
use Rattle.fleet_level.proofs.TreeParts.{on_ok}
use Rattle.fleet_level.proofs.picking.Picking.pick_pair.Goals as goal

pub returns-then-run_size-limit : goal.returns-then-run_size-limit
returns-then-run_size-limit c = λ o place handles flushes at has.
    pair_is_small o handles c.args.segment.now place (run_node flushes c.args.run.now) (run_node flushes c.args.next.now) c.args.limit c.run_size.result c.args.self.now at (c.run_size.ensures handles flushes has) c.if-run_size-limit.true

pub returns-then-uses_either : goal.returns-then-uses_either
returns-then-uses_either c = λ o place handles flushes at has.
    pair_is_used o handles c.args.segment.now place (run_node flushes c.args.run.now) (run_node flushes c.args.next.now) c.args.self.now (sym c.uses_either.ensures ∙ c.if-uses_either.true)

pub returns : goal.returns
returns c = λ o place handles flushes at has.
    let named : List SourceId → JobSpec = λ sources. record { segment = c.in_ok-segment.segment; sources = map name_of sources; destination = Some c.args.next.now.id } in
    let spec : spec_of c.for_segment.result ≡ record { segment = c.args.segment.now; sources = Run c.args.run.now.id ∷ Run c.args.next.now.id ∷ []; destination = Some c.args.next.now.id } =
    ap spec_of c.for_segment.ensures
    ∙ ap named (c.in_ok-push-2.ensures.items ∙ ap (λ (l : List SourceId). l ++ SortedRun c.args.next.now.id ∷ []) (c.in_ok-push.ensures.items ∙ ap (λ (l : List SourceId). l ++ SortedRun c.args.run.now.id ∷ []) c.new-sources.ensures.items))
    ∙ cc c.in_ok-segment.ensures.cases in
    on_ok c.add.result (λ (same : SamePicks c.add.new.self (with_level_pick (spec_of c.for_segment.result) c.args.self.now)).
    pair_went o handles c.args.segment.now place (run_node flushes c.args.run.now) (run_node flushes c.args.next.now) c.args.limit c.run_size.result c.args.self.now c.add.new.self at (c.run_size.ensures handles flushes has)
    (omega (arith, c.if-run_size-limit.false)) (sym c.uses_either.ensures ∙ c.if-uses_either.false)
    (subst (λ (s : JobSpec). SamePicks c.add.new.self (with_level_pick s c.args.self.now)) spec same))
    c.add.ensures
