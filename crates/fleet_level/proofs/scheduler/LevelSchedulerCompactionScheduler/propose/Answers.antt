use Rattle.std.proofs.Common.{◌≡◌, sym, ◌∙◌, ap, subst, map, take}
use Rattle.std.proofs.lemmas.List.{take-map}
use Rattle.sched_model.specs.Levels.{level_picks, pick_trees}
use Rattle.fleet_tree.specs.Handles.{handle_of}
use Rattle.fleet_tree.specs.Trees.{trees_of, trees_with_prefix}
use Rattle.fleet_tree.specs.declared.manifest.ManifestCore.{ManifestCore}
use Rattle.fleet_tree.specs.declared.manifest.VersionedManifest.{VersionedManifest}
use Rattle.fleet_jobs.specs.Specs.{spec_of}
use Rattle.fleet_sched.specs.Views.{view_of}
use Rattle.fleet_level.specs.LevelParts.{LevelParts}
use Rattle.fleet_level.specs.Picks.{SamePicks}
use Rattle.fleet_level.specs.Sizes.{HasSizes, tables_of_trees}
use Rattle.fleet_level.proofs.Proposed.{proposed_is}
use Rattle.fleet_level.proofs.scheduler.LevelSchedulerCompactionScheduler.propose.Goals as goal

pub returns : goal.returns
returns c = λ flushes.
    let own = c.self.inside in
    let state = c.args.state.now in
    let core : c.core-core.result.now ≡ state.manifest.manifest.core = c.core-core.ensures ∙ ap (λ (m : VersionedManifest). m.manifest.core) c.manifest.ensures in
    let same = proposed_is own.options own.max_concurrent_compactions flushes state c.free_slots-slots.result c.in_ok-sizes.sizes c.in_ok-picking.picking c.pick_trees.new.self (map spec_of c.truncate.new.self.items)
    c.free_slots-slots.ensures
    (subst (λ (k : ManifestCore). HasSizes c.in_ok-sizes.sizes (map handle_of (tables_of_trees (trees_with_prefix k)))) core c.in_ok-sizes.ensures)
    (c.in_ok-picking.ensures flushes)
    (λ handles has. subst (λ (k : ManifestCore). SamePicks c.pick_trees.new.self (pick_trees own.options handles (trees_of flushes k) c.in_ok-picking.picking)) core (c.in_ok-pick_trees.ensures handles flushes has))
    (ap (map spec_of) c.truncate.ensures.items ∙ sym (take-map spec_of c.free_slots-slots.result c.into_picks-picks.result.items) ∙ ap (take c.free_slots-slots.result) c.into_picks-picks.ensures) in
    subst (λ (s : LevelParts). map spec_of c.truncate.new.self.items ≡ level_picks s.options s.max_concurrent_compactions (view_of flushes state)) c.self.view_is same
