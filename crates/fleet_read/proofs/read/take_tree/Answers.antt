use Rattle.std.proofs.Common.{sym, ◌∙◌, ◌++◌, ap, subst}
use Rattle.std.specs.List.{AllByRecursion}
use Rattle.step_laws.proofs.Elements.{all_back, all_front}
use Rattle.fleet_read.specs.Stored.{IsHeldView}
use Rattle.fleet_read.proofs.Taken.{TakesLeft, left_none, left_run, rest_held, run_held, runs_left, views_of}
use Rattle.fleet_read.proofs.read.take_tree.Goals as goal

pub take_tables-requires-clause-held : goal.take_tables-requires-clause-held
take_tables-requires-clause-held c =
    let held = IsHeldView c.args.store.now.world.store in
    subst (AllByRecursion held) (sym c.iter.ensures) (all_front held c.args.tree.now.l0 _ c.requires.held)

pub runs-init : goal.runs-init
runs-init c =
    let store = c.args.store.now.world.store in
    let tree = c.args.tree.now in
    let key = c.args.key.now in
    let is = c.into_iter-run-iterator.ensures.into_iter_gives ∙ c.iter-run-items.ensures in (
      subst (λ runs. AllByRecursion (IsHeldView store) (views_of runs)) (sym is) (all_back (IsHeldView store) tree.l0 (views_of tree.compacted) c.requires.held),
      subst (λ runs. TakesLeft store key (tree.l0 ++ views_of tree.compacted) (views_of runs) c.args.read.now c.take_tables.new.read) (sym is)
          (runs_left store key tree.l0 c.iter.result tree.compacted c.args.read.now c.take_tables.new.read c.iter.ensures c.in_ok-take_tables.ensures.taken),
    )

pub take_tables-requires-in-runs-clause-held : goal.take_tables-requires-in-runs-clause-held
take_tables-requires-in-runs-clause-held c =
    run_held (IsHeldView c.args.store.now.world.store) c.runs.run-iterator c.in-Some.run'.now _ c.of_slice-views.result c.in-Some.ensures.steps (c.of_slice-views.ensures ∙ c.as_slice.ensures) c.runs.invariant.0

pub runs-preserved : goal.runs-preserved
runs-preserved c =
    let tree = c.args.tree.now in (
      rest_held (IsHeldView c.args.store.now.world.store) c.runs.run-iterator c.in-Some.run'.now _ c.in-Some.ensures.steps c.runs.invariant.0,
      left_run c.args.store.now.world.store c.args.key.now _ c.runs.run-iterator c.in-Some.run'.now _ c.of_slice-views.result c.args.read.now c.runs.read c.take_tables-in-runs.new.read c.runs.invariant.1 c.in-Some.ensures.steps (c.of_slice-views.ensures ∙ c.as_slice.ensures) c.in_ok-take_tables-2.ensures.taken,
    )

pub returns-clause-taken : goal.returns-clause-taken
returns-clause-taken c = left_none c.args.store.now.world.store c.args.key.now _ (views_of c.runs.run-iterator) c.args.read.now c.runs.read c.runs.invariant.1 (ap views_of c.in-None.ensures.steps.0)
