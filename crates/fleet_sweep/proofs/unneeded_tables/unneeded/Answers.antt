use Rattle.std.proofs.Common.{◌≡◌, ◌∙◌, ap, subst, List, ℕ, IfOk}
use Rattle.std.specs.Prelude.{◌||◌}
use Rattle.std.specs.BTreeMap.{is_at}
use Rattle.std.specs.List.{list_any}
use Rattle.std.specs.Ordering.{nat_cmp}
use Rattle.fleet_model.specs.Jobs as jobs
use Rattle.fleet_tree.specs.Trees.{trees_with_prefix}
use Rattle.fleet_store.specs.Records.{jobs_or_none}
use Rattle.fleet_sweep.specs.Named.{named_ids}
use Rattle.fleet_sweep.proofs.Chosen.{outside}
use Rattle.fleet_sweep.proofs.unneeded_tables.unneeded.Goals as goal

pub returns : goal.returns
returns c =
    let named = named_ids (trees_with_prefix c.args.core.now) (jobs_or_none c.args.records.now) in
    let none = λ (id : ℕ). ap (λ (ids : List ℕ). list_any (λ k. is_at (nat_cmp id) k) ids) c.new-needed.ensures.empty in
    subst (λ (ids : List ℕ). IfOk c.others.result (λ others. others.items ≡ ids))
    (outside c.add_all-2.new.set named c.args.pins.now c.args.held.now (λ id.
    c.in_ok-add_all-2.ensures id
    ∙ ap (λ b. b || jobs.contains c.args.pins.now id)
    (c.in_ok-add_all.ensures id
    ∙ ap (λ b. b || jobs.contains c.as_slice.result.now id) (none id)
    ∙ ap (λ (ids : List ℕ). jobs.contains ids id) (c.as_slice.ensures.value ∙ c.in_ok-named.ensures))))
    c.others.ensures
