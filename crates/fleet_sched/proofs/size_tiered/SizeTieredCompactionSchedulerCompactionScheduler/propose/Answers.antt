use Rattle.std.proofs.Common.{◌≡◌, sym, ◌∙◌, ap, [], map, subst}
use Rattle.fleet_jobs.specs.Specs.{spec_of}
use Rattle.sched_model.specs.SizeTiered.{tiered_proposals}
use Rattle.fleet_sched.specs.TieredParts.{TieredParts}
use Rattle.fleet_sched.specs.Views.{view_of}
use Rattle.fleet_sched.proofs.Proposals.{none_proposed, proposed_is}
use Rattle.fleet_sched.proofs.size_tiered.SizeTieredCompactionSchedulerCompactionScheduler.propose.Goals as goal

pub returns : goal.returns
returns c flushes =
    let made = map spec_of c.in_ok-picks.picks.items in
    let own = c.self.inside in
    let same = proposed_is own.options own.max_concurrent_compactions flushes c.args.state.now c.free_slots-slots.result c.fresh_run_id.result c.in_ok-trees.trees.items made
    c.free_slots-slots.ensures (c.fresh_run_id.ensures flushes) c.in_ok-trees.ensures c.in_ok-picks.ensures in
    subst (λ (s : TieredParts). made ≡ tiered_proposals s.options s.max_concurrent_compactions (view_of flushes c.args.state.now)) c.self.view_is same

pub returns-then-slots-eq0 : goal.returns-then-slots-eq0
returns-then-slots-eq0 c flushes =
    let made = map spec_of c.new.result.items in
    let own = c.self.inside in
    let none = none_proposed own.options own.max_concurrent_compactions (view_of flushes c.args.state.now) (sym c.if-slots-eq0.true ∙ c.free_slots-slots.ensures) in
    subst (λ (s : TieredParts). made ≡ tiered_proposals s.options s.max_concurrent_compactions (view_of flushes c.args.state.now)) c.self.view_is (ap (map spec_of) c.new.ensures.items ∙ none)
