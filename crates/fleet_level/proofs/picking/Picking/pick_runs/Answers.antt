use Rattle.std.proofs.Common.{rules, ◌≡◌, ◌<◌, ◌^◌, sym, ◌∙◌, ap, subst, ℕ, ◌+◌, ◌-◌, ◌*◌, List, ◌∷◌, length, true, arith}
use Rattle.row_model.specs.Written.Sizes.{saturated_sum}
use Rattle.sched_model.specs.Levels.{LevelOptions, are_allowed, limit}
use Rattle.fleet_tree.specs.declared.run.SortedRun.{SortedRun}
use Rattle.fleet_level.specs.Picks.{SamePicks}
use Rattle.fleet_level.proofs.Limits.{first_limit, next_limit, ratio_is_some}
use Rattle.fleet_level.proofs.RunsLeft.{begins, looked_at, picks_from}
use Rattle.fleet_level.proofs.picking.Picking.pick_runs.Goals as goal

pub runs-init : goal.runs-init
runs-init c =
    let o = c.args.options.now in
    let is = c.in-Some.ensures.steps ∙ ap (λ (runs : List SortedRun). c.in-Some.first.now ∷ runs) (sym c.into_iter-next-iterator.ensures.into_iter_gives) in
    let count = ap (λ (runs : List SortedRun). length runs) is in
    let place : length c.args.runs - (1 + length c.into_iter-next-iterator.result) ≡ 0 = omega (arith, count) in
    let base = ap (λ (options : LevelOptions). options.base) c.options.view_is in
    let fits : c.options.inside.base < 2 ^ 64 = search rules in (
      omega (arith, count),
      base ∙ first_limit o (subst (λ n. n < 2 ^ 64) base fits) ∙ ap (λ n. limit o n) (sym place),
      λ handles flushes has. begins o handles flushes c.args.segment.now c.in-Some.first.now c.into_iter-next-iterator.result c.args.runs c.args.self.now is,
    )

pub runs-preserved : goal.runs-preserved
runs-preserved c =
    let o = c.args.options.now in
    let steps = c.in-Some-next.ensures.steps in
    let count = ap (λ (runs : List SortedRun). length runs) steps in
    let place = length c.args.runs - (1 + length c.runs.next-iterator) in
    let next : length c.args.runs - (1 + length c.next-in-runs.new.self) ≡ place + 1 = omega (arith, count, c.runs.invariant.0) in (
      omega (arith, count, c.runs.invariant.0),
      next_limit o place c.runs.limit c.saturating_mul-limit.result (ratio_is_some o (subst (λ (options : LevelOptions). are_allowed options ≡ true) c.options.view_is c.options.invariant)) c.runs.invariant.1
          (c.saturating_mul-limit.ensures ∙ ap (λ (options : LevelOptions). saturated_sum (c.runs.limit * options.ratio)) c.options.view_is)
          ∙ ap (λ n. limit o n) (sym next),
      λ handles flushes has.
          let all = picks_from o handles flushes c.args.segment.now 0 c.args.runs c.args.self.now in
          subst (λ n. SamePicks (picks_from o handles flushes c.args.segment.now n (c.in-Some-next.next.now ∷ c.next-in-runs.new.self) c.pick_pair.new.self) all) (sym next)
          (looked_at o handles flushes c.args.segment.now place c.runs.run.now c.in-Some-next.next.now c.next-in-runs.new.self c.runs.self c.pick_pair.new.self all
          (subst (λ (runs : List SortedRun). SamePicks (picks_from o handles flushes c.args.segment.now place (c.runs.run.now ∷ runs) c.runs.self) all) steps (c.runs.invariant.2 handles flushes has))
          (c.in_ok-pick_pair.ensures o place handles flushes c.runs.invariant.1 has)),
    )
