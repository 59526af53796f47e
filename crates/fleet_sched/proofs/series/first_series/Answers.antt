use Rattle.std.proofs.Common.{true, ◌≡◌, subst, ◌∙◌, ap, sym, arith, length, []}
use Rattle.std.specs.Prelude.{Some, List}
use Rattle.sched_model.specs.Series.{TieredOptions, are_tiered, longest, may_join, oldest}
use Rattle.sched_model.specs.Sizes.{Sized}
use Rattle.std.proofs.Common.{take}
use Rattle.fleet_sched.proofs.Joined.{found_from, passed_from, some_sources, tiered_bounds}
use Rattle.fleet_sched.proofs.series.first_series.Goals as goal

pub returns-then-len-options-clause-series : goal.returns-then-len-options-clause-series
returns-then-len-options-clause-series c =
    let o = c.args.options.now in
    let rest = c.runs_from-rest.ensures in
    let least = ap (λ (o : TieredOptions). o.least) c.options.view_is in
    let is = c.series_len-len.ensures.len ∙ ap (λ l. length (longest (may_join o c.args.used.now) [] l)) rest in
    ap Some (c.series_sources.ensures ∙ ap (λ (l : List Sized). oldest o.most (take c.series_len-len.result l)) rest)
    ∙ sym (c.starts.invariant ∙ found_from o c.args.used.now c.args.runs.now c.starts.start c.series_len-len.result c.starts-test.true is (omega (arith, least)))

pub returns-then-len-options-clause-some : goal.returns-then-len-options-clause-some
returns-then-len-options-clause-some c =
    let o = c.args.options.now in
    let tiered = subst (λ (o : TieredOptions). are_tiered o ≡ true) c.options.view_is c.options.invariant in
    let bounds = tiered_bounds o tiered in
    some_sources o c.args.used.now c.args.runs.now c.series_sources.result.now bounds.0 bounds.1 (returns-then-len-options-clause-series c)

pub starts-preserved : goal.starts-preserved
starts-preserved c =
    let o = c.args.options.now in
    let least = ap (λ (o : TieredOptions). o.least) c.options.view_is in
    let is = c.series_len-len.ensures.len ∙ ap (λ l. length (longest (may_join o c.args.used.now) [] l)) c.runs_from-rest.ensures in
    c.starts.invariant ∙ passed_from o c.args.used.now c.args.runs.now c.starts.start c.series_len-len.result c.starts-test.true is (omega (arith, least))
