use Rattle.std.proofs.Common.{◌≡◌, refl, ◌∙◌, sym, ap, subst, IfOk}
use Rattle.std.specs.Option.{option_copied}
use Rattle.fleet_jobs.specs.Specs.{sources_of}
use Rattle.fleet_gates.proofs.NodeTables.{tables_at}
use Rattle.fleet_gates.proofs.tables.source_tables.Goals as goal

pub returns-in-Some : goal.returns-in-Some
returns-in-Some c = λ flushes.
    let found = ap option_copied (sym c.in-Some.is) ∙ c.tree_for_segment.ensures in
    subst (λ ids. IfOk c.tables_in.result (λ tables. tables.items ≡ ids)) (tables_at flushes c.args.core.now c.args.spec.now _ c.sources.result.now _ (c.as_slice.ensures ∙ c.segment.ensures) c.sources.ensures found) c.tables_in.ensures

pub returns-in-None : goal.returns-in-None
returns-in-None c = λ flushes.
    let found = ap option_copied (sym c.in-None.is) ∙ c.tree_for_segment.ensures in
    c.new.ensures.items ∙ tables_at flushes c.args.core.now c.args.spec.now _ (sources_of c.args.spec.now) _ (c.as_slice.ensures ∙ c.segment.ensures) refl found
