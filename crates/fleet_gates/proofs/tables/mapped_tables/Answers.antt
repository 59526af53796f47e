use Rattle.fleet_gates.proofs.NodeTables.{tables_more}
use Rattle.fleet_gates.proofs.tables.mapped_tables.Goals as goal

pub sources-preserved : goal.sources-preserved
sources-preserved c =
    tables_more c.args.tree.now c.args.sources.now c.sources.source-index c.source-item.result _ _ c.sources-test.true c.source-item.is c.sources.invariant (c.in_ok-add_tables_of.ensures (λ id. c.in_ok-flushes.ensures id))
