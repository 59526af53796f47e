use Rattle.std.proofs.Common.{◌≡◌, take}
use Rattle.fleet_output.specs.Gets.{GotEach, sources_at}
use Rattle.fleet_output.proofs.gets.get_tables.Given as goal

-- So far the first tables were got.
abbrev pub invariant-tables : goal.invariant-tables
invariant-tables g l =
    GotEach (take l.id-index l.ids) (g.S.Store.view l.initial.store) (g.S.Store.view l.store)
    × (l.sources ≡ sources_at (g.S.Store.view l.initial.store).world.store.tables (take l.id-index l.ids))
