use Rattle.std.specs.Option.{option_or}
use Rattle.std.proofs.Common.{◌≡◌, ℕ}
use Rattle.std.specs.BTreeMap.{get}
use Rattle.std.specs.Ordering.{nat_cmp}
use Rattle.fleet_gates.specs.Tables.{flush_table}
use Rattle.fleet_gates.proofs.tables.flush_tables.Given as goal

-- The table of a flush is among those so far, or is that of a flush that is left.
abbrev pub invariant-views : goal.invariant-views
invariant-views l = (id : ℕ) → option_or (get nat_cmp l.tables id) (flush_table id l.view-iterator) ≡ flush_table id l.views
