-- The step that deletes the tables that nothing can need.
use Rattle.std.specs.Prelude.{ℕ, List, [], ◌∷◌}
use Rattle.fleet_model.specs.Sweeps.{swept_tables}
use Rattle.fleet_model.specs.Exchanges.{ListsTables, DeletesTable}
use Rattle.step_model.specs.Courses.Course.{Course, Ends, Calls, gets_manifest, gets_records}

-- A course that deletes these tables in order.
abbrev pub deletes_each : {A : Type 0} → List ℕ → Course A → Course A
deletes_each [] next = next
deletes_each (table ∷ tables) next = Calls (DeletesTable table) (λ met. deletes_each tables next)

-- A sweep gets the manifest and the records, and lists the held tables. It deletes by rising id the
-- tables that nothing can need, and keeps the pinned ones. It reports the deleted tables.
unfoldable pub sweep : (pins : List ℕ) → Course (List ℕ)
sweep pins = gets_manifest (λ manifest. gets_records (λ records. Calls ListsTables (λ met.
    let tables = swept_tables pins (record met { manifest = manifest; records = records }) in
    deletes_each tables (Ends tables))))
