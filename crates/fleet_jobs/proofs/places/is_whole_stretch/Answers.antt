use Rattle.std.proofs.Common.{◌≡◌, sym, ◌∙◌, ap, map, not, ◌||◌}
use Rattle.std.specs.Prelude.{option_map, Some}
use Rattle.std.specs.Option.{option_copied}
use Rattle.fleet_model.specs.Sources.{begins_with_run, older_nodes}
use Rattle.fleet_jobs.specs.Sources.{name_of}
use Rattle.fleet_jobs.proofs.Standing.{reaches_if}
use Rattle.fleet_jobs.proofs.places.is_whole_stretch.Goals as goal

pub returns-then-not-has_flush : goal.returns-then-not-has_flush
returns-then-not-has_flush c =
    let found = older_nodes (map name_of c.args.sources.now) (map name_of c.args.nodes.now) in
    let there : Some (map name_of c.in-Some.older.now) ≡ found = ap (λ o. option_map (λ older. map name_of older) (option_copied o)) (sym c.in-Some.is) ∙ c.older_nodes.ensures in
    let whole = reaches_if name_of c.args.sources.now c.in-Some.older.now found c.has_flush.result c.has_flush.ensures there in
    sym (whole ∙ ap (λ b. not b || begins_with_run (map name_of c.in-Some.older.now)) c.if-not-has_flush.true ∙ sym (ap not c.if-not-has_flush.true))

pub returns-else-not-has_flush : goal.returns-else-not-has_flush
returns-else-not-has_flush c =
    let found = older_nodes (map name_of c.args.sources.now) (map name_of c.args.nodes.now) in
    let there : Some (map name_of c.in-Some.older.now) ≡ found = ap (λ o. option_map (λ older. map name_of older) (option_copied o)) (sym c.in-Some.is) ∙ c.older_nodes.ensures in
    let whole = reaches_if name_of c.args.sources.now c.in-Some.older.now found c.has_flush.result c.has_flush.ensures there in
    sym (whole ∙ ap (λ b. not b || begins_with_run (map name_of c.in-Some.older.now)) c.if-not-has_flush.false ∙ sym c.begins_with_run.ensures)
