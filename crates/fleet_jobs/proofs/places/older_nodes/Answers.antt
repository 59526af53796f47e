use Rattle.std.proofs.Common.{sym, ◌∙◌, map}
use Rattle.std.specs.Option.{option_copied}
use Rattle.fleet_jobs.specs.Sources.{name_of}
use Rattle.fleet_jobs.proofs.Standing.{found_in_front, some_map}
use Rattle.fleet_jobs.proofs.places.older_nodes.Goals as goal

pub returns-then-is_some : goal.returns-then-is_some
returns-then-is_some c =
    let some = some_map (map name_of) (option_copied c.after_front-older.result) ∙ some_map (λ x. x.now) c.after_front-older.result ∙ sym c.is_some.ensures ∙ c.if-is_some.true in
    found_in_front (map name_of c.args.sources.now) (map name_of c.places.rest.now) _ c.after_front-older.ensures some ∙ sym c.places.invariant
