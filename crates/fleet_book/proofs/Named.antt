-- The names of sources have a name exactly if a source has it.
use Rattle.std.proofs.Common.{◌≡◌, refl, ap, List, [], ◌∷◌, Bool, true, false, cond, map, ◌||◌}
use Rattle.fleet_model.specs.Nodes.{NodeName, name_eq, names_contain}
use Rattle.fleet_jobs.specs.Sources.{name_of}
use Rattle.fleet_jobs.specs.declared.source_id.SourceId.{SourceId}
use Rattle.fleet_book.specs.Finishes.{is_named}

pub named_alike : (sources : List SourceId) (name : NodeName) → names_contain (map name_of sources) name ≡ is_named sources name
named_alike [] name = refl
named_alike (source ∷ sources) name = by (name_eq (name_of source) name) (named_alike sources name)
  where
    by : (b : Bool) → names_contain (map name_of sources) name ≡ is_named sources name → cond b true (names_contain (map name_of sources) name) ≡ (b || is_named sources name)
    by true rest = refl
    by false rest = rest
