-- How replies spell the places of proposals, each with the rule that its proposal failed.
use Rattle.std.specs.Prelude.{ℕ, List, ◌++◌, map, codes, decimal}
use Rattle.script_model.specs.Words.{list_text, comma}

abbrev pub place_text : ℕ × ℕ → List ℕ
place_text p = decimal p.0 ++ codes ":" ++ decimal p.1

abbrev pub places_text : List (ℕ × ℕ) → List ℕ
places_text places = list_text comma (map place_text places)
