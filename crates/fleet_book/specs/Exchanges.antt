-- Where a job exchanges runs of its tree in place.
use Rattle.std.specs.Prelude.{ℕ, zero, suc, Bool, true, false, not, ◌≡◌, bytes_eq, drop, is_some, length, take_while, List, [], ◌∷◌}
use Rattle.std.specs.List.{list_any}
use Rattle.fleet_tree.specs.declared.tree.LsmTreeState.{LsmTreeState}
use Rattle.fleet_jobs.specs.Sources.{view_id_of}
use Rattle.fleet_jobs.specs.declared.source_id.SourceId.{SourceId}

-- True if the source is a flush.
abbrev pub is_flush : SourceId → Bool
is_flush source = is_some (view_id_of source)

-- The sources after the flushes that come first.
abbrev pub after_flushes : List SourceId → List SourceId
after_flushes sources = drop (length (take_while is_flush sources)) sources

-- True if no segment has this prefix.
abbrev pub is_absent : List ℕ → List (List ℕ × LsmTreeState) → Bool
is_absent prefix segments = not (list_any (λ s. bytes_eq prefix s.0) segments)

-- Of these segments the one at this place alone has the prefix.
abbrev pub IsLone : ℕ → List ℕ → List (List ℕ × LsmTreeState) → Type 0
IsLone place prefix [] = ⊥
IsLone zero prefix (s ∷ segments) = (bytes_eq prefix s.0 ≡ true) × (is_absent prefix segments ≡ true)
IsLone (suc place) prefix (s ∷ segments) = (bytes_eq prefix s.0 ≡ false) × IsLone place prefix segments
