-- Ranges of byte strings as ranges of the model, and the range of the keys that begin with a prefix.
use Rattle.std.specs.Prelude.{ℕ, ◌+◌, ◌<◌, Bool, true, false, List, [], ◌∷◌, ◌++◌, Option, Some, None, All, nat_lt, bytes_eq, if◌then◌else◌}
use Rattle.std.specs.declared.ops.Bound.{Bound}
use Rattle.std.specs.declared.ops.Bound.TheVariants.{Included, Excluded, Unbounded}
use Rattle.row_model.specs.Ranges.{Range}
use Rattle.row_model.specs.Ranges as model
use Rattle.fleet_range.specs.Ranges.{Ends}

abbrev pub model_bound : Bound (List ℕ) → model.Bound
model_bound Unbounded = model.Unbounded
model_bound (Included key) = model.Included key
model_bound (Excluded key) = model.Excluded key

-- The model's range with these bounds.
abbrev pub range_of : Ends (List ℕ) → Range
range_of ends = record { from = model_bound ends.0; to = model_bound ends.1 }

abbrev pub IsBytes : List ℕ → Type 0
IsBytes key = All (λ b. b < 256) key

-- A byte put before the successor of a rest. If the rest has none, the byte itself is raised by one, and a
-- byte of 0xff gives None.
abbrev pub raised_key : ℕ → Option (List ℕ) → Option (List ℕ)
raised_key b (Some rest) = Some (b ∷ rest)
raised_key b None = if nat_lt b 255 then Some ((b + 1) ∷ []) else None

-- The prefix up to its last byte below 0xff, with that byte raised by one. None if the prefix has no such
-- byte.
abbrev pub successor : List ℕ → Option (List ℕ)
successor [] = None
successor (b ∷ prefix) = raised_key b (successor prefix)

abbrev pub end_before : Option (List ℕ) → Bound (List ℕ)
end_before None = Unbounded
end_before (Some key) = Excluded key

abbrev pub prefix_start : List ℕ → Bound (List ℕ)
prefix_start [] = Unbounded
prefix_start (b ∷ prefix) = Included (b ∷ prefix)

abbrev pub prefix_ends : List ℕ → Ends (List ℕ)
prefix_ends prefix = (prefix_start prefix, end_before (successor prefix))

-- A bound on what follows the prefix, as a bound on the whole key. Unbounded becomes `whole`, the bound that
-- the prefix's range has on this side.
abbrev pub placed_range : (prefix : List ℕ) (whole bound : Bound (List ℕ)) → Bound (List ℕ)
placed_range prefix whole Unbounded = whole
placed_range prefix whole (Included suffix) = Included (prefix ++ suffix)
placed_range prefix whole (Excluded suffix) = Excluded (prefix ++ suffix)

abbrev pub placed_ends : List ℕ → Ends (List ℕ) → Ends (List ℕ)
placed_ends prefix ends =
    (placed_range prefix (prefix_start prefix) ends.0, placed_range prefix (end_before (successor prefix)) ends.1)

abbrev pub is_excluded : {K : Type 0} → Bound K → Bool
is_excluded (Excluded key) = true
is_excluded (Included key) = false
is_excluded Unbounded = false

abbrev pub point_between : (start end : Bound (List ℕ)) → Option (List ℕ)
point_between (Included x) (Included y) = if bytes_eq x y then Some x else None
point_between (Included x) (Excluded y) = None
point_between (Included x) Unbounded = None
point_between (Excluded x) end = None
point_between Unbounded end = None

-- The only key of a range whose two bounds are Included at that key. Any other range gives None.
abbrev pub point_of : Ends (List ℕ) → Option (List ℕ)
point_of ends = point_between ends.0 ends.1
