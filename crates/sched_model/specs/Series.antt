-- The series of runs that the size-tiered scheduler joins.
use Rattle.std.specs.Prelude.{ℕ, ◌*◌, ◌-◌, ◌/◌, Bool, true, false, not, ◌&&◌, nat_le, min, if◌then◌else◌, List, [], ◌∷◌, ◌++◌, drop, fold, length, Option, Some, None}
use Rattle.fleet_model.specs.Nodes.{NodeName, Run}
use Rattle.fleet_model.specs.Sources.{is_apart}
use Rattle.sched_model.specs.Sizes.{Sized, run_names, total_size}

-- The options of the size-tiered scheduler. A job has at least `least` sources and at most `most`. A run is
-- similar to a size if it is at most `numerator / denominator` times that size.
pub record TieredOptions : Type 0 where
  pub least : ℕ
  pub most : ℕ
  pub numerator : ℕ
  pub denominator : ℕ

-- True if both bounds are at least 1 and in order, and the denominator is not 0.
abbrev pub are_tiered : TieredOptions → Bool
are_tiered o = nat_le 1 o.least && nat_le o.least o.most && nat_le 1 o.denominator

-- The greatest size that counts as similar to this size. It is rounded down.
abbrev pub threshold : TieredOptions → ℕ → ℕ
threshold o size = (size * o.numerator) / o.denominator

-- The lesser of a size, if there is one, and the size of a run.
abbrev pub lesser : Option ℕ → Sized → Option ℕ
lesser None run = Some run.size
lesser (Some size) run = Some (min size run.size)

-- The least size of these runs, if there are any.
abbrev pub least_size : List Sized → Option ℕ
least_size runs = fold lesser None runs

-- True if no size is given, or the run is at most as large as the threshold of that size.
abbrev pub is_similar : TieredOptions → Option ℕ → Sized → Bool
is_similar o None run = true
is_similar o (Some size) run = nat_le run.size (threshold o size)

-- The longest series that begins with the first runs and goes on with the next ones, as long as each of them
-- may be added. The test is given the series so far, the run, and the older runs.
abbrev pub longest : (may_add : List Sized → Sized → List Sized → Bool) (series runs : List Sized) → List Sized
longest may_add series [] = series
longest may_add series (run ∷ older) =
    if may_add series run older then longest may_add (series ++ run ∷ []) older else series

-- The longest series of similar sizes from the first of these runs on. Each run is similar to the least one
-- before it.
abbrev pub similar_series : TieredOptions → List Sized → List Sized
similar_series o runs = longest (λ series run older. is_similar o (least_size series) run) [] runs

-- True if the first of these runs is similar to a run of this size, and from it on there is a series of
-- similar sizes that is long enough for a whole job. A run of this size would at once be taken again.
abbrev pub is_taken_again : TieredOptions → ℕ → List Sized → Bool
is_taken_again o size [] = false
is_taken_again o size (next ∷ older) =
    is_similar o (Some size) next && nat_le o.most (length (similar_series o (next ∷ older)))

-- True if these sources may be joined into the destination: none of these nodes is used, and the run that is
-- made would not at once be taken again with the older runs.
abbrev pub is_allowed : (o : TieredOptions) (used sources : List NodeName) (size : ℕ) (destination : NodeName)
    (older : List Sized) → Bool
is_allowed o used sources size destination older =
    is_apart (destination ∷ sources) used && not (is_taken_again o size older)

-- True if the run may be added to the series: it is similar to the least run so far, and the series up to it
-- may be joined into it.
abbrev pub may_join : (o : TieredOptions) (used : List NodeName) (series : List Sized) (run : Sized)
    (older : List Sized) → Bool
may_join o used series run older =
    let joined = series ++ run ∷ [] in
    is_similar o (least_size series) run && is_allowed o used (run_names joined) (total_size joined) (Run run.id) older

-- The oldest of these nodes, at most as many as given.
abbrev pub oldest : ℕ → List Sized → List Sized
oldest count nodes = drop (length nodes - count) nodes

-- The sources of the first series that is long enough, from the newest run on. A series gives its oldest
-- runs, as many as a job may have. It is None if no series is long enough.
abbrev pub first_series : TieredOptions → List NodeName → List Sized → Option (List Sized)
first_series o used [] = None
first_series o used (run ∷ older) =
    let series = longest (may_join o used) [] (run ∷ older) in
    if nat_le o.least (length series) then Some (oldest o.most series) else first_series o used older
