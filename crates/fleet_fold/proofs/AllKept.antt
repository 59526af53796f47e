-- What holds of rows, and of the tombstones that they may become, holds of the rows that are kept of them.
use Rattle.std.proofs.Common.{ℕ, ℤ, List, [], ◌∷◌, ◌++◌, Bool, true, false}
use Rattle.std.specs.Prelude.{flat_map, nat_le, if◌then◌else◌}
use Rattle.std.specs.List.{AllByRecursion}
use Rattle.row_model.specs.Chunks.{Chunk, elements, chunk_by, put_before}
use Rattle.row_model.specs.Rows.{Row, same_key, is_operand, is_expired, is_tombstone}
use Rattle.row_model.specs.Settings.{Settings}
use Rattle.row_model.specs.KeptRows.{kept_rows, kept_of_keys, retention_walk, as_tombstone_if_expired, without_old_tombstones, before_old_tombstones}

module _ (P : Row → Type 0) (keeps : (tick : ℤ) (r : Row) → P r → P (as_tombstone_if_expired tick r)) where
  pub all-both : (xs ys : List Row) → AllByRecursion P xs → AllByRecursion P ys → AllByRecursion P (xs ++ ys)
  all-both [] ys h g = g
  all-both (x ∷ xs) ys h g = (h.0, all-both xs ys h.1 g)

  -- If a property holds of rows, it holds of the rows that the walk of retention keeps of them.
  pub all-walk : (cut : ℕ) (tick : ℤ) (rows : List Row) → AllByRecursion P rows → AllByRecursion P (retention_walk cut tick rows)
  all-walk cut tick [] h = tt
  all-walk cut tick (r ∷ rows) h = by (is_operand r) (is_expired r tick) (nat_le r.seq cut) (all-walk cut tick rows h.1)
    where
      by : (operand expired ends : Bool) → AllByRecursion P (retention_walk cut tick rows)
          → AllByRecursion P (if operand then (if expired then retention_walk cut tick rows else r ∷ retention_walk cut tick rows)
          else (if ends then as_tombstone_if_expired tick r ∷ [] else as_tombstone_if_expired tick r ∷ retention_walk cut tick rows))
      by true true ends rest = rest
      by true false ends rest = (h.0, rest)
      by false expired true rest = (keeps tick r h.0, tt)
      by false expired false rest = (keeps tick r h.0, rest)

  -- If a property holds of rows, it holds of those that are left without the old tombstones.
  pub all-stripped : (rows : List Row) → AllByRecursion P rows → AllByRecursion P (without_old_tombstones rows)
  all-stripped [] h = tt
  all-stripped (r ∷ rows) h = by (without_old_tombstones rows) (all-stripped rows h.1)
    where
      alone : (t : Bool) → AllByRecursion P (if t then [] else r ∷ [])
      alone true = tt
      alone false = (h.0, tt)

      by : (rest : List Row) → AllByRecursion P rest → AllByRecursion P (before_old_tombstones r rest)
      by [] g = alone (is_tombstone r.content)
      by (q ∷ rest) g = (h.0, g)

  pub all_key_kept : (settings : Settings) (rows : List Row) → AllByRecursion P rows → AllByRecursion P (kept_rows settings rows)
  all_key_kept settings rows h = by settings.last_run (all-walk settings.cut settings.tick rows h)
    where
      by : (last : Bool) → AllByRecursion P (retention_walk settings.cut settings.tick rows)
          → AllByRecursion P (if last then without_old_tombstones (retention_walk settings.cut settings.tick rows) else retention_walk settings.cut settings.tick rows)
      by true walk = all-stripped (retention_walk settings.cut settings.tick rows) walk
      by false walk = walk

  abbrev pub AllChunks : List (Chunk Row) → Type 0
  AllChunks gs = AllByRecursion (λ g. AllByRecursion P (elements g)) gs

  all-put : (r : Row) (gs : List (Chunk Row)) → P r → AllChunks gs → AllChunks (put_before same_key r gs)
  all-put r [] h all = ((h, tt), tt)
  all-put r (g ∷ gs) h all = by (same_key r g.0)
    where
      by : (joins : Bool) → AllChunks (if joins then (r, g.0 ∷ g.1) ∷ gs else (r, []) ∷ g ∷ gs)
      by true = ((h, all.0), all.1)
      by false = ((h, tt), all)

  pub all_chunks : (rows : List Row) → AllByRecursion P rows → AllChunks (chunk_by same_key rows)
  all_chunks [] h = tt
  all_chunks (r ∷ rows) h = all-put r (chunk_by same_key rows) h.0 (all_chunks rows h.1)

  all-of_chunks : (settings : Settings) (gs : List (Chunk Row)) → AllChunks gs → AllByRecursion P (flat_map (λ g. kept_rows settings (elements g)) gs)
  all-of_chunks settings [] h = tt
  all-of_chunks settings (g ∷ gs) h = all-both (kept_rows settings (elements g)) (flat_map (λ g. kept_rows settings (elements g)) gs) (all_key_kept settings (elements g) h.0) (all-of_chunks settings gs h.1)

  pub all_kept : (settings : Settings) (rows : List Row) → AllByRecursion P rows → AllByRecursion P (kept_of_keys settings rows)
  all_kept settings rows h = all-of_chunks settings (chunk_by same_key rows) (all_chunks rows h)
