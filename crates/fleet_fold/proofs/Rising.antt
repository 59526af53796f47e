-- What is kept of rising rows rises.
use Rattle.std.proofs.Common.{◌≡◌, sym, subst, ℤ, ℕ, List, [], ◌∷◌, ◌++◌, Bool, true, false}
use Rattle.std.specs.Prelude.{flat_map, nat_le, if◌then◌else◌, None}
use Rattle.std.specs.List.{AllByRecursion}
use Rattle.std.specs.Ordering.{is_gt}
use Rattle.row_model.specs.Chunks.{Chunk, elements, chunk_by}
use Rattle.row_model.specs.Rows.{Row, Tombstone, same_key, key_cmp, is_operand, is_expired, is_tombstone}
use Rattle.row_model.specs.Settings.{Settings}
use Rattle.row_model.specs.KeptRows.{kept_rows, kept_of_keys, retention_walk, as_tombstone_if_expired, without_old_tombstones, before_old_tombstones}
use Rattle.row_laws.proofs.KeptReads.{flat, flat-chunk_by}
use Rattle.fleet_iter.specs.Iteration.{AreRising}
use Rattle.fleet_fold.specs.Retention.{kept_given}
use Rattle.fleet_fold.proofs.AllKept.{all-both, all-walk, all-stripped, all_key_kept}
use Rattle.fleet_fold.proofs.Keys.{all_back, rising_back, front_begins}

abbrev IsUpTo : Row → Row → Type 0
IsUpTo r q = is_gt (key_cmp r.key q.key) ≡ false

abbrev AreUpTo : List Row → List Row → Type 0
AreUpTo xs ys = AllByRecursion (λ x. AllByRecursion (IsUpTo x) ys) xs

-- A row that becomes a tombstone keeps its place in the order of keys.
stays_after : (r : Row) (tick : ℤ) (q : Row) → IsUpTo r q → IsUpTo r (as_tombstone_if_expired tick q)
stays_after r tick q h = by (is_expired q tick)
  where
    by : (b : Bool) → IsUpTo r (if b then record q { content = Tombstone; expires = None } else q)
    by true = h
    by false = h

stays_before : (ys : List Row) (tick : ℤ) (r : Row) → AllByRecursion (IsUpTo r) ys → AllByRecursion (IsUpTo (as_tombstone_if_expired tick r)) ys
stays_before ys tick r h = by (is_expired r tick)
  where
    by : (b : Bool) → AllByRecursion (IsUpTo (if b then record r { content = Tombstone; expires = None } else r)) ys
    by true = h
    by false = h

-- ---- one key

-- The rows that the walk of retention keeps of rising rows rise.
rising-walk : (cut : ℕ) (tick : ℤ) (rows : List Row) → AreRising rows → AreRising (retention_walk cut tick rows)
rising-walk cut tick [] h = tt
rising-walk cut tick (r ∷ rows) h = by (is_operand r) (is_expired r tick) (nat_le r.seq cut) (all-walk (IsUpTo r) (stays_after r) cut tick rows h.0) (rising-walk cut tick rows h.1)
  where
    by : (operand expired ends : Bool) → AllByRecursion (IsUpTo r) (retention_walk cut tick rows) → AreRising (retention_walk cut tick rows)
        → AreRising (if operand then (if expired then retention_walk cut tick rows else r ∷ retention_walk cut tick rows)
        else (if ends then as_tombstone_if_expired tick r ∷ [] else as_tombstone_if_expired tick r ∷ retention_walk cut tick rows))
    by true true ends after rest = rest
    by true false ends after rest = (after, rest)
    by false expired true after rest = (tt, tt)
    by false expired false after rest = (stays_before (retention_walk cut tick rows) tick r after, rest)

-- Rising rows still rise without their old tombstones.
rising-stripped : (rows : List Row) → AreRising rows → AreRising (without_old_tombstones rows)
rising-stripped [] h = tt
rising-stripped (r ∷ rows) h = by (without_old_tombstones rows) (all-stripped (IsUpTo r) (stays_after r) rows h.0) (rising-stripped rows h.1)
  where
    alone : (t : Bool) → AreRising (if t then [] else r ∷ [])
    alone true = tt
    alone false = (tt, tt)

    by : (rest : List Row) → AllByRecursion (IsUpTo r) rest → AreRising rest → AreRising (before_old_tombstones r rest)
    by [] after rising = alone (is_tombstone r.content)
    by (q ∷ rest) after rising = (after, rising)

rising-kept : (settings : Settings) (rows : List Row) → AreRising rows → AreRising (kept_rows settings rows)
rising-kept settings rows h = by settings.last_run (rising-walk settings.cut settings.tick rows h)
  where
    by : (last : Bool) → AreRising (retention_walk settings.cut settings.tick rows)
        → AreRising (if last then without_old_tombstones (retention_walk settings.cut settings.tick rows) else retention_walk settings.cut settings.tick rows)
    by true walk = rising-stripped (retention_walk settings.cut settings.tick rows) walk
    by false walk = walk

-- ---- key after key

pub all_front : (P : Row → Type 0) (xs ys : List Row) → AllByRecursion P (xs ++ ys) → AllByRecursion P xs
all_front P [] ys h = tt
all_front P (x ∷ xs) ys h = (h.0, all_front P xs ys h.1)

rising_front : (xs ys : List Row) → AreRising (xs ++ ys) → AreRising xs
rising_front [] ys h = tt
rising_front (x ∷ xs) ys h = (all_front (IsUpTo x) xs ys h.0, rising_front xs ys h.1)

rising_across : (xs ys : List Row) → AreRising (xs ++ ys) → AreUpTo xs ys
rising_across [] ys h = tt
rising_across (x ∷ xs) ys h = (all_back (IsUpTo x) xs ys h.0, rising_across xs ys h.1)

rising-both : (xs ys : List Row) → AreRising xs → AreRising ys → AreUpTo xs ys → AreRising (xs ++ ys)
rising-both [] ys h g across = g
rising-both (x ∷ xs) ys h g across = (all-both (IsUpTo x) (stays_after x) xs ys h.0 across.0, rising-both xs ys h.1 g across.1)

module _ (settings : Settings) where
  abbrev kept : List (Chunk Row) → List Row
  kept gs = flat_map (λ g. kept_rows settings (elements g)) gs

  all-chunks_kept : (r : Row) (gs : List (Chunk Row)) → AllByRecursion (IsUpTo r) (flat gs) → AllByRecursion (IsUpTo r) (kept gs)
  all-chunks_kept r [] h = tt
  all-chunks_kept r (g ∷ gs) h =
      all-both (IsUpTo r) (stays_after r) (kept_rows settings (elements g)) (kept gs)
      (all_key_kept (IsUpTo r) (stays_after r) settings (elements g) (all_front (IsUpTo r) (elements g) (flat gs) h)) (all-chunks_kept r gs (all_back (IsUpTo r) (elements g) (flat gs) h))

  later_kept : (xs : List Row) (gs : List (Chunk Row)) → AreUpTo xs (flat gs) → AreUpTo xs (kept gs)
  later_kept [] gs h = tt
  later_kept (x ∷ xs) gs h = (all-chunks_kept x gs h.0, later_kept xs gs h.1)

  rising-chunks : (gs : List (Chunk Row)) → AreRising (flat gs) → AreRising (kept gs)
  rising-chunks [] h = tt
  rising-chunks (g ∷ gs) h =
      rising-both (kept_rows settings (elements g)) (kept gs) (rising-kept settings (elements g) (rising_front (elements g) (flat gs) h)) (rising-chunks gs (rising_back (elements g) (flat gs) h))
      (all_key_kept (λ x. AllByRecursion (IsUpTo x) (kept gs)) (stays_before (kept gs)) settings (elements g) (later_kept (elements g) gs (rising_across (elements g) (flat gs) h)))

  pub kept_rise : (rows : List Row) → AreRising rows → AreRising (kept_of_keys settings rows)
  kept_rise rows h = rising-chunks (chunk_by same_key rows) (subst AreRising (sym (flat-chunk_by same_key rows)) h)

  -- What is given of rising rows rises, even without the last key.
  pub given_rise : (whole : Bool) (rows : List Row) → AreRising rows → AreRising (kept_given settings whole rows)
  given_rise true rows h = kept_rise rows h
  given_rise false rows h =
      let (rest, is) = front_begins settings (chunk_by same_key rows) in
      rising_front (kept_given settings false rows) rest (subst AreRising (sym is) (kept_rise rows h))
