-- The rows of a key from the newest one on, and at their old end.
use Rattle.std.proofs.Common.{◌≡◌, ◌∙◌, sym, refl, ap, ℕ, ℤ, List, [], ◌∷◌, ◌++◌, Bool, true, false, not, cond, ◌&&◌, Option, Some, None, length, ◌-◌, suc, arith, append-nil}
use Rattle.std.specs.Prelude.{slice_get, nat_le, reverse, if◌then◌else◌}
use Rattle.std.specs.Option.{option_to_list}
use Rattle.std.proofs.lemmas.List.{map-append, append_assoc, reverse-append}
use Rattle.row_model.specs.Rows.{Row, Tombstone, is_operand, is_tombstone, is_expired}
use Rattle.row_model.specs.KeptRows.{retention_walk, as_tombstone_if_expired, without_old_tombstones, before_old_tombstones}
use Rattle.fleet_rows.specs.Row.{row_of, rows_of}
use Rattle.fleet_rows.specs.declared.row.RowEntry.{RowEntry}
use Rattle.fleet_fold.specs.Retention.{is_dropped, ends_walk}

-- ---- one row of the walk

pub walk-dropped : (cut : ℕ) (tick : ℤ) (r : Row) (rows : List Row) → is_dropped tick r ≡ true → retention_walk cut tick (r ∷ rows) ≡ retention_walk cut tick rows
walk-dropped cut tick r rows h = by (is_operand r) (is_expired r tick) h
  where
    by : (operand expired : Bool) → operand && expired ≡ true
        → cond operand (cond expired (retention_walk cut tick rows) (r ∷ retention_walk cut tick rows)) (cond (nat_le r.seq cut) (as_tombstone_if_expired tick r ∷ []) (as_tombstone_if_expired tick r ∷ retention_walk cut tick rows)) ≡ retention_walk cut tick rows
    by true true h = refl
    by true false h = absurd (cc h)
    by false expired h = absurd (cc h)

-- A walk keeps a first row that is not dropped, and it keeps later rows only if the first one does not
-- end the walk.
pub walk-kept : (cut : ℕ) (tick : ℤ) (r : Row) (rows : List Row) → is_dropped tick r ≡ false
    → retention_walk cut tick (r ∷ rows) ≡ as_tombstone_if_expired tick r ∷ (if ends_walk cut r then [] else retention_walk cut tick rows)
walk-kept cut tick r rows h = by (is_operand r) (is_expired r tick) refl (nat_le r.seq cut) h
  where
    by : (operand expired : Bool) → is_expired r tick ≡ expired → (low : Bool) → operand && expired ≡ false
        → cond operand (cond expired (retention_walk cut tick rows) (r ∷ retention_walk cut tick rows)) (cond low (as_tombstone_if_expired tick r ∷ []) (as_tombstone_if_expired tick r ∷ retention_walk cut tick rows))
        ≡ as_tombstone_if_expired tick r ∷ cond (not operand && low) [] (retention_walk cut tick rows)
    by true true e low h = absurd (cc h)
    by true false e low h = ap (λ b. cond b (record r { content = Tombstone; expires = None }) r ∷ retention_walk cut tick rows) (sym e)
    by false expired e true h = refl
    by false expired e false h = refl

-- A row that is taken from the end of reversed rows is the first of the rows.
pub turned : (xs ys : List RowEntry) (o : Option RowEntry) (row : RowEntry) → xs ≡ ys ++ option_to_list o → o ≡ Some row → rows_of (reverse xs) ≡ row_of row ∷ rows_of (reverse ys)
turned xs ys o row f e =
    ap (λ (w : List RowEntry). rows_of (reverse w)) (f ∙ ap (λ (z : Option RowEntry). ys ++ option_to_list z) e) ∙ ap (λ (w : List RowEntry). rows_of w) (reverse-append ys (row ∷ []))

module _ (cut : ℕ) (tick : ℤ) where
  -- An expired operand is dropped, and the walk goes on.
  pub passed_over : (kept xs ys : List RowEntry) (o : Option RowEntry) (row : RowEntry) (whole : List Row) → is_dropped tick (row_of row) ≡ true → xs ≡ ys ++ option_to_list o → o ≡ Some row
      → rows_of kept ++ retention_walk cut tick (rows_of (reverse xs)) ≡ whole → rows_of kept ++ retention_walk cut tick (rows_of (reverse ys)) ≡ whole
  passed_over kept xs ys o row whole drops f e so_far =
      ap (λ (w : List Row). rows_of kept ++ w) (sym (ap (retention_walk cut tick) (turned xs ys o row f e) ∙ walk-dropped cut tick (row_of row) (rows_of (reverse ys)) drops)) ∙ so_far

  -- A kept row comes after the rows that were kept before.
  pub more_kept : (kept all xs ys : List RowEntry) (o : Option RowEntry) (row given : RowEntry) (whole : List Row) (b : Bool) → is_dropped tick (row_of row) ≡ false
      → row_of given ≡ as_tombstone_if_expired tick (row_of row) → all ≡ kept ++ given ∷ [] → xs ≡ ys ++ option_to_list o → o ≡ Some row → ends_walk cut (row_of row) ≡ b
      → rows_of kept ++ retention_walk cut tick (rows_of (reverse xs)) ≡ whole
      → rows_of all ++ (if b then [] else retention_walk cut tick (rows_of (reverse ys))) ≡ whole
  more_kept kept all xs ys o row given whole b stays same is f e ends so_far =
      let tail : List Row = (if b then [] else retention_walk cut tick (rows_of (reverse ys))) in
      ap (λ (w : List RowEntry). rows_of w ++ tail) is
      ∙ (ap (λ (w : List Row). w ++ tail) (map-append row_of kept (given ∷ []))
      ∙ (append_assoc (rows_of kept) (row_of given ∷ []) tail
      ∙ (ap (λ (r : Row). rows_of kept ++ r ∷ tail) same
      ∙ (ap (λ (z : Bool). rows_of kept ++ as_tombstone_if_expired tick (row_of row) ∷ (if z then [] else retention_walk cut tick (rows_of (reverse ys)))) (sym ends)
      ∙ (ap (λ (w : List Row). rows_of kept ++ w) (sym (ap (retention_walk cut tick) (turned xs ys o row f e) ∙ walk-kept cut tick (row_of row) (rows_of (reverse ys)) stays)) ∙ so_far)))))

-- ---- the old end

-- If the oldest row is no tombstone, no row is removed.
strip-whole : (xs : List Row) (x : Row) → is_tombstone x.content ≡ false → without_old_tombstones (xs ++ x ∷ []) ≡ xs ++ x ∷ []
strip-whole [] x h = rw h refl
strip-whole (y ∷ ys) x h = ap (before_old_tombstones y) (strip-whole ys x h) ∙ long ys y where
  long : (zs : List Row) (y : Row) → before_old_tombstones y (zs ++ x ∷ []) ≡ y ∷ (zs ++ x ∷ [])
  long [] y = refl
  long (z ∷ zs) y = refl

-- If the oldest row is a tombstone, it is removed.
strip-one : (xs : List Row) (x : Row) → is_tombstone x.content ≡ true → without_old_tombstones (xs ++ x ∷ []) ≡ without_old_tombstones xs
strip-one [] x h = rw h refl
strip-one (y ∷ ys) x h = ap (before_old_tombstones y) (strip-one ys x h)

-- A list with a last element is a front followed by that element.
last_splits : (xs : List RowEntry) (x : RowEntry) → slice_get xs (length xs - 1) ≡ Some x → (front : List RowEntry) × (xs ≡ front ++ x ∷ [])
last_splits [] x h = absurd (cc)
last_splits (y ∷ []) x h = let e : y ≡ x = cc in ([], ap (λ (z : RowEntry). z ∷ []) e)
last_splits (y ∷ (z ∷ zs)) x h =
    let m : length (y ∷ (z ∷ zs)) - 1 ≡ suc (length (z ∷ zs) - 1) = omega arith in
    let k : slice_get (z ∷ zs) (length (z ∷ zs) - 1) ≡ Some x = rw m at h in
    let r = last_splits (z ∷ zs) x k in
    (y ∷ r.0, ap (λ (w : List RowEntry). y ∷ w) r.1)

-- Two equal lists have equal fronts.
same_front : (cs ds : List RowEntry) (a b : RowEntry) → cs ++ a ∷ [] ≡ ds ++ b ∷ [] → cs ≡ ds
same_front [] [] a b h = refl
same_front [] (c ∷ cs) a b h = absurd (longer cs (cc))
  where
    longer : (cs : List RowEntry) → [] ≡ cs ++ b ∷ [] → ⊥
    longer [] h = cc
    longer (c ∷ cs) h = cc
same_front (d ∷ ds) [] a b h = absurd (longer ds (cc))
  where
    longer : (ds : List RowEntry) → ds ++ a ∷ [] ≡ [] → ⊥
    longer [] h = cc
    longer (c ∷ cs) h = cc
same_front (d ∷ ds) (c ∷ cs) a b h =
    let p : d ≡ c = cc in
    let q : ds ++ a ∷ [] ≡ cs ++ b ∷ [] = cc in
    ap (λ (w : List RowEntry). d ∷ w) (same_front ds cs a b q) ∙ ap (λ (z : RowEntry). z ∷ cs) p

rows-snoc : (front : List RowEntry) (x : RowEntry) → rows_of (front ++ x ∷ []) ≡ rows_of front ++ row_of x ∷ []
rows-snoc front x = map-append row_of front (x ∷ [])

pub strip_goes : (xs ys : List RowEntry) (x : RowEntry) (o : Option RowEntry) → slice_get xs (length xs - 1) ≡ Some x → xs ≡ ys ++ option_to_list o → is_tombstone (row_of x).content ≡ true
    → without_old_tombstones (rows_of ys) ≡ without_old_tombstones (rows_of xs)
strip_goes xs ys x None h f t = ap (λ (w : List RowEntry). without_old_tombstones (rows_of w)) (sym (append-nil ys) ∙ sym f)
strip_goes xs ys x (Some r) h f t =
    let s = last_splits xs x h in
    let same : ys ≡ s.0 = same_front ys s.0 r x (sym f ∙ s.1) in
    ap (λ (w : List RowEntry). without_old_tombstones (rows_of w)) same
    ∙ (sym (ap without_old_tombstones (rows-snoc s.0 x) ∙ strip-one (rows_of s.0) (row_of x) t) ∙ ap (λ (w : List RowEntry). without_old_tombstones (rows_of w)) (sym s.1))

pub strip_stays : (xs : List RowEntry) (x : RowEntry) → slice_get xs (length xs - 1) ≡ Some x → is_tombstone (row_of x).content ≡ false → rows_of xs ≡ without_old_tombstones (rows_of xs)
strip_stays xs x h t =
    let s = last_splits xs x h in
    let e : rows_of xs ≡ rows_of s.0 ++ row_of x ∷ [] = ap (λ (w : List RowEntry). rows_of w) s.1 ∙ rows-snoc s.0 x in
    e ∙ (sym (strip-whole (rows_of s.0) (row_of x) t) ∙ ap without_old_tombstones (sym e))
