-- Reading the rows of a block one after another.
use Rattle.std.proofs.Common.{◌≡◌, sym, ◌∙◌, ap, subst, ℕ, ◌<◌, ◌≤◌, ◌+◌, List, [], ◌∷◌, ◌++◌, arith}
use Rattle.std.specs.Prelude.{Option, Some, None}
use Rattle.std.specs.List.{flat_map}
use Rattle.std.specs.declared.vec.Vec.{Vec}
use Rattle.std.specs.declared.alloc.Global.{Global}
use Rattle.std.proofs.lemmas.List.{append_assoc, append-nil}
use Rattle.row_model.specs.Bounds.{IsInBounds}
use Rattle.row_model.specs.Rows.{Row}
use Rattle.row_model.specs.Written.Sizes.{estimated_size}
use Rattle.row_model.specs.Written.TableBytes.{row_bytes, rows_bytes, IsWritable}
use Rattle.fleet_rows.specs.declared.row.RowEntry.{RowEntry}
use Rattle.fleet_rows.specs.Row.{row_of, rows_of}
use Rattle.fleet_block.specs.Finds.{AreRows, BeginOpen, Finds, FindsLater, IsFound}

abbrev pub Rows : Type 0
Rows = Vec RowEntry Global

abbrev pub view : Rows → List Row
view rows = rows_of rows.items

module _ {V : Type 0} (of : V → List Row) (first bytes : List ℕ) (place filled : ℕ) (before : List Row) where
  -- All rows were read.
  pub ended : (left : ℕ) → left ≡ 0 → (v : V) → of v ≡ before → FindsLater of first filled left before bytes place (Some (v, place))
  ended left none v is [] others fits e = (is ∙ sym (append-nil before), e)
  ended left none v is (r ∷ rows) others fits e = let counted = fits.counted in absurd (omega arith)

  -- No row is written where the next one must be.
  pub stopped : (left : ℕ) → 0 < left → (found : Option (RowEntry × ℕ)) → found ≡ None → Finds row_of (row_bytes first) IsWritable bytes place found → FindsLater of first filled left before bytes place None
  stopped left some found is finds [] others fits e = let counted = fits.counted in absurd (omega arith)
  stopped left some found is finds (r ∷ rows) others fits e =
      subst (IsFound row_of r (flat_map (row_bytes first) rows ++ others) bytes) is
      (finds r (flat_map (row_bytes first) rows ++ others) fits.writable.0 (e ∙ append_assoc (row_bytes first r) (flat_map (row_bytes first) rows) others))

  -- The block is full, so no row begins in it.
  pub full : (left : ℕ) → 0 < left → 4096 ≤ filled → FindsLater of first filled left before bytes place None
  full left some ended_block [] others fits e = let counted = fits.counted in absurd (omega arith)
  full left some ended_block (r ∷ rows) others fits e = let begun = fits.begun.0 in absurd (omega (arith, begun))

  -- The row that was read is out of bounds.
  pub unbounded : (left : ℕ) → 0 < left → (found : Option (RowEntry × ℕ)) (row : RowEntry) (next : ℕ) → found ≡ Some (row, next) → Finds row_of (row_bytes first) IsWritable bytes place found
      → (IsInBounds (row_of row) → ⊥) → FindsLater of first filled left before bytes place None
  unbounded left some found row next is finds out [] others fits e = let counted = fits.counted in absurd (omega arith)
  unbounded left some found row next is finds out (r ∷ rows) others fits e =
      let here = subst (IsFound row_of r (flat_map (row_bytes first) rows ++ others) bytes) is
      (finds r (flat_map (row_bytes first) rows ++ others) fits.writable.0 (e ∙ append_assoc (row_bytes first r) (flat_map (row_bytes first) rows) others)) in
      absurd (out (subst IsInBounds (sym here.0) fits.writable.0.in_bounds))

  -- The next row was read, so the others may be read after it.
  pub onward : (left less : ℕ) → left ≡ less + 1 → (found : Option (RowEntry × ℕ)) (row : RowEntry) (next : ℕ) → found ≡ Some (row, next) → Finds row_of (row_bytes first) IsWritable bytes place found
      → (more : List Row) → more ≡ before ++ row_of row ∷ [] → (size : ℕ) → size ≡ filled + estimated_size (row_of row) → (all : Option (V × ℕ)) → FindsLater of first size less more bytes next all → FindsLater of first filled left before bytes place all
  onward left less one found row next is finds more pushed size sized all rest [] others fits e = let counted = fits.counted in absurd (omega arith)
  onward left less one found row next is finds more pushed size sized all rest (r ∷ rows) others fits e =
      let counted = fits.counted in
      let here = subst (IsFound row_of r (flat_map (row_bytes first) rows ++ others) bytes) is
      (finds r (flat_map (row_bytes first) rows ++ others) fits.writable.0 (e ∙ append_assoc (row_bytes first r) (flat_map (row_bytes first) rows) others)) in
      let there = rest rows others (record { writable = fits.writable.1; begun = subst (λ n. BeginOpen n rows) (sym (sized ∙ ap (λ (x : Row). filled + estimated_size x) here.0)) fits.begun.1; counted = omega arith }) here.1 in
      subst (λ (rs : List Row). IsFound of rs others bytes all)
      (ap (λ xs. xs ++ rows) (pushed ∙ ap (λ x. before ++ x ∷ []) here.0) ∙ append_assoc before (r ∷ []) rows)
      there

module _ {V : Type 0} (of : V → List Row) (bytes : List ℕ) (place count : ℕ) where
  -- A block without rows was read.
  pub block_none : count ≡ 0 → (v : V) → of v ≡ [] → Finds of rows_bytes (AreRows 0 count) bytes place (Some (v, place))
  block_none none v is [] others fits e = (is, e)
  block_none none v is (r ∷ rows) others fits e = let counted = fits.counted in absurd (omega arith)

  -- No row is written where the block's first row must be.
  pub block_stopped : 0 < count → (found : Option (RowEntry × ℕ)) → found ≡ None → Finds row_of (row_bytes []) IsWritable bytes place found → Finds of rows_bytes (AreRows 0 count) bytes place None
  block_stopped some found is finds [] others fits e = let counted = fits.counted in absurd (omega arith)
  block_stopped some found is finds (r ∷ rows) others fits e =
      subst (IsFound row_of r (flat_map (row_bytes r.key) rows ++ others) bytes) is
      (finds r (flat_map (row_bytes r.key) rows ++ others) fits.writable.0 (e ∙ append_assoc (row_bytes [] r) (flat_map (row_bytes r.key) rows) others))

  -- The row that was read is out of bounds.
  pub block_unbounded : 0 < count → (found : Option (RowEntry × ℕ)) (row : RowEntry) (next : ℕ) → found ≡ Some (row, next) → Finds row_of (row_bytes []) IsWritable bytes place found
      → (IsInBounds (row_of row) → ⊥) → Finds of rows_bytes (AreRows 0 count) bytes place None
  block_unbounded some found row next is finds out [] others fits e = let counted = fits.counted in absurd (omega arith)
  block_unbounded some found row next is finds out (r ∷ rows) others fits e =
      let here = subst (IsFound row_of r (flat_map (row_bytes r.key) rows ++ others) bytes) is
      (finds r (flat_map (row_bytes r.key) rows ++ others) fits.writable.0 (e ∙ append_assoc (row_bytes [] r) (flat_map (row_bytes r.key) rows) others)) in
      absurd (out (subst IsInBounds (sym here.0) fits.writable.0.in_bounds))

  -- The block's first row was read, so the others may be read after it.
  pub block_begun : (less : ℕ) → count ≡ less + 1 → (found : Option (RowEntry × ℕ)) (row : RowEntry) (next : ℕ) → found ≡ Some (row, next) → Finds row_of (row_bytes []) IsWritable bytes place found
      → (first : List ℕ) → first ≡ row.key → (before : List Row) → before ≡ row_of row ∷ [] → (size : ℕ) → size ≡ estimated_size (row_of row) → (all : Option (V × ℕ)) → FindsLater of first size less before bytes next all → Finds of rows_bytes (AreRows 0 count) bytes place all
  block_begun less one found row next is finds first named before pushed size sized all rest [] others fits e = let counted = fits.counted in absurd (omega arith)
  block_begun less one found row next is finds first named before pushed size sized all rest (r ∷ rows) others fits e =
      let counted = fits.counted in
      let here = subst (IsFound row_of r (flat_map (row_bytes r.key) rows ++ others) bytes) is
      (finds r (flat_map (row_bytes r.key) rows ++ others) fits.writable.0 (e ∙ append_assoc (row_bytes [] r) (flat_map (row_bytes r.key) rows) others)) in
      let key : r.key ≡ first = sym (named ∙ ap (λ (x : Row). x.key) here.0) in
      let there = rest rows others (record { writable = fits.writable.1; begun = subst (λ n. BeginOpen n rows) (omega (arith, sized, ap (λ (x : Row). estimated_size x) here.0)) fits.begun.1; counted = omega arith }) (here.1 ∙ ap (λ k. flat_map (row_bytes k) rows ++ others) key) in
      subst (λ (rs : List Row). IsFound of rs others bytes all) (ap (λ xs. xs ++ rows) (pushed ∙ ap (λ x. x ∷ []) here.0)) there
