-- Where the rows of a table stand in its pieces.
use Rattle.std.proofs.Common.{◌≡◌, refl, sym, ◌∙◌, ap, subst, ℕ, zero, suc, ◌<◌, ◌≤◌, ◌+◌, ◌-◌, ◌^◌, List, [], ◌∷◌, ◌++◌, length, take, drop, arith}
use Rattle.std.specs.Prelude.{slice_range, IfSome, Option, Some}
use Rattle.std.specs.List.{flat_map}
use Rattle.std.proofs.lemmas.Grind.{flat_map-append}
use Rattle.std.proofs.lemmas.List.{append_assoc, append_cancel_right, drop-append-le, drop-drop, drop_all, drop_at, length-append, length-drop, take-append-drop}
use Rattle.std.proofs.lemmas.List.Folds.{drop_split}
use Rattle.row_model.specs.Rows.{Row}
use Rattle.row_model.specs.Written.TableBytes.{blocks_of_rows, row_bytes, rows_bytes, table_bytes}
use Rattle.fleet_table.specs.Cursors.{key_after, rows_before, StandsAt}
use Rattle.fleet_table.specs.Pieces.{HasCursor, IsPiece}
use Rattle.fleet_table.specs.declared.cursor.Cursor.{Cursor}
use Rattle.fleet_table.specs.declared.piece.Piece.{Piece}
use Rattle.fleet_table.proofs.Cursors.{bytes_after, place_within, start_row}

-- ---- lists

drop_past : {A : Type 0} (before : List A) (x : A) (after : List A) (block end : ℕ) → block ≡ length before → block < end → drop end (before ++ x ∷ after) ≡ drop (end - (block + 1)) after
drop_past [] x after block zero at ahead = absurd (omega (arith, ahead))
drop_past [] x after block (suc end) at ahead = let less : end ≡ suc end - (block + 1) = omega (arith, at) in ap (λ n. drop n after) less
drop_past (y ∷ before) x after block zero at ahead = absurd (omega (arith, ahead))
drop_past (y ∷ before) x after block (suc end) at ahead =
    let less : end - (length before + 1) ≡ suc end - (block + 1) = omega (arith, at) in
    drop_past before x after (length before) end refl (omega (arith, at, ahead)) ∙ ap (λ n. drop n after) less

-- What stands in front of a tail.
module _ {A : Type 0} (xs ys tail : List A) (n : ℕ) (inside : n ≤ length xs + length tail) (e : drop n (xs ++ tail) ≡ ys ++ tail) where
  pub drop_within : n ≤ length xs
  drop_within =
      let all = ap length e in
      omega (arith, all, inside, length-drop n (xs ++ tail), length-append xs tail, length-append ys tail)

  pub drop_in_front : drop n xs ≡ ys
  drop_in_front = append_cancel_right (drop n xs) ys tail (sym (drop-append-le n xs tail drop_within) ∙ e)

-- ---- where blocks begin

-- The first row of a block stands where the block begins.
module _ (rows : List Row) (cursor : Cursor) (at : StandsAt rows cursor) (block : ℕ) (same : cursor.block ≡ block) (first : cursor.row ≡ rows_before block rows) where
  none_in_front : at.front ≡ []
  none_in_front = by at.front refl
    where
      by : (front : List Row) → at.front ≡ front → at.front ≡ []
      by [] is = is
      by (q ∷ front) is =
          let many = ap length is in
          let row = at.row in
          let start = start_row rows cursor at in
          let here : cursor.row ≡ rows_before cursor.block rows = first ∙ ap (λ n. rows_before n rows) (sym same) in
          absurd (omega (arith, many, row, start, here))

  blocks_there : drop block (blocks_of_rows 0 rows) ≡ (at.here ∷ at.later) ∷ at.after
  blocks_there =
      ap (drop block) at.all
      ∙ drop_at at.before ((at.front ++ at.here ∷ at.later) ∷ at.after) block (sym at.block ∙ same)
      ∙ ap (λ front. (front ++ at.here ∷ at.later) ∷ at.after) none_in_front

  pub block_there : drop cursor.place (table_bytes rows) ≡ flat_map rows_bytes (drop block (blocks_of_rows 0 rows))
  block_there =
      at.place
      ∙ ap (λ front. row_bytes (key_after front) at.here ++ (flat_map (row_bytes (key_after (front ++ at.here ∷ []))) at.later ++ flat_map rows_bytes at.after)) none_in_front
      ∙ sym (append_assoc (row_bytes [] at.here) (flat_map (row_bytes at.here.key) at.later) (flat_map rows_bytes at.after))
      ∙ ap (flat_map rows_bytes) (sym blocks_there)

  pub block_inside : cursor.place ≤ length (table_bytes rows)
  block_inside =
      let inside = place_within rows (key_after at.front) at.here (bytes_after rows cursor at) (table_bytes rows) cursor.place at.place in
      omega (arith, inside)

-- After all blocks there are no bytes.
module _ (rows held : List Row) (bytes : List ℕ) (measured : ℕ) (same : held ≡ rows) (spelt : bytes ≡ table_bytes held) (long : measured ≡ length bytes) where
  pub all_inside : measured ≤ length (table_bytes rows)
  all_inside =
      let all = ap length (spelt ∙ ap table_bytes same) in
      omega (arith, all, long)

  pub none_there : (block : ℕ) → length (blocks_of_rows 0 rows) ≤ block → drop measured (table_bytes rows) ≡ flat_map rows_bytes (drop block (blocks_of_rows 0 rows))
  none_there block past =
      let all = ap length (spelt ∙ ap table_bytes same) in
      drop_all measured (table_bytes rows) (omega (arith, all, long)) ∙ ap (flat_map rows_bytes) (sym (drop_all block (blocks_of_rows 0 rows) past))

-- ---- the row at a cursor, in a piece

module _ (rows : List Row) (cursor : Cursor) (at : StandsAt rows cursor) (end : ℕ) (ahead : cursor.block < end) where
  -- The blocks after the cursor's block that are before the end.
  abbrev blocks_within : List (List Row)
  blocks_within = take (end - (cursor.block + 1)) at.after

  -- What follows the row up to the end.
  abbrev pub bytes_within : List ℕ
  bytes_within = flat_map (row_bytes (key_after (at.front ++ at.here ∷ []))) at.later ++ flat_map rows_bytes blocks_within

  abbrev tail : List ℕ
  tail = flat_map rows_bytes (drop end (blocks_of_rows 0 rows))

  blocks_left : drop end (blocks_of_rows 0 rows) ≡ drop (end - (cursor.block + 1)) at.after
  blocks_left = ap (drop end) at.all ∙ drop_past at.before (at.front ++ at.here ∷ at.later) at.after cursor.block end at.block ahead

  pub split_after : bytes_after rows cursor at ≡ bytes_within ++ tail
  split_after =
      let first = flat_map (row_bytes (key_after (at.front ++ at.here ∷ []))) at.later in
      ap (λ bs. first ++ flat_map rows_bytes bs) (sym (take-append-drop (end - (cursor.block + 1)) at.after))
      ∙ ap (λ bs. first ++ bs) (flat_map-append rows_bytes blocks_within (drop (end - (cursor.block + 1)) at.after))
      ∙ ap (λ bs. first ++ (flat_map rows_bytes blocks_within ++ flat_map rows_bytes bs)) (sym blocks_left)
      ∙ sym (append_assoc first (flat_map rows_bytes blocks_within) tail)

  pub split_at : drop cursor.place (table_bytes rows) ≡ (row_bytes (key_after at.front) at.here ++ bytes_within) ++ tail
  split_at =
      at.place
      ∙ ap (λ bs. row_bytes (key_after at.front) at.here ++ bs) split_after
      ∙ sym (append_assoc (row_bytes (key_after at.front) at.here) bytes_within tail)

module _ (rows : List Row) (cursor : Cursor) (at : StandsAt rows cursor) (piece : Piece) (is : IsPiece rows piece) (has : HasCursor piece cursor) where
  abbrev ahead : cursor.block < piece.end
  ahead = has.1

  abbrev left : List ℕ
  left = flat_map rows_bytes (drop piece.end (blocks_of_rows 0 rows))

  whole : drop piece.start (table_bytes rows) ≡ piece.bytes ++ left
  whole = is (omega (arith, has.1))

  from_start : drop (cursor.place - piece.start) (piece.bytes ++ left) ≡ (row_bytes (key_after at.front) at.here ++ bytes_within rows cursor at piece.end ahead) ++ left
  from_start =
      let place : piece.start + (cursor.place - piece.start) ≡ cursor.place = omega (arith, has.0) in
      ap (drop (cursor.place - piece.start)) (sym whole)
      ∙ drop-drop (cursor.place - piece.start) piece.start (table_bytes rows)
      ∙ ap (λ n. drop n (table_bytes rows)) place
      ∙ split_at rows cursor at piece.end ahead

  inside : cursor.place - piece.start ≤ length piece.bytes + length left
  inside =
      let place = place_within rows (key_after at.front) at.here (bytes_after rows cursor at) (table_bytes rows) cursor.place at.place in
      let all = ap length whole in
      omega (arith, place, all, length-drop piece.start (table_bytes rows), length-append piece.bytes left)

  pub place_in_piece : cursor.place - piece.start ≤ length piece.bytes
  place_in_piece = drop_within piece.bytes (row_bytes (key_after at.front) at.here ++ bytes_within rows cursor at piece.end ahead) left (cursor.place - piece.start) inside from_start

  pub read_in_piece : (first : List ℕ) → first ≡ key_after at.front → drop (cursor.place - piece.start) piece.bytes ≡ row_bytes first at.here ++ bytes_within rows cursor at piece.end ahead
  read_in_piece first named =
      drop_in_front piece.bytes (row_bytes (key_after at.front) at.here ++ bytes_within rows cursor at piece.end ahead) left (cursor.place - piece.start) inside from_start
      ∙ ap (λ (k : List ℕ). row_bytes k at.here ++ bytes_within rows cursor at piece.end ahead) (sym named)

  pub next_in_piece : (place : ℕ) → place ≤ length piece.bytes → drop place piece.bytes ≡ bytes_within rows cursor at piece.end ahead → drop (piece.start + place) (table_bytes rows) ≡ bytes_after rows cursor at
  next_in_piece place within e =
      sym (drop-drop place piece.start (table_bytes rows))
      ∙ ap (drop place) whole
      ∙ drop-append-le place piece.bytes left within
      ∙ ap (λ bs. bs ++ left) e
      ∙ sym (split_after rows cursor at piece.end ahead)

  -- The start of the piece and a place in it are, together, a place in the table.
  pub place_in_table : (place : ℕ) → place ≤ length piece.bytes → piece.start + place ≤ length (table_bytes rows)
  place_in_table place within =
      let before = place_within rows (key_after at.front) at.here (bytes_after rows cursor at) (table_bytes rows) cursor.place at.place in
      let all = ap length whole in
      omega (arith, before, has.0, within, all, length-drop piece.start (table_bytes rows), length-append piece.bytes left)

  -- The bytes of a table are few, so the next place fits its type.
  pub place_fits : (held : List Row) (bytes : List ℕ) (measured place : ℕ) → held ≡ rows → bytes ≡ table_bytes held → measured ≡ length bytes → measured < 2 ^ 63 → place ≤ length piece.bytes → piece.start + place < 2 ^ 64
  place_fits held bytes measured place same spelt long few within =
      let there = place_in_table place within in
      let all = ap length (spelt ∙ ap table_bytes same) in
      omega (arith, there, all, long, few)

pub within_some : {V : Type 0} (found : Option (V × ℕ)) (v : V) (place most : ℕ) → found ≡ Some (v, place) → IfSome found (λ f. f.1 ≤ most) → place ≤ most
within_some found v place most is h = subst (λ f. IfSome f (λ g. g.1 ≤ most)) is h

-- ---- making a piece

-- The cursor stands before a later place, where a block begins.
module _ (rows : List Row) (cursor : Cursor) (at : StandsAt rows cursor) (end place : ℕ) (ahead : cursor.block < end) (within : place ≤ length (table_bytes rows))
    (later : drop place (table_bytes rows) ≡ flat_map rows_bytes (drop end (blocks_of_rows 0 rows))) where
  pub place_ahead : cursor.place ≤ place
  place_ahead =
      let front = row_bytes (key_after at.front) at.here ++ bytes_within rows cursor at end ahead in
      let here = ap length (split_at rows cursor at end ahead) in
      let there = ap length later in
      omega (arith, within, here, there, length-drop cursor.place (table_bytes rows), length-drop place (table_bytes rows), length-append front (flat_map rows_bytes (drop end (blocks_of_rows 0 rows))))

  -- What stands from the cursor on are the bytes up to that place, and the later blocks.
  pub split_up_to : drop cursor.place (table_bytes rows) ≡ slice_range (table_bytes rows) cursor.place place ++ flat_map rows_bytes (drop end (blocks_of_rows 0 rows))
  split_up_to = drop_split (table_bytes rows) cursor.place place place_ahead ∙ ap (λ bs. slice_range (table_bytes rows) cursor.place place ++ bs) later
