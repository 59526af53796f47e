-- Where the rows of a table stand in its bytes.
use Rattle.std.proofs.Common.{◌≡◌, ◌≢◌, refl, sym, ◌∙◌, ap, subst, ℕ, ◌<◌, ◌≤◌, ◌+◌, ◌*◌, List, [], ◌∷◌, ◌++◌, length, take, drop, Some, None, arith}
use Rattle.std.specs.Prelude.{option_map, slice_get, slice_index_or, sum_by}
use Rattle.std.specs.List.{AllByRecursion, flat_map}
use Rattle.std.proofs.lemmas.Grind.{flat_map-append}
use Rattle.std.proofs.lemmas.Option.{slice_get-map}
use Rattle.std.proofs.lemmas.List.{append_assoc, length-append, length-drop, take-append-drop, take_all, take_at}
use Rattle.row_model.specs.Rows.{Row}
use Rattle.row_model.specs.Written.Sizes.{Block, blocks, estimated_size, saturated_sum}
use Rattle.row_model.specs.Written.TableBytes.{blocks_of_rows, bytes_of_blocks, row_bytes, rows_bytes, table_bytes, IsWritable}
use Rattle.fleet_block.specs.Finds.{joined_rows}
use Rattle.fleet_block.specs.Laws.{index_from, rows_place}
use Rattle.fleet_block.specs.Places.{places_from}
use Rattle.fleet_block.specs.declared.place.BlockPlace.{BlockPlace}
use Rattle.fleet_block.proofs.Cuts.{joined_blocks}
use Rattle.fleet_block.proofs.Index.{rows_are_cut_into_blocks}
use Rattle.fleet_block.proofs.Places.{block_at_place, places_count}
use Rattle.fleet_block.proofs.Stand.{blocks_stand_in_bytes}
use Rattle.fleet_table.specs.Cursors.{key_after, rows_before, IsCursor, StandsAt}
use Rattle.fleet_tree.specs.Handles.{block_of, blocks_of}
use Rattle.fleet_tree.specs.declared.block.BlockMeta.{BlockMeta}
use Rattle.fleet_table.specs.declared.cursor.Cursor.{Cursor}

-- ---- lists

joined-append : (xs ys : List (List Row)) → joined_rows (xs ++ ys) ≡ joined_rows xs ++ joined_rows ys
joined-append xs ys = flat_map-append (λ (rows : List Row). rows) xs ys

some_at : {A : Type 0} (front : List A) (x : A) (later : List A) (i : ℕ) → i ≡ length front → slice_get (front ++ x ∷ later) i ≡ Some x
some_at [] x later i is = ap (slice_get (x ∷ later)) is
some_at (y ∷ front) x later i is = ap (slice_get (y ∷ (front ++ x ∷ later))) is ∙ some_at front x later (length front) refl

all_in : {A : Type 0} (P : A → Type 0) (front : List A) (x : A) (later : List A) → AllByRecursion P (front ++ x ∷ later) → P x
all_in P [] x later h = h.0
all_in P (y ∷ front) x later h = all_in P front x later h.1

first_kept : (front : List Row) (x r : Row) → key_after ((front ++ x ∷ []) ++ r ∷ []) ≡ key_after (front ++ x ∷ [])
first_kept [] x r = refl
first_kept (q ∷ front) x r = refl

-- ---- rows before a block

module _ (rows : List Row) where
  cut : List (List Row)
  cut = blocks_of_rows 0 rows

  module _ (before : List (List Row)) (here : List Row) (after : List (List Row)) (all : blocks_of_rows 0 rows ≡ before ++ here ∷ after) (block : ℕ) (at : block ≡ length before) where
    pub before_is : rows_before block rows ≡ length (joined_rows before)
    before_is = ap (λ bs. length (joined_rows (take block bs))) all ∙ ap (λ bs. length (joined_rows bs)) (take_at before (here ∷ after) block (sym at))

    through : blocks_of_rows 0 rows ≡ (before ++ here ∷ []) ++ after
    through = all ∙ sym (append_assoc before (here ∷ []) after)

    pub before_next : rows_before (block + 1) rows ≡ length (joined_rows before) + length here
    before_next =
        let two : length (before ++ here ∷ []) ≡ block + 1 = length-append before (here ∷ []) ∙ omega (arith, at) in
        let parts = length-append (joined_rows before) (here ++ []) in
        let one = length-append here [] in
        ap (λ bs. length (joined_rows (take (block + 1) bs))) through
        ∙ ap (λ bs. length (joined_rows bs)) (take_at (before ++ here ∷ []) after (block + 1) two)
        ∙ ap length (joined-append before (here ∷ []))
        ∙ omega (arith, parts, one)

    pub rows_are : rows ≡ joined_rows before ++ (here ++ joined_rows after)
    rows_are = sym (joined_blocks 0 rows) ∙ ap joined_rows all ∙ joined-append before (here ∷ after)

    pub here_some : here ≢ []
    here_some = all_in (λ (b : List Row). b ≢ []) before here after (subst (AllByRecursion (λ (b : List Row). b ≢ [])) all (rows_are_cut_into_blocks rows).filled)

  pub before_end : (block : ℕ) → length (blocks_of_rows 0 rows) ≤ block → rows_before block rows ≡ length rows
  before_end block bytes_after = ap (λ bs. length (joined_rows bs)) (take_all block (blocks_of_rows 0 rows) bytes_after) ∙ ap length (joined_blocks 0 rows)

  pub before_start : (places : List BlockPlace) (block : ℕ) (p d : BlockPlace) → places ≡ places_from 0 0 (blocks_of_rows 0 rows) → block < length places → p ≡ slice_index_or places block d → p.row ≡ rows_before block rows
  before_start places block p d are within is =
      let at = block_at_place (blocks_of_rows 0 rows) places block p d are within is in
      let row = at.rows in
      sym (before_is at.before at.here at.after at.all block at.blocks ∙ omega (arith, row))

  -- ---- the start of a block

  block_bytes_at : (before : List (List Row)) (here : List Row) (after : List (List Row)) → blocks_of_rows 0 rows ≡ before ++ here ∷ after → (place : ℕ) → place ≡ rows_place (before ++ here ∷ after) + length (flat_map rows_bytes before)
      → drop place (table_bytes rows) ≡ rows_bytes here ++ flat_map rows_bytes after
  block_bytes_at before here after all place at =
      ap (λ bs. drop place (bytes_of_blocks bs)) all ∙ ap (λ n. drop n (bytes_of_blocks (before ++ here ∷ after))) at ∙ blocks_stand_in_bytes before after here

  -- A cursor at the beginning of a block stands at the first row of that block.
  first_stands : (before : List (List Row)) (here : List Row) (after : List (List Row)) → blocks_of_rows 0 rows ≡ before ++ here ∷ after → here ≢ [] → (cursor : Cursor) → cursor.block ≡ length before → cursor.row ≡ length (joined_rows before)
      → drop cursor.place (table_bytes rows) ≡ rows_bytes here ++ flat_map rows_bytes after → StandsAt rows cursor
  first_stands before [] after all some cursor block row place = absurd (some refl)
  first_stands before (r ∷ later) after all some cursor block row place = record {
    before = before;
    front = [];
    here = r;
    later = later;
    after = after;
    all = all;
    block = block;
    row = omega (arith, row);
    place = place ∙ append_assoc (row_bytes [] r) (flat_map (row_bytes r.key) later) (flat_map rows_bytes after);
  }

  pub start_stands : (places : List BlockPlace) (block count : ℕ) (p d : BlockPlace) → places ≡ places_from 0 0 (blocks_of_rows 0 rows) → block < length places → p ≡ slice_index_or places block d → count ≡ length places
      → StandsAt rows (record { block = block; row = p.row; place = 8 + 10 * count + p.place })
  start_stands places block count p d are within is counted =
      let at = block_at_place (blocks_of_rows 0 rows) places block p d are within is in
      let row = at.rows in
      let bytes = at.bytes in
      let blocks = ap length are ∙ places_count 0 0 (blocks_of_rows 0 rows) ∙ ap length at.all in
      first_stands at.before at.here at.after at.all (here_some at.before at.here at.after at.all block at.blocks) _ at.blocks (omega (arith, row))
      (block_bytes_at at.before at.here at.after at.all (8 + 10 * count + p.place) (omega (arith, bytes, blocks, counted)))

  -- ---- the row at a cursor

  pub place_within : (key : List ℕ) (r : Row) (others bytes : List ℕ) (place : ℕ) → drop place bytes ≡ row_bytes key r ++ others → place < length bytes
  place_within key r others bytes place e =
      let all = ap length e in
      omega (arith, all, length-drop place bytes)

  module _ (cursor : Cursor) (at : StandsAt rows cursor) where
    split : rows ≡ (joined_rows at.before ++ at.front) ++ at.here ∷ (at.later ++ joined_rows at.after)
    split =
        rows_are at.before (at.front ++ at.here ∷ at.later) at.after at.all cursor.block at.block
        ∙ ap (λ xs. joined_rows at.before ++ xs) (append_assoc at.front (at.here ∷ at.later) (joined_rows at.after))
        ∙ sym (append_assoc (joined_rows at.before) at.front (at.here ∷ (at.later ++ joined_rows at.after)))

    ahead : cursor.row ≡ length (joined_rows at.before ++ at.front)
    ahead = at.row ∙ sym (length-append (joined_rows at.before) at.front)

    pub row_there : slice_get rows cursor.row ≡ Some at.here
    row_there = ap (λ rs. slice_get rs cursor.row) split ∙ some_at (joined_rows at.before ++ at.front) at.here (at.later ++ joined_rows at.after) cursor.row ahead

    pub writable_there : AllByRecursion IsWritable rows → IsWritable at.here
    writable_there fits = all_in IsWritable (joined_rows at.before ++ at.front) at.here (at.later ++ joined_rows at.after) (subst (AllByRecursion IsWritable) split fits)

    pub start_row : rows_before cursor.block rows ≡ length (joined_rows at.before)
    start_row = before_is at.before (at.front ++ at.here ∷ at.later) at.after at.all cursor.block at.block

    pub end_row : rows_before (cursor.block + 1) rows ≡ length (joined_rows at.before) + (length at.front + (1 + length at.later))
    end_row =
        let parts = length-append at.front (at.here ∷ at.later) in
        before_next at.before (at.front ++ at.here ∷ at.later) at.after at.all cursor.block at.block ∙ omega (arith, parts)

    pub block_within : cursor.block < length (blocks_of_rows 0 rows)
    block_within =
        let all = ap length at.all in
        let parts = length-append at.before ((at.front ++ at.here ∷ at.later) ∷ at.after) in
        let block = at.block in
        omega (arith, all, parts, block)

    pub row_within : cursor.row < length rows
    row_within =
        let all = ap length split in
        let parts = length-append (joined_rows at.before ++ at.front) (at.here ∷ (at.later ++ joined_rows at.after)) in
        let here = ahead in
        omega (arith, all, parts, here)

    -- ---- the next row

    rest_none : at.later ≡ [] → at.after ≡ [] → cursor.row + 1 ≡ length rows
    rest_none none last =
        let all = ap length split in
        let parts = length-append (joined_rows at.before ++ at.front) (at.here ∷ (at.later ++ joined_rows at.after)) in
        let few = ap length (ap (λ xs. xs ++ joined_rows at.after) none) in
        let end = ap (λ bs. length (joined_rows bs)) last in
        let here = ahead in
        omega (arith, all, parts, here, few, end)

    module _ (place : ℕ) (follows : drop place (table_bytes rows) ≡ flat_map (row_bytes (key_after (at.front ++ at.here ∷ []))) at.later ++ flat_map rows_bytes at.after) where
      next_in_block : (r : Row) (later : List Row) → at.later ≡ r ∷ later → StandsAt rows (record { block = cursor.block; row = cursor.row + 1; place = place })
      next_in_block r later is =
          let parts = length-append at.front (at.here ∷ []) in
          let row = at.row in
          record {
            before = at.before;
            front = at.front ++ at.here ∷ [];
            here = r;
            later = later;
            after = at.after;
            all = at.all ∙ ap (λ xs. at.before ++ (at.front ++ at.here ∷ xs) ∷ at.after) is ∙ ap (λ xs. at.before ++ xs ∷ at.after) (sym (append_assoc at.front (at.here ∷ []) (r ∷ later)));
            block = at.block;
            row = omega (arith, row, parts);
            place =
                follows
                ∙ ap (λ xs. flat_map (row_bytes (key_after (at.front ++ at.here ∷ []))) xs ++ flat_map rows_bytes at.after) is
                ∙ append_assoc (row_bytes (key_after (at.front ++ at.here ∷ [])) r) (flat_map (row_bytes (key_after (at.front ++ at.here ∷ []))) later) (flat_map rows_bytes at.after)
                ∙ ap (λ (k : List ℕ). row_bytes (key_after (at.front ++ at.here ∷ [])) r ++ (flat_map (row_bytes k) later ++ flat_map rows_bytes at.after)) (sym (first_kept at.front at.here r));
          }

      -- The blocks up to this one, if the row is the last of its block.
      closed : at.later ≡ [] → (block : List Row) (after : List (List Row)) → at.after ≡ block ∷ after → blocks_of_rows 0 rows ≡ (at.before ++ (at.front ++ at.here ∷ []) ∷ []) ++ block ∷ after
      closed none block after is =
          at.all
          ∙ ap (λ xs. at.before ++ (at.front ++ at.here ∷ xs) ∷ at.after) none
          ∙ ap (λ bs. at.before ++ (at.front ++ at.here ∷ []) ∷ bs) is
          ∙ sym (append_assoc at.before ((at.front ++ at.here ∷ []) ∷ []) (block ∷ after))

      next_block : at.later ≡ [] → (block : List Row) (after : List (List Row)) → at.after ≡ block ∷ after → StandsAt rows (record { block = cursor.block + 1; row = cursor.row + 1; place = place })
      next_block none block after is =
          let before = at.before ++ (at.front ++ at.here ∷ []) ∷ [] in
          let counted = length-append at.before ((at.front ++ at.here ∷ []) ∷ []) in
          let front = length-append at.front (at.here ∷ []) in
          let ended = length-append (at.front ++ at.here ∷ []) [] in
          let all_rows = ap length (joined-append at.before ((at.front ++ at.here ∷ []) ∷ [])) in
          let parts = length-append (joined_rows at.before) ((at.front ++ at.here ∷ []) ++ []) in
          let number = at.block in
          let row = at.row in
          first_stands before block after (closed none block after is) (here_some before block after (closed none block after is) (length before) refl) _
          (omega (arith, counted, number)) (omega (arith, front, ended, all_rows, parts, row))
          (follows ∙ ap (λ xs. flat_map (row_bytes (key_after (at.front ++ at.here ∷ []))) xs ++ flat_map rows_bytes at.after) none ∙ ap (flat_map rows_bytes) is)

      pub next_same : (cursor.row + 1 ≡ rows_before (cursor.block + 1) rows → ⊥) → IsCursor rows (record { block = cursor.block; row = cursor.row + 1; place = place })
      next_same apart = (omega (arith, row_within), λ more. by at.later refl)
        where
          by : (later : List Row) → at.later ≡ later → StandsAt rows (record { block = cursor.block; row = cursor.row + 1; place = place })
          by [] none =
              let end = end_row in
              let few = ap length none in
              let row = at.row in
              absurd (apart (omega (arith, end, few, row)))
          by (r ∷ later) is = next_in_block r later is

      pub next_new : cursor.row + 1 ≡ rows_before (cursor.block + 1) rows → IsCursor rows (record { block = cursor.block + 1; row = cursor.row + 1; place = place })
      next_new last = (omega (arith, row_within), λ more. by at.later refl more)
        where
          bytes_after : at.later ≡ [] → (after : List (List Row)) → at.after ≡ after → cursor.row + 1 < length rows → StandsAt rows (record { block = cursor.block + 1; row = cursor.row + 1; place = place })
          bytes_after none [] is more = let end = rest_none none is in absurd (omega (arith, end, more))
          bytes_after none (block ∷ after) is more = next_block none block after is

          by : (later : List Row) → at.later ≡ later → cursor.row + 1 < length rows → StandsAt rows (record { block = cursor.block + 1; row = cursor.row + 1; place = place })
          by [] none more = bytes_after none at.after refl more
          by (r ∷ later) is more =
              let end = end_row in
              let many = ap length is in
              let row = at.row in
              absurd (omega (arith, end, many, row, last))

-- The start of a block is within the bytes.
pub start_within : (rows held : List Row) (bytes : List ℕ) (places : List BlockPlace) (block count : ℕ) (p d : BlockPlace) → held ≡ rows → bytes ≡ table_bytes held → places ≡ places_from 0 0 (blocks_of_rows 0 rows) → block < length places → p ≡ slice_index_or places block d
    → count ≡ length places → 8 + 10 * count + p.place < length bytes
start_within rows held bytes places block count p d same spelt are within is counted =
    let at = start_stands rows places block count p d are within is counted in
    let place = place_within rows (key_after at.front) at.here _ (table_bytes rows) _ at.place in
    let all = ap length (spelt ∙ ap table_bytes same) in
    omega (arith, place, all)

-- What follows the row at a cursor.
abbrev pub bytes_after : (rows : List Row) (cursor : Cursor) → StandsAt rows cursor → List ℕ
bytes_after rows cursor at = flat_map (row_bytes (key_after (at.front ++ at.here ∷ []))) at.later ++ flat_map rows_bytes at.after

pub read_there : (rows held : List Row) (bytes first : List ℕ) (cursor : Cursor) (at : StandsAt rows cursor) → held ≡ rows → bytes ≡ table_bytes held → first ≡ key_after at.front → drop cursor.place bytes ≡ row_bytes first at.here ++ bytes_after rows cursor at
read_there rows held bytes first cursor at same spelt named =
    ap (drop cursor.place) (spelt ∙ ap table_bytes same) ∙ at.place ∙ ap (λ (k : List ℕ). row_bytes k at.here ++ bytes_after rows cursor at) (sym named)

pub read_on : (rows held : List Row) (bytes others : List ℕ) (place : ℕ) → held ≡ rows → bytes ≡ table_bytes held → drop place bytes ≡ others → drop place (table_bytes rows) ≡ others
read_on rows held bytes others place same spelt e = ap (drop place) (sym (spelt ∙ ap table_bytes same)) ∙ e

-- ---- the index

index_key : (offset : ℕ) (before : List (List Row)) (r : Row) (block : List Row) (after : List (List Row)) → AllByRecursion (λ (b : List Row). b ≢ []) before
    → option_map (λ (b : Block). b.first_key) (slice_get (index_from offset (before ++ (r ∷ block) ∷ after)) (length before)) ≡ Some r.key
index_key offset [] r block after some = refl
index_key offset ([] ∷ before) r block after some = absurd (some.0 refl)
index_key offset ((q ∷ b) ∷ before) r block after some = index_key (saturated_sum (offset + sum_by estimated_size (q ∷ b))) before r block after some.1

all_before : {A : Type 0} (P : A → Type 0) (xs ys : List A) → AllByRecursion P (xs ++ ys) → AllByRecursion P xs
all_before P [] ys h = tt
all_before P (x ∷ xs) ys h = (h.0, all_before P xs ys h.1)

named : (listed : List BlockMeta) (block : ℕ) (meta : BlockMeta) → slice_get listed block ≡ Some meta → option_map (λ (b : Block). b.first_key) (slice_get (blocks_of listed) block) ≡ Some meta.first_key
named listed block meta got = ap (option_map (λ (b : Block). b.first_key)) (slice_get-map block_of listed block ∙ ap (option_map block_of) got)

-- The index has the key of the first row of each block.
pub index_names : (rows held : List Row) (listed : List BlockMeta) (before : List (List Row)) (r : Row) (here : List Row) (after : List (List Row)) (block : ℕ) (meta : BlockMeta)
    → held ≡ rows → blocks_of listed ≡ blocks held → blocks_of_rows 0 rows ≡ before ++ (r ∷ here) ∷ after → block ≡ length before → slice_get listed block ≡ Some meta → meta.first_key ≡ r.key
index_names rows held listed before r here after block meta same index all at got =
    let cut = rows_are_cut_into_blocks rows in
    let some = all_before (λ (b : List Row). b ≢ []) before ((r ∷ here) ∷ after) (subst (AllByRecursion (λ (b : List Row). b ≢ [])) all cut.filled) in
    let one : Some meta.first_key ≡ Some r.key =
    sym (named listed block meta got)
    ∙ ap (λ (bs : List Block). option_map (λ (b : Block). b.first_key) (slice_get bs block)) (index ∙ ap blocks same ∙ sym cut.index ∙ ap (index_from 0) all)
    ∙ ap (λ n. option_map (λ (b : Block). b.first_key) (slice_get (index_from 0 (before ++ (r ∷ here) ∷ after)) n)) at
    ∙ index_key 0 before r here after some in
    cc one

-- The index lists each block of the rows.
pub index_there : (rows held : List Row) (listed : List BlockMeta) (before : List (List Row)) (r : Row) (here : List Row) (after : List (List Row)) (block : ℕ)
    → held ≡ rows → blocks_of listed ≡ blocks held → blocks_of_rows 0 rows ≡ before ++ (r ∷ here) ∷ after → block ≡ length before → slice_get listed block ≡ None → ⊥
index_there rows held listed before r here after block same index all at got =
    let cut = rows_are_cut_into_blocks rows in
    let some = all_before (λ (b : List Row). b ≢ []) before ((r ∷ here) ∷ after) (subst (AllByRecursion (λ (b : List Row). b ≢ [])) all cut.filled) in
    let one : None ≡ Some r.key =
    sym (ap (option_map (λ (b : Block). b.first_key)) (slice_get-map block_of listed block ∙ ap (option_map block_of) got))
    ∙ ap (λ (bs : List Block). option_map (λ (b : Block). b.first_key) (slice_get bs block)) (index ∙ ap blocks same ∙ sym cut.index ∙ ap (index_from 0) all)
    ∙ ap (λ n. option_map (λ (b : Block). b.first_key) (slice_get (index_from 0 (before ++ (r ∷ here) ∷ after)) n)) at
    ∙ index_key 0 before r here after some in
    cc one

module _ (rows held : List Row) (listed : List BlockMeta) (cursor : Cursor) (at : StandsAt rows cursor) (same : held ≡ rows) (index : blocks_of listed ≡ blocks held) (apart : cursor.row ≡ rows_before cursor.block rows → ⊥) where
  not_first : at.front ≡ [] → ⊥
  not_first none =
      let few = ap length none in
      let row = at.row in
      let start = start_row rows cursor at in
      apart (omega (arith, few, row, start))

  pub key_there : slice_get listed cursor.block ≡ None → ⊥
  key_there got = by at.front refl
    where
      by : (front : List Row) → at.front ≡ front → ⊥
      by [] none = not_first none
      by (q ∷ front) is =
          index_there rows held listed at.before q (front ++ at.here ∷ at.later) at.after cursor.block same index (at.all ∙ ap (λ xs. at.before ++ (xs ++ at.here ∷ at.later) ∷ at.after) is) at.block got

  pub key_is : (meta : BlockMeta) → Some meta ≡ slice_get listed cursor.block → meta.first_key ≡ key_after at.front
  key_is meta got = by at.front refl
    where
      by : (front : List Row) → at.front ≡ front → meta.first_key ≡ key_after at.front
      by [] none = absurd (not_first none)
      by (q ∷ front) is =
          index_names rows held listed at.before q (front ++ at.here ∷ at.later) at.after cursor.block meta same index (at.all ∙ ap (λ xs. at.before ++ (xs ++ at.here ∷ at.later) ∷ at.after) is) at.block (sym got)
          ∙ sym (ap key_after is)

pub before_within : (rows : List Row) (block : ℕ) → rows_before block rows ≤ length rows
before_within rows block =
    let cut = blocks_of_rows 0 rows in
    let all = ap length (sym (joined_blocks 0 rows) ∙ ap joined_rows (sym (take-append-drop block cut)) ∙ joined-append (take block cut) (drop block cut)) in
    omega (arith, all, length-append (joined_rows (take block cut)) (joined_rows (drop block cut)))
