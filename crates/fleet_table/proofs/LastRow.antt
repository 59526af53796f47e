-- The first and the last of some rows.
use Rattle.std.proofs.Common.{◌≡◌, ◌≢◌, refl, ◌∙◌, ap, ℕ, ◌<◌, ◌-◌, List, [], ◌∷◌, length, true, arith}
use Rattle.std.specs.Prelude.{slice_index_or}
use Rattle.std.specs.List.{AllByRecursion}
use Rattle.std.specs.List.Sorted.{IsStrictlySortedBy}
use Rattle.std.specs.declared.cmp.Ordering.{Ordering}
use Rattle.std.specs.declared.cmp.Ordering.TheVariants.{Less, Equal, Greater}
use Rattle.std.specs.Ordering.{is_le, nat_cmp, ordering_then}
use Rattle.row_model.specs.Rows.{Row, key_cmp, row_cmp, IsStrictlyOrdered}
use Rattle.row_laws.proofs.KeyRows.{key_alike}
use Rattle.fleet_model.specs.Handles.{seq_of_last}
use Rattle.fleet_model.specs.Trees.{first_key, last_key}
use Rattle.row_model.specs.Written.Sizes.{blocks}
use Rattle.fleet_tree.specs.Handles.{blocks_of}
use Rattle.fleet_tree.specs.declared.block.BlockMeta.{BlockMeta}
use Rattle.fleet_rows.specs.declared.row.RowEntry.{RowEntry}
use Rattle.fleet_rows.specs.Row.{rows_of}

at_next : (r q : RowEntry) (rows : List RowEntry) (d : RowEntry) → slice_index_or (r ∷ q ∷ rows) (length (q ∷ rows)) d ≡ slice_index_or (q ∷ rows) (length rows) d
at_next r q rows d = refl

key_from : (key : List ℕ) (r : RowEntry) (rows : List RowEntry) (d : RowEntry) → (slice_index_or (r ∷ rows) (length rows) d).key ≡ last_key key (rows_of (r ∷ rows))
key_from key r [] d = refl
key_from key r (q ∷ rows) d = ap (λ x. x.key) (at_next r q rows d) ∙ key_from r.key q rows d

seq_from : (seq : ℕ) (r : RowEntry) (rows : List RowEntry) (d : RowEntry) → (slice_index_or (r ∷ rows) (length rows) d).seq ≡ seq_of_last seq (rows_of (r ∷ rows))
seq_from seq r [] d = refl
seq_from seq r (q ∷ rows) d = ap (λ x. x.seq) (at_next r q rows d) ∙ seq_from r.seq q rows d

afterwards : (r : RowEntry) (rows : List RowEntry) (last : RowEntry) → last ≡ slice_index_or (r ∷ rows) (length (r ∷ rows) - 1) last → last ≡ slice_index_or (r ∷ rows) (length rows) last
afterwards r rows last is =
    let place : length (r ∷ rows) - 1 ≡ length rows = omega arith in
    is ∙ ap (λ i. slice_index_or (r ∷ rows) i last) place

pub first_at : (rows : List RowEntry) (first : RowEntry) → rows ≢ [] → first ≡ slice_index_or rows 0 first → first.key ≡ first_key (rows_of rows)
first_at [] first some is = absurd (some refl)
first_at (r ∷ rows) first some is = ap (λ x. x.key) is

pub key_at : (rows : List RowEntry) (last : RowEntry) → rows ≢ [] → last ≡ slice_index_or rows (length rows - 1) last → last.key ≡ last_key [] (rows_of rows)
key_at [] last some is = absurd (some refl)
key_at (r ∷ rows) last some is = ap (λ x. x.key) (afterwards r rows last is) ∙ key_from [] r rows last

pub seq_at : (rows : List RowEntry) (last : RowEntry) → rows ≢ [] → last ≡ slice_index_or rows (length rows - 1) last → last.seq ≡ seq_of_last 0 (rows_of rows)
seq_at [] last some is = absurd (some refl)
seq_at (r ∷ rows) last some is = ap (λ x. x.seq) (afterwards r rows last is) ∙ seq_from 0 r rows last

not_above : (r q : Row) → row_cmp r q ≡ Less → is_le (key_cmp r.key q.key) ≡ true
not_above r q = by (key_cmp r.key q.key)
  where
    by : (o : Ordering) → ordering_then o (nat_cmp q.seq r.seq) ≡ Less → is_le o ≡ true
    by Less h = refl
    by Equal h = refl
    by Greater h = absurd (cc h)

pub up_to_last : (r : Row) (key : List ℕ) (rows : List Row) → is_le (key_cmp r.key key) ≡ true → AllByRecursion (λ q. row_cmp r q ≡ Less) rows → is_le (key_cmp r.key (last_key key rows)) ≡ true
up_to_last r key [] h after = h
up_to_last r key (q ∷ rows) h after = up_to_last r q.key rows (not_above r q after.0) after.1

-- The first key is at most the last key.
pub first_up_to_last : (rows : List Row) → rows ≢ [] → IsStrictlyOrdered rows → is_le (key_cmp (first_key rows) (last_key [] rows)) ≡ true
unfolding IsStrictlySortedBy
first_up_to_last [] some ordered = absurd (some refl)
first_up_to_last (r ∷ rows) some ordered = up_to_last r r.key rows (ap is_le (key_alike r.key)) ordered.0

-- A table with rows has a block.
pub first_there : (rows : List Row) (listed : List BlockMeta) → rows ≢ [] → blocks_of listed ≡ blocks rows → 0 < length listed
first_there rows (b ∷ listed) some index = omega arith
first_there [] [] some index = absurd (some refl)
first_there (r ∷ rows) [] some index = absurd (cc index)
