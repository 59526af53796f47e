-- What a job makes of rows in bounds is in bounds. The rows of a range are in bounds if its sources' rows
-- are.
use Rattle.std.proofs.Common.{◌≡◌, sym, refl, subst, ℕ, ℤ, ◌<◌, ◌^◌, List, [], ◌∷◌, map, length, Bool, true, false, Option, Some, None, arith}
use Rattle.std.specs.Prelude.{flat_map, option_map, if◌then◌else◌, ⊤}
use Rattle.std.specs.List.{AllByRecursion}
use Rattle.std.proofs.lemmas.Option.{same_Some}
use Rattle.row_model.specs.Bounds.{IsInBounds}
use Rattle.row_model.specs.Chunks.{Chunk, elements, chunk_by, put_before}
use Rattle.row_model.specs.Fold.{Operator, Outcome, Merged, Refused, merge_one, fold, fold_bytes, IsLawful}
use Rattle.row_model.specs.FoldedRows.{GroupBase, NoBase, TombstoneBase, ValueBase, opens_group, takes_next, operand_groups, group_operands, group_base, base_in, base_bytes, content_of, group_content, group_row, greatest_created, folded_chunk, all_or_none, folded_rows}
use Rattle.row_model.specs.JobRows.{JobRows, key_rows, before_refusal, joined_keys, job_rows}
use Rattle.row_model.specs.KeptRows.{kept_rows, as_tombstone_if_expired}
use Rattle.row_model.specs.Ranges.{Range, is_in_range}
use Rattle.row_model.specs.Rows.{Row, Content, Value, Merge, Tombstone, same_key, is_expired, sorted_rows}
use Rattle.row_model.specs.Settings.{Settings}
use Rattle.row_model.specs.Written.Sizes.{content_len}
use Rattle.row_laws.specs.Keys.{is_below}
use Rattle.row_laws.specs.Resume.{Cursor}
use Rattle.row_laws.specs.Sources.{merged_rows}
use Rattle.row_laws.proofs.ApartRows.{all_filter}
use Rattle.row_laws.proofs.KeptReads.{both_there, mapped_there}
use Rattle.row_laws.proofs.Sources.{all_put}
use Rattle.fleet_iter.specs.Iteration.{from_key}
use Rattle.fleet_fold.proofs.AllKept.{all-both, all_key_kept, AllChunks}
use Rattle.fleet_exec.specs.Ranges.{source_rows, ranged_sources, rows_from}
use Rattle.fleet_exec.proofs.Opened.{flat_in}

abbrev AreInBounds : List Row → Type 0
AreInBounds rows = AllByRecursion IsInBounds rows

-- A row in bounds that becomes a tombstone stays in bounds.
bounds_stay : (tick : ℤ) (r : Row) → IsInBounds r → IsInBounds (as_tombstone_if_expired tick r)
bounds_stay tick r h = by (is_expired r tick)
  where
    by : (b : Bool) → IsInBounds (if b then record r { content = Tombstone; expires = None } else r)
    by true = record { key = h.key; content = omega arith }
    by false = h

-- ---- the chunks of rows

abbrev Chunks : List (Chunk Row) → Type 0
Chunks gs = AllChunks IsInBounds bounds_stay gs

put_bounds : (joins : Row → Row → Bool) (r : Row) (gs : List (Chunk Row)) → IsInBounds r → Chunks gs → Chunks (put_before joins r gs)
put_bounds joins r [] h all = ((h, tt), tt)
put_bounds joins r (g ∷ gs) h all = by (joins r g.0)
  where
    by : (b : Bool) → Chunks (if b then (r, g.0 ∷ g.1) ∷ gs else (r, []) ∷ g ∷ gs)
    by true = ((h, all.0), all.1)
    by false = ((h, tt), all)

chunk_bounds : (joins : Row → Row → Bool) (rows : List Row) → AreInBounds rows → Chunks (chunk_by joins rows)
chunk_bounds joins [] h = tt
chunk_bounds joins (r ∷ rows) h = put_bounds joins r (chunk_by joins rows) h.0 (chunk_bounds joins rows h.1)

-- ---- answers of an operator

abbrev IsShort : Outcome → Type 0
IsShort (Merged bytes) = length bytes < 2 ^ 32
IsShort (Refused message) = ⊤

abbrev IsShortOrNone : Option Outcome → Type 0
IsShortOrNone None = ⊤
IsShortOrNone (Some answer) = IsShort answer

answer_short : (answer : Outcome) → ((bytes : List ℕ) → answer ≡ Merged bytes → length bytes < 2 ^ 32) → IsShort answer
answer_short (Merged bytes) h = h bytes refl
answer_short (Refused message) h = tt

module _ (merge : Operator) (lawful : IsLawful merge) (key : List ℕ) where
  merged_short : (e : Option Outcome) (x : Outcome) → IsShort (merge_one merge key e x)
  merged_short None (Merged operand) = answer_short (merge key None operand) (λ bytes is. lawful.short key None operand bytes is)
  merged_short None (Refused message) = tt
  merged_short (Some (Merged old)) (Merged operand) = answer_short (merge key (Some old) operand) (λ bytes is. lawful.short key (Some old) operand bytes is)
  merged_short (Some (Merged old)) (Refused message) = tt
  merged_short (Some (Refused message)) x = tt

  fold_short : (e : Option Outcome) (xs : List Outcome) → IsShortOrNone e → IsShortOrNone (fold merge key e xs)
  fold_short e [] h = h
  fold_short e (x ∷ xs) h = fold_short (Some (merge_one merge key e x)) xs (merged_short e x)

-- ---- the row of a group

abbrev IsShortBase : GroupBase → Type 0
IsShortBase base = IsShortOrNone (option_map Merged (base_bytes base))

base_step : (content : Content) (older : GroupBase) → content_len content < 2 ^ 32 → IsShortBase older → IsShortBase (base_in content older)
base_step (Value bytes) older h rest = h
base_step (Merge bytes) older h rest = rest
base_step Tombstone older h rest = tt

base_short : (rows : List Row) → AreInBounds rows → IsShortBase (group_base rows)
base_short [] h = tt
base_short (r ∷ rows) h = base_step r.content (group_base rows) h.0.content (base_short rows h.1)

content_short : (base : GroupBase) (answer : Option Outcome) (content : Content) → IsShortOrNone answer → content_of base answer ≡ Some content → content_len content < 2 ^ 32
content_short (ValueBase base) (Some (Merged bytes)) content h is = subst (λ (c : Content). content_len c < 2 ^ 32) (same_Some _ _ is) h
content_short TombstoneBase (Some (Merged bytes)) content h is = subst (λ (c : Content). content_len c < 2 ^ 32) (same_Some _ _ is) h
content_short NoBase (Some (Merged bytes)) content h is = subst (λ (c : Content). content_len c < 2 ^ 32) (same_Some _ _ is) h
content_short base (Some (Refused message)) content h is = absurd (cc is)
content_short base None content h is = absurd (cc is)

module _ (merge : Operator) (lawful : IsLawful merge) where
  group_bounds : (g : Chunk Row) (x : Row) → AreInBounds (elements g) → group_row merge g ≡ Some x → IsInBounds x
  group_bounds g x h is =
      let rows = elements g in
      let (content, made, same) = mapped_there (λ content. record g.0 { content = content; created = greatest_created (elements g) }) (group_content merge g.0.key (elements g)) x is in
      let answer = fold_bytes merge g.0.key (base_bytes (group_base rows)) (group_operands rows) in
      let folds : IsShortOrNone answer = fold_short merge lawful g.0.key (option_map Merged (base_bytes (group_base rows))) (map Merged (group_operands rows)) (base_short rows h) in
      let row : IsInBounds (record g.0 { content = content; created = greatest_created (elements g) }) = record { key = h.0.key; content = content_short (group_base rows) answer content folds made } in
      subst IsInBounds same row

  folded_chunk_bounds : (cut : ℕ) (g : Chunk Row) (x : Row) → AreInBounds (elements g) → folded_chunk merge cut g ≡ Some x → IsInBounds x
  folded_chunk_bounds cut g x h is = by (opens_group cut g.0) is
    where
      by : (b : Bool) → (if b then group_row merge g else Some g.0) ≡ Some x → IsInBounds x
      by true is = group_bounds g x h is
      by false is = subst IsInBounds (same_Some _ _ is) h.0

  groups_bounds : (cut : ℕ) (gs : List (Chunk Row)) (rows : List Row) → Chunks gs → all_or_none (map (folded_chunk merge cut) gs) ≡ Some rows → AreInBounds rows
  groups_bounds cut [] rows h is = subst AreInBounds (same_Some _ _ is) tt
  groups_bounds cut (g ∷ gs) rows h is =
      let (x, xs, first, later, whole) = both_there (folded_chunk merge cut g) (all_or_none (map (folded_chunk merge cut) gs)) rows is in
      subst AreInBounds whole (folded_chunk_bounds cut g x h.0 first, groups_bounds cut gs xs h.1 later)

  folded_bounds : (cut : ℕ) (rows folded : List Row) → AreInBounds rows → folded_rows merge cut rows ≡ Some folded → AreInBounds folded
  folded_bounds cut rows folded h is = groups_bounds cut (operand_groups cut rows) folded (chunk_bounds (takes_next cut) rows h) is

  -- ---- key after key

  key_bounds : (settings : Settings) (rows kept : List Row) → AreInBounds rows → key_rows merge settings rows ≡ Some kept → AreInBounds kept
  key_bounds settings rows kept h is =
      let (folded, made, same) = mapped_there (kept_rows settings) (folded_rows merge settings.cut rows) kept is in
      subst AreInBounds same (all_key_kept IsInBounds bounds_stay settings folded (folded_bounds settings.cut rows folded h made))

  keys_bounds : (settings : Settings) (gs : List (Chunk Row)) → Chunks gs → AreInBounds (joined_keys (map (λ g. key_rows merge settings (elements g)) gs)).rows
  keys_bounds settings [] h = tt
  keys_bounds settings (g ∷ gs) h = by (key_rows merge settings (elements g)) (joined_keys (map (λ g. key_rows merge settings (elements g)) gs)) refl (keys_bounds settings gs h.1)
    where
      by : (kept : Option (List Row)) (later : JobRows) → key_rows merge settings (elements g) ≡ kept → AreInBounds later.rows → AreInBounds (before_refusal kept later).rows
      by None later is rest = tt
      by (Some kept) later is rest = all-both IsInBounds bounds_stay kept later.rows (key_bounds settings (elements g) kept h.0 is) rest

-- If rows are in bounds, so is what a job makes of them.
pub job_bounds : (merge : Operator) → IsLawful merge → (settings : Settings) (rows : List Row) → AllByRecursion IsInBounds rows → AllByRecursion IsInBounds (job_rows merge settings rows).rows
job_bounds merge lawful settings rows h = keys_bounds merge lawful settings (chunk_by same_key rows) (chunk_bounds same_key rows h)

-- ---- the rows of a range

sorted_bounds : (rows : List Row) → AreInBounds rows → AreInBounds (sorted_rows rows)
sorted_bounds [] h = tt
sorted_bounds (r ∷ rows) h = all_put IsInBounds r (sorted_rows rows) h.0 (sorted_bounds rows h.1)

from_bounds : (key : List ℕ) (rows : List Row) → AreInBounds rows → AreInBounds (from_key key rows)
from_bounds key [] h = tt
from_bounds key (r ∷ rows) h = by (is_below key r) (from_bounds key rows h.1)
  where
    by : (b : Bool) → AreInBounds (from_key key rows) → AreInBounds (if b then from_key key rows else r ∷ rows)
    by true rest = rest
    by false rest = h

merged_bounds : (range : Range) (sources : List (List (List Row))) → AreInBounds (flat_map source_rows sources) → AreInBounds (merged_rows (ranged_sources range sources))
merged_bounds range sources h =
    sorted_bounds (flat_map (λ rows. rows) (ranged_sources range sources))
    (subst AreInBounds (sym (flat_in range sources)) (all_filter IsInBounds (λ r. is_in_range range r.key) (flat_map source_rows sources) h))

-- If the sources' rows are in bounds, so are their rows in a range from a cursor's key on.
pub range_bounds : (range : Range) (cursor : Option Cursor) (sources : List (List (List Row))) → AllByRecursion IsInBounds (flat_map source_rows sources) → AllByRecursion IsInBounds (rows_from range cursor sources)
range_bounds range None sources h = merged_bounds range sources h
range_bounds range (Some cursor) sources h = from_bounds cursor.0 (merged_rows (ranged_sources range sources)) (merged_bounds range sources h)
