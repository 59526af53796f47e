-- The bytes of the rows that a merge takes, and the key of its first row.
use Rattle.std.proofs.Common.{◌≡◌, ◌∙◌, sym, refl, ap, arith, ℕ, ◌+◌, ◌<◌, ◌^◌, List, [], ◌∷◌, ◌++◌, Option, Some, None, Bool, true, false, cond}
use Rattle.std.specs.Option.{option_map, unwrap_or}
use Rattle.row_model.specs.Rows.{Row}
use Rattle.row_model.specs.Written.Sizes.{saturated_sum}
use Rattle.fleet_rows.specs.Row.{row_of}
use Rattle.fleet_rows.specs.declared.row.RowEntry.{RowEntry}
use Rattle.fleet_rows.specs.declared.errors.SlateDBError.{SlateDBError}
use Rattle.std.proofs.Math.ListN.{set}
use Rattle.fleet_iter.specs.Iteration.{IteratorState, after_first, without_first}
use Rattle.fleet_iter.specs.declared.iterator.IterationOrder.{IterationOrder}
use Rattle.fleet_iter.specs.Merge.{best, passes, hides, has_key, begins_with, given_rows, merged_lists, lists, rows_left, merged_left, AllTaken, Fits, Takes, Drops, Skips}
use Rattle.fleet_iter.specs.Tracked.{row_bytes, first_bytes, counted_bytes, kept_back, taken_at_once}
use Rattle.fleet_iter.proofs.Merges.{first_left, none_left, takes_head}

-- The rows are those that a row hides, followed by the others.
split : (r : Row) (rows : List Row) → rows ≡ kept_back r rows ++ without_first (hides r) rows
split r [] = refl
split r (q ∷ rows) = by (hides r q) (split r rows)
  where
    by : (b : Bool) → rows ≡ kept_back r rows ++ without_first (hides r) rows → q ∷ rows ≡ cond b (q ∷ kept_back r rows) [] ++ cond b (without_first (hides r) rows) (q ∷ rows)
    by true rest = ap (λ (w : List Row). q ∷ w) rest
    by false rest = refl

-- The rows left before one `next` are those that it takes, followed by those left after it.
pub takes_in_front : (order : IterationOrder) (hs hs1 hs' : List (Option RowEntry)) (ss ss1 ss' : List IteratorState) (x : RowEntry) → Takes order false hs ss hs1 ss1 (Some x) → Skips order (hides (row_of x)) hs1 ss1 hs' ss'
    → merged_left order hs ss ≡ taken_at_once true (merged_left order hs ss) ++ merged_left order hs' ss'
takes_in_front order hs hs1 hs' ss ss1 ss' x t s =
    let m = merged_left order hs1 ss1 in
    let r = row_of x in
    t.rows
    ∙ (ap (λ (w : List Row). r ∷ w) (split r m ∙ ap (λ (w : List Row). kept_back r m ++ w) (sym s.rows))
    ∙ sym (ap (λ (w : List Row). taken_at_once true w ++ merged_left order hs' ss') t.rows))

-- A hidden row is dropped, and its bytes are counted.
pub counts_step : (order : IterationOrder) (row : Row) (hs hs' : List (Option RowEntry)) (ss ss' : List IteratorState) (count bytes more : ℕ) → AllTaken hs ss → passes (hides row) (best order hs) ≡ true → Drops order hs ss hs' ss'
    → bytes ≡ first_bytes (merged_left order hs ss) → more ≡ saturated_sum (count + bytes) → counted_bytes more (kept_back row (merged_left order hs' ss')) ≡ counted_bytes count (kept_back row (merged_left order hs ss))
counts_step order row hs hs' ss ss' count bytes more a low d e q =
    let f = first_left order (hides row) hs ss a low in
    let later : merged_left order hs' ss' ≡ f.1 = d.rows ∙ ap after_first f.2 in
    let kept : kept_back row (merged_left order hs ss) ≡ f.0 ∷ kept_back row f.1 = ap (kept_back row) f.2 ∙ ap (λ b. cond b (f.0 ∷ kept_back row f.1) []) f.3 in
    let size : bytes ≡ row_bytes f.0 = e ∙ ap first_bytes f.2 in
    ap (λ (w : List Row). counted_bytes more (kept_back row w)) later
    ∙ (ap (λ (n : ℕ). counted_bytes n (kept_back row f.1)) (q ∙ ap (λ (b : ℕ). saturated_sum (count + b)) size) ∙ sym (ap (counted_bytes count) kept))

-- If the first row is not hidden, no row is.
pub counts_end : (order : IterationOrder) (row : Row) (hs : List (Option RowEntry)) (ss : List IteratorState) → AllTaken hs ss → passes (hides row) (best order hs) ≡ false → kept_back row (merged_left order hs ss) ≡ []
counts_end order row hs ss a high = by (best order hs) refl high
  where
    by : (b : Option (ℕ × RowEntry)) → best order hs ≡ b → passes (hides row) b ≡ false → kept_back row (merged_left order hs ss) ≡ []
    by None f high = ap (kept_back row) (none_left order hs ss a f).0
    by (Some p) f high =
        let rest = merged_lists order (lists (set hs p.0 None) (rows_left ss)) in
        ap (kept_back row) (takes_head order hs ss a p.0 p.1 f).rows ∙ ap (λ b. cond b (row_of p.1 ∷ kept_back row rest) []) high

-- The bytes of the least head are those of the first row left.
pub best_bytes : (order : IterationOrder) (hs : List (Option RowEntry)) (ss : List IteratorState) (found : Option ℕ) (bytes count : ℕ) → AllTaken hs ss → found ≡ option_map (λ p. row_bytes (row_of p.1)) (best order hs) → bytes ≡ unwrap_or found 0 → count < 2 ^ 64
    → saturated_sum (count + bytes) ≡ counted_bytes count (taken_at_once false (merged_left order hs ss))
best_bytes order hs ss found bytes count a is size fits = by (best order hs) refl
  where
    by : (b : Option (ℕ × RowEntry)) → best order hs ≡ b → saturated_sum (count + bytes) ≡ counted_bytes count (taken_at_once false (merged_left order hs ss))
    by None f =
        let whole : saturated_sum (count + 0) ≡ count = omega (arith, fits) in
        let none : found ≡ None = is ∙ ap (option_map (λ p. row_bytes (row_of p.1))) f in
        ap (λ (b : ℕ). saturated_sum (count + b)) (size ∙ ap (λ o. unwrap_or o 0) none)
        ∙ (whole ∙ sym (ap (λ (w : List Row). counted_bytes count (taken_at_once false w)) (none_left order hs ss a f).0))
    by (Some p) f =
        let some : found ≡ Some (row_bytes (row_of p.1)) = is ∙ ap (option_map (λ p. row_bytes (row_of p.1))) f in
        ap (λ (b : ℕ). saturated_sum (count + b)) (size ∙ ap (λ o. unwrap_or o 0) some) ∙ sym (ap (λ (w : List Row). counted_bytes count (taken_at_once false w)) (takes_head order hs ss a p.0 p.1 f).rows)

-- ---- the key of the first row

begins_given : (dedup : Bool) (key : List ℕ) (rows : List Row) → begins_with key (given_rows dedup rows) ≡ begins_with key rows
begins_given true key [] = refl
begins_given true key (r ∷ rows) = refl
begins_given false key rows = refl

-- The first row that is given has the key if the least head has it.
pub head_begins : (order : IterationOrder) (dedup : Bool) (key : List ℕ) (hs : List (Option RowEntry)) (ss : List IteratorState) → AllTaken hs ss → passes (has_key key) (best order hs) ≡ begins_with key (given_rows dedup (merged_left order hs ss))
head_begins order dedup key hs ss a = by (best order hs) refl ∙ sym (begins_given dedup key (merged_left order hs ss))
  where
    by : (b : Option (ℕ × RowEntry)) → best order hs ≡ b → passes (has_key key) b ≡ begins_with key (merged_left order hs ss)
    by None f = sym (ap (begins_with key) (none_left order hs ss a f).0)
    by (Some p) f = sym (ap (begins_with key) (takes_head order hs ss a p.0 p.1 f).rows)

-- Of each source of an initialised merge that has not failed, the first row was taken.
pub all_taken : (failure : Option SlateDBError) (initialised : Bool) (hs : List (Option RowEntry)) (ss : List IteratorState) → failure ≡ None → initialised ≡ true → Fits failure initialised hs ss → AllTaken hs ss
all_taken None true hs ss alive begun fits = fits
all_taken None false hs ss alive begun fits = absurd (cc begun)
all_taken (Some e) initialised hs ss alive begun fits = absurd (cc alive)
