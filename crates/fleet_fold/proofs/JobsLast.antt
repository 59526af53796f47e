-- The keys before the last one, and beginnings of lists.
use Rattle.std.proofs.Common.{◌≡◌, ◌≢◌, ◌∙◌, sym, refl, ap, ℕ, List, [], ◌∷◌, ◌++◌, length, Bool, true, false, None, Ok, Err}
use Rattle.std.specs.Prelude.{flat_map, Result, if◌then◌else◌}
use Rattle.std.specs.List.{AllByRecursion}
use Rattle.std.proofs.lemmas.List.{append_assoc}
use Rattle.row_model.specs.Chunks.{Chunk, elements, chunk_by, put_before}
use Rattle.row_model.specs.Fold.{Operator}
use Rattle.row_model.specs.KeptRows.{kept_rows}
use Rattle.row_model.specs.Lists.{IsPrefixOf}
use Rattle.row_model.specs.Rows.{Row, same_key}
use Rattle.row_model.specs.Settings.{Settings}
use Rattle.row_laws.proofs.ApartRows.{chunk_by-append}
use Rattle.row_laws.proofs.Elements.{all_weaken}
use Rattle.row_laws.proofs.KeyRows.{one_chunk}
use Rattle.fleet_rows.specs.declared.errors.SlateDBError.{SlateDBError}
use Rattle.fleet_fold.specs.Folded.{opens, joining, merged_group, folded_after, up_to_refusal, folded_groups}
use Rattle.fleet_fold.specs.Retention.{front, kept_given}
use Rattle.fleet_fold.specs.declared.group.GroupRule.{GroupRule}
use Rattle.fleet_fold.proofs.Jobs.{apart_key}
use Rattle.fleet_fold.proofs.JobsChunks.{HaveOthers}

-- ---- beginnings of lists

pub nothing_begins : (xs ys : List Row) → xs ≡ [] → IsPrefixOf xs ys
nothing_begins xs ys empty = (ys, ap (λ (w : List Row). w ++ ys) empty)

pub both_begin : (first xs ys : List Row) → IsPrefixOf xs ys → IsPrefixOf (first ++ xs) (first ++ ys)
both_begin first xs ys h = (h.0, append_assoc first xs h.0 ∙ ap (λ (w : List Row). first ++ w) h.1)

pub same_begins : (xs ys us ws : List Row) → xs ≡ us → ys ≡ ws → IsPrefixOf us ws → IsPrefixOf xs ys
same_begins xs ys us ws x y h = (h.0, ap (λ (w : List Row). w ++ h.0) x ∙ (h.1 ∙ sym y))

pub all_append : (P : Row → Type 0) (xs ys : List Row) → AllByRecursion P xs → AllByRecursion P ys → AllByRecursion P (xs ++ ys)
all_append P [] ys h g = g
all_append P (x ∷ xs) ys h g = (h.0, all_append P xs ys h.1 g)

pub cons_some : (x : Row) (xs : List Row) → x ∷ xs ≢ []
cons_some x xs is = absurd (cc is)

pub append_some : (xs ys : List Row) → xs ≢ [] → xs ++ ys ≢ []
append_some [] ys some = absurd (some refl)
append_some (x ∷ xs) ys some = cons_some x (xs ++ ys)

-- ---- the keys before the last

before_cons : (g : Chunk Row) (gs : List (Chunk Row)) → gs ≢ [] → front (g ∷ gs) ≡ g ∷ front gs
before_cons g [] some = absurd (some refl)
before_cons g (h ∷ gs) some = refl

chunks_some : (r : Row) (rows : List Row) → chunk_by same_key (r ∷ rows) ≢ []
chunks_some r rows = put (chunk_by same_key rows)
  where
    put : (gs : List (Chunk Row)) → put_before same_key r gs ≢ []
    put [] is = absurd (cc is)
    put (g ∷ gs) is = by (same_key r g.0) is
      where
        by : (b : Bool) → (if b then (r, g.0 ∷ g.1) ∷ gs else (r, []) ∷ g ∷ gs) ≡ [] → ⊥
        by true is = cc is
        by false is = cc is

module _ (settings : Settings) (key : List ℕ) where
  abbrev kept : Chunk Row → List Row
  kept g = kept_rows settings (elements g)

  pub whole_chunk : (r : Row) (rows : List Row) → AllByRecursion (λ q. q.key ≡ key) (r ∷ rows) → chunk_by same_key (r ∷ rows) ≡ (r, rows) ∷ []
  whole_chunk r rows keys = one_chunk r rows key (all_weaken (λ q. q.key ≡ key) (λ q. key ≡ q.key) (λ q h. sym h) (r ∷ rows) keys)

  -- If there is only one key, it is the last one, and nothing is given of it.
  pub before_alone : (rows : List Row) → AllByRecursion (λ q. q.key ≡ key) rows → kept_given settings false rows ≡ []
  before_alone [] keys = refl
  before_alone (r ∷ rows) keys = ap (λ (gs : List (Chunk Row)). flat_map kept (front gs)) (whole_chunk r rows keys)

  -- A key with other keys after it is not the last one, so its kept rows are given.
  pub before_on : (xs ys : List Row) → AllByRecursion (λ q. q.key ≡ key) xs → HaveOthers key ys → xs ≢ [] → ys ≢ [] → kept_given settings false (xs ++ ys) ≡ kept_rows settings xs ++ kept_given settings false ys
  before_on [] ys keys others some more = absurd (some refl)
  before_on (x ∷ xs) [] keys others some more = absurd (more refl)
  before_on (x ∷ xs) (y ∷ ys) keys others some more =
      let later : List (Chunk Row) = chunk_by same_key (y ∷ ys) in
      ap (λ (gs : List (Chunk Row)). flat_map kept (front gs)) (chunk_by-append same_key (x ∷ xs) (y ∷ ys) (apart_key key (x ∷ xs) (y ∷ ys) keys others) ∙ ap (λ (gs : List (Chunk Row)). gs ++ later) (whole_chunk x xs keys))
      ∙ ap (flat_map kept) (before_cons (x, xs) later (chunks_some y ys))

-- ---- rows that are not refused become at least one row

module _ (merge : Operator) (rule : GroupRule) where
  -- If there are rows and no fold of them is refused, there are folded rows.
  pub folds_some : (r : Row) (rows : List Row) → (folded_groups merge rule (r ∷ rows)).refusal ≡ None → (folded_groups merge rule (r ∷ rows)).rows ≢ []
  folds_some r rows none = by (opens rule r) none
    where
      first : (answer : Result Row SlateDBError) (others : List (Result Row SlateDBError)) → (up_to_refusal (answer ∷ others)).refusal ≡ None → (up_to_refusal (answer ∷ others)).rows ≢ []
      first (Err e) others none = absurd (cc none)
      first (Ok q) others none = cons_some q (up_to_refusal others).rows

      by : (b : Bool) → (up_to_refusal (if b then merged_group merge (r, joining rule r rows) ∷ folded_after merge rule (length (joining rule r rows)) rows else Ok r ∷ folded_after merge rule 0 rows)).refusal ≡ None
          → (up_to_refusal (if b then merged_group merge (r, joining rule r rows) ∷ folded_after merge rule (length (joining rule r rows)) rows else Ok r ∷ folded_after merge rule 0 rows)).rows ≢ []
      by true none = first (merged_group merge (r, joining rule r rows)) (folded_after merge rule (length (joining rule r rows)) rows) none
      by false none = first (Ok r) (folded_after merge rule 0 rows) none
