-- The folded rows of one key's rows are the model's folded rows.
use Rattle.std.proofs.Common.{◌≡◌, ◌∙◌, sym, refl, ap, ℕ, zero, suc, ◌≤◌, List, [], ◌∷◌, map, length, ◌&&◌, Bool, true, false, ℤ, Option, Some, None, Ok, Err, arith}
use Rattle.std.specs.Prelude.{bytes_eq, Result, if◌then◌else◌}
use Rattle.std.specs.List.{AllByRecursion}
use Rattle.std.specs.Option.{is_none}
use Rattle.std.specs.Result.{result_ok}
use Rattle.std.proofs.lemmas.Slice.Eq.{bytes_eq-Decides}
use Rattle.row_model.specs.Fold.{Operator, IsLawful}
use Rattle.row_model.specs.FoldedRows.{opens_group, same_stamp, operand_groups, group_row, folded_chunk, cons_both, all_or_none}
use Rattle.row_model.specs.Rows.{Row, is_operand}
use Rattle.row_laws.specs.KeptReads.{IsFalling}
use Rattle.row_laws.specs.Walks.{taken_rows, left_after_group}
use Rattle.row_laws.proofs.Elements.{all_weaken}
use Rattle.row_laws.proofs.GroupReads.{and_left}
use Rattle.row_laws.proofs.Walks.{groups_are_walked}
use Rattle.fleet_rows.specs.declared.errors.SlateDBError.{SlateDBError}
use Rattle.fleet_fold.specs.Folded.{Folded, joining, merged_group, folded_after, up_to_refusal}
use Rattle.fleet_fold.specs.Jobs.{job_rule, rows_if_whole, FoldsOneKey}
use Rattle.fleet_fold.proofs.JobsGroups.{merged_is_row}

-- ---- the rows that join a group, of rows of one key

module _ (cut : ℕ) where
  joining_taken : (r : Row) (rows : List Row) → AllByRecursion (λ q. q.key ≡ r.key) rows → joining (job_rule cut) r rows ≡ taken_rows r.expires rows
  joining_taken r [] keys = refl
  joining_taken r (q ∷ rows) keys =
      ap (λ (others : List Row). if bytes_eq r.key q.key && same_stamp r.expires q.expires then q ∷ (if is_operand q then others else []) else []) (joining_taken r rows keys.1)
      ∙ ap (λ (b : Bool). if b && same_stamp r.expires q.expires then q ∷ (if is_operand q then taken_rows r.expires rows else []) else []) ((bytes_eq-Decides r.key q.key).1 (sym keys.0))

  after_left : (merge : Operator) (stamp : Option ℤ) (rows : List Row) → folded_after merge (job_rule cut) (length (taken_rows stamp rows)) rows ≡ folded_after merge (job_rule cut) 0 (left_after_group stamp rows)
  after_left merge stamp [] = refl
  after_left merge stamp (q ∷ rows) = by (same_stamp stamp q.expires) (is_operand q) (after_left merge stamp rows)
    where
      by : (same operand : Bool) → folded_after merge (job_rule cut) (length (taken_rows stamp rows)) rows ≡ folded_after merge (job_rule cut) 0 (left_after_group stamp rows)
          → folded_after merge (job_rule cut) (length (if same then q ∷ (if operand then taken_rows stamp rows else []) else [])) (q ∷ rows)
          ≡ folded_after merge (job_rule cut) 0 (if same then (if operand then left_after_group stamp rows else rows) else q ∷ rows)
      by true true rest = rest
      by true false rest = refl
      by false operand rest = refl

left_shorter : (stamp : Option ℤ) (rows : List Row) → length (left_after_group stamp rows) ≤ length rows
left_shorter stamp [] = omega arith
left_shorter stamp (q ∷ rows) = by (same_stamp stamp q.expires) (is_operand q) (left_shorter stamp rows)
  where
    by : (same operand : Bool) → length (left_after_group stamp rows) ≤ length rows → length (if same then (if operand then left_after_group stamp rows else rows) else q ∷ rows) ≤ length (q ∷ rows)
    by true true rest = omega arith
    by true false rest = omega arith
    by false operand rest = omega arith

-- The rows left after a group are the end of the rows.
module _ (stamp : Option ℤ) where
  left_all : (P : Row → Type 0) (rows : List Row) → AllByRecursion P rows → AllByRecursion P (left_after_group stamp rows)
  left_all P [] all = tt
  left_all P (q ∷ rows) all = by (same_stamp stamp q.expires) (is_operand q) (left_all P rows all.1)
    where
      by : (same operand : Bool) → AllByRecursion P (left_after_group stamp rows) → AllByRecursion P (if same then (if operand then left_after_group stamp rows else rows) else q ∷ rows)
      by true true rest = rest
      by true false rest = all.1
      by false operand rest = all

  left_falls : (rows : List Row) → IsFalling rows → IsFalling (left_after_group stamp rows)
  left_falls [] falling = tt
  left_falls (q ∷ rows) falling = by (same_stamp stamp q.expires) (is_operand q) (left_falls rows falling.1)
    where
      by : (same operand : Bool) → IsFalling (left_after_group stamp rows) → IsFalling (if same then (if operand then left_after_group stamp rows else rows) else q ∷ rows)
      by true true rest = rest
      by true false rest = falling.1
      by false operand rest = falling

-- ---- group after group

module _ (merge : Operator) (lawful : IsLawful merge) (cut : ℕ) where
  abbrev answers : List Row → List (Result Row SlateDBError)
  answers rows = folded_after merge (job_rule cut) 0 rows

  abbrev IsFolded : List Row → Type 0
  IsFolded rows = map result_ok (answers rows) ≡ map (folded_chunk merge cut) (operand_groups cut rows)

  -- If a row opens a group and the rows after the group fold as in the model, the row and all rows after
  -- it do.
  first_opens : (r : Row) (rows : List Row) → opens_group cut r ≡ true → IsFalling (r ∷ rows) → AllByRecursion (λ q. q.key ≡ r.key) rows → IsFolded (left_after_group r.expires rows) → IsFolded (r ∷ rows)
  first_opens r rows opened falling keys rest =
      let rule = job_rule cut in
      let stamp = r.expires in
      let others = left_after_group stamp rows in
      ap (λ (b : Bool). map result_ok (if b then merged_group merge (r, joining rule r rows) ∷ folded_after merge rule (length (joining rule r rows)) rows else Ok r ∷ answers rows)) opened
      ∙ (ap (λ (xs : List Row). map result_ok (merged_group merge (r, xs) ∷ folded_after merge rule (length xs) rows)) (joining_taken cut r rows keys)
      ∙ (ap (λ (later : List (Result Row SlateDBError)). map result_ok (merged_group merge (r, taken_rows stamp rows) ∷ later)) (after_left cut merge stamp rows)
      ∙ (ap (λ (o : Option Row). o ∷ map result_ok (answers others)) (merged_is_row merge lawful r rows (and_left (is_operand r) _ opened) falling.0)
      ∙ (ap (λ (later : List (Option Row)). group_row merge (r, taken_rows stamp rows) ∷ later) rest
      ∙ (ap (λ (b : Bool). (if b then group_row merge (r, taken_rows stamp rows) else Some r) ∷ map (folded_chunk merge cut) (operand_groups cut others)) (sym opened)
      ∙ sym (ap (map (folded_chunk merge cut)) (groups_are_walked cut r rows falling
      ∙ ap (λ (b : Bool). if b then (r, taken_rows stamp rows) ∷ operand_groups cut others else (r, []) ∷ operand_groups cut rows) opened)))))))

  first_passes : (r : Row) (rows : List Row) → opens_group cut r ≡ false → IsFalling (r ∷ rows) → IsFolded rows → IsFolded (r ∷ rows)
  first_passes r rows closed falling rest =
      let rule = job_rule cut in
      let stamp = r.expires in
      let others = left_after_group stamp rows in
      ap (λ (b : Bool). map result_ok (if b then merged_group merge (r, joining rule r rows) ∷ folded_after merge rule (length (joining rule r rows)) rows else Ok r ∷ answers rows)) closed
      ∙ (ap (λ (later : List (Option Row)). Some r ∷ later) rest
      ∙ (ap (λ (b : Bool). (if b then group_row merge (r, []) else Some r) ∷ map (folded_chunk merge cut) (operand_groups cut rows)) (sym closed)
      ∙ sym (ap (map (folded_chunk merge cut)) (groups_are_walked cut r rows falling
      ∙ ap (λ (b : Bool). if b then (r, taken_rows stamp rows) ∷ operand_groups cut others else (r, []) ∷ operand_groups cut rows) closed))))

  -- Rows of one key with falling sequences fold as in the model.
  of_key : (fuel : ℕ) (key : List ℕ) (rows : List Row) → length rows ≤ fuel → IsFalling rows → AllByRecursion (λ r. r.key ≡ key) rows → IsFolded rows
  of_key fuel key [] short falling keys = refl
  of_key zero key (r ∷ rows) short falling keys = absurd (omega arith)
  of_key (suc fuel) key (r ∷ rows) short falling keys =
      let shorter = left_shorter r.expires rows in
      by (opens_group cut r) refl
      (of_key fuel key (left_after_group r.expires rows) (omega arith) (left_falls r.expires rows falling.1) (left_all r.expires (λ q. q.key ≡ key) rows keys.1))
      (of_key fuel key rows (omega arith) falling.1 keys.1)
    where
      by : (b : Bool) → opens_group cut r ≡ b → IsFolded (left_after_group r.expires rows) → IsFolded rows → IsFolded (r ∷ rows)
      by true opened after rest = first_opens r rows opened falling (all_weaken (λ q. q.key ≡ key) (λ q. q.key ≡ r.key) (λ q h. h ∙ sym keys.0) rows keys.1) after
      by false closed after rest = first_passes r rows closed falling rest

-- ---- the rows up to a refusal, where there is none

whole_first : (r : Row) (f : Folded) → rows_if_whole (record { rows = r ∷ f.rows; refusal = f.refusal }) ≡ cons_both (Some r) (rows_if_whole f)
whole_first r f = by f.rows f.refusal
  where
    by : (rows : List Row) (refusal : Option SlateDBError) → (if is_none refusal then Some (r ∷ rows) else None) ≡ cons_both (Some r) (if is_none refusal then Some rows else None)
    by rows None = refl
    by rows (Some e) = refl

whole_ok : (answers : List (Result Row SlateDBError)) → rows_if_whole (up_to_refusal answers) ≡ all_or_none (map result_ok answers)
whole_ok [] = refl
whole_ok (Err e ∷ others) = refl
whole_ok (Ok r ∷ others) = whole_first r (up_to_refusal others) ∙ ap (cons_both (Some r)) (whole_ok others)

pub folds_one_key : (merge : Operator) → IsLawful merge → FoldsOneKey merge
folds_one_key merge lawful cut key rows of =
    whole_ok (folded_after merge (job_rule cut) 0 rows) ∙ ap all_or_none (of_key merge lawful cut (length rows) key rows (omega arith) of.falling of.keys)
