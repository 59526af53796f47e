-- A job folds rows, and then keeps some rows of each key.
use Rattle.std.specs.Prelude.{◌≡◌, ◌⊎◌, ℕ, ◌≤◌, ℤ, int_le, ◌++◌, true, false, if◌then◌else◌, List, [], filter, length, map, reverse, Contains, Option, Some, None}
use Rattle.std.specs.List.{AllByRecursion}
use Rattle.std.specs.Option.{is_none}
use Rattle.std.specs.Ordering.{is_gt}
use Rattle.row_model.specs.Fold.{Operator, Outcome, Merged, Refused, fold_bytes}
use Rattle.row_model.specs.FoldedRows.{group_operands, group_base, base_bytes, folded_rows}
use Rattle.row_model.specs.JobRows.{job_rows}
use Rattle.row_model.specs.KeptRows.{kept_of_keys}
use Rattle.row_model.specs.Lists.{IsPrefixOf}
use Rattle.row_model.specs.Rows.{Row, key_cmp, is_operand, rows_of_key, IsStrictlyOrdered}
use Rattle.row_model.specs.Read.{read}
use Rattle.row_model.specs.Settings.{Settings}
use Rattle.fleet_iter.specs.Iteration.{IteratorState, AreRising}
use Rattle.row_laws.specs.Batches.{batches}
use Rattle.row_laws.specs.KeptReads.{AreOfKey}
use Rattle.row_laws.specs.Keys.{is_below}
use Rattle.row_laws.specs.Refusals.{RefusesIn}
use Rattle.fleet_rows.specs.declared.errors.MergeOperatorError.TheVariants.{Callback}
use Rattle.fleet_rows.specs.declared.errors.SlateDBError.{SlateDBError}
use Rattle.fleet_rows.specs.declared.errors.SlateDBError.TheVariants.{MergeOperator}
use Rattle.fleet_fold.specs.Folded.{batch_len, Folded, folded_groups}
use Rattle.fleet_fold.specs.Retention.{kept_given}
use Rattle.fleet_fold.specs.declared.group.GroupRule.{GroupRule}

-- A job merges operands that are at or below its cut and have the same expiry.
abbrev pub job_rule : ℕ → GroupRule
job_rule cut = record { merge_different_expire_ts = false; snapshot_barrier_seq = Some cut }

-- All folded rows, or None if there is an error.
abbrev pub rows_if_whole : Folded → Option (List Row)
rows_if_whole f = if is_none f.refusal then Some f.rows else None

-- Of rows of one key, folding in batches gives the model's folded rows. It is refused exactly if the model's
-- fold is.
abbrev pub FoldsOneKey : Operator → Type 0
FoldsOneKey merge = (cut : ℕ) (key : List ℕ) (rows : List Row) → AreOfKey key rows
    → rows_if_whole (folded_groups merge (job_rule cut) rows) ≡ folded_rows merge cut rows

-- Folding is refused exactly if the job is not whole. If the job is whole, what retention keeps of the folded
-- rows is the job's rows.
pub record MakesJob (merge : Operator) (settings : Settings) (rows : List Row) : Type 0 where
  pub whole : is_none (folded_groups merge (job_rule settings.cut) rows).refusal ≡ (job_rows merge settings rows).whole
  pub kept : (job_rows merge settings rows).whole ≡ true
      → kept_of_keys settings (folded_groups merge (job_rule settings.cut) rows).rows
      ≡ (job_rows merge settings rows).rows

-- Of strictly ordered rows, folding and then retention make the job's rows.
abbrev pub FoldsMakeJobs : Operator → Type 0
FoldsMakeJobs merge = (settings : Settings) (rows : List Row) → IsStrictlyOrdered rows → MakesJob merge settings rows

-- ---- a job in which a fold refuses

-- What holds of folded rows and the job's rows, whether or not a fold is refused.
pub record BeginsJob (merge : Operator) (settings : Settings) (rows : List Row) : Type 0 where
  -- The last key of the folded rows may lack rows. What is kept of the keys before it begins the job's rows.
  pub begins : IsPrefixOf (kept_given settings false (folded_groups merge (job_rule settings.cut) rows).rows)
      (job_rows merge settings rows).rows
  -- No folded row is above a key in which a fold refuses.
  pub up_to : (key : List ℕ) → RefusesIn merge settings key rows
      → AllByRecursion (λ r. is_gt (key_cmp r.key key) ≡ false)
      (folded_groups merge (job_rule settings.cut) rows).rows
  -- Take a key below which no fold refuses, and a row below that key. The kept rows begin with all that the
  -- job makes of the keys before that row's key.
  pub reaches : (key : List ℕ) → (job_rows merge settings (filter (is_below key) rows)).whole ≡ true
      → AllByRecursion (λ r. is_below key r ≡ true
      → IsPrefixOf (job_rows merge settings (filter (is_below r.key) rows)).rows
      (kept_given settings false (folded_groups merge (job_rule settings.cut) rows).rows)) rows

-- Of strictly ordered rows, folding and then retention begin the job's rows, even if a fold refuses.
abbrev pub FoldsBeginJobs : Operator → Type 0
FoldsBeginJobs merge = (settings : Settings) (rows : List Row) → IsStrictlyOrdered rows → BeginsJob merge settings rows

-- ---- what refuses a job

-- Some of a key's rows form a group: operands next to one another, and directly after them their base, one
-- row that is no operand. There may be no base.
pub record IsGroup (rows operands base : List Row) : Type 0 where
  pub newer : List Row
  pub older : List Row
  pub run : rows ≡ newer ++ (operands ++ (base ++ older))
  pub merged : AllByRecursion (λ r. is_operand r ≡ true) operands
  pub other : AllByRecursion (λ r. is_operand r ≡ false) base
  pub one : length base ≤ 1

-- What the operator answers for each batch of operands, folded without an existing value.
abbrev pub batch_outcomes : Operator → List ℕ → List Row → List (Option Outcome)
batch_outcomes merge key operands =
    map (λ batch. fold_bytes merge key None (group_operands batch)) (batches batch_len operands)

-- Each batch has a result, and the operator refuses to fold these results with this message. It folds them
-- over the base's value or, if there is none, without an existing value.
pub record RefusesResults (merge : Operator) (key message : List ℕ) (operands base : List Row) : Type 0 where
  pub results : List (List ℕ)
  pub merged : batch_outcomes merge key operands ≡ map (λ bytes. Some (Merged bytes)) results
  pub refused : fold_bytes merge key (base_bytes (group_base base)) (reverse results) ≡ Some (Refused message)

-- The error has the message with which the operator refused a fold over operands of one key. It refused one
-- of their batches, or the batches' results.
pub record IsOfOperator (merge : Operator) (rows : List Row) (e : SlateDBError) : Type 0 where
  pub message : List ℕ
  pub same : e ≡ MergeOperator (Callback message)
  pub key : List ℕ
  pub operands : List Row
  pub base : List Row
  pub group : IsGroup (rows_of_key key rows) operands base
  pub refused : Contains (batch_outcomes merge key operands) (Some (Refused message))
      ⊎ RefusesResults merge key message operands base

-- Of strictly ordered rows, every error of folding is the operator's.
abbrev pub RefusesByOperator : Operator → Type 0
RefusesByOperator merge = (cut : ℕ) (rows : List Row) (e : SlateDBError) → IsStrictlyOrdered rows
    → (folded_groups merge (job_rule cut) rows).refusal ≡ Some e → IsOfOperator merge rows e

-- ---- an iterator over a job's rows

-- The iterator gives the job's rows. If a fold refuses, it gives only first rows of the job, and then the
-- operator's error. It gives at least what the job makes of all keys before the last key below the refusing
-- one.
pub record GivesJob (merge : Operator) (settings : Settings) (rows : List Row) (s : IteratorState) : Type 0 where
  pub whole : s.whole ≡ (job_rows merge settings rows).whole
  pub all : s.whole ≡ true → s.rows ≡ (job_rows merge settings rows).rows
  pub begins : IsPrefixOf s.rows (job_rows merge settings rows).rows
  pub reaches : s.whole ≡ false → (key : List ℕ) → (job_rows merge settings (filter (is_below key) rows)).whole ≡ true
      → AllByRecursion (λ r. is_below key r ≡ true
      → IsPrefixOf (job_rows merge settings (filter (is_below r.key) rows)).rows s.rows) rows
  pub refusal : s.whole ≡ false → (e : SlateDBError) × ((s.refusal ≡ Some e) × IsOfOperator merge rows e)

-- If no fold refuses, the rows given read as the source rows do: each key, at each sequence from the cut on,
-- and at each moment from the tick on. Any rows may come before them. Any rows may come after them, unless
-- the last run is made.
abbrev pub KeepsReads : (merge : Operator) (settings : Settings) (rows : List Row) (s : IteratorState) → Type 0
KeepsReads merge settings rows s = s.whole ≡ true → (key : List ℕ) (seq : ℕ) (now : ℤ) (above below : List Row)
    → settings.cut ≤ seq → int_le settings.tick now ≡ true → (settings.last_run ≡ true → below ≡ [])
    → read merge key seq now (above ++ (rows_of_key key rows ++ below))
    ≡ read merge key seq now (above ++ (rows_of_key key s.rows ++ below))

-- The iterator was not used yet: it has not failed, and it is initialised exactly if the inner one is. Its
-- rows rise.
pub record IsReady (inner s : IteratorState) : Type 0 where
  pub initialised : s.initialised ≡ inner.initialised
  pub alive : s.failure ≡ None
  pub rising : AreRising s.rows

-- Of strictly ordered rows, an iterator that gives the job's rows keeps reads.
abbrev pub JobsKeepReads : Operator → Type 0
JobsKeepReads merge = (settings : Settings) (rows : List Row) (s : IteratorState) → IsStrictlyOrdered rows
    → GivesJob merge settings rows s → KeepsReads merge settings rows s
