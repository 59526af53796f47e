-- The law on reads: what a line that reads a key replies.
use Rattle.std.specs.Prelude.{◌≡◌, ℕ, ℤ, true, false, List, flat_map, Option}
use Rattle.row_model.specs.Rows.{rows_of_key, sorted_rows}
use Rattle.row_model.specs.Fold.{Operator, Outcome}
use Rattle.row_model.specs.Read.{read}
use Rattle.fleet_model.specs.Nodes.{Tables, table_rows}
use Rattle.fleet_model.specs.Jobs.{JobSpec}
use Rattle.fleet_model.specs.Store.{Manifest}
use Rattle.fleet_model.specs.Reads.{flushed_read, stored_read}
use Rattle.step_model.specs.Kept.Faithful.{Faithful}
use Rattle.script_model.specs.Script.{ReadKey}
use Rattle.script_model.specs.States.{Inputs, State}
use Rattle.script_model.specs.Replies.{read_reply, not_retained}
use Rattle.script_model.specs.Lines.Looks.{is_not_retained}
use Rattle.line_laws.specs.Undrained.{undrained_flushes}
use Rattle.line_laws.specs.Ran.{CourseRan}

-- The answer of a read over the rows of these flushes.
abbrev pub read_of : (merge : Operator) (tables : Tables) (flushes key : List ℕ) (seq : ℕ) (now : ℤ) → Option Outcome
read_of merge tables flushes key seq now =
    read merge key seq now (sorted_rows (rows_of_key key (flat_map (table_rows tables) flushes)))

-- The flushes of the segment that the history counts. The history of a store with its past gives them by
-- specs that are faithful.
pub record Counted (s : State) (segment : List ℕ) : Type 0 where
  pub past : List Manifest
  pub specs : ℕ → JobSpec
  pub faithful : Faithful (record { store = s.store; past = past }) specs
  pub flushes : List ℕ
  pub are : flushes ≡ undrained_flushes s.store.tables specs segment s.store.history

-- A read below the horizon or before the tick is refused. Each other read prints the fold over the rows of
-- all flushes of its segment whose puts stood and that no drain took, and the tables that are stored read
-- alike. A read changes nothing.
pub record ReadAnswers (merge : Operator) (old : State) (segment key : List ℕ) (seq : ℕ) (now : ℤ) (answer : List ℕ)
    (new : State) : Type 0 where
  pub refused : is_not_retained old.store.manifest seq now ≡ true
      → answer ≡ not_retained old.store.manifest.horizon old.store.manifest.tick
  pub counted : Counted old segment
  pub flushed : flushed_read merge old.store segment key seq now
      ≡ read_of merge old.store.tables counted.flushes key seq now
  pub printed : is_not_retained old.store.manifest seq now ≡ false
      → answer ≡ read_reply (flushed_read merge old.store segment key seq now)
  pub stored : is_not_retained old.store.manifest seq now ≡ false
      → stored_read merge old.store segment key seq now ≡ flushed_read merge old.store segment key seq now
  pub same : new ≡ old

-- Each course of a line that reads a key answers so.
abbrev pub ReadsAnswer : Type 0
ReadsAnswer = (inputs : Inputs) (old new : State) (segment key : List ℕ) (seq : ℕ) (now : ℤ) (answer : List ℕ)
    → CourseRan inputs old (ReadKey segment key seq now) answer new
    → ReadAnswers inputs.merge old segment key seq now answer new
