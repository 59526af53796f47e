-- How the sweep of a line runs over the store of a fleet, and what the line replies to its end.
use Rattle.std.specs.Prelude.{◌≡◌, ℕ, List, [], ◌∷◌, codes, Option, Some, None, Result}
use Rattle.row_model.specs.Fold.{Operator}
use Rattle.step_model.specs.Courses.CourseRuns.{End, Gives, MeetsFault, LacksMemory}
use Rattle.step_model.specs.Courses.Ran.{Ran}
use Rattle.step_model.specs.LawfulRecords.{OfSome}
use Rattle.step_model.specs.Steps.SweepSteps.{sweep}
use Rattle.script_model.specs.Lines.Sweeps.{by_number}
use Rattle.script_model.specs.Replies.{reply, tables_text}
use Rattle.fleet_rows.specs.declared.errors.SlateDBError.{SlateDBError}
use Rattle.fleet_history.specs.declared.party.Party.TheVariants as party
use Rattle.fleet_store.specs.Memory.{StoreParts}
use Rattle.fleet_store.specs.Under.{caller_of}
use Rattle.fleet_sweep.specs.Sweeps.{sweep_end}
use Rattle.fleet_lines.specs.Steps.{at_line}

-- The sweeper swept in this line and kept these pins, and nobody else called the store. The result tells how it ended.
pub record Swept (pins : List ℕ) (merge : Operator) (number : ℕ) (old new : StoreParts)
    (result : Result (List ℕ) SlateDBError) : Type 0 where
  pub ran : OfSome
      (Ran (caller_of merge (at_line number party.Sweeper old)) (sweep pins) old.world new.world old.waits new.waits)
      (sweep_end result)

-- The reply of a line whose sweep ended so. A sweep that runs out of memory has none.
abbrev pub swept_reply : End (List ℕ) → Option (List ℕ)
swept_reply (Gives tables) = Some (reply (codes "ok" ∷ tables_text (by_number tables) ∷ []))
swept_reply MeetsFault = Some (reply (codes "storefault" ∷ []))
swept_reply LacksMemory = None

-- The line whose sweep has this result replies so.
pub record SweepSays (result : Result (List ℕ) SlateDBError) (answer : List ℕ) : Type 0 where
  pub says : OfSome (λ end. swept_reply end ≡ Some answer) (sweep_end result)
