-- The line that flushes rows into a tree, or is refused.
use Rattle.std.specs.Prelude.{ℕ, ℤ, List}
use Rattle.row_model.specs.Rows.{Row}
use Rattle.fleet_model.specs.History.{Writer}
use Rattle.step_model.specs.Entries.{last_name}
use Rattle.step_model.specs.Steps.FlushSteps.{flush}
use Rattle.script_model.specs.Replies.{ok}
use Rattle.script_model.specs.LineRuns.{LineCourse, step_line, line_end}
use Rattle.script_model.specs.States.{State}

-- The writer flushes the rows under this name. No party changes.
abbrev pub flush_line : (name : ℕ) (segment : List ℕ) (floor : ℕ) (tick : ℤ) (rows : List Row) (s : State) → LineCourse
flush_line name segment floor tick rows s =
    step_line Writer
    (flush s.moment s.options.retention (last_name s.store.history)
    (record { name = name; segment = segment; floor = floor; tick = tick; rows = rows }))
    (line_end (λ done. ok) (λ done. s.parties) s.parties) s.parties
