-- The line that deletes the tables that nothing can need.
use Rattle.std.specs.Prelude.{ℕ, nat_lt, List, [], ◌∷◌, codes}
use Rattle.row_model.specs.Lists.{insert_before}
use Rattle.fleet_model.specs.Jobs.{number_of}
use Rattle.fleet_model.specs.History.{Sweeper}
use Rattle.fleet_model.specs.Sweeps.{pinned_tables}
use Rattle.step_model.specs.Courses.Course.{Ends, then_course}
use Rattle.step_model.specs.Steps.SweepSteps.{sweep}
use Rattle.script_model.specs.Replies.{reply, tables_text}
use Rattle.script_model.specs.LineRuns.{LineCourse}
use Rattle.script_model.specs.States.{State}

-- The tables with one more, put in by its number.
abbrev pub put_by_number : ℕ → List ℕ → List ℕ
put_by_number table tables = insert_before (λ a b. nat_lt (number_of a) (number_of b)) table tables

-- The tables by rising number: the flushes' by name, and then those that were drawn.
abbrev pub by_number : List ℕ → List ℕ
by_number [] = []
by_number (table ∷ tables) = put_by_number table (by_number tables)

-- A sweep keeps the tables that live workers hold. All parties stay live, also if a fault strikes
-- one of its calls.
abbrev pub sweep_line : State → LineCourse
sweep_line s = record {
  party = Sweeper;
  course =
      then_course (sweep (pinned_tables s.parties))
      (λ tables. Ends
      (record { reply = reply (codes "ok" ∷ tables_text (by_number tables) ∷ []); parties = s.parties }));
  struck = s.parties;
}
