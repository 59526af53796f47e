-- The worked run.
use Rattle.std.proofs.Common.{refl, ℕ, List, [], ◌∷◌, arith}
use Rattle.std.specs.Prelude.{codes, map}
use Rattle.std.specs.Fmt.{digits}
use Rattle.hex.specs.Hex.{encode_with}
use Rattle.row_model.specs.Append.{append}
use Rattle.row_model.specs.Written.Plan.{planned_ranges}
use Rattle.row_laws.proofs.Lawful.{append_is_lawful}
use Rattle.fleet_model.specs.Work.Polls.{committed_poll}
use Rattle.step_model.specs.Steps.PollSteps.{start, poll}
use Rattle.step_model.specs.Steps.ClaimSteps.{claim}
use Rattle.step_model.specs.Steps.BeatSteps.{heartbeat, release_all}
use Rattle.step_model.specs.Steps.OutputSteps.{output}
use Rattle.step_model.specs.Steps.FinishSteps.{end_job, finish}
use Rattle.step_model.specs.Steps.SubmitSteps.{submit, submit_request}
use Rattle.step_model.specs.Steps.FlushSteps.{flush}
use Rattle.step_model.specs.Steps.SweepSteps.{sweep}
use Rattle.script_model.specs.Examples.Worked.{newline}
use Rattle.script_model.specs.States.{fresh_state}
use Rattle.script_model.specs.Defaults.{default_options, with_quiet_scheduler}
use Rattle.script_model.specs.LineCourses.{course_of}
use Rattle.script_model.proofs.InBounds.{lines_fit}
use Rattle.script_model.proofs.Evaluation.{last_state, run_so}
use Rattle.line_laws.specs.WorkedRun.{worked_lines, WorkedRuns}
use Rattle.line_laws.proofs.Texts.{all_in_bounds}
use Rattle.script_model.specs.Grammars.{full_grammar}

-- The replies to the lines of the worked run.
worked_replies : List (List ℕ)
worked_replies =
    map newline
    (codes "ok"
    ∷ codes "ok"
    ∷ codes "ok"
    ∷ codes "ok epoch 1"
    ∷ codes "ok"
    ∷ codes "ok job 1"
    ∷ codes "ok freed - done - lost - added - dropped - open 1 moved - drained - bad -"
    ∷ codes "ok claimed 1.1:- stopped -"
    ∷ codes "ok t1 1"
    ∷ codes "ok beat 1 notowner -"
    ∷ codes "ok"
    ∷ codes "ok"
    ∷ codes "ok freed 1 done - lost - added - dropped - open - moved - drained - bad -"
    ∷ codes "ok"
    ∷ codes "ok claimed 1.2:t1 stopped -"
    ∷ codes "ok t1,t2"
    ∷ codes "ok"
    ∷ codes "storefault"
    ∷ codes "ok epoch 2"
    ∷ codes "ok settled 1"
    ∷ codes "ok"
    ∷ codes "ok job 2"
    ∷ codes "ok freed - done - lost - added - dropped - open - moved 2 drained - bad -"
    ∷ codes "ok"
    ∷ codes "ok job 3"
    ∷ codes "ok freed - done - lost - added - dropped - open - moved - drained 3 bad -"
    ∷ codes "ok l1,l2,l4"
    ∷ codes "value 76"
    ∷ [])

-- The worked run takes its job over and commits it, moves a flush, drains another one and deletes three tables.
pub worked_runs : WorkedRuns
unfolding digits encode_with planned_ranges committed_poll start poll claim heartbeat release_all output end_job finish submit submit_request flush sweep course_of worked_replies
worked_runs = record {
  last = last_state (with_quiet_scheduler append) 1 (fresh_state default_options) worked_lines;
  run = record {
    lawful = append_is_lawful;
    in_bounds = all_in_bounds full_grammar (λ before line is. is.0) [] worked_lines (lines_fit worked_lines refl);
    options = default_options;
    answers = worked_replies;
    run = (run_so (with_quiet_scheduler append) 1 (fresh_state default_options) worked_lines worked_replies refl refl).run;
    had_room = omega arith;
  };
  taken_over = refl;
  committed = refl;
  moved = refl;
  has_tables = refl;
  drained = refl;
  swept = refl;
  coordinators = refl;
  workers = refl;
}
