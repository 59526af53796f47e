-- The lines by which a coordinator polls, or only commits.
use Rattle.std.specs.Prelude.{ℕ, Bool, true, false, List}
use Rattle.fleet_model.specs.History.{Coordinator}
use Rattle.fleet_model.specs.Work.Parties.{LiveCoordinator, coordinator_with, without_coordinator}
use Rattle.fleet_model.specs.Work.PollStates.{PollState}
use Rattle.step_model.specs.Steps.PollSteps.{PollAsk, poll}
use Rattle.script_model.specs.Replies.{poll_reply, commit_reply}
use Rattle.script_model.specs.LineRuns.{LineCourse, no_such_party, if_some, step_line, line_end}
use Rattle.script_model.specs.States.{Inputs, State}

-- What a coordinator's poll is asked with: its epoch, the fleet's options and scheduler, and the
-- moment.
abbrev pub poll_ask : (inputs : Inputs) (s : State) (c : LiveCoordinator) (commits_only : Bool) → PollAsk
poll_ask inputs s c commits_only = record {
  epoch = c.epoch;
  options = record { timeout = s.options.timeout; concurrent = s.options.concurrent; moves = s.options.moves };
  scheduler = inputs.scheduler;
  moment = s.moment;
  commits_only = commits_only;
}

-- A line by which a coordinator polls. It stays live only if the poll ends with a report. It does
-- not if it is fenced or a fault strikes a call.
abbrev pub polls : (commits_only : Bool) (spell : PollState → List ℕ) (inputs : Inputs) (n : ℕ) (s : State) → LineCourse
polls commits_only spell inputs n s = if_some (coordinator_with n s.parties) (no_such_party s) (λ c.
    let gone = without_coordinator n s.parties in
    step_line (Coordinator n) (poll (poll_ask inputs s c commits_only))
    (line_end spell (λ reached. s.parties) gone) gone)

-- The line of a whole poll.
abbrev pub poll_line : Inputs → ℕ → State → LineCourse
poll_line = polls false poll_reply

-- The line of a poll that only commits.
abbrev pub commit_line : Inputs → ℕ → State → LineCourse
commit_line = polls true commit_reply
