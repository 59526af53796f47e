-- The law on polls: what a poll does that is not refused, be it a line of its own or a step of a settle line.
use Rattle.std.specs.Prelude.{◌≡◌, ℕ, Bool, true, false, List, ◌∷◌, ◌++◌, map, Some}
use Rattle.row_model.specs.Fold.{Operator}
use Rattle.fleet_model.specs.Nodes.{tree_at}
use Rattle.fleet_model.specs.Jobs.{JobSpec}
use Rattle.fleet_model.specs.History.{Party, Coordinator, Join}
use Rattle.fleet_model.specs.Store.{Store}
use Rattle.fleet_model.specs.Work.Parties.{LiveCoordinator, coordinator_with}
use Rattle.fleet_model.specs.Past.Replay.{outputs_in}
use Rattle.fleet_model.specs.Work.PollStates.{PollState}
use Rattle.fleet_model.specs.Work.Polls.{change_of, is_nothing}
use Rattle.commit_laws.specs.After.{trees_after}
use Rattle.coordinator_laws.specs.PollSays.{PollSays}
use Rattle.coordinator_laws.specs.PollReports.{JoinDone}
use Rattle.script_model.specs.Script.{Line, Poll, CommitOnly}
use Rattle.script_model.specs.States.{Inputs, State}
use Rattle.script_model.specs.Replies.{poll_reply, commit_reply}
use Rattle.script_model.specs.Lines.PollLines.{poll_ask}
use Rattle.script_model.specs.Lines.Settles.{is_ok}
use Rattle.line_laws.specs.Undrained.{flushes_in, left_by}
use Rattle.line_laws.specs.Ran.{CourseRan}
use Rattle.line_laws.specs.Lines.PollRuns.{input_at, drawn_at, PollDid, CommitPut, JobsPut}

-- ---- what its commits do to the trees

-- The trees of a poll are those after all its steps, and each committed job was joined over the trees that
-- the joins before it left. The claims are found in the history that the poll's own calls made of the old
-- one. The drains of the poll take the flushes of their sources, and no other flush goes.
pub record CommitsRight (merge : Operator) (line : ℕ) (party : Party) (old : Store) (drawn : List (ℕ × JobSpec))
    (p : PollState) : Type 0 where
  pub put : CommitPut merge line party old drawn p
  pub trees : p.trees ≡ trees_after put.at put.fits.specs p.steps
  pub flushes : (prefix : List ℕ)
      → flushes_in (tree_at prefix p.trees)
      ≡ left_by put.at.store.tables
      (λ id. (put.fits.specs id, outputs_in put.at.store.records id)) prefix p.steps put.at.store.manifest.trees
      (flushes_in (tree_at prefix put.at.store.manifest.trees))
  pub joins : (first : List ℕ) (id : ℕ) (rest : List ℕ) → first ++ id ∷ rest ≡ p.done
      → JoinDone merge put.at (trees_after put.at put.fits.specs (map Join first)) id

-- ---- the line

-- The line by which this coordinator polls, or only commits.
abbrev pub poll_of : Bool → ℕ → Line
poll_of true n = CommitOnly n
poll_of false n = Poll n

-- The reply to a poll that reached this state.
abbrev pub spell_poll : Bool → PollState → List ℕ
spell_poll true p = commit_reply p
spell_poll false p = poll_reply p

-- A live coordinator polled, the reply has the state that it reached, and the store has what it put.
pub record PollRan (inputs : Inputs) (number : ℕ) (commits_only : Bool) (n : ℕ) (old : State) (answer : List ℕ)
    (new : State) : Type 0 where
  pub coordinator : LiveCoordinator
  pub live : coordinator_with n old.parties ≡ Some coordinator
  pub p : PollState
  pub printed : answer ≡ spell_poll commits_only p
  pub did : PollDid number (Coordinator n) (poll_ask inputs old coordinator commits_only) old.store new.store p
  pub says : PollSays commits_only (input_at (poll_ask inputs old coordinator commits_only) old.store)
      (drawn_at (poll_ask inputs old coordinator commits_only) old.store) p
  pub jobs : is_nothing (change_of p) ≡ false → JobsPut old.store p
  pub right : CommitsRight inputs.merge number (Coordinator n) old.store
      (drawn_at (poll_ask inputs old coordinator commits_only) old.store) p

-- Each course of a poll that is not refused does so.
abbrev pub PollsCommit : Type 0
PollsCommit = (inputs : Inputs) (old new : State) (commits_only : Bool) (n : ℕ) (answer : List ℕ)
    (ran : CourseRan inputs old (poll_of commits_only n) answer new)
    → is_ok answer ≡ true → PollRan inputs ran.number commits_only n old answer new
