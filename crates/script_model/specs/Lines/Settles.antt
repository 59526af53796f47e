-- A settle line runs a fleet until nothing is left to do. It goes in rounds of a poll, a claim and
-- finishes. Each of these steps does what a line of its own would do.
use Rattle.std.specs.Prelude.{◌≡◌, ℕ, zero, suc, ◌+◌, Bool, true, false, ◌&&◌, nat_eq, List, [], ◌∷◌, map, Option, Some, is_some, codes, decimal}
use Rattle.std.specs.List.{list_any, starts_with}
use Rattle.fleet_model.specs.Jobs.{number_of, is_active}
use Rattle.fleet_model.specs.History.{Coordinator, Event, PutRecords, Polled}
use Rattle.fleet_model.specs.Work.Gates.{is_nonempty}
use Rattle.fleet_model.specs.Store.{stored_jobs}
use Rattle.fleet_model.specs.Work.Parties.{coordinator_with, worker_with, attempt_jobs}
use Rattle.step_model.specs.Entries.{last_event}
use Rattle.script_model.specs.Script.{Line, Poll, ClaimJobs, FinishJob}
use Rattle.script_model.specs.Replies.{reply}
use Rattle.script_model.specs.States.{Inputs, State}
use Rattle.script_model.specs.LineRuns.{if_some}
use Rattle.script_model.specs.LineSteps.{OneCourse}

-- The reply begins with ok, so it is not a refusal.
abbrev pub is_ok : List ℕ → Bool
is_ok answer = starts_with nat_eq answer (codes "ok")

-- The coordinator and the worker of these numbers are both live.
abbrev pub are_live : (coordinator worker : ℕ) (s : State) → Bool
are_live coordinator worker s =
    is_some (coordinator_with coordinator s.parties) && is_some (worker_with worker s.parties)

-- Some stored job is active.
abbrev pub has_active : State → Bool
has_active s = list_any is_active (stored_jobs s.store)

-- The event is a put of the records by a poll that added at least one job.
abbrev pub is_adding : Option Event → Bool
is_adding (Some (PutRecords (Polled change))) = is_nonempty change.added
is_adding _ = false

-- The coordinator's last call put the records and added a job. If its last poll led to this state,
-- that poll added a job.
abbrev pub has_added : ℕ → State → Bool
has_added coordinator s = is_adding (last_event (Coordinator coordinator) s.store.history)

-- The numbers of the jobs that the worker runs, in the order of their ids. There are none if no
-- worker has this number.
abbrev pub jobs_run : ℕ → State → List ℕ
jobs_run worker s = if_some (worker_with worker s.parties) [] (λ w. map number_of (attempt_jobs w.attempts))

-- The reply of a settle line that settled in this round.
abbrev pub settled_reply : ℕ → List ℕ
settled_reply round = reply (codes "ok" ∷ codes "settled" ∷ decimal round ∷ [])

-- The reply of a settle line that took all its rounds without settling.
abbrev pub all_taken : ℕ → List ℕ
all_taken rounds = reply (codes "ok" ∷ codes "rounds" ∷ decimal rounds ∷ [])

-- ---- what comes next

-- Where a settle line is, with the rounds that may still follow and those that were begun.
pub data Place : Type 0 where
  BeforePoll : (left begun : ℕ) → Place
  HasPolled : (left begun : ℕ) → Place
  HasClaimed : (left begun : ℕ) → Place
  ToFinish : (jobs : List ℕ) → (left begun : ℕ) → Place

-- What a settle line does next: a step that brings it to a place, or its own reply.
pub data Turn : Type 0 where
  Takes : (line : Line) → (to : Place) → Turn
  Answers : (answer : List ℕ) → Turn

-- A round begins with a poll of the coordinator. If no more rounds may follow, the reply says how many
-- were begun.
abbrev pub next_round : (coordinator left begun : ℕ) → Turn
next_round coordinator zero begun = Answers (all_taken begun)
next_round coordinator (suc left) begun = Takes (Poll coordinator) (HasPolled left (begun + 1))

-- What follows the poll of a round. If a stored job is active, the worker claims jobs. If none is
-- active but the poll added a job, the next round follows. Otherwise the line has settled.
abbrev pub next_claim : (active added : Bool) → (coordinator worker left begun : ℕ) → Turn
next_claim true added coordinator worker left begun = Takes (ClaimJobs worker) (HasClaimed left begun)
next_claim false true coordinator worker left begun = next_round coordinator left begun
next_claim false false coordinator worker left begun = Answers (settled_reply begun)

-- The worker finishes the first of these jobs. If there is none, the next round follows.
abbrev pub next_finish : (coordinator worker : ℕ) → (jobs : List ℕ) → (left begun : ℕ) → Turn
next_finish coordinator worker [] left begun = next_round coordinator left begun
next_finish coordinator worker (job ∷ jobs) left begun = Takes (FinishJob worker job) (ToFinish jobs left begun)

-- What a settle line does next at this place and in this state. After its claim the worker finishes all
-- jobs that it runs.
abbrev pub next_turn : (coordinator worker : ℕ) → Place → State → Turn
next_turn coordinator worker (BeforePoll left begun) s = next_round coordinator left begun
next_turn coordinator worker (HasPolled left begun) s =
    next_claim (has_active s) (has_added coordinator s) coordinator worker left begun
next_turn coordinator worker (HasClaimed left begun) s =
    next_finish coordinator worker (jobs_run worker s) left begun
next_turn coordinator worker (ToFinish jobs left begun) s = next_finish coordinator worker jobs left begun

-- ---- the steps

-- A step of a settle line: the line that it does, the reply, and the state after it.
pub record StepTaken : Type 0 where
  pub line : Line
  pub reply : List ℕ
  pub after : State

-- Each step does what its line alone would do, in the state that the step before it left.
abbrev pub StepsLead : Inputs → (number : ℕ) → (old : State) → List StepTaken → (new : State) → Type 0
StepsLead inputs number old [] new = new ≡ old
StepsLead inputs number old (step ∷ steps) new =
    OneCourse inputs number old step.line step.reply step.after × StepsLead inputs number step.after steps new

-- The steps come in turn, from this place and state on, and then the settle line gives this reply. A
-- step that is refused is the last one, and the line replies as this step does.
abbrev pub ComeInTurn : (coordinator worker : ℕ) → Place → State → List StepTaken → (answer : List ℕ) → Type 0
ComeInTurn coordinator worker place s [] answer = next_turn coordinator worker place s ≡ Answers answer
ComeInTurn coordinator worker place s (step ∷ steps) answer = (to : Place)
    × (next_turn coordinator worker place s ≡ Takes step.line to)
    × (is_ok step.reply ≡ true → ComeInTurn coordinator worker to step.after steps answer)
    × (is_ok step.reply ≡ false → (steps ≡ []) × (answer ≡ step.reply))

-- A settle line of at most so many rounds takes the old state to the new one with this reply.
pub record SettleRun (inputs : Inputs) (number coordinator worker rounds : ℕ) (old : State) (answer : List ℕ)
    (new : State) : Type 0 where
  pub steps : List StepTaken
  pub lead : StepsLead inputs number old steps new
  pub in_turn : ComeInTurn coordinator worker (BeforePoll rounds 0) old steps answer
