-- What a poll does, given what it got.
use Rattle.std.specs.Prelude.{◌≡◌, ℕ, ◌+◌, ◌<◌, Bool, true, false, if◌then◌else◌, List, [], ◌∷◌, ◌++◌, map, filter, flat_map, Option, Some, None, ⊤}
use Rattle.std.specs.List.{AllByRecursion, list_any}
use Rattle.row_model.specs.Lists.{Pairs}
use Rattle.fleet_model.specs.Jobs.{JobSpec, is_drain, Job, Jobs, Submitted, Compacted, has_status, ids, is_stale}
use Rattle.fleet_model.specs.History.{Step, Join, Move, Drain}
use Rattle.fleet_model.specs.Work.Gates.{commit_gate, submit_gate}
use Rattle.fleet_model.specs.Work.PollStates.{PollInput, PollState, poll_begun, accepts}
use Rattle.fleet_model.specs.Work.Polls.{free_stale, commit_job, commit_finished, clashes, add_by, add_drawn, lost_to_scheduler, can_move, open_job}

-- The state of a poll as its commits begin. A whole poll has freed the stale jobs by then.
abbrev pub before_commits : (commits_only : Bool) → PollInput → PollState
before_commits commits_only input =
    let p = poll_begun input.manifest.trees input.manifest.horizon input.records.jobs in
    if commits_only then p else free_stale input p

-- The verdicts on these finished jobs, one after the other: the id of each, and the rule of the gate that
-- fails, if one does, on the trees that the commits before it left.
abbrev pub verdicts : PollInput → Jobs → PollState → List (ℕ × Option ℕ)
verdicts input [] p = []
verdicts input (job ∷ jobs) p =
    (job.id, commit_gate p.trees (accepts input p) job) ∷ verdicts input jobs (commit_job input job p)

-- The verdicts on all finished jobs that a poll finds.
abbrev pub all_verdicts : (commits_only : Bool) → PollInput → List (ℕ × Option ℕ)
all_verdicts commits_only input =
    let p = before_commits commits_only input in verdicts input (filter (has_status Compacted) p.jobs) p

-- The job of a verdict, if the job passed the gate.
abbrev pub passed_in : ℕ × Option ℕ → List ℕ
passed_in (id, None) = id ∷ []
passed_in (id, Some rule) = []

-- The job of a verdict with the rule that it failed, if it failed one.
abbrev pub failed_in : ℕ × Option ℕ → List (ℕ × ℕ)
failed_in (id, None) = []
failed_in (id, Some rule) = (id, rule) ∷ []

-- The places of these proposals, one after the other, each with the proposal if it clashes with no active
-- job that the poll has reached by then. Places count on from the given one.
abbrev pub added_by : ℕ → ℕ × JobSpec → Bool → ℕ × Option (ℕ × JobSpec)
added_by place proposal true = (place, None)
added_by place proposal false = (place, Some proposal)

abbrev pub additions : ℕ → List (ℕ × JobSpec) → PollState → List (ℕ × Option (ℕ × JobSpec))
additions place [] p = []
additions place (d ∷ drawn) p =
    let clash = list_any (clashes d.1) p.jobs in
    added_by place d clash ∷ additions (place + 1) drawn (add_by d.0 place d.1 clash p)

-- The proposal, if it is added, and its place, if it is dropped.
abbrev pub added_in : ℕ × Option (ℕ × JobSpec) → List (ℕ × JobSpec)
added_in (place, None) = []
added_in (place, Some proposal) = proposal ∷ []

abbrev pub dropped_in : ℕ × Option (ℕ × JobSpec) → List ℕ
dropped_in (place, None) = place ∷ []
dropped_in (place, Some proposal) = []

-- What a poll makes of a submitted job: it fails by a rule of the gate, or it is drained, moved or opened.
pub data Fate : Type 0 where
  Fails : (rule : ℕ) → Fate
  IsDrained : Fate
  IsMoved : Fate
  IsOpened : Fate

-- A job that passes the gate is drained if it is a drain, moved if it can be, and opened otherwise.
abbrev pub fate_by : Option ℕ → (drains moves : Bool) → Fate
fate_by (Some rule) drains moves = Fails rule
fate_by None true moves = IsDrained
fate_by None false true = IsMoved
fate_by None false false = IsOpened

-- The fate of a submitted job, given what the poll has reached when it comes to the job.
abbrev pub fate_of : PollInput → Job → PollState → Fate
fate_of input job p =
    fate_by (submit_gate p.trees p.jobs (lost_to_scheduler p.lost) (accepts input p) job)
    (is_drain job.spec) (can_move input p.trees job.spec)

-- The fates of these submitted jobs, one after the other.
abbrev pub fates : PollInput → Jobs → PollState → List (ℕ × Fate)
fates input [] p = []
fates input (job ∷ jobs) p = (job.id, fate_of input job p) ∷ fates input jobs (open_job input job p)

-- The state of a whole poll as it has committed.
abbrev pub after_commits : PollInput → PollState
after_commits input = commit_finished input (before_commits false input)

-- The fates of all submitted jobs that a whole poll finds or adds, given the proposals with their ids.
abbrev pub all_fates : PollInput → List (ℕ × JobSpec) → List (ℕ × Fate)
all_fates input drawn =
    let p = add_drawn 1 drawn (after_commits input) in fates input (filter (has_status Submitted) p.jobs) p

-- The job, if it is opened, moved or drained.
abbrev pub opened_in : ℕ × Fate → List ℕ
opened_in (id, IsOpened) = id ∷ []
opened_in (id, fate) = []

abbrev pub moved_in : ℕ × Fate → List ℕ
moved_in (id, IsMoved) = id ∷ []
moved_in (id, fate) = []

abbrev pub drained_in : ℕ × Fate → List ℕ
drained_in (id, IsDrained) = id ∷ []
drained_in (id, fate) = []

-- The job with the rule that it fails, if it fails one.
abbrev pub refused_in : ℕ × Fate → List (ℕ × ℕ)
refused_in (id, Fails rule) = (id, rule) ∷ []
refused_in (id, fate) = []

-- The step is a move or a drain, which a poll takes as it opens a job.
abbrev pub IsAtOnce : Step → Type 0
IsAtOnce (Join id) = ⊥
IsAtOnce (Move id) = ⊤
IsAtOnce (Drain id) = ⊤

-- A whole poll frees exactly the stale jobs, adds exactly the proposals that clash with no active job, and
-- then opens, moves or drains exactly the submitted jobs that pass their gate. Each other proposal is
-- dropped, and each other job fails with its rule.
pub record WholeSays (input : PollInput) (drawn : List (ℕ × JobSpec)) (p : PollState) : Type 0 where
  pub frees : p.freed ≡ ids (filter (is_stale input.options.timeout input.moment) input.records.jobs)
  pub adds : p.added ≡ flat_map added_in (additions 1 drawn (after_commits input))
  pub drops : p.dropped ≡ flat_map dropped_in (additions 1 drawn (after_commits input))
  pub opens : p.opened ≡ flat_map opened_in (all_fates input drawn)
  pub moves : p.moved ≡ flat_map moved_in (all_fates input drawn)
  pub drains : p.drained ≡ flat_map drained_in (all_fates input drawn)
  pub refuses : p.refused ≡ flat_map refused_in (all_fates input drawn)

-- A poll that only commits does nothing of this.
pub record OnlyCommits (p : PollState) : Type 0 where
  pub frees : p.freed ≡ []
  pub adds : p.added ≡ []
  pub drops : p.dropped ≡ []
  pub opens : p.opened ≡ []
  pub moves : p.moved ≡ []
  pub drains : p.drained ≡ []
  pub refuses : p.refused ≡ []

abbrev pub SaysBeside : (commits_only : Bool) → PollInput → List (ℕ × JobSpec) → PollState → Type 0
SaysBeside true input drawn p = OnlyCommits p
SaysBeside false input drawn p = WholeSays input drawn p

-- Each poll commits, in the order of their ids, exactly the finished jobs that pass the gate, and each other
-- finished job fails with its rule. The joins of the committed jobs come first among its steps, in this
-- order.
pub record PollSays (commits_only : Bool) (input : PollInput) (drawn : List (ℕ × JobSpec)) (p : PollState)
    : Type 0 where
  pub beside : SaysBeside commits_only input drawn p
  pub commits : p.done ≡ flat_map passed_in (all_verdicts commits_only input)
  pub loses : p.lost ≡ flat_map failed_in (all_verdicts commits_only input)
  pub in_order : Pairs (λ a b. a < b) p.done
  pub others : List Step
  pub steps : p.steps ≡ map Join p.done ++ others
  pub at_once : AllByRecursion IsAtOnce others
