-- What a poll has reached after step 4 for several jobs.
use Rattle.std.proofs.Common.{◌≡◌, refl, sym, ◌∙◌, ap, subst, ℕ, List, [], ◌∷◌, Bool, true, false, not, cond}
use Rattle.std.specs.Prelude.{◌==◌, filter, IfSome, IsSome, Some}
use Rattle.std.specs.List.{AllByRecursion}
use Rattle.std.specs.Option.{ForSome}
use Rattle.std.proofs.lemmas.Bool.{eqb-true}
use Rattle.row_model.specs.Lists.{Pairs}
use Rattle.fleet_model.specs.Jobs.{Compacted, Status, Submitted, Scheduled, Running, Completed, Failed, contains, has_status, is_finished, status_eq}
use Rattle.fleet_model.specs.Nodes.{NodeName}
use Rattle.fleet_model.specs.Work.Polls.{each, lost_to_scheduler, open_job, open_submitted}
use Rattle.fleet_model.specs.Work.PollStates.{PollInput}
use Rattle.fleet_model.specs.Work.Records.{firsts}
use Rattle.fleet_model.specs.Work.Scheduler.{Scheduler}
use Rattle.fleet_tree.specs.Trees.{RunFlushes}
use Rattle.fleet_jobs.specs.Jobs.{job_ids, job_of, jobs_of}
use Rattle.fleet_jobs.specs.Parts.JobParts.{JobParts}
use Rattle.fleet_book.specs.Records.{AreRising, record_with}
use Rattle.fleet_book.specs.States.{own_jobs}
use Rattle.fleet_gates.specs.Held.{AreHeld}
use Rattle.fleet_poll.specs.Loops.{HasReached, IsDecision, LostAreOver, is_over_if_there, is_submitted}
use Rattle.fleet_poll.specs.Polls.{poll_of}
use Rattle.fleet_poll.specs.Seen.{Sees}
use Rattle.fleet_poll.specs.declared.poll.Poll.{Poll}
use Rattle.fleet_poll.proofs.Committed.{all_found, all_picked, no_jobs, picked_apart, still_there}

-- What is left to be done for the model's poll, from what the program's poll has reached.
pub record OpenGoes (flushes : RunFlushes) (input : PollInput) (s : Scheduler) (initial : Poll) (left : List JobParts) (now : Poll) : Type 0 where
  pub sees : Sees input s now.state
  pub own : RunFlushes
  pub is : each (open_job input) (jobs_of left) (poll_of own now) ≡ open_submitted input (poll_of flushes initial)

-- The jobs that are left are as they were, and were not lost. The jobs hold the given nodes. What the poll has reached
-- by the other jobs is what the model's poll has.
pub record OpensOn (s : Scheduler) (moves : Bool) (initial : Poll) (left : List JobParts) (now : Poll) (held : List NodeName) : Type 0 where
  pub there : AllByRecursion (λ job. (record_with job.id (own_jobs now.state) ≡ Some job) × (is_submitted job ≡ true)) left
  pub apart : Pairs (λ a b. (a.id == b.id) ≡ false) left
  pub kept : AllByRecursion (λ job. contains (lost_to_scheduler now.lost) job.id ≡ false) left
  pub held_are : AreHeld held (jobs_of (own_jobs now.state)) (lost_to_scheduler now.lost)
  pub going : (flushes : RunFlushes) (input : PollInput) → Sees input s initial.state → input.options.moves ≡ moves → OpenGoes flushes input s initial left now

-- After the step for the first job, those after it are left.
pub opens_more : (s : Scheduler) (moves : Bool) (initial now after : Poll) (job : JobParts) (rest : List JobParts) (held last : List NodeName) → OpensOn s moves initial (job ∷ rest) now held → IsDecision job.id now after
    → AreHeld last (jobs_of (own_jobs after.state)) (lost_to_scheduler after.lost)
    → ((flushes : RunFlushes) (input : PollInput) → Sees input s now.state → input.options.moves ≡ moves → HasReached after (open_job input (job_of job) (poll_of flushes now)))
    → OpensOn s moves initial rest after last
opens_more s moves initial now after job rest held last c decision still step = record {
  there = still_there is_submitted job.id now.state after.state rest decision.others c.apart.0 c.there.1;
  apart = c.apart.1;
  kept = subst (λ lost. AllByRecursion (λ j. contains (lost_to_scheduler lost) j.id ≡ false) rest) (sym decision.lost) c.kept.1;
  held_are = still;
  going = λ flushes input sees same. more flushes input same (c.going flushes input sees same);
}
  where
    more : (flushes : RunFlushes) (input : PollInput) → input.options.moves ≡ moves → OpenGoes flushes input s initial (job ∷ rest) now → OpenGoes flushes input s initial rest after
    more flushes input same goes =
        let one = step goes.own input goes.sees same in
        record { sees = decision.sees input s goes.sees; own = one.flushes; is = ap (each (open_job input) (jobs_of rest)) one.is ∙ goes.is }

-- ---- the start

submitted_are : (jobs : List JobParts) → jobs_of (filter is_submitted jobs) ≡ filter (has_status Submitted) (jobs_of jobs)
submitted_are [] = refl
submitted_are (job ∷ jobs) = by (is_submitted job) (submitted_are jobs)
  where
    by : (b : Bool) → jobs_of (filter is_submitted jobs) ≡ filter (has_status Submitted) (jobs_of jobs)
        → jobs_of (cond b (job ∷ filter is_submitted jobs) (filter is_submitted jobs)) ≡ cond b (job_of job ∷ filter (has_status Submitted) (jobs_of jobs)) (filter (has_status Submitted) (jobs_of jobs))
    by true rest = ap (λ js. job_of job ∷ js) rest
    by false rest = rest

submitted_is_open : (job : JobParts) → is_submitted job ≡ true → is_over_if_there (Some job) ≡ false
submitted_is_open job e = by (job_of job).status e
  where
    by : (status : Status) → status_eq Submitted status ≡ true → not (not (is_finished status)) ≡ false
    by Submitted f = refl
    by Scheduled f = absurd (cc f)
    by Running f = absurd (cc f)
    by Compacted f = absurd (cc f)
    by Completed f = absurd (cc f)
    by Failed f = absurd (cc f)

-- A submitted job is none of the lost ones, since these are over.
not_lost : (jobs : List JobParts) (lost : List (ℕ × ℕ)) (job : JobParts) → record_with job.id jobs ≡ Some job → is_submitted job ≡ true → AllByRecursion (λ l. is_over_if_there (record_with l.0 jobs) ≡ true) lost
    → contains (lost_to_scheduler lost) job.id ≡ false
not_lost jobs [] job found submitted over = refl
not_lost jobs (l ∷ lost) job found submitted over = by (l.1 == 0) (not_lost jobs lost job found submitted over.1)
  where
    clash : (b : Bool) → (l.0 == job.id) ≡ b → b ≡ false
    clash true e =
        let off : is_over_if_there (record_with l.0 jobs) ≡ false = ap (λ n. is_over_if_there (record_with n jobs)) (eqb-true l.0 job.id e) ∙ ap is_over_if_there found ∙ submitted_is_open job submitted in
        sym over.0 ∙ off
    clash false e = refl

    by : (b : Bool) → contains (lost_to_scheduler lost) job.id ≡ false → contains (firsts (cond b (l ∷ filter (λ x. x.1 == 0) lost) (filter (λ x. x.1 == 0) lost))) job.id ≡ false
    by true rest = ap (λ b. cond b true (contains (lost_to_scheduler lost) job.id)) (clash (l.0 == job.id) refl) ∙ rest
    by false rest = rest

all_kept : (poll : Poll) (left : List JobParts) → LostAreOver poll → AllByRecursion (λ job. (record_with job.id (own_jobs poll.state) ≡ Some job) × (is_submitted job ≡ true)) left
    → AllByRecursion (λ job. contains (lost_to_scheduler poll.lost) job.id ≡ false) left
all_kept poll [] over there = tt
all_kept poll (job ∷ left) over there = (not_lost (own_jobs poll.state) poll.lost job there.0.0 there.0.1 over, all_kept poll left over there.1)

-- Without a submitted job, nothing is to be done.
pub opens_none : (flushes : RunFlushes) (input : PollInput) (poll : Poll) (ids : List ℕ) → ids ≡ job_ids (filter is_submitted (own_jobs poll.state)) → ids ≡ [] → HasReached poll (open_submitted input (poll_of flushes poll))
opens_none flushes input poll ids are none =
    let jobs = own_jobs poll.state in
    let left = no_jobs (filter is_submitted jobs) (sym are ∙ none) in
    record { flushes = flushes; is = ap (λ js. each (open_job input) js (poll_of flushes poll)) (ap jobs_of (sym left) ∙ submitted_are jobs) }

-- Before the first job is opened, all submitted jobs are left, and the set has the nodes that jobs hold.
pub opens_begin : (s : Scheduler) (moves : Bool) (initial : Poll) (held : List NodeName) → AreRising (own_jobs initial.state) → LostAreOver initial → AreHeld held (jobs_of (own_jobs initial.state)) (lost_to_scheduler initial.lost)
    → OpensOn s moves initial (filter is_submitted (own_jobs initial.state)) initial held
opens_begin s moves initial held rising over are =
    let jobs = own_jobs initial.state in
    let there = all_picked is_submitted (λ job. record_with job.id jobs ≡ Some job) jobs (all_found jobs rising) in
    record {
      there = there;
      apart = picked_apart is_submitted jobs rising;
      kept = all_kept initial (filter is_submitted jobs) over there;
      held_are = are;
      going = λ flushes input sees same. record { sees = sees; own = flushes; is = ap (λ js. each (open_job input) js (poll_of flushes initial)) (submitted_are jobs) };
    }

pub opens_end : (s : Scheduler) (moves : Bool) (initial now : Poll) (held : List NodeName) (flushes : RunFlushes) (input : PollInput) → OpensOn s moves initial [] now held → Sees input s initial.state → input.options.moves ≡ moves
    → HasReached now (open_submitted input (poll_of flushes initial))
opens_end s moves initial now held flushes input c sees same = let goes = c.going flushes input sees same in record { flushes = goes.own; is = goes.is }

pub opens_see : (s : Scheduler) (moves : Bool) (initial now : Poll) (held : List NodeName) (input : PollInput) → OpensOn s moves initial [] now held → Sees input s initial.state → input.options.moves ≡ moves → Sees input s now.state
opens_see s moves initial now held input c sees same = (c.going (λ prefix run. []) input sees same).sees

-- ---- the turn of a job

module _ (s : Scheduler) (moves : Bool) (initial now : Poll) (job : JobParts) (rest : List JobParts) (held : List NodeName) (id : ℕ) (c : OpensOn s moves initial (job ∷ rest) now held) (same : job.id ≡ id) where
  is_there : record_with id (own_jobs now.state) ≡ Some job
  is_there = ap (λ n. record_with n (own_jobs now.state)) (sym same) ∙ c.there.0.0

  pub some_there : IsSome (record_with id (own_jobs now.state))
  some_there = subst IsSome (sym is_there) refl

  pub all_submitted : ForSome (record_with id (own_jobs now.state)) (λ other. is_submitted other ≡ true)
  all_submitted other e = let one : job ≡ other = cc (sym is_there ∙ e) in subst (λ j. is_submitted j ≡ true) one c.there.0.1

  pub none_lost : contains (lost_to_scheduler now.lost) id ≡ false
  none_lost = ap (contains (lost_to_scheduler now.lost)) (sym same) ∙ c.kept.0

  -- After a step that is the model's for the job that is found, the next ones are left.
  pub turned : (after : Poll) (last : List NodeName) → IsDecision id now after → AreHeld last (jobs_of (own_jobs after.state)) (lost_to_scheduler after.lost)
      → ((flushes : RunFlushes) (input : PollInput) → Sees input s now.state → input.options.moves ≡ moves → IfSome (record_with id (own_jobs now.state)) (λ other. HasReached after (open_job input (job_of other) (poll_of flushes now))))
      → OpensOn s moves initial rest after last
  turned after last decision still step =
      opens_more s moves initial now after job rest held last c (subst (λ n. IsDecision n now after) (sym same) decision) still
      (λ flushes input sees allowed. subst (λ f. IfSome f (λ other. HasReached after (open_job input (job_of other) (poll_of flushes now)))) is_there (step flushes input sees allowed))
