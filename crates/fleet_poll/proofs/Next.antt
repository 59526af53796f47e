-- What a poll has reached after step 4 for one submitted job.
use Rattle.std.proofs.Common.{◌≡◌, refl, sym, subst, ℕ, List, ◌++◌, Bool, true, false}
use Rattle.std.specs.Prelude.{IfSome, IsSome, option_map, Option, Some, None}
use Rattle.std.specs.List.{AllByRecursion}
use Rattle.std.specs.Option.{ForSome}
use Rattle.fleet_model.specs.Jobs.{Status, Submitted, Scheduled, Running, Compacted, Completed, Failed, contains, has_status, status_eq}
use Rattle.fleet_model.specs.Nodes.{NodeName}
use Rattle.fleet_model.specs.Work.Polls.{lost_to_scheduler, open_job}
use Rattle.fleet_model.specs.Work.PollStates.{PollInput, accepts}
use Rattle.fleet_model.specs.Work.Scheduler.{Scheduler}
use Rattle.fleet_tree.specs.Trees.{RunFlushes}
use Rattle.fleet_jobs.specs.Jobs.{job_of, jobs_of}
use Rattle.fleet_jobs.specs.Laws.{EndsFit}
use Rattle.fleet_jobs.specs.Parts.JobParts.{JobParts}
use Rattle.fleet_jobs.specs.Specs.{spec_of}
use Rattle.fleet_jobs.specs.Taken.{taken_tables}
use Rattle.fleet_book.specs.Records.{AreRising, record_with}
use Rattle.fleet_book.specs.States.{own_jobs}
use Rattle.fleet_gates.specs.Held.{AreHeld, Decides}
use Rattle.fleet_gates.specs.Shown.{accepted_on}
use Rattle.fleet_poll.specs.Loops.{HasReached, IsDecision, is_submitted, nodes_held}
use Rattle.fleet_poll.specs.Made.{flushes_opened, own_core}
use Rattle.fleet_poll.specs.Polls.{poll_of}
use Rattle.fleet_poll.specs.Seen.{Sees}
use Rattle.fleet_poll.specs.Shown.{open_view, rule_of_gate}
use Rattle.fleet_poll.specs.declared.poll.Poll.{Poll}
use Rattle.fleet_poll.proofs.Alike.{accepted_alike}
use Rattle.fleet_poll.proofs.StillHeld.{decides_for, held_after}
use Rattle.fleet_poll.proofs.Taken.{ends_fit, taken_matched}

-- ---- what a submitted job is asked with

pub not_compacted : (found : Option JobParts) → ForSome found (λ job. is_submitted job ≡ true) → ForSome found (λ job. has_status Compacted (job_of job) ≡ false)
not_compacted found submitted job e = by (job_of job).status (submitted job e)
  where
    by : (status : Status) → status_eq Submitted status ≡ true → status_eq Compacted status ≡ false
    by Submitted f = refl
    by Scheduled f = absurd (cc f)
    by Running f = absurd (cc f)
    by Compacted f = absurd (cc f)
    by Completed f = absurd (cc f)
    by Failed f = absurd (cc f)

pub all_decide : (id : ℕ) (poll : Poll) (nodes : List NodeName) → AreRising (own_jobs poll.state) → ForSome (record_with id (own_jobs poll.state)) (λ job. is_submitted job ≡ true) → contains (lost_to_scheduler poll.lost) id ≡ false
    → AreHeld nodes (jobs_of (own_jobs poll.state)) (lost_to_scheduler poll.lost) → ForSome (record_with id (own_jobs poll.state)) (λ job. Decides nodes (jobs_of (own_jobs poll.state)) (lost_to_scheduler poll.lost) (job_of job))
all_decide id poll nodes rising submitted kept held job e = decides_for id (own_jobs poll.state) (lost_to_scheduler poll.lost) nodes job rising e (submitted job e) kept held

-- ---- what is reached

-- The poll has reached what the model's step 4 leaves for the job, with some account of the flushes of runs.
pub reached_next : (flushes : RunFlushes) (input : PollInput) (s : Scheduler) (moves : Bool) (before after : Poll) (found : Option JobParts) → Sees input s before.state
    → IfSome found (λ made. accepts input (poll_of flushes before) (spec_of made.spec) ≡ accepted_on flushes (open_view before.state) s (spec_of made.spec)
    → AllByRecursion (EndsFit input.tables) (taken_tables made.spec (own_core before.state))
    → poll_of (flushes_opened (rule_of_gate input (job_of made) (poll_of flushes before)) moves made (own_core before.state) flushes) after ≡ open_job input (job_of made) (poll_of flushes before))
    → IfSome found (λ made. HasReached after (open_job input (job_of made) (poll_of flushes before)))
reached_next flushes input s moves before after None sees is = tt
reached_next flushes input s moves before after (Some made) sees is = record {
  flushes = flushes_opened (rule_of_gate input (job_of made) (poll_of flushes before)) moves made (own_core before.state) flushes;
  is = is (accepted_alike flushes input s before sees (spec_of made.spec))
      (ends_fit input.tables (taken_tables made.spec (own_core before.state)) (taken_matched input.tables made.spec (own_core before.state) sees.trees));
}

pub held_next : (id : ℕ) (before after : Poll) (nodes last : List NodeName) (found : Option JobParts) → record_with id (own_jobs before.state) ≡ found → IsSome found → AreRising (own_jobs before.state)
    → ForSome found (λ job. is_submitted job ≡ true) → contains (lost_to_scheduler before.lost) id ≡ false → AreHeld nodes (jobs_of (own_jobs before.state)) (lost_to_scheduler before.lost) → IsDecision id before after
    → last ≡ nodes ++ nodes_held (option_map job_of (record_with id (own_jobs after.state))) → AreHeld last (jobs_of (own_jobs after.state)) (lost_to_scheduler after.lost)
held_next id before after nodes last None e there rising submitted kept held decision more = absurd (cc there)
held_next id before after nodes last (Some job) e there rising submitted kept held decision more =
    subst (λ lost. AreHeld last (jobs_of (own_jobs after.state)) (lost_to_scheduler lost)) (sym decision.lost)
    (subst (λ ns. AreHeld ns (jobs_of (own_jobs after.state)) (lost_to_scheduler before.lost)) (sym more)
    (held_after id (own_jobs before.state) (own_jobs after.state) (lost_to_scheduler before.lost) nodes job rising e held (submitted job refl) kept decision.jobs))
