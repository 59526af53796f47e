-- What a poll reaches by several of its steps.
use Rattle.std.proofs.Common.{◌≡◌, sym, ap, subst, ℕ, List, [], ◌∷◌, Bool, true, false}
use Rattle.std.specs.Prelude.{filter}
use Rattle.std.specs.List.{AllByRecursion}
use Rattle.fleet_model.specs.Jobs.{Compacted, JobSpec, has_status}
use Rattle.fleet_model.specs.Work.PollStates.{PollInput, PollState}
use Rattle.fleet_model.specs.Work.Polls.{add_drawn, open_submitted}
use Rattle.fleet_model.specs.Work.Scheduler.{Scheduler}
use Rattle.fleet_sched.specs.declared.options.CompactorOptions.{CompactorOptions}
use Rattle.fleet_tree.specs.Trees.{RunFlushes}
use Rattle.fleet_book.specs.Records.{record_with}
use Rattle.fleet_book.specs.States.{own_jobs}
use Rattle.fleet_poll.specs.Loops.{CommitsStand, HasReached, LostAreOver, MayCommit, StillSees, is_compacted, is_over_if_there}
use Rattle.fleet_poll.specs.Polls.{poll_of}
use Rattle.fleet_poll.specs.Seen.{Sees}
use Rattle.fleet_poll.specs.Steps.{MayBegin, SeesStale, freed_unless, opened_unless}
use Rattle.fleet_poll.specs.declared.poll.Poll.{Poll}
use Rattle.fleet_poll.proofs.Committed.{compacted_are}

-- What may be begun may be committed after step 1.
pub commits_after : (s : Scheduler) (options : CompactorOptions) (moment : ℕ) (commits_only : Bool) (before after : Poll) → MayBegin s options moment commits_only before → StillSees before.state after.state
    → ((flushes : RunFlushes) (input : PollInput) → SeesStale input options moment → poll_of flushes after ≡ freed_unless commits_only input (poll_of flushes before)) → MayCommit s (filter is_compacted (own_jobs after.state)) after
commits_after s options moment commits_only before after may still freed =
    let is = freed may.flushes may.input may.stale in
    record {
      flushes = may.flushes;
      input = may.input;
      sees = still may.input s may.sees;
      stand = subst (λ jobs. CommitsStand may.input jobs (poll_of may.flushes after)) (sym (compacted_are (own_jobs after.state)))
          (subst (λ (p : PollState). CommitsStand may.input (filter (has_status Compacted) p.jobs) p) (sym is) may.stand);
    }

pub none_lost : (poll : Poll) → poll.lost ≡ [] → LostAreOver poll
none_lost poll none = by poll.lost none
  where
    by : (lost : List (ℕ × ℕ)) → lost ≡ [] → AllByRecursion (λ l. is_over_if_there (record_with l.0 (own_jobs poll.state)) ≡ true) lost
    by [] e = tt
    by (l ∷ lost) e = absurd (cc e)

-- A poll that does not only commit has reached what step 4 reaches after step 3.
pub opens_after : (flushes : RunFlushes) (input : PollInput) (commits_only : Bool) (drawn : List (ℕ × JobSpec)) (before added after here : Poll) → commits_only ≡ false → poll_of flushes added ≡ add_drawn 1 drawn (poll_of flushes before)
    → HasReached after (open_submitted input (poll_of flushes added)) → here ≡ after → HasReached here (opened_unless commits_only input drawn (poll_of flushes before))
opens_after flushes input true drawn before added after here opens added_is reached is = absurd (cc opens)
opens_after flushes input false drawn before added after here opens added_is reached is =
    subst (λ poll. HasReached poll (open_submitted input (add_drawn 1 drawn (poll_of flushes before)))) (sym is) (subst (λ p. HasReached after (open_submitted input p)) added_is reached)

pub stays_as_it_is : (flushes : RunFlushes) (input : PollInput) (commits_only : Bool) (drawn : List (ℕ × JobSpec)) (before here : Poll) → commits_only ≡ true → here ≡ before → HasReached here (opened_unless commits_only input drawn (poll_of flushes before))
stays_as_it_is flushes input true drawn before here only is = record { flushes = flushes; is = ap (poll_of flushes) is }
stays_as_it_is flushes input false drawn before here only is = absurd (cc only)

-- What a step sees is seen by the poll that is the same after it.
pub sees_after : (input : PollInput) (s : Scheduler) (after here : Poll) → Sees input s after.state → here ≡ after → Sees input s here.state
sees_after input s after here sees is = subst (λ (poll : Poll). Sees input s poll.state) (sym is) sees
