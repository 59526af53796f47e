-- What the scheduler proposes to a poll.
use Rattle.std.proofs.Common.{◌≡◌, sym, ◌∙◌, ap, ℕ, ◌-◌, List, map, take}
use Rattle.std.proofs.lemmas.List.{take-map}
use Rattle.std.specs.Prelude.{count_by, IfOk, Ok, Err, Result, Vec}
use Rattle.std.specs.Result.{IsOkUnless}
use Rattle.std.specs.declared.alloc.Global.{Global}
use Rattle.fleet_model.specs.Jobs.{JobSpec, Running, has_status}
use Rattle.fleet_model.specs.Work.PollStates.{PollInput}
use Rattle.fleet_model.specs.Work.Polls.{proposals}
use Rattle.fleet_model.specs.Work.Scheduler.{Scheduler}
use Rattle.fleet_rows.specs.declared.errors.SlateDBError.{SlateDBError}
use Rattle.fleet_rows.specs.declared.errors.SlateDBError.TheVariants.{Memory}
use Rattle.fleet_tree.specs.Trees.{RunFlushes}
use Rattle.fleet_jobs.specs.Jobs.{jobs_of}
use Rattle.fleet_jobs.specs.Specs.{spec_of}
use Rattle.fleet_jobs.specs.declared.spec.CompactionSpec.{CompactionSpec}
use Rattle.fleet_book.specs.StateParts.{StateParts}
use Rattle.fleet_book.specs.States.{own_jobs}
use Rattle.fleet_book.specs.declared.view.CompactorStateView.{CompactorStateView}
use Rattle.fleet_sched.specs.Answers.{Proposes}
use Rattle.fleet_sched.specs.Views.{view_of}
use Rattle.fleet_poll.specs.Polls.{poll_of}
use Rattle.fleet_poll.specs.Seen.{Sees}
use Rattle.fleet_poll.specs.Shown.{open_view}
use Rattle.fleet_poll.specs.declared.poll.Poll.{Poll}
use Rattle.fleet_poll.proofs.Alike.{shown_is}

-- What the scheduler proposes on a view, it proposes on what is shown of the state.
pub proposed_on : (flushes : RunFlushes) (s : Scheduler) (state : StateParts) (view : CompactorStateView) (r : Result (Vec CompactionSpec Global) SlateDBError)
    → view ≡ open_view state → Proposes (s.propose (view_of flushes view)) r → IfOk r (λ specs. map spec_of specs.items ≡ s.propose (view_of flushes (open_view state)))
proposed_on flushes s state view (Ok specs) is proposed = proposed ∙ ap (λ v. s.propose (view_of flushes v)) is
proposed_on flushes s state view (Err e) is proposed = tt

pub fails_for_memory : (specs : List JobSpec) (r : Result (Vec CompactionSpec Global) SlateDBError) → Proposes specs r → IsOkUnless r Memory
fails_for_memory specs (Ok made) proposed = tt
fails_for_memory specs (Err e) proposed = proposed

-- If a poll takes as many of the scheduler's proposals as the Running jobs leave room for, they are those that the
-- model's poll takes.
pub proposals_are : (flushes : RunFlushes) (input : PollInput) (s : Scheduler) (poll : Poll) (most room : ℕ) (all taken : List CompactionSpec) → Sees input s poll.state → input.options.concurrent ≡ most
    → room ≡ most - count_by (has_status Running) (jobs_of (own_jobs poll.state)) → map spec_of all ≡ s.propose (view_of flushes (open_view poll.state)) → taken ≡ take room all → map spec_of taken ≡ proposals input (poll_of flushes poll)
proposals_are flushes input s poll most room all taken sees same free proposed first =
    let running = count_by (has_status Running) (jobs_of (own_jobs poll.state)) in
    let asked = input.scheduler.propose (view_of flushes (open_view poll.state)) in
    ap (map spec_of) first
    ∙ sym (take-map spec_of room all)
    ∙ ap (take room) (proposed ∙ ap (λ (t : Scheduler). t.propose (view_of flushes (open_view poll.state))) (sym sees.scheduler_is))
    ∙ ap (λ n. take n asked) (free ∙ ap (λ n. n - running) (sym same))
    ∙ ap (λ v. take (input.options.concurrent - running) (input.scheduler.propose v)) (sym (shown_is flushes input s poll sees))
