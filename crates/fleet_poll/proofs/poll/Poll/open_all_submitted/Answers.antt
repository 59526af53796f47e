use Rattle.std.proofs.Common.{◌∙◌, ap, subst, sym}
use Rattle.std.specs.Prelude.{filter}
use Rattle.fleet_book.specs.Records.{AreRising}
use Rattle.fleet_book.specs.States.{own_jobs}
use Rattle.fleet_gates.specs.Held.{AreHeld}
use Rattle.fleet_jobs.specs.Jobs.{job_ids, jobs_of}
use Rattle.fleet_model.specs.Work.Polls.{lost_to_scheduler}
use Rattle.fleet_poll.specs.Loops.{is_submitted}
use Rattle.fleet_poll.proofs.Committed.{all_done, next_of}
use Rattle.fleet_poll.proofs.Viewed.{shows_at_first}
use Rattle.fleet_poll.proofs.Opens.{OpensOn, all_submitted, none_lost, opens_begin, opens_end, opens_none, opens_see, some_there, turned}
use Rattle.fleet_poll.proofs.poll.Poll.open_all_submitted.Goals as goal

pub jobs-init : goal.jobs-init
jobs-init g c =
    let s = (goal.CompactionScheduler-dyn g c.args.scheduler.now).answers c.args.scheduler.now.1 in
    let initial = c.args.self.now in
    let rising = subst (λ v. AreRising v.compactions.jobs) c.compactions.ensures c.know_rising.ensures in
    let begins =
    opens_begin s c.args.options.now.enable_trivial_move initial c.in_ok-held.held rising c.requires.lost
    (subst (λ lost. AreHeld c.in_ok-held.held (jobs_of (own_jobs initial.state)) (lost_to_scheduler lost)) c.as_slice.ensures c.in_ok-held.ensures)
    in
    (begins, shows_at_first initial.state c.in_ok-view.view c.in_ok-view.ensures.manifest c.in_ok-view.ensures.jobs)

pub open_next-requires-clause-there : goal.open_next-requires-clause-there
open_next-requires-clause-there g c =
    let s = (goal.CompactionScheduler-dyn g c.args.scheduler.now).answers c.args.scheduler.now.1 in
    let moves = c.args.options.now.enable_trivial_move in
    let initial = c.args.self.now in
    let jobs = filter is_submitted (own_jobs initial.state) in
    let ids = c.as_slice-job-items.ensures ∙ c.in_ok-submitted.ensures.ids ∙ ap (λ v. job_ids (filter is_submitted v.compactions.jobs)) c.compactions-2.ensures in
    let n = next_of jobs c.as_slice-job-items.result.now c.jobs.job-index c.job-item.result ids c.jobs-test.true c.job-item.is in
    let on = subst (λ left. OpensOn s moves initial left c.jobs.self c.jobs.held) n.here c.jobs.invariant.0 in
    some_there s moves initial c.jobs.self n.first n.rest c.jobs.held c.job-item.result on n.named

pub open_next-requires-clause-submitted : goal.open_next-requires-clause-submitted
open_next-requires-clause-submitted g c =
    let s = (goal.CompactionScheduler-dyn g c.args.scheduler.now).answers c.args.scheduler.now.1 in
    let moves = c.args.options.now.enable_trivial_move in
    let initial = c.args.self.now in
    let jobs = filter is_submitted (own_jobs initial.state) in
    let ids = c.as_slice-job-items.ensures ∙ c.in_ok-submitted.ensures.ids ∙ ap (λ v. job_ids (filter is_submitted v.compactions.jobs)) c.compactions-2.ensures in
    let n = next_of jobs c.as_slice-job-items.result.now c.jobs.job-index c.job-item.result ids c.jobs-test.true c.job-item.is in
    let on = subst (λ left. OpensOn s moves initial left c.jobs.self c.jobs.held) n.here c.jobs.invariant.0 in
    all_submitted s moves initial c.jobs.self n.first n.rest c.jobs.held c.job-item.result on n.named

pub open_next-requires-clause-lost : goal.open_next-requires-clause-lost
open_next-requires-clause-lost g c =
    let s = (goal.CompactionScheduler-dyn g c.args.scheduler.now).answers c.args.scheduler.now.1 in
    let moves = c.args.options.now.enable_trivial_move in
    let initial = c.args.self.now in
    let jobs = filter is_submitted (own_jobs initial.state) in
    let ids = c.as_slice-job-items.ensures ∙ c.in_ok-submitted.ensures.ids ∙ ap (λ v. job_ids (filter is_submitted v.compactions.jobs)) c.compactions-2.ensures in
    let n = next_of jobs c.as_slice-job-items.result.now c.jobs.job-index c.job-item.result ids c.jobs-test.true c.job-item.is in
    let on = subst (λ left. OpensOn s moves initial left c.jobs.self c.jobs.held) n.here c.jobs.invariant.0 in
    none_lost s moves initial c.jobs.self n.first n.rest c.jobs.held c.job-item.result on n.named

pub open_next-requires-clause-held : goal.open_next-requires-clause-held
open_next-requires-clause-held g c = c.jobs.invariant.0.held_are

pub open_next-requires-clause-shown : goal.open_next-requires-clause-shown
open_next-requires-clause-shown g c = c.jobs.invariant.1

pub jobs-preserved : goal.jobs-preserved
jobs-preserved g c =
    let s = (goal.CompactionScheduler-dyn g c.args.scheduler.now).answers c.args.scheduler.now.1 in
    let moves = c.args.options.now.enable_trivial_move in
    let initial = c.args.self.now in
    let jobs = filter is_submitted (own_jobs initial.state) in
    let ids = c.as_slice-job-items.ensures ∙ c.in_ok-submitted.ensures.ids ∙ ap (λ v. job_ids (filter is_submitted v.compactions.jobs)) c.compactions-2.ensures in
    let n = next_of jobs c.as_slice-job-items.result.now c.jobs.job-index c.job-item.result ids c.jobs-test.true c.job-item.is in
    let on = subst (λ left. OpensOn s moves initial left c.jobs.self c.jobs.held) n.here c.jobs.invariant.0 in
    let goes_on =
    subst (λ left. OpensOn s moves initial left c.open_next.new.self c.open_next.new.held) (sym n.later)
    (turned s moves initial c.jobs.self n.first n.rest c.jobs.held c.job-item.result on n.named c.open_next.new.self c.open_next.new.held c.in_ok-open_next.ensures.decision c.in_ok-open_next.ensures.held c.in_ok-open_next.ensures.poll)
    in
    (goes_on, c.in_ok-open_next.ensures.shown)

pub returns-then-is_empty-clause-poll : goal.returns-then-is_empty-clause-poll
returns-then-is_empty-clause-poll g c = λ flushes input sees same.
    let ids = c.in_ok-submitted.ensures.ids ∙ ap (λ v. job_ids (filter is_submitted v.compactions.jobs)) c.compactions-2.ensures in
    opens_none flushes input c.args.self.now c.in_ok-submitted.submitted ids (c.is_empty.ensures.0 c.if-is_empty.true)

pub returns-clause-poll : goal.returns-clause-poll
returns-clause-poll g c = λ flushes input sees same.
    let s = (goal.CompactionScheduler-dyn g c.args.scheduler.now).answers c.args.scheduler.now.1 in
    let moves = c.args.options.now.enable_trivial_move in
    let initial = c.args.self.now in
    let jobs = filter is_submitted (own_jobs initial.state) in
    let ids = c.as_slice-job-items.ensures ∙ c.in_ok-submitted.ensures.ids ∙ ap (λ v. job_ids (filter is_submitted v.compactions.jobs)) c.compactions-2.ensures in
    let on = subst (λ left. OpensOn s moves initial left c.jobs.self c.jobs.held) (all_done jobs c.as_slice-job-items.result.now c.jobs.job-index ids c.jobs-test.false) c.jobs.invariant.0 in
    opens_end s moves initial c.jobs.self c.jobs.held flushes input on sees same

pub returns-clause-sees : goal.returns-clause-sees
returns-clause-sees g c = λ input sees same.
    let s = (goal.CompactionScheduler-dyn g c.args.scheduler.now).answers c.args.scheduler.now.1 in
    let moves = c.args.options.now.enable_trivial_move in
    let initial = c.args.self.now in
    let jobs = filter is_submitted (own_jobs initial.state) in
    let ids = c.as_slice-job-items.ensures ∙ c.in_ok-submitted.ensures.ids ∙ ap (λ v. job_ids (filter is_submitted v.compactions.jobs)) c.compactions-2.ensures in
    let on = subst (λ left. OpensOn s moves initial left c.jobs.self c.jobs.held) (all_done jobs c.as_slice-job-items.result.now c.jobs.job-index ids c.jobs-test.false) c.jobs.invariant.0 in
    opens_see s moves initial c.jobs.self c.jobs.held input on sees same
