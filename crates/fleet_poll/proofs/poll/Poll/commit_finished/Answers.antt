use Rattle.std.proofs.Common.{◌∙◌, [], ap, subst, sym}
use Rattle.std.specs.Prelude.{filter}
use Rattle.fleet_book.specs.Records.{AreRising}
use Rattle.fleet_book.specs.States.{own_jobs}
use Rattle.fleet_jobs.specs.Jobs.{job_ids}
use Rattle.fleet_poll.specs.Loops.{is_compacted}
use Rattle.fleet_poll.proofs.Viewed.{shows_at_first}
use Rattle.fleet_poll.proofs.Committed.{CommitsOn, all_compacted, all_done, all_may_join, commits_begin, commits_end, commits_none, commits_see, next_of, some_there, turned}
use Rattle.fleet_poll.proofs.poll.Poll.commit_finished.Goals as goal

pub jobs-init : goal.jobs-init
jobs-init g c =
    let s = (goal.CompactionScheduler-dyn g c.args.scheduler.now).answers c.args.scheduler.now.1 in
    let initial = c.args.self.now in
    let begins = commits_begin s initial (subst (λ v. AreRising v.compactions.jobs) c.compactions.ensures c.know_rising.ensures) c.requires in
    (begins, shows_at_first initial.state c.in_ok-view.view c.in_ok-view.ensures.manifest c.in_ok-view.ensures.jobs)

pub commit_shown-requires-clause-there : goal.commit_shown-requires-clause-there
commit_shown-requires-clause-there g c =
    let s = (goal.CompactionScheduler-dyn g c.args.scheduler.now).answers c.args.scheduler.now.1 in
    let initial = c.args.self.now in
    let jobs = filter is_compacted (own_jobs initial.state) in
    let ids = c.as_slice-job-items.ensures ∙ c.in_ok-finished.ensures.ids ∙ ap (λ v. job_ids (filter is_compacted v.compactions.jobs)) c.compactions-2.ensures in
    let n = next_of jobs c.as_slice-job-items.result.now c.jobs.job-index c.job-item.result ids c.jobs-test.true c.job-item.is in
    let on = subst (λ left. CommitsOn s initial left c.jobs.self) n.here c.jobs.invariant.0 in
    some_there s initial c.jobs.self n.first n.rest c.job-item.result on n.named

pub commit_shown-requires-clause-compacted : goal.commit_shown-requires-clause-compacted
commit_shown-requires-clause-compacted g c =
    let s = (goal.CompactionScheduler-dyn g c.args.scheduler.now).answers c.args.scheduler.now.1 in
    let initial = c.args.self.now in
    let jobs = filter is_compacted (own_jobs initial.state) in
    let ids = c.as_slice-job-items.ensures ∙ c.in_ok-finished.ensures.ids ∙ ap (λ v. job_ids (filter is_compacted v.compactions.jobs)) c.compactions-2.ensures in
    let n = next_of jobs c.as_slice-job-items.result.now c.jobs.job-index c.job-item.result ids c.jobs-test.true c.job-item.is in
    let on = subst (λ left. CommitsOn s initial left c.jobs.self) n.here c.jobs.invariant.0 in
    all_compacted s initial c.jobs.self n.first n.rest c.job-item.result on n.named

pub commit_shown-requires-clause-may_join : goal.commit_shown-requires-clause-may_join
commit_shown-requires-clause-may_join g c =
    let s = (goal.CompactionScheduler-dyn g c.args.scheduler.now).answers c.args.scheduler.now.1 in
    let initial = c.args.self.now in
    let jobs = filter is_compacted (own_jobs initial.state) in
    let ids = c.as_slice-job-items.ensures ∙ c.in_ok-finished.ensures.ids ∙ ap (λ v. job_ids (filter is_compacted v.compactions.jobs)) c.compactions-2.ensures in
    let n = next_of jobs c.as_slice-job-items.result.now c.jobs.job-index c.job-item.result ids c.jobs-test.true c.job-item.is in
    let on = subst (λ left. CommitsOn s initial left c.jobs.self) n.here c.jobs.invariant.0 in
    all_may_join s initial c.jobs.self n.first n.rest c.job-item.result on n.named

pub commit_shown-requires-clause-shown : goal.commit_shown-requires-clause-shown
commit_shown-requires-clause-shown g c = c.jobs.invariant.1

pub jobs-preserved : goal.jobs-preserved
jobs-preserved g c =
    let s = (goal.CompactionScheduler-dyn g c.args.scheduler.now).answers c.args.scheduler.now.1 in
    let initial = c.args.self.now in
    let jobs = filter is_compacted (own_jobs initial.state) in
    let ids = c.as_slice-job-items.ensures ∙ c.in_ok-finished.ensures.ids ∙ ap (λ v. job_ids (filter is_compacted v.compactions.jobs)) c.compactions-2.ensures in
    let n = next_of jobs c.as_slice-job-items.result.now c.jobs.job-index c.job-item.result ids c.jobs-test.true c.job-item.is in
    let on = subst (λ left. CommitsOn s initial left c.jobs.self) n.here c.jobs.invariant.0 in
    let goes_on =
    subst (λ left. CommitsOn s initial left c.commit_shown.new.self) (sym n.later)
    (turned s initial c.jobs.self n.first n.rest c.job-item.result on n.named c.commit_shown.new.self c.in_ok-commit_shown.ensures.others c.in_ok-commit_shown.ensures.sees c.in_ok-commit_shown.ensures.lost c.in_ok-commit_shown.ensures.poll)
    in
    (goes_on, c.in_ok-commit_shown.ensures.shown)

pub returns-then-is_empty-clause-poll : goal.returns-then-is_empty-clause-poll
returns-then-is_empty-clause-poll g c = λ flushes input sees.
    let ids = c.in_ok-finished.ensures.ids ∙ ap (λ v. job_ids (filter is_compacted v.compactions.jobs)) c.compactions-2.ensures in
    commits_none flushes input c.args.self.now c.in_ok-finished.finished ids (c.is_empty.ensures.0 c.if-is_empty.true)

pub returns-clause-poll : goal.returns-clause-poll
returns-clause-poll g c = λ flushes input sees.
    let s = (goal.CompactionScheduler-dyn g c.args.scheduler.now).answers c.args.scheduler.now.1 in
    let initial = c.args.self.now in
    let jobs = filter is_compacted (own_jobs initial.state) in
    let ids = c.as_slice-job-items.ensures ∙ c.in_ok-finished.ensures.ids ∙ ap (λ v. job_ids (filter is_compacted v.compactions.jobs)) c.compactions-2.ensures in
    let on = subst (λ left. CommitsOn s initial left c.jobs.self) (all_done jobs c.as_slice-job-items.result.now c.jobs.job-index ids c.jobs-test.false) c.jobs.invariant.0 in
    commits_end s initial c.jobs.self flushes input on sees

pub returns-clause-sees : goal.returns-clause-sees
returns-clause-sees g c = λ input sees.
    let s = (goal.CompactionScheduler-dyn g c.args.scheduler.now).answers c.args.scheduler.now.1 in
    let initial = c.args.self.now in
    let jobs = filter is_compacted (own_jobs initial.state) in
    let ids = c.as_slice-job-items.ensures ∙ c.in_ok-finished.ensures.ids ∙ ap (λ v. job_ids (filter is_compacted v.compactions.jobs)) c.compactions-2.ensures in
    let on = subst (λ left. CommitsOn s initial left c.jobs.self) (all_done jobs c.as_slice-job-items.result.now c.jobs.job-index ids c.jobs-test.false) c.jobs.invariant.0 in
    commits_see s initial c.jobs.self [] (λ prefix run. []) input on sees

pub returns-clause-lost : goal.returns-clause-lost
returns-clause-lost g c = c.jobs.invariant.0.lost
