use Rattle.std.proofs.Common.{subst, sym}
use Rattle.fleet_book.specs.Shown.{ShowedRecords}
use Rattle.fleet_book.specs.Records.{AreRising, record_with}
use Rattle.fleet_book.specs.States.{own_jobs}
use Rattle.fleet_poll.proofs.Committed.{committed_in, floor_is, may_join_in, said_of}
use Rattle.fleet_poll.proofs.Viewed.{showed_before}
use Rattle.fleet_poll.proofs.poll.Poll.commit_shown.Goals as goal

pub commit-requires-clause-run : goal.commit-requires-clause-run
commit-requires-clause-run g c = λ none job e.
    let state = c.args.self.now.state in
    let s = (goal.CompactionScheduler-dyn g c.args.scheduler.now).answers c.args.scheduler.now.1 in
    let found = record_with c.args.job (own_jobs state) in
    (may_join_in s state c.in_ok-failed.failed found (said_of s state c.in_ok-failed.failed found c.in_ok-failed.ensures.rule) c.requires.may_join none job e).run

pub commit-requires-clause-keys : goal.commit-requires-clause-keys
commit-requires-clause-keys g c = λ none job e.
    let state = c.args.self.now.state in
    let s = (goal.CompactionScheduler-dyn g c.args.scheduler.now).answers c.args.scheduler.now.1 in
    let found = record_with c.args.job (own_jobs state) in
    (may_join_in s state c.in_ok-failed.failed found (said_of s state c.in_ok-failed.failed found c.in_ok-failed.ensures.rule) c.requires.may_join none job e).keys

pub commit-requires-clause-stand : goal.commit-requires-clause-stand
commit-requires-clause-stand g c = λ none job e.
    let state = c.args.self.now.state in
    let s = (goal.CompactionScheduler-dyn g c.args.scheduler.now).answers c.args.scheduler.now.1 in
    let found = record_with c.args.job (own_jobs state) in
    (may_join_in s state c.in_ok-failed.failed found (said_of s state c.in_ok-failed.failed found c.in_ok-failed.ensures.rule) c.requires.may_join none job e).stand

pub refresh-requires : goal.refresh-requires
refresh-requires g c =
    let rising = subst (λ v. AreRising v.compactions.jobs) c.compactions.ensures c.know_rising.ensures in
    subst (λ shown. ShowedRecords c.args.job shown c.commit.new.self.state.compactions) (sym c.forget_trees.ensures.jobs)
    (showed_before c.args.job c.args.view.now c.args.self.now.state c.commit.new.self.state rising c.requires.shown c.in_ok-commit.ensures.others)

pub returns-clause-poll : goal.returns-clause-poll
returns-clause-poll g c = λ flushes input sees.
    let poll = c.args.self.now in
    let s = (goal.CompactionScheduler-dyn g c.args.scheduler.now).answers c.args.scheduler.now.1 in
    let found = record_with c.args.job (own_jobs poll.state) in
    committed_in flushes input s poll c.commit.new.self c.in_ok-failed.failed found sees (said_of s poll.state c.in_ok-failed.failed found c.in_ok-failed.ensures.rule)
    (c.in_ok-commit.ensures.poll flushes input sees.prefixes (floor_is input s poll.state sees))
