use Rattle.std.proofs.Common.{◌≡◌, ◌∙◌, ◌&&◌, [], ap, refl, subst, sym}
use Rattle.std.specs.Prelude.{is_some, OnOk}
use Rattle.fleet_model.specs.Jobs.{Job}
use Rattle.fleet_model.specs.Work.Polls.{schedule_job}
use Rattle.fleet_book.specs.Records.{AreRising, record_with}
use Rattle.fleet_book.specs.States.{own_jobs}
use Rattle.fleet_poll.specs.Made.{own_core, run_if_moved}
use Rattle.fleet_poll.specs.Polls.{poll_of}
use Rattle.fleet_poll.specs.Loops.{IsDecision}
use Rattle.fleet_poll.proofs.Opened.{and_none, by_drain, by_move, by_schedule, for_all_ok}
use Rattle.fleet_poll.proofs.Reached.{on_ok}
use Rattle.fleet_poll.proofs.Carried.{on_both, on_three}
use Rattle.fleet_poll.proofs.Decided as decided
use Rattle.fleet_poll.proofs.poll.Poll.open_passed.Goals as goal

pub returns-then-is_drain-clause-poll : goal.returns-then-is_drain-clause-poll
returns-then-is_drain-clause-poll c = λ flushes input rise same.
    let poll = c.args.self.now in
    on_ok c.drain.result
    (by_drain flushes input c.args.options.now.enable_trivial_move poll c.drain.new.self (record_with c.args.job (own_jobs poll.state)) (sym c.is_drain.ensures ∙ c.if-is_drain.true))
    (c.drain.ensures.poll flushes input)

pub returns-then-not-options-clause-poll : goal.returns-then-not-options-clause-poll
returns-then-not-options-clause-poll c = λ flushes input rise same.
    let poll = c.args.self.now in
    let found = record_with c.args.job (own_jobs poll.state) in
    for_all_ok (λ job. job.id ≡ c.args.job) (λ job. poll_of flushes c.schedule.new.self ≡ schedule_job job (poll_of flushes poll)) c.schedule.result
    (by_schedule flushes input c.args.options.now.enable_trivial_move poll c.schedule.new.self c.args.job found refl (sym c.is_drain.ensures ∙ c.if-is_drain.false) same c.requires.stand
    (ap (λ b. b && is_some (run_if_moved found (own_core poll.state))) c.if-not-options.true))
    (c.schedule.ensures.poll flushes)

pub returns-then-branch-clause-poll : goal.returns-then-branch-clause-poll
returns-then-branch-clause-poll c = λ flushes input rise same.
    let poll = c.args.self.now in
    by_move flushes input c.args.options.now.enable_trivial_move poll c.move_job.new.self (record_with c.args.job (own_jobs poll.state)) (sym c.is_drain.ensures ∙ c.if-is_drain.false) c.if-not-options.false same c.requires.stand
    (sym c.in_ok-move_job.ensures.moved ∙ c.if-branch.true) (c.in_ok-move_job.ensures.poll flushes input rise c.if-branch.true)

pub returns-clause-poll : goal.returns-clause-poll
returns-clause-poll c = λ flushes input rise same.
    let poll = c.args.self.now in
    let found = record_with c.args.job (own_jobs poll.state) in
    let moves = c.args.options.now.enable_trivial_move in
    for_all_ok (λ job. job.id ≡ c.args.job) (λ job. poll_of flushes c.schedule-2.new.self ≡ schedule_job job (poll_of flushes poll)) c.schedule-2.result
    (by_schedule flushes input moves poll c.schedule-2.new.self c.args.job found refl (sym c.is_drain.ensures ∙ c.if-is_drain.false) same c.requires.stand
    (and_none moves (is_some (run_if_moved found (own_core poll.state))) (sym c.in_ok-move_job.ensures.moved ∙ c.if-branch.false)))
    (subst (λ m. (job : Job) → job.id ≡ c.args.job → OnOk c.schedule-2.result (poll_of flushes c.schedule-2.new.self ≡ schedule_job job (poll_of flushes m))) (c.in_ok-move_job.ensures.left c.if-branch.false)
    (c.schedule-2.ensures.poll flushes))

pub returns-then-is_drain-clause-decision : goal.returns-then-is_drain-clause-decision
returns-then-is_drain-clause-decision c =
    let poll = c.args.self.now in
    let rising = subst (λ v. AreRising v.compactions.jobs) c.compactions.ensures c.know_rising.ensures in
    on_both c.drain.result (decided.by_drain c.args.job poll c.drain.new.self (record_with c.args.job (own_jobs poll.state)) rising refl c.requires.there) c.drain.ensures.state c.drain.ensures.lost

pub returns-then-not-options-clause-decision : goal.returns-then-not-options-clause-decision
returns-then-not-options-clause-decision c =
    on_three c.schedule.result (decided.by_opening c.args.job c.args.self.now c.schedule.new.self) c.schedule.ensures.same (c.schedule.ensures.jobs (λ prefix run. [])) c.schedule.ensures.lost

pub returns-then-branch-clause-decision : goal.returns-then-branch-clause-decision
returns-then-branch-clause-decision c =
    let poll = c.args.self.now in
    let rising = subst (λ v. AreRising v.compactions.jobs) c.compactions.ensures c.know_rising.ensures in
    decided.by_move c.args.job poll c.move_job.new.self (record_with c.args.job (own_jobs poll.state)) rising refl c.requires.there (c.in_ok-move_job.ensures.state c.if-branch.true) c.in_ok-move_job.ensures.lost

pub returns-clause-decision : goal.returns-clause-decision
returns-clause-decision c =
    subst (λ m. OnOk c.schedule-2.result (IsDecision c.args.job m c.schedule-2.new.self)) (c.in_ok-move_job.ensures.left c.if-branch.false)
    (on_three c.schedule-2.result (decided.by_opening c.args.job c.move_job.new.self c.schedule-2.new.self) c.schedule-2.ensures.same (c.schedule-2.ensures.jobs (λ prefix run. [])) c.schedule-2.ensures.lost)
