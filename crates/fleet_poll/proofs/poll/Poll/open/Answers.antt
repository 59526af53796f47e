use Rattle.std.proofs.Common.{◌≡◌, subst, sym}
use Rattle.std.specs.Prelude.{IfSome, OnOk, Some}
use Rattle.std.specs.List.{AllByRecursion}
use Rattle.fleet_jobs.specs.Jobs.{job_of}
use Rattle.fleet_jobs.specs.Laws.{EndsFit}
use Rattle.fleet_jobs.specs.Taken.{taken_tables}
use Rattle.fleet_model.specs.Work.Polls.{open_by}
use Rattle.fleet_book.specs.Records.{record_with}
use Rattle.fleet_book.specs.States.{own_jobs}
use Rattle.fleet_gates.specs.Rules.{number_of, rule_number}
use Rattle.fleet_poll.specs.Made.{flushes_opened, own_core}
use Rattle.fleet_poll.specs.Polls.{poll_of}
use Rattle.fleet_poll.proofs.Opened.{for_all_ok, refused_in}
use Rattle.fleet_poll.proofs.Carried.{on_three}
use Rattle.fleet_poll.proofs.Decided.{by_refusal}
use Rattle.fleet_poll.proofs.poll.Poll.open.Goals as goal

pub returns-in-Some-clause-poll : goal.returns-in-Some-clause-poll
returns-in-Some-clause-poll c = λ flushes input rise same.
    let poll = c.args.self.now in
    let found = record_with c.args.job (own_jobs poll.state) in
    let moves = c.args.options.now.enable_trivial_move in
    subst (λ f. OnOk c.refuse.result (IfSome found (λ made. AllByRecursion (EndsFit input.tables) (taken_tables made.spec (own_core poll.state))
    → poll_of (flushes_opened (rule_number f) moves made (own_core poll.state) flushes) c.refuse.new.self ≡ open_by input (job_of made) (rule_number f) (poll_of flushes poll)))) (sym c.in-Some.is)
    (for_all_ok (λ job. job.id ≡ c.args.job) (λ job. poll_of flushes c.refuse.new.self ≡ open_by input job (Some (number_of c.in-Some.rule)) (poll_of flushes poll)) c.refuse.result
    (refused_in flushes input moves poll c.refuse.new.self c.args.job c.in-Some.rule)
    (c.refuse.ensures.poll flushes input))

pub returns-in-None-clause-poll : goal.returns-in-None-clause-poll
returns-in-None-clause-poll c = λ flushes input rise same.
    let poll = c.args.self.now in
    let found = record_with c.args.job (own_jobs poll.state) in
    let moves = c.args.options.now.enable_trivial_move in
    subst (λ f. OnOk c.open_passed.result (IfSome found (λ made. AllByRecursion (EndsFit input.tables) (taken_tables made.spec (own_core poll.state))
    → poll_of (flushes_opened (rule_number f) moves made (own_core poll.state) flushes) c.open_passed.new.self ≡ open_by input (job_of made) (rule_number f) (poll_of flushes poll)))) (sym c.in-None.is)
    (c.open_passed.ensures.poll flushes input rise same)

pub returns-in-Some-clause-decision : goal.returns-in-Some-clause-decision
returns-in-Some-clause-decision c = on_three c.refuse.result (by_refusal c.args.job c.args.self.now c.refuse.new.self) c.refuse.ensures.same c.refuse.ensures.jobs c.refuse.ensures.lost
