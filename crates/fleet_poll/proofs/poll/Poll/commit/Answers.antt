use Rattle.std.proofs.Common.{◌≡◌, ◌∷◌, [], refl, subst, sym}
use Rattle.std.specs.Prelude.{IfSome, OnOk, Some}
use Rattle.fleet_jobs.specs.Jobs.{job_of}
use Rattle.fleet_model.specs.Work.Polls.{commit_by}
use Rattle.fleet_book.specs.Records.{record_with}
use Rattle.fleet_book.specs.States.{own_jobs}
use Rattle.fleet_gates.specs.Rules.{number_of, rule_number}
use Rattle.fleet_poll.specs.Made.{flushes_committed, own_core}
use Rattle.fleet_poll.specs.Polls.{failed_record, poll_of}
use Rattle.fleet_poll.proofs.Opened.{for_all_ok, of_found}
use Rattle.fleet_poll.proofs.Carried.{changed_others, changed_sees, failed_names, joined_others, joined_sees, on_both}
use Rattle.fleet_poll.proofs.Over.{joined_is_over, lost_is_over}
use Rattle.fleet_poll.proofs.Reached.{on_ok}
use Rattle.fleet_poll.proofs.poll.Poll.commit.Goals as goal

pub returns-in-Some-clause-poll : goal.returns-in-Some-clause-poll
returns-in-Some-clause-poll c = λ flushes input rise floor.
    let poll = c.args.self.now in
    let found = record_with c.args.job (own_jobs poll.state) in
    subst (λ f. OnOk c.lose.result (IfSome found (λ joined. poll_of (flushes_committed (rule_number f) joined (own_core poll.state) flushes) c.lose.new.self ≡ commit_by input (job_of joined) (rule_number f) (poll_of flushes poll)))) (sym c.in-Some.is)
    (for_all_ok (λ job. job.id ≡ c.args.job) (λ job. poll_of flushes c.lose.new.self ≡ commit_by input job (Some (number_of c.in-Some.rule)) (poll_of flushes poll)) c.lose.result
    (of_found (λ job. poll_of flushes c.lose.new.self ≡ commit_by input job (Some (number_of c.in-Some.rule)) (poll_of flushes poll)) c.args.job (own_jobs poll.state))
    (c.lose.ensures.poll flushes input))

pub returns-in-None-clause-poll : goal.returns-in-None-clause-poll
returns-in-None-clause-poll c = λ flushes input rise floor.
    let poll = c.args.self.now in
    let found = record_with c.args.job (own_jobs poll.state) in
    subst (λ f. OnOk c.join.result (IfSome found (λ joined. poll_of (flushes_committed (rule_number f) joined (own_core poll.state) flushes) c.join.new.self ≡ commit_by input (job_of joined) (rule_number f) (poll_of flushes poll)))) (sym c.in-None.is)
    (c.join.ensures.poll flushes input rise floor)

pub returns-in-Some-clause-others : goal.returns-in-Some-clause-others
returns-in-Some-clause-others c =
    on_ok c.lose.result (changed_others failed_record c.args.job c.args.self.now.state c.lose.new.self.state failed_names) c.lose.ensures.jobs

pub returns-in-None-clause-others : goal.returns-in-None-clause-others
returns-in-None-clause-others c =
    let state = c.args.self.now.state in
    on_ok c.join.result (joined_others c.args.job (record_with c.args.job (own_jobs state)) state c.join.new.self.state refl c.requires.there) c.join.ensures.state

pub returns-in-Some-clause-sees : goal.returns-in-Some-clause-sees
returns-in-Some-clause-sees c =
    on_both c.lose.result (λ same jobs. changed_sees failed_record (c.args.job ∷ []) c.args.self.now.state c.lose.new.self.state failed_names same jobs) c.lose.ensures.same c.lose.ensures.jobs

pub returns-in-None-clause-sees : goal.returns-in-None-clause-sees
returns-in-None-clause-sees c =
    let state = c.args.self.now.state in
    on_ok c.join.result (joined_sees c.args.job (record_with c.args.job (own_jobs state)) state c.join.new.self.state refl c.requires.there) c.join.ensures.state

pub returns-in-Some-clause-lost : goal.returns-in-Some-clause-lost
returns-in-Some-clause-lost c =
    on_both c.lose.result (λ jobs more. lost_is_over c.args.job (number_of c.in-Some.rule) c.args.self.now c.lose.new.self c.requires.there jobs more) c.lose.ensures.jobs c.lose.ensures.lost

pub returns-in-None-clause-lost : goal.returns-in-None-clause-lost
returns-in-None-clause-lost c =
    let poll = c.args.self.now in
    on_both c.join.result (joined_is_over c.args.job (record_with c.args.job (own_jobs poll.state)) poll c.join.new.self refl c.requires.there) c.join.ensures.state c.join.ensures.lost
