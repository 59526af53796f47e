use Rattle.std.proofs.Common.{◌∙◌, ap, cond, sym}
use Rattle.fleet_model.specs.Work.Polls.{free_stale}
use Rattle.fleet_poll.specs.Polls.{poll_of, waiting_record}
use Rattle.fleet_poll.proofs.Carried.{changed_sees, on_both, waiting_names}
use Rattle.fleet_poll.proofs.Reached.{on_ok}
use Rattle.fleet_poll.proofs.poll.Poll.free_unless.Goals as goal

pub returns-clause-sees : goal.returns-clause-sees
returns-clause-sees c =
    on_both c.free_stale.result (λ same jobs. changed_sees waiting_record c.free_stale.new.self.freed c.args.self.now.state c.free_stale.new.self.state waiting_names same jobs) c.free_stale.ensures.same c.free_stale.ensures.jobs

pub returns-clause-poll : goal.returns-clause-poll
returns-clause-poll c = λ flushes input stale.
    let p = poll_of flushes c.args.self.now in
    on_ok c.free_stale.result (λ is. is ∙ sym (ap (λ b. cond b p (free_stale input p)) c.if-commits_only.false)) (c.free_stale.ensures.poll flushes input stale.timeout stale.moment_is)
