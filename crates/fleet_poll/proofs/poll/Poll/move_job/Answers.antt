use Rattle.std.proofs.Common.{◌∙◌, ap, refl, subst, sym}
use Rattle.std.specs.Prelude.{is_some}
use Rattle.fleet_book.specs.Records.{AreRising, record_with}
use Rattle.fleet_book.specs.States.{own_jobs}
use Rattle.fleet_poll.proofs.Finished.{moved_in, moved_makes}
use Rattle.fleet_poll.proofs.Movable.{movable_in}
use Rattle.fleet_poll.proofs.poll.Poll.move_job.Goals as goal

pub finish_compaction-requires-clause-run : goal.finish_compaction-requires-clause-run
finish_compaction-requires-clause-run c =
    let state = c.args.self.now.state in
    moved_makes (record_with c.args.job (own_jobs state)) state.manifest.manifest.core c.in-Some.run' (sym c.in-Some.is ∙ c.in_ok-run.ensures.run)

pub returns-clause-poll : goal.returns-clause-poll
returns-clause-poll c = λ flushes input rise is_moved.
    let poll = c.args.self.now in
    let rising = subst (λ v. AreRising v.compactions.jobs) c.compactions.ensures c.know_rising.ensures in
    moved_in flushes input poll c.finish_compaction.new.self c.push.new.self c.push-2.new.self c.args.job (record_with c.args.job (own_jobs poll.state)) c.in-Some.run' rising refl c.requires.not_compacted c.requires.stand
    (sym c.in-Some.is ∙ c.in_ok-run.ensures.run) c.in_ok-finish_compaction.ensures.ok c.in_ok-push.ensures.ok c.in_ok-push-2.ensures.ok rise

pub returns-in_default-clause-can_move : goal.returns-in_default-clause-can_move
returns-in_default-clause-can_move c = λ flushes input allowed.
    let state = c.args.self.now.state in
    movable_in flushes input (record_with c.args.job (own_jobs state)) state.manifest.manifest.core _ c.requires.stand allowed (ap is_some (sym c.in_default.is ∙ c.in_ok-run.ensures.run))

pub returns-clause-can_move : goal.returns-clause-can_move
returns-clause-can_move c = λ flushes input allowed.
    let state = c.args.self.now.state in
    movable_in flushes input (record_with c.args.job (own_jobs state)) state.manifest.manifest.core _ c.requires.stand allowed (ap is_some (sym c.in-Some.is ∙ c.in_ok-run.ensures.run))
