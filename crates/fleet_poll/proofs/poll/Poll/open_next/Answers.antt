use Rattle.std.proofs.Common.{refl, subst}
use Rattle.fleet_book.specs.Records.{AreRising, record_with}
use Rattle.fleet_book.specs.States.{own_jobs}
use Rattle.fleet_poll.proofs.Next.{all_decide, held_next, not_compacted, reached_next}
use Rattle.fleet_poll.proofs.poll.Poll.open_next.Goals as goal

pub open_shown-requires-clause-not_compacted : goal.open_shown-requires-clause-not_compacted
open_shown-requires-clause-not_compacted g c = not_compacted (record_with c.args.job (own_jobs c.args.self.now.state)) c.requires.submitted

pub open_shown-requires-clause-held : goal.open_shown-requires-clause-held
open_shown-requires-clause-held g c =
    let rising = subst (λ v. AreRising v.compactions.jobs) c.compactions.ensures c.know_rising.ensures in
    all_decide c.args.job c.args.self.now c.args.held.now rising c.requires.submitted c.requires.lost c.requires.held

pub returns-clause-poll : goal.returns-clause-poll
returns-clause-poll g c = λ flushes input sees same.
    let poll = c.args.self.now in
    let s = (goal.CompactionScheduler-dyn g c.args.scheduler.now).answers c.args.scheduler.now.1 in
    reached_next flushes input s c.args.options.now.enable_trivial_move poll c.open_shown.new.self (record_with c.args.job (own_jobs poll.state)) sees (c.in_ok-open_shown.ensures.poll flushes input sees.prefixes same)

pub returns-clause-held : goal.returns-clause-held
returns-clause-held g c =
    let poll = c.args.self.now in
    let rising = subst (λ v. AreRising v.compactions.jobs) c.compactions.ensures c.know_rising.ensures in
    held_next c.args.job poll c.open_shown.new.self c.args.held.now c.add_nodes.new.held (record_with c.args.job (own_jobs poll.state)) refl c.requires.there rising c.requires.submitted c.requires.lost c.requires.held
    c.in_ok-open_shown.ensures.decision c.in_ok-add_nodes.ensures
