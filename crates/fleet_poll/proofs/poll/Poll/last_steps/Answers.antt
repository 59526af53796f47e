use Rattle.fleet_history.specs.Changes.{new_specs}
use Rattle.fleet_poll.proofs.Stepped.{opens_after, sees_after, stays_as_it_is}
use Rattle.fleet_poll.proofs.poll.Poll.last_steps.Goals.{then-opens+in_ok-add_drawn+in_ok-open_all_submitted, else-opens}
use Rattle.fleet_poll.proofs.poll.Poll.last_steps.Goals as goal

pub returns-clause-poll : goal.returns-clause-poll
returns-clause-poll g c = λ flushes input sees same.
    let s = (goal.CompactionScheduler-dyn g c.args.scheduler.now).answers c.args.scheduler.now.1 in
    let drawn = new_specs c.args.drawn.now in
    let here = c.if-opens.self in
    elim c.if-opens.branch [
      | then-opens+in_ok-add_drawn+in_ok-open_all_submitted w ↦
          opens_after flushes input c.args.commits_only drawn c.args.self.now w.add_drawn.new.self w.open_all_submitted.new.self here w.if-opens.true (w.in_ok-add_drawn.ensures.poll flushes)
          (w.in_ok-open_all_submitted.ensures.poll flushes input (w.in_ok-add_drawn.ensures.sees input s sees) same) w.self-is
      | else-opens w ↦ stays_as_it_is flushes input c.args.commits_only drawn c.args.self.now here w.if-opens.false w.self-is
    ]

pub returns-clause-sees : goal.returns-clause-sees
returns-clause-sees g c = λ input sees same.
    let s = (goal.CompactionScheduler-dyn g c.args.scheduler.now).answers c.args.scheduler.now.1 in
    let here = c.if-opens.self in
    elim c.if-opens.branch [
      | then-opens+in_ok-add_drawn+in_ok-open_all_submitted w ↦
          sees_after input s w.open_all_submitted.new.self here (w.in_ok-open_all_submitted.ensures.sees input (w.in_ok-add_drawn.ensures.sees input s sees) same) w.self-is
      | else-opens w ↦ sees_after input s c.args.self.now here sees w.self-is
    ]
