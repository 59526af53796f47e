use Rattle.std.proofs.Common.{refl}
use Rattle.std.proofs.lemmas.Result.{err_from_is_err_and}
use Rattle.step_model.specs.Courses.Tries.{counted_tries}
use Rattle.step_model.specs.Steps.PollSteps.{poll_try}
use Rattle.fleet_coordinator.specs.Polling.{ask_of}
use Rattle.fleet_coordinator.proofs.PollBegins as begin
use Rattle.fleet_coordinator.proofs.PollRuns as law
use Rattle.fleet_coordinator.proofs.polling.try_poll.Goals as goal

pub get_poll-requires : goal.get_poll-requires
get_poll-requires g c = record { ready = c.requires.may.ready }

pub returns-in_err-poll : goal.returns-in_err-poll
returns-in_err-poll g c =
    let s = (goal.CompactionScheduler-dyn g c.args.scheduler.now).answers c.args.scheduler.now.1 in
    let ask = ask_of s c.args.options.now c.args.turn in
    let p = err_from_is_err_and c.from_residual.result c.from_residual.ensures.1 in
    rw (p.1, p.2) (c.in_err-poll.ensures.failed ask c.args.left c.args.seen (counted_tries (poll_try ask) c.args.left) refl)

pub first_steps-requires : goal.first_steps-requires
first_steps-requires g c =
    let s = (goal.CompactionScheduler-dyn g c.args.scheduler.now).answers c.args.scheduler.now.1 in
    begin.may_begin _ _ s c.args.options.now c.args.turn (g.met.S.Store.lawful _) c.requires.may.ready _ c.in_ok-poll.ensures.got

pub returns-in_err-first_steps : goal.returns-in_err-first_steps
returns-in_err-first_steps g c =
    let s = (goal.CompactionScheduler-dyn g c.args.scheduler.now).answers c.args.scheduler.now.1 in
    let p = err_from_is_err_and c.from_residual-in_err-first_steps.result c.from_residual-in_err-first_steps.ensures.1 in
    rw (p.1, p.2, c.in_err-first_steps.ensures.memory)
    (law.lacks_first _ _ s c.args.options.now c.args.turn c.args.left c.args.seen (g.met.S.Store.lawful _) c.requires.may c.in_ok-poll.field-0 c.in_ok-poll.ensures.got)

pub returns-in_err-specs : goal.returns-in_err-specs
returns-in_err-specs g c =
    let s = (goal.CompactionScheduler-dyn g c.args.scheduler.now).answers c.args.scheduler.now.1 in
    let p = err_from_is_err_and c.from_residual-in_err-specs.result c.from_residual-in_err-specs.ensures.1 in
    rw (p.1, p.2, c.in_err-specs.ensures.memory)
    (law.lacks_first _ _ s c.args.options.now c.args.turn c.args.left c.args.seen (g.met.S.Store.lawful _) c.requires.may c.in_ok-poll.field-0 c.in_ok-poll.ensures.got)

pub returns-in_err-drawn : goal.returns-in_err-drawn
returns-in_err-drawn g c =
    let s = (goal.CompactionScheduler-dyn g c.args.scheduler.now).answers c.args.scheduler.now.1 in
    let p = err_from_is_err_and c.from_residual-in_err-drawn.result c.from_residual-in_err-drawn.ensures.1 in
    rw (p.1, p.2)
    (law.draws_fail _ _ s c.args.options.now c.args.turn c.args.left c.args.seen (g.met.S.Store.lawful _) c.requires.may c.in_ok-poll.field-0 c.in_ok-poll.ensures.got
    c.first_steps.new.self c.in_ok-first_steps.ensures.poll c.in_ok-first_steps.ensures.sees c.in_ok-specs.specs.items c.in_ok-specs.ensures.specs
    _ c.in_err-drawn.field-0.0 (rw c.as_slice.ensures.value at c.in_err-drawn.ensures.failed))

pub last_steps-requires-clause-drawn : goal.last_steps-requires-clause-drawn
last_steps-requires-clause-drawn g c =
    let s = (goal.CompactionScheduler-dyn g c.args.scheduler.now).answers c.args.scheduler.now.1 in
    let drawn = rw c.as_slice.ensures.value at c.in_ok-drawn.ensures.drawn in
    rw c.as_slice-2.ensures.value
    (law.are_new _ _ s c.args.options.now c.args.turn c.args.left c.args.seen (g.met.S.Store.lawful _) c.requires.may c.in_ok-poll.field-0 c.in_ok-poll.ensures.got
    c.first_steps.new.self c.in_ok-first_steps.ensures.poll c.in_ok-first_steps.ensures.sees c.in_ok-specs.specs.items c.in_ok-specs.ensures.specs _ c.in_ok-drawn.drawn.items drawn)

pub last_steps-requires-clause-lost : goal.last_steps-requires-clause-lost
last_steps-requires-clause-lost g c =
    let s = (goal.CompactionScheduler-dyn g c.args.scheduler.now).answers c.args.scheduler.now.1 in
    c.in_ok-first_steps.ensures.lost
    (begin.none_lost _ _ s c.args.options.now c.args.turn (g.met.S.Store.lawful _) c.requires.may.ready c.in_ok-poll.field-0 c.in_ok-poll.ensures.got)

pub returns-in_err-last_steps : goal.returns-in_err-last_steps
returns-in_err-last_steps g c =
    let s = (goal.CompactionScheduler-dyn g c.args.scheduler.now).answers c.args.scheduler.now.1 in
    let drawn = rw c.as_slice.ensures.value at c.in_ok-drawn.ensures.drawn in
    let p = err_from_is_err_and c.from_residual-in_err-last_steps.result c.from_residual-in_err-last_steps.ensures.1 in
    rw (p.1, p.2, c.in_err-last_steps.ensures.memory)
    (law.lacks_last _ _ s c.args.options.now c.args.turn c.args.left c.args.seen (g.met.S.Store.lawful _) c.requires.may c.in_ok-poll.field-0 c.in_ok-poll.ensures.got
    c.first_steps.new.self c.in_ok-first_steps.ensures.poll c.in_ok-first_steps.ensures.sees c.in_ok-specs.specs.items c.in_ok-specs.ensures.specs _ c.in_ok-drawn.drawn.items drawn)

pub put_poll-requires : goal.put_poll-requires
put_poll-requires g c =
    let s = (goal.CompactionScheduler-dyn g c.args.scheduler.now).answers c.args.scheduler.now.1 in
    let drawn = rw c.as_slice.ensures.value at c.in_ok-drawn.ensures.drawn in
    let opens = rw c.as_slice-2.ensures.value at c.in_ok-last_steps.ensures.poll in
    record {
      may = law.may_put _ _ s c.args.options.now c.args.turn c.args.left c.args.seen (g.met.S.Store.lawful _) c.requires.may c.in_ok-poll.field-0 c.in_ok-poll.ensures.got
          c.first_steps.new.self c.in_ok-first_steps.ensures.poll c.in_ok-first_steps.ensures.sees c.in_ok-specs.specs.items c.in_ok-specs.ensures.specs _ c.in_ok-drawn.drawn.items drawn
          c.last_steps.new.self opens c.in_ok-last_steps.ensures.sees;
    }

pub returns : goal.returns
returns g c =
    let s = (goal.CompactionScheduler-dyn g c.args.scheduler.now).answers c.args.scheduler.now.1 in
    let drawn = rw c.as_slice.ensures.value at c.in_ok-drawn.ensures.drawn in
    let opens = rw c.as_slice-2.ensures.value at c.in_ok-last_steps.ensures.poll in
    law.puts_end _ _ s c.args.options.now c.args.turn c.args.left c.args.seen (g.met.S.Store.lawful _) c.requires.may c.in_ok-poll.field-0 c.in_ok-poll.ensures.got
    c.first_steps.new.self c.in_ok-first_steps.ensures.poll c.in_ok-first_steps.ensures.sees c.in_ok-specs.specs.items c.in_ok-specs.ensures.specs _ c.in_ok-drawn.drawn.items drawn
    c.last_steps.new.self opens c.in_ok-last_steps.ensures.sees
    _ c.put_poll.result c.put_poll.ensures
