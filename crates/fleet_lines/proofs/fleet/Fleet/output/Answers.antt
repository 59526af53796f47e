use Rattle.std.proofs.Common.{◌≡◌, ◌∙◌, sym, ap, subst, length, ℕ, List, arith}
use Rattle.std.specs.Prelude.{OnErr}
use Rattle.std.specs.Option.{option_copied}
use Rattle.fleet_jobs.specs.Parts.ContextParts.{ContextParts}
use Rattle.fleet_worker.specs.Outputs.{left_by}
use Rattle.fleet_worker.specs.Workers.{WorkerParts, ranges_at}
use Rattle.fleet_lines.specs.Fleets.{FleetParts, state_of}
use Rattle.fleet_lines.specs.Work.{OutputMade, attempt_named}
use Rattle.fleet_lines.proofs.Attempts.{ranges_named, runs_named}
use Rattle.fleet_lines.proofs.Named.{differ_seen, taken_found}
use Rattle.fleet_lines.proofs.OutputLines.{no_attempt, no_place, no_worker, output_said}
use Rattle.fleet_lines.proofs.fleet.Fleet.output.Goals as goal

pub returns-in_default-clause-served : goal.returns-in_default-clause-served
returns-in_default-clause-served g c = λ scheduler.
    no_attempt (record { merge = g.O.MergeOperator.merged (g.O.MergeOperator.settings c.args.operator.now); scheduler = scheduler }) c.args.number c.args.worker c.args.job c.args.range c.args.rows c.args.self.now _ c.requires.stands c.self.view_is (option_copied c.attempt_named.result) c.no_such_party.result
    (c.attempt_named.ensures ∙ ap (λ (ws : List WorkerParts). attempt_named ws c.args.worker c.args.job) c.as_slice.ensures.value) (ap option_copied c.in_default.is) c.no_such_party.ensures.reply

pub returns-then-range-ranges_len-clause-served : goal.returns-then-range-ranges_len-clause-served
returns-then-range-ranges_len-clause-served g c = λ scheduler.
    no_place (record { merge = g.O.MergeOperator.merged (g.O.MergeOperator.settings c.args.operator.now); scheduler = scheduler }) c.args.number c.args.worker c.args.job c.args.range c.args.rows c.args.self.now _ c.requires.stands c.self.view_is c.in-Some.attempt.now (option_copied c.attempt_named.result) c.no_such_party-then-range-ranges_len.result
    (c.attempt_named.ensures ∙ ap (λ (ws : List WorkerParts). attempt_named ws c.args.worker c.args.job) c.as_slice.ensures.value) (ap option_copied c.in-Some.is)
    (omega (arith, c.if-range-ranges_len.true, c.ranges_len.ensures ∙ ap (λ (x : ContextParts). length x.ranges) c.ctx.ensures)) c.no_such_party-then-range-ranges_len.ensures.reply

pub take_worker-requires : goal.take_worker-requires
take_worker-requires g c = differ_seen _ c.args.self.now _ c.self.view_is c.requires.stands

pub returns-in_default-take_worker-clause-served : goal.returns-in_default-take_worker-clause-served
returns-in_default-take_worker-clause-served g c = λ scheduler.
    no_worker (record { merge = g.O.MergeOperator.merged (g.O.MergeOperator.settings c.args.operator.now); scheduler = scheduler }) c.args.number c.args.worker c.args.job c.args.range c.args.rows c.args.self.now _ c.requires.stands c.self.view_is c.take_worker.result c.take_worker.new.workers.items c.no_such_party-in_default-take_worker.result
    c.take_worker.ensures.found c.take_worker.ensures.others c.in_default-take_worker.is c.no_such_party-in_default-take_worker.ensures.reply

pub written-written-requires-clause-running : goal.written-written-requires-clause-running
written-written-requires-clause-running g c κs within = (taken_found _ c.args.worker c.args.self.now _ c.take_worker.result c.in-Some-take_worker.worker c.self.view_is c.requires.stands c.take_worker.ensures.found c.in-Some-take_worker.is).runs

pub written-written-requires-clause-may : goal.written-written-requires-clause-may
written-written-requires-clause-may g c κs within = (taken_found _ c.args.worker c.args.self.now _ c.take_worker.result c.in-Some-take_worker.worker c.self.view_is c.requires.stands c.take_worker.ensures.found c.in-Some-take_worker.is).may

pub written-written-requires-clause-runs : goal.written-written-requires-clause-runs
written-written-requires-clause-runs g c κs within =
    let w : WorkerParts = c.in-Some-take_worker.worker in
    let found = c.attempt_named.ensures ∙ ap (λ (ws : List WorkerParts). attempt_named ws c.args.worker c.args.job) c.as_slice.ensures.value in
    let run = runs_named _ c.args.worker c.args.job w c.in-Some.attempt.now (sym c.take_worker.ensures.found ∙ c.in-Some-take_worker.is) (sym found ∙ ap option_copied c.in-Some.is) in
    (length c.in-Some.attempt.now.ctx.ranges, (ap (ranges_at w.attempts) c.job-job.ensures ∙ ranges_named w c.args.job c.in-Some.attempt.now run, (c.requires.counted, omega (arith, c.if-range-ranges_len.false, c.ranges_len.ensures ∙ ap (λ (x : ContextParts). length x.ranges) c.ctx.ensures))))

pub returns-clause-served : goal.returns-clause-served
returns-clause-served g c = λ scheduler.
    let old : FleetParts = c.args.self.now in
    let w : WorkerParts = c.in-Some-take_worker.worker in
    let result = c.written-written.result in
    output_said (record { merge = g.O.MergeOperator.merged (g.O.MergeOperator.settings c.args.operator.now); scheduler = scheduler }) c.args.number c.args.worker c.args.job c.args.range c.args.rows c.args.self.now _ c.requires.stands c.self.view_is c.in-Some.attempt.now (option_copied c.attempt_named.result) c.take_worker.result
    c.in-Some-take_worker.worker c.written-written.new.worker c.take_worker.new.workers.items c.keep_worker.new.workers.items c.written-written.new.store c.written-written.result c.output_reply.result ((g.met.O.MergeOperator g.world.𝓛 g.world.𝓜 g.world.𝓡 ((λ s x. x), (λ x. x), (λ x. x), λ x. x)).lawful _)
    (c.attempt_named.ensures ∙ ap (λ (ws : List WorkerParts). attempt_named ws c.args.worker c.args.job) c.as_slice.ensures.value) (ap option_copied c.in-Some.is) c.take_worker.ensures.found c.take_worker.ensures.others c.in-Some-take_worker.is c.written-written.ensures.stopped c.written-written.ensures.same
    (subst (λ (job : ℕ). OnErr result (c.written-written.new.worker.attempts ≡ left_by result job w.attempts)) c.job-job.ensures c.written-written.ensures.err) c.written-written.ensures.may
    (subst (λ (job : ℕ). OutputMade (record { merge = g.O.MergeOperator.merged (g.O.MergeOperator.settings c.args.operator.now); scheduler = scheduler }) (state_of old) c.args.number w c.self.inside.store c.written-written.new.store c.written-written.new.worker.attempts c.args.range c.args.rows result job) c.job-job.ensures
    (c.written-written.ensures.made scheduler (state_of old) (sym (ap (λ (f : FleetParts). f.moment) c.self.view_is)) (sym (ap (λ (f : FleetParts). f.store.world.store) c.self.view_is))))
    c.in_ok-keep_worker.ensures.items c.output_reply.ensures.says
