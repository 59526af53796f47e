use Rattle.std.proofs.Common.{◌∙◌, refl, sym, ap, subst, ℕ, List, Option}
use Rattle.std.specs.Prelude.{IsSome}
use Rattle.std.specs.Option.{option_copied}
use Rattle.fleet_worker.specs.Finishing.{left_finished}
use Rattle.fleet_worker.specs.Workers.{WorkerParts, ranges_at}
use Rattle.fleet_lines.specs.Fleets.{FleetParts, state_of}
use Rattle.fleet_lines.specs.Work.{FinishMade, attempt_named}
use Rattle.fleet_lines.proofs.Attempts.{ranges_named, runs_named}
use Rattle.fleet_lines.proofs.FinishLines.{finish_said, no_attempt, no_worker}
use Rattle.fleet_lines.proofs.Named.{differ_seen, taken_found}
use Rattle.fleet_lines.proofs.fleet.Fleet.finish.Goals as goal

pub returns-in_default-clause-served : goal.returns-in_default-clause-served
returns-in_default-clause-served g c = λ scheduler.
    no_attempt (record { merge = g.O.MergeOperator.merged (g.O.MergeOperator.settings c.args.operator.now); scheduler = scheduler }) c.args.number c.args.worker c.args.job c.args.self.now _ c.requires c.self.view_is (option_copied c.attempt_named.result) c.no_such_party.result
    (c.attempt_named.ensures ∙ ap (λ (ws : List WorkerParts). attempt_named ws c.args.worker c.args.job) c.as_slice.ensures.value) (ap option_copied c.in_default.is) c.no_such_party.ensures.reply

pub take_worker-requires : goal.take_worker-requires
take_worker-requires g c = differ_seen _ c.args.self.now _ c.self.view_is c.requires

pub returns-in_default-take_worker-clause-served : goal.returns-in_default-take_worker-clause-served
returns-in_default-take_worker-clause-served g c = λ scheduler.
    no_worker (record { merge = g.O.MergeOperator.merged (g.O.MergeOperator.settings c.args.operator.now); scheduler = scheduler }) c.args.number c.args.worker c.args.job c.args.self.now _ c.requires c.self.view_is c.take_worker.result c.take_worker.new.workers.items c.no_such_party-in_default-take_worker.result
    c.take_worker.ensures.found c.take_worker.ensures.others c.in_default-take_worker.is c.no_such_party-in_default-take_worker.ensures.reply

pub finished-finished-requires-clause-running : goal.finished-finished-requires-clause-running
finished-finished-requires-clause-running g c κs within = (taken_found _ c.args.worker c.args.self.now _ c.take_worker.result c.in-Some-take_worker.worker c.self.view_is c.requires c.take_worker.ensures.found c.in-Some-take_worker.is).runs

pub finished-finished-requires-clause-may : goal.finished-finished-requires-clause-may
finished-finished-requires-clause-may g c κs within = (taken_found _ c.args.worker c.args.self.now _ c.take_worker.result c.in-Some-take_worker.worker c.self.view_is c.requires c.take_worker.ensures.found c.in-Some-take_worker.is).may

pub finished-finished-requires-clause-runs : goal.finished-finished-requires-clause-runs
finished-finished-requires-clause-runs g c κs within =
    let w : WorkerParts = c.in-Some-take_worker.worker in
    let found = c.attempt_named.ensures ∙ ap (λ (ws : List WorkerParts). attempt_named ws c.args.worker c.args.job) c.as_slice.ensures.value in
    let run = runs_named _ c.args.worker c.args.job w c.in-Some.attempt.now (sym c.take_worker.ensures.found ∙ c.in-Some-take_worker.is) (sym found ∙ ap option_copied c.in-Some.is) in
    subst (λ (o : Option ℕ). IsSome o) (sym (ap (ranges_at w.attempts) c.job-job.ensures ∙ ranges_named w c.args.job c.in-Some.attempt.now run)) refl

pub returns-clause-served : goal.returns-clause-served
returns-clause-served g c = λ scheduler.
    let old : FleetParts = c.args.self.now in
    let w : WorkerParts = c.in-Some-take_worker.worker in
    let result = c.finished-finished.result in
    finish_said (record { merge = g.O.MergeOperator.merged (g.O.MergeOperator.settings c.args.operator.now); scheduler = scheduler }) c.args.number c.args.worker c.args.job c.args.self.now _ c.requires c.self.view_is c.in-Some.attempt.now (option_copied c.attempt_named.result) c.take_worker.result
    c.in-Some-take_worker.worker c.finished-finished.new.worker c.take_worker.new.workers.items c.keep_worker.new.workers.items c.finished-finished.new.store c.finished-finished.result c.finish_reply.result ((g.met.O.MergeOperator g.world.𝓛 g.world.𝓜 g.world.𝓡 ((λ s x. x), (λ x. x), (λ x. x), λ x. x)).lawful _)
    (c.attempt_named.ensures ∙ ap (λ (ws : List WorkerParts). attempt_named ws c.args.worker c.args.job) c.as_slice.ensures.value) (ap option_copied c.in-Some.is) c.take_worker.ensures.found c.take_worker.ensures.others c.in-Some-take_worker.is c.finished-finished.ensures.stopped c.finished-finished.ensures.same
    (c.finished-finished.ensures.left ∙ ap (λ (job : ℕ). left_finished result job w.attempts) c.job-job.ensures) c.finished-finished.ensures.may
    (subst (λ (job : ℕ). FinishMade (record { merge = g.O.MergeOperator.merged (g.O.MergeOperator.settings c.args.operator.now); scheduler = scheduler }) (state_of old) c.args.number w c.self.inside.store c.finished-finished.new.store c.finished-finished.new.worker.attempts result job) c.job-job.ensures
    (c.finished-finished.ensures.made scheduler (state_of old) (sym (ap (λ (f : FleetParts). f.moment) c.self.view_is)) (sym (ap (λ (f : FleetParts). f.options.worker.max_sst_size) c.self.view_is)) (sym (ap (λ (f : FleetParts). f.store.world.store) c.self.view_is))))
    c.in_ok-keep_worker.ensures.items c.finish_reply.ensures.says
