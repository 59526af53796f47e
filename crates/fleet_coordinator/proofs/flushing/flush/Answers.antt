use Rattle.std.proofs.Common.{◌∙◌, ap, sym, subst, option_map}
use Rattle.std.proofs.lemmas.Result.{err_from_is_err_and}
use Rattle.step_model.specs.Steps.FlushSteps.{flush}
use Rattle.fleet_step.proofs.Steps.{wants}
use Rattle.fleet_coordinator.specs.Flushes.{MayFlush, ask_of, ends, fault_of}
use Rattle.fleet_coordinator.proofs.Flushes as law
use Rattle.fleet_coordinator.proofs.flushing.flush.Goals as goal

pub returns-in-Some-clause-ran : goal.returns-in-Some-clause-ran
returns-in-Some-clause-ran g c = law.bad_flush (g.S.Store.view c.args.store.now) c.args.moment c.args.retention_ms c.args.last_name (ask_of c.args.ask) c.in-Some.fault (sym (ap (option_map fault_of) c.in-Some.is) ∙ c.fault_before_get.ensures.fault)

pub returns-in_err-flush-clause-ran : goal.returns-in_err-flush-clause-ran
returns-in_err-flush-clause-ran g c =
    let p = err_from_is_err_and c.from_residual.result c.from_residual.ensures.1 in
    rw (p.1, p.2, c.in_err-flush.ensures.memory) (wants ends (flush c.args.moment c.args.retention_ms c.args.last_name (ask_of c.args.ask)) (g.S.Store.view c.args.store.now))

pub all_tries-requires-clause-may : goal.all_tries-requires-clause-may
all_tries-requires-clause-may g c =
    subst (MayFlush (g.S.Store.view c.args.store.now) c.args.moment c.args.retention_ms) (sym c.in_ok-flush.ensures.flush.same)
    (law.may_flush (g.S.Store.view c.args.store.now) c.args.moment c.args.retention_ms c.args.last_name (ask_of c.args.ask) (g.met.S.Store.lawful _) c.requires.by c.requires.keeps c.requires.may c.requires.names (sym (ap (option_map fault_of) c.in_default.is) ∙ c.fault_before_get.ensures.fault))

pub returns-clause-ran : goal.returns-clause-ran
returns-clause-ran g c =
    law.ran_tries (g.S.Store.view c.args.store.now) _ c.args.moment c.args.retention_ms c.args.last_name (ask_of c.args.ask) _ c.all_tries.result (sym (ap (option_map fault_of) c.in_default.is) ∙ c.fault_before_get.ensures.fault)
    c.in_ok-flush.ensures.flush.same c.all_tries.ensures

pub returns-clause-keeps : goal.returns-clause-keeps
returns-clause-keeps g c =
    law.flushed_keeps (g.S.Store.view c.args.store.now) _ c.args.moment c.args.retention_ms c.args.last_name (ask_of c.args.ask) c.all_tries.result c.requires.by (g.met.S.Store.lawful _) c.requires.keeps c.requires.may c.requires.names (returns-clause-ran g c)
