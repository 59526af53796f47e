use Rattle.std.proofs.Common.{◌∙◌, sym, ap, subst, List, Ok}
use Rattle.std.specs.Option.{option_copied}
use Rattle.std.proofs.lemmas.Result.{err_from_is_err_and}
use Rattle.fleet_worker.specs.Outputs.{Writes}
use Rattle.fleet_worker.specs.Workers.{AttemptParts, WorkerParts, run_at}
use Rattle.fleet_worker.proofs.RunAttempts.{run_here}
use Rattle.fleet_worker.proofs.OutputParts.{failed_out, has_range, lacked_out, none_out, runs_one, some_out}
use Rattle.fleet_worker.proofs.worker.Worker.outputs.Goals as goal

pub unreachable-requires : goal.unreachable-requires
unreachable-requires g c =
    let w = c.args.self.now in
    let all = c.as_slice.ensures ∙ ap (λ (w : WorkerParts). w.attempts) c.self.view_is in
    runs_one w c.args.job c.args.range c.requires.runs (ap (λ (xs : List AttemptParts). run_at xs c.args.job) (sym all) ∙ (sym c.run_at.ensures ∙ ap option_copied c.in_default.is))

pub write_or_return-requires-clause-runs : goal.write_or_return-requires-clause-runs
write_or_return-requires-clause-runs g c κs within =
    let w = c.args.self.now in
    let a = c.in-Some.attempt.now in
    let all = c.as_slice.ensures ∙ ap (λ (w : WorkerParts). w.attempts) c.self.view_is in
    let run = ap (λ (xs : List AttemptParts). run_at xs c.args.job) (sym all) ∙ (sym c.run_at.ensures ∙ ap option_copied c.in-Some.is) in
    run_here w.attempts c.args.job a run

pub write_or_return-requires-clause-counted : goal.write_or_return-requires-clause-counted
write_or_return-requires-clause-counted g c κs within =
    let w = c.args.self.now in
    let a = c.in-Some.attempt.now in
    let all = c.as_slice.ensures ∙ ap (λ (w : WorkerParts). w.attempts) c.self.view_is in
    let run = ap (λ (xs : List AttemptParts). run_at xs c.args.job) (sym all) ∙ (sym c.run_at.ensures ∙ ap option_copied c.in-Some.is) in
    (has_range w c.args.job c.args.range a c.requires.runs run).0

pub write_or_return-requires-clause-there : goal.write_or_return-requires-clause-there
write_or_return-requires-clause-there g c κs within =
    let w = c.args.self.now in
    let a = c.in-Some.attempt.now in
    let all = c.as_slice.ensures ∙ ap (λ (w : WorkerParts). w.attempts) c.self.view_is in
    let run = ap (λ (xs : List AttemptParts). run_at xs c.args.job) (sym all) ∙ (sym c.run_at.ensures ∙ ap option_copied c.in-Some.is) in
    (has_range w c.args.job c.args.range a c.requires.runs run).1

pub returns-in_err-written-clause-ran : goal.returns-in_err-written-clause-ran
returns-in_err-written-clause-ran g c =
    let w = c.args.self.now in
    let a = c.in-Some.attempt.now in
    let old = g.S.Store.view c.args.store.now in
    let new = g.S.Store.view c.write_or_return.new.store in
    let all = c.as_slice.ensures ∙ ap (λ (w : WorkerParts). w.attempts) c.self.view_is in
    let run = ap (λ (xs : List AttemptParts). run_at xs c.args.job) (sym all) ∙ (sym c.run_at.ensures ∙ ap option_copied c.in-Some.is) in
    let has = has_range w c.args.job c.args.range a c.requires.runs run in
    let p = err_from_is_err_and c.from_residual.result c.from_residual.ensures.1 in
    rw (p.1, p.2) (failed_out c.args.moment w c.args.job c.args.range c.args.rows old new a run has.0 has.1 c.in_err-written.field-0.0 c.in_err-written.ensures.wrote)

pub returns-in_default-written-clause-ran : goal.returns-in_default-written-clause-ran
returns-in_default-written-clause-ran g c =
    let w = c.args.self.now in
    let a = c.in-Some.attempt.now in
    let old = g.S.Store.view c.args.store.now in
    let new = g.S.Store.view c.write_or_return.new.store in
    let all = c.as_slice.ensures ∙ ap (λ (w : WorkerParts). w.attempts) c.self.view_is in
    let run = ap (λ (xs : List AttemptParts). run_at xs c.args.job) (sym all) ∙ (sym c.run_at.ensures ∙ ap option_copied c.in-Some.is) in
    let has = has_range w c.args.job c.args.range a c.requires.runs run in
    none_out c.args.moment w c.args.job c.args.range c.args.rows old new a run has.0 has.1 (subst (Writes c.args.moment w c.args.range c.args.rows old new a) (ap Ok c.in_default-written.is) c.in_ok-written.ensures.wrote)

pub returns-in_err-clone-clause-ran : goal.returns-in_err-clone-clause-ran
returns-in_err-clone-clause-ran g c =
    let w = c.args.self.now in
    let a = c.in-Some.attempt.now in
    let old = g.S.Store.view c.args.store.now in
    let new = g.S.Store.view c.write_or_return.new.store in
    let all = c.as_slice.ensures ∙ ap (λ (w : WorkerParts). w.attempts) c.self.view_is in
    let run = ap (λ (xs : List AttemptParts). run_at xs c.args.job) (sym all) ∙ (sym c.run_at.ensures ∙ ap option_copied c.in-Some.is) in
    let has = has_range w c.args.job c.args.range a c.requires.runs run in
    let p = err_from_is_err_and c.from_residual-in_err-clone.result c.from_residual-in_err-clone.ensures.1 in
    rw (p.1, p.2, c.in_err-clone.ensures.memory) (lacked_out c.args.moment w c.args.job c.args.range c.args.rows old new a run has.0 has.1 c.in_ok-written.written c.in_ok-written.ensures.wrote)

pub noting-requires-clause-runs : goal.noting-requires-clause-runs
noting-requires-clause-runs g c =
    let w = c.args.self.now in
    let a = c.in-Some.attempt.now in
    let all = c.as_slice.ensures ∙ ap (λ (w : WorkerParts). w.attempts) c.self.view_is in
    let run = ap (λ (xs : List AttemptParts). run_at xs c.args.job) (sym all) ∙ (sym c.run_at.ensures ∙ ap option_copied c.in-Some.is) in
    run_here w.attempts c.args.job a run

pub returns-in_err-attempts-clause-ran : goal.returns-in_err-attempts-clause-ran
returns-in_err-attempts-clause-ran g c =
    let w = c.args.self.now in
    let a = c.in-Some.attempt.now in
    let old = g.S.Store.view c.args.store.now in
    let new = g.S.Store.view c.write_or_return.new.store in
    let all = c.as_slice.ensures ∙ ap (λ (w : WorkerParts). w.attempts) c.self.view_is in
    let run = ap (λ (xs : List AttemptParts). run_at xs c.args.job) (sym all) ∙ (sym c.run_at.ensures ∙ ap option_copied c.in-Some.is) in
    let has = has_range w c.args.job c.args.range a c.requires.runs run in
    let p = err_from_is_err_and c.from_residual-in_err-attempts.result c.from_residual-in_err-attempts.ensures.1 in
    rw (p.1, p.2, c.in_err-attempts.ensures.memory) (lacked_out c.args.moment w c.args.job c.args.range c.args.rows old new a run has.0 has.1 c.in_ok-written.written c.in_ok-written.ensures.wrote)

pub returns-clause-ran : goal.returns-clause-ran
returns-clause-ran g c =
    let w = c.args.self.now in
    let a = c.in-Some.attempt.now in
    let old = g.S.Store.view c.args.store.now in
    let new = g.S.Store.view c.write_or_return.new.store in
    let all = c.as_slice.ensures ∙ ap (λ (w : WorkerParts). w.attempts) c.self.view_is in
    let run = ap (λ (xs : List AttemptParts). run_at xs c.args.job) (sym all) ∙ (sym c.run_at.ensures ∙ ap option_copied c.in-Some.is) in
    let has = has_range w c.args.job c.args.range a c.requires.runs run in
    some_out c.args.moment w c.args.job c.args.range c.args.rows old new a run has.0 has.1 c.in-Some-written.table c.in_ok-attempts.attempts (subst (λ o. Writes c.args.moment w c.args.range c.args.rows old new a (Ok o)) c.in-Some-written.is c.in_ok-written.ensures.wrote)
