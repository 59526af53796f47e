use Rattle.std.proofs.Common.{◌∙◌, ap, sym, List}
use Rattle.std.specs.Option.{option_copied}
use Rattle.std.proofs.lemmas.Result.{err_from_is_err_and}
use Rattle.fleet_worker.specs.Workers.{AttemptParts, WorkerParts, run_at}
use Rattle.fleet_worker.proofs.FinishEnds.{ended_job, ended_not, runs_it, shown_after, wrote_not}
use Rattle.fleet_worker.proofs.FinishTurns.{end_lawful}
use Rattle.fleet_worker.proofs.RunAttempts.{run_here}
use Rattle.fleet_worker.proofs.worker.Worker.writes_and_ends.Goals as goal

pub unreachable-requires : goal.unreachable-requires
unreachable-requires g c =
    let w = c.args.self.now in
    let all = c.as_slice.ensures ∙ ap (λ (w : WorkerParts). w.attempts) c.self.view_is in
    runs_it w c.args.job c.requires.runs (ap (λ (xs : List AttemptParts). run_at xs c.args.job) (sym all) ∙ (sym c.run_at.ensures ∙ ap option_copied c.in_default.is))

pub write_all_or_return-requires-clause-runs : goal.write_all_or_return-requires-clause-runs
write_all_or_return-requires-clause-runs g c κs within =
    let w = c.args.self.now in
    let a = c.in-Some.attempt.now in
    let all = c.as_slice.ensures ∙ ap (λ (w : WorkerParts). w.attempts) c.self.view_is in
    let run = ap (λ (xs : List AttemptParts). run_at xs c.args.job) (sym all) ∙ (sym c.run_at.ensures ∙ ap option_copied c.in-Some.is) in
    run_here w.attempts c.args.job a run

pub returns-in_err-written-clause-ran : goal.returns-in_err-written-clause-ran
returns-in_err-written-clause-ran g c =
    let w = c.args.self.now in
    let a = c.in-Some.attempt.now in
    let old = g.S.Store.view c.args.store.now in
    let mid = g.S.Store.view c.write_all_or_return.new.store in
    let all = c.as_slice.ensures ∙ ap (λ (w : WorkerParts). w.attempts) c.self.view_is in
    let run = ap (λ (xs : List AttemptParts). run_at xs c.args.job) (sym all) ∙ (sym c.run_at.ensures ∙ ap option_copied c.in-Some.is) in
    let p = err_from_is_err_and c.from_residual.result c.from_residual.ensures.1 in
    rw (p.1, p.2) (wrote_not c.args.moment w c.args.size old mid c.args.job a run c.in_err-written.field-0.0 c.in_err-written.ensures.wrote)

pub end_tries-requires : goal.end_tries-requires
end_tries-requires g c =
    let w = c.args.self.now in
    let a = c.in-Some.attempt.now in
    let old = g.S.Store.view c.args.store.now in
    let mid = g.S.Store.view c.write_all_or_return.new.store in
    let all = c.as_slice.ensures ∙ ap (λ (w : WorkerParts). w.attempts) c.self.view_is in
    let run = ap (λ (xs : List AttemptParts). run_at xs c.args.job) (sym all) ∙ (sym c.run_at.ensures ∙ ap option_copied c.in-Some.is) in
    record {
      lawful = end_lawful c.args.moment old w a c.args.size (g.met.S.Store.lawful _) c.requires.ready (run_here w.attempts c.args.job a run) mid c.in_ok-written.written c.in_ok-written.ensures.wrote;
      shown = c.in_ok-written.ensures.described;
    }

pub returns-in_err-end_tries-clause-ran : goal.returns-in_err-end_tries-clause-ran
returns-in_err-end_tries-clause-ran g c =
    let w = c.args.self.now in
    let a = c.in-Some.attempt.now in
    let old = g.S.Store.view c.args.store.now in
    let mid = g.S.Store.view c.write_all_or_return.new.store in
    let all = c.as_slice.ensures ∙ ap (λ (w : WorkerParts). w.attempts) c.self.view_is in
    let run = ap (λ (xs : List AttemptParts). run_at xs c.args.job) (sym all) ∙ (sym c.run_at.ensures ∙ ap option_copied c.in-Some.is) in
    let new = g.S.Store.view c.end_tries.new.store in
    let p = err_from_is_err_and c.from_residual-in_err-end_tries.result c.from_residual-in_err-end_tries.ensures.1 in
    rw (p.1, p.2) (ended_not c.args.moment w c.args.size old new c.args.job a run mid c.in_ok-written.written c.in_ok-written.ensures.wrote c.in_err-end_tries.field-0.0 c.in_err-end_tries.ensures)

pub returns-clause-ran : goal.returns-clause-ran
returns-clause-ran g c =
    let w = c.args.self.now in
    let a = c.in-Some.attempt.now in
    let old = g.S.Store.view c.args.store.now in
    let mid = g.S.Store.view c.write_all_or_return.new.store in
    let all = c.as_slice.ensures ∙ ap (λ (w : WorkerParts). w.attempts) c.self.view_is in
    let run = ap (λ (xs : List AttemptParts). run_at xs c.args.job) (sym all) ∙ (sym c.run_at.ensures ∙ ap option_copied c.in-Some.is) in
    let new = g.S.Store.view c.end_tries.new.store in
    ended_job c.args.moment w c.args.size old new c.args.job a run mid c.in_ok-written.written c.in_ok-written.ensures.wrote c.in_ok-end_tries.ensures

pub returns-clause-described : goal.returns-clause-described
returns-clause-described g c =
    let w = c.args.self.now in
    let a = c.in-Some.attempt.now in
    let old = g.S.Store.view c.args.store.now in
    let mid = g.S.Store.view c.write_all_or_return.new.store in
    let all = c.as_slice.ensures ∙ ap (λ (w : WorkerParts). w.attempts) c.self.view_is in
    let run = ap (λ (xs : List AttemptParts). run_at xs c.args.job) (sym all) ∙ (sym c.run_at.ensures ∙ ap option_copied c.in-Some.is) in
    let new = g.S.Store.view c.end_tries.new.store in
    shown_after c.args.moment w c.args.size old new c.args.job a run mid c.in_ok-written.written c.in_ok-written.ensures.wrote _ c.in_ok-end_tries.ensures c.in_ok-written.ensures.described
