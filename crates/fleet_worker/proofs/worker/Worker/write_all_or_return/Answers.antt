use Rattle.std.proofs.Common.{◌∙◌, ap, sym, subst, List}
use Rattle.std.proofs.lemmas.Result.{err_from_is_err_and}
use Rattle.row_model.specs.Fold.{Operator}
use Rattle.fleet_rows.specs.declared.settings.Settings.{Settings}
use Rattle.fleet_tree.specs.declared.handle.SsTableHandle.{SsTableHandle}
use Rattle.fleet_plan.specs.Parts.{Part}
use Rattle.fleet_jobs.specs.Parts.ContextParts.{ContextParts}
use Rattle.fleet_jobs.specs.Contexts.{settings_in}
use Rattle.fleet_output.specs.Finishes.{MayWriteLeft}
use Rattle.fleet_worker.proofs.FinishTurns.{back, can_finish, may_write_left, not_back, ready_back, wrote_all}
use Rattle.fleet_worker.proofs.worker.Worker.write_all_or_return.Goals as goal

pub finish_left-written-requires-clause-can : goal.finish_left-written-requires-clause-can
finish_left-written-requires-clause-can g c κs within =
    let view = g.S.Store.view c.args.store.now in
    let w = c.args.self.now in
    let a = c.args.attempt.now in
    let parts = c.subcompactions-parts.ensures.ranges ∙ ap (λ (x : ContextParts). x.ranges) c.ctx-ctx.ensures in
    let settings = c.settings.ensures ∙ ap settings_in c.ctx-ctx.ensures in
    rw (c.requires.folds, settings, c.tables.ensures, parts) (can_finish c.args.moment view w a c.args.size (g.met.S.Store.lawful _) c.requires.ready c.requires.runs)

pub finish_left-written-requires-clause-may : goal.finish_left-written-requires-clause-may
finish_left-written-requires-clause-may g c κs within =
    let view = g.S.Store.view c.args.store.now in
    let w = c.args.self.now in
    let a = c.args.attempt.now in
    let parts = c.subcompactions-parts.ensures.ranges ∙ ap (λ (x : ContextParts). x.ranges) c.ctx-ctx.ensures in
    let settings = c.settings.ensures ∙ ap settings_in c.ctx-ctx.ensures in
    subst (λ (m : Operator). MayWriteLeft m c.settings.result c.tables.result.now c.subcompactions-parts.result.now c.args.size c.args.moment view) (sym c.requires.folds)
    (subst (λ (s : Settings). MayWriteLeft view.who.merge s c.tables.result.now c.subcompactions-parts.result.now c.args.size c.args.moment view) (sym settings)
    (subst (λ (t : List SsTableHandle). MayWriteLeft view.who.merge (settings_in a.ctx) t c.subcompactions-parts.result.now c.args.size c.args.moment view) (sym c.tables.ensures)
    (subst (λ (p : List Part). MayWriteLeft view.who.merge (settings_in a.ctx) a.tables p c.args.size c.args.moment view) (sym parts)
    (may_write_left c.args.moment view w a c.args.size (g.met.S.Store.lawful _) c.requires.ready c.requires.runs))))

pub returns-requires : goal.returns-requires
returns-requires g c =
    let view = g.S.Store.view c.args.store.now in
    let w = c.args.self.now in
    let a = c.args.attempt.now in
    let parts = c.subcompactions-parts.ensures.ranges ∙ ap (λ (x : ContextParts). x.ranges) c.ctx-ctx.ensures in
    let settings = c.settings.ensures ∙ ap settings_in c.ctx-ctx.ensures in
    let mid = g.S.Store.view c.finish_left-written.new.store in
    let wrote = rw (c.requires.folds, settings, c.tables.ensures, parts) at c.finish_left-written.ensures.wrote in
    record { ready = ready_back c.args.moment view w a c.args.size (g.met.S.Store.lawful _) c.requires.ready c.requires.runs mid c.finish_left-written.result wrote (sym c.is_refusal.ensures ∙ c.if-is_refusal.true) }

pub returns-in_err-returns-clause-wrote : goal.returns-in_err-returns-clause-wrote
returns-in_err-returns-clause-wrote g c =
    let view = g.S.Store.view c.args.store.now in
    let w = c.args.self.now in
    let a = c.args.attempt.now in
    let parts = c.subcompactions-parts.ensures.ranges ∙ ap (λ (x : ContextParts). x.ranges) c.ctx-ctx.ensures in
    let settings = c.settings.ensures ∙ ap settings_in c.ctx-ctx.ensures in
    let mid = g.S.Store.view c.finish_left-written.new.store in
    let wrote = rw (c.requires.folds, settings, c.tables.ensures, parts) at c.finish_left-written.ensures.wrote in
    let p = err_from_is_err_and c.from_residual.result c.from_residual.ensures.1 in
    rw (p.1, p.2)
    (not_back c.args.moment view w a c.args.size (g.met.S.Store.lawful _) c.requires.ready c.requires.runs mid _ c.finish_left-written.result wrote (sym c.is_refusal.ensures ∙ c.if-is_refusal.true) _ c.in_err-returns.field-0.0
    (rw (c.job.ensures, c.number.ensures) at c.in_err-returns.ensures))

pub returns-in_ok-returns-clause-wrote : goal.returns-in_ok-returns-clause-wrote
returns-in_ok-returns-clause-wrote g c =
    let view = g.S.Store.view c.args.store.now in
    let w = c.args.self.now in
    let a = c.args.attempt.now in
    let parts = c.subcompactions-parts.ensures.ranges ∙ ap (λ (x : ContextParts). x.ranges) c.ctx-ctx.ensures in
    let settings = c.settings.ensures ∙ ap settings_in c.ctx-ctx.ensures in
    let mid = g.S.Store.view c.finish_left-written.new.store in
    let wrote = rw (c.requires.folds, settings, c.tables.ensures, parts) at c.finish_left-written.ensures.wrote in
    back c.args.moment view w a c.args.size (g.met.S.Store.lawful _) c.requires.ready c.requires.runs mid _ c.finish_left-written.result wrote (sym c.is_refusal.ensures ∙ c.if-is_refusal.true) _ (rw (c.job.ensures, c.number.ensures) at c.in_ok-returns.ensures)

pub returns-else-is_refusal-clause-wrote : goal.returns-else-is_refusal-clause-wrote
returns-else-is_refusal-clause-wrote g c =
    let view = g.S.Store.view c.args.store.now in
    let w = c.args.self.now in
    let a = c.args.attempt.now in
    let parts = c.subcompactions-parts.ensures.ranges ∙ ap (λ (x : ContextParts). x.ranges) c.ctx-ctx.ensures in
    let settings = c.settings.ensures ∙ ap settings_in c.ctx-ctx.ensures in
    let mid = g.S.Store.view c.finish_left-written.new.store in
    let wrote = rw (c.requires.folds, settings, c.tables.ensures, parts) at c.finish_left-written.ensures.wrote in
    wrote_all c.args.moment view w a c.args.size (g.met.S.Store.lawful _) c.requires.ready c.requires.runs mid c.finish_left-written.result wrote (sym c.is_refusal.ensures ∙ c.if-is_refusal.false)
