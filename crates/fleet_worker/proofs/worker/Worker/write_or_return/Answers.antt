use Rattle.std.proofs.Common.{◌≡◌, ◌∙◌, ◌-◌, ap, sym, subst, get_or, rules}
use Rattle.std.proofs.lemmas.Result.{err_from_is_err_and}
use Rattle.fleet_plan.specs.Parts.{Part}
use Rattle.fleet_jobs.specs.Parts.ContextParts.{ContextParts}
use Rattle.fleet_jobs.specs.Contexts.{settings_in}
use Rattle.fleet_output.specs.Writes.{WritesNext}
use Rattle.fleet_worker.proofs.Noting.{part_is, range_is}
use Rattle.fleet_worker.proofs.Outputs.{can_resume, may_write}
use Rattle.fleet_worker.proofs.OutputParts.{given_back, not_given_back, ready_refused}
use Rattle.fleet_worker.proofs.OutputRuns.{wrote_ran}
use Rattle.fleet_worker.proofs.worker.Worker.write_or_return.Goals as goal

pub write_next-written-requires-clause-can : goal.write_next-written-requires-clause-can
write_next-written-requires-clause-can g c κs within =
    let view = g.S.Store.view c.args.store.now in
    let w = c.args.self.now in
    let a = c.args.attempt.now in
    let part : Part = c.index-parts-place.result in
    let parts = c.subcompactions-parts.ensures.ranges ∙ ap (λ (x : ContextParts). x.ranges) c.ctx-ctx.ensures in
    let is : part ≡ get_or c.subcompactions-parts.result.now (c.args.range - 1) part = search rules in
    let at = range_is a c.args.range c.subcompactions-parts.result.now part c.requires.counted c.requires.there parts is in
    let settings = c.settings.ensures ∙ ap settings_in c.ctx-ctx.ensures in
    rw (c.requires.folds, settings, c.tables.ensures) (can_resume view w a c.args.range part (g.met.S.Store.lawful _) c.requires.ready c.requires.runs at)

pub write_next-written-requires-clause-may : goal.write_next-written-requires-clause-may
write_next-written-requires-clause-may g c κs within =
    let view = g.S.Store.view c.args.store.now in
    let w = c.args.self.now in
    let a = c.args.attempt.now in
    let part : Part = c.index-parts-place.result in
    let parts = c.subcompactions-parts.ensures.ranges ∙ ap (λ (x : ContextParts). x.ranges) c.ctx-ctx.ensures in
    let is : part ≡ get_or c.subcompactions-parts.result.now (c.args.range - 1) part = search rules in
    let at = range_is a c.args.range c.subcompactions-parts.result.now part c.requires.counted c.requires.there parts is in
    let settings = c.settings.ensures ∙ ap settings_in c.ctx-ctx.ensures in
    rw (c.requires.folds, settings, c.tables.ensures) (may_write view w a c.args.range part (g.met.S.Store.lawful _) c.requires.ready c.requires.runs at c.args.moment c.args.rows)

pub returns-requires : goal.returns-requires
returns-requires g c =
    let view = g.S.Store.view c.args.store.now in
    let w = c.args.self.now in
    let a = c.args.attempt.now in
    let part : Part = c.index-parts-place.result in
    let parts = c.subcompactions-parts.ensures.ranges ∙ ap (λ (x : ContextParts). x.ranges) c.ctx-ctx.ensures in
    let is : part ≡ get_or c.subcompactions-parts.result.now (c.args.range - 1) part = search rules in
    let at = range_is a c.args.range c.subcompactions-parts.result.now part c.requires.counted c.requires.there parts is in
    let settings = c.settings.ensures ∙ ap settings_in c.ctx-ctx.ensures in
    let mid = g.S.Store.view c.write_next-written.new.store in
    let wrote = rw (c.requires.folds, settings, c.tables.ensures) at c.write_next-written.ensures.wrote in
    record { ready = ready_refused c.args.moment view w a c.args.range c.args.rows part (g.met.S.Store.lawful _) c.requires.ready c.requires.runs at mid c.write_next-written.result wrote (sym c.is_refusal.ensures ∙ c.if-is_refusal.true) }

pub returns-in_err-returns-clause-wrote : goal.returns-in_err-returns-clause-wrote
returns-in_err-returns-clause-wrote g c = λ other there.
    let view = g.S.Store.view c.args.store.now in
    let w = c.args.self.now in
    let a = c.args.attempt.now in
    let part : Part = c.index-parts-place.result in
    let parts = c.subcompactions-parts.ensures.ranges ∙ ap (λ (x : ContextParts). x.ranges) c.ctx-ctx.ensures in
    let is : part ≡ get_or c.subcompactions-parts.result.now (c.args.range - 1) part = search rules in
    let at = range_is a c.args.range c.subcompactions-parts.result.now part c.requires.counted c.requires.there parts is in
    let settings = c.settings.ensures ∙ ap settings_in c.ctx-ctx.ensures in
    let mid = g.S.Store.view c.write_next-written.new.store in
    let wrote = rw (c.requires.folds, settings, c.tables.ensures) at c.write_next-written.ensures.wrote in
    let ours = subst (λ (p : Part). WritesNext view.who.merge (settings_in a.ctx) a.tables p c.args.rows c.args.moment view mid c.write_next-written.result) (part_is a c.args.range other part there at.there) wrote in
    let p = err_from_is_err_and c.from_residual.result c.from_residual.ensures.1 in
    rw (p.1, p.2)
    (not_given_back c.args.moment view w a c.args.range c.args.rows other (g.met.S.Store.lawful _) c.requires.ready c.requires.runs there mid _ c.write_next-written.result ours (sym c.is_refusal.ensures ∙ c.if-is_refusal.true) _ c.in_err-returns.field-0.0
    (rw (c.job.ensures, c.number.ensures) at c.in_err-returns.ensures))

pub returns-in_ok-returns-clause-wrote : goal.returns-in_ok-returns-clause-wrote
returns-in_ok-returns-clause-wrote g c = λ other there.
    let view = g.S.Store.view c.args.store.now in
    let w = c.args.self.now in
    let a = c.args.attempt.now in
    let part : Part = c.index-parts-place.result in
    let parts = c.subcompactions-parts.ensures.ranges ∙ ap (λ (x : ContextParts). x.ranges) c.ctx-ctx.ensures in
    let is : part ≡ get_or c.subcompactions-parts.result.now (c.args.range - 1) part = search rules in
    let at = range_is a c.args.range c.subcompactions-parts.result.now part c.requires.counted c.requires.there parts is in
    let settings = c.settings.ensures ∙ ap settings_in c.ctx-ctx.ensures in
    let mid = g.S.Store.view c.write_next-written.new.store in
    let wrote = rw (c.requires.folds, settings, c.tables.ensures) at c.write_next-written.ensures.wrote in
    let ours = subst (λ (p : Part). WritesNext view.who.merge (settings_in a.ctx) a.tables p c.args.rows c.args.moment view mid c.write_next-written.result) (part_is a c.args.range other part there at.there) wrote in
    given_back c.args.moment view w a c.args.range c.args.rows other (g.met.S.Store.lawful _) c.requires.ready c.requires.runs there mid _ c.write_next-written.result ours (sym c.is_refusal.ensures ∙ c.if-is_refusal.true) _ (rw (c.job.ensures, c.number.ensures) at c.in_ok-returns.ensures)

pub returns-else-is_refusal-clause-wrote : goal.returns-else-is_refusal-clause-wrote
returns-else-is_refusal-clause-wrote g c = λ other there.
    let view = g.S.Store.view c.args.store.now in
    let w = c.args.self.now in
    let a = c.args.attempt.now in
    let part : Part = c.index-parts-place.result in
    let parts = c.subcompactions-parts.ensures.ranges ∙ ap (λ (x : ContextParts). x.ranges) c.ctx-ctx.ensures in
    let is : part ≡ get_or c.subcompactions-parts.result.now (c.args.range - 1) part = search rules in
    let at = range_is a c.args.range c.subcompactions-parts.result.now part c.requires.counted c.requires.there parts is in
    let settings = c.settings.ensures ∙ ap settings_in c.ctx-ctx.ensures in
    let mid = g.S.Store.view c.write_next-written.new.store in
    let wrote = rw (c.requires.folds, settings, c.tables.ensures) at c.write_next-written.ensures.wrote in
    let ours = subst (λ (p : Part). WritesNext view.who.merge (settings_in a.ctx) a.tables p c.args.rows c.args.moment view mid c.write_next-written.result) (part_is a c.args.range other part there at.there) wrote in
    wrote_ran c.args.moment view w a c.args.range c.args.rows other (g.met.S.Store.lawful _) c.requires.ready c.requires.runs there mid c.write_next-written.result ours (sym c.is_refusal.ensures ∙ c.if-is_refusal.false)
