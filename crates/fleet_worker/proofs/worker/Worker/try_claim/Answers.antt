use Rattle.std.proofs.Common.{rules, length, vec_len, ◌≡◌, ◌≢◌, [], sym, subst, zero}
use Rattle.std.proofs.lemmas.Bool.{eqb-true}
use Rattle.std.proofs.lemmas.List.{nil_from_length}
use Rattle.std.proofs.lemmas.Result.{err_from_is_err_and}
use Rattle.step_model.specs.Steps.ClaimSteps.{claim_try}
use Rattle.step_model.specs.Courses.Course.{Ends}
use Rattle.step_model.specs.Courses.Tries.{tries}
use Rattle.fleet_claim.specs.Beginnings.{options_of}
use Rattle.fleet_step.proofs.Puts.{got_records}
use Rattle.fleet_step.proofs.Turns.{wants_memory}
use Rattle.fleet_worker.specs.Claims.{AreNew, IsClaimPut, MayTakeAll}
use Rattle.fleet_worker.specs.Workers.{live_of}
use Rattle.fleet_worker.proofs.Claims.{are_new, may_take_all, nothing_named}
use Rattle.fleet_worker.proofs.TryClaims as law
use Rattle.fleet_worker.proofs.worker.Worker.try_claim.Goals as goal

pub returns-in_err-end-clause-ran : goal.returns-in_err-end-clause-ran
returns-in_err-end-clause-ran g c = λ again.
    let p = err_from_is_err_and c.from_residual-in_err-end.result c.from_residual-in_err-end.ensures.1 in
    rw (p.1, p.2, c.in_err-end.ensures.memory) (wants_memory (got_records c.in_ok-got.ensures _))

pub returns-in_default-clause-ran : goal.returns-in_default-clause-ran
returns-in_default-clause-ran g c = λ again. law.no_records c.args.options.now c.args.moment c.args.self.now _ _ c.in_ok-got.got c.in_ok-got.ensures c.in_default.is c.new.result c.in_ok-end.end c.new.ensures c.in_ok-end.ensures.end again

pub returns-in_default-clause-noted : goal.returns-in_default-clause-noted
returns-in_default-clause-noted g c =
    law.nothing_noted _ _ c.args.self.now c.new.result c.in_ok-end.end.0 c.in_ok-end.end.1 c.in_ok-end.ensures.end (got_records c.in_ok-got.ensures (λ r. Ends zero)).later c.requires.ready.noted

pub returns-in_default-clause-named : goal.returns-in_default-clause-named
returns-in_default-clause-named g c = nothing_named c.args.self.now c.new.result c.in_ok-end.end.0 c.in_ok-end.end.1 c.in_ok-end.ensures.end

pub returns-in_err-claimed-clause-ran : goal.returns-in_err-claimed-clause-ran
returns-in_err-claimed-clause-ran g c = λ again.
    let p = err_from_is_err_and c.from_residual-in_err-claimed.result c.from_residual-in_err-claimed.ensures.1 in
    rw (p.1, p.2, c.in_err-claimed.ensures.memory) (wants_memory (got_records c.in_ok-got.ensures _))

pub returns-in_err-end-2-clause-ran : goal.returns-in_err-end-2-clause-ran
returns-in_err-end-2-clause-ran g c = λ again.
    let p = err_from_is_err_and c.from_residual-in_err-end-2.result c.from_residual-in_err-end-2.ensures.1 in
    rw (p.1, p.2, c.in_err-end-2.ensures.memory) (wants_memory (got_records c.in_ok-got.ensures _))

pub returns-then-is_empty-clause-ran : goal.returns-then-is_empty-clause-ran
returns-then-is_empty-clause-ran g c = λ again.
    let len : vec_len c.in_ok-claimed.claimed ≡ 0 = eqb-true (vec_len c.in_ok-claimed.claimed) 0 (sym c.if-is_empty.ensures) in
    let count : length c.in_ok-claimed.claimed.items ≡ 0 = search (rules, len) in
    let none : c.in_ok-claimed.claimed.items ≡ [] = nil_from_length c.in_ok-claimed.claimed.items count in
    law.takes_none c.args.options.now c.args.moment c.args.self.now _ _ c.in_ok-got.got c.in-Some.got c.in_ok-got.ensures c.in-Some.is c.in_ok-claimed.claimed.items c.in_ok-claimed.stopped (rw c.compactions.ensures at c.in_ok-claimed.ensures.choice)
    none c.in_ok-end-2.end c.in_ok-end-2.ensures.end again

pub returns-then-is_empty-clause-noted : goal.returns-then-is_empty-clause-noted
returns-then-is_empty-clause-noted g c =
    law.nothing_noted _ _ c.args.self.now c.in_ok-claimed.stopped c.in_ok-end-2.end.0 c.in_ok-end-2.end.1 c.in_ok-end-2.ensures.end (got_records c.in_ok-got.ensures (λ r. Ends zero)).later c.requires.ready.noted

pub returns-then-is_empty-clause-named : goal.returns-then-is_empty-clause-named
returns-then-is_empty-clause-named g c = nothing_named c.args.self.now c.in_ok-claimed.stopped c.in_ok-end-2.end.0 c.in_ok-end-2.end.1 c.in_ok-end-2.ensures.end

pub returns-in_err-put-clause-ran : goal.returns-in_err-put-clause-ran
returns-in_err-put-clause-ran g c = λ again.
    let p = err_from_is_err_and c.from_residual-in_err-put.result c.from_residual-in_err-put.ensures.1 in
    rw (p.1, p.2, c.in_err-put.ensures.memory) (wants_memory (got_records c.in_ok-got.ensures _))

pub put_records-requires : goal.put_records-requires
put_records-requires g c =
    let some : c.in_ok-claimed.claimed.items ≢ [] = search rules in
    law.put_fits c.args.options.now c.args.moment c.args.self.now _ _ c.in_ok-got.got c.in-Some.got c.in_ok-got.ensures c.in-Some.is c.in_ok-claimed.claimed.items c.in_ok-claimed.stopped (rw c.compactions.ensures at c.in_ok-claimed.ensures.choice) some c.in_ok-put.put
    (subst (λ js. IsClaimPut c.args.moment c.args.self.now c.in-Some.got js c.in_ok-put.put) c.deref.ensures.value c.in_ok-put.ensures.put) c.requires.ready (g.met.S.Store.lawful _)

pub returns-in_err-put_records-clause-ran : goal.returns-in_err-put_records-clause-ran
returns-in_err-put_records-clause-ran g c = λ again.
    let p = err_from_is_err_and c.from_residual-in_err-put_records.result c.from_residual-in_err-put_records.ensures.1 in
    let some : c.in_ok-claimed.claimed.items ≢ [] = search rules in
    rw (p.1, p.2)
    (law.put_failed c.args.options.now c.args.moment c.args.self.now _ _ c.in_ok-got.got c.in-Some.got c.in_ok-got.ensures c.in-Some.is c.in_ok-claimed.claimed.items c.in_ok-claimed.stopped (rw c.compactions.ensures at c.in_ok-claimed.ensures.choice) some c.in_ok-put.put
    (subst (λ js. IsClaimPut c.args.moment c.args.self.now c.in-Some.got js c.in_ok-put.put) c.deref.ensures.value c.in_ok-put.ensures.put) _ c.in_err-put_records.field-0.0 c.in_err-put_records.ensures again)

pub start_claimed-requires-clause-keeps : goal.start_claimed-requires-clause-keeps
start_claimed-requires-clause-keeps g c =
    let some : c.in_ok-claimed.claimed.items ≢ [] = search rules in
    law.keeps_at_start c.args.options.now c.args.moment c.args.self.now _ _ c.in_ok-got.got c.in-Some.got c.in_ok-got.ensures c.in-Some.is c.in_ok-claimed.claimed.items c.in_ok-claimed.stopped (rw c.compactions.ensures at c.in_ok-claimed.ensures.choice) some c.in_ok-put.put
    (subst (λ js. IsClaimPut c.args.moment c.args.self.now c.in-Some.got js c.in_ok-put.put) c.deref.ensures.value c.in_ok-put.ensures.put) _ _ c.in_ok-put_records.ensures c.requires.ready (g.met.S.Store.lawful _)

pub start_claimed-requires-clause-lawful : goal.start_claimed-requires-clause-lawful
start_claimed-requires-clause-lawful g c =
    let some : c.in_ok-claimed.claimed.items ≢ [] = search rules in
    rw c.deref-2.ensures.value
    (law.lawful_at_start c.args.options.now c.args.moment c.args.self.now _ _ c.in_ok-got.got c.in-Some.got c.in_ok-got.ensures c.in-Some.is c.in_ok-claimed.claimed.items c.in_ok-claimed.stopped (rw c.compactions.ensures at c.in_ok-claimed.ensures.choice) some c.in_ok-put.put
    (subst (λ js. IsClaimPut c.args.moment c.args.self.now c.in-Some.got js c.in_ok-put.put) c.deref.ensures.value c.in_ok-put.ensures.put) _ _ c.in_ok-put_records.ensures c.requires.ready (g.met.S.Store.lawful _))

pub start_claimed-requires-clause-may : goal.start_claimed-requires-clause-may
start_claimed-requires-clause-may g c =
    subst (MayTakeAll c.args.self.now) (sym c.deref-2.ensures.value)
    (may_take_all c.args.options.now c.args.self.now c.in-Some.got.compactions.jobs c.in_ok-claimed.claimed.items c.in_ok-claimed.stopped (rw c.compactions.ensures at c.in_ok-claimed.ensures.choice))

pub start_claimed-requires-clause-new : goal.start_claimed-requires-clause-new
start_claimed-requires-clause-new g c =
    subst (AreNew c.args.self.now) (sym c.deref-2.ensures.value)
    (are_new c.args.options.now c.args.self.now c.in-Some.got.compactions.jobs c.in_ok-claimed.claimed.items c.in_ok-claimed.stopped (rw c.compactions.ensures at c.in_ok-claimed.ensures.choice))

pub returns-clause-ran : goal.returns-clause-ran
returns-clause-ran g c = λ again.
    let some : c.in_ok-claimed.claimed.items ≢ [] = search rules in
    law.starts_then c.args.options.now c.args.moment c.args.self.now _ _ c.in_ok-got.got c.in-Some.got c.in_ok-got.ensures c.in-Some.is c.in_ok-claimed.claimed.items c.in_ok-claimed.stopped (rw c.compactions.ensures at c.in_ok-claimed.ensures.choice) some c.in_ok-put.put
    (subst (λ js. IsClaimPut c.args.moment c.args.self.now c.in-Some.got js c.in_ok-put.put) c.deref.ensures.value c.in_ok-put.ensures.put) _ _ c.in_ok-put_records.ensures _ c.start_claimed.result again
    (rw c.deref-2.ensures.value at c.start_claimed.ensures.ran again)

pub returns-clause-noted : goal.returns-clause-noted
returns-clause-noted g c =
    let some : c.in_ok-claimed.claimed.items ≢ [] = search rules in
    let more = tries (claim_try (options_of c.args.options.now) c.args.moment (live_of c.args.self.now)) 63 in
    law.noted_at_end c.args.options.now c.args.moment c.args.self.now _ _ c.in_ok-got.got c.in-Some.got c.in_ok-got.ensures c.in-Some.is c.in_ok-claimed.claimed.items c.in_ok-claimed.stopped (rw c.compactions.ensures at c.in_ok-claimed.ensures.choice) some c.in_ok-put.put
    (subst (λ js. IsClaimPut c.args.moment c.args.self.now c.in-Some.got js c.in_ok-put.put) c.deref.ensures.value c.in_ok-put.ensures.put) _ _ c.in_ok-put_records.ensures _ c.start_claimed.result
    (rw c.deref-2.ensures.value at c.start_claimed.ensures.ran more) (rw c.deref-2.ensures.value at c.start_claimed.ensures.noted) c.requires.ready
