use Rattle.std.proofs.Common.{◌≡◌, ◌∙◌, sym, ap, subst, length, arith, Some, Option, false, List}
use Rattle.std.specs.Prelude.{map}
use Rattle.std.specs.Option.{option_map}
use Rattle.std.proofs.lemmas.Result.{err_from_is_err_and}
use Rattle.std.proofs.lemmas.List.{map-set, length-map}
use Rattle.std.proofs.Math.ListN.{set}
use Rattle.fleet_iter.specs.Heads.{HeadRows, refilled_heads}
use Rattle.fleet_iter.specs.Merge.{Takes, best}
use Rattle.fleet_iter.specs.Iteration.{IteratorState}
use Rattle.fleet_rows.specs.declared.row.RowEntry.{RowEntry}
use Rattle.fleet_iter.proofs.Merges.{source_within, taken_at, refused, refusal_marks, one_failed, state_at, takes_none, takes_all, steps_of, all_at}
use Rattle.fleet_iter.proofs.merge.take_least.Goals as goal

pub returns-in_default-clause-ok : goal.returns-in_default-clause-ok
returns-in_default-clause-ok g c = takes_none _ _ _ c.requires.taken (sym c.in_default.ensures)

pub index_mut-requires : goal.index_mut-requires
index_mut-requires g c =
    let f = g.T.RowSource.state in
    let xs = c.args.sources.now.items in
    let lt = source_within f c.args.heads.now.order c.args.heads.now.rows xs c.in-Some.place c.in-Some.field-0-1.now c.requires.taken (sym c.in-Some.ensures) in
    let count : length (map f xs) ≡ length xs = length-map _ _ in
    omega (arith, lt, count)

pub next_row-requires : goal.next_row-requires
next_row-requires g c =
    let f = g.T.RowSource.state in
    let xs = c.args.sources.now.items in
    let k = c.in-Some.place in
    let lt = source_within f c.args.heads.now.order c.args.heads.now.rows xs k c.in-Some.field-0-1.now c.requires.taken (sym c.in-Some.ensures) in
    let count : length (map f xs) ≡ length xs = length-map _ _ in
    all_at g.T.RowSource.sound xs k c.index_mut.result.now (omega (arith, lt, count)) c.index_mut.ensures.value c.requires.sound

pub returns-in_err-head-clause-err : goal.returns-in_err-head-clause-err
returns-in_err-head-clause-err g c =
    let hs = c.args.heads.now.rows in
    let f = g.T.RowSource.state in
    let xs = c.args.sources.now.items in
    let ss = map f xs in
    let k = c.in-Some.place in
    let lt = source_within f c.args.heads.now.order hs xs k c.in-Some.field-0-1.now c.requires.taken (sym c.in-Some.ensures) in
    let s = f c.index_mut.result.now in
    let is = state_at f xs k c.index_mut.result.now c.index_mut.ensures.value in
    let t = taken_at hs ss c.requires.taken k lt s is in
    let p = err_from_is_err_and c.from_residual.result c.from_residual.ensures.1 in
    rw (p.1, p.2) (refused t.0 ss k s (f c.next_row.new.self) c.in_err-head.field-0.0 lt is t.1 c.in_err-head.ensures.next)

pub returns-in_err-head-clause-handed : goal.returns-in_err-head-clause-handed
returns-in_err-head-clause-handed g c =
    let hs = c.args.heads.now.rows in
    let f = g.T.RowSource.state in
    let xs = c.args.sources.now.items in
    let ss = map f xs in
    let k = c.in-Some.place in
    let lt = source_within f c.args.heads.now.order hs xs k c.in-Some.field-0-1.now c.requires.taken (sym c.in-Some.ensures) in
    let s = f c.index_mut.result.now in
    let is = state_at f xs k c.index_mut.result.now c.index_mut.ensures.value in
    let t = taken_at hs ss c.requires.taken k lt s is in
    let y = c.next_row.new.self in
    let marked = one_failed f xs k y c.in_err-head.field-0.0 lt (refusal_marks t.0 s (f y) c.in_err-head.field-0.0 t.1 c.in_err-head.ensures.next) in
    let p = err_from_is_err_and c.from_residual.result c.from_residual.ensures.1 in
    rw (p.1, p.2) (λ _. marked)

pub returns-clause-ok : goal.returns-clause-ok
returns-clause-ok g c =
    let order = c.args.heads.now.order in
    let hs = c.args.heads.now.rows in
    let f = g.T.RowSource.state in
    let xs = c.args.sources.now.items in
    let ss = map f xs in
    let k = c.in-Some.place in
    let row = c.in-Some.field-0-1.now in
    let at : best order hs ≡ Some (k, row) = sym c.in-Some.ensures in
    let lt = source_within f order hs xs k row c.requires.taken at in
    let s = f c.index_mut.result.now in
    let is = state_at f xs k c.index_mut.result.now c.index_mut.ensures.value in
    let t = taken_at hs ss c.requires.taken k lt s is in
    let y = c.next_row.new.self in
    let head = c.in_ok-head.head in
    let whole = takes_all order hs ss c.requires.taken k row at s (f y) head is (steps_of t.0 s (f y) head t.1 c.in_ok-head.ensures.next) in
    let given : Some row ≡ c.swap_least.new.head = sym (c.swap_least.ensures.taken ∙ ap (option_map {U = RowEntry} (λ p. p.1)) at) in
    let rows : set hs k head ≡ c.swap_least.new.self.rows = sym (ap (λ (h : HeadRows). h.rows) c.swap_least.ensures.heads ∙ ap (λ b. refilled_heads b head hs) at) in
    let A : Option RowEntry → _ = λ o. Takes order false hs ss (set hs k head) (set ss k (f y)) o in
    let B : List IteratorState → _ = λ w. Takes order false hs ss (set hs k head) w c.swap_least.new.head in
    let D : List (Option RowEntry) → _ = λ w. Takes order false hs ss w (map f (set xs k y)) c.swap_least.new.head in
    subst D rows (subst B (sym (map-set f xs k y)) (subst A given whole))
