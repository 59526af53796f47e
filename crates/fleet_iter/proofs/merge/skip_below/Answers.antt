use Rattle.std.proofs.Common.{◌≡◌, refl, ◌∙◌, ◌+◌, sym, subst, arith, Option, List, suc, get_or, add-one, ℕ, true, false}
use Rattle.std.specs.Prelude.{map}
use Rattle.std.proofs.lemmas.Result.{err_from_is_err_and}
use Rattle.std.proofs.lemmas.List.{map-set}
use Rattle.std.proofs.Math.ListN.{set, length-set}
use Rattle.row_laws.specs.Keys.{is_below}
use Rattle.fleet_rows.specs.declared.row.RowEntry.{RowEntry}
use Rattle.fleet_iter.specs.Iteration.{IteratorState}
use Rattle.fleet_iter.specs.Merge.{head_passes, LeavesFrom, lists, rows_left}
use Rattle.fleet_iter.proofs.Merges.{clean, begun, one_inexact, one_failed, all_set, state_at, state_within, head_within}
use Rattle.fleet_iter.proofs.Seeks.{leaves_step}
use Rattle.fleet_iter.proofs.Sought.{Sought, head_taken, source_rises, sought_step, sought_left, sought_merge, sought_none, within_lists, lists_within}
use Rattle.fleet_iter.proofs.merge.skip_below.Goals as goal

pub sources-init : goal.sources-init
sources-init g c = record {
  sound = c.requires.sound;
  size = refl;
  so_far = sought_none c.args.order c.args.key.now c.args.heads.now.items (map g.T.RowSource.state c.args.sources.now.items) c.requires.taken c.requires.rising;
  leaves = λ place x at high. (at, refl);
}

pub index-requires : goal.index-requires
index-requires g c = let within = head_within g.T.RowSource.state c.sources.heads.items c.sources.sources.items c.args.sources.now.items c.sources.i c.sources.invariant.so_far.taken c.sources.invariant.size (omega arith) in omega (arith, within)

pub first_from-requires-clause-alive : goal.first_from-requires-clause-alive
first_from-requires-clause-alive g c =
    let f = g.T.RowSource.state in
    let xs = c.sources.sources.items in
    let x = c.index_mut.result.now in
    clean c.index.result.now (f x) (head_taken c.sources.heads.items (map f xs) c.sources.invariant.so_far.taken c.sources.i c.index.result.now (f x)
    (state_within f xs c.args.sources.now.items c.sources.i c.sources.invariant.size (omega arith)) c.index.ensures (state_at f xs c.sources.i x c.index_mut.ensures.value))

pub first_from-requires-clause-initialised : goal.first_from-requires-clause-initialised
first_from-requires-clause-initialised g c =
    let f = g.T.RowSource.state in
    let xs = c.sources.sources.items in
    let x = c.index_mut.result.now in
    begun c.index.result.now (f x) (head_taken c.sources.heads.items (map f xs) c.sources.invariant.so_far.taken c.sources.i c.index.result.now (f x)
    (state_within f xs c.args.sources.now.items c.sources.i c.sources.invariant.size (omega arith)) c.index.ensures (state_at f xs c.sources.i x c.index_mut.ensures.value))

pub first_from-requires-clause-rising : goal.first_from-requires-clause-rising
first_from-requires-clause-rising g c =
    let f = g.T.RowSource.state in
    let xs = c.sources.sources.items in
    let x = c.index_mut.result.now in
    let old = map f c.args.sources.now.items in
    source_rises c.args.order c.args.key.now c.sources.i (lists c.args.heads.now.items (rows_left old)) c.sources.heads.items (map f xs) old c.index.result.now (f x)
    (state_within f xs c.args.sources.now.items c.sources.i c.sources.invariant.size (omega arith)) c.sources.invariant.so_far c.index.ensures (state_at f xs c.sources.i x c.index_mut.ensures.value)

pub returns-in_err-head-clause-err : goal.returns-in_err-head-clause-err
returns-in_err-head-clause-err g c =
    let f = g.T.RowSource.state in
    let xs = c.sources.sources.items in
    let x = c.index_mut.result.now in
    let e = c.in_err-head.field-0.0 in
    let p = err_from_is_err_and c.from_residual.result c.from_residual.ensures.1 in
    let all = c.args.sources.now.items in
    let same : f x ≡ get_or (map f all) c.sources.i (f x) = state_at f xs c.sources.i x c.index_mut.ensures.value ∙ c.sources.invariant.so_far.later c.sources.i (f x) (omega arith) in
    rw (p.1, p.2) (one_inexact (map f all) c.sources.i (f x) e (state_within f all all c.sources.i refl (omega arith)) same c.in_err-head.ensures.err)

pub returns-in_err-head-clause-handed : goal.returns-in_err-head-clause-handed
returns-in_err-head-clause-handed g c =
    let f = g.T.RowSource.state in
    let xs = c.sources.sources.items in
    let e = c.in_err-head.field-0.0 in
    let p = err_from_is_err_and c.from_residual.result c.from_residual.ensures.1 in
    let within = state_within f xs c.args.sources.now.items c.sources.i c.sources.invariant.size (omega arith) in
    rw (p.1, p.2) (λ _. one_failed f xs c.sources.i c.first_from.new.source e within c.in_err-head.ensures.handed)

pub index_mut-requires-in-sources : goal.index_mut-requires-in-sources
index_mut-requires-in-sources g c = let within = head_within g.T.RowSource.state c.sources.heads.items c.sources.sources.items c.args.sources.now.items c.sources.i c.sources.invariant.so_far.taken c.sources.invariant.size (omega arith) in omega (arith, within)

pub sources-preserved-then-not-is_head_below : goal.sources-preserved-then-not-is_head_below
sources-preserved-then-not-is_head_below g c =
    let f = g.T.RowSource.state in
    let xs = c.sources.sources.items in
    let hs = c.sources.heads.items in
    let k = c.sources.i in
    let key = c.args.key.now in
    let all = c.args.sources.now.items in
    let ls = lists c.args.heads.now.items (rows_left (map f all)) in
    let low : head_passes (is_below key) c.index.result.now ≡ false = sym c.if-not-is_head_below.ensures in
    let A : ℕ → _ = λ i. Sought c.args.order key i ls hs (map f xs) (map f all) in
    record {
      sound = c.sources.invariant.sound;
      size = c.sources.invariant.size;
      so_far = subst A (sym (add-one k)) (sought_left c.args.order key k ls hs (map f xs) (map f all) c.index.result.now
          (within_lists f c.args.heads.now.items all k c.requires.taken (omega arith)) (state_within f xs all k c.sources.invariant.size (omega arith)) c.sources.invariant.so_far c.index.ensures low);
      leaves = c.sources.invariant.leaves;
    }

pub sources-preserved : goal.sources-preserved
sources-preserved g c =
    let f = g.T.RowSource.state in
    let xs = c.sources.sources.items in
    let hs = c.sources.heads.items in
    let ss = map f xs in
    let k = c.sources.i in
    let h = c.index.result.now in
    let x = c.index_mut.result.now in
    let all = c.args.sources.now.items in
    let old = map f all in
    let ls = lists c.args.heads.now.items (rows_left old) in
    let key = c.args.key.now in
    let y = c.first_from.new.source in
    let head = c.in_ok-head.head in
    let high : head_passes (is_below key) h ≡ true = sym c.if-not-is_head_below.ensures in
    let step : Sought c.args.order key (suc k) ls (set hs k head) (set ss k (f y)) old = sought_step c.args.order key k ls hs ss old h head (f x) (f y)
    (within_lists f c.args.heads.now.items all k c.requires.taken (omega arith)) (state_within f xs all k c.sources.invariant.size (omega arith)) c.sources.invariant.so_far c.index.ensures (state_at f xs k x c.index_mut.ensures.value) high c.in_ok-head.ensures.ok in
    let A : ℕ → _ = λ i. Sought c.args.order key i ls (set hs k head) (set ss k (f y)) old in
    let B : List IteratorState → _ = λ w. Sought c.args.order key (k + 1) ls (set hs k head) w old in
    let D : Option RowEntry → _ = λ w. Sought c.args.order key (k + 1) ls (set hs k w) (map f (set xs k y)) old in
    let L : Option RowEntry → _ = λ w. LeavesFrom key c.args.heads.now.items all (set hs k w) (set xs k y) in
    record {
      sound = all_set g.T.RowSource.sound xs k y c.in_ok-head.ensures.sound c.sources.invariant.sound;
      size = length-set xs k y ∙ c.sources.invariant.size;
      so_far = subst D (sym c.replace.ensures.after) (subst B (sym (map-set f xs k y)) (subst A (sym (add-one k)) step));
      leaves = subst L (sym c.replace.ensures.after) (leaves_step key c.args.heads.now.items hs all xs k h head y c.index.ensures high c.sources.invariant.leaves);
    }

pub returns-clause-ok : goal.returns-clause-ok
returns-clause-ok g c =
    let f = g.T.RowSource.state in
    let all = c.args.sources.now.items in
    sought_merge c.args.order c.args.key.now c.sources.i c.args.heads.now.items c.sources.heads.items (map f c.sources.sources.items) (map f all)
    (lists_within f c.args.heads.now.items all c.sources.i c.requires.taken (omega arith)) c.requires.rising c.sources.invariant.so_far
