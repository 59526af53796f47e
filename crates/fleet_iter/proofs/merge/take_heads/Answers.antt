use Rattle.std.proofs.Common.{◌≡◌, ◌∙◌, ◌++◌, ◌+◌, ◌∷◌, [], sym, ap, subst, length, arith, Option, List}
use Rattle.std.specs.Prelude.{map}
use Rattle.std.proofs.lemmas.Result.{err_from_is_err_and}
use Rattle.std.proofs.lemmas.List.{map-set, length-map, length-append}
use Rattle.std.proofs.Math.ListN.{set, length-set}
use Rattle.fleet_rows.specs.declared.row.RowEntry.{RowEntry}
use Rattle.fleet_iter.specs.Heads.{HeadRows}
use Rattle.fleet_iter.specs.Iteration.{IteratorState, CanFail}
use Rattle.fleet_iter.specs.Merge.{AllBegun, lists, rows_left, all_whole, manners}
use Rattle.fleet_iter.proofs.Merges.{alive_at, begin_more, all_begun, one_fails, one_failed, state_at, state_within, all_set}
use Rattle.fleet_iter.proofs.merge.take_heads.Goals as goal

pub first_row-requires-clause-alive : goal.first_row-requires-clause-alive
first_row-requires-clause-alive g c =
    let f = g.T.RowSource.state in
    let xs = c.sources.sources.items in
    let x = c.index_mut.result.now in
    alive_at c.sources.heads.rows (map f xs) c.sources.i (f x) c.sources.invariant.begun c.sources.invariant.count
    (state_within f xs c.args.sources.now.items c.sources.i c.sources.invariant.size (omega arith)) (state_at f xs c.sources.i x c.index_mut.ensures.value)

pub returns-in_err-head-clause-err : goal.returns-in_err-head-clause-err
returns-in_err-head-clause-err g c =
    let f = g.T.RowSource.state in
    let xs = c.sources.sources.items in
    let x = c.index_mut.result.now in
    let e = c.in_err-head.field-0.0 in
    let p = err_from_is_err_and c.from_residual.result c.from_residual.ensures.1 in
    rw (p.1, p.2) (subst (λ b. CanFail b e) (ap all_whole c.sources.invariant.same_manner) (one_fails (map f xs) c.sources.i (f x) e
    (state_within f xs c.args.sources.now.items c.sources.i c.sources.invariant.size (omega arith)) (state_at f xs c.sources.i x c.index_mut.ensures.value) c.in_err-head.ensures.err))

pub returns-in_err-head-clause-handed : goal.returns-in_err-head-clause-handed
returns-in_err-head-clause-handed g c =
    let f = g.T.RowSource.state in
    let xs = c.sources.sources.items in
    let e = c.in_err-head.field-0.0 in
    let p = err_from_is_err_and c.from_residual.result c.from_residual.ensures.1 in
    let within = state_within f xs c.args.sources.now.items c.sources.i c.sources.invariant.size (omega arith) in
    rw (p.1, p.2) (λ _. one_failed f xs c.sources.i c.first_row.new.source e within c.in_err-head.ensures.handed)

pub sources-preserved : goal.sources-preserved
sources-preserved g c =
    let f = g.T.RowSource.state in
    let xs = c.sources.sources.items in
    let hs = c.sources.heads.rows in
    let ss = map f xs in
    let k = c.sources.i in
    let y = c.first_row.new.source in
    let h = c.in_ok-head.head in
    let x = c.index_mut.result.now in
    let within = state_within f xs c.args.sources.now.items k c.sources.invariant.size (omega arith) in
    let m = begin_more hs ss k (f x) (f y) h c.sources.invariant.begun c.sources.invariant.count within (state_at f xs k x c.index_mut.ensures.value) c.in_ok-head.ensures.ok in
    let pushed : c.push.new.self.rows ≡ hs ++ h ∷ [] = ap (λ (w : HeadRows). w.rows) c.in_ok-push.ensures.ok in
    let moved : map f (set xs k y) ≡ set ss k (f y) = map-set f xs k y in
    let more : length c.push.new.self.rows ≡ length (hs ++ h ∷ []) = ap length pushed in
    let most : length (hs ++ h ∷ []) ≡ length hs + length (h ∷ []) = length-append hs (h ∷ []) in
    let count : length hs ≡ k = c.sources.invariant.count in
    record {
      sound = all_set g.T.RowSource.sound xs k y c.in_ok-head.ensures.sound c.sources.invariant.sound;
      count = omega (arith, more, most, count);
      size = length-set xs k y ∙ c.sources.invariant.size;
      begun = subst (λ (w : List (Option RowEntry)). AllBegun w (map f (set xs k y))) (sym pushed) (subst (λ (w : List IteratorState). AllBegun (hs ++ h ∷ []) w) (sym moved) m.begun);
      rows = ap (λ (w : List (Option RowEntry)). lists w (rows_left (map f (set xs k y)))) pushed ∙ (ap (λ (w : List IteratorState). lists (hs ++ h ∷ []) (rows_left w)) moved ∙ (m.rows ∙ c.sources.invariant.rows));
      order = ap (λ (w : HeadRows). w.order) c.in_ok-push.ensures.ok ∙ c.sources.invariant.order;
      same_manner = ap manners moved ∙ (m.same_manner ∙ c.sources.invariant.same_manner);
    }

pub returns-clause-ok : goal.returns-clause-ok
returns-clause-ok g c =
    let f = g.T.RowSource.state in
    let xs = c.sources.sources.items in
    let ss = map f xs in
    let d : length ss ≡ length xs = length-map _ _ in
    let n : length xs ≡ length c.args.sources.now.items = c.sources.invariant.size in
    let count : length c.sources.heads.rows ≡ c.sources.i = c.sources.invariant.count in
    record { rows = c.sources.invariant.rows; taken = all_begun c.sources.heads.rows ss c.sources.invariant.begun (omega (arith, d, n, count)); same_manner = c.sources.invariant.same_manner }
