use Rattle.std.proofs.Common.{◌≡◌, ◌∙◌, ap, subst, [], List, ◌++◌, arith}
use Rattle.std.specs.Prelude.{reverse}
use Rattle.std.proofs.lemmas.Grind.{common_steps}
use Rattle.std.proofs.lemmas.List.{reverse-reverse}
use Rattle.std.proofs.lemmas.Result.{err_from_is_err_and}
use Rattle.fleet_iter.specs.Iteration.{AreRising}
use Rattle.fleet_rows.specs.Row.{rows_of}
use Rattle.fleet_rows.specs.declared.row.RowEntry.{RowEntry}
use Rattle.fleet_rows.specs.Settings.{settings_of}
use Rattle.fleet_fold.specs.Retention.{from_ahead, kept_given}
use Rattle.fleet_fold.proofs.Keys.{key_kept, fill_refused, rising_back}
use Rattle.fleet_fold.proofs.retention.fill.Goals as goal

pub keys-preserved : goal.keys-preserved
keys-preserved g c =
    let h = c.in_ok-rows.ensures.ok in
    let first = g.T.RowSource.state c.args.inner.now in
    let old = g.T.RowSource.state c.keys.inner in
    let new = g.T.RowSource.state c.read_key.new.inner in
    let settings = settings_of c.args.settings in
    let none : c.keys.buffer.items ≡ [] = grind (arith, common_steps) in
    let turned : reverse c.reverse.new.self.items ≡ c.in_ok-kept.kept.items = ap (λ (w : List RowEntry). reverse w) c.reverse.ensures.items ∙ reverse-reverse c.in_ok-kept.kept.items in
    record {
      sound = c.in_ok-rows.ensures.sound;
      readable = h.readable;
      whole = h.whole ∙ c.keys.invariant.whole;
      steady = h.steady ∙ c.keys.invariant.steady;
      refusal = h.refusal ∙ c.keys.invariant.refusal;
      rows = c.keys.invariant.rows ∙ (ap (λ (w : List RowEntry). rows_of (reverse w) ++ kept_given settings first.whole (from_ahead c.keys.ahead old)) none
          ∙ key_kept settings first.whole c.keys.ahead c.read_key.new.ahead old new c.in_ok-rows.rows.items c.in_ok-kept.kept.items (reverse c.reverse.new.self.items) h (h.whole ∙ c.keys.invariant.whole) c.in_ok-kept.ensures turned);
      rising = λ rises. rising_back (rows_of c.in_ok-rows.rows.items) (from_ahead c.read_key.new.ahead new) (subst AreRising h.parts (c.keys.invariant.rising rises));
    }

pub returns-in_err-rows-clause-err : goal.returns-in_err-rows-clause-err
returns-in_err-rows-clause-err g c =
    let first = g.T.RowSource.state c.args.inner.now in
    let s = g.T.RowSource.state c.keys.inner in
    let none : c.keys.buffer.items ≡ [] = grind (arith, common_steps) in
    let p = err_from_is_err_and c.from_residual.result c.from_residual.ensures.1 in
    rw (p.1, p.2) (fill_refused (settings_of c.args.settings) (reverse c.args.buffer.now.items) (reverse c.keys.buffer.items) c.args.ahead.now c.keys.ahead first s (g.T.RowSource.state c.read_key.new.inner) c.in_err-rows.field-0.0 c.in_err-rows.ensures.err c.keys.invariant.whole c.keys.invariant.refusal c.keys.invariant.rows (ap reverse none))
