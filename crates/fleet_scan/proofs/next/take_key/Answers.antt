use Rattle.std.proofs.Common.{sym, subst, ℕ, List, Ok}
use Rattle.fleet_iter.specs.Merge.{SkipsKey}
use Rattle.fleet_iter.specs.MergeState as merge
use Rattle.fleet_table.specs.Iterator.{state_of}
use Rattle.fleet_scan.proofs.Steps.{takes_none, takes_one, takes_fewer, takes_rest}
use Rattle.fleet_scan.proofs.next.take_key.Goals as goal

pub rows-init : goal.rows-init
rows-init c = record {
  sound = c.requires.sound;
  reading = c.requires.reading;
  so_far = takes_none c.args.point c.args.taken.now (merge.state_of state_of c.args.source.now);
}

pub rows-preserved : goal.rows-preserved
rows-preserved c = record {
  sound = c.in_ok-take_row.ensures.sound;
  reading = c.in_ok-take_row.ensures.row.reading;
  so_far = takes_one c.args.point c.args.taken.now c.rows.taken c.take_row.new.taken (merge.state_of state_of c.args.source.now) (merge.state_of state_of c.rows.source) (merge.state_of state_of c.take_row.new.source)
      (sym c.rows-test.ensures) c.rows.invariant.so_far c.in_ok-take_row.ensures.row;
}

pub rows-smaller : goal.rows-smaller
rows-smaller c = takes_fewer c.args.point c.rows.taken c.take_row.new.taken (merge.state_of state_of c.rows.source) (merge.state_of state_of c.take_row.new.source) c.in_ok-take_row.ensures.row

pub returns-clause-key : goal.returns-clause-key
returns-clause-key c =
    let s = merge.state_of state_of c.rows.source in
    let new = merge.state_of state_of c.skip_key.new.self in
    let skips : SkipsKey c.rows.taken.key s new (Ok tt) = subst (λ (key : List ℕ). SkipsKey key s new (Ok tt)) c.key.ensures c.in_ok-skip_key.ensures.skip in
    takes_rest c.args.point c.args.taken.now c.rows.taken (merge.state_of state_of c.args.source.now) s new (sym c.rows-test.ensures) c.rows.invariant.reading c.rows.invariant.so_far skips
