use Rattle.fleet_text.proofs.Cuts.{bad_front, bad_rest, rows_all, rows_more}
use Rattle.fleet_text.proofs.row.rows_at.Goals as goal

pub returns-in_default-2 : goal.returns-in_default-2
returns-in_default-2 c = bad_front c.in-Some.front.now c.in-Some.after.now c.rows.invariant c.in-Some.ensures (rw c.in_default-2.is at c.in_ok-row.ensures)

pub rows-preserved : goal.rows-preserved
rows-preserved c = rw c.in_ok-push.ensures.items (rows_more c.in-Some-2.row c.in-Some.front.now c.in-Some.after.now c.rows.invariant c.in-Some.ensures.1 (rw c.in-Some-2.is at c.in_ok-row.ensures))

pub returns-in_default-3 : goal.returns-in_default-3
returns-in_default-3 c = bad_rest c.rows.invariant c.in_default.ensures (rw c.in_default-3.is at c.in_ok-row-2.ensures)

pub returns : goal.returns
returns c = rw (c.from_vec.ensures, c.in_ok-push-2.ensures.items) (rows_all c.in-Some-3.row c.rows.invariant (rw c.in-Some-3.is at c.in_ok-row-2.ensures))
