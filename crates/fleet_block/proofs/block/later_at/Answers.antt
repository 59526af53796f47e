use Rattle.std.proofs.Common.{◌≡◌, true, false, rules, refl, ◌∙◌, ap, ◌+◌, ◌-◌, ◌∷◌, [], arith}
use Rattle.std.specs.Prelude.{Some, None}
use Rattle.std.proofs.lemmas.List.{map-append}
use Rattle.fleet_rows.specs.Row.{row_of, rows_of}
use Rattle.fleet_block.proofs.Later.{ended, full, onward, stopped, unbounded, view}
use Rattle.fleet_block.proofs.block.later_at.Goals as goal

pub returns-in_default-clause-found : goal.returns-in_default-clause-found
returns-in_default-clause-found c =
    c.left.invariant.onward None (stopped view c.args.first.now c.args.bytes.now c.left.place c.left.filled (rows_of c.left.rows.items) c.left.left (omega arith) c.in_ok-row.field-0 c.in_default.is c.in_ok-row.ensures.found)

pub left-preserved : goal.left-preserved
left-preserved c = record {
  within = search rules;
  onward = λ found rest. c.left.invariant.onward found
      (onward view c.args.first.now c.args.bytes.now c.left.place c.left.filled (rows_of c.left.rows.items) c.left.left (c.left.left - 1) (omega arith) c.in_ok-row.field-0 c.in-Some.row c.in-Some.next c.in-Some.is c.in_ok-row.ensures.found
      (rows_of c.push.new.self.items) (ap rows_of c.in_ok-push.ensures.items ∙ map-append row_of c.left.rows.items (c.in-Some.row ∷ [])) (c.left.filled + c.estimated_size-filled.result) (ap (λ n. c.left.filled + n) c.estimated_size-filled.ensures) found rest);
}

pub returns-clause-found : goal.returns-clause-found
returns-clause-found c = c.left.invariant.onward (Some (c.left.rows, c.left.place)) (ended view c.args.first.now c.args.bytes.now c.left.place c.left.filled (rows_of c.left.rows.items) c.left.left (omega arith) c.left.rows refl)

pub returns-then-filled-ge-BLOCK_BYTES-clause-found : goal.returns-then-filled-ge-BLOCK_BYTES-clause-found
returns-then-filled-ge-BLOCK_BYTES-clause-found c =
    c.left.invariant.onward None (full view c.args.first.now c.args.bytes.now c.left.place c.left.filled (rows_of c.left.rows.items) c.left.left (omega arith) c.if-filled-ge-BLOCK_BYTES.true)

pub returns-then-not-is_in_bounds-clause-found : goal.returns-then-not-is_in_bounds-clause-found
returns-then-not-is_in_bounds-clause-found c =
    c.left.invariant.onward None (unbounded view c.args.first.now c.args.bytes.now c.left.place c.left.filled (rows_of c.left.rows.items) c.left.left (omega arith) c.in_ok-row.field-0 c.in-Some.row c.in-Some.next c.in-Some.is c.in_ok-row.ensures.found
    (λ h. let tested : false ≡ true = c.if-not-is_in_bounds.ensures.1 h in cc tested))
