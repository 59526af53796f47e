use Rattle.std.proofs.Common.{rules, refl, ◌∙◌, ap, subst, List, ◌-◌, arith}
use Rattle.std.specs.Prelude.{Some, None}
use Rattle.std.proofs.lemmas.List.{map-append}
use Rattle.fleet_rows.specs.declared.row.RowEntry.{RowEntry}
use Rattle.fleet_rows.specs.Row.{row_of, rows_of}
use Rattle.fleet_block.specs.Finds.{FindsBlocks}
use Rattle.fleet_block.proofs.Blocks.{blocks_ended, blocks_onward, count_stopped, len_stopped, many_stopped, rows_stopped}
use Rattle.fleet_block.proofs.Later.{view}
use Rattle.fleet_block.proofs.read.blocks_at.Goals as goal

pub returns-in_default-clause-found : goal.returns-in_default-clause-found
returns-in_default-clause-found c =
    c.left.invariant.onward None (count_stopped view c.args.bytes.now c.left.header c.left.place (rows_of c.left.rows.items) c.left.left (omega arith) c.in_default.ensures.found)

pub returns-in_default-u64_at-clause-found : goal.returns-in_default-u64_at-clause-found
returns-in_default-u64_at-clause-found c =
    c.left.invariant.onward None (len_stopped view c.args.bytes.now c.left.header c.left.place (rows_of c.left.rows.items) c.in-Some.len c.in-Some.after c.in-Some.ensures.found
    c.left.left (omega arith) c.requires.small c.in_default-u64_at.ensures.found)

pub returns-in_default-2-clause-found : goal.returns-in_default-2-clause-found
returns-in_default-2-clause-found c =
    c.left.invariant.onward None (rows_stopped view c.args.bytes.now c.left.header c.left.place (rows_of c.left.rows.items) c.in-Some.len c.in-Some.after c.in-Some.ensures.found
    c.in-Some-u64_at.field-0-0 c.in-Some-u64_at.after c.in-Some-u64_at.ensures.found c.left.left (omega arith) c.in_ok-block.field-0 c.in_default-2.is c.in_ok-block.ensures.found)

pub left-preserved : goal.left-preserved
left-preserved c = record {
  headers_within = search rules;
  rows_within = search rules;
  onward = λ found rest. c.left.invariant.onward found
      (blocks_onward view c.args.bytes.now c.left.header c.left.place (rows_of c.left.rows.items) c.in-Some.len c.in-Some.after c.in-Some.ensures.found
      c.in-Some-u64_at.field-0-0 c.in-Some-u64_at.after c.in-Some-u64_at.ensures.found c.left.left (c.left.left - 1) (omega arith) c.requires.small c.in_ok-block.field-0 c.in-Some-2.block c.in-Some-2.next c.in-Some-2.is c.in_ok-block.ensures.found
      (rows_of c.append.new.rows.items) (ap rows_of c.in_ok-append.ensures.rows ∙ map-append row_of c.left.rows.items c.in-Some-2.block.items) found rest);
}

pub returns-clause-found : goal.returns-clause-found
returns-clause-found c = c.left.invariant.onward (Some (c.left.rows, c.left.place)) (blocks_ended view c.args.bytes.now c.left.header c.left.place (rows_of c.left.rows.items) c.left.left (omega arith) c.left.rows refl)

pub left-init : goal.left-init
left-init c = record {
  headers_within = c.requires.header;
  rows_within = c.requires.place;
  onward = λ found rest. subst (λ (rows : List RowEntry). FindsBlocks view c.args.count (rows_of rows) c.args.bytes.now c.args.header c.args.place found) c.new-rows.ensures.items rest;
}

pub returns-then-len-gt-MAX_BLOCK_ROWS-clause-found : goal.returns-then-len-gt-MAX_BLOCK_ROWS-clause-found
returns-then-len-gt-MAX_BLOCK_ROWS-clause-found c =
    c.left.invariant.onward None (many_stopped view c.args.bytes.now c.left.header c.left.place (rows_of c.left.rows.items) c.in-Some.len c.in-Some.after c.in-Some.ensures.found c.left.left (omega arith) (omega arith))
