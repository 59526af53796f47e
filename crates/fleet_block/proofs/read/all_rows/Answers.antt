use Rattle.std.proofs.Common.{sym, ap, ◌++◌, length, [], arith}
use Rattle.std.specs.List.{flat_map}
use Rattle.std.proofs.lemmas.List.{length-append, length-drop}
use Rattle.row_model.specs.Written.TableBytes.{header_bytes, rows_bytes}
use Rattle.fleet_block.specs.Finds.{joined_rows}
use Rattle.fleet_block.proofs.Found.{found_none, found_some}
use Rattle.fleet_block.proofs.Later.{view}
use Rattle.fleet_block.proofs.Tables.{count_fits, headers_len, rows_after}
use Rattle.fleet_block.proofs.read.all_rows.Goals as goal

pub returns-in_default-clause-rows : goal.returns-in_default-clause-rows
returns-in_default-clause-rows c cut fits e =
    c.in_default.ensures.found (length cut) (flat_map header_bytes cut ++ flat_map rows_bytes cut) (count_fits cut c.args.bytes.now (omega arith) e) e

pub returns-then-most-count-clause-rows : goal.returns-then-most-count-clause-rows
returns-then-most-count-clause-rows c cut fits e =
    let one = c.in-Some.ensures.found (length cut) (flat_map header_bytes cut ++ flat_map rows_bytes cut) (count_fits cut c.args.bytes.now (omega arith) e) e in
    let all = ap length one.1 in
    let heads = headers_len cut in
    absurd (omega (arith, one.0, all, heads, length-drop c.in-Some.header c.args.bytes.now, length-append (flat_map header_bytes cut) (flat_map rows_bytes cut)))

pub returns-in_default-2-clause-rows : goal.returns-in_default-2-clause-rows
returns-in_default-2-clause-rows c cut fits e =
    let one = c.in-Some.ensures.found (length cut) (flat_map header_bytes cut ++ flat_map rows_bytes cut) (count_fits cut c.args.bytes.now (omega arith) e) e in
    found_none view (joined_rows cut) [] c.args.bytes.now c.in_ok-rows.field-0 c.in_default-2.is
    (c.in_ok-rows.ensures.found cut (flat_map rows_bytes cut) [] (record { blocks = fits; counted = sym one.0 }) one.1 (rows_after cut c.args.bytes.now c.in-Some.header c.in-Some.count one.0 one.1))

pub returns-clause-rows : goal.returns-clause-rows
returns-clause-rows c cut fits e =
    let one = c.in-Some.ensures.found (length cut) (flat_map header_bytes cut ++ flat_map rows_bytes cut) (count_fits cut c.args.bytes.now (omega arith) e) e in
    let all = found_some view (joined_rows cut) [] c.args.bytes.now c.in_ok-rows.field-0 c.in-Some-2.rows c.in-Some-2.field-0-1 c.in-Some-2.is
    (c.in_ok-rows.ensures.found cut (flat_map rows_bytes cut) [] (record { blocks = fits; counted = sym one.0 }) one.1 (rows_after cut c.args.bytes.now c.in-Some.header c.in-Some.count one.0 one.1)) in
    all.0
