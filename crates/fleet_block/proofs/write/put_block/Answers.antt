use Rattle.std.proofs.Common.{◌≡◌, sym, ap, subst, ◌++◌, ◌-◌, length, List, ℕ, arith}
use Rattle.std.specs.Prelude.{OnOk}
use Rattle.std.proofs.lemmas.List.{length-append, length-map}
use Rattle.row_model.specs.Written.TableBytes.{rows_bytes}
use Rattle.fleet_rows.specs.Row.{row_of, rows_of}
use Rattle.fleet_block.proofs.Headers.{header_is}
use Rattle.fleet_block.proofs.write.put_block.Goals as goal

pub returns-clause-header : goal.returns-clause-header
returns-clause-header c =
    let counted : length c.args.block.now ≡ length (rows_of c.args.block.now) = sym (length-map c.args.block.now row_of) in
    let all = ap length (c.in_ok-put_rows.ensures.bytes) in
    let measured : c.len.result - c.len-start.result ≡ length (rows_bytes (rows_of c.args.block.now)) = omega (arith, all, length-append c.args.written.now.items (rows_bytes (rows_of c.args.block.now))) in
    subst (λ (h : List ℕ). OnOk c.put_header.result (c.put_header.new.headers.items ≡ c.args.headers.now.items ++ h))
    (header_is (rows_of c.args.block.now) (length c.args.block.now) (c.len.result - c.len-start.result) counted measured)
    c.put_header.ensures.bytes
