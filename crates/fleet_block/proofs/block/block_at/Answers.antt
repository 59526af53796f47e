use Rattle.std.proofs.Common.{◌≡◌, true, false, ◌∙◌, ap, ◌-◌, ◌++◌, ◌∷◌, [], ℕ, arith}
use Rattle.std.specs.Prelude.{Option}
use Rattle.row_model.specs.Written.TableBytes.{rows_bytes}
use Rattle.fleet_rows.specs.Row.{rows_of}
use Rattle.fleet_block.specs.Finds.{AreRows, Finds, FindsLater}
use Rattle.std.proofs.lemmas.Result.{IfOk-weaker}
use Rattle.fleet_block.proofs.Later.{Rows, block_begun, block_unbounded, view}
use Rattle.fleet_block.proofs.block.block_at.Goals as goal

pub returns-clause-found : goal.returns-clause-found
returns-clause-found c =
    IfOk-weaker c.later_at.result
    (λ (all : Option (Rows × ℕ)). FindsLater view c.as_slice.result.now c.estimated_size-filled.result (c.args.count - 1) (rows_of c.push.new.self.items) c.args.bytes.now c.in-Some.place all)
    (λ (all : Option (Rows × ℕ)). Finds view rows_bytes (AreRows 0 c.args.count) c.args.bytes.now c.args.place all)
    (λ all rest. block_begun view c.args.bytes.now c.args.place c.args.count (c.args.count - 1) (omega arith) c.in_ok-row.field-0 c.in-Some.row c.in-Some.place c.in-Some.is c.in_ok-row.ensures.found
    c.as_slice.result.now (c.as_slice.ensures ∙ c.in_ok-first.ensures.cases) (rows_of c.push.new.self.items) (ap rows_of (c.in_ok-push.ensures.items ∙ ap (λ rs. rs ++ (c.in-Some.row ∷ [])) c.new-rows.ensures.items)) c.estimated_size-filled.result c.estimated_size-filled.ensures all rest)
    c.later_at.ensures.found

pub returns-then-not-is_in_bounds-clause-found : goal.returns-then-not-is_in_bounds-clause-found
returns-then-not-is_in_bounds-clause-found c =
    block_unbounded view c.args.bytes.now c.args.place c.args.count (omega arith) c.in_ok-row.field-0 c.in-Some.row c.in-Some.place c.in-Some.is c.in_ok-row.ensures.found
    (λ h. let tested : false ≡ true = c.if-not-is_in_bounds.ensures.1 h in cc tested)
