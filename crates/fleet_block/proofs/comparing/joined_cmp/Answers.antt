use Rattle.std.proofs.Common.{◌∙◌, ap, drop}
use Rattle.std.specs.Ordering.{ordering_then}
use Rattle.std.proofs.lemmas.List.{take_rest}
use Rattle.row_model.specs.Rows.{key_cmp}
use Rattle.fleet_block.proofs.Comparisons.{compared_in_parts}
use Rattle.fleet_block.proofs.comparing.joined_cmp.Goals as goal

pub returns-in-Equal : goal.returns-in-Equal
returns-in-Equal c =
    let rest = c.args.rest.now in
    let key = c.args.key.now in
    let n = c.min-len.result in
    c.cmp-in-Equal.ensures ∙ ap (key_cmp rest) (take_rest key n) ∙ ap (λ o. ordering_then o (key_cmp rest (drop n key))) c.in-Equal.ensures ∙ compared_in_parts c.args.front.now rest key n c.min-len.ensures

pub returns-in-Less : goal.returns-in-Less
returns-in-Less c =
    let rest = c.args.rest.now in
    let key = c.args.key.now in
    let n = c.min-len.result in
    ap (λ o. ordering_then o (key_cmp rest (drop n key))) c.in-Less.ensures ∙ compared_in_parts c.args.front.now rest key n c.min-len.ensures

pub returns-in-Greater : goal.returns-in-Greater
returns-in-Greater c =
    let rest = c.args.rest.now in
    let key = c.args.key.now in
    let n = c.min-len.result in
    ap (λ o. ordering_then o (key_cmp rest (drop n key))) c.in-Greater.ensures ∙ compared_in_parts c.args.front.now rest key n c.min-len.ensures
