use Rattle.std.proofs.Common.{rules, ◌≡◌, ◌∙◌, ap, false}
use Rattle.std.specs.Int.{w64}
use Rattle.std.specs.Prelude.{ℤ}
use Rattle.std.proofs.lemmas.Int.{to_z-of_z}
use Rattle.row_model.specs.Scans.{scanned_pairs}
use Rattle.fleet_range.specs.Keys.{range_of}
use Rattle.fleet_scan.specs.Sources.{all_rows}
use Rattle.script_model.specs.Lines.Looks.{is_not_retained}
use Rattle.fleet_read.proofs.Scanned.{page_answers}
use Rattle.fleet_read.proofs.scan.scan_stored.Goals as goal

pub new-requires-after_bounds : goal.new-requires-after_bounds
new-requires-after_bounds g c κs within =
    let merge = g.O.MergeOperator.merged (g.O.MergeOperator.settings c.args.operator.now) in
    (c.in_ok-sources.ensures.sources merge c.requires).are

pub returns-clause-answer : goal.returns-clause-answer
returns-clause-answer g c =
    let merge = g.O.MergeOperator.merged (g.O.MergeOperator.settings c.args.operator.now) in
    let store = c.args.store.now.world.store in
    let range = range_of c.args.range.now in
    let sources = c.in_ok-sources.sources in
    let kept : is_not_retained store.manifest c.args.seq c.args.now ≡ false = search rules in
    page_answers merge store c.args.segment.now range c.args.seq c.args.now c.args.limit sources c.in_ok-scan.scan c.in_ok-take_page.field-0 c.requires kept (c.in_ok-sources.ensures.sources merge c.requires)
    (c.in_ok-scan.ensures.answers ∙ ap (λ (moment : ℤ). scanned_pairs merge range c.args.seq moment (all_rows sources)) (to_z-of_z w64 c.args.now c.ranges.now)) c.in_ok-take_page.ensures.page
