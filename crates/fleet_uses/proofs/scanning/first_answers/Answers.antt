use Rattle.std.proofs.Common.{◌∙◌, ap, take}
use Rattle.std.specs.Int.{w64}
use Rattle.std.specs.Prelude.{ℤ}
use Rattle.std.proofs.lemmas.Int.{to_z-of_z}
use Rattle.row_model.specs.Scans.{scanned_pairs}
use Rattle.fleet_range.specs.Keys.{range_of}
use Rattle.fleet_scan.specs.Sources.{all_rows}
use Rattle.fleet_uses.proofs.scanning.first_answers.Goals as goal

pub returns-clause-answers : goal.returns-clause-answers
returns-clause-answers g c =
    let merging = g.O.MergeOperator.merged (g.O.MergeOperator.settings c.args.operator.now) in
    c.in_ok-next_answers.ensures.answers
    ∙ ap (take c.args.limit) (c.in_ok-scan.ensures.answers ∙ ap (λ (moment : ℤ). scanned_pairs merging (range_of c.args.range.now) c.args.seq moment (all_rows c.args.sources.now)) (to_z-of_z w64 c.args.now c.ranges.now))
