use Rattle.std.proofs.Common.{◌∙◌, ap}
use Rattle.std.specs.Int.{w64}
use Rattle.std.specs.Prelude.{ℤ}
use Rattle.std.proofs.lemmas.Int.{to_z-of_z}
use Rattle.fleet_iter.specs.MergeState as merge
use Rattle.fleet_range.specs.Keys.{range_of}
use Rattle.fleet_table.specs.Iterator.{state_of}
use Rattle.fleet_exec.specs.Ranges.{Sources, reading}
use Rattle.fleet_scan.specs.Answers.{answers_of}
use Rattle.fleet_scan.specs.Sources.{ranged_rows}
use Rattle.fleet_scan.proofs.Ranged.{answers_are, reads_on}
use Rattle.fleet_scan.proofs.scan.Scan.new.Goals as goal

pub invariant_of-result : goal.invariant_of-result
invariant_of-result g c =
    let range = range_of c.args.range.now in
    let is = c.in_ok-rows.ensures.rows ∙ ap (λ (w : Sources). reading (ranged_rows range w)) c.as_slice.ensures in
    (c.in_ok-rows.ensures.sound, reads_on range c.args.sources.now c.requires (merge.state_of state_of c.in_ok-rows.rows) is)

pub returns-clause-answers : goal.returns-clause-answers
returns-clause-answers g c =
    let range = range_of c.args.range.now in
    let merging = g.O.MergeOperator.merged (g.O.MergeOperator.settings c.args.operator.now) in
    let rows = merge.state_of state_of c.in_ok-rows.rows in
    let is = c.in_ok-rows.ensures.rows ∙ ap (λ (w : Sources). reading (ranged_rows range w)) c.as_slice.ensures in
    ap (λ (moment : ℤ). answers_of merging c.args.seq moment rows.rows) (to_z-of_z w64 c.args.now c.ranges.now)
    ∙ answers_are range c.args.sources.now c.requires merging c.args.seq c.args.now rows is
