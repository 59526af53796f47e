use Rattle.std.proofs.Common.{◌∙◌, ap}
use Rattle.fleet_range.specs.Keys.{range_of}
use Rattle.fleet_exec.specs.Ranges.{reading}
use Rattle.fleet_exec.proofs.Opened.{merged_in}
use Rattle.fleet_exec.proofs.open.ready_merge.Goals as goal

pub returns-clause-rows : goal.returns-clause-rows
returns-clause-rows c = c.in_ok-merged_in.ensures.rows ∙ ap reading (merged_in (range_of c.args.range.now) c.args.sources.now c.requires c.merges_sort.ensures)
