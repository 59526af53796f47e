use Rattle.std.proofs.Common.{◌∙◌, ap, sym}
use Rattle.std.specs.List.{list_all}
use Rattle.fleet_model.specs.Nodes.{last_seq_of, segment_at}
use Rattle.step_model.specs.Steps.FlushSteps.{is_above}
use Rattle.fleet_tree.specs.Trees.{trees_of}
use Rattle.fleet_coordinator.proofs.FlushRules.{bare_flushes, least_above}
use Rattle.fleet_coordinator.proofs.flushing.are_above.Goals as goal

pub returns : goal.returns
returns c =
    c.is_above.ensures ∙ ap (is_above c.last_seq.result) c.requires.least ∙ sym (least_above c.last_seq.result c.args.flush.now.table c.requires.some)
    ∙ ap (λ last. list_all (λ r. is_above last r.seq) c.args.flush.now.table) (c.last_seq.ensures ∙ ap (λ segment. last_seq_of (segment_at segment (trees_of bare_flushes c.args.core.now))) c.as_slice.ensures)
