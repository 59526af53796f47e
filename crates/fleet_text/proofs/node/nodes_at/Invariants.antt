use Rattle.script_model.specs.Bounds.{IsNode}
use Rattle.script_model.specs.Words.{node_text}
use Rattle.fleet_text.specs.Lines.{node_of}
use Rattle.fleet_text.proofs.Each.{ReadsEach}
use Rattle.fleet_text.proofs.node.nodes_at.Given as goal

abbrev pub invariant-fields : goal.invariant-fields
invariant-fields l = ReadsEach node_of node_text IsNode l.field-items l.field-index l.nodes.items
