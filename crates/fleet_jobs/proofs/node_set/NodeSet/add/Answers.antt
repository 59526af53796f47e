use Rattle.fleet_jobs.specs.Sources.{name_of}
use Rattle.fleet_jobs.proofs.Indexed.{still_index}
use Rattle.fleet_jobs.proofs.node_set.NodeSet.add.Goals as goal

pub invariant_of-self : goal.invariant_of-self
invariant_of-self c =
    still_index name_of c.self.inside.runs c.add_node.new.runs c.self.inside.flushes c.add_node.new.flushes c.self.inside.nodes.items c.add_node.new.nodes.items c.args.node c.add_node.result
    c.self.invariant c.add_node.ensures.nodes c.add_node.ensures.sets c.add_node.ensures.same_nodes c.add_node.ensures.same_sets
