use Rattle.fleet_store.proofs.Memories.{taken_away, taken_away_at_last}
use Rattle.fleet_store.proofs.memory.hold.Goals as goal

pub returns-then-not-is_done-clause-held : goal.returns-then-not-is_done-clause-held
returns-then-not-is_done-clause-held c =
    taken_away c.add_table-added.result c.args.tables.now.entries c.insert.new.self.entries c.remove.new.self.entries c.args.id c.args.table c.if-not-is_done.ensures c.requires c.in_ok-insert.ensures.entries c.remove.ensures.entries

pub returns-then-not-is_done-clause-same_tables : goal.returns-then-not-is_done-clause-same_tables
returns-then-not-is_done-clause-same_tables c =
    taken_away_at_last c.add_table-added.result c.args.tables.now.entries c.insert.new.self.entries c.remove.new.self.entries c.args.id c.args.table c.requires c.in_ok-insert.ensures.entries c.remove.ensures.entries
