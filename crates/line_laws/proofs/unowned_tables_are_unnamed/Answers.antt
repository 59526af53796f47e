use Rattle.line_laws.proofs.UnnamedTables as law
use Rattle.line_laws.proofs.unowned_tables_are_unnamed.Goals as goal

pub returns : goal.returns
returns c = law.unowned_tables_are_unnamed
