use Rattle.line_laws.proofs.NamedCommits as law
use Rattle.line_laws.proofs.named_tables_are_committed.Goals as goal

pub returns : goal.returns
returns c = law.named_tables_are_committed
