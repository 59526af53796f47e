use Rattle.line_laws.proofs.NotedOutputs as law
use Rattle.line_laws.proofs.outputs_note.Goals as goal

pub returns : goal.returns
returns c = law.outputs_note
