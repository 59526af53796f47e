use Rattle.line_laws.proofs.BeatLines as law
use Rattle.line_laws.proofs.beats_publish.Goals as goal

pub returns : goal.returns
returns c = law.beats_publish
