use Rattle.line_laws.proofs.BeatLines as law
use Rattle.line_laws.proofs.stops_release.Goals as goal

pub returns : goal.returns
returns c = law.stops_release
