use Rattle.std.proofs.Common.{sym, ◌∙◌, arith}
use Rattle.std.proofs.lemmas.Fmt.{decimal_injective}
use Rattle.fleet_text.proofs.word.job_of.Goals as goal

pub returns-then-job-eq0 : goal.returns-then-job-eq0
returns-then-job-eq0 c = λ x fits e.
    let same = decimal_injective x c.in_ok-job.job fits.1 c.in_ok-job.ensures.0 (sym e ∙ c.in_ok-job.ensures.1) in
    omega (arith, same, fits)
