use Rattle.std.proofs.Common.{◌≡◌, ◌∙◌, sym, ap, true≢false, Bool, List, [], ◌∷◌, map}
use Rattle.std.specs.Prelude.{if◌then◌else◌}
use Rattle.fleet_model.specs.Jobs.{JobSpec}
use Rattle.fleet_jobs.specs.Specs.{spec_of}
use Rattle.fleet_tests.specs.Others.{first_job}
use Rattle.fleet_tests.proofs.Begins.{begins_with_none, begins_with_one}
use Rattle.fleet_tests.proofs.others.TwiceCompactionScheduler.propose.Goals as goal

abbrev jobs_if : Bool → List JobSpec
jobs_if b = if b then first_job ∷ first_job ∷ [] else []

pub returns-then-is_empty : goal.returns-then-is_empty
returns-then-is_empty c = λ flushes.
    ap (map spec_of) c.new.ensures.items ∙ sym (ap jobs_if (begins_with_none (flushes []) c.args.state.now.manifest.manifest.core.tree (c.is_empty.ensures.0 c.if-is_empty.true)))

pub returns : goal.returns
returns c = λ flushes.
    c.in_ok-job_twice.ensures ∙ sym (ap jobs_if (begins_with_one (flushes []) c.args.state.now.manifest.manifest.core.tree (λ none. true≢false (sym (c.is_empty.ensures.1 none) ∙ c.if-is_empty.false))))
