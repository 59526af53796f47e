use Rattle.std.proofs.Common.{◌∙◌, sym, ap, subst, []}
use Rattle.std.specs.Option.{option_copied}
use Rattle.fleet_tree.specs.Trees.{trees_of}
use Rattle.fleet_book.specs.Records.{AreRising, record_with}
use Rattle.fleet_book.specs.States.{own_jobs}
use Rattle.fleet_poll.specs.Polls.{opened_record}
use Rattle.fleet_poll.proofs.Changed.{there_is}
use Rattle.fleet_poll.proofs.Records.{not_there, opened_job}
use Rattle.fleet_poll.proofs.opening.open_job.Goals as goal

pub returns-in_default-clause-jobs : goal.returns-in_default-clause-jobs
returns-in_default-clause-jobs c = λ flushes.
    let seen = ap (λ v. v.jobs) (c.compactions-3.ensures ∙ ap (λ v. v.compactions) c.compactions-2.ensures) in
    not_there (opened_record (trees_of flushes c.args.state.now.manifest.manifest.core)) c.args.id (own_jobs c.args.state.now)
    (sym (ap option_copied (sym c.in_default.is) ∙ c.get.ensures ∙ ap (record_with c.args.id) seen))

pub set_compaction-requires : goal.set_compaction-requires
set_compaction-requires c =
    let jobs = own_jobs c.args.state.now in
    let seen = ap (λ v. v.jobs) (c.compactions-3.ensures ∙ ap (λ v. v.compactions) c.compactions-2.ensures) in
    let found = sym (ap option_copied (sym c.in-Some.is) ∙ c.get.ensures ∙ ap (record_with c.args.id) seen) in
    let rising = subst (λ v. AreRising v.compactions.jobs) c.compactions.ensures c.know_rising.ensures in
    let made = opened_job (trees_of (λ prefix run. []) c.core.result.now) c.args.id jobs _ _ rising found (c.in_ok-made.ensures.job (λ prefix run. [])) in
    there_is c.args.id c.in_ok-made.made.id jobs _ made.0 found

pub returns-clause-jobs : goal.returns-clause-jobs
returns-clause-jobs c = λ flushes.
    let jobs = own_jobs c.args.state.now in
    let seen = ap (λ v. v.jobs) (c.compactions-3.ensures ∙ ap (λ v. v.compactions) c.compactions-2.ensures) in
    let found = sym (ap option_copied (sym c.in-Some.is) ∙ c.get.ensures ∙ ap (record_with c.args.id) seen) in
    let rising = subst (λ v. AreRising v.compactions.jobs) c.compactions.ensures c.know_rising.ensures in
    let core = c.core.ensures ∙ ap (λ m. m.manifest.core) c.manifest.ensures in
    let made = opened_job (trees_of flushes c.args.state.now.manifest.manifest.core) c.args.id jobs _ _ rising found (c.in_ok-made.ensures.job flushes ∙ ap (λ k. opened_record (trees_of flushes k) c.in-Some.job.now) core) in
    ap own_jobs c.set_compaction.ensures ∙ made.1
