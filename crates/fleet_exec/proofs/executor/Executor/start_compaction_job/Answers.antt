use Rattle.std.proofs.Common.{sym, subst, ◌∙◌, ap, ◌≡◌, ◌+◌, length}
use Rattle.std.specs.Prelude.{IsSomeAnd}
use Rattle.std.specs.Bool.{OnFalse}
use Rattle.std.proofs.lemmas.Result.{on_ok_weaker}
use Rattle.fleet_exec.specs.Executors.{AreById, IsStarted, StartsAs, active_job_with}
use Rattle.fleet_exec.proofs.ActiveJobs.{by_result, is_added, length_put}
use Rattle.fleet_exec.proofs.executor.Executor.start_compaction_job.Goals as goal

pub invariant_of-self : goal.invariant_of-self
invariant_of-self c =
    let jobs = c.self.inside.jobs in
    let own = ap (λ args. args.id) c.in_ok-job.ensures.job.same in
    record {
      by_id =
          by_result c.insert_job.result c.insert_job.ensures.ok c.insert_job.ensures.err
          (λ made. (is_added c.args.args.id c.args.self.now.jobs jobs c.insert_job.new.jobs c.in_ok-job.job (ap (λ e. e.jobs) c.self.view_is) c.self.invariant.by_id c.requires.new own made).by_id)
          (λ same. subst AreById (sym same) c.self.invariant.by_id);
      ended = λ stopped. absurd (cc (c.if-self.false, stopped));
    }

pub returns-clause-started : goal.returns-clause-started
returns-clause-started c =
    let id = c.args.args.id in
    let jobs = c.self.inside.jobs in
    let own = ap (λ args. args.id) c.in_ok-job.ensures.job.same in
    let starts = StartsAs c.args.args c.args.max_subcompactions in
    on_ok_weaker c.insert_job.result
    (λ made.
    let added = is_added id c.args.self.now.jobs jobs c.insert_job.new.jobs c.in_ok-job.job (ap (λ e. e.jobs) c.self.view_is) c.self.invariant.by_id c.requires.new own made in
    let held = subst (λ o. IsSomeAnd o starts) (sym added.found) c.in_ok-job.ensures.job in
    let running = sym (ap (λ e. e.stopped) c.self.view_is) ∙ c.if-self.false in
    subst (λ b. OnFalse b (IsSomeAnd (active_job_with id c.insert_job.new.jobs) starts)) (sym running) held)
    c.insert_job.ensures.ok

pub returns-clause-others : goal.returns-clause-others
returns-clause-others c =
    let jobs = c.self.inside.jobs in
    let own = ap (λ args. args.id) c.in_ok-job.ensures.job.same in
    let is = ap (λ e. e.jobs) c.self.view_is in
    λ other differs.
    by_result c.insert_job.result c.insert_job.ensures.ok c.insert_job.ensures.err
    (λ made. (is_added c.args.args.id c.args.self.now.jobs jobs c.insert_job.new.jobs c.in_ok-job.job is c.self.invariant.by_id c.requires.new own made).others other differs)
    (λ same. ap (active_job_with other) (same ∙ is))

pub returns-clause-count : goal.returns-clause-count
returns-clause-count c =
    let jobs = c.self.inside.jobs in
    let running = sym (ap (λ e. e.stopped) c.self.view_is) ∙ c.if-self.false in
    on_ok_weaker c.insert_job.result
    (λ made. subst (λ b. OnFalse b (length c.insert_job.new.jobs ≡ length c.args.self.now.jobs + 1)) (sym running) (ap length made ∙ length_put c.in_ok-job.job jobs ∙ ap (λ e. length e.jobs + 1) c.self.view_is))
    c.insert_job.ensures.ok

pub returns-clause-placed : goal.returns-clause-placed
returns-clause-placed c =
    let jobs = c.self.inside.jobs in
    let own = ap (λ args. args.id) c.in_ok-job.ensures.job.same in
    let running = sym (ap (λ e. e.stopped) c.self.view_is) ∙ c.if-self.false in
    on_ok_weaker c.insert_job.result
    (λ made.
    let added = is_added c.args.args.id c.args.self.now.jobs jobs c.insert_job.new.jobs c.in_ok-job.job (ap (λ e. e.jobs) c.self.view_is) c.self.invariant.by_id c.requires.new own made in
    subst (λ b. OnFalse b (IsStarted c.args.args c.args.max_subcompactions c.args.self.now.jobs c.insert_job.new.jobs)) (sym running)
    (record { job = c.in_ok-job.job; starts = c.in_ok-job.ensures.job; placed = added.placed }))
    c.insert_job.ensures.ok
