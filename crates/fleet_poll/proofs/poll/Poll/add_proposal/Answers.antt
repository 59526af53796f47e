use Rattle.std.proofs.Common.{◌∙◌, sym, ap, ◌∷◌, ◌++◌, []}
use Rattle.std.specs.Prelude.{◌==◌}
use Rattle.fleet_model.specs.Jobs.{put_job}
use Rattle.fleet_model.specs.Work.Records.{new_job}
use Rattle.fleet_jobs.specs.Jobs.{job_of, jobs_of}
use Rattle.fleet_jobs.specs.Specs.{spec_of}
use Rattle.fleet_book.specs.Records.{record_with}
use Rattle.fleet_book.specs.States.{is_taken, own_jobs}
use Rattle.fleet_poll.specs.Polls.{HasSameObjects}
use Rattle.fleet_poll.proofs.Carried.{added_sees}
use Rattle.fleet_poll.proofs.Changed.{others_stay}
use Rattle.fleet_poll.proofs.Reached.{must_be_taken, ok_anyway, on_ok, proposal_added, proposal_dropped, taken_is}
use Rattle.fleet_poll.proofs.poll.Poll.add_proposal.Goals as goal

pub returns-in_ok-clone-in-Ok-clause-poll : goal.returns-in_ok-clone-in-Ok-clause-poll
returns-in_ok-clone-in-Ok-clause-poll c = λ flushes.
    let poll = c.args.self.now in
    let spec = c.args.spec.now in
    let jobs = own_jobs poll.state in
    let named = ap (λ job. job.spec) c.new.ensures ∙ c.in_ok-clone.ensures.copy in
    let free = sym (taken_is spec jobs) ∙ sym (ap (λ s. is_taken s jobs) named) ∙ c.in-Ok.ensures.free in
    let same : HasSameObjects poll.state c.add_compaction.new.self = record {
      manifest = ap (λ s. s.manifest) c.in-Ok.ensures.ok;
      version = ap (λ s. s.compactions.id) c.in-Ok.ensures.ok;
      epoch = ap (λ s. s.compactions.compactions.compactor_epoch) c.in-Ok.ensures.ok;
    } in
    let put = c.in-Ok.ensures.model ∙ ap (λ job. put_job (job_of job) (jobs_of jobs)) c.new.ensures ∙ ap (λ s. put_job (new_job (c.args.id, spec_of s)) (jobs_of jobs)) c.in_ok-clone.ensures.copy in
    on_ok c.push.result
    (λ more. proposal_added flushes poll c.add_compaction.new.self c.push.new.self c.args.place c.args.id spec _ free same put (more ∙ ap (λ s. poll.added ++ (c.args.id, s) ∷ []) c.in_ok-clone-in-Ok.ensures.copy))
    c.push.ensures.ok

pub returns-in-Err-InvalidCompaction-clause-poll : goal.returns-in-Err-InvalidCompaction-clause-poll
returns-in-Err-InvalidCompaction-clause-poll c = λ flushes.
    let poll = c.args.self.now in
    let spec = c.args.spec.now in
    let jobs = own_jobs poll.state in
    let named = ap (λ job. job.spec) c.new.ensures ∙ c.in_ok-clone.ensures.copy in
    let refused = must_be_taken _ c.add_compaction.result c.in-Err-InvalidCompaction.field-0 c.add_compaction.ensures.memory c.in-Err-InvalidCompaction.is c.in-Err-InvalidCompaction.field-0-is in
    let taken = sym (taken_is spec jobs) ∙ sym (ap (λ s. is_taken s jobs) named) ∙ refused in
    on_ok c.push-in-Err-InvalidCompaction.result
    (λ more. proposal_dropped flushes poll c.add_compaction.new.self c.push-in-Err-InvalidCompaction.new.self c.args.place c.args.id spec _ taken c.in-Err-InvalidCompaction.ensures.err more)
    c.push-in-Err-InvalidCompaction.ensures.ok

pub returns-in_ok-clone-in-Ok-clause-others : goal.returns-in_ok-clone-in-Ok-clause-others
returns-in_ok-clone-in-Ok-clause-others c =
    let has_id = ap (λ job. job.id) c.new.ensures in
    ok_anyway c.push.result
    (λ other apart. ap (λ s. record_with other (own_jobs s)) c.in-Ok.ensures.ok ∙ others_stay c.new.result (own_jobs c.args.self.now.state) other (ap (λ id. id == other) has_id ∙ apart))

pub returns-in_ok-clone-in-Ok-clause-sees : goal.returns-in_ok-clone-in-Ok-clause-sees
returns-in_ok-clone-in-Ok-clause-sees c = ok_anyway c.push.result (added_sees c.args.self.now.state c.add_compaction.new.self c.new.result c.args.id _ c.new.ensures c.in-Ok.ensures.ok)
