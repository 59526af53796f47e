use Rattle.std.proofs.Common.{rules, ◌∙◌, ◌-◌, ap, length, take}
use Rattle.std.proofs.lemmas.Fn.{filter_same}
use Rattle.fleet_jobs.specs.Jobs.{job_of}
use Rattle.fleet_jobs.specs.Workers.{release_of}
use Rattle.fleet_claim.specs.Choices.{is_taken}
use Rattle.fleet_claim.proofs.Choices.{are_claimed}
use Rattle.fleet_claim.proofs.choice.claimed_jobs.Goals as goal

pub returns : goal.returns
returns c =
    let running = c.args.running.now in
    let release = c.args.release in
    let kept = filter_same _ (λ job. is_taken running (release_of release) (job_of job)) _ (λ x b f called. search rules) _ _ c.retain.ensures.filtered in
    are_claimed c.args.slots running release c.args.jobs.items _
    (c.truncate.ensures.items ∙ ap (λ n. take n c.retain.new.self.items) c.free_slots.ensures ∙ ap (take (c.args.slots - length running)) kept)
