use Rattle.std.proofs.Common.{◌∙◌, ap, subst}
use Rattle.std.specs.Prelude.{flat_map, Some}
use Rattle.std.proofs.lemmas.List.{take_all}
use Rattle.fleet_model.specs.Work.Polls.{lost_to_scheduler}
use Rattle.fleet_jobs.specs.Jobs.{job_of, jobs_of}
use Rattle.fleet_book.specs.Records.{AreRising}
use Rattle.fleet_book.specs.States.{own_jobs}
use Rattle.fleet_gates.specs.Held.{AreHeld}
use Rattle.fleet_poll.specs.Loops.{nodes_held}
use Rattle.fleet_poll.proofs.StillHeld.{held_at_first, held_more}
use Rattle.fleet_poll.proofs.judging.held_nodes.Goals as goal

pub lost-init : goal.lost-init
lost-init c =
    held_at_first (own_jobs c.args.state.now) c.in_ok-held.held (c.in_ok-held.ensures ∙ ap (λ v. flat_map (λ job. nodes_held (Some (job_of job))) v.compactions.jobs) c.compactions-2.ensures)

pub lost-preserved : goal.lost-preserved
lost-preserved c =
    let rising = subst (λ v. AreRising v.compactions.jobs) c.compactions.ensures c.know_rising.ensures in
    held_more (own_jobs c.args.state.now) c.args.lost.now c.lost.job-index c.job-item.result _ _ rising c.lost-test.true c.job-item.is c.requires c.lost.invariant c.in_ok-add_lost.ensures

pub returns : goal.returns
returns c = subst (λ l. AreHeld c.lost.held (jobs_of (own_jobs c.args.state.now)) (lost_to_scheduler l)) (take_all c.lost.job-index c.args.lost.now c.lost-test.false) c.lost.invariant
