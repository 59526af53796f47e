use Rattle.std.proofs.Common.{◌≡◌, ◌∙◌, ap, not, arith}
use Rattle.std.specs.Prelude.{nat_lt}
use Rattle.std.proofs.lemmas.List.Sums.{prefix_len-le-length}
use Rattle.std.proofs.lemmas.Result.{on_ok_weaker}
use Rattle.fleet_exec.specs.ExecutorParts.{ActiveParts}
use Rattle.fleet_exec.proofs.ActiveJobs.{place_above, placed}
use Rattle.fleet_exec.proofs.executor.insert_job.Goals as goal

pub insert-requires : goal.insert-requires
insert-requires c =
    let at : c.place_after-place.result ≡ place_above c.args.job.args.id c.args.jobs.now = c.place_after-place.ensures ∙ ap (place_above c.id.result) c.as_slice.ensures ∙ ap (λ n. place_above n c.args.jobs.now) c.id.ensures in
    let within = prefix_len-le-length (λ (other : ActiveParts). not (nat_lt c.args.job.args.id other.args.id)) c.args.jobs.now in
    omega (arith, at, within)

pub returns-clause-ok : goal.returns-clause-ok
returns-clause-ok c =
    let at : c.place_after-place.result ≡ place_above c.args.job.args.id c.args.jobs.now = c.place_after-place.ensures ∙ ap (place_above c.id.result) c.as_slice.ensures ∙ ap (λ n. place_above n c.args.jobs.now) c.id.ensures in
    on_ok_weaker c.insert.result (λ made. made ∙ placed c.args.job c.args.jobs.now c.place_after-place.result at) c.insert.ensures.ok
