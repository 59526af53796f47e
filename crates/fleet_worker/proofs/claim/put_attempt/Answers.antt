use Rattle.std.proofs.Common.{◌∙◌, ap, not, nat_lt, arith}
use Rattle.std.specs.List.{prefix_len}
use Rattle.std.proofs.lemmas.List.Sums.{prefix_len-le-length}
use Rattle.fleet_worker.specs.Workers.{AttemptParts}
use Rattle.fleet_worker.proofs.Inserted.{placed}
use Rattle.fleet_worker.proofs.claim.put_attempt.Goals as goal

pub insert-requires : goal.insert-requires
insert-requires c =
    let within = prefix_len-le-length (λ (a : AttemptParts). not (nat_lt c.job.result a.job)) c.deref.result.now in
    omega (arith, c.place_after-place.ensures, within, c.deref.ensures.len)

pub returns : goal.returns
returns c =
    let items = c.args.attempts.now.items in
    let at =
    c.place_after-place.ensures
    ∙ ap (λ xs. prefix_len (λ (a : AttemptParts). not (nat_lt c.job.result a.job)) xs) c.deref.ensures.value
    ∙ ap (λ n. prefix_len (λ (a : AttemptParts). not (nat_lt n a.job)) items) c.job.ensures in
    c.in_ok-insert.ensures.items ∙ placed c.args.attempt items c.place_after-place.result at
