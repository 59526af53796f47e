use Rattle.std.proofs.Common.{◌≡◌, ◌≢◌, ◌∙◌, arith, sym}
use Rattle.fleet_lock.proofs.Tallies.{counts_on, stays}
use Rattle.fleet_lock.proofs.tally.Tally.after.Goals as goal

pub returns-then-seen-self : goal.returns-then-seen-self
returns-then-seen-self g c v follows is =
    let short : c.len-seen.result ≡ c.args.self.seen = grind (arith, c.if-seen-self.true) in
    stays _ v (g.S.Holds.value c.args.held.now) follows c.known.ensures.steps c.args.self is (sym c.len-seen.ensures ∙ short)

pub returns-else-seen-self : goal.returns-else-seen-self
returns-else-seen-self g c v follows is =
    let long : c.len-seen.result ≢ c.args.self.seen = grind (arith, c.if-seen-self.false) in
    counts_on _ v (g.S.Holds.value c.args.held.now) follows c.known.ensures.steps c.args.self
    (record { seen = c.len-seen.result; claims = c.saturating_add.result; commits = c.saturating_add-else-seen-self.result })
    c.last_claims.result c.last_commits.result is (λ short. long (c.len-seen.ensures ∙ short)) c.last_claims.ensures c.last_commits.ensures c.len-seen.ensures c.saturating_add.ensures c.saturating_add-else-seen-self.ensures
