use Rattle.std.proofs.Common.{◌∙◌}
use Rattle.fleet_book.specs.States.{own_jobs}
use Rattle.fleet_poll.proofs.Changed.{same_again}
use Rattle.fleet_poll.proofs.Over.{kept_over}
use Rattle.fleet_poll.proofs.Reached.{add_more, kept_more, new_more}
use Rattle.fleet_poll.proofs.poll.Poll.add_drawn.Goals as goal

pub drawn-preserved : goal.drawn-preserved
drawn-preserved c =
    let drawn = c.args.drawn.now in
    let i = c.drawn.place in
    let d = c.index-drawn-place.result in
    let before = own_jobs c.drawn.self.state in
    let after = own_jobs c.add_proposal.new.self.state in
    let new = c.drawn.invariant.1.1.0 in
    let stay = c.in_ok-add_proposal.ensures.others in (
      λ flushes. add_more drawn i d _ _ _ c.drawn-test.true c.index-drawn-place.is (c.drawn.invariant.0 flushes) (c.in_ok-add_proposal.ensures.poll flushes),
      (
        same_again _ _ _ c.drawn.invariant.1.0 c.in_ok-add_proposal.ensures.same,
        (
          new_more drawn i d before after c.drawn-test.true c.index-drawn-place.is c.requires.once stay new,
          (
            λ id job found. kept_more drawn i d before after c.drawn-test.true c.index-drawn-place.is new stay id job (c.drawn.invariant.1.1.1.0 id job found),
            (λ input s sees. c.in_ok-add_proposal.ensures.sees input s (c.drawn.invariant.1.1.1.1.0 input s sees), c.in_ok-add_proposal.ensures.lost ∙ c.drawn.invariant.1.1.1.1.1),
          ),
        ),
      ),
    )

pub returns-clause-lost : goal.returns-clause-lost
returns-clause-lost c = kept_over c.args.self.now c.drawn.self c.drawn.invariant.1.1.1.0 c.drawn.invariant.1.1.1.1.1
