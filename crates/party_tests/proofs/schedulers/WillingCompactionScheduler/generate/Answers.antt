use Rattle.party_tests.proofs.schedulers.WillingCompactionScheduler.generate.Goals as goal

pub returns-then-self : goal.returns-then-self
returns-then-self c = λ flushes. rw c.if-self.true (c.default_generate.ensures flushes)
