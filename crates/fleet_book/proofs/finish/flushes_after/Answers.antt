use Rattle.std.proofs.Common.{◌∙◌, sym}
use Rattle.fleet_book.proofs.Exchanged.{flushes_stay, mark_stays}
use Rattle.fleet_book.proofs.finish.flushes_after.Goals as goal

pub returns-then-not-has_flush-clause-views : goal.returns-then-not-has_flush-clause-views
returns-then-not-has_flush-clause-views c =
    c.in_ok-clone.ensures.copy ∙ flushes_stay c.args.sources.now c.args.tree.now.l0 (sym c.has_flush.ensures ∙ c.if-not-has_flush.true)

pub returns-then-not-has_flush-clause-mark : goal.returns-then-not-has_flush-clause-mark
returns-then-not-has_flush-clause-mark c = mark_stays c.args.sources.now c.args.tree.now (sym c.has_flush.ensures ∙ c.if-not-has_flush.true)
