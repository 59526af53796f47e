use Rattle.std.proofs.Common.{◌∙◌, sym, ap}
use Rattle.fleet_model.specs.History.{Polled}
use Rattle.fleet_model.specs.Work.Polls.{is_nothing}
use Rattle.fleet_book.specs.VersionedRecords.{VersionedRecords}
use Rattle.fleet_change.proofs.put.records_put.Goals as goal

pub returns-then-is_nothing-clause-put : goal.returns-then-is_nothing-clause-put
returns-then-is_nothing-clause-put c = λ flushes. ap is_nothing (sym (c.in_ok-change.ensures.change flushes)) ∙ sym c.is_nothing.ensures ∙ c.if-is_nothing.true

pub returns-clause-put : goal.returns-clause-put
returns-clause-put c = record {
  some = λ flushes. ap is_nothing (sym (c.in_ok-change.ensures.change flushes)) ∙ sym c.is_nothing.ensures ∙ c.if-is_nothing.false;
  at = c.id.ensures ∙ ap (λ (v : VersionedRecords). v.id) c.compactions.ensures;
  why = λ flushes. ap Polled (c.in_ok-change.ensures.change flushes);
  value = c.in_ok-trimmed.ensures.value;
}
