use Rattle.std.proofs.Common.{◌∙◌, sym, ap}
use Rattle.fleet_book.specs.declared.compactions.Compactions.{Compactions}
use Rattle.fleet_worker.proofs.Beaten.{beats_by, beats_nobody, beats_none}
use Rattle.fleet_worker.proofs.worker.Worker.beat_of.Goals as goal

pub returns-in_default-clause-beat : goal.returns-in_default-clause-beat
returns-in_default-clause-beat c = rw c.in_default.is (beats_none c.args.moment c.args.self.now c.in_ok-report.field-0 (rw (ap (λ (r : Compactions). r.jobs) c.new-none.ensures) at c.in_ok-report.ensures.report))

pub returns-then-is_empty-clause-beat : goal.returns-then-is_empty-clause-beat
returns-then-is_empty-clause-beat c =
    rw c.in-Some.is (beats_nobody c.args.moment c.args.self.now c.in-Some.got c.in_ok-report-2.report (rw c.compactions.ensures at c.in_ok-report-2.ensures.report) (c.is_empty.ensures.0 c.if-is_empty.true))

pub returns-clause-beat : goal.returns-clause-beat
returns-clause-beat c =
    rw c.in-Some.is
    (beats_by c.args.moment c.args.self.now c.in-Some.got c.in_ok-report-2.report (rw c.compactions.ensures at c.in_ok-report-2.ensures.report) (λ none. absurd (cc (sym c.if-is_empty.false ∙ c.is_empty.ensures.1 none))) c.in_ok-put.put c.in_ok-put.ensures.put)
