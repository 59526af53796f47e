use Rattle.std.proofs.Common.{◌≡◌, ◌∙◌, List, ℕ, length, ap, arith, sym}
use Rattle.std.specs.Prelude.{filter}
use Rattle.std.proofs.lemmas.Bool.Decides.{nat_tests}
use Rattle.fleet_model.specs.Jobs.{contains}
use Rattle.course_laws.specs.Histories.{finished_jobs}
use Rattle.fleet_history.specs.Entries.{entry_of, history_of}
use Rattle.fleet_lock.proofs.LastEntry.{finishes_read, none_among}
use Rattle.fleet_lock.proofs.last_entry.committed.Goals as goal

pub returns-then-is_empty : goal.returns-then-is_empty
returns-then-is_empty c =
    let none : length c.completed-jobs.result.now ≡ 0 = grind (arith, nat_tests, c.is_empty.ensures, c.if-is_empty.ensures) in
    none_among _ _ (ap length (sym c.completed-jobs.ensures) ∙ none)

pub returns-else-is_empty : goal.returns-else-is_empty
returns-else-is_empty c =
    c.count_finished.ensures ∙ finishes_read entry_of c.completed-jobs.result.now c.args.before.now
    ∙ ap (λ (jobs : List ℕ). length (filter (contains jobs) (finished_jobs (history_of c.args.before.now)))) c.completed-jobs.ensures
