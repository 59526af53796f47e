use Rattle.std.proofs.Common.{rules, ◌≡◌, ◌∙◌, ◌+◌, ◌<◌, sym, ap, subst, ℕ, List, length, get_or, arith}
use Rattle.std.specs.Prelude.{Result}
use Rattle.std.proofs.lemmas.List.{length_push}
use Rattle.fleet_rows.specs.declared.row.RowEntry.{RowEntry}
use Rattle.fleet_rows.specs.declared.errors.SlateDBError.{SlateDBError}
use Rattle.fleet_exec.specs.Cut.{FinishesRange}
use Rattle.fleet_exec.proofs.Finished.{finishes_from, finishes_next}
use Rattle.fleet_exec.proofs.finish.finish_in_turn.Goals as goal

pub turns-preserved : goal.turns-preserved
turns-preserved g c =
    let folds = g.O.MergeOperator.merged (g.O.MergeOperator.settings c.args.operator.now) in
    let sources = c.args.sources.now in
    let jobs = c.args.jobs.now in
    let made = c.turns.made.items in
    let here = c.index-jobs-i.result in
    let answer = c.finish_range-answer.result in
    let count = c.turns.invariant.count in
    let within = c.turns-test.true in
    let is : here ≡ get_or jobs c.turns.i here = search rules in
    let lt : length made < length jobs = omega (arith, count, within) in
    let at : here ≡ get_or jobs (length made) here = subst (λ (n : ℕ). here ≡ get_or jobs n here) (sym count) is in
    let last = finishes_from folds sources c.args.size here answer c.finish_range-answer.ensures.ok c.finish_range-answer.ensures.err in
    let pushed = c.in_ok-push.ensures.items in
    let more = ap length pushed ∙ length_push made answer in
    record {
      count = more ∙ ap (λ (n : ℕ). n + 1) count;
      each = λ i job d b.
          subst (λ (w : List (Result (List (List RowEntry)) SlateDBError)). FinishesRange folds sources c.args.size (get_or jobs i job) (get_or w i d)) (sym pushed)
          (finishes_next folds sources c.args.size jobs made here answer lt at last c.turns.invariant.each i job d (omega (arith, b, more)));
    }
