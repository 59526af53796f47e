use Rattle.std.proofs.Common.{◌∙◌, ap, take, drop, not, ◌++◌, ◌∷◌}
use Rattle.std.specs.Prelude.{nat_lt}
use Rattle.std.proofs.lemmas.List.Folds.{length-prefix_len}
use Rattle.fleet_book.proofs.Finishes.{place_of, put_run_is}
use Rattle.fleet_book.proofs.finish.put_run.Goals as goal

pub returns : goal.returns
returns c =
    let runs = c.args.runs.now.items in
    let run = c.args.run in
    let at = c.runs_from-place.ensures ∙ length-prefix_len (λ other. not (nat_lt other.id run.id)) c.deref.result.now ∙ ap (place_of run.id) c.deref.ensures.value in
    c.in_ok-insert.ensures.items ∙ ap (λ n. take n runs ++ run ∷ drop n runs) at ∙ put_run_is run runs
