use Rattle.std.proofs.Common.{◌≡◌, ◌∙◌, sym, ap, subst, ◌-◌, List, length}
use Rattle.std.specs.Prelude.{slice_get, Some}
use Rattle.std.specs.Option.{option_copied}
use Rattle.fleet_tree.specs.declared.run.SortedRun.{SortedRun}
use Rattle.fleet_tree.proofs.Places.{last_of}
use Rattle.fleet_tree.proofs.run_chunks.last_run.Goals as goal

pub returns-in-Some-last : goal.returns-in-Some-last
returns-in-Some-last c =
    let run = c.in-Some-last.run'.now in
    let last = ap option_copied (sym c.in-Some-last.is) ∙ c.last.ensures.value ∙ ap (λ (runs : List SortedRun). slice_get runs (length runs - 1)) c.as_slice.ensures in
    let there = last_of c.in-Some.others.now c.in-Some.chunk.now run c.chunks.rest.now last c.in-Some.ensures.cases.0 in
    subst (λ (runs : List SortedRun). Some run ≡ slice_get runs (length runs - 1)) c.chunks.invariant there
