use Rattle.std.proofs.Common.{◌≡◌, ◌∙◌, sym, ap, subst, ◌==◌, ◌≤◌, ◌<◌, List, length, true, arith}
use Rattle.std.specs.List.{position_or_len}
use Rattle.fleet_tree.specs.Falling.{are_falling}
use Rattle.fleet_tree.specs.declared.run.SortedRun.{SortedRun}
use Rattle.fleet_tree.proofs.Falling.{chunk_falls, found_here, found_later, left_count, others_fall, place_within}
use Rattle.fleet_tree.proofs.run_chunks.place_in_chunks.Goals as goal

pub place_in_falling-place-requires : goal.place_in_falling-place-requires
place_in_falling-place-requires c =
    subst (λ (runs : List SortedRun). are_falling runs ≡ true) (sym c.as_slice.ensures)
    (chunk_falls c.args.chunks.now c.chunks.chunk-index c.chunk-item.result c.chunks-test.true c.chunk-item.is c.chunks.invariant.0)

pub overflow_add-before : goal.overflow_add-before
overflow_add-before c =
    let place = c.place_in_falling-place.ensures ∙ ap (position_or_len (λ (run : SortedRun). run.id == c.args.id)) c.as_slice.ensures in
    let within = place_within c.args.id c.chunk-item.result in
    let left = left_count c.args.chunks.now c.chunks.chunk-index c.chunk-item.result c.chunks-test.true c.chunk-item.is in
    omega (arith, place, within, left, c.chunks.invariant.1, c.requires.small)

pub returns-then-place-as_slice : goal.returns-then-place-as_slice
returns-then-place-as_slice c =
    let place = c.place_in_falling-place.ensures ∙ ap (position_or_len (λ (run : SortedRun). run.id == c.args.id)) c.as_slice.ensures in
    let within = subst (λ (runs : List SortedRun). c.place_in_falling-place.result < length runs) c.as_slice-in-chunks.ensures c.if-place-as_slice.true in
    found_here c.args.id c.chunks.before c.place_in_falling-place.result _ c.args.chunks.now c.chunks.chunk-index c.chunk-item.result c.chunks-test.true c.chunk-item.is place within c.chunks.invariant.2

pub chunks-preserved : goal.chunks-preserved
chunks-preserved c =
    let place = c.place_in_falling-place.ensures ∙ ap (position_or_len (λ (run : SortedRun). run.id == c.args.id)) c.as_slice.ensures in
    let past = subst (λ (runs : List SortedRun). length runs ≤ c.place_in_falling-place.result) c.as_slice-in-chunks.ensures c.if-place-as_slice.false in
    let most = place_within c.args.id c.chunk-item.result in
    let left = left_count c.args.chunks.now c.chunks.chunk-index c.chunk-item.result c.chunks-test.true c.chunk-item.is in (
      others_fall c.args.chunks.now c.chunks.chunk-index c.chunk-item.result c.chunks-test.true c.chunk-item.is c.chunks.invariant.0,
      omega (arith, place, past, most, left, c.chunks.invariant.1),
      found_later c.args.id c.chunks.before c.place_in_falling-place.result _ c.args.chunks.now c.chunks.chunk-index c.chunk-item.result c.chunks-test.true c.chunk-item.is place past c.chunks.invariant.2,
    )
