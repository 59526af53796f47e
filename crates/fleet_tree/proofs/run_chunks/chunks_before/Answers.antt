use Rattle.std.proofs.Common.{◌∙◌, sym, ap, refl, ◌++◌, ◌<◌, List, take, length, arith}
use Rattle.std.proofs.lemmas.Option.{slice_get_read}
use Rattle.fleet_tree.specs.Lists.{joined}
use Rattle.fleet_tree.specs.declared.run.SortedRun.{SortedRun}
use Rattle.fleet_tree.proofs.Places.{place_inside, taken_in_chunk}
use Rattle.fleet_tree.proofs.run_chunks.chunks_before.Goals as goal

pub returns-clause-chunks : goal.returns-clause-chunks
returns-clause-chunks c =
    let spot = c.spot_of-spot.result in
    let chunks = c.args.chunks.now in
    let chunk = c.in-Some.chunk.now in
    let within : spot.chunk < length chunks = grind (arith, c.in-Some.ensures.lookup.0) in
    let there = slice_get_read chunks (length chunks) spot.chunk chunk refl within c.in-Some.ensures.lookup.1 in
    let inside = place_inside chunks spot.chunk spot.place chunk there c.spot_of-spot.ensures.inside in
    c.in_ok-add_front.ensures.chunks
    ∙ ap (λ (before : List (List SortedRun)). joined before ++ take spot.place chunk) c.in_ok-before.ensures
    ∙ sym (taken_in_chunk chunks spot.chunk c.args.place spot.place chunk there c.spot_of-spot.ensures.place (omega (arith, inside)))
