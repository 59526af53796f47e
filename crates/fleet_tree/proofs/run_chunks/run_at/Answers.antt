use Rattle.std.proofs.Common.{◌∙◌, refl, sym, ◌<◌, ◌≤◌, length, arith}
use Rattle.std.proofs.lemmas.Option.{slice_get_past, slice_get_read}
use Rattle.fleet_tree.proofs.Places.{got_behind, got_in_chunk, place_inside}
use Rattle.fleet_tree.proofs.run_chunks.run_at.Goals as goal

pub returns-in-Some : goal.returns-in-Some
returns-in-Some c =
    let spot = c.spot_of-spot.result in
    let chunks = c.args.chunks.now in
    let chunk = c.in-Some.chunk.now in
    let within : spot.chunk < length chunks = grind (arith, c.in-Some.ensures.lookup.0) in
    let there = slice_get_read chunks (length chunks) spot.chunk chunk refl within c.in-Some.ensures.lookup.1 in
    c.get-in-Some.ensures
    ∙ sym (got_in_chunk chunks spot.chunk c.args.place spot.place chunk there c.spot_of-spot.ensures.place (place_inside chunks spot.chunk spot.place chunk there c.spot_of-spot.ensures.inside))

pub returns-in-None : goal.returns-in-None
returns-in-None c =
    let spot = c.spot_of-spot.result in
    let chunks = c.args.chunks.now in
    let past : length chunks ≤ spot.chunk = grind (arith, c.in-None.ensures.lookup.0) in
    sym (got_behind chunks spot.chunk c.args.place spot.place (slice_get_past chunks spot.chunk past) c.spot_of-spot.ensures.place)
