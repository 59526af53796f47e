use Rattle.std.proofs.Common.{◌≡◌, subst, ◌+◌, ◌<◌, ◌≤◌, List, length, take}
use Rattle.std.specs.Prelude.{slice_get, IfSome}
use Rattle.std.proofs.lemmas.Result.{on_ok_weaker}
use Rattle.fleet_tree.specs.Lists.{joined}
use Rattle.fleet_tree.specs.declared.run.SortedRun.{SortedRun}
use Rattle.fleet_tree.proofs.Places.{spliced_there}
use Rattle.fleet_tree.proofs.run_chunks.splice_runs.Goals as goal

pub returns-then-is_in_chunk-clause-ok : goal.returns-then-is_in_chunk-clause-ok
returns-then-is_in_chunk-clause-ok c =
    let spot = c.spot_of-spot.result in
    let stands = subst (λ (chunks : List (List SortedRun)). c.args.place ≡ length (joined (take spot.chunk chunks)) + spot.place) c.as_slice.ensures c.spot_of-spot.ensures.place in
    let within = subst (λ (chunks : List (List SortedRun)). (IfSome (slice_get chunks spot.chunk) (λ chunk. spot.place + c.args.count ≤ length chunk)) × (spot.chunk < length chunks))
    c.as_slice-2.ensures (c.is_in_chunk.ensures c.if-is_in_chunk.true) in
    on_ok_weaker c.splice_chunk.result
    (spliced_there c.args.chunks.now c.splice_chunk.new.self spot.chunk c.args.place spot.place c.args.count c.args.run stands within) c.splice_chunk.ensures.ok
