use Rattle.std.proofs.Common.{◌≡◌, subst, ◌+◌, List, length}
use Rattle.std.specs.Prelude.{slice_get, IfSome}
use Rattle.std.proofs.lemmas.Result.{on_ok_weaker}
use Rattle.fleet_tree.specs.declared.run.SortedRun.{SortedRun}
use Rattle.fleet_tree.proofs.Places.{pushed_last}
use Rattle.fleet_tree.proofs.run_chunks.push_run.Goals as goal

pub returns-in-Some-clause-ok : goal.returns-in-Some-clause-ok
returns-in-Some-clause-ok c =
    let spot = c.in-Some.spot in
    let last = subst (λ (chunks : List (List SortedRun)). (spot.chunk + 1 ≡ length chunks) × IfSome (slice_get chunks spot.chunk) (λ chunk. spot.place ≡ length chunk)) c.as_slice.ensures c.in-Some.ensures in
    on_ok_weaker c.splice_chunk.result
    (pushed_last c.args.chunks.now c.splice_chunk.new.self spot.chunk spot.place c.args.run last.0 last.1) c.splice_chunk.ensures.ok
