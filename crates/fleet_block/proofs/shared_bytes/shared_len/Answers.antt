use Rattle.std.proofs.Common.{drop, arith}
use Rattle.std.specs.Prelude.{◌==◌}
use Rattle.std.proofs.lemmas.List.{length-drop}
use Rattle.std.proofs.lemmas.List.Sums.{common_prefix_len-le}
use Rattle.fleet_block.proofs.shared_bytes.shared_len.Goals as goal

pub returns-clause-value : goal.returns-clause-value
returns-clause-value c =
    let below = common_prefix_len-le (λ a b. a == b) (drop c.shared.shared c.args.first.now) (drop c.shared.shared c.args.key.now) in
    let of_first = length-drop c.shared.shared c.args.first.now in
    let of_key = length-drop c.shared.shared c.args.key.now in
    omega (arith, below.0, below.1, of_first, of_key, c.shared.invariant.left)
