use Rattle.std.proofs.Common.{◌≡◌, ◌∷◌, ◌++◌, ◌+◌, [], List, ℕ, drop, subst, arith}
use Rattle.std.proofs.lemmas.Grind.{common_steps}
use Rattle.std.specs.declared.ops.Bound.TheVariants.{Excluded}
use Rattle.fleet_plan.proofs.Cuts.{RiseFrom, keys_step, leaves_room}
use Rattle.fleet_plan.proofs.boundaries.ranges_between.Goals as goal

pub new-requires : goal.new-requires
new-requires c =
    let key : List ℕ = c.in_ok-clone.field-0 in
    let rest : List (List ℕ) = drop (c.keys.key-index + 1) c.args.keys.now in
    let left : drop c.keys.key-index c.args.keys.now ≡ key ∷ rest = grind (arith, common_steps) in
    leaves_room c.keys.start key rest (subst (RiseFrom c.keys.start) left c.keys.invariant.1)

pub keys-preserved : goal.keys-preserved
keys-preserved c =
    let key : List ℕ = c.in_ok-clone-2.field-0 in
    let rest : List (List ℕ) = drop (c.keys.key-index + 1) c.args.keys.now in
    let left : drop c.keys.key-index c.args.keys.now ≡ key ∷ rest = grind (arith, common_steps) in
    let made : c.push.new.self.items ≡ c.keys.ranges.items ++ (c.keys.start, Excluded key) ∷ [] = grind (arith, common_steps) in
    keys_step c.keys.ranges.items c.push.new.self.items c.keys.start key (drop c.keys.key-index c.args.keys.now) rest c.args.keys.now made left c.keys.invariant
