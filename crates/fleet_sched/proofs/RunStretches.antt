-- Sources that are among nodes, one after the other.
use Rattle.std.proofs.Common.{◌≡◌, refl, List, [], ◌∷◌, ◌++◌, true}
use Rattle.std.specs.Prelude.{is_some, Option, Some, None}
use Rattle.fleet_model.specs.Nodes.{NodeName}
use Rattle.fleet_model.specs.Sources.{after_front, older_nodes, or_later}

-- Sources that are among nodes one after the other are so among these nodes and newer ones.
pub stand_behind : (sources newer nodes : List NodeName) → true ≡ is_some (older_nodes sources nodes) → true ≡ is_some (older_nodes sources (newer ++ nodes))
stand_behind sources [] nodes e = e
stand_behind sources (x ∷ newer) nodes e = by (after_front sources (x ∷ (newer ++ nodes))) (stand_behind sources newer nodes e)
  where
    by : (o : Option (List NodeName)) → true ≡ is_some (older_nodes sources (newer ++ nodes)) → true ≡ is_some (or_later o (older_nodes sources (newer ++ nodes)))
    by None rest = rest
    by (Some older) rest = refl
