-- What the private functions that merge a group in one call say of it.
use Rattle.std.specs.Prelude.{◌≡◌, ℕ, List, [], Option, None, reverse, Ok}
use Rattle.row_model.specs.Fold.{Operator, fold_bytes}
use Rattle.fleet_fold.specs.declared.group.Group.{Group}
use Rattle.fleet_fold.specs.Folded.{answer_of}

-- The groups have the same parts.
pub record IsAlike (old new : Group) : Type 0 where
  pub key : new.key ≡ old.key
  pub seq : new.seq ≡ old.seq
  pub stamp : new.stamp ≡ old.stamp
  pub created : new.created ≡ old.created
  pub expires : new.expires ≡ old.expires
  pub late : new.late ≡ old.late
  pub batch : new.batch.items ≡ old.batch.items
  pub folded : new.folded.items ≡ old.folded.items

-- No batch of the group is merged yet, and no row is out of order. The operands that wait to be merged merge
-- to these bytes in one call, over the existing value if there is one.
pub record MergesAtOnce (merge : Operator) (g : Group) (existing : Option (List ℕ)) (bytes : List ℕ) : Type 0 where
  pub folded : g.folded.items ≡ []
  pub late : g.late ≡ None
  pub answer : answer_of (fold_bytes merge g.key existing (reverse g.batch.items)) ≡ Ok bytes
