-- Picks of a program, and those of the model.
use Rattle.std.specs.Prelude.{◌≡◌}
use Rattle.fleet_model.specs.Nodes.{NodeName, names_contain}
use Rattle.sched_model.specs.Levels.{LevelPicking}

-- Both have used the same nodes, in any order. They have the same picks, and the same id for the next fresh
-- run.
pub record SamePicks (made p : LevelPicking) : Type 0 where
  pub used : (name : NodeName) → names_contain made.used name ≡ names_contain p.used name
  pub fresh : made.fresh ≡ p.fresh
  pub picks : made.picks ≡ p.picks
