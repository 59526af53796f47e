use Rattle.std.proofs.Common.{◌∙◌, ap}
use Rattle.row_model.specs.Append.{append}
use Rattle.fleet_model.specs.History.{Worker}
use Rattle.fleet_rival.specs.Rival.{view_of}
use Rattle.party_tests.proofs.Hands.{hand_as}
use Rattle.party_tests.proofs.refusals.work_refused.Goals as goal

pub work-made-requires-clause-hand : goal.work-made-requires-clause-hand
work-made-requires-clause-hand g c κs within =
    hand_as append c.parts-store.result.0.world c.parts-store.result.1 (view_of c.beside-rival.result) c.parts-store.ensures
    (c.beside-rival.ensures.party ∙ ap Worker c.id.ensures) c.beside-rival.ensures.folds c.beside-rival.ensures.world
