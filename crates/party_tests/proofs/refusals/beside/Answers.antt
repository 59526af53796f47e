use Rattle.std.proofs.Common.{◌∙◌, ap}
use Rattle.row_model.specs.Append.{append}
use Rattle.step_model.specs.Views.{StoreView}
use Rattle.fleet_store.specs.Memory.{StoreParts}
use Rattle.fleet_rival.specs.Rival.{view_of}
use Rattle.party_tests.proofs.Starts.{keeps_as}
use Rattle.party_tests.proofs.refusals.beside.Goals as goal

pub returns-clause-party : goal.returns-clause-party
returns-clause-party c = ap (λ (view : StoreView). view.who.party) c.new.ensures

pub returns-clause-folds : goal.returns-clause-folds
returns-clause-folds c = ap (λ (view : StoreView). view.who.merge) c.new.ensures

pub returns-clause-world : goal.returns-clause-world
returns-clause-world c = ap (λ (view : StoreView). view.world) c.new.ensures ∙ ap (λ (store : StoreParts). store.world) c.under.ensures.store

pub returns-clause-keeps : goal.returns-clause-keeps
returns-clause-keeps c = keeps_as append _ (view_of c.new.result) c.requires (returns-clause-folds c) (returns-clause-world c)
