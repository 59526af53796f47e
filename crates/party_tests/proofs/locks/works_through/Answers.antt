use Rattle.std.specs.Prelude.{ℕ, List}
use Rattle.std.proofs.Common.{sym, subst}
use Rattle.row_model.specs.Fold.{Operator}
use Rattle.fleet_lock.specs.Locks.{lent_of, pass_of}
use Rattle.fleet_lock.specs.Passes.{PassValue, pass_view}
use Rattle.party_tests.specs.Callers.{MayHire}
use Rattle.party_tests.specs.Passes.{folds_append}
use Rattle.party_tests.proofs.locks.works_through.Goals as goal

pub hire-worker-requires : goal.hire-worker-requires
hire-worker-requires g c =
    subst (λ (folds : List ℕ → Operator). MayHire (pass_view folds (lent_of c.at-store.result) (pass_of c.at-store.result)) 1) (sym c.requires.folds)
    (subst (λ (pass : PassValue). MayHire (pass_view folds_append (lent_of c.at-store.result) pass) 1) (sym c.at-store.ensures.same_pass) (c.requires.serves (lent_of c.at-store.result)))
