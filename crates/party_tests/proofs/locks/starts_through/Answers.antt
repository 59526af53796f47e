use Rattle.std.specs.Prelude.{ℕ, List}
use Rattle.std.proofs.Common.{sym, subst}
use Rattle.row_model.specs.Fold.{Operator}
use Rattle.fleet_lock.specs.Locks.{lent_of, pass_of}
use Rattle.fleet_lock.specs.Passes.{PassValue, pass_view}
use Rattle.party_tests.specs.Starts.{MayStart}
use Rattle.party_tests.specs.Passes.{folds_append}
use Rattle.party_tests.proofs.locks.starts_through.Goals as goal

pub starts-requires : goal.starts-requires
starts-requires g c =
    subst (λ (folds : List ℕ → Operator). MayStart (pass_view folds (lent_of c.at-store.result) (pass_of c.at-store.result))) (sym c.requires.folds)
    (subst (λ (pass : PassValue). MayStart (pass_view folds_append (lent_of c.at-store.result) pass)) (sym c.at-store.ensures.same_pass) (c.requires.leads (lent_of c.at-store.result)))
