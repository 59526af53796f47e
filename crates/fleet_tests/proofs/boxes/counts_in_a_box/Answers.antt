use Rattle.std.proofs.Common.{sym, refl, subst, rules}
use denote.Param.Object.{read_made}
use Rattle.fleet_tests.proofs.boxes.counts_in_a_box.OwnLists as own
use Rattle.fleet_tests.proofs.boxes.counts_in_a_box.Goals as goal

pub counted-requires-after_bounds : goal.counted-requires-after_bounds
counted-requires-after_bounds g c κs =
    let is = read_made own.own-1 _ own.at-1-1 refl (Type 0) (λ j y. j.1.RowEntryIterator.sound y) _ _ _ c.into_dyn_box-merge.ensures.1 in
    subst (λ (X : Type 0). X) (sym is) (search rules)
