use Rattle.std.proofs.Common.{refl, sym, subst, List, ℕ, [], ◌∷◌}
use Rattle.std.specs.declared.ops.Bound.TheVariants.{Excluded}
use Rattle.std.proofs.lemmas.Result.{IfOk-weaker}
use Rattle.fleet_range.specs.Keys.{range_of}
use Rattle.fleet_range.specs.Ranges.{Ends}
use Rattle.fleet_looks.specs.Looks.{AreAlike}
use Rattle.fleet_looks.proofs.KeyScans.{none_alike}
use Rattle.fleet_looks.proofs.scans.range_between.Goals as goal

pub returns-in-None-clause-keys : goal.returns-in-None-clause-keys
returns-in-None-clause-keys c =
    let ends : Ends (List ℕ) = (c.args.start, c.args.end) in
    IfOk-weaker c.new_empty.result _ _
    (λ range is. subst (λ (made : Ends (List ℕ)). AreAlike (range_of made) (range_of ends)) (sym is) (none_alike ends (Excluded (0 ∷ []), Excluded (0 ∷ [])) c.try_new.result c.try_new.ensures c.in-None.is refl))
    c.new_empty.ensures.bounds
