-- A fleet as the code sees its fields.
use Rattle.std.proofs.Common.{◌≡◌, sym, subst, ℕ, List, Result}
use Rattle.std.specs.Prelude.{IfOk}
use Rattle.std.proofs.lemmas.Result.{IfOk-weaker}
use Rattle.row_model.specs.Fold.{Operator}
use Rattle.script_model.specs.States.{State}
use Rattle.script_model.specs.LineRuns.{LineCourse}
use Rattle.fleet_rows.specs.declared.errors.SlateDBError.{SlateDBError}
use Rattle.fleet_lines.specs.Fleets.{FleetParts}
use Rattle.fleet_lines.specs.Lines.{RunsAlone}

-- A line whose course ran and changed the fleet so, if the fleet is seen as the old one.
pub seen_runs : (merge : Operator) (number : ℕ) (prepared : State) (course : LineCourse) (old seen : FleetParts) (change : FleetParts → FleetParts) (said : Result (List ℕ) SlateDBError) (P : List ℕ → Type 0) → seen ≡ old
    → ((answer : List ℕ) → P answer → RunsAlone merge number prepared course old (change old) answer) → IfOk said P → IfOk said (RunsAlone merge number prepared course old (change seen))
seen_runs merge number prepared course old seen change said P same runs says =
    subst (λ (f : FleetParts). IfOk said (RunsAlone merge number prepared course old (change f))) (sym same) (IfOk-weaker said P (RunsAlone merge number prepared course old (change old)) runs says)
