-- Contexts that are planned for jobs.
use Rattle.std.proofs.Common.{sym, ◌≡◌, refl, ◌∙◌, ap, subst, ℕ, List, [], ◌∷◌}
use Rattle.std.specs.Prelude.{Some}
use Rattle.std.specs.List.{AllByRecursion}
use Rattle.fleet_range.specs.Keys.{range_of}
use Rattle.fleet_range.specs.Ranges.{Ends}
use Rattle.fleet_rows.specs.declared.settings.Settings.{Settings}
use Rattle.fleet_tree.specs.Views.{View}
use Rattle.fleet_plan.specs.Boundaries.{ranges_of}
use Rattle.fleet_plan.specs.Parts.{Part}
use Rattle.fleet_plan.specs.Plans.{views_of}
use Rattle.fleet_jobs.specs.Parts.ContextParts.{ContextParts}
use Rattle.fleet_jobs.specs.Contexts.{context_with}
use Rattle.fleet_exec.specs.Executors.{ArePlanned, IsPlanned, fresh_parts, key_ranges, settings_with}
use Rattle.fleet_exec.specs.declared.args.StartCompactionJobArgs.{StartCompactionJobArgs}

keys_of_fresh : (ranges : List (Ends (List ℕ))) → ranges_of ranges ≡ key_ranges (fresh_parts ranges)
keys_of_fresh [] = refl
keys_of_fresh (range ∷ ranges) = ap (λ rs. range_of range ∷ rs) (keys_of_fresh ranges)

fresh_are_empty : (ranges : List (Ends (List ℕ))) → AllByRecursion (λ (part : Part). part.output_ssts ≡ []) (fresh_parts ranges)
fresh_are_empty [] = tt
fresh_are_empty (range ∷ ranges) = (refl, fresh_are_empty ranges)

-- A context of a job's arguments and of fresh parts for the planned ranges is a planned one.
pub is_planned : (args : StartCompactionJobArgs) (most floor : ℕ) (views : List View) (ranges : List (Ends (List ℕ))) (parts : List Part) (settings : Settings) (context : ContextParts)
    → args.retention_min_seq ≡ Some floor → views ≡ views_of args.l0_sst_views args.sorted_runs → ArePlanned most views (ranges_of ranges) → parts ≡ fresh_parts ranges → settings ≡ settings_with floor args
    → context ≡ context_with parts settings args.release → IsPlanned args most context
is_planned args most floor views ranges parts settings context given of_args plan fresh set made =
    let whole = made ∙ ap (λ ps. context_with ps settings args.release) fresh ∙ ap (λ s. context_with (fresh_parts ranges) s args.release) set in
    subst (IsPlanned args most) (sym whole)
    record {
      floor = given;
      settings = refl;
      ranges = subst (λ vs. ArePlanned most vs (key_ranges (fresh_parts ranges))) of_args (subst (ArePlanned most views) (keys_of_fresh ranges) plan);
      empty = fresh_are_empty ranges;
    }
