-- Steps that try again when a put was refused.
use Rattle.std.proofs.Common.{◌≡◌, refl, ◌∙◌, ap, subst, ℕ, zero, suc, ◌+◌, Some, None, Result, Err, add-one}
use Rattle.step_model.specs.Courses.Course.{Course, Ends}
use Rattle.step_model.specs.Courses.StepEnds.{StepEnd, GivesUp}
use Rattle.step_model.specs.Courses.Tries.{Try, counted_tries}
use Rattle.step_model.specs.Views.{StoreView}
use Rattle.fleet_rows.specs.declared.errors.SlateDBError.{SlateDBError}
use Rattle.fleet_rows.specs.declared.errors.SlateDBError.TheVariants.{Conflict}
use Rattle.fleet_step.specs.Steps.{Leads, StepRan, TryRan, refused_at}
use Rattle.fleet_step.proofs.Steps.{gives_up, then_leads, then_ran}

-- `one_try` is one try of a step, which is given how many tries may follow it.
module _ {A B : Type 0} (ends : A → StepEnd B) (one_try : (left seen : ℕ) → Try B) {course : Course (StepEnd B)} {old mid : StoreView} (left seen : ℕ)
    (so_far : Leads course old (counted_tries one_try left seen) mid) where
  at_try : (after : ℕ) → left ≡ after + 1 → Leads course old (one_try after seen (counted_tries one_try after)) mid
  at_try after more = subst (λ n. Leads course old (counted_tries one_try n seen) mid) (more ∙ add-one after) so_far

  -- A try was refused, and another one follows.
  pub tries_on : {new : StoreView} {result : Result A SlateDBError} (after version : ℕ) → left ≡ after + 1 → refused_at result ≡ Some version
      → TryRan ends (one_try after seen (counted_tries one_try after)) (counted_tries one_try after) mid new result → Leads course old (counted_tries one_try after version) new
  tries_on after version more refused tried = then_leads (at_try after more) (tried.refused version refused)

  -- A try was not refused.
  pub tries_end : {new : StoreView} {result : Result A SlateDBError} (after : ℕ) → left ≡ after + 1 → refused_at result ≡ None
      → TryRan ends (one_try after seen (counted_tries one_try after)) (counted_tries one_try after) mid new result → StepRan ends course old new result
  tries_end after more last tried = then_ran ends (at_try after more) (tried.ended last)

  -- All tries were refused.
  pub tries_out : left ≡ 0 → StepRan ends course old mid (Err (Conflict seen))
  tries_out none = then_ran ends so_far (gives_up ends (counted_tries one_try left seen) mid seen (ap (λ n. counted_tries one_try n seen) none))
