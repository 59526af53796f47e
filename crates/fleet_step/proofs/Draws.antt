-- Draws as turns of a step.
use Rattle.std.proofs.Common.{◌≡◌, refl, sym, ◌∙◌, subst, ℕ, ◌+◌, ◌<◌, ◌≤◌, inl, inr, List, [], ◌∷◌, ◌++◌, length, Ok, Err, arith}
use Rattle.std.specs.Prelude.{◌⊎◌}
use Rattle.std.specs.List.{zip}
use Rattle.fleet_model.specs.Exchanges.{DrawsJob, next_job_id}
use Rattle.step_model.specs.Courses.Course.{Course, Calls, draws_jobs}
use Rattle.step_model.specs.Courses.StepEnds.{StepEnd}
use Rattle.fleet_rows.specs.declared.errors.SlateDBError.{SlateDBError}
use Rattle.fleet_rows.specs.declared.errors.SlateDBError.TheVariants.{Memory}
use Rattle.step_model.specs.Views.{StoreView}
use Rattle.fleet_store.specs.Asks.{DrawsJobId}
use Rattle.fleet_step.specs.Draws.{Drew}
use Rattle.fleet_step.specs.Steps.{Leads, TryRan}
use Rattle.fleet_step.proofs.Steps.{begins, call_leads, then_leads, then_tried, tried, wants}
use Rattle.fleet_step.proofs.Turns.{get_fails}

-- One more draw.
pub drew_more : (moment : ℕ) (ids : List ℕ) (id : ℕ) (old mid new : StoreView) → Drew moment ids old mid → DrawsJobId mid new moment (Ok id) → Drew moment (ids ++ id ∷ []) old new
drew_more moment [] id old mid new same draw = (new, (subst (λ v. DrawsJobId v new moment (Ok id)) same draw, refl))
drew_more moment (first ∷ ids) id old mid new (one, (drawn, rest)) draw = (one, (drawn, drew_more moment ids id one mid new rest draw))

pub length_more : (ids : List ℕ) (id : ℕ) (n : ℕ) → length ids ≡ n → length (ids ++ id ∷ []) ≡ n + 1
length_more [] id n is = omega (arith, is)
length_more (x ∷ ids) id n is = let rest = length_more ids id (length ids) refl in omega (arith, is, rest)

-- A draw answers the id with which the course goes on.
draw_leads : {A : Type 0} (moment id : ℕ) (old new : StoreView) (draw : DrawsJobId old new moment (Ok id)) (next : ℕ → Course A) → Leads (Calls (DrawsJob moment) (λ met. next (next_job_id moment met))) old (next id) new
draw_leads moment id old new draw next = subst (λ n. Leads (Calls (DrawsJob moment) (λ met. next (next_job_id moment met))) old (next n) new) (sym draw.ended.0) (call_leads draw (λ met. next (next_job_id moment met)))

module _ {B : Type 0} (moment : ℕ) where
  -- All ids were drawn.
  pub drew_leads : {A : Type 0} (specs : List B) (ids : List ℕ) (old new : StoreView) → length ids ≡ length specs → Drew moment ids old new → (next : List (ℕ × B) → Course A) → Leads (draws_jobs moment specs next) old (next (zip ids specs)) new
  drew_leads [] [] old new many same next = subst (λ v. Leads (next []) old (next []) v) (sym same) (begins (next []) old)
  drew_leads [] (id ∷ ids) old new many drew next = absurd (omega (arith, many))
  drew_leads (spec ∷ specs) [] old new many drew next = absurd (omega (arith, many))
  drew_leads (spec ∷ specs) (id ∷ ids) old new many (mid, (draw, rest)) next =
      then_leads (draw_leads moment id old mid draw (λ id. draws_jobs moment specs (λ drawn. next ((id, spec) ∷ drawn))))
      (drew_leads specs ids mid new (omega (arith, many)) rest (λ drawn. next ((id, spec) ∷ drawn)))

  -- Fewer ids were drawn, and the step ends with the error.
  pub drew_fails : {A C : Type 0} (ends : A → StepEnd C) (again : ℕ → Course (StepEnd C)) (specs : List B) (e : SlateDBError) (ids : List ℕ) (old mid new : StoreView) → Drew moment ids old mid → length ids ≤ length specs
      → ((length ids < length specs) × DrawsJobId mid new moment (Err e)) ⊎ ((e ≡ Memory) × (new ≡ mid)) → (next : List (ℕ × B) → Course (StepEnd C)) → TryRan ends (draws_jobs moment specs next) again old new (Err e)
  drew_fails ends again specs e [] old mid new same few (inr (memory, stays)) next =
      subst (λ v. TryRan ends (draws_jobs moment specs next) again old v (Err e)) (sym (stays ∙ same)) (rw memory (tried ends refl (wants ends (draws_jobs moment specs next) old)))
  drew_fails ends again [] e [] old mid new same few (inl (none, draw)) next = absurd (omega (arith, none))
  drew_fails ends again (spec ∷ specs) e [] old mid new same few (inl (some, draw)) next =
      get_fails (subst (λ v. DrawsJobId v new moment (Err e)) same draw)
  drew_fails ends again [] e (id ∷ ids) old mid new drew few stopped next = absurd (omega (arith, few))
  drew_fails ends again (spec ∷ specs) e (id ∷ ids) old mid new (one, (draw, rest)) few stopped next =
      then_tried ends (draw_leads moment id old one draw (λ id. draws_jobs moment specs (λ drawn. next ((id, spec) ∷ drawn))))
      (drew_fails ends again specs e ids one mid new rest (omega (arith, few)) (less stopped) (λ drawn. next ((id, spec) ∷ drawn)))
    where
      less : ((length (id ∷ ids) < length (spec ∷ specs)) × DrawsJobId mid new moment (Err e)) ⊎ ((e ≡ Memory) × (new ≡ mid)) → ((length ids < length specs) × DrawsJobId mid new moment (Err e)) ⊎ ((e ≡ Memory) × (new ≡ mid))
      less (inl (some, draw)) = inl (omega (arith, some), draw)
      less (inr not_made) = inr not_made
