-- All steps of a commit together keep what each of them keeps.
use Rattle.std.proofs.Common.{◌≡◌, refl, sym, ◌∙◌, ap, subst, ℕ, List, [], ◌∷◌, cond, Bool, true, false, Option, Some, None}
use Rattle.std.specs.Prelude.{IsTrue, ◌==◌, ◌||◌, map, option_map, flat_map}
use Rattle.std.specs.List.{AllByRecursion, list_any, concat}
use Rattle.std.proofs.lemmas.Bool.Decides.{Decides-eqb}
use Rattle.row_model.specs.Fold.{Operator, IsLawful}
use Rattle.fleet_model.specs.Nodes.{Tables, Trees}
use Rattle.fleet_model.specs.Jobs.{JobSpec, Job, Jobs, Compacted, has_status, job_with, contains}
use Rattle.fleet_model.specs.History.{Party, Step, Join, Move, Drain}
use Rattle.fleet_model.specs.Store.{Records, stored_jobs}
use Rattle.fleet_model.specs.Past.Replay.{outputs_in, outputs_of, plain_job, plain_records}
use Rattle.fleet_model.specs.Trees.{stepped_in, stepped_all, horizon_after, horizon_after_all, job_of}
use Rattle.fleet_model.specs.Invariants.JobsFit.{is_join_of}
use Rattle.step_model.specs.Past.{World}
use Rattle.step_model.specs.LawfulManifests.{StepsFit, StepFits, joined_after, IsKnownTo, cut_of}
use Rattle.step_model.specs.Kept.JoinsKept.{join_of}
use Rattle.commit_laws.specs.After.{joined_by}
use Rattle.step_laws.proofs.Bodies.{Body}
use Rattle.step_laws.proofs.KnownJobs.{outputs_are, known_spec}
use Rattle.commit_laws.proofs.Stretches.{never_both}
use Rattle.commit_laws.proofs.Midway.{Midway}
use Rattle.commit_laws.proofs.Joins.{join_keeps}
use Rattle.commit_laws.proofs.AtOnce.{move_keeps, drain_keeps}

-- ---- one step, and all

abbrev parts : World → (ℕ → JobSpec) → ℕ → JobSpec × List ℕ
parts world own id = (own id, outputs_in world.store.records id)

abbrev cuts : World → ℕ → Option ℕ
cuts world id = cut_of (job_with id (stored_jobs world.store))

step_keeps : (merge : Operator) (world : World) (party : Party) (specs own : ℕ → JobSpec) (trees : Trees) (horizon : ℕ) (joined : List ℕ) (step : Step) → IsLawful merge → Body merge world specs → IsKnownTo party world own (job_of step)
    → StepFits world trees joined (own (job_of step)) step → Midway merge world trees horizon joined
    → Midway merge world (stepped_in world.store.tables step (own (job_of step)) (outputs_in world.store.records (job_of step)) trees) (horizon_after world.store.manifest.floor step (cuts world (job_of step)) horizon) (joined_after step joined)
step_keeps merge world party specs own trees horizon joined (Join id) lawful b known fits m =
    subst (λ spec. Midway merge world (stepped_in world.store.tables (Join id) spec (outputs_in world.store.records id) trees) (horizon_after world.store.manifest.floor (Join id) (cuts world id) horizon) (id ∷ joined)) (sym (known_spec party world own id fits.job fits.stored known))
    (subst (λ outputs. Midway merge world (stepped_in world.store.tables (Join id) fits.job.spec outputs trees) (horizon_after world.store.manifest.floor (Join id) (cuts world id) horizon) (id ∷ joined)) (sym (outputs_are world.store.records id fits.job fits.stored))
    (subst (λ cut. Midway merge world (stepped_in world.store.tables (Join id) fits.job.spec (concat fits.job.outputs) trees) (horizon_after world.store.manifest.floor (Join id) cut horizon) (id ∷ joined)) (sym (ap cut_of fits.stored))
    (join_keeps merge world specs trees horizon joined id lawful b fits m)))
step_keeps merge world party specs own trees horizon joined (Move id) lawful b known fits m = move_keeps merge world specs trees horizon joined (own id) id (outputs_in world.store.records id) b fits m
step_keeps merge world party specs own trees horizon joined (Drain id) lawful b known fits m = drain_keeps merge world specs trees horizon joined (own id) id (outputs_in world.store.records id) b fits m

pub steps_keep : (merge : Operator) (world : World) (party : Party) (specs own : ℕ → JobSpec) (trees : Trees) (horizon : ℕ) (joined : List ℕ) (steps : List Step) → IsLawful merge → Body merge world specs → AllByRecursion (λ step. IsKnownTo party world own (job_of step)) steps
    → StepsFit world own trees joined steps → Midway merge world trees horizon joined
    → Midway merge world (stepped_all world.store.tables (λ id. (own id, outputs_in world.store.records id)) steps trees) (horizon_after_all world.store.manifest.floor (λ id. cut_of (job_with id (stored_jobs world.store))) steps horizon) (joined_by steps joined)
steps_keep merge world party specs own trees horizon joined [] lawful b known fits m = m
steps_keep merge world party specs own trees horizon joined (step ∷ steps) lawful b known fits m =
    steps_keep merge world party specs own (stepped_in world.store.tables step (own (job_of step)) (outputs_in world.store.records (job_of step)) trees) (horizon_after world.store.manifest.floor step (cuts world (job_of step)) horizon) (joined_after step joined) steps lawful b known.1 fits.1
    (step_keeps merge world party specs own trees horizon joined step lawful b known.0 fits.0 m)

-- ---- the jobs that a commit joins

-- The trees after a step.
abbrev after : World → (ℕ → JobSpec) → Step → Trees → Trees
after world own step trees = stepped_in world.store.tables step (own (job_of step)) (outputs_in world.store.records (job_of step)) trees

-- A joined job is stored and Compacted.
abbrev pub IsCompacted : World → ℕ → Type 0
IsCompacted world id = (job : Job) × ((job_with id (stored_jobs world.store) ≡ Some job) × IsTrue (has_status Compacted job))

pub joined_compacted : (world : World) (own : ℕ → JobSpec) (trees : Trees) (joined : List ℕ) (steps : List Step) → StepsFit world own trees joined steps → AllByRecursion (IsCompacted world) joined → AllByRecursion (IsCompacted world) (joined_by steps joined)
joined_compacted world own trees joined [] fits h = h
joined_compacted world own trees joined (Join id ∷ steps) fits h = joined_compacted world own (after world own (Join id) trees) (id ∷ joined) steps fits.1 ((fits.0.job, (fits.0.stored, fits.0.finished)), h)
joined_compacted world own trees joined (Move id ∷ steps) fits h = joined_compacted world own (after world own (Move id) trees) joined steps fits.1 h
joined_compacted world own trees joined (Drain id ∷ steps) fits h = joined_compacted world own (after world own (Drain id) trees) joined steps fits.1 h

pub joins_compacted : (world : World) (own : ℕ → JobSpec) (trees : Trees) (joined : List ℕ) (steps : List Step) → StepsFit world own trees joined steps → AllByRecursion (IsCompacted world) (flat_map join_of steps)
joins_compacted world own trees joined [] fits = tt
joins_compacted world own trees joined (Join id ∷ steps) fits = ((fits.0.job, (fits.0.stored, fits.0.finished)), joins_compacted world own (after world own (Join id) trees) (id ∷ joined) steps fits.1)
joins_compacted world own trees joined (Move id ∷ steps) fits = joins_compacted world own (after world own (Move id) trees) joined steps fits.1
joins_compacted world own trees joined (Drain id ∷ steps) fits = joins_compacted world own (after world own (Drain id) trees) joined steps fits.1

turned : (a b : ℕ) → (a == b) ≡ (b == a)
turned a b = by (a == b) refl (b == a) refl
  where
    by : (x : Bool) → (a == b) ≡ x → (y : Bool) → (b == a) ≡ y → x ≡ y
    by true e true f = refl
    by true e false f = absurd (never_both (b == a) ((Decides-eqb b a).1 (sym ((Decides-eqb a b).0 e))) f)
    by false e true f = absurd (never_both (a == b) ((Decides-eqb a b).1 (sym ((Decides-eqb b a).0 f))) e)
    by false e false f = refl

-- The joined jobs after the steps are those before, and those that a step joins.
pub joined_are : (steps : List Step) (joined : List ℕ) (id : ℕ) → contains (joined_by steps joined) id ≡ (contains joined id || list_any (is_join_of id) steps)
joined_are [] joined id = by (contains joined id)
  where
    by : (b : Bool) → b ≡ (b || false)
    by true = refl
    by false = refl
joined_are (Join other ∷ steps) joined id = joined_are steps (other ∷ joined) id ∙ by (other == id) (id == other) (turned other id) (contains joined id) (list_any (is_join_of id) steps)
  where
    by : (x y : Bool) → x ≡ y → (b c : Bool) → (cond x true b || c) ≡ (b || (y || c))
    by true true e true c = refl
    by true true e false c = refl
    by true false e b c = absurd (cc e)
    by false true e b c = absurd (cc e)
    by false false e b c = refl
joined_are (Move other ∷ steps) joined id = joined_are steps joined id
joined_are (Drain other ∷ steps) joined id = joined_are steps joined id

-- ---- the replay

plain_found : (id : ℕ) (jobs : Jobs) → job_with id (map plain_job jobs) ≡ option_map plain_job (job_with id jobs)
plain_found id [] = refl
plain_found id (job ∷ jobs) = by (id == job.id) (plain_found id jobs)
  where
    by : (b : Bool) → job_with id (map plain_job jobs) ≡ option_map plain_job (job_with id jobs) → cond b (Some (plain_job job)) (job_with id (map plain_job jobs)) ≡ option_map plain_job (cond b (Some job) (job_with id jobs))
    by true rest = refl
    by false rest = rest

plain_outputs : (o : Option Job) → outputs_of (option_map plain_job o) ≡ outputs_of o
plain_outputs None = refl
plain_outputs (Some job) = refl

pub outputs_plain : (records : Option Records) (id : ℕ) → outputs_in (option_map plain_records records) id ≡ outputs_in records id
outputs_plain None id = refl
outputs_plain (Some records) id = ap outputs_of (plain_found id records.jobs) ∙ plain_outputs (job_with id records.jobs)

pub stepped_same : (tables : Tables) (f g : ℕ → JobSpec × List ℕ) (steps : List Step) (trees : Trees) → AllByRecursion (λ step. f (job_of step) ≡ g (job_of step)) steps → stepped_all tables f steps trees ≡ stepped_all tables g steps trees
stepped_same tables f g [] trees h = refl
stepped_same tables f g (step ∷ steps) trees h =
    stepped_same tables f g steps (stepped_in tables step (f (job_of step)).0 (f (job_of step)).1 trees) h.1
    ∙ ap (λ (p : JobSpec × List ℕ). stepped_all tables g steps (stepped_in tables step p.0 p.1 trees)) h.0
