-- What is kept in the midst of a commit, and how a step that puts a run keeps it.
use Rattle.std.proofs.Common.{Option, None, ◌≡◌, refl, sym, ◌∙◌, ap, subst, ℕ, ◌<◌, List, [], ◌∷◌, cond, Bool, true, false, inl, inr, ◌⊎◌, Some, arith}
use Rattle.std.specs.Prelude.{IsTrue, ◌==◌}
use Rattle.std.specs.List.{AllByRecursion}
use Rattle.std.proofs.lemmas.Bool.Decides.{Decides-eqb}
use Rattle.row_model.specs.Lists.{Pairs}
use Rattle.row_model.specs.Fold.{Operator}
use Rattle.fleet_model.specs.Nodes.{Trees, NodeName}
use Rattle.fleet_model.specs.Jobs.{JobSpec, Job, Jobs, job_with}
use Rattle.fleet_model.specs.Sources.{is_apart}
use Rattle.fleet_model.specs.Store.{stored_jobs}
use Rattle.fleet_model.specs.History.{Party}
use Rattle.step_model.specs.Past.{World}
use Rattle.step_model.specs.Entries.{drew_job, is_mentioned}
use Rattle.step_model.specs.LawfulManifests.{IsKnownTo}
use Rattle.step_laws.proofs.Elements.{IsIn, all_at}
use Rattle.commit_laws.proofs.TreeReads.{with_horizon}
use Rattle.commit_laws.proofs.StepTrees.{TreesKept, names_apart_from, names_apart_at}
use Rattle.commit_laws.proofs.JobSteps.{JobHolds}

-- The trees and the horizon in the midst of a commit, with the jobs that its steps joined so far.
pub record Midway (merge : Operator) (world : World) (trees : Trees) (horizon : ℕ) (joined : List ℕ) : Type 0 where
  pub kept : TreesKept merge (with_horizon world.store horizon) world.store.history trees
  pub jobs : AllByRecursion (JobHolds world trees joined) (stored_jobs world.store)

-- ---- stored jobs

pub found_job : (id : ℕ) (jobs : Jobs) (job : Job) → job_with id jobs ≡ Some job → IsIn job jobs × (id ≡ job.id)
found_job id [] job e = absurd (cc e)
found_job id (x ∷ jobs) job e = by (id == x.id) refl (found_job id jobs job) e
  where
    same_some : Some x ≡ Some job → x ≡ job
    same_some e = cc e

    by : (b : Bool) → (id == x.id) ≡ b → (job_with id jobs ≡ Some job → IsIn job jobs × (id ≡ job.id)) → cond b (Some x) (job_with id jobs) ≡ Some job → IsIn job (x ∷ jobs) × (id ≡ job.id)
    by true f rest e = (inl (same_some e), (Decides-eqb id x.id).0 f ∙ ap (λ (j : Job). j.id) (same_some e))
    by false f rest e = let more = rest e in (inr more.0, more.1)

-- Two stored jobs with ids of their own are related one way or the other.
pub two_jobs : (R : Job → Job → Type 0) (jobs : Jobs) (x y : Job) → Pairs R jobs → IsIn x jobs → IsIn y jobs → (x.id ≡ y.id → ⊥) → R x y ⊎ R y x
two_jobs R [] x y h one other differs = absurd one
two_jobs R (z ∷ jobs) x y h (inl a) (inl b) differs = absurd (differs (ap (λ (j : Job). j.id) (sym a ∙ b)))
two_jobs R (z ∷ jobs) x y h (inl a) (inr b) differs = inl (subst (λ (w : Job). R w y) a (all_at (R z) jobs y h.0 b))
two_jobs R (z ∷ jobs) x y h (inr a) (inl b) differs = inr (subst (λ (w : Job). R w x) b (all_at (R z) jobs x h.0 a))
two_jobs R (z ∷ jobs) x y h (inr a) (inr b) differs = two_jobs R jobs x y h.1 a b differs

pub apart_turned : (xs ys : List NodeName) → IsTrue (is_apart xs ys) → IsTrue (is_apart ys xs)
apart_turned xs ys h = names_apart_from ys xs (λ n one other. names_apart_at xs ys n h other one)

-- Stored jobs have ids of their own.
pub only_job : (jobs : Jobs) (x y : Job) → Pairs (λ (a b : Job). a.id < b.id) jobs → IsIn x jobs → IsIn y jobs → x.id ≡ y.id → x ≡ y
only_job [] x y h one other same = absurd one
only_job (z ∷ jobs) x y h (inl a) (inl b) same = sym a ∙ b
only_job (z ∷ jobs) x y h (inl a) (inr b) same = let low = all_at (λ (w : Job). z.id < w.id) jobs y h.0 b in let is = ap (λ (j : Job). j.id) a in absurd (omega (arith, low, is, same))
only_job (z ∷ jobs) x y h (inr a) (inl b) same = let low = all_at (λ (w : Job). z.id < w.id) jobs x h.0 a in let is = ap (λ (j : Job). j.id) b in absurd (omega (arith, low, is, same))
only_job (z ∷ jobs) x y h (inr a) (inr b) same = only_job jobs x y h.1 a b same

-- ---- the jobs that a commit does

-- A job that a commit does is stored with its spec, or the party drew its id and no entry mentions it.
pub data KnownCase (party : Party) (world : World) (own : ℕ → JobSpec) (id : ℕ) : Type 0 where
  Stored : (job : Job) → IsIn job (stored_jobs world.store) → job_with id (stored_jobs world.store) ≡ Some job → id ≡ job.id → own id ≡ job.spec → KnownCase party world own id
  New : job_with id (stored_jobs world.store) ≡ None → IsTrue (drew_job party world.store.history id) → is_mentioned world.store.history id ≡ false → KnownCase party world own id

pub known_case : (party : Party) (world : World) (own : ℕ → JobSpec) (id : ℕ) → IsKnownTo party world own id → KnownCase party world own id
known_case party world own id known = at (job_with id (stored_jobs world.store)) refl known
  where
    Known : Option Job → Type 0
    Known None = IsTrue (drew_job party world.store.history id) × (is_mentioned world.store.history id ≡ false)
    Known (Some job) = own id ≡ job.spec

    at : (o : Option Job) → job_with id (stored_jobs world.store) ≡ o → Known o → KnownCase party world own id
    at None e k = New e k.0 k.1
    at (Some job) e k = let found = found_job id (stored_jobs world.store) job e in Stored job found.0 e found.1 k
