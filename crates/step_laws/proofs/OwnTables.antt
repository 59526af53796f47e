-- The tables that a worker names for a job are the job's own, or were in no use.
use Rattle.std.proofs.Common.{◌≡◌, refl, sym, ℕ, ◌<◌, List, [], ◌∷◌, Bool, true, false, inl, inr, ◌⊎◌, arith}
use Rattle.std.specs.Prelude.{IsTrue, ◌==◌, ◌&&◌, not}
use Rattle.std.specs.List.{AllByRecursion}
use Rattle.std.proofs.lemmas.Bool.Decides.{Decides-eqb}
use Rattle.row_model.specs.Lists.{Pairs}
use Rattle.row_model.specs.Fold.{Operator}
use Rattle.fleet_model.specs.Jobs.{JobSpec, Job, contains, changed_jobs, is_active}
use Rattle.fleet_model.specs.History.{Party}
use Rattle.fleet_model.specs.Handles.{job_tables}
use Rattle.fleet_model.specs.Store.{stored_jobs}
use Rattle.step_model.specs.Past.{World}
use Rattle.step_model.specs.Entries.{drawn_tables}
use Rattle.step_model.specs.LawfulTables.{IsOwnTable, other_tables, was_piece}
use Rattle.step_model.specs.Kept.TablesKept.{AreApart, NameApart}
use Rattle.step_laws.proofs.Elements.{IsIn, all_at, all_from, all_true_front, all_true_from, pairs_map, in_contains, contains_in, contains_no}
use Rattle.step_laws.proofs.Bodies.{Body}
use Rattle.step_laws.proofs.Changed.{on_these, by_these}
use Rattle.step_laws.proofs.Deletions.{in_flat, in_filter}

-- ---- lists that are apart

not_true : (b : Bool) → b ≡ false → IsTrue (not b)
not_true true e = absurd (cc e)
not_true false e = refl

true_not : (b : Bool) → IsTrue (not b) → IsTrue b → ⊥
true_not true h k = absurd (cc h)
true_not false h k = absurd (cc k)

pub apart_from : (xs ys : List ℕ) → ((t : ℕ) → IsIn t xs → IsIn t ys → ⊥) → AreApart xs ys
apart_from xs ys h = all_true_from (λ x. not (contains ys x)) xs (all_from _ xs (λ t there. not_true (contains ys t) (contains_no ys t (λ other. h t there other))))

pub apart_at : (xs ys : List ℕ) (t : ℕ) → AreApart xs ys → IsIn t xs → IsIn t ys → ⊥
apart_at xs ys t h there other = true_not (contains ys t) (all_at _ xs t (all_true_front (λ x. not (contains ys x)) xs h) there) (in_contains ys t other)

pub pairs_both : {A : Type 0} (R S : A → A → Type 0) (xs : List A) → Pairs R xs → Pairs S xs → Pairs (λ a b. R a b × S a b) xs
pairs_both R S [] h k = tt
pairs_both R S (x ∷ xs) h k = (both xs h.0 k.0, pairs_both R S xs h.1 k.1)
  where
    both : (ys : List _) → AllByRecursion (R x) ys → AllByRecursion (S x) ys → AllByRecursion (λ b. R x b × S x b) ys
    both [] a b = tt
    both (y ∷ ys) a b = ((a.0, b.0), both ys a.1 b.1)

-- ---- tables of changed jobs

-- A table that a changed job names was the job's before, or is new and was in no use.
abbrev pub IsNamedBy : Party → World → (ℕ → List ℕ) → Job → ℕ → Type 0
IsNamedBy party world new job t = IsTrue (contains (job_tables job) t) ⊎ (IsOwnTable party world job.id t × IsIn t (new job.id))

pub record NamesOwn (party : Party) (world : World) (new : ℕ → List ℕ) (f : Job → Job) (these : List ℕ) : Type 0 where
  pub tables : (job : Job) → IsIn job (stored_jobs world.store) → IsTrue (contains these job.id) → (t : ℕ) → IsIn t (job_tables (f job)) → IsNamedBy party world new job t
  pub active : (job : Job) → IsIn job (stored_jobs world.store) → IsTrue (contains these job.id) → IsTrue (is_active job)
  pub fresh : (x y : Job) → IsTrue (contains these x.id) → IsTrue (contains these y.id) → (x.id ≡ y.id → ⊥) → (t : ℕ) → IsIn t (new x.id) → IsIn t (new y.id) → ⊥

-- No other active job names a table that was in no use.
pub unnamed : (party : Party) (world : World) (id t : ℕ) (other : Job) → IsOwnTable party world id t → IsIn other (stored_jobs world.store) → IsTrue (is_active other) → (id ≡ other.id → ⊥) → IsIn t (job_tables other) → ⊥
unnamed party world id t other own there active differs named =
    refused (contains (other_tables id (stored_jobs world.store)) t) own.unnamed
    (in_contains (other_tables id (stored_jobs world.store)) t (in_flat job_tables _ other t (in_filter (λ (job : Job). is_active job && not (id == job.id)) (stored_jobs world.store) other there (both (is_active other) (not (id == other.id)) active (unequal (id == other.id) refl))) named))
  where
    refused : (b : Bool) → b ≡ false → b ≡ true → ⊥
    refused true e f = absurd (cc e)
    refused false e f = absurd (cc f)

    both : (a b : Bool) → IsTrue a → IsTrue b → (a && b) ≡ true
    both true b h k = k
    both false b h k = absurd (cc h)

    unequal : (b : Bool) → (id == other.id) ≡ b → IsTrue (not b)
    unequal true e = absurd (differs ((Decides-eqb id other.id).0 e))
    unequal false e = refl

-- Active jobs still name no table in common after a change that gives jobs only tables of the party's own.
pub names_stay_apart : (merge : Operator) (world : World) (specs : ℕ → JobSpec) (party : Party) (new : ℕ → List ℕ) (f : Job → Job) (these : List ℕ) → Body merge world specs → NamesOwn party world new f these → Pairs NameApart (changed_jobs f these (stored_jobs world.store))
names_stay_apart merge world specs party new f these b h =
    pairs_map (λ (x y : Job). NameApart x y × (x.id < y.id)) NameApart (on_these f these) (stored_jobs world.store) (λ x y one other old first second. apart_from _ _ (λ t in_x in_y.
    clash x y one other old.0 (differ x y old.1) t (active x one first) (active y other second) (tables x one t in_x) (tables y other t in_y)))
    (pairs_both NameApart (λ (x y : Job). x.id < y.id) (stored_jobs world.store) b.name_apart b.sound.job_ids)
  where
    differ : (x y : Job) → x.id < y.id → x.id ≡ y.id → ⊥
    differ x y low same = absurd (omega (arith, low, same))

    active : (job : Job) → IsIn job (stored_jobs world.store) → IsTrue (is_active (on_these f these job)) → IsTrue (is_active job)
    active job there = by_these (λ (j : Job). IsTrue (is_active j) → IsTrue (is_active job)) f these job (λ named is. h.active job there named) (λ other is. is)

    tables : (job : Job) → IsIn job (stored_jobs world.store) → (t : ℕ) → IsIn t (job_tables (on_these f these job)) → IsTrue (contains (job_tables job) t) ⊎ ((IsOwnTable party world job.id t × IsIn t (new job.id)) × IsTrue (contains these job.id))
    tables job there t = by_these (λ (j : Job). IsIn t (job_tables j) → IsTrue (contains (job_tables job) t) ⊎ ((IsOwnTable party world job.id t × IsIn t (new job.id)) × IsTrue (contains these job.id))) f these job
        (λ named one. with_name named (h.tables job there named t one)) (λ other one. inl (in_contains (job_tables job) t one))
      where
        with_name : IsTrue (contains these job.id) → IsNamedBy party world new job t → IsTrue (contains (job_tables job) t) ⊎ ((IsOwnTable party world job.id t × IsIn t (new job.id)) × IsTrue (contains these job.id))
        with_name named (inl old) = inl old
        with_name named (inr own) = inr (own, named)

    clash : (x y : Job) → IsIn x (stored_jobs world.store) → IsIn y (stored_jobs world.store) → NameApart x y → (x.id ≡ y.id → ⊥) → (t : ℕ) → IsTrue (is_active x) → IsTrue (is_active y)
        → IsTrue (contains (job_tables x) t) ⊎ ((IsOwnTable party world x.id t × IsIn t (new x.id)) × IsTrue (contains these x.id))
        → IsTrue (contains (job_tables y) t) ⊎ ((IsOwnTable party world y.id t × IsIn t (new y.id)) × IsTrue (contains these y.id)) → ⊥
    clash x y one other old differs t ax ay (inl in_x) (inl in_y) = apart_at (job_tables x) (job_tables y) t (old ax ay) (contains_in _ t in_x) (contains_in _ t in_y)
    clash x y one other old differs t ax ay (inl in_x) (inr own) = unnamed party world y.id t x own.0.0 one ax (λ same. differs (sym same)) (contains_in _ t in_x)
    clash x y one other old differs t ax ay (inr own) (inl in_y) = unnamed party world x.id t y own.0.0 other ay differs (contains_in _ t in_y)
    clash x y one other old differs t ax ay (inr own) (inr too) = h.fresh x y own.1 too.1 differs t own.0.1 too.0.1

-- What is named so was drawn.
pub named_drawn : (party : Party) (world : World) (new : ℕ → List ℕ) (job : Job) (t : ℕ) → AllByRecursion (λ table. IsTrue (contains (drawn_tables world.store.history) table)) (job_tables job) → IsNamedBy party world new job t → IsTrue (contains (drawn_tables world.store.history) t)
named_drawn party world new job t drawn (inl old) = all_at _ (job_tables job) t drawn (contains_in (job_tables job) t old)
named_drawn party world new job t drawn (inr own) = own.0.drawn

-- And no node held it.
pub named_unused : (party : Party) (world : World) (new : ℕ → List ℕ) (job : Job) (t : ℕ) → AllByRecursion (λ table. was_piece world.past table ≡ false) (job_tables job) → IsNamedBy party world new job t → was_piece world.past t ≡ false
named_unused party world new job t unused (inl old) = all_at _ (job_tables job) t unused (contains_in (job_tables job) t old)
named_unused party world new job t unused (inr own) = own.0.unused
