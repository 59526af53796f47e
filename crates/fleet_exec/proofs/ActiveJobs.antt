-- Active jobs that are started, ended and changed, as they are looked up.
use Rattle.std.proofs.Common.{sym, length, take, drop, ◌<◌, nat_lt, ◌≡◌, refl, ◌∙◌, ap, subst, ℕ, suc, ◌+◌, List, [], ◌∷◌, ◌++◌, Bool, true, false, cond, not, arith}
use Rattle.std.specs.Prelude.{◌≢◌, ◌==◌, slice_get, slice_set, is_some, Option, Some, None, option_map, IfSome, IsNone, IsSomeAnd, Result, Ok, Err, OnOk, OnErr}
use Rattle.std.specs.List.{AllByRecursion, prefix_len}
use Rattle.std.proofs.lemmas.Bool.{eqb-true, eqb-false, eq-eqb}
use Rattle.row_model.specs.Lists.{Pairs}
use Rattle.fleet_exec.specs.ExecutorParts.{ActiveParts}
use Rattle.fleet_exec.specs.Executors.{AreById, AreDistinct, IsChanged, OthersStay, job_ids, active_job_with, put_job, without_job}
use Rattle.row_laws.proofs.Elements.{all_weaken}

abbrev Avoids : ℕ → List ActiveParts → Type 0
Avoids id jobs = AllByRecursion (λ other. id ≢ other) (job_ids jobs)

avoids_from_none : (id : ℕ) (jobs : List ActiveParts) → active_job_with id jobs ≡ None → Avoids id jobs
avoids_from_none id [] none = tt
avoids_from_none id (job ∷ jobs) none = by (job.args.id == id) refl none (λ later. avoids_from_none id jobs later)
  where
    by : (b : Bool) → (job.args.id == id) ≡ b → cond b (Some job) (active_job_with id jobs) ≡ None → (active_job_with id jobs ≡ None → Avoids id jobs) → (id ≢ job.args.id) × Avoids id jobs
    by true e is rest = absurd (cc is)
    by false e is rest = (λ same. eqb-false job.args.id id e (sym same), rest is)

pub apart : (a b : ℕ) → a ≢ b → (a == b) ≡ false
apart a b other = by (a == b) refl
  where
    by : (c : Bool) → (a == b) ≡ c → c ≡ false
    by true e = absurd (other (eqb-true a b e))
    by false e = refl

-- ---- jobs by rising id

abbrev Above : ℕ → List ActiveParts → Type 0
Above id jobs = AllByRecursion (λ other. id < other) (job_ids jobs)

pub distinct_of : (jobs : List ActiveParts) → AreById jobs → AreDistinct jobs
distinct_of [] rising = tt
distinct_of (job ∷ jobs) rising = (all_weaken (λ n. job.args.id < n) (λ n. job.args.id ≢ n) (λ n less same. absurd (omega (arith, less, same))) (job_ids jobs) rising.0, distinct_of jobs rising.1)

above_all : (a b : ℕ) (jobs : List ActiveParts) → a < b → Above b jobs → Above a jobs
above_all a b jobs less all = all_weaken (λ n. b < n) (λ n. a < n) (λ n more. omega (arith, less, more)) (job_ids jobs) all

below_from_test : (a b : ℕ) → nat_lt a b ≡ true → a < b
below_from_test a b e = grind arith

above_from_test : (a b : ℕ) → nat_lt a b ≡ false → a ≢ b → b < a
above_from_test a b e differs = grind arith

-- ---- a job that starts

-- How many jobs are in front of the first job with an id above this one.
abbrev pub place_above : ℕ → List ActiveParts → ℕ
place_above id jobs = prefix_len (λ job. not (nat_lt id job.args.id)) jobs

-- A job that is inserted at the place that is looked up is put before the first job with a greater id.
pub placed : (job : ActiveParts) (jobs : List ActiveParts) (place : ℕ) → place ≡ place_above job.args.id jobs → take place jobs ++ job ∷ drop place jobs ≡ put_job job jobs
placed job [] place at = ap (λ n. take n [] ++ job ∷ drop n []) at
placed job (first ∷ jobs) place at = ap (λ n. take n (first ∷ jobs) ++ job ∷ drop n (first ∷ jobs)) at ∙ by (nat_lt job.args.id first.args.id) (placed job jobs _ refl)
  where
    n : ℕ
    n = place_above job.args.id jobs

    by : (b : Bool) → take n jobs ++ job ∷ drop n jobs ≡ put_job job jobs
        → take (cond (not b) (1 + n) 0) (first ∷ jobs) ++ job ∷ drop (cond (not b) (1 + n) 0) (first ∷ jobs) ≡ cond b (job ∷ first ∷ jobs) (first ∷ put_job job jobs)
    by true rest = refl
    by false rest = let one : 1 + n ≡ suc n = omega arith in ap (λ m. take m (first ∷ jobs) ++ job ∷ drop m (first ∷ jobs)) one ∙ ap (λ js. first ∷ js) rest

pub length_put : (job : ActiveParts) (jobs : List ActiveParts) → length (put_job job jobs) ≡ length jobs + 1
length_put job [] = refl
length_put job (first ∷ jobs) = by (nat_lt job.args.id first.args.id) (length_put job jobs)
  where
    by : (b : Bool) → length (put_job job jobs) ≡ length jobs + 1 → length (cond b (job ∷ first ∷ jobs) (first ∷ put_job job jobs)) ≡ suc (length jobs) + 1
    by true rest = omega arith
    by false rest = omega (arith, rest)

found_put : (id : ℕ) (jobs : List ActiveParts) (job : ActiveParts) → active_job_with id jobs ≡ None → job.args.id ≡ id → active_job_with id (put_job job jobs) ≡ Some job
found_put id [] job none own = ap (λ b. cond b (Some job) None) (eq-eqb job.args.id id own)
found_put id (first ∷ jobs) job none own = by (nat_lt job.args.id first.args.id) (first.args.id == id) refl none (λ later. found_put id jobs job later own)
  where
    by : (b c : Bool) → (first.args.id == id) ≡ c → cond c (Some first) (active_job_with id jobs) ≡ None → (active_job_with id jobs ≡ None → active_job_with id (put_job job jobs) ≡ Some job)
        → active_job_with id (cond b (job ∷ first ∷ jobs) (first ∷ put_job job jobs)) ≡ Some job
    by true c e is rest = ap (λ d. cond d (Some job) (active_job_with id (first ∷ jobs))) (eq-eqb job.args.id id own)
    by false true e is rest = absurd (cc is)
    by false false e is rest = ap (λ d. cond d (Some first) (active_job_with id (put_job job jobs))) e ∙ rest is

others_put : (id : ℕ) (jobs : List ActiveParts) (job : ActiveParts) → job.args.id ≡ id → OthersStay id jobs (put_job job jobs)
others_put id [] job own other differs = ap (λ b. cond b (Some job) None) (apart job.args.id other (λ same. differs (sym same ∙ own)))
others_put id (first ∷ jobs) job own other differs = by (nat_lt job.args.id first.args.id) (others_put id jobs job own other differs)
  where
    by : (b : Bool) → active_job_with other (put_job job jobs) ≡ active_job_with other jobs
        → active_job_with other (cond b (job ∷ first ∷ jobs) (first ∷ put_job job jobs)) ≡ active_job_with other (first ∷ jobs)
    by true rest = ap (λ c. cond c (Some job) (active_job_with other (first ∷ jobs))) (apart job.args.id other (λ same. differs (sym same ∙ own)))
    by false rest = ap (λ o. cond (first.args.id == other) (Some first) o) rest

above_put : (id : ℕ) (jobs : List ActiveParts) (job : ActiveParts) → id < job.args.id → Above id jobs → Above id (put_job job jobs)
above_put id [] job less all = (less, tt)
above_put id (first ∷ jobs) job less all = by (nat_lt job.args.id first.args.id) (above_put id jobs job less all.1)
  where
    by : (b : Bool) → Above id (put_job job jobs) → Above id (cond b (job ∷ first ∷ jobs) (first ∷ put_job job jobs))
    by true rest = (less, all)
    by false rest = (all.0, rest)

by_id_put : (jobs : List ActiveParts) (job : ActiveParts) → AreById jobs → Avoids job.args.id jobs → AreById (put_job job jobs)
by_id_put [] job rising new = (tt, tt)
by_id_put (first ∷ jobs) job rising new = by (nat_lt job.args.id first.args.id) refl (by_id_put jobs job rising.1 new.1)
  where
    by : (b : Bool) → nat_lt job.args.id first.args.id ≡ b → AreById (put_job job jobs) → AreById (cond b (job ∷ first ∷ jobs) (first ∷ put_job job jobs))
    by true e rest = let less = below_from_test job.args.id first.args.id e in ((less, above_all job.args.id first.args.id jobs less rising.0), rising)
    by false e rest = (above_put first.args.id jobs job (above_from_test job.args.id first.args.id e new.0) rising.0, rest)

-- The job is found under its id, the other jobs stay, and ids rise.
pub record IsAdded (id : ℕ) (job : ActiveParts) (old new : List ActiveParts) : Type 0 where
  pub found : active_job_with id new ≡ Some job
  pub others : OthersStay id old new
  pub by_id : AreById new
  pub placed : new ≡ put_job job old

-- A job that is put among jobs without its id is found under its id, and the other jobs stay.
pub is_added : (id : ℕ) (old jobs new : List ActiveParts) (job : ActiveParts) → jobs ≡ old → AreById jobs → IsNone (active_job_with id old) → job.args.id ≡ id → new ≡ put_job job jobs → IsAdded id job old new
is_added id old jobs new job is rising none own made =
    let free = none_is (active_job_with id old) none in
    let here = ap (active_job_with id) is ∙ free in
    record {
      found = ap (active_job_with id) made ∙ found_put id jobs job here own;
      others = subst (λ js. OthersStay id js new) is (subst (OthersStay id jobs) (sym made) (others_put id jobs job own));
      by_id = subst AreById (sym made) (by_id_put jobs job rising (avoids_from_none job.args.id jobs (ap (λ n. active_job_with n jobs) own ∙ here)));
      placed = made ∙ ap (put_job job) is;
    }
  where
    none_is : (o : Option ActiveParts) → IsNone o → o ≡ None
    none_is None h = refl
    none_is (Some x) h = absurd (cc h)

-- A call that is refused leaves the list as it was.
pub by_result : {T E P Q G : Type 0} → (r : Result T E) → OnOk r P → OnErr r Q → (P → G) → (Q → G) → G
by_result (Ok x) p q f g = f p
by_result (Err e) p q f g = g q

pub is_some-map : {A B : Type 0} → (f : A → B) (o : Option A) → is_some (option_map f o) ≡ is_some o
is_some-map f None = refl
is_some-map f (Some x) = refl

-- ---- a job that ends

pub none_left : (id : ℕ) (jobs : List ActiveParts) → active_job_with id (without_job id jobs) ≡ None
none_left id [] = refl
none_left id (job ∷ jobs) = by (job.args.id == id) refl (none_left id jobs)
  where
    by : (b : Bool) → (job.args.id == id) ≡ b → active_job_with id (without_job id jobs) ≡ None → active_job_with id (cond (not b) (job ∷ without_job id jobs) (without_job id jobs)) ≡ None
    by true e rest = rest
    by false e rest = ap (λ c. cond c (Some job) (active_job_with id (without_job id jobs))) e ∙ rest

pub others_left : (id : ℕ) (jobs : List ActiveParts) → OthersStay id jobs (without_job id jobs)
others_left id [] other differs = refl
others_left id (job ∷ jobs) other differs = by (job.args.id == id) refl (others_left id jobs other differs)
  where
    by : (b : Bool) → (job.args.id == id) ≡ b → active_job_with other (without_job id jobs) ≡ active_job_with other jobs
        → active_job_with other (cond (not b) (job ∷ without_job id jobs) (without_job id jobs)) ≡ active_job_with other (job ∷ jobs)
    by true e rest =
        let gone = apart job.args.id other (λ same. differs (sym same ∙ eqb-true job.args.id id e)) in
        rest ∙ sym (ap (λ c. cond c (Some job) (active_job_with other jobs)) gone)
    by false e rest = ap (λ o. cond (job.args.id == other) (Some job) o) rest

above_without : (x id : ℕ) (jobs : List ActiveParts) → Above x jobs → Above x (without_job id jobs)
above_without x id [] all = tt
above_without x id (job ∷ jobs) all = by (not (job.args.id == id)) (above_without x id jobs all.1)
  where
    by : (b : Bool) → Above x (without_job id jobs) → Above x (cond b (job ∷ without_job id jobs) (without_job id jobs))
    by true rest = (all.0, rest)
    by false rest = rest

pub by_id_without : (id : ℕ) (jobs : List ActiveParts) → AreById jobs → AreById (without_job id jobs)
by_id_without id [] rising = tt
by_id_without id (job ∷ jobs) rising = by (not (job.args.id == id)) (by_id_without id jobs rising.1)
  where
    by : (b : Bool) → AreById (without_job id jobs) → AreById (cond b (job ∷ without_job id jobs) (without_job id jobs))
    by true rest = (above_without job.args.id id jobs rising.0, rest)
    by false rest = rest

all_left : (id : ℕ) (jobs : List ActiveParts) → Avoids id jobs → without_job id jobs ≡ jobs
all_left id [] all = refl
all_left id (job ∷ jobs) all =
    ap (λ b. cond (not b) (job ∷ without_job id jobs) (without_job id jobs)) (apart job.args.id id (λ same. all.0 (sym same))) ∙ ap (λ js. job ∷ js) (all_left id jobs all.1)

pub count_without : (id : ℕ) (jobs : List ActiveParts) → AreDistinct jobs → length jobs ≡ length (without_job id jobs) + cond (is_some (active_job_with id jobs)) 1 0
count_without id [] distinct = refl
count_without id (job ∷ jobs) distinct = by (job.args.id == id) refl (count_without id jobs distinct.1)
  where
    by : (b : Bool) → (job.args.id == id) ≡ b → length jobs ≡ length (without_job id jobs) + cond (is_some (active_job_with id jobs)) 1 0
        → suc (length jobs) ≡ length (cond (not b) (job ∷ without_job id jobs) (without_job id jobs)) + cond (is_some (cond b (Some job) (active_job_with id jobs))) 1 0
    by true e rest =
        let same = ap length (all_left id jobs (subst (λ k. Avoids k jobs) (eqb-true job.args.id id e) distinct.0)) in
        omega (arith, same)
    by false e rest = omega (arith, rest)

-- ---- a job that changes

abbrev pub place_in : ℕ → List ActiveParts → ℕ
place_in id jobs = prefix_len (λ job. not (job.args.id == id)) jobs

-- At the place that is looked up stands the job that is found.
pub found_at : (id : ℕ) (jobs : List ActiveParts) → slice_get jobs (place_in id jobs) ≡ active_job_with id jobs
found_at id [] = refl
found_at id (job ∷ jobs) = by (job.args.id == id) (found_at id jobs)
  where
    by : (b : Bool) → slice_get jobs (place_in id jobs) ≡ active_job_with id jobs → slice_get (job ∷ jobs) (cond (not b) (1 + place_in id jobs) 0) ≡ cond b (Some job) (active_job_with id jobs)
    by true rest = refl
    by false rest = let e : 1 + place_in id jobs ≡ suc (place_in id jobs) = omega arith in ap (slice_get (job ∷ jobs)) e ∙ rest

-- A change of the job at the place of an id changes that job alone.
pub is_changed : (change : ActiveParts → ActiveParts) → ((job : ActiveParts) → (change job).args.id ≡ job.args.id) → (id : ℕ) (jobs : List ActiveParts) (job : ActiveParts)
    → active_job_with id jobs ≡ Some job → IsChanged id change jobs (slice_set jobs (place_in id jobs) (change job))
is_changed change keeps id [] job found = absurd (cc found)
is_changed change keeps id (first ∷ jobs) job found = by (first.args.id == id) refl found (λ later. is_changed change keeps id jobs job later)
  where
    by : (b : Bool) → (first.args.id == id) ≡ b → cond b (Some first) (active_job_with id jobs) ≡ Some job → (active_job_with id jobs ≡ Some job → IsChanged id change jobs (slice_set jobs (place_in id jobs) (change job)))
        → IsChanged id change (first ∷ jobs) (slice_set (first ∷ jobs) (cond (not b) (1 + place_in id jobs) 0) (change job))
    by true e is rest =
        let same : first ≡ job = cc is in
        let own : (change job).args.id ≡ first.args.id = keeps job ∙ ap (λ j. j.args.id) (sym same) in
        let its = eqb-true first.args.id id e in
        record {
          found =
              ap (λ c. cond c (Some (change job)) (active_job_with id jobs)) (eq-eqb (change job).args.id id (own ∙ its))
              ∙ ap (λ j. Some (change j)) (sym same)
              ∙ ap (λ c. option_map change (cond c (Some first) (active_job_with id jobs))) (sym e);
          others =
              λ other differs.
              ap (λ c. cond c (Some (change job)) (active_job_with other jobs)) (apart (change job).args.id other (λ k. differs (sym k ∙ own ∙ its)))
              ∙ sym (ap (λ c. cond c (Some first) (active_job_with other jobs)) (apart first.args.id other (λ k. differs (sym k ∙ its))));
          count = refl;
          same = ap (λ n. n ∷ job_ids jobs) own;
        }
    by false e is rest =
        let later = rest is in
        let made = slice_set jobs (place_in id jobs) (change job) in
        let at : 1 + place_in id jobs ≡ suc (place_in id jobs) = omega arith in
        subst (λ n. IsChanged id change (first ∷ jobs) (slice_set (first ∷ jobs) n (change job))) (sym at)
        record {
          found =
              ap (λ c. cond c (Some first) (active_job_with id made)) e
              ∙ later.found
              ∙ ap (λ c. option_map change (cond c (Some first) (active_job_with id jobs))) (sym e);
          others = λ other differs. ap (λ o. cond (first.args.id == other) (Some first) o) (later.others other differs);
          count = ap suc later.count;
          same = ap (λ ns. first.args.id ∷ ns) later.same;
        }

pub at_place : (id place : ℕ) (jobs : List ActiveParts) → place ≡ place_in id jobs → slice_get jobs place ≡ active_job_with id jobs
at_place id place jobs at = ap (slice_get jobs) at ∙ found_at id jobs

-- The job at the place that is looked up is changed.
pub is_changed_at : (change : ActiveParts → ActiveParts) → ((job : ActiveParts) → (change job).args.id ≡ job.args.id) → (P : ActiveParts → Type 0) (id place : ℕ) (jobs new : List ActiveParts)
    → place ≡ place_in id jobs → IsSomeAnd (active_job_with id jobs) P → IfSome (slice_get jobs place) (λ job. new ≡ slice_set jobs place (change job)) → IsChanged id change jobs new
is_changed_at change keeps P id place jobs new at there set =
    by (active_job_with id jobs) refl there (subst (λ o. IfSome o (λ job. new ≡ slice_set jobs place (change job))) (at_place id place jobs at) set)
  where
    by : (o : Option ActiveParts) → active_job_with id jobs ≡ o → IsSomeAnd o P → IfSome o (λ job. new ≡ slice_set jobs place (change job)) → IsChanged id change jobs new
    by None e some made = absurd some
    by (Some job) e some made = subst (IsChanged id change jobs) (sym (made ∙ ap (λ n. slice_set jobs n (change job)) at)) (is_changed change keeps id jobs job e)

pub by_id_after : {id : ℕ} {change : ActiveParts → ActiveParts} → (old new : List ActiveParts) → IsChanged id change old new → AreById old → AreById new
by_id_after old new changed rising = subst (λ numbers. Pairs (λ a b. a < b) numbers) (sym changed.same) rising
