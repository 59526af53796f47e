-- Attempts that a claim inserts among those that a worker runs.
use Rattle.std.proofs.Common.{◌≡◌, ◌≢◌, refl, sym, ◌∙◌, ap, ℕ, ◌+◌, ◌<◌, Bool, true, false, cond, not, map, List, [], ◌∷◌, ◌++◌, take, drop, nat_lt, suc, arith}
use Rattle.std.specs.Prelude.{◌==◌, filter, Some, None}
use Rattle.std.specs.List.{AllByRecursion, prefix_len}
use Rattle.std.specs.Option.{option_to_list}
use Rattle.std.proofs.lemmas.Bool.{eq-eqb, ne_eqb}
use Rattle.row_model.specs.Lists.{Pairs}
use Rattle.fleet_model.specs.Jobs.{contains}
use Rattle.fleet_model.specs.Work.Parties.{put_attempt, with_attempts, without_attempts}
use Rattle.fleet_claim.specs.Beginnings.{claimed_of}
use Rattle.fleet_claim.specs.declared.beginning.ClaimedAttempt.{ClaimedAttempt}
use Rattle.fleet_worker.specs.Claims.{attempts_at, next_parts, part_jobs, parts_of, put_part, with_parts, without_parts}
use Rattle.fleet_worker.specs.Workers.{AttemptParts, attempt_of, run_at}
use Rattle.fleet_claim.proofs.Lists.{filter_changed}

-- ---- the model's attempts

pub put_same : (a : AttemptParts) (xs : List AttemptParts) → map attempt_of (put_part a xs) ≡ put_attempt (attempt_of a) (map attempt_of xs)
put_same a [] = refl
put_same a (b ∷ xs) = by (nat_lt a.job b.job) (put_same a xs)
  where
    by : (c : Bool) → map attempt_of (put_part a xs) ≡ put_attempt (attempt_of a) (map attempt_of xs)
        → map attempt_of (cond c (a ∷ b ∷ xs) (b ∷ put_part a xs)) ≡ cond c (attempt_of a ∷ attempt_of b ∷ map attempt_of xs) (attempt_of b ∷ put_attempt (attempt_of a) (map attempt_of xs))
    by true rest = refl
    by false rest = ap (λ ys. attempt_of b ∷ ys) rest

with_same : (new xs : List AttemptParts) → map attempt_of (with_parts new xs) ≡ with_attempts (map attempt_of new) (map attempt_of xs)
with_same [] xs = refl
with_same (a ∷ new) xs = with_same new (put_part a xs) ∙ ap (with_attempts (map attempt_of new)) (put_same a xs)

pub without_same : (stopped : List ℕ) (xs : List AttemptParts) → map attempt_of (without_parts stopped xs) ≡ without_attempts stopped (map attempt_of xs)
without_same stopped xs = sym (filter_changed (λ a. not (contains stopped a.job)) attempt_of xs)

pub begun_same : (begun : List ClaimedAttempt) → map attempt_of (map parts_of begun) ≡ map claimed_of begun
begun_same [] = refl
begun_same (a ∷ begun) = ap (λ xs. claimed_of a ∷ xs) (begun_same begun)

pub next_same : (stopped : List ℕ) (begun : List ClaimedAttempt) (xs : List AttemptParts) → map attempt_of (next_parts stopped begun xs) ≡ with_attempts (map claimed_of begun) (without_attempts stopped (map attempt_of xs))
next_same stopped begun xs = with_same (map parts_of begun) (without_parts stopped xs) ∙ ap (λ new. with_attempts new (map attempt_of (without_parts stopped xs))) (begun_same begun) ∙ ap (with_attempts (map claimed_of begun)) (without_same stopped xs)

-- Nothing is left out if no job is stopped.
pub without_none : (xs : List AttemptParts) → without_parts [] xs ≡ xs
without_none [] = refl
without_none (a ∷ xs) = ap (λ ys. a ∷ ys) (without_none xs)

-- ---- the place of an attempt

-- An attempt that is inserted at the place that is looked up is put before the first one at a greater job.
pub placed : (a : AttemptParts) (xs : List AttemptParts) (place : ℕ) → place ≡ prefix_len (λ b. not (nat_lt a.job b.job)) xs → take place xs ++ a ∷ drop place xs ≡ put_part a xs
placed a [] place at = ap (λ n. take n [] ++ a ∷ drop n []) at
placed a (b ∷ xs) place at = ap (λ n. take n (b ∷ xs) ++ a ∷ drop n (b ∷ xs)) at ∙ by (nat_lt a.job b.job) (placed a xs _ refl)
  where
    n : ℕ
    n = prefix_len (λ b. not (nat_lt a.job b.job)) xs

    by : (c : Bool) → take n xs ++ a ∷ drop n xs ≡ put_part a xs → take (cond (not c) (1 + n) 0) (b ∷ xs) ++ a ∷ drop (cond (not c) (1 + n) 0) (b ∷ xs) ≡ cond c (a ∷ b ∷ xs) (b ∷ put_part a xs)
    by true rest = refl
    by false rest = let one : 1 + n ≡ suc n = omega arith in ap (λ m. take m (b ∷ xs) ++ a ∷ drop m (b ∷ xs)) one ∙ ap (λ ys. b ∷ ys) rest

-- ---- inserted attempts are found

absent : (id : ℕ) (xs : List AttemptParts) → contains (part_jobs xs) id ≡ false → run_at xs id ≡ None
absent id [] none = refl
absent id (a ∷ xs) none = by (a.job == id) none (λ later. absent id xs later)
  where
    by : (b : Bool) → cond b true (contains (part_jobs xs) id) ≡ false → (contains (part_jobs xs) id ≡ false → run_at xs id ≡ None) → cond b (Some a) (run_at xs id) ≡ None
    by true e rest = absurd (cc e)
    by false e rest = rest e

still_absent : (id : ℕ) (keep : AttemptParts → Bool) (xs : List AttemptParts) → run_at xs id ≡ None → run_at (filter keep xs) id ≡ None
still_absent id keep [] none = refl
still_absent id keep (a ∷ xs) none = by (a.job == id) (keep a) refl none (λ later. still_absent id keep xs later)
  where
    by : (b c : Bool) → (a.job == id) ≡ b → cond b (Some a) (run_at xs id) ≡ None → (run_at xs id ≡ None → run_at (filter keep xs) id ≡ None) → run_at (cond c (a ∷ filter keep xs) (filter keep xs)) id ≡ None
    by true c e is rest = absurd (cc is)
    by false true e is rest = ap (λ d. cond d (Some a) (run_at (filter keep xs) id)) e ∙ rest is
    by false false e is rest = rest is

found_put : (a : AttemptParts) (xs : List AttemptParts) → run_at xs a.job ≡ None → run_at (put_part a xs) a.job ≡ Some a
found_put a [] none = ap (λ b. cond b (Some a) None) (eq-eqb a.job a.job refl)
found_put a (x ∷ xs) none = by (nat_lt a.job x.job) (x.job == a.job) refl none (λ later. found_put a xs later)
  where
    by : (b c : Bool) → (x.job == a.job) ≡ c → cond c (Some x) (run_at xs a.job) ≡ None → (run_at xs a.job ≡ None → run_at (put_part a xs) a.job ≡ Some a) → run_at (cond b (a ∷ x ∷ xs) (x ∷ put_part a xs)) a.job ≡ Some a
    by true c e is rest = ap (λ d. cond d (Some a) (run_at (x ∷ xs) a.job)) (eq-eqb a.job a.job refl)
    by false true e is rest = absurd (cc is)
    by false false e is rest = ap (λ d. cond d (Some x) (run_at (put_part a xs) a.job)) e ∙ rest is

others_put : (id : ℕ) (a : AttemptParts) (xs : List AttemptParts) → a.job ≢ id → run_at (put_part a xs) id ≡ run_at xs id
others_put id a [] differs = ap (λ b. cond b (Some a) None) (ne_eqb a.job id differs)
others_put id a (x ∷ xs) differs = by (nat_lt a.job x.job) (others_put id a xs differs)
  where
    by : (b : Bool) → run_at (put_part a xs) id ≡ run_at xs id → run_at (cond b (a ∷ x ∷ xs) (x ∷ put_part a xs)) id ≡ run_at (x ∷ xs) id
    by true rest = ap (λ c. cond c (Some a) (run_at (x ∷ xs) id)) (ne_eqb a.job id differs)
    by false rest = ap (λ o. cond (x.job == id) (Some x) o) rest

others_with : (id : ℕ) (new xs : List AttemptParts) → AllByRecursion (λ a. id < a.job) new → run_at (with_parts new xs) id ≡ run_at xs id
others_with id [] xs above = refl
others_with id (a ∷ new) xs above = others_with id new (put_part a xs) above.1 ∙ others_put id a xs (λ same. omega (arith, above.0, same))

all_found : (new xs : List AttemptParts) → Pairs (λ a b. a.job < b.job) new → AllByRecursion (λ a. run_at xs a.job ≡ None) new → AllByRecursion (λ a. run_at (with_parts new xs) a.job ≡ Some a) new
all_found [] xs rise none = tt
all_found (a ∷ new) xs rise none = (others_with a.job new (put_part a xs) rise.0 ∙ found_put a xs none.0, all_found new (put_part a xs) rise.1 (on new rise.0 none.1))
  where
    on : (bs : List AttemptParts) → AllByRecursion (λ b. a.job < b.job) bs → AllByRecursion (λ b. run_at xs b.job ≡ None) bs → AllByRecursion (λ b. run_at (put_part a xs) b.job ≡ None) bs
    on [] above none = tt
    on (b ∷ bs) above none = (others_put b.job a xs (λ same. omega (arith, above.0, same)) ∙ none.0, on bs above.1 none.1)

found_are : (new all : List AttemptParts) → AllByRecursion (λ a. run_at all a.job ≡ Some a) new → attempts_at (part_jobs new) all ≡ new
found_are [] all found = refl
found_are (a ∷ new) all found = ap (λ o. option_to_list o ++ attempts_at (part_jobs new) all) found.0 ∙ ap (λ xs. a ∷ xs) (found_are new all found.1)

-- New attempts whose jobs rise, at jobs that the worker does not run, are found among the next attempts.
pub begun_at : (stopped : List ℕ) (new xs : List AttemptParts) → Pairs (λ a b. a.job < b.job) new → AllByRecursion (λ a. contains (part_jobs xs) a.job ≡ false) new
    → attempts_at (part_jobs new) (with_parts new (without_parts stopped xs)) ≡ new
begun_at stopped new xs rise apart = found_are new _ (all_found new (without_parts stopped xs) rise (none new apart))
  where
    none : (ys : List AttemptParts) → AllByRecursion (λ a. contains (part_jobs xs) a.job ≡ false) ys → AllByRecursion (λ a. run_at (without_parts stopped xs) a.job ≡ None) ys
    none [] apart = tt
    none (a ∷ ys) apart = (still_absent a.job (λ b. not (contains stopped b.job)) xs (absent a.job xs apart.0), none ys apart.1)
