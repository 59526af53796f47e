-- Of the records of jobs that are over, only the last one is kept.
use Rattle.std.proofs.Common.{sym, ◌≡◌, refl, ◌∙◌, ap, subst, ℕ, ◌<◌, List, [], ◌∷◌, Bool, true, false, cond, ◌||◌, not, arith}
use Rattle.std.specs.Prelude.{◌==◌, filter, fold, Option, Some, None, if◌then◌else◌}
use Rattle.std.specs.List.{AllByRecursion}
use Rattle.std.specs.Option.{option_map_or}
use Rattle.std.proofs.lemmas.Bool.{eqb-true, eq-eqb}
use Rattle.fleet_jobs.specs.Parts.JobParts.{JobParts}
use Rattle.fleet_jobs.specs.Jobs.{is_open}
use Rattle.fleet_book.specs.Records.{AreRising, kept_records, over_later}
use Rattle.fleet_book.proofs.Records.{Above, rising_filter}

-- The id of the last job that is over, after one more job.
abbrev after_job : Option ℕ → JobParts → Option ℕ
after_job last job = if is_open job then last else Some job.id

-- True if an id is given and the job has it.
abbrev is_last : Option ℕ → JobParts → Bool
is_last last job = option_map_or (λ id. id == job.id) last false

abbrev last_in : Option ℕ → List JobParts → Option ℕ
last_in last jobs = fold after_job last jobs

abbrev IsAbove : ℕ → Option ℕ → Type 0
IsAbove x None = ⊥
IsAbove x (Some id) = x < id

stays_above : (x : ℕ) (last : Option ℕ) (jobs : List JobParts) → IsAbove x last → AllByRecursion (Above x) jobs → IsAbove x (last_in last jobs)
stays_above x last [] low all = low
stays_above x last (job ∷ jobs) low all = stays_above x (after_job last job) jobs (by (is_open job)) all.1
  where
    by : (b : Bool) → IsAbove x (cond b last (Some job.id))
    by true = low
    by false = all.0

gets_above : (x : ℕ) (last : Option ℕ) (jobs : List JobParts) → AllByRecursion (Above x) jobs → over_later jobs ≡ true → IsAbove x (last_in last jobs)
gets_above x last [] all over = absurd (cc over)
gets_above x last (job ∷ jobs) all over = by (is_open job) over (λ later. gets_above x last jobs all.1 later)
  where
    by : (b : Bool) → (not b || over_later jobs) ≡ true → (over_later jobs ≡ true → IsAbove x (last_in last jobs)) → IsAbove x (last_in (cond b last (Some job.id)) jobs)
    by true some rest = rest some
    by false some rest = stays_above x (Some job.id) jobs all.0 all.1

none_later : (last : Option ℕ) (jobs : List JobParts) → over_later jobs ≡ false → last_in last jobs ≡ last
none_later last [] none = refl
none_later last (job ∷ jobs) none = by (is_open job) none (λ later. none_later last jobs later)
  where
    by : (b : Bool) → (not b || over_later jobs) ≡ false → (over_later jobs ≡ false → last_in last jobs ≡ last) → last_in (cond b last (Some job.id)) jobs ≡ last
    by true clear rest = rest clear
    by false clear rest = absurd (cc clear)

not_last : (job : JobParts) (last : Option ℕ) → IsAbove job.id last → is_last last job ≡ false
not_last job None above = absurd above
not_last job (Some id) above = by (id == job.id) refl
  where
    by : (b : Bool) → (id == job.id) ≡ b → b ≡ false
    by true e = let same = eqb-true id job.id e in let clash : ⊥ = omega arith in absurd clash
    by false e = refl

self_last : (job : JobParts) → (job.id == job.id) ≡ true
self_last job = eq-eqb job.id job.id refl

abbrev filtered : Option ℕ → List JobParts → List JobParts
filtered last jobs = filter (λ job. is_open job || is_last last job) jobs

-- The jobs without those that are over, except for the last of these, are the jobs that a trim keeps.
kept_is : (last : Option ℕ) (jobs : List JobParts) → AreRising jobs → filtered (last_in last jobs) jobs ≡ kept_records jobs
kept_is last [] up = refl
kept_is last (job ∷ jobs) up = by (is_open job) (over_later jobs) refl (λ before. kept_is before jobs up.1)
  where
    by : (b later : Bool) → over_later jobs ≡ later → ((before : Option ℕ) → filtered (last_in before jobs) jobs ≡ kept_records jobs)
        → cond (b || is_last (last_in (cond b last (Some job.id)) jobs) job) (job ∷ filtered (last_in (cond b last (Some job.id)) jobs) jobs) (filtered (last_in (cond b last (Some job.id)) jobs) jobs)
        ≡ cond b (job ∷ kept_records jobs) (cond later (kept_records jobs) (job ∷ kept_records jobs))
    by true later e rest = ap (λ js. job ∷ js) (rest last)
    by false true e rest =
        let js = filtered (last_in (Some job.id) jobs) jobs in
        ap (λ b. cond b (job ∷ js) js) (not_last job (last_in (Some job.id) jobs) (gets_above job.id (Some job.id) jobs up.0 e)) ∙ rest (Some job.id)
    by false false e rest =
        let js = filtered (last_in (Some job.id) jobs) jobs in
        ap (λ found. cond (is_last found job) (job ∷ js) js) (none_later (Some job.id) jobs e) ∙ ap (λ b. cond b (job ∷ js) js) (self_last job) ∙ ap (λ ks. job ∷ ks) (rest (Some job.id))

-- What is left without the jobs that are over, but for the last of them, is what `kept_records` keeps.
pub kept_by : (jobs now shown made : List JobParts) (last : Option ℕ) → jobs ≡ now → AreRising jobs → shown ≡ jobs → last ≡ last_in None shown → made ≡ filtered last jobs
    → AreRising made × (made ≡ kept_records now)
kept_by jobs now shown made last seen up same found is =
    let kept = is ∙ ap (λ l. filtered l jobs) (found ∙ ap (last_in None) same) in (
      subst AreRising (sym kept) (rising_filter (λ job. is_open job || is_last (last_in None jobs) job) jobs up),
      kept ∙ kept_is None jobs up ∙ ap kept_records seen,
    )
