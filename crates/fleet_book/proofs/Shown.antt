-- A view that is brought up to date shows what the state has now.
use Rattle.std.proofs.Common.{◌≡◌, refl, sym, ◌∙◌, ap, subst, ℕ, ◌<◌, List, [], ◌∷◌, Bool, true, false, cond, arith}
use Rattle.std.specs.Prelude.{◌==◌, nat_lt, filter, Option, Some, None}
use Rattle.std.specs.List.{AllByRecursion}
use Rattle.std.proofs.lemmas.Bool.{eq-eqb, eqb-true, ltb-true, ltb-false}
use Rattle.row_laws.proofs.Elements.{all_weaken}
use Rattle.fleet_jobs.specs.Jobs.{is_open}
use Rattle.fleet_jobs.specs.Parts.JobParts.{JobParts}
use Rattle.fleet_book.specs.Records.{AreRising, put_record, record_with}
use Rattle.fleet_book.specs.Shown.{ShowedRecords, ShowsRecords}
use Rattle.fleet_book.specs.VersionedRecords.{VersionedRecords}
use Rattle.fleet_book.specs.Versions.{with_jobs}
use Rattle.fleet_book.proofs.Merged.{put_other}
use Rattle.fleet_book.proofs.Records.{Above, has_its_id, none_there, rising_filter, rising_put}

-- Jobs that are not over stay if those that are over are left out once more.
pub open_again : (jobs : List JobParts) → filter is_open (filter is_open jobs) ≡ filter is_open jobs
open_again [] = refl
open_again (job ∷ jobs) = by (is_open job) refl (open_again jobs)
  where
    by : (b : Bool) → is_open job ≡ b → filter is_open (filter is_open jobs) ≡ filter is_open jobs → filter is_open (cond b (job ∷ filter is_open jobs) (filter is_open jobs)) ≡ cond b (job ∷ filter is_open jobs) (filter is_open jobs)
    by true e rest = rw e (ap (λ js. job ∷ js) rest)
    by false e rest = rest

-- ---- what is found

own_found : (job : JobParts) (jobs : List JobParts) → record_with job.id (job ∷ jobs) ≡ Some job
own_found job jobs = ap (λ c. cond c (Some job) (record_with job.id jobs)) (eq-eqb job.id job.id refl)

apart_below : (a b : ℕ) → a < b → (a == b) ≡ false
apart_below a b below = by (a == b) refl
  where
    by : (c : Bool) → (a == b) ≡ c → c ≡ false
    by true e = let same = eqb-true a b e in absurd (omega (arith, below, same))
    by false e = refl

-- A record that was put is found.
put_found : (new : JobParts) (jobs : List JobParts) → record_with new.id (put_record new jobs) ≡ Some new
put_found new [] = own_found new []
put_found new (job ∷ jobs) = by (nat_lt job.id new.id) (job.id == new.id) refl (put_found new jobs)
  where
    by : (b c : Bool) → nat_lt job.id new.id ≡ b → record_with new.id (put_record new jobs) ≡ Some new → record_with new.id (cond b (job ∷ put_record new jobs) (cond c (new ∷ jobs) (new ∷ job ∷ jobs))) ≡ Some new
    by true c e rest = ap (λ t. cond t (Some job) (record_with new.id (put_record new jobs))) (apart_below job.id new.id (ltb-true job.id new.id e)) ∙ rest
    by false true e rest = own_found new jobs
    by false false e rest = own_found new (job ∷ jobs)

-- The job, if there is one and it passes the test.
abbrev if_passed : (JobParts → Bool) → Option JobParts → Option JobParts
if_passed p None = None
if_passed p (Some job) = cond (p job) (Some job) None

-- Among the jobs that pass a test, the job with an id is found if it passes.
passed_found : (p : JobParts → Bool) (id : ℕ) (jobs : List JobParts) → AreRising jobs → record_with id (filter p jobs) ≡ if_passed p (record_with id jobs)
passed_found p id [] up = refl
passed_found p id (job ∷ jobs) up = by (p job) (job.id == id) refl refl (passed_found p id jobs up.1)
  where
    by : (b c : Bool) → p job ≡ b → (job.id == id) ≡ c → record_with id (filter p jobs) ≡ if_passed p (record_with id jobs)
        → record_with id (cond b (job ∷ filter p jobs) (filter p jobs)) ≡ if_passed p (cond c (Some job) (record_with id jobs))
    by true true e f rest = ap (λ t. cond t (Some job) (record_with id (filter p jobs))) f ∙ sym (ap (λ t. cond t (Some job) None) e)
    by true false e f rest = ap (λ t. cond t (Some job) (record_with id (filter p jobs))) f ∙ rest
    by false true e f rest =
        let none = none_there id jobs (subst (λ n. AllByRecursion (Above n) jobs) (eqb-true job.id id f) up.0) in
        rest ∙ ap (if_passed p) none ∙ sym (ap (λ t. cond t (Some job) None) e)
    by false false e f rest = rest

-- ---- rising jobs are known by what is found

not_below : (job first : JobParts) (jobs : List JobParts) → AreRising (first ∷ jobs) → record_with job.id (first ∷ jobs) ≡ Some job → job.id < first.id → ⊥
not_below job first jobs up found low =
    let none = none_there job.id (first ∷ jobs) (low, all_weaken (Above first.id) (Above job.id) (λ other high. omega (arith, low, high)) jobs up.0) in
    let gone : None ≡ Some job = sym none ∙ found in
    cc gone

-- Two lists of rising jobs, of which neither is empty and in which the same jobs are found.
module _ (a b : JobParts) (xs ys : List JobParts) (up : AreRising (a ∷ xs)) (also : AreRising (b ∷ ys)) (same : (id : ℕ) → record_with id (a ∷ xs) ≡ record_with id (b ∷ ys)) where
  one_id : a.id ≡ b.id
  one_id = by (nat_lt a.id b.id) (nat_lt b.id a.id) refl refl
    where
      by : (x y : Bool) → nat_lt a.id b.id ≡ x → nat_lt b.id a.id ≡ y → a.id ≡ b.id
      by true y e f = absurd (not_below a b ys also (sym (same a.id) ∙ own_found a xs) (ltb-true a.id b.id e))
      by false true e f = absurd (not_below b a xs up (same b.id ∙ own_found b ys) (ltb-true b.id a.id f))
      by false false e f = let most = ltb-false a.id b.id e in let least = ltb-false b.id a.id f in omega (arith, most, least)

  one_first : a ≡ b
  one_first = cc (sym (own_found a xs) ∙ same a.id ∙ ap (λ n. record_with n (b ∷ ys)) one_id ∙ own_found b ys)

  rest_same : (id : ℕ) → record_with id xs ≡ record_with id ys
  rest_same id = by (a.id == id) refl
    where
      by : (c : Bool) → (a.id == id) ≡ c → record_with id xs ≡ record_with id ys
      by true e =
          let here : a.id ≡ id = eqb-true a.id id e in
          none_there id xs (subst (λ n. AllByRecursion (Above n) xs) here up.0) ∙ sym (none_there id ys (subst (λ n. AllByRecursion (Above n) ys) (sym one_id ∙ here) also.0))
      by false e =
          sym (ap (λ t. cond t (Some a) (record_with id xs)) e) ∙ same id ∙ ap (λ t. cond t (Some b) (record_with id ys)) (ap (λ n. n == id) (sym one_id) ∙ e)

-- Rising jobs are alike if the same ones are found among them.
found_alike : (xs ys : List JobParts) → AreRising xs → AreRising ys → ((id : ℕ) → record_with id xs ≡ record_with id ys) → xs ≡ ys
found_alike [] [] up also same = refl
found_alike [] (b ∷ ys) up also same = let gone : None ≡ Some b = same b.id ∙ own_found b ys in absurd (cc gone)
found_alike (a ∷ xs) [] up also same = let gone : None ≡ Some a = sym (same a.id) ∙ own_found a xs in absurd (cc gone)
found_alike (a ∷ xs) (b ∷ ys) up also same =
    ap (λ job. job ∷ xs) (one_first a b xs ys up also same) ∙ ap (λ jobs. b ∷ jobs) (found_alike xs ys up.1 also.1 (rest_same a b xs ys up also same))

-- ---- a job is shown anew

-- The jobs that are not over, after a job is put among the ones that were shown.
module _ (id : ℕ) (job : JobParts) (shown before now : List JobParts) (up : AreRising shown) (past : AreRising before) (still : AreRising now) (found : record_with id now ≡ Some job)
    (same : filter is_open shown ≡ filter is_open before) (others : (other : ℕ) → (id == other) ≡ false → record_with other now ≡ record_with other before) where
  own_id : job.id ≡ id
  own_id = eqb-true job.id id (has_its_id id job now found)

  seen_alike : (k : ℕ) → if_passed is_open (record_with k (put_record job shown)) ≡ if_passed is_open (record_with k now)
  seen_alike k = by (id == k) refl
    where
      by : (c : Bool) → (id == k) ≡ c → if_passed is_open (record_with k (put_record job shown)) ≡ if_passed is_open (record_with k now)
      by true e =
          let here : id ≡ k = eqb-true id k e in
          ap (if_passed is_open) (ap (λ n. record_with n (put_record job shown)) (sym (own_id ∙ here)) ∙ put_found job shown ∙ sym found ∙ ap (λ n. record_with n now) here)
      by false e =
          ap (if_passed is_open) (put_other k job shown (ap (λ n. n == k) own_id ∙ e))
          ∙ sym (passed_found is_open k shown up) ∙ ap (record_with k) same ∙ passed_found is_open k before past
          ∙ ap (if_passed is_open) (sym (others k e))

  pub shown_anew : filter is_open (put_record job shown) ≡ filter is_open now
  shown_anew =
      let put = rising_put job shown up in
      found_alike (filter is_open (put_record job shown)) (filter is_open now) (rising_filter is_open (put_record job shown) put) (rising_filter is_open now still)
      (λ k. passed_found is_open k (put_record job shown) put ∙ seen_alike k ∙ sym (passed_found is_open k now still))

-- The records are shown after a job of theirs was put among those that were shown.
pub shows_anew : (id : ℕ) (job : JobParts) (shown : VersionedRecords) (last : Option VersionedRecords) (own : VersionedRecords) → ShowedRecords id (Some shown) own → AreRising shown.compactions.jobs → AreRising own.compactions.jobs
    → record_with id own.compactions.jobs ≡ Some job → last ≡ Some (with_jobs (put_record job shown.compactions.jobs) own) → ShowsRecords last own
shows_anew id job shown last own showed up still found is =
    let were : shown ≡ with_jobs showed.shows.jobs showed.before = cc showed.shows.is in
    let same : filter is_open shown.compactions.jobs ≡ filter is_open showed.before.compactions.jobs = ap (λ (records : VersionedRecords). filter is_open records.compactions.jobs) were ∙ showed.shows.still_open in
    record {
      jobs = put_record job shown.compactions.jobs;
      is = is;
      still_open = shown_anew id job shown.compactions.jobs showed.before.compactions.jobs own.compactions.jobs up showed.rising still found same showed.others;
    }

-- The records are shown if all jobs that are not over are.
pub shows_all : (shown : Option VersionedRecords) (own : VersionedRecords) → shown ≡ Some (with_jobs (filter is_open own.compactions.jobs) own) → ShowsRecords shown own
shows_all shown own is = record { jobs = filter is_open own.compactions.jobs; is = is; still_open = open_again own.compactions.jobs }
