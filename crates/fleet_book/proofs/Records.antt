-- Records of jobs stay in the order of their ids, and a record is found and put at its place.
use Rattle.std.proofs.Common.{sym, length, zero, ◌≡◌, refl, ◌∙◌, ap, subst, ℕ, suc, ◌+◌, ◌<◌, ◌≤◌, List, [], ◌∷◌, ◌++◌, get_or, take, drop, Bool, true, false, cond, arith}
use Rattle.std.specs.Prelude.{◌==◌, nat_lt, slice_get, slice_set, filter, take_while, Option, Some, None, IfSome, IsSome}
use Rattle.std.specs.List.{AllByRecursion, prefix_len}
use Rattle.std.specs.List.Sorted.{IsNonDecreasingBy, IsPartitionedBy, IsPartitionPoint}
use Rattle.std.specs.Option.{option_map_or}
use Rattle.std.proofs.lemmas.Bool.{eqb-true, eqb-false, ltb-false, ltb-true}
use Rattle.std.proofs.lemmas.List.Folds.{length-prefix_len}
use Rattle.std.proofs.lemmas.List.Sorted.{IsPartitionedBy-ltb}
use Rattle.std.proofs.lemmas.List.Sums.{prefix_len_is}
use Rattle.row_laws.proofs.Elements.{all_weaken}
use Rattle.fleet_jobs.specs.Parts.JobParts.{JobParts}
use Rattle.fleet_book.specs.Records.{AreRising, record_with, put_record}

-- The job's id is above this one.
abbrev pub Above : ℕ → JobParts → Type 0
Above x job = x < job.id

above : (a b : ℕ) → nat_lt a b ≡ false → (a ≡ b → ⊥) → b < a
above a b e apart = let low = ltb-false a b e in grind (arith, low, apart)

all_put : (x : ℕ) (new : JobParts) (jobs : List JobParts) → x < new.id → AllByRecursion (Above x) jobs → AllByRecursion (Above x) (put_record new jobs)
all_put x new [] low all = (low, tt)
all_put x new (job ∷ jobs) low all = by (nat_lt job.id new.id) (job.id == new.id) (all_put x new jobs low all.1)
  where
    by : (b c : Bool) → AllByRecursion (Above x) (put_record new jobs) → AllByRecursion (Above x) (cond b (job ∷ put_record new jobs) (cond c (new ∷ jobs) (new ∷ job ∷ jobs)))
    by true c rest = (all.0, rest)
    by false true rest = (low, all.1)
    by false false rest = (low, all)

pub rising_put : (new : JobParts) (jobs : List JobParts) → AreRising jobs → AreRising (put_record new jobs)
rising_put new [] up = (tt, tt)
rising_put new (job ∷ jobs) up = by (nat_lt job.id new.id) (job.id == new.id) refl refl (rising_put new jobs up.1)
  where
    by : (b c : Bool) → nat_lt job.id new.id ≡ b → (job.id == new.id) ≡ c → AreRising (put_record new jobs) → AreRising (cond b (job ∷ put_record new jobs) (cond c (new ∷ jobs) (new ∷ job ∷ jobs)))
    by true c e f rest = let low = ltb-true job.id new.id e in (all_put job.id new jobs low up.0, rest)
    by false true e f rest = let same = eqb-true job.id new.id f in (subst (λ n. AllByRecursion (Above n) jobs) same up.0, up.1)
    by false false e f rest = let low = above job.id new.id e (eqb-false job.id new.id f) in ((low, all_weaken (Above job.id) (Above new.id) (λ other high. omega arith) jobs up.0), up)

-- Jobs by rising ids are still by rising ids after some are left out.
pub rising_filter : (p : JobParts → Bool) (jobs : List JobParts) → AreRising jobs → AreRising (filter p jobs)
rising_filter p [] up = tt
rising_filter p (job ∷ jobs) up = by (p job) (rising_filter p jobs up.1) (kept jobs up.0)
  where
    kept : (others : List JobParts) → AllByRecursion (Above job.id) others → AllByRecursion (Above job.id) (filter p others)
    kept [] all = tt
    kept (other ∷ others) all = both (p other) (kept others all.1)
      where
        both : (b : Bool) → AllByRecursion (Above job.id) (filter p others) → AllByRecursion (Above job.id) (cond b (other ∷ filter p others) (filter p others))
        both true rest = (all.0, rest)
        both false rest = rest

    by : (b : Bool) → AreRising (filter p jobs) → AllByRecursion (Above job.id) (filter p jobs) → AreRising (cond b (job ∷ filter p jobs) (filter p jobs))
    by true rest all = (all, rest)
    by false rest all = rest

-- True if there is a job and it has this id.
abbrev pub has_id : ℕ → Option JobParts → Bool
has_id id got = option_map_or (λ job. job.id == id) got false

abbrev pub place_in : ℕ → List JobParts → ℕ
place_in id jobs = prefix_len (λ job. nat_lt job.id id) jobs

-- The jobs with this one put at a place. It replaces the job there if `there` is true, and is inserted before
-- it otherwise.
abbrev pub put_at : Bool → ℕ → JobParts → List JobParts → List JobParts
put_at there n new jobs = cond there (slice_set jobs n new) (take n jobs ++ new ∷ drop n jobs)

-- A job that is put at the place of its id is put as `put_record` puts it.
pub put_is : (new : JobParts) (jobs : List JobParts) → put_at (has_id new.id (slice_get jobs (place_in new.id jobs))) (place_in new.id jobs) new jobs ≡ put_record new jobs
put_is new [] = refl
put_is new (job ∷ jobs) = by (nat_lt job.id new.id) (put_is new jobs)
  where
    later : (there : Bool) → put_at there (1 + place_in new.id jobs) new (job ∷ jobs) ≡ job ∷ put_at there (place_in new.id jobs) new jobs
    later true = let e : 1 + place_in new.id jobs ≡ suc (place_in new.id jobs) = omega arith in ap (λ m. slice_set (job ∷ jobs) m new) e
    later false = let e : 1 + place_in new.id jobs ≡ suc (place_in new.id jobs) = omega arith in ap (λ m. take m (job ∷ jobs) ++ new ∷ drop m (job ∷ jobs)) e

    got : slice_get (job ∷ jobs) (1 + place_in new.id jobs) ≡ slice_get jobs (place_in new.id jobs)
    got = let e : 1 + place_in new.id jobs ≡ suc (place_in new.id jobs) = omega arith in ap (slice_get (job ∷ jobs)) e

    here : (c : Bool) → put_at c 0 new (job ∷ jobs) ≡ cond c (new ∷ jobs) (new ∷ job ∷ jobs)
    here true = refl
    here false = refl

    by : (b : Bool) → put_at (has_id new.id (slice_get jobs (place_in new.id jobs))) (place_in new.id jobs) new jobs ≡ put_record new jobs
        → put_at (has_id new.id (slice_get (job ∷ jobs) (cond b (1 + place_in new.id jobs) 0))) (cond b (1 + place_in new.id jobs) 0) new (job ∷ jobs) ≡ cond b (job ∷ put_record new jobs) (cond (job.id == new.id) (new ∷ jobs) (new ∷ job ∷ jobs))
    by true rest =
        ap (λ o. put_at (has_id new.id o) (1 + place_in new.id jobs) new (job ∷ jobs)) got
        ∙ later (has_id new.id (slice_get jobs (place_in new.id jobs)))
        ∙ ap (λ js. job ∷ js) rest
    by false rest = here (job.id == new.id)

-- ---- places by halves

above_at : (x : ℕ) (jobs : List JobParts) (j : ℕ) (d : JobParts) → AllByRecursion (Above x) jobs → j < length jobs → x < (get_or jobs j d).id
above_at x [] j d all low = absurd (omega (arith, low))
above_at x (job ∷ jobs) zero d all low = all.0
above_at x (job ∷ jobs) (suc j) d all low = above_at x jobs j d all.1 (omega (arith, low))

ids_rise : (jobs : List JobParts) → AreRising jobs → IsNonDecreasingBy (λ job. job.id) jobs
ids_rise [] up i j d le low = absurd (omega (arith, low))
ids_rise (job ∷ jobs) up zero zero d le low = omega arith
ids_rise (job ∷ jobs) up zero (suc j) d le low = let above = above_at job.id jobs j d up.0 (omega (arith, low)) in omega (arith, above)
ids_rise (job ∷ jobs) up (suc i) zero d le low = absurd (omega (arith, le))
ids_rise (job ∷ jobs) up (suc i) (suc j) d le low = ids_rise jobs up.1 i j d (omega (arith, le)) (omega (arith, low))

-- Jobs with smaller ids stand in front of the others.
pub are_parted : (id : ℕ) (jobs : List JobParts) → AreRising jobs → IsPartitionedBy (λ job. nat_lt job.id id) jobs
are_parted id jobs up = IsPartitionedBy-ltb (λ job. job.id) jobs id (ids_rise jobs up)

-- The place where they end is their number.
pub parted_at : (id place : ℕ) (jobs : List JobParts) → place ≤ length jobs → IsPartitionPoint (λ job. nat_lt job.id id ≡ true) (λ job. nat_lt job.id id ≡ false) jobs place
    → place ≡ length (take_while (λ job. nat_lt job.id id) jobs)
parted_at id place [] most point = omega (arith, most)
parted_at id place (job ∷ jobs) most point =
    let smaller : JobParts → Bool = λ other. nat_lt other.id id in
    sym (length-prefix_len smaller (job ∷ jobs) ∙ prefix_len_is smaller (job ∷ jobs) place job most (λ k below. point.0 k job (omega arith) below) (λ below. point.1 place job (omega arith) below))

-- ---- a record is put at its place

-- The place that `place_of` gives.
placed : (id place : ℕ) (jobs : List JobParts) → place ≡ length (take_while (λ job. nat_lt job.id id) jobs) → place ≡ place_in id jobs
placed id place jobs at = at ∙ length-prefix_len (λ job. nat_lt job.id id) jobs

put_found : (new : JobParts) (jobs : List JobParts) (id : ℕ) (there : Bool) (got : Option JobParts) → id ≡ new.id → got ≡ slice_get jobs (place_in id jobs) → there ≡ has_id id got
    → put_at there (place_in id jobs) new jobs ≡ put_record new jobs
put_found new jobs id there got own looked found =
    ap (λ t. put_at t (place_in id jobs) new jobs) (found ∙ ap (has_id id) looked)
    ∙ ap (λ k. put_at (has_id k (slice_get jobs (place_in k jobs))) (place_in k jobs) new jobs) own
    ∙ put_is new jobs

-- Putting the record at the place that was looked up makes what `put_record` makes.
pub put_by : (new : JobParts) (jobs made : List JobParts) (id place : ℕ) (there b : Bool) (got : Option JobParts)
    → id ≡ new.id → place ≡ length (take_while (λ job. nat_lt job.id id) jobs) → got ≡ slice_get jobs place → there ≡ has_id id got → there ≡ b
    → made ≡ put_at b place new jobs → made ≡ put_record new jobs
put_by new jobs made id place there b got own at looked found is makes =
    let low = placed id place jobs at in
    makes ∙ ap (λ n. put_at b n new jobs) low ∙ put_found new jobs id b got own (looked ∙ ap (slice_get jobs) low) (sym is ∙ found)

-- No record has an id below all of them.
pub none_there : (id : ℕ) (jobs : List JobParts) → AllByRecursion (Above id) jobs → record_with id jobs ≡ None
none_there id [] all = refl
none_there id (job ∷ jobs) all = by (job.id == id) refl (none_there id jobs all.1)
  where
    by : (c : Bool) → (job.id == id) ≡ c → record_with id jobs ≡ None → cond c (Some job) (record_with id jobs) ≡ None
    by true f rest = let same = eqb-true job.id id f in let high = all.0 in absurd (omega (arith, same, high))
    by false f rest = rest

pub has_its_id : (id : ℕ) (job : JobParts) (jobs : List JobParts) → record_with id jobs ≡ Some job → has_id id (Some job) ≡ true
has_its_id id job [] found = absurd (cc found)
has_its_id id job (first ∷ jobs) found = by (first.id == id) refl found (λ later. has_its_id id job jobs later)
  where
    by : (c : Bool) → (first.id == id) ≡ c → cond c (Some first) (record_with id jobs) ≡ Some job → (record_with id jobs ≡ Some job → (job.id == id) ≡ true) → (job.id == id) ≡ true
    by true f is rest = let same : first ≡ job = cc is in sym (ap (λ j. j.id == id) same) ∙ f
    by false f is rest = rest is

-- The record at the place of an id, if it has the id.
abbrev its : ℕ → Option JobParts → Option JobParts
its id got = cond (has_id id got) got None

-- A record is there exactly if the record at the place of its id has the id.
looked_at : (id : ℕ) (jobs : List JobParts) → AreRising jobs → its id (slice_get jobs (place_in id jobs)) ≡ record_with id jobs
looked_at id [] up = refl
looked_at id (first ∷ jobs) up =
    by (nat_lt first.id id) (first.id == id) refl refl (looked_at id jobs up.1) (λ low. none_there id jobs (all_weaken (Above first.id) (Above id) (λ other high. omega arith) jobs up.0))
  where
    got : slice_get (first ∷ jobs) (1 + place_in id jobs) ≡ slice_get jobs (place_in id jobs)
    got = let e : 1 + place_in id jobs ≡ suc (place_in id jobs) = omega arith in ap (slice_get (first ∷ jobs)) e

    by : (b c : Bool) → nat_lt first.id id ≡ b → (first.id == id) ≡ c → its id (slice_get jobs (place_in id jobs)) ≡ record_with id jobs → (id < first.id → record_with id jobs ≡ None)
        → its id (slice_get (first ∷ jobs) (cond b (1 + place_in id jobs) 0)) ≡ cond c (Some first) (record_with id jobs)
    by true true e f rest none = let low = ltb-true first.id id e in let same = eqb-true first.id id f in absurd (omega (arith, low, same))
    by true false e f rest none = ap (its id) got ∙ rest
    by false true e f rest none = ap (λ c. cond c (Some first) None) f
    by false false e f rest none = ap (λ c. cond c (Some first) None) f ∙ sym (none (above first.id id e (eqb-false first.id id f)))

-- A record is looked up at the place of its id.
pub looked_by : (id place : ℕ) (jobs : List JobParts) (there b : Bool) (got : Option JobParts) → AreRising jobs → place ≡ length (take_while (λ job. nat_lt job.id id) jobs)
    → got ≡ slice_get jobs place → there ≡ has_id id got → there ≡ b → cond b got None ≡ record_with id jobs
looked_by id place jobs there b got up at looked found is =
    ap (λ t. cond t got None) (sym is ∙ found) ∙ ap (its id) (looked ∙ ap (slice_get jobs) (placed id place jobs at)) ∙ looked_at id jobs up

-- A record that is there is found at the place that is looked up.
found_at : (id : ℕ) (job : JobParts) (jobs : List JobParts) → AreRising jobs → record_with id jobs ≡ Some job → slice_get jobs (place_in id jobs) ≡ Some job
found_at id job [] up found = found
found_at id job (first ∷ jobs) up found =
    by (nat_lt first.id id) (first.id == id) refl refl found (λ later. found_at id job jobs up.1 later) (λ low. none_there id jobs (all_weaken (Above first.id) (Above id) (λ other high. omega arith) jobs up.0))
  where
    got : slice_get (first ∷ jobs) (1 + place_in id jobs) ≡ slice_get jobs (place_in id jobs)
    got = let e : 1 + place_in id jobs ≡ suc (place_in id jobs) = omega arith in ap (slice_get (first ∷ jobs)) e

    by : (b c : Bool) → nat_lt first.id id ≡ b → (first.id == id) ≡ c → cond c (Some first) (record_with id jobs) ≡ Some job
        → (record_with id jobs ≡ Some job → slice_get jobs (place_in id jobs) ≡ Some job) → (id < first.id → record_with id jobs ≡ None)
        → slice_get (first ∷ jobs) (cond b (1 + place_in id jobs) 0) ≡ Some job
    by true true e f is rest none = let low = ltb-true first.id id e in let same = eqb-true first.id id f in absurd (omega (arith, low, same))
    by true false e f is rest none = got ∙ rest is
    by false true e f is rest none = is
    by false false e f is rest none =
        let gone : None ≡ Some job = sym (none (above first.id id e (eqb-false first.id id f))) ∙ is in absurd (cc gone)

-- The place of a record that is there is below the length.
place_low : (id : ℕ) (jobs : List JobParts) (job : JobParts) → slice_get jobs (place_in id jobs) ≡ Some job → place_in id jobs < length jobs
place_low id jobs job found = low (place_in id jobs) jobs found
  where
    low : (n : ℕ) (others : List JobParts) → slice_get others n ≡ Some job → n < length others
    low n [] e = absurd (cc e)
    low zero (other ∷ others) e = omega arith
    low (suc n) (other ∷ others) e = let rest = low n others e in omega (arith, rest)

-- What is known of a record that is there: its place, and that putting another there replaces it.
record IsThere (id : ℕ) (jobs : List JobParts) (job : JobParts) : Type 0 where
  is : record_with id jobs ≡ Some job
  own : job.id ≡ id
  low : place_in id jobs < length jobs
  found : slice_get jobs (place_in id jobs) ≡ Some job
  replaced : (new : JobParts) → id ≡ new.id → slice_set jobs (place_in id jobs) new ≡ put_record new jobs

-- A record that is found stands at the place of its id, and a record that is put there replaces it.
there : (id : ℕ) (jobs : List JobParts) → AreRising jobs → IsSome (record_with id jobs) → (job : JobParts) × IsThere id jobs job
there id jobs up some = by (record_with id jobs) refl some
  where
    by : (o : Option JobParts) → record_with id jobs ≡ o → IsSome o → (job : JobParts) × IsThere id jobs job
    by None e h = absurd (cc h)
    by (Some job) e h =
        let at = found_at id job jobs up e in
        let its = has_its_id id job jobs e in (
          job,
          record {
            is = e;
            own = eqb-true job.id id its;
            low = place_low id jobs job at;
            found = at;
            replaced = λ new own. put_found new jobs id true (Some job) own (sym at) (sym its);
          },
        )

-- A record is looked up by its id, in the jobs of a map. The map shows its jobs as `now`.
module _ (id place : ℕ) (jobs now : List JobParts) (seen : jobs ≡ now) (up : AreRising jobs) (at : place ≡ length (take_while (λ job. nat_lt job.id id) jobs)) where
  looked_up : (key : ℕ) → id ≡ key → IsSome (record_with key now) → (job : JobParts) × IsThere id jobs job
  looked_up key own some = there id jobs up (subst (λ k. IsSome (record_with k jobs)) (sym own) (subst (λ js. IsSome (record_with key js)) (sym seen) some))

  -- The place of a record that is there is a place of the list.
  pub place_fits : (key : ℕ) → id ≡ key → IsSome (record_with key now) → place < length jobs
  place_fits key own some = subst (λ n. n < length jobs) (sym (placed id place jobs at)) (looked_up key own some).1.low

  -- A record that is there is replaced by one with its id.
  pub is_replaced : (new : JobParts) (made : List JobParts) → id ≡ new.id → IsSome (record_with new.id now) → made ≡ slice_set jobs place new → AreRising made × (made ≡ put_record new now)
  is_replaced new made own some set =
      let put = set ∙ ap (λ n. slice_set jobs n new) (placed id place jobs at) ∙ (looked_up new.id own some).1.replaced new own in
      (subst AreRising (sym put) (rising_put new jobs up), put ∙ ap (put_record new) seen)

  -- A record that is there is changed, and keeps its id.
  pub is_changed : (change : JobParts → JobParts) (made : List JobParts) → ((job : JobParts) → (change job).id ≡ job.id) → IsSome (record_with id now)
      → IfSome (slice_get jobs place) (λ job. made ≡ slice_set jobs place (change job))
      → AreRising made × IfSome (record_with id now) (λ job. made ≡ put_record (change job) now)
  is_changed change made keeps some set =
      let known = looked_up id refl some in
      let job = known.0 in
      let low = placed id place jobs at in
      let set_there = subst (λ o. IfSome o (λ job. made ≡ slice_set jobs place (change job))) (ap (slice_get jobs) low ∙ known.1.found) set in
      let put = set_there ∙ ap (λ n. slice_set jobs n (change job)) low ∙ known.1.replaced (change job) (sym (keeps job ∙ known.1.own)) in
      let is = sym (ap (record_with id) seen) ∙ known.1.is in (
        subst AreRising (sym put) (rising_put (change job) jobs up),
        subst (λ o. IfSome o (λ job. made ≡ put_record (change job) now)) (sym is) (put ∙ ap (put_record (change job)) seen),
      )
