-- Records to which new jobs are added.
use Rattle.std.proofs.Common.{◌≡◌, ◌≢◌, refl, sym, ◌∙◌, ap, subst, ℕ, Bool, true, false, cond, List, [], ◌∷◌, ◌++◌, length, arith, ◌+◌, ◌<◌, drop, get_or, take}
use Rattle.std.specs.Prelude.{◌==◌, nat_lt, map, flat_map, None}
use Rattle.std.specs.List.{AllByRecursion, zip}
use Rattle.std.proofs.lemmas.Bool.Decides.{Decides-eqb}
use Rattle.std.proofs.lemmas.List.{drop_more, length-take-le, take_more}
use Rattle.fleet_model.specs.History.{Submit}
use Rattle.fleet_model.specs.Jobs.{JobSpec, Jobs, put_job, trimmed_jobs}
use Rattle.fleet_model.specs.Work.Records.{new_job, with_new}
use Rattle.fleet_model.specs.Store.{Store}
use Rattle.fleet_tree.specs.declared.handle.SsTableHandle.{SsTableHandle}
use Rattle.fleet_jobs.specs.Parts.JobParts.{JobParts}
use Rattle.fleet_jobs.specs.Jobs.{fresh_job, job_handles, jobs_of}
use Rattle.fleet_jobs.specs.Specs.{spec_of}
use Rattle.fleet_jobs.specs.declared.spec.CompactionSpec.{CompactionSpec}
use Rattle.fleet_book.specs.Records.{kept_records, put_record, record_with}
use Rattle.fleet_book.specs.VersionedRecords.{VersionedRecords}
use Rattle.fleet_book.specs.declared.compactions.Compactions.{Compactions}
use Rattle.fleet_history.specs.Changes.{new_specs, record_change_of}
use Rattle.fleet_history.specs.declared.record_change.RecordChange.{RecordChange}
use Rattle.fleet_history.specs.declared.record_change.RecordChange.TheVariants as change
use Rattle.fleet_store.specs.Handles.{IsDescribed}
use Rattle.fleet_store.specs.Records.{DescribeTables}
use Rattle.fleet_store.proofs.Described.{kept_describe}
use Rattle.fleet_coordinator.specs.Submits.{AddsJobs, AreNewTo, IsSubmitPut}

-- ---- pairs of ids and specs

pub firsts_of : (ids : List ℕ) (specs : List CompactionSpec) → length ids ≡ length specs → map (λ p. p.0) (zip ids specs) ≡ ids
firsts_of [] [] many = refl
firsts_of [] (spec ∷ specs) many = refl
firsts_of (id ∷ ids) [] many = absurd (omega (arith, many))
firsts_of (id ∷ ids) (spec ∷ specs) many = ap (λ rest. id ∷ rest) (firsts_of ids specs (omega (arith, many)))

pub model_specs : (ids : List ℕ) (specs : List CompactionSpec) → new_specs (zip ids specs) ≡ zip ids (map spec_of specs)
model_specs [] specs = refl
model_specs (id ∷ ids) [] = refl
model_specs (id ∷ ids) (spec ∷ specs) = ap (λ rest. (id, spec_of spec) ∷ rest) (model_specs ids specs)

-- ---- one new job

module _ (id : ℕ) (spec : CompactionSpec) where
  -- Another id is as new as it was.
  still_new : (other : ℕ) (jobs : List JobParts) → id ≢ other → record_with other jobs ≡ None → record_with other (put_record (fresh_job id spec) jobs) ≡ None
  still_new other [] differs none = by (id == other) refl
    where
      by : (b : Bool) → (id == other) ≡ b → record_with other (fresh_job id spec ∷ []) ≡ None
      by true e = absurd (differs ((Decides-eqb id other).0 e))
      by false e = rw e refl
  still_new other (job ∷ jobs) differs none = by (job.id == other) refl none (still_new other jobs differs)
    where
      placed : (low same this : Bool) → (job.id == other) ≡ false → (id == other) ≡ this → record_with other jobs ≡ None → record_with other (put_record (fresh_job id spec) jobs) ≡ None
          → record_with other (cond low (job ∷ put_record (fresh_job id spec) jobs) (cond same (fresh_job id spec ∷ jobs) (fresh_job id spec ∷ job ∷ jobs))) ≡ None
      placed low same true e is rest on = absurd (differs ((Decides-eqb id other).0 is))
      placed true same false e is rest on = rw e on
      placed false true false e is rest on = rw is rest
      placed false false false e is rest on = rw (is, e) rest

      by : (b : Bool) → (job.id == other) ≡ b → record_with other (job ∷ jobs) ≡ None → (record_with other jobs ≡ None → record_with other (put_record (fresh_job id spec) jobs) ≡ None) → record_with other (put_record (fresh_job id spec) (job ∷ jobs)) ≡ None
      by true e none on = absurd (cc (rw e at none))
      by false e none on = let rest : record_with other jobs ≡ None = rw e at none in placed (nat_lt job.id id) (job.id == id) (id == other) e refl rest (on rest)

  -- A new job describes no tables.
  fresh_describe : (store : Store) (jobs : List JobParts) → DescribeTables jobs store → DescribeTables (put_record (fresh_job id spec) jobs) store
  fresh_describe store [] all = tt
  fresh_describe store (job ∷ jobs) all = placed (nat_lt job.id id) (job.id == id) (fresh_describe store jobs)
    where
      P : SsTableHandle → Type 0
      P = IsDescribed store.tables

      back : (front rest : List SsTableHandle) → AllByRecursion P (front ++ rest) → AllByRecursion P rest
      back [] rest all = all
      back (x ∷ front) rest all = back front rest all.1

      other : (front rest new : List SsTableHandle) → AllByRecursion P (front ++ rest) → (AllByRecursion P rest → AllByRecursion P new) → AllByRecursion P (front ++ new)
      other [] rest new all on = on all
      other (x ∷ front) rest new all on = (all.0, other front rest new all.1 on)

      placed : (low same : Bool) → (DescribeTables jobs store → DescribeTables (put_record (fresh_job id spec) jobs) store) → DescribeTables (cond low (job ∷ put_record (fresh_job id spec) jobs) (cond same (fresh_job id spec ∷ jobs) (fresh_job id spec ∷ job ∷ jobs))) store
      placed true same on = other (job_handles job) (flat_map job_handles jobs) (flat_map job_handles (put_record (fresh_job id spec) jobs)) all on
      placed false true on = back (job_handles job) (flat_map job_handles jobs) all
      placed false false on = all

-- ---- all new jobs

with_one_more : (named : List (ℕ × JobSpec)) (p : ℕ × JobSpec) (jobs : Jobs) → with_new (named ++ p ∷ []) jobs ≡ put_job (new_job p) (with_new named jobs)
with_one_more [] p jobs = refl
with_one_more (first ∷ named) p jobs = with_one_more named p (put_job (new_job first) jobs)

specs_of_more : (named : List (ℕ × CompactionSpec)) (p : ℕ × CompactionSpec) → new_specs (named ++ p ∷ []) ≡ new_specs named ++ (p.0, spec_of p.1) ∷ []
specs_of_more [] p = refl
specs_of_more (first ∷ named) p = ap (λ rest. (first.0, spec_of first.1) ∷ rest) (specs_of_more named p)

-- So far some jobs were added, and the ids of the others are new.
pub record AddedSome (old now : Compactions) (done left : List (ℕ × CompactionSpec)) : Type 0 where
  pub adds : AddsJobs old now done
  pub new : AreNewTo now.jobs (map (λ p. p.0) left)

pub added_none : (old : Compactions) (named : List (ℕ × CompactionSpec)) → AreNewTo old.jobs (map (λ p. p.0) named) → AddedSome old old [] named
added_none old named new = record { adds = record { jobs = refl; epoch = refl; described = λ store all. all }; new = new }

module _ (old now next : Compactions) (done left : List (ℕ × CompactionSpec)) (p : ℕ × CompactionSpec) where
  all_still : (ids : List ℕ) → AllByRecursion (λ other. p.0 ≢ other) ids → AllByRecursion (λ id. record_with id now.jobs ≡ None) ids → AllByRecursion (λ id. record_with id (put_record (fresh_job p.0 p.1) now.jobs) ≡ None) ids
  all_still [] differ none = tt
  all_still (id ∷ ids) differ none = (still_new p.0 p.1 id now.jobs differ.0 none.0, all_still ids differ.1 none.1)

  -- If one more of the named jobs is put into the records, it is among the jobs that were added.
  pub added_more : AddedSome old now done (p ∷ left) → next ≡ record now { jobs = put_record (fresh_job p.0 p.1) now.jobs } → jobs_of next.jobs ≡ put_job (new_job (p.0, spec_of p.1)) (jobs_of now.jobs)
      → AddedSome old next (done ++ p ∷ []) left
  added_more some is model = record {
    adds = record {
      jobs = model ∙ ap (put_job (new_job (p.0, spec_of p.1))) some.adds.jobs ∙ sym (with_one_more (new_specs done) (p.0, spec_of p.1) (jobs_of old.jobs)) ∙ ap (λ named. with_new named (jobs_of old.jobs)) (sym (specs_of_more done p));
      epoch = ap (λ (r : Compactions). r.compactor_epoch) is ∙ some.adds.epoch;
      described = λ store all. subst (λ jobs. DescribeTables jobs store) (sym (ap (λ (r : Compactions). r.jobs) is)) (fresh_describe p.0 p.1 store now.jobs (some.adds.described store all));
    };
    new = record {
      unused = subst (λ jobs. AllByRecursion (λ id. record_with id jobs ≡ None) (map (λ q. q.0) left)) (sym (ap (λ (r : Compactions). r.jobs) is)) (all_still (map (λ q. q.0) left) some.new.once.0 some.new.unused.1);
      once = some.new.once.1;
    };
  }

-- ---- the put

-- The records with the new jobs, without the finished ones that a put drops, are what is put.
pub puts_new : (got : VersionedRecords) (ids : List ℕ) (specs : List CompactionSpec) (named : List (ℕ × CompactionSpec)) (old now new : Compactions) → named ≡ zip ids specs → old ≡ got.compactions → AddsJobs old now named
    → new ≡ record now { jobs = kept_records now.jobs } → jobs_of new.jobs ≡ trimmed_jobs (jobs_of now.jobs)
    → (version : ℕ) → version ≡ got.id → (why : RecordChange) → why ≡ change.Submit named → IsSubmitPut got ids specs (record { version = version; value = new; why = why })
puts_new got ids specs named old now new are of adds kept model version at why is = record {
  at = at;
  why = ap record_change_of is ∙ ap Submit (ap new_specs are ∙ model_specs ids specs);
  epoch = ap (λ (r : Compactions). r.compactor_epoch) kept ∙ adds.epoch ∙ ap (λ (r : Compactions). r.compactor_epoch) of;
  jobs = model ∙ ap trimmed_jobs (adds.jobs ∙ ap (λ named. with_new named (jobs_of old.jobs)) (ap new_specs are ∙ model_specs ids specs) ∙ ap (λ (r : Compactions). with_new (zip ids (map spec_of specs)) (jobs_of r.jobs)) of);
  described = λ store all. subst (λ jobs. DescribeTables jobs store) (sym (ap (λ (r : Compactions). r.jobs) kept))
      (kept_describe now.jobs store (adds.described store (subst (λ (r : Compactions). DescribeTables r.jobs store) (sym of) all)));
}

-- ---- one more element

pub add_next : (old now next : Compactions) (named : List (ℕ × CompactionSpec)) (i : ℕ) (p : ℕ × CompactionSpec) → i < length named → p ≡ get_or named i p → AddedSome old now (take i named) (drop i named)
    → next ≡ record now { jobs = put_record (fresh_job p.0 p.1) now.jobs } → jobs_of next.jobs ≡ put_job (new_job (p.0, spec_of p.1)) (jobs_of now.jobs) → AddedSome old next (take (i + 1) named) (drop (i + 1) named)
add_next old now next named i p low is some added model =
    let done : take (i + 1) named ≡ take i named ++ p ∷ [] = take_more named i p low ∙ ap (λ x. take i named ++ x ∷ []) (sym is) in
    let left : drop i named ≡ p ∷ drop (i + 1) named = drop_more named i p low ∙ ap (λ x. x ∷ drop (i + 1) named) (sym is) in
    subst (λ front. AddedSome old next front (drop (i + 1) named)) (sym done) (added_more old now next (take i named) (drop (i + 1) named) p (subst (AddedSome old now (take i named)) left some) added model)

zip_push : {A B : Type 0} (xs : List A) (ys : List B) (x : A) (y : B) → length xs ≡ length ys → zip (xs ++ x ∷ []) (ys ++ y ∷ []) ≡ zip xs ys ++ (x, y) ∷ []
zip_push [] [] x y same = refl
zip_push [] (b ∷ ys) x y same = absurd (omega (arith, same))
zip_push (a ∷ xs) [] x y same = absurd (omega (arith, same))
zip_push (a ∷ xs) (b ∷ ys) x y same = ap (λ rest. (a, b) ∷ rest) (zip_push xs ys x y (omega (arith, same)))

zip_next : {A B : Type 0} (xs : List A) (ys : List B) (i : ℕ) (x : A) (y : B) → i < length xs → i < length ys → x ≡ get_or xs i x → y ≡ get_or ys i y → zip (take i xs) (take i ys) ++ (x, y) ∷ [] ≡ zip (take (i + 1) xs) (take (i + 1) ys)
zip_next xs ys i x y low less is at =
    let front = take_more xs i x low ∙ ap (λ e. take i xs ++ e ∷ []) (sym is) in
    let other = take_more ys i y less ∙ ap (λ e. take i ys ++ e ∷ []) (sym at) in
    rw (front, other) (sym (zip_push (take i xs) (take i ys) x y (length-take-le i xs (omega (arith, low)) ∙ sym (length-take-le i ys (omega (arith, less))))))

-- The list has the pairs so far, and one more.
pub zip_on : {A B : Type 0} (xs : List A) (ys : List B) (i : ℕ) (x : A) (y copy : B) (old new : List (A × B)) → length xs ≡ length ys → i < length ys → x ≡ get_or xs i x → y ≡ get_or ys i y → copy ≡ y → old ≡ zip (take i xs) (take i ys) → new ≡ old ++ (x, copy) ∷ []
    → new ≡ zip (take (i + 1) xs) (take (i + 1) ys)
zip_on xs ys i x y copy old new many low is at same so_far more =
    more ∙ ap (λ items. items ++ (x, copy) ∷ []) so_far ∙ ap (λ z. zip (take i xs) (take i ys) ++ (x, z) ∷ []) same ∙ zip_next xs ys i x y (subst (λ n. i < n) (sym many) low) low is at
