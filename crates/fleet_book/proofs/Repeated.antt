-- A coordinator that sees the same stored records again keeps its jobs as they are.
use Rattle.std.proofs.Common.{◌≡◌, refl, sym, ◌∙◌, ap, subst, ℕ, ◌<◌, ◌⊎◌, inl, inr, List, [], ◌∷◌, Bool, true, false, cond, arith}
use Rattle.std.specs.Prelude.{◌==◌, nat_lt, Option, Some, None}
use Rattle.std.specs.List.{AllByRecursion}
use Rattle.std.proofs.lemmas.Bool.{cases_order, eqb-true, eq-eqb, ltb-true}
use Rattle.row_laws.proofs.Elements.{all_weaken}
use Rattle.fleet_jobs.specs.Parts.JobParts.{JobParts}
use Rattle.fleet_book.specs.Laws.{RepeatedMergesAreIdle}
use Rattle.fleet_book.specs.Records.{AreRising, put_record, record_with}
use Rattle.fleet_book.specs.States.{merged_jobs, takes, with_stored}
use Rattle.fleet_book.proofs.Merged.{put_other}
use Rattle.fleet_book.proofs.ModelMerges.{rising_with}
use Rattle.fleet_book.proofs.Records.{Above, none_there}

first_is : (job : JobParts) (jobs : List JobParts) → record_with job.id (job ∷ jobs) ≡ Some job
first_is job jobs = ap (λ b. cond b (Some job) (record_with job.id jobs)) (eq-eqb job.id job.id refl)

first_skipped : (id : ℕ) (job : JobParts) (jobs : List JobParts) → (job.id == id) ≡ false → record_with id (job ∷ jobs) ≡ record_with id jobs
first_skipped id job jobs apart = ap (λ b. cond b (Some job) (record_with id jobs)) apart

none_lower : (id : ℕ) (job : JobParts) (jobs : List JobParts) → AreRising (job ∷ jobs) → id < job.id → record_with id (job ∷ jobs) ≡ None
none_lower id job jobs up low = none_there id (job ∷ jobs) (low, all_weaken (Above job.id) (Above id) (λ other high. omega arith) jobs up.0)

none_after : (id : ℕ) (job : JobParts) (jobs : List JobParts) → AreRising (job ∷ jobs) → job.id ≡ id → record_with id jobs ≡ None
none_after id job jobs up same = none_there id jobs (subst (λ n. AllByRecursion (Above n) jobs) same up.0)

abbrev FindAlike : List JobParts → List JobParts → Type 0
FindAlike xs ys = (id : ℕ) → record_with id xs ≡ record_with id ys

-- Jobs by rising ids are the same if the same record is found under each id.
alike : (xs ys : List JobParts) → AreRising xs → AreRising ys → FindAlike xs ys → xs ≡ ys
alike [] [] up up' same = refl
alike [] (y ∷ ys) up up' same =
    let clash : None ≡ Some y = same y.id ∙ first_is y ys in absurd (cc clash)
alike (x ∷ xs) [] up up' same =
    let clash : None ≡ Some x = sym (same x.id) ∙ first_is x xs in absurd (cc clash)
alike (x ∷ xs) (y ∷ ys) up up' same = by (cases_order x.id y.id) (alike xs ys up.1 up'.1)
  where
    later : x.id ≡ y.id → FindAlike xs ys
    later e id = at (x.id == id) refl
      where
        at : (b : Bool) → (x.id == id) ≡ b → record_with id xs ≡ record_with id ys
        at true f =
            let own = eqb-true x.id id f in
            none_after id x xs up own ∙ sym (none_after id y ys up' (sym e ∙ own))
        at false f = sym (first_skipped id x xs f) ∙ same id ∙ first_skipped id y ys (ap (λ n. n == id) (sym e) ∙ f)

    by : (x.id ≡ y.id) ⊎ ((x.id < y.id) ⊎ (y.id < x.id)) → (FindAlike xs ys → xs ≡ ys) → x ∷ xs ≡ y ∷ ys
    by (inl e) rest =
        let firsts : Some x ≡ Some y = sym (first_is x xs) ∙ same x.id ∙ ap (λ n. record_with n (y ∷ ys)) e ∙ first_is y ys in
        let first : x ≡ y = cc firsts in
        ap (λ j. j ∷ xs) first ∙ ap (λ js. y ∷ js) (rest (later e))
    by (inr (inl low)) rest =
        let clash : None ≡ Some x = sym (none_lower x.id y ys up' low) ∙ sym (same x.id) ∙ first_is x xs in absurd (cc clash)
    by (inr (inr low)) rest =
        let clash : None ≡ Some y = sym (none_lower y.id x xs up low) ∙ same y.id ∙ first_is y ys in absurd (cc clash)

-- A job that is put is found under its id.
put_found : (new : JobParts) (jobs : List JobParts) → record_with new.id (put_record new jobs) ≡ Some new
put_found new [] = first_is new []
put_found new (job ∷ jobs) = by (nat_lt job.id new.id) (job.id == new.id) refl refl (put_found new jobs)
  where
    by : (b c : Bool) → nat_lt job.id new.id ≡ b → (job.id == new.id) ≡ c → record_with new.id (put_record new jobs) ≡ Some new
        → record_with new.id (cond b (job ∷ put_record new jobs) (cond c (new ∷ jobs) (new ∷ job ∷ jobs))) ≡ Some new
    by true true e f rest =
        let low = ltb-true job.id new.id e in let same = eqb-true job.id new.id f in absurd (omega (arith, low, same))
    by true false e f rest = first_skipped new.id job (put_record new jobs) f ∙ rest
    by false true e f rest = first_is new jobs
    by false false e f rest = first_is new (job ∷ jobs)

-- What becomes of a job, given its stored record if there is one.
abbrev taken : Option JobParts → Option JobParts → Option JobParts
taken own None = own
taken own (Some stored) = cond (takes own stored) (Some stored) own

-- A stored record that is seen changes at most what is found under its own id.
one_found : (id : ℕ) (jobs : List JobParts) (s : JobParts) → record_with id (with_stored jobs s) ≡ cond (s.id == id) (taken (record_with id jobs) (Some s)) (record_with id jobs)
one_found id jobs s = by (s.id == id) refl
  where
    put : (b : Bool) → record_with s.id (cond b (put_record s jobs) jobs) ≡ cond b (Some s) (record_with s.id jobs)
    put true = put_found s jobs
    put false = refl

    left : (b : Bool) → (s.id == id) ≡ false → record_with id (cond b (put_record s jobs) jobs) ≡ record_with id jobs
    left true apart = put_other id s jobs apart
    left false apart = refl

    by : (b : Bool) → (s.id == id) ≡ b → record_with id (with_stored jobs s) ≡ cond b (taken (record_with id jobs) (Some s)) (record_with id jobs)
    by true e =
        let own = eqb-true s.id id e in
        ap (λ n. record_with n (with_stored jobs s)) (sym own) ∙ put (takes (record_with s.id jobs) s) ∙ ap (λ n. taken (record_with n jobs) (Some s)) own
    by false e = left (takes (record_with s.id jobs) s) e

all_found : (id : ℕ) (jobs stored : List JobParts) → AreRising stored → record_with id (merged_jobs jobs stored) ≡ taken (record_with id jobs) (record_with id stored)
all_found id jobs [] up = refl
all_found id jobs (s ∷ stored) up = all_found id (with_stored jobs s) stored up.1 ∙ ap (λ o. taken o (record_with id stored)) (one_found id jobs s) ∙ by (s.id == id) refl
  where
    by : (b : Bool) → (s.id == id) ≡ b
        → taken (cond b (taken (record_with id jobs) (Some s)) (record_with id jobs)) (record_with id stored) ≡ taken (record_with id jobs) (cond b (Some s) (record_with id stored))
    by true e = ap (taken (taken (record_with id jobs) (Some s))) (none_after id s stored up (eqb-true s.id id e))
    by false e = refl

-- A stored record that is seen twice leaves what it leaves when it is seen once.
taken_twice : (own stored : Option JobParts) → taken (taken own stored) stored ≡ taken own stored
taken_twice own None = refl
taken_twice own (Some s) = by (takes own s) refl
  where
    either : (b : Bool) → cond b (Some s) (Some s) ≡ Some s
    either true = refl
    either false = refl

    by : (b : Bool) → takes own s ≡ b → taken (cond b (Some s) own) (Some s) ≡ cond b (Some s) own
    by true e = either (takes (Some s) s)
    by false e = ap (λ b. cond b (Some s) own) e

rising_merged : (jobs stored : List JobParts) → AreRising jobs → AreRising (merged_jobs jobs stored)
rising_merged jobs [] up = up
rising_merged jobs (s ∷ stored) up = rising_merged (with_stored jobs s) stored (rising_with jobs s up)

pub repeated_merges_are_idle : RepeatedMergesAreIdle
repeated_merges_are_idle own stored up up' =
    let once = merged_jobs own stored in
    let rises = rising_merged own stored up in
    alike (merged_jobs once stored) once (rising_merged once stored rises) rises
    (λ id. all_found id once stored up'
    ∙ ap (λ o. taken o (record_with id stored)) (all_found id own stored up')
    ∙ taken_twice (record_with id own) (record_with id stored)
    ∙ sym (all_found id own stored up'))
