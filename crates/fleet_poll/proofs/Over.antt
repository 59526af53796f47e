-- Jobs whose commits failed are over, and stay so.
use Rattle.std.proofs.Common.{◌≡◌, refl, sym, ◌∙◌, ap, subst, ℕ, List, [], ◌∷◌, ◌++◌, map, Bool, true, false, cond, arith}
use Rattle.std.specs.Prelude.{◌==◌, nat_lt, IfSome, IsSome, option_map, Option, Some, None}
use Rattle.std.specs.List.{AllByRecursion}
use Rattle.std.proofs.lemmas.Bool.{eq-eqb, eqb-true, ltb-true}
use Rattle.std.proofs.lemmas.Cmp.{nat_eq_equiv}
use Rattle.fleet_jobs.specs.Jobs.{with_status}
use Rattle.fleet_jobs.specs.Parts.JobParts.{JobParts}
use Rattle.fleet_jobs.specs.declared.status.CompactionStatus.TheVariants as own
use Rattle.fleet_book.specs.Finishes.{finished_state}
use Rattle.fleet_book.specs.Records.{put_record, record_with}
use Rattle.fleet_book.specs.StateParts.{StateParts}
use Rattle.fleet_book.specs.States.{own_jobs}
use Rattle.fleet_poll.specs.Loops.{LostAreOver, OthersStay, is_over_if_there}
use Rattle.fleet_poll.specs.Made.{joined_run}
use Rattle.fleet_poll.specs.Polls.{changed_record, failed_record}
use Rattle.fleet_poll.specs.declared.poll.Poll.{Poll}
use Rattle.fleet_poll.proofs.Carried.{failed_names, changed_others, joined_others}
use Rattle.fleet_poll.proofs.Changed.{found_has_id}
use Rattle.fleet_poll.proofs.MatchedTables.{all_both}

-- ---- the record of the job

-- The record of a job that fails is that of the failed job.
failed_here : (id : ℕ) (jobs : List JobParts) → record_with id (map (changed_record failed_record (id ∷ [])) jobs) ≡ option_map failed_record (record_with id jobs)
failed_here id [] = refl
failed_here id (job ∷ jobs) = by (id == job.id) refl (failed_here id jobs)
  where
    rest_after : List JobParts
    rest_after = map (changed_record failed_record (id ∷ [])) jobs

    by : (b : Bool) → (id == job.id) ≡ b → record_with id rest_after ≡ option_map failed_record (record_with id jobs)
        → cond ((cond (cond b true false) (failed_record job) job).id == id) (Some (cond (cond b true false) (failed_record job) job)) (record_with id rest_after) ≡ option_map failed_record (cond (job.id == id) (Some job) (record_with id jobs))
    by true e rest =
        let is = nat_eq_equiv.symm job.id id ∙ e in
        ap (λ c. cond c (Some (failed_record job)) (record_with id rest_after)) is ∙ sym (ap (λ c. option_map failed_record (cond c (Some job) (record_with id jobs))) is)
    by false e rest =
        let is = nat_eq_equiv.symm job.id id ∙ e in
        ap (λ c. cond c (Some job) (record_with id rest_after)) is ∙ rest ∙ sym (ap (λ c. option_map failed_record (cond c (Some job) (record_with id jobs))) is)

-- A job that is put is found by its id.
put_here : (new : JobParts) (jobs : List JobParts) → record_with new.id (put_record new jobs) ≡ Some new
put_here new [] = ap (λ b. cond b (Some new) None) (eq-eqb new.id new.id refl)
put_here new (job ∷ jobs) = by (nat_lt job.id new.id) refl (put_here new jobs)
  where
    first : (rest : List JobParts) → record_with new.id (new ∷ rest) ≡ Some new
    first rest = ap (λ b. cond b (Some new) (record_with new.id rest)) (eq-eqb new.id new.id refl)

    replaced : (b : Bool) → record_with new.id (cond b (new ∷ jobs) (new ∷ job ∷ jobs)) ≡ Some new
    replaced true = first jobs
    replaced false = first (job ∷ jobs)

    by : (b : Bool) → nat_lt job.id new.id ≡ b → record_with new.id (put_record new jobs) ≡ Some new
        → record_with new.id (cond b (job ∷ put_record new jobs) (cond (job.id == new.id) (new ∷ jobs) (new ∷ job ∷ jobs))) ≡ Some new
    by true e rest = ap (λ b. cond b (Some job) (record_with new.id (put_record new jobs))) (apart_below job.id new.id e) ∙ rest
      where
        apart_below : (a b : ℕ) → nat_lt a b ≡ true → (a == b) ≡ false
        apart_below a b e = by_eq (a == b) refl
          where
            by_eq : (c : Bool) → (a == b) ≡ c → c ≡ false
            by_eq true f = let low = ltb-true a b e in let same = eqb-true a b f in absurd (omega (arith, low, same))
            by_eq false f = refl
    by false e rest = replaced (job.id == new.id)

-- ---- the jobs that were lost

over_after : (id : ℕ) (old new : StateParts) (lost : List (ℕ × ℕ)) → OthersStay id old new → is_over_if_there (record_with id (own_jobs new)) ≡ true
    → AllByRecursion (λ l. is_over_if_there (record_with l.0 (own_jobs old)) ≡ true) lost → AllByRecursion (λ l. is_over_if_there (record_with l.0 (own_jobs new)) ≡ true) lost
over_after id old new [] stay over all = tt
over_after id old new (l ∷ lost) stay over all = (by (id == l.0) refl, over_after id old new lost stay over all.1)
  where
    by : (b : Bool) → (id == l.0) ≡ b → is_over_if_there (record_with l.0 (own_jobs new)) ≡ true
    by true e = ap (λ n. is_over_if_there (record_with n (own_jobs new))) (sym (eqb-true id l.0 e)) ∙ over
    by false e = ap is_over_if_there (stay l.0 e) ∙ all.0

-- The job that is lost is over, and so are those that were lost before.
pub lost_is_over : (id rule : ℕ) (old new : Poll) → IsSome (record_with id (own_jobs old.state)) → own_jobs new.state ≡ map (changed_record failed_record (id ∷ [])) (own_jobs old.state) → new.lost ≡ old.lost ++ (id, rule) ∷ []
    → LostAreOver old → LostAreOver new
lost_is_over id rule old new there is more all =
    subst (λ lost. AllByRecursion (λ l. is_over_if_there (record_with l.0 (own_jobs new.state)) ≡ true) lost) (sym more)
    (all_both (λ l. is_over_if_there (record_with l.0 (own_jobs new.state)) ≡ true) old.lost ((id, rule) ∷ [])
    (over_after id old.state new.state old.lost (changed_others failed_record id old.state new.state failed_names is) over all) (over, tt))
  where
    failed_over : (found : Option JobParts) → IsSome found → is_over_if_there (option_map failed_record found) ≡ true
    failed_over None none = absurd (cc none)
    failed_over (Some job) some = refl

    over : is_over_if_there (record_with id (own_jobs new.state)) ≡ true
    over = ap (λ jobs. is_over_if_there (record_with id jobs)) is ∙ ap is_over_if_there (failed_here id (own_jobs old.state)) ∙ failed_over (record_with id (own_jobs old.state)) there

pub joined_is_over : (id : ℕ) (found : Option JobParts) (old new : Poll) → record_with id (own_jobs old.state) ≡ found → IsSome found → IfSome found (λ job. new.state ≡ finished_state job (joined_run job) old.state) → new.lost ≡ old.lost
    → LostAreOver old → LostAreOver new
joined_is_over id None old new e there is same all = absurd (cc there)
joined_is_over id (Some job) old new e there is same all =
    let done = with_status own.Completed job in
    let here : record_with id (own_jobs new.state) ≡ Some done = ap (λ s. record_with id (own_jobs s)) is ∙ ap (λ n. record_with n (put_record done (own_jobs old.state))) (sym (found_has_id id (own_jobs old.state) job e)) ∙ put_here done (own_jobs old.state) in
    subst (λ lost. AllByRecursion (λ l. is_over_if_there (record_with l.0 (own_jobs new.state)) ≡ true) lost) (sym same)
    (over_after id old.state new.state old.lost (joined_others id (Some job) old.state new.state e there is) (ap is_over_if_there here) all)

-- Jobs that are kept as they are stay over.
pub kept_over : (old new : Poll) → ((id : ℕ) (job : JobParts) → record_with id (own_jobs old.state) ≡ Some job → record_with id (own_jobs new.state) ≡ Some job) → new.lost ≡ old.lost → LostAreOver old → LostAreOver new
kept_over old new kept same all = subst (λ lost. AllByRecursion (λ l. is_over_if_there (record_with l.0 (own_jobs new.state)) ≡ true) lost) (sym same) (each old.lost all)
  where
    one : (id : ℕ) (found : Option JobParts) → record_with id (own_jobs old.state) ≡ found → is_over_if_there found ≡ true → is_over_if_there (record_with id (own_jobs new.state)) ≡ true
    one id None e over = absurd (cc over)
    one id (Some job) e over = ap is_over_if_there (kept id job e) ∙ over

    each : (lost : List (ℕ × ℕ)) → AllByRecursion (λ l. is_over_if_there (record_with l.0 (own_jobs old.state)) ≡ true) lost → AllByRecursion (λ l. is_over_if_there (record_with l.0 (own_jobs new.state)) ≡ true) lost
    each [] over = tt
    each (l ∷ lost) over = (one l.0 (record_with l.0 (own_jobs old.state)) refl over.0, each lost over.1)
