-- What a poll did to each job so far: marks by the ids of jobs, and the job that they make.
use Rattle.std.proofs.Common.{◌≡◌, refl, sym, ◌∙◌, ap, ℕ, List, [], ◌∷◌, ◌++◌, cond, Bool, true, false, inl, inr}
use Rattle.std.specs.Prelude.{IsTrue, ◌==◌, ◌||◌, map}
use Rattle.std.proofs.lemmas.Bool.Decides.{Decides-eqb}
use Rattle.fleet_model.specs.Jobs.{Job, Jobs, contains, changed_jobs}
use Rattle.fleet_model.specs.Work.Records.{to_waiting, to_scheduled, to_completed, to_failed, firsts}
use Rattle.fleet_model.specs.Work.PollStates.{PollState}
use Rattle.step_model.specs.LawfulRecords.{may_end}
use Rattle.step_laws.proofs.Elements.{IsIn, is_itself}

-- ---- one job

-- The job that a poll makes of one that it freed, opened, completed or failed.
abbrev pub done_to : (freed opened completed failed : Bool) → List ℕ → Job → Job
done_to freed opened completed failed tables job =
    cond failed (to_failed (cond completed (to_completed (cond opened (to_scheduled (λ spec. tables) (cond freed (to_waiting job) job)) (cond freed (to_waiting job) job))) (cond opened (to_scheduled (λ spec. tables) (cond freed (to_waiting job) job)) (cond freed (to_waiting job) job))))
    (cond completed (to_completed (cond opened (to_scheduled (λ spec. tables) (cond freed (to_waiting job) job)) (cond freed (to_waiting job) job))) (cond opened (to_scheduled (λ spec. tables) (cond freed (to_waiting job) job)) (cond freed (to_waiting job) job)))

-- Whatever a poll did to a job, the job keeps its id.
pub done_id : (freed opened completed failed : Bool) (tables : List ℕ) (job : Job) → (done_to freed opened completed failed tables job).id ≡ job.id
done_id true true true true tables job = refl
done_id true true true false tables job = refl
done_id true true false true tables job = refl
done_id true true false false tables job = refl
done_id true false true true tables job = refl
done_id true false true false tables job = refl
done_id true false false true tables job = refl
done_id true false false false tables job = refl
done_id false true true true tables job = refl
done_id false true true false tables job = refl
done_id false true false true tables job = refl
done_id false true false false tables job = refl
done_id false false true true tables job = refl
done_id false false true false tables job = refl
done_id false false false true tables job = refl
done_id false false false false tables job = refl

-- Whatever a poll did to a job, the job keeps its spec.
pub done_spec : (freed opened completed failed : Bool) (tables : List ℕ) (job : Job) → (done_to freed opened completed failed tables job).spec ≡ job.spec
done_spec true true true true tables job = refl
done_spec true true true false tables job = refl
done_spec true true false true tables job = refl
done_spec true true false false tables job = refl
done_spec true false true true tables job = refl
done_spec true false true false tables job = refl
done_spec true false false true tables job = refl
done_spec true false false false tables job = refl
done_spec false true true true tables job = refl
done_spec false true true false tables job = refl
done_spec false true false true tables job = refl
done_spec false true false false tables job = refl
done_spec false false true true tables job = refl
done_spec false false true false tables job = refl
done_spec false false false true tables job = refl
done_spec false false false false tables job = refl

-- A job that a poll may end has no mark.
pub record Unmarked (a b c d : Bool) : Type 0 where
  pub freed : a ≡ false
  pub opened : b ≡ false
  pub completed : c ≡ false
  pub failed : d ≡ false

pub unmarked : (freed opened completed failed : Bool) (tables : List ℕ) (job : Job) → IsTrue (may_end (done_to freed opened completed failed tables job)) → Unmarked freed opened completed failed
unmarked freed opened completed true tables job h = absurd (cc h)
unmarked freed opened true false tables job h = absurd (cc h)
unmarked freed true false false tables job h = absurd (cc h)
unmarked true false false false tables job h = absurd (cc h)
unmarked false false false false tables job h = record { freed = refl; opened = refl; completed = refl; failed = refl }

-- ---- marks

-- Which jobs are freed, opened, completed and failed, and the source tables of opened ones.
pub record Marks : Type 0 where
  pub freed : ℕ → Bool
  pub opened : ℕ → Bool
  pub completed : ℕ → Bool
  pub failed : ℕ → Bool
  pub tables : ℕ → List ℕ

abbrev pub did : Marks → Job → Job
did m job = done_to (m.freed job.id) (m.opened job.id) (m.completed job.id) (m.failed job.id) (m.tables job.id) job

pub did_id : (m : Marks) (job : Job) → (did m job).id ≡ job.id
did_id m job = done_id (m.freed job.id) (m.opened job.id) (m.completed job.id) (m.failed job.id) (m.tables job.id) job

pub did_spec : (m : Marks) (job : Job) → (did m job).spec ≡ job.spec
did_spec m job = done_spec (m.freed job.id) (m.opened job.id) (m.completed job.id) (m.failed job.id) (m.tables job.id) job

abbrev pub UnmarkedAt : Marks → ℕ → Type 0
UnmarkedAt m id = Unmarked (m.freed id) (m.opened id) (m.completed id) (m.failed id)

pub did_unmarked : (m : Marks) (job : Job) → IsTrue (may_end (did m job)) → UnmarkedAt m job.id
did_unmarked m job h = unmarked (m.freed job.id) (m.opened job.id) (m.completed job.id) (m.failed job.id) (m.tables job.id) job h

pub did_nothing : (m : Marks) (job : Job) → UnmarkedAt m job.id → did m job ≡ job
did_nothing m job u = rw (u.freed, u.opened, u.completed, u.failed) refl

-- ---- one more mark

abbrev pub add : ℕ → (ℕ → Bool) → ℕ → Bool
add id f n = f n || (id == n)

abbrev pub add_tables : ℕ → List ℕ → (ℕ → List ℕ) → ℕ → List ℕ
add_tables id tables f n = cond (id == n) tables (f n)

abbrev pub with_completed : ℕ → Marks → Marks
with_completed id m = record m { completed = add id m.completed }

abbrev pub with_failed : ℕ → Marks → Marks
with_failed id m = record m { failed = add id m.failed }

abbrev pub with_opened : ℕ → List ℕ → Marks → Marks
with_opened id tables m = record m { opened = add id m.opened; tables = add_tables id tables m.tables }

pub completes : (m : Marks) (job : Job) → UnmarkedAt m job.id → to_completed (did m job) ≡ did (with_completed job.id m) job
completes m job u = rw (u.freed, u.opened, u.completed, u.failed, is_itself job.id) refl

pub fails : (m : Marks) (job : Job) → UnmarkedAt m job.id → to_failed (did m job) ≡ did (with_failed job.id m) job
fails m job u = rw (u.freed, u.opened, u.completed, u.failed, is_itself job.id) refl

pub opens : (m : Marks) (job : Job) (tables : List ℕ) → UnmarkedAt m job.id → to_scheduled (λ spec. tables) (did m job) ≡ did (with_opened job.id tables m) job
opens m job tables u = rw (u.freed, u.opened, u.completed, u.failed, is_itself job.id) refl

or_no : (b c : Bool) → c ≡ false → (b || c) ≡ b
or_no true c e = refl
or_no false c e = e

pub completes_other : (m : Marks) (job : Job) (id : ℕ) → (id == job.id) ≡ false → did (with_completed id m) job ≡ did m job
completes_other m job id e = ap (λ b. done_to (m.freed job.id) (m.opened job.id) b (m.failed job.id) (m.tables job.id) job) (or_no (m.completed job.id) (id == job.id) e)

pub fails_other : (m : Marks) (job : Job) (id : ℕ) → (id == job.id) ≡ false → did (with_failed id m) job ≡ did m job
fails_other m job id e = ap (λ b. done_to (m.freed job.id) (m.opened job.id) (m.completed job.id) b (m.tables job.id) job) (or_no (m.failed job.id) (id == job.id) e)

pub opens_other : (m : Marks) (job : Job) (id : ℕ) (tables : List ℕ) → (id == job.id) ≡ false → did (with_opened id tables m) job ≡ did m job
opens_other m job id tables e =
    let opened = or_no (m.opened job.id) (id == job.id) e in
    let same = ap (λ b. cond b tables (m.tables job.id)) e in
    λ i. done_to (m.freed job.id) (opened i) (m.completed job.id) (m.failed job.id) (same i) job

-- ---- all jobs

-- A change of one job is one more mark.
pub change_one : (m new : Marks) (f : Job → Job) (id : ℕ) (jobs : Jobs) → ((job : Job) → IsIn job jobs → (id == job.id) ≡ false → did new job ≡ did m job) → ((job : Job) → IsIn job jobs → id ≡ job.id → f (did m job) ≡ did new job)
    → changed_jobs f (id ∷ []) (map (did m) jobs) ≡ map (did new) jobs
change_one m new f id [] others one = refl
change_one m new f id (job ∷ jobs) others one =
    let first = at (id == job.id) refl in
    let rest = change_one m new f id jobs (λ j there e. others j (inr there) e) (λ j there e. one j (inr there) e) in
    λ i. first i ∷ rest i
  where
    at : (b : Bool) → (id == job.id) ≡ b → cond (contains (id ∷ []) (did m job).id) (f (did m job)) (did m job) ≡ did new job
    at true e = ap (λ n. cond (contains (id ∷ []) n) (f (did m job)) (did m job)) (did_id m job) ∙ ap (λ b. cond (cond b true false) (f (did m job)) (did m job)) e ∙ one job (inl refl) ((Decides-eqb id job.id).0 e)
    at false e = ap (λ n. cond (contains (id ∷ []) n) (f (did m job)) (did m job)) (did_id m job) ∙ ap (λ b. cond (cond b true false) (f (did m job)) (did m job)) e ∙ sym (others job (inl refl) e)

-- ---- the marks of a state

abbrev pub is_completed : PollState → ℕ → Bool
is_completed p n = contains p.done n || (contains p.moved n || contains p.drained n)

abbrev pub is_failed : PollState → ℕ → Bool
is_failed p n = contains (firsts p.lost) n || contains (firsts p.refused) n

abbrev pub marks_of : PollState → (ℕ → List ℕ) → Marks
marks_of p tables = record { freed = contains p.freed; opened = contains p.opened; completed = is_completed p; failed = is_failed p; tables = tables }

-- A list with a number added at its end has those that it had, and that number.
pub contains_push : (xs : List ℕ) (x n : ℕ) → contains (xs ++ x ∷ []) n ≡ (contains xs n || (x == n))
contains_push [] x n = by (x == n)
  where
    by : (b : Bool) → cond b true false ≡ b
    by true = refl
    by false = refl
contains_push (y ∷ xs) x n = by (y == n) (contains_push xs x n)
  where
    by : (b : Bool) → contains (xs ++ x ∷ []) n ≡ (contains xs n || (x == n)) → cond b true (contains (xs ++ x ∷ []) n) ≡ (cond b true (contains xs n) || (x == n))
    by true e = refl
    by false e = e

pub firsts_push : {A : Type 0} (xs : List (ℕ × A)) (x : ℕ × A) → firsts (xs ++ x ∷ []) ≡ firsts xs ++ x.0 ∷ []
firsts_push [] x = refl
firsts_push (y ∷ xs) x = ap (λ ns. y.0 ∷ ns) (firsts_push xs x)

-- Three flags joined, with one more at each place.
first_of_three : (a b c d : Bool) → ((a || d) || (b || c)) ≡ ((a || (b || c)) || d)
first_of_three true b c d = refl
first_of_three false true c true = refl
first_of_three false true c false = refl
first_of_three false false true true = refl
first_of_three false false true false = refl
first_of_three false false false true = refl
first_of_three false false false false = refl

second_of_three : (a b c d : Bool) → (a || ((b || d) || c)) ≡ ((a || (b || c)) || d)
second_of_three true b c d = refl
second_of_three false true c d = refl
second_of_three false false true true = refl
second_of_three false false true false = refl
second_of_three false false false true = refl
second_of_three false false false false = refl

third_of_three : (a b c d : Bool) → (a || (b || (c || d))) ≡ ((a || (b || c)) || d)
third_of_three true b c d = refl
third_of_three false true c d = refl
third_of_three false false true d = refl
third_of_three false false false d = refl

first_of_two : (a b d : Bool) → ((a || d) || b) ≡ ((a || b) || d)
first_of_two true b d = refl
first_of_two false true true = refl
first_of_two false true false = refl
first_of_two false false true = refl
first_of_two false false false = refl

second_of_two : (a b d : Bool) → (a || (b || d)) ≡ ((a || b) || d)
second_of_two true b d = refl
second_of_two false true d = refl
second_of_two false false d = refl

pub done_push : (done moved drained : List ℕ) (id n : ℕ) → (contains (done ++ id ∷ []) n || (contains moved n || contains drained n)) ≡ ((contains done n || (contains moved n || contains drained n)) || (id == n))
done_push done moved drained id n = ap (λ b. b || (contains moved n || contains drained n)) (contains_push done id n) ∙ first_of_three (contains done n) (contains moved n) (contains drained n) (id == n)

pub moved_push : (done moved drained : List ℕ) (id n : ℕ) → (contains done n || (contains (moved ++ id ∷ []) n || contains drained n)) ≡ ((contains done n || (contains moved n || contains drained n)) || (id == n))
moved_push done moved drained id n = ap (λ b. contains done n || (b || contains drained n)) (contains_push moved id n) ∙ second_of_three (contains done n) (contains moved n) (contains drained n) (id == n)

pub drained_push : (done moved drained : List ℕ) (id n : ℕ) → (contains done n || (contains moved n || contains (drained ++ id ∷ []) n)) ≡ ((contains done n || (contains moved n || contains drained n)) || (id == n))
drained_push done moved drained id n = ap (λ b. contains done n || (contains moved n || b)) (contains_push drained id n) ∙ third_of_three (contains done n) (contains moved n) (contains drained n) (id == n)

pub lost_push : (lost refused : List (ℕ × ℕ)) (id rule n : ℕ) → (contains (firsts (lost ++ (id, rule) ∷ [])) n || contains (firsts refused) n) ≡ ((contains (firsts lost) n || contains (firsts refused) n) || (id == n))
lost_push lost refused id rule n =
    ap (λ ids. contains ids n || contains (firsts refused) n) (firsts_push lost (id, rule)) ∙ ap (λ b. b || contains (firsts refused) n) (contains_push (firsts lost) id n)
    ∙ first_of_two (contains (firsts lost) n) (contains (firsts refused) n) (id == n)

pub refused_push : (lost refused : List (ℕ × ℕ)) (id rule n : ℕ) → (contains (firsts lost) n || contains (firsts (refused ++ (id, rule) ∷ [])) n) ≡ ((contains (firsts lost) n || contains (firsts refused) n) || (id == n))
refused_push lost refused id rule n =
    ap (λ ids. contains (firsts lost) n || contains ids n) (firsts_push refused (id, rule)) ∙ ap (λ b. contains (firsts lost) n || b) (contains_push (firsts refused) id n)
    ∙ second_of_two (contains (firsts lost) n) (contains (firsts refused) n) (id == n)
