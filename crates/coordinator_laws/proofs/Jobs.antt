-- The jobs that a poll reached: each is what the poll's marks make of a job that it got or added.
use Rattle.std.proofs.Common.{◌≡◌, refl, sym, ◌∙◌, ap, subst, ℕ, ◌<◌, List, [], ◌∷◌, ◌++◌, cond, Bool, true, false, inl, inr, ◌⊎◌}
use Rattle.std.specs.Prelude.{IsTrue, ◌==◌, ◌||◌, map, nat_lt}
use Rattle.std.specs.List.{AllByRecursion}
use Rattle.std.proofs.lemmas.Bool.Decides.{Decides-eqb}
use Rattle.row_model.specs.Lists.{Pairs}
use Rattle.fleet_model.specs.Jobs.{JobSpec, Job, Jobs, Submitted, Running, Compacted, nodes_of, has_status, contains, changed_jobs, put_job}
use Rattle.fleet_model.specs.Work.Records.{to_scheduled, to_completed, to_failed, firsts, new_job, with_new}
use Rattle.fleet_model.specs.Sources.{is_apart}
use Rattle.fleet_model.specs.Work.Gates.{reserves_nodes}
use Rattle.fleet_model.specs.Invariants.JobsFit.{HoldApart}
use Rattle.fleet_model.specs.Work.PollStates.{PollState}
use Rattle.step_model.specs.LawfulRecords.{may_end}
use Rattle.step_laws.proofs.Elements.{IsIn, all_at, all_to, all_push, contains_no}
use Rattle.step_laws.proofs.NewJobs.{in_put, rise_put}
use Rattle.commit_laws.proofs.Midway.{only_job, apart_turned}
use Rattle.coordinator_laws.proofs.Marks.{Marks, did, did_id, did_nothing, did_unmarked, UnmarkedAt, change_one, marks_of, with_completed, with_failed, with_opened, add_tables, completes, fails, opens, completes_other, fails_other, opens_other, contains_push, firsts_push, done_push, moved_push, drained_push, lost_push, refused_push}
use Rattle.step_laws.proofs.Polls.{from_map}

-- ---- elements

-- A job with this id is among these, and the property holds of it.
abbrev pub Among : (Job → Type 0) → Jobs → ℕ → Type 0
Among P jobs id = (job : Job) × (IsIn job jobs × ((job.id ≡ id) × P job))

pub in_put_old : (new : Job) (jobs : Jobs) (job : Job) → IsIn job jobs → IsIn job (put_job new jobs)
in_put_old new [] job there = absurd there
in_put_old new (first ∷ jobs) job there = by (nat_lt new.id first.id) there (λ one. in_put_old new jobs job one)
  where
    by : (b : Bool) → (first ≡ job) ⊎ IsIn job jobs → (IsIn job jobs → IsIn job (put_job new jobs)) → IsIn job (cond b (new ∷ first ∷ jobs) (first ∷ put_job new jobs))
    by true there rest = inr there
    by false (inl same) rest = inl same
    by false (inr one) rest = inr (rest one)

pub in_put_new : (new : Job) (jobs : Jobs) → IsIn new (put_job new jobs)
in_put_new new [] = inl refl
in_put_new new (first ∷ jobs) = by (nat_lt new.id first.id) (in_put_new new jobs)
  where
    by : (b : Bool) → IsIn new (put_job new jobs) → IsIn new (cond b (new ∷ first ∷ jobs) (first ∷ put_job new jobs))
    by true rest = inl refl
    by false rest = inr rest

pub new_push : (named : List (ℕ × JobSpec)) (q : ℕ × JobSpec) (jobs : Jobs) → with_new (named ++ q ∷ []) jobs ≡ put_job (new_job q) (with_new named jobs)
new_push [] q jobs = refl
new_push (p ∷ named) q jobs = new_push named q (put_job (new_job p) jobs)

map_put : (f : Job → Job) (new : Job) (jobs : Jobs) → ((job : Job) → (f job).id ≡ job.id) → map f (put_job new jobs) ≡ put_job (f new) (map f jobs)
map_put f new [] ids = refl
map_put f new (job ∷ jobs) ids = by (nat_lt new.id job.id) (nat_lt (f new).id (f job).id) (λ i. nat_lt (sym (ids new) i) (sym (ids job) i)) (map_put f new jobs ids)
  where
    by : (b c : Bool) → b ≡ c → map f (put_job new jobs) ≡ put_job (f new) (map f jobs) → map f (cond b (new ∷ job ∷ jobs) (job ∷ put_job new jobs)) ≡ cond c (f new ∷ f job ∷ map f jobs) (f job ∷ put_job (f new) (map f jobs))
    by true true e rest = refl
    by false false e rest = ap (λ js. f job ∷ js) rest
    by true false e rest = absurd (cc e)
    by false true e rest = absurd (cc e)

-- ---- nodes that are held once

-- No two of these jobs hold the same node.
abbrev pub HeldApart : Jobs → Type 0
HeldApart jobs = (x y : Job) → IsIn x jobs → IsIn y jobs → (x.id ≡ y.id → ⊥) → HoldApart x y

-- A job that came from another one: it holds nodes only if that one does.
pub record Holds (jobs : Jobs) (new : Job) : Type 0 where
  pub old : Job
  pub there : IsIn old jobs
  pub id : old.id ≡ new.id
  pub spec : old.spec ≡ new.spec
  pub holds : IsTrue (reserves_nodes new) → IsTrue (reserves_nodes old)

pub held_from : (old new : Jobs) → ((x : Job) → IsIn x new → Holds old x) → HeldApart old → HeldApart new
held_from old new from h x y one other differs first second =
    let a = from x one in
    let b = from y other in
    subst (λ s. IsTrue (is_apart (nodes_of s) (nodes_of y.spec))) a.spec (subst (λ s. IsTrue (is_apart (nodes_of a.old.spec) (nodes_of s))) b.spec
    (h a.old b.old a.there b.there (λ same. differs (sym a.id ∙ same ∙ b.id)) (a.holds first) (b.holds second)))

-- A changed job, or one that stays.
pub data Changes (f : Job → Job) (id : ℕ) (jobs : Jobs) (x : Job) : Type 0 where
  IsChanged : (old : Job) → IsIn old jobs → id ≡ old.id → f old ≡ x → Changes f id jobs x
  IsSame : IsIn x jobs → (id ≡ x.id → ⊥) → Changes f id jobs x

-- After a change of the job with an id, each job is that one changed, or a job with another id that was there before.
pub changes : (f : Job → Job) (id : ℕ) (jobs : Jobs) (x : Job) → IsIn x (changed_jobs f (id ∷ []) jobs) → Changes f id jobs x
changes f id [] x there = absurd there
changes f id (job ∷ jobs) x there = by (id == job.id) refl there (λ one. later (changes f id jobs x one))
  where
    later : Changes f id jobs x → Changes f id (job ∷ jobs) x
    later (IsChanged old one same is) = IsChanged old (inr one) same is
    later (IsSame one other) = IsSame (inr one) other

    unequal : (b : Bool) → b ≡ false → b ≡ true → ⊥
    unequal true e f = absurd (cc e)
    unequal false e f = absurd (cc f)

    by : (b : Bool) → (id == job.id) ≡ b → (cond (cond b true false) (f job) job ≡ x) ⊎ IsIn x (changed_jobs f (id ∷ []) jobs) → (IsIn x (changed_jobs f (id ∷ []) jobs) → Changes f id (job ∷ jobs) x) → Changes f id (job ∷ jobs) x
    by true e (inl is) rest = IsChanged job (inl refl) ((Decides-eqb id job.id).0 e) is
    by false e (inl is) rest = IsSame (inl is) (λ same. unequal (id == job.id) e ((Decides-eqb id job.id).1 (same ∙ ap (λ (j : Job). j.id) (sym is))))
    by b e (inr one) rest = rest one

-- A job that ends holds no node.
pub held_ended : (f : Job → Job) (id : ℕ) (jobs : Jobs) → ((job : Job) → (f job).id ≡ job.id) → ((job : Job) → (f job).spec ≡ job.spec) → ((job : Job) → IsTrue (reserves_nodes (f job)) → ⊥) → HeldApart jobs → HeldApart (changed_jobs f (id ∷ []) jobs)
held_ended f id jobs ids specs never h = held_from jobs (changed_jobs f (id ∷ []) jobs) (λ x there. by x (changes f id jobs x there)) h
  where
    by : (x : Job) → Changes f id jobs x → Holds jobs x
    by x (IsChanged old one same is) = record {
      old = old;
      there = one;
      id = sym (ids old) ∙ ap (λ (j : Job). j.id) is;
      spec = sym (specs old) ∙ ap (λ (j : Job). j.spec) is;
      holds = λ holds. absurd (never old (subst (λ (j : Job). IsTrue (reserves_nodes j)) (sym is) holds));
    }
    by x (IsSame one other) = record { old = x; there = one; id = refl; spec = refl; holds = λ holds. holds }

-- A job that is opened holds its nodes, which no other job holds.
pub held_opened : (f : Job → Job) (id : ℕ) (jobs : Jobs) → ((job : Job) → (f job).id ≡ job.id) → ((job : Job) → (f job).spec ≡ job.spec)
    → ((job other : Job) → IsIn job jobs → IsIn other jobs → id ≡ job.id → (id ≡ other.id → ⊥) → IsTrue (reserves_nodes other) → IsTrue (is_apart (nodes_of job.spec) (nodes_of other.spec))) → HeldApart jobs → HeldApart (changed_jobs f (id ∷ []) jobs)
held_opened f id jobs ids specs away h x y one other differs first second = by (changes f id jobs x one) (changes f id jobs y other)
  where
    at : (job z : Job) → IsIn job jobs → IsIn z jobs → id ≡ job.id → (id ≡ z.id → ⊥) → (w : Job) → f job ≡ w → IsTrue (reserves_nodes z) → IsTrue (is_apart (nodes_of w.spec) (nodes_of z.spec))
    at job z there here same not w is holds = subst (λ s. IsTrue (is_apart (nodes_of s) (nodes_of z.spec))) (sym (specs job) ∙ ap (λ (j : Job). j.spec) is) (away job z there here same not holds)

    by : Changes f id jobs x → Changes f id jobs y → IsTrue (is_apart (nodes_of x.spec) (nodes_of y.spec))
    by (IsChanged a there same is) (IsChanged b here equal are) = absurd (differs (ap (λ (j : Job). j.id) (sym is) ∙ ids a ∙ sym same ∙ equal ∙ sym (ids b) ∙ ap (λ (j : Job). j.id) are))
    by (IsChanged a there same is) (IsSame here not) = at a y there here same not x is second
    by (IsSame there not) (IsChanged b here same is) = apart_turned (nodes_of y.spec) (nodes_of x.spec) (at b x here there same not y is first)
    by (IsSame there not) (IsSame here nor) = h x y there here differs first second

pub held_put : (new : Job) (jobs : Jobs) → (IsTrue (reserves_nodes new) → ⊥) → HeldApart jobs → HeldApart (put_job new jobs)
held_put new jobs never h x y one other differs first second = by (in_put new jobs x one) (in_put new jobs y other)
  where
    by : (new ≡ x) ⊎ IsIn x jobs → (new ≡ y) ⊎ IsIn y jobs → IsTrue (is_apart (nodes_of x.spec) (nodes_of y.spec))
    by (inl same) there = absurd (never (subst (λ (j : Job). IsTrue (reserves_nodes j)) (sym same) first))
    by (inr there) (inl same) = absurd (never (subst (λ (j : Job). IsTrue (reserves_nodes j)) (sym same) second))
    by (inr there) (inr here) = h x y there here differs first second

-- ---- the jobs that were reached

abbrev pub IsRunning : Job → Type 0
IsRunning job = IsTrue (has_status Running job)

abbrev pub IsSubmitted : Job → Type 0
IsSubmitted job = IsTrue (has_status Submitted job)

abbrev pub IsCompacted : Job → Type 0
IsCompacted job = IsTrue (has_status Compacted job)

abbrev pub MayEnd : Job → Type 0
MayEnd job = IsTrue (may_end job)

pub submitted_ends : (job : Job) → IsSubmitted job → MayEnd job
submitted_ends job h = by (has_status Submitted job) (has_status Compacted job) h
  where
    by : (a b : Bool) → IsTrue a → IsTrue (a || b)
    by true b h = refl
    by false b h = absurd (cc h)

pub compacted_ends : (job : Job) → IsCompacted job → MayEnd job
compacted_ends job h = by (has_status Submitted job) (has_status Compacted job) h
  where
    by : (a b : Bool) → IsTrue b → IsTrue (a || b)
    by true b h = refl
    by false b h = h

-- The jobs of a poll's state: marks of the jobs that it got and added.
pub record JobsReached (got : Jobs) (p : PollState) : Type 0 where
  pub tables : ℕ → List ℕ
  pub are : p.jobs ≡ map (did (marks_of p tables)) (with_new p.added got)
  pub rise : Pairs (λ a b. a.id < b.id) (with_new p.added got)
  pub freed : AllByRecursion (Among IsRunning got) p.freed
  pub opened : AllByRecursion (Among IsSubmitted (with_new p.added got)) p.opened
  pub done : AllByRecursion (Among IsCompacted (with_new p.added got)) p.done
  pub moved : AllByRecursion (Among IsSubmitted (with_new p.added got)) p.moved
  pub drained : AllByRecursion (Among IsSubmitted (with_new p.added got)) p.drained
  pub lost : AllByRecursion (Among IsCompacted (with_new p.added got)) (firsts p.lost)
  pub refused : AllByRecursion (Among IsSubmitted (with_new p.added got)) (firsts p.refused)
  pub apart : HeldApart p.jobs

-- The job that a reached job comes from.
pub record From (got : Jobs) (p : PollState) (tables : ℕ → List ℕ) (job : Job) : Type 0 where
  pub base : Job
  pub there : IsIn base (with_new p.added got)
  pub is : did (marks_of p tables) base ≡ job

pub from_of : (got : Jobs) (p : PollState) (r : JobsReached got p) (job : Job) → IsIn job p.jobs → From got p r.tables job
from_of got p r job there =
    let found = from_map (did (marks_of p r.tables)) (with_new p.added got) job (subst (IsIn job) r.are there) in
    record { base = found.0; there = found.1.0; is = found.1.1 }

-- A job that may end comes from itself, without a mark.
pub record IsOwn (got : Jobs) (p : PollState) (tables : ℕ → List ℕ) (job : Job) : Type 0 where
  pub there : IsIn job (with_new p.added got)
  pub none : UnmarkedAt (marks_of p tables) job.id

pub is_own : (got : Jobs) (p : PollState) (r : JobsReached got p) (job : Job) → IsIn job p.jobs → MayEnd job → IsOwn got p r.tables job
is_own got p r job there ends =
    let f = from_of got p r job there in
    let none = did_unmarked (marks_of p r.tables) f.base (subst MayEnd (sym f.is) ends) in
    let same : f.base ≡ job = sym (did_nothing (marks_of p r.tables) f.base none) ∙ f.is in
    record { there = subst (λ j. IsIn j (with_new p.added got)) same f.there; none = subst (λ (j : Job). UnmarkedAt (marks_of p r.tables) j.id) same none }

-- One more mark at a job that may end.
mark_one : (got : Jobs) (p : PollState) (r : JobsReached got p) (job : Job) (f : Job → Job) (new : Marks) → IsIn job p.jobs → MayEnd job
    → ((other : Job) → (job.id == other.id) ≡ false → did new other ≡ did (marks_of p r.tables) other) → (UnmarkedAt (marks_of p r.tables) job.id → f (did (marks_of p r.tables) job) ≡ did new job)
    → changed_jobs f (job.id ∷ []) p.jobs ≡ map (did new) (with_new p.added got)
mark_one got p r job f new there ends others one =
    let own = is_own got p r job there ends in
    ap (changed_jobs f (job.id ∷ [])) r.are
    ∙ change_one (marks_of p r.tables) new f job.id (with_new p.added got) (λ other here e. others other e)
    (λ other here same. subst (λ (j : Job). f (did (marks_of p r.tables) j) ≡ did new j) (only_job (with_new p.added got) job other r.rise own.there here same) (one own.none))

pub own_among : (got : Jobs) (p : PollState) (r : JobsReached got p) (P : Job → Type 0) (job : Job) → IsIn job p.jobs → MayEnd job → P job → Among P (with_new p.added got) job.id
own_among got p r P job there ends h = (job, ((is_own got p r job there ends).there, (refl, h)))

all_firsts_push : (P : ℕ → Type 0) (xs : List (ℕ × ℕ)) (id rule : ℕ) → AllByRecursion P (firsts xs) → P id → AllByRecursion P (firsts (xs ++ (id, rule) ∷ []))
all_firsts_push P xs id rule h one = subst (AllByRecursion P) (sym (firsts_push xs (id, rule))) (all_push P (firsts xs) id h one)

-- ---- the steps

-- The jobs of a poll are still marks of those that it got and added after it commits a Compacted one.
pub reached_done : (got : Jobs) (p new : PollState) (job : Job) → (r : JobsReached got p) → IsIn job p.jobs → IsCompacted job
    → new ≡ record p { trees = new.trees; horizon = new.horizon; jobs = changed_jobs to_completed (job.id ∷ []) p.jobs; steps = new.steps; done = p.done ++ job.id ∷ [] } → JobsReached got new
reached_done got p new job r there status is = subst (JobsReached got) (sym is) (record {
  tables = r.tables;
  are = mark_one got p r job to_completed (with_completed job.id (marks_of p r.tables)) there (compacted_ends job status) (λ other e. completes_other (marks_of p r.tables) other job.id e) (λ none. completes (marks_of p r.tables) job none)
      ∙ (λ i. map (did (record (marks_of p r.tables) { completed = λ n. sym (done_push p.done p.moved p.drained job.id n) i })) (with_new p.added got));
  rise = r.rise;
  freed = r.freed;
  opened = r.opened;
  done = all_push _ p.done job.id r.done (own_among got p r IsCompacted job there (compacted_ends job status) status);
  moved = r.moved;
  drained = r.drained;
  lost = r.lost;
  refused = r.refused;
  apart = held_ended to_completed job.id p.jobs (λ j. refl) (λ j. refl) (λ j holds. cc holds) r.apart;
})

-- The jobs of a poll are still marks of those that it got and added after it moves a Submitted one.
pub reached_moved : (got : Jobs) (p new : PollState) (job : Job) → (r : JobsReached got p) → IsIn job p.jobs → IsSubmitted job
    → new ≡ record p { trees = new.trees; jobs = changed_jobs to_completed (job.id ∷ []) p.jobs; steps = new.steps; moved = p.moved ++ job.id ∷ [] } → JobsReached got new
reached_moved got p new job r there status is = subst (JobsReached got) (sym is) (record {
  tables = r.tables;
  are = mark_one got p r job to_completed (with_completed job.id (marks_of p r.tables)) there (submitted_ends job status) (λ other e. completes_other (marks_of p r.tables) other job.id e) (λ none. completes (marks_of p r.tables) job none)
      ∙ (λ i. map (did (record (marks_of p r.tables) { completed = λ n. sym (moved_push p.done p.moved p.drained job.id n) i })) (with_new p.added got));
  rise = r.rise;
  freed = r.freed;
  opened = r.opened;
  done = r.done;
  moved = all_push _ p.moved job.id r.moved (own_among got p r IsSubmitted job there (submitted_ends job status) status);
  drained = r.drained;
  lost = r.lost;
  refused = r.refused;
  apart = held_ended to_completed job.id p.jobs (λ j. refl) (λ j. refl) (λ j holds. cc holds) r.apart;
})

-- The jobs of a poll are still marks of those that it got and added after it drains a Submitted one.
pub reached_drained : (got : Jobs) (p new : PollState) (job : Job) → (r : JobsReached got p) → IsIn job p.jobs → IsSubmitted job
    → new ≡ record p { trees = new.trees; jobs = changed_jobs to_completed (job.id ∷ []) p.jobs; steps = new.steps; drained = p.drained ++ job.id ∷ [] } → JobsReached got new
reached_drained got p new job r there status is = subst (JobsReached got) (sym is) (record {
  tables = r.tables;
  are = mark_one got p r job to_completed (with_completed job.id (marks_of p r.tables)) there (submitted_ends job status) (λ other e. completes_other (marks_of p r.tables) other job.id e) (λ none. completes (marks_of p r.tables) job none)
      ∙ (λ i. map (did (record (marks_of p r.tables) { completed = λ n. sym (drained_push p.done p.moved p.drained job.id n) i })) (with_new p.added got));
  rise = r.rise;
  freed = r.freed;
  opened = r.opened;
  done = r.done;
  moved = r.moved;
  drained = all_push _ p.drained job.id r.drained (own_among got p r IsSubmitted job there (submitted_ends job status) status);
  lost = r.lost;
  refused = r.refused;
  apart = held_ended to_completed job.id p.jobs (λ j. refl) (λ j. refl) (λ j holds. cc holds) r.apart;
})

-- The jobs of a poll are still marks of those that it got and added after the commit of a Compacted one fails.
pub reached_lost : (got : Jobs) (p : PollState) (job : Job) (rule : ℕ) → (r : JobsReached got p) → IsIn job p.jobs → IsCompacted job → JobsReached got (record p { jobs = changed_jobs to_failed (job.id ∷ []) p.jobs; lost = p.lost ++ (job.id, rule) ∷ [] })
reached_lost got p job rule r there status = record {
  tables = r.tables;
  are = mark_one got p r job to_failed (with_failed job.id (marks_of p r.tables)) there (compacted_ends job status) (λ other e. fails_other (marks_of p r.tables) other job.id e) (λ none. fails (marks_of p r.tables) job none)
      ∙ (λ i. map (did (record (marks_of p r.tables) { failed = λ n. sym (lost_push p.lost p.refused job.id rule n) i })) (with_new p.added got));
  rise = r.rise;
  freed = r.freed;
  opened = r.opened;
  done = r.done;
  moved = r.moved;
  drained = r.drained;
  lost = all_firsts_push _ p.lost job.id rule r.lost (own_among got p r IsCompacted job there (compacted_ends job status) status);
  refused = r.refused;
  apart = held_ended to_failed job.id p.jobs (λ j. refl) (λ j. refl) (λ j holds. cc holds) r.apart;
}

-- The jobs of a poll are still marks of those that it got and added after it refuses a Submitted one.
pub reached_refused : (got : Jobs) (p : PollState) (job : Job) (rule : ℕ) → (r : JobsReached got p) → IsIn job p.jobs → IsSubmitted job → JobsReached got (record p { jobs = changed_jobs to_failed (job.id ∷ []) p.jobs; refused = p.refused ++ (job.id, rule) ∷ [] })
reached_refused got p job rule r there status = record {
  tables = r.tables;
  are = mark_one got p r job to_failed (with_failed job.id (marks_of p r.tables)) there (submitted_ends job status) (λ other e. fails_other (marks_of p r.tables) other job.id e) (λ none. fails (marks_of p r.tables) job none)
      ∙ (λ i. map (did (record (marks_of p r.tables) { failed = λ n. sym (refused_push p.lost p.refused job.id rule n) i })) (with_new p.added got));
  rise = r.rise;
  freed = r.freed;
  opened = r.opened;
  done = r.done;
  moved = r.moved;
  drained = r.drained;
  lost = r.lost;
  refused = all_firsts_push _ p.refused job.id rule r.refused (own_among got p r IsSubmitted job there (submitted_ends job status) status);
  apart = held_ended to_failed job.id p.jobs (λ j. refl) (λ j. refl) (λ j holds. cc holds) r.apart;
}

-- What an opened job holds is apart from what other jobs hold.
abbrev pub IsAwayFrom : Job → Jobs → Type 0
IsAwayFrom job jobs = (other : Job) → IsIn other jobs → (job.id ≡ other.id → ⊥) → IsTrue (reserves_nodes other) → IsTrue (is_apart (nodes_of job.spec) (nodes_of other.spec))

-- The jobs of a poll are still marks of those that it got and added after it opens one whose nodes no other holds.
pub reached_opened : (got : Jobs) (p : PollState) (job : Job) (tables_of : JobSpec → List ℕ) → (r : JobsReached got p) → IsIn job p.jobs → IsSubmitted job → IsAwayFrom job p.jobs
    → JobsReached got (record p { jobs = changed_jobs (to_scheduled tables_of) (job.id ∷ []) p.jobs; opened = p.opened ++ job.id ∷ [] })
reached_opened got p job tables_of r there submitted away = record {
  tables = add_tables job.id (tables_of job.spec) r.tables;
  are = same_change
      ∙ mark_one got p r job (to_scheduled (λ spec. tables_of job.spec)) (with_opened job.id (tables_of job.spec) (marks_of p r.tables)) there (submitted_ends job submitted)
      (λ other e. opens_other (marks_of p r.tables) other job.id (tables_of job.spec) e) (λ none. opens (marks_of p r.tables) job (tables_of job.spec) none)
      ∙ (λ i. map (did (record (marks_of p r.tables) { opened = λ n. sym (contains_push p.opened job.id n) i; tables = add_tables job.id (tables_of job.spec) r.tables })) (with_new p.added got));
  rise = r.rise;
  freed = r.freed;
  opened = all_push _ p.opened job.id r.opened (own_among got p r IsSubmitted job there (submitted_ends job submitted) submitted);
  done = r.done;
  moved = r.moved;
  drained = r.drained;
  lost = r.lost;
  refused = r.refused;
  apart = held_opened (to_scheduled tables_of) job.id p.jobs (λ j. refl) (λ j. refl) (λ j other one here same not holds. subst (λ s. IsTrue (is_apart (nodes_of s) (nodes_of other.spec))) (spec_of j one same) (away other here not holds)) r.apart;
}
  where
    -- Reached jobs with one id have one spec.
    spec_of : (j : Job) → IsIn j p.jobs → job.id ≡ j.id → job.spec ≡ j.spec
    spec_of j one same =
        let f = from_of got p r job there in
        let g = from_of got p r j one in
        let m = marks_of p r.tables in
        let equal = only_job (with_new p.added got) f.base g.base r.rise f.there g.there (sym (did_id m f.base) ∙ ap (λ (x : Job). x.id) f.is ∙ same ∙ ap (λ (x : Job). x.id) (sym g.is) ∙ did_id m g.base) in
        ap (λ (x : Job). x.spec) (sym f.is ∙ ap (did m) equal ∙ g.is)

    change_at : (jobs : Jobs) → ((j : Job) → IsIn j jobs → job.id ≡ j.id → job.spec ≡ j.spec) → changed_jobs (to_scheduled tables_of) (job.id ∷ []) jobs ≡ changed_jobs (to_scheduled (λ spec. tables_of job.spec)) (job.id ∷ []) jobs
    change_at [] h = refl
    change_at (j ∷ jobs) h =
        let first = at (job.id == j.id) refl in
        let rest = change_at jobs (λ x one. h x (inr one)) in
        λ i. first i ∷ rest i
      where
        at : (b : Bool) → (job.id == j.id) ≡ b → cond (cond b true false) (to_scheduled tables_of j) j ≡ cond (cond b true false) (to_scheduled (λ spec. tables_of job.spec) j) j
        at true e = let same = h j (inl refl) ((Decides-eqb job.id j.id).0 e) in λ i. to_scheduled (λ spec. tables_of (sym same i)) j
        at false e = refl

    same_change : changed_jobs (to_scheduled tables_of) (job.id ∷ []) p.jobs ≡ changed_jobs (to_scheduled (λ spec. tables_of job.spec)) (job.id ∷ []) p.jobs
    same_change = change_at p.jobs spec_of

-- ---- new jobs

among_none : (P : Job → Type 0) (jobs : Jobs) (ids : List ℕ) (id : ℕ) → ((job : Job) → IsIn job jobs → id ≡ job.id → ⊥) → AllByRecursion (Among P jobs) ids → contains ids id ≡ false
among_none P jobs ids id new h = contains_no ids id (λ there. let found = all_at (Among P jobs) ids id h there in new found.0 found.1.0 (sym found.1.1.0))

among_grows : (P : Job → Type 0) (new : Job) (jobs : Jobs) (ids : List ℕ) → AllByRecursion (Among P jobs) ids → AllByRecursion (Among P (put_job new jobs)) ids
among_grows P new jobs ids h = all_to _ _ ids (λ id there found. (found.0, (in_put_old new jobs found.0 found.1.0, found.1.1))) h

pub in_new_old : (named : List (ℕ × JobSpec)) (jobs : Jobs) (job : Job) → IsIn job jobs → IsIn job (with_new named jobs)
in_new_old [] jobs job there = there
in_new_old (p ∷ named) jobs job there = in_new_old named (put_job (new_job p) jobs) job (in_put_old (new_job p) jobs job there)

none_of_three : (a b c : Bool) → a ≡ false → b ≡ false → c ≡ false → (a || (b || c)) ≡ false
none_of_three a b c e f g = rw (e, f, g) refl

none_of_two : (a b : Bool) → a ≡ false → b ≡ false → (a || b) ≡ false
none_of_two a b e f = rw (e, f) refl

-- The jobs of a poll are still marks of those that it got and added after it adds one with an id of its own.
pub reached_added : (got : Jobs) (p : PollState) (q : ℕ × JobSpec) → (r : JobsReached got p) → ((job : Job) → IsIn job (with_new p.added got) → q.0 ≡ job.id → ⊥)
    → JobsReached got (record p { jobs = put_job (new_job q) p.jobs; added = p.added ++ q ∷ [] })
reached_added got p q r new = record {
  tables = r.tables;
  are = ap (put_job (new_job q)) r.are ∙ sym (map_put (did (marks_of p r.tables)) (new_job q) (with_new p.added got) (λ job. did_id (marks_of p r.tables) job) ∙ ap (λ j. put_job j (map (did (marks_of p r.tables)) (with_new p.added got))) (did_nothing (marks_of p r.tables) (new_job q) none))
      ∙ ap (map (did (marks_of p r.tables))) grown;
  rise = subst (Pairs (λ a b. a.id < b.id)) grown (rise_put (new_job q) (with_new p.added got) new r.rise);
  freed = r.freed;
  opened = more IsSubmitted p.opened r.opened;
  done = more IsCompacted p.done r.done;
  moved = more IsSubmitted p.moved r.moved;
  drained = more IsSubmitted p.drained r.drained;
  lost = more IsCompacted (firsts p.lost) r.lost;
  refused = more IsSubmitted (firsts p.refused) r.refused;
  apart = held_put (new_job q) p.jobs (λ holds. cc holds) r.apart;
}
  where
    grown : put_job (new_job q) (with_new p.added got) ≡ with_new (p.added ++ q ∷ []) got
    grown = sym (new_push p.added q got)

    more : (P : Job → Type 0) (ids : List ℕ) → AllByRecursion (Among P (with_new p.added got)) ids → AllByRecursion (Among P (with_new (p.added ++ q ∷ []) got)) ids
    more P ids h = subst (λ jobs. AllByRecursion (Among P jobs) ids) grown (among_grows P (new_job q) (with_new p.added got) ids h)

    lacks : (P : Job → Type 0) (ids : List ℕ) → AllByRecursion (Among P (with_new p.added got)) ids → contains ids q.0 ≡ false
    lacks P ids h = among_none P (with_new p.added got) ids q.0 new h

    none : UnmarkedAt (marks_of p r.tables) q.0
    none = record {
      freed = among_none IsRunning got p.freed q.0 (λ job there. new job (in_new_old p.added got job there)) r.freed;
      opened = lacks IsSubmitted p.opened r.opened;
      completed = none_of_three (contains p.done q.0) (contains p.moved q.0) (contains p.drained q.0) (lacks IsCompacted p.done r.done) (lacks IsSubmitted p.moved r.moved) (lacks IsSubmitted p.drained r.drained);
      failed = none_of_two (contains (firsts p.lost) q.0) (contains (firsts p.refused) q.0) (lacks IsCompacted (firsts p.lost) r.lost) (lacks IsSubmitted (firsts p.refused) r.refused);
    }
