-- The four steps of a poll, job by job: what is reached stays so.
use Rattle.std.proofs.Common.{◌≡◌, ◌≢◌, refl, sym, ◌∙◌, ap, subst, ℕ, ◌+◌, ◌<◌, List, [], ◌∷◌, ◌++◌, cond, Bool, true, false, inl, inr, ◌⊎◌, Option, Some, None, arith}
use Rattle.std.specs.Prelude.{IsTrue, ◌||◌, map, filter}
use Rattle.std.specs.List.{AllByRecursion, list_any}
use Rattle.row_model.specs.Lists.{Pairs}
use Rattle.row_model.specs.Fold.{Operator}
use Rattle.fleet_model.specs.Nodes.{Trees}
use Rattle.fleet_model.specs.Jobs.{JobSpec, is_drain, Job, Jobs, Submitted, Scheduled, Running, Compacted, Status, status_eq, has_status, changed_jobs, put_job, is_stale, is_overdue, ids}
use Rattle.fleet_model.specs.History.{Party}
use Rattle.fleet_model.specs.Work.Records.{new_job, with_new, to_waiting, to_scheduled, to_completed, to_failed}
use Rattle.fleet_model.specs.Trees.{tables_now}
use Rattle.fleet_model.specs.Work.Gates.{commit_gate, submit_gate}
use Rattle.fleet_model.specs.Work.PollStates.{PollInput, PollState, poll_begun, accepts}
use Rattle.fleet_model.specs.Work.Polls.{free_stale, each, commit_by, commit_job, commit_finished, committed_poll, open_by, open_job, open_submitted, drain_job, move_job, schedule_job, can_move, lost_to_scheduler, add_by, add_drawn, clashes}
use Rattle.step_model.specs.Past.{World}
use Rattle.step_model.specs.Steps.PollSteps.{PollAsk, first_steps, freed_and_committed, last_steps}
use Rattle.step_laws.proofs.Elements.{IsIn, all_at, all_from, all_to, all_push, pairs_push, pairs_map, contains_in, in_front}
use Rattle.step_laws.proofs.NewJobs.{in_put, in_new}
use Rattle.step_laws.proofs.Changed.{by_these, all_on_these}
use Rattle.course_laws.proofs.Calls.{filtered, pairs_filter, all_map, both}
use Rattle.commit_laws.proofs.Midway.{only_job}
use Rattle.coordinator_laws.proofs.Marks.{Marks, did, did_id, marks_of}
use Rattle.coordinator_laws.proofs.Jobs.{Among, Holds, held_from, JobsReached, IsRunning, IsSubmitted, IsCompacted, reached_done, reached_moved, reached_drained, reached_lost, reached_refused, reached_opened, reached_added}
use Rattle.coordinator_laws.proofs.Names.{IsNamed}
use Rattle.coordinator_laws.proofs.Reached.{Case, TreesReached, trees_done, trees_lost, specs_on, none_opened}
use Rattle.coordinator_laws.proofs.Opens.{still_in, away_of, trees_refused, trees_scheduled, trees_drained, trees_moved}

-- What a poll reached: its trees and its jobs.
pub record Reached (party : Party) (h : World) (input : PollInput) (got : Jobs) (drawn : List (ℕ × JobSpec)) (own : ℕ → JobSpec) (start : Trees) (horizon : ℕ) (p : PollState) : Type 0 where
  pub trees : TreesReached party h input drawn own start horizon p
  pub jobs : JobsReached got p

-- ---- the jobs that are left

-- Reached jobs have rising ids.
pub jobs_rise : (got : Jobs) (p : PollState) → JobsReached got p → Pairs (λ a b. a.id < b.id) p.jobs
jobs_rise got p r = subst (Pairs (λ a b. a.id < b.id)) (sym r.are) (pairs_map (λ (a b : Job). a.id < b.id) (λ (a b : Job). a.id < b.id) (did (marks_of p r.tables)) (with_new p.added got)
    (λ x y one other low. let first = did_id (marks_of p r.tables) x in let second = did_id (marks_of p r.tables) y in omega (arith, low, first, second)) r.rise)

-- These jobs are reached, and have the property.
abbrev AreLeft : (Job → Type 0) → PollState → Jobs → Type 0
AreLeft P p jobs = AllByRecursion (λ job. IsIn job p.jobs × P job) jobs

left_in : (P : Job → Type 0) (test : Job → Bool) (p : PollState) → ((job : Job) → test job ≡ true → P job) → AreLeft P p (filter test p.jobs)
left_in P test p h = all_to _ _ (filter test p.jobs) (λ job there f. (f.0, h job f.1)) (filtered test p.jobs)

left_after : (P : Job → Type 0) (p new : PollState) (f : Job → Job) (job : Job) (jobs : Jobs) → new.jobs ≡ changed_jobs f (job.id ∷ []) p.jobs → AllByRecursion (λ (other : Job). job.id < other.id) jobs → AreLeft P p jobs → AreLeft P new jobs
left_after P p new f job jobs is low h = all_to _ _ jobs (λ other there left.
    (subst (IsIn other) (sym is) (still_in f job.id p.jobs other left.0 (λ same. let above = all_at (λ (o : Job). job.id < o.id) jobs other low there in absurd (omega (arith, above, same)))), left.1)) h

-- ---- commits

-- What a poll reached stays so after it commits a Compacted job or fails it.
commit_one : {merge : Operator} {party : Party} {h : World} {input : PollInput} {got : Jobs} {drawn : List (ℕ × JobSpec)} {start : Trees} {own : ℕ → JobSpec} {horizon : ℕ} {p : PollState}
    → Case merge party h input got drawn start → Reached party h input got drawn own start horizon p → (job : Job) → IsIn job p.jobs → IsCompacted job → p.opened ≡ [] → (rule : Option ℕ) → commit_gate p.trees (accepts input p) job ≡ rule
    → Reached party h input got drawn own start horizon (commit_by input job rule p)
commit_one {input = input} {got} {p = p} c s job there compacted none None gate = record {
  trees = trees_done c s.trees s.jobs job there compacted none gate;
  jobs = reached_done got p (commit_by input job None p) job s.jobs there compacted refl;
}
commit_one {got = got} {p = p} c s job there compacted none (Some rule) gate = record {
  trees = trees_lost c s.trees s.jobs job rule there compacted none gate;
  jobs = reached_lost got p job rule s.jobs there compacted;
}

-- What a poll reached stays so after it commits or fails all these Compacted jobs, and no job is opened by that.
commits : {merge : Operator} {party : Party} {h : World} {input : PollInput} {got : Jobs} {drawn : List (ℕ × JobSpec)} {start : Trees} {own : ℕ → JobSpec} {horizon : ℕ}
    → Case merge party h input got drawn start → (jobs : Jobs) (p : PollState) → Reached party h input got drawn own start horizon p → p.opened ≡ [] → Pairs (λ a b. a.id < b.id) jobs → AreLeft IsCompacted p jobs
    → Reached party h input got drawn own start horizon (each (commit_job input) jobs p) × ((each (commit_job input) jobs p).opened ≡ [])
commits c [] p s none rise left = (s, none)
commits {merge} {party} {h} {input} {got} {drawn} {start} {own} {horizon} c (job ∷ jobs) p s none rise left = by (commit_gate p.trees (accepts input p) job) refl (λ q s none left. commits c jobs q s none rise.1 left)
  where
    More : PollState → Type 0
    More q = Reached party h input got drawn own start horizon (each (commit_job input) jobs q) × ((each (commit_job input) jobs q).opened ≡ [])

    by : (rule : Option ℕ) → commit_gate p.trees (accepts input p) job ≡ rule → ((q : PollState) → Reached party h input got drawn own start horizon q → q.opened ≡ [] → AreLeft IsCompacted q jobs → More q) → More (commit_by input job rule p)
    by None gate more = more (commit_by input job None p) (commit_one c s job left.0.0 left.0.1 none None gate) none (left_after IsCompacted p (commit_by input job None p) to_completed job jobs refl rise.0 left.1)
    by (Some rule) gate more = more (commit_by input job (Some rule) p) (commit_one c s job left.0.0 left.0.1 none (Some rule) gate) none (left_after IsCompacted p (commit_by input job (Some rule) p) to_failed job jobs refl rise.0 left.1)

pub all_commits : {merge : Operator} {party : Party} {h : World} {input : PollInput} {got : Jobs} {drawn : List (ℕ × JobSpec)} {start : Trees} {own : ℕ → JobSpec} {horizon : ℕ} {p : PollState}
    → Case merge party h input got drawn start → Reached party h input got drawn own start horizon p → p.opened ≡ [] → Reached party h input got drawn own start horizon (commit_finished input p) × ((commit_finished input p).opened ≡ [])
all_commits {got = got} {p = p} c s none = commits c (filter (has_status Compacted) p.jobs) p s none (pairs_filter (λ (a b : Job). a.id < b.id) (has_status Compacted) p.jobs (jobs_rise got p s.jobs)) (left_in IsCompacted (has_status Compacted) p (λ job e. e))

-- ---- the beginning

map_did_none : (m : Marks) (jobs : Jobs) → ((job : Job) → did m job ≡ job) → map (did m) jobs ≡ jobs
map_did_none m [] e = refl
map_did_none m (job ∷ jobs) e = let first = e job in let rest = map_did_none m jobs e in λ i. first i ∷ rest i

-- As it begins, a poll has reached the trees and the jobs that it got.
pub reached_begun : {merge : Operator} {party : Party} {h : World} {input : PollInput} {got : Jobs} {drawn : List (ℕ × JobSpec)} {own : ℕ → JobSpec}
    → Case merge party h input got drawn input.manifest.trees → AllByRecursion (λ (job : Job). own job.id ≡ job.spec) got
    → Reached party h input got drawn own input.manifest.trees input.manifest.horizon (poll_begun input.manifest.trees input.manifest.horizon got)
reached_begun {input = input} {got = got} c specs = record {
  trees = record { fits = tt; known = tt; pieces = c.pieces; are = refl; horizon_is = refl; joined = λ n. refl; lost = tt; opened = tt; specs = specs; added = tt; covered = tt };
  jobs = record {
    tables = λ n. [];
    are = sym (map_did_none (marks_of (poll_begun input.manifest.trees input.manifest.horizon got) (λ n. [])) got (λ job. refl));
    rise = c.rise;
    freed = tt;
    opened = tt;
    done = tt;
    moved = tt;
    drained = tt;
    lost = tt;
    refused = tt;
    apart = c.apart;
  };
}

stale_runs : (timeout moment : ℕ) (job : Job) → is_stale timeout moment job ≡ true → IsRunning job
stale_runs timeout moment job e = (both (has_status Running job) (is_overdue timeout moment job.lease) e).0

-- After it frees stale jobs, a poll has reached the trees that it got, and the jobs with those freed.
pub reached_freed : {merge : Operator} {party : Party} {h : World} {input : PollInput} {got : Jobs} {drawn : List (ℕ × JobSpec)} {own : ℕ → JobSpec}
    → Case merge party h input got drawn input.manifest.trees → AllByRecursion (λ (job : Job). own job.id ≡ job.spec) got
    → Reached party h input got drawn own input.manifest.trees input.manifest.horizon (free_stale input (poll_begun input.manifest.trees input.manifest.horizon got))
reached_freed {input = input} {got = got} {own = own} c specs = record {
  trees = record { fits = tt; known = tt; pieces = c.pieces; are = refl; horizon_is = refl; joined = λ n. refl; lost = tt; opened = tt; specs = specs_on own to_waiting these got (λ j. refl) (λ j. refl) specs; added = tt; covered = tt };
  jobs = record {
    tables = λ n. [];
    are = refl;
    rise = c.rise;
    freed = freed;
    opened = tt;
    done = tt;
    moved = tt;
    drained = tt;
    lost = tt;
    refused = tt;
    apart = held_from got (changed_jobs to_waiting these got) (λ x there. all_at (Holds got) (changed_jobs to_waiting these got) x holds there) c.apart;
  };
}
  where
    these : List ℕ
    these = ids (filter (is_stale input.options.timeout input.moment) got)

    freed : AllByRecursion (Among IsRunning got) these
    freed = all_map (Among IsRunning got) (λ (job : Job). job.id) (filter (is_stale input.options.timeout input.moment) got)
        (all_to _ _ (filter (is_stale input.options.timeout input.moment) got) (λ job there f. (job, (f.0, (refl, stale_runs input.options.timeout input.moment job f.1)))) (filtered (is_stale input.options.timeout input.moment) got))

    running_holds : (s : Status) → IsTrue (status_eq Running s) → IsTrue (status_eq Scheduled s || status_eq Running s || status_eq Compacted s)
    running_holds s h = by (status_eq Scheduled s) (status_eq Running s) (status_eq Compacted s) h
      where
        by : (a b c : Bool) → IsTrue b → IsTrue (a || b || c)
        by true b c h = refl
        by false true c h = refl
        by false false c h = absurd (cc h)

    holds : AllByRecursion (Holds got) (changed_jobs to_waiting these got)
    holds = all_on_these (Holds got) to_waiting these got (λ job there. by_these (Holds got) to_waiting these job
        (λ named.
        let found = all_at (Among IsRunning got) these job.id freed (contains_in these job.id named) in
        let runs = subst IsRunning (only_job got found.0 job c.rise found.1.0 there found.1.1.0) found.1.1.1 in
        record { old = job; there = there; id = refl; spec = refl; holds = λ holds. running_holds job.status runs })
        (λ other. record { old = job; there = there; id = refl; spec = refl; holds = λ holds. holds }))

-- ---- proposals

-- What a poll reached stays so after it adds a job with an id that it drew and has not used yet.
add_one : {merge : Operator} {party : Party} {h : World} {input : PollInput} {got : Jobs} {drawn : List (ℕ × JobSpec)} {start : Trees} {own : ℕ → JobSpec} {horizon : ℕ} {p : PollState}
    → Case merge party h input got drawn start → AllByRecursion (λ q. own q.0 ≡ q.1) drawn → Reached party h input got drawn own start horizon p → p.opened ≡ [] → (q : ℕ × JobSpec) → IsIn q drawn → ((a : ℕ × JobSpec) → IsIn a p.added → q.0 ≡ a.0 → ⊥)
    → Reached party h input got drawn own start horizon (record p { jobs = put_job (new_job q) p.jobs; added = p.added ++ q ∷ [] })
add_one {got = got} {drawn = drawn} {own = own} {p = p} c specs s none q there new = record {
  trees = record {
    fits = s.trees.fits;
    known = s.trees.known;
    pieces = s.trees.pieces;
    are = s.trees.are;
    horizon_is = s.trees.horizon_is;
    joined = s.trees.joined;
    lost = s.trees.lost;
    opened = none_opened _ p.opened none;
    specs = all_from _ (put_job (new_job q) p.jobs) (λ job one. by job (in_put (new_job q) p.jobs job one));
    added = all_push _ p.added q s.trees.added there;
    covered = all_to _ _ p.steps (λ step one is_named none. still_named (is_named none)) s.trees.covered;
  };
  jobs = reached_added got p q s.jobs (λ job one same. other job same (in_new p.added got job one));
}
  where
    still_named : {id : ℕ} → IsNamed own p.added id → IsNamed own (p.added ++ q ∷ []) id
    still_named n = record { p = n.p; there = in_front n.p p.added (q ∷ []) n.there; id = n.id; spec = n.spec }

    by : (job : Job) → (new_job q ≡ job) ⊎ IsIn job p.jobs → own job.id ≡ job.spec
    by job (inl same) = subst (λ (j : Job). own j.id ≡ j.spec) same (all_at (λ (x : ℕ × JobSpec). own x.0 ≡ x.1) drawn q specs there)
    by job (inr one) = all_at (λ (j : Job). own j.id ≡ j.spec) p.jobs job s.trees.specs one

    other : (job : Job) → q.0 ≡ job.id → ((a : ℕ × JobSpec) × (IsIn a p.added × (new_job a ≡ job))) ⊎ IsIn job got → ⊥
    other job same (inl found) = new found.0 found.1.0 (same ∙ ap (λ (j : Job). j.id) (sym found.1.1))
    other job same (inr one) = c.new_ids q job there one same

pub in_pushed : {A : Type 0} (xs : List A) (x y : A) → IsIn y (xs ++ x ∷ []) → IsIn y xs ⊎ (x ≡ y)
in_pushed [] x y (inl same) = inr same
in_pushed [] x y (inr never) = absurd never
in_pushed (z ∷ xs) x y (inl same) = inl (inl same)
in_pushed {A} (z ∷ xs) x y (inr there) = by (in_pushed xs x y there)
  where
    by : IsIn y xs ⊎ (x ≡ y) → IsIn y (z ∷ xs) ⊎ (x ≡ y)
    by (inl one) = inl (inr one)
    by (inr same) = inr same

-- What a poll reached stays so after it adds or drops all these proposals, and no job is opened by that.
pub adds : {merge : Operator} {party : Party} {h : World} {input : PollInput} {got : Jobs} {drawn : List (ℕ × JobSpec)} {start : Trees} {own : ℕ → JobSpec} {horizon : ℕ}
    → Case merge party h input got drawn start → AllByRecursion (λ q. own q.0 ≡ q.1) drawn → (place : ℕ) (rest : List (ℕ × JobSpec)) (p : PollState) → Reached party h input got drawn own start horizon p → p.opened ≡ []
    → AllByRecursion (λ q. IsIn q drawn) rest → Pairs (λ p q. p.0 ≢ q.0) rest → ((q a : ℕ × JobSpec) → IsIn q rest → IsIn a p.added → q.0 ≡ a.0 → ⊥)
    → Reached party h input got drawn own start horizon (add_drawn place rest p) × ((add_drawn place rest p).opened ≡ [])
adds c specs place [] p s none those once new = (s, none)
adds {merge} {party} {h} {input} {got} {drawn} {start} {own} {horizon} c specs place (q ∷ rest) p s none those once new = by (list_any (clashes q.1) p.jobs) (λ n s none new. adds c specs (place + 1) rest n s none those.1 once.1 new)
  where
    by : (b : Bool) → ((n : PollState) → Reached party h input got drawn own start horizon n → n.opened ≡ [] → ((x a : ℕ × JobSpec) → IsIn x rest → IsIn a n.added → x.0 ≡ a.0 → ⊥)
        → Reached party h input got drawn own start horizon (add_drawn (place + 1) rest n) × ((add_drawn (place + 1) rest n).opened ≡ [])) → Reached party h input got drawn own start horizon (add_drawn (place + 1) rest (add_by q.0 place q.1 b p)) × ((add_drawn (place + 1) rest (add_by q.0 place q.1 b p)).opened ≡ [])
    by true more = more (record p { dropped = p.dropped ++ place ∷ [] }) (record { trees = same_trees; jobs = same_jobs }) none (λ x a there one. new x a (inr there) one)
      where
        same_trees : TreesReached party h input drawn own start horizon (record p { dropped = p.dropped ++ place ∷ [] })
        same_trees = record { fits = s.trees.fits; known = s.trees.known; pieces = s.trees.pieces; are = s.trees.are; horizon_is = s.trees.horizon_is; joined = s.trees.joined; lost = s.trees.lost; opened = s.trees.opened; specs = s.trees.specs; added = s.trees.added; covered = s.trees.covered }

        same_jobs : JobsReached got (record p { dropped = p.dropped ++ place ∷ [] })
        same_jobs = record {
          tables = s.jobs.tables;
          are = s.jobs.are;
          rise = s.jobs.rise;
          freed = s.jobs.freed;
          opened = s.jobs.opened;
          done = s.jobs.done;
          moved = s.jobs.moved;
          drained = s.jobs.drained;
          lost = s.jobs.lost;
          refused = s.jobs.refused;
          apart = s.jobs.apart;
        }
    by false more = more (record p { jobs = put_job (new_job (q.0, q.1)) p.jobs; added = p.added ++ (q.0, q.1) ∷ [] }) (add_one c specs s none q those.0 (λ a one same. new q a (inl refl) one same)) none
        (λ x a there one. at x a there (in_pushed p.added q a one))
      where
        at : (x a : ℕ × JobSpec) → IsIn x rest → IsIn a p.added ⊎ (q ≡ a) → x.0 ≡ a.0 → ⊥
        at x a there (inl one) same = new x a (inr there) one same
        at x a there (inr is) same = all_at (λ (y : ℕ × JobSpec). q.0 ≢ y.0) rest x once.0 there (ap (λ (y : ℕ × JobSpec). y.0) is ∙ sym same)

-- ---- submitted jobs

-- What a poll reached stays so after it drains, moves or opens a Submitted job that passes the gate.
open_one : {merge : Operator} {party : Party} {h : World} {input : PollInput} {got : Jobs} {drawn : List (ℕ × JobSpec)} {start : Trees} {own : ℕ → JobSpec} {horizon : ℕ} {p : PollState}
    → Case merge party h input got drawn start → Reached party h input got drawn own start horizon p → (job : Job) → IsIn job p.jobs → IsSubmitted job → (drains moves : Bool) → is_drain job.spec ≡ drains → can_move input p.trees job.spec ≡ moves
    → submit_gate p.trees p.jobs (lost_to_scheduler p.lost) (accepts input p) job ≡ None
    → Reached party h input got drawn own start horizon (cond drains (drain_job input job p) (cond moves (move_job input job p) (schedule_job job p)))
open_one {input = input} {got = got} {p = p} c s job there submitted true moves drain may gate = record {
  trees = trees_drained c s.trees s.jobs job there submitted drain gate;
  jobs = reached_drained got p (drain_job input job p) job s.jobs there submitted refl;
}
open_one {input = input} {got = got} {p = p} c s job there submitted false true drain may gate = record {
  trees = trees_moved c s.trees s.jobs job there submitted drain may gate;
  jobs = reached_moved got p (move_job input job p) job s.jobs there submitted refl;
}
open_one {input = input} {got = got} {p = p} c s job there submitted false false drain may gate = record {
  trees = trees_scheduled c s.trees s.jobs job there submitted drain gate;
  jobs = reached_jobs;
}
  where
    reached_jobs : JobsReached got (schedule_job job p)
    reached_jobs = reached_opened got p job (tables_now p.trees) s.jobs there submitted (away_of p.trees p input job gate)

-- What a poll reached stays so after it opens, moves, drains or refuses all these Submitted jobs.
opens_all : {merge : Operator} {party : Party} {h : World} {input : PollInput} {got : Jobs} {drawn : List (ℕ × JobSpec)} {start : Trees} {own : ℕ → JobSpec} {horizon : ℕ}
    → Case merge party h input got drawn start → (jobs : Jobs) (p : PollState) → Reached party h input got drawn own start horizon p → Pairs (λ a b. a.id < b.id) jobs → AreLeft IsSubmitted p jobs
    → Reached party h input got drawn own start horizon (each (open_job input) jobs p)
opens_all c [] p s rise left = s
opens_all {merge} {party} {h} {input} {got} {drawn} {start} {own} {horizon} c (job ∷ jobs) p s rise left = by (submit_gate p.trees p.jobs (lost_to_scheduler p.lost) (accepts input p) job) refl (λ q s left. opens_all c jobs q s rise.1 left)
  where
    More : Type 0
    More = (q : PollState) → Reached party h input got drawn own start horizon q → AreLeft IsSubmitted q jobs → Reached party h input got drawn own start horizon (each (open_job input) jobs q)

    goes : More → (drains moves : Bool) → is_drain job.spec ≡ drains → can_move input p.trees job.spec ≡ moves → submit_gate p.trees p.jobs (lost_to_scheduler p.lost) (accepts input p) job ≡ None
        → Reached party h input got drawn own start horizon (each (open_job input) jobs (cond drains (drain_job input job p) (cond moves (move_job input job p) (schedule_job job p))))
    goes more true moves drain may gate = more (drain_job input job p) (open_one c s job left.0.0 left.0.1 true moves drain may gate) (left_after IsSubmitted p (drain_job input job p) to_completed job jobs refl rise.0 left.1)
    goes more false true drain may gate = more (move_job input job p) (open_one c s job left.0.0 left.0.1 false true drain may gate) (left_after IsSubmitted p (move_job input job p) to_completed job jobs refl rise.0 left.1)
    goes more false false drain may gate = more (schedule_job job p) (open_one c s job left.0.0 left.0.1 false false drain may gate)
        (left_after IsSubmitted p (schedule_job job p) (to_scheduled (tables_now p.trees)) job jobs refl rise.0 left.1)

    by : (rule : Option ℕ) → submit_gate p.trees p.jobs (lost_to_scheduler p.lost) (accepts input p) job ≡ rule → More → Reached party h input got drawn own start horizon (each (open_job input) jobs (open_by input job rule p))
    by None gate more = goes more (is_drain job.spec) (can_move input p.trees job.spec) refl refl gate
    by (Some rule) gate more = more (open_by input job (Some rule) p)
        (record { trees = trees_refused c s.trees s.jobs job rule left.0.0 left.0.1; jobs = reached_refused got p job rule s.jobs left.0.0 left.0.1 })
        (left_after IsSubmitted p (open_by input job (Some rule) p) to_failed job jobs refl rise.0 left.1)

pub all_opened : {merge : Operator} {party : Party} {h : World} {input : PollInput} {got : Jobs} {drawn : List (ℕ × JobSpec)} {start : Trees} {own : ℕ → JobSpec} {horizon : ℕ} {p : PollState}
    → Case merge party h input got drawn start → Reached party h input got drawn own start horizon p → Reached party h input got drawn own start horizon (open_submitted input p)
all_opened {got = got} {p = p} c s = opens_all c (filter (has_status Submitted) p.jobs) p s (pairs_filter (λ (a b : Job). a.id < b.id) (has_status Submitted) p.jobs (jobs_rise got p s.jobs)) (left_in IsSubmitted (has_status Submitted) p (λ job e. e))

-- ---- all steps

none_added : (input : PollInput) (jobs : Jobs) (p : PollState) → p.added ≡ [] → (each (commit_job input) jobs p).added ≡ []
none_added input [] p e = e
none_added input (job ∷ jobs) p e = none_added input jobs (commit_job input job p) (at (commit_gate p.trees (accepts input p) job))
  where
    at : (rule : Option ℕ) → (commit_by input job rule p).added ≡ []
    at None = e
    at (Some rule) = e

-- What a poll has after its first steps is reached, and it has opened and added no job by then.
pub first_reached : {merge : Operator} {party : Party} {h : World} {input : PollInput} {drawn : List (ℕ × JobSpec)} {own : ℕ → JobSpec} (ask : PollAsk)
    → Case merge party h input input.records.jobs drawn input.manifest.trees → AllByRecursion (λ (job : Job). own job.id ≡ job.spec) input.records.jobs
    → Reached party h input input.records.jobs drawn own input.manifest.trees input.manifest.horizon (first_steps ask input) × (((first_steps ask input).opened ≡ []) × ((first_steps ask input).added ≡ []))
unfolding committed_poll
first_reached {merge} {party} {h} {input} {drawn} {own} ask c specs = by ask.commits_only
  where
    by : (b : Bool) → Reached party h input input.records.jobs drawn own input.manifest.trees input.manifest.horizon (cond b (committed_poll input) (freed_and_committed input)) × (((cond b (committed_poll input) (freed_and_committed input)).opened ≡ []) × ((cond b (committed_poll input) (freed_and_committed input)).added ≡ []))
    by true =
        let begins = all_commits c (reached_begun c specs) refl in
        (begins.0, (begins.1, none_added input (filter (has_status Compacted) input.records.jobs) (poll_begun input.manifest.trees input.manifest.horizon input.records.jobs) refl))
    by false =
        let begins = all_commits c (reached_freed c specs) refl in
        let freed = free_stale input (poll_begun input.manifest.trees input.manifest.horizon input.records.jobs) in
        (begins.0, (begins.1, none_added input (filter (has_status Compacted) freed.jobs) freed refl))

-- What a poll has after its last steps is reached, from what it got and with the ids that it drew.
pub last_reached : {merge : Operator} {party : Party} {h : World} {input : PollInput} {drawn : List (ℕ × JobSpec)} {own : ℕ → JobSpec} (ask : PollAsk)
    → Case merge party h input input.records.jobs drawn input.manifest.trees → AllByRecursion (λ (job : Job). own job.id ≡ job.spec) input.records.jobs → AllByRecursion (λ q. own q.0 ≡ q.1) drawn
    → Reached party h input input.records.jobs drawn own input.manifest.trees input.manifest.horizon (last_steps ask input drawn (first_steps ask input))
last_reached {merge} {party} {h} {input} {drawn} {own} ask c specs named = by ask.commits_only
  where
    first : Reached party h input input.records.jobs drawn own input.manifest.trees input.manifest.horizon (first_steps ask input) × (((first_steps ask input).opened ≡ []) × ((first_steps ask input).added ≡ []))
    first = first_reached ask c specs

    by : (b : Bool) → Reached party h input input.records.jobs drawn own input.manifest.trees input.manifest.horizon (cond b (first_steps ask input) (open_submitted input (add_drawn 1 drawn (first_steps ask input))))
    by true = first.0
    by false = all_opened c (adds c named 1 drawn (first_steps ask input) first.0 first.1.0 (all_from _ drawn (λ q there. there)) c.once (λ q a there one. absurd (subst (IsIn a) first.1.1 one))).0

-- ---- the jobs that a poll adds

-- They are among those for which it drew ids, each once.
pub record AddsDrawn (drawn : List (ℕ × JobSpec)) (p : PollState) : Type 0 where
  pub those : AllByRecursion (λ q. IsIn q drawn) p.added
  pub once : Pairs (λ p q. p.0 ≢ q.0) p.added

same_added : (drawn : List (ℕ × JobSpec)) (p new : PollState) → new.added ≡ p.added → AddsDrawn drawn p → AddsDrawn drawn new
same_added drawn p new e h = record { those = subst (AllByRecursion (λ q. IsIn q drawn)) (sym e) h.those; once = subst (Pairs (λ p q. p.0 ≢ q.0)) (sym e) h.once }

-- Each job that a poll adds has an id that it drew for it, and each is added once.
adds_drawn : (drawn : List (ℕ × JobSpec)) (place : ℕ) (rest : List (ℕ × JobSpec)) (p : PollState) → AddsDrawn drawn p → AllByRecursion (λ q. IsIn q drawn) rest → Pairs (λ p q. p.0 ≢ q.0) rest
    → ((q a : ℕ × JobSpec) → IsIn q rest → IsIn a p.added → q.0 ≡ a.0 → ⊥) → AddsDrawn drawn (add_drawn place rest p)
adds_drawn drawn place [] p h those once new = h
adds_drawn drawn place (q ∷ rest) p h those once new = by (list_any (clashes q.1) p.jobs) (λ n h new. adds_drawn drawn (place + 1) rest n h those.1 once.1 new)
  where
    by : (b : Bool) → ((n : PollState) → AddsDrawn drawn n → ((x a : ℕ × JobSpec) → IsIn x rest → IsIn a n.added → x.0 ≡ a.0 → ⊥) → AddsDrawn drawn (add_drawn (place + 1) rest n)) → AddsDrawn drawn (add_drawn (place + 1) rest (add_by q.0 place q.1 b p))
    by true more = more (add_by q.0 place q.1 true p) (same_added drawn p (add_by q.0 place q.1 true p) refl h) (λ x a there one. new x a (inr there) one)
    by false more = more (add_by q.0 place q.1 false p) (record {
      those = all_push _ p.added q h.those those.0;
      once = pairs_push (λ p q. p.0 ≢ q.0) p.added q h.once (all_from _ p.added (λ a there same. new q a (inl refl) there (sym same)));
    }) (λ x a there one. at x a there (in_pushed p.added q a one))
      where
        at : (x a : ℕ × JobSpec) → IsIn x rest → IsIn a p.added ⊎ (q ≡ a) → x.0 ≡ a.0 → ⊥
        at x a there (inl one) same = new x a (inr there) one same
        at x a there (inr is) same = all_at (λ (y : ℕ × JobSpec). q.0 ≢ y.0) rest x once.0 there (ap (λ (y : ℕ × JobSpec). y.0) is ∙ sym same)

-- A poll that opens jobs adds none by that.
pub opened_added : (input : PollInput) (jobs : Jobs) (p : PollState) → (each (open_job input) jobs p).added ≡ p.added
opened_added input [] p = refl
opened_added input (job ∷ jobs) p = opened_added input jobs (open_job input job p) ∙ by (submit_gate p.trees p.jobs (lost_to_scheduler p.lost) (accepts input p) job)
  where
    either : (a b : Bool) → (cond a (drain_job input job p) (cond b (move_job input job p) (schedule_job job p))).added ≡ p.added
    either true b = refl
    either false true = refl
    either false false = refl

    by : (rule : Option ℕ) → (open_by input job rule p).added ≡ p.added
    by None = either (is_drain job.spec) (can_move input p.trees job.spec)
    by (Some rule) = refl

none_first : (ask : PollAsk) (input : PollInput) → (first_steps ask input).added ≡ []
unfolding committed_poll
none_first ask input = by ask.commits_only
  where
    freed : PollState
    freed = free_stale input (poll_begun input.manifest.trees input.manifest.horizon input.records.jobs)

    by : (b : Bool) → (cond b (committed_poll input) (freed_and_committed input)).added ≡ []
    by true = none_added input (filter (has_status Compacted) input.records.jobs) (poll_begun input.manifest.trees input.manifest.horizon input.records.jobs) refl
    by false = none_added input (filter (has_status Compacted) freed.jobs) freed refl

-- After all steps of a poll, each job that it added has an id that it drew for it, and each was added once.
pub all_adds : (ask : PollAsk) (input : PollInput) (drawn : List (ℕ × JobSpec)) → Pairs (λ p q. p.0 ≢ q.0) drawn → AddsDrawn drawn (last_steps ask input drawn (first_steps ask input))
all_adds ask input drawn once = by ask.commits_only
  where
    begins : AddsDrawn drawn (first_steps ask input)
    begins = record { those = subst (AllByRecursion (λ q. IsIn q drawn)) (sym (none_first ask input)) tt; once = subst (Pairs (λ p q. p.0 ≢ q.0)) (sym (none_first ask input)) tt }

    by : (b : Bool) → AddsDrawn drawn (cond b (first_steps ask input) (open_submitted input (add_drawn 1 drawn (first_steps ask input))))
    by true = begins
    by false = same_added drawn (add_drawn 1 drawn (first_steps ask input)) (open_submitted input (add_drawn 1 drawn (first_steps ask input)))
        (opened_added input (filter (has_status Submitted) (add_drawn 1 drawn (first_steps ask input)).jobs) (add_drawn 1 drawn (first_steps ask input)))
        (adds_drawn drawn 1 drawn (first_steps ask input) begins (all_from _ drawn (λ q there. there)) once (λ q a there one. absurd (subst (IsIn a) (none_first ask input) one)))
