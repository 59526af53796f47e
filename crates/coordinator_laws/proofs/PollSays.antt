-- What the state says that a poll reached: which jobs it freed, committed and failed, and its steps.
use Rattle.std.proofs.Common.{◌≡◌, refl, sym, ◌∙◌, ap, subst, ℕ, ◌+◌, ◌<◌, List, [], ◌∷◌, ◌++◌, cond, Bool, true, false, Option, Some, None, append-nil, append_assoc}
use Rattle.std.specs.Prelude.{map, filter, flat_map}
use Rattle.std.specs.List.{AllByRecursion, list_any}
use Rattle.row_model.specs.Lists.{Pairs}
use Rattle.fleet_model.specs.Jobs.{JobSpec, is_drain, Job, Jobs, Submitted, Compacted, has_status, contains, changed_jobs}
use Rattle.fleet_model.specs.History.{Step, Join, Move, Drain}
use Rattle.fleet_model.specs.Work.Records.{to_waiting}
use Rattle.fleet_model.specs.Work.Gates.{commit_gate, submit_gate}
use Rattle.fleet_model.specs.Work.Scheduler.{Scheduler}
use Rattle.fleet_model.specs.Work.PollStates.{PollOptions, PollInput, PollState, poll_begun, accepts}
use Rattle.fleet_model.specs.Work.Polls.{free_stale, commit_by, commit_job, each, commit_finished, clashes, add_by, add_drawn, lost_to_scheduler, can_move, drain_job, move_job, schedule_job, open_by, open_job, open_submitted, committed_poll}
use Rattle.step_model.specs.Steps.PollSteps.{PollAsk, first_steps, last_steps}
use Rattle.step_laws.proofs.Elements.{pairs_map, all_append}
use Rattle.course_laws.proofs.Calls.{pairs_filter}
use Rattle.coordinator_laws.specs.PollSays.{verdicts, passed_in, failed_in, added_by, additions, added_in, dropped_in, Fate, fate_by, fates, opened_in, moved_in, drained_in, refused_in, IsAtOnce, PollSays}

-- ---- what was opened

-- No submitted job was opened, moved, drained or refused in between, and no proposal was added or dropped.
record NoneOpened (p q : PollState) : Type 0 where
  pub adds : q.added ≡ p.added
  pub drops : q.dropped ≡ p.dropped
  pub opens : q.opened ≡ p.opened
  pub moves : q.moved ≡ p.moved
  pub drains : q.drained ≡ p.drained
  pub refuses : q.refused ≡ p.refused

-- No submitted job was opened, moved, drained or refused in between.
record SameOpened (p q : PollState) : Type 0 where
  pub opens : q.opened ≡ p.opened
  pub moves : q.moved ≡ p.moved
  pub drains : q.drained ≡ p.drained
  pub refuses : q.refused ≡ p.refused

same_opened : (p : PollState) → SameOpened p p
same_opened p = record { opens = refl; moves = refl; drains = refl; refuses = refl }

commits_open_none : (input : PollInput) (jobs : Jobs) (p : PollState) → NoneOpened p (each (commit_job input) jobs p)
commits_open_none input [] p = record { adds = refl; drops = refl; opens = refl; moves = refl; drains = refl; refuses = refl }
commits_open_none input (job ∷ jobs) p = by (commit_gate p.trees (accepts input p) job) (commits_open_none input jobs (commit_job input job p))
  where
    by : (rule : Option ℕ) → NoneOpened (commit_by input job rule p) (each (commit_job input) jobs (commit_by input job rule p)) → NoneOpened p (each (commit_job input) jobs (commit_by input job rule p))
    by (Some rule) s = record { adds = s.adds; drops = s.drops; opens = s.opens; moves = s.moves; drains = s.drains; refuses = s.refuses }
    by None s = record { adds = s.adds; drops = s.drops; opens = s.opens; moves = s.moves; drains = s.drains; refuses = s.refuses }

adds_open_none : (place : ℕ) (drawn : List (ℕ × JobSpec)) (p : PollState) → SameOpened p (add_drawn place drawn p)
adds_open_none place [] p = same_opened p
adds_open_none place (d ∷ drawn) p = by (list_any (clashes d.1) p.jobs) (adds_open_none (place + 1) drawn (add_by d.0 place d.1 (list_any (clashes d.1) p.jobs) p))
  where
    by : (b : Bool) → SameOpened (add_by d.0 place d.1 b p) (add_drawn (place + 1) drawn (add_by d.0 place d.1 b p)) → SameOpened p (add_drawn (place + 1) drawn (add_by d.0 place d.1 b p))
    by true s = record { opens = s.opens; moves = s.moves; drains = s.drains; refuses = s.refuses }
    by false s = record { opens = s.opens; moves = s.moves; drains = s.drains; refuses = s.refuses }

-- What jobs with these fates add to what was opened.
record Opened (f : List (ℕ × Fate)) (p q : PollState) : Type 0 where
  pub adds : q.added ≡ p.added
  pub drops : q.dropped ≡ p.dropped
  pub opens : q.opened ≡ p.opened ++ flat_map opened_in f
  pub moves : q.moved ≡ p.moved ++ flat_map moved_in f
  pub drains : q.drained ≡ p.drained ++ flat_map drained_in f
  pub refuses : q.refused ≡ p.refused ++ flat_map refused_in f

-- A poll opens, moves, drains and refuses exactly the jobs with such a fate, in their order, and adds none by that.
opens_do : (input : PollInput) (jobs : Jobs) (p : PollState) → Opened (fates input jobs p) p (each (open_job input) jobs p)
opens_do input [] p = record { adds = refl; drops = refl; opens = sym (append-nil p.opened); moves = sym (append-nil p.moved); drains = sym (append-nil p.drained); refuses = sym (append-nil p.refused) }
opens_do input (job ∷ jobs) p = by (submit_gate p.trees p.jobs (lost_to_scheduler p.lost) (accepts input p) job) (opens_do input jobs (open_job input job p))
  where
    after : (drains moves : Bool) → PollState
    after drains moves = cond drains (drain_job input job p) (cond moves (move_job input job p) (schedule_job job p))

    kinds : (drains moves : Bool) → Opened (fates input jobs (after drains moves)) (after drains moves) (each (open_job input) jobs (after drains moves))
        → Opened ((job.id, fate_by None drains moves) ∷ fates input jobs (after drains moves)) p (each (open_job input) jobs (after drains moves))
    kinds true moves o = record { adds = o.adds; drops = o.drops; opens = o.opens; moves = o.moves; drains = o.drains ∙ append_assoc p.drained (job.id ∷ []) _; refuses = o.refuses }
    kinds false true o = record { adds = o.adds; drops = o.drops; opens = o.opens; moves = o.moves ∙ append_assoc p.moved (job.id ∷ []) _; drains = o.drains; refuses = o.refuses }
    kinds false false o = record { adds = o.adds; drops = o.drops; opens = o.opens ∙ append_assoc p.opened (job.id ∷ []) _; moves = o.moves; drains = o.drains; refuses = o.refuses }

    by : (rule : Option ℕ) → Opened (fates input jobs (open_by input job rule p)) (open_by input job rule p) (each (open_job input) jobs (open_by input job rule p))
        → Opened ((job.id, fate_by rule (is_drain job.spec) (can_move input p.trees job.spec)) ∷ fates input jobs (open_by input job rule p)) p (each (open_job input) jobs (open_by input job rule p))
    by (Some rule) o = record { adds = o.adds; drops = o.drops; opens = o.opens; moves = o.moves; drains = o.drains; refuses = o.refuses ∙ append_assoc p.refused ((job.id, rule) ∷ []) _ }
    by None o = kinds (is_drain job.spec) (can_move input p.trees job.spec) o

-- What these proposals add to what was added and dropped.
record Added (list : List (ℕ × Option (ℕ × JobSpec))) (p q : PollState) : Type 0 where
  pub adds : q.added ≡ p.added ++ flat_map added_in list
  pub drops : q.dropped ≡ p.dropped ++ flat_map dropped_in list

adds_do : (place : ℕ) (drawn : List (ℕ × JobSpec)) (p : PollState) → Added (additions place drawn p) p (add_drawn place drawn p)
adds_do place [] p = record { adds = sym (append-nil p.added); drops = sym (append-nil p.dropped) }
adds_do place (d ∷ drawn) p = by (list_any (clashes d.1) p.jobs) (adds_do (place + 1) drawn (add_by d.0 place d.1 (list_any (clashes d.1) p.jobs) p))
  where
    by : (b : Bool) → Added (additions (place + 1) drawn (add_by d.0 place d.1 b p)) (add_by d.0 place d.1 b p) (add_drawn (place + 1) drawn (add_by d.0 place d.1 b p))
        → Added (added_by place d b ∷ additions (place + 1) drawn (add_by d.0 place d.1 b p)) p (add_drawn (place + 1) drawn (add_by d.0 place d.1 b p))
    by true o = record { adds = o.adds; drops = o.drops ∙ append_assoc p.dropped (place ∷ []) _ }
    by false o = record { adds = o.adds ∙ append_assoc p.added (d ∷ []) _; drops = o.drops }

-- ---- commits

-- What commits of jobs with these verdicts leave.
record Committed (v : List (ℕ × Option ℕ)) (p q : PollState) : Type 0 where
  pub freed : q.freed ≡ p.freed
  pub done : q.done ≡ p.done ++ flat_map passed_in v
  pub lost : q.lost ≡ p.lost ++ flat_map failed_in v
  pub steps : q.steps ≡ p.steps ++ map Join (flat_map passed_in v)

commits_leave : (input : PollInput) (jobs : Jobs) (p : PollState) → Committed (verdicts input jobs p) p (each (commit_job input) jobs p)
commits_leave input [] p = record { freed = refl; done = sym (append-nil p.done); lost = sym (append-nil p.lost); steps = sym (append-nil p.steps) }
commits_leave input (job ∷ jobs) p = by (commit_gate p.trees (accepts input p) job) (commits_leave input jobs (commit_job input job p))
  where
    by : (rule : Option ℕ) → Committed (verdicts input jobs (commit_by input job rule p)) (commit_by input job rule p) (each (commit_job input) jobs (commit_by input job rule p))
        → Committed ((job.id, rule) ∷ verdicts input jobs (commit_by input job rule p)) p (each (commit_job input) jobs (commit_by input job rule p))
    by (Some rule) c = record { freed = c.freed; done = c.done; lost = c.lost ∙ append_assoc p.lost ((job.id, rule) ∷ []) _; steps = c.steps }
    by None c = record { freed = c.freed; done = c.done ∙ append_assoc p.done (job.id ∷ []) _; lost = c.lost; steps = c.steps ∙ append_assoc p.steps (Join job.id ∷ []) _ }

passed_all : (P : ℕ → Type 0) (input : PollInput) (jobs : Jobs) (p : PollState) → AllByRecursion (λ (job : Job). P job.id) jobs → AllByRecursion P (flat_map passed_in (verdicts input jobs p))
passed_all P input [] p all = tt
passed_all P input (job ∷ jobs) p all = by (commit_gate p.trees (accepts input p) job) (passed_all P input jobs (commit_job input job p) all.1)
  where
    by : (rule : Option ℕ) → AllByRecursion P (flat_map passed_in (verdicts input jobs (commit_by input job rule p))) → AllByRecursion P (flat_map passed_in ((job.id, rule) ∷ verdicts input jobs (commit_by input job rule p)))
    by (Some rule) rest = rest
    by None rest = (all.0, rest)

passed_rise : (input : PollInput) (jobs : Jobs) (p : PollState) → Pairs (λ (a b : Job). a.id < b.id) jobs → Pairs (λ a b. a < b) (flat_map passed_in (verdicts input jobs p))
passed_rise input [] p rise = tt
passed_rise input (job ∷ jobs) p rise = by (commit_gate p.trees (accepts input p) job) (passed_rise input jobs (commit_job input job p) rise.1)
  where
    by : (rule : Option ℕ) → Pairs (λ a b. a < b) (flat_map passed_in (verdicts input jobs (commit_by input job rule p))) → Pairs (λ a b. a < b) (flat_map passed_in ((job.id, rule) ∷ verdicts input jobs (commit_by input job rule p)))
    by (Some rule) rest = rest
    by None rest = (passed_all (λ id. job.id < id) input jobs (commit_by input job None p) rise.0, rest)

-- ---- later steps

-- The later steps of a poll free, commit and fail none of the finished jobs, and join nothing.
record Leaves (p q : PollState) : Type 0 where
  pub freed : q.freed ≡ p.freed
  pub done : q.done ≡ p.done
  pub lost : q.lost ≡ p.lost
  pub more : List Step
  pub steps : q.steps ≡ p.steps ++ more
  pub at_once : AllByRecursion IsAtOnce more

leaves_itself : (p : PollState) → Leaves p p
leaves_itself p = record { freed = refl; done = refl; lost = refl; more = []; steps = sym (append-nil p.steps); at_once = tt }

leaves_on : (p q r : PollState) → Leaves p q → Leaves q r → Leaves p r
leaves_on p q r one other = record {
  freed = other.freed ∙ one.freed;
  done = other.done ∙ one.done;
  lost = other.lost ∙ one.lost;
  more = one.more ++ other.more;
  steps = other.steps ∙ ap (λ (steps : List Step). steps ++ other.more) one.steps ∙ append_assoc p.steps one.more other.more;
  at_once = all_append IsAtOnce one.more other.more one.at_once other.at_once;
}

add_leaves : (place : ℕ) (drawn : List (ℕ × JobSpec)) (p : PollState) → Leaves p (add_drawn place drawn p)
add_leaves place [] p = leaves_itself p
add_leaves place (d ∷ drawn) p =
    let q = add_by d.0 place d.1 (list_any (clashes d.1) p.jobs) p in
    leaves_on p q (add_drawn (place + 1) drawn q) (by (list_any (clashes d.1) p.jobs)) (add_leaves (place + 1) drawn q)
  where
    by : (b : Bool) → Leaves p (add_by d.0 place d.1 b p)
    by true = record { freed = refl; done = refl; lost = refl; more = []; steps = sym (append-nil p.steps); at_once = tt }
    by false = record { freed = refl; done = refl; lost = refl; more = []; steps = sym (append-nil p.steps); at_once = tt }

-- A poll that opens, moves, drains or refuses a job frees none, commits none, and adds no join to its steps.
open_leaves : (input : PollInput) (job : Job) (p : PollState) → Leaves p (open_job input job p)
open_leaves input job p = by (submit_gate p.trees p.jobs (lost_to_scheduler p.lost) (accepts input p) job)
  where
    kinds : (drains moves : Bool) → Leaves p (cond drains (drain_job input job p) (cond moves (move_job input job p) (schedule_job job p)))
    kinds true moves = record { freed = refl; done = refl; lost = refl; more = Drain job.id ∷ []; steps = refl; at_once = (tt, tt) }
    kinds false true = record { freed = refl; done = refl; lost = refl; more = Move job.id ∷ []; steps = refl; at_once = (tt, tt) }
    kinds false false = record { freed = refl; done = refl; lost = refl; more = []; steps = sym (append-nil p.steps); at_once = tt }

    by : (rule : Option ℕ) → Leaves p (open_by input job rule p)
    by (Some rule) = record { freed = refl; done = refl; lost = refl; more = []; steps = sym (append-nil p.steps); at_once = tt }
    by None = kinds (is_drain job.spec) (can_move input p.trees job.spec)

opens_leave : (input : PollInput) (jobs : Jobs) (p : PollState) → Leaves p (each (open_job input) jobs p)
opens_leave input [] p = leaves_itself p
opens_leave input (job ∷ jobs) p = leaves_on p (open_job input job p) (each (open_job input) jobs (open_job input job p)) (open_leaves input job p) (opens_leave input jobs (open_job input job p))

-- ---- all steps

-- Jobs that are freed keep their ids.
freed_rise : (these : List ℕ) (jobs : Jobs) → Pairs (λ (a b : Job). a.id < b.id) jobs → Pairs (λ (a b : Job). a.id < b.id) (changed_jobs to_waiting these jobs)
freed_rise these jobs rise = pairs_map (λ (a b : Job). a.id < b.id) (λ (a b : Job). a.id < b.id) (λ (job : Job). cond (contains these job.id) (to_waiting job) job) jobs
    (λ x y one other low. subst (λ (n : ℕ). n < (cond (contains these y.id) (to_waiting y) y).id) (sym (same x (contains these x.id))) (subst (λ (n : ℕ). x.id < n) (sym (same y (contains these y.id))) low)) rise
  where
    same : (job : Job) (b : Bool) → (cond b (to_waiting job) job).id ≡ job.id
    same job true = refl
    same job false = refl

-- A poll commits exactly the finished jobs that pass the gate, fails the other ones, and joins before its other steps.
says_by : (epoch : ℕ) (options : PollOptions) (scheduler : Scheduler) (moment : ℕ) (commits_only : Bool) (input : PollInput) (drawn : List (ℕ × JobSpec)) → Pairs (λ (a b : Job). a.id < b.id) input.records.jobs
    → let ask : PollAsk = record { epoch = epoch; options = options; scheduler = scheduler; moment = moment; commits_only = commits_only } in PollSays commits_only input drawn (last_steps ask input drawn (first_steps ask input))
unfolding committed_poll
says_by epoch options scheduler moment true input drawn rise =
    let start = poll_begun input.manifest.trees input.manifest.horizon input.records.jobs in
    let jobs = filter (has_status Compacted) start.jobs in
    let c = commits_leave input jobs start in
    let o = commits_open_none input jobs start in
    record {
      beside = record { frees = c.freed; adds = o.adds; drops = o.drops; opens = o.opens; moves = o.moves; drains = o.drains; refuses = o.refuses };
      commits = c.done;
      loses = c.lost;
      in_order = subst (Pairs (λ a b. a < b)) (sym c.done) (passed_rise input jobs start (pairs_filter _ (has_status Compacted) start.jobs rise));
      others = [];
      steps = c.steps ∙ ap (map Join) (sym c.done) ∙ sym (append-nil (map Join _));
      at_once = tt;
    }
says_by epoch options scheduler moment false input drawn rise =
    let first = poll_begun input.manifest.trees input.manifest.horizon input.records.jobs in
    let start = free_stale input first in
    let jobs = filter (has_status Compacted) start.jobs in
    let c = commits_leave input jobs start in
    let mid = commit_finished input start in
    let added = add_drawn 1 drawn mid in
    let l = leaves_on mid added (open_submitted input added) (add_leaves 1 drawn mid) (opens_leave input (filter (has_status Submitted) added.jobs) added) in
    let done = l.done ∙ c.done in
    let waiting = filter (has_status Submitted) added.jobs in
    let fate = fates input waiting added in
    let f = opens_do input waiting added in
    let a = adds_open_none 1 drawn mid in
    let d = adds_do 1 drawn mid in
    let o = commits_open_none input jobs start in
    record {
      beside = record {
        frees = l.freed ∙ c.freed;
        adds = f.adds ∙ d.adds ∙ ap (λ (xs : List (ℕ × JobSpec)). xs ++ flat_map added_in (additions 1 drawn mid)) o.adds;
        drops = f.drops ∙ d.drops ∙ ap (λ (xs : List ℕ). xs ++ flat_map dropped_in (additions 1 drawn mid)) o.drops;
        opens = f.opens ∙ ap (λ (ids : List ℕ). ids ++ flat_map opened_in fate) (a.opens ∙ o.opens);
        moves = f.moves ∙ ap (λ (ids : List ℕ). ids ++ flat_map moved_in fate) (a.moves ∙ o.moves);
        drains = f.drains ∙ ap (λ (ids : List ℕ). ids ++ flat_map drained_in fate) (a.drains ∙ o.drains);
        refuses = f.refuses ∙ ap (λ (ids : List (ℕ × ℕ)). ids ++ flat_map refused_in fate) (a.refuses ∙ o.refuses);
      };
      commits = done;
      loses = l.lost ∙ c.lost;
      in_order = subst (Pairs (λ a b. a < b)) (sym done) (passed_rise input jobs start (pairs_filter _ (has_status Compacted) start.jobs (freed_rise start.freed first.jobs rise)));
      others = l.more;
      steps = l.steps ∙ ap (λ (steps : List Step). steps ++ l.more) (c.steps ∙ ap (map Join) (sym done));
      at_once = l.at_once;
    }

pub poll_says : (ask : PollAsk) (input : PollInput) (drawn : List (ℕ × JobSpec)) → Pairs (λ (a b : Job). a.id < b.id) input.records.jobs → PollSays ask.commits_only input drawn (last_steps ask input drawn (first_steps ask input))
poll_says ask input drawn rise = says_by ask.epoch ask.options ask.scheduler ask.moment ask.commits_only input drawn rise
