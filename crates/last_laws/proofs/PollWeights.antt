-- A poll makes the trees lighter by at least 1 for each of its steps.
use Rattle.std.proofs.Common.{◌≡◌, refl, sym, ◌∙◌, ap, subst, ℕ, ◌+◌, ◌≤◌, List, [], ◌∷◌, ◌++◌, map, Bool, true, false, cond, Option, None, Some, length, length-append, arith}
use Rattle.std.specs.Prelude.{IsTrue, filter, nat_lt, bytes_eq}
use Rattle.std.specs.List.{list_all, list_any, AllByRecursion, concat}
use Rattle.std.specs.List.Sorted.{IsStrictlySortedBy}
use Rattle.row_model.specs.Rows.{key_cmp}
use Rattle.fleet_model.specs.Nodes.{names_contain, Tables, Trees, names, tree_at}
use Rattle.fleet_model.specs.Jobs.{JobSpec, is_drain, Job, Jobs, Submitted, Compacted, has_status, contains, changed_jobs, put_job, ids, is_stale}
use Rattle.fleet_model.specs.History.{Step, Join, Move}
use Rattle.fleet_model.specs.Work.Records.{new_job, to_waiting, to_scheduled, to_completed, to_failed}
use Rattle.fleet_model.specs.Trees.{stepped_in, stepped_tree, watermark_after, tables_now, source_pieces}
use Rattle.fleet_model.specs.Work.Gates.{is_nonempty, are_distinct, submitted_rules, submit_gate, commit_gate}
use Rattle.fleet_model.specs.Work.PollStates.{PollInput, PollState, poll_begun, accepts}
use Rattle.fleet_model.specs.Work.Polls.{free_stale, commit_by, commit_job, each, commit_finished, committed_poll, clashes, add_by, add_drawn, can_move, lost_to_scheduler, drain_job, move_job, schedule_job, open_by, open_job, open_submitted}
use Rattle.step_model.specs.Steps.PollSteps.{PollAsk, freed_and_committed, first_steps, last_steps}
use Rattle.commit_laws.proofs.AtOnce.{all_pass}
use Rattle.commit_laws.proofs.Stretches.{both_true}
use Rattle.last_laws.specs.Weights.{trees_weight, IsHeavy, Lightens, PrefixesRise, WaitsToLighten, PollsLighten}
use Rattle.last_laws.proofs.Weights.{steps_lighten}

-- ---- what a poll keeps on its way

-- The poll has made the trees lighter by its steps so far, and its jobs that wait lighten the trees too.
pub record Lighter (most : ℕ) (p : PollState) : Type 0 where
  pub weight : trees_weight p.trees + length p.steps ≤ most
  pub rise : PrefixesRise p.trees
  pub jobs : AllByRecursion WaitsToLighten p.jobs

same_prefixes : (tables : Tables) (step : Step) (spec : JobSpec) (outputs : List ℕ) (trees : Trees) → map (λ s. s.prefix) (stepped_in tables step spec outputs trees) ≡ map (λ s. s.prefix) trees
same_prefixes tables step spec outputs [] = refl
same_prefixes tables step spec outputs (s ∷ trees) = ap (λ key. key ∷ map (λ s. s.prefix) (stepped_in tables step spec outputs trees)) (by (bytes_eq spec.segment s.prefix)) ∙ ap (λ keys. s.prefix ∷ keys) (same_prefixes tables step spec outputs trees)
  where
    by : (b : Bool) → (cond b (record s { tree = stepped_tree tables step spec outputs s.tree; watermark = watermark_after spec.sources s.tree s.watermark }) s).prefix ≡ s.prefix
    by true = refl
    by false = refl

-- A step for a job whose sources are in the tree.
step_taken : (tables : Tables) (step : Step) (spec : JobSpec) (outputs : List ℕ) (most : ℕ) (trees : Trees) (steps : List Step) → trees_weight trees + length steps ≤ most → PrefixesRise trees → Lightens spec
    → IsTrue (list_all (names_contain (names (tree_at spec.segment trees))) spec.sources)
    → (trees_weight (stepped_in tables step spec outputs trees) + length (steps ++ step ∷ []) ≤ most) × PrefixesRise (stepped_in tables step spec outputs trees)
step_taken tables step spec outputs most trees steps low rise l there =
    let less = steps_lighten tables step spec outputs trees rise l there in
    let more = length-append steps (step ∷ []) in
    (omega (arith, low, less, more), subst (IsStrictlySortedBy key_cmp) (sym (same_prefixes tables step spec outputs trees)) rise)

-- ---- jobs that wait

-- The changes of a poll leave no job that waits to be opened or committed.
record AreOver (change : Job → Job) : Type 0 where
  opened : (job : Job) → has_status Submitted (change job) ≡ false
  committed : (job : Job) → has_status Compacted (change job) ≡ false

changed_wait : (change : Job → Job) (these : List ℕ) (jobs : Jobs) → AreOver change → AllByRecursion WaitsToLighten jobs → AllByRecursion WaitsToLighten (changed_jobs change these jobs)
changed_wait change these [] over h = tt
changed_wait change these (job ∷ jobs) over h = (by (contains these job.id), changed_wait change these jobs over h.1)
  where
    by : (b : Bool) → WaitsToLighten (cond b (change job) job)
    by true = record {
      opened = λ waits. let e = over.opened job in absurd (cc (waits, e));
      committed = λ waits. let e = over.committed job in absurd (cc (waits, e));
    }
    by false = h.0

waiting_over : AreOver to_waiting
waiting_over = record { opened = λ job. refl; committed = λ job. refl }

failed_over : AreOver to_failed
failed_over = record { opened = λ job. refl; committed = λ job. refl }

completed_over : AreOver to_completed
completed_over = record { opened = λ job. refl; committed = λ job. refl }

scheduled_over : (tables_of : JobSpec → List ℕ) → AreOver (to_scheduled tables_of)
scheduled_over tables_of = record { opened = λ job. refl; committed = λ job. refl }

put_waits : (job : Job) (jobs : Jobs) → WaitsToLighten job → AllByRecursion WaitsToLighten jobs → AllByRecursion WaitsToLighten (put_job job jobs)
put_waits job [] new h = (new, tt)
put_waits job (other ∷ jobs) new h = by (nat_lt job.id other.id) (put_waits job jobs new h.1)
  where
    by : (b : Bool) → AllByRecursion WaitsToLighten (put_job job jobs) → AllByRecursion WaitsToLighten (cond b (job ∷ other ∷ jobs) (other ∷ put_job job jobs))
    by true rest = (new, h)
    by false rest = (h.0, rest)

filtered : (P : Job → Type 0) (test : Job → Bool) (jobs : Jobs) → ((job : Job) → test job ≡ true → WaitsToLighten job → P job) → AllByRecursion WaitsToLighten jobs → AllByRecursion P (filter test jobs)
filtered P test [] waits h = tt
filtered P test (job ∷ jobs) waits h = by (test job) refl (filtered P test jobs waits h.1)
  where
    by : (b : Bool) → test job ≡ b → AllByRecursion P (filter test jobs) → AllByRecursion P (cond b (job ∷ filter test jobs) (filter test jobs))
    by true e rest = (waits job e h.0, rest)
    by false e rest = rest

-- ---- gates

-- A job that passes the gate of commits has its sources in its tree.
committed_there : (trees : Trees) (accepts : JobSpec → Bool) (job : Job) → commit_gate trees accepts job ≡ None → IsTrue (list_all (names_contain (names (tree_at job.spec.segment trees))) job.spec.sources)
committed_there trees accepts job e =
    (all_pass ((4, list_all (names_contain (names (tree_at job.spec.segment trees))) job.spec.sources) ∷ (10, bytes_eq (source_pieces job.spec.sources (tree_at job.spec.segment trees)) job.source_tables) ∷ (0, accepts job.spec) ∷ []) e).0

-- So has a job that passes the gate of submitted jobs.
opened_there : (trees : Trees) (jobs : Jobs) (lost : List ℕ) (accepts : JobSpec → Bool) (job : Job) → submit_gate trees jobs lost accepts job ≡ None
    → IsTrue (list_all (names_contain (names (tree_at job.spec.segment trees))) job.spec.sources)
opened_there trees jobs lost accepts job e = (all_pass (submitted_rules trees jobs lost accepts job (tree_at job.spec.segment trees)) e).1.1.1.0

-- It names each source once.
pub opened_lightens : (trees : Trees) (jobs : Jobs) (lost : List ℕ) (accepts : JobSpec → Bool) (job : Job) → submit_gate trees jobs lost accepts job ≡ None → IsHeavy job.spec → Lightens job.spec
opened_lightens trees jobs lost accepts job e heavy = record {
  heavy = heavy;
  distinct = (both_true (is_nonempty job.spec.sources) (are_distinct job.spec.sources) (all_pass (submitted_rules trees jobs lost accepts job (tree_at job.spec.segment trees)) e).0).1;
}

-- ---- the steps of a poll

each_lighter : (P : JobSpec → Type 0) (step : Job → PollState → PollState) (most : ℕ) (jobs : Jobs) (p : PollState) → ((job : Job) (p : PollState) → P job.spec → Lighter most p → Lighter most (step job p))
    → AllByRecursion (λ job. P job.spec) jobs → Lighter most p → Lighter most (each step jobs p)
each_lighter P step most [] p one h l = l
each_lighter P step most (job ∷ jobs) p one h l = each_lighter P step most jobs (step job p) one h.1 (one job p h.0 l)

commit_lighter : (input : PollInput) (most : ℕ) (job : Job) (p : PollState) → Lightens job.spec → Lighter most p → Lighter most (commit_job input job p)
commit_lighter input most job p heavy l = by (commit_gate p.trees (accepts input p) job) refl
  where
    by : (gate : Option ℕ) → commit_gate p.trees (accepts input p) job ≡ gate → Lighter most (commit_by input job gate p)
    by (Some rule) e = record { weight = l.weight; rise = l.rise; jobs = changed_wait to_failed (job.id ∷ []) p.jobs failed_over l.jobs }
    by None e =
        let step = step_taken input.tables (Join job.id) job.spec (concat job.outputs) most p.trees p.steps l.weight l.rise heavy (committed_there p.trees (accepts input p) job e) in
        record { weight = step.0; rise = step.1; jobs = changed_wait to_completed (job.id ∷ []) p.jobs completed_over l.jobs }

-- A submitted job is refused, moved or opened. A move makes the trees lighter, and the others leave them.
open_lighter : (input : PollInput) (most : ℕ) (job : Job) (p : PollState) → IsHeavy job.spec → Lighter most p → Lighter most (open_job input job p)
open_lighter input most job p heavy l = by (submit_gate p.trees p.jobs (lost_to_scheduler p.lost) (accepts input p) job) refl
  where
    opened : submit_gate p.trees p.jobs (lost_to_scheduler p.lost) (accepts input p) job ≡ None → (drains : Bool) → drains ≡ false → (moves : Bool)
        → Lighter most (cond drains (drain_job input job p) (cond moves (move_job input job p) (schedule_job job p)))
    opened e true makes moves = absurd (cc makes)
    opened e false makes true =
        let step = step_taken input.tables (Move job.id) job.spec [] most p.trees p.steps l.weight l.rise (opened_lightens p.trees p.jobs (lost_to_scheduler p.lost) (accepts input p) job e heavy) (opened_there p.trees p.jobs (lost_to_scheduler p.lost) (accepts input p) job e) in
        record { weight = step.0; rise = step.1; jobs = changed_wait to_completed (job.id ∷ []) p.jobs completed_over l.jobs }
    opened e false makes false = record { weight = l.weight; rise = l.rise; jobs = changed_wait (to_scheduled (tables_now p.trees)) (job.id ∷ []) p.jobs (scheduled_over (tables_now p.trees)) l.jobs }

    by : (gate : Option ℕ) → submit_gate p.trees p.jobs (lost_to_scheduler p.lost) (accepts input p) job ≡ gate → Lighter most (open_by input job gate p)
    by (Some rule) e = record { weight = l.weight; rise = l.rise; jobs = changed_wait to_failed (job.id ∷ []) p.jobs failed_over l.jobs }
    by None e = opened e (is_drain job.spec) heavy.makes_run (can_move input p.trees job.spec)

pub commits_lighter : (input : PollInput) (most : ℕ) (p : PollState) → Lighter most p → Lighter most (commit_finished input p)
commits_lighter input most p l =
    each_lighter Lightens (commit_job input) most (filter (has_status Compacted) p.jobs) p (commit_lighter input most) (filtered (λ job. Lightens job.spec) (has_status Compacted) p.jobs (λ job e w. w.committed e) l.jobs) l

opens_lighter : (input : PollInput) (most : ℕ) (p : PollState) → Lighter most p → Lighter most (open_submitted input p)
opens_lighter input most p l =
    each_lighter IsHeavy (open_job input) most (filter (has_status Submitted) p.jobs) p (open_lighter input most) (filtered (λ job. IsHeavy job.spec) (has_status Submitted) p.jobs (λ job e w. w.opened e) l.jobs) l

adds_lighter : (most place : ℕ) (drawn : List (ℕ × JobSpec)) (p : PollState) → AllByRecursion (λ d. IsHeavy d.1) drawn → Lighter most p → Lighter most (add_drawn place drawn p)
adds_lighter most place [] p h l = l
adds_lighter most place (d ∷ drawn) p h l = adds_lighter most (place + 1) drawn (add_by d.0 place d.1 (list_any (clashes d.1) p.jobs) p) h.1 (by (list_any (clashes d.1) p.jobs))
  where
    by : (b : Bool) → Lighter most (add_by d.0 place d.1 b p)
    by true = record { weight = l.weight; rise = l.rise; jobs = l.jobs }
    by false = record { weight = l.weight; rise = l.rise; jobs = put_waits (new_job d) p.jobs (record { opened = λ waits. h.0; committed = λ ends. absurd (cc ends) }) l.jobs }

-- The first two steps of a poll.
first_lighter : (ask : PollAsk) (input : PollInput) → PrefixesRise input.manifest.trees → AllByRecursion WaitsToLighten input.records.jobs → Lighter (trees_weight input.manifest.trees) (first_steps ask input)
unfolding committed_poll
first_lighter ask input rise jobs = by ask.commits_only
  where
    most : ℕ
    most = trees_weight input.manifest.trees

    begun : Lighter most (poll_begun input.manifest.trees input.manifest.horizon input.records.jobs)
    begun = record { weight = omega arith; rise = rise; jobs = jobs }

    freed : Lighter most (free_stale input (poll_begun input.manifest.trees input.manifest.horizon input.records.jobs))
    freed = record { weight = begun.weight; rise = rise; jobs = changed_wait to_waiting (ids (filter (is_stale input.options.timeout input.moment) input.records.jobs)) input.records.jobs waiting_over jobs }

    by : (b : Bool) → Lighter most (cond b (committed_poll input) (freed_and_committed input))
    by true = commits_lighter input most (poll_begun input.manifest.trees input.manifest.horizon input.records.jobs) begun
    by false = commits_lighter input most (free_stale input (poll_begun input.manifest.trees input.manifest.horizon input.records.jobs)) freed

last_lighter : (ask : PollAsk) (input : PollInput) (most : ℕ) (drawn : List (ℕ × JobSpec)) (p : PollState) → AllByRecursion (λ d. IsHeavy d.1) drawn → Lighter most p → Lighter most (last_steps ask input drawn p)
last_lighter ask input most drawn p h l = by ask.commits_only
  where
    by : (b : Bool) → Lighter most (cond b p (open_submitted input (add_drawn 1 drawn p)))
    by true = l
    by false = opens_lighter input most (add_drawn 1 drawn p) (adds_lighter most 1 drawn p h l)

pub polls_lighten : PollsLighten
polls_lighten ask input drawn rise jobs added = (last_lighter ask input (trees_weight input.manifest.trees) drawn (first_steps ask input) added (first_lighter ask input rise jobs)).weight
