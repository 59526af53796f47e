-- The levelled scheduler is settling, so a settle line with it settles.
use Rattle.std.proofs.Common.{◌≡◌, ◌≢◌, refl, sym, ◌∙◌, ap, subst, ℕ, ◌+◌, List, [], ◌∷◌, Bool, true, false, cond, ◌⊎◌, inl, inr, Option, None, Some, arith, eqb-true}
use Rattle.std.specs.Prelude.{◌==◌, IsTrue, filter, is_some}
use Rattle.std.specs.List.{list_any, AllByRecursion}
use Rattle.row_model.specs.Fold.{Operator}
use Rattle.fleet_model.specs.Nodes.{Trees}
use Rattle.fleet_model.specs.Jobs.{JobSpec, is_drain, Job, Jobs, Status, Submitted, Scheduled, Running, Compacted, Completed, Failed, status_eq, has_status, contains, ids}
use Rattle.fleet_model.specs.Invariants.JobsFit.{NodesHeldOnce, SourcesStand}
use Rattle.fleet_model.specs.Store.{Records, Store, stored_jobs}
use Rattle.fleet_model.specs.Work.Gates.{submit_gate}
use Rattle.fleet_model.specs.Work.PollStates.{PollInput, PollState, accepts, poll_begun, view_of}
use Rattle.fleet_model.specs.Work.Polls.{add_by, add_drawn, can_move, clashes, commit_finished, committed_poll, drain_job, each, lost_to_scheduler, move_job, open_by, open_job, open_submitted, proposals, schedule_job}
use Rattle.fleet_model.specs.Work.Records.{firsts, new_job, with_new}
use Rattle.fleet_model.specs.Work.Scheduler.{Scheduler, View}
use Rattle.step_model.specs.Steps.PollSteps.{PollAsk, freed_and_committed, records_or_none}
use Rattle.step_laws.proofs.Elements.{IsIn, all_at, all_push, all_to, in_contains}
use Rattle.step_laws.proofs.NewJobs.{in_new}
use Rattle.course_laws.proofs.Calls.{all_take, filtered}
use Rattle.coordinator_laws.proofs.PollReports.{got_jobs}
use Rattle.coordinator_laws.proofs.Stages.{opened_added}
use Rattle.sched_model.specs.Levels.{LevelOptions, are_allowed, is_within, level_scheduler}
use Rattle.sched_laws.specs.Polls.{AcceptsItsOwn, AreDrawn, PollStands, polled_state}
use Rattle.sched_laws.proofs.Polls.{polls_accept_levels}
use Rattle.line_laws.specs.Lines.PollRuns.{input_at, reached_state}
use Rattle.last_laws.specs.Weights.{IsHeavy}
use Rattle.last_laws.specs.Settling.{HasFreeId, WaitsOrStands, CalmPoll, Settling, SettledSmall}
use Rattle.last_laws.specs.Levels.{LevelsSettle, LevelLinesSettle}
use Rattle.last_laws.proofs.Commits.{IsCalm, IsCalmTill, frees_none, poll_commits}
use Rattle.last_laws.proofs.LevelPicks.{levels_are_heavy, levels_rest_within, weights_count}
use Rattle.last_laws.proofs.Opens.{Adds, adds_all}
use Rattle.last_laws.proofs.PollWorks.{none_submitted}
use Rattle.last_laws.proofs.SettleLines.{settle_lines_settle}
use Rattle.last_laws.proofs.SettlePolls.{active_status, all_second, calm_of}

-- ---- what a poll refuses

-- What holds of the ids of submitted jobs holds of each id that a poll refuses.
refused_of : (P : ℕ → Type 0) (input : PollInput) (jobs : Jobs) (p : PollState) → AllByRecursion (λ job. P job.id) jobs → AllByRecursion (λ r. P r.0) p.refused → AllByRecursion (λ r. P r.0) (each (open_job input) jobs p).refused
refused_of P input [] p those before = before
refused_of P input (job ∷ jobs) p those before = refused_of P input jobs (open_job input job p) those.1 (by (submit_gate p.trees p.jobs (lost_to_scheduler p.lost) (accepts input p) job))
  where
    opened : (a b : Bool) → AllByRecursion (λ r. P r.0) (cond a (drain_job input job p) (cond b (move_job input job p) (schedule_job job p))).refused
    opened true b = before
    opened false true = before
    opened false false = before

    by : (gate : Option ℕ) → AllByRecursion (λ r. P r.0) (open_by input job gate p).refused
    by (Some rule) = all_push (λ (r : ℕ × ℕ). P r.0) p.refused (job.id, rule) before those.0
    by None = opened (is_drain job.spec) (can_move input p.trees job.spec)

none_named : (refused : List (ℕ × ℕ)) → AllByRecursion (λ r. contains (firsts refused) r.0 ≡ false) refused → refused ≡ []
none_named [] h = refl
none_named (r ∷ refused) h = let never = h.0 in let here : contains (firsts (r ∷ refused)) r.0 ≡ true = in_contains (firsts (r ∷ refused)) r.0 (inl refl) in absurd (cc (here, never))

-- Adding jobs refuses none.
added_refused : (place : ℕ) (drawn : List (ℕ × JobSpec)) (p : PollState) → (add_drawn place drawn p).refused ≡ p.refused
added_refused place [] p = refl
added_refused place (d ∷ drawn) p = added_refused (place + 1) drawn (add_by d.0 place d.1 (list_any (clashes d.1) p.jobs) p) ∙ by (list_any (clashes d.1) p.jobs)
  where
    by : (b : Bool) → (add_by d.0 place d.1 b p).refused ≡ p.refused
    by true = refl
    by false = refl

-- ---- jobs and records

not_among : (id : ℕ) (jobs : Jobs) → AllByRecursion (λ job. job.id ≢ id) jobs → contains (ids jobs) id ≡ false
not_among id [] h = refl
not_among id (job ∷ jobs) h = by (job.id == id) refl (not_among id jobs h.1)
  where
    by : (b : Bool) → (job.id == id) ≡ b → contains (ids jobs) id ≡ false → cond b true (contains (ids jobs) id) ≡ false
    by true e rest = absurd (h.0 (eqb-true job.id id e))
    by false e rest = rest

some_records : (records : Option Records) → IsTrue (is_some records) → records ≡ Some (records_or_none records)
some_records None h = absurd (cc h)
some_records (Some records) h = refl

never_both : (s : Status) → IsTrue (status_eq Scheduled s) → IsTrue (status_eq Compacted s) → ⊥
never_both Submitted h k = cc h
never_both Scheduled h k = cc k
never_both Running h k = cc h
never_both Compacted h k = cc h
never_both Completed h k = cc h
never_both Failed h k = cc h

-- The sources of a finished job stand.
finished_stands : (trees : Trees) (job : Job) → WaitsOrStands trees job → IsTrue (has_status Compacted job) → SourcesStand trees job
finished_stands trees job h ends = by (h ((active_status job.status).1.0 ends)).1
  where
    by : (IsTrue (has_status Scheduled job) × (job.context ≡ None)) ⊎ (IsTrue (has_status Compacted job) × SourcesStand trees job) → SourcesStand trees job
    by (inl waits) = absurd (never_both job.status waits.0 ends)
    by (inr stands) = stands.1

-- ---- a calm poll

module _ (o : LevelOptions) (allowed : are_allowed o ≡ true) (most : ℕ) (merge : Operator) (ask : PollAsk) (store : Store) (drawn : List (ℕ × JobSpec)) (c : CalmPoll merge (level_scheduler o most) ask store drawn) where
  abbrev input : PollInput
  input = input_at ask store

  abbrev begun : PollState
  begun = poll_begun input.manifest.trees input.manifest.horizon input.records.jobs

  abbrev committed : PollState
  committed = commit_finished input begun

  got : input.records.jobs ≡ stored_jobs store
  got = got_jobs store.records

  calm : AllByRecursion (IsCalm input.manifest.trees) input.records.jobs
  calm = subst (AllByRecursion (IsCalm input.manifest.trees)) (sym got) (all_to _ _ (stored_jobs store) (λ job there h. calm_of store.manifest.trees job h) c.jobs)

  asked : freed_and_committed input ≡ committed
  asked = ap (commit_finished input) (frees_none input calm)

  -- After its commits no job is submitted.
  commits : AllByRecursion (IsCalmTill []) committed.jobs
  commits = (poll_commits input (λ p spec. ap (λ (s : Scheduler). s.validate (view_of input p) spec) c.asks) calm (subst NodesHeldOnce (sym got) c.stored.held_once)).calm

  none_yet : (committed.added ≡ []) × (committed.refused ≡ [])
  none_yet =
      let done = poll_commits input (λ p spec. ap (λ (s : Scheduler). s.validate (view_of input p) spec) c.asks) calm (subst NodesHeldOnce (sym got) c.stored.held_once) in
      (done.added, done.refused)

  -- The poll's store meets the invariant, and the sources of its Compacted jobs stand.
  stands : PollStands merge input
  stands = record {
    store = store;
    stands =
        record {
          invariant = c.stored;
          stored = some_records store.records c.recorded;
          compacted = subst (AllByRecursion (λ job. IsTrue (has_status Compacted job) → SourcesStand store.manifest.trees job)) (sym got) (all_to _ _ (stored_jobs store) (λ job there h. finished_stands store.manifest.trees job h) c.jobs);
        };
    manifest = refl;
  }

  are : AreDrawn input drawn
  are = record {
    specs = c.each ∙ ap (λ b. cond b [] (proposals input (cond b (committed_poll input) (freed_and_committed input)))) c.whole;
    rise = c.rise;
    new = all_to _ _ drawn (λ d there fresh. ap (λ jobs. contains (ids jobs) d.0) got ∙ not_among d.0 (stored_jobs store) fresh) c.fresh;
  }

  heavy : AllByRecursion (λ d. IsHeavy d.1) drawn
  heavy =
      let view : View = view_of input (freed_and_committed input) in
      all_second IsHeavy drawn (subst (AllByRecursion IsHeavy) (sym are.specs) (all_take IsHeavy _ _ (subst (λ (s : Scheduler). AllByRecursion IsHeavy (s.propose view)) (sym c.asks) (levels_are_heavy o allowed most view))))

  abbrev with_added : PollState
  with_added = add_drawn 1 drawn committed

  abbrev waiting : Jobs
  waiting = filter (has_status Submitted) with_added.jobs

  abbrev ended : PollState
  ended = open_submitted input with_added

  adds : Adds committed.jobs committed with_added
  adds = adds_all committed.jobs 1 drawn committed (ap (λ (added : List (ℕ × JobSpec)). with_new added committed.jobs) (sym none_yet.0)) heavy (subst (AllByRecursion (λ (q : ℕ × JobSpec). IsHeavy q.1)) (sym none_yet.0) tt)

  polled_ended : polled_state input drawn ≡ ended
  polled_ended = ap (λ (p : PollState). open_submitted input (add_drawn 1 drawn p)) asked

  reached : reached_state ask store drawn ≡ ended
  reached =
      ap (λ b. let p = cond b (committed_poll input) (freed_and_committed input) in cond b p (open_submitted input (add_drawn 1 drawn p))) c.whole
      ∙ polled_ended

  -- No job that waits is refused: each was added.
  unrefused : AllByRecursion (λ job. contains (firsts ended.refused) job.id ≡ false) waiting
  unrefused = all_to _ _ waiting (λ job there f. by job f.1 (in_new with_added.added committed.jobs job (subst (IsIn job) adds.jobs f.0))) (filtered (has_status Submitted) with_added.jobs)
    where
      own : AcceptsItsOwn input drawn
      own = polls_accept_levels merge o allowed most input stands c.asks drawn are

      accepted : (n : ℕ × JobSpec) → IsIn n with_added.added → contains (firsts ended.refused) n.0 ≡ false
      accepted n named =
          let there : IsIn n ended.added = subst (IsIn n) (sym (opened_added input waiting with_added)) named in
          let free = all_at HasFreeId ended.added n (subst (λ (p : PollState). AllByRecursion HasFreeId p.added) reached c.free_ids) there in
          all_at (λ (a : ℕ × JobSpec). HasFreeId a → contains (firsts ended.refused) a.0 ≡ false) ended.added n
          (subst (λ (p : PollState). AllByRecursion (λ (a : ℕ × JobSpec). HasFreeId a → contains (firsts p.refused) a.0 ≡ false) p.added) polled_ended own.refused) there free

      by : (job : Job) → has_status Submitted job ≡ true → ((n : ℕ × JobSpec) × (IsIn n with_added.added × (new_job n ≡ job))) ⊎ IsIn job committed.jobs → contains (firsts ended.refused) job.id ≡ false
      by job new (inl (n, (named, same))) = subst (λ (j : Job). contains (firsts ended.refused) j.id ≡ false) same (accepted n named)
      by job new (inr old) = let none = none_submitted job (all_at (IsCalmTill []) committed.jobs job commits old) in absurd (cc (new, none))

  refuses_none : (reached_state ask store drawn).refused ≡ []
  refuses_none =
      ap (λ (p : PollState). p.refused) reached
      ∙ none_named ended.refused (refused_of (λ id. contains (firsts ended.refused) id ≡ false) input waiting with_added unrefused
      (subst (AllByRecursion (λ (r : ℕ × ℕ). contains (firsts ended.refused) r.0 ≡ false)) (sym (added_refused 1 drawn committed ∙ none_yet.1)) tt))

-- ---- the laws

pub levels_settle : LevelsSettle
levels_settle o allowed most some = record {
  accepts = λ view spec. refl;
  heavy = levels_are_heavy o allowed most;
  quiet = levels_rest_within o most some;
  passes = λ merge ask store drawn c. refuses_none o allowed most merge ask store drawn c;
}

-- The law: a settle line with the levelled scheduler settles in so many rounds.
pub level_lines_settle : LevelLinesSettle
level_lines_settle inputs o most old coordinator worker rounds answer new h =
    let count = weights_count old.store.manifest.trees in
    let many = h.enough in
    let settled : SettledSmall (is_within o) old answer new = settle_lines_settle inputs (is_within o) old coordinator worker rounds answer new (record {
      settling = subst (λ (s : Scheduler). Settling s (is_within o)) (sym h.levels) (levels_settle o h.allowed most h.some_job);
      line = h.line;
      enough = omega (arith, count, many);
    }) in
    let time = settled.in_time in
    record {
      round = settled.round;
      says = settled.says;
      in_time = omega (arith, time, count);
      none_active = settled.none_active;
      within = settled.small;
    }
