-- The trees that a poll reached: its steps so far fit one after the other, and they made these trees.
use Rattle.std.proofs.Common.{◌≡◌, ◌≢◌, refl, sym, ◌∙◌, ap, subst, ℕ, ◌<◌, List, [], ◌∷◌, ◌++◌, cond, Bool, true, false, inl, inr, ◌⊎◌, Option, Some, None}
use Rattle.std.specs.Prelude.{IsTrue, ◌==◌, ◌||◌}
use Rattle.std.specs.List.{AllByRecursion, concat}
use Rattle.row_model.specs.Lists.{Pairs}
use Rattle.row_model.specs.Fold.{Operator, IsLawful}
use Rattle.fleet_model.specs.Nodes.{Tables, Trees, is_among, table_rows}
use Rattle.fleet_model.specs.Jobs.{JobSpec, Job, Jobs, Scheduled, Running, Compacted, has_status, job_with, contains, changed_jobs}
use Rattle.fleet_model.specs.History.{Party, Step, Join}
use Rattle.fleet_model.specs.Store.{stored_jobs}
use Rattle.fleet_model.specs.Trees.{job_of, stepped_in, stepped_all, horizon_after, horizon_after_all}
use Rattle.fleet_model.specs.Work.Records.{new_job, to_completed, to_failed}
use Rattle.fleet_model.specs.Past.Replay.{outputs_in}
use Rattle.fleet_model.specs.Work.Gates.{reserves_nodes, commit_gate}
use Rattle.fleet_model.specs.Invariants.JobsFit.{SourcesStand, was_joined}
use Rattle.fleet_model.specs.Work.PollStates.{PollInput, PollState, accepts}
use Rattle.fleet_model.specs.Work.Polls.{commit_by}
use Rattle.step_model.specs.Past.{World}
use Rattle.step_model.specs.Entries.{drew_job, is_mentioned}
use Rattle.step_model.specs.LawfulManifests.{StepsFit, StepFits, JoinFits, joined_after, IsKnownTo, cut_of}
use Rattle.step_model.specs.Kept.Keeps.{Keeps}
use Rattle.step_laws.proofs.Elements.{IsIn, all_at, all_to, all_push}
use Rattle.step_laws.proofs.Bodies.{Body, JobKept, whole_of}
use Rattle.step_laws.proofs.Changed.{by_these, all_on_these}
use Rattle.step_laws.proofs.NewJobs.{in_new}
use Rattle.step_laws.proofs.TableReplays.{TreesAll, step_all}
use Rattle.step_laws.proofs.KnownJobs.{outputs_are}
use Rattle.commit_laws.specs.After.{joined_by}
use Rattle.commit_laws.proofs.CommitSteps.{steps_keep}
use Rattle.commit_laws.proofs.JobSteps.{JobHolds, is_done}
use Rattle.commit_laws.proofs.Midway.{Midway, found_job}
use Rattle.commit_laws.proofs.Segments.{segment_named, in_order}
use Rattle.commit_laws.proofs.TreeReads.{with_horizon}
use Rattle.commit_laws.proofs.SecondJoins.{rest_at, passed}
use Rattle.coordinator_laws.proofs.Marks.{contains_push}
use Rattle.coordinator_laws.proofs.Jobs.{Among, HeldApart, JobsReached, is_own, MayEnd, IsSubmitted, IsCompacted, compacted_ends}
use Rattle.coordinator_laws.proofs.Names.{IsNamed}
use Rattle.coordinator_laws.proofs.Gates.{commits_too, lost_by_scheduler}
use Rattle.coordinator_laws.proofs.Statuses.{submitted_compacted}
use Rattle.rival_laws.proofs.FreeTables.{refused}

-- ---- one more step

-- The spec and the recorded tables by which a step of a job is taken.
abbrev pub parts : World → (ℕ → JobSpec) → ℕ → JobSpec × List ℕ
parts world own id = (own id, outputs_in world.store.records id)

abbrev pub cuts : World → ℕ → Option ℕ
cuts world id = cut_of (job_with id (stored_jobs world.store))

pub fits_push : (world : World) (own : ℕ → JobSpec) (trees : Trees) (joined : List ℕ) (steps : List Step) (step : Step) → StepsFit world own trees joined steps
    → StepFits world (stepped_all world.store.tables (λ id. (own id, outputs_in world.store.records id)) steps trees) (joined_by steps joined) (own (job_of step)) step → StepsFit world own trees joined (steps ++ step ∷ [])
fits_push world own trees joined [] step h one = (one, tt)
fits_push world own trees joined (first ∷ steps) step h one =
    (h.0, fits_push world own (stepped_in world.store.tables first (own (job_of first)) (outputs_in world.store.records (job_of first)) trees) (joined_after first joined) steps step h.1 one)

pub stepped_push : (tables : Tables) (f : ℕ → JobSpec × List ℕ) (steps : List Step) (step : Step) (trees : Trees) → stepped_all tables f (steps ++ step ∷ []) trees ≡ stepped_in tables step (f (job_of step)).0 (f (job_of step)).1 (stepped_all tables f steps trees)
stepped_push tables f [] step trees = refl
stepped_push tables f (first ∷ steps) step trees = stepped_push tables f steps step (stepped_in tables first (f (job_of first)).0 (f (job_of first)).1 trees)

pub horizon_push : (floor : ℕ) (f : ℕ → Option ℕ) (steps : List Step) (step : Step) (horizon : ℕ) → horizon_after_all floor f (steps ++ step ∷ []) horizon ≡ horizon_after floor step (f (job_of step)) (horizon_after_all floor f steps horizon)
horizon_push floor f [] step horizon = refl
horizon_push floor f (first ∷ steps) step horizon = horizon_push floor f steps step (horizon_after floor first (f (job_of first)) horizon)

pub joined_push : (steps : List Step) (step : Step) (joined : List ℕ) → joined_by (steps ++ step ∷ []) joined ≡ joined_after step (joined_by steps joined)
joined_push [] step joined = refl
joined_push (first ∷ steps) step joined = joined_push steps step (joined_after first joined)

-- ---- what a poll may rely on

-- The world as the poll puts the manifest, with the jobs that it got and the ids that it drew. Jobs that it may end are stored as it got
-- them. Stored jobs that hold nodes held them as it got them. The trees that it starts from have what is kept in the midst of a commit.
pub record Case (merge : Operator) (party : Party) (h : World) (input : PollInput) (got : Jobs) (drawn : List (ℕ × JobSpec)) (start : Trees) : Type 0 where
  pub lawful : IsLawful merge
  pub kept : Keeps merge h
  pub horizon : ℕ
  pub midway : Midway merge h start horizon []
  pub rows : (id : ℕ) → IsTrue (is_among input.tables id) → table_rows h.store.tables id ≡ table_rows input.tables id
  pub pieces : TreesAll (λ id. IsTrue (is_among input.tables id)) start
  pub outputs : (job : Job) → IsIn job got → IsCompacted job → AllByRecursion (λ id. IsTrue (is_among input.tables id)) (concat job.outputs)
  pub same : (job : Job) → IsIn job got → MayEnd job → job_with job.id (stored_jobs h.store) ≡ Some job
  pub from : (s : Job) → IsIn s (stored_jobs h.store) → IsTrue (reserves_nodes s) → Among (λ b. (b.spec ≡ s.spec) × IsTrue (reserves_nodes b)) got s.id
  pub fresh : AllByRecursion (λ q. (job_with q.0 (stored_jobs h.store) ≡ None) × (IsTrue (drew_job party h.store.history q.0) × (is_mentioned h.store.history q.0 ≡ false))) drawn
  pub new_ids : (q : ℕ × JobSpec) (job : Job) → IsIn q drawn → IsIn job got → q.0 ≡ job.id → ⊥
  pub once : Pairs (λ p q. p.0 ≢ q.0) drawn
  pub rise : Pairs (λ a b. a.id < b.id) got
  pub apart : HeldApart got

-- The steps so far fit, and made the trees and the horizon. Failed commits failed by the scheduler's rule, but for jobs that an earlier commit
-- joined. The sources of opened jobs stand.
pub record TreesReached (party : Party) (h : World) (input : PollInput) (drawn : List (ℕ × JobSpec)) (own : ℕ → JobSpec) (start : Trees) (horizon : ℕ) (p : PollState) : Type 0 where
  pub fits : StepsFit h own start [] p.steps
  pub known : AllByRecursion (λ step. IsKnownTo party h own (job_of step)) p.steps
  pub pieces : TreesAll (λ id. IsTrue (is_among input.tables id)) p.trees
  pub are : p.trees ≡ stepped_all h.store.tables (λ id. (own id, outputs_in h.store.records id)) p.steps start
  pub horizon_is : p.horizon ≡ horizon_after_all input.manifest.floor (λ id. cut_of (job_with id (stored_jobs h.store))) p.steps horizon
  pub joined : (n : ℕ) → contains (joined_by p.steps []) n ≡ contains p.done n
  pub lost : AllByRecursion (λ l. (l.1 ≡ 0) ⊎ IsTrue (was_joined h.store.history l.0)) p.lost
  pub opened : AllByRecursion (Among (λ job. IsTrue (has_status Scheduled job) × SourcesStand p.trees job) p.jobs) p.opened
  pub specs : AllByRecursion (λ job. own job.id ≡ job.spec) p.jobs
  pub added : AllByRecursion (λ q. IsIn q drawn) p.added
  pub covered : AllByRecursion (λ step. job_with (job_of step) (stored_jobs h.store) ≡ None → IsNamed own p.added (job_of step)) p.steps

-- What is kept in the midst of the poll.
pub record MidwayAt (merge : Operator) (h : World) (p : PollState) : Type 0 where
  pub horizon : ℕ
  pub midway : Midway merge h p.trees horizon (joined_by p.steps [])

pub midway_at : {merge : Operator} {party : Party} {h : World} {input : PollInput} {got : Jobs} {drawn : List (ℕ × JobSpec)} {start : Trees} {own : ℕ → JobSpec} {horizon : ℕ} {p : PollState}
    → Case merge party h input got drawn start → TreesReached party h input drawn own start horizon p → MidwayAt merge h p
midway_at {merge} {party} {h} {input} {got} {drawn} {start} {own} {horizon} {p} c t = record {
  horizon = horizon_after_all h.store.manifest.floor (λ id. cut_of (job_with id (stored_jobs h.store))) p.steps c.horizon;
  midway = subst (λ trees. Midway merge h trees (horizon_after_all h.store.manifest.floor (λ id. cut_of (job_with id (stored_jobs h.store))) p.steps c.horizon) (joined_by p.steps [])) (sym t.are)
      (steps_keep merge h party c.kept.stored.replay.specs own start c.horizon [] p.steps c.lawful (whole_of merge h c.kept).body t.known t.fits c.midway);
}

-- ---- the job of a step

-- A reached job that may end was got, and is stored, or it was added, and no entry mentions it.
pub data Source (party : Party) (h : World) (got : Jobs) (added : List (ℕ × JobSpec)) (job : Job) : Type 0 where
  IsStored : IsIn job got → job_with job.id (stored_jobs h.store) ≡ Some job → Source party h got added job
  IsNew : (q : ℕ × JobSpec) → IsIn q added → new_job q ≡ job → IsSubmitted job → job_with job.id (stored_jobs h.store) ≡ None → IsTrue (drew_job party h.store.history job.id) → is_mentioned h.store.history job.id ≡ false → Source party h got added job

pub source_of : {merge : Operator} {party : Party} {h : World} {input : PollInput} {got : Jobs} {drawn : List (ℕ × JobSpec)} {start : Trees} {own : ℕ → JobSpec} {horizon : ℕ} {p : PollState}
    → Case merge party h input got drawn start → TreesReached party h input drawn own start horizon p → JobsReached got p → (job : Job) → IsIn job p.jobs → MayEnd job → Source party h got p.added job
source_of {merge} {party} {h} {input} {got} {drawn} {start} {own} {horizon} {p} c t r job there ends = by (in_new p.added got job (is_own got p r job there ends).there)
  where
    at : (q : ℕ × JobSpec) → IsIn q p.added → Source party h got p.added (new_job q)
    at q one = let f = all_at _ drawn q c.fresh (all_at (λ x. IsIn x drawn) p.added q t.added one) in IsNew q one refl refl f.0 f.1.0 f.1.1

    by : ((q : ℕ × JobSpec) × (IsIn q p.added × (new_job q ≡ job))) ⊎ IsIn job got → Source party h got p.added job
    by (inl found) = subst (Source party h got p.added) found.1.1 (at found.0 found.1.0)
    by (inr one) = IsStored one (c.same job one ends)

pub known_of : {party : Party} {h : World} {got : Jobs} {added : List (ℕ × JobSpec)} {job : Job} (own : ℕ → JobSpec) → Source party h got added job → own job.id ≡ job.spec → IsKnownTo party h own job.id
known_of {party} {h} {got} {added} {job} own (IsStored there stored) same = rw stored same
known_of {party} {h} {got} {added} {job} own (IsNew q there is submitted none drew unmentioned) same = rw none (drew, unmentioned)

-- A job that is not stored was added, with the spec by which a step takes it.
pub named_by : {party : Party} {h : World} {got : Jobs} {added : List (ℕ × JobSpec)} {job : Job} (own : ℕ → JobSpec) → Source party h got added job → own job.id ≡ job.spec → job_with job.id (stored_jobs h.store) ≡ None → IsNamed own added job.id
named_by {party} {h} {got} {added} {job} own (IsStored there stored) same none = absurd (clash (sym none ∙ stored))
  where
    clash : None ≡ Some job → ⊥
    clash e = absurd (cc e)
named_by {party} {h} {got} {added} {job} own (IsNew q there is submitted none drew unmentioned) same absent = record { p = q; there = there; id = ap (λ (j : Job). j.id) is; spec = ap (λ (j : Job). j.spec) is ∙ sym same }

-- A Compacted job that was reached is stored.
pub compacted_stored : {party : Party} {h : World} {got : Jobs} {added : List (ℕ × JobSpec)} {job : Job} → IsCompacted job → Source party h got added job → job_with job.id (stored_jobs h.store) ≡ Some job
compacted_stored {party} {h} {got} {added} {job} compacted (IsStored there stored) = stored
compacted_stored {party} {h} {got} {added} {job} compacted (IsNew q there is submitted none drew unmentioned) = absurd (submitted_compacted job.status submitted compacted)

-- A Compacted job that was reached was got.
pub compacted_got : {party : Party} {h : World} {got : Jobs} {added : List (ℕ × JobSpec)} {job : Job} → IsCompacted job → Source party h got added job → IsIn job got
compacted_got {party} {h} {got} {added} {job} compacted (IsStored there stored) = there
compacted_got {party} {h} {got} {added} {job} compacted (IsNew q there is submitted none drew unmentioned) = absurd (submitted_compacted job.status submitted compacted)

-- ---- a commit

or_first : (a b : Bool) → (a || b) ≡ false → a ≡ false
or_first true b e = absurd (cc e)
or_first false b e = refl

pub specs_on : (own : ℕ → JobSpec) (f : Job → Job) (these : List ℕ) (jobs : Jobs) → ((job : Job) → (f job).id ≡ job.id) → ((job : Job) → (f job).spec ≡ job.spec) → AllByRecursion (λ (job : Job). own job.id ≡ job.spec) jobs
    → AllByRecursion (λ (job : Job). own job.id ≡ job.spec) (changed_jobs f these jobs)
specs_on own f these jobs ids specs h = all_on_these (λ (job : Job). own job.id ≡ job.spec) f these jobs (λ job there. by_these (λ (j : Job). own j.id ≡ j.spec) f these job
    (λ named. ap own (ids job) ∙ all_at (λ (j : Job). own j.id ≡ j.spec) jobs job h there ∙ sym (specs job)) (λ other. all_at (λ (j : Job). own j.id ≡ j.spec) jobs job h there))

pub none_opened : (P : ℕ → Type 0) (ids : List ℕ) → ids ≡ [] → AllByRecursion P ids
none_opened P ids e = subst (AllByRecursion P) (sym e) tt

-- A commit may join a Compacted job of a poll in the trees that it reached, if the job passes the gate.
join_fits : {merge : Operator} {party : Party} {h : World} {input : PollInput} {got : Jobs} {drawn : List (ℕ × JobSpec)} {start : Trees} {own : ℕ → JobSpec} {horizon : ℕ} {p : PollState}
    → Case merge party h input got drawn start → (t : TreesReached party h input drawn own start horizon p) → (r : JobsReached got p) → (job : Job) → IsIn job p.jobs → IsCompacted job → commit_gate p.trees (accepts input p) job ≡ None
    → JoinFits h p.trees (joined_by p.steps []) job.id
join_fits {merge} {party} {h} {input} {got} {drawn} {start} {own} {horizon} {p} c t r job there compacted gate = record {
  job = job;
  stored = stored;
  finished = compacted;
  gate = commits_too p.trees (accepts input p) job gate;
  once = t.joined job.id ∙ or_first (contains p.done job.id) (contains p.moved job.id || contains p.drained job.id) (is_own got p r job there (compacted_ends job compacted)).none.completed;
  again = λ was.
      let spec = all_at (λ (j : Job). own j.id ≡ j.spec) p.jobs job t.specs there in
      rest_at merge h p.trees m.horizon (joined_by p.steps []) job
      (all_to _ _ p.trees (λ s one f. (segment_named merge (with_horizon h.store m.horizon) h.store.history s b.sound.tables f, in_order h.store.tables s f.tree)) m.midway.kept.each) m.midway.kept.rise
      (passed p.trees job (commits_too p.trees (accepts input p) job gate))
      ((all_at (JobHolds h p.trees (joined_by p.steps [])) (stored_jobs h.store) job m.midway.jobs (found_job job.id (stored_jobs h.store) job stored).0).again compacted (either (contains (joined_by p.steps []) job.id) was));
}
  where
    stored : job_with job.id (stored_jobs h.store) ≡ Some job
    stored = compacted_stored compacted (source_of c t r job there (compacted_ends job compacted))

    m : MidwayAt merge h p
    m = midway_at c t

    b : Body merge h c.kept.stored.replay.specs
    b = (whole_of merge h c.kept).body

    either : (x : Bool) → was_joined h.store.history job.id ≡ true → (x || was_joined h.store.history job.id) ≡ true
    either true e = refl
    either false e = e

joined_more : (id n : ℕ) (xs done : List ℕ) → contains xs n ≡ contains done n → contains (id ∷ xs) n ≡ contains (done ++ id ∷ []) n
joined_more id n xs done e = first (id == n) (contains xs n) ∙ ap (λ b. b || (id == n)) e ∙ sym (contains_push done id n)
  where
    first : (a b : Bool) → cond a true b ≡ (b || a)
    first true true = refl
    first true false = refl
    first false true = refl
    first false false = refl

-- The steps of a poll that opened no job yet still fit and make its trees after it commits a job that passes the gate.
pub trees_done : {merge : Operator} {party : Party} {h : World} {input : PollInput} {got : Jobs} {drawn : List (ℕ × JobSpec)} {start : Trees} {own : ℕ → JobSpec} {horizon : ℕ} {p : PollState}
    → Case merge party h input got drawn start → (t : TreesReached party h input drawn own start horizon p) → (r : JobsReached got p) → (job : Job) → IsIn job p.jobs → IsCompacted job → p.opened ≡ [] → commit_gate p.trees (accepts input p) job ≡ None
    → TreesReached party h input drawn own start horizon (commit_by input job None p)
trees_done {merge} {party} {h} {input} {got} {drawn} {start} {own} {horizon} {p} c t r job there compacted none gate = record {
  fits = fits_push h own start [] p.steps (Join job.id) t.fits (subst (λ trees. JoinFits h trees (joined_by p.steps []) job.id) t.are (join_fits c t r job there compacted gate));
  known = all_push _ p.steps (Join job.id) t.known (known_of own source spec);
  pieces = step_all (λ id. IsTrue (is_among input.tables id)) input.tables (Join job.id) job.spec (concat job.outputs) p.trees (c.outputs job (compacted_got compacted source) compacted) t.pieces;
  are = (λ i. stepped_in h.store.tables (Join job.id) (sym spec i) (sym (outputs_are h.store.records job.id job stored) i) (t.are i)) ∙ sym (stepped_push h.store.tables (parts h own) p.steps (Join job.id) start);
  horizon_is = (λ i. horizon_after input.manifest.floor (Join job.id) (sym (ap cut_of stored) i) (t.horizon_is i)) ∙ sym (horizon_push input.manifest.floor (cuts h) p.steps (Join job.id) horizon);
  joined = λ n. ap (λ xs. contains xs n) (joined_push p.steps (Join job.id) []) ∙ joined_more job.id n (joined_by p.steps []) p.done (t.joined n);
  lost = t.lost;
  opened = none_opened _ p.opened none;
  specs = specs_on own to_completed (job.id ∷ []) p.jobs (λ j. refl) (λ j. refl) t.specs;
  added = t.added;
  covered = all_push _ p.steps (Join job.id) t.covered (named_by own source spec);
}
  where
    source : Source party h got p.added job
    source = source_of c t r job there (compacted_ends job compacted)

    stored : job_with job.id (stored_jobs h.store) ≡ Some job
    stored = compacted_stored compacted source

    spec : own job.id ≡ job.spec
    spec = all_at (λ (j : Job). own j.id ≡ j.spec) p.jobs job t.specs there

-- A commit that failed.
pub trees_lost : {merge : Operator} {party : Party} {h : World} {input : PollInput} {got : Jobs} {drawn : List (ℕ × JobSpec)} {start : Trees} {own : ℕ → JobSpec} {horizon : ℕ} {p : PollState}
    → Case merge party h input got drawn start → (t : TreesReached party h input drawn own start horizon p) → (r : JobsReached got p) → (job : Job) (rule : ℕ) → IsIn job p.jobs → IsCompacted job → p.opened ≡ [] → commit_gate p.trees (accepts input p) job ≡ Some rule
    → TreesReached party h input drawn own start horizon (commit_by input job (Some rule) p)
trees_lost {merge} {party} {h} {input} {got} {drawn} {start} {own} {horizon} {p} c t r job rule there compacted none gate = record {
  fits = t.fits;
  known = t.known;
  pieces = t.pieces;
  are = t.are;
  horizon_is = t.horizon_is;
  joined = t.joined;
  lost = all_push _ p.lost (job.id, rule) t.lost (why (was_joined h.store.history job.id) refl);
  opened = none_opened _ p.opened none;
  specs = specs_on own to_failed (job.id ∷ []) p.jobs (λ j. refl) (λ j. refl) t.specs;
  added = t.added;
  covered = t.covered;
}
  where
    stored : job_with job.id (stored_jobs h.store) ≡ Some job
    stored = compacted_stored compacted (source_of c t r job there (compacted_ends job compacted))

    m : MidwayAt merge h p
    m = midway_at c t

    b : Body merge h c.kept.stored.replay.specs
    b = (whole_of merge h c.kept).body

    reserves : IsTrue (reserves_nodes job)
    reserves = by (has_status Scheduled job) (has_status Running job) (has_status Compacted job) compacted
      where
        by : (x y z : Bool) → IsTrue z → IsTrue (x || y || z)
        by true y z h = refl
        by false true z h = refl
        by false false z h = h

    undone : was_joined h.store.history job.id ≡ false → is_done h.store.history (joined_by p.steps []) job ≡ false
    undone e = rw (t.joined job.id ∙ or_first (contains p.done job.id) (contains p.moved job.id || contains p.drained job.id) (is_own got p r job there (compacted_ends job compacted)).none.completed, e) refl

    stands : was_joined h.store.history job.id ≡ false → IsTrue (was_joined h.store.history job.id) ⊎ SourcesStand h.store.manifest.trees job → SourcesStand p.trees job
    stands e (inl was) = absurd (refused (was_joined h.store.history job.id) e was)
    stands e (inr stand) = (all_at (JobHolds h p.trees (joined_by p.steps [])) (stored_jobs h.store) job m.midway.jobs (found_job job.id (stored_jobs h.store) job stored).0).stand reserves (undone e) stand

    why : (x : Bool) → was_joined h.store.history job.id ≡ x → (rule ≡ 0) ⊎ IsTrue (was_joined h.store.history job.id)
    why true e = inr e
    why false e = inl (lost_by_scheduler p.trees (accepts input p) job rule
        (stands e ((all_at (JobKept merge h c.kept.stored.replay.specs) (stored_jobs h.store) job b.jobs (found_job job.id (stored_jobs h.store) job stored).0).fits.sources.1 compacted)) gate)
