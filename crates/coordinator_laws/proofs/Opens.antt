-- Submitted jobs that a poll opens, moves, drains or refuses: its steps still fit, and the sources of opened jobs stand.
use Rattle.std.proofs.Common.{◌≡◌, refl, sym, ◌∙◌, ap, subst, ℕ, List, [], ◌∷◌, cond, Bool, true, false, inl, inr, ◌⊎◌, Option, Some, None}
use Rattle.std.specs.Prelude.{IsTrue, IfSome, ◌==◌, ◌||◌, ◌&&◌, not, filter, is_some, bytes_eq}
use Rattle.std.specs.List.{AllByRecursion}
use Rattle.std.proofs.lemmas.Bool.Decides.{Decides-eqb}
use Rattle.row_model.specs.Fold.{Operator}
use Rattle.std.specs.Ordering.{is_lt}
use Rattle.row_model.specs.Rows.{key_cmp}
use Rattle.fleet_model.specs.Nodes.{Tables, Trees, Segment, Node, is_among, table_rows, segment_at, tree_at}
use Rattle.fleet_model.specs.Jobs.{JobSpec, is_drain, Job, Jobs, Submitted, Scheduled, nodes_of, has_status, job_with, contains, changed_jobs}
use Rattle.fleet_model.specs.History.{Party, Move, Drain}
use Rattle.fleet_model.specs.Sources.{is_apart}
use Rattle.fleet_model.specs.Store.{stored_jobs}
use Rattle.fleet_model.specs.Trees.{stepped_in, stepped_all, source_pieces, by_first_key, put_by_first_key, first_key, last_key, are_apart, to_run, with_run_for, watermark_after, tables_now}
use Rattle.fleet_model.specs.Work.Records.{firsts, new_job, with_new, to_scheduled, to_completed, to_failed}
use Rattle.fleet_model.specs.Past.Replay.{outputs_in}
use Rattle.fleet_model.specs.Work.Gates.{reserves_nodes, is_nonempty, submit_gate}
use Rattle.fleet_model.specs.Invariants.JobsFit.{SourcesStand, was_joined}
use Rattle.fleet_model.specs.Work.PollStates.{PollInput, PollState, accepts}
use Rattle.fleet_model.specs.Work.Polls.{open_by, drain_job, move_job, schedule_job, can_move, lost_to_scheduler}
use Rattle.step_model.specs.Past.{World}
use Rattle.step_model.specs.LawfulManifests.{AtOnceFits, MoveFits, DrainFits, holding}
use Rattle.step_laws.proofs.Elements.{IsIn, all_at, all_to, all_push, contains_in, in_contains}
use Rattle.step_laws.proofs.Deletions.{in_filter}
use Rattle.step_laws.proofs.Bodies.{whole_of}
use Rattle.step_laws.proofs.PollJobs.{tree_has}
use Rattle.step_laws.proofs.TableReplays.{TreesAll, step_all, sources_all, by_first_all}
use Rattle.rival_laws.proofs.WorkerFollows.{from_filter}
use Rattle.commit_laws.specs.After.{joined_by}
use Rattle.commit_laws.proofs.JobSteps.{OutAt, stand_on_run, stand_on_out}
use Rattle.commit_laws.proofs.Midway.{only_job}
use Rattle.commit_laws.proofs.Segments.{SegmentFits, segment_named, in_order}
use Rattle.commit_laws.proofs.Steps.{found_there}
use Rattle.commit_laws.proofs.TreeReads.{with_horizon}
use Rattle.commit_laws.proofs.AtOnce.{NewMove, move_found, run_of_move, gated, submitted_free}
use Rattle.coordinator_laws.proofs.Marks.{did, did_id, did_spec, marks_of, is_completed, is_failed, done_to}
use Rattle.coordinator_laws.proofs.Jobs.{Among, JobsReached, IsSubmitted, submitted_ends, in_new_old, IsAwayFrom}
use Rattle.coordinator_laws.proofs.Gates.{submittable, passes_beside, free_of, is_free_if, opened_stands}
use Rattle.coordinator_laws.proofs.Reached.{Case, TreesReached, MidwayAt, midway_at, Source, IsStored, IsNew, source_of, known_of, named_by, parts, cuts, fits_push, stepped_push, horizon_push, joined_push, specs_on}
use Rattle.coordinator_laws.proofs.Statuses.{scheduled_holds, submitted_scheduled}
use Rattle.step_laws.proofs.Polls.{in_map, from_map}
use Rattle.rival_laws.proofs.FreeTables.{refused}

-- ---- what stored jobs hold, the poll's jobs hold

-- A job of the poll that holds nodes, or that failed by the scheduler's rule.
pub record HeldBy (p : PollState) (s : Job) : Type 0 where
  pub job : Job
  pub there : IsIn job p.jobs
  pub id : job.id ≡ s.id
  pub spec : job.spec ≡ s.spec
  pub holds : IsTrue (reserves_nodes job || contains (lost_to_scheduler p.lost) job.id)

in_firsts : (lost : List (ℕ × ℕ)) (id : ℕ) → IsIn id (firsts lost) → (l : ℕ × ℕ) × (IsIn l lost × (l.0 ≡ id))
in_firsts lost id there = from_map_pairs lost there
  where
    from_map_pairs : (ls : List (ℕ × ℕ)) → IsIn id (firsts ls) → (l : ℕ × ℕ) × (IsIn l ls × (l.0 ≡ id))
    from_map_pairs [] there = absurd there
    from_map_pairs (l ∷ ls) (inl same) = (l, (inl refl, same))
    from_map_pairs (l ∷ ls) (inr there) = let found = from_map_pairs ls there in (found.0, (inr found.1.0, found.1.1))

-- A stored job that holds nodes and was never joined holds them in the poll, or failed there by the scheduler's rule.
held_by : {merge : Operator} {party : Party} {h : World} {input : PollInput} {got : Jobs} {drawn : List (ℕ × JobSpec)} {start : Trees} {own : ℕ → JobSpec} {horizon : ℕ} {p : PollState}
    → Case merge party h input got drawn start → TreesReached party h input drawn own start horizon p → JobsReached got p → (s : Job) → IsIn s (stored_jobs h.store) → IsTrue (reserves_nodes s)
    → contains (joined_by p.steps []) s.id ≡ false → was_joined h.store.history s.id ≡ false → HeldBy p s
held_by {merge} {party} {h} {input} {got} {drawn} {start} {own} {horizon} {p} c t r s there holds unjoined never = record {
  job = did (marks_of p r.tables) b;
  there = subst (IsIn (did (marks_of p r.tables) b)) (sym r.are) (in_map (did (marks_of p r.tables)) (with_new p.added got) b among);
  id = did_id (marks_of p r.tables) b ∙ found.1.1.0;
  spec = did_spec (marks_of p r.tables) b ∙ found.1.1.1.0;
  holds = subst (λ n. IsTrue (reserves_nodes (did (marks_of p r.tables) b) || contains (lost_to_scheduler p.lost) n)) (sym (did_id (marks_of p r.tables) b))
      (by (contains p.freed b.id) refl (contains p.opened b.id) refl (is_completed p b.id) refl (is_failed p b.id) refl);
}
  where
    found : Among (λ b. (b.spec ≡ s.spec) × IsTrue (reserves_nodes b)) got s.id
    found = c.from s there holds

    b : Job
    b = found.0

    among : IsIn b (with_new p.added got)
    among = in_new_old p.added got b found.1.0

    own_holds : IsTrue (reserves_nodes b)
    own_holds = found.1.1.1.1

    -- What is so of the marked job of this id is so of this job.
    of_own : (P : Job → Type 0) → Among P (with_new p.added got) b.id → P b
    of_own P one = subst P (only_job (with_new p.added got) one.0 b r.rise one.1.0 among one.1.1.0) one.1.1.1

    no_submitted : (ids : List ℕ) → AllByRecursion (Among IsSubmitted (with_new p.added got)) ids → IsTrue (contains ids b.id) → ⊥
    no_submitted ids all one = submitted_free b.status (of_own IsSubmitted (all_at (Among IsSubmitted (with_new p.added got)) ids b.id all (contains_in ids b.id one))) own_holds

    not_done : IsTrue (contains p.done b.id) → ⊥
    not_done one = refused (contains (joined_by p.steps []) s.id) unjoined (subst (λ n. IsTrue (contains (joined_by p.steps []) n)) found.1.1.0 (t.joined b.id ∙ one))

    completed : (x y z : Bool) → contains p.done b.id ≡ x → contains p.moved b.id ≡ y → contains p.drained b.id ≡ z → IsTrue (x || (y || z)) → ⊥
    completed true y z e f g one = not_done e
    completed false true z e f g one = no_submitted p.moved r.moved f
    completed false false true e f g one = no_submitted p.drained r.drained g
    completed false false false e f g one = absurd (cc one)

    lost : IsTrue (contains (firsts p.lost) b.id) → IsTrue (contains (lost_to_scheduler p.lost) b.id)
    lost one = at (in_firsts p.lost b.id (contains_in (firsts p.lost) b.id one))
      where
        scheduler : (l : ℕ × ℕ) → IsIn l p.lost → l.0 ≡ b.id → (l.1 ≡ 0) ⊎ IsTrue (was_joined h.store.history l.0) → IsTrue (contains (lost_to_scheduler p.lost) b.id)
        scheduler l one same (inl zero) = subst (λ n. IsTrue (contains (lost_to_scheduler p.lost) n)) same
            (in_contains (lost_to_scheduler p.lost) l.0 (in_map (λ (x : ℕ × ℕ). x.0) (filter (λ x. x.1 == 0) p.lost) l (in_filter (λ (x : ℕ × ℕ). x.1 == 0) p.lost l one ((Decides-eqb l.1 0).1 zero))))
        scheduler l one same (inr was) = absurd (refused (was_joined h.store.history s.id) never (subst (λ n. IsTrue (was_joined h.store.history n)) (same ∙ found.1.1.0) was))

        at : (l : ℕ × ℕ) × (IsIn l p.lost × (l.0 ≡ b.id)) → IsTrue (contains (lost_to_scheduler p.lost) b.id)
        at l = scheduler l.0 l.1.0 l.1.1 (all_at (λ (x : ℕ × ℕ). (x.1 ≡ 0) ⊎ IsTrue (was_joined h.store.history x.0)) p.lost l.0 t.lost l.1.0)

    failed : (x y : Bool) → contains (firsts p.lost) b.id ≡ x → contains (firsts p.refused) b.id ≡ y → IsTrue (x || y) → IsTrue (contains (lost_to_scheduler p.lost) b.id)
    failed true y e f one = lost e
    failed false true e f one = absurd (no_submitted (firsts p.refused) r.refused f)
    failed false false e f one = absurd (cc one)

    right : (x y : Bool) → IsTrue y → IsTrue (x || y)
    right true y h = refl
    right false y h = h

    left : (x y : Bool) → IsTrue x → IsTrue (x || y)
    left true y h = refl
    left false y h = absurd (cc h)

    by : (x : Bool) → contains p.freed b.id ≡ x → (y : Bool) → contains p.opened b.id ≡ y → (z : Bool) → is_completed p b.id ≡ z → (w : Bool) → is_failed p b.id ≡ w
        → IsTrue (reserves_nodes (done_to x y z w (r.tables b.id) b) || contains (lost_to_scheduler p.lost) b.id)
    by x ex y ey z ez true ew = right (reserves_nodes (done_to x y z true (r.tables b.id) b)) (contains (lost_to_scheduler p.lost) b.id) (failed (contains (firsts p.lost) b.id) (contains (firsts p.refused) b.id) refl refl ew)
    by x ex y ey true ez false ew = absurd (completed (contains p.done b.id) (contains p.moved b.id) (contains p.drained b.id) refl refl refl ez)
    by x ex true ey false ez false ew = absurd (no_submitted p.opened r.opened ey)
    by true ex false ey false ez false ew = refl
    by false ex false ey false ez false ew = left (reserves_nodes b) (contains (lost_to_scheduler p.lost) b.id) own_holds

-- ---- jobs that are done at once

-- A commit may do a Submitted job of a poll at once, if the job passes the gate.
pub at_once_fits : {merge : Operator} {party : Party} {h : World} {input : PollInput} {got : Jobs} {drawn : List (ℕ × JobSpec)} {start : Trees} {own : ℕ → JobSpec} {horizon : ℕ} {p : PollState}
    → Case merge party h input got drawn start → TreesReached party h input drawn own start horizon p → JobsReached got p → (job : Job) → IsIn job p.jobs → IsSubmitted job
    → submit_gate p.trees p.jobs (lost_to_scheduler p.lost) (accepts input p) job ≡ None → AtOnceFits h p.trees (joined_by p.steps []) job.spec job.id
at_once_fits {merge} {party} {h} {input} {got} {drawn} {start} {own} {horizon} {p} c t r job there submitted gate = record {
  open_yet = still_open (source_of c t r job there (submitted_ends job submitted));
  gate = passes_beside p.trees p.jobs (holding h.store.history (joined_by p.steps []) (stored_jobs h.store)) (lost_to_scheduler p.lost) (accepts input p) job gate
      (is_free_if (holding h.store.history (joined_by p.steps []) (stored_jobs h.store)) (new_job (job.id, job.spec)) (λ other one differs holds. apart other
      (from_filter (λ (j : Job). not (contains (joined_by p.steps []) j.id || was_joined h.store.history j.id)) (stored_jobs h.store) other one) differs holds));
}
  where
    still_open : Source party h got p.added job → IfSome (job_with job.id (stored_jobs h.store)) (λ j. IsTrue (has_status Submitted j))
    still_open (IsStored one stored) = rw stored submitted
    still_open (IsNew q one is same none drew unmentioned) = rw none tt

    neither : (a b : Bool) → not (a || b) ≡ true → (a ≡ false) × (b ≡ false)
    neither false false e = (refl, refl)
    neither true b e = absurd (cc e)
    neither false true e = absurd (cc e)

    apart : (other : Job) → IsIn other (stored_jobs h.store) × (not (contains (joined_by p.steps []) other.id || was_joined h.store.history other.id) ≡ true) → (job.id ≡ other.id → ⊥) → IsTrue (reserves_nodes other)
        → IsTrue (is_apart (nodes_of job.spec) (nodes_of other.spec))
    apart other one differs holds =
        let free = neither (contains (joined_by p.steps []) other.id) (was_joined h.store.history other.id) one.1 in
        let mine = held_by c t r other one.0 holds free.0 free.1 in
        subst (λ s. IsTrue (is_apart (nodes_of job.spec) (nodes_of s))) mine.spec
        (free_of p.jobs (lost_to_scheduler p.lost) job mine.job (submittable p.trees p.jobs (lost_to_scheduler p.lost) (accepts input p) job gate).free mine.there (λ same. differs (same ∙ mine.id)) mine.holds)

-- What opened jobs hold is apart from what a submitted job touches.
pub away_of : (trees : Trees) (p : PollState) (input : PollInput) (job : Job) → submit_gate p.trees p.jobs (lost_to_scheduler p.lost) (accepts input p) job ≡ None → IsAwayFrom job p.jobs
away_of trees p input job gate other there differs holds =
    free_of p.jobs (lost_to_scheduler p.lost) job other (submittable p.trees p.jobs (lost_to_scheduler p.lost) (accepts input p) job gate).free there differs (left (reserves_nodes other) (contains (lost_to_scheduler p.lost) other.id) holds)
  where
    left : (x y : Bool) → IsTrue x → IsTrue (x || y)
    left true y h = refl
    left false y h = absurd (cc h)

-- A job that is not changed stays among the jobs.
pub still_in : (f : Job → Job) (id : ℕ) (jobs : Jobs) (job : Job) → IsIn job jobs → (id ≡ job.id → ⊥) → IsIn job (changed_jobs f (id ∷ []) jobs)
still_in f id [] job there differs = absurd there
still_in f id (x ∷ jobs) job (inl same) differs = inl (by (id == x.id) refl ∙ same)
  where
    by : (b : Bool) → (id == x.id) ≡ b → cond (cond b true false) (f x) x ≡ x
    by true e = absurd (differs ((Decides-eqb id x.id).0 e ∙ ap (λ (j : Job). j.id) same))
    by false e = refl
still_in f id (x ∷ jobs) job (inr there) differs = inr (still_in f id jobs job there differs)

now_in : (f : Job → Job) (jobs : Jobs) (job : Job) → IsIn job jobs → IsIn (f job) (changed_jobs f (job.id ∷ []) jobs)
now_in f [] job there = absurd there
now_in f (x ∷ jobs) job (inl same) = inl (by (job.id == x.id) ((Decides-eqb job.id x.id).1 (ap (λ (j : Job). j.id) (sym same))) ∙ ap f same)
  where
    by : (b : Bool) → b ≡ true → cond (cond b true false) (f x) x ≡ f x
    by true e = refl
    by false e = absurd (cc e)
now_in f (x ∷ jobs) job (inr there) = inr (now_in f jobs job there)

-- Opened jobs are others than a submitted one.
opened_differs : (got : Jobs) (p : PollState) → JobsReached got p → (job opened : Job) → IsIn job p.jobs → IsSubmitted job → IsIn opened p.jobs → IsTrue (has_status Scheduled opened) → job.id ≡ opened.id → ⊥
opened_differs got p r job opened there submitted one scheduled same =
    let a = from_map (did (marks_of p r.tables)) (with_new p.added got) job (subst (IsIn job) r.are there) in
    let b = from_map (did (marks_of p r.tables)) (with_new p.added got) opened (subst (IsIn opened) r.are one) in
    let m = marks_of p r.tables in
    let equal = only_job (with_new p.added got) a.0 b.0 r.rise a.1.0 b.1.0 (sym (did_id m a.0) ∙ ap (λ (x : Job). x.id) a.1.1 ∙ same ∙ ap (λ (x : Job). x.id) (sym b.1.1) ∙ did_id m b.0) in
    submitted_scheduled opened.status (subst IsSubmitted (sym a.1.1 ∙ ap (did m) equal ∙ b.1.1) submitted) scheduled

-- What opened jobs stand on stays, and the jobs too, but for one submitted job.
opened_stay : (got : Jobs) (p : PollState) (r : JobsReached got p) (job : Job) (f : Job → Job) (trees : Trees) → IsIn job p.jobs → IsSubmitted job
    → ((o : Job) → IsIn o p.jobs → (job.id ≡ o.id → ⊥) → IsTrue (has_status Scheduled o) → SourcesStand p.trees o → SourcesStand trees o)
    → AllByRecursion (Among (λ o. IsTrue (has_status Scheduled o) × SourcesStand p.trees o) p.jobs) p.opened
    → AllByRecursion (Among (λ o. IsTrue (has_status Scheduled o) × SourcesStand trees o) (changed_jobs f (job.id ∷ []) p.jobs)) p.opened
opened_stay got p r job f trees there submitted stays h = all_to _ _ p.opened (λ id one found.
    let differs = opened_differs got p r job found.0 there submitted found.1.0 found.1.1.1.0 in
    (found.0, (still_in f job.id p.jobs found.0 found.1.0 differs, (found.1.1.0, (found.1.1.1.0, stays found.0 found.1.0 differs found.1.1.1.0 found.1.1.1.1))))) h

-- ---- moves over more tables

put_first_same : (a b : Tables) (piece : ℕ) (ps : List ℕ) → table_rows b piece ≡ table_rows a piece → AllByRecursion (λ id. table_rows b id ≡ table_rows a id) ps → put_by_first_key a piece ps ≡ put_by_first_key b piece ps
put_first_same a b piece [] one h = refl
put_first_same a b piece (q ∷ ps) one h =
    let rest = put_first_same a b piece ps one h.1 in
    λ i. cond (is_lt (key_cmp (first_key (sym h.0 i)) (first_key (sym one i)))) (q ∷ rest i) (piece ∷ q ∷ ps)

by_first_same : (a b : Tables) (ps : List ℕ) → AllByRecursion (λ id. table_rows b id ≡ table_rows a id) ps → by_first_key a ps ≡ by_first_key b ps
by_first_same a b [] h = refl
by_first_same a b (p ∷ ps) h = put_first_same a b p (by_first_key a ps) h.0 (by_first_all _ a ps h.1) ∙ ap (put_by_first_key b p) (by_first_same a b ps h.1)

apart_same : (a b : Tables) (ps : List ℕ) → AllByRecursion (λ id. table_rows b id ≡ table_rows a id) ps → are_apart a ps ≡ are_apart b ps
apart_same a b [] h = refl
apart_same a b (p ∷ []) h = refl
apart_same a b (p ∷ q ∷ ps) h =
    let rest = apart_same a b (q ∷ ps) h.1 in
    λ i. is_lt (key_cmp (last_key [] (sym h.0 i)) (first_key (sym h.1.0 i))) && rest i

move_same : (a b : Tables) (id : ℕ) (spec : JobSpec) (trees : Trees) → TreesAll (λ id. table_rows b id ≡ table_rows a id) trees → stepped_in a (Move id) spec [] trees ≡ stepped_in b (Move id) spec [] trees
move_same a b id spec [] h = refl
move_same a b id spec (s ∷ trees) h =
    let same = by_first_same a b (source_pieces spec.sources s.tree) (sources_all (λ id. table_rows b id ≡ table_rows a id) spec.sources s.tree h.0) in
    let rest = move_same a b id spec trees h.1 in
    λ i. cond (bytes_eq spec.segment s.prefix) (record s { tree = to_run (λ run. with_run_for spec.sources run (same i)) spec.destination s.tree; watermark = watermark_after spec.sources s.tree s.watermark }) s ∷ rest i

-- ---- each way

-- The steps of a poll still fit and make its trees after it refuses a Submitted job.
pub trees_refused : {merge : Operator} {party : Party} {h : World} {input : PollInput} {got : Jobs} {drawn : List (ℕ × JobSpec)} {start : Trees} {own : ℕ → JobSpec} {horizon : ℕ} {p : PollState}
    → Case merge party h input got drawn start → TreesReached party h input drawn own start horizon p → JobsReached got p → (job : Job) (rule : ℕ) → IsIn job p.jobs → IsSubmitted job
    → TreesReached party h input drawn own start horizon (open_by input job (Some rule) p)
trees_refused {merge} {party} {h} {input} {got} {drawn} {start} {own} {horizon} {p} c t r job rule there submitted = record {
  fits = t.fits;
  known = t.known;
  pieces = t.pieces;
  are = t.are;
  horizon_is = t.horizon_is;
  joined = t.joined;
  lost = t.lost;
  opened = opened_stay got p r job to_failed p.trees there submitted (λ o one differs scheduled stand. stand) t.opened;
  specs = specs_on own to_failed (job.id ∷ []) p.jobs (λ j. refl) (λ j. refl) t.specs;
  added = t.added;
  covered = t.covered;
}

-- The steps of a poll still fit and make its trees after it opens a Submitted job that passes the gate and is no drain.
pub trees_scheduled : {merge : Operator} {party : Party} {h : World} {input : PollInput} {got : Jobs} {drawn : List (ℕ × JobSpec)} {start : Trees} {own : ℕ → JobSpec} {horizon : ℕ} {p : PollState}
    → Case merge party h input got drawn start → TreesReached party h input drawn own start horizon p → JobsReached got p → (job : Job) → IsIn job p.jobs → IsSubmitted job → is_drain job.spec ≡ false
    → submit_gate p.trees p.jobs (lost_to_scheduler p.lost) (accepts input p) job ≡ None → TreesReached party h input drawn own start horizon (schedule_job job p)
trees_scheduled {merge} {party} {h} {input} {got} {drawn} {start} {own} {horizon} {p} c t r job there submitted runs gate = record {
  fits = t.fits;
  known = t.known;
  pieces = t.pieces;
  are = t.are;
  horizon_is = t.horizon_is;
  joined = t.joined;
  lost = t.lost;
  opened = all_push _ p.opened job.id (opened_stay got p r job (to_scheduled (tables_now p.trees)) p.trees there submitted (λ o one differs scheduled stand. stand) t.opened)
      (to_scheduled (tables_now p.trees) job, (now_in (to_scheduled (tables_now p.trees)) p.jobs job there, (refl, (refl, opened_stands p.trees p.jobs (lost_to_scheduler p.lost) (accepts input p) job gate runs))));
  specs = specs_on own (to_scheduled (tables_now p.trees)) (job.id ∷ []) p.jobs (λ j. refl) (λ j. refl) t.specs;
  added = t.added;
  covered = t.covered;
}

-- The steps of a poll still fit and make its trees after it drains a Submitted job that passes the gate.
pub trees_drained : {merge : Operator} {party : Party} {h : World} {input : PollInput} {got : Jobs} {drawn : List (ℕ × JobSpec)} {start : Trees} {own : ℕ → JobSpec} {horizon : ℕ} {p : PollState}
    → Case merge party h input got drawn start → TreesReached party h input drawn own start horizon p → JobsReached got p → (job : Job) → IsIn job p.jobs → IsSubmitted job → is_drain job.spec ≡ true
    → submit_gate p.trees p.jobs (lost_to_scheduler p.lost) (accepts input p) job ≡ None → TreesReached party h input drawn own start horizon (drain_job input job p)
trees_drained {merge} {party} {h} {input} {got} {drawn} {start} {own} {horizon} {p} c t r job there submitted kind gate = record {
  fits = fits_push h own start [] p.steps (Drain job.id) t.fits (subst (λ s. DrainFits h (stepped_at t) (joined_by p.steps []) s job.id) (sym spec) (subst (λ trees. DrainFits h trees (joined_by p.steps []) job.spec job.id) t.are fits));
  known = all_push _ p.steps (Drain job.id) t.known (known_of own (source_of c t r job there (submitted_ends job submitted)) spec);
  pieces = step_all (λ id. IsTrue (is_among input.tables id)) input.tables (Drain job.id) job.spec [] p.trees tt t.pieces;
  are = (λ i. stepped_in h.store.tables (Drain job.id) (sym spec i) (outputs_in h.store.records job.id) (t.are i)) ∙ sym (stepped_push h.store.tables (parts h own) p.steps (Drain job.id) start);
  horizon_is = t.horizon_is ∙ sym (horizon_push input.manifest.floor (cuts h) p.steps (Drain job.id) horizon);
  joined = λ n. ap (λ xs. contains xs n) (joined_push p.steps (Drain job.id) []) ∙ t.joined n;
  lost = t.lost;
  opened = opened_stay got p r job to_completed (stepped_in input.tables (Drain job.id) job.spec [] p.trees) there submitted
      (λ o one differs scheduled stand. stand_on_out place o m.midway.kept.rise (away_of p.trees p input job gate o one differs (scheduled_holds o.status scheduled)) stand) t.opened;
  specs = specs_on own to_completed (job.id ∷ []) p.jobs (λ j. refl) (λ j. refl) t.specs;
  added = t.added;
  covered = all_push _ p.steps (Drain job.id) t.covered (named_by own (source_of c t r job there (submitted_ends job submitted)) spec);
}
  where
    stepped_at : TreesReached party h input drawn own start horizon p → Trees
    stepped_at t = stepped_all h.store.tables (parts h own) p.steps start

    fits : DrainFits h p.trees (joined_by p.steps []) job.spec job.id
    fits = record { at_once = at_once_fits c t r job there submitted gate; kind = kind }

    spec : own job.id ≡ job.spec
    spec = all_at (λ (j : Job). own j.id ≡ j.spec) p.jobs job t.specs there

    m : MidwayAt merge h p
    m = midway_at c t

    place : OutAt p.trees job.spec
    place = by (segment_at job.spec.segment p.trees) refl (gated p.trees (holding h.store.history (joined_by p.steps []) (stored_jobs h.store)) job.spec job.id fits.at_once.gate).segment
      where
        by : (o : Option Segment) → segment_at job.spec.segment p.trees ≡ o → IsTrue (is_some o) → OutAt p.trees job.spec
        by None e never = absurd (cc never)
        by (Some s) e h' =
            let found = found_there job.spec.segment p.trees s e in
            let fit : SegmentFits merge (with_horizon h.store m.horizon) h.store.history s = all_at (SegmentFits merge (with_horizon h.store m.horizon) h.store.history) p.trees s m.midway.kept.each found.0 in
            record {
              s = s;
              there = found.0;
              same = found.1;
              named = segment_named merge (with_horizon h.store m.horizon) h.store.history s (whole_of merge h c.kept).body.sound.tables fit;
              order = in_order h.store.tables s fit.tree;
            }

-- The steps of a poll still fit and make its trees after it moves a Submitted job that passes the gate and may move.
pub trees_moved : {merge : Operator} {party : Party} {h : World} {input : PollInput} {got : Jobs} {drawn : List (ℕ × JobSpec)} {start : Trees} {own : ℕ → JobSpec} {horizon : ℕ} {p : PollState}
    → Case merge party h input got drawn start → TreesReached party h input drawn own start horizon p → JobsReached got p → (job : Job) → IsIn job p.jobs → IsSubmitted job → is_drain job.spec ≡ false → can_move input p.trees job.spec ≡ true
    → submit_gate p.trees p.jobs (lost_to_scheduler p.lost) (accepts input p) job ≡ None → TreesReached party h input drawn own start horizon (move_job input job p)
trees_moved {merge} {party} {h} {input} {got} {drawn} {start} {own} {horizon} {p} c t r job there submitted kind may gate = record {
  fits = fits_push h own start [] p.steps (Move job.id) t.fits (subst (λ s. MoveFits h (stepped_at t) (joined_by p.steps []) s job.id) (sym spec) (subst (λ trees. MoveFits h trees (joined_by p.steps []) job.spec job.id) t.are fits));
  known = all_push _ p.steps (Move job.id) t.known (known_of own (source_of c t r job there (submitted_ends job submitted)) spec);
  pieces = step_all (λ id. IsTrue (is_among input.tables id)) input.tables (Move job.id) job.spec [] p.trees tt t.pieces;
  are = moves_same ∙ (λ i. stepped_in h.store.tables (Move job.id) (sym spec i) (outputs_in h.store.records job.id) (t.are i)) ∙ sym (stepped_push h.store.tables (parts h own) p.steps (Move job.id) start);
  horizon_is = t.horizon_is ∙ sym (horizon_push input.manifest.floor (cuts h) p.steps (Move job.id) horizon);
  joined = λ n. ap (λ xs. contains xs n) (joined_push p.steps (Move job.id) []) ∙ t.joined n;
  lost = t.lost;
  opened = opened_stay got p r job to_completed (stepped_in input.tables (Move job.id) job.spec [] p.trees) there submitted
      (λ o one differs scheduled stand. subst (λ trees. SourcesStand trees o) (sym moves_same)
      (stand_on_run (run_of_move move.1 []) o m.midway.kept.rise (away_of p.trees p input job gate o one differs (scheduled_holds o.status scheduled)) stand)) t.opened;
  specs = specs_on own to_completed (job.id ∷ []) p.jobs (λ j. refl) (λ j. refl) t.specs;
  added = t.added;
  covered = all_push _ p.steps (Move job.id) t.covered (named_by own (source_of c t r job there (submitted_ends job submitted)) spec);
}
  where
    stepped_at : TreesReached party h input drawn own start horizon p → Trees
    stepped_at t = stepped_all h.store.tables (parts h own) p.steps start

    pieces : List ℕ
    pieces = source_pieces job.spec.sources (tree_at job.spec.segment p.trees)

    three : (a b c : Bool) → (a && b && c) ≡ true → (b ≡ true) × (c ≡ true)
    three true true true e = (refl, refl)
    three true true false e = absurd (cc e)
    three true false c e = absurd (cc e)
    three false b c e = absurd (cc e)

    all_rows : AllByRecursion (λ id. table_rows h.store.tables id ≡ table_rows input.tables id) pieces
    all_rows = all_to _ _ pieces (λ id there put. c.rows id put) (sources_all (λ id. IsTrue (is_among input.tables id)) job.spec.sources (tree_at job.spec.segment p.trees)
        (tree_has (λ tree. AllByRecursion (λ (node : Node). AllByRecursion (λ id. IsTrue (is_among input.tables id)) node.pieces) tree) job.spec.segment p.trees tt t.pieces))

    apart : IsTrue (is_nonempty (by_first_key h.store.tables pieces)) × IsTrue (are_apart h.store.tables (by_first_key h.store.tables pieces))
    apart = subst (λ ps. IsTrue (is_nonempty ps) × IsTrue (are_apart h.store.tables ps)) (by_first_same input.tables h.store.tables pieces all_rows)
        (let both = three input.options.moves (is_nonempty (by_first_key input.tables pieces)) (are_apart input.tables (by_first_key input.tables pieces)) may in
        (both.0, sym (apart_same input.tables h.store.tables (by_first_key input.tables pieces) (by_first_all _ input.tables pieces all_rows)) ∙ both.1))

    moves_same : stepped_in input.tables (Move job.id) job.spec [] p.trees ≡ stepped_in h.store.tables (Move job.id) job.spec [] p.trees
    moves_same = move_same input.tables h.store.tables job.id job.spec p.trees (trees_rows p.trees t.pieces)
      where
        trees_rows : (trees : Trees) → TreesAll (λ id. IsTrue (is_among input.tables id)) trees → TreesAll (λ id. table_rows h.store.tables id ≡ table_rows input.tables id) trees
        trees_rows trees h' = all_to _ _ trees (λ s there all. all_to _ _ s.tree (λ node one put. all_to _ _ node.pieces (λ id other is. c.rows id is) put) all) h'

    some : (ps : List ℕ) → IsTrue (is_nonempty (by_first_key h.store.tables ps)) → IsTrue (is_nonempty ps)
    some [] e = absurd (cc e)
    some (q ∷ ps) e = refl

    fits : MoveFits h p.trees (joined_by p.steps []) job.spec job.id
    fits = record { at_once = at_once_fits c t r job there submitted gate; kind = kind; pieces = some pieces apart.0; apart = apart.1 }

    spec : own job.id ≡ job.spec
    spec = all_at (λ (j : Job). own j.id ≡ j.spec) p.jobs job t.specs there

    m : MidwayAt merge h p
    m = midway_at c t

    move : (run : ℕ) × NewMove merge h c.kept.stored.replay.specs p.trees m.horizon (joined_by p.steps []) job.spec job.id run
    move = move_found merge h c.kept.stored.replay.specs p.trees m.horizon (joined_by p.steps []) job.spec job.id (whole_of merge h c.kept).body fits m.midway
