-- Moves and drains, which a commit does at once, keep what is kept in the midst of a commit.
use Rattle.std.proofs.Common.{◌≡◌, refl, sym, ◌∙◌, ap, subst, ℕ, ◌<◌, List, [], ◌∷◌, ◌++◌, cond, Bool, true, false, inl, inr, Option, Some, None, arith}
use Rattle.std.specs.Prelude.{◌≢◌, IsTrue, IfSome, ◌==◌, ◌||◌, not, flat_map, nat_lt, is_some, if◌then◌else◌}
use Rattle.std.specs.List.{AllByRecursion, list_all}
use Rattle.std.proofs.lemmas.Bool.Decides.{Decides-eqb}
use Rattle.std.proofs.lemmas.Bool.{ltb-true}
use Rattle.row_model.specs.Lists.{Pairs}
use Rattle.row_model.specs.Fold.{Operator}
use Rattle.row_model.specs.Rows.{IsStrictlyOrdered, key_cmp}
use Rattle.std.specs.Ordering.{is_lt}
use Rattle.fleet_model.specs.Work.Records.{new_job}
use Rattle.fleet_model.specs.Nodes.{Tables, table_rows, Node, Tree, Segment, Trees, names, NodeName, segment_at, tree_at}
use Rattle.fleet_model.specs.Jobs.{JobSpec, nodes_of, is_drain, is_drain_to, Job, Jobs, Status, Submitted, Scheduled, Running, Compacted, Completed, Failed, status_eq, has_status, job_with, contains}
use Rattle.fleet_model.specs.Work.Gates.{first_failing, is_nonempty, are_distinct, destination_fits, reserves_nodes, submitted_rules, submit_gate}
use Rattle.fleet_model.specs.Handles.{tree_tables}
use Rattle.fleet_model.specs.History.{Move, Drain}
use Rattle.fleet_model.specs.Sources.{run_ids, all_run_ids, is_whole_stretch, is_lowest_or_above, is_apart}
use Rattle.fleet_model.specs.Store.{stored_jobs, is_held}
use Rattle.fleet_model.specs.Trees.{stepped_tree, stepped_in, to_run, with_run_for, source_pieces, without_nodes, first_key, by_first_key, put_by_first_key, are_apart}
use Rattle.fleet_model.specs.Invariants.TreesFit.{IsNewer}
use Rattle.fleet_model.specs.Invariants.JobsFit.{was_joined}
use Rattle.step_model.specs.Past.{World}
use Rattle.step_model.specs.LawfulManifests.{AtOnceFits, MoveFits, DrainFits, holding}
use Rattle.step_model.specs.Kept.TablesKept.{IsKnownPiece}
use Rattle.step_laws.proofs.Elements.{IsIn, all_at, all_from, all_to, all_flat, all_true_front, all_true_from}
use Rattle.step_laws.proofs.Deletions.{in_flat, in_filter}
use Rattle.step_laws.proofs.Bodies.{Body}
use Rattle.commit_laws.proofs.Stretches.{Named, node_of, node_in_names, pairs_first, pairs_second, all_taken, both_true}
use Rattle.commit_laws.proofs.RunTrees.{without_sources, pieces_of_stretch}
use Rattle.commit_laws.proofs.TreeReads.{before_these, with_horizon}
use Rattle.commit_laws.proofs.MoveRows.{move_fits}
use Rattle.commit_laws.proofs.OtherJobs.{in_filtered}
use Rattle.commit_laws.proofs.Segments.{SegmentFits, segment_named, in_order, segment_with_less, all_held}
use Rattle.commit_laws.proofs.StepTrees.{trees_on}
use Rattle.commit_laws.proofs.JobSteps.{is_done, JobHolds, IsAway, RunAt, OutAt, tree_before}
use Rattle.commit_laws.proofs.JoinsStand.{in_pieces}
use Rattle.commit_laws.proofs.JobsBeside.{holds_on_run, holds_on_out}
use Rattle.commit_laws.proofs.Steps.{StretchAt, stretch_at, as_stretch, found_there, RunMay, run_between, run_at, PiecesMay, run_changes}
use Rattle.commit_laws.proofs.Midway.{Midway}
use Rattle.step_laws.proofs.TableReplays.{by_first_all}

-- ---- the gate

pub all_pass : (rules : List (ℕ × Bool)) → first_failing rules ≡ None → AllByRecursion (λ rule. IsTrue rule.1) rules
all_pass [] e = tt
all_pass (rule ∷ rules) e = by rule.1 refl (all_pass rules) e
  where
    by : (b : Bool) → rule.1 ≡ b → (first_failing rules ≡ None → AllByRecursion (λ r. IsTrue r.1) rules) → (if b then first_failing rules else Some rule.0) ≡ None → IsTrue rule.1 × AllByRecursion (λ r. IsTrue r.1) rules
    by true f rest e = (f, rest e)
    by false f rest e = absurd (cc e)

-- What the gate says of a job that is done at once.
pub record Gated (trees : Trees) (others : Jobs) (spec : JobSpec) (id : ℕ) : Type 0 where
  pub some : IsTrue (is_nonempty spec.sources)
  pub segment : IsTrue (is_some (segment_at spec.segment trees))
  pub stretch : IsTrue (is_drain spec || is_whole_stretch (tree_at spec.segment trees) spec.sources)
  pub to : IsTrue (destination_fits trees spec.sources spec.destination)
  pub free : IsTrue (list_all (λ other. (id == other.id) || not (reserves_nodes other || contains [] other.id) || is_apart (nodes_of spec) (nodes_of other.spec)) others)

pub gated : (trees : Trees) (others : Jobs) (spec : JobSpec) (id : ℕ) → submit_gate trees others [] (λ other. true) (new_job (id, spec)) ≡ None → Gated trees others spec id
gated trees others spec id e =
    let all = all_pass (submitted_rules trees others [] (λ other. true) (new_job (id, spec)) (tree_at spec.segment trees)) e in
    record { some = (both_true (is_nonempty spec.sources) (are_distinct spec.sources) all.0).0; segment = all.1.1.0; stretch = all.1.1.1.1.0; to = all.1.1.1.1.1.1.0; free = all.1.1.1.1.1.1.1.0 }

pub submitted_free : (s : Status) → IsTrue (status_eq Submitted s) → IsTrue (status_eq Scheduled s || status_eq Running s || status_eq Compacted s) → ⊥
submitted_free Submitted h k = absurd (cc k)
submitted_free Scheduled h k = absurd (cc h)
submitted_free Running h k = absurd (cc h)
submitted_free Compacted h k = absurd (cc h)
submitted_free Completed h k = absurd (cc h)
submitted_free Failed h k = absurd (cc h)

-- A stored job is found by its id.
pub job_found : (jobs : Jobs) (job : Job) → Pairs (λ (a b : Job). a.id < b.id) jobs → IsIn job jobs → job_with job.id jobs ≡ Some job
job_found [] job h there = absurd there
job_found (x ∷ jobs) job h (inl same) = subst (λ (y : Job). job_with y.id (x ∷ jobs) ≡ Some y) same (ap (λ b. cond b (Some x) (job_with x.id jobs)) ((Decides-eqb x.id x.id).1 refl))
job_found (x ∷ jobs) job h (inr there) = by (job.id == x.id) refl (job_found jobs job h.1 there)
  where
    by : (b : Bool) → (job.id == x.id) ≡ b → job_with job.id jobs ≡ Some job → cond b (Some x) (job_with job.id jobs) ≡ Some job
    by true e rest = let same = (Decides-eqb job.id x.id).0 e in let low = all_at (λ (y : Job). x.id < y.id) jobs job h.0 there in absurd (omega (arith, same, low))
    by false e rest = rest

-- A job that holds nodes is away from one that is done at once.
away_at_once : {merge : Operator} {world : World} {specs : ℕ → JobSpec} {trees : Trees} {joined : List ℕ} {spec : JobSpec} {id : ℕ} → Body merge world specs → AtOnceFits world trees joined spec id → (other : Job) → IsIn other (stored_jobs world.store)
    → IsTrue (reserves_nodes other) → is_done world.store.history joined other ≡ false → IsAway spec other
away_at_once {merge} {world} {specs} {trees} {joined} {spec} {id} b fits other there holds undone =
    by (id == other.id) refl (reserves_nodes other) holds
    (all_at _ (holding world.store.history joined (stored_jobs world.store)) other (all_true_front _ (holding world.store.history joined (stored_jobs world.store)) (gated trees (holding world.store.history joined (stored_jobs world.store)) spec id fits.gate).free)
    (in_filter (λ (job : Job). not (contains joined job.id || was_joined world.store.history job.id)) (stored_jobs world.store) other there (ap not undone)))
  where
    found : id ≡ other.id → job_with id (stored_jobs world.store) ≡ Some other
    found same = ap (λ n. job_with n (stored_jobs world.store)) same ∙ job_found (stored_jobs world.store) other b.sound.job_ids there

    by : (same : Bool) → (id == other.id) ≡ same → (r : Bool) → IsTrue r → IsTrue (same || not (r || false) || is_apart (nodes_of spec) (nodes_of other.spec)) → IsTrue (is_apart (nodes_of spec) (nodes_of other.spec))
    by true e r h k = absurd (submitted_free other.status (subst (λ o. IfSome o (λ (job : Job). IsTrue (has_status Submitted job))) (found ((Decides-eqb id other.id).0 e)) fits.open_yet) holds)
    by false e true h k = k
    by false e false h k = absurd (cc h)

-- ---- moves

pub lowest_of : (trees : Trees) (id : ℕ) (ids : List ℕ) (s : Segment) → IsIn s trees → IsTrue (is_lowest_or_above id ids (all_run_ids trees)) → IsTrue (is_lowest_or_above id ids (run_ids (names s.tree)))
lowest_of trees id [] s there h = all_true_from (λ run. nat_lt run id) (run_ids (names s.tree)) (all_from _ (run_ids (names s.tree)) (λ r one.
    all_at (λ run. IsTrue (nat_lt run id)) (all_run_ids trees) r (all_true_front (λ run. nat_lt run id) (all_run_ids trees) h) (in_flat (λ (x : Segment). run_ids (names x.tree)) trees s r there one)))
lowest_of trees id (run ∷ ids) s there h = h

-- A move that a commit may take, with its place and its run.
pub record NewMove (merge : Operator) (world : World) (specs : ℕ → JobSpec) (trees : Trees) (horizon : ℕ) (joined : List ℕ) (spec : JobSpec) (id run : ℕ) : Type 0 where
  pub body : Body merge world specs
  pub midway : Midway merge world trees horizon joined
  pub fits : MoveFits world trees joined spec id
  pub a : StretchAt trees spec
  pub own : Named a.s.tree
  pub may : RunMay trees spec run

abbrev pub move_change : World → JobSpec → ℕ → List ℕ → Tree → Tree
move_change world spec id outputs = stepped_tree world.store.tables (Move id) spec outputs

abbrev pub moved : {merge : Operator} {world : World} {specs : ℕ → JobSpec} {trees : Trees} {horizon : ℕ} {joined : List ℕ} {spec : JobSpec} {id run : ℕ} → NewMove merge world specs trees horizon joined spec id run → List ℕ
moved {merge} {world} n = by_first_key world.store.tables (flat_map (λ (node : Node). node.pieces) (n.a.t ∷ n.a.ts))

pub move_place : {merge : Operator} {world : World} {specs : ℕ → JobSpec} {trees : Trees} {horizon : ℕ} {joined : List ℕ} {spec : JobSpec} {id run : ℕ} (n : NewMove merge world specs trees horizon joined spec id run)
    → SegmentFits merge (with_horizon world.store horizon) world.store.history n.a.s
move_place n = all_at _ _ n.a.s n.midway.kept.each n.a.there

pub move_pieces_same : {merge : Operator} {world : World} {specs : ℕ → JobSpec} {trees : Trees} {horizon : ℕ} {joined : List ℕ} {spec : JobSpec} {id run : ℕ} (n : NewMove merge world specs trees horizon joined spec id run)
    → source_pieces spec.sources n.a.s.tree ≡ flat_map (λ (node : Node). node.pieces) (n.a.t ∷ n.a.ts)
move_pieces_same {merge} {world} {specs} {trees} {horizon} {joined} {spec} n = pieces_of_stretch spec.sources n.a.s.tree (as_stretch trees spec n.a) n.own

pub makes_move : {merge : Operator} {world : World} {specs : ℕ → JobSpec} {trees : Trees} {horizon : ℕ} {joined : List ℕ} {spec : JobSpec} {id run : ℕ} (n : NewMove merge world specs trees horizon joined spec id run) (outputs : List ℕ)
    → move_change world spec id outputs n.a.s.tree ≡ with_run_for spec.sources run (moved n) n.a.s.tree
makes_move {merge} {world} {specs} {trees} {horizon} {joined} {spec} {id} {run} n outputs =
    ap (λ d. to_run (λ i. with_run_for spec.sources i (by_first_key world.store.tables (source_pieces spec.sources n.a.s.tree))) d n.a.s.tree) n.may.to
    ∙ ap (λ ts. with_run_for spec.sources run (by_first_key world.store.tables ts) n.a.s.tree) (move_pieces_same n)

abbrev pub run_of_move : {merge : Operator} {world : World} {specs : ℕ → JobSpec} {trees : Trees} {horizon : ℕ} {joined : List ℕ} {spec : JobSpec} {id run : ℕ} (n : NewMove merge world specs trees horizon joined spec id run) (outputs : List ℕ)
    → RunAt trees spec run (moved n) (move_change world spec id outputs)
run_of_move {merge} {world} {specs} {trees} {horizon} {joined} {spec} {id} {run} n outputs =
    run_at trees spec run (moved n) (move_change world spec id outputs) n.a n.midway.kept.rise n.own (in_order world.store.tables n.a.s (move_place n).tree) n.may (makes_move n outputs)

pub move_taken : {merge : Operator} {world : World} {specs : ℕ → JobSpec} {trees : Trees} {horizon : ℕ} {joined : List ℕ} {spec : JobSpec} {id run : ℕ} (n : NewMove merge world specs trees horizon joined spec id run) (P : Node → Type 0)
    → AllByRecursion P n.a.s.tree → AllByRecursion P (n.a.t ∷ n.a.ts)
move_taken n P h = all_taken P n.a.newer (n.a.t ∷ n.a.ts) n.a.older (subst (AllByRecursion P) n.a.whole h)

-- What is so of each table of the sources is so of each table of the run.
moved_all : {merge : Operator} {world : World} {specs : ℕ → JobSpec} {trees : Trees} {horizon : ℕ} {joined : List ℕ} {spec : JobSpec} {id run : ℕ} (n : NewMove merge world specs trees horizon joined spec id run) (P : ℕ → Type 0)
    → AllByRecursion (λ (node : Node). AllByRecursion P node.pieces) n.a.s.tree → AllByRecursion P (moved n)
moved_all {merge} {world} n P h = by_first_all P world.store.tables (flat_map (λ (node : Node). node.pieces) (n.a.t ∷ n.a.ts)) (all_flat P (λ (node : Node). node.pieces) (n.a.t ∷ n.a.ts) (move_taken n (λ node. AllByRecursion P node.pieces) h))

moved_old : {merge : Operator} {world : World} {specs : ℕ → JobSpec} {trees : Trees} {horizon : ℕ} {joined : List ℕ} {spec : JobSpec} {id run : ℕ} (n : NewMove merge world specs trees horizon joined spec id run) (t : ℕ) → IsIn t (moved n) → IsIn t (tree_tables n.a.s)
moved_old n t there = all_at (λ u. IsIn u (tree_tables n.a.s)) (moved n) t
    (moved_all n (λ u. IsIn u (tree_tables n.a.s)) (all_from _ n.a.s.tree (λ node one. all_from _ node.pieces (λ u held. in_flat (λ (x : Node). x.pieces) n.a.s.tree node u one held)))) there

-- A move that fits makes a run of held and known tables that are in no other tree, and its rows fit in its place.
pub move_tables : {merge : Operator} {world : World} {specs : ℕ → JobSpec} {trees : Trees} {horizon : ℕ} {joined : List ℕ} {spec : JobSpec} {id run : ℕ} (n : NewMove merge world specs trees horizon joined spec id run)
    → PiecesMay merge (with_horizon world.store horizon) world.store.history trees spec run (moved n) (move_change world spec id []) (run_of_move n [])
move_tables {merge} {world} {specs} {trees} {horizon} {joined} {spec} {id} {run} n = record {
  held = all_true_from (is_held world.store) (moved n) (moved_all n (λ t. IsTrue (is_held world.store t)) held);
  known = moved_all n (IsKnownPiece world.store.history) (move_place n).known;
  between = run_between trees spec run n.a n.midway.kept.rise (in_order world.store.tables n.a.s (move_place n).tree) n.may;
  less = without_sources spec.sources n.a.s.tree (as_stretch trees spec n.a) n.own;
  fits = move_fits merge (with_horizon world.store horizon) (before_these true n.a.older) run (n.a.t ∷ n.a.ts)
      (pairs_first (IsNewer world.store.tables) (n.a.t ∷ n.a.ts) n.a.older (pairs_second (IsNewer world.store.tables) n.a.newer ((n.a.t ∷ n.a.ts) ++ n.a.older) (subst (Pairs (IsNewer world.store.tables)) n.a.whole (move_place n).tree.newest_first)))
      (move_taken n _ (move_place n).tree.ordered)
      (all_flat (λ t. (table_rows world.store.tables t ≢ []) × IsStrictlyOrdered (table_rows world.store.tables t)) (λ (node : Node). node.pieces) (n.a.t ∷ n.a.ts) (move_taken n _ tables))
      (subst (λ ts. IsTrue (are_apart world.store.tables (by_first_key world.store.tables ts))) (ap (source_pieces spec.sources) (tree_before spec.segment trees n.a.s n.midway.kept.rise n.a.there n.a.same) ∙ move_pieces_same n) n.fits.apart);
  new_tables = λ t there. inl (moved_old n t there);
}
  where
    held : AllByRecursion (λ (node : Node). AllByRecursion (λ t. IsTrue (is_held world.store t)) node.pieces) n.a.s.tree
    held = all_to _ _ n.a.s.tree (λ node there all. all_true_front (is_held world.store) node.pieces all) (move_place n).pieces

    tables : AllByRecursion (λ (node : Node). AllByRecursion (λ t. (table_rows world.store.tables t ≢ []) × IsStrictlyOrdered (table_rows world.store.tables t)) node.pieces) n.a.s.tree
    tables = all_to _ _ n.a.s.tree (λ node there all. all_to _ _ node.pieces (λ t one table. (table.some, table.ordered)) (all_held world.store node.pieces n.body.sound.tables all)) (move_place n).pieces

put_some : (tables : Tables) (piece : ℕ) (pieces : List ℕ) → put_by_first_key tables piece pieces ≡ [] → ⊥
put_some tables piece [] e = absurd (cc e)
put_some tables piece (q ∷ pieces) e = by (is_lt (key_cmp (first_key (table_rows tables q)) (first_key (table_rows tables piece)))) e
  where
    by : (b : Bool) → cond b (q ∷ put_by_first_key tables piece pieces) (piece ∷ q ∷ pieces) ≡ [] → ⊥
    by true e = absurd (cc e)
    by false e = absurd (cc e)

moved_some : {merge : Operator} {world : World} {specs : ℕ → JobSpec} {trees : Trees} {horizon : ℕ} {joined : List ℕ} {spec : JobSpec} {id run : ℕ} (n : NewMove merge world specs trees horizon joined spec id run) → moved n ≢ []
moved_some {merge} {world} {specs} {trees} {horizon} {joined} {spec} n e =
    at (flat_map (λ (node : Node). node.pieces) (n.a.t ∷ n.a.ts)) (subst (λ ts. IsTrue (is_nonempty ts)) (ap (source_pieces spec.sources) (tree_before spec.segment trees n.a.s n.midway.kept.rise n.a.there n.a.same) ∙ move_pieces_same n) n.fits.pieces) e
  where
    at : (ts : List ℕ) → IsTrue (is_nonempty ts) → by_first_key world.store.tables ts ≡ [] → ⊥
    at [] some e = absurd (cc some)
    at (t ∷ ts) some e = put_some world.store.tables t (by_first_key world.store.tables ts) e

-- A move that fits and whose run has its place keeps what is kept in the midst of a commit.
new_move_keeps : {merge : Operator} {world : World} {specs : ℕ → JobSpec} {trees : Trees} {horizon : ℕ} {joined : List ℕ} {spec : JobSpec} {id run : ℕ} → NewMove merge world specs trees horizon joined spec id run
    → Midway merge world (stepped_in world.store.tables (Move id) spec [] trees) horizon joined
new_move_keeps {merge} {world} {specs} {trees} {horizon} {joined} {spec} {id} {run} n = record {
  kept = trees_on merge (with_horizon world.store horizon) world.store.history trees spec.segment spec.sources (move_change world spec id []) n.a.s
      (run_changes merge (with_horizon world.store horizon) world.store.history trees spec run (moved n) (move_change world spec id []) (run_of_move n []) (move_tables n) n.midway.kept) n.midway.kept;
  jobs = all_to (JobHolds world trees joined) (JobHolds world (stepped_in world.store.tables (Move id) spec [] trees) joined) (stored_jobs world.store) (λ other there h.
      holds_on_run world trees joined other spec run (moved n) (move_change world spec id []) (run_of_move n []) n.midway.kept.rise (record {
        away = λ holds undone. away_at_once n.body n.fits.at_once other there holds undone;
        tables = λ t one. inl (moved_old n t one);
        mine = λ active t one. inl (moved_old n t one);
        full = λ compacted done. inl (moved_some n);
      }) h) n.midway.jobs;
}

-- The run that a move makes, with its place.
pub move_found : (merge : Operator) (world : World) (specs : ℕ → JobSpec) (trees : Trees) (horizon : ℕ) (joined : List ℕ) (spec : JobSpec) (id : ℕ) → Body merge world specs → MoveFits world trees joined spec id → Midway merge world trees horizon joined
    → (run : ℕ) × NewMove merge world specs trees horizon joined spec id run
move_found merge world specs trees horizon joined spec id b fits m = by spec.destination refl fits.kind
  where
    g : Gated trees (holding world.store.history joined (stored_jobs world.store)) spec id
    g = gated trees (holding world.store.history joined (stored_jobs world.store)) spec id fits.at_once.gate

    stretch : is_drain spec ≡ false → IsTrue (is_drain spec || is_whole_stretch (tree_at spec.segment trees) spec.sources) → IsTrue (is_whole_stretch (tree_at spec.segment trees) spec.sources)
    stretch e h = subst (λ c. IsTrue (c || is_whole_stretch (tree_at spec.segment trees) spec.sources)) e h

    lowest : (run : ℕ) → spec.destination ≡ Some run → IsTrue (is_lowest_or_above run (run_ids spec.sources) (all_run_ids trees))
    lowest run e = (both_true (not (run == 4294967295)) (is_lowest_or_above run (run_ids spec.sources) (all_run_ids trees)) (subst (λ d. IsTrue (destination_fits trees spec.sources d)) e g.to)).1

    above : (run : ℕ) → run_ids spec.sources ≡ [] → IsTrue (is_lowest_or_above run (run_ids spec.sources) (all_run_ids trees)) → IsIn run (all_run_ids trees) → ⊥
    above run none h there =
        let low = ltb-true run run (all_at (λ r. IsTrue (nat_lt r run)) (all_run_ids trees) run (all_true_front (λ r. nat_lt r run) (all_run_ids trees) (subst (λ ids. IsTrue (is_lowest_or_above run ids (all_run_ids trees))) none h)) there) in
        absurd (omega (arith, low))

    by : (d : Option ℕ) → spec.destination ≡ d → is_drain_to d ≡ false → (run : ℕ) × NewMove merge world specs trees horizon joined spec id run
    by None e k = absurd (cc k)
    by (Some run) e k =
        let a = stretch_at trees spec g.some (stretch fits.kind g.stretch) in (
          run,
          record {
            body = b;
            midway = m;
            fits = fits;
            a = a;
            own = segment_named merge (with_horizon world.store horizon) world.store.history a.s b.sound.tables (all_at _ trees a.s m.kept.each a.there);
            may = record {
              to = e;
              lowest = subst (λ tree. IsTrue (is_lowest_or_above run (run_ids spec.sources) (run_ids (names tree)))) (sym (tree_before spec.segment trees a.s m.kept.rise a.there a.same)) (lowest_of trees run (run_ids spec.sources) a.s a.there (lowest run e));
              fresh = λ none there. above run none (lowest run e) there;
            };
          },
        )

pub move_keeps : (merge : Operator) (world : World) (specs : ℕ → JobSpec) (trees : Trees) (horizon : ℕ) (joined : List ℕ) (spec : JobSpec) (id : ℕ) (outputs : List ℕ) → Body merge world specs → MoveFits world trees joined spec id → Midway merge world trees horizon joined
    → Midway merge world (stepped_in world.store.tables (Move id) spec outputs trees) horizon joined
move_keeps merge world specs trees horizon joined spec id outputs b fits m = new_move_keeps (move_found merge world specs trees horizon joined spec id b fits m).1

-- ---- drains

-- A drain that fits keeps what is kept in the midst of a commit.
pub drain_keeps : (merge : Operator) (world : World) (specs : ℕ → JobSpec) (trees : Trees) (horizon : ℕ) (joined : List ℕ) (spec : JobSpec) (id : ℕ) (outputs : List ℕ) → Body merge world specs → DrainFits world trees joined spec id → Midway merge world trees horizon joined
    → Midway merge world (stepped_in world.store.tables (Drain id) spec outputs trees) horizon joined
drain_keeps merge world specs trees horizon joined spec id outputs b fits m = by (segment_at spec.segment trees) refl (gated trees (holding world.store.history joined (stored_jobs world.store)) spec id fits.at_once.gate).segment
  where
    at : (s : Segment) → IsIn s trees → spec.segment ≡ s.prefix → Midway merge world (stepped_in world.store.tables (Drain id) spec outputs trees) horizon joined
    at s there same =
        let place : SegmentFits merge (with_horizon world.store horizon) world.store.history s = all_at _ trees s m.kept.each there in
        let c : OutAt trees spec = record { s = s; there = there; same = same; named = segment_named merge (with_horizon world.store horizon) world.store.history s b.sound.tables place; order = in_order world.store.tables s place.tree } in
        record {
          kept = trees_on merge (with_horizon world.store horizon) world.store.history trees spec.segment spec.sources (without_nodes spec.sources) s (record {
            there = there;
            same = same;
            fits = segment_with_less merge (with_horizon world.store horizon) world.store.history s spec.sources place;
            new_names = λ n one. inl (old_name s n one);
            new_tables = λ t one. inl (old_table s t one);
          }) m.kept;
          jobs = all_to (JobHolds world trees joined) (JobHolds world (stepped_in world.store.tables (Drain id) spec outputs trees) joined) (stored_jobs world.store)
              (λ other one h. holds_on_out world trees joined other spec c m.kept.rise (λ holds undone. away_at_once b fits.at_once other one holds undone) h) m.jobs;
        }
      where
        old_name : (x : Segment) → (n : NodeName) → IsIn n (names (without_nodes spec.sources x.tree)) → IsIn n (names x.tree)
        old_name x n one = let found = node_of (without_nodes spec.sources x.tree) n one in subst (λ y. IsIn y (names x.tree)) found.same (node_in_names x.tree found.node (in_filtered _ x.tree found.node found.there))

        old_table : (x : Segment) → (t : ℕ) → IsIn t (flat_map (λ (node : Node). node.pieces) (without_nodes spec.sources x.tree)) → IsIn t (tree_tables x)
        old_table x t one = let found = in_pieces (without_nodes spec.sources x.tree) t one in in_flat (λ (node : Node). node.pieces) x.tree found.0 t (in_filtered _ x.tree found.0 found.1.0) found.1.1

    by : (o : Option Segment) → segment_at spec.segment trees ≡ o → IsTrue (is_some o) → Midway merge world (stepped_in world.store.tables (Drain id) spec outputs trees) horizon joined
    by None e k = absurd (cc k)
    by (Some s) e k = let found = found_there spec.segment trees s e in at s found.0 found.1
