-- A join keeps what is kept in the midst of a commit.
use Rattle.std.proofs.Common.{◌≡◌, refl, sym, ◌∙◌, ap, subst, ℕ, ◌≤◌, List, [], ◌∷◌, ◌++◌, cond, Bool, true, false, inl, inr, ◌⊎◌, Option, Some, None, arith}
use Rattle.std.specs.Prelude.{◌≢◌, IsTrue, ◌==◌, ◌&&◌, ◌||◌, not, flat_map, nat_le}
use Rattle.std.specs.List.{AllByRecursion, concat, list_all}
use Rattle.std.proofs.lemmas.Bool.Decides.{Decides-eqb}
use Rattle.row_model.specs.Lists.{Pairs}
use Rattle.row_model.specs.Fold.{Operator, IsLawful}
use Rattle.row_model.specs.JobRows.{job_rows}
use Rattle.fleet_model.specs.Nodes.{table_rows, Node, Tree, Trees, names, tree_at}
use Rattle.fleet_model.specs.Jobs.{JobSpec, nodes_of, Job, Status, Submitted, Scheduled, Running, Compacted, Completed, Failed, status_eq, is_finished, has_status, is_active, contains}
use Rattle.fleet_model.specs.Work.Attempts.{noted_rows, source_rows}
use Rattle.fleet_model.specs.Work.Gates.{reserves_nodes}
use Rattle.fleet_model.specs.Handles.{tree_tables, job_tables, context_tables}
use Rattle.fleet_model.specs.History.{Join}
use Rattle.fleet_model.specs.Sources.{run_ids, all_run_ids, is_lowest_or_above}
use Rattle.fleet_model.specs.Store.{Store, Manifest, stored_jobs, is_held, AreHeld}
use Rattle.fleet_model.specs.Trees.{stepped_tree, stepped_in, to_run, with_run_for, source_pieces, horizon_after}
use Rattle.fleet_model.specs.Invariants.TreesFit.{IsTable, IsNewer}
use Rattle.fleet_model.specs.Invariants.JobsFit.{SourcesStand, DestinationFits, OutputsFit, SettingsFit, AreOldest, HoldApart, was_joined, cut_or}
use Rattle.step_model.specs.Past.{World}
use Rattle.step_model.specs.LawfulTables.{was_piece}
use Rattle.step_model.specs.LawfulManifests.{JoinFits}
use Rattle.step_model.specs.Kept.TablesKept.{NameApart}
use Rattle.step_laws.proofs.Elements.{IsIn, all_at, all_from, all_to, all_back, all_flat, in_back, in_contains, all_true_front, all_true_from, any_of}
use Rattle.step_laws.proofs.Deletions.{in_flat}
use Rattle.step_laws.proofs.OwnTables.{apart_at}
use Rattle.step_laws.proofs.ManifestEpochs.{stored_in_past}
use Rattle.step_laws.proofs.TableReplays.{sources_all}
use Rattle.step_laws.proofs.PollJobs.{tree_has}
use Rattle.step_laws.proofs.Bodies.{Body, JobKept}
use Rattle.commit_laws.proofs.Stretches.{Named, InOrder, never_both, pairs_first, pairs_second, all_taken}
use Rattle.commit_laws.proofs.RunTrees.{without_sources, pieces_of_stretch}
use Rattle.commit_laws.proofs.TreeReads.{before_these, with_horizon}
use Rattle.commit_laws.proofs.RunRows.{join_fits}
use Rattle.commit_laws.proofs.Segments.{SegmentFits, segment_named, in_order, have_rows, all_held}
use Rattle.commit_laws.proofs.StepTrees.{TreesKept, trees_on, later_trees}
use Rattle.commit_laws.proofs.JobSteps.{is_done, JobHolds, IsAway, RunAt, tree_before}
use Rattle.commit_laws.proofs.JoinsStand.{OwnJoin, join_stands}
use Rattle.commit_laws.proofs.JobsBeside.{BesideRun, holds_on_run, holds_with, holds_joined}
use Rattle.commit_laws.proofs.Steps.{StretchAt, stretch_at, as_stretch, RunMay, run_between, run_at, PiecesMay, run_changes}
use Rattle.commit_laws.proofs.Midway.{Midway, found_job, two_jobs, only_job, apart_turned}
use Rattle.commit_laws.specs.RunReads.{JoinMakes}

-- ---- statuses

compacted_active : (s : Status) → IsTrue (status_eq Compacted s) → IsTrue (cond (is_finished s) false true)
compacted_active Submitted h = absurd (cc h)
compacted_active Scheduled h = absurd (cc h)
compacted_active Running h = absurd (cc h)
compacted_active Compacted h = refl
compacted_active Completed h = absurd (cc h)
compacted_active Failed h = absurd (cc h)

pub compacted_holds : (s : Status) → IsTrue (status_eq Compacted s) → IsTrue (status_eq Scheduled s || status_eq Running s || status_eq Compacted s)
compacted_holds Submitted h = absurd (cc h)
compacted_holds Scheduled h = absurd (cc h)
compacted_holds Running h = absurd (cc h)
compacted_holds Compacted h = refl
compacted_holds Completed h = absurd (cc h)
compacted_holds Failed h = absurd (cc h)

-- ---- the horizon

pub horizon_rises : (floor id : ℕ) (cut : Option ℕ) (horizon : ℕ) → horizon ≤ horizon_after floor (Join id) cut horizon
horizon_rises floor id None horizon = omega arith
horizon_rises floor id (Some cut) horizon = omega arith

cut_low : (floor id own at : ℕ) (cut : Option ℕ) (horizon : ℕ) → at ≡ cut_or own cut → at ≤ floor → at ≤ horizon_after floor (Join id) cut horizon
cut_low floor id own at None horizon e low = omega (arith, low)
cut_low floor id own at (Some cut) horizon e low = omega (arith, e)

-- ---- what a join that is new has

-- The job of a join that is new, with its place and its run.
pub record NewJoin (merge : Operator) (world : World) (specs : ℕ → JobSpec) (trees : Trees) (horizon : ℕ) (joined : List ℕ) (job : Job) (id : ℕ) : Type 0 where
  pub body : Body merge world specs
  pub midway : Midway merge world trees horizon joined
  pub there : IsIn job (stored_jobs world.store)
  pub kept : JobKept merge world specs job
  pub compacted : IsTrue (has_status Compacted job)
  pub once : contains joined job.id ≡ false
  pub unjoined : was_joined world.store.history job.id ≡ false
  pub stood : SourcesStand world.store.manifest.trees job
  pub stands : SourcesStand trees job
  pub to : job.spec.destination ≡ Some id
  pub a : StretchAt trees job.spec
  pub own : Named a.s.tree
  pub may : RunMay trees job.spec id

-- The trees at the horizon after the join.
abbrev pub join_change : World → Job → Tree → Tree
join_change world job = stepped_tree world.store.tables (Join job.id) job.spec (concat job.outputs)

abbrev pub high : World → Job → ℕ → ℕ
high world job horizon = horizon_after world.store.manifest.floor (Join job.id) job.kept_cut horizon

pub raised : {merge : Operator} {world : World} {specs : ℕ → JobSpec} {trees : Trees} {horizon : ℕ} {joined : List ℕ} {job : Job} {id : ℕ} → NewJoin merge world specs trees horizon joined job id
    → TreesKept merge (with_horizon world.store (high world job horizon)) world.store.history trees
raised {merge} {world} {specs} {trees} {horizon} {joined} {job} {id} n = later_trees merge world.store world.store.history horizon (high world job horizon) trees (horizon_rises world.store.manifest.floor job.id job.kept_cut horizon) n.midway.kept

pub place_of : {merge : Operator} {world : World} {specs : ℕ → JobSpec} {trees : Trees} {horizon : ℕ} {joined : List ℕ} {job : Job} {id : ℕ} (n : NewJoin merge world specs trees horizon joined job id)
    → SegmentFits merge (with_horizon world.store (high world job horizon)) world.store.history n.a.s
place_of n = all_at _ _ n.a.s (raised n).each n.a.there

pub makes_run : {merge : Operator} {world : World} {specs : ℕ → JobSpec} {trees : Trees} {horizon : ℕ} {joined : List ℕ} {job : Job} {id : ℕ} (n : NewJoin merge world specs trees horizon joined job id)
    → join_change world job n.a.s.tree ≡ with_run_for job.spec.sources id (concat job.outputs) n.a.s.tree
makes_run {merge} {world} {specs} {trees} {horizon} {joined} {job} {id} n = ap (λ d. to_run (λ i. with_run_for job.spec.sources i (concat job.outputs)) d n.a.s.tree) n.to

pub order_of : {merge : Operator} {world : World} {specs : ℕ → JobSpec} {trees : Trees} {horizon : ℕ} {joined : List ℕ} {job : Job} {id : ℕ} (n : NewJoin merge world specs trees horizon joined job id) → InOrder n.a.s.tree
order_of {merge} {world} {specs} {trees} {horizon} {joined} {job} {id} n = in_order world.store.tables n.a.s (place_of n).tree

abbrev pub run_of_join : {merge : Operator} {world : World} {specs : ℕ → JobSpec} {trees : Trees} {horizon : ℕ} {joined : List ℕ} {job : Job} {id : ℕ} (n : NewJoin merge world specs trees horizon joined job id)
    → RunAt trees job.spec id (concat job.outputs) (join_change world job)
run_of_join {merge} {world} {specs} {trees} {horizon} {joined} {job} {id} n = run_at trees job.spec id (concat job.outputs) (join_change world job) n.a n.midway.kept.rise n.own (order_of n) n.may (makes_run n)

-- The tables of the sources are those of the stretch.
pub sources_same : {merge : Operator} {world : World} {specs : ℕ → JobSpec} {trees : Trees} {horizon : ℕ} {joined : List ℕ} {job : Job} {id : ℕ} (n : NewJoin merge world specs trees horizon joined job id)
    → flat_map (λ (node : Node). node.pieces) (n.a.t ∷ n.a.ts) ≡ job.source_tables
sources_same {merge} {world} {specs} {trees} {horizon} {joined} {job} {id} n =
    sym (pieces_of_stretch job.spec.sources n.a.s.tree (as_stretch trees job.spec n.a) n.own)
    ∙ ap (source_pieces job.spec.sources) (sym (tree_before job.spec.segment trees n.a.s n.midway.kept.rise n.a.there n.a.same)) ∙ n.stands.source_tables

taken_of : {merge : Operator} {world : World} {specs : ℕ → JobSpec} {trees : Trees} {horizon : ℕ} {joined : List ℕ} {job : Job} {id : ℕ} (n : NewJoin merge world specs trees horizon joined job id) (P : Node → Type 0)
    → AllByRecursion P n.a.s.tree → AllByRecursion P (n.a.t ∷ n.a.ts)
taken_of n P h = all_taken P n.a.newer (n.a.t ∷ n.a.ts) n.a.older (subst (AllByRecursion P) n.a.whole h)

pub sources_held : {merge : Operator} {world : World} {specs : ℕ → JobSpec} {trees : Trees} {horizon : ℕ} {joined : List ℕ} {job : Job} {id : ℕ} (n : NewJoin merge world specs trees horizon joined job id) → AreHeld world.store job.source_tables
sources_held {merge} {world} {specs} {trees} {horizon} {joined} {job} {id} n = subst (AreHeld world.store) (sources_same n)
    (all_true_from (is_held world.store) (flat_map (λ (node : Node). node.pieces) (n.a.t ∷ n.a.ts)) (all_flat (λ t. IsTrue (is_held world.store t)) (λ (node : Node). node.pieces) (n.a.t ∷ n.a.ts)
    (all_to _ _ (n.a.t ∷ n.a.ts) (λ node there held. all_true_front (is_held world.store) node.pieces held) (taken_of n (λ node. AreHeld world.store node.pieces) (place_of n).pieces))))

pub not_was : {A : Type 0} (b : Bool) → b ≡ false → IsTrue b ⊎ A → A
not_was b e (inl was) = absurd (never_both b was e)
not_was b e (inr h) = h

pub undone_of : (world : World) (joined : List ℕ) (job : Job) → contains joined job.id ≡ false → was_joined world.store.history job.id ≡ false → is_done world.store.history joined job ≡ false
undone_of world joined job e f = ap (λ b. b || was_joined world.store.history job.id) e ∙ f

-- The outputs of a new join are all rows that the job's settings make of its sources, with a cut up to the new horizon.
join_makes : {merge : Operator} {world : World} {specs : ℕ → JobSpec} {trees : Trees} {horizon : ℕ} {joined : List ℕ} {job : Job} {id : ℕ} (n : NewJoin merge world specs trees horizon joined job id) (f : OutputsFit merge world.store specs job)
    → JoinMakes merge (with_horizon world.store (high world job horizon)) (before_these true n.a.older) (n.a.t ∷ n.a.ts) (concat job.outputs) f.settings
join_makes {merge} {world} {specs} {trees} {horizon} {joined} {job} {id} n f = record {
  rows = subst (λ ts. job_rows merge f.settings (source_rows world.store.tables ts) ≡ record { rows = noted_rows world.store.tables (concat job.outputs); whole = true }) (sym (sources_same n)) (f.rows (sources_held n));
  cut = cut_low world.store.manifest.floor job.id f.settings.floor f.settings.cut job.kept_cut horizon f.cut f.at_most_floor;
  tick = fit.tick;
  last_run = λ is. oldest (old_holds.oldest (compacted_holds job.status n.compacted) (undone_of world joined job n.once n.unjoined) n.stood (fit.last_run is));
}
  where
    fit : SettingsFit world.store.manifest job.spec f.settings
    fit = not_was (was_joined world.store.history job.id) n.unjoined f.fit

    old_holds : JobHolds world trees joined job
    old_holds = all_at (JobHolds world trees joined) (stored_jobs world.store) job n.midway.jobs n.there

    none : (older : Tree) → Some (names older) ≡ Some [] → before_these true older ≡ true
    none [] e = refl
    none (o ∷ older) e = absurd (cc e)

    oldest : AreOldest (tree_at job.spec.segment trees) job.spec.sources → before_these true n.a.older ≡ true
    oldest h = none n.a.older (sym n.a.rest ∙ subst (λ tree. AreOldest tree job.spec.sources) (tree_before job.spec.segment trees n.a.s n.midway.kept.rise n.a.there n.a.same) h)

outputs_unused : {merge : Operator} {world : World} {specs : ℕ → JobSpec} {trees : Trees} {horizon : ℕ} {joined : List ℕ} {job : Job} {id : ℕ} (n : NewJoin merge world specs trees horizon joined job id) (t : ℕ) → IsIn t (concat job.outputs) → was_piece world.past t ≡ false
outputs_unused {merge} {world} {specs} {trees} {horizon} {joined} {job} {id} n t there =
    all_at (λ u. was_piece world.past u ≡ false) (concat job.outputs) t (all_back _ (context_tables job.context) (concat job.outputs) (n.kept.facts.unused (both (is_active job) (was_joined world.store.history job.id) (compacted_active job.status n.compacted) n.unjoined))) there
  where
    both : (a b : Bool) → IsTrue a → b ≡ false → IsTrue (a && not b)
    both true true h e = absurd (cc e)
    both true false h e = refl
    both false b h e = absurd (cc h)

-- A new join makes a run of held and known tables that are in no other tree, and its rows fit in its place.
join_pieces : {merge : Operator} {world : World} {specs : ℕ → JobSpec} {trees : Trees} {horizon : ℕ} {joined : List ℕ} {job : Job} {id : ℕ} (n : NewJoin merge world specs trees horizon joined job id) → IsLawful merge
    → PiecesMay merge (with_horizon world.store (high world job horizon)) world.store.history trees job.spec id (concat job.outputs) (join_change world job) (run_of_join n)
join_pieces {merge} {world} {specs} {trees} {horizon} {joined} {job} {id} n lawful =
    let active = compacted_active job.status n.compacted in
    let f = n.kept.fits.outputs n.compacted in
    record {
      held = all_true_from (is_held world.store) (concat job.outputs) (all_back _ (context_tables job.context) (concat job.outputs) (all_true_front (is_held world.store) (job_tables job) (n.kept.fits.tables active).named));
      known = all_to _ _ (concat job.outputs) (λ t there drawn. inl drawn) (all_back _ (context_tables job.context) (concat job.outputs) (n.kept.facts.drawn active));
      between = run_between trees job.spec id n.a n.midway.kept.rise (order_of n) n.may;
      less = without_sources job.spec.sources n.a.s.tree (as_stretch trees job.spec n.a) n.own;
      fits = join_fits merge (with_horizon world.store (high world job horizon)) (before_these true n.a.older) id (n.a.t ∷ n.a.ts) (concat job.outputs) f.settings lawful
          (pairs_first (IsNewer world.store.tables) (n.a.t ∷ n.a.ts) n.a.older (pairs_second (IsNewer world.store.tables) n.a.newer ((n.a.t ∷ n.a.ts) ++ n.a.older) (subst (Pairs (IsNewer world.store.tables)) n.a.whole (place_of n).tree.newest_first)))
          (taken_of n _ (place_of n).tree.ordered) (join_makes n f);
      new_tables = λ t there. inr (λ y one held. (all_at (JobHolds world trees joined) (stored_jobs world.store) job n.midway.jobs n.there).unused t (outputs_unused n t there) active (undone_of world joined job n.once n.unjoined)
          (in_back t (context_tables job.context) (concat job.outputs) there) (in_flat tree_tables trees y t one held));
    }

-- ---- the join itself stands

no_tables : (store : Store) (ts : List ℕ) → AllByRecursion (λ t. IsTable (table_rows store.tables t)) ts → flat_map (table_rows store.tables) ts ≡ [] → ts ≡ []
no_tables store [] h e = refl
no_tables store (t ∷ ts) h e = absurd (at (table_rows store.tables t) h.0.some e)
  where
    at : (rows : List _) → rows ≢ [] → rows ++ flat_map (table_rows store.tables) ts ≡ [] → ⊥
    at [] some e = some refl
    at (r ∷ rows) some e = absurd (cc e)

were_pieces : {merge : Operator} {world : World} {specs : ℕ → JobSpec} {trees : Trees} {horizon : ℕ} {joined : List ℕ} {job : Job} {id : ℕ} (n : NewJoin merge world specs trees horizon joined job id) (t : ℕ) → IsIn t job.source_tables → IsTrue (was_piece world.past t)
were_pieces {merge} {world} {specs} {trees} {horizon} {joined} {job} {id} n t there =
    all_at (λ u. IsTrue (was_piece world.past u)) (source_pieces job.spec.sources (tree_at job.spec.segment world.store.manifest.trees)) t
    (sources_all (λ u. IsTrue (was_piece world.past u)) job.spec.sources (tree_at job.spec.segment world.store.manifest.trees)
    (tree_has (λ tree. AllByRecursion (λ (node : Node). AllByRecursion (λ u. IsTrue (was_piece world.past u)) node.pieces) tree) job.spec.segment world.store.manifest.trees tt
    (all_from _ world.store.manifest.trees (λ s one. all_from _ s.tree (λ node other. all_from _ node.pieces (λ u held.
    any_of (λ (m : Manifest). contains (flat_map tree_tables m.trees) u) world.past world.store.manifest (stored_in_past world.store.manifest world.past n.body.past)
    (in_contains (flat_map tree_tables world.store.manifest.trees) u (in_flat tree_tables world.store.manifest.trees s u one (in_flat (λ (x : Node). x.pieces) s.tree node u other held)))))))))
    (subst (IsIn t) (sym n.stood.source_tables) there)

-- A new join replaces tables that nodes held by outputs that no node ever held.
own_join : {merge : Operator} {world : World} {specs : ℕ → JobSpec} {trees : Trees} {horizon : ℕ} {joined : List ℕ} {job : Job} {id : ℕ} (n : NewJoin merge world specs trees horizon joined job id)
    → OwnJoin world.store.tables world.store.history world.past trees job id (join_change world job)
own_join {merge} {world} {specs} {trees} {horizon} {joined} {job} {id} n = record {
  c = run_of_join n;
  rise = n.midway.kept.rise;
  apart = n.midway.kept.tables;
  newest = (place_of n).tree.newest_first;
  rows = have_rows merge (with_horizon world.store (high world job horizon)) world.store.history n.a.s n.body.sound.tables (place_of n);
  flushed = (place_of n).flushed;
  source_tables = sources_same n;
  were = were_pieces n;
  unused = outputs_unused n;
  empty = λ none. no_tables world.store (concat job.outputs) (all_held world.store (concat job.outputs) n.body.sound.tables
      (all_true_from (is_held world.store) (concat job.outputs) (all_back _ (context_tables job.context) (concat job.outputs) (all_true_front (is_held world.store) (job_tables job) (n.kept.fits.tables (compacted_active job.status n.compacted)).named))))
      (empty_rows none);
  lowest = λ r is. only r (subst (λ ids. IsTrue (is_lowest_or_above id ids (run_ids (names (tree_at job.spec.segment trees))))) (ap run_ids (sym n.a.named ∙ is)) n.may.lowest);
}
  where
    f : OutputsFit merge world.store specs job
    f = n.kept.fits.outputs n.compacted

    empty_rows : job.source_tables ≡ [] → noted_rows world.store.tables (concat job.outputs) ≡ []
    empty_rows none = sym (ap (λ j. j.rows) (f.rows (sources_held n))) ∙ ap (λ ts. (job_rows merge f.settings (source_rows world.store.tables ts)).rows) none

    only : (r : ℕ) → IsTrue (is_lowest_or_above id (r ∷ []) (run_ids (names (tree_at job.spec.segment trees)))) → r ≡ id
    only r h = at (r == id) refl h
      where
        at : (b : Bool) → (r == id) ≡ b → IsTrue (cond b true false && list_all (nat_le id) (r ∷ [])) → r ≡ id
        at true e h = (Decides-eqb r id).0 e
        at false e h = absurd (cc h)

-- ---- the other jobs

-- Each other stored job is beside a new join: it touches no node and names no table of the join unless it was joined.
beside_join : {merge : Operator} {world : World} {specs : ℕ → JobSpec} {trees : Trees} {horizon : ℕ} {joined : List ℕ} {job : Job} {id : ℕ} (n : NewJoin merge world specs trees horizon joined job id) (other : Job) → IsIn other (stored_jobs world.store) → (job.id ≡ other.id → ⊥)
    → BesideRun world trees joined other job.spec id (concat job.outputs) (join_change world job) (run_of_join n)
beside_join {merge} {world} {specs} {trees} {horizon} {joined} {job} {id} n other there differs = record {
  away = λ holds undone. away holds;
  tables = λ t one. inr (outputs_unused n t one);
  mine = λ active t one. inr (λ named. apart active t (in_back t (context_tables job.context) (concat job.outputs) one) named (two_jobs NameApart (stored_jobs world.store) job other n.body.name_apart n.there there differs));
  full = λ compacted done. inr (away (compacted_holds other.status compacted));
}
  where
    away : IsTrue (reserves_nodes other) → IsAway job.spec other
    away holds = by (two_jobs HoldApart (stored_jobs world.store) job other n.body.held_once n.there there differs)
      where
        by : HoldApart job other ⊎ HoldApart other job → IsAway job.spec other
        by (inl h) = h (compacted_holds job.status n.compacted) holds
        by (inr h) = apart_turned (nodes_of other.spec) (nodes_of job.spec) (h holds (compacted_holds job.status n.compacted))

    apart : IsTrue (is_active other) → (t : ℕ) → IsIn t (job_tables job) → IsIn t (job_tables other) → NameApart job other ⊎ NameApart other job → ⊥
    apart active t one two (inl h) = apart_at (job_tables job) (job_tables other) t (h (compacted_active job.status n.compacted) active) one two
    apart active t one two (inr h) = apart_at (job_tables other) (job_tables job) t (h active (compacted_active job.status n.compacted)) two one

-- ---- the join

-- A new join keeps what is kept in the midst of a commit under a lawful operator, at the horizon after the join.
new_join_keeps : {merge : Operator} {world : World} {specs : ℕ → JobSpec} {trees : Trees} {horizon : ℕ} {joined : List ℕ} {job : Job} {id : ℕ} → NewJoin merge world specs trees horizon joined job id → IsLawful merge
    → Midway merge world (stepped_in world.store.tables (Join job.id) job.spec (concat job.outputs) trees) (high world job horizon) (job.id ∷ joined)
new_join_keeps {merge} {world} {specs} {trees} {horizon} {joined} {job} {id} n lawful = record {
  kept = trees_on merge (with_horizon world.store (high world job horizon)) world.store.history trees job.spec.segment job.spec.sources (join_change world job) n.a.s
      (run_changes merge (with_horizon world.store (high world job horizon)) world.store.history trees job.spec id (concat job.outputs) (join_change world job) (run_of_join n) (join_pieces n lawful) (raised n)) (raised n);
  jobs = all_to (JobHolds world trees joined) (JobHolds world (stepped_in world.store.tables (Join job.id) job.spec (concat job.outputs) trees) (job.id ∷ joined)) (stored_jobs world.store) (λ other there h. by other there h (job.id == other.id) refl) n.midway.jobs;
}
  where
    by : (other : Job) → IsIn other (stored_jobs world.store) → JobHolds world trees joined other → (b : Bool) → (job.id == other.id) ≡ b
        → JobHolds world (stepped_in world.store.tables (Join job.id) job.spec (concat job.outputs) trees) (job.id ∷ joined) other
    by other there h true e = own (same_job job other n.there there ((Decides-eqb job.id other.id).0 e))
      where
        own : job ≡ other → JobHolds world (stepped_in world.store.tables (Join job.id) job.spec (concat job.outputs) trees) (job.id ∷ joined) other
        own same = subst (λ (x : Job). JobHolds world (stepped_in world.store.tables (Join job.id) job.spec (concat job.outputs) trees) (job.id ∷ joined) x) same
            (holds_joined world (stepped_in world.store.tables (Join job.id) job.spec (concat job.outputs) trees) joined job (join_stands world.store.tables world.store.history world.past trees job id (join_change world job) (own_join n)))

        same_job : (x y : Job) → IsIn x (stored_jobs world.store) → IsIn y (stored_jobs world.store) → x.id ≡ y.id → x ≡ y
        same_job x y one two same = only_job (stored_jobs world.store) x y n.body.sound.job_ids one two same
    by other there h false e =
        let differs = λ (same : job.id ≡ other.id). never_both (job.id == other.id) ((Decides-eqb job.id other.id).1 same) e in
        holds_with world (stepped_in world.store.tables (Join job.id) job.spec (concat job.outputs) trees) joined job.id other differs
        (holds_on_run world trees joined other job.spec id (concat job.outputs) (join_change world job) (run_of_join n) n.midway.kept.rise (beside_join n other there differs) h)

-- ---- a join that a commit may take

-- A Compacted job that was never joined has a place for its run, if its sources stand and its destination fits.
pub new_join : {merge : Operator} {world : World} {specs : ℕ → JobSpec} {trees : Trees} {horizon : ℕ} {joined : List ℕ} (job : Job) (id : ℕ) → Body merge world specs → Midway merge world trees horizon joined → IsIn job (stored_jobs world.store)
    → IsTrue (has_status Compacted job) → contains joined job.id ≡ false → was_joined world.store.history job.id ≡ false → SourcesStand world.store.manifest.trees job → SourcesStand trees job → job.spec.destination ≡ Some id
    → DestinationFits trees (tree_at job.spec.segment trees) job.spec.sources (Some id) → NewJoin merge world specs trees horizon joined job id
new_join {merge} {world} {specs} {trees} {horizon} {joined} job id b m there compacted once unjoined stood stands to h =
    let a = stretch_at trees job.spec stands.some stands.stretch in
    record {
      body = b;
      midway = m;
      there = there;
      kept = all_at (JobKept merge world specs) (stored_jobs world.store) job b.jobs there;
      compacted = compacted;
      once = once;
      unjoined = unjoined;
      stood = stood;
      stands = stands;
      to = to;
      a = a;
      own = segment_named merge (with_horizon world.store horizon) world.store.history a.s b.sound.tables (all_at _ trees a.s m.kept.each a.there);
      may = record { to = to; lowest = h.0; fresh = λ none one. fresh (contains (all_run_ids trees) id) refl (h.1 none) one };
    }
  where
    fresh : (c : Bool) → contains (all_run_ids trees) id ≡ c → IsTrue (not c) → IsIn id (all_run_ids trees) → ⊥
    fresh true e k one = absurd (cc k)
    fresh false e k one = never_both (contains (all_run_ids trees) id) (in_contains (all_run_ids trees) id one) e

at_destination : {merge : Operator} {world : World} {specs : ℕ → JobSpec} {trees : Trees} {horizon : ℕ} {joined : List ℕ} (job : Job) → IsLawful merge → Body merge world specs → Midway merge world trees horizon joined → IsIn job (stored_jobs world.store)
    → IsTrue (has_status Compacted job) → contains joined job.id ≡ false → was_joined world.store.history job.id ≡ false → SourcesStand world.store.manifest.trees job → SourcesStand trees job → (d : Option ℕ) → job.spec.destination ≡ d
    → DestinationFits trees (tree_at job.spec.segment trees) job.spec.sources d → Midway merge world (stepped_in world.store.tables (Join job.id) job.spec (concat job.outputs) trees) (high world job horizon) (job.id ∷ joined)
at_destination job lawful b m there compacted once unjoined stood stands None to h = absurd h
at_destination job lawful b m there compacted once unjoined stood stands (Some id) to h = new_join_keeps (new_join job id b m there compacted once unjoined stood stands to h) lawful

-- A second join of a job leaves the trees.
again_keeps : {merge : Operator} {world : World} {specs : ℕ → JobSpec} {trees : Trees} {horizon : ℕ} {joined : List ℕ} (job : Job) → Body merge world specs → Midway merge world trees horizon joined → IsIn job (stored_jobs world.store) → IsTrue (has_status Compacted job)
    → was_joined world.store.history job.id ≡ true → Midway merge world trees (high world job horizon) (job.id ∷ joined)
again_keeps {merge} {world} {specs} {trees} {horizon} {joined} job b m there compacted was = record {
  kept = later_trees merge world.store world.store.history horizon (high world job horizon) trees (horizon_rises world.store.manifest.floor job.id job.kept_cut horizon) m.kept;
  jobs = all_to (JobHolds world trees joined) (JobHolds world trees (job.id ∷ joined)) (stored_jobs world.store) (λ other one h. by other one h (job.id == other.id) refl) m.jobs;
}
  where
    done : is_done world.store.history joined job ≡ true
    done = either (contains joined job.id) was
      where
        either : (c : Bool) → was_joined world.store.history job.id ≡ true → (c || was_joined world.store.history job.id) ≡ true
        either true e = refl
        either false e = e

    by : (other : Job) → IsIn other (stored_jobs world.store) → JobHolds world trees joined other → (c : Bool) → (job.id == other.id) ≡ c → JobHolds world trees (job.id ∷ joined) other
    by other one h true e =
        let same = only_job (stored_jobs world.store) job other b.sound.job_ids there one ((Decides-eqb job.id other.id).0 e) in
        subst (λ (x : Job). JobHolds world trees (job.id ∷ joined) x) same (holds_joined world trees joined job ((all_at (JobHolds world trees joined) (stored_jobs world.store) job m.jobs there).again compacted done))
    by other one h false e = holds_with world trees joined job.id other (λ same. never_both (job.id == other.id) ((Decides-eqb job.id other.id).1 same) e) h

-- A join that fits, be it a first or a second one, keeps what is kept in the midst of a commit under a lawful operator.
pub join_keeps : (merge : Operator) (world : World) (specs : ℕ → JobSpec) (trees : Trees) (horizon : ℕ) (joined : List ℕ) (id : ℕ) → IsLawful merge → Body merge world specs → (fits : JoinFits world trees joined id) → Midway merge world trees horizon joined
    → Midway merge world (stepped_in world.store.tables (Join id) fits.job.spec (concat fits.job.outputs) trees) (horizon_after world.store.manifest.floor (Join id) fits.job.kept_cut horizon) (id ∷ joined)
join_keeps merge world specs trees horizon joined id lawful b fits m =
    subst (λ (n : ℕ). Midway merge world (stepped_in world.store.tables (Join id) fits.job.spec (concat fits.job.outputs) trees) (horizon_after world.store.manifest.floor (Join n) fits.job.kept_cut horizon) (n ∷ joined)) (sym found.1)
    (by (was_joined world.store.history fits.job.id) refl)
  where
    found : IsIn fits.job (stored_jobs world.store) × (id ≡ fits.job.id)
    found = found_job id (stored_jobs world.store) fits.job fits.stored

    once : contains joined fits.job.id ≡ false
    once = subst (λ n. contains joined n ≡ false) found.1 fits.once

    kept : JobKept merge world specs fits.job
    kept = all_at (JobKept merge world specs) (stored_jobs world.store) fits.job b.jobs found.0

    by : (c : Bool) → was_joined world.store.history fits.job.id ≡ c → Midway merge world (stepped_in world.store.tables (Join id) fits.job.spec (concat fits.job.outputs) trees) (high world fits.job horizon) (fits.job.id ∷ joined)
    by true e = subst (λ (ts : Trees). Midway merge world ts (high world fits.job horizon) (fits.job.id ∷ joined)) (sym (fits.again (subst (λ n. IsTrue (was_joined world.store.history n)) (sym found.1) e))) (again_keeps fits.job b m found.0 fits.finished e)
    by false e =
        let stood = not_was (was_joined world.store.history fits.job.id) e (kept.fits.sources.1 fits.finished) in
        let stands = (all_at (JobHolds world trees joined) (stored_jobs world.store) fits.job m.jobs found.0).stand (compacted_holds fits.job.status fits.finished) (undone_of world joined fits.job once e) stood in
        at_destination fits.job lawful b m found.0 fits.finished once e stood stands fits.job.spec.destination refl stands.destination
