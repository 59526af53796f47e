-- A join replaces its sources by one run of its job's rows.
use Rattle.std.proofs.Common.{◌≡◌, refl, sym, ◌∙◌, ap, subst, ℕ, List, [], ◌∷◌, ◌++◌, cond, true, false, Option, Some, None}
use Rattle.std.specs.Prelude.{flat_map, map, bytes_eq, option_map}
use Rattle.std.specs.List.{concat}
use Rattle.std.proofs.lemmas.Slice.Eq.{bytes_eq-Decides}
use Rattle.row_model.specs.Fold.{Operator, IsLawful}
use Rattle.row_model.specs.JobRows.{job_rows}
use Rattle.fleet_model.specs.Nodes.{Node, table_rows, NodeName, Tree, Segment, Trees, segment_at, tree_at, tree_or_empty}
use Rattle.fleet_model.specs.Jobs.{JobSpec, Job, contains}
use Rattle.fleet_model.specs.Work.Attempts.{noted_rows, source_rows}
use Rattle.fleet_model.specs.Store.{stored_jobs}
use Rattle.fleet_model.specs.History.{Move}
use Rattle.fleet_model.specs.Trees.{on_segment, stepped_in, by_first_key, source_pieces, tables_now}
use Rattle.fleet_model.specs.Invariants.JobsFit.{SourcesStand, DestinationFits, was_joined}
use Rattle.step_model.specs.Past.{World}
use Rattle.step_laws.proofs.Elements.{IsIn, all_at}
use Rattle.step_laws.proofs.Bodies.{Body, JobKept, whole_of}
use Rattle.step_laws.proofs.Alike.{replays_alike, settings_same}
use Rattle.step_laws.proofs.FlushTrees.{Rising}
use Rattle.commit_laws.specs.After.{trees_after, joined_by}
use Rattle.row_model.specs.Lists.{Pairs}
use Rattle.fleet_model.specs.Invariants.TreesFit.{IsNewer}
use Rattle.row_laws.specs.Merges.{AreApart}
use Rattle.row_laws.proofs.Merges.{ordered_stay}
use Rattle.commit_laws.specs.StepForms.{RunReplaces, JoinReplaces, JoinsReplace, MoveReplaces, MovesReplace}
use Rattle.commit_laws.proofs.AtOnce.{NewMove, move_found, moved, move_change, run_of_move, move_tables, move_pieces_same, move_place, move_taken}
use Rattle.commit_laws.proofs.MoveRows.{first_key_sorted}
use Rattle.commit_laws.proofs.RunRows.{rows_of_pieces, nodes_apart}
use Rattle.commit_laws.proofs.Stretches.{other_or, pairs_first, pairs_second}
use Rattle.commit_laws.proofs.StepTrees.{changed_segment, segment_on}
use Rattle.commit_laws.proofs.JobSteps.{JobHolds, RunAt, tree_here, tree_before}
use Rattle.commit_laws.proofs.Steps.{found_there}
use Rattle.commit_laws.proofs.Midway.{Midway, found_job}
use Rattle.commit_laws.proofs.Joins.{NewJoin, new_join, run_of_join, join_change, sources_same, sources_held, not_was, undone_of, compacted_holds}
use Rattle.commit_laws.proofs.CommitSteps.{steps_keep}
use Rattle.commit_laws.proofs.CommitJobs.{horizon_of}
use Rattle.commit_laws.proofs.Commits.{start}

tree_elsewhere : (p prefix : List ℕ) (sources : List NodeName) (change : Tree → Tree) (trees : Trees) → bytes_eq prefix p ≡ false → tree_at p (map (on_segment prefix sources change) trees) ≡ tree_at p trees
tree_elsewhere p prefix sources change trees differs = ap tree_or_empty (segment_on p prefix sources change trees) ∙ by (segment_at p trees) refl
  where
    by : (o : Option Segment) → segment_at p trees ≡ o → tree_or_empty (option_map (on_segment prefix sources change) o) ≡ tree_or_empty o
    by None e = refl
    by (Some x) e = ap (λ b. (cond b (changed_segment sources change x) x).tree) (ap (bytes_eq prefix) (sym (found_there p trees x e).1) ∙ differs)

-- A step that puts a run replaces its sources by the run where they stood, and leaves all other trees.
pub replaced_by : (trees : Trees) (spec : JobSpec) (id : ℕ) (pieces : List ℕ) (change : Tree → Tree) → RunAt trees spec id pieces change → Rising trees → RunReplaces trees (map (on_segment spec.segment spec.sources change) trees) spec pieces
replaced_by trees spec id pieces change c rise = record {
  id = id;
  to = c.to;
  newer = c.newer;
  taken = c.t ∷ c.ts;
  older = c.older;
  sources = c.named;
  before = tree_before spec.segment trees c.s rise c.there c.same ∙ c.whole;
  after = tree_here spec.segment spec.sources change trees c.s rise c.there c.same ∙ c.is;
  elsewhere = λ p other. tree_elsewhere p spec.segment spec.sources change trees (other_or (bytes_eq spec.segment p) (λ same. other (sym ((bytes_eq-Decides spec.segment p).0 same))));
}

-- A new join replaces the sources by one run of all rows that the settings of the job's claim make of them.
join_replaces : {merge : Operator} {world : World} {specs : ℕ → JobSpec} {trees : Trees} {horizon : ℕ} {joined : List ℕ} {job : Job} {id : ℕ} → NewJoin merge world specs trees horizon joined job id → JoinReplaces merge world trees job
unfolding replaced_by
join_replaces {merge} {world} {specs} {trees} {horizon} {joined} {job} {id} n =
    let f = n.kept.fits.outputs n.compacted in
    record {
      run = replaced_by trees job.spec id (concat job.outputs) (join_change world job) (run_of_join n) n.midway.kept.rise;
      settings = f.settings;
      claimed = λ others faithful. sym (settings_same world.store.tables world.store.tables specs others world.store.history job.id job.attempt (replays_alike world specs others n.body.faithful faithful)
          (n.kept.spec specs n.body.faithful ∙ sym (n.kept.spec others faithful))) ∙ f.claimed;
      cut = f.cut;
      rows = subst (λ ts. job_rows merge f.settings (source_rows world.store.tables ts) ≡ record { rows = noted_rows world.store.tables (concat job.outputs); whole = true }) (sym (sources_same n)) (f.rows (sources_held n));
    }

-- Under a lawful operator a join of a commit replaces the sources by the job's run, unless it is a second one.
pub joins_replace : (merge : Operator) → IsLawful merge → JoinsReplace merge
joins_replace merge lawful world party specs first id k known fits join new = by join.job.spec.destination refl stands.destination
  where
    b : Body merge world k.stored.replay.specs
    b = (whole_of merge world k).body

    m : Midway merge world (trees_after world specs first) (horizon_of world first) (joined_by first [])
    m = steps_keep merge world party k.stored.replay.specs specs world.store.manifest.trees world.store.manifest.horizon [] first lawful b known fits (start merge world k.stored.replay.specs b)

    found : IsIn join.job (stored_jobs world.store) × (id ≡ join.job.id)
    found = found_job id (stored_jobs world.store) join.job join.stored

    once : contains (joined_by first []) join.job.id ≡ false
    once = subst (λ n. contains (joined_by first []) n ≡ false) found.1 join.once

    unjoined : was_joined world.store.history join.job.id ≡ false
    unjoined = subst (λ n. was_joined world.store.history n ≡ false) found.1 new

    stood : SourcesStand world.store.manifest.trees join.job
    stood = not_was (was_joined world.store.history join.job.id) unjoined ((all_at (JobKept merge world k.stored.replay.specs) (stored_jobs world.store) join.job b.jobs found.0).fits.sources.1 join.finished)

    stands : SourcesStand (trees_after world specs first) join.job
    stands = (all_at (JobHolds world (trees_after world specs first) (joined_by first [])) (stored_jobs world.store) join.job m.jobs found.0).stand (compacted_holds join.job.status join.finished) (undone_of world (joined_by first []) join.job once unjoined) stood

    by : (d : Option ℕ) → join.job.spec.destination ≡ d → DestinationFits (trees_after world specs first) (tree_at join.job.spec.segment (trees_after world specs first)) join.job.spec.sources d → JoinReplaces merge world (trees_after world specs first) join.job
    by None to h = absurd h
    by (Some run) to h = join_replaces (new_join join.job run b m found.0 join.finished once unjoined stood stands to h)

-- ---- moves

-- A move replaces the sources by a run of their own tables, which have the sources' rows in order.
move_replaces : {merge : Operator} {world : World} {specs : ℕ → JobSpec} {trees : Trees} {horizon : ℕ} {joined : List ℕ} {spec : JobSpec} {id run : ℕ} (n : NewMove merge world specs trees horizon joined spec id run) (outputs : List ℕ) → MoveReplaces world trees spec id outputs
move_replaces {merge} {world} {specs} {trees} {horizon} {joined} {spec} {id} {run} n outputs = record {
  run = subst (λ pieces. RunReplaces trees (stepped_in world.store.tables (Move id) spec outputs trees) spec pieces) (ap (by_first_key world.store.tables) same) (replaced_by trees spec run (moved n) (move_change world spec id outputs) (run_of_move n outputs) n.midway.kept.rise);
  rows = subst (λ pieces. noted_rows world.store.tables (by_first_key world.store.tables pieces) ≡ source_rows world.store.tables pieces) same
      (sym (ordered_stay (noted_rows world.store.tables (moved n)) (move_tables n).fits.ordered) ∙ first_key_sorted world.store.tables (flat_map (λ (node : Node). node.pieces) (n.a.t ∷ n.a.ts)) apart);
}
  where
    same : flat_map (λ (node : Node). node.pieces) (n.a.t ∷ n.a.ts) ≡ tables_now trees spec
    same = sym (ap (source_pieces spec.sources) (tree_before spec.segment trees n.a.s n.midway.kept.rise n.a.there n.a.same) ∙ move_pieces_same n)

    apart : AreApart (flat_map (table_rows world.store.tables) (flat_map (λ (node : Node). node.pieces) (n.a.t ∷ n.a.ts)))
    apart = subst AreApart (sym (rows_of_pieces world.store.tables (n.a.t ∷ n.a.ts))) (nodes_apart world.store.tables (n.a.t ∷ n.a.ts)
        (pairs_first (IsNewer world.store.tables) (n.a.t ∷ n.a.ts) n.a.older (pairs_second (IsNewer world.store.tables) n.a.newer ((n.a.t ∷ n.a.ts) ++ n.a.older) (subst (Pairs (IsNewer world.store.tables)) n.a.whole (move_place n).tree.newest_first)))
        (move_taken n _ (move_place n).tree.ordered))

pub moves_replace : (merge : Operator) → IsLawful merge → MovesReplace merge
moves_replace merge lawful world party specs first id outputs k known fits move =
    let b = (whole_of merge world k).body in
    let m = steps_keep merge world party k.stored.replay.specs specs world.store.manifest.trees world.store.manifest.horizon [] first lawful b known fits (start merge world k.stored.replay.specs b) in
    move_replaces (move_found merge world k.stored.replay.specs (trees_after world specs first) (horizon_of world first) (joined_by first []) (specs id) id b move m).1 outputs
