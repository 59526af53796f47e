-- What is kept of each job stays kept after a step of a commit.
use Rattle.std.proofs.Common.{◌≡◌, refl, sym, ◌∙◌, ap, subst, ℕ, List, [], ◌∷◌, ◌++◌, cond, Bool, true, false, inl, inr, ◌⊎◌}
use Rattle.std.specs.Prelude.{◌≢◌, IsTrue, ◌||◌, ◌==◌, map, flat_map}
use Rattle.std.proofs.lemmas.Bool.Decides.{Decides-eqb}
use Rattle.fleet_model.specs.Nodes.{Run, Node, Tree, Trees}
use Rattle.fleet_model.specs.Jobs.{JobSpec, nodes_of, Job, Compacted, has_status, is_active, contains}
use Rattle.fleet_model.specs.Work.Gates.{reserves_nodes}
use Rattle.fleet_model.specs.Handles.{tree_tables, job_tables}
use Rattle.fleet_model.specs.History.{Entry}
use Rattle.fleet_model.specs.Trees.{on_segment, without_nodes}
use Rattle.fleet_model.specs.Invariants.JobsFit.{was_joined}
use Rattle.step_model.specs.Past.{World}
use Rattle.step_model.specs.LawfulTables.{was_piece}
use Rattle.step_model.specs.Kept.JoinsKept.{JoinStands}
use Rattle.step_laws.proofs.Elements.{IsIn}
use Rattle.step_laws.proofs.Deletions.{in_flat}
use Rattle.step_laws.proofs.FlushTrees.{Rising}
use Rattle.commit_laws.proofs.Stretches.{never_both}
use Rattle.commit_laws.proofs.OtherJobs.{in_replaced, in_filtered}
use Rattle.commit_laws.proofs.StepTrees.{changed_segment, in_trees_on, names_apart_at}
use Rattle.commit_laws.proofs.JobSteps.{is_done, JobHolds, IsAway, RunAt, OutAt, stand_on_run, oldest_on_run, stand_on_out, oldest_on_out, destination_in, in_nodes}
use Rattle.commit_laws.proofs.JoinsStand.{IsOld, stands_on, in_pieces}
use Rattle.commit_laws.specs.RunReads.{run_for}

-- ---- a step that puts a run

-- What is known of a job beside a step that puts a run: the job is away from the step unless its join stood, and the tables of the run are old or not the job's.
pub record BesideRun (world : World) (trees : Trees) (joined : List ℕ) (job : Job) (spec : JobSpec) (id : ℕ) (pieces : List ℕ) (change : Tree → Tree) (c : RunAt trees spec id pieces change) : Type 0 where
  pub away : IsTrue (reserves_nodes job) → is_done world.store.history joined job ≡ false → IsAway spec job
  pub tables : (t : ℕ) → IsIn t pieces → IsIn t (tree_tables c.s) ⊎ (was_piece world.past t ≡ false)
  pub mine : IsTrue (is_active job) → (t : ℕ) → IsIn t pieces → IsIn t (tree_tables c.s) ⊎ (IsIn t (job_tables job) → ⊥)
  pub full : IsTrue (has_status Compacted job) → is_done world.store.history joined job ≡ true → (pieces ≢ []) ⊎ IsAway spec job

-- A table of the changed tree was in the tree, or is one of the run's.
table_of_new : {trees : Trees} {spec : JobSpec} {id : ℕ} {pieces : List ℕ} {change : Tree → Tree} (c : RunAt trees spec id pieces change) (t : ℕ) → IsIn t (tree_tables (changed_segment spec.sources change c.s)) → IsIn t (tree_tables c.s) ⊎ IsIn t pieces
table_of_new {trees} {spec} {id} {pieces} {change} c t there =
    let found = in_pieces (change c.s.tree) t there in
    by found.0 found.1.1 (in_replaced c.newer (c.t ∷ c.ts) c.older (run_for id pieces (c.t ∷ c.ts)) found.0 (subst (IsIn found.0) c.is found.1.0))
  where
    by : (node : Node) → IsIn t node.pieces → (run_for id pieces (c.t ∷ c.ts) ≡ node) ⊎ IsIn node (c.newer ++ ((c.t ∷ c.ts) ++ c.older)) → IsIn t (tree_tables c.s) ⊎ IsIn t pieces
    by node held (inl run) = inr (subst (λ (n : Node). IsIn t n.pieces) (sym run) held)
    by node held (inr one) = inl (in_flat (λ (n : Node). n.pieces) c.s.tree node t (subst (IsIn node) (sym c.whole) one) held)

-- Each table in the trees after a step puts a run is one of the run's or was there before.
pub table_on_run : {trees : Trees} {spec : JobSpec} {id : ℕ} {pieces : List ℕ} {change : Tree → Tree} (c : RunAt trees spec id pieces change) (t : ℕ) → Rising trees → IsIn t (flat_map tree_tables (map (on_segment spec.segment spec.sources change) trees))
    → IsIn t (flat_map tree_tables trees) ⊎ IsIn t pieces
table_on_run {trees} {spec} {id} {pieces} {change} c t rise there = by (in_trees_on tree_tables t trees spec.segment spec.sources change c.s rise c.there c.same there)
  where
    from_new : IsIn t (tree_tables c.s) ⊎ IsIn t pieces → IsIn t (flat_map tree_tables trees) ⊎ IsIn t pieces
    from_new (inl one) = inl (in_flat tree_tables trees c.s t c.there one)
    from_new (inr new) = inr new

    by : IsIn t (flat_map tree_tables trees) ⊎ IsIn t (tree_tables (changed_segment spec.sources change c.s)) → IsIn t (flat_map tree_tables trees) ⊎ IsIn t pieces
    by (inl one) = inl one
    by (inr one) = from_new (table_of_new c t one)

-- What is kept of a job in the midst of a commit is kept after a step puts a run beside the job.
pub holds_on_run : (world : World) (trees : Trees) (joined : List ℕ) (job : Job) (spec : JobSpec) (id : ℕ) (pieces : List ℕ) (change : Tree → Tree) (c : RunAt trees spec id pieces change) → Rising trees → BesideRun world trees joined job spec id pieces change c
    → JobHolds world trees joined job → JobHolds world (map (on_segment spec.segment spec.sources change) trees) joined job
holds_on_run world trees joined job spec id pieces change c rise b h = record {
  stand = λ holds undone before. stand_on_run c job rise (b.away holds undone) (h.stand holds undone before);
  oldest = λ holds undone before last. oldest_on_run c job rise (b.away holds undone) before.some (h.oldest holds undone before last);
  unused = λ t unused active undone in_job there. not_there t unused active undone in_job (table_on_run c t rise there);
  again = λ compacted done. stands_on world.past trees job spec.segment spec.sources change c.s rise c.there c.same c.own
      (λ t was there. in_old t was (table_on_run c t rise there)) (λ x there. old_node compacted done x (in_replaced c.newer (c.t ∷ c.ts) c.older (run_for id pieces (c.t ∷ c.ts)) x (subst (IsIn x) c.is there))) (h.again compacted done);
}
  where
    not_there : (t : ℕ) → was_piece world.past t ≡ false → IsTrue (is_active job) → is_done world.store.history joined job ≡ false → IsIn t (job_tables job) → IsIn t (flat_map tree_tables trees) ⊎ IsIn t pieces → ⊥
    not_there t unused active undone in_job (inl one) = h.unused t unused active undone in_job one
    not_there t unused active undone in_job (inr new) = by (b.mine active t new)
      where
        by : IsIn t (tree_tables c.s) ⊎ (IsIn t (job_tables job) → ⊥) → ⊥
        by (inl old) = h.unused t unused active undone in_job (in_flat tree_tables trees c.s t c.there old)
        by (inr other) = other in_job

    in_old : (t : ℕ) → IsTrue (was_piece world.past t) → IsIn t (flat_map tree_tables trees) ⊎ IsIn t pieces → IsIn t (flat_map tree_tables trees)
    in_old t was (inl one) = one
    in_old t was (inr new) = by (b.tables t new)
      where
        by : IsIn t (tree_tables c.s) ⊎ (was_piece world.past t ≡ false) → IsIn t (flat_map tree_tables trees)
        by (inl old) = in_flat tree_tables trees c.s t c.there old
        by (inr none) = absurd (never_both (was_piece world.past t) was none)

    old_node : IsTrue (has_status Compacted job) → is_done world.store.history joined job ≡ true → (x : Node) → (run_for id pieces (c.t ∷ c.ts) ≡ x) ⊎ IsIn x (c.newer ++ ((c.t ∷ c.ts) ++ c.older)) → IsOld c.s.tree job x
    old_node compacted done x (inr one) = inl (subst (IsIn x) (sym c.whole) one)
    old_node compacted done x (inl run) = inr (by (b.full compacted done))
      where
        by : (pieces ≢ []) ⊎ IsAway spec job → (x.pieces ≢ []) ⊎ (IsIn x.name job.spec.sources → ⊥)
        by (inl some) = inl (subst (λ (n : Node). n.pieces ≢ []) run some)
        by (inr away) = inr (λ source. names_apart_at (nodes_of spec) (nodes_of job.spec) (Run id) away (destination_in spec.destination spec.sources id c.to)
            (in_nodes job.spec.destination job.spec.sources (Run id) (subst (λ (n : Node). IsIn n.name job.spec.sources) (sym run) source)))

-- ---- a step that takes nodes out

pub table_on_out : {trees : Trees} {spec : JobSpec} (c : OutAt trees spec) (t : ℕ) → Rising trees → IsIn t (flat_map tree_tables (map (on_segment spec.segment spec.sources (without_nodes spec.sources)) trees)) → IsIn t (flat_map tree_tables trees)
table_on_out {trees} {spec} c t rise there = by (in_trees_on tree_tables t trees spec.segment spec.sources (without_nodes spec.sources) c.s rise c.there c.same there)
  where
    by : IsIn t (flat_map tree_tables trees) ⊎ IsIn t (tree_tables (changed_segment spec.sources (without_nodes spec.sources) c.s)) → IsIn t (flat_map tree_tables trees)
    by (inl one) = one
    by (inr one) =
        let found = in_pieces (without_nodes spec.sources c.s.tree) t one in
        in_flat tree_tables trees c.s t c.there (in_flat (λ (n : Node). n.pieces) c.s.tree found.0 t (in_filtered _ c.s.tree found.0 found.1.0) found.1.1)

pub holds_on_out : (world : World) (trees : Trees) (joined : List ℕ) (job : Job) (spec : JobSpec) (c : OutAt trees spec) → Rising trees → (IsTrue (reserves_nodes job) → is_done world.store.history joined job ≡ false → IsAway spec job)
    → JobHolds world trees joined job → JobHolds world (map (on_segment spec.segment spec.sources (without_nodes spec.sources)) trees) joined job
holds_on_out world trees joined job spec c rise away h = record {
  stand = λ holds undone before. stand_on_out c job rise (away holds undone) (h.stand holds undone before);
  oldest = λ holds undone before last. oldest_on_out c job rise (away holds undone) before.some (h.oldest holds undone before last);
  unused = λ t unused active undone in_job there. h.unused t unused active undone in_job (table_on_out c t rise there);
  again = λ compacted done. stands_on world.past trees job spec.segment spec.sources (without_nodes spec.sources) c.s rise c.there c.same c.named
      (λ t was there. table_on_out c t rise there) (λ x there. inl (in_filtered _ c.s.tree x there)) (h.again compacted done);
}

-- ---- one more joined job

done_with : (history : List Entry) (joined : List ℕ) (id : ℕ) (job : Job) → (id ≡ job.id → ⊥) → is_done history (id ∷ joined) job ≡ is_done history joined job
done_with history joined id job differs = by (id == job.id) refl
  where
    by : (b : Bool) → (id == job.id) ≡ b → (cond b true (contains joined job.id) || was_joined history job.id) ≡ is_done history joined job
    by true e = absurd (differs ((Decides-eqb id job.id).0 e))
    by false e = refl

-- The join of another job says nothing of this one.
pub holds_with : (world : World) (trees : Trees) (joined : List ℕ) (id : ℕ) (job : Job) → (id ≡ job.id → ⊥) → JobHolds world trees joined job → JobHolds world trees (id ∷ joined) job
holds_with world trees joined id job differs h =
    let same = done_with world.store.history joined id job differs in
    record {
      stand = λ holds undone. h.stand holds (sym same ∙ undone);
      oldest = λ holds undone. h.oldest holds (sym same ∙ undone);
      unused = λ t unused active undone. h.unused t unused active (sym same ∙ undone);
      again = λ compacted done. h.again compacted (sym same ∙ done);
    }

-- A job that was joined now.
pub holds_joined : (world : World) (trees : Trees) (joined : List ℕ) (job : Job) → JoinStands world.past trees job → JobHolds world trees (job.id ∷ joined) job
holds_joined world trees joined job stands =
    record {
      stand = λ holds undone. absurd (never_both (is_done world.store.history (job.id ∷ joined) job) done undone);
      oldest = λ holds undone. absurd (never_both (is_done world.store.history (job.id ∷ joined) job) done undone);
      unused = λ t unused active undone. absurd (never_both (is_done world.store.history (job.id ∷ joined) job) done undone);
      again = λ compacted is. stands;
    }
  where
    done : is_done world.store.history (job.id ∷ joined) job ≡ true
    done = ap (λ b. cond b true (contains joined job.id) || was_joined world.store.history job.id) ((Decides-eqb job.id job.id).1 refl)
