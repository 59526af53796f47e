-- Steps that fit and leave the names and the tables of all nodes leave the trees as they are: no flush comes to another node, and no watermark moves.
use Rattle.std.proofs.Common.{◌≡◌, refl, sym, ap, subst, ℕ, ◌<◌, List, [], ◌∷◌, Bool, true, false, inl, inr, ◌⊎◌, Option, Some, None, arith}
use Rattle.std.specs.Prelude.{IsTrue, bytes_eq}
use Rattle.std.specs.List.{AllByRecursion, concat}
use Rattle.std.specs.Cmp.Lexicographic.{pointwise}
use Rattle.std.proofs.lemmas.Slice.Eq.{bytes_eq-Decides}
use Rattle.row_model.specs.Fold.{Operator, IsLawful}
use Rattle.fleet_model.specs.Nodes.{NodeName, name_eq, names, Node, Tree, Segment, Trees, tree_at}
use Rattle.fleet_model.specs.Jobs.{JobSpec, job_with, contains}
use Rattle.fleet_model.specs.History.{Party, Step, Join, Move, Drain}
use Rattle.fleet_model.specs.Store.{Manifest, stored_jobs}
use Rattle.fleet_model.specs.Trees.{stepped_in, stepped_all, horizon_after_all, job_of}
use Rattle.fleet_model.specs.Invariants.JobsFit.{SourcesStand, DestinationFits, was_joined}
use Rattle.fleet_model.specs.Past.Replay.{outputs_in}
use Rattle.step_model.specs.Past.{World}
use Rattle.step_model.specs.LawfulManifests.{CommitFits, JoinFits, StepsFit, StepFits, joined_after, IsKnownTo, cut_of}
use Rattle.step_model.specs.Kept.Keeps.{Keeps}
use Rattle.step_model.specs.Steps.PollSteps.{node_eq, same_tree}
use Rattle.step_laws.proofs.Bodies.{Body, JobKept, whole_of}
use Rattle.step_laws.proofs.Elements.{IsIn, all_at}
use Rattle.step_laws.proofs.KnownJobs.{known_spec, outputs_are}
use Rattle.commit_laws.proofs.Stretches.{name_same}
use Rattle.commit_laws.proofs.JobSteps.{JobHolds}
use Rattle.commit_laws.proofs.Midway.{Midway, found_job}
use Rattle.commit_laws.proofs.Joins.{new_join, run_of_join, compacted_holds, not_was, undone_of}
use Rattle.commit_laws.proofs.AtOnce.{move_found, run_of_move}
use Rattle.commit_laws.proofs.CommitSteps.{steps_keep}
use Rattle.commit_laws.proofs.Commits.{start}
use Rattle.course_laws.proofs.Calls.{both}
use Rattle.coordinator_laws.proofs.SameFlushes.{weigh, tags, Eased, AllEased, all_themselves, all_eased_then, out_eases, run_step_eases}

-- ---- the steps of a poll

-- A join eases all segments: it puts its job's run, or it is a second join, which leaves the trees.
join_eases : (merge : Operator) (world : World) (specs : ℕ → JobSpec) (trees : Trees) (horizon : ℕ) (joined : List ℕ) (id : ℕ) → Body merge world specs → (fits : JoinFits world trees joined id) → Midway merge world trees horizon joined
    → AllEased trees (stepped_in world.store.tables (Join id) fits.job.spec (concat fits.job.outputs) trees)
join_eases merge world specs trees horizon joined id b fits m = by (was_joined world.store.history fits.job.id) refl
  where
    found : IsIn fits.job (stored_jobs world.store) × (id ≡ fits.job.id)
    found = found_job id (stored_jobs world.store) fits.job fits.stored

    once : contains joined fits.job.id ≡ false
    once = subst (λ n. contains joined n ≡ false) found.1 fits.once

    kept : JobKept merge world specs fits.job
    kept = all_at (JobKept merge world specs) (stored_jobs world.store) fits.job b.jobs found.0

    at : was_joined world.store.history fits.job.id ≡ false → SourcesStand world.store.manifest.trees fits.job → SourcesStand trees fits.job → (d : Option ℕ) → fits.job.spec.destination ≡ d
        → DestinationFits trees (tree_at fits.job.spec.segment trees) fits.job.spec.sources d → AllEased trees (stepped_in world.store.tables (Join id) fits.job.spec (concat fits.job.outputs) trees)
    at new stood stands None to h = absurd h
    at new stood stands (Some run) to h = run_step_eases (run_of_join (new_join fits.job run b m found.0 fits.finished once new stood stands to h)) m.kept.rise

    by : (was : Bool) → was_joined world.store.history fits.job.id ≡ was → AllEased trees (stepped_in world.store.tables (Join id) fits.job.spec (concat fits.job.outputs) trees)
    by true e = subst (AllEased trees) (sym (fits.again (subst (λ n. IsTrue (was_joined world.store.history n)) (sym found.1) e))) (all_themselves trees)
    by false e =
        let stood = not_was (was_joined world.store.history fits.job.id) e (kept.fits.sources.1 fits.finished) in
        let stands = (all_at (JobHolds world trees joined) (stored_jobs world.store) fits.job m.jobs found.0).stand (compacted_holds fits.job.status fits.finished) (undone_of world joined fits.job once e) stood in
        at e stood stands fits.job.spec.destination refl stands.destination

-- A step that fits eases all segments.
one_eases : (merge : Operator) (world : World) (party : Party) (specs own : ℕ → JobSpec) (trees : Trees) (horizon : ℕ) (joined : List ℕ) (step : Step) → Body merge world specs → IsKnownTo party world own (job_of step) → StepFits world trees joined (own (job_of step)) step
    → Midway merge world trees horizon joined → AllEased trees (stepped_in world.store.tables step (own (job_of step)) (outputs_in world.store.records (job_of step)) trees)
one_eases merge world party specs own trees horizon joined (Drain id) b known fits m = out_eases (own id).segment (own id).sources trees
one_eases merge world party specs own trees horizon joined (Move id) b known fits m =
    run_step_eases (run_of_move (move_found merge world specs trees horizon joined (own id) id b fits m).1 (outputs_in world.store.records id)) m.kept.rise
one_eases merge world party specs own trees horizon joined (Join id) b known fits m =
    let spec = known_spec party world own id fits.job fits.stored known in
    let outputs = outputs_are world.store.records id fits.job fits.stored in
    subst (AllEased trees) (λ i. stepped_in world.store.tables (Join id) (sym spec i) (sym outputs i) trees) (join_eases merge world specs trees horizon joined id b fits m)

-- Steps that fit ease all segments.
steps_ease : (merge : Operator) (world : World) (party : Party) (specs own : ℕ → JobSpec) (trees : Trees) (horizon : ℕ) (joined : List ℕ) (steps : List Step) → IsLawful merge → Body merge world specs → AllByRecursion (λ step. IsKnownTo party world own (job_of step)) steps
    → StepsFit world own trees joined steps → Midway merge world trees horizon joined → AllEased trees (stepped_all world.store.tables (λ id. (own id, outputs_in world.store.records id)) steps trees)
steps_ease merge world party specs own trees horizon joined [] lawful b known fits m = all_themselves trees
steps_ease merge world party specs own trees horizon joined (step ∷ steps) lawful b known fits m =
    let next = stepped_in world.store.tables step (own (job_of step)) (outputs_in world.store.records (job_of step)) trees in
    let later = horizon_after_all world.store.manifest.floor (λ id. cut_of (job_with id (stored_jobs world.store))) (step ∷ []) horizon in
    all_eased_then trees next _ (one_eases merge world party specs own trees horizon joined step b known.0 fits.0 m)
    (steps_ease merge world party specs own next later (joined_after step joined) steps lawful b known.1 fits.1
    (steps_keep merge world party specs own trees horizon joined (step ∷ []) lawful b (known.0, tt) (fits.0, tt) m))

-- ---- the same nodes

node_same : (a b : Node) → node_eq a b ≡ true → (a.name ≡ b.name) × (a.pieces ≡ b.pieces)
node_same a b e =
    let two = both (name_eq a.name b.name) (bytes_eq a.pieces b.pieces) e in
    (name_same a.name b.name two.0, (bytes_eq-Decides a.pieces b.pieces).0 two.1)

same_names : (xs ys : Tree) → pointwise node_eq xs ys ≡ true → names xs ≡ names ys
same_names [] [] e = refl
same_names [] (y ∷ ys) e = absurd (cc e)
same_names (x ∷ xs) [] e = absurd (cc e)
same_names (x ∷ xs) (y ∷ ys) e =
    let two = both (node_eq x y) (pointwise node_eq xs ys) e in
    let first = (node_same x y two.0).0 in
    let rest = same_names xs ys two.1 in
    λ i. first i ∷ rest i

-- Nodes with the same names and tables, and with the same flushes and watermarks, are the same.
nodes_same : (xs ys : Tree) → pointwise node_eq xs ys ≡ true → tags ys ≡ tags xs → ys ≡ xs
nodes_same [] [] e t = refl
nodes_same [] (y ∷ ys) e t = absurd (cc e)
nodes_same (x ∷ xs) [] e t = absurd (cc e)
nodes_same (x ∷ xs) (y ∷ ys) e t =
    let two = both (node_eq x y) (pointwise node_eq xs ys) e in
    let same = node_same x y two.0 in
    let others : tags ys ≡ tags xs = cc t in
    let first : (y.name, y.flushes) ≡ (x.name, x.flushes) = cc t in
    let flushes : y.flushes ≡ x.flushes = ap (λ (p : NodeName × List ℕ). p.1) first in
    let rest : ys ≡ xs = nodes_same xs ys two.1 others in
    λ i. record { name = sym same.0 i; flushes = flushes i; pieces = sym same.1 i } ∷ rest i

same_segment : (a b : Segment) → Eased a b → same_tree a b ≡ true → b ≡ a
same_segment a b d e = by d.nodes
  where
    by : (weigh (names b.tree) < weigh (names a.tree)) ⊎ ((tags b.tree ≡ tags a.tree) × (b.watermark ≡ a.watermark)) → b ≡ a
    by (inl less) = let equal = ap weigh (same_names a.tree b.tree e) in absurd (omega (arith, equal, less))
    by (inr same) = let tree = nodes_same a.tree b.tree e same.0 in λ i. record { prefix = d.prefix i; tree = tree i; last_seq = d.last_seq i; watermark = same.1 i }

same_segments : (xs ys : Trees) → AllEased xs ys → pointwise same_tree xs ys ≡ true → ys ≡ xs
same_segments [] [] h e = refl
same_segments [] (b ∷ ys) h e = absurd h
same_segments (a ∷ xs) [] h e = absurd h
same_segments (a ∷ xs) (b ∷ ys) h e =
    let two = both (same_tree a b) (pointwise same_tree xs ys) e in
    let first = same_segment a b h.0 two.0 in
    let rest = same_segments xs ys h.1 two.1 in
    λ i. first i ∷ rest i

-- Steps that fit and leave the names and the tables of all nodes leave the trees.
pub unchanged_trees : (merge : Operator) (world : World) (party : Party) (specs own : ℕ → JobSpec) (trees new : Trees) (horizon : ℕ) (steps : List Step) → IsLawful merge → Body merge world specs → Midway merge world trees horizon []
    → AllByRecursion (λ step. IsKnownTo party world own (job_of step)) steps → StepsFit world own trees [] steps → new ≡ stepped_all world.store.tables (λ id. (own id, outputs_in world.store.records id)) steps trees → pointwise same_tree trees new ≡ true → new ≡ trees
unchanged_trees merge world party specs own trees new horizon steps lawful b m known fits is same =
    same_segments trees new (subst (AllEased trees) (sym is) (steps_ease merge world party specs own trees horizon [] steps lawful b known fits m)) same

-- So a commit that fits and leaves the names and the tables of all nodes leaves the trees.
pub unchanged_commit : (merge : Operator) (world : World) (party : Party) (steps : List Step) (value : Manifest) → IsLawful merge → Keeps merge world → CommitFits party world steps value → pointwise same_tree world.store.manifest.trees value.trees ≡ true
    → value.trees ≡ world.store.manifest.trees
unchanged_commit merge world party steps value lawful k fits same =
    let b = (whole_of merge world k).body in
    unchanged_trees merge world party k.stored.replay.specs fits.specs world.store.manifest.trees value.trees world.store.manifest.horizon steps lawful b (start merge world k.stored.replay.specs b) fits.known fits.each (ap (λ (x : Manifest). x.trees) fits.makes) same
