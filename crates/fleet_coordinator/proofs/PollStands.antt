-- The sources of each Compacted job that passes its gate stand when a poll comes to the job.
use Rattle.std.proofs.Common.{◌≡◌, ◌≢◌, refl, sym, ◌∙◌, ap, subst, ℕ, ◌<◌, List, [], ◌∷◌, ◌++◌, cond, Bool, true, false, inl, inr, Option, Some, None, arith}
use Rattle.std.specs.Prelude.{IsTrue, IfSome, ◌||◌, ◌⊎◌, ◌==◌, filter, flat_map}
use Rattle.std.specs.List.{AllByRecursion, cons_option}
use Rattle.std.proofs.lemmas.Bool.{eq-eqb, eqb-true, le-leb}
use Rattle.row_model.specs.Fold.{Operator}
use Rattle.row_model.specs.Lists.{Pairs}
use Rattle.fleet_model.specs.Handles.{tree_tables}
use Rattle.fleet_model.specs.History.{Party}
use Rattle.fleet_model.specs.Invariants.JobsFit.{SourcesStand, was_joined}
use Rattle.fleet_model.specs.Jobs.{Compacted, Job, Jobs, JobSpec, Running, Scheduled, changed_jobs, contains, has_status, job_with}
use Rattle.fleet_model.specs.Nodes.{NodeName, L0, Run, Node, Segment, Tree, Trees, names, names_contain, node_named, tree_at}
use Rattle.fleet_model.specs.Sources.{is_lowest_or_above, is_whole_stretch, older_nodes, or_later, reaches_oldest, run_ids}
use Rattle.fleet_model.specs.Store.{stored_jobs}
use Rattle.fleet_model.specs.Trees.{source_nodes, source_pieces}
use Rattle.fleet_model.specs.Work.Gates.{commit_gate, reserves_nodes}
use Rattle.fleet_model.specs.Work.PollStates.{PollInput, PollState, accepts}
use Rattle.fleet_model.specs.Work.Polls.{commit_by}
use Rattle.fleet_model.specs.Work.Records.{to_completed, to_failed}
use Rattle.step_model.specs.Kept.JoinsKept.{JoinStands, Gone, NotEmpty, Itself}
use Rattle.step_model.specs.Past.{World}
use Rattle.step_laws.proofs.Bodies.{Body, JobKept, whole_of}
use Rattle.step_laws.proofs.Deletions.{in_flat}
use Rattle.step_laws.proofs.Elements.{IsIn, all_at, all_from, all_to, contains_in, in_contains}
use Rattle.step_laws.proofs.PollJobs.{tree_has}
use Rattle.step_laws.proofs.TableReplays.{sources_all}
use Rattle.commit_laws.specs.After.{joined_by}
use Rattle.commit_laws.proofs.JobSteps.{JobHolds, is_done}
use Rattle.commit_laws.proofs.Midway.{found_job}
use Rattle.commit_laws.proofs.SecondJoins.{Passed, passed}
use Rattle.commit_laws.proofs.Segments.{segment_named}
use Rattle.commit_laws.proofs.Stretches.{Named, never_both, names_in, node_of, named_in}
use Rattle.commit_laws.proofs.TreeReads.{with_horizon}
use Rattle.course_laws.proofs.Calls.{filtered, pairs_filter}
use Rattle.coordinator_laws.proofs.Gates.{commits_too}
use Rattle.coordinator_laws.proofs.Jobs.{IsCompacted, compacted_ends, is_own, reached_done, reached_lost}
use Rattle.coordinator_laws.proofs.Opens.{still_in}
use Rattle.coordinator_laws.proofs.Reached.{Case, MidwayAt, compacted_stored, midway_at, source_of, trees_done, trees_lost}
use Rattle.coordinator_laws.proofs.Stages.{Reached, jobs_rise}
use Rattle.rival_laws.proofs.FreeTables.{refused}
use Rattle.fleet_poll.specs.Loops.{CommitsStand}

-- ---- a job whose join took effect

-- If sources have no tables in a tree, each of them that is a node of the tree has none.
no_pieces : (sources : List NodeName) (tree : Tree) (x : NodeName) (node : Node) → source_pieces sources tree ≡ [] → IsIn x sources → node_named x tree ≡ Some node → node.pieces ≡ []
no_pieces [] tree x node e there found = absurd there
no_pieces (y ∷ sources) tree x node e there found = by (node_named y tree) refl (no_pieces sources tree x node) e there
  where
    first : (ps qs : List ℕ) → ps ++ qs ≡ [] → (ps ≡ []) × (qs ≡ [])
    first [] qs e = (refl, e)
    first (p ∷ ps) qs e = absurd (cc e)

    by : (o : Option Node) → node_named y tree ≡ o → (source_pieces sources tree ≡ [] → IsIn x sources → node_named x tree ≡ Some node → node.pieces ≡ []) → flat_map (λ (n : Node). n.pieces) (cons_option o (source_nodes sources tree)) ≡ [] → IsIn x (y ∷ sources) → node.pieces ≡ []
    by None f rest e (inl same) = absurd (clash (sym f ∙ ap (λ n. node_named n tree) same ∙ found))
      where
        clash : None ≡ Some node → ⊥
        clash e = absurd (cc e)
    by None f rest e (inr one) = rest e one found
    by (Some other) f rest e (inl same) =
        let is : Some node ≡ Some other = sym found ∙ ap (λ n. node_named n tree) (sym same) ∙ f in
        let one : node ≡ other = cc is in
        ap (λ (n : Node). n.pieces) one ∙ (first other.pieces (source_pieces sources tree) e).0
    by (Some other) f rest e (inr one) = rest (first other.pieces (source_pieces sources tree) e).1 one found

-- A run that is in a tree is a stretch of it.
stretch_of_run : (run : ℕ) (nodes : List NodeName) → names_contain nodes (Run run) ≡ true → reaches_oldest (Run run ∷ []) (older_nodes (Run run ∷ []) nodes) ≡ true
stretch_of_run run nodes there = some (older_nodes (Run run ∷ []) nodes) (found nodes there)
  where
    some : (o : Option (List NodeName)) → (o ≡ None → ⊥) → reaches_oldest (Run run ∷ []) o ≡ true
    some None never = absurd (never refl)
    some (Some rest) never = refl

    found : (nodes : List NodeName) → names_contain nodes (Run run) ≡ true → older_nodes (Run run ∷ []) nodes ≡ None → ⊥
    found [] there e = absurd (cc there)
    found (y ∷ nodes) there e = by y there e (found nodes)
      where
        either : (b c : Bool) → b ≡ c → cond b true (names_contain nodes (Run run)) ≡ true → or_later (cond c (Some nodes) None) (older_nodes (Run run ∷ []) nodes) ≡ None
            → (names_contain nodes (Run run) ≡ true → older_nodes (Run run ∷ []) nodes ≡ None → ⊥) → ⊥
        either true true same there e rest = absurd (cc e)
        either true false same there e rest = absurd (cc same)
        either false true same there e rest = absurd (cc same)
        either false false same there e rest = rest there e

        by : (y : NodeName) → names_contain (y ∷ nodes) (Run run) ≡ true → older_nodes (Run run ∷ []) (y ∷ nodes) ≡ None → (names_contain nodes (Run run) ≡ true → older_nodes (Run run ∷ []) nodes ≡ None → ⊥) → ⊥
        by (L0 n) there e rest = rest there e
        by (Run n) there e rest = either (n == run) (run == n) (turned (n == run) (run == n) refl refl) there e rest
          where
            turned : (b c : Bool) → (n == run) ≡ b → (run == n) ≡ c → b ≡ c
            turned true true e f = refl
            turned false false e f = refl
            turned true false e f = absurd (cc (sym f ∙ eq-eqb run n (sym (eqb-true n run e))))
            turned false true e f = absurd (cc (sym e ∙ eq-eqb n run (sym (eqb-true run n f))))

module _ (world : World) (trees : Trees) (job : Job) (all_named : AllByRecursion (λ (s : Segment). Named s.tree) trees) (p : Passed trees job) where
  abbrev tree : Tree
  tree = tree_at job.spec.segment trees

  -- A job whose join took effect passes its gate only if it makes an empty run of the same run.
  joined_stands : JoinStands world.past trees job → SourcesStand trees job
  joined_stands (Gone t there gone) =
      absurd (never_both (contains (flat_map tree_tables trees) t) (in_contains (flat_map tree_tables trees) t
      (all_at (λ u. IsIn u (flat_map tree_tables trees)) (source_pieces job.spec.sources tree) t
      (sources_all (λ u. IsIn u (flat_map tree_tables trees)) job.spec.sources tree
      (tree_has (λ tree. AllByRecursion (λ (node : Node). AllByRecursion (λ u. IsIn u (flat_map tree_tables trees)) node.pieces) tree) job.spec.segment trees tt
      (all_from _ trees (λ s one. all_from _ s.tree (λ node other. all_from _ node.pieces (λ u held. in_flat tree_tables trees s u one (in_flat (λ (x : Node). x.pieces) s.tree node u other held)))))))
      (subst (IsIn t) (sym p.tables) (contains_in job.source_tables t there)))) gone.1)
  joined_stands (NotEmpty run there other none some) = by (node_named (Run run) tree) refl some
    where
      source : IsIn (Run run) job.spec.sources
      source = names_in job.spec.sources (Run run) there

      in_tree : IsIn (Run run) (names tree)
      in_tree = names_in (names tree) (Run run) (all_at (λ x. names_contain (names tree) x ≡ true) job.spec.sources (Run run) p.there source)

      named : Named tree
      named = tree_has Named job.spec.segment trees tt all_named

      by : (o : Option Node) → node_named (Run run) tree ≡ o → IfSome o (λ node. node.pieces ≢ []) → SourcesStand trees job
      by None e k =
          let found = node_of tree (Run run) in_tree in
          absurd (clash found.node (sym e ∙ ap (λ n. node_named n tree) (sym found.same) ∙ named_in tree found.node named found.there))
        where
          clash : (x : Node) → None ≡ Some x → ⊥
          clash x e = absurd (cc e)
      by (Some node) e k = absurd (k (no_pieces job.spec.sources tree (Run run) node (p.tables ∙ none) source e))
  joined_stands (Itself run sources to none empty) = record {
    some = rw sources refl;
    stretch = subst (λ ns. IsTrue (is_whole_stretch tree ns)) (sym sources) (stretch_of_run run (names tree) (subst (AllByRecursion (λ x. names_contain (names tree) x ≡ true)) sources p.there).0);
    source_tables = p.tables;
    destination = rw (sources, to) (lowest run, λ no. absurd (cc no));
  }
    where
      lowest : (run : ℕ) → IsTrue (is_lowest_or_above run (run ∷ []) (run_ids (names tree)))
      lowest run = rw (eq-eqb run run refl, le-leb run run (omega arith)) refl

-- Each of these jobs is among those of the poll, and Compacted.
abbrev AreLeft : PollState → Jobs → Type 0
AreLeft p jobs = AllByRecursion (λ job. IsIn job p.jobs × IsCompacted job) jobs

left_after : (p q : PollState) (change : Job → Job) (job : Job) (jobs : Jobs) → q.jobs ≡ changed_jobs change (job.id ∷ []) p.jobs → AllByRecursion (λ (other : Job). job.id < other.id) jobs → AreLeft p jobs → AreLeft q jobs
left_after p q change job jobs is low h = all_to _ _ jobs (λ other there left.
    (subst (IsIn other) (sym is) (still_in change job.id p.jobs other left.0 (λ same. let above = all_at (λ (o : Job). job.id < o.id) jobs other low there in absurd (omega (arith, above, same)))), left.1)) h

module _ {merge : Operator} {party : Party} {h : World} {input : PollInput} {got : Jobs} {drawn : List (ℕ × JobSpec)} {start : Trees} {own : ℕ → JobSpec} {horizon : ℕ} (c : Case merge party h input got drawn start) where
  -- The sources of a Compacted job that passes the gate stand in the trees that the poll has reached.
  passed_stands : (p : PollState) → Reached party h input got drawn own start horizon p → (job : Job) → IsIn job p.jobs → IsCompacted job → commit_gate p.trees (accepts input p) job ≡ None → SourcesStand p.trees job
  passed_stands p s job there compacted gate = by (was_joined h.store.history job.id) refl
    where
      stored : job_with job.id (stored_jobs h.store) ≡ Some job
      stored = compacted_stored compacted (source_of c s.trees s.jobs job there (compacted_ends job compacted))

      m : MidwayAt merge h p
      m = midway_at c s.trees

      b : Body merge h c.kept.stored.replay.specs
      b = (whole_of merge h c.kept).body

      found : IsIn job (stored_jobs h.store)
      found = (found_job job.id (stored_jobs h.store) job stored).0

      holds : JobHolds h p.trees (joined_by p.steps []) job
      holds = all_at (JobHolds h p.trees (joined_by p.steps [])) (stored_jobs h.store) job m.midway.jobs found

      reserves : IsTrue (reserves_nodes job)
      reserves = either (has_status Scheduled job) (has_status Running job) (has_status Compacted job) compacted
        where
          either : (x y z : Bool) → IsTrue z → IsTrue (x || y || z)
          either true y z h = refl
          either false true z h = refl
          either false false z h = h

      undone : was_joined h.store.history job.id ≡ false → is_done h.store.history (joined_by p.steps []) job ≡ false
      undone e = rw (s.trees.joined job.id ∙ or_first (contains p.done job.id) (contains p.moved job.id || contains p.drained job.id) (is_own got p s.jobs job there (compacted_ends job compacted)).none.completed, e) refl
        where
          or_first : (x y : Bool) → (x || y) ≡ false → x ≡ false
          or_first true y e = absurd (cc e)
          or_first false y e = refl

      stands : was_joined h.store.history job.id ≡ false → IsTrue (was_joined h.store.history job.id) ⊎ SourcesStand h.store.manifest.trees job → SourcesStand p.trees job
      stands e (inl was) = absurd (refused (was_joined h.store.history job.id) e was)
      stands e (inr stand) = holds.stand reserves (undone e) stand

      done : was_joined h.store.history job.id ≡ true → is_done h.store.history (joined_by p.steps []) job ≡ true
      done e = either (contains (joined_by p.steps []) job.id) e
        where
          either : (x : Bool) → was_joined h.store.history job.id ≡ true → (x || was_joined h.store.history job.id) ≡ true
          either true e = refl
          either false e = e

      by : (x : Bool) → was_joined h.store.history job.id ≡ x → SourcesStand p.trees job
      by false e = stands e ((all_at (JobKept merge h c.kept.stored.replay.specs) (stored_jobs h.store) job b.jobs found).fits.sources.1 compacted)
      by true e =
          joined_stands h p.trees job (all_to _ _ p.trees (λ s one f. segment_named merge (with_horizon h.store m.horizon) h.store.history s b.sound.tables f) m.midway.kept.each)
          (passed p.trees job (commits_too p.trees (accepts input p) job gate)) (holds.again compacted (done e))

  -- What the poll has reached stays so after it commits a Compacted job or fails it.
  commit_one : (p : PollState) → Reached party h input got drawn own start horizon p → (job : Job) → IsIn job p.jobs → IsCompacted job → p.opened ≡ [] → (rule : Option ℕ) → commit_gate p.trees (accepts input p) job ≡ rule
      → Reached party h input got drawn own start horizon (commit_by input job rule p)
  commit_one p s job there compacted none None gate = record {
    trees = trees_done c s.trees s.jobs job there compacted none gate;
    jobs = reached_done got p (commit_by input job None p) job s.jobs there compacted refl;
  }
  commit_one p s job there compacted none (Some rule) gate = record {
    trees = trees_lost c s.trees s.jobs job rule there compacted none gate;
    jobs = reached_lost got p job rule s.jobs there compacted;
  }

  -- The sources of each of these jobs stand when its turn comes, one job after the other.
  stand_one_by_one : (jobs : Jobs) (p : PollState) → Reached party h input got drawn own start horizon p → p.opened ≡ [] → Pairs (λ a b. a.id < b.id) jobs → AreLeft p jobs → CommitsStand input jobs p
  stand_one_by_one [] p s none rise left = tt
  stand_one_by_one (job ∷ jobs) p s none rise left = (
    passed_stands p s job left.0.0 left.0.1,
    by (commit_gate p.trees (accepts input p) job) refl (λ q reached none left. stand_one_by_one jobs q reached none rise.1 left),
  )
    where
      by : (rule : Option ℕ) → commit_gate p.trees (accepts input p) job ≡ rule → ((q : PollState) → Reached party h input got drawn own start horizon q → q.opened ≡ [] → AreLeft q jobs → CommitsStand input jobs q)
          → CommitsStand input jobs (commit_by input job rule p)
      by None gate more = more (commit_by input job None p) (commit_one p s job left.0.0 left.0.1 none None gate) none (left_after p (commit_by input job None p) to_completed job jobs refl rise.0 left.1)
      by (Some rule) gate more = more (commit_by input job (Some rule) p) (commit_one p s job left.0.0 left.0.1 none (Some rule) gate) none (left_after p (commit_by input job (Some rule) p) to_failed job jobs refl rise.0 left.1)

  -- The Compacted jobs may be committed one after the other.
  pub commits_stand : (p : PollState) → Reached party h input got drawn own start horizon p → p.opened ≡ [] → CommitsStand input (filter (has_status Compacted) p.jobs) p
  commits_stand p s none =
      stand_one_by_one (filter (has_status Compacted) p.jobs) p s none (pairs_filter (λ (a b : Job). a.id < b.id) (has_status Compacted) p.jobs (jobs_rise got p s.jobs)) (filtered (has_status Compacted) p.jobs)
