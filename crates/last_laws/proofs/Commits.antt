-- A poll commits each finished job whose sources are in the trees with its tables.
use Rattle.std.proofs.Common.{◌≡◌, refl, sym, ◌∙◌, ap, subst, ℕ, ◌+◌, List, [], ◌∷◌, Bool, true, false, cond, ◌⊎◌, inl, inr, Option, None, Some, length, length-append, arith}
use Rattle.std.specs.Prelude.{not, ◌==◌, ◌&&◌, ◌||◌, IsTrue, filter, flat_map, bytes_eq}
use Rattle.std.specs.List.{list_all, filter_map, cons_option, AllByRecursion, concat}
use Rattle.std.proofs.lemmas.Slice.Eq.{bytes_eq-Decides}
use Rattle.row_model.specs.Lists.{Pairs}
use Rattle.fleet_model.specs.Nodes.{NodeName, Run, name_eq, names_contain, Node, Tables, Tree, Trees, Segment, names, node_named, segment_at, tree_at, tree_or_empty}
use Rattle.fleet_model.specs.Jobs.{JobSpec, nodes_of, Job, Jobs, Status, Submitted, Scheduled, Running, Compacted, Completed, Failed, is_finished, status_eq, has_status, is_active, contains, changed_jobs, ids, is_stale, is_overdue}
use Rattle.fleet_model.specs.History.{Step, Join}
use Rattle.fleet_model.specs.Work.Records.{to_completed, to_waiting}
use Rattle.fleet_model.specs.Work.Gates.{first_failing, commit_gate}
use Rattle.fleet_model.specs.Invariants.JobsFit.{HoldApart, NodesHeldOnce, SourcesStand}
use Rattle.fleet_model.specs.Trees.{source_nodes, source_pieces, without_nodes, watermark_after, is_run_below, put_run, with_run_for, to_run, stepped_tree, stepped_in}
use Rattle.fleet_model.specs.Work.PollStates.{PollInput, PollState, poll_begun, accepts}
use Rattle.fleet_model.specs.Work.Polls.{with_freed, free_stale, commit_by, commit_job, each, commit_finished}
use Rattle.step_laws.proofs.Elements.{IsIn, is_itself, all_at, all_from, all_to, all_true_from}
use Rattle.step_laws.proofs.PollJobs.{stretch_in}
use Rattle.course_laws.proofs.Calls.{pairs_filter, filtered}
use Rattle.commit_laws.proofs.Stretches.{name_same, name_turned, names_no, other_or}
use Rattle.commit_laws.proofs.StepTrees.{names_apart_at}
use Rattle.commit_laws.proofs.JobSteps.{IsAway, in_nodes, destination_in}
use Rattle.last_laws.specs.Weights.{Lightens}

-- ---- the sources of a job beside the join of another one

-- The sources are in the tree, with these tables.
abbrev HasSources : List NodeName → List ℕ → Tree → Type 0
HasSources sources tables tree = IsTrue (list_all (names_contain (names tree)) sources) × (source_pieces sources tree ≡ tables)

-- The job's sources are in its tree, with the tables that they had when it was opened.
abbrev pub Passes : Trees → Job → Type 0
Passes trees job = HasSources job.spec.sources job.source_tables (tree_at job.spec.segment trees)

-- A name that a run for these sources does not touch.
record Beside (out : List NodeName) (id : ℕ) (x : NodeName) : Type 0 where
  not_out : names_contain out x ≡ false
  not_run : name_eq x (Run id) ≡ false

not_there : (out : List NodeName) (x y : NodeName) → names_contain out x ≡ false → names_contain out y ≡ true → name_eq x y ≡ false
not_there out x y other accepting = other_or (name_eq x y) (λ same. let here = ap (names_contain out) (name_same x y same) in cc (here, other, accepting))

named_without : (out : List NodeName) (x : NodeName) (tree : Tree) → names_contain out x ≡ false → names_contain (names (without_nodes out tree)) x ≡ names_contain (names tree) x
named_without out x [] other = refl
named_without out x (node ∷ tree) other = by (names_contain out node.name) refl (named_without out x tree other)
  where
    by : (b : Bool) → names_contain out node.name ≡ b → names_contain (names (without_nodes out tree)) x ≡ names_contain (names tree) x
        → names_contain (names (cond (not b) (node ∷ without_nodes out tree) (without_nodes out tree))) x ≡ cond (name_eq node.name x) true (names_contain (names tree) x)
    by true e rest = rest ∙ sym (ap (λ b. cond b true (names_contain (names tree) x)) (name_turned x node.name (not_there out x node.name other e)))
    by false e rest = ap (cond (name_eq node.name x) true) rest

named_put : (id : ℕ) (run : Node) (x : NodeName) (tree : Tree) → name_eq run.name x ≡ false → names_contain (names (put_run id run tree)) x ≡ names_contain (names tree) x
named_put id run x [] other = ap (λ b. cond b true false) other
named_put id run x (node ∷ tree) other = by (is_run_below id node.name) (named_put id run x tree other)
  where
    by : (b : Bool) → names_contain (names (put_run id run tree)) x ≡ names_contain (names tree) x
        → names_contain (names (cond b (run ∷ node ∷ tree) (node ∷ put_run id run tree))) x ≡ cond (name_eq node.name x) true (names_contain (names tree) x)
    by true rest = ap (λ b. cond b true (cond (name_eq node.name x) true (names_contain (names tree) x))) other
    by false rest = ap (cond (name_eq node.name x) true) rest

node_without : (out : List NodeName) (x : NodeName) (tree : Tree) → names_contain out x ≡ false → node_named x (without_nodes out tree) ≡ node_named x tree
node_without out x [] other = refl
node_without out x (node ∷ tree) other = by (names_contain out node.name) refl (node_without out x tree other)
  where
    by : (b : Bool) → names_contain out node.name ≡ b → node_named x (without_nodes out tree) ≡ node_named x tree
        → node_named x (cond (not b) (node ∷ without_nodes out tree) (without_nodes out tree)) ≡ cond (name_eq x node.name) (Some node) (node_named x tree)
    by true e rest = rest ∙ sym (ap (λ b. cond b (Some node) (node_named x tree)) (not_there out x node.name other e))
    by false e rest = ap (cond (name_eq x node.name) (Some node)) rest

node_put : (id : ℕ) (run : Node) (x : NodeName) (tree : Tree) → name_eq x run.name ≡ false → node_named x (put_run id run tree) ≡ node_named x tree
node_put id run x [] other = ap (λ b. cond b (Some run) None) other
node_put id run x (node ∷ tree) other = by (is_run_below id node.name) (node_put id run x tree other)
  where
    by : (b : Bool) → node_named x (put_run id run tree) ≡ node_named x tree
        → node_named x (cond b (run ∷ node ∷ tree) (node ∷ put_run id run tree)) ≡ cond (name_eq x node.name) (Some node) (node_named x tree)
    by true rest = ap (λ b. cond b (Some run) (cond (name_eq x node.name) (Some node) (node_named x tree))) other
    by false rest = ap (cond (name_eq x node.name) (Some node)) rest

all_same : (p q : NodeName → Bool) (xs : List NodeName) → AllByRecursion (λ x. p x ≡ q x) xs → list_all p xs ≡ list_all q xs
all_same p q [] h = refl
all_same p q (x ∷ xs) h = ap (λ b. b && list_all p xs) h.0 ∙ ap (λ b. q x && b) (all_same p q xs h.1)

nodes_same : (f g : NodeName → Option Node) (xs : List NodeName) → AllByRecursion (λ x. f x ≡ g x) xs → filter_map f xs ≡ filter_map g xs
nodes_same f g [] h = refl
nodes_same f g (x ∷ xs) h = ap (λ o. cons_option o (filter_map f xs)) h.0 ∙ ap (cons_option (g x)) (nodes_same f g xs h.1)

has_beside : (out : List NodeName) (id : ℕ) (pieces : List ℕ) (sources : List NodeName) (tables : List ℕ) (tree : Tree) → AllByRecursion (Beside out id) sources → HasSources sources tables tree
    → HasSources sources tables (with_run_for out id pieces tree)
has_beside out id pieces sources tables tree beside h =
    let run : Node = record { name = Run id; flushes = flat_map (λ node. node.flushes) (source_nodes out tree); pieces = pieces } in (
      all_same (names_contain (names (with_run_for out id pieces tree))) (names_contain (names tree)) sources
          (all_to _ _ sources (λ x there b. named_put id run x (without_nodes out tree) (name_turned x (Run id) b.not_run) ∙ named_without out x tree b.not_out) beside) ∙ h.0,
      ap (flat_map (λ (node : Node). node.pieces)) (nodes_same (λ x. node_named x (with_run_for out id pieces tree)) (λ x. node_named x tree) sources
          (all_to _ _ sources (λ x there b. node_put id run x (without_nodes out tree) b.not_run ∙ node_without out x tree b.not_out) beside)) ∙ h.1,
    )

beside_job : (spec : JobSpec) (id : ℕ) (job : Job) → spec.destination ≡ Some id → IsAway spec job → AllByRecursion (Beside spec.sources id) job.spec.sources
beside_job spec id job to away = all_from _ job.spec.sources (λ x one. record {
  not_out = names_no spec.sources x (λ there. names_apart_at (nodes_of spec) (nodes_of job.spec) x away (in_nodes spec.destination spec.sources x there) (in_nodes job.spec.destination job.spec.sources x one));
  not_run = other_or (name_eq x (Run id)) (λ same. names_apart_at (nodes_of spec) (nodes_of job.spec) (Run id) away (destination_in spec.destination spec.sources id to)
      (in_nodes job.spec.destination job.spec.sources (Run id) (subst (λ n. IsIn n job.spec.sources) (name_same x (Run id) same) one)));
})

-- What holds of the tree of a segment still holds after a step that keeps it.
in_stepped : (P : Tree → Type 0) (tables : Tables) (step : Step) (spec : JobSpec) (outputs : List ℕ) (key : List ℕ) → ((tree : Tree) → P tree → P (stepped_tree tables step spec outputs tree))
    → (trees : Trees) → P (tree_at key trees) → P (tree_at key (stepped_in tables step spec outputs trees))
in_stepped P tables step spec outputs key keep [] h = h
in_stepped P tables step spec outputs key keep (s ∷ trees) h = by (bytes_eq key s.prefix) (bytes_eq spec.segment s.prefix) h (in_stepped P tables step spec outputs key keep trees) refl
  where
    new : Bool → Segment
    new c = cond c (record s { tree = stepped_tree tables step spec outputs s.tree; watermark = watermark_after spec.sources s.tree s.watermark }) s

    same : (c : Bool) → (new c).prefix ≡ s.prefix
    same true = refl
    same false = refl

    this : (c : Bool) → P s.tree → P (new c).tree
    this true h = keep s.tree h
    this false h = h

    by : (b c : Bool) → P (tree_or_empty (cond b (Some s) (segment_at key trees))) → (P (tree_at key trees) → P (tree_at key (stepped_in tables step spec outputs trees))) → bytes_eq key s.prefix ≡ b
        → P (tree_or_empty (cond (bytes_eq key (new c).prefix) (Some (new c)) (segment_at key (stepped_in tables step spec outputs trees))))
    by true c h rest e = subst (λ b. P (tree_or_empty (cond b (Some (new c)) (segment_at key (stepped_in tables step spec outputs trees))))) (sym (ap (bytes_eq key) (same c) ∙ e)) (this c h)
    by false c h rest e = subst (λ b. P (tree_or_empty (cond b (Some (new c)) (segment_at key (stepped_in tables step spec outputs trees))))) (sym (ap (bytes_eq key) (same c) ∙ e)) (rest h)

-- The join of a job leaves the sources of a job that shares no node with it.
passes_beside : (tables : Tables) (job other : Job) (outputs : List ℕ) (trees : Trees) → IsAway job.spec other → Passes trees other → Passes (stepped_in tables (Join job.id) job.spec outputs trees) other
passes_beside tables job other outputs trees away h =
    in_stepped (HasSources other.spec.sources other.source_tables) tables (Join job.id) job.spec outputs other.spec.segment (λ tree h. by job.spec.destination refl tree h) trees h
  where
    by : (destination : Option ℕ) → job.spec.destination ≡ destination → (tree : Tree) → HasSources other.spec.sources other.source_tables tree
        → HasSources other.spec.sources other.source_tables (to_run (λ id. with_run_for job.spec.sources id outputs) destination tree)
    by None to tree h = h
    by (Some id) to tree h = has_beside job.spec.sources id outputs other.spec.sources other.source_tables tree (beside_job job.spec id other to away) h

-- ---- the gate

gate_passes : (trees : Trees) (accepts : JobSpec → Bool) (job : Job) → Passes trees job → accepts job.spec ≡ true → commit_gate trees accepts job ≡ None
gate_passes trees accepts job h accepting =
    by (list_all (names_contain (names (tree_at job.spec.segment trees))) job.spec.sources) (bytes_eq (source_pieces job.spec.sources (tree_at job.spec.segment trees)) job.source_tables) (accepts job.spec)
    h.0 ((bytes_eq-Decides (source_pieces job.spec.sources (tree_at job.spec.segment trees)) job.source_tables).1 h.1) accepting
  where
    by : (a b c : Bool) → IsTrue a → b ≡ true → c ≡ true → first_failing ((4, a) ∷ (10, b) ∷ (0, c) ∷ []) ≡ None
    by true true true h k l = refl
    by true true false h k l = absurd (cc l)
    by true false c h k l = absurd (cc k)
    by false b c h k l = absurd (cc h)

pub stands_pass : (trees : Trees) (job : Job) → SourcesStand trees job → Passes trees job
stands_pass trees job h = (all_true_from (names_contain (names (tree_at job.spec.segment trees))) job.spec.sources (stretch_in (tree_at job.spec.segment trees) job.spec.sources h.stretch), h.source_tables)

-- ---- all commits of a poll

-- A job that is active lightens the trees, and waits for a worker without a context, or it is Compacted and one
-- of these.
abbrev pub IsCalmTill : List ℕ → Job → Type 0
IsCalmTill these job = IsTrue (is_active job) → Lightens job.spec × ((IsTrue (has_status Scheduled job) × (job.context ≡ None)) ⊎ (IsTrue (has_status Compacted job) × (contains these job.id ≡ true)))

-- The scheduler of the poll accepts each job.
abbrev pub AcceptsAll : PollInput → Type 0
AcceptsAll input = (p : PollState) (spec : JobSpec) → accepts input p spec ≡ true

-- What the commits of these many jobs leave.
pub record Committed (count : ℕ) (old new : PollState) : Type 0 where
  pub steps : length new.steps ≡ length old.steps + count
  pub calm : AllByRecursion (IsCalmTill []) new.jobs
  pub ids : ids new.jobs ≡ ids old.jobs
  pub added : new.added ≡ old.added
  pub lost : new.lost ≡ old.lost
  pub refused : new.refused ≡ old.refused
  pub done : length new.done ≡ length old.done + count

pub same_ids : (f : Job → Job) (these : List ℕ) (jobs : Jobs) → ((job : Job) → (f job).id ≡ job.id) → ids (changed_jobs f these jobs) ≡ ids jobs
same_ids f these [] same = refl
same_ids f these (job ∷ jobs) same = ap (λ id. id ∷ ids (changed_jobs f these jobs)) (by (contains these job.id)) ∙ ap (λ rest. job.id ∷ rest) (same_ids f these jobs same)
  where
    by : (b : Bool) → (cond b (f job) job).id ≡ job.id
    by true = same job
    by false = refl

-- The jobs after the commit of the first of these.
calm_after : (id : ℕ) (these : List ℕ) (jobs : Jobs) → AllByRecursion (IsCalmTill (id ∷ these)) jobs → AllByRecursion (IsCalmTill these) (changed_jobs to_completed (id ∷ []) jobs)
calm_after id these [] h = tt
calm_after id these (job ∷ jobs) h = (by (id == job.id) refl, calm_after id these jobs h.1)
  where
    left : (b : Bool) → b ≡ false → cond b true (contains these job.id) ≡ true → contains these job.id ≡ true
    left true e h = absurd (cc e)
    left false e h = h

    other : (id == job.id) ≡ false → (IsTrue (has_status Scheduled job) × (job.context ≡ None)) ⊎ (IsTrue (has_status Compacted job) × (contains (id ∷ these) job.id ≡ true))
        → (IsTrue (has_status Scheduled job) × (job.context ≡ None)) ⊎ (IsTrue (has_status Compacted job) × (contains these job.id ≡ true))
    other e (inl waits) = inl waits
    other e (inr ends) = inr (ends.0, left (id == job.id) e ends.1)

    by : (b : Bool) → (id == job.id) ≡ b → IsCalmTill these (cond (cond b true false) (to_completed job) job)
    by true e active = absurd (cc active)
    by false e active = let calm = h.0 active in (calm.0, other e calm.1)

-- Finished jobs whose sources are in the trees, and that share no node, all pass the gate, one after the other.
commits_all : (input : PollInput) (jobs : Jobs) (p : PollState) → AcceptsAll input → AllByRecursion (Passes p.trees) jobs → Pairs (λ a b. IsAway a.spec b) jobs → AllByRecursion (IsCalmTill (ids jobs)) p.jobs
    → Committed (length jobs) p (each (commit_job input) jobs p)
commits_all input [] p accepting passes away calm = record { steps = omega arith; calm = calm; ids = refl; added = refl; lost = refl; refused = refl; done = omega arith }
commits_all input (job ∷ jobs) p accepting passes away calm =
    subst (λ gate. Committed (length (job ∷ jobs)) p (each (commit_job input) jobs (commit_by input job gate p))) (sym (gate_passes p.trees (accepts input p) job passes.0 (accepting p job.spec)))
    (further (commits_all input jobs (commit_by input job None p) accepting
    (all_to _ _ jobs (λ other there h. passes_beside input.tables job other (concat job.outputs) p.trees (all_at (λ other. IsAway job.spec other) jobs other away.0 there) h) passes.1)
    away.1 (calm_after job.id (ids jobs) p.jobs calm)))
  where
    further : Committed (length jobs) (commit_by input job None p) (each (commit_job input) jobs (commit_by input job None p)) → Committed (length (job ∷ jobs)) p (each (commit_job input) jobs (commit_by input job None p))
    further c =
        let steps = c.steps in
        let more = length-append p.steps (Join job.id ∷ []) in
        let ended = c.done in
        let push = length-append p.done (job.id ∷ []) in
        record { steps = omega (arith, steps, more); calm = c.calm; ids = c.ids ∙ same_ids to_completed (job.id ∷ []) p.jobs (λ job. refl); added = c.added; lost = c.lost; refused = c.refused; done = omega (arith, ended, push) }

-- ---- the beginning of a poll

-- A job that is active lightens the trees, and waits for a worker without a context, or it is Compacted and its
-- sources are in the trees.
abbrev pub IsCalm : Trees → Job → Type 0
IsCalm trees job = IsTrue (is_active job) → Lightens job.spec × ((IsTrue (has_status Scheduled job) × (job.context ≡ None)) ⊎ (IsTrue (has_status Compacted job) × Passes trees job))

running_active : (s : Status) → IsTrue (status_eq Running s) → (IsTrue (cond (is_finished s) false true)) × (IsTrue (status_eq Scheduled s) → ⊥) × (IsTrue (status_eq Compacted s) → ⊥)
running_active Running h = (refl, (λ h. cc h), (λ h. cc h))
running_active Submitted h = absurd (cc h)
running_active Scheduled h = absurd (cc h)
running_active Compacted h = absurd (cc h)
running_active Completed h = absurd (cc h)
running_active Failed h = absurd (cc h)

compacted_active : (s : Status) → IsTrue (status_eq Compacted s) → (IsTrue (cond (is_finished s) false true)) × (IsTrue (status_eq Scheduled s) → ⊥)
compacted_active Compacted h = (refl, λ h. cc h)
compacted_active Submitted h = absurd (cc h)
compacted_active Scheduled h = absurd (cc h)
compacted_active Running h = absurd (cc h)
compacted_active Completed h = absurd (cc h)
compacted_active Failed h = absurd (cc h)

none_runs : (trees : Trees) (job : Job) → IsCalm trees job → has_status Running job ≡ false
none_runs trees job calm = other_or (has_status Running job) (λ runs. by (running_active job.status runs) (calm (running_active job.status runs).0).1)
  where
    by : (IsTrue (is_active job)) × (IsTrue (has_status Scheduled job) → ⊥) × (IsTrue (has_status Compacted job) → ⊥)
        → (IsTrue (has_status Scheduled job) × (job.context ≡ None)) ⊎ (IsTrue (has_status Compacted job) × Passes trees job) → ⊥
    by r (inl waits) = r.1 waits.0
    by r (inr ends) = r.2 ends.0

none_stale : (trees : Trees) (timeout moment : ℕ) (jobs : Jobs) → AllByRecursion (IsCalm trees) jobs → ids (filter (is_stale timeout moment) jobs) ≡ []
none_stale trees timeout moment [] h = refl
none_stale trees timeout moment (job ∷ jobs) h = by (is_stale timeout moment job) (ap (λ b. b && is_overdue timeout moment job.lease) (none_runs trees job h.0)) (none_stale trees timeout moment jobs h.1)
  where
    by : (b : Bool) → b ≡ false → ids (filter (is_stale timeout moment) jobs) ≡ [] → ids (cond b (job ∷ filter (is_stale timeout moment) jobs) (filter (is_stale timeout moment) jobs)) ≡ []
    by true e rest = absurd (cc e)
    by false e rest = rest

unchanged : (f : Job → Job) (jobs : Jobs) → changed_jobs f [] jobs ≡ jobs
unchanged f [] = refl
unchanged f (job ∷ jobs) = ap (λ js. job ∷ js) (unchanged f jobs)

-- A poll frees no job.
pub frees_none : (input : PollInput) → AllByRecursion (IsCalm input.manifest.trees) input.records.jobs
    → free_stale input (poll_begun input.manifest.trees input.manifest.horizon input.records.jobs) ≡ poll_begun input.manifest.trees input.manifest.horizon input.records.jobs
frees_none input calm =
    let begun = poll_begun input.manifest.trees input.manifest.horizon input.records.jobs in
    ap (λ these. with_freed these begun) (none_stale input.manifest.trees input.options.timeout input.moment input.records.jobs calm)
    ∙ ap (λ jobs. poll_begun input.manifest.trees input.manifest.horizon jobs) (unchanged to_waiting input.records.jobs)

-- The ids of the jobs that pass a test.
pub passing_in : (test : Job → Bool) (jobs : Jobs) → AllByRecursion (λ job. IsTrue (test job) → contains (ids (filter test jobs)) job.id ≡ true) jobs
passing_in test [] = tt
passing_in test (job ∷ jobs) = (first (test job), all_to _ _ jobs (λ other there h ends. later (test job) other (h ends)) (passing_in test jobs))
  where
    rest : List ℕ
    rest = ids (filter test jobs)

    first : (b : Bool) → IsTrue b → contains (ids (cond b (job ∷ filter test jobs) (filter test jobs))) job.id ≡ true
    first true h = ap (λ b. cond b true (contains rest job.id)) (is_itself job.id)
    first false h = absurd (cc h)

    more : (b c : Bool) → c ≡ true → cond b true c ≡ true
    more true c h = refl
    more false c h = h

    later : (b : Bool) (other : Job) → contains rest other.id ≡ true → contains (ids (cond b (job ∷ filter test jobs) (filter test jobs))) other.id ≡ true
    later true other h = more (job.id == other.id) (contains rest other.id) h
    later false other h = h

reserves : (s : Status) → IsTrue (status_eq Compacted s) → IsTrue (status_eq Scheduled s || status_eq Running s || status_eq Compacted s)
reserves Compacted h = refl
reserves Submitted h = absurd (cc h)
reserves Scheduled h = absurd (cc h)
reserves Running h = absurd (cc h)
reserves Completed h = absurd (cc h)
reserves Failed h = absurd (cc h)

are_away : (jobs : Jobs) → AllByRecursion (λ job. IsTrue (has_status Compacted job)) jobs → Pairs HoldApart jobs → Pairs (λ a b. IsAway a.spec b) jobs
are_away [] compacted h = tt
are_away (job ∷ jobs) compacted h =
    (all_to _ _ jobs (λ other there apart. apart (reserves job.status compacted.0) (reserves other.status (all_at (λ job. IsTrue (has_status Compacted job)) jobs other compacted.1 there))) h.0, are_away jobs compacted.1 h.1)

-- The commits of a poll that found these jobs.
pub poll_commits : (input : PollInput) → AcceptsAll input → AllByRecursion (IsCalm input.manifest.trees) input.records.jobs → NodesHeldOnce input.records.jobs
    → Committed (length (filter (has_status Compacted) input.records.jobs)) (poll_begun input.manifest.trees input.manifest.horizon input.records.jobs) (commit_finished input (poll_begun input.manifest.trees input.manifest.horizon input.records.jobs))
poll_commits input accepting calm once =
    commits_all input finished (poll_begun input.manifest.trees input.manifest.horizon jobs) accepting
    (all_to _ _ finished (λ job there f. passing job (compacted_active job.status f.1) (all_at (IsCalm input.manifest.trees) jobs job calm f.0) f.1) (filtered (has_status Compacted) jobs))
    (are_away finished (all_to _ _ finished (λ job there f. f.1) (filtered (has_status Compacted) jobs)) (pairs_filter HoldApart (has_status Compacted) jobs once))
    (all_to _ _ jobs (λ job there h active. by job (h active) (all_at _ jobs job (passing_in (has_status Compacted) jobs) there)) calm)
  where
    jobs : Jobs
    jobs = input.records.jobs

    finished : Jobs
    finished = filter (has_status Compacted) jobs

    found : (job : Job) → (IsTrue (has_status Scheduled job) → ⊥) → (IsTrue (has_status Scheduled job) × (job.context ≡ None)) ⊎ (IsTrue (has_status Compacted job) × Passes input.manifest.trees job) → Passes input.manifest.trees job
    found job never (inl waits) = absurd (never waits.0)
    found job never (inr ends) = ends.1

    passing : (job : Job) → (IsTrue (is_active job)) × (IsTrue (has_status Scheduled job) → ⊥) → IsCalm input.manifest.trees job → IsTrue (has_status Compacted job) → Passes input.manifest.trees job
    passing job c calm ends = found job c.1 (calm c.0).1

    by : (job : Job) → Lightens job.spec × ((IsTrue (has_status Scheduled job) × (job.context ≡ None)) ⊎ (IsTrue (has_status Compacted job) × Passes input.manifest.trees job))
        → (IsTrue (has_status Compacted job) → contains (ids finished) job.id ≡ true)
        → Lightens job.spec × ((IsTrue (has_status Scheduled job) × (job.context ≡ None)) ⊎ (IsTrue (has_status Compacted job) × (contains (ids finished) job.id ≡ true)))
    by job (l, inl waits) there = (l, inl waits)
    by job (l, inr ends) there = (l, inr (ends.0, there ends.0))
