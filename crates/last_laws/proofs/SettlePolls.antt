-- What a poll of a settle line does to the state.
use Rattle.std.proofs.Common.{◌≡◌, ◌≢◌, refl, sym, ◌∙◌, ap, subst, ℕ, zero, suc, ◌+◌, ◌-◌, ◌≤◌, ◌<◌, List, [], ◌∷◌, ◌++◌, map, Bool, true, false, cond, ◌⊎◌, inl, inr, Option, None, Some, length, length-append, arith}
use Rattle.std.specs.Prelude.{◌||◌, not, IsTrue, filter, flat_map, take, count_by, option_map, IfSome}
use Rattle.std.specs.List.{list_any, AllByRecursion}
use Rattle.std.proofs.lemmas.List.{append-nil}
use Rattle.std.proofs.lemmas.List.Sums.{length-filter}
use Rattle.row_model.specs.Lists.{Pairs, IsPrefixOf}
use Rattle.row_model.specs.Fold.{IsLawful}
use Rattle.fleet_model.specs.Nodes.{Node, Tables, Tree, Trees, names}
use Rattle.fleet_model.specs.Jobs.{JobSpec, Job, Jobs, Status, Submitted, Scheduled, Running, Compacted, Completed, Failed, status_eq, has_status, is_finished, is_active, trimmed_jobs, finished_later, put_id, in_id_order, contains}
use Rattle.fleet_model.specs.History.{Party, Coordinator, Entry, Event, PutRecords, Polled}
use Rattle.fleet_model.specs.Store.{Manifest, Records, stored_jobs, jobs_in, records_epoch}
use Rattle.fleet_model.specs.Past.Replay.{named_specs}
use Rattle.fleet_model.specs.Handles.{Handle, handles_of, tree_tables, job_tables, named_tables}
use Rattle.fleet_model.specs.Work.Scheduler.{View}
use Rattle.fleet_model.specs.Work.Gates.{is_nonempty}
use Rattle.fleet_model.specs.Invariants.JobsFit.{SourcesStand, NodesHeldOnce}
use Rattle.fleet_model.specs.Work.Records.{firsts}
use Rattle.fleet_model.specs.Work.PollStates.{PollInput, PollState, poll_begun, view_of}
use Rattle.fleet_model.specs.Work.Polls.{proposals, each, commit_job, commit_finished, free_stale, add_drawn, open_submitted, change_of, is_nothing}
use Rattle.fleet_model.specs.Exchanges.{records_version}
use Rattle.step_model.specs.Entries.{party_eq, last_from, last_event}
use Rattle.step_model.specs.Steps.PollSteps.{PollAsk, first_steps, is_unchanged}
use Rattle.step_laws.proofs.Elements.{all_at, all_to, all_front}
use Rattle.course_laws.proofs.Calls.{all_take}
use Rattle.commit_laws.proofs.Stretches.{other_or, filter_none}
use Rattle.script_model.specs.Script.{Line, Poll}
use Rattle.script_model.specs.States.{Inputs, State}
use Rattle.script_model.specs.LineCourses.{prepared_state}
use Rattle.script_model.specs.LineSteps.{OneCourse}
use Rattle.script_model.specs.Lines.PollLines.{poll_ask}
use Rattle.script_model.specs.Lines.Settles.{is_ok, has_active, has_added}
use Rattle.line_laws.specs.Alone.{HadRoom}
use Rattle.line_laws.specs.States.{StateKeeps}
use Rattle.line_laws.specs.Lines.PollRuns.{input_at, manifest_after, records_after}
use Rattle.line_laws.proofs.Scripts.{course_leads}
use Rattle.last_laws.specs.Weights.{IsHeavy, Lightens, weight_of, trees_weight, WaitsToLighten}
use Rattle.last_laws.specs.Settling.{HasFreeId, WaitsOrStands, Settling, AreSmall}
use Rattle.last_laws.proofs.Weights.{weight_both}
use Rattle.last_laws.proofs.PollWeights.{polls_lighten}
use Rattle.last_laws.proofs.PollSeen.{PolledLine, poll_line_did, none_added}
use Rattle.last_laws.proofs.Commits.{Passes, IsCalm, Committed, stands_pass, frees_none, poll_commits}
use Rattle.last_laws.proofs.Opens.{IsCalmNew}
use Rattle.last_laws.proofs.PollWorks.{WasQuiet, Worked, poll_works}
use Rattle.last_laws.proofs.Rounds.{GoesBack}
use Rattle.last_laws.proofs.Lasting.{one_grows}
use Rattle.coordinator_laws.proofs.Reports.{put_some}
use Rattle.coordinator_laws.proofs.PollReports.{got_jobs}
use Rattle.step_laws.proofs.TableReplays.{all_trimmed}

-- ---- what is asked of the last state of a line

pub record Fits (s : State) : Type 0 where
  pub room : HadRoom s.store
  pub free : AllByRecursion (λ (entry : Entry). AllByRecursion HasFreeId (named_specs entry.event)) s.store.history

pub fits_back : (inputs : Inputs) → GoesBack inputs Fits
fits_back inputs number line old answer new one fits = by (one_grows inputs number line old answer new one)
  where
    by : IsPrefixOf old.store.history new.store.history → Fits old
    by (rest, is) =
        let room = fits.room in
        let same = ap length (sym is) in
        let sum = length-append old.store.history rest in
        record { room = omega (arith, room, same, sum); free = all_front (λ (entry : Entry). AllByRecursion HasFreeId (named_specs entry.event)) old.store.history rest (subst (AllByRecursion (λ (entry : Entry). AllByRecursion HasFreeId (named_specs entry.event))) (sym is) fits.free) }

last_holds : (P : Event → Type 0) (party : Party) (last : Option Entry) (history : List Entry) (event : Event) → AllByRecursion (λ (entry : Entry). P entry.event) history → IfSome last (λ (entry : Entry). P entry.event)
    → option_map (λ (entry : Entry). entry.event) (last_from last party history) ≡ Some event → P event
last_holds P party None [] event h before is = absurd (cc is)
last_holds P party (Some entry) [] event h before is = subst P (cc is) before
last_holds P party last (entry ∷ history) event h before is = last_holds P party (cond (party_eq party entry.party) (Some entry) last) history event h.1 (by (party_eq party entry.party)) is
  where
    by : (b : Bool) → IfSome (cond b (Some entry) last) (λ (entry : Entry). P entry.event)
    by true = h.0
    by false = before

free_added : (party : Party) (history : List Entry) (p : PollState) → AllByRecursion (λ (entry : Entry). AllByRecursion HasFreeId (named_specs entry.event)) history
    → (is_nonempty p.added ≡ true → last_event party history ≡ Some (PutRecords (Polled (change_of p)))) → AllByRecursion HasFreeId p.added
free_added party history p h named = by p.added refl
  where
    by : (added : List (ℕ × JobSpec)) → p.added ≡ added → AllByRecursion HasFreeId added
    by [] e = tt
    by (q ∷ added) e = subst (AllByRecursion HasFreeId) e (last_holds (λ event. AllByRecursion HasFreeId (named_specs event)) party None history (PutRecords (Polled (change_of p))) h tt (named (ap is_nonempty e)))

-- ---- trees with the same nodes

abbrev nodes_in : Trees → List Tree
nodes_in trees = map (λ s. s.tree) trees

-- The manifest that a poll leaves has the nodes that the poll reached.
reached_nodes : (m : Manifest) (p : PollState) → (is_unchanged m p ≡ true → p.trees ≡ m.trees) → nodes_in (manifest_after m p).trees ≡ nodes_in p.trees
reached_nodes m p unchanged = by (is_unchanged m p) refl
  where
    by : (b : Bool) → is_unchanged m p ≡ b → nodes_in (cond b m (record m { version = m.version + 1; trees = p.trees; horizon = p.horizon })).trees ≡ nodes_in p.trees
    by true e = ap nodes_in (sym (unchanged e))
    by false e = refl

weight_by : (trees : Trees) → trees_weight trees ≡ weight_of (flat_map names (nodes_in trees))
weight_by [] = refl
weight_by (s ∷ trees) = weight_both (names s.tree) (flat_map (λ s. names s.tree) trees) ∙ ap (λ w. weight_of (names s.tree) + w) (weight_by trees) ∙ sym (weight_both (names s.tree) (flat_map names (nodes_in trees)))

tables_by : (trees : Trees) → flat_map tree_tables trees ≡ flat_map (λ tree. flat_map (λ (node : Node). node.pieces) tree) (nodes_in trees)
tables_by [] = refl
tables_by (s ∷ trees) = ap (λ rest. tree_tables s ++ rest) (tables_by trees)

each_tree : (P : Tree → Type 0) (trees : Trees) → AllByRecursion (λ s. P s.tree) trees → AllByRecursion P (nodes_in trees)
each_tree P [] h = tt
each_tree P (s ∷ trees) h = (h.0, each_tree P trees h.1)

each_segment : (P : Tree → Type 0) (trees : Trees) → AllByRecursion P (nodes_in trees) → AllByRecursion (λ s. P s.tree) trees
each_segment P [] h = tt
each_segment P (s ∷ trees) h = (h.0, each_segment P trees h.1)

small_same : (is_small : List Handle → Tree → Bool) (tables : Tables) (a b : Trees) → nodes_in a ≡ nodes_in b → AreSmall is_small tables a → AreSmall is_small tables b
small_same is_small tables a b same h =
    let named : flat_map tree_tables a ≡ flat_map tree_tables b = tables_by a ∙ ap (flat_map (λ (tree : Tree). flat_map (λ (node : Node). node.pieces) tree)) same ∙ sym (tables_by b) in
    subst (λ ids. AllByRecursion (λ s. IsTrue (is_small (handles_of tables ids) s.tree)) b) named
    (each_segment (λ tree. IsTrue (is_small (handles_of tables (flat_map tree_tables a)) tree)) b (subst (AllByRecursion (λ tree. IsTrue (is_small (handles_of tables (flat_map tree_tables a)) tree))) same
    (each_tree (λ tree. IsTrue (is_small (handles_of tables (flat_map tree_tables a)) tree)) a h)))

-- ---- jobs

pub calm_of : (trees : Trees) (job : Job) → WaitsOrStands trees job → IsCalm trees job
calm_of trees job h active = by (h active)
  where
    by : Lightens job.spec × ((IsTrue (has_status Scheduled job) × (job.context ≡ None)) ⊎ (IsTrue (has_status Compacted job) × SourcesStand trees job))
        → Lightens job.spec × ((IsTrue (has_status Scheduled job) × (job.context ≡ None)) ⊎ (IsTrue (has_status Compacted job) × Passes trees job))
    by (l, inl waits) = (l, inl waits)
    by (l, inr ends) = (l, inr (ends.0, stands_pass trees job ends.1))

pub active_status : (s : Status) → (IsTrue (status_eq Submitted s) → (IsTrue (cond (is_finished s) false true)) × ((IsTrue (status_eq Scheduled s) → ⊥) × (IsTrue (status_eq Compacted s) → ⊥)))
    × ((IsTrue (status_eq Compacted s) → IsTrue (cond (is_finished s) false true)) × (IsTrue (status_eq Running s) → IsTrue (cond (is_finished s) false true)))
active_status Submitted = (λ h. (refl, (λ k. cc k, λ k. cc k)), (λ h. refl, λ h. refl))
active_status Scheduled = (λ h. absurd (cc h), (λ h. refl, λ h. refl))
active_status Running = (λ h. absurd (cc h), (λ h. refl, λ h. refl))
active_status Compacted = (λ h. absurd (cc h), (λ h. refl, λ h. refl))
active_status Completed = (λ h. absurd (cc h), (λ h. absurd (cc h), λ h. absurd (cc h)))
active_status Failed = (λ h. absurd (cc h), (λ h. absurd (cc h), λ h. absurd (cc h)))

pub waits_of : (trees : Trees) (job : Job) → WaitsOrStands trees job → WaitsToLighten job
waits_of trees job h = record {
  opened = λ new. let a = (active_status job.status).0 new in absurd (never a.1.0 a.1.1 (h a.0).1);
  committed = λ ends. (h ((active_status job.status).1.0 ends)).0;
}
  where
    never : (IsTrue (has_status Scheduled job) → ⊥) → (IsTrue (has_status Compacted job) → ⊥) → (IsTrue (has_status Scheduled job) × (job.context ≡ None)) ⊎ (IsTrue (has_status Compacted job) × SourcesStand trees job) → ⊥
    never a b (inl waits) = a waits.0
    never a b (inr ends) = b ends.0

active_trimmed : (jobs : Jobs) → list_any is_active (trimmed_jobs jobs) ≡ list_any is_active jobs
active_trimmed [] = refl
active_trimmed (job ∷ jobs) = by (is_active job) refl (finished_later jobs) (active_trimmed jobs)
  where
    by : (a : Bool) → is_active job ≡ a → (b : Bool) → list_any is_active (trimmed_jobs jobs) ≡ list_any is_active jobs
        → list_any is_active (cond a (job ∷ trimmed_jobs jobs) (cond b (trimmed_jobs jobs) (job ∷ trimmed_jobs jobs))) ≡ (a || list_any is_active jobs)
    by true e b rest = ap (λ a. a || list_any is_active (trimmed_jobs jobs)) e
    by false e true rest = rest
    by false e false rest = ap (λ a. a || list_any is_active (trimmed_jobs jobs)) e ∙ rest

-- ---- a poll that changes no job

-- A poll that changes no job commits none.
none_done : (p : PollState) → is_nothing (change_of p) ≡ true → p.done ≡ []
none_done p h = by p.done (is_nonempty p.freed) (is_nonempty (firsts p.added)) (is_nonempty p.opened) (is_nonempty (in_id_order (firsts p.lost ++ firsts p.refused))) h
  where
    by : (done : List ℕ) (a d e f : Bool) → not (a || is_nonempty (in_id_order (done ++ p.moved ++ p.drained)) || f || d || e) ≡ true → done ≡ []
    by [] a d e f h = refl
    by (id ∷ done) true d e f h = absurd (cc h)
    by (id ∷ done) false d e f h = let some = put_some id (in_id_order (done ++ p.moved ++ p.drained)) in absurd (clash (is_nonempty (put_id id (in_id_order (done ++ p.moved ++ p.drained)))) f d e some h)
      where
        clash : (b f d e : Bool) → b ≡ true → not (false || b || f || d || e) ≡ true → ⊥
        clash true f d e some h = cc h
        clash false f d e some h = cc some

none_left : {A : Type 0} (xs : List A) → length xs ≡ 0 → xs ≡ []
none_left [] h = refl
none_left (x ∷ xs) h = absurd (omega (arith, h))

-- ---- proposals

take_nothing : {A : Type 0} (n : ℕ) (xs : List A) → 1 ≤ n → take n xs ≡ [] → xs ≡ []
take_nothing zero xs low h = absurd (omega (arith, low))
take_nothing (suc n) [] low h = refl
take_nothing (suc n) (x ∷ xs) low h = absurd (cc h)

pub all_second : (P : JobSpec → Type 0) (drawn : List (ℕ × JobSpec)) → AllByRecursion P (map (λ d. d.1) drawn) → AllByRecursion (λ d. P d.1) drawn
all_second P [] h = tt
all_second P (d ∷ drawn) h = (h.0, all_second P drawn h.1)

-- ---- the poll

-- How many stored jobs are finished and wait for their commit.
abbrev pub finished_count : State → ℕ
finished_count s = length (filter (has_status Compacted) (stored_jobs s.store))

-- What the state keeps between two rounds of a line.
pub record Ready (inputs : Inputs) (s : State) : Type 0 where
  pub keeps : StateKeeps inputs.merge s
  pub some_place : 1 ≤ s.options.concurrent
  pub calm : AllByRecursion (WaitsOrStands s.store.manifest.trees) (stored_jobs s.store)

-- What a poll left.
pub record PollLeft (inputs : Inputs) (is_small : List Handle → Tree → Bool) (coordinator : ℕ) (old new : State) : Type 0 where
  pub keeps : StateKeeps inputs.merge new
  pub options : new.options ≡ old.options
  pub parties : new.parties ≡ old.parties
  pub steps : ℕ
  pub weight : trees_weight new.store.manifest.trees + steps ≤ trees_weight old.store.manifest.trees
  pub joins : finished_count old ≤ steps
  pub calm : AllByRecursion (IsCalmNew []) (stored_jobs new.store)
  pub works : has_added coordinator new ≡ true → has_active new ≡ false → finished_count old < steps
  pub quiet : has_added coordinator new ≡ false → has_active new ≡ false → AreSmall is_small new.store.tables new.store.manifest.trees

-- The parts of a poll of a state that is ready.
record PollParts (inputs : Inputs) (is_small : List Handle → Tree → Bool) (coordinator : ℕ) (old new : State) (l : PolledLine inputs coordinator old new) : Type 0 where
  committed : PollState
  commits : Committed (finished_count old) (poll_begun old.store.manifest.trees old.store.manifest.horizon (input_at (poll_ask inputs old l.coordinator false) old.store).records.jobs) committed
  is : l.p ≡ open_submitted (input_at (poll_ask inputs old l.coordinator false) old.store) (add_drawn 1 l.did.drawn committed)
  reached : committed ≡ first_steps (poll_ask inputs old l.coordinator false) (input_at (poll_ask inputs old l.coordinator false) old.store)
  same : finished_count old ≡ 0 → committed.jobs ≡ stored_jobs old.store
  worked : Worked (finished_count old) l.did.drawn committed l.p
  weight : trees_weight l.p.trees + length l.p.steps ≤ trees_weight old.store.manifest.trees

-- What the lemmas on polls say of this one.
poll_parts : (inputs : Inputs) (is_small : List Handle → Tree → Bool) (coordinator : ℕ) (old new : State) → Settling inputs.scheduler is_small → Ready inputs old → Fits new → (l : PolledLine inputs coordinator old new) → PollParts inputs is_small coordinator old new l
poll_parts inputs is_small coordinator old new settling ready fits l = record {
  committed = committed;
  commits = commits;
  is = is;
  reached = sym (ap (commit_finished input) frees);
  same = λ none. ap (λ js. (each (commit_job input) js begun).jobs) (ap (filter (has_status Compacted)) got ∙ none_left (filter (has_status Compacted) (stored_jobs old.store)) none) ∙ got;
  worked = poll_works input (finished_count old) l.did.drawn begun committed l.p is refl refl rise commits heavy refuses (subst (λ jobs. AllByRecursion (λ q. AllByRecursion (λ (job : Job). job.id ≢ q.0) jobs) l.p.added) (sym got) l.seen.fresh) l.seen.once;
  weight = subst (λ (p : PollState). trees_weight p.trees + length p.steps ≤ trees_weight old.store.manifest.trees) (sym l.did.is)
      (polls_lighten ask input l.did.drawn ready.keeps.fleet.store.stored.sound.prefixes (subst (AllByRecursion WaitsToLighten) (sym got) (all_to _ _ (stored_jobs old.store) (λ job there h. waits_of old.store.manifest.trees job h) ready.calm)) heavy);
}
  where
    ask : PollAsk
    ask = poll_ask inputs old l.coordinator false

    input : PollInput
    input = input_at ask old.store

    got : input.records.jobs ≡ stored_jobs old.store
    got = got_jobs old.store.records

    begun : PollState
    begun = poll_begun input.manifest.trees input.manifest.horizon input.records.jobs

    committed : PollState
    committed = commit_finished input begun

    calm : AllByRecursion (IsCalm input.manifest.trees) input.records.jobs
    calm = subst (AllByRecursion (IsCalm input.manifest.trees)) (sym got) (all_to _ _ (stored_jobs old.store) (λ job there h. calm_of old.store.manifest.trees job h) ready.calm)

    frees : free_stale input begun ≡ begun
    frees = frees_none input calm

    commits : Committed (finished_count old) begun committed
    commits = subst (λ jobs. Committed (length (filter (has_status Compacted) jobs)) begun committed) got (poll_commits input (λ p spec. settling.accepts (view_of input p) spec) calm (subst NodesHeldOnce (sym got) ready.keeps.fleet.store.stored.held_once))

    is : l.p ≡ open_submitted input (add_drawn 1 l.did.drawn committed)
    is = l.did.is ∙ ap (λ (q : PollState). open_submitted input (add_drawn 1 l.did.drawn (commit_finished input q))) frees

    rise : Pairs (λ (a b : Job). a.id < b.id) begun.jobs
    rise = subst (Pairs (λ (a b : Job). a.id < b.id)) (sym got) ready.keeps.fleet.store.stored.sound.job_ids

    heavy : AllByRecursion (λ d. IsHeavy d.1) l.did.drawn
    heavy = all_second IsHeavy l.did.drawn (subst (AllByRecursion IsHeavy) (sym l.did.each) (all_take IsHeavy _ _ (settling.heavy (view_of input (first_steps ask input)))))

    refuses : l.p.refused ≡ []
    refuses = ap (λ (p : PollState). p.refused) l.did.is ∙ settling.passes inputs.merge ask old.store l.did.drawn (record {
      asks = refl;
      whole = refl;
      recorded = l.recorded;
      stored = ready.keeps.fleet.store.stored;
      jobs = ready.calm;
      each = l.did.each;
      fresh = l.new_ids;
      rise = l.rise;
      free_ids = subst (λ (p : PollState). AllByRecursion HasFreeId p.added) l.did.is (free_added (Coordinator coordinator) new.store.history l.p fits.free l.seen.named);
    })

-- The jobs that a poll leaves, if it changed one and if it changed none.
jobs_left : (records : Option Records) (p : PollState) → jobs_in (records_after records p) ≡ cond (is_nothing (change_of p)) (jobs_in records) (trimmed_jobs p.jobs)
jobs_left records p = by (is_nothing (change_of p))
  where
    by : (b : Bool) → jobs_in (cond b records (Some (record { version = records_version records + 1; epoch = records_epoch records; jobs = trimmed_jobs p.jobs }))) ≡ cond b (jobs_in records) (trimmed_jobs p.jobs)
    by true = refl
    by false = refl

-- What is said of the jobs that a poll leaves.
record Leaves (old : State) (p : PollState) (jobs : Jobs) : Type 0 where
  calm : AllByRecursion (IsCalmNew []) jobs
  active : is_nonempty p.added ≡ true → list_any is_active jobs ≡ list_any is_active p.jobs
  none : p.added ≡ [] → list_any is_active jobs ≡ false → list_any is_active p.jobs ≡ false

waits_new : (trees : Trees) (job : Job) → WaitsOrStands trees job → has_status Compacted job ≡ false → IsCalmNew [] job
waits_new trees job h none active = by (h active)
  where
    by : Lightens job.spec × ((IsTrue (has_status Scheduled job) × (job.context ≡ None)) ⊎ (IsTrue (has_status Compacted job) × SourcesStand trees job))
        → (Lightens job.spec × (IsTrue (has_status Scheduled job) × (job.context ≡ None))) ⊎ (IsHeavy job.spec × (IsTrue (has_status Submitted job) × (contains [] job.id ≡ true)))
    by (l, inl waits) = inl (l, waits)
    by (l, inr ends) = let e = ends.0 in absurd (cc (e, none))

none_compacted : (jobs : Jobs) → filter (has_status Compacted) jobs ≡ [] → AllByRecursion (λ job. has_status Compacted job ≡ false) jobs
none_compacted [] h = tt
none_compacted (job ∷ jobs) h = by (none_compacted jobs) (has_status Compacted job) refl h
  where
    by : (filter (has_status Compacted) jobs ≡ [] → AllByRecursion (λ job. has_status Compacted job ≡ false) jobs) → (b : Bool) → has_status Compacted job ≡ b → cond b (job ∷ filter (has_status Compacted) jobs) (filter (has_status Compacted) jobs) ≡ []
        → (has_status Compacted job ≡ false) × AllByRecursion (λ job. has_status Compacted job ≡ false) jobs
    by rest true e h = absurd (cc h)
    by rest false e h = (e, rest h)

-- By cases, whether the poll changed a job: it put the records, or the stored jobs are as before.
leaves : (inputs : Inputs) (is_small : List Handle → Tree → Bool) (coordinator : ℕ) (old new : State) (l : PolledLine inputs coordinator old new) → Ready inputs old → PollParts inputs is_small coordinator old new l
    → Leaves old l.p (cond (is_nothing (change_of l.p)) (stored_jobs old.store) (trimmed_jobs l.p.jobs))
leaves inputs is_small coordinator old new l ready parts = by (is_nothing (change_of l.p)) refl
  where
    by : (b : Bool) → is_nothing (change_of l.p) ≡ b → Leaves old l.p (cond b (stored_jobs old.store) (trimmed_jobs l.p.jobs))
    by true e =
        let done = ap length (none_done l.p e) in
        let same = parts.worked.done in
        let ended = parts.commits.done in
        let zero_left : finished_count old ≡ 0 = omega (arith, done, same, ended) in
        let empty = none_left (filter (has_status Compacted) (stored_jobs old.store)) zero_left in
        let added : l.p.added ≡ [] = none_added (change_of l.p) e in
        record {
          calm = all_to _ _ (stored_jobs old.store) (λ job there h. waits_new old.store.manifest.trees job h (all_at (λ job. has_status Compacted job ≡ false) (stored_jobs old.store) job (none_compacted (stored_jobs old.store) empty) there)) ready.calm;
          active = λ some. let none = ap is_nonempty added in absurd (cc (some, none));
          none = λ none over. ap (list_any is_active) (parts.worked.stays none ∙ parts.same zero_left) ∙ over;
        }
    by false e = record {
      calm = all_trimmed (IsCalmNew []) l.p.jobs parts.worked.calm;
      active = λ some. active_trimmed l.p.jobs;
      none = λ none over. sym (active_trimmed l.p.jobs) ∙ over;
    }

-- A poll that proposed nothing found the trees small.
found_small : (inputs : Inputs) (is_small : List Handle → Tree → Bool) (coordinator : ℕ) (old new : State) (l : PolledLine inputs coordinator old new) → Settling inputs.scheduler is_small → Ready inputs old → (parts : PollParts inputs is_small coordinator old new l)
    → WasQuiet l.did.drawn parts.committed l.p → AreSmall is_small old.store.tables l.p.trees
found_small inputs is_small coordinator old new l settling ready parts quiet =
    subst (AreSmall is_small old.store.tables) (sym quiet.trees) (subst (λ ids. AllByRecursion (λ s. IsTrue (is_small (handles_of old.store.tables ids) s.tree)) committed.trees) named (settling.quiet view none_shown none_proposed))
  where
    ask : PollAsk
    ask = poll_ask inputs old l.coordinator false

    input : PollInput
    input = input_at ask old.store

    committed : PollState
    committed = parts.committed

    view : View
    view = view_of input committed

    none_shown : view.jobs ≡ []
    none_shown = filter_none is_active committed.jobs quiet.over

    named : named_tables committed.trees (filter is_active committed.jobs) ≡ flat_map tree_tables committed.trees
    named = ap (λ jobs. flat_map tree_tables committed.trees ++ flat_map job_tables jobs) none_shown ∙ append-nil (flat_map tree_tables committed.trees)

    none_runs : count_by (has_status Running) committed.jobs ≡ 0
    none_runs = sym (length-filter (has_status Running) committed.jobs) ∙ ap length (filter_none (has_status Running) committed.jobs (all_to _ _ committed.jobs (λ job there over. other_or (has_status Running job) (λ runs. let active = (active_status job.status).1.1 runs in cc (active, over))) quiet.over))

    some_room : 1 ≤ input.options.concurrent - count_by (has_status Running) committed.jobs
    some_room = let place = ready.some_place in let none = none_runs in omega (arith, place, none)

    taken : take (input.options.concurrent - count_by (has_status Running) committed.jobs) (inputs.scheduler.propose view) ≡ []
    taken = ap (proposals input) parts.reached ∙ sym l.did.each ∙ ap (map (λ (d : ℕ × JobSpec). d.1)) quiet.none

    none_proposed : inputs.scheduler.propose view ≡ []
    none_proposed = take_nothing (input.options.concurrent - count_by (has_status Running) committed.jobs) (inputs.scheduler.propose view) some_room taken

pub same_options : (inputs : Inputs) (number : ℕ) (line : Line) (old : State) (answer : List ℕ) (new : State) → prepared_state line old ≡ old → OneCourse inputs number old line answer new → new.options ≡ old.options
same_options inputs number line old answer new same one = ap (λ (p : List ℕ × State). p.1.options) (sym one.ends) ∙ ap (λ (s : State). s.options) same

-- A poll that is not refused, of a state that is ready.
pub poll_settles : (inputs : Inputs) (is_small : List Handle → Tree → Bool) (number coordinator : ℕ) (old : State) (answer : List ℕ) (new : State) → IsLawful inputs.merge → Settling inputs.scheduler is_small → Ready inputs old → Fits new
    → OneCourse inputs number old (Poll coordinator) answer new → is_ok answer ≡ true → PollLeft inputs is_small coordinator old new
poll_settles inputs is_small number coordinator old answer new lawful settling ready fits one ok =
    let l : PolledLine inputs coordinator old new = poll_line_did inputs number coordinator old new ready.keeps answer lawful one fits.room ok in
    let parts = poll_parts inputs is_small coordinator old new settling ready fits l in
    let jobs : stored_jobs new.store ≡ cond (is_nothing (change_of l.p)) (stored_jobs old.store) (trimmed_jobs l.p.jobs) = ap jobs_in l.did.records ∙ jobs_left old.store.records l.p in
    let left : Leaves old l.p (stored_jobs new.store) = subst (Leaves old l.p) (sym jobs) (leaves inputs is_small coordinator old new l ready parts) in
    let nodes : nodes_in l.p.trees ≡ nodes_in new.store.manifest.trees = sym (ap (λ (m : Manifest). nodes_in m.trees) l.did.manifest ∙ reached_nodes old.store.manifest l.p l.did.unchanged) in
    let heavy : trees_weight l.p.trees ≡ trees_weight new.store.manifest.trees = weight_by l.p.trees ∙ ap (λ trees. weight_of (flat_map names trees)) nodes ∙ sym (weight_by new.store.manifest.trees) in
    record {
      keeps = (course_leads inputs number old (Poll coordinator) answer new lawful tt one).keeps fits.room ready.keeps;
      options = same_options inputs number (Poll coordinator) old answer new refl one;
      parties = l.parties;
      steps = length l.p.steps;
      weight = subst (λ w. w + length l.p.steps ≤ trees_weight old.store.manifest.trees) heavy parts.weight;
      joins = parts.worked.joins;
      calm = left.calm;
      works = λ added over. worked l left (parts.worked.works (sym l.seen.added ∙ added)) (sym l.seen.added ∙ added) over;
      quiet = λ added over. let none : l.p.added ≡ [] = empty l.p.added (sym l.seen.added ∙ added) in
          subst (λ tables. AreSmall is_small tables new.store.manifest.trees) (sym l.did.tables) (small_same is_small old.store.tables l.p.trees new.store.manifest.trees nodes
          (found_small inputs is_small coordinator old new l settling ready parts (parts.worked.quiet none (left.none none over))));
    }
  where
    empty : (added : List (ℕ × JobSpec)) → is_nonempty added ≡ false → added ≡ []
    empty [] e = refl
    empty (q ∷ added) e = absurd (cc e)

    worked : (l : PolledLine inputs coordinator old new) → Leaves old l.p (stored_jobs new.store) → (finished_count old < length l.p.steps) ⊎ (list_any is_active l.p.jobs ≡ true) → is_nonempty l.p.added ≡ true → list_any is_active (stored_jobs new.store) ≡ false → finished_count old < length l.p.steps
    worked l left (inl more) some over = more
    worked l left (inr active) some over = let same = left.active some in absurd (cc (same, active, over))
