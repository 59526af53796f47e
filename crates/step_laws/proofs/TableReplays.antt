-- A table that is put later changes no replay: flushes and finishes that took effect brought tables that were put before.
use Rattle.std.proofs.Common.{◌≡◌, refl, ◌∙◌, ap, subst, ℕ, ◌+◌, List, [], ◌∷◌, ◌++◌, cond, Bool, true, false, Option, Some, None}
use Rattle.std.specs.Prelude.{IsTrue, filter, find, flat_map, map, bytes_eq, nat_lt}
use Rattle.std.specs.Ordering.{is_lt}
use Rattle.std.specs.List.{AllByRecursion, concat, cons_option}
use Rattle.row_model.specs.Rows.{Row, key_cmp}
use Rattle.fleet_model.specs.Nodes.{Tables, is_among, table_rows, NodeName, Node, Tree, Trees, node_named}
use Rattle.fleet_model.specs.Jobs.{JobSpec, Job, Jobs, contains, put_job, trimmed_jobs, is_active, finished_later, job_with, changed_jobs}
use Rattle.fleet_model.specs.History.{Event, Entry, PutManifest, PutRecords, ManifestEpoch, Flush, Commit, RecordChange, RecordsEpoch, Submit, Claim, Beat, Finish, Release, Polled, Step, Join, Move, Drain, stood}
use Rattle.fleet_model.specs.Trees.{flushed_trees, flushed_on, empty_segment, source_nodes, source_pieces, without_nodes, put_run, is_run_below, with_run_for, first_key, put_by_first_key, by_first_key, to_run, stepped_tree, stepped_in, stepped_all, job_of, watermark_after}
use Rattle.fleet_model.specs.Work.Records.{Unrecorded, firsts, new_job, with_new, claimed_by, beaten_by, finished_by, to_waiting, to_scheduled, to_completed, to_failed, after_change}
use Rattle.fleet_model.specs.Past.Replay.{Objects, plain_job, outputs_of, outputs_in, after_event, after_entry, replayed_objects}
use Rattle.fleet_model.specs.Store.{jobs_in}
use Rattle.step_model.specs.Entries.{tables_brought_in}
use Rattle.step_laws.proofs.Elements.{all_from, all_append}
use Rattle.step_laws.proofs.Held.{rows_stay}

-- ---- tables of trees

-- All tables of the nodes of a tree are so, and of all trees.
abbrev pub TreeAll : (ℕ → Type 0) → Tree → Type 0
TreeAll P tree = AllByRecursion (λ node. AllByRecursion P node.pieces) tree

abbrev pub TreesAll : (ℕ → Type 0) → Trees → Type 0
TreesAll P trees = AllByRecursion (λ s. TreeAll P s.tree) trees

pub all_found_at : {A : Type 0} (P : A → Type 0) (p : A → Bool) (xs : List A) (x : A) → AllByRecursion P xs → find p xs ≡ Some x → P x
all_found_at P p [] x h e = absurd (cc e)
all_found_at {A} P p (y ∷ xs) x h e = by (p y) (all_found_at P p xs x h.1) e
  where
    by : (b : Bool) → (find p xs ≡ Some x → P x) → cond b (Some y) (find p xs) ≡ Some x → P x
    by true rest e = subst P (same e) h.0
      where
        same : Some y ≡ Some x → y ≡ x
        same e = cc e
    by false rest e = rest e

pub all_filter : {A : Type 0} (P : A → Type 0) (p : A → Bool) (xs : List A) → AllByRecursion P xs → AllByRecursion P (filter p xs)
all_filter P p [] h = tt
all_filter P p (x ∷ xs) h = by (p x) (all_filter P p xs h.1)
  where
    by : (b : Bool) → AllByRecursion P (filter p xs) → AllByRecursion P (cond b (x ∷ filter p xs) (filter p xs))
    by true rest = (h.0, rest)
    by false rest = rest

pub sources_all : (P : ℕ → Type 0) (sources : List NodeName) (tree : Tree) → TreeAll P tree → AllByRecursion P (source_pieces sources tree)
sources_all P [] tree h = tt
sources_all P (name ∷ sources) tree h = by (node_named name tree) refl (sources_all P sources tree h)
  where
    by : (found : Option Node) → node_named name tree ≡ found → AllByRecursion P (source_pieces sources tree) → AllByRecursion P (flat_map (λ node. node.pieces) (cons_option found (source_nodes sources tree)))
    by None e rest = rest
    by (Some node) e rest = all_append P node.pieces _ (all_found_at (λ node. AllByRecursion P node.pieces) _ tree node h e) rest

put_run_all : (P : ℕ → Type 0) (id : ℕ) (run : Node) (tree : Tree) → AllByRecursion P run.pieces → TreeAll P tree → TreeAll P (put_run id run tree)
put_run_all P id run [] new h = (new, tt)
put_run_all P id run (node ∷ tree) new h = by (is_run_below id node.name) (put_run_all P id run tree new h.1)
  where
    by : (b : Bool) → TreeAll P (put_run id run tree) → TreeAll P (cond b (run ∷ node ∷ tree) (node ∷ put_run id run tree))
    by true rest = (new, h)
    by false rest = (h.0, rest)

run_all : (P : ℕ → Type 0) (sources : List NodeName) (id : ℕ) (pieces : List ℕ) (tree : Tree) → AllByRecursion P pieces → TreeAll P tree → TreeAll P (with_run_for sources id pieces tree)
run_all P sources id pieces tree new h = put_run_all P id _ (without_nodes sources tree) new (all_filter _ _ tree h)

pub put_first_all : (P : ℕ → Type 0) (tables : Tables) (piece : ℕ) (pieces : List ℕ) → P piece → AllByRecursion P pieces → AllByRecursion P (put_by_first_key tables piece pieces)
put_first_all P tables piece [] p h = (p, tt)
put_first_all P tables piece (q ∷ pieces) p h = by (is_lt (key_cmp (first_key (table_rows tables q)) (first_key (table_rows tables piece)))) (put_first_all P tables piece pieces p h.1)
  where
    by : (b : Bool) → AllByRecursion P (put_by_first_key tables piece pieces) → AllByRecursion P (cond b (q ∷ put_by_first_key tables piece pieces) (piece ∷ q ∷ pieces))
    by true rest = (h.0, rest)
    by false rest = (p, h)

pub by_first_all : (P : ℕ → Type 0) (tables : Tables) (pieces : List ℕ) → AllByRecursion P pieces → AllByRecursion P (by_first_key tables pieces)
by_first_all P tables [] h = tt
by_first_all P tables (piece ∷ pieces) h = put_first_all P tables piece (by_first_key tables pieces) h.0 (by_first_all P tables pieces h.1)

to_run_all : (P : ℕ → Type 0) (sources : List NodeName) (destination : Option ℕ) (pieces : List ℕ) (tree : Tree) → AllByRecursion P pieces → TreeAll P tree → TreeAll P (to_run (λ id. with_run_for sources id pieces) destination tree)
to_run_all P sources None pieces tree new h = h
to_run_all P sources (Some id) pieces tree new h = run_all P sources id pieces tree new h

stepped_all_so : (P : ℕ → Type 0) (tables : Tables) (step : Step) (spec : JobSpec) (outputs : List ℕ) (tree : Tree) → AllByRecursion P outputs → TreeAll P tree → TreeAll P (stepped_tree tables step spec outputs tree)
stepped_all_so P tables (Join job) spec outputs tree new h = to_run_all P spec.sources spec.destination outputs tree new h
stepped_all_so P tables (Move job) spec outputs tree new h = to_run_all P spec.sources spec.destination _ tree (by_first_all P tables _ (sources_all P spec.sources tree h)) h
stepped_all_so P tables (Drain job) spec outputs tree new h = all_filter _ _ tree h

pub step_all : (P : ℕ → Type 0) (tables : Tables) (step : Step) (spec : JobSpec) (outputs : List ℕ) (trees : Trees) → AllByRecursion P outputs → TreesAll P trees → TreesAll P (stepped_in tables step spec outputs trees)
step_all P tables step spec outputs [] new h = tt
step_all P tables step spec outputs (s ∷ trees) new h = (by (bytes_eq spec.segment s.prefix), step_all P tables step spec outputs trees new h.1)
  where
    by : (b : Bool) → TreeAll P (cond b (record s { tree = stepped_tree tables step spec outputs s.tree; watermark = watermark_after spec.sources s.tree s.watermark }) s).tree
    by true = stepped_all_so P tables step spec outputs s.tree new h.0
    by false = h.0

pub flush_all : (P : ℕ → Type 0) (prefix : List ℕ) (name : ℕ) (rows : List Row) (trees : Trees) → P name → TreesAll P trees → TreesAll P (flushed_trees prefix name rows trees)
flush_all P prefix name rows [] new h = (((new, tt), tt), tt)
flush_all P prefix name rows (s ∷ trees) new h = by (bytes_eq prefix s.prefix) (is_lt (key_cmp prefix s.prefix)) (flush_all P prefix name rows trees new h.1)
  where
    by : (same below : Bool) → TreesAll P (flushed_trees prefix name rows trees)
        → TreesAll P (cond same (flushed_on name rows s ∷ trees) (cond below (flushed_on name rows (empty_segment prefix) ∷ s ∷ trees) (s ∷ flushed_trees prefix name rows trees)))
    by true below rest = (((new, tt), h.0), h.1)
    by false true rest = (((new, tt), tt), h)
    by false false rest = (h.0, rest)

-- ---- tables of jobs

-- All outputs of a job are so, and of all jobs.
abbrev pub HasOutputs : (ℕ → Type 0) → Job → Type 0
HasOutputs P job = AllByRecursion P (concat job.outputs)

abbrev pub OutputsAll : (ℕ → Type 0) → Jobs → Type 0
OutputsAll P jobs = AllByRecursion (HasOutputs P) jobs

pub all_trimmed : (P : Job → Type 0) (jobs : Jobs) → AllByRecursion P jobs → AllByRecursion P (trimmed_jobs jobs)
all_trimmed P [] h = tt
all_trimmed P (job ∷ jobs) h = by (is_active job) (finished_later jobs) (all_trimmed P jobs h.1)
  where
    by : (active later : Bool) → AllByRecursion P (trimmed_jobs jobs) → AllByRecursion P (cond active (job ∷ trimmed_jobs jobs) (cond later (trimmed_jobs jobs) (job ∷ trimmed_jobs jobs)))
    by true later rest = (h.0, rest)
    by false true rest = rest
    by false false rest = (h.0, rest)

pub all_changed : (P : Job → Type 0) (f : Job → Job) (these : List ℕ) (jobs : Jobs) → ((job : Job) → P job → P (f job)) → AllByRecursion P jobs → AllByRecursion P (changed_jobs f these jobs)
all_changed P f these [] new h = tt
all_changed P f these (job ∷ jobs) new h = (by (contains these job.id), all_changed P f these jobs new h.1)
  where
    by : (b : Bool) → P (cond b (f job) job)
    by true = new job h.0
    by false = h.0

put_job_all : (P : Job → Type 0) (new : Job) (jobs : Jobs) → P new → AllByRecursion P jobs → AllByRecursion P (put_job new jobs)
put_job_all P new [] p h = (p, tt)
put_job_all P new (job ∷ jobs) p h = by (nat_lt new.id job.id) (put_job_all P new jobs p h.1)
  where
    by : (b : Bool) → AllByRecursion P (put_job new jobs) → AllByRecursion P (cond b (new ∷ job ∷ jobs) (job ∷ put_job new jobs))
    by true rest = (p, h)
    by false rest = (h.0, rest)

pub all_with_new : (P : Job → Type 0) (named : List (ℕ × JobSpec)) (jobs : Jobs) → AllByRecursion (λ p. P (new_job p)) named → AllByRecursion P jobs → AllByRecursion P (with_new named jobs)
all_with_new P [] jobs new h = h
all_with_new P (p ∷ named) jobs new h = all_with_new P named (put_job (new_job p) jobs) new.1 (put_job_all P (new_job p) jobs new.0 h)

-- All outputs of jobs have a property after a change, if they had it before and the tables that it brings have it.
outputs_after : (P : ℕ → Type 0) (u : Unrecorded) (change : RecordChange) (jobs : Jobs) → AllByRecursion P (tables_brought_in true (PutRecords change)) → OutputsAll P jobs → OutputsAll P (after_change u change jobs)
outputs_after P u (RecordsEpoch epoch) jobs new h = h
outputs_after P u (Submit specs) jobs new h = all_with_new (HasOutputs P) specs jobs (all_from _ specs (λ p there. tt)) h
outputs_after P u (Claim worker attempts) jobs new h = all_changed (HasOutputs P) (claimed_by worker u.moment) (firsts attempts) jobs (λ job old. old) h
outputs_after P u (Beat worker attempts) jobs new h = all_changed (HasOutputs P) (beaten_by worker u) (firsts attempts) jobs (λ job old. old) h
outputs_after P u (Finish worker id attempt outputs) jobs new h = all_changed (HasOutputs P) (finished_by worker u outputs) (id ∷ []) jobs (λ job old. new) h
outputs_after P u (Release worker attempts) jobs new h = all_changed (HasOutputs P) to_waiting (firsts attempts) jobs (λ job old. old) h
outputs_after P u (Polled change) jobs new h =
    all_changed (HasOutputs P) to_failed change.failed _ (λ job old. old)
    (all_changed (HasOutputs P) to_completed change.completed _ (λ job old. old)
    (all_changed (HasOutputs P) (to_scheduled u.tables_of) change.scheduled _ (λ job old. old)
    (all_changed (HasOutputs P) to_waiting change.freed _ (λ job old. old)
    (all_with_new (HasOutputs P) change.added jobs (all_from _ change.added (λ p there. tt)) h))))

plain_all : (P : ℕ → Type 0) (jobs : Jobs) → OutputsAll P jobs → OutputsAll P (map plain_job jobs)
plain_all P [] h = tt
plain_all P (job ∷ jobs) h = (h.0, plain_all P jobs h.1)

-- ---- objects

-- All tables that the objects name in nodes and outputs are so.
pub record ObjectsAll (P : ℕ → Type 0) (o : Objects) : Type 0 where
  pub trees : TreesAll P o.manifest.trees
  pub outputs : OutputsAll P (jobs_in o.records)

outputs_found : (P : ℕ → Type 0) (o : Objects) → ObjectsAll P o → (id : ℕ) → AllByRecursion P (outputs_in o.records id)
outputs_found P o h id = by o.records refl h.outputs
  where
    found : (jobs : Jobs) (job : Option Job) → job_with id jobs ≡ job → OutputsAll P jobs → AllByRecursion P (outputs_of job)
    found jobs None e all = tt
    found jobs (Some job) e all = all_found_at (λ job. AllByRecursion P (concat job.outputs)) _ jobs job all e

    by : (records : _) → o.records ≡ records → OutputsAll P (jobs_in records) → AllByRecursion P (outputs_in records id)
    by None e all = tt
    by (Some records) e all = found records.jobs (job_with id records.jobs) refl all

steps_all : (P : ℕ → Type 0) (tables : Tables) (jobs : ℕ → JobSpec × List ℕ) → ((id : ℕ) → AllByRecursion P (jobs id).1) → (steps : List Step) (trees : Trees) → TreesAll P trees → TreesAll P (stepped_all tables jobs steps trees)
steps_all P tables jobs new [] trees h = h
steps_all P tables jobs new (step ∷ steps) trees h = steps_all P tables jobs new steps _ (step_all P tables step (jobs (job_of step)).0 (jobs (job_of step)).1 trees (new (job_of step)) h)

event_all : (P : ℕ → Type 0) (tables : Tables) (specs : ℕ → JobSpec) (took : Bool) (event : Event) (o : Objects) → AllByRecursion P (tables_brought_in took event) → ObjectsAll P o → ObjectsAll P (cond took (after_event tables specs event o) o)
event_all P tables specs false event o new h = h
event_all P tables specs true (PutManifest (ManifestEpoch epoch)) o new h = record { trees = h.trees; outputs = h.outputs }
event_all P tables specs true (PutManifest (Flush name segment floor tick)) o new h = record { trees = flush_all P segment name (table_rows tables name) o.manifest.trees new.0 h.trees; outputs = h.outputs }
event_all P tables specs true (PutManifest (Commit steps)) o new h =
    record { trees = steps_all P tables (λ job. (specs job, outputs_in o.records job)) (outputs_found P o h) steps o.manifest.trees h.trees; outputs = h.outputs }
event_all P tables specs true (PutRecords change) o new h = record { trees = h.trees; outputs = plain_all P _ (all_trimmed _ _ (outputs_after P _ change (jobs_in o.records) new h.outputs)) }
event_all P tables specs true event o new h = h

-- ---- one table more

-- The table with this id was put.
abbrev pub IsPut : Tables → ℕ → Type 0
IsPut tables id = IsTrue (is_among tables id)

put_first_same : (tables : Tables) (new : ℕ × List Row) (piece : ℕ) (pieces : List ℕ) → IsPut tables piece → AllByRecursion (IsPut tables) pieces → put_by_first_key (tables ++ new ∷ []) piece pieces ≡ put_by_first_key tables piece pieces
put_first_same tables new piece [] put h = refl
put_first_same tables new piece (q ∷ pieces) put h =
    let rest = put_first_same tables new piece pieces put h.1 in
    let first = rows_stay tables new q h.0 in
    let own = rows_stay tables new piece put in
    λ i. cond (is_lt (key_cmp (first_key (first i)) (first_key (own i)))) (q ∷ rest i) (piece ∷ q ∷ pieces)

by_first_same : (tables : Tables) (new : ℕ × List Row) (pieces : List ℕ) → AllByRecursion (IsPut tables) pieces → by_first_key (tables ++ new ∷ []) pieces ≡ by_first_key tables pieces
by_first_same tables new [] h = refl
by_first_same tables new (piece ∷ pieces) h =
    ap (put_by_first_key (tables ++ new ∷ []) piece) (by_first_same tables new pieces h.1)
    ∙ put_first_same tables new piece (by_first_key tables pieces) h.0 (by_first_all (IsPut tables) tables pieces h.1)

stepped_same : (tables : Tables) (new : ℕ × List Row) (step : Step) (spec : JobSpec) (outputs : List ℕ) (tree : Tree) → TreeAll (IsPut tables) tree → stepped_tree (tables ++ new ∷ []) step spec outputs tree ≡ stepped_tree tables step spec outputs tree
stepped_same tables new (Join job) spec outputs tree h = refl
stepped_same tables new (Move job) spec outputs tree h =
    ap (λ pieces. to_run (λ id. with_run_for spec.sources id pieces) spec.destination tree) (by_first_same tables new (source_pieces spec.sources tree) (sources_all (IsPut tables) spec.sources tree h))
stepped_same tables new (Drain job) spec outputs tree h = refl

step_same : (tables : Tables) (new : ℕ × List Row) (step : Step) (spec : JobSpec) (outputs : List ℕ) (trees : Trees) → TreesAll (IsPut tables) trees → stepped_in (tables ++ new ∷ []) step spec outputs trees ≡ stepped_in tables step spec outputs trees
step_same tables new step spec outputs [] h = refl
step_same tables new step spec outputs (s ∷ trees) h =
    let first = stepped_same tables new step spec outputs s.tree h.0 in
    let rest = step_same tables new step spec outputs trees h.1 in
    λ i. cond (bytes_eq spec.segment s.prefix) (record s { tree = first i; watermark = watermark_after spec.sources s.tree s.watermark }) s ∷ rest i

steps_same : (tables : Tables) (new : ℕ × List Row) (jobs : ℕ → JobSpec × List ℕ) → ((id : ℕ) → AllByRecursion (IsPut tables) (jobs id).1) → (steps : List Step) (trees : Trees) → TreesAll (IsPut tables) trees
    → stepped_all (tables ++ new ∷ []) jobs steps trees ≡ stepped_all tables jobs steps trees
steps_same tables new jobs put [] trees h = refl
steps_same tables new jobs put (step ∷ steps) trees h =
    ap (stepped_all (tables ++ new ∷ []) jobs steps) (step_same tables new step (jobs (job_of step)).0 (jobs (job_of step)).1 trees h)
    ∙ steps_same tables new jobs put steps _ (step_all (IsPut tables) tables step (jobs (job_of step)).0 (jobs (job_of step)).1 trees (put (job_of step)) h)

-- One more table does not alter what an event makes of objects, if all tables that these name and it brings were put.
event_same : (tables : Tables) (new : ℕ × List Row) (specs : ℕ → JobSpec) (took : Bool) (event : Event) (o : Objects) → AllByRecursion (IsPut tables) (tables_brought_in took event) → ObjectsAll (IsPut tables) o
    → cond took (after_event (tables ++ new ∷ []) specs event o) o ≡ cond took (after_event tables specs event o) o
event_same tables new specs false event o put h = refl
event_same tables new specs true (PutManifest (ManifestEpoch epoch)) o put h = refl
event_same tables new specs true (PutManifest (Flush name segment floor tick)) o put h =
    let rows = rows_stay tables new name put.0 in
    λ i. record o { manifest = record o.manifest { version = o.manifest.version + 1; trees = flushed_trees segment name (rows i) o.manifest.trees; floor = floor; tick = tick } }
event_same tables new specs true (PutManifest (Commit steps)) o put h =
    let trees = steps_same tables new (λ job. (specs job, outputs_in o.records job)) (outputs_found (IsPut tables) o h) steps o.manifest.trees h.trees in
    λ i. record o { manifest = record o.manifest { version = o.manifest.version + 1; trees = trees i } }
event_same tables new specs true (PutRecords change) o put h = refl
event_same tables new specs true event o put h = refl

-- The replay of a history whose flushes and finishes brought tables that were put.
pub replay_same : (tables : Tables) (new : ℕ × List Row) (specs : ℕ → JobSpec) (history : List Entry) (o : Objects) → AllByRecursion (λ entry. AllByRecursion (IsPut tables) (tables_brought_in (stood entry.answer) entry.event)) history
    → ObjectsAll (IsPut tables) o → replayed_objects (tables ++ new ∷ []) specs history o ≡ replayed_objects tables specs history o
replay_same tables new specs [] o put h = refl
replay_same tables new specs (entry ∷ history) o put h =
    ap (replayed_objects (tables ++ new ∷ []) specs history) (event_same tables new specs (stood entry.answer) entry.event o put.0 h)
    ∙ replay_same tables new specs history (after_entry tables specs entry o) put.1 (event_all (IsPut tables) tables specs (stood entry.answer) entry.event o put.0 h)
