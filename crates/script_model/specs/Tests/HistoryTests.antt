-- Tests of a store against its history: the replay gives what is stored, and what lawful calls need of
-- the history holds. These are the parts of the two that can be computed.
use Rattle.std.specs.Prelude.{ℕ, ◌+◌, Bool, true, false, not, nat_lt, nat_le, ◌&&◌, ◌||◌, ◌==◌, List, [], ◌∷◌, flat_map, find, length, Option, Some, None, bytes_eq, is_none}
use Rattle.std.specs.List.{list_all}
use Rattle.std.specs.Cmp.Lexicographic.{pointwise}
use Rattle.fleet_model.specs.Nodes.{is_among, NodeName, L0, Run, Node, Segment, names, names_contain}
use Rattle.fleet_model.specs.Jobs.{JobSpec, ids_eq, Job, Submitted, Scheduled, Compacted, has_status, status_eq, is_active, is_finished, ids, trimmed_jobs, number_of, contains, drawn_base}
use Rattle.fleet_model.specs.History.{Entry}
use Rattle.fleet_model.specs.Store.{Store, fresh_store, stored_jobs, jobs_in, records_epoch}
use Rattle.fleet_model.specs.Handles.{tree_tables, job_tables}
use Rattle.fleet_model.specs.Past.Replay.{named_specs, replayed_objects, plain_objects}
use Rattle.fleet_model.specs.Invariants.AttemptsFit.{was_beaten}
use Rattle.fleet_model.specs.Invariants.JobsFit.{was_joined}
use Rattle.fleet_model.specs.Exchanges.{records_version}
use Rattle.step_model.specs.Steps.PollSteps.{node_eq}
use Rattle.step_model.specs.Kept.Faithful.{spec_or}
use Rattle.step_model.specs.Entries.{drawn_jobs, drawn_tables, mentioned_in, was_named, claimed_attempts, put_tables, put_epochs, was_flushed}
use Rattle.script_model.specs.Tests.TreeTests.{all_pairs}

-- The spec of each job that an entry names. A job that none names has no sources.
abbrev pub specs_in : List Entry → ℕ → JobSpec
specs_in history id =
    spec_or (record { segment = []; sources = []; destination = None })
    (find (λ p. id == p.0) (flat_map (λ entry. named_specs entry.event) history))

-- ---- the replay

abbrev same_seq : (a b : Option ℕ) → Bool
same_seq None None = true
same_seq (Some a) (Some b) = a == b
same_seq _ _ = false

-- Two nodes have the same name, tables and flushes.
abbrev same_node : (a b : Node) → Bool
same_node a b = node_eq a b && ids_eq a.flushes b.flushes

abbrev same_segment : (a b : Segment) → Bool
same_segment a b =
    bytes_eq a.prefix b.prefix && pointwise same_node a.tree b.tree && same_seq a.last_seq b.last_seq
    && same_seq a.watermark b.watermark

abbrev same_job : (a b : Job) → Bool
same_job a b =
    (a.id == b.id) && status_eq a.status b.status && (a.attempt == b.attempt) && ids_eq a.source_tables b.source_tables
    && pointwise ids_eq a.outputs b.outputs

-- The versions, the epochs, the trees and the jobs are those that the history gives.
abbrev pub is_replayed : Store → Bool
is_replayed store =
    let objects = replayed_objects store.tables (specs_in store.history) store.history (plain_objects fresh_store) in
    (store.manifest.version == objects.manifest.version)
    && (store.manifest.epoch == objects.manifest.epoch)
    && pointwise same_segment store.manifest.trees objects.manifest.trees
    && (records_version store.records == records_version objects.records)
    && (records_epoch store.records == records_epoch objects.records)
    && pointwise same_job (stored_jobs store) (jobs_in objects.records)

-- ---- draws and names

-- The numbers of draws rise up to the counters, and the draws are no more than the entries.
abbrev pub are_draws : Store → Bool
are_draws store =
    all_pairs (λ a b. nat_lt (number_of a) (number_of b)) (drawn_jobs store.history)
    && list_all (λ id. nat_le (number_of id) store.jobs_drawn) (drawn_jobs store.history)
    && all_pairs (λ a b. nat_lt (number_of a) (number_of b)) (drawn_tables store.history)
    && list_all (λ id. nat_lt drawn_base (number_of id) && nat_le (number_of id) (drawn_base + store.tables_drawn))
    (drawn_tables store.history)
    && nat_le (store.jobs_drawn + store.tables_drawn) (length store.history)

-- Each job that an entry mentions was drawn, each stored job was named, and the records keep one
-- finished job at most.
abbrev pub are_names : Store → Bool
are_names store =
    list_all (λ entry. list_all (contains (drawn_jobs store.history)) (mentioned_in entry)) store.history
    && list_all (λ job. was_named store.history job.id) (stored_jobs store)
    && ids_eq (ids (trimmed_jobs (stored_jobs store))) (ids (stored_jobs store))

-- No attempt is claimed twice. A Submitted job was never beaten, and a job that waits has no worker.
abbrev pub are_attempts : Store → Bool
are_attempts store =
    all_pairs (λ a b. not ((a.0 == b.0) && (a.1 == b.1))) (claimed_attempts store.history)
    && list_all (λ job. not (has_status Submitted job) || not (was_beaten store.history job.id)) (stored_jobs store)
    && list_all (λ job. not (has_status Submitted job || has_status Scheduled job) || is_none job.lease)
    (stored_jobs store)

-- ---- tables, joins and epochs

abbrev is_flush : List Entry → Node → NodeName → Bool
is_flush history node (L0 name) =
    was_flushed history name && ids_eq node.pieces (name ∷ []) && ids_eq node.flushes (name ∷ [])
is_flush history node (Run id) = list_all (was_flushed history) node.flushes

abbrev is_passed : List Entry → List NodeName → Option ℕ → Bool
is_passed history nodes None = true
is_passed history nodes (Some flush) = was_flushed history flush && not (names_contain nodes (L0 flush))

abbrev name_apart : (a b : Job) → Bool
name_apart a b = not (is_active a && is_active b) || list_all (λ t. not (contains (job_tables b) t)) (job_tables a)

-- Each table is put once. The flushes of nodes took effect, watermarks are passed, and no table is in
-- two trees or named by two active jobs, whose tables were drawn.
abbrev pub are_puts : Store → Bool
are_puts store =
    all_pairs (λ a b. not (a == b)) (put_tables store.history)
    && list_all (is_among store.tables) (put_tables store.history)
    && list_all
    (λ s. list_all (λ node. is_flush store.history node node.name) s.tree
    && is_passed store.history (names s.tree) s.watermark) store.manifest.trees
    && all_pairs (λ a b. list_all (λ t. not (contains (tree_tables b) t)) (tree_tables a)) store.manifest.trees
    && all_pairs name_apart (stored_jobs store)
    && list_all (λ job. not (is_active job) || list_all (contains (drawn_tables store.history)) (job_tables job))
    (stored_jobs store)

-- A job whose join took effect is Compacted or finished. The epochs that were put rise up to the
-- stored one.
abbrev pub are_joins_and_epochs : Store → Bool
are_joins_and_epochs store =
    list_all (λ job. not (was_joined store.history job.id) || has_status Compacted job || is_finished job.status)
    (stored_jobs store)
    && list_all (λ epoch. nat_le epoch store.manifest.epoch) (put_epochs store.history)
    && all_pairs nat_lt (put_epochs store.history)
