-- A store in the midst of two jobs, with its past.
-- - Flush 1 went into the segment of the prefix "b", flush 2 into the root segment, and flush 3 into
--   the root segment later.
-- - Job 1 makes a run of flush 1. Worker 1 took it, wrote the first of its two rows into a table and
--   published that table with a heartbeat. Then the job was freed, and worker 2 took it as its second
--   attempt, with the published context.
-- - Job 2 makes a run of flush 2, which has two versions of a key. Worker 2 finished it, with the
--   newer version alone. A commit joined its run, but the put of the records that comes next was
--   lost. So the records still have the job as Compacted.
-- The history leaves out the gets that no claim needs.
use Rattle.std.specs.Prelude.{ℕ, ◌+◌, ◌==◌, if◌then◌else◌, List, [], ◌∷◌, ◌++◌, true, pos, Some, None}
use Rattle.row_model.specs.Rows.{Row, Value}
use Rattle.row_model.specs.Ranges.{all_keys}
use Rattle.fleet_model.specs.Nodes.{L0, Run, Node, Tables, Trees, Segment}
use Rattle.fleet_model.specs.Jobs.{drawn_base, Job, Jobs, Running, Compacted, Context, JobSpec}
use Rattle.fleet_model.specs.History.{Entry, Party, Writer, Submitter, Coordinator, Worker, Event, GetManifest, PutTable, PutManifest, PutRecords, DrawJob, DrawTable, Plan, ManifestEpoch, Flush, Commit, Join, RecordsEpoch, Submit, Polled, PollChange, Claim, Beat, Finish, Answer, Done, Lost}
use Rattle.fleet_model.specs.Trees.{empty_segment}
use Rattle.fleet_model.specs.Store.{Manifest, fresh_store}
use Rattle.step_model.specs.Past.{World}

-- ---- tables

-- A row that gives the key a value of one byte.
abbrev pub row : List ℕ → ℕ → Row
row key seq = record { key = key; content = Value (seq ∷ []); seq = seq; created = None; expires = None }

-- The prefix of the second segment.
abbrev pub prefix : List ℕ
prefix = 0x62 ∷ []

-- The id of the table that worker 1 published for job 1.
abbrev pub published_table : ℕ
published_table = drawn_base + 1

-- The id of the table that worker 2 made for job 2.
abbrev pub made_table : ℕ
made_table = drawn_base + 2

-- The tables that were put, in the order of their puts.
abbrev pub tables : Tables
tables =
    (1, row (0x62 ∷ 0x31 ∷ []) 1 ∷ row (0x62 ∷ 0x32 ∷ []) 2 ∷ [])
    ∷ (2, row (0x61 ∷ []) 4 ∷ row (0x61 ∷ []) 3 ∷ [])
    ∷ (published_table, row (0x62 ∷ 0x31 ∷ []) 1 ∷ [])
    ∷ (made_table, row (0x61 ∷ []) 4 ∷ [])
    ∷ (3, row (0x61 ∷ []) 5 ∷ [])
    ∷ []

-- ---- jobs

-- The spec of a job that makes a run of one flush.
abbrev pub spec : (segment : List ℕ) (flush id : ℕ) → JobSpec
spec segment flush id = record { segment = segment; sources = L0 flush ∷ []; destination = Some id }

-- The spec of job 1, or that of job 2 for every other id.
abbrev pub spec_of : ℕ → JobSpec
spec_of id = if id == 1 then spec prefix 1 0 else spec [] 2 1

-- The context that worker 1 published for job 1.
abbrev pub context : Context
context = record {
  settings = record { floor = 4; tick = pos 0; last_run = true; cut = 4 };
  has_cut = true;
  ranges = (all_keys, published_table ∷ []) ∷ [];
}

-- The record of job 1, which runs at its second attempt.
abbrev pub running_job : Job
running_job = record {
  id = 1;
  spec = spec prefix 1 0;
  status = Running;
  lease = Some (record { worker = 2; heartbeat = 900 });
  attempt = 2;
  source_tables = 1 ∷ [];
  context = Some context;
  outputs = [];
  kept_cut = None;
}

-- The record of job 2, whose join took effect.
abbrev pub compacted_job : Job
compacted_job = record {
  id = 2;
  spec = spec [] 2 1;
  status = Compacted;
  lease = Some (record { worker = 2; heartbeat = 950 });
  attempt = 1;
  source_tables = 2 ∷ [];
  context = None;
  outputs = (made_table ∷ []) ∷ [];
  kept_cut = Some 4;
}

-- The stored jobs.
abbrev pub jobs : Jobs
jobs = running_job ∷ compacted_job ∷ []

-- ---- manifests

-- A node that is a flush.
abbrev pub flush : ℕ → Node
flush name = record { name = L0 name; flushes = name ∷ []; pieces = name ∷ [] }

-- The segment of the prefix, with flush 1.
abbrev pub side : Segment
side = record { prefix = prefix; tree = flush 1 ∷ []; last_seq = Some 2; watermark = None }

-- The root segment before the join, with flush 2.
abbrev pub flushed_root : Segment
flushed_root = record { prefix = []; tree = flush 2 ∷ []; last_seq = Some 4; watermark = None }

-- The root segment before the join, with flush 3 too.
abbrev pub twice_flushed_root : Segment
twice_flushed_root = record { prefix = []; tree = flush 3 ∷ flush 2 ∷ []; last_seq = Some 5; watermark = None }

-- The run of job 2. It has one of the two rows of flush 2.
abbrev pub run_node : Node
run_node = record { name = Run 1; flushes = 2 ∷ []; pieces = made_table ∷ [] }

-- The root segment after the join. The run has replaced flush 2.
abbrev pub joined_root : Segment
joined_root = record {
  prefix = [];
  tree = flush 3 ∷ run_node ∷ [];
  last_seq = Some 5;
  watermark = Some 2;
}

-- A manifest of the coordinator's epoch, without tracked flushes.
abbrev pub manifest : (version : ℕ) → Trees → (floor horizon : ℕ) → Manifest
manifest version trees floor horizon = record {
  version = version;
  epoch = 1;
  trees = trees;
  floor = floor;
  tick = pos 0;
  tracker = [];
  horizon = horizon;
}

-- The manifest that is stored now.
abbrev pub joined_manifest : Manifest
joined_manifest = manifest 6 (joined_root ∷ side ∷ []) 5 4

-- The manifest after flush 2, which all claims found.
abbrev pub claimed_manifest : Manifest
claimed_manifest = manifest 4 (flushed_root ∷ side ∷ []) 4 0

-- All manifests that were stored, with the one that is stored now.
abbrev pub past : List Manifest
past =
    fresh_store.manifest
    ∷ record fresh_store.manifest { version = 2; epoch = 1 }
    ∷ manifest 3 (empty_segment [] ∷ side ∷ []) 2 0
    ∷ claimed_manifest
    ∷ manifest 5 (twice_flushed_root ∷ side ∷ []) 5 0
    ∷ joined_manifest
    ∷ []

-- ---- the history

-- An entry of the history with these parts.
abbrev pub entry : (line : ℕ) (party : Party) (event : Event) (answer : Answer) → Entry
entry line party event answer = record { line = line; party = party; event = event; answer = answer }

-- The change of a poll that frees, completes and opens these jobs.
abbrev pub poll : (freed completed scheduled : List ℕ) → PollChange
poll freed completed scheduled = record {
  freed = freed;
  completed = completed;
  failed = [];
  added = [];
  scheduled = scheduled;
}

-- The history up to the beat of worker 1.
abbrev pub first_entries : List Entry
first_entries =
    entry 1 (Coordinator 1) (PutManifest (ManifestEpoch 1)) (Done 2)
    ∷ entry 1 (Coordinator 1) (PutRecords (RecordsEpoch 1)) (Done 1)
    ∷ entry 2 Writer (PutTable 1 2) (Done 0)
    ∷ entry 2 Writer (PutManifest (Flush 1 prefix 2 (pos 0))) (Done 3)
    ∷ entry 3 Writer (PutTable 2 2) (Done 0)
    ∷ entry 3 Writer (PutManifest (Flush 2 [] 4 (pos 0))) (Done 4)
    ∷ entry 4 Submitter (DrawJob 1) (Done 0)
    ∷ entry 4 Submitter (DrawJob 2) (Done 0)
    ∷ entry 4 Submitter (PutRecords (Submit ((1, spec prefix 1 0) ∷ (2, spec [] 2 1) ∷ []))) (Done 2)
    ∷ entry 5 (Coordinator 1) (PutRecords (Polled (poll [] [] (1 ∷ 2 ∷ [])))) (Done 3)
    ∷ entry 6 (Worker 1) (PutRecords (Claim 1 ((1, 1) ∷ []))) (Done 4)
    ∷ entry 6 (Worker 1) GetManifest (Done 4)
    ∷ entry 6 (Worker 1) (Plan 1 1 (all_keys ∷ [])) (Done 0)
    ∷ entry 7 (Worker 1) (DrawTable published_table) (Done 0)
    ∷ entry 7 (Worker 1) (PutTable published_table 1) (Done 0)
    ∷ entry 8 (Worker 1) (PutRecords (Beat 1 ((1, 1) ∷ []))) (Done 5)
    ∷ []

-- The history from then on.
abbrev pub last_entries : List Entry
last_entries =
    entry 9 (Worker 2) (PutRecords (Claim 2 ((2, 1) ∷ []))) (Done 6)
    ∷ entry 9 (Worker 2) GetManifest (Done 4)
    ∷ entry 9 (Worker 2) (Plan 2 1 (all_keys ∷ [])) (Done 0)
    ∷ entry 10 (Coordinator 1) (PutRecords (Polled (poll (1 ∷ []) [] []))) (Done 7)
    ∷ entry 11 (Worker 2) (PutRecords (Claim 2 ((1, 2) ∷ []))) (Done 8)
    ∷ entry 11 (Worker 2) GetManifest (Done 4)
    ∷ entry 12 (Worker 2) (DrawTable made_table) (Done 0)
    ∷ entry 12 (Worker 2) (PutTable made_table 1) (Done 0)
    ∷ entry 13 (Worker 2) (PutRecords (Finish 2 2 1 ((made_table ∷ []) ∷ []))) (Done 9)
    ∷ entry 14 Writer (PutTable 3 1) (Done 0)
    ∷ entry 14 Writer (PutManifest (Flush 3 [] 5 (pos 0))) (Done 5)
    ∷ entry 15 (Coordinator 1) (PutManifest (Commit (Join 2 ∷ []))) (Done 6)
    ∷ entry 15 (Coordinator 1) (PutRecords (Polled (poll [] (2 ∷ []) []))) Lost
    ∷ []

-- The whole history.
abbrev pub history : List Entry
history = first_entries ++ last_entries

-- ---- the store

-- The store with its past.
abbrev pub midway_world : World
midway_world = record {
  store = record {
    manifest = joined_manifest;
    records = Some (record { version = 9; epoch = 1; jobs = jobs });
    tables = tables;
    deleted = [];
    jobs_drawn = 2;
    tables_drawn = 2;
    history = history;
  };
  past = past;
}
