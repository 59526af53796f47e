-- Worked examples of steps that run while no other party calls the store: which calls they make,
-- and the answers.
use Rattle.std.specs.Prelude.{◌≡◌, ℕ, true, false, List, [], ◌∷◌, map, Option, Some, None}
use Rattle.fleet_model.specs.Nodes.{L0, Run, NodeName, Node, Segment, names}
use Rattle.fleet_model.specs.Jobs.{Job, Compacted}
use Rattle.fleet_model.specs.History.{Coordinator, Event, GetManifest, GetRecords, PutManifest, PutRecords, ManifestEpoch, Commit, Join, RecordsEpoch, Polled, Answer, Done, Absent, Stands}
use Rattle.fleet_model.specs.Store.{Store, fresh_store}
use Rattle.fleet_model.specs.Work.Scheduler.{default_generate}
use Rattle.fleet_model.specs.Work.PollStates.{PollState}
use Rattle.fleet_model.specs.Exchanges.{Fault}
use Rattle.step_model.specs.Courses.StepEnds.{StepEnd, Reports, Fenced}
use Rattle.step_model.specs.Courses.Alone.{AloneEnd, run_alone}
use Rattle.step_model.specs.Steps.Merging.{merged_segment}
use Rattle.step_model.specs.Steps.PollSteps.{PollAsk, start, poll}

-- The calls in the store's history, each with its answer.
abbrev pub calls_in : Store → List (Event × Answer)
calls_in store = map (λ entry. (entry.event, entry.answer)) store.history

-- The run of a coordinator's start over a fresh store, which has no records yet.
abbrev pub started_end : AloneEnd (StepEnd ℕ)
started_end = run_alone 1 (Coordinator 1) start None fresh_store

-- A start gets both objects, puts its epoch into both, and gets them again.
pub record Starts (run : AloneEnd (StepEnd ℕ)) : Type 0 where
  pub calls : calls_in run.store
      ≡ (GetManifest, Done 1) ∷ (GetRecords, Absent) ∷ (PutManifest (ManifestEpoch 1), Done 2)
      ∷ (PutRecords (RecordsEpoch 1), Done 1) ∷ (GetManifest, Done 2) ∷ (GetRecords, Done 1) ∷ []
  pub answer : run.answer ≡ Some (Reports 1)

-- A job that made a run out of the same run, which is empty, and now waits for its commit.
abbrev pub finished_job : Job
finished_job = record {
  id = 1;
  spec = record { segment = []; sources = Run 0 ∷ []; destination = Some 0 };
  status = Compacted;
  lease = Some (record { worker = 1; heartbeat = 0 });
  attempt = 1;
  source_tables = [];
  context = None;
  outputs = [] ∷ [];
  kept_cut = Some 5;
}

-- A store with that job and the empty run that it compacted.
abbrev pub waiting_store : Store
waiting_store = record fresh_store {
  manifest = record fresh_store.manifest {
    version = 3;
    epoch = 1;
    trees =
        record {
          prefix = [];
          tree = record { name = Run 0; flushes = []; pieces = [] } ∷ [];
          last_seq = None;
          watermark = None;
        }
        ∷ [];
    floor = 5;
  };
  records = Some (record { version = 2; epoch = 1; jobs = finished_job ∷ [] });
}

-- A poll of a coordinator of this epoch. Its scheduler proposes nothing and accepts everything.
abbrev pub ask_of : ℕ → PollAsk
ask_of epoch = record {
  epoch = epoch;
  options = record { timeout = 60000; concurrent = 4; moves = false };
  scheduler = record { propose = λ view. []; validate = λ view spec. true; generate = default_generate };
  moment = 0;
  commits_only = false;
}

-- The run of a poll over the store with the waiting job, by a coordinator of this epoch.
abbrev pub polled_end : ℕ → Option Fault → AloneEnd (StepEnd PollState)
polled_end epoch fault = run_alone 1 (Coordinator 1) (poll (ask_of epoch)) fault waiting_store

-- A poll commits the waiting job. It puts the manifest, since the horizon rises although the tree
-- stays as it is, and then the records.
pub record Commits (run : AloneEnd (StepEnd PollState)) : Type 0 where
  pub calls : calls_in run.store
      ≡ (GetManifest, Done 3) ∷ (GetRecords, Done 2) ∷ (PutManifest (Commit (Join 1 ∷ [])), Done 4)
      ∷
      (PutRecords (Polled (record { freed = []; completed = 1 ∷ []; failed = []; added = []; scheduled = [] })), Done 3)
      ∷ []
  pub horizon : run.store.manifest.horizon ≡ 5

-- A coordinator of an older epoch is fenced after its first get.
pub record Fences (run : AloneEnd (StepEnd PollState)) : Type 0 where
  pub calls : calls_in run.store ≡ (GetManifest, Done 3) ∷ []
  pub answer : run.answer ≡ Some (Fenced 1)

-- A fault strikes the third call of a poll, the put of the manifest. The poll ends there, and the
-- put takes effect.
pub record StopsStruck (run : AloneEnd (StepEnd PollState)) : Type 0 where
  pub calls : calls_in run.store
      ≡ (GetManifest, Done 3) ∷ (GetRecords, Done 2) ∷ (PutManifest (Commit (Join 1 ∷ [])), Stands) ∷ []
  pub horizon : run.store.manifest.horizon ≡ 5
  pub answer : run.answer ≡ None

-- ---- merging

-- A node with this name, which has its flushes and tables elsewhere.
abbrev bare : NodeName → Node
bare name = record { name = name; flushes = []; pieces = [] }

-- The root as a coordinator left it: flush 2 and the older ones went into run 0.
abbrev pub local_root : Segment
local_root = record { prefix = []; tree = bare (Run 0) ∷ []; last_seq = Some 2; watermark = Some 2 }

-- The root as it is stored: flushes 3 and 4 have come meanwhile.
abbrev pub stored_root : Segment
stored_root = record {
  prefix = [];
  tree = bare (L0 4) ∷ bare (L0 3) ∷ bare (L0 2) ∷ bare (L0 1) ∷ [];
  last_seq = Some 4;
  watermark = None;
}

-- The merged root has the flushes that are newer than the watermark, and then the local run.
pub record MergesUpToWatermark (merged : Segment) : Type 0 where
  pub nodes : names merged.tree ≡ L0 4 ∷ L0 3 ∷ Run 0 ∷ []
  pub last_seq : merged.last_seq ≡ Some 4
  pub watermark : merged.watermark ≡ Some 2

abbrev pub merged_root : Segment
merged_root = merged_segment (Some local_root) stored_root
