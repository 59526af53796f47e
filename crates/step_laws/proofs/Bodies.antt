-- The invariant and the facts, with what they say of each job in one record. So a law about a call looks at each job once.
use Rattle.std.proofs.Common.{◌≡◌, ℕ, List, false}
use Rattle.std.specs.Prelude.{◌≢◌, ◌||◌, IsTrue, is_none}
use Rattle.std.specs.List.{AllByRecursion}
use Rattle.row_model.specs.Lists.{Pairs}
use Rattle.row_model.specs.Fold.{Operator}
use Rattle.fleet_model.specs.Nodes.{Trees}
use Rattle.fleet_model.specs.Jobs.{JobSpec, Job, Submitted, Scheduled, Compacted, has_status, is_active, is_finished, contains, trimmed_jobs}
use Rattle.fleet_model.specs.History.{Entry, stood}
use Rattle.fleet_model.specs.Store.{Manifest, Store, stored_jobs, fresh_store, AreHeld, WerePut}
use Rattle.fleet_model.specs.Past.Replay.{plain_objects, replayed_objects}
use Rattle.fleet_model.specs.Invariants.TreesFit.{IsSound, AreTrees}
use Rattle.fleet_model.specs.Invariants.JobsFit.{NodesHeldOnce, OpenedStands, OutputsFit, was_joined}
use Rattle.fleet_model.specs.Invariants.AttemptsFit.{JobContext, was_beaten}
use Rattle.fleet_model.specs.Invariants.ReadsFit.{TreeKeepsReads}
use Rattle.fleet_model.specs.Work.Gates.{reserves_nodes}
use Rattle.fleet_model.specs.Handles.{job_tables}
use Rattle.fleet_model.specs.Invariants.Invariant.{StoreInvariant, JobTablesHeld}
use Rattle.step_model.specs.Past.{World}
use Rattle.step_model.specs.Entries.{drawn_jobs, drawn_tables, mentioned_in, was_named, attempts_in, planned_attempts, claimed_attempts}
use Rattle.step_model.specs.Kept.Faithful.{Faithful}
use Rattle.step_model.specs.LawfulTables.{was_piece}
use Rattle.step_model.specs.Kept.NamesKept.{DrawsKept, IsUpTo}
use Rattle.step_model.specs.Kept.TablesKept.{PutsKept, PiecesKept, IsFlushed, NameApart, is_unjoined}
use Rattle.step_model.specs.Kept.JoinsKept.{JoinStands, joins_in}
use Rattle.step_model.specs.Kept.Facts.{EpochsKept, PastKept}
use Rattle.step_model.specs.Kept.Keeps.{Keeps}
use Rattle.step_laws.proofs.Elements.{all_at, all_from, all_to}

-- ---- one job

-- What the facts say of a stored job.
pub record JobFacts (history : List Entry) (past : List Manifest) (trees : Trees) (job : Job) : Type 0 where
  pub named : IsTrue (was_named history job.id)
  pub unbeaten : IsTrue (has_status Submitted job) → was_beaten history job.id ≡ false
  pub unleased : IsTrue (has_status Submitted job || has_status Scheduled job) → IsTrue (is_none job.lease)
  pub flushed : IsTrue (reserves_nodes job) → AllByRecursion (IsFlushed history) job.spec.sources
  pub drawn : IsTrue (is_active job) → AllByRecursion (λ table. IsTrue (contains (drawn_tables history) table)) (job_tables job)
  pub unused : IsTrue (is_unjoined history job) → AllByRecursion (λ table. was_piece past table ≡ false) (job_tables job)
  pub late : IsTrue (was_joined history job.id) → IsTrue (has_status Compacted job || is_finished job.status)
  pub stand : IsTrue (has_status Compacted job) → IsTrue (was_joined history job.id) → JoinStands past trees job

-- What the invariant says of a stored job.
pub record JobFits (merge : Operator) (store : Store) (specs : ℕ → JobSpec) (job : Job) : Type 0 where
  pub sources : OpenedStands store job
  pub context : JobContext merge store specs job
  pub outputs : IsTrue (has_status Compacted job) → OutputsFit merge store specs job
  pub tables : IsTrue (is_active job) → JobTablesHeld store job

-- Both, and the spec that each faithful replay has for the job.
pub record JobKept (merge : Operator) (world : World) (specs : ℕ → JobSpec) (job : Job) : Type 0 where
  pub fits : JobFits merge world.store specs job
  pub facts : JobFacts world.store.history world.past world.store.manifest.trees job
  pub spec : (others : ℕ → JobSpec) → Faithful world others → others job.id ≡ job.spec

-- ---- the whole

-- Everything but the facts on draws and on puts of tables.
pub record Body (merge : Operator) (world : World) (specs : ℕ → JobSpec) : Type 0 where
  pub sound : IsSound world.store
  pub trees : AreTrees world.store
  pub held_once : NodesHeldOnce (stored_jobs world.store)
  pub pieces : AllByRecursion (λ s. AllByRecursion (λ node. AreHeld world.store node.pieces) s.tree) world.store.manifest.trees
  pub flushes : AllByRecursion (λ s. AllByRecursion (λ node. WerePut world.store node.flushes) s.tree) world.store.manifest.trees
  pub reads : AllByRecursion (λ s. TreeKeepsReads merge world.store s.tree) world.store.manifest.trees
  pub objects : plain_objects world.store ≡ replayed_objects world.store.tables specs world.store.history (plain_objects fresh_store)
  pub faithful : Faithful world specs
  pub mentioned : AllByRecursion (λ entry. AllByRecursion (λ id. IsTrue (contains (drawn_jobs world.store.history) id)) (mentioned_in entry)) world.store.history
  pub trimmed_already : trimmed_jobs (stored_jobs world.store) ≡ stored_jobs world.store
  pub up_to : AllByRecursion (λ entry. IsTrue (stood entry.answer) → AllByRecursion (IsUpTo world.store.history (stored_jobs world.store)) (attempts_in entry.event)) world.store.history
  pub planned : AllByRecursion (λ entry. AllByRecursion (IsUpTo world.store.history (stored_jobs world.store)) (planned_attempts entry.event)) world.store.history
  pub once : Pairs (λ a b. a ≢ b) (claimed_attempts world.store.history)
  pub nodes : PiecesKept world.store.history world.past world.store.manifest.trees
  pub name_apart : Pairs NameApart (stored_jobs world.store)
  pub joined : AllByRecursion (λ entry. IsTrue (stood entry.answer) → AllByRecursion (λ id. IsTrue (was_named world.store.history id)) (joins_in entry.event)) world.store.history
  pub epochs : EpochsKept world.store.manifest.epoch world.store.history
  pub past : PastKept world.store.manifest world.past
  pub jobs : AllByRecursion (JobKept merge world specs) (stored_jobs world.store)

-- Everything, by the specs of the replay.
pub record Whole (merge : Operator) (world : World) (specs : ℕ → JobSpec) : Type 0 where
  pub body : Body merge world specs
  pub draws : DrawsKept world.store.jobs_drawn world.store.tables_drawn world.store.history
  pub puts : PutsKept world.store.history world.store.tables

-- If the invariant and the facts hold of a world, so does `Whole`, by the specs of the replay.
pub whole_of : (merge : Operator) (world : World) (k : Keeps merge world) → Whole merge world k.stored.replay.specs
whole_of merge world k =
    let s = k.stored in
    let f = k.facts in
    record {
      body = record {
        sound = s.sound;
        trees = s.trees;
        held_once = s.held_once;
        pieces = s.tables.pieces;
        flushes = s.tables.flushes;
        reads = s.reads;
        objects = s.replay.objects;
        faithful = k.faithful;
        mentioned = f.names.drawn;
        trimmed_already = f.names.trimmed_already;
        up_to = f.attempts.up_to;
        planned = f.attempts.planned;
        once = f.attempts.once;
        nodes = f.pieces;
        name_apart = f.tables.apart;
        joined = f.joins.named;
        epochs = f.epochs;
        past = f.past;
        jobs = all_from _ (stored_jobs world.store) (λ job there. record {
          fits = record {
            sources = all_at _ _ job s.sources there;
            context = all_at _ _ job s.contexts there;
            outputs = all_at _ _ job s.outputs there;
            tables = all_at _ _ job s.tables.jobs there;
          };
          facts = record {
            named = all_at _ _ job f.names.named there;
            unbeaten = all_at _ _ job f.attempts.unbeaten there;
            unleased = all_at _ _ job f.attempts.unleased there;
            flushed = all_at _ _ job f.tables.sources there;
            drawn = all_at _ _ job f.tables.drawn there;
            unused = all_at _ _ job f.tables.unused there;
            late = all_at _ _ job f.joins.late there;
            stand = all_at _ _ job f.joins.stand there;
          };
          spec = λ others faithful. all_at _ _ job (f.names.specs others faithful) there;
        });
      };
      draws = f.draws;
      puts = f.puts;
    }

-- A property of each job, out of what is kept of it.
each : {merge : Operator} {world : World} {specs : ℕ → JobSpec} (P : Job → Type 0) (b : Body merge world specs) → ((job : Job) → JobKept merge world specs job → P job) → AllByRecursion P (stored_jobs world.store)
each {merge} {world} {specs} P b f = all_to (JobKept merge world specs) P (stored_jobs world.store) (λ job there kept. f job kept) b.jobs

-- If `Body` holds of a world, its store meets the invariant.
stored : (merge : Operator) (world : World) (specs : ℕ → JobSpec) → Body merge world specs → StoreInvariant merge world.store
stored merge world specs b = record {
  sound = b.sound;
  replay = record { specs = specs; agrees = b.faithful.agrees; objects = b.objects };
  trees = b.trees;
  held_once = b.held_once;
  sources = each _ b (λ job kept. kept.fits.sources);
  contexts = each _ b (λ job kept. kept.fits.context);
  outputs = each _ b (λ job kept. kept.fits.outputs);
  tables = record { pieces = b.pieces; flushes = b.flushes; jobs = each _ b (λ job kept. kept.fits.tables) };
  reads = b.reads;
}

-- If `Whole` holds of a world, so do the invariant and the facts.
pub keeps_of : (merge : Operator) (world : World) (specs : ℕ → JobSpec) → Whole merge world specs → Keeps merge world
unfolding stored
keeps_of merge world specs w =
    let b = w.body in
    record {
      stored = stored merge world specs b;
      faithful = b.faithful;
      facts = record {
        draws = w.draws;
        names = record {
          drawn = b.mentioned;
          named = each _ b (λ job kept. kept.facts.named);
          specs = λ others faithful. each _ b (λ job kept. kept.spec others faithful);
          trimmed_already = b.trimmed_already;
        };
        attempts = record {
          up_to = b.up_to;
          planned = b.planned;
          once = b.once;
          unbeaten = each _ b (λ job kept. kept.facts.unbeaten);
          unleased = each _ b (λ job kept. kept.facts.unleased);
        };
        puts = w.puts;
        pieces = b.nodes;
        tables = record {
          sources = each _ b (λ job kept. kept.facts.flushed);
          apart = b.name_apart;
          drawn = each _ b (λ job kept. kept.facts.drawn);
          unused = each _ b (λ job kept. kept.facts.unused);
        };
        joins = record {
          named = b.joined;
          late = each _ b (λ job kept. kept.facts.late);
          stand = each _ b (λ job kept. kept.facts.stand);
        };
        epochs = b.epochs;
        past = b.past;
      };
    }
