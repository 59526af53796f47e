-- What lawful calls keep of jobs whose join took effect.
use Rattle.std.specs.Prelude.{◌≡◌, ◌≢◌, ℕ, false, ◌||◌, IsTrue, IfSome, List, [], ◌∷◌, flat_map, Some}
use Rattle.std.specs.List.{AllByRecursion, concat}
use Rattle.fleet_model.specs.Nodes.{Run, names_contain, node_named, tree_at, Trees}
use Rattle.fleet_model.specs.Jobs.{Job, Jobs, Compacted, has_status, is_finished, contains}
use Rattle.fleet_model.specs.History.{Entry, Event, PutManifest, Commit, Step, Join, Move, Drain, stood}
use Rattle.fleet_model.specs.Store.{Manifest}
use Rattle.fleet_model.specs.Handles.{tree_tables}
use Rattle.fleet_model.specs.Invariants.JobsFit.{was_joined}
use Rattle.step_model.specs.Entries.{was_named}
use Rattle.step_model.specs.LawfulTables.{was_piece}

-- A node of a past manifest held the table, and no stored node holds it. It never comes back.
abbrev pub IsGone : List Manifest → Trees → ℕ → Type 0
IsGone past trees table = IsTrue (was_piece past table) × (contains (flat_map tree_tables trees) table ≡ false)

-- The job's join took effect, and a second join of the job changes no tree. There are three cases: a
-- source table is gone; the sources were empty runs, and one of them that is not the destination is
-- gone or no longer empty; or the job made an empty run out of the same run.
pub data JoinStands (past : List Manifest) (trees : Trees) (job : Job) : Type 0 where
  Gone : (table : ℕ) → IsTrue (contains job.source_tables table) → IsGone past trees table → JoinStands past trees job
  NotEmpty : (run : ℕ) → IsTrue (names_contain job.spec.sources (Run run)) → job.spec.destination ≢ Some run
      → job.source_tables ≡ []
      → IfSome (node_named (Run run) (tree_at job.spec.segment trees)) (λ node. node.pieces ≢ [])
      → JoinStands past trees job
  Itself : (run : ℕ) → job.spec.sources ≡ Run run ∷ [] → job.spec.destination ≡ Some run → job.source_tables ≡ []
      → concat job.outputs ≡ [] → JoinStands past trees job

-- The job that a step joins, if it is a join.
abbrev pub join_of : Step → List ℕ
join_of (Join job) = job ∷ []
join_of (Move job) = []
join_of (Drain job) = []

-- The jobs that a commit joins.
abbrev pub joins_in : Event → List ℕ
joins_in (PutManifest (Commit steps)) = flat_map join_of steps
joins_in _ = []

-- Each job whose join took effect was named by a put. If it is stored, it is Compacted or finished.
-- If it is Compacted, a second join of it changes no tree.
pub record JoinsKept (history : List Entry) (past : List Manifest) (trees : Trees) (jobs : Jobs) : Type 0 where
  pub named : AllByRecursion
      (λ entry. IsTrue (stood entry.answer)
      → AllByRecursion (λ id. IsTrue (was_named history id)) (joins_in entry.event)) history
  pub late : AllByRecursion
      (λ job. IsTrue (was_joined history job.id) → IsTrue (has_status Compacted job || is_finished job.status)) jobs
  pub stand : AllByRecursion
      (λ job. IsTrue (has_status Compacted job) → IsTrue (was_joined history job.id) → JoinStands past trees job) jobs
