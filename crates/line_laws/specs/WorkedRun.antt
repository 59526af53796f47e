-- A worked run, which shows that the premises of the laws on scripts can be met.
use Rattle.std.specs.Prelude.{◌≡◌, ℕ, ◌+◌, true, false, List, [], ◌∷◌, map, pos, None}
use Rattle.std.specs.List.{concat}
use Rattle.row_model.specs.Rows.{Row, Value}
use Rattle.row_model.specs.Append.{append}
use Rattle.fleet_model.specs.Nodes.{L0, Run, Tree, names, tree_at}
use Rattle.fleet_model.specs.Jobs.{number_of, drawn_base}
use Rattle.step_model.specs.Entries.{claimed_attempts}
use Rattle.course_laws.specs.Histories.{committed_jobs}
use Rattle.script_model.specs.Script.{Line, Options, Clock, StartCoordinator, StartWorker, FlushRows, SubmitJob, KillWorker, ReadKey, SubmitDrain, Poll, ClaimJobs, Output, Heartbeat, FinishJob, SetFault, Sweep, Settle}
use Rattle.script_model.specs.States.{State}
use Rattle.script_model.specs.Defaults.{with_quiet_scheduler}
use Rattle.line_laws.specs.Scripts.{HasRun}

-- One row of a key with one byte. Its value is one byte, too.
abbrev pub worked_row : (key seq : ℕ) → List Row
worked_row key seq =
    record { key = key ∷ []; content = Value (0x76 ∷ []); seq = seq; created = None; expires = None } ∷ []

-- The number of the attempt's job, and its own number.
abbrev pub by_number : ℕ × ℕ → ℕ × ℕ
by_number a = (number_of a.0, a.1)

-- The tables of the nodes of a tree, node by node.
abbrev pub tables_of_nodes : Tree → List (List ℕ)
tables_of_nodes tree = map (λ node. node.pieces) tree

-- Two flushes of one key, and a job of both. Worker 1 writes a table of it, publishes this and is killed. After a
-- minute a poll frees the job. Worker 2 takes it over with the table and finishes it. A fault strikes the commit, so
-- coordinator 2 takes over from coordinator 1, and a settle line of it commits the job. Then a third flush is moved, a
-- fourth one of another segment is drained, and a sweep deletes the tables of the first two and of the fourth.
abbrev pub worked_lines : List Line
worked_lines =
    Options 60000 4 4 4 268435456 true None
    ∷ FlushRows 1 [] 0 (pos 0) (worked_row 0x61 1)
    ∷ FlushRows 2 [] 0 (pos 0) (worked_row 0x61 2)
    ∷ StartCoordinator 1
    ∷ StartWorker 1 None
    ∷ SubmitJob [] 0 (L0 2 ∷ L0 1 ∷ [])
    ∷ Poll 1
    ∷ ClaimJobs 1
    ∷ Output 1 1 1 1
    ∷ Heartbeat 1
    ∷ KillWorker 1
    ∷ Clock 60001
    ∷ Poll 1
    ∷ StartWorker 2 None
    ∷ ClaimJobs 2
    ∷ FinishJob 2 1
    ∷ SetFault 3 false
    ∷ Poll 1
    ∷ StartCoordinator 2
    ∷ Settle 2 2 1
    ∷ FlushRows 3 [] 0 (pos 0) (worked_row 0x62 3)
    ∷ SubmitJob [] 1 (L0 3 ∷ [])
    ∷ Poll 2
    ∷ FlushRows 4 (0x62 ∷ []) 0 (pos 0) (worked_row 0x62 4)
    ∷ SubmitDrain (0x62 ∷ []) (L0 4 ∷ [])
    ∷ Poll 2
    ∷ Sweep
    ∷ ReadKey [] (0x61 ∷ []) 9 (pos 0)
    ∷ []

-- These lines run under the operator that joins bytes. The job was claimed twice and committed once. The third flush
-- is a run with its own table, the other segment is empty, three tables are deleted, and the second coordinator and the
-- second worker are live.
pub record WorkedRuns : Type 0 where
  pub last : State
  pub run : HasRun (with_quiet_scheduler append) worked_lines last
  pub taken_over : map by_number (claimed_attempts last.store.history) ≡ (1, 1) ∷ (1, 2) ∷ []
  pub committed : map number_of (committed_jobs last.store.history) ≡ 1 ∷ []
  pub moved : names (tree_at [] last.store.manifest.trees) ≡ Run 1 ∷ Run 0 ∷ []
  pub has_tables : map number_of (concat (tables_of_nodes (tree_at [] last.store.manifest.trees)))
      ≡ 3 ∷ (drawn_base + 1) ∷ (drawn_base + 2) ∷ []
  pub drained : names (tree_at (0x62 ∷ []) last.store.manifest.trees) ≡ []
  pub swept : last.store.deleted ≡ 1 ∷ 2 ∷ 4 ∷ []
  pub coordinators : map (λ c. c.number) last.parties.coordinators ≡ 2 ∷ []
  pub workers : map (λ w. w.number) last.parties.workers ≡ 2 ∷ []
