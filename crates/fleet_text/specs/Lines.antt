-- The program's lines, seen as the model's lines.
use Rattle.std.specs.Prelude.{List, map}
use Rattle.fleet_rows.specs.Row.{rows_of}
use Rattle.fleet_model.specs.Nodes as nodes
use Rattle.script_model.specs.Script as model
use Rattle.fleet_text.specs.declared.node.NodeName.{NodeName}
use Rattle.fleet_text.specs.declared.node.NodeName.TheVariants.{L0, Run}
use Rattle.fleet_text.specs.declared.line.Line.{Line}
use Rattle.fleet_text.specs.declared.line.Line.TheVariants.{Options, Clock, StartCoordinator, StartWorker, KillCoordinator, KillWorker, StopCoordinator, StopWorker, Flush, Read, Submit, Drain, Full, Poll, Commit, Claim, Heartbeat, Output, Finish, Fault, Trees, Jobs, Tables, Dump, Sweep, Scan, Settle, Together}

abbrev pub node_of : NodeName → nodes.NodeName
node_of (L0 name) = nodes.L0 name
node_of (Run id) = nodes.Run id

abbrev pub nodes_of : List NodeName → List nodes.NodeName
nodes_of nodes = map node_of nodes

abbrev pub line_of : Line → model.Line
line_of (Options timeout concurrent slots ranges table_size moves retention) =
    model.Options timeout concurrent slots ranges table_size moves retention
line_of (Clock moment) = model.Clock moment
line_of (StartCoordinator number) = model.StartCoordinator number
line_of (StartWorker number release) = model.StartWorker number release
line_of (KillCoordinator number) = model.KillCoordinator number
line_of (KillWorker number) = model.KillWorker number
line_of (StopCoordinator number) = model.StopCoordinator number
line_of (StopWorker number) = model.StopWorker number
line_of (Flush name segment floor tick rows) = model.FlushRows name segment floor tick (rows_of rows)
line_of (Read segment key seq now) = model.ReadKey segment key seq now
line_of (Submit segment destination sources) = model.SubmitJob segment destination (nodes_of sources)
line_of (Drain segment sources) = model.SubmitDrain segment (nodes_of sources)
line_of (Full segment) = model.SubmitFull segment
line_of (Poll coordinator) = model.Poll coordinator
line_of (Commit coordinator) = model.CommitOnly coordinator
line_of (Claim worker) = model.ClaimJobs worker
line_of (Heartbeat worker) = model.Heartbeat worker
line_of (Output worker job range rows) = model.Output worker job range rows
line_of (Finish worker job) = model.FinishJob worker job
line_of (Fault k stands) = model.SetFault k stands
line_of Trees = model.ShowTrees
line_of Jobs = model.ShowJobs
line_of (Tables segment node) = model.ShowTables segment (node_of node)
line_of (Dump segment node) = model.Dump segment (node_of node)
line_of Sweep = model.Sweep
line_of (Scan segment from to seq now limit) = model.Scan segment from to seq now limit
line_of (Settle coordinator worker rounds) = model.Settle coordinator worker rounds
line_of (Together workers turns) = model.Together workers turns

abbrev pub lines_of : List Line → List model.Line
lines_of lines = map line_of lines
