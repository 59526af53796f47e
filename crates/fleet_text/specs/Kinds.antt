-- What a line holds, as a copy of it is made.
use Rattle.std.specs.Prelude.{Bool, true, false}
use Rattle.fleet_text.specs.declared.line.Line.{Line}
use Rattle.fleet_text.specs.declared.line.Line.TheVariants.{StartCoordinator, StartWorker, KillCoordinator, KillWorker, StopCoordinator, StopWorker, Flush, Read, Submit, Drain, Full, Poll, Commit, Claim, Heartbeat, Output, Tables, Dump, Scan, Settle}

-- The line holds bytes, rows or nodes, so a copy of it takes memory.
abbrev pub takes_memory : Line → Bool
takes_memory (Flush name segment floor tick rows) = true
takes_memory (Read segment key seq now) = true
takes_memory (Submit segment destination sources) = true
takes_memory (Drain segment sources) = true
takes_memory (Full segment) = true
takes_memory (Tables segment node) = true
takes_memory (Dump segment node) = true
takes_memory (Scan segment from to seq now limit) = true
takes_memory _ = false

-- The line names a coordinator or a worker, or both, and is neither a finish nor a together line.
abbrev pub names_party : Line → Bool
names_party (StartCoordinator number) = true
names_party (StartWorker number release) = true
names_party (KillCoordinator number) = true
names_party (KillWorker number) = true
names_party (StopCoordinator number) = true
names_party (StopWorker number) = true
names_party (Poll coordinator) = true
names_party (Commit coordinator) = true
names_party (Claim worker) = true
names_party (Heartbeat worker) = true
names_party (Output worker job range rows) = true
names_party (Settle coordinator worker rounds) = true
names_party _ = false
