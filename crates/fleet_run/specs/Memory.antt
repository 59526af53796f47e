-- How contracts see the source and the sink in memory.
use Rattle.std.specs.Prelude.{ℕ, List, Some}
use Rattle.fleet_run.specs.SourceAndSink.{SourceView, SinkView}
use Rattle.fleet_run.specs.declared.memory.MemSource.{MemSource}
use Rattle.fleet_run.specs.declared.memory.MemSink.{MemSink}

abbrev pub source_view : MemSource → SourceView
source_view s = record { left = Some s.left.now; given = s.given; ended = s.ended; faults = s.faults }

-- The calls at which the source fails, counted from 1.
abbrev pub source_failing : MemSource → List ℕ
source_failing s = s.failing.now

abbrev pub sink_bytes : MemSink → List ℕ
sink_bytes s = s.bytes.items

abbrev pub sink_view : MemSink → SinkView
sink_view s = record { written = Some (sink_bytes s); taken = s.taken; faults = s.faults }

abbrev pub sink_failing : MemSink → List ℕ
sink_failing s = s.failing.now
