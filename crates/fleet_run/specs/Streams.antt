-- How contracts see streams as a source and a sink. They do not see the bytes.
use Rattle.std.specs.Prelude.{None}
use Rattle.fleet_run.specs.SourceAndSink.{SourceView, SinkView}
use Rattle.fleet_run.specs.declared.stream.StreamSource.{StreamSource}
use Rattle.fleet_run.specs.declared.stream.StreamSink.{StreamSink}

abbrev pub source_view : {R : Type 0} → StreamSource R → SourceView
source_view s = record { left = None; given = s.given; ended = s.ended; faults = s.faults }

abbrev pub sink_view : {W : Type 0} → StreamSink W → SinkView
sink_view s = record { written = None; taken = s.taken; faults = s.faults }
