-- How contracts see the source and the sink that never fail.
use Rattle.std.specs.Prelude.{Some, None}
use Rattle.fleet_run.specs.SourceAndSink.{SourceView, SinkView}
use Rattle.fleet_run.specs.declared.slice_streams.SafeSource.{SafeSource}
use Rattle.fleet_run.specs.declared.slice_streams.SafeSink.{SafeSink}

abbrev pub safe_source_view : SafeSource → SourceView
safe_source_view s = record { left = Some s.left.now; given = s.given; ended = s.ended; faults = 0 }

abbrev pub safe_sink_view : SafeSink → SinkView
safe_sink_view s = record { written = None; taken = s.taken; faults = 0 }
