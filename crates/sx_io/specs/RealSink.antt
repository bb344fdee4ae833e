-- What clauses read of a sink over one of std's writers.
use Rattle.std.specs.Prelude.{ℕ}
use Rattle.sx_io.specs.declared.real_sink.RealSink.{RealSink}

-- the writer inside
abbrev pub sink_writer : {W : Type 0} → RealSink W → W
sink_writer s = s.writer

-- the count of faults
abbrev pub sink_faults : {W : Type 0} → RealSink W → ℕ
sink_faults s = s.faults
