-- The adapters over std's readers and writers.
use Rattle.std.specs.Prelude.{ℕ}
use Rattle.mesh_io.specs.declared.stream.StdSource.{StdSource}
use Rattle.mesh_io.specs.declared.stream.StdSink.{StdSink}

-- the reader that is read
abbrev pub reader_of : {R : Type 0} → StdSource R → R
reader_of source = source.reader

-- how often the reader failed
abbrev pub read_faults : {R : Type 0} → StdSource R → ℕ
read_faults source = source.faults

-- the writer that is written to
abbrev pub writer_of : {W : Type 0} → StdSink W → W
writer_of sink = sink.writer

-- how often the writer, or a flush of it, failed
abbrev pub write_faults : {W : Type 0} → StdSink W → ℕ
write_faults sink = sink.faults
