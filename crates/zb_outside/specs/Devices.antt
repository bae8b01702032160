-- What contracts see of the streams and the clock in memory.
use Rattle.std.specs.Prelude.{ℕ, ◌+◌, List}
use Rattle.zb_outside.specs.declared.mem_source.MemSource.{MemSource}
use Rattle.zb_outside.specs.declared.mem_sink.MemSink.{MemSink}
use Rattle.zb_outside.specs.declared.list_clock.ListClock.{ListClock}
use Rattle.zb_outside.specs.Clock.{told_at}

-- how many bytes a source gives at most a read
abbrev pub piece_of : MemSource → ℕ
piece_of source = source.piece

-- the numbers of the reads that fail
abbrev pub failing_reads : MemSource → List ℕ
failing_reads source = source.fails.items

-- how often the source was read
abbrev pub reads_made : MemSource → ℕ
reads_made source = source.reads

-- the numbers of the calls of a sink that fail
abbrev pub failing_calls : MemSink → List ℕ
failing_calls sink = sink.fails.items

-- how often the sink was called
abbrev pub calls_made : MemSink → ℕ
calls_made sink = sink.calls

-- the moments that a clock reads one after another
abbrev pub moments_listed : ListClock → List ℕ
moments_listed clock = clock.moments.items

-- what it will read after so many readings more
abbrev pub upcoming_in : ListClock → ℕ → ℕ
upcoming_in clock k = told_at clock.moments.items (k + clock.readings)
