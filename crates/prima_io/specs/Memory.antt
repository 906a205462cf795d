-- What the sources and the sink in memory hold.
use Rattle.std.specs.Prelude.{ℕ, List, drop}
use Rattle.prima_io.specs.declared.memory.MemSource.{MemSource}
use Rattle.prima_io.specs.declared.memory.MemSink.{MemSink}
use Rattle.prima_io.specs.declared.sure.SureSource.{SureSource}

-- the bytes that are left to hand out
abbrev pub source_left : MemSource → List ℕ
source_left s = drop s.at s.bytes.items

-- how many bytes it hands out in one call at most
abbrev pub source_most : MemSource → ℕ
source_most s = s.most

-- the numbers of the calls that fail
abbrev pub source_failing : MemSource → List ℕ
source_failing s = s.failing.items

-- how many calls there were
abbrev pub source_calls : MemSource → ℕ
source_calls s = s.calls

-- how many of them failed
abbrev pub source_faults : MemSource → ℕ
source_faults s = s.faults

-- the bytes that it was given
abbrev pub sink_written : MemSink → List ℕ
sink_written s = s.bytes.items

-- how many bytes it has room for in all
abbrev pub sink_room : MemSink → ℕ
sink_room s = s.room

-- the numbers of the calls that fail
abbrev pub sink_failing : MemSink → List ℕ
sink_failing s = s.failing.items

-- how many calls there were
abbrev pub sink_calls : MemSink → ℕ
sink_calls s = s.calls

-- how many of them failed
abbrev pub sink_faults : MemSink → ℕ
sink_faults s = s.faults

-- the bytes that are left to hand out
abbrev pub sure_left : SureSource → List ℕ
sure_left s = drop s.at s.bytes.items
