-- What the objects in memory show of themselves.
use Rattle.std.specs.Prelude.{ℕ, List}
use Rattle.pt_base.specs.declared.calls.Calls.{Calls}
use Rattle.pt_base.specs.declared.byte_sink.ByteSink.{ByteSink}

-- the bytes that a sink has taken
abbrev pub bytes_taken : ByteSink → List ℕ
bytes_taken s = s.bytes.items

-- the calls of a sink
abbrev pub sink_calls : ByteSink → Calls
sink_calls s = s.calls
