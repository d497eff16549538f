-- The faults that may end the answering of lines, by its parts.
use Rattle.std.specs.Prelude.{◌⊎◌, ⊤}
use Rattle.streetmap_lines.specs.declared.fault.LinesFault.{LinesFault}
use Rattle.streetmap_lines.specs.declared.fault.LinesFault.TheVariants.{LineTooLong, ReadFailed}
use Rattle.streetmap_lines.specs.declared.fault.LinesFault.TheVariants.{WriteFailed}
use Rattle.streetmap_lines.specs.declared.fault.LinesFault.TheVariants.{FlushFailed, Memory}

-- the faults of a write: memory runs out, or the write fails
abbrev pub IsWriteFault : LinesFault → Type 0
IsWriteFault LineTooLong = ⊥
IsWriteFault ReadFailed = ⊥
IsWriteFault WriteFailed = ⊤
IsWriteFault FlushFailed = ⊥
IsWriteFault Memory = ⊤

-- the faults of a flush: memory runs out, or the flush fails
abbrev pub IsFlushFault : LinesFault → Type 0
IsFlushFault LineTooLong = ⊥
IsFlushFault ReadFailed = ⊥
IsFlushFault WriteFailed = ⊥
IsFlushFault FlushFailed = ⊤
IsFlushFault Memory = ⊤

-- the faults of an answer: that of a write, or of the flush after it
abbrev pub IsAnswerFault : LinesFault → Type 0
IsAnswerFault fault = IsWriteFault fault ⊎ IsFlushFault fault

-- the faults of reading a line: it is too long, memory runs out, or the read fails
abbrev pub IsLineFault : LinesFault → Type 0
IsLineFault LineTooLong = ⊤
IsLineFault ReadFailed = ⊤
IsLineFault WriteFailed = ⊥
IsLineFault FlushFailed = ⊥
IsLineFault Memory = ⊤
