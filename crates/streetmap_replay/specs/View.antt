-- A line of the code as a plain value.
use Rattle.std.specs.Prelude.{ℕ, List, Option, None, Some}
use Rattle.streetmap_replay.specs.Lines.{Line as LineValue, bare, numbered}
use Rattle.streetmap_replay.specs.declared.line_bytes.Line.{Line}

-- a text with its serial, if it has one
abbrev pub line_with : Option ℕ → List ℕ → LineValue
line_with None text = bare text
line_with (Some serial) text = numbered serial text

abbrev pub line_value : Line → LineValue
line_value line = line_with line.serial line.text.now
