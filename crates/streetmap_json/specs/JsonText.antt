-- The value of JSON bytes.
use Rattle.std.specs.Prelude.{ℕ, List, Option, None, if◌then◌else◌}
use Rattle.std.specs.Str.{is_utf8}
use Rattle.serde_json.specs.Data.{Data}
use Rattle.serde_json.specs.Read.{read}
use Rattle.streetmap_json.specs.NumberText.{with_whole_numbers}

-- the value of a text in UTF-8, if it is JSON (RFC 8259)
abbrev pub utf8_value : List ℕ → Option Data
utf8_value bytes = if is_utf8 bytes then read bytes else None

-- the value of JSON bytes, in which numbers with a fraction of only zeros are whole
abbrev pub json_value : List ℕ → Option Data
json_value bytes = utf8_value (with_whole_numbers bytes)
