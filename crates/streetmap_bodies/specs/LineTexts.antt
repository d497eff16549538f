-- The texts of the parts of a line.
use Rattle.std.specs.Prelude.{ℕ, List, [], ◌++◌, Option, None, Some, codes}
use Rattle.serde_json.specs.Data.{string}
use Rattle.serde_json.specs.Written.{compact_text}

-- the text of the member `next`
abbrev pub next_text : Option (List ℕ) → List ℕ
next_text None = []
next_text (Some id) = codes ",\"next\":" ++ compact_text (string id)
