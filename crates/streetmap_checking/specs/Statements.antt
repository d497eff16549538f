-- The texts of the statements.
use Rattle.std.specs.Prelude.{ℕ, List, codes}

-- all rows of the table of the format
abbrev pub select_formats : List ℕ
select_formats = codes "SELECT name, value FROM streetmap_meta ORDER BY name"

-- the features of a collection
abbrev pub select_features : List ℕ
select_features = codes
    "SELECT id, body, x0, y0, x1, y1, s0, s1 FROM streetmap_features WHERE collection = ?1 ORDER BY id"

-- the collections that all features name
abbrev pub select_owners : List ℕ
select_owners = codes "SELECT collection FROM streetmap_features ORDER BY collection"

-- all columns of all batches
abbrev pub select_batches : List ℕ
select_batches = codes
    "SELECT key, body, opened, inserted, replaced, deleted, serial FROM streetmap_batches ORDER BY key"
