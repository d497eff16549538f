-- The texts of the statements.
use Rattle.std.specs.Prelude.{ℕ, List, codes}

-- the ids, extents, seconds and rowids of a collection's features
abbrev pub select_outlines : List ℕ
select_outlines = codes
    "SELECT id, x0, y0, x1, y1, s0, s1, rowid FROM streetmap_features WHERE collection = ?1 ORDER BY id"

-- the same in any order, by a pass over the rows of the table, without a lookup
abbrev pub select_outlines_in_turn : List ℕ
select_outlines_in_turn = codes
    "SELECT id, x0, y0, x1, y1, s0, s1, rowid FROM streetmap_features WHERE +collection = ?1"

-- the extents of a collection's features
abbrev pub select_extents : List ℕ
select_extents = codes
    "SELECT x0, y0, x1, y1 FROM streetmap_features WHERE collection = ?1 ORDER BY id"

-- the same in any order, by a pass over the rows of the table, without a lookup
abbrev pub select_extents_in_turn : List ℕ
select_extents_in_turn = codes
    "SELECT x0, y0, x1, y1 FROM streetmap_features WHERE +collection = ?1"

-- the texts of the features whose ids lie between two
abbrev pub select_run : List ℕ
select_run = codes
    "SELECT body FROM streetmap_features WHERE collection = ?1 AND id >= ?2 AND id <= ?3 ORDER BY id"

-- the text of a feature, and the first second of its time or NULL
abbrev pub select_text : List ℕ
select_text = codes
    "SELECT body, s0 FROM streetmap_features WHERE collection = ?1 AND id = ?2"

-- the same, if the feature's row has this rowid
abbrev pub select_text_at : List ℕ
select_text_at = codes
    "SELECT body, s0 FROM streetmap_features WHERE rowid = ?3 AND collection = ?1 AND id = ?2"
