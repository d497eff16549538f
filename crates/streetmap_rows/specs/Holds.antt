-- A table described by what is found in it at each key.
use Rattle.std.specs.Prelude.{◌≡◌, ◌≢◌, Bool, ◌&&◌, List, find, drop, Option, option_map, IsTrue}
use Rattle.std.specs.List.{AllByRecursion}
use Rattle.std.specs.Ordering.{eq_by_cmp}
use Rattle.sqlite.specs.Order.{Row, column, bytes}
use Rattle.sqlite_trees.specs.Tree.{IsTable, IsAscending, rowid}
use Rattle.sqlite_trees.specs.View.{is_int}
use Rattle.streetmap_batch.specs.Text.{Text, text_cmp}

-- Each row has another key, and what follows the rowid of the row at a key is what this function
-- has there.
pub record HoldsByKey {K : Type 0} (key : Row → K) (is_at : K → Row → Bool) (cells : K
    → Option Row) (rows : List Row) : Type 0 where
  pub table : IsTable rows
  pub keyed : AllByRecursion (λ r. IsTrue (is_int (rowid r))) rows
  pub apart : IsAscending (λ a b. key a ≢ key b) rows
  pub found : (k : K) → option_map (drop 1) (find (is_at k) rows) ≡ cells k

-- two texts are equal
abbrev pub same_text : Text → Text → Bool
same_text = eq_by_cmp text_cmp

-- ---- a table whose key is its first column

abbrev pub first_key : Row → Text
first_key r = bytes (column r 1)

abbrev pub is_first : Text → Row → Bool
is_first name r = same_text name (first_key r)

-- ---- a table whose key is its first two columns

abbrev pub KeyPair : Type 0
KeyPair = Text × Text

abbrev pub pair_key : Row → KeyPair
pair_key r = (bytes (column r 1), bytes (column r 2))

abbrev pub has_pair : KeyPair → Row → Bool
has_pair p r = same_text p.0 (bytes (column r 1)) && same_text p.1 (bytes (column r 2))
