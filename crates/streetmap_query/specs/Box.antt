-- Boxes of the grid, and their texts.
use Rattle.std.specs.Prelude.{ℕ, ◌&&◌, ◌==◌, List, ◌∷◌, ◌++◌, length, Option, Some, None}
use Rattle.std.specs.Prelude.{if◌then◌else◌, int_le}
use Rattle.streetmap_grid.specs.Values.{BoxValue}
use Rattle.std.specs.Fmt.{signed_decimal}
use Rattle.streetmap_query.specs.Number.{◌>>=◌, bound_at, comma_at}

-- the box, whose bounds are in order, if nothing follows
abbrev pub in_order : BoxValue → List ℕ → Option BoxValue
in_order b rest = if (length rest == 0) && int_le b.x0 b.x1 && int_le b.y0 b.y1 then Some b
    else None

-- four numbers with commas between them, in order
unfoldable pub box_of : List ℕ → Option BoxValue
box_of text = do
  x0 ← bound_at text
  after_x0 ← comma_at x0.1
  y0 ← bound_at after_x0
  after_y0 ← comma_at y0.1
  x1 ← bound_at after_y0
  after_x1 ← comma_at x1.1
  y1 ← bound_at after_x1
  in_order (record { x0 = x0.0; y0 = y0.0; x1 = x1.0; y1 = y1.0 }) y1.1

-- the text that is written for a box
abbrev pub box_text : BoxValue → List ℕ
box_text b =
    signed_decimal b.x0 ++ 44 ∷ (signed_decimal b.y0 ++ 44
    ∷ (signed_decimal b.x1 ++ 44 ∷ signed_decimal b.y1))
