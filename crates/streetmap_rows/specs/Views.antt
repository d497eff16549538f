-- The rows that reads show.
use Rattle.std.specs.Prelude.{pos, List, [], ◌∷◌}
use Rattle.std.specs.Option.{option_map, option_to_list}
use Rattle.std.specs.FinMap.{get}
use Rattle.sqlite.specs.declared.types.Value.TheVariants.{Int, Text as Words}
use Rattle.sqlite.specs.Order.{Row}
use Rattle.sqlite.specs.Values.{or_null}
use Rattle.streetmap_batch.specs.Text.{Text}
use Rattle.streetmap_ledger.specs.State.{State, Collection, AcceptedBatch}

-- what is kept for a key
abbrev pub kept_view : AcceptedBatch → Row
kept_view k = Words k.text ∷ Int (pos k.counts.opened) ∷ Int (pos k.counts.inserted)
    ∷ Int (pos k.counts.replaced) ∷ Int (pos k.counts.deleted) ∷ Int (pos k.serial) ∷ []

-- what is kept for a key: one row, or none
abbrev pub kept_rows : Text → State → List Row
kept_rows key s = option_to_list (option_map kept_view (get s.keys key))

-- a collection, without its id
abbrev pub collection_view : Collection → Row
collection_view c = Words c.title ∷ or_null Words c.time ∷ []

-- the row of a collection: one row, or none
abbrev pub collection_rows : Text → State → List Row
collection_rows name s = option_to_list (option_map collection_view (get s.collections name))
