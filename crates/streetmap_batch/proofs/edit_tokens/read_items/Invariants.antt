use Rattle.std.proofs.Common.{◌≡◌, ℕ, ◌<◌, ◌≤◌, List, length}
use Rattle.json.specs.Json.{value, items, parse_map}
use Rattle.serde_json.specs.Data.{Data}
use Rattle.serde_json.specs.Read.{of_items, converted}
use Rattle.streetmap_json.specs.Values.{items_at}
use Rattle.streetmap_json.proofs.Fronts.{before}
use Rattle.streetmap_batch.specs.BatchFaults.{Gives}
use Rattle.streetmap_batch.specs.ParsedBatches.{most_edits}
use Rattle.streetmap_batch.specs.BatchTokens.{edits_view, few_edits}
use Rattle.streetmap_batch.proofs.edit_tokens.read_items.Given as goal

-- after the elements read, the rest is read as the rest of the array
abbrev pub invariant-items : goal.invariant-items
invariant-items l =
    (ds : List Data) × (n : ℕ) × (length l.reader ≤ n)
    × (items_at l.depth l.initial.reader ≡ parse_map (before ds) (converted of_items (items (value l.depth) n l.reader)))
    × (length l.reader ≤ length l.initial.reader)
    × (l.count < most_edits → l.count ≡ length ds)
    × (most_edits ≤ l.count → most_edits ≤ length ds)
    × (l.count ≤ most_edits)
    × Gives edits_view l.edits (few_edits ds)

abbrev pub decreases-items : goal.decreases-items
decreases-items l = length l.reader
