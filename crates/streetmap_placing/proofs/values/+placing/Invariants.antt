use Rattle.std.proofs.Common.{drop, map, Result}
use Rattle.json.specs.Value.{items_view as json_items, members_view as json_members}
use Rattle.serde_json.specs.Data.{Items, Members, no_members}
use Rattle.serde_json.specs.View.{view, members_view}
use Rattle.streetmap_placing.specs.Placed.{ItemsBecome, MembersBecome, items_count}
use Rattle.streetmap_placing.specs.declared.fault.PlacingFault.{PlacingFault}
use Rattle.streetmap_placing.proofs.Walk.{following}
use Rattle.streetmap_placing.proofs.values.+placing.Given as goal

-- what the other elements become, after those that are placed, is what all become
abbrev pub invariant-placed_items-loop-index : goal.invariant-placed_items-loop-index
invariant-placed_items-loop-index l =
    let n = l.numbers in
    let js = json_items l.item-items in
    (r : Result Items PlacingFault)
    → ItemsBecome n l.role (items_count js) l.index (json_items (drop l.index l.item-items)) r
    → ItemsBecome n l.role (items_count js) 0 js (following (map view l.placed.items) r)

-- what the other members become, put among those that are placed, is what all become
abbrev pub invariant-placed_members-loop-name : goal.invariant-placed_members-loop-name
invariant-placed_members-loop-name l =
    let n = l.numbers in
    (r : Result Members PlacingFault)
    → MembersBecome n l.role (json_members (drop l.name-index l.name-items))
    (members_view l.placed.entries) r
    → MembersBecome n l.role (json_members l.name-items) no_members r
