use Rattle.std.proofs.Common.{◌↔◌, ◌≤◌, drop}
use Rattle.serde_json.specs.Data.{items_depth, members_depth}
use Rattle.serde_json.specs.View.{items_view, members_view}
use Rattle.streetmap_geojson.proofs.levels.+levels.Given as goal

abbrev pub invariant-items_nest_within-loop-item : goal.invariant-items_nest_within-loop-item
invariant-items_nest_within-loop-item l =
    (items_depth (items_view (drop l.item-index l.item-items)) ≤ l.levels) ↔ (items_depth (items_view l.item-items) ≤ l.levels)

abbrev pub invariant-members_nest_within-loop-key : goal.invariant-members_nest_within-loop-key
invariant-members_nest_within-loop-key l =
    (members_depth (members_view l._key-iterator) ≤ l.levels) ↔ (members_depth (members_view l.members.entries) ≤ l.levels)
