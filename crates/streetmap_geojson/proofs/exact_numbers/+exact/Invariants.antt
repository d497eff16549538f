use Rattle.std.proofs.Common.{◌≡◌, drop}
use Rattle.std.specs.List.Sorted.{IsStrictlySortedBy}
use Rattle.std.specs.Map.{keys_of}
use Rattle.serde_json.specs.View.{items_view, members_view}
use Rattle.serde_json.specs.Written.{items_have_float, members_have_float}
use Rattle.std.proofs.Common.{string_cmp}
use Rattle.streetmap_json.specs.ExactData.{are_exact, are_exact_members}
use Rattle.streetmap_geojson.proofs.exact_numbers.+exact.Given as goal

abbrev pub invariant-are_exact-loop-item : goal.invariant-are_exact-loop-item
invariant-are_exact-loop-item l = record {
  reported : are_exact (items_view (drop l.item-index l.item-items)) ≡ are_exact (items_view l.item-items);
  whole : items_have_float (items_view (drop l.item-index l.item-items)) ≡ items_have_float (items_view l.item-items);
}

abbrev pub invariant-are_exact_members-loop-name : goal.invariant-are_exact_members-loop-name
invariant-are_exact_members-loop-name l = record {
  sorted : IsStrictlySortedBy string_cmp (keys_of l._name-iterator);
  reported : are_exact_members (members_view l._name-iterator) ≡ are_exact_members (members_view l.members.entries);
  whole : members_have_float (members_view l._name-iterator) ≡ members_have_float (members_view l.members.entries);
}
