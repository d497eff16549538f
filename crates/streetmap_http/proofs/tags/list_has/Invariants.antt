use Rattle.std.proofs.Common.{◌≡◌, drop}
use Rattle.std.specs.Prelude.{option_map}
use Rattle.std.specs.List.{list_any}
use Rattle.streetmap_http.specs.Tags.{tags_from, tags_of, is_same_tag, strong_tag}
use Rattle.streetmap_http.specs.TagPlaces.{place_value, HasBegun}
use Rattle.streetmap_http.proofs.TagLists.{so}
use Rattle.streetmap_http.proofs.tags.list_has.Given as goal

abbrev pub invariant-loop-at : goal.invariant-loop-at
invariant-loop-at l = record {
  begun : HasBegun l.at l.place;
  so_far
      : option_map (so l.found l.weakly l.tag) (tags_from (place_value l.list l.at l.place) (drop l.at l.list))
      ≡ option_map (list_any (is_same_tag l.weakly (strong_tag l.tag))) (tags_of l.list);
}
